-- Whatever joins are made on the plain parser: what they give agrees with the walk of the parse graph, and keeps the rules of form.
use Rattle.std.proofs.Common.{◌≡◌, nat_lt, true, List, [], ◌∷◌, length, Option, Some, None, sym, subst, arith}
use Rattle.std.specs.Prelude.{IfSome, option_map}
use Rattle.std.specs.Option.{option_and_then}
use Rattle.std.specs.List.{list_all}
use Rattle.rmt_bits.specs.declared.lane.Lane.{Lane}
use Rattle.rmt_ast.specs.Walk.{walk}
use Rattle.rmt_ast.specs.WellFormed.{IsProgram}
use Rattle.rmt_phv.specs.Places.{KeepsApart}
use Rattle.rmt_config.specs.Agreement.{AgreesWith, EndsAs}
use Rattle.rmt_config.specs.Parser.{Parse}
use Rattle.rmt_config.specs.ParserForm.{parser_is_formed}
use Rattle.rmt_ptcam.specs.Types.{Program, ParserConfig, TailOf}
use Rattle.rmt_ptcam.specs.declared.joins.Join.{Join}
use Rattle.rmt_ptcam.specs.Clustering.{compact}
use Rattle.rmt_ptcam.specs.Joining.{IsGood, join_named}
use Rattle.rmt_ptcam.specs.Joins.{behind_joins, replayed}
use Rattle.rmt_ptcam.specs.Needs.{refusal}
use Rattle.rmt_ptcam.specs.Plain.{plain}
use Rattle.rmt_ptcam.proofs.AgreementLaws.{plain_agrees}
use Rattle.rmt_ptcam.proofs.ClusteringLaws.{good_on, good_same}
use Rattle.rmt_ptcam.proofs.CompactLaws.{compact_good}
use Rattle.rmt_ptcam.proofs.FormedParsers.{AreLow, compact_low, join_low, keeps_formed, low_all, plain_low}
use Rattle.rmt_ptcam.proofs.JoinFacts.{may_join}
use Rattle.rmt_ptcam.proofs.JoinedKeeps.{joined_keeps}
use Rattle.rmt_ptcam.proofs.JoinedParse.{joined_alike}
use Rattle.rmt_ptcam.proofs.JoinsHold.{StaysUnderJoins, named_holds}
use Rattle.rmt_ptcam.proofs.PlainForm.{plain_keeps}

-- ---- what each join keeps, a list of joins keeps

module _ (P : ParserConfig → Type 0) (stays : StaysUnderJoins P) where
  pub list_holds : (parser : ParserConfig) (js : List Join) → P parser → IfSome (behind_joins parser js) P
  list_holds parser [] here = here
  list_holds parser (j ∷ js) here = by (join_named parser j) (named_holds P stays parser j here) (λ (q : ParserConfig) behind. list_holds q js behind)
    where
      by : (o : Option ParserConfig) → IfSome o P → ((q : ParserConfig) → P q → IfSome (behind_joins q js) P) → IfSome (option_and_then (λ (q : ParserConfig). behind_joins q js) o) P
      by None is rest = tt
      by (Some q) is rest = rest q is

  pub replay_holds : ((parser : ParserConfig) → P parser → P (compact parser)) → (parser : ParserConfig) (js : List Join) → P parser → IfSome (replayed parser js) P
  replay_holds compacts parser js here = by (behind_joins parser js) (list_holds parser js here)
    where
      by : (o : Option ParserConfig) → IfSome o P → IfSome (option_map compact o) P
      by None is = tt
      by (Some q) is = compacts q is

-- a parser that ends as another one, and keeps the rules of form, does so behind a join
pub join_stays : (one : ParserConfig) → StaysUnderJoins (IsGood one)
join_stays one parser at e m there on can good =
    let may = may_join parser at e m can in
    good_on one parser _ good (record { alike = joined_alike parser good.keeps at e m there on may; keeps = joined_keeps parser good.keeps at e m there on may })

compact_stays : (one parser : ParserConfig) → IsGood one parser → IsGood one (compact parser)
compact_stays one parser good = good_on one parser (compact parser) good (compact_good parser good.keeps good.keeps.some)

-- ---- joins on the plain parser

module _ (p : Program) (places : List (List Lane)) (program : IsProgram p) (apart : KeepsApart p places) (fits : refusal p ≡ None) (js : List Join) (q : ParserConfig) (is : replayed (plain p places) js ≡ Some q) where
  replayed_good : IsGood (plain p places) q
  replayed_good =
      subst (λ (o : Option ParserConfig). IfSome o (IsGood (plain p places))) is
      (replay_holds (IsGood (plain p places)) (join_stays (plain p places)) (compact_stays (plain p places)) (plain p places) js (good_same (plain p places) (plain_keeps p places program apart fits)))

  pub replayed_agrees : AgreesWith q places p
  replayed_agrees port frame small = subst (λ (x : Parse). EndsAs places frame x (walk p port frame)) (sym (replayed_good.alike frame small)) (plain_agrees p places program apart fits port frame small)

  pub replayed_formed : parser_is_formed q ≡ true
  replayed_formed = keeps_formed q replayed_good.keeps

  pub replayed_headers : list_all (λ (t : TailOf). nat_lt t.header (length p.headers)) q.tails ≡ true
  replayed_headers =
      let count = length p.headers in
      low_all count q.tails
      (subst (λ (o : Option ParserConfig). IfSome o (AreLow count)) is (replay_holds (AreLow count) (join_low count) (compact_low count) (plain p places) js (plain_low count p 0 0 p.headers (omega arith))))
