-- The clustered parser of a program that isn't refused: few states, lookups, bytes and extracts.
use Rattle.std.proofs.Common.{◌≡◌, ℕ, ◌+◌, ◌<◌, ◌≤◌, Bool, true, false, cond, List, [], ◌∷◌, None, get_or, length, map, sym, subst, arith}
use Rattle.std.specs.Prelude.{All}
use Rattle.std.specs.List.{filter}
use Rattle.std.proofs.lemmas.List.{length-append, length-map, length-set}
use Rattle.std.proofs.lemmas.List.Elements.{All-cons, All-filter, All-head, All-map, All-nil, All-set, All-tail}
use Rattle.rmt_bits.specs.declared.lane.Lane.{Lane}
use Rattle.rmt_build.specs.Types.{Program, ParserConfig, ParserState, ParserEntry}
use Rattle.rmt_ast.specs.WellFormed.{IsProgram}
use Rattle.rmt_phv.specs.Places.{KeepsApart}
use Rattle.rmt_bits.proofs.AllLaws.{All-unmap}
use Rattle.rmt_config.specs.Parser.{tail_of}
use Rattle.rmt_ptcam.specs.Clustering.{all_joined, clustered, compact, is_met, renamed, states_kept}
use Rattle.rmt_ptcam.specs.Joining.{KeepsForm, joined_row, lookups_at, moved, rows_from, rows_in, rows_of, together}
use Rattle.rmt_ptcam.specs.Needs.{refusal}
use Rattle.rmt_ptcam.specs.Plain.{plain, state_of}
use Rattle.rmt_ptcam.proofs.CompactLaws.{compact_keeps, first_met, length_kept, number_less, number_small}
use Rattle.rmt_ptcam.proofs.FewerLaws.{clustered_few}
use Rattle.rmt_ptcam.proofs.JoinFacts.{MayJoin, may_join, rows_in_entries}
use Rattle.rmt_ptcam.proofs.JoinedKeeps.{joined_keeps}
use Rattle.rmt_ptcam.proofs.JoinsHold.{StaysUnderJoins, joins_hold, rows_hold, rows_joined}
use Rattle.rmt_ptcam.proofs.PlainForm.{plain_keeps}
use Rattle.rmt_build.proofs.FormLimits.{FewParts}
use Rattle.rmt_build.proofs.FormParser.{IsSmall, few_parts}

-- ---- small

-- a parser that keeps the rules of form, of few states, lookups, bytes and extracts
record IsSmallParser (parser : ParserConfig) : Type 0 where
  keeps : KeepsForm parser
  some : 0 < length parser.states
  states : length parser.states ≤ 256
  lookups : All (λ (s : ParserState). length s.lookups ≤ 4) parser.states
  entries : All IsSmall parser.entries

-- a row of a parser, which rmt_ptcam keeps the name of to itself
abbrev item_of : {X : Type 0} → List X → Type 0
item_of {X} xs = X

abbrev Row : Type 0
Row = item_of (rows_in 0 [])

abbrev IsSmallRow : Row → Type 0
IsSmallRow x = IsSmall x.entry

rows_small : (parser : ParserConfig) (n : ℕ) (es : List ParserEntry) → All IsSmall es → All IsSmallRow (rows_from parser n es)
rows_small parser n [] all = All-nil IsSmallRow
rows_small parser n (e ∷ es) all =
    All-cons IsSmallRow (record { entry = e; tail = tail_of parser n }) (rows_from parser (n + 1) es) (All-head IsSmall e es all) (rows_small parser (n + 1) es (All-tail IsSmall e es all))

joined_small : (parser : ParserConfig) (at : ℕ) (e : ParserEntry) (m : ℕ) → MayJoin parser at e m → (here there : List ℕ) → All IsSmallRow (map (joined_row here there e) (rows_in m (rows_of parser)))
joined_small parser at e m may here there =
    let Light : ParserEntry → Type 0 = λ f. (e.need + f.need ≤ 128) × (length e.extracts + length f.extracts ≤ 64) in
    let light : All (λ (x : Row). Light x.entry) (rows_in m (rows_of parser)) =
    All-unmap Light (λ (x : Row). x.entry) (rows_in m (rows_of parser)) (subst (All Light) (sym (rows_in_entries parser m 0 parser.entries)) may.light) in
    All-map IsSmallRow (joined_row here there e) (rows_in m (rows_of parser)) (λ k d lt.
    (let f : ParserEntry = (get_or (rows_in m (rows_of parser)) k d).entry in
    let own = light k d lt in
    let same = length-map f.extracts (moved e.advance) in
    (own.0, omega (arith, own.1, length-append e.extracts (map (moved e.advance) f.extracts), same))))

join_small : StaysUnderJoins IsSmallParser
join_small parser at e m there on can is =
    let may = may_join parser at e m can in
    let here = lookups_at parser.states e.state in
    let behind = lookups_at parser.states m in
    let new : ParserState = record { lookups = together here e.advance behind } in
    let many = length-set parser.states e.state new in
    record {
      keeps = joined_keeps parser is.keeps at e m there on may;
      some = let some = is.some in omega (arith, many, some);
      states = let few = is.states in omega (arith, many, few);
      lookups = All-set (λ (s : ParserState). length s.lookups ≤ 4) parser.states e.state new may.few is.lookups;
      entries = All-map IsSmall (λ (x : Row). x.entry) (rows_joined parser at e m)
          (rows_hold IsSmallRow (λ from to x small. small) parser at e m (rows_small parser 0 parser.entries is.entries) (joined_small parser at e m may here behind));
    }

kept_hold : (P : ParserState → Type 0) (met : ℕ → Bool) (n : ℕ) (ss : List ParserState) → All P ss → All P (states_kept met n ss)
kept_hold P met n [] all = All-nil P
kept_hold P met n (s ∷ ss) all = by (met n) (kept_hold P met (n + 1) ss (All-tail P s ss all))
  where
    by : (b : Bool) → All P (states_kept met (n + 1) ss) → All P (cond b (s ∷ states_kept met (n + 1) ss) (states_kept met (n + 1) ss))
    by true rest = All-cons P s (states_kept met (n + 1) ss) (All-head P s ss all) rest
    by false rest = rest

compact_small : (parser : ParserConfig) → IsSmallParser parser → IsSmallParser (compact parser)
compact_small parser is =
    let met = is_met parser in
    let kept : Row → Bool = λ x. met x.entry.state in
    let own = filter kept (rows_of parser) in
    let many = length_kept met parser.states in
    record {
      keeps = compact_keeps parser is.keeps;
      some = let first = number_less met 0 (length parser.states) (first_met parser is.keeps) is.some in omega (arith, many, first);
      states = let few = number_small met (length parser.states) in let all = is.states in omega (arith, many, few, all);
      lookups = kept_hold (λ (s : ParserState). length s.lookups ≤ 4) met 0 parser.states is.lookups;
      entries = All-map IsSmall (λ (x : Row). x.entry) (map (renamed met) own)
          (All-map IsSmallRow (renamed met) own (All-filter kept IsSmallRow (rows_of parser) (rows_small parser 0 parser.entries is.entries)));
    }

-- ---- the clustered parser

module _ (p : Program) (places : List (List Lane)) (program : IsProgram p) (apart : KeepsApart p places) (fits : refusal p ≡ None) where
  plain_parts : FewParts (plain p places)
  plain_parts = few_parts p places apart program fits

  keeps_form : KeepsForm (plain p places)
  keeps_form = plain_keeps p places program apart fits

  plain_small : IsSmallParser (plain p places)
  plain_small = record {
    keeps = keeps_form;
    some = let many = length-map p.headers (state_of p) in let some = program.counts.a_header in omega (arith, many, some);
    states = plain_parts.states;
    lookups = plain_parts.lookups;
    entries = λ k d lt. (plain_parts.need k d lt, plain_parts.extracts k d lt);
  }

  small : IsSmallParser (clustered p places)
  small = compact_small (all_joined p (plain p places)) (joins_hold IsSmallParser join_small p (plain p places) plain_small)

  -- it is within the limits of the parser
  pub clustered_parts : FewParts (clustered p places)
  clustered_parts = record {
    entries = let few = clustered_few p places keeps_form in let all = plain_parts.entries in omega (arith, few, all);
    states = small.states;
    lookups = small.lookups;
    need = λ k d lt. (small.entries k d lt).0;
    extracts = λ k d lt. (small.entries k d lt).1;
  }
