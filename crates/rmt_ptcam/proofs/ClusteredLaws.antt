-- What the clustered parser promises, in one.
use Rattle.std.proofs.Common.{◌≡◌, ◌≤◌, List, nat_lt, true, None, Some, length, sym, subst}
use Rattle.std.specs.List.{list_all}
use Rattle.rmt_ast.specs.WellFormed.{IsProgram}
use Rattle.rmt_bits.specs.declared.lane.Lane.{Lane}
use Rattle.rmt_config.specs.Agreement.{AgreesWith}
use Rattle.rmt_config.specs.ParserForm.{parser_is_formed}
use Rattle.rmt_phv.specs.Places.{KeepsApart}
use Rattle.rmt_ptcam.specs.Types.{Program, ParserConfig, TailOf}
use Rattle.rmt_ptcam.specs.Clustering.{clustered}
use Rattle.rmt_ptcam.specs.Fitting.{IsParser}
use Rattle.rmt_ptcam.specs.Joins.{joins as joins_told, replayed}
use Rattle.rmt_ptcam.specs.Needs.{refusal}
use Rattle.rmt_ptcam.specs.Plain.{plain}
use Rattle.rmt_ptcam.specs.Steps.{MeetsNoMore}
use Rattle.rmt_ptcam.proofs.FewerLaws.{clustered_few}
use Rattle.rmt_ptcam.proofs.FormedParsers.{clustered_headers, clustered_keeps, keeps_formed}
use Rattle.rmt_ptcam.proofs.JoinsLaws.{joins_give}
use Rattle.rmt_ptcam.proofs.PlainForm.{plain_keeps}
use Rattle.rmt_ptcam.proofs.ReplayLaws.{replayed_agrees}
use Rattle.rmt_ptcam.proofs.StepsLaws.{clustered_pace}

pub record IsDone (p : Program) (places : List (List Lane)) (q : ParserConfig) : Type 0 where
  pub runs : IsParser q
  pub joins : replayed (plain p places) (joins_told p places) ≡ Some q
  pub formed : parser_is_formed q ≡ true
  pub headers : list_all (λ (t : TailOf). nat_lt t.header (length p.headers)) q.tails ≡ true
  pub agrees : AgreesWith q places p
  pub pace : MeetsNoMore q p
  pub few : length q.entries ≤ length (plain p places).entries

pub clustered_done : (p : Program) (places : List (List Lane)) → IsProgram p → KeepsApart p places → refusal p ≡ None → (q : ParserConfig) → q ≡ clustered p places → IsDone p places q
clustered_done p places program apart fits q is =
    let keeps = plain_keeps p places program apart fits in
    let own = clustered_keeps p places program apart fits in
    subst (IsDone p places) (sym is) (record {
      runs = own.fits;
      joins = joins_give p places;
      formed = keeps_formed (clustered p places) own;
      headers = clustered_headers p places program apart fits;
      agrees = replayed_agrees p places program apart fits (joins_told p places) (clustered p places) (joins_give p places);
      pace = clustered_pace p places program apart fits keeps;
      few = clustered_few p places keeps;
    })
