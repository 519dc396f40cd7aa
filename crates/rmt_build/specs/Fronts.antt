-- What a program is to be before its nodes are placed.
use Rattle.std.specs.Prelude.{◌≡◌, None, Ok}
use Rattle.rmt_build.specs.Types.{Program}
use Rattle.rmt_config.specs.Agreement.{AgreesWith}
use Rattle.rmt_deps.specs.Edges.{dependencies_of}
use Rattle.rmt_phv.specs.Packing.{packing}
use Rattle.rmt_phv.specs.Places.{KeepsApart}
use Rattle.rmt_ptcam.specs.Clustering.{clustered}
use Rattle.rmt_ptcam.specs.Needs.{refusal}
use Rattle.rmt_build.specs.declared.front.Front.{Front}
use Rattle.rmt_vliw.specs.Folding.{AreFoldings}
use Rattle.rmt_build.specs.Folds.{first_deep}

-- Neither its parser nor its actions nor its fields are refused, and each is made by its rule.
pub record IsFront (p : Program) (front : Front) : Type 0 where
  pub fits : refusal p ≡ None
  pub shallow : first_deep 0 p.actions ≡ None
  pub packed : packing p ≡ Ok front.places
  pub folded : AreFoldings p front.folded
  pub apart : KeepsApart p front.places
  pub parser : front.parser ≡ clustered p front.places
  pub agrees : AgreesWith front.parser front.places p
  pub deps : front.deps ≡ dependencies_of p front.places
