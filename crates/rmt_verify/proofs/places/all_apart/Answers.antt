use Rattle.std.proofs.Common.{◌∙◌, ◌↔◌, IsTrue, List, subst}
use Rattle.std.specs.Prelude.{AllPairs}
use Rattle.rmt_bits.specs.declared.lane.Lane.{Lane}
use Rattle.rmt_phv.specs.Places.{AreApart}
use Rattle.rmt_verify.proofs.places.all_apart.Goals as goal

pub returns : goal.returns
returns c = subst (λ (lanes : List Lane). IsTrue c.every_two.result ↔ AllPairs AreApart lanes) (c.as_slice.ensures.value ∙ c.in_ok-lanes.ensures) c.every_two.ensures
