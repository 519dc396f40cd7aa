use Rattle.std.proofs.Common.{List, IsTrue, ◌↔◌, subst}
use Rattle.std.specs.Prelude.{map}
use Rattle.rmt_ast.specs.WellFormed.{AreDistinct}
use Rattle.rmt_bits.specs.declared.lane.Lane.{Lane}
use Rattle.rmt_verify.proofs.PairLaws.{pairs_mapped}
use Rattle.rmt_verify.proofs.places.lanes.InDifferentTest.passes.Goals as goal

pub returns : goal.returns
returns c =
    subst (λ (ls : List Lane). IsTrue c.every_two.result ↔ AreDistinct (map (λ (l : Lane). l.word) ls)) c.as_slice.ensures
    (λ yes. (pairs_mapped (λ (l : Lane). l.word) c.as_slice.result.now).0 (c.every_two.ensures.0 yes), λ all. c.every_two.ensures.1 ((pairs_mapped (λ (l : Lane). l.word) c.as_slice.result.now).1 all))
