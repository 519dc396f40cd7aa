use Rattle.std.proofs.Common.{ℕ, List, Bool, drop}
use Rattle.std.specs.Prelude.{sum}
use Rattle.rmt_config.specs.BlockCounts.{divided_up}
use Rattle.rmt_config.specs.KeyPrints.{PartKeys}
use Rattle.rmt_config.specs.PartsTold.{parts_at}
use Rattle.rmt_config.proofs.form.names.exact.parts_keys.Given as goal

abbrev pub invariant-loop-part : goal.invariant-loop-part
invariant-loop-part l =
    let size = divided_up (sum l.of.table.now.keys) 8 in
    (new : List ℕ) (stand : Bool) → PartKeys l.whole l.of.config.now size (parts_at (drop l.part-index l.of.parts.now)) l.into.items new stand
    → PartKeys l.whole l.of.config.now size (parts_at l.of.parts.now) l.fn.into.items new stand
