use Rattle.std.proofs.Common.{◌≡◌, drop, max}
use Rattle.std.specs.List.{fold}
use Rattle.rmt_config.specs.Resources.{greatest_by}
use Rattle.rmt_pack.specs.Starts.{stages_of}
use Rattle.rmt_filling.proofs.last_part.last_stage.Given as goal

-- the parts that are left reach as far as all
abbrev pub invariant-loop-part : goal.invariant-loop-part
invariant-loop-part l = fold (λ most k. max most k) l.last (stages_of (drop l.part-index l.parts) l.node) ≡ greatest_by (λ k. k) (stages_of l.parts l.node)
