use Rattle.std.proofs.Common.{◌≡◌, ◌∷◌, ◌-◌, map, take, get_or}
use Rattle.std.proofs.Common.{vec_len}
use Rattle.rmt_cuckoo.specs.declared.search.Step.{Step}
use Rattle.rmt_cuckoo.proofs.overfull.members.Given as goal

-- the key that needs a cell, and the keys in the cells of the steps so far
abbrev pub invariant-loop-step : goal.invariant-loop-step
invariant-loop-step l =
    l.keys.items ≡ vec_len l.loading.cells ∷ map (λ (s : Step). get_or l.loading.holders.items s.cell 0 - 1) (take l.step-index l.steps)
