use Rattle.std.proofs.Common.{◌≡◌, ℕ, ◌<◌, ◌+◌, get_or, take, eqb}
use Rattle.std.specs.List.{count_by}
use Rattle.rmt_config.specs.TableForm.{node_of}
use Rattle.rmt_config.proofs.form.tables.count_units.Given as goal

abbrev pub invariant-loop-unit : goal.invariant-loop-unit
invariant-loop-unit l = (n : ℕ) → n < 256 → get_or l.left n 0 ≡ get_or l.fn.left n 0 + count_by (λ unit. eqb (node_of unit) n) (take l.unit-index l.units)
