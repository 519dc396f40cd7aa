use Rattle.std.proofs.Common.{◌≡◌, ℕ, ◌<◌, ◌≤◌, ◌+◌, ◌*◌, get_or, drop}
use Rattle.std.specs.List.{count_by}
use Rattle.rmt_config.specs.TableForm.{has_node, placed_from}
use Rattle.rmt_config.proofs.form.tables.units_by_node.Given as goal

abbrev pub invariant-loop-stage : goal.invariant-loop-stage
invariant-loop-stage l = record {
  counted : (n : ℕ) → n < 256 → get_or l.left n 0 + count_by (has_node n) (placed_from l.stage-index (drop l.stage-index l.stages)) ≡ count_by (has_node n) (placed_from 0 l.stages);
  small : (n : ℕ) → n < 256 → get_or l.left n 0 ≤ 18446744073709551615 * l.stage-index;
}
