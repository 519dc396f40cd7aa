use Rattle.std.proofs.Common.{ℕ, ◌+◌, ap, ◌∙◌, zero-add, arith}
use Rattle.std.specs.List.{count_by}
use Rattle.std.proofs.lemmas.List.{get_or-replicate}
use Rattle.rmt_config.specs.TableForm.{has_node, placed_from}
use Rattle.rmt_config.proofs.form.tables.units_by_node.Goals as goal

pub loop-stage-init : goal.loop-stage-init
loop-stage-init c =
    record {
      counted = λ n lt. ap (λ (m : ℕ). m + count_by (has_node n) (placed_from 0 c.args.stages.now)) (get_or-replicate {A = ℕ} 256 n 0 0 lt) ∙ zero-add (count_by (has_node n) (placed_from 0 c.args.stages.now));
      small = λ n lt. omega (arith, get_or-replicate {A = ℕ} 256 n 0 0 lt);
    }
