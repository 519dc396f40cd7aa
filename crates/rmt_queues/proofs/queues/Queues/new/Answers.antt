use Rattle.std.proofs.Common.{◌≡◌, ◌≤◌, ◌*◌, ℕ, vec_capacity, refl, ap, ◌∙◌, subst}
use Rattle.std.specs.List.{range_with_len}
use Rattle.std.specs.Prelude.{replicate}
use Rattle.rmt_queues.specs.Stored.{no_item}
use Rattle.rmt_queues.proofs.EmptyLaws.{none_stand}
use Rattle.rmt_queues.proofs.queues.Queues.new.Goals as goal

pub returns-clause-empty : goal.returns-clause-empty
returns-clause-empty c =
    let count : c.from.result * c.from-2.result ≡ c.args.ports * c.args.depth = ap (λ (n : ℕ). n * c.from-2.result) c.from.ensures ∙ ap (λ (n : ℕ). c.args.ports * n) c.from-2.ensures in
    none_stand c.args.ports c.args.depth _ c.requires.few_ports c.requires.small_depth refl c.in_ok-cells.ensures.free
    (c.in_ok-spare.ensures.numbers ∙ ap (range_with_len 0) count)
    (subst (λ (n : ℕ). n ≤ vec_capacity c.in_ok-spare.spare) count c.in_ok-spare.ensures.room)
    (c.in_ok-stored.ensures ∙ ap (λ (n : ℕ). replicate n no_item) count)
    c.in_ok-rings.ensures.many c.in_ok-rings.ensures.empty c.in_ok-rings.ensures.roomy
