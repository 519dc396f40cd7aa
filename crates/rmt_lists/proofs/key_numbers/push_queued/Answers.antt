use Rattle.std.proofs.Common.{◌≡◌, ◌∙◌, ◌++◌, ◌∷◌, ℕ, List, [], ap, rules, sym}
use Rattle.std.specs.Prelude.{bytes_eq, if◌then◌else◌}
use Rattle.rmt_lists.specs.KeyNumbers.{Queues, queued}
use Rattle.rmt_lists.proofs.MapLaws.{items_of, lent, put_number, queue-at, same_numbers}
use Rattle.rmt_lists.proofs.key_numbers.push_queued.Goals as goal

pub returns-in_err-push_back-clause-kept : goal.returns-in_err-push_back-clause-kept
returns-in_err-push_back-clause-kept c =
    let m = c.args.queues.now in
    let w = c.push_back.new.self in
    let n = c.get_mut.follows.lender w in
    let kept = same_numbers m n c.args.key w c.in-Some.queue.now.items (lent m n c.args.key c.in-Some.queue.now w c.in-Some.ensures.value (c.get_mut.follows.holds w))
    (queue-at m c.args.key ∙ ap items_of (sym c.in-Some.ensures.value)) c.in_err-push_back.ensures.items in
    search rules

pub returns-in-Some-clause-pushed : goal.returns-in-Some-clause-pushed
returns-in-Some-clause-pushed c =
    let m = c.args.queues.now in
    let w = c.push_back.new.self in
    let n = c.get_mut.follows.lender w in
    put_number m n c.args.key w c.in-Some.queue.now.items c.args.number (lent m n c.args.key c.in-Some.queue.now w c.in-Some.ensures.value (c.get_mut.follows.holds w))
    (queue-at m c.args.key ∙ ap items_of (sym c.in-Some.ensures.value)) c.in_ok-push_back.ensures.items

pub returns-clause-pushed : goal.returns-clause-pushed
returns-clause-pushed c =
    let m = c.get_mut.follows.lender-at-none in
    let same = c.get_mut.follows.holds-at-none in
    let none : queued m c.args.key ≡ [] =
    ◌∙◌ {A = List ℕ} (ap (λ (x : Queues). queued x c.args.key) same) (queue-at c.args.queues.now c.args.key ∙ ap items_of (sym c.in_default.ensures.value)) in
    let put =
    put_number m c.insert.new.self c.args.key c.push_back-2.new.self [] c.args.number c.in_ok-insert.ensures.updates.0 none
    (◌∙◌ {A = List ℕ} c.in_ok-push_back-2.ensures.items (ap (λ (ns : List ℕ). ns ++ c.args.number ∷ []) c.new-queue.ensures.items)) in
    λ q. ◌∙◌ {A = List ℕ} (put q) (ap (λ (x : Queues). queued x q ++ (if bytes_eq c.args.key.items q.items then c.args.number ∷ [] else [])) same)
