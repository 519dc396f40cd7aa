use Rattle.std.proofs.Common.{◌≡◌, ◌∙◌, [], ap, sym}
use Rattle.rmt_lists.specs.KeyNumbers.{Queues, queued}
use Rattle.rmt_lists.proofs.MapLaws.{items_of, lent, none_taken, queue-at, take_number}
use Rattle.rmt_lists.proofs.key_numbers.pop_queued.Goals as goal

pub returns-in-Some : goal.returns-in-Some
returns-in-Some c =
    let m = c.args.queues.now in
    let w = c.pop_front.new.self in
    let n = c.get_mut.follows.lender w in
    take_number m n c.args.key.now w c.in-Some.queue.now.items (lent m n c.args.key.now c.in-Some.queue.now w c.in-Some.ensures.value (c.get_mut.follows.holds w))
    (queue-at m c.args.key.now ∙ ap items_of (sym c.in-Some.ensures.value)) c.pop_front.ensures.rest

pub returns-in_default : goal.returns-in_default
returns-in_default c q =
    let m = c.args.queues.now in
    let same = c.get_mut.follows.holds-at-none in
    let none : queued m c.args.key.now ≡ [] = queue-at m c.args.key.now ∙ ap items_of (sym c.in_default.ensures.value) in
    ap (λ (x : Queues). queued x q) same ∙ none_taken m c.args.key.now q none
