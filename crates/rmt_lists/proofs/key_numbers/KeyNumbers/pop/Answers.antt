use Rattle.std.proofs.Common.{◌≡◌, ◌∙◌, ℕ, Option, Some, ap, sym, arith, length}
use Rattle.rmt_entries.specs.KeySets.{place_of}
use Rattle.rmt_lists.specs.KeyNumbers.{KeyNumbers, listed, numbers_at, pairs_of, placed}
use Rattle.rmt_lists.proofs.KeyNumberLaws.{pop_crowded_stands, pop_seen, without_first}
use Rattle.rmt_lists.proofs.key_numbers.KeyNumbers.pop.Goals as goal
use Rattle.rmt_lists.proofs.key_numbers.KeyNumbers.pop.Goals.{After-own_at}

-- the key's own number
own : (c : After-own_at) (o : Option ℕ) → c.own_at.result ≡ o → listed o ≡ placed c.self.inside.slots.items c.self.inside.firsts.items c.self.inside.keys.items c.args.key.now.items
own c o is =
    ap listed (sym is) ∙ c.own_at.ensures ∙ ap (λ (n : KeyNumbers). placed n.0 n.1.0 n.1.1.0 c.as_slice-2.result.now) (sym c.self.view_is)
    ∙ ap (placed c.self.inside.slots.items c.self.inside.firsts.items c.self.inside.keys.items) c.as_slice-2.ensures.value

pub invariant_of-self-in-None : goal.invariant_of-self-in-None
invariant_of-self-in-None c =
    pop_crowded_stands c.self.inside.slots.items c.self.inside.firsts.items c.self.inside.keys.items (pairs_of c.self.inside.crowded) c.self.invariant c.args.key.now.items (pairs_of c.pop_queued.new.queues)
    c.pop_queued.ensures

pub returns-in-Some : goal.returns-in-Some
returns-in-Some c q =
    let slots = c.self.inside.slots.items in
    let place : c.place_of-place.result ≡ place_of (length slots) c.args.key.now.items =
    c.place_of-place.ensures.place ∙ ap (λ n. place_of n c.as_slice.result.now) (c.len.ensures ∙ c.self.inside.slots.ok.0) ∙ ap (place_of (length slots)) c.as_slice.ensures.value in
    pop_seen slots c.self.inside.firsts.items c.self.inside.keys.items (pairs_of c.self.inside.crowded) c.self.invariant c.args.key.now.items c.in-Some.field-0 c.place_of-place.result
    (own (goal.at.returns-in-Some c).After-own_at (Some c.in-Some.field-0) c.in-Some.is) place (omega (arith, c.place_of-place.ensures.within, c.len.ensures, c.self.inside.slots.ok.0)) q
    ∙ ap (λ (n : KeyNumbers). without_first c.args.key.now.items q.items (numbers_at n q)) c.self.view_is
