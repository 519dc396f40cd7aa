use Rattle.std.proofs.Common.{◌≡◌, ◌≢◌, ◌<◌, ◌≤◌, ◌∙◌, ◌∷◌, ◌++◌, ℕ, true, List, [], None, length, ap, arith}
use Rattle.std.proofs.lemmas.Result.{on_err_weaker}
use Rattle.rmt_entries.specs.KeySets.{is_at}
use Rattle.rmt_lists.specs.KeyNumbers.{KeyNumbers, all_at, numbers_at, pairs_of, queued, slot_of}
use Rattle.rmt_lists.proofs.KeyNumberLaws.{Looked, crowd_stands, first_seen, kept_all, looked, put_seen, put_stands_seen, refill_seen, same_all, same_stands, there_seen, with_number}
use Rattle.rmt_lists.proofs.ResultLaws.{either_way, on_err}
use Rattle.rmt_lists.proofs.key_numbers.KeyNumbers.push.Goals as goal
use Rattle.rmt_lists.proofs.key_numbers.KeyNumbers.push.Goals.{After-index-slot, In_ok-put_list}

-- the key's place
look : (c : After-index-slot) → Looked c.self.inside.slots.items c.args.key.items c.place_of-place.result c.index-slot.result.now
look c =
    looked c.self.inside.slots.items c.args.key.items c.as_slice.result.now c.len.result c.place_of-place.result c.index-slot.result.now (c.len.ensures ∙ c.self.inside.slots.ok.0) c.as_slice.ensures.value c.place_of-place.ensures.place c.place_of-place.ensures.within
    c.index-slot.ensures

pub invariant_of-self-then-slot-gt0 : goal.invariant_of-self-then-slot-gt0
invariant_of-self-then-slot-gt0 c =
    let slots = c.self.inside.slots.items in
    let key = c.args.key.items in
    let found = (look (goal.at.invariant_of-self-then-slot-gt0 c).After-index-slot).slot_is in
    let crowded = pairs_of c.self.inside.crowded in
    let next = pairs_of c.push_queued.new.queues in
    let some : slot_of slots key ≢ 0 = λ none. omega (arith, c.if-slot-gt0.true, found, none) in
    either_way c.push_queued.result _ _ _ c.push_queued.ensures.pushed c.push_queued.ensures.kept
    (λ put. crowd_stands slots c.self.inside.firsts.items c.self.inside.keys.items crowded c.self.invariant key c.args.number next put some)
    (λ same. same_stands slots c.self.inside.firsts.items c.self.inside.keys.items crowded c.self.invariant next same)

pub returns-then-slot-gt0-clause-kept : goal.returns-then-slot-gt0-clause-kept
returns-then-slot-gt0-clause-kept c =
    on_err_weaker c.push_queued.result
    (λ same q.
    same_all c.self.inside.slots.items c.self.inside.firsts.items c.self.inside.keys.items (pairs_of c.self.inside.crowded) c.self.invariant (pairs_of c.push_queued.new.queues) same q
    ∙ ap (λ (n : KeyNumbers). numbers_at n q) c.self.view_is) c.push_queued.ensures.kept

pub returns-then-is_emptied-clause-pushed : goal.returns-then-is_emptied-clause-pushed
returns-then-is_emptied-clause-pushed c q =
    let slots = c.self.inside.slots.items in
    let firsts = c.self.inside.firsts.items in
    let keys = c.self.inside.keys.items in
    let key = c.args.key.items in
    let ks = c.as_slice-then-slot-gt0.result.now in
    let h = look (goal.at.returns-then-is_emptied-clause-pushed c).After-index-slot in
    let numbered : c.place_of-place.result < length firsts = omega (arith, h.within, c.self.invariant.count) in
    let found : (is_at ks c.index-slot.result.now key ≡ true) × ((c.index-first.result.now ≡ None) × (queued c.self.inside.crowded c.args.key ≡ [])) = c.is_emptied.ensures c.if-is_emptied.true in
    let there = there_seen slots keys key ks c.index-slot.result.now c.as_slice-then-slot-gt0.ensures.value h.slot_is found.0 in
    let empty = first_seen firsts c.place_of-place.result c.index-first.result.now c.index-first.ensures numbered in
    refill_seen slots firsts keys (pairs_of c.self.inside.crowded) c.self.invariant key c.args.number c.place_of-place.result there (empty ∙ found.1.0) found.1.1 h.place_is h.within q
    ∙ ap (λ (n : KeyNumbers). numbers_at n q ++ with_number key c.args.number q.items) c.self.view_is

pub returns-in_err-put_list-clause-kept : goal.returns-in_err-put_list-clause-kept
returns-in_err-put_list-clause-kept c =
    let slots = c.self.inside.slots.items in
    let firsts = c.self.inside.firsts.items in
    let crowded = pairs_of c.self.inside.crowded in
    let kept = c.in_err-put_list.ensures.kept in
    on_err c.from_residual.result _ (λ q.
    ap (λ (ks : List ℕ). all_at slots firsts ks crowded q.items) kept.1 ∙ kept_all slots firsts c.self.inside.keys.items crowded c.self.invariant kept.0 q.items
    ∙ ap (λ (n : KeyNumbers). numbers_at n q) c.self.view_is)

-- the key is put, where its place has none
free : (slots key : List ℕ) (place slot : ℕ) → Looked slots key place slot → slot ≤ 0 → slot_of slots key ≡ 0
free slots key place slot h none = omega (arith, h.slot_is, none)

behind : (c : In_ok-put_list) → c.put_list.new.held.items ≡ c.self.inside.keys.items ++ length c.args.key.items ∷ c.args.key.items
behind c = c.in_ok-put_list.ensures.put ∙ ap (λ (ks : List ℕ). c.self.inside.keys.items ++ length ks ∷ ks) c.as_slice-2.ensures.value

pub invariant_of-self-2 : goal.invariant_of-self-2
invariant_of-self-2 c =
    let at = goal.at.invariant_of-self-2 c in
    let h = look at.After-index-slot in
    put_stands_seen c.self.inside.slots.items c.self.inside.firsts.items c.self.inside.keys.items (pairs_of c.self.inside.crowded) c.self.invariant c.args.key.items c.args.number c.place_of-place.result c.len-begin.result c.put_list.new.held.items
    (free _ _ _ _ h c.if-slot-gt0.false) h.place_is h.within (c.len-begin.ensures ∙ c.self.inside.keys.ok.0) (behind at.In_ok-put_list)

pub returns-clause-pushed : goal.returns-clause-pushed
returns-clause-pushed c q =
    let at = goal.at.returns-clause-pushed c in
    let h = look at.After-index-slot in
    put_seen c.self.inside.slots.items c.self.inside.firsts.items c.self.inside.keys.items (pairs_of c.self.inside.crowded) c.self.invariant c.args.key.items c.args.number c.place_of-place.result c.len-begin.result c.put_list.new.held.items
    (free _ _ _ _ h c.if-slot-gt0.false) h.place_is h.within (c.len-begin.ensures ∙ c.self.inside.keys.ok.0) (behind at.In_ok-put_list) q
    ∙ ap (λ (n : KeyNumbers). numbers_at n q ++ with_number c.args.key.items c.args.number q.items) c.self.view_is

pub index-slot-requires : goal.index-slot-requires
index-slot-requires c = omega (arith, c.place_of-place.ensures.within, c.len.ensures)

pub index-first-requires : goal.index-first-requires
index-first-requires c = omega (arith, c.place_of-place.ensures.within, c.len.ensures, c.self.invariant.count, c.self.inside.slots.ok.0, c.self.inside.firsts.ok.0)

pub index_mut-requires : goal.index_mut-requires
index_mut-requires c = omega (arith, c.place_of-place.ensures.within, c.len.ensures, c.self.invariant.count, c.self.inside.slots.ok.0, c.self.inside.firsts.ok.0)

pub index_mut-requires-2 : goal.index_mut-requires-2
index_mut-requires-2 c = omega (arith, c.place_of-place.ensures.within, c.len.ensures, c.self.invariant.count, c.self.inside.slots.ok.0, c.self.inside.firsts.ok.0)
