use Rattle.std.proofs.Common.{◌≡◌, ◌-◌, ◌<◌, ℕ, List, [], ◌∷◌, length, ap, subst, subst₂, sym, ◌∙◌, arith}
use Rattle.std.proofs.lemmas.List.{get_or-set_same, get_or_read}
use Rattle.rmt_bits.specs.declared.answer.Count.{Count}
use Rattle.rmt_bits.specs.Counts.{Counters, Hit, counts}
use Rattle.rmt_bits.specs.Counting.{with_count, AreRising, hits_among, sizes_of, HaveRoom}
use Rattle.rmt_bits.proofs.OrderLaws.{counts-with_count}
use Rattle.rmt_bits.proofs.RunLaws.{Added, added, belongs, room_cut, room_grown, run-small, sizes_around}
use Rattle.rmt_bits.proofs.counts.Counts.add.Goals as goal
use Rattle.rmt_bits.proofs.counts.Counts.add.Goals.{After-len-size}

-- what the addition leaves in the run that was looked up
leaves : (c : After-len-size) → Added c.self.inside.runs.items c.run_for-at.result c.args.number c.len-before.result c.len-size.result c.add.new.self
leaves c =
    added c.self.inside.runs.items c.run_for-at.result c.args.number c.len-before.result c.len-size.result c.index_mut-run.result.now c.add.new.self
    (belongs c.deref.result.now c.self.inside.runs.items c.run_for-at.result c.args.number c.deref.ensures.value c.self.invariant.rising
    c.run_for-at.ensures.inside c.run_for-at.ensures.below c.run_for-at.ensures.above)
    c.index_mut-run.ensures.value c.len-before.ensures c.add.ensures c.len-size.ensures

-- counters with one more number are those of the numbers with it
stands_with : (numbers : List ℕ) (hits : List Hit) (n : ℕ) {old new : List Count} → new ≡ with_count n old → old ≡ counts numbers hits → new ≡ counts (n ∷ numbers) (hits_among numbers hits)
stands_with numbers hits n more were = more ∙ ap (with_count n) were ∙ counts-with_count numbers hits n

pub add-requires : goal.add-requires
add-requires c =
    let runs = c.self.inside.runs.items in
    let at = c.run_for-at.result in
    let inside = subst (λ (xs : List (List Count)). at < length xs) c.deref.ensures.value c.run_for-at.ensures.inside in
    let is = get_or_read runs at c.index_mut-run.result.now inside c.index_mut-run.ensures.value [] in
    subst (λ (cs : List Count). length cs < 256) (sym is) (run-small runs at inside c.self.invariant.runs_have_room.small)

pub overflow_sub-more : goal.overflow_sub-more
overflow_sub-more c = (leaves (goal.at.overflow_sub-more c).After-len-size).lower

pub overflow_add-self : goal.overflow_add-self
overflow_add-self c =
    let a = leaves (goal.at.overflow_add-self c).After-len-size in
    omega (arith, c.self.invariant.few)

pub overflow_sub-self : goal.overflow_sub-self
overflow_sub-self c =
    let a = leaves (goal.at.overflow_sub-self c).After-len-size in
    omega (arith, ap (λ (s : Counters). s.room) c.self.view_is, c.requires)

pub split-requires : goal.split-requires
split-requires c =
    let a = leaves (goal.at.split-requires c).After-len-size in
    let runs = c.self.inside.runs.items in
    let old = c.self.invariant in
    let room = ap (λ (s : Counters). s.room) c.self.view_is in
    let small = run-small runs c.run_for-at.result a.inside old.runs_have_room.small in
    let cut = room_cut runs c.run_for-at.result (length c.self.inside.free.items) c.self.inside.room a.inside old.runs_have_room (omega arith) (omega arith) in
    record {
      inside = omega (arith, a.inside);
      full = ap (λ (cs : List Count). length cs) (get_or-set_same runs c.run_for-at.result c.add.new.self [] a.inside) ∙ sym a.size_is ∙ c.if-size-eq-LENGTH.true;
      one = omega (arith, cut.0);
      room = omega (arith, cut.0, old.places);
    }

pub invariant_of-self : goal.invariant_of-self
invariant_of-self c =
    let a = leaves (goal.at.invariant_of-self c).After-len-size in
    let runs = c.self.inside.runs.items in
    let at = c.run_for-at.result in
    let free = length c.self.inside.free.items in
    let old = c.self.invariant in
    let room = ap (λ (s : Counters). s.room) c.self.view_is in
    let small = run-small runs at a.inside old.runs_have_room.small in
    let cut = room_cut runs at free c.self.inside.room a.inside old.runs_have_room (omega arith) (omega arith) in
    let gone : length c.split.new.free.items ≡ free - 1 = omega (arith, c.split.ensures.free) in
    let longer = ap (λ (cs : List Count). length cs) c.split.ensures.counts in
    let left : c.self.inside.room - (c.len-size.result - c.len-before.result) ≡ c.self.inside.room - 1 = omega arith in
    record {
      rising = subst AreRising (sym c.split.ensures.counts) a.grown.rising;
      size_is = omega (arith, old.size_is);
      few = omega (arith, old.few);
      runs_have_room = subst₂ (λ (m k : ℕ). HaveRoom (sizes_of c.split.new.runs.items) m k) (sym gone) (sym left)
          (subst (λ (ns : List ℕ). HaveRoom ns (free - 1) (c.self.inside.room - 1)) (sym (c.split.ensures.sizes ∙ sizes_around runs at c.add.new.self)) cut.1);
      places = omega (arith, old.places, c.split.ensures.len, c.split.ensures.free, c.split.ensures.capacity);
    }

pub invariant_of-self-else-size-eq-LENGTH : goal.invariant_of-self-else-size-eq-LENGTH
invariant_of-self-else-size-eq-LENGTH c =
    let a = leaves (goal.at.invariant_of-self-else-size-eq-LENGTH c).After-len-size in
    let old = c.self.invariant in
    let room = ap (λ (s : Counters). s.room) c.self.view_is in
    let small = run-small c.self.inside.runs.items c.run_for-at.result a.inside old.runs_have_room.small in
    let open_still = c.if-size-eq-LENGTH.false in
    record {
      rising = a.grown.rising;
      size_is = omega (arith, old.size_is);
      few = omega (arith, old.few);
      runs_have_room = room_grown c.self.inside.runs.items c.run_for-at.result (length c.self.inside.free.items) c.self.inside.room (c.len-size.result - c.len-before.result) c.add.new.self
          a.inside old.runs_have_room a.grown.some (omega arith) (omega arith) (omega arith) (omega (arith, c.requires));
      places = old.places;
    }

-- the counters behind the addition, in a run that is cut in two and in one that is not
pub returns-then-size-eq-LENGTH-clause-counts : goal.returns-then-size-eq-LENGTH-clause-counts
returns-then-size-eq-LENGTH-clause-counts c =
    let a = leaves (goal.at.returns-then-size-eq-LENGTH-clause-counts c).After-len-size in
    c.split.ensures.counts ∙ a.grown.joined_is ∙ ap (λ (s : Counters). with_count c.args.number s.counts) c.self.view_is

pub returns-then-size-eq-LENGTH-clause-stands : goal.returns-then-size-eq-LENGTH-clause-stands
returns-then-size-eq-LENGTH-clause-stands c = λ numbers hits were.
    let a = leaves (goal.at.returns-then-size-eq-LENGTH-clause-stands c).After-len-size in
    stands_with numbers hits c.args.number (c.split.ensures.counts ∙ a.grown.joined_is) (ap (λ (s : Counters). s.counts) c.self.view_is ∙ were)

pub returns-then-size-eq-LENGTH-clause-room : goal.returns-then-size-eq-LENGTH-clause-room
returns-then-size-eq-LENGTH-clause-room c =
    let a = leaves (goal.at.returns-then-size-eq-LENGTH-clause-room c).After-len-size in
    omega (arith, ap (λ (s : Counters). s.room) c.self.view_is, ap (λ (s : Counters). length s.counts) c.self.view_is, ap (λ (cs : List Count). length cs) c.split.ensures.counts, c.requires)

pub returns-then-size-eq-LENGTH-clause-once : goal.returns-then-size-eq-LENGTH-clause-once
returns-then-size-eq-LENGTH-clause-once c =
    let a = leaves (goal.at.returns-then-size-eq-LENGTH-clause-once c).After-len-size in
    omega (arith, ap (λ (s : Counters). length s.counts) c.self.view_is, ap (λ (cs : List Count). length cs) c.split.ensures.counts)

pub returns-else-size-eq-LENGTH-clause-counts : goal.returns-else-size-eq-LENGTH-clause-counts
returns-else-size-eq-LENGTH-clause-counts c =
    (leaves (goal.at.returns-else-size-eq-LENGTH-clause-counts c).After-len-size).grown.joined_is ∙ ap (λ (s : Counters). with_count c.args.number s.counts) c.self.view_is

pub returns-else-size-eq-LENGTH-clause-stands : goal.returns-else-size-eq-LENGTH-clause-stands
returns-else-size-eq-LENGTH-clause-stands c = λ numbers hits were.
    let a = leaves (goal.at.returns-else-size-eq-LENGTH-clause-stands c).After-len-size in
    stands_with numbers hits c.args.number a.grown.joined_is (ap (λ (s : Counters). s.counts) c.self.view_is ∙ were)

pub returns-else-size-eq-LENGTH-clause-room : goal.returns-else-size-eq-LENGTH-clause-room
returns-else-size-eq-LENGTH-clause-room c =
    let a = leaves (goal.at.returns-else-size-eq-LENGTH-clause-room c).After-len-size in
    omega (arith, ap (λ (s : Counters). s.room) c.self.view_is, ap (λ (s : Counters). length s.counts) c.self.view_is, c.requires)

pub returns-else-size-eq-LENGTH-clause-once : goal.returns-else-size-eq-LENGTH-clause-once
returns-else-size-eq-LENGTH-clause-once c =
    let a = leaves (goal.at.returns-else-size-eq-LENGTH-clause-once c).After-len-size in
    omega (arith, ap (λ (s : Counters). length s.counts) c.self.view_is)
