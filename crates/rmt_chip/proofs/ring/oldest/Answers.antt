use Rattle.std.proofs.Common.{◌≡◌, ℕ, suc, ◌+◌, ◌-◌, true, false, Option, Some, None, refl, sym, ap, ◌∙◌, arith}
use Rattle.rmt_chip.specs.Types.{Config}
use Rattle.rmt_chip.specs.declared.packet_slot.PacketSlot.{PacketSlot}
use Rattle.rmt_chip.specs.Held.{Entered, HoldsIf}
use Rattle.rmt_chip.specs.Ring.{oldest_below}
use Rattle.rmt_chip.proofs.ring.oldest.Goals as goal
use Rattle.rmt_chip.proofs.RingLaws.{held_at}

found : (c : Config) (item : ℕ → Option Entered) (age : ℕ) (place : PacketSlot) → HoldsIf c (item age) age age age (age + 1) place → place.taken ≡ true → Some place.version ≡ oldest_below item (suc age)
found c item age place holds taken = by (item age) refl holds
  where
    by : (o : Option Entered) → item age ≡ o → HoldsIf c o age age age (age + 1) place → Some place.version ≡ oldest_below item (suc age)
    by None is free = let no : place.taken ≡ false = free.taken in absurd cc
    by (Some e) is held = rw is (ap Some held.version)

passed : (c : Config) (item : ℕ → Option Entered) (age : ℕ) (place : PacketSlot) → HoldsIf c (item age) age age age (age + 1) place → place.taken ≡ false → oldest_below item (suc age) ≡ oldest_below item age
passed c item age place holds taken = by (item age) refl holds
  where
    by : (o : Option Entered) → item age ≡ o → HoldsIf c o age age age (age + 1) place → oldest_below item (suc age) ≡ oldest_below item age
    by None is free = rw is refl
    by (Some e) is held = let yes : place.taken ≡ true = held.taken in absurd cc

pub returns-then-place : goal.returns-then-place
returns-then-place c = λ config item all.
    let at = c.loop-below.below - 1 in
    let next : suc at ≡ c.loop-below.below = omega arith in
    let place = c.index-places-place_of.result in
    let within = c.loop-below.invariant.within in
    found config item at place (held_at config item c.args.newest at c.place_of.result c.args.places.now place (omega arith) c.place_of.ensures.place c.index-places-place_of.is all) c.if-place.true
    ∙ ap (oldest_below item) next ∙ sym (c.loop-below.invariant.younger config item all)

pub loop-below-preserved : goal.loop-below-preserved
loop-below-preserved c =
    let at = c.loop-below.below - 1 in
    let place = c.index-places-place_of.result in
    let within = c.loop-below.invariant.within in
    record {
      within = omega arith;
      younger = λ config item all.
          let next : c.loop-below.below ≡ suc at = omega arith in
          c.loop-below.invariant.younger config item all ∙ ap (oldest_below item) next
          ∙ passed config item at place (held_at config item c.args.newest at c.place_of.result c.args.places.now place (omega arith) c.place_of.ensures.place c.index-places-place_of.is all) c.if-place.false;
    }

pub returns : goal.returns
returns c = λ config item all.
    let none : c.loop-below.below ≡ 0 = omega arith in
    sym (c.loop-below.invariant.younger config item all ∙ ap (oldest_below item) none)
