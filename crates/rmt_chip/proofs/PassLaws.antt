-- One stage's turn in each of the four passes of a cycle.
use Rattle.std.proofs.Common.{◌≡◌, ℕ, zero, suc, ◌+◌, ◌-◌, ◌<◌, List, [], ◌∷◌, ◌++◌, length, get_or, set, Option, Some, None, refl, sym, ap, ◌∙◌, subst, arith}
use Rattle.std.specs.Prelude.{slice_get}
use Rattle.std.proofs.lemmas.Option.{get_or_from_slice_get}
use Rattle.std.proofs.lemmas.List.{append-nil, length-set}
use Rattle.std.proofs.lemmas.List.Elements.{All-set}
use Rattle.rmt_bits.specs.Packet.{Packet}
use Rattle.rmt_bits.specs.Counts.{counts}
use Rattle.rmt_bits.specs.declared.answer.Count.{Count}
use Rattle.rmt_chip.specs.Types.{Config, Stage}
use Rattle.rmt_config.specs.Life.{Look, Acts, acts_of}
use Rattle.rmt_config.specs.Parser.{Parse, Short, Reject, Accept, parse, put}
use Rattle.rmt_chip.specs.declared.packet_slot.PacketSlot.{PacketSlot}
use Rattle.rmt_chip.specs.Counting.{hits_made}
use Rattle.rmt_chip.specs.Held.{is_accepted, CarriedFor, Entered, HoldsIf, WrittenBy, ReadBy, DecidedBy, LookedBy}
use Rattle.rmt_chip.specs.Hits.{CountedBy, hits_from, hits_of, hits_at, hits_upto}
use Rattle.rmt_chip.specs.Lives.{upto}
use Rattle.rmt_chip.specs.Pending.{HaveRoomFor}
use Rattle.rmt_chip.specs.Ran.{CountsAlso}
use Rattle.rmt_chip.specs.Ring.{ring_at, now, past, next, partly, partly_next, done_before, IsRing, AllHold}
use Rattle.rmt_chip.specs.Runnable.{start_of, StagesFit}
use Rattle.rmt_chip.proofs.DecidingLaws.{also_more}
use Rattle.rmt_chip.proofs.HeldLaws.{NoneAt, ready}
use Rattle.rmt_chip.proofs.LatencyLaws.{start-le}
use Rattle.rmt_chip.proofs.HoldsLaws.{holds_write, holds_write_none, holds_read, holds_read_none, holds_act, holds_act_none, holds_look, holds_look_none}
use Rattle.rmt_chip.proofs.LifeLaws.{Rise, start_of-get}
use Rattle.rmt_chip.proofs.RingLaws.{partly-from, next-from, done_more, done_le, pass_step, pass_end, next_step, next_end}

back : (t : ℕ) → t ≡ t + 1 - 1
back t = omega arith

-- the facts of the four passes
abbrev Writing : Config → (ℕ → Option Entered) → ℕ → ℕ → PacketSlot → Type 0
Writing c item t u place = HoldsIf c (item t) u (t - 1) (t - 1) t place

abbrev Reading : Config → (ℕ → Option Entered) → ℕ → ℕ → PacketSlot → Type 0
Reading c item t u place = HoldsIf c (item t) t u (t - 1) t place

abbrev Acting : Config → (ℕ → Option Entered) → ℕ → ℕ → PacketSlot → Type 0
Acting c item t u place = HoldsIf c (item t) t t u t place

abbrev Looking : Config → (ℕ → Option Entered) → ℕ → ℕ → PacketSlot → Type 0
Looking c item t u place = HoldsIf c (item t) t t t u place

writing_rests : (c : Config) (item : ℕ → Option Entered) (t : ℕ) (place : PacketSlot) → NoneAt c.stages 12 (t + 1) → Writing c item (t + 1) t place → Writing c item (t + 1) (t + 1) place
writing_rests c item t place none q =
    subst (λ n. HoldsIf c (item (t + 1)) (t + 1) n n (t + 1) place) (back t)
    (holds_write_none c (item (t + 1)) t (t + 1) place none (subst (λ n. HoldsIf c (item (t + 1)) t n n (t + 1) place) (sym (back t)) q))

reading_rests : (c : Config) (item : ℕ → Option Entered) (t : ℕ) (place : PacketSlot) → NoneAt c.stages 9 (t + 1) → Reading c item (t + 1) t place → Reading c item (t + 1) (t + 1) place
reading_rests c item t place none q =
    subst (λ n. HoldsIf c (item (t + 1)) (t + 1) (t + 1) n (t + 1) place) (back t)
    (holds_read_none c (item (t + 1)) t (t + 1) place none (subst (λ n. HoldsIf c (item (t + 1)) (t + 1) t n (t + 1) place) (sym (back t)) q))

acting_rests : (c : Config) (item : ℕ → Option Entered) (t : ℕ) (place : PacketSlot) → NoneAt c.stages 8 (t + 1) → Acting c item (t + 1) t place → Acting c item (t + 1) (t + 1) place
acting_rests c item t place none q = holds_act_none c (item (t + 1)) t place none q

looking_rests : (c : Config) (item : ℕ → Option Entered) (t : ℕ) (place : PacketSlot) → NoneAt c.stages 0 t → Looking c item t t place → Looking c item t (t + 1) place
looking_rests c item t place none q = holds_look_none c (item t) t place none q

-- ---- hits are counted

counts_none : (old new : List Count) → new ≡ old → CountsAlso old new []
counts_none old new e numbers hits is = e ∙ is ∙ ap (counts numbers) (sym (append-nil hits))

for_counts : (look : Look) (c : Config) (packet : Packet) → Rise c.stages → (k t : ℕ) (stage : Stage) (place : PacketSlot) (old new : List Count) → k < length c.stages → get_or c.stages k stage ≡ stage → start_of c.stages k + 8 ≡ t + 1
    → place.size ≡ length packet.frame → CountedBy k stage place old new → (p : Parse) → CarriedFor look c packet (t + 1) (t + 1) t (t + 1) place p → CountsAlso old new (hits_from look c k stage packet p)
for_counts look c packet rise k t stage place old new inside is at size a Short held = counts_none old new (a.rests (ap is_accepted held.0))
for_counts look c packet rise k t stage place old new inside is at size a Reject held = counts_none old new (a.rests (ap is_accepted held.0))
for_counts look c packet rise k t stage place old new inside is at size a (Accept r) held =
    let vector = put r.vector c.in_port packet.port in
    let set = ready look c.stages vector rise k t stage place inside is at held.2 in
    subst (λ (x : Acts). CountsAlso old new (hits_made (length packet.frame) x.counted)) set.acts_are
    (subst (λ n. CountsAlso old new (hits_made n (acts_of look k stage ((upto look c.stages vector k).word stage.start) place.outcomes).counted)) size
    (a.counted (ap is_accepted held.0) look k ((upto look c.stages vector k).word stage.start) set.looked))

holds_counts : (c : Config) → Rise c.stages → (e : Option Entered) (k t : ℕ) (stage : Stage) (place : PacketSlot) (old new : List Count) → k < length c.stages → get_or c.stages k stage ≡ stage → start_of c.stages k + 8 ≡ t + 1
    → CountedBy k stage place old new → HoldsIf c e (t + 1) (t + 1) t (t + 1) place → CountsAlso old new (hits_of c k stage e)
holds_counts c rise None k t stage place old new inside is at a held = counts_none old new (a.rests held.rests)
holds_counts c rise (Some e) k t stage place old new inside is at a held =
    for_counts e.look c e.packet rise k t stage place old new inside is at held.size a (parse c.parser e.packet.frame) held.carried

-- ---- a stage's turn, and what it finds

-- room stays where one packet slot is replaced
pub ring_set : (stages : List Stage) (newest at : ℕ) (places : List PacketSlot) (new : PacketSlot) → HaveRoomFor stages new.pending.items → IsRing stages newest places → IsRing stages newest (set places at new)
ring_set stages newest at places new room ring = record {
  full = length-set places at new ∙ ring.full;
  among = omega (arith, length-set places at new, ring.among);
  room = All-set (λ (p : PacketSlot). HaveRoomFor stages p.pending.items) places at new room ring.room;
}

stage_at : (stages : List Stage) (k : ℕ) → k < length stages → (stage : Stage) × (slice_get stages k ≡ Some stage)
stage_at [] k lt = absurd (omega (arith, lt))
stage_at (s ∷ ss) zero lt = (s, refl)
stage_at (s ∷ ss) (suc k) lt = stage_at ss k (omega (arith, lt))

module _ (c : Config) (item : ℕ → Option Entered) (newest k : ℕ) (places : List PacketSlot) (fits : StagesFit c.stages) (ring : IsRing c.stages newest places) where
  -- each age at which a stage acts has a packet slot
  reached : k < length c.stages → start_of c.stages k + 12 < length places
  reached inside = omega (arith, start-le c.stages fits.rise k inside, ring.full)

  -- ---- words are written

  pub write_turn : (at : ℕ) (d new : PacketSlot) → k < length c.stages → at ≡ ring_at (length places) newest (start_of c.stages k + 12) → WrittenBy k (get_or places at d) new
      → AllHold c item (partly (done_before c.stages 12 k)) past past now newest places
      → AllHold c item (partly (done_before c.stages 12 (k + 1))) past past now newest (set places at new)
  write_turn at d new inside place_is w was =
      let a = start_of c.stages k + 12 in
      let last = reached inside in
      let old = get_or places at d in
      let prior : partly (done_before c.stages 12 k) a ≡ a - 1 = partly-from (done_before c.stages 12 k) a (done_le c.stages 12 k fits.rise inside) in
      let one : a ≡ a - 1 + 1 = omega arith in
      let held : HoldsIf c (item a) (a - 1) (a - 1) (a - 1) a old =
      subst (HoldsIf c (item a) (a - 1) (a - 1) (a - 1) a) (ap (λ n. get_or places n d) (sym place_is))
      (subst (λ u. HoldsIf c (item a) u (a - 1) (a - 1) a (get_or places (ring_at (length places) newest a) d)) prior (was a d (omega arith))) in
      let turned : HoldsIf c (item a) a (a - 1) (a - 1) a new =
      subst (λ u. HoldsIf c (item a) u (a - 1) (a - 1) a new) (sym one) (holds_write c fits.rise (item a) k (a - 1) a old new inside one w held) in
      let all = pass_step (Writing c item) c.stages 12 k newest places new fits.rise inside (omega arith) ring.among (writing_rests c item) was turned in
      subst (λ n. AllHold c item (partly (done_before c.stages 12 (k + 1))) past past now newest (set places n new)) (sym place_is)
      (subst (λ n. AllHold c item (partly n) past past now newest (set places (ring_at (length places) newest a) new)) (sym (done_more c.stages 12 k)) all)

  pub write_done : k ≡ length c.stages → AllHold c item (partly (done_before c.stages 12 k)) past past now newest places → AllHold c item now past past now newest places
  write_done e was =
      pass_end (Writing c item) c.stages 12 newest places fits.rise (writing_rests c item) (subst (λ n. AllHold c item (partly (done_before c.stages 12 n)) past past now newest places) e was)

  -- ---- operands are read

  pub read_turn : (at : ℕ) (d new : PacketSlot) → k < length c.stages → at ≡ ring_at (length places) newest (start_of c.stages k + 9) → ((stage : Stage) → slice_get c.stages k ≡ Some stage → ReadBy k stage (get_or places at d) new)
      → AllHold c item now (partly (done_before c.stages 9 k)) past now newest places
      → AllHold c item now (partly (done_before c.stages 9 (k + 1))) past now newest (set places at new)
  read_turn at d new inside place_is reads was =
      let a = start_of c.stages k + 9 in
      let last = reached inside in
      let old = get_or places at d in
      let (stage, found) = stage_at c.stages k inside in
      let is = get_or_from_slice_get c.stages k stage stage found in
      let prior : partly (done_before c.stages 9 k) a ≡ a - 1 = partly-from (done_before c.stages 9 k) a (done_le c.stages 9 k fits.rise inside) in
      let one : a ≡ a - 1 + 1 = omega arith in
      let held : HoldsIf c (item a) (a - 1 + 1) (a - 1) (a - 1) a old =
      subst (λ u. HoldsIf c (item a) u (a - 1) (a - 1) a old) one
      (subst (HoldsIf c (item a) a (a - 1) (a - 1) a) (ap (λ n. get_or places n d) (sym place_is))
      (subst (λ u. HoldsIf c (item a) a u (a - 1) a (get_or places (ring_at (length places) newest a) d)) prior (was a d (omega arith)))) in
      let turned : HoldsIf c (item a) a a (a - 1) a new =
      subst (λ u. HoldsIf c (item a) u u (a - 1) a new) (sym one) (holds_read c fits.rise (item a) k (a - 1) a stage old new inside is one (reads stage found) held) in
      let all = pass_step (Reading c item) c.stages 9 k newest places new fits.rise inside (omega arith) ring.among (reading_rests c item) was turned in
      subst (λ n. AllHold c item now (partly (done_before c.stages 9 (k + 1))) past now newest (set places n new)) (sym place_is)
      (subst (λ n. AllHold c item now (partly n) past now newest (set places (ring_at (length places) newest a) new)) (sym (done_more c.stages 9 k)) all)

  pub read_done : k ≡ length c.stages → AllHold c item now (partly (done_before c.stages 9 k)) past now newest places → AllHold c item now now past now newest places
  read_done e was =
      pass_end (Reading c item) c.stages 9 newest places fits.rise (reading_rests c item) (subst (λ n. AllHold c item now (partly (done_before c.stages 9 n)) past now newest places) e was)

  -- ---- outcomes are set

  -- the packet that a stage is about to act on
  acting_at : (at : ℕ) (d : PacketSlot) → k < length c.stages → at ≡ ring_at (length places) newest (start_of c.stages k + 8) → AllHold c item now now (partly (done_before c.stages 8 k)) now newest places
      → let a = start_of c.stages k + 8 in HoldsIf c (item a) (a - 1 + 1) (a - 1 + 1) (a - 1) (a - 1 + 1) (get_or places at d)
  acting_at at d inside place_is was =
      let a = start_of c.stages k + 8 in
      let last = reached inside in
      let prior : partly (done_before c.stages 8 k) a ≡ a - 1 = partly-from (done_before c.stages 8 k) a (done_le c.stages 8 k fits.rise inside) in
      let one : a ≡ a - 1 + 1 = omega arith in
      subst (λ u. HoldsIf c (item a) u u (a - 1) u (get_or places at d)) one
      (subst (HoldsIf c (item a) a a (a - 1) a) (ap (λ n. get_or places n d) (sym place_is))
      (subst (λ u. HoldsIf c (item a) a a u a (get_or places (ring_at (length places) newest a) d)) prior (was a d (omega arith))))

  pub act_turn : (at : ℕ) (d new : PacketSlot) → k < length c.stages → at ≡ ring_at (length places) newest (start_of c.stages k + 8) → ((stage : Stage) → slice_get c.stages k ≡ Some stage → DecidedBy k stage (get_or places at d) new)
      → AllHold c item now now (partly (done_before c.stages 8 k)) now newest places
      → AllHold c item now now (partly (done_before c.stages 8 (k + 1))) now newest (set places at new)
  act_turn at d new inside place_is decides was =
      let a = start_of c.stages k + 8 in
      let last = reached inside in
      let (stage, found) = stage_at c.stages k inside in
      let is = get_or_from_slice_get c.stages k stage stage found in
      let one : a ≡ a - 1 + 1 = omega arith in
      let turned : HoldsIf c (item a) a a a a new =
      subst (λ u. HoldsIf c (item a) u u u u new) (sym one) (holds_act c fits.rise (item a) k (a - 1) stage (get_or places at d) new inside is one (decides stage found) (acting_at at d inside place_is was)) in
      let all = pass_step (Acting c item) c.stages 8 k newest places new fits.rise inside (omega arith) ring.among (acting_rests c item) was turned in
      subst (λ n. AllHold c item now now (partly (done_before c.stages 8 (k + 1))) now newest (set places n new)) (sym place_is)
      (subst (λ n. AllHold c item now now (partly n) now newest (set places (ring_at (length places) newest a) new)) (sym (done_more c.stages 8 k)) all)

  pub act_done : k ≡ length c.stages → AllHold c item now now (partly (done_before c.stages 8 k)) now newest places → AllHold c item now now now now newest places
  act_done e was =
      pass_end (Acting c item) c.stages 8 newest places fits.rise (acting_rests c item) (subst (λ n. AllHold c item now now (partly (done_before c.stages 8 n)) now newest places) e was)

  pub count_turn : (at : ℕ) (d : PacketSlot) (first old new : List Count) → k < length c.stages → at ≡ ring_at (length places) newest (start_of c.stages k + 8) → ((stage : Stage) → slice_get c.stages k ≡ Some stage → CountedBy k stage (get_or places at d) old new)
      → AllHold c item now now (partly (done_before c.stages 8 k)) now newest places
      → CountsAlso first old (hits_upto c item k) → CountsAlso first new (hits_upto c item (k + 1))
  count_turn at d first old new inside place_is counted was so_far =
      let age = start_of c.stages k + 8 in
      let last = reached inside in
      let (stage, found) = stage_at c.stages k inside in
      let is = get_or_from_slice_get c.stages k stage stage found in
      let one : age ≡ age - 1 + 1 = omega arith in
      let start : stage.start ≡ start_of c.stages k = ap (λ (x : Stage). x.start) (sym is) ∙ start_of-get c.stages k stage inside in
      let here = holds_counts c fits.rise (item age) k (age - 1) stage (get_or places at d) old new inside is one (counted stage found) (acting_at at d inside place_is was) in
      let all = also_more first old new (hits_upto c item k) (hits_of c k stage (item age)) so_far here in
      let next : suc k ≡ k + 1 = omega arith in
      subst (λ n. CountsAlso first new (hits_upto c item n)) next
      (subst (λ (o : Option Stage). CountsAlso first new (hits_upto c item k ++ hits_at c item k o)) (sym found)
      (subst (λ n. CountsAlso first new (hits_upto c item k ++ hits_of c k stage (item (n + 8)))) (sym start) all))

  -- ---- keys and tests are read

  pub look_turn : (at : ℕ) (d new : PacketSlot) (look : Look) → k < length c.stages → at ≡ ring_at (length places) newest (start_of c.stages k + 0) → ((stage : Stage) → slice_get c.stages k ≡ Some stage → LookedBy look k stage (get_or places at d) new)
      → ((x : Entered) → item (start_of c.stages k) ≡ Some x → (get_or places at d).version ≡ x.version → x.look k ≡ look k)
      → AllHold c item now now now (partly_next (done_before c.stages 0 k)) newest places
      → AllHold c item now now now (partly_next (done_before c.stages 0 (k + 1))) newest (set places at new)
  look_turn at d new look inside place_is looks alike was =
      let a = start_of c.stages k + 0 in
      let last = reached inside in
      let (stage, found) = stage_at c.stages k inside in
      let is = get_or_from_slice_get c.stages k stage stage found in
      let same : start_of c.stages k ≡ a = omega arith in
      let prior : partly_next (done_before c.stages 0 k) a ≡ a = next-from (done_before c.stages 0 k) a (done_le c.stages 0 k fits.rise inside) in
      let held : HoldsIf c (item a) a a a a (get_or places at d) =
      subst (HoldsIf c (item a) a a a a) (ap (λ n. get_or places n d) (sym place_is))
      (subst (λ u. HoldsIf c (item a) a a a u (get_or places (ring_at (length places) newest a) d)) prior (was a d (omega arith))) in
      let turned : HoldsIf c (item a) a a a (a + 1) new = holds_look c fits.rise (item a) k a stage (get_or places at d) new look inside is same (λ x there. alike x (ap item same ∙ there)) (looks stage found) held in
      let all = next_step (Looking c item) c.stages 0 k newest places new fits.rise inside (omega arith) ring.among (looking_rests c item) was turned in
      subst (λ n. AllHold c item now now now (partly_next (done_before c.stages 0 (k + 1))) newest (set places n new)) (sym place_is)
      (subst (λ n. AllHold c item now now now (partly_next n) newest (set places (ring_at (length places) newest a) new)) (sym (done_more c.stages 0 k)) all)

  pub look_done : k ≡ length c.stages → AllHold c item now now now (partly_next (done_before c.stages 0 k)) newest places → AllHold c item now now now next newest places
  look_done e was =
      next_end (Looking c item) c.stages 0 newest places fits.rise (looking_rests c item) (subst (λ n. AllHold c item now now now (partly_next (done_before c.stages 0 n)) newest places) e was)
