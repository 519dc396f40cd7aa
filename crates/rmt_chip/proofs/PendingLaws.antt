-- What a stage keeps for a packet has room.
use Rattle.std.proofs.Common.{◌≡◌, ◌≢◌, ℕ, zero, suc, set, true, Option, Some, Vec, Global, refl, ⊎_elim, ◌⊎◌, inl, inr, ◌++◌, ◌<◌, ◌≤◌, List, [], ◌∷◌, length, get_or, All, sym, ap, ◌∙◌, subst, arith}
use Rattle.std.specs.Prelude.{slice_index, slice_get, option_map, unwrap_or}
use Rattle.rmt_chip.specs.Types.{Stage, Unit}
use Rattle.rmt_config.specs.declared.config.Unit.TheVariants.{Gate, Slot}
use Rattle.rmt_config.specs.Life.{Look, Words, acts_of}
use Rattle.rmt_config.specs.Resources.{unit_data}
use Rattle.std.proofs.lemmas.Bool.{cases_eq, false≢true}
use Rattle.rmt_memory.specs.declared.looked.Looked.{Looked}
use Rattle.rmt_chip.specs.declared.pending.Pending.{Pending}
use Rattle.rmt_chip.specs.declared.packet_slot.PacketSlot.{PacketSlot}
use Rattle.rmt_chip.specs.declared.ran.Ran.{Ran}
use Rattle.rmt_chip.specs.declared.write.Write.{Write}
use Rattle.rmt_bits.specs.declared.answer.Count.{Count}
use Rattle.rmt_chip.specs.Counting.{hits_made}
use Rattle.rmt_chip.specs.Held.{SameSoFar, LookedBy, is_accepted}
use Rattle.rmt_chip.specs.Hits.{CountedBy}
use Rattle.rmt_chip.specs.Ran.{CountsAlso}
use Rattle.rmt_chip.specs.Pending.{HasRoomFor, HaveRoomFor, looked_at, running_at, due_at}
use Rattle.std.proofs.lemmas.List.{length-set}
use Rattle.rmt_memory.specs.Looked.{HaveRoom, AllLooked, held_bytes}
use Rattle.rmt_chip.specs.Runnable.{StageFits}

-- records of at most 8,192 bytes
abbrev pub AreShort : List Looked → Type 0
AreShort looked = All (λ (l : Looked). length l.held.items ≤ 8192) looked

few_held : (u : Unit) → unit_data u < 65536 → held_bytes u ≤ 8192
few_held (Gate g) h = omega arith
few_held (Slot s) h = omega (arith, h)

unit_in : (xs : List Unit) → 0 < length xs → Unit
unit_in [] h = absurd (omega (arith, h))
unit_in (x ∷ xs) h = x

pub short_records : (stage : Stage) → StageFits stage → (looked : List Looked) → HaveRoom stage looked → AreShort looked
short_records stage fits looked room i d lt =
    let size = room.all_units in
    let u = unit_in stage.units (omega arith) in
    let inside : i < length stage.units = omega arith in
    let held = room.each i u d inside in
    subst (λ (n : ℕ). n ≤ 8192) (sym held) (few_held (get_or stage.units i u) (fits.short i u inside))

-- ---- one stage's part is replaced

set_here : (ps : List Pending) (k : ℕ) (p : Pending) → k < length ps → slice_get (set ps k p) k ≡ Some p
set_here [] k p lt = absurd (omega (arith, lt))
set_here (x ∷ ps) zero p lt = refl
set_here (x ∷ ps) (suc k) p lt = set_here ps k p (omega (arith, lt))

set_there : (ps : List Pending) (k j : ℕ) (p : Pending) → j ≢ k → slice_get (set ps k p) j ≡ slice_get ps j
set_there [] k j p apart = refl
set_there (x ∷ ps) zero zero p apart = absurd (apart refl)
set_there (x ∷ ps) zero (suc j) p apart = refl
set_there (x ∷ ps) (suc k) zero p apart = refl
set_there (x ∷ ps) (suc k) (suc j) p apart = set_there ps k j p (λ e. apart (ap suc e))

-- a part that stays as it was
kept : {A : Type 0} (part : Pending → List A) (ps : List Pending) (k : ℕ) (p q : Pending) → k < length ps → slice_get ps k ≡ Some q → part p ≡ part q
    → (j : ℕ) → unwrap_or (option_map part (slice_get (set ps k p) j)) [] ≡ unwrap_or (option_map part (slice_get ps j)) []
kept {A} part ps k p q lt is same j =
    let found : Option Pending → List A = λ o. unwrap_or (option_map part o) [] in
    ⊎_elim
    (λ (e : j ≡ k).
    ap (λ n. found (slice_get (set ps k p) n)) e ∙ ap found (set_here ps k p lt) ∙ same ∙ sym (ap found is) ∙ sym (ap (λ n. found (slice_get ps n)) e))
    (λ (apart : j ≢ k). ap found (set_there ps k j p apart))
    (cases_eq j k)

-- the part of stage k that was put there
put_looked : (new ps : List Pending) (k : ℕ) (p : Pending) → k < length ps → new ≡ set ps k p → looked_at new k ≡ p.looked.items
put_looked new ps k p lt put = ap (λ (x : List Pending). looked_at x k) put ∙ ap (λ (x : Option Pending). unwrap_or (option_map (λ (y : Pending). y.looked.items) x) []) (set_here ps k p lt)

found_looked : (ps : List Pending) (k : ℕ) (q : Pending) → slice_get ps k ≡ Some q → looked_at ps k ≡ q.looked.items
found_looked ps k q is = ap (λ (x : Option Pending). unwrap_or (option_map (λ (y : Pending). y.looked.items) x) []) is

pub looked_by : (look : Look) (k : ℕ) (stage : Stage) (old new : PacketSlot) (p q : Pending) → k < length old.pending.items → slice_get old.pending.items k ≡ Some q → new.pending.items ≡ set old.pending.items k p
    → SameSoFar old new → p.running ≡ q.running → p.due ≡ q.due
    → AllLooked look k (λ v. slice_index old.vector v) stage p.looked.items → LookedBy look k stage old new
looked_by look k stage old new p q lt is put same r d looked =
    let ps = old.pending.items in
    record {
      so_far = same;
      running = λ j. ap (λ (x : List Pending). running_at x j) put ∙ kept (λ (x : Pending). x.running.items) ps k p q lt is (ap (λ (x : Vec Ran Global). x.items) r) j;
      due = λ j. ap (λ (x : List Pending). due_at x j) put ∙ kept (λ (x : Pending). x.due.items) ps k p q lt is (ap (λ (x : Vec Write Global). x.items) d) j;
      others = λ j apart. ap (λ (x : List Pending). looked_at x j) put ∙ ap (λ (x : Option Pending). unwrap_or (option_map (λ (y : Pending). y.looked.items) x) []) (set_there ps k j p apart);
      looked = λ yes. subst (AllLooked look k (λ v. slice_index old.vector v) stage)
          (sym (put_looked new.pending.items ps k p lt put)) looked;
    }

pub counted_by : (k : ℕ) (stage : Stage) (old : PacketSlot) (q : Pending) (before after : List Count) → slice_get old.pending.items k ≡ Some q → is_accepted old.parsed ≡ true
    → ((look : Look) (number : ℕ) (words : Words) → AllLooked look number words stage q.looked.items → CountsAlso before after (hits_made old.size (acts_of look number stage words old.outcomes).counted))
    → CountedBy k stage old before after
counted_by k stage old q before after is accepted counted = record {
  rests = λ refused. absurd (false≢true (sym refused ∙ accepted));
  counted = λ also look number words looked. counted look number words (subst (AllLooked look number words stage) (found_looked old.pending.items k q is) looked);
}

-- what stands in a list with one more
pub push_slice : {A : Type 0} (xs : List A) (x : A) (k : ℕ) (p : A) → slice_get (xs ++ x ∷ []) k ≡ Some p → (slice_get xs k ≡ Some p) ⊎ ((k ≡ length xs) × (x ≡ p))
push_slice [] x zero p e = inr (refl, cc)
push_slice [] x (suc k) p e = absurd cc
push_slice (y ∷ ys) x zero p e = inl e
push_slice (y ∷ ys) x (suc k) p e = elim (push_slice ys x k p e) [ inl before ↦ inl before | inr (here, same) ↦ inr (ap suc here, same) ]

-- one stage's part is replaced by one with room
pub room_put : (stages : List Stage) (ps : List Pending) (k : ℕ) (here : Stage) (p : Pending) → k < length ps → slice_get stages k ≡ Some here → HasRoomFor here p → HaveRoomFor stages ps → HaveRoomFor stages (set ps k p)
room_put stages ps k here p lt is room all = record {
  all_stages = length-set ps k p ∙ all.all_stages;
  each = λ j stage q at there. ⊎_elim
      (λ (e : j ≡ k).
      let one : p ≡ q = same_some p q (sym (set_here ps k p lt) ∙ ap (slice_get (set ps k p)) (sym e) ∙ there) in
      let its : here ≡ stage = same_some here stage (sym is ∙ ap (slice_get stages) (sym e) ∙ at) in
      subst (λ (x : Pending). HasRoomFor stage x) one (subst (λ (x : Stage). HasRoomFor x p) its room))
      (λ (apart : j ≢ k). all.each j stage q at (sym (set_there ps k j p apart) ∙ there))
      (cases_eq j k);
}
  where
    same_some : {X : Type 0} (x y : X) → Some x ≡ Some y → x ≡ y
    same_some x y e = cc
