-- The rules on what the memory of a slot holds, from the look over its rows.
use Rattle.std.proofs.Common.{◌≡◌, ℕ, ◌+◌, ◌*◌, ◌%◌, ◌^◌, ◌<◌, ◌≤◌, List, [], ◌∷◌, length, get_or, drop, map, Bool, true, false, ◌&&◌, ltb, eqb, sym, refl, ap, ◌∙◌, subst, arith}
use Rattle.std.specs.Prelude.{◌↔◌, IsTrue}
use Rattle.std.specs.List.{list_all, flat_map, fold}
use Rattle.std.proofs.lemmas.Bool.{and_parts, ltb-true, leb-true, eqb-true, eq-eqb, both_ways, not-true}
use Rattle.std.proofs.lemmas.List.Sums.{AllPass-from_list_all}
use Rattle.std.proofs.lemmas.List.{nil_from_length}
use Rattle.rmt_bits.proofs.FunctionLaws.{funext}
use Rattle.rmt_bits.proofs.TestLaws.{split3, split5, split11}
use Rattle.rmt_bits.specs.declared.lane.Lane.{Lane}
use Rattle.rmt_config.specs.Types.{Stage, Unit, GateUnit, SlotUnit, Memory}
use Rattle.rmt_config.specs.declared.config.Unit.TheVariants.{Gate, Slot}
use Rattle.rmt_config.specs.declared.config.Memory.TheVariants.{Without, Exact, Ternary}
use Rattle.rmt_config.specs.LaneForm.{bits_of_lanes, lane_is_formed}
use Rattle.rmt_config.specs.Order.{rises_from}
use Rattle.rmt_config.specs.Cells.{sram_row, content_of}
use Rattle.rmt_config.specs.BlockCounts.{divided_up, record_width, record_units}
use Rattle.rmt_config.specs.StageForm.{is_listed, sram_blocks, tcam_blocks, srow_fits, trow_fits, srow_is_formed, trow_is_formed, stage_is_formed, rows_are_formed}
use Rattle.rmt_config.specs.UnitForm.{slot_is_formed, slot_head_is_formed, memory_is_formed, may_have_memory, unit_is_formed}
use Rattle.rmt_config.specs.CellForm.{SlotHolds, numbers_are_formed, head_is_formed, none, coded_from}
use Rattle.rmt_config.specs.MemoryRules.{FormedRows, ExactFits, TernaryFits}
use Rattle.rmt_config.specs.Layouts.{ExactHeld, SramTold, TcamTold, TernaryHeld, cells_hold, entry_in, exact_keys, exact_records, listed_cells, local_of, quantum_of, ternary_keys, ternary_records}
use Rattle.rmt_config.proofs.RiseLaws.{one_off}
use Rattle.rmt_config.proofs.CellLayouts.{exact-entry, ternary-record}
use Rattle.rmt_config.proofs.MemoryLaws.{exact-told, ternary-told}

-- ---- the numbers of a slot

all-within : {X : Type 0} (q f g : X → Bool) (xs : List X) → ((x : X) → q x ≡ true → f x ≡ g x) → list_all q xs ≡ true → list_all f xs ≡ list_all g xs
all-within q f g [] same h = refl
all-within q f g (x ∷ xs) same h =
    let parts = and_parts (q x) (list_all q xs) h in
    ap (λ (b : Bool). b && list_all f xs) (same x parts.0) ∙ ap (λ (b : Bool). g x && b) (all-within q f g xs same parts.1)

and-agree : (a b c : Bool) → (a ≡ true → b ≡ c) → (a && b) ≡ (a && c)
and-agree true b c h = h refl
and-agree false b c h = refl

pub exact-numbers : (visible : ℕ) (stage : Stage) (first : ℕ) (s : SlotUnit) (k p d w : ℕ) (ks rs cs : List ℕ) → 0 < p → 0 < d
    → cells_hold (exact_keys k p d (bits_of_lanes s.keys)) (sram_row stage.srows) ks visible first s.actions s.numbers
    ≡ numbers_are_formed visible first stage (record s { memory = Exact k p d w ks rs cs })
exact-numbers visible stage first s k p d w ks rs cs lp ld =
    let l = exact_keys k p d (bits_of_lanes s.keys) in
    let sram = sram_row stage.srows in
    let cells = listed_cells s.numbers in
    let count : 4 * d * (1024 * p) ≡ 4096 * d * p = omega arith in
    let before : ℕ → Bool = λ m. rises_from 0 cells && list_all (λ n. ltb n m) cells in
    let f : ℕ → Bool = λ n. head_is_formed visible first s.actions (entry_in l sram ks (quantum_of l n) (local_of l n) % 256) in
    let g : ℕ → Bool = λ n. head_is_formed visible first s.actions (content_of stage (record s { memory = Exact k p d w ks rs cs }) n).head in
    ap (λ m. before m && list_all f cells) count
    ∙ ap (λ (h : ℕ → Bool). before (4096 * d * p) && list_all h cells)
    (funext f g (λ n. ap (λ e. head_is_formed visible first s.actions (e % 256)) (sym (exact-entry sram ks k p d (bits_of_lanes s.keys) n lp ld))))

pub ternary-numbers : (visible : ℕ) (stage : Stage) (first : ℕ) (s : SlotUnit) (d : ℕ) (ks rs cs : List ℕ)
    → cells_hold (ternary_records d (s.held + 8)) (sram_row stage.srows) rs visible first s.actions s.numbers
    ≡ numbers_are_formed visible first stage (record s { memory = Ternary d ks rs cs })
ternary-numbers visible stage first s d ks rs cs =
    let l = ternary_records d (s.held + 8) in
    let sram = sram_row stage.srows in
    let cells = listed_cells s.numbers in
    let count : 1 * d * 2048 ≡ 2048 * d = omega arith in
    let before : ℕ → Bool = λ m. rises_from 0 cells && list_all (λ n. ltb n m) cells in
    let f : ℕ → Bool = λ n. head_is_formed visible first s.actions (entry_in l sram rs (quantum_of l n) (local_of l n) % 256) in
    let g : ℕ → Bool = λ n. head_is_formed visible first s.actions (content_of stage (record s { memory = Ternary d ks rs cs }) n).head in
    ap (λ m. before m && list_all f cells) count
    ∙ and-agree (before (2048 * d)) (list_all f cells) (list_all g cells) (λ h.
    all-within (λ n. ltb n (2048 * d)) f g cells
    (λ n lt. ap (λ e. head_is_formed visible first s.actions (e % 256)) (sym (ternary-record sram rs d s.held n (ltb-true n (2048 * d) lt))))
    (and_parts (rises_from 0 cells) (list_all (λ n. ltb n (2048 * d)) cells) h).1)

-- ---- a slot by the kind of its memory

pub exact-slot : (visible : ℕ) (stage : Stage) (first : ℕ) (s : SlotUnit) (k p d w : ℕ) (ks rs cs : List ℕ) → FormedRows stage → ExactFits s k p d ks rs
    → (IsTrue (cells_hold (exact_keys k p d (bits_of_lanes s.keys)) (sram_row stage.srows) ks visible first s.actions s.numbers)
    × (SramTold (exact_keys k p d (bits_of_lanes s.keys)) stage s ks × SramTold (exact_records p d s.held) stage s rs))
    ↔ SlotHolds visible stage first (record s { memory = Exact k p d w ks rs cs })
exact-slot visible stage first s k p d w ks rs cs rows fit =
    let e = exact-numbers visible stage first s k p d w ks rs cs fit.some_p fit.some_d in
    let told = exact-told stage s k p d w ks rs cs rows fit in (
      λ all. let both = told.0 all.1 in record { numbers = sym e ∙ all.0; others = both.0; ends = both.1 },
      λ holds. (e ∙ holds.numbers, told.1 (holds.others, holds.ends)),
    )

pub ternary-slot : (visible : ℕ) (stage : Stage) (first : ℕ) (s : SlotUnit) (d : ℕ) (ks rs cs : List ℕ) → FormedRows stage → TernaryFits s d ks rs
    → (IsTrue (cells_hold (ternary_records d (s.held + 8)) (sram_row stage.srows) rs visible first s.actions s.numbers)
    × (TcamTold (ternary_keys d (bits_of_lanes s.keys)) stage s ks × SramTold (ternary_records d (s.held + 8)) stage s rs))
    ↔ SlotHolds visible stage first (record s { memory = Ternary d ks rs cs })
ternary-slot visible stage first s d ks rs cs rows fit =
    let e = ternary-numbers visible stage first s d ks rs cs in
    let told = ternary-told stage s d ks rs cs rows fit in (
      λ all. let both = told.0 all.1 in record { numbers = sym e ∙ all.0; others = both.0; ends = both.1 },
      λ holds. (e ∙ holds.numbers, told.1 (holds.others, holds.ends)),
    )

-- the same, by entries with heads and by what else there is
pub exact-held : (visible : ℕ) (stage : Stage) (first : ℕ) (s : SlotUnit) (k p d w : ℕ) (ks rs cs : List ℕ) → FormedRows stage → ExactFits s k p d ks rs
    → ExactHeld stage s visible first k p d ks rs ↔ SlotHolds visible stage first (record s { memory = Exact k p d w ks rs cs })
exact-held visible stage first s k p d w ks rs cs rows fit =
    let slot = exact-slot visible stage first s k p d w ks rs cs rows fit in
    (λ all. slot.0 (all.0.0, (all.0.1, all.1)), λ holds. let all = slot.1 holds in ((all.0, all.1.0), all.1.1))

pub ternary-held : (visible : ℕ) (stage : Stage) (first : ℕ) (s : SlotUnit) (d : ℕ) (ks rs cs : List ℕ) → FormedRows stage → TernaryFits s d ks rs
    → TernaryHeld stage s visible first d ks rs ↔ SlotHolds visible stage first (record s { memory = Ternary d ks rs cs })
ternary-held visible stage first s d ks rs cs rows fit =
    let slot = ternary-slot visible stage first s d ks rs cs rows fit in
    (λ all. slot.0 (all.0.0, (all.1, all.0.1)), λ holds. let all = slot.1 holds in ((all.0, all.1.1), all.1.0))

pub without-slot : (visible : ℕ) (stage : Stage) (first : ℕ) (s : SlotUnit) → s.numbers ≡ [] → SlotHolds visible stage first (record s { memory = Without })
without-slot visible stage first s e = record {
  numbers = ap (λ ns. numbers_are_formed visible first stage (record s { memory = Without; numbers = ns })) e;
  others = λ n lt unset. absurd (omega (arith, lt));
  ends = none;
}

-- the kind of the memory that a slot has
pub slot-at : (X : Type 0) (visible : ℕ) (stage : Stage) (first : ℕ) (s : SlotUnit) (m : Memory) → s.memory ≡ m
    → (X ↔ SlotHolds visible stage first (record s { memory = m })) → (X ↔ SlotHolds visible stage first s)
slot-at X visible stage first s m e h = subst (λ m'. X ↔ SlotHolds visible stage first (record s { memory = m' })) (sym e) h

-- what was found out of the lists of a memory, as they are read, is found out of the slot that has it
pub slot-by : (b : Bool) (visible : ℕ) (stage : Stage) (first : ℕ) (s : SlotUnit) (m : Memory) (Held : List ℕ → List ℕ → Type 0) {ks ks' rs rs' : List ℕ} → s.memory ≡ m → ks' ≡ ks → rs' ≡ rs
    → (IsTrue b ↔ Held ks' rs') → (Held ks rs ↔ SlotHolds visible stage first (record s { memory = m })) → (IsTrue b ↔ SlotHolds visible stage first s)
slot-by b visible stage first s m Held {ks} {ks'} {rs} {rs'} e ek er found slot =
    let told : IsTrue b ↔ Held ks rs = subst (λ (x : List ℕ). IsTrue b ↔ Held x rs) ek (subst (λ (x : List ℕ). IsTrue b ↔ Held ks' x) er found) in
    slot-at (IsTrue b) visible stage first s m e (λ h. slot.0 (told.0 h), λ h. told.1 (slot.1 h))

-- ---- what the item rules say

fold-least : (ns : List ℕ) (a : ℕ) → a ≤ fold ◌+◌ a ns
fold-least [] a = omega arith
fold-least (n ∷ ns) a = let rest = fold-least ns (a + n) in omega (arith, rest)

-- a lane has a bit
pub lane-bit : (lane : Lane) → lane_is_formed lane ≡ true → 1 ≤ lane.len
lane-bit lane h = leb-true 1 lane.len (and_parts _ _ (and_parts _ _ (and_parts _ _ h).0).0).1

-- a key with a lane has a bit
some-bits : (lanes : List Lane) → 1 ≤ length lanes → list_all lane_is_formed lanes ≡ true → 0 < bits_of_lanes lanes
some-bits [] some h = absurd (omega (arith, some))
some-bits (lane ∷ lanes) some h =
    let first = (and_parts (lane_is_formed lane) (list_all lane_is_formed lanes) h).0 in
    let big : 1 ≤ lane.len = lane-bit lane first in
    let least = fold-least (map (λ (l : Lane). l.len) lanes) (0 + lane.len) in
    omega (arith, big, least)

-- the facts of a slot's head and of its memory that are needed
record HeadFacts (s : SlotUnit) : Type 0 where
  actions : s.actions ≤ 14
  held : s.held < 65536
  lanes : list_all lane_is_formed s.keys ≡ true

head-facts : (s : SlotUnit) → slot_head_is_formed s ≡ true → HeadFacts s
head-facts s h =
    let h7 = and_parts _ _ h in
    let h6 = and_parts _ _ h7.0 in
    let h5 = and_parts _ _ h6.0 in
    let h4 = and_parts _ _ h5.0 in
    let h3 = and_parts _ _ h4.0 in
    let h2 = and_parts _ _ h3.0 in
    record { actions = leb-true s.actions 14 h2.1; held = ltb-true s.held 65536 h3.1; lanes = h5.1 }

record MemoryFacts (s : SlotUnit) (d : ℕ) : Type 0 where
  keys : 1 ≤ length s.keys
  bits : bits_of_lanes s.keys ≤ 640
  some_d : 1 ≤ d
  most_d : d ≤ 106

memory-facts : (s : SlotUnit) (d : ℕ) → may_have_memory s d ≡ true → MemoryFacts s d
memory-facts s d h =
    let f = split5 h in
    record { keys = leb-true 1 (length s.keys) f.0; bits = leb-true (bits_of_lanes s.keys) 640 f.1; some_d = leb-true 1 d f.3; most_d = leb-true d 106 f.4 }

-- a key has at most 640 bits
pub key_is_short : (s : SlotUnit) (m : Memory) → memory_is_formed s m ≡ true → bits_of_lanes s.keys ≤ 640
key_is_short s Without h =
    let none : s.keys ≡ [] = nil_from_length s.keys (eqb-true (length s.keys) 0 (and_parts _ _ (and_parts _ _ h).0).1) in
    rw none (omega arith)
key_is_short s (Exact k p d w ks rs cs) h = (memory-facts s d (split11 h).0).bits
key_is_short s (Ternary d ks rs cs) h = (memory-facts s d (split5 h).0).bits

pub slot_is_short : (s : SlotUnit) → slot_is_formed s ≡ true → bits_of_lanes s.keys ≤ 640
slot_is_short s h = key_is_short s s.memory (and_parts (slot_head_is_formed s) (memory_is_formed s s.memory) h).1

pub exact-fits : (s : SlotUnit) (k p d w : ℕ) (ks rs cs : List ℕ) → slot_head_is_formed s ≡ true → memory_is_formed s (Exact k p d w ks rs cs) ≡ true → ExactFits s k p d ks rs
exact-fits s k p d w ks rs cs head h =
    let f = split11 h in
    let lengths = split3 f.7 in
    let facts = memory-facts s d f.0 in
    let top = head-facts s head in
    record {
      some_k = leb-true 1 k f.1;
      most_k = ltb-true k 256 f.2;
      some_p = leb-true 1 p f.3;
      most_p = ltb-true p 65536 f.4;
      some_d = facts.some_d;
      most_d = facts.most_d;
      most_bits = facts.bits;
      fits = leb-true (p * (bits_of_lanes s.keys + 8)) (112 * k) f.6;
      most_held = top.held;
      keys = eqb-true (length ks) (d * (4 * k)) lengths.0;
      records = eqb-true (length rs) (d * (record_units (4 * p) s.held * record_width s.held)) lengths.1;
    }

pub ternary-fits : (s : SlotUnit) (d : ℕ) (ks rs cs : List ℕ) → slot_head_is_formed s ≡ true → memory_is_formed s (Ternary d ks rs cs) ≡ true → TernaryFits s d ks rs
ternary-fits s d ks rs cs head h =
    let f = split5 h in
    let lengths = split3 f.1 in
    let facts = memory-facts s d f.0 in
    let top = head-facts s head in
    record {
      some_d = facts.some_d;
      most_d = facts.most_d;
      some_bits = some-bits s.keys facts.keys top.lanes;
      most_bits = facts.bits;
      most_held = top.held;
      keys = eqb-true (length ks) (d * divided_up (bits_of_lanes s.keys) 40) lengths.0;
      records = eqb-true (length rs) (d * (record_units 2 (s.held + 8) * record_width (s.held + 8))) lengths.1;
    }

-- the same of the memory that a slot has
pub slot-exact : (s : SlotUnit) (k p d w : ℕ) (ks rs cs : List ℕ) → slot_is_formed s ≡ true → s.memory ≡ Exact k p d w ks rs cs → ExactFits s k p d ks rs
slot-exact s k p d w ks rs cs h e =
    let parts = and_parts (slot_head_is_formed s) (memory_is_formed s s.memory) h in
    exact-fits s k p d w ks rs cs parts.0 (sym (ap (memory_is_formed s) e) ∙ parts.1)

pub slot-ternary : (s : SlotUnit) (d : ℕ) (ks rs cs : List ℕ) → slot_is_formed s ≡ true → s.memory ≡ Ternary d ks rs cs → TernaryFits s d ks rs
slot-ternary s d ks rs cs h e =
    let parts = and_parts (slot_head_is_formed s) (memory_is_formed s s.memory) h in
    ternary-fits s d ks rs cs parts.0 (sym (ap (memory_is_formed s) e) ∙ parts.1)

pub without-numbers : (s : SlotUnit) → memory_is_formed s Without ≡ true → s.numbers ≡ []
without-numbers s h = nil_from_length s.numbers (eqb-true (length s.numbers) 0 (and_parts _ _ h).1)

-- ---- the slots of a stage, with the numbers of their first instructions

pub few-actions : (s : SlotUnit) → slot_is_formed s ≡ true → s.actions ≤ 14
few-actions s h = (head-facts s (and_parts (slot_head_is_formed s) (memory_is_formed s s.memory) h).0).actions

pub coded-slot : (units : List Unit) (i first : ℕ) (d : Unit) (s : SlotUnit) → i < length units → get_or units i d ≡ Slot s
    → coded_from first (drop i units) ≡ record { first = first; slot = s } ∷ coded_from (first + s.actions + 1) (drop (i + 1) units)
coded-slot units i first d s lt e =
    ap (coded_from first) (one_off units i d lt) ∙ ap (λ u. coded_from first (u ∷ drop (i + 1) units)) e

pub coded-gate : (units : List Unit) (i first : ℕ) (d : Unit) (g : GateUnit) → i < length units → get_or units i d ≡ Gate g
    → coded_from first (drop i units) ≡ coded_from first (drop (i + 1) units)
coded-gate units i first d g lt e =
    ap (coded_from first) (one_off units i d lt) ∙ ap (λ u. coded_from first (u ∷ drop (i + 1) units)) e

pub unit-formed : (units : List Unit) (i : ℕ) (d : Unit) → i < length units → list_all unit_is_formed units ≡ true → unit_is_formed (get_or units i d) ≡ true
unit-formed units i d lt h = AllPass-from_list_all unit_is_formed units h i d lt

-- the rows of a stage that keeps its rules
pub formed-rows : (stage : Stage) → stage_is_formed stage ≡ true → rows_are_formed stage ≡ true → FormedRows stage
formed-rows stage items rows =
    let r3 = and_parts _ _ rows in
    let r2 = and_parts _ _ r3.0 in
    let r1 = and_parts _ _ r2.0 in
    let i7 = and_parts _ _ items in
    let i6 = and_parts _ _ i7.0 in
    let i5 = and_parts _ _ i6.0 in
    let sall = AllPass-from_list_all (srow_is_formed stage.units) stage.srows r1.0 in
    let tall = AllPass-from_list_all (trow_is_formed stage.units) stage.trows r2.1 in
    let sfit = AllPass-from_list_all srow_fits stage.srows i5.1 in
    let tfit = AllPass-from_list_all trow_fits stage.trows i7.1 in
    record {
      srise = r1.1;
      slow = λ k d lt. let x = get_or stage.srows k d in
          ltb-true x.row 1024 (and_parts (ltb x.row 1024) (is_listed x.block (flat_map sram_blocks stage.units)) (and_parts _ _ (sall k d lt)).0).0;
      sbits = λ k d lt. let x = get_or stage.srows k d in ltb-true x.bits (2 ^ 112) (and_parts _ _ (sfit k d lt)).1;
      trise = r3.1;
      tlow = λ k d lt. let x = get_or stage.trows k d in
          ltb-true x.row 2048 (and_parts (ltb x.row 2048) (is_listed x.block (flat_map tcam_blocks stage.units)) (and_parts _ _ (and_parts _ _ (tall k d lt)).0).0).0;
      tbits = λ k d lt. let x = get_or stage.trows k d in ltb-true x.mask (2 ^ 40) (and_parts _ _ (tfit k d lt)).1;
      tsome = λ k d lt none. let x = get_or stage.trows k d in
          both_ways (eqb x.mask 0) (not-true (eqb x.mask 0) (and_parts _ _ (and_parts _ _ (tall k d lt)).0).1) (eq-eqb x.mask 0 none);
    }
