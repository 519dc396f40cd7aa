-- The changed cells by which cells become others, where these hold what changed cells can put there.
use Rattle.std.proofs.Common.{◌≡◌, ◌≢◌, ◌⊎◌, ℕ, ◌+◌, ◌*◌, ◌<◌, ◌&&◌, ◌||◌, Bool, true, false, not, cond, eqb, ltb, List, [], length, map, get_or, Option, Some, None, option_map, unwrap_or, inl, inr, refl, sym, ap, ◌∙◌, subst, arith}
use Rattle.std.specs.Prelude.{All, AllPairs, Contains, IsSomeAnd, filter, slice_get, ◌==◌}
use Rattle.std.specs.List.{flat_map, list_any, range_with_len}
use Rattle.std.proofs.lemmas.Bool.{and_cases, and_from, and_parts, eq-eqb, eqb-false, eqb-true, false≢true, lt-ltb, ne_eqb, not-true, not_from_false, or_left, or_right}
use Rattle.std.proofs.lemmas.List.Elements.{All-filter, All-map, filter_passes}
use Rattle.std.proofs.lemmas.List.Kept.{AllPairs-filter}
use Rattle.std.proofs.lemmas.Option.{slice_get_within}
use Rattle.rmt_bits.specs.Bits.{bytes_of, number_of}
use Rattle.rmt_bits.proofs.AllLaws.{All-between, All-flat_map}
use Rattle.rmt_bits.proofs.MemberLaws.{Contains-filter, Contains-flat_map, Contains-map, list_any-Contains}
use Rattle.rmt_bits.proofs.PairLaws.{AllPairs-map, AllPairs-weaker, range_rises}
use Rattle.rmt_config.specs.declared.cell_write.CellWrite.{CellWrite}
use Rattle.rmt_config.specs.declared.config.Config.{Config}
use Rattle.rmt_config.specs.declared.config.Memory.{Memory}
use Rattle.rmt_config.specs.declared.config.SlotUnit.{SlotUnit}
use Rattle.rmt_config.specs.declared.config.Stage.{Stage}
use Rattle.rmt_config.specs.declared.config.Memory.TheVariants.{Without, Exact, Ternary}
use Rattle.rmt_config.specs.declared.config.Unit.TheVariants.{Slot}
use Rattle.rmt_config.specs.Cells.{Content, cells_in, code_of, visible_bits}
use Rattle.rmt_config.specs.Commits.{AreWrites, IsCell, writes_before}
use Rattle.rmt_config.specs.LaneForm.{bits_of_lanes}
use Rattle.rmt_config.specs.RunCells.{RunCells, emptied, is_changed, no_content, slot_at, written_content, written_mask}
use Rattle.rmt_config.specs.BlockCounts.{divided_up}
use Rattle.rmt_pack.proofs.FindLaws.{Contains-range}
use Rattle.rmt_pack.proofs.RoomOrderLaws.{pairs_flat}
use Rattle.rmt_config.proofs.LayoutLaws.{bytes_hold}
use Rattle.rmt_update.specs.Fitting.{AreFit, IsFitting, MaskFits}
use Rattle.rmt_update.proofs.OwnNumbers.{standing}
use Rattle.rmt_update.proofs.WritesLaws.{said_content, said_number, writes-are}

-- ---- a changed cell that puts what a cell is to hold

abbrev bytes_of_mask : ℕ → Memory → ℕ → List ℕ
bytes_of_mask bits Without mask = []
bytes_of_mask bits (Exact k per quanta first_way keys records counters) mask = []
bytes_of_mask bits (Ternary quanta keys records counters) mask = bytes_of (divided_up bits 8) mask

abbrev key_bytes : Option SlotUnit → ℕ → List ℕ
key_bytes None key = []
key_bytes (Some slot) key = bytes_of (divided_up (bits_of_lanes slot.keys) 8) key

abbrev masks_of : Option SlotUnit → ℕ → List ℕ
masks_of None mask = []
masks_of (Some slot) mask = bytes_of_mask (bits_of_lanes slot.keys) slot.memory mask

abbrev data_bytes : Option SlotUnit → ℕ → List ℕ
data_bytes None held = []
data_bytes (Some slot) held = bytes_of (divided_up slot.held 8) held

abbrev write_in : Option SlotUnit → ℕ → ℕ → ℕ → Content → ℕ → CellWrite
write_in o k place n x number = record {
  stage = k;
  unit = place;
  cell = n;
  visible = visible_bits x.head;
  code = code_of x.head;
  key = key_bytes o x.key;
  mask = masks_of o x.mask;
  held = data_bytes o x.held;
  number = number;
}

mask-told : (bits : ℕ) (m : Memory) (mask : ℕ) → MaskFits bits m mask → written_mask bits m (bytes_of_mask bits m mask) ≡ mask
mask-told bits Without mask fits = sym fits
mask-told bits (Exact k per quanta first_way keys records counters) mask fits = sym fits
mask-told bits (Ternary quanta keys records counters) mask fits = bytes_hold bits mask fits

same-content : (x : Content) (head key mask held : ℕ) → head ≡ x.head → key ≡ x.key → mask ≡ x.mask → held ≡ x.held → record { head = head; key = key; mask = mask; held = held } ≡ x
same-content x head key mask held a b c d = rw (a, b, c, d) refl

-- a head by its parts
head-seen : (v c : ℕ) → v < 4 → visible_bits (1 + 2 * v + 8 * c) ≡ v
head-seen v c lt = omega (arith, lt)

head-code : (v c : ℕ) → v < 4 → c < 32 → code_of (1 + 2 * v + 8 * c) ≡ c
head-code v c lv lc = omega (arith, lv, lc)

puts : (slot : SlotUnit) (k place n : ℕ) (x : Content) (number : ℕ) → IsFitting slot x number → (written_content (write_in (Some slot) k place n x number) slot ≡ x) × (said_number (write_in (Some slot) k place n x number) ≡ number)
puts slot k place n x number (inl none) =
    let w = write_in (Some slot) k place n x number in
    let unseen : visible_bits x.head ≡ 0 = ap (λ (y : Content). visible_bits y.head) none.0 in
    let zero_is : eqb (visible_bits x.head) 0 ≡ true = eq-eqb (visible_bits x.head) 0 unseen in (
      ap (λ b. cond b (emptied slot) (record {
        head = 1 + 2 * w.visible + 8 * w.code;
        key = number_of w.key;
        mask = written_mask (bits_of_lanes slot.keys) slot.memory w.mask;
        held = number_of w.held;
      })) zero_is ∙ sym none.0,
      ap (λ b. cond b 0 number) zero_is ∙ sym none.1,
    )
puts slot k place n x number (inr h) =
    let w = write_in (Some slot) k place n x number in
    let some = h.seen in
    let bits = bits_of_lanes slot.keys in
    let visible : visible_bits x.head ≡ h.visible = ap visible_bits h.head ∙ head-seen h.visible h.code h.visible_small in
    let code : code_of x.head ≡ h.code = ap code_of h.head ∙ head-code h.visible h.code h.visible_small h.code_small in
    let not_zero : eqb (visible_bits x.head) 0 ≡ false = ne_eqb (visible_bits x.head) 0 (λ e. omega (arith, e, visible, some)) in
    let head : 1 + 2 * visible_bits x.head + 8 * code_of x.head ≡ x.head = ap (λ v. 1 + 2 * v + 8 * code_of x.head) visible ∙ ap (λ c. 1 + 2 * h.visible + 8 * c) code ∙ sym h.head in (
      ap (λ b. cond b (emptied slot) (record {
        head = 1 + 2 * w.visible + 8 * w.code;
        key = number_of w.key;
        mask = written_mask (bits_of_lanes slot.keys) slot.memory w.mask;
        held = number_of w.held;
      })) not_zero
          ∙ same-content x (1 + 2 * w.visible + 8 * w.code) (number_of w.key) (written_mask bits slot.memory w.mask) (number_of w.held) head
          (bytes_hold bits x.key h.key) (mask-told bits slot.memory x.mask h.mask) (bytes_hold slot.held x.held h.held),
      ap (λ b. cond b 0 number) not_zero,
    )

-- ---- cells that are alike

abbrev same_content : Content → Content → Bool
same_content a b = (a.head == b.head) && (a.key == b.key) && (a.mask == b.mask) && (a.held == b.held)

content-alike : (a b : Content) → same_content a b ≡ true → a ≡ b
content-alike a b h =
    let three = and_parts ((a.head == b.head) && (a.key == b.key) && (a.mask == b.mask)) (a.held == b.held) h in
    let two = and_parts ((a.head == b.head) && (a.key == b.key)) (a.mask == b.mask) three.0 in
    let one = and_parts (a.head == b.head) (a.key == b.key) two.0 in
    same-content b a.head a.key a.mask a.held (eqb-true a.head b.head one.0) (eqb-true a.key b.key one.1) (eqb-true a.mask b.mask two.1) (eqb-true a.held b.held three.1)

alike-content : (a : Content) → same_content a a ≡ true
alike-content a =
    and_from ((a.head == a.head) && (a.key == a.key) && (a.mask == a.mask)) (a.held == a.held)
    (and_from ((a.head == a.head) && (a.key == a.key)) (a.mask == a.mask) (and_from (a.head == a.head) (a.key == a.key) (eq-eqb a.head a.head refl) (eq-eqb a.key a.key refl)) (eq-eqb a.mask a.mask refl))
    (eq-eqb a.held a.held refl)

content-differs : (a b : Content) → same_content a b ≡ false → a ≢ b
content-differs a b h e = false≢true (sym h ∙ subst (λ (z : Content). same_content a z ≡ true) e (alike-content a))

-- ---- the cells of all slots, in order

-- how many units a stage has, and how many cells a slot
abbrev unit_count : Config → ℕ → ℕ
unit_count c k = unwrap_or (option_map (λ (stage : Stage). length stage.units) (slice_get c.stages k)) 0

abbrev cell_count : Config → ℕ → ℕ → ℕ
cell_count c k place = unwrap_or (option_map (λ (slot : SlotUnit). cells_in slot.memory) (slot_at c k place)) 0

is-cell : (c : Config) (k place n : ℕ) → n < cell_count c k place → IsCell c k place n
is-cell c k place n lt = by (slot_at c k place) lt
  where
    by : (o : Option SlotUnit) → n < unwrap_or (option_map (λ (slot : SlotUnit). cells_in slot.memory) o) 0 → IsSomeAnd o (λ slot. n < cells_in slot.memory)
    by None lt = absurd (omega (arith, lt))
    by (Some slot) lt = lt

record Within (c : Config) (k place n : ℕ) : Type 0 where
  stage : k < length c.stages
  unit : place < unit_count c k
  cell : n < cell_count c k place

within : (c : Config) (k place n : ℕ) → IsCell c k place n → Within c k place n
within c k place n h = by (slot_at c k place) refl h
  where
    by : (o : Option SlotUnit) → slot_at c k place ≡ o → IsSomeAnd o (λ slot. n < cells_in slot.memory) → Within c k place n
    by None e lt = absurd lt
    by (Some slot) e lt =
        let st = standing c k place slot e in
        let units : unit_count c k ≡ length st.stage.units = ap (λ (o : Option Stage). unwrap_or (option_map (λ (stage : Stage). length stage.units) o) 0) st.in_stages in
        let cells : cell_count c k place ≡ cells_in slot.memory = ap (λ (o : Option SlotUnit). unwrap_or (option_map (λ (s : SlotUnit). cells_in s.memory) o) 0) e in
        let unit_lt = slice_get_within st.stage.units place (Slot slot) st.in_units in
        record {
          stage = slice_get_within c.stages k st.stage st.in_stages;
          unit = omega (arith, unit_lt, units);
          cell = omega (arith, lt, cells);
        }

-- a cell before another in one slot, and in another slot of the stage
cell-first : (k place n m : ℕ) → n < m → (ltb k k || (eqb k k && (ltb place place || (eqb place place && ltb n m)))) ≡ true
cell-first k place n m lt =
    or_right (ltb k k) (eqb k k && (ltb place place || (eqb place place && ltb n m)))
    (and_from (eqb k k) (ltb place place || (eqb place place && ltb n m)) (eq-eqb k k refl)
    (or_right (ltb place place) (eqb place place && ltb n m) (and_from (eqb place place) (ltb n m) (eq-eqb place place refl) (lt-ltb n m lt))))

unit-first : (k place other n m : ℕ) → place < other → (ltb k k || (eqb k k && (ltb place other || (eqb place other && ltb n m)))) ≡ true
unit-first k place other n m lt =
    or_right (ltb k k) (eqb k k && (ltb place other || (eqb place other && ltb n m)))
    (and_from (eqb k k) (ltb place other || (eqb place other && ltb n m)) (eq-eqb k k refl) (or_left (ltb place other) (eqb place other && ltb n m) (lt-ltb place other lt)))

-- ---- those that change

module _ (c : Config) (cells next : RunCells) where
  abbrev is_kept : ℕ → ℕ → ℕ → Bool
  is_kept k place n = same_content (cells.content k place n) (next.content k place n) && (cells.number k place n == next.number k place n)

  abbrev changes : ℕ → ℕ → ℕ → Bool
  changes k place n = not (is_kept k place n)

  abbrev write_at : ℕ → ℕ → ℕ → CellWrite
  write_at k place n = write_in (slot_at c k place) k place n (next.content k place n) (next.number k place n)

  abbrev changing : ℕ → ℕ → List ℕ
  changing k place = filter (changes k place) (range_with_len 0 (cell_count c k place))

  abbrev in_place : ℕ → ℕ → List CellWrite
  in_place k place = map (write_at k place) (changing k place)

  abbrev in_stage : ℕ → List CellWrite
  in_stage k = flat_map (in_place k) (range_with_len 0 (unit_count c k))

  abbrev pub made : List CellWrite
  made = flat_map in_stage (range_with_len 0 (length c.stages))

  -- what holds of each changing cell of a slot
  all-made : (P : CellWrite → Type 0) → ((k place n : ℕ) → n < cell_count c k place → changes k place n ≡ true → P (write_at k place n)) → All P made
  all-made P each =
      All-flat_map P in_stage (range_with_len 0 (length c.stages)) (All-between (λ k. All P (in_stage k)) 0 (length c.stages) (λ k _ _.
      All-flat_map P (in_place k) (range_with_len 0 (unit_count c k)) (All-between (λ place. All P (in_place k place)) 0 (unit_count c k) (λ place _ _.
      All-map P (write_at k place) (changing k place) (λ i d lt.
      each k place (get_or (changing k place) i d) (low k place i d lt) (filter_passes (changes k place) (range_with_len 0 (cell_count c k place)) i d lt))))))
    where
      low : (k place : ℕ) → All (λ n. n < cell_count c k place) (changing k place)
      low k place = All-filter (changes k place) (λ n. n < cell_count c k place) (range_with_len 0 (cell_count c k place)) (All-between (λ n. n < cell_count c k place) 0 (cell_count c k place) (λ n _ lt. omega (arith, lt)))

  -- a changing cell of a slot is among them
  there : (k place n : ℕ) → IsCell c k place n → changes k place n ≡ true → Contains made (write_at k place n)
  there k place n cell change =
      let w = within c k place n cell in
      Contains-flat_map in_stage (range_with_len 0 (length c.stages)) k (write_at k place n) (Contains-range (length c.stages) k w.stage)
      (Contains-flat_map (in_place k) (range_with_len 0 (unit_count c k)) place (write_at k place n) (Contains-range (unit_count c k) place w.unit)
      (Contains-map (write_at k place) (changing k place) n (Contains-filter (changes k place) (range_with_len 0 (cell_count c k place)) n (Contains-range (cell_count c k place) n w.cell) change)))

  -- they are in order
  abbrev InOrder : CellWrite → CellWrite → Type 0
  InOrder a b = writes_before a b ≡ true

  place-order : (k place : ℕ) → AllPairs InOrder (in_place k place)
  place-order k place =
      AllPairs-map InOrder (write_at k place) (changing k place)
      (AllPairs-weaker (λ x y. x < y) (λ x y. InOrder (write_at k place x) (write_at k place y)) (λ x y lt. cell-first k place x y lt) (changing k place)
      (AllPairs-filter (λ x y. x < y) (changes k place) (range_with_len 0 (cell_count c k place)) (range_rises 0 (cell_count c k place))))

  stage-order : (k : ℕ) → AllPairs InOrder (in_stage k)
  stage-order k =
      pairs_flat (λ x y. x < y) InOrder (in_place k)
      (λ p q lt. All-map (λ a. All (InOrder a) (in_place k q)) (write_at k p) (changing k p) (λ i d li. All-map (InOrder (write_at k p (get_or (changing k p) i d))) (write_at k q) (changing k q) (λ j e lj.
      unit-first k p q (get_or (changing k p) i d) (get_or (changing k q) j e) lt)))
      (range_with_len 0 (unit_count c k)) (All-between (λ place. AllPairs InOrder (in_place k place)) 0 (unit_count c k) (λ place _ _. place-order k place)) (range_rises 0 (unit_count c k))

  -- what is made of two stages
  across : (k l : ℕ) → k < l → All (λ a. All (InOrder a) (in_stage l)) (in_stage k)
  across k l lt =
      each-in k (λ a. All (InOrder a) (in_stage l)) (λ place n. each-in l (InOrder (write_at k place n)) (λ other m. or_left (ltb k l) (eqb k l && (ltb place other || (eqb place other && ltb n m))) (lt-ltb k l lt)))
    where
      each-in : (j : ℕ) (P : CellWrite → Type 0) → ((place n : ℕ) → P (write_at j place n)) → All P (in_stage j)
      each-in j P each =
          All-flat_map P (in_place j) (range_with_len 0 (unit_count c j)) (All-between (λ place. All P (in_place j place)) 0 (unit_count c j) (λ place _ _.
          All-map P (write_at j place) (changing j place) (λ i d _. each place (get_or (changing j place) i d))))

  in-order : AllPairs InOrder made
  in-order =
      pairs_flat (λ x y. x < y) InOrder in_stage across (range_with_len 0 (length c.stages))
      (All-between (λ k. AllPairs InOrder (in_stage k)) 0 (length c.stages) (λ k _ _. stage-order k)) (range_rises 0 (length c.stages))

  -- each puts what its cell is to hold
  says : AreFit c next → (k place n : ℕ) → n < cell_count c k place
      → (said_content c (write_at k place n) ≡ next.content k place n) × (said_number (write_at k place n) ≡ next.number k place n)
  says fit k place n lt = by (slot_at c k place) refl lt
    where
      by : (o : Option SlotUnit) → slot_at c k place ≡ o → n < unwrap_or (option_map (λ (slot : SlotUnit). cells_in slot.memory) o) 0
          → (said_content c (write_at k place n) ≡ next.content k place n) × (said_number (write_at k place n) ≡ next.number k place n)
      by None e lt = absurd (omega (arith, lt))
      by (Some slot) e lt =
          let put = puts slot k place n (next.content k place n) (next.number k place n) (fit k place n slot e lt) in (
            ap (λ (o : Option SlotUnit). unwrap_or (option_map (written_content (write_in o k place n (next.content k place n) (next.number k place n))) o) no_content) e ∙ put.0,
            put.1,
          )

  -- a changing cell changes, and all others stay
  differs : (k place n : ℕ) → changes k place n ≡ true
      → (cells.content k place n ≡ next.content k place n → ⊥) ⊎ (cells.number k place n ≡ next.number k place n → ⊥)
  differs k place n change =
      elim (and_cases (same_content (cells.content k place n) (next.content k place n)) (cells.number k place n == next.number k place n) (not-true (is_kept k place n) change)) [
        | inl content ↦ inl (content-differs (cells.content k place n) (next.content k place n) content)
        | inr number ↦ inr (eqb-false (cells.number k place n) (next.number k place n) number)
      ]

  others : (k place n : ℕ) → IsCell c k place n → list_any (λ w. is_changed w k place n) made ≡ false
      → (cells.content k place n ≡ next.content k place n) × (cells.number k place n ≡ next.number k place n)
  others k place n cell none = by (is_kept k place n) refl
    where
      its-own : is_changed (write_at k place n) k place n ≡ true
      its-own = and_from (eqb k k && eqb place place) (eqb n n) (and_from (eqb k k) (eqb place place) (eq-eqb k k refl) (eq-eqb place place refl)) (eq-eqb n n refl)

      by : (b : Bool) → is_kept k place n ≡ b → (cells.content k place n ≡ next.content k place n) × (cells.number k place n ≡ next.number k place n)
      by true e =
          let parts = and_parts (same_content (cells.content k place n) (next.content k place n)) (cells.number k place n == next.number k place n) e in
          (content-alike (cells.content k place n) (next.content k place n) parts.0, eqb-true (cells.number k place n) (next.number k place n) parts.1)
      by false e =
          absurd (false≢true (sym none ∙ list_any-Contains (λ w. is_changed w k place n) made (write_at k place n) (there k place n cell (not_from_false (is_kept k place n) e)) its-own))

-- cells become others by changed cells, where these hold what changed cells can put there
pub are_writes_made : (c : Config) (cells next : RunCells) → AreFit c next → (writes : List CellWrite) × AreWrites c cells next writes
are_writes_made c cells next fit = (
  made c cells next,
  writes-are c cells next (made c cells next) (in-order c cells next)
      (all-made c cells next (λ w. IsCell c w.stage w.unit w.cell) (λ k place n lt _. is-cell c k place n lt))
      (all-made c cells next (λ w. (cells.content w.stage w.unit w.cell ≡ next.content w.stage w.unit w.cell → ⊥) ⊎ (cells.number w.stage w.unit w.cell ≡ next.number w.stage w.unit w.cell → ⊥))
      (λ k place n _ change. differs c cells next k place n change))
      (all-made c cells next (λ w. (said_content c w ≡ next.content w.stage w.unit w.cell) × (said_number w ≡ next.number w.stage w.unit w.cell)) (λ k place n lt _. says c cells next fit k place n lt))
      (others c cells next),
)
