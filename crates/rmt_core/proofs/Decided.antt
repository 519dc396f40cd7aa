-- A configuration keeps the rules of form, or it doesn't.
use Rattle.std.proofs.Common.{◌≡◌, ◌⊎◌, inl, inr, ⊎_elim, ℕ, zero, suc, ◌+◌, ◌*◌, ◌^◌, ◌<◌, ◌≤◌, Bool, true, false, eqb, List, [], ◌∷◌, length, sym, refl, subst, arith}
use Rattle.std.specs.Prelude.{All, IsTrue, ◌==◌, not}
use Rattle.std.proofs.lemmas.Bool.{cases_eq, cases_lt, ne_eqb}
use Rattle.std.proofs.Math.Nat.{le-mul_of_pos_right}
use Rattle.std.proofs.lemmas.Nat.{pow_pos}
use Rattle.std.proofs.lemmas.List.{drop_all}
use Rattle.std.proofs.lemmas.List.Elements.{All-cons, All-head, All-nil, All-tail}
use Rattle.rmt_core.specs.Types.{Config, Stage, SramRow, TcamRow, SlotUnit, Memory}
use Rattle.rmt_config.specs.declared.config.Memory.TheVariants.{Without, Exact, Ternary}
use Rattle.rmt_config.specs.CellForm.{Coded, EndsAt, MemoryEnds, RecordsEnd, SlotHolds, StageHolds, cells_of, coded_from, entries_are_numbered, is_clear, none, exact, ternary, numbers_are_formed}
use Rattle.rmt_config.specs.Cells.{Blocks, blocks_at, cells_in, content_of, record_at, sram_row, tcam_row, unit_row}
use Rattle.rmt_config.specs.Form.{Formed, WholeIsFormed, items_are_formed, names_are_fit, visible_with}
use Rattle.rmt_config.proofs.HeldRows.{held_of}
use Rattle.rmt_config.specs.LaneForm.{bits_of_lanes}
use Rattle.rmt_config.specs.BlockCounts.{divided_up, record_units, record_width, records_a_row}
use Rattle.rmt_config.specs.StageForm.{rows_are_formed}
use Rattle.rmt_config.specs.TableForm.{tables_are_formed}
use Rattle.rmt_config.specs.TailForm.{has_names_with_tails}
use Rattle.std.specs.List.{list_all, list_any}
use Rattle.std.proofs.Math.Bool.{and-false}

-- it holds, or it does not
abbrev pub IsDecided : Type 0 → Type 0
IsDecided P = P ⊎ (P → ⊥)

both : {P Q : Type 0} → IsDecided P → IsDecided Q → IsDecided (P × Q)
both (inl p) (inl q) = inl (p, q)
both (inl p) (inr never) = inr (λ x. never x.1)
both (inr never) q = inr (λ x. never x.0)

along : {P Q : Type 0} → (P → Q) → (Q → P) → IsDecided P → IsDecided Q
along f h (inl p) = inl (f p)
along f h (inr never) = inr (λ q. never (h q))

under : {P Q : Type 0} → IsDecided P → IsDecided Q → IsDecided (P → Q)
under (inl p) (inl q) = inl (λ _. q)
under (inl p) (inr never) = inr (λ f. never (f p))
under (inr never) q = inl (λ p. absurd (never p))

of_bool : (b : Bool) → IsDecided (IsTrue b)
of_bool true = inl refl
of_bool false = inr (λ e. cc)

of_less : (a b : ℕ) → IsDecided (a < b)
of_less a b = ⊎_elim (λ less. inl less) (λ le. inr (λ less. omega arith)) (cases_lt a b)

of_most : (a b : ℕ) → IsDecided (a ≤ b)
of_most a b = ⊎_elim (λ less. inr (λ le. omega arith)) (λ le. inl le) (cases_lt b a)

-- numbers below a number
below : (n : ℕ) (P : ℕ → Type 0) → ((k : ℕ) → IsDecided (P k)) → IsDecided ((k : ℕ) → k < n → P k)
below zero P d = inl (λ k less. absurd (omega arith))
below (suc n) P d = along (λ x k less. last x.0 x.1 k less) (λ f. ((λ k less. f k (omega arith)), f n (omega arith))) (both (below n P d) (d n))
  where
    last : ((k : ℕ) → k < n → P k) → P n → (k : ℕ) → k < suc n → P k
    last before here k less = ⊎_elim (λ e. subst P (sym e) here) (λ not. before k (omega (arith, not))) (cases_eq k n)

each : {X : Type 0} (P : X → Type 0) → ((x : X) → IsDecided (P x)) → (xs : List X) → IsDecided (All P xs)
each P d [] = inl (All-nil P)
each P d (x ∷ xs) = along (λ y. All-cons P x xs y.0 y.1) (λ all. (All-head P x xs all, All-tail P x xs all)) (both (d x) (each P d xs))

-- ---- rows that are listed end somewhere

abbrev IsClearFrom : ℕ → Blocks → Type 0
IsClearFrom m held = (block row : ℕ) → m ≤ row → held block row ≡ 0

clear_from : {X : Type 0} (block_of row_of part : X → ℕ) (rows : List X) → (m : ℕ) × IsClearFrom m (held_of block_of row_of part rows)
clear_from block_of row_of part [] = (0, λ block row le. refl)
clear_from {X} block_of row_of part (r ∷ rows) =
    let rest = clear_from block_of row_of part rows in
    (row_of r + 1 + rest.0, λ block row le. one block row (omega arith) (rest.1 block row (omega arith)))
  where
    one : (block row : ℕ) → row_of r < row → held_of block_of row_of part rows block row ≡ 0 → held_of block_of row_of part (r ∷ rows) block row ≡ 0
    one block row less e =
        let other : eqb (row_of r) row ≡ false = ne_eqb (row_of r) row (λ same. omega arith) in
        rw (other, and-false (eqb (block_of r) block)) e

module _ (size : ℕ) (held : Blocks) (m : ℕ) (clear : IsClearFrom m held) where
  clear_unit : (row : ℕ) → m ≤ row → (blocks : List ℕ) → unit_row size held row blocks ≡ 0
  clear_unit row le [] = refl
  clear_unit row le (block ∷ blocks) = rw (clear block row le, clear_unit row le blocks) (omega arith)

  no_unit : (blocks : List ℕ) (many unit row : ℕ) → length blocks ≤ unit → unit_row size held row (blocks_at blocks many unit) ≡ 0
  no_unit blocks zero unit row le = refl
  no_unit blocks (suc many) unit row le =
      let more : unit ≤ unit * suc many = le-mul_of_pos_right unit (omega arith) in
      let far : length blocks ≤ unit * suc many = omega (arith, le, more) in
      rw (drop_all (unit * suc many) blocks far) refl

  pub ends_at : (blocks : List ℕ) (many end : ℕ) → IsDecided (EndsAt size held blocks many end)
  ends_at blocks many end =
      along all (λ e unit _ row _. e unit row)
      (below (length blocks) (λ unit. (row : ℕ) → row < m → unit_row size held row (blocks_at blocks many unit) < 2 ^ end)
      (λ unit. below m (λ row. unit_row size held row (blocks_at blocks many unit) < 2 ^ end) (λ row. of_less (unit_row size held row (blocks_at blocks many unit)) (2 ^ end))))
    where
      all : ((unit : ℕ) → unit < length blocks → (row : ℕ) → row < m → unit_row size held row (blocks_at blocks many unit) < 2 ^ end) → EndsAt size held blocks many end
      all f unit row =
          ⊎_elim (λ near. ⊎_elim (λ less. f unit near row less) (λ le. rw (clear_unit row le (blocks_at blocks many unit)) (pow_pos end)) (cases_lt row m))
          (λ far. rw (no_unit blocks many unit row far) (pow_pos end)) (cases_lt unit (length blocks))

-- ---- memory

records_end : (sram : Blocks) (m : ℕ) → IsClearFrom m sram → (records : List ℕ) (quanta thousands n : ℕ) → IsDecided (RecordsEnd sram records quanta thousands n)
records_end sram m clear records quanta thousands n =
    along (λ x. record { rows = x.0; quantum = λ u i near from to. x.1 u near i to from }) (λ r. (r.rows, λ u near i to from. r.quantum u i near from to))
    (both (ends_at 112 sram m clear records (record_width n) (records_a_row n * n))
    (below quanta (λ u. (i : ℕ) → i < record_units thousands n * (1024 * records_a_row n) → 1024 * thousands ≤ i → record_at sram records thousands n u i ≡ 0)
    (λ u. below (record_units thousands n * (1024 * records_a_row n)) (λ i. 1024 * thousands ≤ i → record_at sram records thousands n u i ≡ 0)
    (λ i. under (of_most (1024 * thousands) i) (cases_eq (record_at sram records thousands n u i) 0)))))

-- what MemoryEnds says of a memory
abbrev Ends : Stage → SlotUnit → Memory → Type 0
Ends stage s Without = Unit {0}
Ends stage s (Exact k p d w ks rs cs) = EndsAt 112 (sram_row stage.srows) ks k (p * (bits_of_lanes s.keys + 8)) × RecordsEnd (sram_row stage.srows) rs d (4 * p) s.held
Ends stage s (Ternary d ks rs cs) =
    EndsAt 40 (tcam_row (λ t. t.mask) stage.trows) ks (divided_up (bits_of_lanes s.keys) 40) (bits_of_lanes s.keys) × RecordsEnd (sram_row stage.srows) rs d 2 (s.held + 8)

ends_says : (stage : Stage) (s : SlotUnit) {m : Memory} → MemoryEnds stage s m → Ends stage s m
ends_says stage s none = tt
ends_says stage s (exact k p d w ks rs cs a b) = (a, b)
ends_says stage s (ternary d ks rs cs a b) = (a, b)

memory_ends : (stage : Stage) (s : SlotUnit) (m : Memory) → IsDecided (MemoryEnds stage s m)
memory_ends stage s Without = inl none
memory_ends stage s (Exact k p d w ks rs cs) =
    let clear = clear_from (λ (r : SramRow). r.block) (λ (r : SramRow). r.row) (λ (r : SramRow). r.bits) stage.srows in
    along (λ x. exact k p d w ks rs cs x.0 x.1) (ends_says stage s)
    (both (ends_at 112 (sram_row stage.srows) clear.0 clear.1 ks k (p * (bits_of_lanes s.keys + 8))) (records_end (sram_row stage.srows) clear.0 clear.1 rs d (4 * p) s.held))
memory_ends stage s (Ternary d ks rs cs) =
    let clear = clear_from (λ (r : SramRow). r.block) (λ (r : SramRow). r.row) (λ (r : SramRow). r.bits) stage.srows in
    let masks = clear_from (λ (r : TcamRow). r.block) (λ (r : TcamRow). r.row) (λ (r : TcamRow). r.mask) stage.trows in
    along (λ x. ternary d ks rs cs x.0 x.1) (ends_says stage s)
    (both (ends_at 40 (tcam_row (λ t. t.mask) stage.trows) masks.0 masks.1 ks (divided_up (bits_of_lanes s.keys) 40) (bits_of_lanes s.keys))
    (records_end (sram_row stage.srows) clear.0 clear.1 rs d 2 (s.held + 8)))

-- ---- the whole

slot_holds : (visible : ℕ) (stage : Stage) (first : ℕ) (s : SlotUnit) → IsDecided (SlotHolds visible stage first s)
slot_holds visible stage first s =
    along (λ x. record { numbers = x.0; others = x.1.0; ends = x.1.1 }) (λ h. (h.numbers, (h.others, h.ends)))
    (both (of_bool (numbers_are_formed visible first stage s))
    (both (below (cells_in s.memory) (λ n. IsTrue (not (list_any (λ m. m == n) (cells_of s))) → IsTrue (is_clear s.memory (content_of stage s n)))
    (λ n. under (of_bool (not (list_any (λ m. m == n) (cells_of s)))) (of_bool (is_clear s.memory (content_of stage s n)))))
    (memory_ends stage s s.memory)))

stage_holds : (visible : ℕ) (stage : Stage) → IsDecided (StageHolds visible stage)
stage_holds visible stage = each (λ (c : Coded). SlotHolds visible stage c.first c.slot) (λ (c : Coded). slot_holds visible stage c.first c.slot) (coded_from 0 stage.units)

whole_is_decided : (c : Config) → IsDecided (WholeIsFormed c)
whole_is_decided c =
    along (λ x. record { rows = x.0; tables = x.1.0; memory = x.1.1.0; numbers = x.1.1.1.0; names = x.1.1.1.1.0; tails = x.1.1.1.1.1 })
    (λ w. (w.rows, (w.tables, (w.memory, (w.numbers, (w.names, w.tails))))))
    (both (of_bool (list_all rows_are_formed c.stages)) (both (of_bool (tables_are_formed c))
    (both (each (StageHolds (visible_with c.names)) (stage_holds (visible_with c.names)) c.stages) (both (of_bool (entries_are_numbered c))
    (both (of_bool (names_are_fit c c.names)) (of_bool (has_names_with_tails c)))))))

pub form_is_decided : (c : Config) → IsDecided (Formed c)
form_is_decided c =
    along (λ x. record { items = x.0; whole = x.1 }) (λ f. (f.items, f.whole)) (both (of_bool (items_are_formed c)) (whole_is_decided c))
