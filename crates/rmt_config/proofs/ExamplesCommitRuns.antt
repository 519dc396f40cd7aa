-- Runs of packets and commits whose inputs are known, each shown to be one that the list may have.
use Rattle.std.proofs.Common.{◌≡◌, ◌≢◌, ℕ, Bool, true, false, cond, ◌&&◌, ◌==◌, List, [], ◌∷◌, Option, Some, None, ◌⊎◌, inl, refl, ap, ◌∙◌, sym, arith}
use Rattle.std.specs.Prelude.{AllPairs, IsSomeAnd, option_map, replicate, unwrap_or}
use Rattle.std.proofs.lemmas.Bool.{and_parts, eqb-true}
use Rattle.std.proofs.lemmas.List.Elements.{All-nil, All-from_recursion}
use Rattle.std.proofs.lemmas.List.Kept.{AllPairs-cons}
use Rattle.rmt_ast.specs.declared.entry.Entry.{Entry}
use Rattle.rmt_ast.specs.NameRules.{terms_named}
use Rattle.rmt_ast.specs.Changes.{Adds, Change, Removes, list_of}
use Rattle.rmt_ast.specs.Events.{Arrives, Commits}
use Rattle.rmt_config.specs.Types.{SlotUnit}
use Rattle.rmt_config.specs.declared.config.Memory.TheVariants.{Without}
use Rattle.rmt_config.specs.Cells.{Content, is_occupied, visible_bits}
use Rattle.rmt_config.specs.declared.cell_write.CellWrite.{CellWrite}
use Rattle.rmt_config.specs.RunCells.{RunCells, is_changed, no_content, own_cells, slot_at, with_write, written_content}
use Rattle.rmt_config.specs.Rooms.{PartAt, is_same}
use Rattle.rmt_config.specs.RunInputs.{Enters, Idle, Turns}
use Rattle.rmt_config.specs.Commits.{AreFilled, AreWrites, IsCell, IsFilled, Makes, Placed, RunState, RunsFrom, behind_commit, behind_packet, ends, arrives, commits, filled, leaving_content, moves, placed_after, settled, settled_content, settled_number, stays, without_bit, writes_before}
use Rattle.rmt_config.proofs.ExamplesParts.{packet}
use Rattle.rmt_config.proofs.ExamplesRunCells.{replaced_in_flight, seven, seven_holds, ternary, ternary_names}
use Rattle.rmt_config.proofs.ExamplesCommits.{config, entry, lists, names, row, rows}

-- the cells of a configuration in which b has the entry `7 go 5` alone
abbrev cells : RunCells
cells = record {
  version = 0;
  seed = 0;
  content = λ k place n. cond (is_changed (seven 2376 3 5 0) k place n) (seven_holds 7 5) no_content;
  number = λ k place n. 0;
}

abbrev begin : RunState
begin = record { cells = cells; entries = record { lists = lists (entry 0 7 5 ∷ []); next = 1 }; cycle = 0; older_gone = 0; all_gone = 0 }

-- `- b 7;+ b 7 go 6`
abbrev replace : List Change
replace = Removes 1 (record { tests = record { value = 7; mask = 255 } ∷ []; rank = 0 }) ∷ Adds (entry 0 7 6) ∷ []

-- the entry that comes has a room
abbrev placed : List Placed
placed = unwrap_or (placed_after config names cells (lists (entry 0 7 5 ∷ [])) (lists (entry 1 7 6 ∷ []))) []

abbrev next : RunCells
next = settled config names cells (lists (entry 0 7 5 ∷ [])) placed

abbrev old_write : CellWrite
old_write = seven 2376 1 5 0

abbrev new_write : CellWrite
new_write = seven 2377 2 6 1

-- the slot of b
abbrev slot_b : SlotUnit
slot_b = unwrap_or (slot_at config 1 0) (record { node = 0; guard = None; counted = false; actions = 0; last = false; held = 0; keys = []; memory = Without; numbers = [] })

slot_is : (w : CellWrite) → w.stage ≡ 1 → w.unit ≡ 0 → (k place n : ℕ) → is_changed w k place n ≡ true → slot_at config k place ≡ Some slot_b
slot_is w stage unit k place n h =
    let parts : ((w.stage == k) && (w.unit == place) ≡ true) × ((w.cell == n) ≡ true) = and_parts _ _ h in
    let two : ((w.stage == k) ≡ true) × ((w.unit == place) ≡ true) = and_parts _ _ parts.0 in
    let at_k : k ≡ 1 = sym (eqb-true w.stage k two.0) ∙ stage in
    let at_place : place ≡ 0 = sym (eqb-true w.unit place two.1) ∙ unit in
    ap (λ j. slot_at config j place) at_k ∙ ap (slot_at config 1) at_place

-- what a cell held, by whether it is the old one
abbrev held : Bool → Content
held old = cond old (seven_holds 7 5) no_content

-- the entry that comes, as it is placed
abbrev first : List Placed → Option Placed
first [] = None
first (p ∷ ps) = Some p

content_is : (k place n : ℕ) → (with_write config (with_write config cells old_write) new_write).content k place n ≡ next.content k place n
content_is k place n = by (is_changed new_write k place n) (slot_is new_write refl refl k place n)
  where
    old_is : (o : Bool) → (o ≡ true → slot_at config k place ≡ Some slot_b)
        → cond o (unwrap_or (option_map (written_content old_write) (slot_at config k place)) no_content) (held o)
        ≡ cond (is_occupied (held o).head) (unwrap_or (option_map (λ (slot : SlotUnit). leaving_content 1 slot (held o)) (slot_at config k place)) (held o)) (held o)
    old_is true there = let at = there refl in rw at refl
    old_is false there = refl

    by : (b : Bool) → (b ≡ true → slot_at config k place ≡ Some slot_b)
        → cond b (unwrap_or (option_map (written_content new_write) (slot_at config k place)) no_content) ((with_write config cells old_write).content k place n)
        ≡ settled_content config names cells (lists (entry 0 7 5 ∷ [])) (cond b (first placed) None) k place n
    by true there = ap (λ (s : Option SlotUnit). unwrap_or (option_map (written_content new_write) s) no_content) (there refl)
    by false there = old_is (is_changed old_write k place n) (slot_is old_write refl refl k place n)

number_is : (k place n : ℕ) → (with_write config (with_write config cells old_write) new_write).number k place n ≡ next.number k place n
number_is k place n = by (is_changed new_write k place n)
  where
    old_is : (o : Bool) → ◌≡◌ {A = ℕ} (cond o 0 0) (cond (visible_bits (without_bit 1 (held o).head) == 0) 0 0)
    old_is true = refl
    old_is false = refl

    by : (b : Bool) → ◌≡◌ {A = ℕ} (cond b 1 ((with_write config cells old_write).number k place n)) (settled_number cells (cond b (first placed) None) k place n)
    by true = refl
    by false = old_is (is_changed old_write k place n)

-- the two cells that change, in order
writes_are : AreWrites config cells next (old_write ∷ new_write ∷ [])
writes_are = record {
  in_order = AllPairs-cons before old_write (new_write ∷ []) (All-from_recursion (before old_write) (new_write ∷ []) (refl, tt)) (AllPairs-cons before new_write [] (All-nil (before new_write)) none);
  cells_are = All-from_recursion (λ (w : CellWrite). IsCell config w.stage w.unit w.cell) (old_write ∷ new_write ∷ []) (omega arith, (omega arith, tt));
  change = All-from_recursion (λ (w : CellWrite). (cells.content w.stage w.unit w.cell ≢ next.content w.stage w.unit w.cell) ⊎ (cells.number w.stage w.unit w.cell ≢ next.number w.stage w.unit w.cell)) (old_write ∷ new_write ∷ [])
      (inl (λ e. let heads : 7 ≡ 3 = ap (λ (x : Content). x.head) e in omega (arith, heads)), (inl (λ e. let heads : 0 ≡ 5 = ap (λ (x : Content). x.head) e in omega (arith, heads)), tt));
  content = λ k place n _. content_is k place n;
  number = λ k place n _. number_is k place n;
}
  where
    before : CellWrite → CellWrite → Type 0
    before a b = writes_before a b ≡ true

    none : AllPairs before []
    none i j d below within = absurd (omega (arith, within))

-- `0 07;- b 7;+ b 7 go 6;commit;0 07`: the packet behind the commit enters in cycle 4
pub replaced_in_flight_runs : RunsFrom config names begin (Arrives (packet 0 (7 ∷ [])) ∷ Commits replace ∷ Arrives (packet 0 (7 ∷ [])) ∷ []) replaced_in_flight
replaced_in_flight_runs =
    arrives begin (packet 0 (7 ∷ [])) _ _
    (commits (behind_packet config begin) replace _ (Enters (packet 0 (7 ∷ [])) ∷ replicate 24 Idle) false 0 next (old_write ∷ new_write ∷ []) (stays placed refl) writes_are
    (arrives behind (packet 0 (7 ∷ [])) [] (replicate 24 Idle) (ends (behind_packet config behind))))
  where
    behind : RunState
    behind = behind_commit (behind_packet config begin) replace false 0 (old_write ∷ new_write ∷ []) next

-- a commit without changes makes a new version and changes no cell
abbrev kept : List Placed
kept = unwrap_or (placed_after config names cells (lists (entry 0 7 5 ∷ [])) (lists (entry 0 7 5 ∷ []))) []

abbrev same : RunCells
same = settled config names cells (lists (entry 0 7 5 ∷ [])) kept

same_content : (k place n : ℕ) → cells.content k place n ≡ same.content k place n
same_content k place n = by (is_changed old_write k place n) refl
  where
    by : (b : Bool) → is_changed old_write k place n ≡ b → cells.content k place n ≡ settled_content config names cells (lists (entry 0 7 5 ∷ [])) (cond b (first kept) None) k place n
    by true e = rw e refl
    by false e = rw e refl

same_number : (k place n : ℕ) → cells.number k place n ≡ same.number k place n
same_number k place n = by (is_changed old_write k place n) refl
  where
    by : (b : Bool) → is_changed old_write k place n ≡ b → cells.number k place n ≡ settled_number cells (cond b (first kept) None) k place n
    by true e = refl
    by false e = rw e refl

nothing_written : AreWrites config cells same []
nothing_written = record {
  in_order = λ i j d below within. absurd (omega (arith, within));
  cells_are = All-nil (λ (w : CellWrite). IsCell config w.stage w.unit w.cell);
  change = All-nil (λ (w : CellWrite). (cells.content w.stage w.unit w.cell ≢ same.content w.stage w.unit w.cell) ⊎ (cells.number w.stage w.unit w.cell ≢ same.number w.stage w.unit w.cell));
  content = λ k place n _. same_content k place n;
  number = λ k place n _. same_number k place n;
}

-- `0 07;commit`, in 25 cycles
pub empty_commit_runs : RunsFrom config names begin (Arrives (packet 0 (7 ∷ [])) ∷ Commits [] ∷ []) (Enters (packet 0 (7 ∷ [])) ∷ Turns 0 ∷ replicate 23 Idle)
empty_commit_runs =
    arrives begin (packet 0 (7 ∷ [])) _ _
    (commits (behind_packet config begin) [] [] (replicate 23 Idle) false 0 same [] (stays kept refl) nothing_written (ends (behind_commit (behind_packet config begin) [] false 0 [] same)))

-- ---- rows that move

abbrev part_t : PartAt
part_t = record { stage = 0; place = 0; first = 0; slot = unwrap_or (slot_at ternary 0 0) (record { node = 0; guard = None; counted = false; actions = 0; last = false; held = 0; keys = []; memory = Without; numbers = [] }) }

abbrev in_row : Entry → ℕ → Placed
in_row e n = record { entry = e; room = record { part = part_t; cell = n } }

-- with an entry of priority 25 between them the three fill the rows 0 to 2
abbrev three : List Entry
three = row 0 20 0x10 0xf0 ∷ row 1 30 0 0 ∷ row 2 25 7 255 ∷ []

abbrev in_rows : List Placed
in_rows = in_row (row 0 20 0x10 0xf0) 0 ∷ in_row (row 1 30 0 0) 2 ∷ in_row (row 2 25 7 255) 1 ∷ []

rows_are_filled : AreFilled ternary ternary_names 0 (three ∷ []) in_rows
rows_are_filled = record {
  each = refl;
  apart = AllPairs-cons apart (in_row (row 0 20 0x10 0xf0) 0) (in_row (row 1 30 0 0) 2 ∷ in_row (row 2 25 7 255) 1 ∷ []) (All-from_recursion (apart (in_row (row 0 20 0x10 0xf0) 0)) (in_row (row 1 30 0 0) 2 ∷ in_row (row 2 25 7 255) 1 ∷ []) (refl, (refl, tt)))
      (AllPairs-cons apart (in_row (row 1 30 0 0) 2) (in_row (row 2 25 7 255) 1 ∷ []) (All-from_recursion (apart (in_row (row 1 30 0 0) 2)) (in_row (row 2 25 7 255) 1 ∷ []) (refl, tt))
      (AllPairs-cons apart (in_row (row 2 25 7 255) 1) [] (All-nil (apart (in_row (row 2 25 7 255) 1))) (λ i j d below within. absurd (omega (arith, within)))));
  rooms = All-from_recursion (λ (p : Placed). IsSomeAnd (terms_named ternary_names p.entry.table) (λ t. IsFilled ternary 0 t t.kind (list_of (three ∷ []) p.entry.table) p.entry p.room)) in_rows (refl, (refl, (refl, tt)));
}
  where
    apart : Placed → Placed → Type 0
    apart p q = is_same p.room q.room ≡ false

-- no row between them is free, so they move, and the seed stays the first
pub rows_move : Makes ternary ternary_names (own_cells ternary) (rows ∷ []) (three ∷ []) true 0 (filled ternary ternary_names (own_cells ternary) in_rows)
rows_move = moves 0 in_rows refl (record { in_range = omega arith; first = λ s placed lt are. absurd (omega (arith, lt)) }) rows_are_filled

-- each has both visible bits, and the row behind them is empty
pub rows_moved : ((filled ternary ternary_names (own_cells ternary) in_rows).content 0 0 1 ≡ record { head = 7; key = 7; mask = 255; held = 1 })
    × ((filled ternary ternary_names (own_cells ternary) in_rows).number 0 0 1 ≡ 2) × ((filled ternary ternary_names (own_cells ternary) in_rows).content 0 0 3 ≡ record { head = 0; key = 0; mask = 0; held = 0 })
rows_moved = (refl, refl, refl)
