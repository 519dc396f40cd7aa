-- Guards, tables and entry numbers that keep the rules of form, and such as break one.
use Rattle.std.specs.Prelude.{◌≡◌, ℕ, List, [], ◌∷◌, map, Bool, true, false, Option, Some, None, refl}
use Rattle.rmt_config.specs.Types.{Config, Unit as ChipUnit, UnitGuard, SlotUnit, CellNumber, Memory}
use Rattle.rmt_config.specs.declared.config.Unit.TheVariants.{Gate, Slot}
use Rattle.rmt_config.specs.declared.config.Memory.TheVariants.{Exact, Ternary}
use Rattle.rmt_config.specs.TableForm.{tables_are_formed}
use Rattle.rmt_config.specs.CellForm.{entries_are_numbered}
use Rattle.rmt_config.proofs.ExamplesParts.{lane, plain_slot, plain_stage, one_byte}

-- units by stage: these rules look at nothing else
abbrev of_units : List (List ChipUnit) → Config
of_units stages = one_byte (map (λ units. plain_stage 0 units []) stages)

abbrev gate : ℕ → Option UnitGuard → ChipUnit
gate node guard = Gate (record { node = node; guard = guard; tests = record { lane = lane 0 1 1; value = 1; mask = 1 } ∷ [] })

-- runs where this node has had outcome 1
abbrev under : ℕ → Option UnitGuard
under parent = Some (record { parent = parent; mask = 2 })

-- a part of a table with a key of 8 bits
abbrev slot : ℕ → Option UnitGuard → Bool → Memory → List CellNumber → SlotUnit
slot node guard last memory numbers =
    record { node = node; guard = guard; counted = false; actions = 1; last = last; held = 0; keys = lane 1 0 8 ∷ []; memory = memory; numbers = numbers }

abbrev part : ℕ → Bool → Memory → ChipUnit
part node last memory = Slot (slot node None last memory [])

-- seven cells in a row of one block, whose first way has this number
abbrev exact : ℕ → Memory
exact first_way = Exact 1 7 1 first_way [] [] []

abbrev ternary : Memory
ternary = Ternary 1 [] [] []

-- ---- guards

-- a parent earlier in the stage
pub guard_in_stage : tables_are_formed (of_units ((gate 0 None ∷ plain_slot 1 (under 0) ∷ []) ∷ [])) ≡ true
guard_in_stage = refl

-- a parent in an earlier stage
pub guard_behind_stage : tables_are_formed (of_units ((gate 0 None ∷ []) ∷ (plain_slot 1 (under 0) ∷ []) ∷ [])) ≡ true
guard_behind_stage = refl

-- a unit under its own node
pub guard_on_itself : tables_are_formed (of_units ((gate 0 (under 0) ∷ []) ∷ [])) ≡ false
guard_on_itself = refl

-- a parent that has no unit
pub guard_on_no_unit : tables_are_formed (of_units ((gate 0 None ∷ plain_slot 1 (under 2) ∷ []) ∷ [])) ≡ false
guard_on_no_unit = refl

-- a parent later in the stage
pub guard_before_its_parent : tables_are_formed (of_units ((plain_slot 1 (under 0) ∷ gate 0 None ∷ []) ∷ [])) ≡ false
guard_before_its_parent = refl

-- a parent in a later stage
pub guard_before_a_later_stage : tables_are_formed (of_units ((plain_slot 1 (under 0) ∷ []) ∷ (gate 0 None ∷ []) ∷ [])) ≡ false
guard_before_a_later_stage = refl

-- behind the last part of a split table
pub guard_behind_parts : tables_are_formed (of_units ((part 0 false ternary ∷ []) ∷ (part 0 true ternary ∷ plain_slot 1 (under 0) ∷ []) ∷ [])) ≡ true
guard_behind_parts = refl

-- between the parts of a split table
pub guard_between_parts : tables_are_formed (of_units ((part 0 false ternary ∷ plain_slot 1 (under 0) ∷ []) ∷ (part 0 true ternary ∷ []) ∷ [])) ≡ false
guard_between_parts = refl

-- ---- the units of a node

-- a gate is alone
pub two_gates : tables_are_formed (of_units ((gate 0 None ∷ []) ∷ (gate 0 None ∷ []) ∷ [])) ≡ false
two_gates = refl

-- no slot has a gate's node
pub gate_and_slot : tables_are_formed (of_units ((gate 0 None ∷ []) ∷ (part 0 true ternary ∷ []) ∷ [])) ≡ false
gate_and_slot = refl

-- whichever stands first
pub slot_and_gate : tables_are_formed (of_units ((part 0 false ternary ∷ []) ∷ (gate 0 None ∷ []) ∷ [])) ≡ false
slot_and_gate = refl

-- a slot without memory is its table's last part
pub two_plain_slots : tables_are_formed (of_units ((plain_slot 0 None ∷ []) ∷ (plain_slot 0 None ∷ []) ∷ [])) ≡ false
two_plain_slots = refl

-- three parts, and another table between them
pub three_parts : tables_are_formed (of_units ((part 0 false (exact 0) ∷ []) ∷ (part 1 true ternary ∷ part 0 false (exact 4) ∷ []) ∷ (part 0 true (exact 8) ∷ []) ∷ [])) ≡ true
three_parts = refl

-- two parts in one stage
pub parts_in_one_stage : tables_are_formed (of_units ((part 0 false ternary ∷ part 0 true ternary ∷ []) ∷ [])) ≡ false
parts_in_one_stage = refl

-- no part is the last
pub no_last : tables_are_formed (of_units ((part 0 false ternary ∷ []) ∷ (part 0 false ternary ∷ []) ∷ [])) ≡ false
no_last = refl

-- two parts are
pub two_lasts : tables_are_formed (of_units ((part 0 true ternary ∷ []) ∷ (part 0 true ternary ∷ []) ∷ [])) ≡ false
two_lasts = refl

-- the first alone is
pub first_is_last : tables_are_formed (of_units ((part 0 true ternary ∷ []) ∷ (part 0 false ternary ∷ []) ∷ [])) ≡ false
first_is_last = refl

-- a first part whose ways begin at 4
pub ways_of_the_first : tables_are_formed (of_units ((part 0 true (exact 4) ∷ []) ∷ [])) ≡ false
ways_of_the_first = refl

-- a second part whose ways begin at 0
pub ways_again : tables_are_formed (of_units ((part 0 false (exact 0) ∷ []) ∷ (part 0 true (exact 0) ∷ []) ∷ [])) ≡ false
ways_again = refl

-- a second part whose ways begin at 8
pub ways_past_one : tables_are_formed (of_units ((part 0 false (exact 0) ∷ []) ∷ (part 0 true (exact 8) ∷ []) ∷ [])) ≡ false
ways_past_one = refl

-- ---- parts that agree

-- two parts of one table, of which the second is this one
abbrev with_second : SlotUnit → Bool
with_second second = tables_are_formed (of_units ((gate 7 None ∷ part 0 false (exact 0) ∷ []) ∷ (Slot second ∷ []) ∷ []))

-- the same
pub same : with_second (slot 0 None true (exact 4) []) ≡ true
same = refl

-- another guard
pub other_guard : with_second (record (slot 0 None true (exact 4) []) { guard = under 7 }) ≡ false
other_guard = refl

-- counted
pub other_count : with_second (record (slot 0 None true (exact 4) []) { counted = true }) ≡ false
other_count = refl

-- another number of actions
pub other_actions : with_second (record (slot 0 None true (exact 4) []) { actions = 2 }) ≡ false
other_actions = refl

-- other data
pub other_data : with_second (record (slot 0 None true (exact 4) []) { held = 1 }) ≡ false
other_data = refl

-- another key of 8 bits
pub other_keys : with_second (record (slot 0 None true (exact 4) []) { keys = lane 2 0 8 ∷ [] }) ≡ false
other_keys = refl

-- a longer key
pub more_keys : with_second (record (slot 0 None true (exact 4) []) { keys = lane 1 0 8 ∷ lane 2 0 8 ∷ [] }) ≡ false
more_keys = refl

-- another kind of memory
pub other_kind : with_second (record (slot 0 None true (exact 4) []) { memory = ternary }) ≡ false
other_kind = refl

-- another width
pub other_width : with_second (record (slot 0 None true (exact 4) []) { memory = Exact 2 7 1 4 [] [] [] }) ≡ false
other_width = refl

-- another number of cells in a row
pub other_cells : with_second (record (slot 0 None true (exact 4) []) { memory = Exact 1 6 1 4 [] [] [] }) ≡ false
other_cells = refl

-- the parts may have different quanta
pub other_quanta : with_second (record (slot 0 None true (exact 4) []) { memory = Exact 1 7 2 4 [] [] [] }) ≡ true
other_quanta = refl

-- ---- entry numbers

abbrev numbered : List ℕ → Bool → Memory → ChipUnit
numbered numbers last memory = Slot (slot 0 None last memory (map (λ n. record { cell = n; number = n }) numbers))

-- each entry once, in any order
pub each_once : entries_are_numbered (of_units ((numbered (5 ∷ 2 ∷ []) false (exact 0) ∷ []) ∷ (numbered (3 ∷ []) true (exact 4) ∷ []) ∷ [])) ≡ true
each_once = refl

-- an entry twice in a slot
pub twice_in_a_slot : entries_are_numbered (of_units ((numbered (5 ∷ 2 ∷ 5 ∷ []) true ternary ∷ []) ∷ [])) ≡ false
twice_in_a_slot = refl

-- an entry in two slots
pub twice_in_the_image : entries_are_numbered (of_units ((numbered (5 ∷ 2 ∷ []) false (exact 0) ∷ []) ∷ (numbered (2 ∷ []) true (exact 4) ∷ []) ∷ [])) ≡ false
twice_in_the_image = refl
