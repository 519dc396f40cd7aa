-- Cells that change in flight: what packets of two versions see, and runs of cycles whose answers are known.
use Rattle.std.specs.Prelude.{◌≡◌, ℕ, ◌+◌, ◌*◌, ◌^◌, Bool, List, [], ◌∷◌, ◌++◌, Some, None, true, false, codes, replicate, refl}
use Rattle.rmt_config.specs.Types.{Config}
use Rattle.rmt_config.specs.declared.config.Unit.TheVariants.{Slot}
use Rattle.rmt_config.specs.declared.config.Memory.TheVariants.{Ternary}
use Rattle.rmt_config.specs.declared.config.Source.TheVariants.{Held}
use Rattle.rmt_config.specs.Cells.{Content}
use Rattle.rmt_config.specs.declared.cell_write.CellWrite.{CellWrite}
use Rattle.rmt_config.specs.RunCells.{RunCells, look_in, own_cells, sees, with_version, with_write}
use Rattle.rmt_config.specs.RunInputs.{Enters, Idle, Input, Turns, Writes, answer_in, cells_at, counts_in, flight_in, in_flight}
use Rattle.rmt_ast.specs.declared.names.Names.{Names}
use Rattle.rmt_ast.specs.declared.program.Kind.TheVariants as kind
use Rattle.rmt_config.proofs.ExamplesNames.{its_names}
use Rattle.rmt_config.proofs.ExamplesParts.{packet, lane, sent, copy, instruction, table_slot, one_byte, two_stages}

-- ---- which cells are seen

-- a head of both visible bits is seen by packets of each version, one of the first bit by those of even versions, and one of the second by odd ones
pub seen_by_parity : (sees true 0 7 ≡ true) × (sees true 1 7 ≡ true) × (sees true 0 3 ≡ true) × (sees true 1 3 ≡ false) × (sees true 2 3 ≡ true)
    × (sees true 0 5 ≡ false) × (sees true 1 5 ≡ true) × (sees true 3 5 ≡ true) × (sees true 0 1 ≡ false) × (sees true 1 1 ≡ false)
seen_by_parity = (refl, refl, refl, refl, refl, refl, refl, refl, refl, refl)

-- a cell that isn't occupied is seen by none; without names each occupied one is seen
pub seen_where_occupied : (sees true 0 6 ≡ false) × (sees true 1 6 ≡ false) × (sees false 0 1 ≡ true) × (sees false 1 1 ≡ true) × (sees false 0 6 ≡ false)
seen_where_occupied = (refl, refl, refl, refl, refl)

-- ---- an exact table

-- the tables a, b and c, of which b is counted where that is said, and its entry has both visible bits
abbrev pub strict_and_weak : Bool → Config
strict_and_weak counted = record (two_stages 12 counted 0x707) { names = Some its_names }

-- cell n of b with the entry `7 go PORT` of a number
abbrev pub seven : ℕ → ℕ → ℕ → ℕ → CellWrite
seven n visible port number = record { stage = 1; unit = 0; cell = n; visible = visible; code = 0; key = 7 ∷ []; mask = []; held = 0 ∷ port ∷ []; number = number }

abbrev pub at_first : RunCells
at_first = own_cells (strict_and_weak false)

abbrev pub seven_holds : ℕ → ℕ → Content
seven_holds head port = record { head = head; key = 7; mask = 255; held = port }

pub own_cell : (at_first.content 1 0 2376 ≡ seven_holds 7 5) × (at_first.number 1 0 2376 ≡ 0) × (at_first.version ≡ 0)
own_cell = (refl, refl, refl)

-- a changed cell holds what is written, and the others stay
abbrev pub changed : RunCells
changed = with_write (strict_and_weak false) (with_write (strict_and_weak false) at_first (seven 2376 1 5 0)) (seven 2377 2 6 1)

pub changed_cells : (changed.content 1 0 2376 ≡ seven_holds 3 5) × (changed.content 1 0 2377 ≡ seven_holds 5 6) × (changed.number 1 0 2377 ≡ 1)
    × (changed.content 1 0 2378 ≡ record { head = 0; key = 0; mask = 255; held = 0 }) × (changed.seed ≡ 0) × (changed.version ≡ 0)
changed_cells = (refl, refl, refl, refl, refl, refl)

-- an emptied cell holds nothing, whatever else is told of it
pub emptied_cell : ((with_write (strict_and_weak false) changed (seven 2377 0 6 1)).content 1 0 2377 ≡ record { head = 0; key = 0; mask = 255; held = 0 })
    × ((with_write (strict_and_weak false) changed (seven 2377 0 6 1)).number 1 0 2377 ≡ 0)
emptied_cell = (refl, refl)

pub turned : ((with_version changed 3).version ≡ 1) × ((with_version changed 3).seed ≡ 3) × ((with_version changed 3).content 1 0 2376 ≡ seven_holds 3 5)
turned = (refl, refl, refl)

-- packets of an even version find the old entry, and those of an odd one the new
pub looked_up : (look_in (strict_and_weak false) 0 changed 1 0 7 ≡ Some (record { code = 0; held = 5; number = 0 }))
    × (look_in (strict_and_weak false) 1 changed 1 0 7 ≡ Some (record { code = 0; held = 6; number = 1 }))
    × (look_in (strict_and_weak false) 1 changed 1 0 8 ≡ None) × (look_in (strict_and_weak false) 1 changed 0 0 7 ≡ None)
looked_up = (refl, refl, refl, refl)

-- a packet of 7, two changed cells, a new version, and a packet of 7, which has the first one before it in the stages
abbrev pub replaced : List Input
replaced = Enters (packet 0 (7 ∷ [])) ∷ Writes (seven 2376 1 5 0) ∷ Writes (seven 2377 2 6 1) ∷ Turns 0 ∷ Enters (packet 0 (7 ∷ [])) ∷ []

-- `0 07;- b 7;+ b 7 go 6;commit;0 07`: the packet behind the commit enters in cycle 4, and 29 cycles are made
abbrev pub replaced_in_flight : List Input
replaced_in_flight = replaced ++ replicate 24 Idle

pub replaced_in_flight_answers : (answer_in (strict_and_weak false) replaced_in_flight 24 ≡ Some (sent 5 (7 ∷ []) []))
    × (answer_in (strict_and_weak false) replaced_in_flight 28 ≡ Some (sent 6 (7 ∷ []) [])) × (answer_in (strict_and_weak false) replaced_in_flight 25 ≡ None)
replaced_in_flight_answers = (refl, refl, refl)

pub replaced_in_flight_counts : counts_in (strict_and_weak true) replaced_in_flight ≡ record { entry = 0; packets = 1; bytes = 1 } ∷ record { entry = 1; packets = 1; bytes = 1 } ∷ []
replaced_in_flight_counts = refl

pub replaced_in_flight_flight : (flight_in (strict_and_weak false) replaced_in_flight ≡ 2) × (in_flight (strict_and_weak false) replaced_in_flight 3 ≡ 1) × (in_flight (strict_and_weak false) replaced_in_flight 25 ≡ 1)
replaced_in_flight_flight = (refl, refl, refl)

-- without the two cycles in which cells change, the second packet finds nothing
pub not_replaced : answer_in (strict_and_weak false) (Enters (packet 0 (7 ∷ [])) ∷ Writes (seven 2376 1 5 0) ∷ Turns 0 ∷ Enters (packet 0 (7 ∷ [])) ∷ replicate 24 Idle) 27 ≡ Some (sent 0 (7 ∷ []) [])
not_replaced = refl

-- `- b 7;commit;0 07` behind it: the commit waits until the first packet has left in cycle 24, and empties the cell that the commit before gave up;
-- the third packet enters in cycle 27, and 52 cycles are made
abbrev pub then_removed : List Input
then_removed = replaced ++ replicate 20 Idle ++ (Writes (seven 2376 0 5 0) ∷ Turns 0 ∷ Enters (packet 0 (7 ∷ [])) ∷ replicate 24 Idle)

pub then_removed_answers : (answer_in (strict_and_weak false) then_removed 24 ≡ Some (sent 5 (7 ∷ []) [])) × (answer_in (strict_and_weak false) then_removed 28 ≡ Some (sent 6 (7 ∷ []) []))
    × (answer_in (strict_and_weak false) then_removed 51 ≡ Some (sent 0 (7 ∷ []) []))
then_removed_answers = (refl, refl, refl)

-- the cell that this commit gives up keeps the other bit
pub then_removed_cells : ((cells_at (strict_and_weak false) then_removed 52).content 1 0 2377 ≡ seven_holds 5 6) × ((cells_at (strict_and_weak false) then_removed 52).version ≡ 2)
then_removed_cells = (refl, refl)

pub then_removed_counts : counts_in (strict_and_weak true) then_removed ≡ record { entry = 0; packets = 1; bytes = 1 } ∷ record { entry = 1; packets = 1; bytes = 1 } ∷ []
then_removed_counts = refl

-- `0 07;commit`: a new version is made in cycle 1, and 25 cycles in all
pub empty_commit_answers : answer_in (strict_and_weak false) (Enters (packet 0 (7 ∷ [])) ∷ Turns 0 ∷ replicate 23 Idle) 24 ≡ Some (sent 5 (7 ∷ []) [])
empty_commit_answers = refl

-- a change is seen by reads in later cycles: what is written in the cycle in which the stage reads is not
pub read_before_written : answer_in (record (strict_and_weak false) { names = None }) (Enters (packet 0 (7 ∷ [])) ∷ replicate 11 Idle ++ (Writes (seven 2376 3 6 1) ∷ replicate 12 Idle)) 24 ≡ Some (sent 5 (7 ∷ []) [])
read_before_written = refl

pub read_after_written : answer_in (record (strict_and_weak false) { names = None }) (Enters (packet 0 (7 ∷ [])) ∷ replicate 10 Idle ++ (Writes (seven 2376 3 6 1) ∷ replicate 13 Idle)) 24 ≡ Some (sent 6 (7 ∷ []) [])
read_after_written = refl

-- ---- a ternary table

abbrev pub ternary_names : Names
ternary_names = record {
  tables =
      record {
        node = 0;
        name = codes "t";
        kind = kind.Ternary;
        size = 2048;
        keys = 8 ∷ [];
        actions = record { name = codes "go"; params = 9 ∷ [] } ∷ [];
        ranks = record { number = 0; rank = 20 } ∷ record { number = 1; rank = 30 } ∷ [];
      } ∷ [];
}

-- one table on f, with rows of both visible bits: row 1 is 0x1_ and gives the port 1, row 2 is anything and gives 2; each record is a head of 8 bits and 9 of data
abbrev pub ternary : Config
ternary = record
    (one_byte
    (record {
      start = 0;
      units =
          Slot (record (table_slot 0 1 9 (lane 1 0 8 ∷ []) (Ternary 1 (0 ∷ []) (0 ∷ []) (1 ∷ 2 ∷ [])) (record { cell = 1; number = 0 } ∷ record { cell = 2; number = 1 } ∷ [])) { counted = true })
          ∷ [];
      code = instruction (copy 65 0 9 (Held 0) ∷ []) ∷ instruction [] ∷ [];
      srows = record { block = 0; row = 0; bits = 0x107 * 2 ^ 17 + 0x207 * 2 ^ 34 } ∷ [];
      trows = record { block = 0; row = 1; value = 0x10; mask = 0xf0 } ∷ [];
    } ∷ []))
    { names = Some ternary_names }

-- row 0 with 0x12 on all bits, which gives the port 3
abbrev first_row : ℕ → CellWrite
first_row visible = record { stage = 0; unit = 0; cell = 0; visible = visible; code = 0; key = 0x12 ∷ []; mask = 0xff ∷ []; held = 0 ∷ 3 ∷ []; number = 7 }

pub row_holds : (with_write ternary (own_cells ternary) (first_row 2)).content 0 0 0 ≡ record { head = 5; key = 0x12; mask = 0xff; held = 3 }
row_holds = refl

-- an odd version sees the new row first, and an even one passes it over
pub rows_looked_up : (look_in ternary 1 (with_write ternary (own_cells ternary) (first_row 2)) 0 0 0x12 ≡ Some (record { code = 0; held = 3; number = 7 }))
    × (look_in ternary 0 (with_write ternary (own_cells ternary) (first_row 2)) 0 0 0x12 ≡ Some (record { code = 0; held = 1; number = 0 }))
    × (look_in ternary 1 (with_write ternary (own_cells ternary) (first_row 2)) 0 0 0x22 ≡ Some (record { code = 0; held = 2; number = 1 }))
rows_looked_up = (refl, refl, refl)

-- a number that a changed cell brings is counted, also where no packet hits it; one without a visible bit brings none
pub brought_counts : counts_in ternary (Writes (first_row 2) ∷ Turns 0 ∷ Enters (packet 0 (0x12 ∷ [])) ∷ Enters (packet 0 (0x22 ∷ [])) ∷ replicate 12 Idle)
    ≡ record { entry = 0; packets = 0; bytes = 0 } ∷ record { entry = 1; packets = 1; bytes = 1 } ∷ record { entry = 7; packets = 1; bytes = 1 } ∷ []
brought_counts = refl

pub emptied_counts : counts_in ternary (Writes (first_row 0) ∷ replicate 12 Idle) ≡ record { entry = 0; packets = 0; bytes = 0 } ∷ record { entry = 1; packets = 0; bytes = 0 } ∷ []
emptied_counts = refl
