-- Worked rows of the definitions of memory laid out for reading.
use Rattle.std.proofs.Common.{◌≡◌, ℕ, zero, suc, ◌+◌, ◌*◌, [], ◌∷◌, true, false, Some, None, refl}
use Rattle.rmt_memory.specs.Laying.{runs_of}
use Rattle.rmt_bits.specs.Grouping.{Compared}
use Rattle.rmt_memory.specs.KeyWords.{words_of, masked}
use Rattle.rmt_memory.specs.Slicing.{leaves, bit_in}
use Rattle.rmt_config.specs.Cells.{Content}
use Rattle.rmt_config.specs.declared.cell_write.CellWrite.{CellWrite}
use Rattle.rmt_config.specs.declared.config.Memory.TheVariants.{Ternary}
use Rattle.rmt_memory.specs.Types.{SlotUnit}
use Rattle.rmt_memory.specs.Sights.{seen_by, sight_of}
use Rattle.rmt_memory.specs.Memories.{cell_bytes, rows_seen}
use Rattle.rmt_memory.specs.Writable.{content_after, number_after}

-- cells 3 and 5, with 300 and 500 in them, two bytes each
pub runs_known : runs_of 2 (λ n. 100 * n) (record { cell = 3; number = 7 } ∷ record { cell = 5; number = 9 } ∷ []) ≡ 1 ∷ 44 ∷ 1 ∷ 244 ∷ []
runs_known = refl

-- a number in words of 40 bits
pub words_known : words_of 3 (5 + 7 * 1099511627776) ≡ 5 ∷ 7 ∷ 0 ∷ []
words_known = refl

-- the bits of a key that masks leave; words behind the last mask are not looked at
pub masked_known : masked (12 ∷ 3 ∷ []) (10 ∷ 6 ∷ 255 ∷ []) ≡ 8 ∷ 2 ∷ []
masked_known = refl

-- a row of one word that wants the nibbles 5 and, on its high bit alone, 8: value 5 of nibble 0 leaves it, value 6 does not,
-- value 9 of nibble 1 does, and any value of nibble 2
abbrev one_row : Compared
one_row = record { masks = 143 ∷ []; values = 133 ∷ [] }

pub leaves_own : leaves one_row (16 * 0 + 5) ≡ true
leaves_own = refl

pub leaves_other : leaves one_row (16 * 0 + 6) ≡ false
leaves_other = refl

pub leaves_masked : leaves one_row (16 * 1 + 9) ≡ true
leaves_masked = refl

pub leaves_any : leaves one_row (16 * 2 + 3) ≡ true
leaves_any = refl

-- the bit of row 65 in the second of two vectors of two words
pub bit_known : bit_in (0 ∷ 0 ∷ 0 ∷ 2 ∷ []) 2 1 65 ≡ 1
bit_known = refl

-- ---- sights

-- the sight of packets of even and odd versions, and where there are no names
pub sights_known : (sight_of true 0 ≡ 1) × (sight_of true 1 ≡ 2) × (sight_of true 6 ≡ 1) × (sight_of false 0 ≡ 0) × (sight_of false 3 ≡ 0)
sights_known = (refl, refl, refl, refl, refl)

-- an occupied cell with both visible bits, with the first, with the second and with none; and one with both that isn't occupied
pub seen_known : (seen_by 0 7 ≡ true) × (seen_by 1 7 ≡ true) × (seen_by 2 7 ≡ true) × (seen_by 1 3 ≡ true) × (seen_by 2 3 ≡ false) × (seen_by 1 5 ≡ false)
    × (seen_by 2 5 ≡ true) × (seen_by 0 1 ≡ true) × (seen_by 1 1 ≡ false) × (seen_by 2 1 ≡ false) × (seen_by 0 6 ≡ false) × (seen_by 1 6 ≡ false)
seen_known = (refl, refl, refl, refl, refl, refl, refl, refl, refl, refl, refl, refl)

-- ---- cells

-- a cell that both versions see, of instruction 2: its head, a key of 12 bits and 9 bits of data; and where hits are counted, with the number of its entry behind them
pub cell_known : cell_bytes 2 2 0 (record { head = 7 + 8 * 2; key = 300; mask = 4095; held = 260 }) 770 ≡ 23 ∷ 1 ∷ 44 ∷ 1 ∷ 4 ∷ []
cell_known = refl

pub counted_known : cell_bytes 2 2 4 (record { head = 7 + 8 * 2; key = 300; mask = 4095; held = 260 }) 770 ≡ 23 ∷ 1 ∷ 44 ∷ 1 ∷ 4 ∷ 0 ∷ 0 ∷ 3 ∷ 2 ∷ []
counted_known = refl

-- a key that stands in vectors takes no bytes of the cell
pub row_known : cell_bytes 0 1 0 (record { head = 7; key = 300; mask = 4095; held = 5 }) 0 ≡ 7 ∷ 5 ∷ []
row_known = refl

-- row 0 is seen by both versions, row 1 by odd ones, and row 2 is empty
abbrev three : ℕ → Content
three zero = record { head = 7; key = 5; mask = 15; held = 0 }
three (suc zero) = record { head = 5; key = 6; mask = 14; held = 0 }
three (suc (suc n)) = record { head = 0; key = 0; mask = 0; held = 0 }

abbrev own_row : ℕ → ℕ → Compared
own_row mask key = record { masks = mask ∷ []; values = key ∷ [] }

pub rows_known : (rows_seen 0 1 three 3 ≡ Some (own_row 15 5) ∷ Some (own_row 14 6) ∷ None ∷ []) × (rows_seen 1 1 three 3 ≡ Some (own_row 15 5) ∷ None ∷ None ∷ [])
    × (rows_seen 2 1 three 3 ≡ Some (own_row 15 5) ∷ Some (own_row 14 6) ∷ None ∷ [])
rows_known = (refl, refl, refl)

-- ---- a changed cell

-- a slot with a ternary key of 8 bits and a byte of data
abbrev its_slot : SlotUnit
its_slot = record {
  node = 0;
  guard = None;
  counted = true;
  actions = 1;
  last = true;
  held = 8;
  keys = record { word = 1; low = 0; len = 8 } ∷ [];
  memory = Ternary 1 (0 ∷ []) (0 ∷ []) [];
  numbers = [];
}

-- row 1 is to be seen by even versions, and to have the entry of number 9
abbrev its_write : ℕ → CellWrite
its_write visible = record { stage = 0; unit = 0; cell = 1; visible = visible; code = 3; key = 160 ∷ []; mask = 240 ∷ []; held = 77 ∷ []; number = 9 }

pub written_known : (content_after (its_write 1) its_slot three 1 ≡ record { head = 27; key = 160; mask = 240; held = 77 }) × (content_after (its_write 1) its_slot three 0 ≡ three 0)
    × (number_after (its_write 1) (λ n. 4) 1 ≡ 9) × (number_after (its_write 1) (λ n. 4) 2 ≡ 4)
written_known = (refl, refl, refl, refl)

-- emptied, whatever else is said
pub emptied_known : (content_after (its_write 0) its_slot three 1 ≡ record { head = 0; key = 0; mask = 0; held = 0 }) × (number_after (its_write 0) (λ n. 4) 1 ≡ 0)
emptied_known = (refl, refl)
