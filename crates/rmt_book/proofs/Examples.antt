-- What cells tell, worked out.
use Rattle.std.proofs.Common.{◌≡◌, ℕ, ◌/◌, ◌%◌, true, false, List, [], ◌∷◌, refl, ap, arith}
use Rattle.std.specs.Prelude.{codes, ◌==◌}
use Rattle.rmt_ast.specs.declared.entry.Entry.{Entry}
use Rattle.rmt_bits.specs.Bits.{number_of}
use Rattle.rmt_ast.specs.declared.names.TableName.{TableName}
use Rattle.rmt_ast.specs.declared.program.Kind.TheVariants as kind
use Rattle.rmt_config.specs.Cells.{Content}
use Rattle.rmt_config.specs.declared.config.Memory.TheVariants.{Exact}
use Rattle.rmt_book.specs.declared.kept.Kept.{Kept}
use Rattle.rmt_book.specs.Coming.{key_bytes}
use Rattle.rmt_book.specs.Kept.{IsKept}
use Rattle.rmt_book.specs.Seen.{is_seen}
use Rattle.rmt_book.specs.Told.{told_entry}

-- a table exact on 8 bits, and one ternary on two fields of 4 bits, with an action of 9 bits each
abbrev exact_b : TableName
exact_b = record { node = 1; name = codes "b"; kind = kind.Exact; size = 16; keys = 8 ∷ []; actions = record { name = codes "go"; params = 9 ∷ [] } ∷ []; ranks = [] }

abbrev ternary_t : TableName
ternary_t = record { node = 2; name = codes "t"; kind = kind.Ternary; size = 16; keys = 4 ∷ 4 ∷ []; actions = record { name = codes "go"; params = 9 ∷ [] } ∷ []; ranks = record { number = 3; rank = 20 } ∷ [] }

-- a cell with these bytes
record HasBytes (k : Kept) (cell visible code number rank : ℕ) (key mask held : List ℕ) : Type 0 where
  cell_is : k.cell ≡ cell
  visible_is : k.visible ≡ visible
  code_is : k.code ≡ code
  number_is : k.number ≡ number
  rank_is : k.rank ≡ rank
  key_is : k.key.items ≡ key
  mask_is : k.mask.items ≡ mask
  held_is : k.held.items ≡ held

-- the key 7 whole, and the number 5 = 0x005 for the parameter; the first instruction of the part is 2
exact_told : (k : Kept) → HasBytes k 21 3 2 0 0 (7 ∷ []) [] (0 ∷ 5 ∷ [])
    → told_entry exact_b 2 k ≡ record { table = 1; number = 0; tests = record { value = 7; mask = 255 } ∷ []; rank = 0; action = 0; args = 5 ∷ [] }
exact_told k h = rw (h.number_is, h.rank_is, h.code_is, h.key_is, h.held_is) refl

-- 0x2 of the mask 0xf, and 0x0 of 0x3; the first parameter is lowest
ternary_told : (k : Kept) → HasBytes k 0 3 0 3 20 (32 ∷ []) (243 ∷ []) (1 ∷ 255 ∷ [])
    → told_entry ternary_t 0 k ≡ record { table = 2; number = 3; tests = record { value = 2; mask = 15 } ∷ record { value = 0; mask = 3 } ∷ []; rank = 20; action = 0; args = 511 ∷ [] }
ternary_told k h = rw (h.number_is, h.rank_is, h.code_is, h.key_is, h.mask_is, h.held_is) refl

-- what the cell of the first one holds: the head 1 + 2 * 3 + 8 * 2; and not with one visible bit
abbrev exact_cell : Content
exact_cell = record { head = 23; key = 7; mask = 255; held = 5 }

exact_kept : (k : Kept) → HasBytes k 21 3 2 0 0 (7 ∷ []) [] (0 ∷ 5 ∷ []) → IsKept 8 (Exact 1 12 1 0 [] [] []) exact_cell (record { cell = 21; number = 0 }) k
exact_kept k h = record {
  cell = h.cell_is;
  number = h.number_is;
  visible = h.visible_is;
  code = h.code_is;
  key = ap number_of h.key_is;
  mask = refl;
  held = ap number_of h.held_is;
}

one_bit_more : (k : Kept) → k.visible ≡ 1 → IsKept 8 (Exact 1 12 1 0 [] [] []) exact_cell (record { cell = 21; number = 0 }) k → ⊥
one_bit_more k one h = let three : k.visible ≡ 3 = h.visible in absurd (omega (arith, one, three))

-- by odd versions a cell with the higher visible bit is seen, and by even ones it isn't
seen_by : (k : Kept) → k.visible ≡ 2 → (is_seen true k ≡ true) × (is_seen false k ≡ false)
seen_by k two = (ap (λ v. v / 2 % 2 == 1) two, ap (λ v. v / 1 % 2 == 1) two)

-- the first field of a key is highest, and 9 bits have two bytes
abbrev fields_1_2 : Entry
fields_1_2 = record { table = 2; number = 3; tests = record { value = 1; mask = 15 } ∷ record { value = 2; mask = 3 } ∷ []; rank = 20; action = 0; args = 5 ∷ [] }

abbrev field_257 : Entry
field_257 = record { table = 1; number = 0; tests = record { value = 257; mask = 511 } ∷ []; rank = 0; action = 0; args = 5 ∷ [] }

keys_as_bytes : (key_bytes ternary_t fields_1_2 ≡ 18 ∷ []) × (key_bytes (record exact_b { keys = 9 ∷ [] }) field_257 ≡ 1 ∷ 1 ∷ [])
keys_as_bytes = (refl, refl)
