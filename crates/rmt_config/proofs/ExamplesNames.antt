-- Configurations with names: the entries that they spell, and names that break one rule each.
use Rattle.std.specs.Prelude.{◌≡◌, ℕ, ◌+◌, ◌*◌, ◌^◌, List, [], ◌∷◌, Some, None, true, false, codes, refl}
use Rattle.rmt_ast.specs.declared.entry.Entry.{Entry}
use Rattle.rmt_ast.specs.declared.names.Names.{Names}
use Rattle.rmt_ast.specs.declared.names.TableName.{TableName}
use Rattle.rmt_ast.specs.declared.names.ActionName.{ActionName}
use Rattle.rmt_ast.specs.declared.names.RankOf.{RankOf}
use Rattle.rmt_ast.specs.declared.program.Kind.{Kind}
use Rattle.rmt_ast.specs.declared.program.Kind.TheVariants as named
use Rattle.rmt_config.specs.Types.{Config, SlotUnit, CellNumber, SramRow, TcamRow}
use Rattle.rmt_config.specs.declared.config.Unit.TheVariants.{Slot}
use Rattle.rmt_config.specs.declared.config.Memory.TheVariants.{Exact, Ternary}
use Rattle.rmt_config.specs.declared.config.Source.TheVariants.{Word, Held, Constant}
use Rattle.rmt_config.specs.NamesForm.{entries_spelled, has_actions, has_entries, has_key_bits, has_masks, has_parts, has_ranks, has_rows, names_fit, numbers_leave_room, prefix_length, tables_are_those}
use Rattle.rmt_config.proofs.ExamplesParts.{lane, copy, instruction, plain_slot, plain_stage, one_byte}

abbrev number_at : ℕ → ℕ → CellNumber
number_at cell number = record { cell = cell; number = number }

abbrev action : List ℕ → List ℕ → ActionName
action name params = record { name = name; params = params }

abbrev rank : ℕ → ℕ → RankOf
rank number priority = record { number = number; rank = priority }

abbrev entry : ℕ → ℕ → ℕ → ℕ → ℕ → ℕ → Entry
entry node number value mask rank port = record { table = node; number = number; tests = record { value = value; mask = mask } ∷ []; rank = rank; action = 0; args = port ∷ [] }

-- ---- the program of strict and weak: table b of node 1 is exact on 8 bits, with the entry `7 go 5`

abbrev pub names_of_b : TableName
names_of_b = record { node = 1; name = codes "b"; kind = named.Exact; size = 16; keys = 8 ∷ []; actions = action (codes "go") (9 ∷ []) ∷ []; ranks = [] }

abbrev pub its_names : Names
its_names = record { tables = names_of_b ∷ [] }

-- its cells, with their numbers and rows
abbrev with_cells : List CellNumber → List SramRow → Config
with_cells numbers srows = record
    (one_byte
    (plain_stage 0 (plain_slot 0 None ∷ []) (instruction (copy 2 0 8 (Word 1 0) ∷ []) ∷ [])
    ∷ record {
      start = 12;
      units =
          Slot (record { node = 1; guard = None; counted = false; actions = 1; last = true; held = 9; keys = lane 2 0 8 ∷ []; memory = Exact 1 3 1 0 (0 ∷ 1 ∷ 2 ∷ 3 ∷ []) (4 ∷ []) []; numbers = numbers })
          ∷ plain_slot 2 None ∷ [];
      code = instruction (copy 65 0 9 (Held 0) ∷ []) ∷ instruction [] ∷ instruction (copy 2 0 8 (Constant 0) ∷ []) ∷ [];
      srows = srows;
      trows = [];
    } ∷ []))
    { names = Some its_names }

-- the head of the cell has both visible bits
abbrev pub strict_and_weak : Config
strict_and_weak = with_cells (number_at 2376 0 ∷ []) (record { block = 0; row = 792; bits = 0x707 } ∷ record { block = 4; row = 198; bits = 5 } ∷ [])

pub strict_and_weak_entries : entries_spelled strict_and_weak its_names ≡ [] ∷ (entry 1 0 7 255 0 5 ∷ []) ∷ [] ∷ []
strict_and_weak_entries = refl

pub strict_and_weak_fit : names_fit strict_and_weak its_names ≡ true
strict_and_weak_fit = refl

-- a table of another node, of another kind, and none at all
pub other_node : tables_are_those strict_and_weak (record { tables = record names_of_b { node = 2 } ∷ [] }) ≡ false
other_node = refl

pub other_kind : has_parts strict_and_weak (record names_of_b { kind = named.Ternary }) ≡ false
other_kind = refl

pub left_out : tables_are_those strict_and_weak (record { tables = [] }) ≡ false
left_out = refl

pub named_twice : names_fit strict_and_weak (record { tables = names_of_b ∷ names_of_b ∷ [] }) ≡ false
named_twice = refl

-- a key of 9 bits
pub wide_key : has_key_bits strict_and_weak (record names_of_b { keys = 8 ∷ 1 ∷ [] }) ≡ false
wide_key = refl

-- two actions, and a parameter of one bit more than the slot's data
pub two_actions : has_actions strict_and_weak (record names_of_b { actions = action (codes "go") (9 ∷ []) ∷ action (codes "no") [] ∷ [] }) ≡ false
two_actions = refl

pub wide_params : has_actions strict_and_weak (record names_of_b { actions = action (codes "go") (9 ∷ 1 ∷ []) ∷ [] }) ≡ false
wide_params = refl

-- the key 7 stands in the cells 2376 and 2377
abbrev twice : Config
twice = with_cells (number_at 2376 0 ∷ number_at 2377 1 ∷ []) (record { block = 0; row = 792; bits = 0x7070707 } ∷ record { block = 4; row = 198; bits = 5 } ∷ [])

pub key_twice : has_entries twice names_of_b ≡ false
key_twice = refl

-- the key 8 in a cell of the key 7
pub other_cell : has_entries (with_cells (number_at 2376 0 ∷ []) (record { block = 0; row = 792; bits = 0x807 } ∷ [])) names_of_b ≡ false
other_cell = refl

-- an entry past the size: of size 0, which a rule on names alone refuses too
pub past_size : has_entries strict_and_weak (record names_of_b { size = 0 }) ≡ false
past_size = refl

-- the last number behind which 1,048,576 additions find theirs, and the next one
pub last_number : numbers_leave_room (with_cells (number_at 2376 4293918719 ∷ []) []) ≡ true
last_number = refl

pub late_number : numbers_leave_room (with_cells (number_at 2376 4293918720 ∷ []) []) ≡ false
late_number = refl

-- ---- a prefix or ternary table on 8 bits: rows of a TCAM block, and records of 17 bits, six in a row

abbrev rows_slot : List CellNumber → SlotUnit
rows_slot numbers = record { node = 0; guard = None; counted = false; actions = 1; last = true; held = 9; keys = lane 1 0 8 ∷ []; memory = Ternary 1 (0 ∷ []) (0 ∷ []) []; numbers = numbers }

abbrev with_rows : List CellNumber → List SramRow → List TcamRow → Config
with_rows numbers srows trows = one_byte
    (record { start = 0; units = Slot (rows_slot numbers) ∷ []; code = instruction (copy 65 0 9 (Held 0) ∷ []) ∷ instruction [] ∷ []; srows = srows; trows = trows } ∷ [])

abbrev of_kind : Kind → List RankOf → TableName
of_kind kind ranks = record { node = 0; name = codes "r"; kind = kind; size = 2048; keys = 8 ∷ []; actions = action (codes "go") (9 ∷ []) ∷ []; ranks = ranks }

-- row 0 is 12 by all bits, row 1 is 10 by the highest four, and row 2, which matches every key, has no bit
abbrev pub three_rows : Config
three_rows = with_rows (number_at 0 3 ∷ number_at 1 1 ∷ number_at 2 2 ∷ []) (record { block = 0; row = 0; bits = 0x507 + 0x607 * 2 ^ 17 + 0x207 * 2 ^ 34 } ∷ [])
    (record { block = 0; row = 0; value = 0x12; mask = 0xff } ∷ record { block = 0; row = 1; value = 0x10; mask = 0xf0 } ∷ [])

abbrev with_names : Config → TableName → Config
with_names c t = record c { names = Some (record { tables = t ∷ [] }) }

-- by rising number; the lengths are those of the masks
pub prefix_entries : entries_spelled (with_names three_rows (of_kind named.Prefix [])) (record { tables = of_kind named.Prefix [] ∷ [] })
    ≡ (entry 0 1 0x10 0xf0 4 6 ∷ entry 0 2 0 0 0 2 ∷ entry 0 3 0x12 0xff 8 5 ∷ []) ∷ []
prefix_entries = refl

pub prefix_fit : names_fit three_rows (record { tables = of_kind named.Prefix [] ∷ [] }) ≡ true
prefix_fit = refl

-- the length of a mask of no bit, of the highest four, of all; and of masks that are no prefix
pub mask_of_none : prefix_length 8 0 ≡ Some 0
mask_of_none = refl

pub mask_of_four : prefix_length 8 0xf0 ≡ Some 4
mask_of_four = refl

pub mask_of_all : prefix_length 8 0xff ≡ Some 8
mask_of_all = refl

pub mask_with_a_gap : prefix_length 8 0xe8 ≡ None
mask_with_a_gap = refl

pub low_mask : prefix_length 8 0x0f ≡ None
low_mask = refl

pub no_prefix : has_masks (with_rows (number_at 0 0 ∷ []) (record { block = 0; row = 0; bits = 0x507 } ∷ []) (record { block = 0; row = 0; value = 2; mask = 0x0f } ∷ [])) named.Prefix (of_kind named.Prefix []) ≡ false
no_prefix = refl

-- more entries than rows
pub too_few_rows : has_rows three_rows named.Prefix (record (of_kind named.Prefix []) { size = 2049 }) ≡ false
too_few_rows = refl

-- the shorter prefix first
pub short_first : has_entries (with_rows (number_at 0 0 ∷ number_at 1 1 ∷ []) (record { block = 0; row = 0; bits = 0x507 + 0x607 * 2 ^ 17 } ∷ [])
    (record { block = 0; row = 0; value = 0x10; mask = 0xf0 } ∷ record { block = 0; row = 1; value = 0x12; mask = 0xff } ∷ [])) (of_kind named.Prefix []) ≡ false
short_first = refl

-- the same rows as a ternary table: the ranks stand beside, by row
abbrev pub three_ranks : List RankOf
three_ranks = rank 3 10 ∷ rank 1 10 ∷ rank 2 30 ∷ []

-- 3 and 1 have one priority, so 1 would stand first
pub line_out_of_order : has_entries three_rows (of_kind named.Ternary three_ranks) ≡ false
line_out_of_order = refl

abbrev pub rising_ranks : List RankOf
rising_ranks = rank 3 10 ∷ rank 1 20 ∷ rank 2 20 ∷ []

pub ternary_entries : entries_spelled three_rows (record { tables = of_kind named.Ternary rising_ranks ∷ [] })
    ≡ (entry 0 1 0x10 0xf0 20 6 ∷ entry 0 2 0 0 20 2 ∷ entry 0 3 0x12 0xff 10 5 ∷ []) ∷ []
ternary_entries = refl

pub ternary_fit : names_fit three_rows (record { tables = of_kind named.Ternary rising_ranks ∷ [] }) ≡ true
ternary_fit = refl

-- a rank out of the order of rows, one that lacks, and one priority out of order
pub rank_out_of_order : has_ranks three_rows named.Ternary (of_kind named.Ternary (rank 1 20 ∷ rank 3 10 ∷ rank 2 20 ∷ [])) ≡ false
rank_out_of_order = refl

pub rank_left_out : has_ranks three_rows named.Ternary (of_kind named.Ternary (rank 3 10 ∷ rank 1 20 ∷ [])) ≡ false
rank_left_out = refl

pub priority_out_of_order : has_entries three_rows (of_kind named.Ternary (rank 3 30 ∷ rank 1 20 ∷ rank 2 20 ∷ [])) ≡ false
priority_out_of_order = refl
