-- An entry that comes, as the cell keeps it to which it comes, and a kept cell as a changed one.
use Rattle.std.specs.Prelude.{◌≡◌, ℕ, List, [], IsTrue, if◌then◌else◌, length, sum}
use Rattle.rmt_bits.specs.Bits.{bytes_of}
use Rattle.rmt_ast.specs.declared.entry.Entry.{Entry}
use Rattle.rmt_ast.specs.declared.names.TableName.{TableName}
use Rattle.rmt_ast.specs.NameRules.{terms_of_name}
use Rattle.rmt_config.specs.declared.cell_write.CellWrite.{CellWrite}
use Rattle.rmt_config.specs.LaneForm.{bits_of_lanes}
use Rattle.rmt_config.specs.NamesForm.{is_of_kind}
use Rattle.rmt_config.specs.Rooms.{PartAt, entry_content, key_number}
use Rattle.rmt_config.specs.BlockCounts.{divided_up}
use Rattle.rmt_book.specs.declared.kept.Kept.{Kept}
use Rattle.rmt_book.specs.Kept.{IsKept}
use Rattle.rmt_book.specs.Told.{is_whole, told_entry}

-- the key of an entry as bytes, the highest first
abbrev pub key_bytes : TableName → Entry → List ℕ
key_bytes t e = bytes_of (divided_up (sum t.keys) 8) (key_number (terms_of_name t) e)

-- A cell of a part, whose first instruction has that number, keeps an entry of a table with these visible bits: what the cell of such a part
-- holds of the entry, and the entry can be told.
pub record KeepsEntry (t : TableName) (first cell visible : ℕ) (e : Entry) (k : Kept) : Type 0 where
  pub kept : (p : PartAt) → p.first ≡ first → sum t.keys ≡ bits_of_lanes p.slot.keys → IsTrue (is_of_kind t.kind p.slot.memory)
      → IsKept (bits_of_lanes p.slot.keys) p.slot.memory (entry_content (terms_of_name t) p visible e) (record { cell = cell; number = e.number }) k
  pub told : told_entry t first k ≡ e

-- a key of that many bits, a mask where not all bits of it count, and so many bits of data, each in whole bytes
pub record HasSizes (t : TableName) (bits : ℕ) (k : Kept) : Type 0 where
  pub key : length k.key.items ≡ divided_up (sum t.keys) 8
  pub mask : length k.mask.items ≡ (if is_whole t.kind then 0 else divided_up (sum t.keys) 8)
  pub held : length k.held.items ≡ divided_up bits 8

-- a changed cell that is to hold what is kept, with these visible bits
abbrev pub kept_write : ℕ → ℕ → ℕ → Kept → CellWrite
kept_write stage place visible k = record {
  stage = stage;
  unit = place;
  cell = k.cell;
  visible = visible;
  code = k.code;
  key = k.key.items;
  mask = k.mask.items;
  held = k.held.items;
  number = k.number;
}

-- a changed cell that is emptied
abbrev pub empty_write : ℕ → ℕ → ℕ → CellWrite
empty_write stage place cell = record {
  stage = stage;
  unit = place;
  cell = cell;
  visible = 0;
  code = 0;
  key = [];
  mask = [];
  held = [];
  number = 0;
}
