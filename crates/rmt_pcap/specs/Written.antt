-- The capture file of some items: of each the 8 bytes of its time, and then the bytes of its frame.
use Rattle.std.specs.Prelude.{ℕ, ◌-◌, ◌≤◌, Bool, List, ◌++◌, length, take, drop}
use Rattle.std.specs.List.{flat_map}
use Rattle.rmt_bits.specs.Bits.{bytes_of}
use Rattle.rmt_pcap.specs.Captures.{in_order}

-- an item that can be written
abbrev pub IsItem : List ℕ → Type 0
IsItem item = (8 ≤ length item) × (length item ≤ 13320)

-- a number as four bytes
abbrev pub four_bytes : Bool → ℕ → List ℕ
four_bytes big number = in_order big (bytes_of 4 number)

-- the record of an item: its time, the length of its frame twice, and the frame
abbrev pub record_text : Bool → List ℕ → List ℕ
record_text big item = take 8 item ++ (four_bytes big (length item - 8) ++ (four_bytes big (length item - 8) ++ drop 8 item))

-- the file: its head, and then the records of the items
abbrev pub written : List ℕ → Bool → List (List ℕ) → List ℕ
written head big items = head ++ flat_map (record_text big) items
