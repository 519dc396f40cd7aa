-- What is written reads back.
use Rattle.std.specs.Prelude.{◌≡◌, ℕ, ◌+◌, ◌≤◌, Bool, List, length, take, drop, map, slice_range, All, Ok}
use Rattle.rmt_pcap.specs.declared.capture.Record.{Record}
use Rattle.rmt_pcap.specs.declared.capture.Capture.{Capture}
use Rattle.rmt_pcap.specs.Captures.{IsHead, capture_of}
use Rattle.rmt_pcap.specs.Written.{written}

-- an item whose frame has 1 to 9,216 bytes
abbrev pub IsReadable : List ℕ → Type 0
IsReadable item = (9 ≤ length item) × (length item ≤ 9224)

-- the captured bytes of a record of a file
abbrev pub frame_of : List ℕ → Record → List ℕ
frame_of file r = slice_range file r.from (r.from + r.len)

-- a file is a capture of just these items: each has its time and its frame, in their order, and none is skipped
pub record HasItems (head : List ℕ) (big : Bool) (items : List (List ℕ)) (file : List ℕ) (capture : Capture) : Type 0 where
  pub reads : capture_of file ≡ Ok capture
  pub same_head : capture.head ≡ head
  pub same_order : capture.big ≡ big
  pub times : map (λ (r : Record). r.time) capture.records ≡ map (take 8) items
  pub frames : map (frame_of file) capture.records ≡ map (drop 8) items
  pub skipped : capture.skipped ≡ 0

-- every file that is written with the head of a capture has its items
abbrev pub ReadBack : Type 0
ReadBack = (head : List ℕ) (big : Bool) (items : List (List ℕ)) → IsHead big head → All IsReadable items
    → (capture : Capture) × HasItems head big items (written head big items) capture
