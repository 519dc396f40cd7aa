-- What a capture file says: a head of 24 bytes, and then records one after another.
use Rattle.std.specs.Prelude.{◌≡◌, ℕ, zero, suc, ◌+◌, ◌≤◌, Bool, true, false, ◌==◌, ◌&&◌, ◌||◌, nat_lt, nat_le, if◌then◌else◌, List, [], ◌∷◌, length, take, drop, reverse, Option, Some, None, Result, Ok, Err}
use Rattle.rmt_bits.specs.Bits.{number_of}
use Rattle.rmt_pcap.specs.declared.capture.Record.{Record}
use Rattle.rmt_pcap.specs.declared.capture.Capture.{Capture}

-- the bytes of a number, given with the highest first, in the order of a file: the highest first where `big`, else the lowest; and back
abbrev pub in_order : Bool → List ℕ → List ℕ
in_order big bytes = if big then bytes else reverse bytes

-- the number of `count` bytes from the place `at` on
abbrev pub field : Bool → ℕ → ℕ → List ℕ → ℕ
field big at count bytes = number_of (in_order big (take count (drop at bytes)))

-- ---- the head

-- the magics of files whose fractions are microseconds, and nanoseconds
abbrev pub is_magic : ℕ → Bool
is_magic number = number == 0xa1b2c3d4 || number == 0xa1b23c4d

-- whether the highest bytes stand first, by the magic that does
abbrev pub order_of : List ℕ → Option Bool
order_of bytes =
    if nat_lt (length bytes) 4 then None
    else (if is_magic (field true 0 4 bytes) then Some true
    else (if is_magic (field false 0 4 bytes) then Some false else None))

-- version 2.4
abbrev pub is_version : Bool → List ℕ → Bool
is_version big bytes = field big 4 2 bytes == 2 && field big 6 2 bytes == 4

-- ---- the records

-- a record: seconds, fraction, captured length and original length, of four bytes each, and the captured bytes
abbrev pub captured_len : Bool → List ℕ → ℕ
captured_len big bytes = field big 8 4 bytes

-- whether a whole record stands first
abbrev pub is_whole : Bool → List ℕ → Bool
is_whole big bytes = nat_le 16 (length bytes) && nat_le (16 + captured_len big bytes) (length bytes)

-- the lengths of records that are kept
abbrev pub is_kept : ℕ → Bool
is_kept len = nat_le 1 len && nat_le len 9216

-- what the records of a file say: those that are kept, and how many are skipped
pub record Said : Type 0 where
  pub records : List Record
  pub skipped : ℕ

-- the record at the place `at`, whose bytes stand first
abbrev pub record_at : ℕ → List ℕ → ℕ → Record
record_at at bytes len = record { time = take 8 bytes; from = at + 16; len = len }

-- a whole record that stands first, and what the bytes behind it say
abbrev pub before : ℕ → List ℕ → ℕ → Said → Said
before at bytes len rest =
    if is_kept len then record { records = record_at at bytes len ∷ rest.records; skipped = rest.skipped }
    else record { records = rest.records; skipped = rest.skipped + 1 }

-- what the bytes from the place `at` on say; the first `left` of them belong to the record before
abbrev pub said_from : Bool → ℕ → ℕ → List ℕ → Said
said_from big at left [] = record { records = []; skipped = 0 }
said_from big at (suc left) (b ∷ bytes) = said_from big (at + 1) left bytes
said_from big at zero (b ∷ bytes) =
    if is_whole big (b ∷ bytes)
    then before at (b ∷ bytes) (captured_len big (b ∷ bytes)) (said_from big (at + 1) (15 + captured_len big (b ∷ bytes)) bytes)
    else record { records = []; skipped = 1 }

-- ---- the file

-- a file with a head and what its records say
abbrev pub capture_with : Bool → List ℕ → Said → Capture
capture_with big bytes said = record { head = take 24 bytes; big = big; records = said.records; skipped = said.skipped }

-- a file of an order, or the code of its fault
abbrev pub capture_in : List ℕ → Option Bool → Result Capture ℕ
capture_in bytes None = Err 11
capture_in bytes (Some big) =
    if nat_lt (length bytes) 24 then Err 13
    else (if is_version big bytes then Ok (capture_with big bytes (said_from big 24 0 (drop 24 bytes))) else Err 12)

-- what a file says, or the code of its fault: 11 no magic, 13 a head that is cut, 12 another version
abbrev pub capture_of : List ℕ → Result Capture ℕ
capture_of bytes = capture_in bytes (order_of bytes)

-- the head of a file whose numbers stand in this order
pub record IsHead (big : Bool) (head : List ℕ) : Type 0 where
  pub size : length head ≡ 24
  pub magic : order_of head ≡ Some big
  pub version : is_version big head ≡ true

-- a record of a file: 8 bytes of time, and 1 to 9,216 bytes that lie in it
pub record IsOfFile (bytes : List ℕ) (r : Record) : Type 0 where
  pub time : length r.time ≡ 8
  pub some : 1 ≤ r.len
  pub few : r.len ≤ 9216
  pub within : r.from + r.len ≤ length bytes
