-- Captures written out.
use Rattle.std.proofs.Common.{replicate}
use Rattle.std.specs.Prelude.{◌≡◌, ℕ, Bool, true, false, List, [], ◌∷◌, ◌++◌, take, Some, Ok, Err, refl}
use Rattle.rmt_pcap.specs.Captures.{Said, capture_of, order_of, said_from}
use Rattle.rmt_pcap.specs.Written.{four_bytes, record_text, written}

-- ---- heads

big_microseconds : order_of (0xa1 ∷ 0xb2 ∷ 0xc3 ∷ 0xd4 ∷ []) ≡ Some true
big_microseconds = refl

little_microseconds : order_of (0xd4 ∷ 0xc3 ∷ 0xb2 ∷ 0xa1 ∷ []) ≡ Some false
little_microseconds = refl

big_nanoseconds : order_of (0xa1 ∷ 0xb2 ∷ 0x3c ∷ 0x4d ∷ []) ≡ Some true
big_nanoseconds = refl

little_nanoseconds : order_of (0x4d ∷ 0x3c ∷ 0xb2 ∷ 0xa1 ∷ []) ≡ Some false
little_nanoseconds = refl

-- a head of 24 bytes: its magic, the bytes of its version, and 16 more
abbrev head_with : List ℕ → List ℕ → List ℕ
head_with magic version = magic ++ version ++ replicate 16 7

abbrev big_head : List ℕ
big_head = head_with (0xa1 ∷ 0xb2 ∷ 0xc3 ∷ 0xd4 ∷ []) (0 ∷ 2 ∷ 0 ∷ 4 ∷ [])

abbrev little_head : List ℕ
little_head = head_with (0x4d ∷ 0x3c ∷ 0xb2 ∷ 0xa1 ∷ []) (2 ∷ 0 ∷ 4 ∷ 0 ∷ [])

big_alone : capture_of big_head ≡ Ok (record { head = big_head; big = true; records = []; skipped = 0 })
big_alone = refl

little_alone : capture_of little_head ≡ Ok (record { head = little_head; big = false; records = []; skipped = 0 })
little_alone = refl

nothing : capture_of [] ≡ Err 11
nothing = refl

three_bytes : capture_of (take 3 big_head) ≡ Err 11
three_bytes = refl

-- the magic of no order
turned_magic : capture_of (head_with (0xb2 ∷ 0xa1 ∷ 0xd4 ∷ 0xc3 ∷ []) (0 ∷ 2 ∷ 0 ∷ 4 ∷ [])) ≡ Err 11
turned_magic = refl

magic_alone : capture_of (take 4 big_head) ≡ Err 13
magic_alone = refl

cut_head : capture_of (take 23 little_head) ≡ Err 13
cut_head = refl

other_minor : capture_of (head_with (0xa1 ∷ 0xb2 ∷ 0xc3 ∷ 0xd4 ∷ []) (0 ∷ 2 ∷ 0 ∷ 3 ∷ [])) ≡ Err 12
other_minor = refl

-- a version in the other order
other_order : capture_of (head_with (0xa1 ∷ 0xb2 ∷ 0xc3 ∷ 0xd4 ∷ []) (2 ∷ 0 ∷ 4 ∷ 0 ∷ [])) ≡ Err 12
other_order = refl

-- whether the head is whole is looked at before its version
cut_version : capture_of (take 23 (head_with (0xa1 ∷ 0xb2 ∷ 0xc3 ∷ 0xd4 ∷ []) (0 ∷ 3 ∷ 0 ∷ 4 ∷ []))) ≡ Err 13
cut_version = refl

-- ---- records

-- a record of so many bytes, of which the packet had 65,535
abbrev record_with : Bool → ℕ → List ℕ → List ℕ
record_with big len bytes = (1 ∷ 2 ∷ 3 ∷ 4 ∷ 5 ∷ 6 ∷ 7 ∷ 8 ∷ []) ++ (four_bytes big len ++ (four_bytes big 65535 ++ bytes))

-- what a whole record of so many bytes says, at the first place
abbrev said_of : ℕ → Said
said_of len = said_from true 24 0 (record_with true len (replicate len 9))

-- one that is kept, and one of 0 bytes behind it
kept_and_empty : capture_of (little_head ++ record_with false 2 (10 ∷ 11 ∷ []) ++ record_with false 0 []) ≡ Ok (record {
  head = little_head;
  big = false;
  records = record { time = 1 ∷ 2 ∷ 3 ∷ 4 ∷ 5 ∷ 6 ∷ 7 ∷ 8 ∷ []; from = 40; len = 2 } ∷ [];
  skipped = 1;
})
kept_and_empty = refl

longest : said_of 9216 ≡ record { records = record { time = 1 ∷ 2 ∷ 3 ∷ 4 ∷ 5 ∷ 6 ∷ 7 ∷ 8 ∷ []; from = 40; len = 9216 } ∷ []; skipped = 0 }
longest = refl

too_long : said_of 9217 ≡ record { records = []; skipped = 1 }
too_long = refl

-- a record that runs past the end is the end, even where another could be read in it
past_the_end : said_from true 24 0 (record_with true 1 (9 ∷ []) ++ record_with true 100 (record_with true 1 (9 ∷ []))) ≡ record {
  records = record { time = 1 ∷ 2 ∷ 3 ∷ 4 ∷ 5 ∷ 6 ∷ 7 ∷ 8 ∷ []; from = 40; len = 1 } ∷ [];
  skipped = 1;
}
past_the_end = refl

five_more : capture_of (big_head ++ replicate 5 0) ≡ Ok (record { head = big_head; big = true; records = []; skipped = 1 })
five_more = refl

-- ---- what is written

-- an item of two bytes behind its time
abbrev item : List ℕ
item = 1 ∷ 2 ∷ 3 ∷ 4 ∷ 5 ∷ 6 ∷ 7 ∷ 8 ∷ 0xaa ∷ 0xbb ∷ []

big_record : record_text true item ≡ 1 ∷ 2 ∷ 3 ∷ 4 ∷ 5 ∷ 6 ∷ 7 ∷ 8 ∷ 0 ∷ 0 ∷ 0 ∷ 2 ∷ 0 ∷ 0 ∷ 0 ∷ 2 ∷ 0xaa ∷ 0xbb ∷ []
big_record = refl

little_file : written little_head false (item ∷ take 8 item ∷ []) ≡
    little_head ++ (1 ∷ 2 ∷ 3 ∷ 4 ∷ 5 ∷ 6 ∷ 7 ∷ 8 ∷ 2 ∷ 0 ∷ 0 ∷ 0 ∷ 2 ∷ 0 ∷ 0 ∷ 0 ∷ 0xaa ∷ 0xbb ∷ 1 ∷ 2 ∷ 3 ∷ 4 ∷ 5 ∷ 6 ∷ 7 ∷ 8 ∷ 0 ∷ 0 ∷ 0 ∷ 0 ∷ 0 ∷ 0 ∷ 0 ∷ 0 ∷ [])
little_file = refl

no_items : written big_head true [] ≡ big_head
no_items = refl
