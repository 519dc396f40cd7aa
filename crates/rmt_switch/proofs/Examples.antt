-- Group texts and runs that are worked by hand.
use Rattle.std.specs.Prelude.{◌≡◌, ℕ, List, [], ◌∷◌, ◌++◌, true, Some, None, Ok, Err, replicate, codes, take, refl}
use Rattle.rmt_config.specs.declared.config.Config.{Config}
use Rattle.rmt_config.specs.declared.config.Source.TheVariants.{Constant}
use Rattle.rmt_config.proofs.Examples.{smallest}
use Rattle.rmt_config.proofs.ExamplesParts.{copy, instruction, one_byte, plain_slot, plain_stage}
use Rattle.rmt_pcap.specs.declared.capture.Capture.{Capture}
use Rattle.rmt_pcap.specs.Captures.{capture_of}
use Rattle.rmt_switch.specs.declared.fault.GroupFault.TheVariants.{At}
use Rattle.rmt_switch.specs.GroupText.{group_of, groups_of, numbers_of}
use Rattle.rmt_switch.specs.Switch.{ports_for, switched_by}

-- ---- the lines of a group text

group_line : group_of (numbers_of (codes " 300  2 1 ")) ≡ Some (record { number = 300; ports = 2 ∷ 1 ∷ [] })
group_line = refl

leading_zeros : group_of (numbers_of (codes "0256 007")) ≡ Some (record { number = 256; ports = 7 ∷ [] })
leading_zeros = refl

no_group_below : group_of (numbers_of (codes "255 1")) ≡ None
no_group_below = refl

no_port_twice : group_of (numbers_of (codes "300 1 2 1")) ≡ None
no_port_twice = refl

-- an earlier line has the group
group_twice : groups_of (codes "300 1\n300 2") ≡ Err (At 8 2)
group_twice = refl

-- ---- three frames of one byte

abbrev head : List ℕ
head = 161 ∷ 178 ∷ 195 ∷ 212 ∷ 0 ∷ 2 ∷ 0 ∷ 4 ∷ 0 ∷ 0 ∷ 0 ∷ 0 ∷ 0 ∷ 0 ∷ 0 ∷ 0 ∷ 0 ∷ 0 ∷ 255 ∷ 255 ∷ 0 ∷ 0 ∷ 0 ∷ 1 ∷ []

abbrev time : ℕ → List ℕ
time second = 0 ∷ 0 ∷ 0 ∷ second ∷ 0 ∷ 0 ∷ 0 ∷ 9 ∷ []

abbrev frame : ℕ → List ℕ
frame second = time second ++ (0 ∷ 0 ∷ 0 ∷ 1 ∷ 0 ∷ 0 ∷ 0 ∷ 1 ∷ 255 ∷ [])

abbrev file : List ℕ
file = head ++ (frame 7 ++ (frame 8 ++ frame 9))

abbrev capture : Capture
capture = record {
  head = head;
  big = true;
  records = record { time = time 7; from = 40; len = 1 } ∷ record { time = time 8; from = 57; len = 1 } ∷ record { time = time 9; from = 74; len = 1 } ∷ [];
  skipped = 0;
}

said : capture_of file ≡ Ok capture
said = refl

-- ---- two copies of each: a group of two ports, each of which takes an item after each cycle; both captures are the one that was read

-- as `smallest`, but with out_port = 300
abbrev to_group : Config
to_group = one_byte (plain_stage 0 (plain_slot 0 None ∷ []) (instruction (copy 65 0 9 (Constant 300) ∷ []) ∷ []) ∷ [])

abbrev groups : List (List ℕ)
groups = replicate 300 [] ++ (1 ∷ 2 ∷ []) ∷ []

two_copies : switched_by (record { config = to_group; groups = groups; every = 1; ports = 3; depth = 2 }) file capture ≡ record {
  files = record { port = 1; bytes = file } ∷ record { port = 2; bytes = file } ∷ [];
  counts = record { packets = 3; skipped = 0; out = 6; dropped = 0; queue = 0; cells = 0 };
}
two_copies = refl

-- ---- one port full: its queue has room for two items, and none is taken before the end

one_port_full : switched_by (record { config = smallest; groups = []; every = 1000; ports = 2; depth = 2 }) file capture ≡ record {
  files = record { port = 1; bytes = take 58 file } ∷ [];
  counts = record { packets = 3; skipped = 0; out = 2; dropped = 0; queue = 1; cells = 0 };
}
one_port_full = refl

-- a port without a line of its own is its own group
alone : ports_for groups 1 ≡ 1 ∷ []
alone = refl

-- ---- no record: 5 bytes behind the head are skipped, and no port sends

abbrev cut : Capture
cut = record { head = head; big = true; records = []; skipped = 1 }

no_record_said : capture_of (head ++ take 5 (frame 7)) ≡ Ok cut
no_record_said = refl

no_record : switched_by (record { config = smallest; groups = []; every = 1; ports = 2; depth = 2 }) (head ++ take 5 (frame 7)) cut ≡ record {
  files = [];
  counts = record { packets = 0; skipped = 1; out = 0; dropped = 0; queue = 0; cells = 0 };
}
no_record = refl
