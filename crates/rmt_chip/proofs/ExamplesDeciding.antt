-- Guards, what runs and what is counted, worked by hand.
use Rattle.std.proofs.Common.{◌≡◌, ℕ, ◌^◌, true, false, List, [], ◌∷◌, Some, None, replicate, set, get_or, ◌-◌, refl}
use Rattle.rmt_bits.specs.Bits.{number_of}
use Rattle.rmt_bits.specs.Counts.{counts}
use Rattle.rmt_bits.specs.declared.answer.Count.{Count}
use Rattle.rmt_bits.specs.declared.lane.Lane.{Lane}
use Rattle.rmt_chip.specs.Types.{UnitGuard, Vliw}
use Rattle.rmt_config.specs.LaneForm.{bits_of_lanes}
use Rattle.rmt_config.specs.BlockCounts.{divided_up}
use Rattle.rmt_config.specs.Life.{guarded, runs, key_of}
use Rattle.rmt_memory.specs.declared.looked.Looked.{Looked}
use Rattle.rmt_bits.specs.Counting.{counted}
use Rattle.rmt_chip.specs.Counting.{hits_made}
use Rattle.rmt_chip.specs.Ran.{held_of, running_of, all_running}

-- ---- guards: node 5 has hit its second action, and node 6 has missed

abbrev outcomes : List ℕ
outcomes = set (set (replicate 256 0) 5 3) 6 1

abbrev on : ℕ → ℕ → UnitGuard
on parent mask = record { parent = parent; mask = mask }

outcome_in_mask : guarded (Some (on 5 0b1000)) outcomes ≡ true
outcome_in_mask = refl

outcome_not_in_mask : guarded (Some (on 5 0b0100)) outcomes ≡ false
outcome_not_in_mask = refl

miss_in_mask : guarded (Some (on 6 0b0010)) outcomes ≡ true
miss_in_mask = refl

parent_without_outcome : guarded (Some (on 7 0b1110)) outcomes ≡ false
parent_without_outcome = refl

no_guard : runs 7 None outcomes ≡ true
no_guard = refl

-- a later part of a table that was hit does not run
runs_once : runs 5 None outcomes ≡ false
runs_once = refl

-- ---- keys: bits 4 to 7 of word 0 and the 16 bits of word 64, 20 bits in 3 bytes

abbrev lanes : List Lane
lanes = record { word = 0; low = 4; len = 4 } ∷ record { word = 64; low = 0; len = 16 } ∷ []

abbrev words : List ℕ
words = set (set (replicate 224 0) 0 0xa7) 64 0xbeef

key_is : key_of (λ w. get_or words w 0) lanes ≡ 0xabeef
key_is = refl

key_bytes : number_of (0x0a ∷ 0xbe ∷ 0xef ∷ []) ≡ 0xabeef
key_bytes = refl

three_bytes : divided_up (bits_of_lanes lanes) 8 ≡ 3
three_bytes = refl

-- ---- what runs: an instruction reads the record of its own unit, and the default reads 0

record_of_unit : (one two : Looked) → held_of (one ∷ two ∷ []) 1 ≡ number_of two.held.items
record_of_unit one two = refl

no_record : (code : List Vliw) (looked : List Looked) → (running_of code looked (record { code = 2; unit = 0; found = false })).held ≡ 0
no_record code looked = refl

last_first : (code : List Vliw) (looked : List Looked)
    → all_running code looked (record { code = 0; unit = 0; found = true } ∷ record { code = 2; unit = 1; found = false } ∷ [])
    ≡ running_of code looked (record { code = 2; unit = 1; found = false }) ∷ running_of code looked (record { code = 0; unit = 0; found = true }) ∷ []
last_first code looked = refl

-- ---- counters

abbrev two_counters : List Count
two_counters = record { entry = 3; packets = 2 ^ 48 - 1; bytes = 2 ^ 64 - 64 } ∷ record { entry = 9; packets = 0; bytes = 0 } ∷ []

-- packets wrap at 2^48 and bytes at 2^64
counter_wraps : counted 100 two_counters 3 ≡ record { entry = 3; packets = 0; bytes = 36 } ∷ record { entry = 9; packets = 0; bytes = 0 } ∷ []
counter_wraps = refl

not_counted : counted 100 two_counters 4 ≡ two_counters
not_counted = refl

hit_order : hits_made 60 (record { number = 9; age = 20 } ∷ record { number = 3; age = 20 } ∷ []) ≡ record { number = 3; bytes = 60 } ∷ record { number = 9; bytes = 60 } ∷ []
hit_order = refl

after_hit : counted 60 (counts (9 ∷ 3 ∷ []) []) 9 ≡ counts (9 ∷ 3 ∷ []) (record { number = 9; bytes = 60 } ∷ [])
after_hit = refl
