-- Marks by lists of numbers.
use Rattle.std.specs.Prelude.{ℕ, ◌+◌, ◌-◌, ◌*◌, ◌/◌, ◌%◌, ◌^◌, Bool, true, List, fold, length, min, slice_get, unwrap_or}

-- how many slots so many entries have
abbrev pub slots_for : ℕ → ℕ
slots_for entries = min (entries * 16) (2 ^ 64 - 1)

-- the sum of a list, modulo 2 ^ 128
abbrev pub total_of : List ℕ → ℕ
total_of vs = fold (λ t v. (t + v) % 2 ^ 128) 0 vs

-- the slot of a sum among so many: its halves are added and spread over 64 bits, of which the upper 32 are scaled
abbrev pub slot_of : ℕ → ℕ → ℕ
slot_of slots t = (t / 2 ^ 64 + t % 2 ^ 64) % 2 ^ 64 * 0x9e3779b97f4a7c15 % 2 ^ 64 / 2 ^ 32 * slots % 2 ^ 64 / 2 ^ 32

-- whether lists of a sum are marked; where there is no slot they are
abbrev pub is_marked : List Bool → ℕ → Bool
is_marked marks t = unwrap_or (slice_get marks (slot_of (length marks) t)) true
