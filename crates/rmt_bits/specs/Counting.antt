-- Counters, a hit and a number at a time, and the runs in which they are kept.
use Rattle.std.specs.Prelude.{ℕ, ◌≡◌, ◌+◌, ◌-◌, ◌*◌, ◌%◌, ◌^◌, ◌<◌, ◌≤◌, ◌==◌, nat_lt, if◌then◌else◌, List, [], ◌∷◌, map, length, take, drop, filter, All, AllPairs}
use Rattle.std.specs.List.{flat_map, list_any, sum_by}
use Rattle.rmt_bits.specs.declared.answer.Count.{Count}
use Rattle.rmt_bits.specs.Counts.{Hit}

-- one more packet, of so many bytes
abbrev pub with_packet : ℕ → Count → Count
with_packet bytes c = record { entry = c.entry; packets = (c.packets + 1) % 2 ^ 48; bytes = (c.bytes + bytes) % 2 ^ 64 }

-- the same where the counter is that of the entry
abbrev pub with_hit : ℕ → ℕ → Count → Count
with_hit number bytes c = if number == c.entry then with_packet bytes c else c

-- counters after a hit
abbrev pub counted : ℕ → List Count → ℕ → List Count
counted bytes counts number = map (with_hit number bytes) counts

-- counters by rising entry
abbrev pub AreRising : List Count → Type 0
AreRising counts = AllPairs (λ (a b : Count). a.entry < b.entry) counts

-- the first of these counters, if there is one, is that of this number
abbrev pub BeginsWith : ℕ → List Count → Type 0
BeginsWith n counts = All (λ (first : Count). n ≡ first.entry) (take 1 counts)

-- the counter of an entry that no packet hit
abbrev pub zero_count : ℕ → Count
zero_count n = record { entry = n; packets = 0; bytes = 0 }

-- counters by rising entry with one for this number, which is 0 where there was none
abbrev pub with_count : ℕ → List Count → List Count
with_count n [] = zero_count n ∷ []
with_count n (c ∷ cs) = if nat_lt n c.entry then zero_count n ∷ c ∷ cs else (if n == c.entry then c ∷ cs else c ∷ with_count n cs)

-- the hits of these numbers
abbrev pub hits_among : List ℕ → List Hit → List Hit
hits_among numbers hits = filter (λ h. list_any (λ m. m == h.number) numbers) hits

-- the counters of runs, one run after another
abbrev pub joined : List (List Count) → List Count
joined runs = flat_map (λ (run : List Count). run) runs

-- how many counters each run has
abbrev pub sizes_of : List (List Count) → List ℕ
sizes_of runs = map (λ (run : List Count). length run) runs

-- runs of such sizes, with so many free ones, have room for so many more numbers: none is full, none but the first is
-- empty, and where each number more comes to one run of half its size or more, a free one is there when it is full
pub record HaveRoom (sizes : List ℕ) (free room : ℕ) : Type 0 where
  pub small : All (λ n. n < 256) sizes
  pub filled : All (λ n. 0 < n) (drop 1 sizes)
  pub spare : sum_by (λ n. n - 128) sizes + room ≤ 128 * free
  pub begun : 0 < room → 0 < length sizes
