-- What the code works with: marks of where nodes stand, how late stages start at most, and what the parts of a stage take.
use Rattle.std.specs.Prelude.{◌≡◌, ℕ, ◌+◌, ◌*◌, ◌-◌, ◌^◌, ◌<◌, ◌≤◌, List, [], ◌∷◌, Bool, true, false, ◌&&◌, nat_le, nat_lt, if◌then◌else◌, Option, Some, None, map, slice_index, slice_index_or, length, sum_by}
use Rattle.std.specs.List.{flat_map}
use Rattle.rmt_bits.specs.Members.{is_among}
use Rattle.rmt_config.specs.declared.limits.LimitHit.{LimitHit}
use Rattle.rmt_config.specs.LimitSteps.{Marks}
use Rattle.rmt_config.specs.Limits.{told}
use Rattle.rmt_pack.specs.declared.placement.Part.{Part}
use Rattle.rmt_pack.specs.Starts.{stages_of}
use Rattle.rmt_place.specs.declared.demand.Demand.{Demand}
use Rattle.rmt_place.specs.declared.load.Load.{Load}
use Rattle.rmt_place.specs.Needs.{Standing, Sum, keeps_limits, sums_of}
use Rattle.rmt_place.specs.Placing.{last_stage, standing_in}

-- each node has 32 marks, by its number: those of the stages in which it has a part are set
abbrev pub Marked : List Part → List Bool → Type 0
Marked parts marks = (n k : ℕ) → k < 32 → slice_index_or marks (n * 32 + k) false ≡ is_among (stages_of parts n) k

-- stages start at most 12 cycles apart
abbrev pub AreEarly : List ℕ → Type 0
AreEarly starts = (k : ℕ) → k < length starts → slice_index starts k ≤ 12 * k

-- ---- what the parts of a stage take

-- a load has what the parts of a stage take together
pub record Holds (xs : List Standing) (load : Load) : Type 0 where
  pub sram : load.sram ≡ sum_by (λ (x : Standing). x.quanta * x.demand.sram) xs
  pub tcam : load.tcam ≡ sum_by (λ (x : Standing). x.quanta * x.demand.tcam) xs
  pub exact : Marks (flat_map (λ (x : Standing). x.demand.exact_words) xs) load.exact
  pub ternary : Marks (flat_map (λ (x : Standing). x.demand.ternary_words) xs) load.ternary
  pub slots : load.slots ≡ sum_by (λ (x : Standing). x.demand.slots) xs
  pub instructions : load.instructions ≡ sum_by (λ (x : Standing). x.demand.instructions) xs
  pub held : load.held ≡ sum_by (λ (x : Standing). x.demand.held) xs
  pub gates : load.gates ≡ sum_by (λ (x : Standing). x.demand.gates) xs

-- it passes none of the limits that are not of words
pub record IsWithin (load : Load) : Type 0 where
  pub sram : load.sram ≤ 106
  pub tcam : load.tcam ≤ 16
  pub slots : load.slots ≤ 16
  pub instructions : load.instructions ≤ 32
  pub held : load.held ≤ 1280
  pub gates : load.gates ≤ 16

-- the numbers of what a node needs are of 32 bits
pub record IsSmall (d : Demand) : Type 0 where
  pub sram : d.sram < 2 ^ 32
  pub tcam : d.tcam < 2 ^ 32
  pub slots : d.slots < 2 ^ 32
  pub instructions : d.instructions < 2 ^ 32
  pub held : d.held < 2 ^ 32
  pub gates : d.gates < 2 ^ 32

-- the sums of a stage alone
abbrev pub numbers_of : List Standing → List ℕ
numbers_of xs = map (λ (s : Sum). s.sum) (sums_of xs)

-- sums keep the limits beside them
abbrev pub are_kept : List ℕ → List ℕ → Bool
are_kept [] sums = true
are_kept (most ∷ mosts) [] = true
are_kept (most ∷ mosts) (sum ∷ sums) = nat_le sum most && are_kept mosts sums

-- the first of some limits, numbered from one on, that sums pass: what it is without one more quantum, and what that needs
abbrev pub passed_of : ℕ → ℕ → List ℕ → List ℕ → List ℕ → Option LimitHit
passed_of k limit [] have more = None
passed_of k limit (most ∷ mosts) [] more = None
passed_of k limit (most ∷ mosts) (x ∷ xs) [] = None
passed_of k limit (most ∷ mosts) (x ∷ xs) (y ∷ ys) =
    if nat_lt most y then Some (record { limit = limit; stage = k; sum = told x; need = told (y - x) }) else passed_of k (limit + 1) mosts xs ys

-- the loads of the 32 stages have what the parts take, and each stage keeps its limits
pub record HoldStages (demands : List Demand) (parts : List Part) (loads : List Load) : Type 0 where
  pub count : length loads ≡ 32
  pub holds : (k : ℕ) (d : Load) → k < 32 → Holds (standing_in demands parts k) (slice_index_or loads k d)
  pub kept : (k : ℕ) → k < 32 → keeps_limits (standing_in demands parts k) ≡ true

-- of each node is known the last stage in which it has a part
pub record AreLast (parts : List Part) (last : List ℕ) : Type 0 where
  pub each : (n : ℕ) → slice_index last n ≡ last_stage parts n
  pub few : (n : ℕ) → slice_index last n < 32
