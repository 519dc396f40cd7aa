-- What the code works with that looks at the limits: what a unit takes by name, tables over all bytes, and limits of a stage by name.
use Rattle.std.specs.Prelude.{◌≡◌, ℕ, ◌+◌, ◌<◌, List, [], ◌∷◌, length, Bool, false, cond, slice_index, slice_index_or, nat_lt, IsTrue, Option}
use Rattle.std.specs.List.{list_all, sum_by}
use Rattle.rmt_bits.specs.Members.{is_among}
use Rattle.rmt_config.specs.Instructions.{unit_instructions}
use Rattle.rmt_config.specs.declared.limits.LimitHit.{LimitHit}
use Rattle.rmt_config.specs.declared.limits.crossbar.Crossbar.{Crossbar}
use Rattle.rmt_config.specs.declared.limits.crossbar.Crossbar.TheVariants as crossbar
use Rattle.rmt_config.specs.declared.limits.total.Resource.{Resource}
use Rattle.rmt_config.specs.declared.limits.total.Resource.TheVariants as resource
use Rattle.rmt_config.specs.declared.limits.stage.StageLimit.{StageLimit}
use Rattle.rmt_config.specs.declared.limits.stage.StageLimit.TheVariants as limit
use Rattle.rmt_config.specs.Types.{Stage, Unit}
use Rattle.rmt_config.specs.Resources.{is_slot, is_gate, unit_data, unit_sram, distinct, times_in, exact_words, ternary_words}
use Rattle.rmt_config.specs.Limits.{told, sram_hit, tcam_hit, exact_words_hit, ternary_words_hit, slots_hit, code_hit, data_hit, gates_hit, width_hit, listed_hit}
use Rattle.rmt_config.specs.StageForm.{tcam_blocks}

-- how much a unit takes
abbrev pub taken_by : Resource → Unit → ℕ
taken_by resource.Sram = λ unit. length (unit_sram unit)
taken_by resource.Tcam = λ unit. length (tcam_blocks unit)
taken_by resource.Slots = λ unit. cond (is_slot unit) 1 0
taken_by resource.Instructions = unit_instructions
taken_by resource.DataBits = unit_data
taken_by resource.Gates = λ unit. cond (is_gate unit) 1 0

-- the words that a unit reads over a crossbar
abbrev pub words_over : Crossbar → Unit → List ℕ
words_over crossbar.Exact = exact_words
words_over crossbar.Ternary = ternary_words

-- what numbers that are marked measure together, where the first mark is that of this number
abbrev pub marked_sum : (ℕ → ℕ) → ℕ → List Bool → ℕ
marked_sum measure n [] = 0
marked_sum measure n (mark ∷ marks) = cond mark (measure n) 0 + marked_sum measure (n + 1) marks

-- the bytes that stand in a list are marked
pub record Marks (ns : List ℕ) (marks : List Bool) : Type 0 where
  pub size : length marks ≡ 256
  pub each : (n : ℕ) → n < 256 → slice_index_or marks n false ≡ is_among ns n
  pub sums : (measure : ℕ → ℕ) → marked_sum measure 0 marks ≡ sum_by measure (distinct ns)

-- each byte's count is how often it stands in a list of bytes
pub record Counts (ns : List ℕ) (counts : List ℕ) : Type 0 where
  pub size : length counts ≡ 256
  pub each : (n : ℕ) → n < 256 → slice_index counts n ≡ told (times_in ns n)
  pub bytes : IsTrue (list_all (λ n. nat_lt n 256) ns)

-- a limit of a stage
abbrev pub hit_of : StageLimit → ℕ → Stage → Option LimitHit
hit_of limit.Sram = sram_hit
hit_of limit.Tcam = tcam_hit
hit_of limit.ExactWords = exact_words_hit
hit_of limit.TernaryWords = ternary_words_hit
hit_of limit.Slots = slots_hit
hit_of limit.Instructions = code_hit
hit_of limit.DataBits = data_hit
hit_of limit.Gates = gates_hit
hit_of limit.Width = width_hit
hit_of limit.Listings = listed_hit
