-- Where a configuration is within the limits, each sum is at most its number.
use Rattle.std.proofs.Common.{◌≡◌, ℕ, ◌+◌, ◌≤◌, List, [], ◌∷◌, length, Option, Some, None, refl, inl, inr}
use Rattle.std.specs.List.{flat_map, count_by, sum_by, AllByRecursion}
use Rattle.std.proofs.lemmas.Bool.{cases_lt, lt-ltb, le-ltb}
use Rattle.rmt_config.specs.Instructions.{unit_instructions}
use Rattle.rmt_config.specs.declared.limits.LimitHit.{LimitHit}
use Rattle.rmt_config.specs.Types.{Config, ParserState, ParserEntry, Stage}
use Rattle.rmt_config.specs.Resources.{is_slot, is_gate, unit_data, unit_sram, unit_width, greatest_by, most_listed_in, exact_words, ternary_words, crossbar_bits, node_count}
use Rattle.rmt_config.specs.Limits.{over, or_hit, first_passed, first_hit, stage_hit, stages_hit, entries_hit, states_hit, lookups_hit, entry_hit, sram_hit, tcam_hit, exact_words_hit, ternary_words_hit, slots_hit, code_hit, data_hit, gates_hit, width_hit, listed_hit, nodes_hit, crowded_stage, last_start_hit, parser_limit_hit, reading_limit_hit, unit_limit_hit, stage_limit_hit, IsWithinLimits}
use Rattle.rmt_config.specs.StageForm.{tcam_blocks}

-- ---- single hits

-- a sum that is not told is within its limit, and the other way round
pub within : (most limit stage sum : ℕ) → over most limit stage sum ≡ None → sum ≤ most
within most limit stage sum e =
    elim (cases_lt most sum) [
      | inl more ↦ absurd (let h = rw (lt-ltb most sum more) at e in cc)
      | inr fits ↦ fits
    ]

pub no_hit : (most limit stage sum : ℕ) → sum ≤ most → over most limit stage sum ≡ None
no_hit most limit stage sum fits = rw (le-ltb most sum fits) refl

-- two limits of which none is passed
pub neither : (a b : Option LimitHit) → or_hit a b ≡ None → (a ≡ None) × (b ≡ None)
neither (Some hit) b e = absurd cc
neither None b e = (refl, e)

pub none_of : (a b : Option LimitHit) → a ≡ None → b ≡ None → or_hit a b ≡ None
none_of (Some hit) b e f = absurd cc
none_of None b e f = f

-- ---- lists of hits

pub each_none : (hits : List (Option LimitHit)) → first_passed hits ≡ None → AllByRecursion (λ hit. hit ≡ None) hits
each_none [] e = tt
each_none (hit ∷ hits) e = let n = neither hit (first_passed hits) e in (n.0, each_none hits n.1)

pub each_item : {A : Type 0} (item : A → Option LimitHit) (P : A → Type 0) → ((x : A) → item x ≡ None → P x) → (xs : List A) → first_hit item xs ≡ None → AllByRecursion P xs
each_item item P gives [] e = tt
each_item item P gives (x ∷ xs) e = let n = neither (item x) (first_hit item xs) e in (gives x n.0, each_item item P gives xs n.1)

-- each stage's sum is within its limit
pub each_stage : (measure : Stage → ℕ) (most limit k : ℕ) (stages : List Stage) → stage_hit (λ n stage. over most limit n (measure stage)) k stages ≡ None
    → AllByRecursion (λ stage. measure stage ≤ most) stages
each_stage measure most limit k [] e = tt
each_stage measure most limit k (stage ∷ stages) e =
    let n = neither (over most limit k (measure stage)) (stage_hit (λ n stage. over most limit n (measure stage)) (k + 1) stages) e in
    (within most limit k (measure stage) n.0, each_stage measure most limit (k + 1) stages n.1)

-- ---- all limits

-- each limit of the chip is kept
pub record KeepsLimits (c : Config) : Type 0 where
  pub stages : length c.stages ≤ 32
  pub entries : length c.parser.entries ≤ 256
  pub states : length c.parser.states ≤ 256
  pub lookups : AllByRecursion (λ (s : ParserState). length s.lookups ≤ 4) c.parser.states
  pub each_entry : AllByRecursion (λ (e : ParserEntry). (e.need ≤ 128) × (length e.extracts ≤ 64)) c.parser.entries
  pub sram : AllByRecursion (λ (s : Stage). length (flat_map unit_sram s.units) ≤ 106) c.stages
  pub tcam : AllByRecursion (λ (s : Stage). length (flat_map tcam_blocks s.units) ≤ 16) c.stages
  pub exact : AllByRecursion (λ (s : Stage). crossbar_bits exact_words s.units ≤ 640) c.stages
  pub ternary : AllByRecursion (λ (s : Stage). crossbar_bits ternary_words s.units ≤ 640) c.stages
  pub slots : AllByRecursion (λ (s : Stage). count_by is_slot s.units ≤ 16) c.stages
  pub code : AllByRecursion (λ (s : Stage). sum_by unit_instructions s.units ≤ 32) c.stages
  pub held : AllByRecursion (λ (s : Stage). sum_by unit_data s.units ≤ 1280) c.stages
  pub gates : AllByRecursion (λ (s : Stage). count_by is_gate s.units ≤ 16) c.stages
  pub nodes : node_count c.stages ≤ 128
  pub width : AllByRecursion (λ (s : Stage). greatest_by unit_width s.units ≤ 8) c.stages
  pub last_start : last_start_hit c.stages ≡ None
  pub listed : AllByRecursion (λ (s : Stage). most_listed_in s.units ≤ 1) c.stages

entry_within : (e : ParserEntry) → entry_hit e ≡ None → (e.need ≤ 128) × (length e.extracts ≤ 64)
entry_within e h =
    let n = neither (over 128 5 0 e.need) (over 64 5 0 (length e.extracts)) h in
    (within 128 5 0 e.need n.0, within 64 5 0 (length e.extracts) n.1)

pub limits_kept : (c : Config) → IsWithinLimits c → KeepsLimits c
limits_kept c e =
    let all = each_none (stages_hit c ∷ parser_limit_hit c.parser ∷ stage_limit_hit c.stages ∷ []) e in
    let parser = each_none (entries_hit c.parser ∷ states_hit c.parser ∷ first_hit lookups_hit c.parser.states ∷ first_hit entry_hit c.parser.entries ∷ []) all.1.0 in
    let above = each_none (reading_limit_hit c.stages ∷ unit_limit_hit c.stages ∷ nodes_hit c.stages ∷ stage_hit width_hit 0 c.stages ∷ last_start_hit c.stages ∷ stage_hit listed_hit 0 c.stages ∷ []) all.1.1.0 in
    let reading = each_none (stage_hit sram_hit 0 c.stages ∷ stage_hit tcam_hit 0 c.stages ∷ stage_hit exact_words_hit 0 c.stages ∷ stage_hit ternary_words_hit 0 c.stages ∷ []) above.0 in
    let units = each_none (stage_hit slots_hit 0 c.stages ∷ stage_hit code_hit 0 c.stages ∷ stage_hit data_hit 0 c.stages ∷ stage_hit gates_hit 0 c.stages ∷ []) above.1.0 in
    record {
      stages = within 32 1 0 (length c.stages) all.0;
      entries = within 256 3 0 (length c.parser.entries) parser.0;
      states = within 256 3 0 (length c.parser.states) parser.1.0;
      lookups = each_item lookups_hit (λ (s : ParserState). length s.lookups ≤ 4) (λ s h. within 4 4 0 (length s.lookups) h) c.parser.states parser.1.1.0;
      each_entry = each_item entry_hit (λ (x : ParserEntry). (x.need ≤ 128) × (length x.extracts ≤ 64)) entry_within c.parser.entries parser.1.1.1.0;
      sram = each_stage (λ (s : Stage). length (flat_map unit_sram s.units)) 106 6 0 c.stages reading.0;
      tcam = each_stage (λ (s : Stage). length (flat_map tcam_blocks s.units)) 16 7 0 c.stages reading.1.0;
      exact = each_stage (λ (s : Stage). crossbar_bits exact_words s.units) 640 8 0 c.stages reading.1.1.0;
      ternary = each_stage (λ (s : Stage). crossbar_bits ternary_words s.units) 640 9 0 c.stages reading.1.1.1.0;
      slots = each_stage (λ (s : Stage). count_by is_slot s.units) 16 10 0 c.stages units.0;
      code = each_stage (λ (s : Stage). sum_by unit_instructions s.units) 32 11 0 c.stages units.1.0;
      held = each_stage (λ (s : Stage). sum_by unit_data s.units) 1280 12 0 c.stages units.1.1.0;
      gates = each_stage (λ (s : Stage). count_by is_gate s.units) 16 13 0 c.stages units.1.1.1.0;
      nodes = within 128 14 (crowded_stage c.stages) (node_count c.stages) above.1.1.0;
      width = each_stage (λ (s : Stage). greatest_by unit_width s.units) 8 15 0 c.stages above.1.1.1.0;
      last_start = above.1.1.1.1.0;
      listed = each_stage (λ (s : Stage). most_listed_in s.units) 1 17 0 c.stages above.1.1.1.1.1.0;
    }
