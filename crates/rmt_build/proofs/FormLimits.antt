-- A configuration whose stages and parser keep the sums is within the limits.
use Rattle.std.proofs.Common.{◌≡◌, ℕ, ◌+◌, ◌-◌, ◌≤◌, List, [], ◌∷◌, Option, Some, None, length, get_or, refl}
use Rattle.std.specs.Prelude.{All, count_by, slice_get, sum_by}
use Rattle.std.specs.List.{flat_map}
use Rattle.std.proofs.lemmas.List.Elements.{All-head, All-tail}
use Rattle.rmt_bits.proofs.AllLaws.{All-slice_get}
use Rattle.rmt_build.specs.Types.{Config, ParserConfig, ParserState, ParserEntry, Stage}
use Rattle.rmt_config.specs.declared.limits.LimitHit.{LimitHit}
use Rattle.rmt_config.specs.Limits.{IsWithinLimits, code_hit, crowded_stage, data_hit, entries_hit, entry_hit, exact_words_hit, first_hit, first_passed, gates_hit, last_start_hit, listed_hit, lookups_hit, nodes_hit, over, parser_limit_hit, reading_limit_hit, slots_hit, sram_hit, stage_hit, stage_limit_hit, stages_hit, states_hit, tcam_hit, ternary_words_hit, unit_limit_hit, width_hit}
use Rattle.rmt_config.specs.Instructions.{unit_instructions}
use Rattle.rmt_config.specs.Resources.{crossbar_bits, exact_words, greatest_by, is_gate, is_slot, most_listed_in, node_count, ternary_words, unit_data, unit_sram, unit_width}
use Rattle.rmt_config.proofs.LimitLaws.{no_hit, none_of}
use Rattle.rmt_config.specs.StageForm.{tcam_blocks}

-- ---- one limit

-- some limits one after another
after : (a : Option LimitHit) (hits : List (Option LimitHit)) → a ≡ None → first_passed hits ≡ None → first_passed (a ∷ hits) ≡ None
after a hits ea rest = none_of a (first_passed hits) ea rest

none_item : {X : Type 0} (item : X → Option LimitHit) (xs : List X) → All (λ x. item x ≡ None) xs → first_hit item xs ≡ None
none_item item [] all = refl
none_item item (x ∷ xs) all = none_of (item x) (first_hit item xs) (All-head (λ y. item y ≡ None) x xs all) (none_item item xs (All-tail (λ y. item y ≡ None) x xs all))

none_stage : (item : ℕ → Stage → Option LimitHit) (k : ℕ) (stages : List Stage) → All (λ s. (j : ℕ) → item j s ≡ None) stages → stage_hit item k stages ≡ None
none_stage item k [] all = refl
none_stage item k (s ∷ stages) all =
    none_of (item k s) (stage_hit item (k + 1) stages) (All-head (λ x. (j : ℕ) → item j x ≡ None) s stages all k)
    (none_stage item (k + 1) stages (All-tail (λ x. (j : ℕ) → item j x ≡ None) s stages all))

-- ---- what is asked of the parser and of each stage

pub record FewParts (parser : ParserConfig) : Type 0 where
  pub entries : length parser.entries ≤ 256
  pub states : length parser.states ≤ 256
  pub lookups : All (λ (s : ParserState). length s.lookups ≤ 4) parser.states
  pub need : All (λ (e : ParserEntry). e.need ≤ 128) parser.entries
  pub extracts : All (λ (e : ParserEntry). length e.extracts ≤ 64) parser.entries

pub record FitsStage (s : Stage) : Type 0 where
  pub sram : length (flat_map unit_sram s.units) ≤ 106
  pub tcam : length (flat_map tcam_blocks s.units) ≤ 16
  pub exact : crossbar_bits exact_words s.units ≤ 640
  pub ternary : crossbar_bits ternary_words s.units ≤ 640
  pub slots : count_by is_slot s.units ≤ 16
  pub code : sum_by unit_instructions s.units ≤ 32
  pub held : sum_by unit_data s.units ≤ 1280
  pub gates : count_by is_gate s.units ≤ 16
  pub width : greatest_by unit_width s.units ≤ 8
  pub listed : most_listed_in s.units ≤ 1
  pub start : s.start ≤ 372

parser_within : (parser : ParserConfig) → FewParts parser → parser_limit_hit parser ≡ None
parser_within parser few =
    let states = first_hit lookups_hit parser.states in
    let entries = first_hit entry_hit parser.entries in
    let need : All (λ e. entry_hit e ≡ None) parser.entries = λ k d lt.
    none_of (over 128 5 0 (get_or parser.entries k d).need) (over 64 5 0 (length (get_or parser.entries k d).extracts)) (no_hit 128 5 0 (get_or parser.entries k d).need (few.need k d lt))
    (no_hit 64 5 0 (length (get_or parser.entries k d).extracts) (few.extracts k d lt)) in
    after (entries_hit parser) (states_hit parser ∷ states ∷ entries ∷ []) (no_hit 256 3 0 (length parser.entries) few.entries)
    (after (states_hit parser) (states ∷ entries ∷ []) (no_hit 256 3 0 (length parser.states) few.states)
    (after states (entries ∷ []) (none_item lookups_hit parser.states (λ k d lt. no_hit 4 4 0 (length (get_or parser.states k d).lookups) (few.lookups k d lt)))
    (after entries [] (none_item entry_hit parser.entries need) refl)))

last_within : (stages : List Stage) (o : Option Stage) → slice_get stages (length stages - 1) ≡ o → All FitsStage stages → last_start_hit stages ≡ None
last_within stages None e all = by_none stages e
  where
    by_none : (xs : List Stage) → slice_get xs (length xs - 1) ≡ None → last_start_hit xs ≡ None
    by_none xs is = rw is refl
last_within stages (Some s) e all = by_some stages s e (All-slice_get FitsStage stages (length stages - 1) s all e)
  where
    by_some : (xs : List Stage) (x : Stage) → slice_get xs (length xs - 1) ≡ Some x → FitsStage x → last_start_hit xs ≡ None
    by_some xs x is fits = rw is (no_hit 372 16 (length xs - 1) x.start fits.start)

-- a limit of each stage
each_stage : (most limit : ℕ) (sum : Stage → ℕ) (stages : List Stage) → All (λ s. sum s ≤ most) stages → stage_hit (λ k s. over most limit k (sum s)) 0 stages ≡ None
each_stage most limit sum stages all =
    none_stage (λ k s. over most limit k (sum s)) 0 stages (λ k d lt j. no_hit most limit j (sum (get_or stages k d)) (all k d lt))

reading_within : (stages : List Stage) → All FitsStage stages → reading_limit_hit stages ≡ None
reading_within stages all =
    let tcam = stage_hit tcam_hit 0 stages in
    let exact = stage_hit exact_words_hit 0 stages in
    let ternary = stage_hit ternary_words_hit 0 stages in
    after (stage_hit sram_hit 0 stages) (tcam ∷ exact ∷ ternary ∷ []) (each_stage 106 6 (λ s. length (flat_map unit_sram s.units)) stages (λ k d lt. (all k d lt).sram))
    (after tcam (exact ∷ ternary ∷ []) (each_stage 16 7 (λ s. length (flat_map tcam_blocks s.units)) stages (λ k d lt. (all k d lt).tcam))
    (after exact (ternary ∷ []) (each_stage 640 8 (λ s. crossbar_bits exact_words s.units) stages (λ k d lt. (all k d lt).exact))
    (after ternary [] (each_stage 640 9 (λ s. crossbar_bits ternary_words s.units) stages (λ k d lt. (all k d lt).ternary)) refl)))

units_within : (stages : List Stage) → All FitsStage stages → unit_limit_hit stages ≡ None
units_within stages all =
    let code = stage_hit code_hit 0 stages in
    let held = stage_hit data_hit 0 stages in
    let gates = stage_hit gates_hit 0 stages in
    after (stage_hit slots_hit 0 stages) (code ∷ held ∷ gates ∷ []) (each_stage 16 10 (λ s. count_by is_slot s.units) stages (λ k d lt. (all k d lt).slots))
    (after code (held ∷ gates ∷ []) (each_stage 32 11 (λ s. sum_by unit_instructions s.units) stages (λ k d lt. (all k d lt).code))
    (after held (gates ∷ []) (each_stage 1280 12 (λ s. sum_by unit_data s.units) stages (λ k d lt. (all k d lt).held))
    (after gates [] (each_stage 16 13 (λ s. count_by is_gate s.units) stages (λ k d lt. (all k d lt).gates)) refl)))

stages_within : (stages : List Stage) → All FitsStage stages → node_count stages ≤ 128 → stage_limit_hit stages ≡ None
stages_within stages all nodes =
    let units = unit_limit_hit stages in
    let width = stage_hit width_hit 0 stages in
    let last = last_start_hit stages in
    let listed = stage_hit listed_hit 0 stages in
    after (reading_limit_hit stages) (units ∷ nodes_hit stages ∷ width ∷ last ∷ listed ∷ []) (reading_within stages all)
    (after units (nodes_hit stages ∷ width ∷ last ∷ listed ∷ []) (units_within stages all)
    (after (nodes_hit stages) (width ∷ last ∷ listed ∷ []) (no_hit 128 14 (crowded_stage stages) (node_count stages) nodes)
    (after width (last ∷ listed ∷ []) (each_stage 8 15 (λ s. greatest_by unit_width s.units) stages (λ k d lt. (all k d lt).width))
    (after last (listed ∷ []) (last_within stages (slice_get stages (length stages - 1)) refl all)
    (after listed [] (each_stage 1 17 (λ s. most_listed_in s.units) stages (λ k d lt. (all k d lt).listed)) refl)))))

-- a configuration that keeps them
pub within_limits : (c : Config) → length c.stages ≤ 32 → FewParts c.parser → All FitsStage c.stages → node_count c.stages ≤ 128 → IsWithinLimits c
within_limits c few parser stages nodes =
    after (stages_hit c) (parser_limit_hit c.parser ∷ stage_limit_hit c.stages ∷ []) (no_hit 32 1 0 (length c.stages) few)
    (after (parser_limit_hit c.parser) (stage_limit_hit c.stages ∷ []) (parser_within c.parser parser)
    (after (stage_limit_hit c.stages) [] (stages_within c.stages stages nodes) refl))
