-- A report has no float, and the sums of stages within the limits are told exactly.
use Rattle.std.proofs.Common.{◌≡◌, ℕ, ◌+◌, ◌-◌, ◌<◌, ◌≤◌, List, [], ◌∷◌, ◌++◌, length, get_or, take, false, map, refl, ap, sym, ◌∙◌, arith}
use Rattle.std.specs.Prelude.{All}
use Rattle.std.specs.List.{flat_map, count_by, sum_by, AllByRecursion}
use Rattle.std.proofs.lemmas.List.Elements.{All-nil, All-cons}
use Rattle.std.proofs.lemmas.List.{map-append, map_more}
use Rattle.serde_json.specs.Data.{depth, items_depth}
use Rattle.serde_json.specs.Read.{max_depth}
use Rattle.serde_json.specs.View.{items_of}
use Rattle.serde_json.specs.Written.{has_float, items_have_float}
use Rattle.rmt_config.specs.Instructions.{unit_instructions}
use Rattle.rmt_config.specs.declared.config.Config.{Config}
use Rattle.rmt_config.specs.declared.config.Stage.{Stage}
use Rattle.rmt_config.specs.declared.config.Unit.{Unit as ChipUnit}
use Rattle.rmt_config.specs.declared.limits.total.Resource.{Resource}
use Rattle.rmt_config.specs.LimitSteps.{taken_by}
use Rattle.rmt_config.specs.Resources.{is_slot, is_gate, unit_data, unit_sram}
use Rattle.rmt_config.specs.Limits.{told, IsWithinLimits}
use Rattle.rmt_config.proofs.LimitLaws.{KeepsLimits, limits_kept}
use Rattle.rmt_config.specs.StageForm.{tcam_blocks}
use Rattle.rmt_report.specs.StageUse.{use_of}
use Rattle.rmt_report.specs.Report.{stage_report, report_of}
use Rattle.rmt_report.specs.Fits.{StageFits}

-- ---- sums

pub told_exactly : (sum most : ℕ) → sum ≤ most → most ≤ 1280 → told sum ≡ sum
told_exactly sum most fits small = omega (arith, fits, small)

-- each sum of each stage is within its limit
fit_together : (stages : List Stage)
    → AllByRecursion (λ (s : Stage). length (flat_map unit_sram s.units) ≤ 106) stages
    → AllByRecursion (λ (s : Stage). length (flat_map tcam_blocks s.units) ≤ 16) stages
    → AllByRecursion (λ (s : Stage). count_by is_slot s.units ≤ 16) stages
    → AllByRecursion (λ (s : Stage). sum_by unit_instructions s.units ≤ 32) stages
    → AllByRecursion (λ (s : Stage). sum_by unit_data s.units ≤ 1280) stages
    → AllByRecursion (λ (s : Stage). count_by is_gate s.units ≤ 16) stages
    → All StageFits stages
fit_together [] sram tcam slots code held gates = All-nil StageFits
fit_together (s ∷ stages) sram tcam slots code held gates =
    All-cons StageFits s stages (record { sram = sram.0; tcam = tcam.0; slots = slots.0; instructions = code.0; data_bits = held.0; gates = gates.0 })
    (fit_together stages sram.1 tcam.1 slots.1 code.1 held.1 gates.1)

pub stages_fit : (c : Config) → IsWithinLimits c → All StageFits c.stages
stages_fit c within =
    let kept : KeepsLimits c = limits_kept c within in
    fit_together c.stages kept.sram kept.tcam kept.slots kept.code kept.held kept.gates

-- what is summed over units, as it is told
pub of_total : (resource : Resource) (us units : List ChipUnit) (told_sum sum most : ℕ) → told_sum ≡ told (sum_by (taken_by resource) us) → us ≡ units
    → sum_by (taken_by resource) units ≡ sum → sum ≤ most → most ≤ 1280 → told_sum ≡ sum
of_total resource us units told_sum sum most e same is fits small =
    e ∙ ap (λ vs. told (sum_by (taken_by resource) vs)) same ∙ ap told is ∙ told_exactly sum most fits small

-- ---- stages in their order

-- one more object behind those of the stages before
pub objects_more : {X Y Z : Type 0} (g : Y → Z) (f : X → Z) (xs : List X) (i : ℕ) (x : X) (before after : List Y) (object : Y) → i < length xs → x ≡ get_or xs i x
    → after ≡ before ++ object ∷ [] → g object ≡ f x → map g before ≡ map f (take i xs) → map g after ≡ map f (take (i + 1) xs)
objects_more g f xs i x before after object lt is grown made done =
    ap (map g) grown ∙ map-append g before (object ∷ []) ∙ ap (λ zs. zs ++ g object ∷ []) done
    ∙ ap (λ z. map f (take i xs) ++ z ∷ []) (made ∙ ap f is) ∙ sym (map_more f xs i x lt)

-- ---- numbers

stages_without_float : (stages : List Stage) → items_have_float (items_of (map (λ (stage : Stage). stage_report (use_of stage)) stages)) ≡ false
stages_without_float [] = refl
stages_without_float (s ∷ stages) = stages_without_float stages

pub no_float : (c : Config) → has_float (report_of c) ≡ false
no_float c = rw (stages_without_float c.stages) refl

-- ---- nesting

stages_depth : (stages : List Stage) → items_depth (items_of (map (λ (stage : Stage). stage_report (use_of stage)) stages)) ≤ 1
stages_depth [] = omega arith
stages_depth (s ∷ stages) = let rest = stages_depth stages in omega (arith, rest)

pub nests_little : (c : Config) → depth (report_of c) ≤ max_depth
nests_little c = let stages = stages_depth c.stages in omega (arith, stages)
