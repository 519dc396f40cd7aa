-- The program on two stages: the configuration keeps the rules of form, so the cells that are occupied are those that its slots list.
use Rattle.std.proofs.Common.{ℕ, ◌/◌, ◌%◌, false, true, [], ◌∷◌, refl, arith}
use Rattle.std.specs.Prelude.{All}
use Rattle.rmt_refine.specs.Types.{Stage, SramRow, TcamRow}
use Rattle.rmt_config.specs.CellForm.{Coded, SlotHolds, StageHolds, none}
use Rattle.rmt_config.specs.Form.{Formed}
use Rattle.rmt_config.specs.Limits.{IsWithinLimits}
use Rattle.rmt_config.specs.Layouts.{ternary_keys, ternary_records}
use Rattle.rmt_config.specs.StageForm.{srow_number, trow_number}
use Rattle.rmt_config.proofs.SlotLaws.{formed-rows, ternary-fits, ternary-slot}
use Rattle.rmt_config.proofs.ToldTests.{told-from_test}
use Rattle.rmt_refine.proofs.ListedLaws.{two}
use Rattle.rmt_refine.proofs.TwoStages.{config, first_stage, keyless_unit, number_at, ports_unit, second_stage}

-- a slot without memory holds nothing
keyless_holds : (stage : Stage) (first node : ℕ) → SlotHolds 3 stage first (keyless_unit node)
keyless_holds stage first node = record { numbers = refl; others = λ n lt more. absurd (omega (arith, lt)); ends = none }

pub first_holds : SlotHolds 3 first_stage 1 (ports_unit false (number_at 0 1 ∷ number_at 1 2 ∷ []))
first_holds =
    let s = ports_unit false (number_at 0 1 ∷ number_at 1 2 ∷ []) in
    let keys = told-from_test (ternary_keys 1 8) (λ r. trow_number r / 2048) (λ r. trow_number r % 2048) (λ (r : TcamRow). r.mask) (0 ∷ 1 ∷ []) first_stage.trows (0 ∷ []) refl in
    let records = told-from_test (ternary_records 1 17) (λ r. srow_number r / 1024) (λ r. srow_number r % 1024) (λ (r : SramRow). r.bits) (0 ∷ 1 ∷ []) first_stage.srows (0 ∷ []) refl in
    let fit = ternary-fits s 1 (0 ∷ []) (0 ∷ []) (1 ∷ 2 ∷ []) refl refl in
    (ternary-slot 3 first_stage 1 s 1 (0 ∷ []) (0 ∷ []) (1 ∷ 2 ∷ []) (formed-rows first_stage refl refl) fit).0 (refl, (keys, records))

pub second_holds : SlotHolds 3 second_stage 0 (ports_unit true (number_at 0 0 ∷ []))
second_holds =
    let s = ports_unit true (number_at 0 0 ∷ []) in
    let keys = told-from_test (ternary_keys 1 8) (λ r. trow_number r / 2048) (λ r. trow_number r % 2048) (λ (r : TcamRow). r.mask) (0 ∷ []) second_stage.trows (0 ∷ []) refl in
    let records = told-from_test (ternary_records 1 17) (λ r. srow_number r / 1024) (λ r. srow_number r % 1024) (λ (r : SramRow). r.bits) (0 ∷ []) second_stage.srows (0 ∷ []) refl in
    let fit = ternary-fits s 1 (0 ∷ []) (0 ∷ []) (1 ∷ 2 ∷ []) refl refl in
    (ternary-slot 3 second_stage 0 s 1 (0 ∷ []) (0 ∷ []) (1 ∷ 2 ∷ []) (formed-rows second_stage refl refl) fit).0 (refl, (keys, records))

abbrev Holds : Stage → Coded → Type 0
Holds stage c = SlotHolds 3 stage c.first c.slot

pub memories_hold : All (StageHolds 3) config.stages
memories_hold = two (StageHolds 3) first_stage second_stage
    (two (Holds first_stage) _ _ (keyless_holds first_stage 0 0) first_holds)
    (two (Holds second_stage) _ _ second_holds (keyless_holds second_stage 2 2))

pub formed : Formed config
formed = record { items = refl; whole = record { rows = refl; tables = refl; memory = memories_hold; numbers = refl; names = refl; tails = refl } }

pub within : IsWithinLimits config
within = refl
