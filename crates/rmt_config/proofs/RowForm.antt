-- Steps of the look at the rows of a stage.
use Rattle.std.proofs.Common.{◌≡◌, ℕ, ◌+◌, ◌<◌, ◌≤◌, List, length, get_or, drop, replicate, Bool, true, false, ◌&&◌, ◌||◌, not, eqb, ltb, sym, ap, ◌∙◌, inl, inr}
use Rattle.std.specs.Prelude.{bit_and}
use Rattle.std.specs.List.{list_all, flat_map}
use Rattle.std.proofs.lemmas.Bool.{and_from, lt-ltb, ne_eqb, eq-eqb, or_cases, both_ways, not_from_false}
use Rattle.std.proofs.lemmas.List.{drop_all, get_or-replicate}
use Rattle.rmt_config.specs.Types.{SramRow, TcamRow, Unit}
use Rattle.rmt_config.specs.StageForm.{is_listed, sram_blocks, tcam_blocks, srow_is_formed, trow_is_formed}
use Rattle.rmt_config.proofs.RiseLaws.{one_off}

pub all_step : {X : Type 0} (p : X → Bool) (xs : List X) (i : ℕ) (d : X) (whole : Bool) → i < length xs → p (get_or xs i d) ≡ true
    → list_all p (drop i xs) ≡ whole → list_all p (drop (i + 1) xs) ≡ whole
all_step p xs i d whole lt passes h =
    sym (ap (λ (b : Bool). b && list_all p (drop (i + 1) xs)) passes) ∙ sym (ap (list_all p) (one_off xs i d lt)) ∙ h

pub all_stop : {X : Type 0} (p : X → Bool) (xs : List X) (i : ℕ) (d : X) (whole : Bool) → i < length xs → p (get_or xs i d) ≡ false
    → list_all p (drop i xs) ≡ whole → false ≡ whole
all_stop p xs i d whole lt breaks h =
    sym (ap (λ (b : Bool). b && list_all p (drop (i + 1) xs)) breaks) ∙ sym (ap (list_all p) (one_off xs i d lt)) ∙ h

pub all_done : {X : Type 0} (p : X → Bool) (xs : List X) (i : ℕ) (whole : Bool) → length xs ≤ i → list_all p (drop i xs) ≡ whole → true ≡ whole
all_done p xs i whole done h = sym (ap (list_all p) (drop_all i xs done)) ∙ h

-- a block that is marked is listed
marked : (b : ℕ) (blocks : List ℕ) (table : List Bool) → b < 256 → get_or table b false ≡ (get_or (replicate 256 false) b false || is_listed b blocks)
    → get_or table b false ≡ true → is_listed b blocks ≡ true
marked b blocks table lt is there =
    elim (or_cases (get_or (replicate 256 false) b false) (is_listed b blocks) (sym is ∙ there)) as (λ _. is_listed b blocks ≡ true) [
      | inl one ↦ absurd (both_ways (get_or (replicate 256 false) b false) (get_or-replicate 256 b false false lt) one)
      | inr two ↦ two
    ]

pub srow_passes : (units : List Unit) (row : SramRow) (table : List Bool) → row.block < 256
    → get_or table row.block false ≡ (get_or (replicate 256 false) row.block false || is_listed row.block (flat_map sram_blocks units))
    → row.row < 1024 → get_or table row.block false ≡ true → (row.bits ≡ 0 → ⊥) → srow_is_formed units row ≡ true
srow_passes units row table lt is low there some =
    and_from (ltb row.row 1024 && is_listed row.block (flat_map sram_blocks units)) (not (eqb row.bits 0))
    (and_from (ltb row.row 1024) (is_listed row.block (flat_map sram_blocks units)) (lt-ltb row.row 1024 low) (marked row.block (flat_map sram_blocks units) table lt is there))
    (not_from_false (eqb row.bits 0) (ne_eqb row.bits 0 some))

pub trow_passes : (units : List Unit) (row : TcamRow) (table : List Bool) → row.block < 256
    → get_or table row.block false ≡ (get_or (replicate 256 false) row.block false || is_listed row.block (flat_map tcam_blocks units))
    → row.row < 2048 → get_or table row.block false ≡ true → (row.mask ≡ 0 → ⊥) → bit_and row.value row.mask ≡ row.value → trow_is_formed units row ≡ true
trow_passes units row table lt is low there some within =
    and_from (ltb row.row 2048 && is_listed row.block (flat_map tcam_blocks units) && not (eqb row.mask 0)) (eqb (bit_and row.value row.mask) row.value)
    (and_from (ltb row.row 2048 && is_listed row.block (flat_map tcam_blocks units)) (not (eqb row.mask 0))
    (and_from (ltb row.row 2048) (is_listed row.block (flat_map tcam_blocks units)) (lt-ltb row.row 2048 low) (marked row.block (flat_map tcam_blocks units) table lt is there))
    (not_from_false (eqb row.mask 0) (ne_eqb row.mask 0 some)))
    (eq-eqb (bit_and row.value row.mask) row.value within)
