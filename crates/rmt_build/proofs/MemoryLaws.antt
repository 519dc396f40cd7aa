-- The blocks of parts: as many as quanta times those of a quantum.
use Rattle.std.proofs.Common.{◌≡◌, ◌≢◌, ℕ, ◌+◌, ◌*◌, ◌/◌, ◌≤◌, ◌<◌, Bool, cond, refl, sym, ap, ◌∙◌, arith}
use Rattle.std.proofs.Math.Nat.{div-lt_iff_lt-mul, mul-le-mul_left}
use Rattle.rmt_build.specs.Types.{Kind}
use Rattle.rmt_ast.specs.declared.program.Kind.TheVariants.{Keyless, Exact, Prefix, Ternary}
use Rattle.rmt_config.specs.BlockCounts.{divided_up, record_units, record_width}
use Rattle.rmt_pack.specs.declared.format.Format.{Format}
use Rattle.rmt_pack.specs.declared.format.Need.{Need}
use Rattle.rmt_pack.specs.Formats.{HasNeed, IsNeed, IsFormat, ternary_format}
use Rattle.rmt_bounds.proofs.FormatBounds.{ternary_fits_stage}
use Rattle.rmt_filling.specs.declared.memory.PartNeed.{PartNeed}
use Rattle.rmt_filling.specs.Memories.{blocks_for, sram_for, tcam_for, memory_for}
use Rattle.rmt_config.specs.Cells.{cells_in}
use Rattle.rmt_filling.specs.declared.memory.Taken.{Taken}
use Rattle.rmt_filling.specs.EntryCells.{cells_for}

-- what a part has to hold is what its table needs
pub record IsNeedOf (n : PartNeed) (t : Need) : Type 0 where
  pub key : n.key ≡ t.key
  pub held : n.held ≡ t.held
  pub counted : n.counted ≡ t.counted

spread_out : (d a b c : ℕ) → d * a + d * b + d * c ≡ d * (1 * a + 1 * b + 1 * c)
spread_out d a b c = omega arith

spread_two : (d b c : ℕ) → d * b + d * c ≡ d * (1 * b + 1 * c)
spread_two d b c = omega arith

-- the SRAM blocks of a quantum of an exact part, and of a ternary one
abbrev exact_quantum : ℕ → ℕ → ℕ → Bool → ℕ
exact_quantum k p held counted = 1 * (4 * k) + 1 * (record_units (4 * p) held * record_width held) + 1 * cond counted (4 * p) 0

abbrev ternary_quantum : ℕ → Bool → ℕ
ternary_quantum held counted = 1 * (record_units 2 (held + 8) * record_width (held + 8)) + 1 * cond counted 2 0

ternary_sram_is : (n : PartNeed) (t : Need) → IsNeedOf n t → n.format ≡ ternary_format t → sram_for Ternary (blocks_for Ternary n) ≡ n.quanta * n.format.sram
ternary_sram_is n t is f =
    spread_two n.quanta (record_units 2 (n.held + 8) * record_width (n.held + 8)) (cond n.counted 2 0)
    ∙ ap (λ m. n.quanta * m) (ap (λ h. ternary_quantum h n.counted) is.held ∙ (ap (ternary_quantum t.held) is.counted ∙ sym (ap (λ (x : Format). x.sram) f)))

ternary_tcam_is : (n : PartNeed) (t : Need) → IsNeedOf n t → n.format ≡ ternary_format t → tcam_for Ternary (blocks_for Ternary n) ≡ n.quanta * n.format.tcam
ternary_tcam_is n t is f = ap (λ m. n.quanta * m) (ap (λ key. divided_up key 40) is.key ∙ sym (ap (λ (x : Format). x.tcam) f))

pub sram_is : (kind : Kind) (n : PartNeed) (t : Need) → IsNeedOf n t → IsFormat kind t n.format → sram_for kind (blocks_for kind n) ≡ n.quanta * n.format.sram
sram_is Keyless n t is f =
    let none = ap (λ (x : Format). n.quanta * x.sram) f in omega (arith, none)
sram_is Exact n t is f =
    let k = n.format.width in
    let p = n.format.per in
    spread_out n.quanta (4 * k) (record_units (4 * p) n.held * record_width n.held) (cond n.counted (4 * p) 0)
    ∙ ap (λ m. n.quanta * m) (ap (λ h. exact_quantum k p h n.counted) is.held ∙ (ap (exact_quantum k p t.held) is.counted ∙ sym (ap (λ (x : Format). x.sram) f.layout)))
sram_is Prefix n t is f = ternary_sram_is n t is f
sram_is Ternary n t is f = ternary_sram_is n t is f

pub tcam_is : (kind : Kind) (n : PartNeed) (t : Need) → IsNeedOf n t → IsFormat kind t n.format → tcam_for kind (blocks_for kind n) ≡ n.quanta * n.format.tcam
tcam_is Keyless n t is f =
    let none = ap (λ (x : Format). n.quanta * x.tcam) f in omega (arith, none)
tcam_is Exact n t is f =
    let none : n.quanta * n.format.tcam ≡ n.quanta * 0 = ap (λ (x : Format). n.quanta * x.tcam) f.layout in omega (arith, none)
tcam_is Prefix n t is f = ternary_tcam_is n t is f
tcam_is Ternary n t is f = ternary_tcam_is n t is f

-- a quantum takes a block, so there are no more of them than blocks
pub few_quanta : (d sram most : ℕ) → 1 ≤ sram → d * sram ≤ most → d ≤ most
few_quanta d sram most some le = let one = mul-le-mul_left d some in omega (arith, one, le)

-- a quantum of a table with a key takes an SRAM block, and a row has few cells
pub record Quantum (f : Format) : Type 0 where
  pub some : 1 ≤ f.sram
  pub per : f.per < 100

ternary_quantum_of : (t : Need) (f : Format) → IsNeed t → f ≡ ternary_format t → Quantum f
ternary_quantum_of t f need is = record {
  some = let sram = ap (λ (x : Format). x.sram) is in let some = (ternary_fits_stage t need).sram.0 in omega (arith, sram, some);
  per = let none = ap (λ (x : Format). x.per) is in omega (arith, none);
}

few_cells : (width key : ℕ) → width ≤ 8 → 1 ≤ key → 112 * width / (key + 8) < 100
few_cells width key wide some =
    let positive : 0 < key + 8 = omega arith in
    let less : 112 * width < 100 * (key + 8) = omega (arith, wide, some) in
    (div-lt_iff_lt-mul positive).1 less

pub quantum_of : (kind : Kind) (t : Need) (f : Format) → HasNeed kind t → IsFormat kind t f → kind ≢ Keyless → Quantum f
quantum_of Keyless t f need is keyed = absurd (keyed refl)
quantum_of Exact t f need is keyed = record {
  some = let sram = ap (λ (x : Format). x.sram) is.layout in let wide = is.has_width in omega (arith, sram, wide);
  per = let few = is.cells in let most = few_cells f.width t.key is.width need.has_key in omega (arith, few, most);
}
quantum_of Prefix t f need is keyed = ternary_quantum_of t f need is
quantum_of Ternary t f need is keyed = ternary_quantum_of t f need is

-- a memory for a part has as many cells as its quanta
pub memory_cells : (kind : Kind) (need : PartNeed) (taken : Taken) → cells_in (memory_for kind need taken) ≡ cells_for kind need.format.per need.quanta
memory_cells Keyless need taken = refl
memory_cells Exact need taken = refl
memory_cells Prefix need taken = refl
memory_cells Ternary need taken = refl
