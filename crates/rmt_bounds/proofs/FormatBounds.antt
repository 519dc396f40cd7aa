-- How large the formats of tables are.
use Rattle.std.proofs.Common.{◌≡◌, ℕ, ◌+◌, ◌*◌, ◌/◌, ◌≤◌, ap, sym, subst, ◌∙◌, arith}
use Rattle.std.proofs.Math.Nat.{mul-le-mul_left}
use Rattle.rmt_ast.specs.declared.program.Program.{Program}
use Rattle.rmt_ast.specs.declared.program.Table.{Table}
use Rattle.rmt_ast.specs.declared.program.Kind.{Kind}
use Rattle.rmt_ast.specs.declared.program.Kind.TheVariants.{Keyless, Exact, Prefix, Ternary}
use Rattle.rmt_ast.specs.WellFormed.{IsProgram, IsTable}
use Rattle.rmt_pack.specs.declared.format.Format.{Format}
use Rattle.rmt_pack.specs.declared.format.Need.{Need}
use Rattle.rmt_pack.specs.Formats.{divided_up, ternary_format, memory_format, need_of, IsFormat, IsExactFormat, IsNeed, HasNeed}
use Rattle.rmt_pack.specs.Placements.{key_bits, data_bits, table_need}
use Rattle.rmt_pack.proofs.FormatLaws.{record_blocks-le, divided_up-least}
use Rattle.rmt_pack.proofs.NeedLaws.{table_has_need}
use Rattle.rmt_bounds.specs.Fits.{FitsAStage}
use Rattle.rmt_bounds.proofs.NodeLaws.{ternary_blocks, counters-few}

-- at most so many quanta, and so many blocks in one
pub record IsSmall (f : Format) : Type 0 where
  pub quanta : f.quanta ≤ 512
  pub sram : f.sram ≤ 106
  pub tcam : f.tcam ≤ 16

ternary_small : (n : Need) → IsNeed n → IsSmall (ternary_format n)
ternary_small n need =
    let few = record_blocks-le 2 (n.held + 8) (omega (arith, need.held)) in record {
      quanta = omega (arith, need.size);
      sram = omega (arith, few, counters-few n.counted);
      tcam = omega (arith, need.key);
    }

exact_small : (n : Need) → IsNeed n → (f : Format) → IsExactFormat n f → IsSmall f
exact_small n need f is =
    let cells : 4096 * 1 ≤ 4096 * f.per = mul-le-mul_left 4096 is.has_cells in
    let quanta : divided_up (n.size + n.size / 8) (4096 * f.per) ≤ 288 = divided_up-least (n.size + n.size / 8) (4096 * f.per) 288 (omega arith) (omega (arith, need.size, cells)) in record {
      quanta = omega (arith, ap (λ (g : Format). g.quanta) is.layout, quanta);
      sram = is.one_stage;
      tcam = omega (arith, ap (λ (g : Format). g.tcam) is.layout);
    }

pub small_format : (kind : Kind) (n : Need) → HasNeed kind n → (f : Format) → IsFormat kind n f → IsSmall f
small_format Keyless n need f is = subst IsSmall (sym is) (record { quanta = omega arith; sram = omega arith; tcam = omega arith })
small_format Exact n need f is = exact_small n need f is
small_format Prefix n need f is = subst IsSmall (sym is) (ternary_small n need)
small_format Ternary n need f is = subst IsSmall (sym is) (ternary_small n need)

-- a quantum of a prefix or ternary table stands in a stage
pub ternary_fits_stage : (n : Need) → IsNeed n → FitsAStage (ternary_format n)
ternary_fits_stage n need =
    let small = ternary_small n need in record {
      sram = (ternary_blocks n, small.sram);
      tcam = small.tcam;
      quanta = (omega (arith, need.has_size), small.quanta);
    }

-- what a table needs, by the bits that are found of its key and data
pub need_at : (p : Program) → IsProgram p → (t : Table) → IsTable p t → (key held : ℕ) → key ≡ key_bits p t → held ≡ data_bits p t → HasNeed t.kind (need_of t key held)
need_at p is t table key held key_is held_is =
    subst (λ (k : ℕ). HasNeed t.kind (need_of t k held)) (sym key_is)
    (subst (λ (h : ℕ). HasNeed t.kind (need_of t (key_bits p t) h)) (sym held_is) (table_has_need p is t table))

fits_as : (p : Program) → IsProgram p → (t : Table) → IsTable p t → (f : Format) → f ≡ memory_format t.kind (table_need p t) → (kind : Kind) → t.kind ≡ kind
    → ((n : Need) → HasNeed kind n → FitsAStage (memory_format kind n)) → FitsAStage f
fits_as p is t table f f_is kind same fits =
    subst FitsAStage (sym (f_is ∙ ap (λ k. memory_format k (table_need p t)) same)) (fits (table_need p t) (subst (λ (k : Kind). HasNeed k (table_need p t)) same (table_has_need p is t table)))

pub fits_prefix : (p : Program) → IsProgram p → (t : Table) → IsTable p t → (f : Format) → f ≡ memory_format t.kind (table_need p t) → t.kind ≡ Prefix → FitsAStage f
fits_prefix p is t table f f_is kind = fits_as p is t table f f_is Prefix kind ternary_fits_stage

pub fits_ternary : (p : Program) → IsProgram p → (t : Table) → IsTable p t → (f : Format) → f ≡ memory_format t.kind (table_need p t) → t.kind ≡ Ternary → FitsAStage f
fits_ternary p is t table f f_is kind = fits_as p is t table f f_is Ternary kind ternary_fits_stage
