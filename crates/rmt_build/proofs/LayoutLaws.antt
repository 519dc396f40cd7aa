-- How many cells a table's parts have.
use Rattle.std.proofs.Common.{◌≡◌, ℕ, zero, suc, ◌+◌, ◌*◌, ◌/◌, ◌^◌, ◌<◌, ◌≤◌, Bool, true, false, cond, List, [], ◌∷◌, ◌++◌, Some, length, map, refl, ap, ◌∙◌, subst, inl, inr, arith}
use Rattle.std.specs.Prelude.{All, filter, nat_lt}
use Rattle.std.specs.List.{range_with_len}
use Rattle.std.proofs.Math.Nat.{div-mul-le_self}
use Rattle.std.proofs.lemmas.Bool.{cases_lt, ltb-true}
use Rattle.std.proofs.lemmas.List.Elements.{All-cons, All-nil, filter-append}
use Rattle.std.proofs.lemmas.List.{length-map, map-append}
use Rattle.std.proofs.lemmas.List.Sums.{sum_by-cons}
use Rattle.std.proofs.lemmas.Nat.{mul-le}
use Rattle.rmt_bits.proofs.ListLaws.{range_more}
use Rattle.rmt_config.specs.BlockCounts.{divided_up}
use Rattle.rmt_cuckoo.specs.declared.layout.Ways.{Ways}
use Rattle.rmt_cuckoo.specs.Loading.{cells_in, cells_of}
use Rattle.rmt_pack.specs.declared.format.Format.{Format}
use Rattle.rmt_pack.specs.declared.format.Need.{Need}
use Rattle.rmt_pack.specs.declared.placement.Part.{Part}
use Rattle.rmt_pack.specs.Formats.{HasNeed, IsExactFormat, IsFormat, IsNeed}
use Rattle.rmt_pack.specs.Placements.{key_bits, quanta_in, table_need}
use Rattle.rmt_pack.proofs.NeedLaws.{exact_blocks}
use Rattle.rmt_bits.specs.Bits.{bytes_of}
use Rattle.rmt_build.specs.Types.{Program, Table}
use Rattle.rmt_ast.specs.declared.program.Kind.TheVariants.{Exact}
use Rattle.rmt_ast.specs.declared.entry.Entry.{Entry}
use Rattle.rmt_ast.specs.EntryLists.{AreTableEntries, terms_of}
use Rattle.rmt_ast.specs.State.{width_of}
use Rattle.rmt_ast.specs.WellFormed.{IsProgram}
use Rattle.rmt_config.specs.Rooms.{tests_as_one}
use Rattle.rmt_refine.specs.Units.{table_at}
use Rattle.rmt_filling.specs.Keys.{keys_of}
use Rattle.rmt_build.specs.Loads.{layout_in, layout_of, ways_for}
use Rattle.rmt_build.specs.Plans.{AreParts}
use Rattle.rmt_filling.specs.Formats.{format_at}
use Rattle.rmt_build.proofs.MemoryLaws.{few_quanta}
use Rattle.rmt_build.proofs.PlanLaws.{has_need, is_format, part_sram, sram_fits}

-- the parts in so many stages
abbrev pub layout_upto : ℕ → List Part → ℕ → ℕ → List Ways
layout_upto per parts n m = map (λ k. record { rows = 1024 * quanta_in parts n k; per = per }) (filter (λ k. nat_lt 0 (quanta_in parts n k)) (range_with_len 0 m))

pub layout_next : (per : ℕ) (parts : List Part) (n m : ℕ)
    → layout_upto per parts n (m + 1) ≡ layout_upto per parts n m ++ ways_for (quanta_in parts n m) per
layout_next per parts n m =
    let part : ℕ → Ways = λ k. record { rows = 1024 * quanta_in parts n k; per = per } in
    let test : ℕ → Bool = λ k. nat_lt 0 (quanta_in parts n k) in
    let e : 0 + m ≡ m = omega arith in
    ap (λ ks. map part (filter test ks)) (range_more 0 m ∙ ap (λ k. range_with_len 0 m ++ k ∷ []) e)
    ∙ ap (map part) (filter-append test (range_with_len 0 m) (m ∷ []))
    ∙ map-append part (filter test (range_with_len 0 m)) (filter test (m ∷ []))
    ∙ ap (λ ws. layout_upto per parts n m ++ ws) (one (test m))
  where
    own_ways : Ways
    own_ways = record { rows = 1024 * quanta_in parts n m; per = per }

    one : (b : Bool) → map (λ k. record { rows = 1024 * quanta_in parts n k; per = per }) (cond b (m ∷ []) []) ≡ cond b (own_ways ∷ []) []
    one true = refl
    one false = refl

-- ---- few cells

-- rows in each part, and no more than so many parts and cells
record IsSmall (d : ℕ) (layout : List Ways) : Type 0 where
  long : length layout ≤ d
  rows : All (λ (part : Ways). 1 ≤ part.rows) layout
  cells : cells_of layout ≤ d * 42983424

small_from : (per : ℕ) (parts : List Part) (n : ℕ) → per ≤ 99 → ((k : ℕ) → quanta_in parts n k ≤ 106) → (d a : ℕ)
    → IsSmall d (map (λ k. record { rows = 1024 * quanta_in parts n k; per = per }) (filter (λ k. nat_lt 0 (quanta_in parts n k)) (range_with_len a d)))
small_from per parts n few_per few zero a = record { long = omega arith; rows = All-nil (λ (part : Ways). 1 ≤ part.rows); cells = omega arith }
small_from per parts n few_per few (suc d) a = by (nat_lt 0 (quanta_in parts n a)) refl (small_from per parts n few_per few d (a + 1))
  where
    part : ℕ → Ways
    part k = record { rows = 1024 * quanta_in parts n k; per = per }

    rest : List Ways
    rest = map (λ k. record { rows = 1024 * quanta_in parts n k; per = per }) (filter (λ k. nat_lt 0 (quanta_in parts n k)) (range_with_len (a + 1) d))

    by : (b : Bool) → nat_lt 0 (quanta_in parts n a) ≡ b
        → IsSmall d (map (λ k. record { rows = 1024 * quanta_in parts n k; per = per }) (filter (λ k. nat_lt 0 (quanta_in parts n k)) (range_with_len (a + 1) d)))
        → IsSmall (suc d) (map (λ k. record { rows = 1024 * quanta_in parts n k; per = per }) (cond b (a ∷ filter (λ k. nat_lt 0 (quanta_in parts n k)) (range_with_len (a + 1) d)) (filter (λ k. nat_lt 0 (quanta_in parts n k)) (range_with_len (a + 1) d))))
    by true e small =
        let own = mul-le (1024 * quanta_in parts n a) per (1024 * 106) 99 (omega (arith, few a)) few_per in
        record {
          long = omega (arith, small.long);
          rows = All-cons (λ (x : Ways). 1 ≤ x.rows) (part a) rest (omega (arith, ltb-true 0 (quanta_in parts n a) e)) small.rows;
          cells = omega (arith, own, sum_by-cons cells_in (part a) rest, small.cells);
        }
    by false e small = let long = small.long in let cells = small.cells in record { long = omega (arith, long); rows = small.rows; cells = omega (arith, cells) }

-- the layout of a table
pub record IsSmallLayout (layout : List Ways) : Type 0 where
  pub long : length layout ≤ 64
  pub rows : All (λ (part : Ways). 1 ≤ part.rows) layout
  pub cells : cells_of layout < 2 ^ 32

pub small_layout : (per : ℕ) (parts : List Part) (n : ℕ) → per ≤ 99 → ((k : ℕ) → quanta_in parts n k ≤ 106) → IsSmallLayout (layout_in per parts n)
small_layout per parts n few_per few =
    let small = small_from per parts n few_per few 32 0 in
    let long = small.long in
    let cells = small.cells in
    record { long = omega (arith, long); rows = small.rows; cells = omega (arith, cells) }

-- ---- an exact format

pub few_cells : (t : Need) (f : Format) → IsNeed t → IsExactFormat t f → f.per ≤ 99
few_cells t f need is = elim (cases_lt 99 f.per) [
  | inl many ↦
      let all = mul-le 100 9 (112 * f.width / (t.key + 8)) (t.key + 8) (omega (arith, many, is.cells)) (omega (arith, need.has_key)) in
      absurd (omega (arith, all, div-mul-le_self (112 * f.width) (t.key + 8), is.width))
  | inr few ↦ few
]

-- ---- an exact table of a plan

module _ (p : Program) (good : IsProgram p) (n : ℕ) (t : Table) (at : table_at p n ≡ Some t) (exact : t.kind ≡ Exact) where
  its_format : IsExactFormat (table_need p t) (format_at p n)
  its_format = subst (λ kind. IsFormat kind (table_need p t) (format_at p n)) exact (is_format p good n t at)

  its_need : IsNeed (table_need p t)
  its_need = subst (λ kind. HasNeed kind (table_need p t)) exact (has_need p good n t at)

  pub few_entries : (es : List Entry) → AreTableEntries n es (terms_of p t) → length (keys_of p t es) < 2 ^ 32
  few_entries es are =
      let many = length-map es (λ (e : Entry). bytes_of (divided_up (key_bits p t) 8) (tests_as_one (λ test. test.value) (map (width_of p) t.key) e.tests)) in
      omega (arith, many, are.within_size, its_need.size)

  module _ (parts : List Part) (are : AreParts p parts) where
    pub few_quanta_in : (k : ℕ) → quanta_in parts n k ≤ 106
    few_quanta_in k =
        let fits = sram_fits p good n t at parts k are in
        let own = part_sram p good n t at parts k in
        few_quanta (quanta_in parts n k) (format_at p n).sram 106 (exact_blocks (table_need p t) (format_at p n) its_format) (omega (arith, fits, own))

    pub small_exact : IsSmallLayout (layout_of p parts n)
    small_exact = small_layout (format_at p n).per parts n (few_cells (table_need p t) (format_at p n) its_need its_format) few_quanta_in
