-- How many stages a node of a legal placement stands in at least.
use Rattle.std.proofs.Common.{◌≡◌, ℕ, zero, suc, ◌+◌, ◌-◌, ◌*◌, ◌/◌, ◌<◌, ◌≤◌, List, [], ◌∷◌, Bool, false, cond, Option, Some, None, length, map, min, refl, ap, sym, subst, arith, unwrap_or, true}
use Rattle.std.specs.Prelude.{All, IfSome, IsSome, fold, ◌==◌, slice_get, option_map}
use Rattle.std.proofs.Math.Nat.{le-min, min-le_left, min-le_right, mul-le-mul, mul-le-mul_right, mul-sub, div-mul-le_self}
use Rattle.std.proofs.lemmas.Nat.{le-div}
use Rattle.std.proofs.lemmas.Bool.{ne_eqb, false≢true}
use Rattle.std.proofs.lemmas.Bool.Decides.{nat_tests}
use Rattle.std.proofs.lemmas.List.Elements.{All-nil, All-cons, All-head, All-tail, All-map, All-weaker}
use Rattle.rmt_bits.proofs.ListLaws.{slice_get-below, slice_get-item}
use Rattle.rmt_ast.specs.declared.program.Program.{Program}
use Rattle.rmt_ast.specs.declared.program.Table.{Table}
use Rattle.rmt_ast.specs.declared.program.Kind.{Kind}
use Rattle.rmt_ast.specs.declared.program.Node.{Node}
use Rattle.rmt_ast.specs.declared.program.What.{What}
use Rattle.rmt_ast.specs.declared.program.Kind.TheVariants.{Keyless, Exact, Prefix, Ternary}
use Rattle.rmt_ast.specs.declared.program.What.TheVariants.{Apply, Gate}
use Rattle.rmt_ast.specs.WellFormed.{IsProgram, IsWhat}
use Rattle.rmt_pack.specs.declared.format.Format.{Format}
use Rattle.rmt_pack.specs.declared.format.Need.{Need}
use Rattle.rmt_pack.specs.Formats.{divided_up, record_width, records_a_row, record_units, no_memory, ternary_format, exact_format, exact_formats, memory_format, whole, goes_before, IsFormat, IsExactFormat, IsNeed, HasNeed}
use Rattle.rmt_pack.specs.Placements.{IsNodeFormat, table_need, what_format}
use Rattle.rmt_pack.proofs.FormatLaws.{of_formats, formats_are, records_a_row-some, record_blocks-le, exact_format-taken}
use Rattle.rmt_pack.proofs.NeedLaws.{has_need, exact_blocks, own_format}
use Rattle.rmt_bounds.specs.Bounds.{fit_alone, stages_for, least, least_stages, stages_of_what, node_stages}
use Rattle.rmt_bits.proofs.AllLaws.{All-unmap}

pub counters-few : (b : Bool) → cond b 2 0 ≤ 2
counters-few true = omega arith
counters-few false = omega arith

-- ---- the least of some numbers

min-le-first : (x : ℕ) (xs : List ℕ) → fold min x xs ≤ x
min-le-first x [] = omega arith
min-le-first x (y ∷ ys) = omega (arith, min-le-first (min x y) ys, min-le_left x y)

min-le-rest : (x : ℕ) (xs : List ℕ) → All (λ y. fold min x xs ≤ y) xs
min-le-rest x [] = All-nil (λ y. x ≤ y)
min-le-rest x (y ∷ ys) =
    All-cons (λ z. fold min (min x y) ys ≤ z) y ys (omega (arith, min-le-first (min x y) ys, min-le_right x y)) (min-le-rest (min x y) ys)

pub least-le : (xs : List ℕ) → All (λ x. least xs ≤ x) xs
least-le [] = All-nil (λ x. 1 ≤ x)
least-le (x ∷ xs) = All-cons (λ y. fold min x xs ≤ y) x xs (min-le-first x xs) (min-le-rest x xs)

-- ---- the stages of a format

-- fewer stages have no room for all quanta
pub less_room : (c quanta fit : ℕ) → c ≤ divided_up quanta fit → 1 ≤ quanta → (c - 1) * fit < quanta
less_room c quanta fit few some =
    let more : c * fit ≤ divided_up quanta fit * fit = mul-le-mul_right fit few in
    let within = div-mul-le_self (quanta + fit - 1) fit in
    let parted : fit * (c - 1) ≡ fit * c - fit * 1 = mul-sub fit c 1 in omega (arith, more, within, parted)

-- quanta that stand together in a stage are no more than fit there alone
pub fits_alone : (f : Format) (q : ℕ) → 1 ≤ f.sram → q * f.sram ≤ 106 → q * f.tcam ≤ 16 → q ≤ fit_alone f
fits_alone f q some sram tcam = by_tcam f.tcam tcam
  where
    by_tcam : (t : ℕ) → q * t ≤ 16 → q ≤ cond (t == 0) (106 / f.sram) (min (106 / f.sram) (16 / t))
    by_tcam zero few = le-div q 106 f.sram some sram
    by_tcam (suc t) few =
        let F : Bool → Type 0 = λ b. q ≤ cond b (106 / f.sram) (min (106 / f.sram) (16 / suc t)) in
        subst F (sym (ne_eqb (suc t) 0 (λ same. absurd (omega arith)))) (le-min (le-div q 106 f.sram some sram) (le-div q 16 (suc t) (omega arith) few))

-- what is known of the stages of a node, in a format: all quanta have no room in fewer, and a node that takes more than one has blocks
pub record IsLeast (stages : ℕ) (f : Format) : Type 0 where
  pub some : 1 ≤ f.quanta
  pub one : 1 ≤ stages
  pub less : (stages - 1) * fit_alone f < f.quanta
  pub blocks : 1 < stages → 1 ≤ f.sram

exact_some : (n : Need) → IsNeed n → (f : Format) → IsExactFormat n f → 1 ≤ f.quanta
exact_some n need f is =
    let quanta : 1 ≤ divided_up (n.size + n.size / 8) (4096 * f.per) =
    le-div 1 (n.size + n.size / 8 + 4096 * f.per - 1) (4096 * f.per) (omega (arith, is.has_cells)) (omega (arith, is.has_cells, need.has_size)) in
    omega (arith, ap (λ (g : Format). g.quanta) is.layout)

exact_stages : (n : Need) (f : Format) → IsExactFormat n f → least_stages Exact n ≤ stages_for f
exact_stages n f is =
    of_formats (λ g. least (map stages_for (exact_formats n)) ≤ stages_for g) n
    (All-unmap (λ x. least (map stages_for (exact_formats n)) ≤ x) stages_for (exact_formats n) (least-le (map stages_for (exact_formats n)))) f is

-- a stage at least, where a quantum stands in one
one_at_least : (quanta fit : ℕ) → 1 ≤ quanta → 1 ≤ fit → 1 ≤ divided_up quanta fit
one_at_least quanta fit some fits = le-div 1 (quanta + fit - 1) fit fits (omega arith)

one_fits : (f : Format) → 1 ≤ f.sram → f.sram ≤ 106 → f.tcam ≤ 16 → 1 ≤ fit_alone f
one_fits f some sram tcam = fits_alone f 1 some (omega arith) (omega arith)

min-some : (x : ℕ) (xs : List ℕ) → 1 ≤ x → All (λ y. 1 ≤ y) xs → 1 ≤ fold min x xs
min-some x [] first rest = first
min-some x (y ∷ ys) first rest = min-some (min x y) ys (le-min first (All-head (λ z. 1 ≤ z) y ys rest)) (All-tail (λ z. 1 ≤ z) y ys rest)

least-some : (xs : List ℕ) → All (λ x. 1 ≤ x) xs → 1 ≤ least xs
least-some [] all = omega arith
least-some (x ∷ xs) all = min-some x xs (All-head (λ y. 1 ≤ y) x xs all) (All-tail (λ y. 1 ≤ y) x xs all)

exact_one : (n : Need) → IsNeed n → 1 ≤ least_stages Exact n
exact_one n need =
    least-some (map stages_for (exact_formats n))
    (All-map (λ x. 1 ≤ x) stages_for (exact_formats n)
    (All-weaker (IsExactFormat n) (λ f. 1 ≤ stages_for f)
    (λ f is.
    (let none : f.tcam ≡ 0 = ap (λ (g : Format). g.tcam) is.layout in
    one_at_least f.quanta (fit_alone f) (exact_some n need f is) (one_fits f (exact_blocks n f is) is.one_stage (omega (arith, none)))))
    (exact_formats n) (formats_are n)))

pub ternary_blocks : (n : Need) → 1 ≤ (ternary_format n).sram
ternary_blocks n =
    let bits = n.held + 8 in
    let row : 1 ≤ records_a_row bits = records_a_row-some bits (omega arith) in
    let units : 1 ≤ record_units 2 bits = le-div 1 (2 + records_a_row bits - 1) (records_a_row bits) (omega arith) (omega arith) in
    let width : 1 ≤ record_width bits = omega arith in
    let both : 1 * 1 ≤ record_units 2 bits * record_width bits = mul-le-mul units width in omega (arith, both)

ternary_fits : (n : Need) → IsNeed n → 1 ≤ fit_alone (ternary_format n)
ternary_fits n need =
    let few = record_blocks-le 2 (n.held + 8) (omega (arith, need.held)) in
    one_fits (ternary_format n) (ternary_blocks n) (omega (arith, few, counters-few n.counted)) (omega (arith, need.key))

of_ternary : (n : Need) → IsNeed n → IsLeast (stages_for (ternary_format n)) (ternary_format n)
of_ternary n need =
    let quanta : 1 ≤ divided_up n.size 2048 = omega (arith, need.has_size) in record {
      some = quanta;
      one = one_at_least (divided_up n.size 2048) (fit_alone (ternary_format n)) quanta (ternary_fits n need);
      less = less_room (stages_for (ternary_format n)) (divided_up n.size 2048) (fit_alone (ternary_format n)) (omega arith) quanta;
      blocks = λ _. ternary_blocks n;
    }

of_kind : (kind : Kind) (n : Need) → HasNeed kind n → (f : Format) → IsFormat kind n f → IsLeast (least_stages kind n) f
of_kind Keyless n need f is = record {
  some = omega (arith, ap (λ (g : Format). g.quanta) is);
  one = omega arith;
  less = omega (arith, ap (λ (g : Format). g.quanta) is);
  blocks = λ more. absurd (omega arith);
}
of_kind Exact n need f is = record {
  some = exact_some n need f is;
  one = exact_one n need;
  less = less_room (least_stages Exact n) f.quanta (fit_alone f) (exact_stages n f is) (exact_some n need f is);
  blocks = λ _. exact_blocks n f is;
}
of_kind Prefix n need f is = subst (IsLeast (stages_for (ternary_format n))) (sym is) (of_ternary n need)
of_kind Ternary n need f is = subst (IsLeast (stages_for (ternary_format n))) (sym is) (of_ternary n need)

pub of_what : (p : Program) → IsProgram p → (what : What) → IsWhat p what → (f : Format) → IsNodeFormat p what f → IsLeast (stages_of_what p what) f
of_what p is (Gate field test) there f format = record {
  some = omega (arith, ap (λ (g : Format). g.quanta) format);
  one = omega arith;
  less = omega (arith, ap (λ (g : Format). g.quanta) format);
  blocks = λ more. absurd (omega arith);
}
of_what p is (Apply t) there f format = at (slice_get p.tables t) refl format
  where
    at : (o : Option Table) → slice_get p.tables t ≡ o → IfSome o (λ (table : Table). IsFormat table.kind (table_need p table) f)
        → IsLeast (unwrap_or (option_map (λ (table : Table). least_stages table.kind (table_need p table)) o) 1) f
    at None none format = let some : IsSome (slice_get p.tables t) = slice_get-below p.tables t there in absurd (false≢true (subst IsSome none some))
    at (Some table) found format = of_kind table.kind (table_need p table) (has_need p is t table found) f format

-- ---- the formats that are taken have fewest blocks

-- in no format has a table fewer SRAM blocks than in the one that is taken
pub whole-le : (f g : Format) → goes_before g f ≡ false → whole f ≤ whole g
whole-le f g first = grind (arith, nat_tests)

pub sram-le_of_kind : (kind : Kind) (n : Need) → HasNeed kind n → (f : Format) → IsFormat kind n f → whole (memory_format kind n) ≤ whole f
sram-le_of_kind Keyless n need f is = subst (λ (g : Format). 0 ≤ whole g) (sym is) (omega arith)
sram-le_of_kind Exact n need f is = whole-le (exact_format n) f ((exact_format-taken n need).first f is)
sram-le_of_kind Prefix n need f is = subst (λ (g : Format). whole (ternary_format n) ≤ whole g) (sym is) (omega arith)
sram-le_of_kind Ternary n need f is = subst (λ (g : Format). whole (ternary_format n) ≤ whole g) (sym is) (omega arith)

-- all TCAM blocks of a format
abbrev pub whole_tcam : Format → ℕ
whole_tcam f = f.quanta * f.tcam

pub tcam-le_of_kind : (kind : Kind) (n : Need) → HasNeed kind n → (f : Format) → IsFormat kind n f → whole_tcam (memory_format kind n) ≤ whole_tcam f
tcam-le_of_kind Keyless n need f is = omega arith
tcam-le_of_kind Exact n need f is =
    let without : (exact_format n).tcam ≡ 0 = ap (λ (g : Format). g.tcam) (exact_format-taken n need).format.layout in
    let none : whole_tcam (exact_format n) ≡ (exact_format n).quanta * 0 = ap (λ (t : ℕ). (exact_format n).quanta * t) without in omega (arith, none)
tcam-le_of_kind Prefix n need f is = subst (λ (g : Format). whole_tcam (ternary_format n) ≤ whole_tcam g) (sym is) (omega arith)
tcam-le_of_kind Ternary n need f is = subst (λ (g : Format). whole_tcam (ternary_format n) ≤ whole_tcam g) (sym is) (omega arith)

-- what a node takes at least is within what it takes in any format
pub blocks-le : (blocks : Format → ℕ) → ((kind : Kind) (n : Need) → HasNeed kind n → (f : Format) → IsFormat kind n f → blocks (memory_format kind n) ≤ blocks f) → blocks no_memory ≡ 0
    → (p : Program) → IsProgram p → (what : What) (f : Format) → IsNodeFormat p what f → blocks (what_format p what) ≤ blocks f
blocks-le blocks of none p is (Gate field test) f format = omega (arith, none)
blocks-le blocks of none p is (Apply t) f format = at (slice_get p.tables t) refl format
  where
    at : (o : Option Table) → slice_get p.tables t ≡ o → IfSome o (λ (table : Table). IsFormat table.kind (table_need p table) f)
        → blocks (unwrap_or (option_map (λ (table : Table). memory_format table.kind (table_need p table)) o) no_memory) ≤ blocks f
    at None found format = omega (arith, none)
    at (Some table) found format = of table.kind (table_need p table) (has_need p is t table found) f format

-- ---- each node has a format

-- each node stands in a stage at least
pub node-some : (p : Program) → IsProgram p → (n : ℕ) → n < length p.nodes → 1 ≤ node_stages p n
node-some p is n there =
    let item = slice_get-item p.nodes n there in
    let stages : node_stages p n ≡ stages_of_what p item.0.what = ap (λ (o : Option Node). unwrap_or (option_map (λ (x : Node). stages_of_what p x.what) o) 1) item.1 in
    omega (arith, stages, (of_what p is item.0.what (is.nodes n item.0 item.1).what (what_format p item.0.what) (own_format p is item.0.what)).one)
