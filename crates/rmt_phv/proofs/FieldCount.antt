-- A well-formed program has fewer fields than `pack_fields` asks for at most.
use Rattle.std.proofs.Common.{ℕ, ◌*◌, ◌^◌, ◌<◌, ◌≤◌, List, [], ◌∷◌, length, get_or, inl, inr, sym, subst, arith}
use Rattle.std.specs.Prelude.{All}
use Rattle.std.proofs.lemmas.List.Concat.{length-flat_map}
use Rattle.std.proofs.lemmas.List.Elements.{All-head, All-tail, All-weaker, All-get_or}
use Rattle.std.proofs.lemmas.List.Sums.{sum_by-le, sum-map, sum_by-cons}
use Rattle.std.proofs.lemmas.Option.{slice_get_cases, slice_get-get_or}
use Rattle.rmt_bits.proofs.AllLaws.{All-range, All-parts}
use Rattle.rmt_ast.specs.declared.program.Program.{Program}
use Rattle.rmt_ast.specs.declared.program.Field.{Field}
use Rattle.rmt_ast.specs.declared.program.Header.{Header}
use Rattle.rmt_ast.specs.State.{width_of}
use Rattle.rmt_ast.specs.WellFormed.{IsProgram, HasFields, IsWidth, bits_of, header_fields}

-- each field has a bit
pub has_bits : (p : Program) → HasFields p → (f : ℕ) → f < length p.fields → 1 ≤ width_of p f
has_bits p h f lt =
    elim ((slice_get_cases p.fields f).1) [
      | inl (x, below, found, is) ↦
          let width : IsWidth x.width = subst (λ (y : Field). IsWidth y.width) is (All-get_or (λ (y : Field). IsWidth y.width) p.fields f x below h.widths) in
          rw found width.0
      | inr (past, none) ↦ absurd (omega arith)
    ]

count_bits : (p : Program) (fs : List ℕ) → All (λ f. 1 ≤ width_of p f) fs → length fs ≤ bits_of p fs
count_bits p [] h = omega arith
count_bits p (f ∷ fs) h =
    let here = All-head (λ f. 1 ≤ width_of p f) f fs h in
    let rest = count_bits p fs (All-tail (λ f. 1 ≤ width_of p f) f fs h) in
    rw (sum-map {X = ℕ}, sum_by-cons) (let rest_by = rw (sum-map {X = ℕ}) at rest in omega arith)

abbrev fields_of_header : Header → List ℕ
fields_of_header h = h.valid ∷ h.fields

-- at most 64 headers of 512 bits and a valid bit, and the metadata
pub fields_few : (p : Program) → IsProgram p → length p.fields ≤ 33091
fields_few p h =
    let fields : List ℕ = header_fields p in
    let numbers : All (λ f. f < length p.fields) fields =
    subst (λ (fs : List ℕ). All (λ f. f < length p.fields) fs) (sym h.fields.in_order) (All-range (λ f. f < length p.fields) 3 (length fields) (λ w lt. omega (arith, h.fields.all_there))) in
    let parts : All (λ (x : Header). All (λ f. f < length p.fields) (fields_of_header x)) p.headers = All-parts (λ f. f < length p.fields) fields_of_header p.headers numbers in
    let each : All (λ (x : Header). length (fields_of_header x) ≤ 513) p.headers = λ k d lt. few k d lt (parts k d lt) in
    let all = sum_by-le (λ (x : Header). length (fields_of_header x)) 513 p.headers each in
    let product : length p.headers * 513 ≤ 64 * 513 = omega (arith, h.counts.headers) in
    omega (arith, all, product, length-flat_map fields_of_header p.headers, h.fields.few_metadata)
  where
    few : (k : ℕ) (d : Header) → k < length p.headers → All (λ f. f < length p.fields) (fields_of_header (get_or p.headers k d)) → length (fields_of_header (get_or p.headers k d)) ≤ 513
    few k d lt numbers =
        let x = get_or p.headers k d in
        let header = h.headers k x (slice_get-get_or p.headers k d lt) in
        let own = All-weaker (λ f. f < length p.fields) (λ f. 1 ≤ width_of p f) (has_bits p h.fields) x.fields (All-tail (λ f. f < length p.fields) x.valid x.fields numbers) in
        omega (arith, count_bits p x.fields own, header.whole_bytes, header.is_not_long)

pub few_fields : (p : Program) → IsProgram p → length p.fields < 2 ^ 32
few_fields p h = let few = fields_few p h in omega (arith, few)
