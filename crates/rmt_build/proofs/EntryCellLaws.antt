-- The entries of parts.
use Rattle.std.proofs.Common.{◌≡◌, ℕ, ◌<◌, ◌∙◌, false, cond, List, [], ◌∷◌, Some, length, map, filter, get_or, refl, sym, ap, subst, arith}
use Rattle.std.specs.Prelude.{All, ◌&&◌, nat_le, slice_get}
use Rattle.std.specs.List.{range_with_len}
use Rattle.std.proofs.Math.Bool.{and-false}
use Rattle.std.proofs.lemmas.Bool.{le-ltb}
use Rattle.std.proofs.lemmas.List.{length-map}
use Rattle.std.proofs.lemmas.List.Elements.{All-map}
use Rattle.std.proofs.lemmas.List.Sorted.{All-permutation}
use Rattle.std.proofs.lemmas.Option.{slice_get-get_or, slice_get_read}
use Rattle.rmt_ast.specs.declared.entry.Entry.{Entry}
use Rattle.rmt_ast.specs.EntryLists.{AreEntries, terms_at}
use Rattle.rmt_bits.proofs.AllLaws.{All-range, All-unmap}
use Rattle.rmt_pack.proofs.FormatLaws.{filtered}
use Rattle.rmt_pack.specs.Placements.{quanta_in}
use Rattle.rmt_build.specs.Types.{Node, Program, Table}
use Rattle.rmt_filling.specs.declared.plan.Plan.{Plan}
use Rattle.rmt_filling.specs.declared.stands.Stand.{Stand}
use Rattle.rmt_filling.specs.EntryCells.{StandOnce, cells_for, counted_from, stands_there, stands_within}
use Rattle.rmt_build.specs.Plans.{IsPlan, quanta_before, stands_of_part}
use Rattle.rmt_filling.specs.Formats.{format_at}

-- no cell, no entry
pub within_none : (stands : List Stand) → stands_within 0 0 stands ≡ []
within_none [] = refl
within_none (s ∷ stands) =
    let out : stands_there 0 0 s ≡ false = ap (λ b. nat_le 0 s.cell && b) (le-ltb s.cell 0 (omega arith)) ∙ and-false (nat_le 0 s.cell) in
    ap (λ b. map (counted_from 0) (cond b (s ∷ filter (stands_there 0 0) stands) (filter (stands_there 0 0) stands))) out ∙ within_none stands

-- the entries of a part are of the list
pub part_entries : (count first cells : ℕ) (stands : List Stand) → StandOnce count stands → All (λ (s : Stand). s.entry < count) (stands_within first cells stands)
part_entries count first cells stands once =
    let range : All (λ i. i < count) (range_with_len 0 count) = All-range (λ i. i < count) 0 count (λ w lt. omega (arith, lt)) in
    let all : All (λ (s : Stand). s.entry < count) stands =
    All-unmap (λ i. i < count) (λ (s : Stand). s.entry) stands (All-permutation (λ i. i < count) (range_with_len 0 count) (map (λ (s : Stand). s.entry) stands) once.each range) in
    All-map (λ (s : Stand). s.entry < count) (counted_from first) (filter (stands_there first cells) stands)
    (filtered (λ (s : Stand). s.entry < count) (stands_there first cells) stands (λ i d lt passes. all i d lt))

pub entries_of_part : (p : Program) (lists : List (List Entry)) (plan : Plan) (t : Table) (n k : ℕ) (es : List Entry) → AreEntries p lists → IsPlan p lists plan → n < length p.nodes
    → slice_get lists n ≡ Some es → All (λ (s : Stand). s.entry < length es) (stands_of_part p plan t n k)
entries_of_part p lists plan t n k es entries is lt at =
    let cells = cells_for t.kind (format_at p n).per in
    let own = get_or plan.stands n [] in
    let terms = length-map p.nodes (λ (x : Node). terms_at p x.what) in
    let long = is.stands.all_there in
    let own_is : slice_get plan.stands n ≡ Some own = slice_get-get_or plan.stands n [] (omega (arith, long, entries.for_each_node, terms, lt)) in
    part_entries (length es) (cells (quanta_before plan.placement.parts n k)) (cells (quanta_in plan.placement.parts n k)) own (is.stands.each n es own at own_is)

-- the entries of a node, as they are read from the lists
pub list_read : (p : Program) (lists xs : List (List Entry)) (n : ℕ) (es : List Entry) → AreEntries p lists → n < length p.nodes → xs ≡ lists → es ≡ get_or xs n es → slice_get lists n ≡ Some es
list_read p lists xs n es entries lt same is =
    let terms = length-map p.nodes (λ (x : Node). terms_at p x.what) in
    slice_get_read lists (length lists) n es refl (omega (arith, entries.for_each_node, terms, lt)) (is ∙ ap (λ ys. get_or ys n es) same)

-- so the entries of a part are of the list that is read
pub entries_read : (p : Program) (lists : List (List Entry)) (plan : Plan) (t : Table) (n k : ℕ) (es own : List Entry) (stands : List Stand) → AreEntries p lists → IsPlan p lists plan → n < length p.nodes
    → slice_get lists n ≡ Some es → own ≡ es → stands ≡ stands_of_part p plan t n k → All (λ (s : Stand). s.entry < length own) stands
entries_read p lists plan t n k es own stands entries is lt at same are =
    subst (λ (xs : List Stand). All (λ (s : Stand). s.entry < length own) xs) (sym are)
    (subst (λ (xs : List Entry). All (λ (s : Stand). s.entry < length xs) (stands_of_part p plan t n k)) (sym same) (entries_of_part p lists plan t n k es entries is lt at))
