-- The joins of the clustered parser are no more than the entries of the plain one.
use Rattle.std.proofs.Common.{◌≡◌, cond, ℕ, zero, suc, ◌+◌, ◌≤◌, List, [], ◌∷◌, ◌++◌, length, map, take, Option, Some, None, ap, subst, ◌∙◌, arith}
use Rattle.std.proofs.lemmas.List.{length-append, length-map, take_all}
use Rattle.std.proofs.lemmas.List.Sums.{sum_by-cons}
use Rattle.rmt_bits.proofs.ListLaws.{slice_get-item, take-slice_get}
use Rattle.rmt_bits.specs.declared.lane.Lane.{Lane}
use Rattle.rmt_ptcam.specs.Types.{Program, Header, Case, ParserConfig, ParserEntry, Next}
use Rattle.rmt_ptcam.specs.declared.joins.Join.{Join}
use Rattle.rmt_ptcam.specs.Clustering.{Clustering, behind_join, is_wanted, next_entry, one_entry, one_header, some_entries, some_headers, targets_of, unjoined}
use Rattle.rmt_ptcam.specs.Joining.{KeepsForm, entries_in as entries_of_state, entry_named, join_named}
use Rattle.rmt_ptcam.specs.Joins.{joins}
use Rattle.rmt_ptcam.specs.Needs.{entries_in, entry_count, refusal}
use Rattle.rmt_ptcam.specs.Plain.{plain}
use Rattle.rmt_ptcam.proofs.FewerLaws.{IsWaiting, header_done, own_many, plain_waits}
use Rattle.rmt_ptcam.proofs.NeedLaws.{fits_in}

one_at_most : (p : Program) (n : ℕ) (c : Clustering) → length (next_entry p n c).joins ≤ length c.joins + 1
one_at_most p n c = by (entry_named c.parser own)
  where
    own : Join
    own = record { state = n; entry = c.behind }

    named : (to : Next) (o : Option ParserConfig) → length (behind_join c own to o).joins ≤ length c.joins + 1
    named to None = omega arith
    named to (Some q) = let more = length-append c.joins (own ∷ []) in omega (arith, more)

    by : (o : Option ParserEntry) → length (one_entry p c own o).joins ≤ length c.joins + 1
    by None = omega arith
    by (Some e) = named e.next (cond (is_wanted p c.parser e.next) (join_named c.parser own) None)

some_at_most : (p : Program) (n count : ℕ) (c : Clustering) → length (some_entries p n count c).joins ≤ length c.joins + count
some_at_most p n zero c = omega arith
some_at_most p n (suc count) c = let one = one_at_most p n c in let rest = some_at_most p n count (next_entry p n c) in omega (arith, one, rest)

count_targets : (h : Header) → length (targets_of h) ≡ entry_count h
count_targets h = length-append (map (λ (c : Case). c.target) h.cases) (h.other ∷ []) ∙ ap (λ k. k + 1) (length-map h.cases (λ (c : Case). c.target))

count_more : (xs : List Header) (h : Header) → entries_in (xs ++ h ∷ []) ≡ entries_in xs + entry_count h
count_more [] h = let one = sum_by-cons entry_count h [] in omega (arith, one)
count_more (x ∷ xs) h =
    let rest = count_more xs h in
    let a = sum_by-cons entry_count x (xs ++ h ∷ []) in
    let b = sum_by-cons entry_count x xs in
    omega (arith, rest, a, b)

module _ (p : Program) (limit : ℕ) where
  headers_few : (n : ℕ) (c : Clustering) → n ≤ length p.headers → IsWaiting p limit n c.parser → length (some_headers p n c).joins ≤ length c.joins + entries_in (take n p.headers)
  headers_few zero c le is = omega arith
  headers_few (suc n) c le is =
      let item = slice_get-item p.headers n (omega (arith, le)) in
      let h : Header = item.0 in
      let one : suc n ≡ n + 1 = omega arith in
      let here : IsWaiting p limit (n + 1) c.parser = subst (λ k. IsWaiting p limit k c.parser) one is in
      let rest = headers_few n (one_header p n c) (omega (arith, le)) (header_done p limit n h item.1 c here) in
      let own = some_at_most p n (length (entries_of_state n c.parser.entries)) (record c { behind = 0 }) in
      let many = own_many p limit n h item.1 c here in
      let targets = count_targets h in
      let more : entries_in (take (suc n) p.headers) ≡ entries_in (take n p.headers) + entry_count h =
      ap (λ k. entries_in (take k p.headers)) one ∙ ap entries_in (take-slice_get p.headers n h item.1) ∙ count_more (take n p.headers) h in
      omega (arith, rest, own, many, targets, more)

pub joins_few : (p : Program) (places : List (List Lane)) → refusal p ≡ None → KeepsForm (plain p places) → length (joins p places) ≤ 256
joins_few p places fits keeps =
    let few = headers_few p (length (plain p places).entries) (length p.headers) (unjoined (plain p places)) (omega arith) (plain_waits p places keeps) in
    let whole = ap entries_in (take_all (length p.headers) p.headers (omega arith)) in
    let most = fits_in p fits in
    omega (arith, few, whole, most)
