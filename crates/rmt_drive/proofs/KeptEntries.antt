-- Behind a commit an entry that has the number of an entry before it is that one, where numbers are given once.
use Rattle.std.proofs.Common.{◌≡◌, ◌⊎◌, inl, inr, ℕ, ◌<◌, ◌≤◌, ◌==◌, true, List, [], ◌∷◌, ◌++◌, Option, Some, None, unwrap_or, refl, sym, subst, arith}
use Rattle.std.specs.Prelude.{All, Contains, slice_get, slice_set}
use Rattle.std.proofs.lemmas.Bool.{eqb-true}
use Rattle.std.proofs.lemmas.List.Elements.{All-append, All-cons, All-contains, All-contains_itself, All-nil, All-set, All-weaker}
use Rattle.rmt_bits.proofs.AllLaws.{All-flat_map, All-parts, All-slice_get, All-unmap}
use Rattle.rmt_bits.proofs.MemberLaws.{any_item}
use Rattle.rmt_ast.specs.declared.entry.Entry.{Entry}
use Rattle.rmt_ast.specs.Changes.{Adds, Change, Installed, Removes, changed, committed, list_of, without}
use Rattle.rmt_ast.proofs.EntryLaws.{all_without}
use Rattle.rmt_config.specs.Commits.{all_entries, is_numbered_in}
use Rattle.rmt_refine.specs.Commits.{KeepEntries}
use Rattle.rmt_update.specs.Following.{IsNextAbove}
use Rattle.rmt_update.proofs.OncePlaced.{all-numbers}

module _ (P : Entry → Type 0) where
  in_list : (lists : List (List Entry)) (node : ℕ) → All P (all_entries lists) → All P (list_of lists node)
  in_list lists node all = by (slice_get lists node) (λ es at. All-slice_get (All P) lists node es (All-parts P (λ (es : List Entry). es) lists all) at)
    where
      by : (o : Option (List Entry)) → ((es : List Entry) → o ≡ Some es → All P es) → All P (unwrap_or o [])
      by None each = All-nil P
      by (Some es) each = each es refl

  all_set : (lists : List (List Entry)) (node : ℕ) (es : List Entry) → All P (all_entries lists) → All P es → All P (all_entries (slice_set lists node es))
  all_set lists node es all own = All-flat_map P (λ (xs : List Entry). xs) (slice_set lists node es) (All-set (All P) lists node es own (All-parts P (λ (xs : List Entry). xs) lists all))

  entries_changed : (s : Installed) (change : Change) → All P (all_entries s.lists) → ((e : Entry) → e.number ≡ s.next → P e) → All P (all_entries (changed s change).lists)
  entries_changed s (Adds e) all new =
      let own : Entry = record e { number = s.next } in
      all_set s.lists e.table (list_of s.lists e.table ++ own ∷ []) all
      (All-append P (list_of s.lists e.table) (own ∷ []) (in_list s.lists e.table all) (All-cons P own [] (new own refl) (All-nil P)))
  entries_changed s (Removes node key) all new = all_set s.lists node (without key (list_of s.lists node)) all (all_without P key (list_of s.lists node) (in_list s.lists node all))

  entries_committed : (s : Installed) (changes : List Change) → All P (all_entries s.lists) → ((e : Entry) → s.next ≤ e.number → P e) → All P (all_entries (committed s changes).lists)
  entries_committed s [] all new = all
  entries_committed s (change ∷ changes) all new =
      let le = next_rises s change in
      entries_committed (changed s change) changes (entries_changed s change all (λ e is. new e (omega (arith, is)))) (λ e more. new e (omega (arith, le, more)))
    where
      next_rises : (t : Installed) (x : Change) → t.next ≤ (changed t x).next
      next_rises t (Adds e) = omega arith
      next_rises t (Removes node key) = omega arith

-- an entry was there, or has a later number
abbrev WasOrIsNew : Installed → Entry → Type 0
WasOrIsNew s e = Contains (all_entries s.lists) e ⊎ (s.next ≤ e.number)

-- an entry that changes leave and that has a number from before was there
pub keep_entries : (s : Installed) (changes : List Change) → IsNextAbove s → KeepEntries s.lists (committed s changes).lists
keep_entries s changes above =
    All-weaker (WasOrIsNew s) (λ e. is_numbered_in (all_entries s.lists) e ≡ true → Contains (all_entries s.lists) e) was_there (all_entries (committed s changes).lists)
    (entries_committed (WasOrIsNew s) s changes (All-weaker (Contains (all_entries s.lists)) (WasOrIsNew s) (λ e there. inl there) (all_entries s.lists) (All-contains_itself (all_entries s.lists))) (λ e more. inr more))
  where
    below : All (λ (e : Entry). e.number < s.next) (all_entries s.lists)
    below = All-unmap (λ n. n < s.next) (λ (e : Entry). e.number) (all_entries s.lists) (subst (All (λ n. n < s.next)) (sym (all-numbers s.lists)) above)

    was_there : (e : Entry) → WasOrIsNew s e → is_numbered_in (all_entries s.lists) e ≡ true → Contains (all_entries s.lists) e
    was_there e (inl there) stood = there
    was_there e (inr more) stood =
        let o = any_item (λ (x : Entry). x.number == e.number) (all_entries s.lists) stood in
        absurd (let lt = All-contains (λ (x : Entry). x.number < s.next) (all_entries s.lists) o.0 below o.1 in let same = eqb-true o.0.number e.number o.2 in omega (arith, lt, more, same))
