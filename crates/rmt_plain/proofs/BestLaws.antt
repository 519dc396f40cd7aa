-- The earliest place that groups have for a key is that of the first entry that matches.
use Rattle.std.proofs.Common.{◌≡◌, ℕ, ◌<◌, ◌≤◌, Bool, true, false, cond, List, length, map, get_or, Option, Some, None, option_map, refl, sym, ap, subst, ◌∙◌, arith}
use Rattle.std.specs.Prelude.{All, IsSomeAnd, find, slice_get, option_and_then, unwrap_or}
use Rattle.std.proofs.lemmas.Bool.{false_from_ne_true}
use Rattle.std.proofs.lemmas.Option.{none-some, slice_get-get_or, slice_get-map, slice_get_within, get_or_from_slice_get}
use Rattle.rmt_bits.specs.declared.groups.Group.{Group}
use Rattle.rmt_bits.specs.Grouping.{Compared, place_in, best_of, AreGrouped}
use Rattle.rmt_bits.proofs.BestLaws.{Looks, IsFirstHit, best-first}
use Rattle.rmt_ast.specs.declared.entry.Entry.{Entry}
use Rattle.rmt_ast.specs.Lookup.{matches}
use Rattle.rmt_plain.specs.Grouping.{masked, marked_place, place_for, row_of, IsMarked}
use Rattle.rmt_plain.specs.Marks.{is_marked, total_of}
use Rattle.rmt_plain.proofs.FindLaws.{find-first, find-none}
use Rattle.rmt_plain.proofs.KeyLaws.{FitsKey, masked-passed, passed-masked}

-- what is found among marked bits is found
found_place : (b : Bool) (o : Option ℕ) (i : ℕ) → cond b o None ≡ Some i → o ≡ Some i
found_place true o i h = h
found_place false o i h = absurd (none-some i h)

module _ (marks : List Bool) (key s : List ℕ) (es : List Entry) (groups : List Group) (fits : All (λ (e : Entry). FitsKey key e.tests) es) (grouped : AreGrouped (map row_of es) groups) (marked : All (IsMarked marks) es) where
  abbrev Hit : Compared → Type 0
  Hit r = masked r.masks key s ≡ r.values

  fits_at : (j : ℕ) (e : Entry) → slice_get es j ≡ Some e → FitsKey key e.tests
  fits_at j e at = subst (λ (x : Entry). FitsKey key x.tests) (get_or_from_slice_get es j e e at) (fits j e (slice_get_within es j e at))

  marked_at : (j : ℕ) (e : Entry) → slice_get es j ≡ Some e → IsMarked marks e
  marked_at j e at = subst (IsMarked marks) (get_or_from_slice_get es j e e at) (marked j e (slice_get_within es j e at))

  row_at : (j : ℕ) (e : Entry) → slice_get es j ≡ Some e → slice_get (map row_of es) j ≡ Some (row_of e)
  row_at j e at = slice_get-map row_of es j ∙ ap (option_map row_of) at

  row_marked : (j : ℕ) (r : Compared) → slice_get (map row_of es) j ≡ Some r → is_marked marks (total_of r.values) ≡ true
  row_marked j r at = by (slice_get es j) refl (sym (slice_get-map row_of es j) ∙ at)
    where
      by : (o : Option Entry) → slice_get es j ≡ o → option_map row_of o ≡ Some r → is_marked marks (total_of r.values) ≡ true
      by None is h = absurd (none-some r h)
      by (Some e) is h = subst (λ (x : Compared). is_marked marks (total_of x.values) ≡ true) (ap (λ (o : Option Compared). unwrap_or o r) h) (marked_at j e is)

  looks : Looks (place_for marks key s) (λ g. masked g.masks.items key s) Hit (map row_of es)
  looks = record {
    only = λ g i found. found_place _ _ i found;
    hit = λ g e same is. ap (λ ms. masked ms key s) same ∙ sym is;
    each = λ j e g i at hit same found.
        ap (marked_place marks g) (ap (λ ms. masked ms key s) same ∙ hit) ∙ ap (λ b. cond b (place_in g e.values) None) (row_marked j e at) ∙ found;
  }

  pub entry-best : option_and_then (slice_get es) (best_of (place_for marks key s) groups None) ≡ find (matches key s) es
  entry-best = by (best_of (place_for marks key s) groups None) (best-first (place_for marks key s) (λ g. masked g.masks.items key s) Hit (map row_of es) groups looks grouped (best_of (place_for marks key s) groups None) refl)
    where
      hits : (k : ℕ) (d : Entry) → k < length es → matches key s (get_or es k d) ≡ true → Hit (row_of (get_or es k d))
      hits k d lt h = masked-passed (get_or es k d).tests key s (fits_at k (get_or es k d) (slice_get-get_or es k d lt)) h

      some : (i : ℕ) (o : Option Entry) → slice_get es i ≡ o → IsSomeAnd (option_map row_of o) Hit → ((j : ℕ) (r : Compared) → slice_get (map row_of es) j ≡ Some r → Hit r → i ≤ j) → o ≡ find (matches key s) es
      some i None at h late = absurd h
      some i (Some e) at h late =
          let inside : i < length es = slice_get_within es i e at in
          sym (find-first (matches key s) es i e (record {
            at = get_or_from_slice_get es i e e at;
            inside = inside;
            passes = passed-masked e.tests key s (fits_at i e at) h;
            before = λ k d lt. false_from_ne_true _ (λ t.
                let within : k < length es = omega (arith, lt, inside) in
                let low : i ≤ k = late k (row_of (get_or es k d)) (row_at k (get_or es k d) (slice_get-get_or es k d within)) (hits k d within t) in
                omega (arith, low, lt));
          }))

      by : (r : Option ℕ) → IsFirstHit Hit (map row_of es) r → option_and_then (slice_get es) r ≡ find (matches key s) es
      by None none = sym (find-none (matches key s) es (λ k d lt. false_from_ne_true _ (λ t. none k (row_of (get_or es k d)) (row_at k (get_or es k d) (slice_get-get_or es k d lt)) (hits k d lt t))))
      by (Some i) first = some i (slice_get es i) refl (subst (λ (o : Option Compared). IsSomeAnd o Hit) (slice_get-map row_of es i) first.0) first.1
