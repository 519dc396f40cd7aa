-- Listed cells of a part, in a map by their numbers.
use Rattle.std.proofs.Common.{◌≡◌, ℕ, ◌+◌, ◌<◌, List, [], ◌∷◌, ◌++◌, get_or, length, map, take, true, refl, sym, ap, ◌∙◌, subst, arith}
use Rattle.std.specs.Prelude.{All}
use Rattle.std.specs.List.{AllZip}
use Rattle.std.specs.BTreeMap.{insert_entry}
use Rattle.std.specs.Cmp.{nat_cmp_is}
use Rattle.std.specs.Ordering.{match_ordering, nat_cmp}
use Rattle.std.specs.declared.cmp.Ordering.{Ordering}
use Rattle.std.specs.declared.cmp.Ordering.TheVariants.{Greater}
use Rattle.std.proofs.lemmas.List.{get_or-take, get_or_default, length-take, take_more}
use Rattle.std.proofs.lemmas.List.Elements.{All-cons, All-head, All-nil, All-tail}
use Rattle.rmt_config.specs.declared.config.CellNumber.{CellNumber}
use Rattle.std.proofs.lemmas.Slice.Zip.{all_zipped_more}
use Rattle.rmt_config.specs.Order.{rises_from}
use Rattle.rmt_config.proofs.RiseLaws.{rise-below}

-- a key above all goes to the end
pub insert-last : {X : Type 0} (es : List (ℕ × X)) (k : ℕ) (v : X) → All (λ (e : ℕ × X). e.0 < k) es → insert_entry nat_cmp es k v ≡ es ++ (k, v) ∷ []
insert-last [] k v all = refl
insert-last {X} (e ∷ es) k v all =
    let lt : e.0 < k = All-head (λ (e : ℕ × X). e.0 < k) e es all in
    ap (λ (o : Ordering). match_ordering o ((k, v) ∷ e ∷ es) ((e.0, v) ∷ es) (e ∷ insert_entry nat_cmp es k v)) (sym (nat_cmp_is k e.0 Greater lt))
    ∙ ap (λ xs. e ∷ xs) (insert-last es k v (All-tail (λ (e : ℕ × X). e.0 < k) e es all))

module _ {X : Type 0} (R : CellNumber → ℕ × X → Type 0) (at : (n : CellNumber) (e : ℕ × X) → R n e → e.0 ≡ n.cell) where
  -- keys of cells below one are below it
  zip-below : (ns : List CellNumber) (es : List (ℕ × X)) (k : ℕ) → AllZip R ns es → All (λ (n : CellNumber). n.cell < k) ns → All (λ (e : ℕ × X). e.0 < k) es
  zip-below [] [] k zip all = All-nil (λ (e : ℕ × X). e.0 < k)
  zip-below [] (e ∷ es) k zip all = absurd zip
  zip-below (n ∷ ns) [] k zip all = absurd zip
  zip-below (n ∷ ns) (e ∷ es) k zip all =
      All-cons (λ (e : ℕ × X). e.0 < k) e es (subst (λ m. m < k) (sym (at n e zip.0)) (All-head (λ (n : CellNumber). n.cell < k) n ns all))
      (zip-below ns es k zip.1 (All-tail (λ (n : CellNumber). n.cell < k) n ns all))

  -- the next cell of a rising list goes to the end
  next-listed : (ns : List CellNumber) (i : ℕ) (d : CellNumber) (es : List (ℕ × X)) (v : X) → rises_from 0 (map (λ (n : CellNumber). n.cell) ns) ≡ true → i < length ns
      → AllZip R (take i ns) es → insert_entry nat_cmp es (get_or ns i d).cell v ≡ es ++ ((get_or ns i d).cell, v) ∷ []
  next-listed ns i d es v rise lt zip =
      insert-last es (get_or ns i d).cell v
      (zip-below (take i ns) es (get_or ns i d).cell zip
      (λ j e lj.
      let less : j < i = omega (arith, lj, length-take i ns) in
      subst (λ (n : CellNumber). n.cell < (get_or ns i d).cell) (sym (get_or-take i ns j e less))
      (subst (λ (n : CellNumber). (get_or ns j e).cell < n.cell) (get_or_default ns i e d lt) (rise-below (λ (n : CellNumber). n.cell) 0 ns rise j i e less lt))))

  -- the cells so far, with the next one
  pub one-more : (ns : List CellNumber) (i : ℕ) (d : CellNumber) (es new : List (ℕ × X)) (v : X) → rises_from 0 (map (λ (n : CellNumber). n.cell) ns) ≡ true → i < length ns
      → AllZip R (take i ns) es → new ≡ insert_entry nat_cmp es (get_or ns i d).cell v → R (get_or ns i d) ((get_or ns i d).cell, v) → AllZip R (take (i + 1) ns) new
  one-more ns i d es new v rise lt zip put own =
      let n = get_or ns i d in
      subst (AllZip R (take (i + 1) ns)) (sym (put ∙ next-listed ns i d es v rise lt zip))
      (subst (λ xs. AllZip R xs (es ++ (n.cell, v) ∷ [])) (sym (take_more ns i d lt)) (all_zipped_more R (take i ns) es n (n.cell, v) zip own))
