-- Steps of putting entries into cells anew.
use Rattle.std.proofs.Common.{◌≡◌, ℕ, zero, suc, ◌+◌, ◌<◌, ◌==◌, Bool, true, false, cond, List, [], ◌∷◌, Some, refl, sym, ap, ◌∙◌, subst, inl, inr, arith}
use Rattle.std.specs.Prelude.{All, IsSome, is_some, slice_get, slice_set}
use Rattle.std.specs.BTreeMap.{IsOrdered, get, is_at}
use Rattle.std.specs.List.{AllZip}
use Rattle.std.specs.Map.{lookup}
use Rattle.std.specs.Ordering.{nat_cmp}
use Rattle.std.proofs.lemmas.Bool.{cases_Bool, cases_lt, eq-eqb, eqb-true, false≢true}
use Rattle.std.proofs.lemmas.List.Elements.{All-cons, All-head, All-nil, All-tail}
use Rattle.std.proofs.lemmas.Option.{none-some, same_Some}
use Rattle.rmt_bits.proofs.AllLaws.{All-slice_get}
use Rattle.rmt_bits.proofs.ListLaws.{slice_get-set_other, slice_get-set_same}
use Rattle.rmt_ast.specs.declared.entry.Entry.{Entry}
use Rattle.rmt_book.specs.declared.kept.Kept.{Kept}
use Rattle.rmt_book.specs.declared.spots.Spot.{Spot}
use Rattle.rmt_book.specs.declared.table.PartCells.{PartCells}
use Rattle.rmt_book.specs.declared.table.TableCells.{TableCells}
use Rattle.rmt_book.specs.Coming.{HasSizes, KeepsEntry}
use Rattle.rmt_update.specs.Refill.{AreRefilled, IsCleared, IsOneOf, SamePart, WithEntry}
use Rattle.rmt_book.specs.declared.shape.PartShape.{PartShape}
use Rattle.rmt_update.proofs.ZipLaws.{zip-all-right, zip-gives}

pub same-parts : (x y z : PartCells) → SamePart x y → SamePart y z → SamePart x z
same-parts x y z a b = record { stage = b.stage ∙ a.stage; place = b.place ∙ a.place; first = b.first ∙ a.first; shape = b.shape ∙ a.shape }

-- ---- lists beside lists

zip-set : {X Y : Type 0} (R : X → Y → Type 0) (xs : List X) (ys : List Y) (i : ℕ) (y y2 : Y) → AllZip R xs ys → slice_get ys i ≡ Some y → ((x : X) → R x y → R x y2) → AllZip R xs (slice_set ys i y2)
zip-set R [] [] i y y2 zip at gives = zip
zip-set R [] (z ∷ ys) i y y2 zip at gives = absurd zip
zip-set R (x ∷ xs) [] i y y2 zip at gives = absurd zip
zip-set R (x ∷ xs) (z ∷ ys) zero y y2 zip at gives = (gives x (subst (R x) (same_Some z y at) zip.0), zip.1)
zip-set R (x ∷ xs) (z ∷ ys) (suc i) y y2 zip at gives = (zip.0, zip-set R xs ys i y y2 zip.1 at gives)

all-set : {X : Type 0} (P : X → Type 0) (xs : List X) (i : ℕ) (x : X) → All P xs → P x → All P (slice_set xs i x)
all-set P [] i x all own = All-nil P
all-set P (z ∷ xs) zero x all own = All-cons P x xs own (All-tail P z xs all)
all-set P (z ∷ xs) (suc i) x all own = All-cons P z (slice_set xs i x) (All-head P z xs all) (all-set P xs i x (All-tail P z xs all) own)

-- ---- a table

module _ (x : TableCells) (es : List Entry) (ss : List Spot) where
  pub none-refilled : (parts : List PartCells) → AllZip IsCleared x.parts.items parts → AreRefilled x es ss 0 parts
  none-refilled parts clear = record {
    same = zip-gives IsCleared SamePart (λ a b h. h.same) x.parts.items parts clear;
    ordered = zip-all-right IsCleared (λ (y : PartCells). IsOrdered nat_cmp y.cells) (λ a b h. h.ordered) x.parts.items parts clear;
    there = λ j s lt at. absurd (omega (arith, lt));
    found = λ i n y k at held.
        let none : y.cells.entries ≡ [] =
        All-slice_get (λ (z : PartCells). z.cells.entries ≡ []) parts i y (zip-all-right IsCleared (λ (z : PartCells). z.cells.entries ≡ []) (λ a b h. h.none) x.parts.items parts clear) at in
        absurd (none-some k (sym (ap (lookup (is_at (nat_cmp n))) none) ∙ held));
  }

  -- an entry more
  module _ (at : ℕ) (parts : List PartCells) (e : Entry) (s : Spot) (y y2 : PartCells) (so_far : AreRefilled x es ss at parts) (in_es : slice_get es at ≡ Some e) (in_ss : slice_get ss at ≡ Some s)
      (here : slice_get parts s.part ≡ Some y) (put : WithEntry x.name e s.cell y y2) where
    later : (i n : ℕ) (z : PartCells) (k : Kept) → IsOneOf x.name es ss at i n z k → IsOneOf x.name es ss (at + 1) i n z k
    later i n z k h = record { j = h.j; below = (let lt = h.below in omega (arith, lt)); entry = h.entry; in_entries = h.in_entries; in_spots = h.in_spots; keeps = h.keeps; sizes = h.sizes }

    stays : (n : ℕ) → IsSome (get nat_cmp y.cells n) → IsSome (get nat_cmp y2.cells n)
    stays n some = ap is_some (put.put n) ∙ by (s.cell == n)
      where
        by : (b : Bool) → is_some (cond b (Some put.kept) (get nat_cmp y.cells n)) ≡ true
        by true = refl
        by false = some

    own : IsSome (get nat_cmp y2.cells s.cell)
    own = ap is_some (put.put s.cell ∙ ap (λ b. cond b (Some put.kept) (get nat_cmp y.cells s.cell)) (eq-eqb s.cell s.cell refl))

    there-more : (j : ℕ) (u : Spot) → j < at + 1 → slice_get ss j ≡ Some u → (z : PartCells) × (slice_get (slice_set parts s.part y2) u.part ≡ Some z) × IsSome (get nat_cmp z.cells u.cell)
    there-more j u lt in_u = elim (cases_lt j at) [
      | inl less ↦
          let old = so_far.there j u less in_u in
          elim (cases_Bool (u.part == s.part)) [
            | inl t ↦
                let same : u.part ≡ s.part = eqb-true u.part s.part t in
                let is : old.0 ≡ y = same_Some old.0 y (sym old.1 ∙ ap (slice_get parts) same ∙ here) in
                (y2, ap (slice_get (slice_set parts s.part y2)) same ∙ slice_get-set_same parts s.part y y2 here, stays u.cell (subst (λ (z : PartCells). IsSome (get nat_cmp z.cells u.cell)) is old.2))
            | inr f ↦ (old.0, slice_get-set_other parts s.part u.part y2 (λ e. false≢true (sym f ∙ eq-eqb u.part s.part e)) ∙ old.1, old.2)
          ]
      | inr ge ↦
          let last : j ≡ at = omega (arith, lt, ge) in
          let same : s ≡ u = same_Some s u (sym in_ss ∙ ap (slice_get ss) (sym last) ∙ in_u) in
          subst (λ (v : Spot). (z : PartCells) × (slice_get (slice_set parts s.part y2) v.part ≡ Some z) × IsSome (get nat_cmp z.cells v.cell)) same (y2, slice_get-set_same parts s.part y y2 here, own)
    ]

    found-here : (n : ℕ) (k : Kept) → get nat_cmp y2.cells n ≡ Some k → IsOneOf x.name es ss (at + 1) s.part n y2 k
    found-here n k held = by (s.cell == n) refl (sym (put.put n) ∙ held)
      where
        by : (b : Bool) → (s.cell == n) ≡ b → cond b (Some put.kept) (get nat_cmp y.cells n) ≡ Some k → IsOneOf x.name es ss (at + 1) s.part n y2 k
        by true t is =
            let cell : s.cell ≡ n = eqb-true s.cell n t in
            let kept : put.kept ≡ k = same_Some put.kept k is in
            record {
              j = at;
              below = omega arith;
              entry = e;
              in_entries = in_es;
              in_spots = in_ss ∙ ap (λ m. Some (record { part = s.part; cell = m })) cell;
              keeps = subst (λ f. KeepsEntry x.name f n 3 e k) (sym put.same.first) (subst (KeepsEntry x.name y.first n 3 e) kept (subst (λ m. KeepsEntry x.name y.first m 3 e put.kept) cell put.keeps));
              sizes = subst (λ (u : PartShape). HasSizes x.name u.held k) (sym put.same.shape) (subst (HasSizes x.name y.shape.held) kept put.sizes);
            }
        by false f is =
            let h = so_far.found s.part n y k here is in
            record { j = h.j; below = (let lt = h.below in omega (arith, lt)); entry = h.entry; in_entries = h.in_entries; in_spots = h.in_spots; keeps = subst (λ f. KeepsEntry x.name f n 3 h.entry k) (sym put.same.first) h.keeps; sizes = subst (λ (u : PartShape). HasSizes x.name u.held k) (sym put.same.shape) h.sizes }

    pub refilled-more : AreRefilled x es ss (at + 1) (slice_set parts s.part y2)
    refilled-more = record {
      same = zip-set SamePart x.parts.items parts s.part y y2 so_far.same here (λ z h. same-parts z y y2 h put.same);
      ordered = all-set (λ (z : PartCells). IsOrdered nat_cmp z.cells) parts s.part y2 so_far.ordered put.ordered;
      there = there-more;
      found = λ i n z k at_z held. elim (cases_Bool (i == s.part)) [
        | inl t ↦
            let same : i ≡ s.part = eqb-true i s.part t in
            let is : y2 ≡ z = same_Some y2 z (sym (slice_get-set_same parts s.part y y2 here) ∙ ap (slice_get (slice_set parts s.part y2)) (sym same) ∙ at_z) in
            subst (λ m. IsOneOf x.name es ss (at + 1) m n z k) (sym same)
            (subst (λ w. IsOneOf x.name es ss (at + 1) s.part n w k) is (found-here n k (ap (λ (w : PartCells). get nat_cmp w.cells n) is ∙ held)))
        | inr f ↦
            later i n z k (so_far.found i n z k (sym (slice_get-set_other parts s.part i y2 (λ e. false≢true (sym f ∙ eq-eqb i s.part e))) ∙ at_z) held)
      ];
    }
