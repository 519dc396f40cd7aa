-- The values of a folding: each field once, of its width, and in lanes of their own.
use Rattle.std.proofs.Common.{◌≡◌, ◌≢◌, ℕ, zero, suc, ◌<◌, Bool, true, false, cond, List, [], ◌∷◌, ◌++◌, get_or, length, map, Ok, refl, sym, ap, ◌∙◌, subst, ⊎_elim, inl, inr, arith}
use Rattle.std.specs.Prelude.{◌==◌, fold, All, Contains, slice_index, slice_set}
use Rattle.std.proofs.lemmas.Bool.{cases_Bool, cases_order, cond_both, or_parts, eqb-false}
use Rattle.std.proofs.lemmas.List.{length-set, length-map, get_or-set_same, get_or-set_other, get_or-map, get_or_default}
use Rattle.std.proofs.lemmas.List.Elements.{All-nil, All-cons, All-head, All-tail, All-push, All-weaker, All-map, All-contains}
use Rattle.std.proofs.lemmas.List.Quantifiers.{all_pairs_push}
use Rattle.std.proofs.lemmas.Option.{slice_get_within, get_or_from_slice_get}
use Rattle.rmt_bits.proofs.AllLaws.{All-slice_get}
use Rattle.rmt_vliw.specs.Types.{Program, Action, Assign}
use Rattle.rmt_ast.specs.State.{width_of}
use Rattle.rmt_ast.specs.Actions.{value_of}
use Rattle.rmt_ast.specs.WellFormed.{IsProgram, IsAction, IsAssign, IsExpr, AreDistinct}
use Rattle.rmt_bits.specs.declared.lane.Lane.{Lane}
use Rattle.rmt_phv.specs.Places.{KeepsApart, ShareNoWord, WritesApart, written_by}
use Rattle.rmt_ast.specs.Places.{lanes_of}
use Rattle.rmt_vliw.specs.declared.folded.Folded.{Folded}
use Rattle.rmt_vliw.specs.Folding.{Terms, unassigned, terms_of, with_dest, dests_of, folded_of, IsFolding, all_set}
use Rattle.rmt_vliw.proofs.FoldLaws.{has}
use Rattle.rmt_vliw.proofs.MeaningLaws.{Agrees, IsTerm, is_expr, terms_are, folded_is, action_of}

-- a value of a field of the program, of the field's width
pub record IsValue (p : Program) (params : List ℕ) (v : Assign) : Type 0 where
  pub is_field : v.dest < length p.fields
  pub expr : IsExpr p params (width_of p v.dest) v.expr

-- what instructions ask of values
pub record AreFolded (p : Program) (places : List (List Lane)) (params : List ℕ) (values : List Assign) : Type 0 where
  pub each : All (IsValue p params) values
  pub once : AreDistinct (map (λ (v : Assign). v.dest) values)
  pub apart : (v w : Assign) → Contains values v → Contains values w → v.dest ≢ w.dest → ShareNoWord (lanes_of places v.dest) (lanes_of places w.dest)

-- a field has one value
pub one_value : (values : List Assign) (v w : Assign) → AreDistinct (map (λ (v : Assign). v.dest) values) → Contains values v → Contains values w → v.dest ≡ w.dest → v ≡ w
one_value values v w once (i, li, vi) (j, lj, wj) same =
    let long = length-map values (λ (x : Assign). x.dest) in
    let dest_i : get_or (map (λ (x : Assign). x.dest) values) i 0 ≡ v.dest = get_or-map (λ (x : Assign). x.dest) values i v 0 li ∙ ap (λ (x : Assign). x.dest) vi in
    let dest_j : get_or (map (λ (x : Assign). x.dest) values) j 0 ≡ w.dest = get_or-map (λ (x : Assign). x.dest) values j w 0 lj ∙ ap (λ (x : Assign). x.dest) wj in
    elim (cases_order i j) [
      | inl e ↦ sym vi ∙ ap (λ k. get_or values k v) e ∙ get_or_default values j v w lj ∙ wj
      | inr (inl lt) ↦ absurd (once i j 0 lt (omega (arith, long, lj)) (dest_i ∙ same ∙ sym dest_j))
      | inr (inr gt) ↦ absurd (once j i 0 gt (omega (arith, long, li)) (dest_j ∙ sym same ∙ sym dest_i))
    ]

-- ---- those of an action

-- the fields of a list are among those that are assigned to
pub dests_known : (assigns : List Assign) (fields known : List ℕ) → All (Contains known) fields → All (λ (a : Assign). Contains known a.dest) assigns → All (Contains known) (fold with_dest fields assigns)
dests_known [] fields known so_far rest = so_far
dests_known (a ∷ assigns) fields known so_far rest =
    let here : Contains known a.dest = All-head (λ (b : Assign). Contains known b.dest) a assigns rest in
    dests_known assigns (with_dest fields a) known
    (⊎_elim
    (λ (there : has fields a.dest ≡ true). subst (All (Contains known)) (sym (with_dest-old fields a there)) so_far)
    (λ (absent : has fields a.dest ≡ false). subst (All (Contains known)) (sym (with_dest-new fields a absent)) (All-push (Contains known) fields a.dest so_far here))
    (cases_Bool (has fields a.dest)))
    (All-tail (λ (b : Assign). Contains known b.dest) a assigns rest)
  where
    with_dest-old : (fields : List ℕ) (a : Assign) → has fields a.dest ≡ true → with_dest fields a ≡ fields
    with_dest-old fields a there = ap (λ (b : Bool). cond b fields (fields ++ a.dest ∷ [])) there

    with_dest-new : (fields : List ℕ) (a : Assign) → has fields a.dest ≡ false → with_dest fields a ≡ fields ++ a.dest ∷ []
    with_dest-new fields a absent = ap (λ (b : Bool). cond b fields (fields ++ a.dest ∷ [])) absent

absent_ne : (fields : List ℕ) (f : ℕ) → has fields f ≡ false → (k d : ℕ) → k < length fields → get_or fields k d ≢ f
absent_ne [] f none k d lt e = absurd (omega (arith, lt))
absent_ne (g ∷ gs) f none zero d lt e = eqb-false g f (or_parts (g == f) (has gs f) none).0 e
absent_ne (g ∷ gs) f none (suc k) d lt e = absent_ne gs f (or_parts (g == f) (has gs f) none).1 k d (omega (arith, lt)) e

dests_once : (assigns : List Assign) (fields : List ℕ) → AreDistinct fields → AreDistinct (fold with_dest fields assigns)
dests_once [] fields once = once
dests_once (a ∷ assigns) fields once =
    dests_once assigns (with_dest fields a)
    (cond_both (has fields a.dest) fields (fields ++ a.dest ∷ []) AreDistinct
    (λ there. once)
    (λ absent. all_pairs_push (λ x y. x ≢ y) fields a.dest once (λ k d lt. absent_ne fields a.dest absent k d lt)))

value_of_item : (p : Program) (params : List ℕ) (terms : Terms) → ((f : ℕ) → f < length p.fields → IsTerm p params (width_of p f) (terms f)) → (values : List Assign) → All (Agrees terms) values → All (λ (v : Assign). v.dest < length p.fields) values → All (IsValue p params) values
value_of_item p params terms are [] agree known = All-nil (IsValue p params)
value_of_item p params terms are (v ∷ vs) agree known =
    let inside : v.dest < length p.fields = All-head (λ (w : Assign). w.dest < length p.fields) v vs known in
    All-cons (IsValue p params) v vs
    (record { is_field = inside; expr = is_expr p params (width_of p v.dest) (terms v.dest) v.expr (All-head (Agrees terms) v vs agree) (are v.dest inside) })
    (value_of_item p params terms are vs (All-tail (Agrees terms) v vs agree) (All-tail (λ (w : Assign). w.dest < length p.fields) v vs known))

folding_values : (p : Program) (places : List (List Lane)) (folded : Folded) (a : Action) → KeepsApart p places → IsAction p a → All (λ (b : Action). WritesApart places b) p.actions → Contains p.actions a → folded_of a ≡ Ok folded → AreFolded p places folded.params folded.values
folding_values p places folded a keeps good apart there folds =
    let parts = folded_is a folded folds in
    let values = parts.1 in
    let terms = terms_of a.assigns in
    let known : All (Contains (written_by a)) (dests_of a.assigns) = dests_known a.assigns [] (written_by a) (All-nil (Contains (written_by a))) (itself a.assigns) in
    let dests : All (Contains (written_by a)) (map (λ (v : Assign). v.dest) folded.values) = subst (All (Contains (written_by a))) (sym values.dests) known in
    let each_dest : All (λ (v : Assign). Contains (written_by a) v.dest) folded.values = All-unmap (Contains (written_by a)) folded.values dests in
    let inside : All (λ (v : Assign). v.dest < length p.fields) folded.values =
    All-weaker (λ (v : Assign). Contains (written_by a) v.dest) (λ (v : Assign). v.dest < length p.fields)
    (λ v c. All-contains (λ f. f < length p.fields) (written_by a) v.dest (All-map (λ f. f < length p.fields) (λ (x : Assign). x.dest) a.assigns (All-weaker (IsAssign p a.params) (λ (x : Assign). x.dest < length p.fields) (λ x h. h.is_field) a.assigns good.assigns)) c)
    folded.values each_dest in
    let terms_good = terms_are p a.params a.assigns good.assigns unassigned (λ f within. (within, refl)) in
    record {
      each = subst (λ ps. All (IsValue p ps) folded.values) (sym parts.0) (value_of_item p a.params terms terms_good folded.values values.agree inside);
      once = subst AreDistinct (sym values.dests) (dests_once a.assigns [] (λ i j d lt below. absurd (omega (arith, below))));
      apart = λ v w in_v in_w differ. All-contains (WritesApart places) p.actions a apart there v.dest w.dest
          (All-contains (λ (x : Assign). Contains (written_by a) x.dest) folded.values v each_dest in_v)
          (All-contains (λ (x : Assign). Contains (written_by a) x.dest) folded.values w each_dest in_w) differ;
    }
  where
    itself : (assigns : List Assign) → All (λ (b : Assign). Contains (map (λ (x : Assign). x.dest) assigns) b.dest) assigns
    itself assigns k d lt =
        let long = length-map assigns (λ (x : Assign). x.dest) in
        (k, omega (arith, long, lt), get_or-map (λ (x : Assign). x.dest) assigns k d (get_or assigns k d).dest lt)

    All-unmap : (P : ℕ → Type 0) (values : List Assign) → All P (map (λ (v : Assign). v.dest) values) → All (λ (v : Assign). P v.dest) values
    All-unmap P values h k d lt =
        let long = length-map values (λ (v : Assign). v.dest) in
        subst P (get_or-map (λ (v : Assign). v.dest) values k d 0 lt) (h k 0 (omega (arith, long, lt)))

-- the values of a folding of a program are such
pub are_folded : (p : Program) (places : List (List Lane)) (n : ℕ) (folded : Folded) → IsProgram p → KeepsApart p places → IsFolding p n folded → AreFolded p places folded.params folded.values
are_folded p places n folded good keeps h =
    let found = action_of p n folded h in
    folding_values p places folded found.0 keeps (All-slice_get (IsAction p) p.actions n found.0 good.actions found.1) keeps.written_apart
    (let within = slice_get_within p.actions n found.0 found.1 in (n, within, get_or_from_slice_get p.actions n found.0 found.0 found.1)) found.2

-- ---- a state with all values set

module _ (p : Program) (args s : List ℕ) where
  unset : (values : List Assign) (t : List ℕ) (f : ℕ) → All (λ (v : Assign). f ≢ v.dest) values → slice_index (fold (λ t v. slice_set t v.dest (value_of (width_of p v.dest) v.expr s args)) t values) f ≡ slice_index t f
  unset [] t f other = refl
  unset (v ∷ vs) t f other =
      let x = value_of (width_of p v.dest) v.expr s args in
      unset vs (slice_set t v.dest x) f (All-tail (λ (w : Assign). f ≢ w.dest) v vs other)
      ∙ get_or-set_other t v.dest f x 0 (All-head (λ (w : Assign). f ≢ w.dest) v vs other)

  set_once : (values : List Assign) (t : List ℕ) → AreDistinct (map (λ (v : Assign). v.dest) values) → (k : ℕ) (d : Assign) → k < length values → (get_or values k d).dest < length t
      → slice_index (fold (λ t v. slice_set t v.dest (value_of (width_of p v.dest) v.expr s args)) t values) (get_or values k d).dest ≡ value_of (width_of p (get_or values k d).dest) (get_or values k d).expr s args
  set_once [] t once k d lt within = absurd (omega (arith, lt))
  set_once (v ∷ vs) t once zero d lt within =
      let x = value_of (width_of p v.dest) v.expr s args in
      unset vs (slice_set t v.dest x) v.dest
      (λ j e below same.
      (let long = length-map vs (λ (w : Assign). w.dest) in
      once 0 (suc j) 0 (omega arith) (omega (arith, long, below)) (same ∙ sym (get_or-map (λ (w : Assign). w.dest) vs j e 0 below))))
      ∙ get_or-set_same t v.dest x 0 within
  set_once (v ∷ vs) t once (suc k) d lt within =
      let x = value_of (width_of p v.dest) v.expr s args in
      let long = length-set t v.dest x in
      set_once vs (slice_set t v.dest x) (λ i j e less below. once (suc i) (suc j) e (omega (arith, less)) (omega (arith, below))) k d (omega (arith, lt)) (omega (arith, within, long))

-- a field that is written has its value, and any other stays
pub set_values : (p : Program) (args s : List ℕ) (values : List Assign) (v : Assign) → AreDistinct (map (λ (v : Assign). v.dest) values) → Contains values v → v.dest < length s
    → slice_index (all_set p args s values) v.dest ≡ value_of (width_of p v.dest) v.expr s args
set_values p args s values v once (k, lt, is) within =
    let here = set_once p args s values s once k v lt (subst (λ (w : Assign). w.dest < length s) (sym is) within) in
    subst (λ (w : Assign). slice_index (all_set p args s values) w.dest ≡ value_of (width_of p w.dest) w.expr s args) is here

pub set_others : (p : Program) (args s : List ℕ) (values : List Assign) (f : ℕ) → All (λ (v : Assign). f ≢ v.dest) values → slice_index (all_set p args s values) f ≡ slice_index s f
set_others p args s values f other = unset p args s values s f other
