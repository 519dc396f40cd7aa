-- What is known of the fields, assignment by assignment, is what their terms say.
use Rattle.std.proofs.Common.{◌≡◌, ◌<◌, ◌+◌, ℕ, Bool, true, false, cond, List, [], ◌∷◌, ◌++◌, get_or, set, take, drop, length, Option, Some, None, Ok, Err, map, refl, sym, ap, ◌∙◌, ⊎_elim, append_assoc, arith}
use Rattle.std.specs.Prelude.{◌==◌, ◌||◌, fold, Result}
use Rattle.std.specs.List.{list_any}
use Rattle.std.proofs.lemmas.Bool.{eqb-true, eq-eqb, ne_eqb, or_parts, cases_Bool, false≢true}
use Rattle.std.proofs.lemmas.List.{map_push, map_more, drop_more, length-map, length-take-le, get_or_at, set_at}
use Rattle.std.proofs.lemmas.List.Folds.{list_any-append}
use Rattle.rmt_vliw.specs.Types.{Action, Assign, Expr, Leaf, Op}
use Rattle.rmt_ast.specs.declared.program.Expr.TheVariants.{One, Two}
use Rattle.rmt_ast.specs.declared.program.Leaf.TheVariants as leaf
use Rattle.rmt_phv.specs.Packing.{map_ok}
use Rattle.rmt_vliw.specs.declared.value.Value.{Value}
use Rattle.rmt_vliw.specs.declared.folded.Folded.{Folded}
use Rattle.rmt_vliw.specs.declared.fault.ActionDeep.{ActionDeep}
use Rattle.rmt_vliw.specs.declared.fault.ActionDeep.TheVariants.{At}
use Rattle.rmt_vliw.specs.Folding.{Term, Atom, Joined, Terms, unassigned, in_place, term_of, and_then, terms_of, with_dest, dests_of, leaf_of, two_of, expr_of, value_then, values_of, folded_of, folded_or_fault}
use Rattle.rmt_vliw.specs.Known.{known, known_operand, as_leaf, known_expr, replaced, with_value, known_after, told_values, told_of}

-- a field's value, as its term says
abbrev pub value_at : Terms → ℕ → Value
value_at terms f = record { field = f; expr = expr_of (terms f) }

abbrev pub has : List ℕ → ℕ → Bool
has fields f = list_any (λ g. g == f) fields

-- a field that isn't assigned to is itself
pub record OthersStay (terms : Terms) (fields : List ℕ) : Type 0 where
  pub others : (f : ℕ) → has fields f ≡ false → terms f ≡ Atom (leaf.Field f)

leaf_of_two : (op : Op) (x y : Option Leaf) → as_leaf (two_of op x y) ≡ None
leaf_of_two op None y = refl
leaf_of_two op (Some x) None = refl
leaf_of_two op (Some x) (Some y) = refl

as_leaf-expr_of : (t : Term) → as_leaf (expr_of t) ≡ leaf_of t
as_leaf-expr_of (Atom x) = refl
as_leaf-expr_of (Joined op s t) = leaf_of_two op (leaf_of s) (leaf_of t)

known-values : (terms : Terms) (f : ℕ) (fields : List ℕ) → (has fields f ≡ false → terms f ≡ Atom (leaf.Field f)) → known (map (value_at terms) fields) f ≡ expr_of (terms f)
known-values terms f [] other = sym (ap expr_of (other refl))
known-values terms f (g ∷ gs) other =
    let rest = known (map (value_at terms) gs) f in
    ⊎_elim
    (λ (same : (g == f) ≡ true). ap (λ (b : Bool). cond b (expr_of (terms g)) rest) same ∙ ap (λ k. expr_of (terms k)) (eqb-true g f same))
    (λ (differ : (g == f) ≡ false).
    ap (λ (b : Bool). cond b (expr_of (terms g)) rest) differ
    ∙ known-values terms f gs (λ none. other (ap (λ (b : Bool). b || has gs f) differ ∙ none)))
    (cases_Bool (g == f))

module _ (terms : Terms) (fields : List ℕ) (stay : OthersStay terms fields) where
  operand-values : (x : Leaf) → known_operand (map (value_at terms) fields) x ≡ expr_of (in_place terms x)
  operand-values (leaf.Field f) = known-values terms f fields (stay.others f)
  operand-values (leaf.Param i) = refl
  operand-values (leaf.Number n) = refl

  leaf-values : (x : Leaf) → as_leaf (known_operand (map (value_at terms) fields) x) ≡ leaf_of (in_place terms x)
  leaf-values x = ap as_leaf (operand-values x) ∙ as_leaf-expr_of (in_place terms x)

  expr-values : (e : Expr) → known_expr (map (value_at terms) fields) e ≡ expr_of (term_of terms e)
  expr-values (One x) = operand-values x
  expr-values (Two op x y) = ap (λ o. two_of op o (as_leaf (known_operand (map (value_at terms) fields) y))) (leaf-values x) ∙ ap (λ o. two_of op (leaf_of (in_place terms x)) o) (leaf-values y)

has-values : (terms : Terms) (d : ℕ) (fields : List ℕ) → list_any (λ (v : Value). v.field == d) (map (value_at terms) fields) ≡ has fields d
has-values terms d [] = refl
has-values terms d (g ∷ gs) = ap (λ (b : Bool). (g == d) || b) (has-values terms d gs)

-- the terms after one assignment more
pub then_same : (terms : Terms) (a : Assign) (f : ℕ) → (f == a.dest) ≡ true → and_then terms a f ≡ term_of terms a.expr
then_same terms a f same = ap (λ (b : Bool). cond b (term_of terms a.expr) (terms f)) same

pub then_other : (terms : Terms) (a : Assign) (f : ℕ) → (f == a.dest) ≡ false → and_then terms a f ≡ terms f
then_other terms a f differ = ap (λ (b : Bool). cond b (term_of terms a.expr) (terms f)) differ

replaced-value : (terms : Terms) (a : Assign) (f : ℕ) → replaced a.dest (expr_of (term_of terms a.expr)) (value_at terms f) ≡ value_at (and_then terms a) f
replaced-value terms a f =
    let new : Value = record { field = a.dest; expr = expr_of (term_of terms a.expr) } in
    ⊎_elim
    (λ (same : (f == a.dest) ≡ true).
    ap (λ (b : Bool). cond b new (value_at terms f)) same
    ∙ ap (λ k. record { field = k; expr = expr_of (term_of terms a.expr) }) (sym (eqb-true f a.dest same))
    ∙ ap (λ t. record { field = f; expr = expr_of t }) (sym (then_same terms a f same)))
    (λ (differ : (f == a.dest) ≡ false).
    ap (λ (b : Bool). cond b new (value_at terms f)) differ
    ∙ ap (λ t. record { field = f; expr = expr_of t }) (sym (then_other terms a f differ)))
    (cases_Bool (f == a.dest))

replaced-values : (terms : Terms) (a : Assign) (fields : List ℕ) → map (replaced a.dest (expr_of (term_of terms a.expr))) (map (value_at terms) fields) ≡ map (value_at (and_then terms a)) fields
replaced-values terms a [] = refl
replaced-values terms a (f ∷ fs) =
    ap (λ v. v ∷ map (replaced a.dest (expr_of (term_of terms a.expr))) (map (value_at terms) fs)) (replaced-value terms a f)
    ∙ ap (λ vs. value_at (and_then terms a) f ∷ vs) (replaced-values terms a fs)

unchanged-values : (terms : Terms) (a : Assign) (fields : List ℕ) → has fields a.dest ≡ false → map (value_at terms) fields ≡ map (value_at (and_then terms a)) fields
unchanged-values terms a [] none = refl
unchanged-values terms a (f ∷ fs) none =
    let parts = or_parts (f == a.dest) (has fs a.dest) none in
    ap (λ t. record { field = f; expr = expr_of t } ∷ map (value_at terms) fs) (sym (then_other terms a f parts.0))
    ∙ ap (λ vs. value_at (and_then terms a) f ∷ vs) (unchanged-values terms a fs parts.1)

eq-refl : (n : ℕ) → (n == n) ≡ true
eq-refl n = eq-eqb n n refl

-- one assignment more
known_step : (terms : Terms) (fields : List ℕ) (a : Assign) → OthersStay terms fields → known_after (map (value_at terms) fields) a ≡ map (value_at (and_then terms a)) (with_dest fields a)
known_step terms fields a stay =
    let vs = map (value_at terms) fields in
    let e = expr_of (term_of terms a.expr) in
    let known_is : known_after vs a ≡ with_value vs a.dest e = ap (λ x. with_value vs a.dest x) (expr-values terms fields stay a.expr) in
    let test : list_any (λ (v : Value). v.field == a.dest) vs ≡ has fields a.dest = has-values terms a.dest fields in
    let new : Value = record { field = a.dest; expr = e } in
    known_is ∙ ⊎_elim
    (λ (there : has fields a.dest ≡ true).
    ap (λ (b : Bool). cond b (map (replaced a.dest e) vs) (vs ++ new ∷ [])) (test ∙ there)
    ∙ replaced-values terms a fields
    ∙ ap (λ (b : Bool). map (value_at (and_then terms a)) (cond b fields (fields ++ a.dest ∷ []))) (sym there))
    (λ (none : has fields a.dest ≡ false).
    ap (λ (b : Bool). cond b (map (replaced a.dest e) vs) (vs ++ new ∷ [])) (test ∙ none)
    ∙ ap (λ ws. ws ++ new ∷ []) (unchanged-values terms a fields none)
    ∙ ap (λ t. map (value_at (and_then terms a)) fields ++ record { field = a.dest; expr = expr_of t } ∷ []) (sym (then_same terms a a.dest (eq-refl a.dest)))
    ∙ sym (map_push (value_at (and_then terms a)) fields a.dest)
    ∙ ap (λ (b : Bool). map (value_at (and_then terms a)) (cond b fields (fields ++ a.dest ∷ []))) (sym none))
    (cases_Bool (has fields a.dest))

-- a field that is not among those after one more is neither the new one nor among those before
without_dest : (fields : List ℕ) (a : Assign) (f : ℕ) → has (with_dest fields a) f ≡ false → (has fields f ≡ false) × ((f == a.dest) ≡ false)
without_dest fields a f none =
    ⊎_elim
    (λ (there : has fields a.dest ≡ true).
    let here : has fields f ≡ false = ap (λ (b : Bool). has (cond b fields (fields ++ a.dest ∷ [])) f) (sym there) ∙ none in (
      here,
      ⊎_elim
          (λ (same : (f == a.dest) ≡ true). absurd (false≢true (sym here ∙ ap (has fields) (eqb-true f a.dest same) ∙ there)))
          (λ (differ : (f == a.dest) ≡ false). differ)
          (cases_Bool (f == a.dest)),
    ))
    (λ (absent : has fields a.dest ≡ false).
    let grown : has (fields ++ a.dest ∷ []) f ≡ false = ap (λ (b : Bool). has (cond b fields (fields ++ a.dest ∷ [])) f) (sym absent) ∙ none in
    let both = or_parts (has fields f) (has (a.dest ∷ []) f) (sym (list_any-append (λ g. g == f) fields (a.dest ∷ [])) ∙ grown) in (
      both.0,
      ⊎_elim
          (λ (same : (f == a.dest) ≡ true). absurd (false≢true (sym (or_parts (a.dest == f) false both.1).0 ∙ eq-eqb a.dest f (sym (eqb-true f a.dest same)))))
          (λ (differ : (f == a.dest) ≡ false). differ)
          (cases_Bool (f == a.dest)),
    ))
    (cases_Bool (has fields a.dest))

pub others_step : (terms : Terms) (fields : List ℕ) (a : Assign) → OthersStay terms fields → OthersStay (and_then terms a) (with_dest fields a)
others_step terms fields a stay = record {
  others = λ f none. let both = without_dest fields a f none in then_other terms a f both.1 ∙ stay.others f both.0;
}

known_all : (assigns : List Assign) (terms : Terms) (fields : List ℕ) → OthersStay terms fields → fold known_after (map (value_at terms) fields) assigns ≡ map (value_at (fold and_then terms assigns)) (fold with_dest fields assigns)
known_all [] terms fields stay = refl
known_all (a ∷ assigns) terms fields stay =
    ap (λ vs. fold known_after vs assigns) (known_step terms fields a stay)
    ∙ known_all assigns (and_then terms a) (with_dest fields a) (others_step terms fields a stay)

pub others_all : (assigns : List Assign) (terms : Terms) (fields : List ℕ) → OthersStay terms fields → OthersStay (fold and_then terms assigns) (fold with_dest fields assigns)
others_all [] terms fields stay = stay
others_all (a ∷ assigns) terms fields stay = others_all assigns (and_then terms a) (with_dest fields a) (others_step terms fields a stay)

pub none_assigned : OthersStay unassigned []
none_assigned = record { others = λ f none. refl }

told-values : (terms : Terms) (fields : List ℕ) → told_values (map (value_at terms) fields) ≡ values_of terms fields
told-values terms [] = refl
told-values terms (f ∷ fs) = ap (value_then f (expr_of (terms f))) (told-values terms fs)

-- what is known after all assignments is what their terms say
pub told-known : (assigns : List Assign) → told_values (fold known_after [] assigns) ≡ values_of (terms_of assigns) (dests_of assigns)
told-known assigns = ap told_values (known_all assigns unassigned [] none_assigned) ∙ told-values (terms_of assigns) (dests_of assigns)

-- ---- steps of the code

module _ (f : ℕ) (e : Option Expr) where
  replaced_more : (xs vs : List Value) (i : ℕ) (d : Value) → i < length xs → vs ≡ map (replaced f e) (take i xs) ++ drop i xs
      → set vs i (replaced f e (get_or vs i d)) ≡ map (replaced f e) (take (i + 1) xs) ++ drop (i + 1) xs
  replaced_more xs vs i d lt is =
      let front = map (replaced f e) (take i xs) in
      let x = get_or xs i d in
      let rest = drop (i + 1) xs in
      let long : length front ≡ i = length-map (take i xs) (replaced f e) ∙ length-take-le i xs (omega (arith, lt)) in
      let split : vs ≡ front ++ x ∷ rest = is ∙ ap (λ ys. front ++ ys) (drop_more xs i d lt) in
      let item : get_or vs i d ≡ x = ap (λ ys. get_or ys i d) split ∙ get_or_at front x rest d i long in
      ap (λ y. set vs i (replaced f e y)) item
      ∙ ap (λ ys. set ys i (replaced f e x)) split
      ∙ set_at front x rest (replaced f e x) i long
      ∙ sym (append_assoc front (replaced f e x ∷ []) rest)
      ∙ ap (λ ys. ys ++ rest) (sym (map_more (replaced f e) xs i d lt))

  pub replaced_here : (xs vs ws : List Value) (i : ℕ) (d : Value) → i < length xs → vs ≡ map (replaced f e) (take i xs) ++ drop i xs → (get_or vs i d).field ≡ f
      → ws ≡ set vs i (record { field = (get_or vs i d).field; expr = e }) → ws ≡ map (replaced f e) (take (i + 1) xs) ++ drop (i + 1) xs
  replaced_here xs vs ws i d lt is same put =
      let v = get_or vs i d in
      let new : replaced f e v ≡ record { field = v.field; expr = e } =
      ap (λ (b : Bool). cond b (record { field = f; expr = e }) v) (eq-eqb v.field f same) ∙ ap (λ n. record { field = n; expr = e }) (sym same) in
      put ∙ ap (set vs i) (sym new) ∙ replaced_more xs vs i d lt is

  pub replaced_not : (xs vs ws : List Value) (i : ℕ) (d : Value) → i < length xs → vs ≡ map (replaced f e) (take i xs) ++ drop i xs → ((get_or vs i d).field ≡ f → ⊥)
      → ws ≡ set vs i (get_or vs i d) → ws ≡ map (replaced f e) (take (i + 1) xs) ++ drop (i + 1) xs
  replaced_not xs vs ws i d lt is other stays =
      let v = get_or vs i d in
      let old : replaced f e v ≡ v = ap (λ (b : Bool). cond b (record { field = f; expr = e }) v) (ne_eqb v.field f other) in
      stays ∙ ap (set vs i) (sym old) ∙ replaced_more xs vs i d lt is

told_err : (action : ℕ) (params : List ℕ) (r : Result (List Assign) ℕ) (x : ActionDeep) → told_of action r ≡ Err x
    → folded_or_fault action (map_ok {B = Folded} (λ values. record { params = params; values = values }) r) ≡ Err x
told_err action params (Ok values) x is = absurd cc
told_err action params (Err f) x is = let same : At action f ≡ x = cc in ap Err same

told_ok : (action : ℕ) (params : List ℕ) (r : Result (List Assign) ℕ) (values : List Assign) → told_of action r ≡ Ok values
    → map_ok {B = Folded} (λ vs. record { params = params; values = vs }) r ≡ Ok (record { params = params; values = values })
told_ok action params (Err f) values is = absurd cc
told_ok action params (Ok vs) values is = let same : vs ≡ values = cc in ap (λ (ws : List Assign). Ok (record { params = params; values = ws })) same

-- what the code tells of an action is its folding
pub folded_err : (action : ℕ) (a : Action) (x : ActionDeep) → told_of action (told_values (fold known_after [] a.assigns)) ≡ Err x → folded_or_fault action (folded_of a) ≡ Err x
folded_err action a x is = told_err action a.params (values_of (terms_of a.assigns) (dests_of a.assigns)) x (ap (told_of action) (sym (told-known a.assigns)) ∙ is)

pub folded_ok : (action : ℕ) (a : Action) (values : List Assign) → told_of action (told_values (fold known_after [] a.assigns)) ≡ Ok values
    → folded_of a ≡ Ok (record { params = a.params; values = values })
folded_ok action a values is = told_ok action a.params (values_of (terms_of a.assigns) (dests_of a.assigns)) values (ap (told_of action) (sym (told-known a.assigns)) ∙ is)
