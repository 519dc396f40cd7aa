-- The values of a folded action are what the action leaves.
use Rattle.std.proofs.Common.{◌≡◌, ◌≢◌, ℕ, ◌<◌, true, false, List, [], ◌∷◌, Option, Some, None, Ok, Err, get_or, length, map, refl, sym, ap, ◌∙◌, subst, ⊎_elim, arith}
use Rattle.std.specs.Prelude.{◌==◌, fold, All, IsSomeAnd, Result, slice_get, slice_index, slice_set, unwrap_or, option_map}
use Rattle.std.proofs.lemmas.Bool.{eqb-true, eqb-false, ne_eqb, or_from, cases_Bool, cases_eq}
use Rattle.std.proofs.lemmas.List.{length-set, get_or-set_same, get_or-set_other, ext_get_or}
use Rattle.std.proofs.lemmas.List.Elements.{All-nil, All-cons, All-head, All-tail}
use Rattle.rmt_bits.proofs.AllLaws.{All-slice_get}
use Rattle.rmt_bits.proofs.ListLaws.{slice_get-item, slice_get-seen}
use Rattle.rmt_vliw.specs.Types.{Program, Action, Assign, Expr, Leaf, Op}
use Rattle.rmt_ast.specs.declared.program.Expr.TheVariants.{One, Two}
use Rattle.rmt_ast.specs.declared.program.Leaf.TheVariants as leaf
use Rattle.rmt_ast.specs.State.{width_of}
use Rattle.rmt_ast.specs.Actions.{operand, applied, value_of, assigned, acted}
use Rattle.rmt_ast.specs.Control.{act_of}
use Rattle.rmt_ast.specs.WellFormed.{IsProgram, IsAction, IsAssign, IsExpr, IsLeaf, IsOp}
use Rattle.rmt_phv.specs.Packing.{map_ok}
use Rattle.rmt_vliw.specs.declared.folded.Folded.{Folded}
use Rattle.rmt_vliw.specs.Coded.{ActionsFold}
use Rattle.rmt_vliw.specs.Folding.{Term, Atom, Joined, Terms, unassigned, in_place, term_of, and_then, terms_of, dests_of, leaf_of, two_of, expr_of, value_then, values_of, folded_of, AreFoldings, IsFolding, all_set, Means}
use Rattle.rmt_vliw.proofs.FoldLaws.{has, others_all, none_assigned, then_same, then_other}

-- ---- what terms are

-- the value of a term of that many bits
abbrev pub valued : ℕ → Term → List ℕ → List ℕ → ℕ
valued width (Atom x) s args = operand s args x
valued width (Joined op a b) s args = applied op width (valued width a s args) (valued width b s args)

-- a term of that width
abbrev pub IsTerm : Program → List ℕ → ℕ → Term → Type 0
IsTerm p params width (Atom x) = IsLeaf p params width x
IsTerm p params width (Joined op a b) = IsOp width op × IsTerm p params width a × IsTerm p params width b

-- a term that is one operand
atom_of : (t : Term) (x : Leaf) → leaf_of t ≡ Some x → t ≡ Atom x
atom_of (Atom y) x e = let same : y ≡ x = cc in ap Atom same
atom_of (Joined op a b) x e = absurd cc

-- an expression's value is that of its term
valued-two : (width : ℕ) (s args : List ℕ) (op : Op) (a b : Term) (o q : Option Leaf) (e : Expr) → leaf_of a ≡ o → leaf_of b ≡ q → two_of op o q ≡ Some e
    → valued width (Joined op a b) s args ≡ value_of width e s args
valued-two width s args op a b None q e la lb is = absurd cc
valued-two width s args op a b (Some x) None e la lb is = absurd cc
valued-two width s args op a b (Some x) (Some y) e la lb is =
    let one = atom_of a x la in
    let two = atom_of b y lb in
    let same : Two op x y ≡ e = cc in
    ap (λ t. applied op width (valued width t s args) (valued width b s args)) one
    ∙ ap (λ t. applied op width (operand s args x) (valued width t s args)) two
    ∙ ap (λ f. value_of width f s args) same

pub valued-expr_of : (width : ℕ) (s args : List ℕ) (t : Term) (e : Expr) → expr_of t ≡ Some e → valued width t s args ≡ value_of width e s args
valued-expr_of width s args (Atom x) e is = let same : One x ≡ e = cc in ap (λ f. value_of width f s args) same
valued-expr_of width s args (Joined op a b) e is = valued-two width s args op a b (leaf_of a) (leaf_of b) e refl refl is

is_two : (p : Program) (params : List ℕ) (width : ℕ) (op : Op) (a b : Term) (o q : Option Leaf) (e : Expr) → leaf_of a ≡ o → leaf_of b ≡ q → two_of op o q ≡ Some e
    → IsTerm p params width (Joined op a b) → IsExpr p params width e
is_two p params width op a b None q e la lb is h = absurd cc
is_two p params width op a b (Some x) None e la lb is h = absurd cc
is_two p params width op a b (Some x) (Some y) e la lb is h =
    let same : Two op x y ≡ e = cc in
    subst (IsExpr p params width) same
    (h.0, subst (IsTerm p params width) (atom_of a x la) h.1, subst (IsTerm p params width) (atom_of b y lb) h.2)

pub is_expr : (p : Program) (params : List ℕ) (width : ℕ) (t : Term) (e : Expr) → expr_of t ≡ Some e → IsTerm p params width t → IsExpr p params width e
is_expr p params width (Atom x) e is h = let same : One x ≡ e = cc in subst (IsExpr p params width) same h
is_expr p params width (Joined op a b) e is h = is_two p params width op a b (leaf_of a) (leaf_of b) e refl refl is h

-- ---- assignments, one after another

module _ (p : Program) (params : List ℕ) where
  in_place_is : (terms : Terms) → ((f : ℕ) → f < length p.fields → IsTerm p params (width_of p f) (terms f)) → (width : ℕ) (x : Leaf) → IsLeaf p params width x → IsTerm p params width (in_place terms x)
  in_place_is terms are width (leaf.Field f) h = subst (λ w. IsTerm p params w (terms f)) h.1 (are f h.0)
  in_place_is terms are width (leaf.Param i) h = h
  in_place_is terms are width (leaf.Number n) h = h

  term_is : (terms : Terms) → ((f : ℕ) → f < length p.fields → IsTerm p params (width_of p f) (terms f)) → (width : ℕ) (e : Expr) → IsExpr p params width e → IsTerm p params width (term_of terms e)
  term_is terms are width (One x) h = in_place_is terms are width x h
  term_is terms are width (Two op x y) h = (h.0, in_place_is terms are width x h.1, in_place_is terms are width y h.2)

  pub terms_are : (assigns : List Assign) → All (IsAssign p params) assigns → (terms : Terms) → ((f : ℕ) → f < length p.fields → IsTerm p params (width_of p f) (terms f))
      → (f : ℕ) → f < length p.fields → IsTerm p params (width_of p f) (fold and_then terms assigns f)
  terms_are [] good terms are = are
  terms_are (a ∷ assigns) good terms are =
      let here : IsAssign p params a = All-head (IsAssign p params) a assigns good in
      terms_are assigns (All-tail (IsAssign p params) a assigns good) (and_then terms a)
      (λ f within. ⊎_elim
      (λ (same : (f == a.dest) ≡ true).
      subst (IsTerm p params (width_of p f)) (sym (then_same terms a f same))
      (term_is terms are (width_of p f) a.expr (subst (λ g. IsExpr p params (width_of p g) a.expr) (sym (eqb-true f a.dest same)) here.expr)))
      (λ (differ : (f == a.dest) ≡ false). subst (IsTerm p params (width_of p f)) (sym (then_other terms a f differ)) (are f within))
      (cases_Bool (f == a.dest)))

  -- the state after some assignments has the values of the terms
  module _ (s args : List ℕ) where
    operand-in_place : (terms : Terms) (t : List ℕ) → ((f : ℕ) → f < length p.fields → slice_index t f ≡ valued (width_of p f) (terms f) s args)
        → (width : ℕ) (x : Leaf) → IsLeaf p params width x → operand t args x ≡ valued width (in_place terms x) s args
    operand-in_place terms t tracks width (leaf.Field f) h = tracks f h.0 ∙ ap (λ w. valued w (terms f) s args) h.1
    operand-in_place terms t tracks width (leaf.Param i) h = refl
    operand-in_place terms t tracks width (leaf.Number n) h = refl

    value-term_of : (terms : Terms) (t : List ℕ) → ((f : ℕ) → f < length p.fields → slice_index t f ≡ valued (width_of p f) (terms f) s args)
        → (width : ℕ) (e : Expr) → IsExpr p params width e → value_of width e t args ≡ valued width (term_of terms e) s args
    value-term_of terms t tracks width (One x) h = operand-in_place terms t tracks width x h
    value-term_of terms t tracks width (Two op x y) h =
        ap (λ n. applied op width n (operand t args y)) (operand-in_place terms t tracks width x h.1)
        ∙ ap (λ n. applied op width (valued width (in_place terms x) s args) n) (operand-in_place terms t tracks width y h.2)

    acted-long : (assigns : List Assign) (t : List ℕ) → length (acted p assigns args t) ≡ length t
    acted-long [] t = refl
    acted-long (a ∷ assigns) t = acted-long assigns (assigned p args t a) ∙ length-set t a.dest (value_of (width_of p a.dest) a.expr t args)

    acted-values : (assigns : List Assign) → All (IsAssign p params) assigns → (terms : Terms) (t : List ℕ) → length t ≡ length p.fields
        → ((f : ℕ) → f < length p.fields → slice_index t f ≡ valued (width_of p f) (terms f) s args)
        → (f : ℕ) → f < length p.fields → slice_index (acted p assigns args t) f ≡ valued (width_of p f) (fold and_then terms assigns f) s args
    acted-values [] good terms t long tracks = tracks
    acted-values (a ∷ assigns) good terms t long tracks =
        let here : IsAssign p params a = All-head (IsAssign p params) a assigns good in
        let x = value_of (width_of p a.dest) a.expr t args in
        acted-values assigns (All-tail (IsAssign p params) a assigns good) (and_then terms a) (assigned p args t a)
        (length-set t a.dest x ∙ long)
        (λ f within. ⊎_elim
        (λ (same : (f == a.dest) ≡ true).
        let is : f ≡ a.dest = eqb-true f a.dest same in
        let inside : a.dest < length t = omega (arith, here.is_field, long) in
        let stored : slice_index (slice_set t a.dest x) a.dest ≡ x = get_or-set_same t a.dest x 0 inside in
        let value : x ≡ valued (width_of p a.dest) (term_of terms a.expr) s args = value-term_of terms t tracks (width_of p a.dest) a.expr here.expr in
        ap (λ g. slice_index (slice_set t a.dest x) g) is ∙ stored ∙ value
        ∙ ap (λ g. valued (width_of p g) (term_of terms a.expr) s args) (sym is)
        ∙ ap (λ u. valued (width_of p f) u s args) (sym (then_same terms a f same)))
        (λ (differ : (f == a.dest) ≡ false).
        get_or-set_other t a.dest f x 0 (eqb-false f a.dest differ) ∙ tracks f within ∙ ap (λ u. valued (width_of p f) u s args) (sym (then_other terms a f differ)))
        (cases_Bool (f == a.dest)))

-- ---- the values of a folding

-- the value agrees with the term of its field
abbrev pub Agrees : Terms → Assign → Type 0
Agrees terms v = expr_of (terms v.dest) ≡ Some v.expr

-- values for some fields, each as the term of its field says
pub record AreValues (terms : Terms) (fields : List ℕ) (values : List Assign) : Type 0 where
  pub dests : map (λ (v : Assign). v.dest) values ≡ fields
  pub agree : All (Agrees terms) values

ok_then : (terms : Terms) (f : ℕ) (fs : List ℕ) (o : Option Expr) (r : Result (List Assign) ℕ) (values : List Assign) → expr_of (terms f) ≡ o
    → ((rest : List Assign) → r ≡ Ok rest → AreValues terms fs rest) → value_then f o r ≡ Ok values → AreValues terms (f ∷ fs) values
ok_then terms f fs None r values at rest is = absurd cc
ok_then terms f fs (Some e) (Err g) values at rest is = absurd cc
ok_then terms f fs (Some e) (Ok others) values at rest is =
    let v : Assign = record { dest = f; expr = e } in
    let same : v ∷ others ≡ values = cc in
    let behind = rest others refl in
    subst (AreValues terms (f ∷ fs)) same (record {
      dests = ap (λ gs. f ∷ gs) behind.dests;
      agree = All-cons (Agrees terms) v others at behind.agree;
    })

pub are_values : (terms : Terms) (fields : List ℕ) (values : List Assign) → values_of terms fields ≡ Ok values → AreValues terms fields values
are_values terms [] values is =
    let same : [] ≡ values = cc in
    subst (AreValues terms []) same (record { dests = refl; agree = All-nil (Agrees terms) })
are_values terms (f ∷ fs) values is = ok_then terms f fs (expr_of (terms f)) (values_of terms fs) values refl (are_values terms fs) is

-- what an action folds to
folded_values : (params : List ℕ) (r : Result (List Assign) ℕ) (folded : Folded) → map_ok (λ values. record { params = params; values = values }) r ≡ Ok folded
    → (folded.params ≡ params) × (r ≡ Ok folded.values)
folded_values params (Err f) folded is = absurd cc
folded_values params (Ok values) folded is =
    let same : record { params = params; values = values } ≡ folded = cc in
    (sym (ap (λ (x : Folded). x.params) same), ap (λ (x : Folded). Ok x.values) same)

pub folded_is : (a : Action) (folded : Folded) → folded_of a ≡ Ok folded → (folded.params ≡ a.params) × AreValues (terms_of a.assigns) (dests_of a.assigns) folded.values
folded_is a folded is =
    let parts = folded_values a.params (values_of (terms_of a.assigns) (dests_of a.assigns)) folded is in
    (parts.0, are_values (terms_of a.assigns) (dests_of a.assigns) folded.values parts.1)

-- ---- all at once

module _ (p : Program) (s args : List ℕ) (terms : Terms) where
  -- the value that a field gets
  value_for : ℕ → ℕ
  value_for f = valued (width_of p f) (terms f) s args

  all_set-long : (values : List Assign) (t : List ℕ) → length (fold (λ t v. slice_set t v.dest (value_of (width_of p v.dest) v.expr s args)) t values) ≡ length t
  all_set-long [] t = refl
  all_set-long (v ∷ vs) t =
      let x = value_of (width_of p v.dest) v.expr s args in
      all_set-long vs (slice_set t v.dest x) ∙ length-set t v.dest x

  all_set-values : (values : List Assign) → All (Agrees terms) values → (t : List ℕ) → length t ≡ length p.fields
      → ((f : ℕ) → f < length p.fields → has (map (λ (v : Assign). v.dest) values) f ≡ false → slice_index t f ≡ valued (width_of p f) (terms f) s args)
      → (f : ℕ) → f < length p.fields → slice_index (fold (λ t v. slice_set t v.dest (value_of (width_of p v.dest) v.expr s args)) t values) f ≡ valued (width_of p f) (terms f) s args
  all_set-values [] agree t long other = λ f within. other f within refl
  all_set-values (v ∷ vs) agree t long other =
      let here : Agrees terms v = All-head (Agrees terms) v vs agree in
      let x = value_of (width_of p v.dest) v.expr s args in
      all_set-values vs (All-tail (Agrees terms) v vs agree) (slice_set t v.dest x) (length-set t v.dest x ∙ long)
      (λ f within none. ⊎_elim
      (λ (same : v.dest ≡ f).
      let inside : v.dest < length t = omega (arith, within, long, same) in
      ap (λ g. slice_index (slice_set t v.dest x) g) (sym same) ∙ get_or-set_same t v.dest x 0 inside
      ∙ sym (valued-expr_of (width_of p v.dest) s args (terms v.dest) v.expr here)
      ∙ ap (λ g. valued (width_of p g) (terms g) s args) same)
      (λ (differ : v.dest ≢ f).
      get_or-set_other t v.dest f x 0 (λ e. differ (sym e))
      ∙ other f within (or_from (v.dest == f) (has (map (λ (w : Assign). w.dest) vs) f) (ne_eqb v.dest f differ) none))
      (cases_eq v.dest f))

-- what the values leave is what the action leaves, assignment after assignment
pub acted-all_set : (p : Program) (a : Action) (folded : Folded) → IsAction p a → folded_of a ≡ Ok folded → (s args : List ℕ) → length s ≡ length p.fields
    → acted p a.assigns args s ≡ all_set p args s folded.values
acted-all_set p a folded good is s args long =
    let terms = terms_of a.assigns in
    let values : AreValues terms (dests_of a.assigns) folded.values = (folded_is a folded is).1 in
    let stay = others_all a.assigns unassigned [] none_assigned in
    let one : length (acted p a.assigns args s) ≡ length p.fields = acted-long p a.params s args a.assigns s ∙ long in
    let two : length (all_set p args s folded.values) ≡ length p.fields = all_set-long p s args terms folded.values s ∙ long in
    ext_get_or 0 (acted p a.assigns args s) (all_set p args s folded.values) (one ∙ sym two)
    (λ f within.
    let inside : f < length p.fields = omega (arith, within, one) in
    acted-values p a.params s args a.assigns good.assigns unassigned s long (λ g w. refl) f inside
    ∙ sym (all_set-values p s args terms folded.values values.agree s long
    (λ g w none. sym (ap (λ u. valued (width_of p g) u s args) (stay.others g (ap (λ gs. has gs g) (sym values.dests) ∙ none))))
    f inside))

-- the action of a folding
pub folding_action : (p : Program) (n : ℕ) (folded : Folded) (o : Option Action) → slice_get p.actions n ≡ o → IsSomeAnd o (λ (a : Action). folded_of a ≡ Ok folded)
    → (a : Action) × (slice_get p.actions n ≡ Some a) × (folded_of a ≡ Ok folded)
folding_action p n folded None at h = absurd h
folding_action p n folded (Some a) at h = (a, at, h)

pub action_of : (p : Program) (n : ℕ) (folded : Folded) → IsFolding p n folded → (a : Action) × (slice_get p.actions n ≡ Some a) × (folded_of a ≡ Ok folded)
action_of p n folded h = folding_action p n folded (slice_get p.actions n) refl h

-- the folding of an action, by its number
pub folding_at : (p : Program) (all seen : List Folded) → AreFoldings p all → seen ≡ all → (a : ℕ) (folded : Folded) → a < length seen → folded ≡ get_or seen a folded → IsFolding p a folded
folding_at p all seen are same a folded lt is =
    are.each a folded (slice_get-seen all seen a folded same lt is)

-- every action folds where there are foldings
pub actions_fold : (p : Program) (folded : List Folded) → AreFoldings p folded → ActionsFold p
actions_fold p folded are n lt =
    let many = are.all_there in
    let f = slice_get-item folded n (omega (arith, lt, many)) in
    (f.0, are.each n f.0 f.1)

pub act_of-some : (p : Program) (n : ℕ) (a : Action) (args s : List ℕ) → slice_get p.actions n ≡ Some a → act_of p n args s ≡ acted p a.assigns args s
act_of-some p n a args s at = ap (λ (o : Option Action). unwrap_or (option_map (λ (b : Action). acted p b.assigns args s) o) s) at

pub means : (p : Program) (n : ℕ) (folded : Folded) → IsProgram p → IsFolding p n folded → Means p n folded.values
means p n folded good h s args state =
    let found = action_of p n folded h in
    act_of-some p n found.0 args s found.1
    ∙ acted-all_set p found.0 folded (All-slice_get (IsAction p) p.actions n found.0 good.actions found.1) found.2 s args state.one_each
