-- Values with arguments in the place of parameters.
use Rattle.std.proofs.Common.{◌≡◌, ℕ, ◌<◌, List, [], ◌∷◌, ◌++◌, get_or, length, map, refl, sym, ap, ◌∙◌, subst, arith}
use Rattle.std.specs.Prelude.{fold, Contains, slice_set}
use Rattle.std.specs.List.{AllZip}
use Rattle.std.proofs.lemmas.List.{length-map, get_or-map}
use Rattle.std.proofs.lemmas.List.Elements.{All-map, All-weaker, Contains-get_or}
use Rattle.rmt_bits.specs.declared.lane.Lane.{Lane}
use Rattle.rmt_vliw.specs.Types.{Program, Assign, Expr, Leaf}
use Rattle.rmt_ast.specs.declared.program.Expr.TheVariants.{One, Two}
use Rattle.rmt_ast.specs.declared.program.Leaf.TheVariants as leaf
use Rattle.rmt_ast.specs.State.{width_of}
use Rattle.rmt_ast.specs.Actions.{operand, applied, value_of}
use Rattle.rmt_ast.specs.Places.{lanes_of}
use Rattle.rmt_ast.specs.WellFormed.{Fits, IsLeaf, IsExpr, AreDistinct}
use Rattle.rmt_phv.specs.Places.{ShareNoWord}
use Rattle.rmt_vliw.specs.Folding.{all_set}
use Rattle.rmt_vliw.specs.Operations.{given_operand, given_expr, given}
use Rattle.rmt_vliw.specs.Effects.{written_lanes}
use Rattle.rmt_vliw.proofs.ValueLaws.{IsValue, AreFolded}
use Rattle.rmt_ast.proofs.StateLaws.{argument_fits}

module _ (p : Program) (params args : List ℕ) (taken : AllZip Fits params args) where
  given_leaf_is : (width : ℕ) (x : Leaf) → IsLeaf p params width x → IsLeaf p [] width (given_operand args x)
  given_leaf_is width (leaf.Field f) h = h
  given_leaf_is width (leaf.Param i) h = argument_fits params args i width taken h
  given_leaf_is width (leaf.Number n) h = h

  given_expr_is : (width : ℕ) (e : Expr) → IsExpr p params width e → IsExpr p [] width (given_expr args e)
  given_expr_is width (One x) h = given_leaf_is width x h
  given_expr_is width (Two op x y) h = (h.0, given_leaf_is width x h.1, given_leaf_is width y h.2)

-- the fields stay
given_dests : (args : List ℕ) (values : List Assign) → map (λ (v : Assign). v.dest) (map (given args) values) ≡ map (λ (v : Assign). v.dest) values
given_dests args [] = refl
given_dests args (v ∷ vs) = ap (λ ds. v.dest ∷ ds) (given_dests args vs)

given_from : (args : List ℕ) (values : List Assign) (w : Assign) → Contains (map (given args) values) w → (v : Assign) × (Contains values v) × (v.dest ≡ w.dest)
given_from args values w (k, lt, is) =
    let long = length-map values (given args) in
    let inside : k < length values = omega (arith, long, lt) in
    let v = get_or values k w in
    (v, Contains-get_or values k w inside, ap (λ (x : Assign). x.dest) (sym (get_or-map (given args) values k w w inside) ∙ is))

pub given_folded : (p : Program) (places : List (List Lane)) (params args : List ℕ) (values : List Assign) → AllZip Fits params args → AreFolded p places params values → AreFolded p places [] (map (given args) values)
given_folded p places params args values taken folded = record {
  each =
      All-map (IsValue p []) (given args) values
      (All-weaker (IsValue p params) (λ (v : Assign). IsValue p [] (given args v))
      (λ v h. record { is_field = h.is_field; expr = given_expr_is p params args taken (width_of p v.dest) v.expr h.expr }) values folded.each);
  once = subst AreDistinct (sym (given_dests args values)) folded.once;
  apart = λ v w in_v in_w differ.
      let one = given_from args values v in_v in
      let two = given_from args values w in_w in
      subst (λ f. ShareNoWord (lanes_of places f) (lanes_of places w.dest)) one.2
      (subst (λ g. ShareNoWord (lanes_of places one.0.dest) (lanes_of places g)) two.2
      (folded.apart one.0 two.0 one.1 two.1 (λ e. differ (sym one.2 ∙ e ∙ two.2))));
}

-- the lanes stay
pub given_lanes : (places : List (List Lane)) (args : List ℕ) (values : List Assign) → written_lanes places (map (given args) values) ≡ written_lanes places values
given_lanes places args [] = refl
given_lanes places args (v ∷ vs) = ap (λ ls. lanes_of places v.dest ++ ls) (given_lanes places args vs)

-- and so does what they are
given-operand : (args s other : List ℕ) (x : Leaf) → operand s other (given_operand args x) ≡ operand s args x
given-operand args s other (leaf.Field f) = refl
given-operand args s other (leaf.Param i) = refl
given-operand args s other (leaf.Number n) = refl

-- whatever other arguments there are, of which a number takes none
given-value : (width : ℕ) (args s : List ℕ) (e : Expr) → value_of width (given_expr args e) s [] ≡ value_of width e s args
given-value width args s (One x) = given-operand args s [] x
given-value width args s (Two op x y) =
    ap (λ n. applied op width n (operand s [] (given_operand args y))) (given-operand args s [] x) ∙ ap (λ n. applied op width (operand s args x) n) (given-operand args s [] y)

given_set : (p : Program) (args s : List ℕ) (values : List Assign) (t : List ℕ)
    → fold (λ t v. slice_set t v.dest (value_of (width_of p v.dest) v.expr s [])) t (map (given args) values) ≡ fold (λ t v. slice_set t v.dest (value_of (width_of p v.dest) v.expr s args)) t values
given_set p args s [] t = refl
given_set p args s (v ∷ vs) t =
    ap (λ n. fold (λ t v. slice_set t v.dest (value_of (width_of p v.dest) v.expr s [])) (slice_set t v.dest n) (map (given args) vs)) (given-value (width_of p v.dest) args s v.expr)
    ∙ given_set p args s vs (slice_set t v.dest (value_of (width_of p v.dest) v.expr s args))

pub given_all_set : (p : Program) (args s : List ℕ) (values : List Assign) → all_set p [] s (map (given args) values) ≡ all_set p args s values
given_all_set p args s values = given_set p args s values s
