-- Each step of a run leaves a state: numbers that fit their fields.
use Rattle.std.proofs.Common.{◌≡◌, ◌≢◌, ℕ, zero, suc, ◌+◌, ◌-◌, ◌^◌, ◌<◌, ◌≤◌, List, [], ◌∷◌, length, Some, sym, ap, ◌∙◌, subst, ⊎_elim, arith}
use Rattle.std.specs.Prelude.{All, bit_and, slice_get, slice_index, slice_set, replicate, unwrap_or}
use Rattle.std.specs.List.{AllZip}
use Rattle.std.proofs.lemmas.List.{length-set, length-replicate, get_or-set_same, get_or-set_other, get_or-replicate}
use Rattle.std.proofs.lemmas.List.Elements.{All-head, All-tail}
use Rattle.std.proofs.lemmas.Bool.{cases_eq}
use Rattle.std.proofs.lemmas.Nat.{and_le_l, or_lt, xor_lt, mod_below, pow_pos}
use Rattle.std.proofs.lemmas.Option.{none-some}
use Rattle.rmt_ast.specs.Types.{Program, Assign, Expr, Leaf, Op}
use Rattle.rmt_ast.specs.declared.program.Expr.TheVariants.{One, Two}
use Rattle.rmt_ast.specs.declared.program.Leaf.TheVariants as leaf
use Rattle.rmt_ast.specs.declared.program.Op.TheVariants.{Add, Sub, And, Or, Xor}
use Rattle.rmt_ast.specs.State.{IsState, width_of, start, set_fields}
use Rattle.rmt_ast.specs.Actions.{operand, applied, value_of, assigned, acted}
use Rattle.rmt_ast.specs.WellFormed.{Fits, IsLeaf, IsExpr, IsAssign, HasFields}

-- a state with one field set to a number that fits it
pub set_keeps : (p : Program) (s : List ℕ) (f x : ℕ) → IsState p s → x < 2 ^ width_of p f → IsState p (slice_set s f x)
set_keeps p s f x h below = record {
  one_each = length-set s f x ∙ h.one_each;
  fits = λ g within. ⊎_elim
      (λ (same : g ≡ f). subst (λ i. slice_index (slice_set s f x) i < 2 ^ width_of p i) (sym same)
      (subst (λ y. y < 2 ^ width_of p f) (sym (get_or-set_same s f x 0 (subst (λ i. i < length s) same (subst (λ n. g < n) (sym h.one_each) within)))) below))
      (λ (other : g ≢ f). subst (λ y. y < 2 ^ width_of p g) (sym (get_or-set_other s f g x 0 other)) (h.fits g within))
      (cases_eq g f);
}

pub start_is_state : (p : Program) (port : ℕ) → HasFields p → port < 512 → IsState p (start p port)
start_is_state p port fields below =
    set_keeps p (replicate (length p.fields) 0) 0 port
    (record {
      one_each = length-replicate (length p.fields) 0;
      fits = λ f within. subst (λ y. y < 2 ^ width_of p f) (sym (get_or-replicate (length p.fields) f 0 0 within)) (pow_pos (width_of p f));
    })
    (subst (λ w. port < 2 ^ w) (sym fields.in_port) below)

-- an argument that fits its parameter
pub argument_fits : (params args : List ℕ) (i width : ℕ) → AllZip Fits params args → slice_get params i ≡ Some width → slice_index args i < 2 ^ width
argument_fits [] args i width h e = absurd (none-some width e)
argument_fits (w ∷ params) [] i width h e = absurd h
argument_fits (w ∷ params) (x ∷ args) zero width h e = subst (λ v. x < 2 ^ v) (ap (λ o. unwrap_or o w) e) h.0
argument_fits (w ∷ params) (x ∷ args) (suc i) width h e = argument_fits params args i width h.1 e

module _ (p : Program) (params args s : List ℕ) (taken : AllZip Fits params args) (state : IsState p s) where
  operand_fits : (width : ℕ) (x : Leaf) → IsLeaf p params width x → operand s args x < 2 ^ width
  operand_fits width (leaf.Field f) h = subst (λ w. slice_index s f < 2 ^ w) h.1 (state.fits f h.0)
  operand_fits width (leaf.Param i) h = argument_fits params args i width taken h
  operand_fits width (leaf.Number n) h = h

applied_fits : (op : Op) (width a b : ℕ) → a < 2 ^ width → b < 2 ^ width → applied op width a b < 2 ^ width
applied_fits Add width a b ha hb = mod_below (a + b) (2 ^ width) (pow_pos width)
applied_fits Sub width a b ha hb = mod_below (a + 2 ^ width - b) (2 ^ width) (pow_pos width)
applied_fits And width a b ha hb = let le : bit_and a b ≤ a = and_le_l a b in omega (arith, le, ha)
applied_fits Or width a b ha hb = or_lt width a b ha hb
applied_fits Xor width a b ha hb = xor_lt width a b ha hb

pub value_fits : (p : Program) (params args s : List ℕ) → AllZip Fits params args → IsState p s → (width : ℕ) (e : Expr) → IsExpr p params width e → value_of width e s args < 2 ^ width
value_fits p params args s taken state width (One x) h = operand_fits p params args s taken state width x h
value_fits p params args s taken state width (Two op x y) h =
    applied_fits op width _ _ (operand_fits p params args s taken state width x h.1) (operand_fits p params args s taken state width y h.2)

-- an action with arguments that fit leaves a state
pub acted_keeps : (p : Program) (params args : List ℕ) → AllZip Fits params args → (assigns : List Assign) → All (IsAssign p params) assigns → (s : List ℕ) → IsState p s → IsState p (acted p assigns args s)
acted_keeps p params args taken [] good s state = state
acted_keeps p params args taken (a ∷ assigns) good s state =
    let here : IsAssign p params a = All-head (IsAssign p params) a assigns good in
    acted_keeps p params args taken assigns (All-tail (IsAssign p params) a assigns good) (assigned p args s a)
    (set_keeps p s a.dest _ state (value_fits p params args s taken state (width_of p a.dest) a.expr here.expr))

-- fields that are set from the bits of a number fit
pub set_fields_keeps : (p : Program) (fs : List ℕ) (n : ℕ) (s : List ℕ) → IsState p s → IsState p (set_fields p fs n s)
set_fields_keeps p [] n s state = state
set_fields_keeps p (f ∷ fs) n s state =
    set_fields_keeps p fs n _ (set_keeps p s f _ state (mod_below _ (2 ^ width_of p f) (pow_pos (width_of p f))))
