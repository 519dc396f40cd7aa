-- What an action folds to: one value for each field that it writes, over the fields as they are before it.
use Rattle.std.specs.Prelude.{◌≡◌, ℕ, List, [], ◌∷◌, ◌++◌, Option, Some, None, Result, Ok, Err, IsSomeAnd, fold, if◌then◌else◌, ◌==◌, length, slice_get, slice_set}
use Rattle.std.specs.List.{list_any}
use Rattle.rmt_vliw.specs.Types.{Program, Action, Assign, Expr, Leaf, Op}
use Rattle.rmt_ast.specs.declared.program.Expr.TheVariants.{One, Two}
use Rattle.rmt_ast.specs.declared.program.Leaf.TheVariants as leaf
use Rattle.rmt_ast.specs.State.{IsState, width_of}
use Rattle.rmt_ast.specs.Actions.{value_of}
use Rattle.rmt_ast.specs.Control.{act_of}
use Rattle.rmt_ast.specs.WellFormed.{AllNumbered}
use Rattle.rmt_phv.specs.Packing.{map_ok}
use Rattle.rmt_vliw.specs.declared.folded.Folded.{Folded}
use Rattle.rmt_vliw.specs.declared.fault.ActionDeep.{ActionDeep}
use Rattle.rmt_vliw.specs.declared.fault.ActionDeep.TheVariants.{At}

-- a value over the fields before an action: an operand, or an operator on two values
pub data Term : Type 0 where
  Atom : Leaf → Term
  Joined : Op → Term → Term → Term

-- what each field is after some assignments
abbrev pub Terms : Type 0
Terms = ℕ → Term

-- before the first one each field is itself
abbrev pub unassigned : Terms
unassigned f = Atom (leaf.Field f)

-- an operand, with what a field is by then in the place of the field
abbrev pub in_place : Terms → Leaf → Term
in_place terms (leaf.Field f) = terms f
in_place terms (leaf.Param i) = Atom (leaf.Param i)
in_place terms (leaf.Number n) = Atom (leaf.Number n)

-- the same of an expression
abbrev pub term_of : Terms → Expr → Term
term_of terms (One x) = in_place terms x
term_of terms (Two op x y) = Joined op (in_place terms x) (in_place terms y)

-- one assignment more, which reads what the earlier ones left
abbrev pub and_then : Terms → Assign → Terms
and_then terms a f = if f == a.dest then term_of terms a.expr else terms f

-- what the assignments of an action leave
abbrev pub terms_of : List Assign → Terms
terms_of assigns = fold and_then unassigned assigns

-- the fields that are assigned to, each once, in the order of first assignment
abbrev pub with_dest : List ℕ → Assign → List ℕ
with_dest fields a = if list_any (λ f. f == a.dest) fields then fields else fields ++ a.dest ∷ []

abbrev pub dests_of : List Assign → List ℕ
dests_of assigns = fold with_dest [] assigns

-- a term as one operand, or as one operation on two operands; the chip does no other
abbrev pub leaf_of : Term → Option Leaf
leaf_of (Atom x) = Some x
leaf_of (Joined op s t) = None

abbrev pub two_of : Op → Option Leaf → Option Leaf → Option Expr
two_of op (Some x) (Some y) = Some (Two op x y)
two_of op (Some x) None = None
two_of op None o = None

abbrev pub expr_of : Term → Option Expr
expr_of (Atom x) = Some (One x)
expr_of (Joined op s t) = two_of op (leaf_of s) (leaf_of t)

-- one value more; Err has the first field whose term is deep
abbrev pub value_then : ℕ → Option Expr → Result (List Assign) ℕ → Result (List Assign) ℕ
value_then f None rest = Err f
value_then f (Some e) rest = map_ok (λ values. record { dest = f; expr = e } ∷ values) rest

-- the values of some fields, as these terms
abbrev pub values_of : Terms → List ℕ → Result (List Assign) ℕ
values_of terms [] = Ok []
values_of terms (f ∷ fs) = value_then f (expr_of (terms f)) (values_of terms fs)

-- what an action folds to; Err has the first field, in the order of first assignment, whose value takes more than one operation
abbrev pub folded_of : Action → Result Folded ℕ
folded_of a =
    map_ok (λ values. record { params = a.params; values = values }) (values_of (terms_of a.assigns) (dests_of a.assigns))

-- the same with the action's number
abbrev pub folded_or_fault : ℕ → Result Folded ℕ → Result Folded ActionDeep
folded_or_fault action (Ok folded) = Ok folded
folded_or_fault action (Err field) = Err (At action field)

-- the folding of the action of that number
abbrev pub IsFolding : Program → ℕ → Folded → Type 0
IsFolding p action folded = IsSomeAnd (slice_get p.actions action) (λ (a : Action). folded_of a ≡ Ok folded)

-- what each action folds to, by its number
pub record AreFoldings (p : Program) (folded : List Folded) : Type 0 where
  pub all_there : length folded ≡ length p.actions
  pub each : AllNumbered (IsFolding p) folded

-- a state with some fields set, each to its value over the state as it was
abbrev pub all_set : Program → List ℕ → List ℕ → List Assign → List ℕ
all_set p args s values = fold (λ t v. slice_set t v.dest (value_of (width_of p v.dest) v.expr s args)) s values

-- for every state and all arguments, the values are what the action leaves in the fields that it writes, and no other field changes
abbrev pub Means : Program → ℕ → List Assign → Type 0
Means p action values = (s args : List ℕ) → IsState p s → act_of p action args s ≡ all_set p args s values
