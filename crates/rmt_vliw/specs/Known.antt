-- What is known of the fields while an action is folded.
use Rattle.std.specs.Prelude.{ℕ, List, [], ◌∷◌, ◌++◌, Option, Some, None, Result, Ok, Err, if◌then◌else◌, ◌==◌, map}
use Rattle.std.specs.List.{list_any}
use Rattle.rmt_vliw.specs.Types.{Assign, Expr, Leaf}
use Rattle.rmt_ast.specs.declared.program.Expr.TheVariants.{One, Two}
use Rattle.rmt_ast.specs.declared.program.Leaf.TheVariants as leaf
use Rattle.rmt_vliw.specs.declared.value.Value.{Value}
use Rattle.rmt_vliw.specs.declared.fault.ActionDeep.{ActionDeep}
use Rattle.rmt_vliw.specs.declared.fault.ActionDeep.TheVariants.{At}
use Rattle.rmt_vliw.specs.Folding.{two_of, value_then}

-- the value of a field; one without a value is itself
abbrev pub known : List Value → ℕ → Option Expr
known [] f = Some (One (leaf.Field f))
known (v ∷ vs) f = if v.field == f then v.expr else known vs f

abbrev pub known_operand : List Value → Leaf → Option Expr
known_operand vs (leaf.Field f) = known vs f
known_operand vs (leaf.Param i) = Some (One (leaf.Param i))
known_operand vs (leaf.Number n) = Some (One (leaf.Number n))

-- a value that is one operand
abbrev pub as_leaf : Option Expr → Option Leaf
as_leaf None = None
as_leaf (Some (One x)) = Some x
as_leaf (Some (Two op x y)) = None

abbrev pub known_expr : List Value → Expr → Option Expr
known_expr vs (One x) = known_operand vs x
known_expr vs (Two op x y) = two_of op (as_leaf (known_operand vs x)) (as_leaf (known_operand vs y))

-- values with that of one field replaced, or added behind the others
abbrev pub replaced : ℕ → Option Expr → Value → Value
replaced f e v = if v.field == f then record { field = f; expr = e } else v

abbrev pub with_value : List Value → ℕ → Option Expr → List Value
with_value vs f e =
    if list_any (λ (v : Value). v.field == f) vs then map (replaced f e) vs else vs ++ record { field = f; expr = e } ∷ []

-- one assignment more
abbrev pub known_after : List Value → Assign → List Value
known_after vs a = with_value vs a.dest (known_expr vs a.expr)

-- the values as assignments, or the first field whose value takes more than one operation
abbrev pub told_values : List Value → Result (List Assign) ℕ
told_values [] = Ok []
told_values (v ∷ vs) = value_then v.field v.expr (told_values vs)

-- the same with the action's number
abbrev pub told_of : ℕ → Result (List Assign) ℕ → Result (List Assign) ActionDeep
told_of action (Ok values) = Ok values
told_of action (Err field) = Err (At action field)
