-- What the reader looks for in the text of each rule, and always finds there: it never reads what stands in place of a missing part.
-- A public law rests on it: a reader has to believe it.
use Rattle.std.specs.Prelude.{List, Option, Some, None, ⊤, IsSome, length, ◌≤◌}
use Rattle.rmt_check.specs.Parts.{Rule, Tree, FieldText}
use Rattle.rmt_syntax.specs.declared.tree.Rule.TheVariants as rule
use Rattle.rmt_check.specs.Reading.{first, name_at, number_at, place_at, token_place, name_behind, number_behind, next_at, target_at, target_text, leaf_at, leaf_text, kind_at, field_at, arm_of, words}
use Rattle.rmt_syntax.specs.declared.terminal.Terminal.TheVariants as terminal

-- an `apply`, which has no field, has the name of a table; an `if` has the number that its field is compared with
abbrev pub IsStatementFound : Option FieldText → List Tree → Type 0
IsStatementFound None ts = IsSome (first name_at ts)
IsStatementFound (Some field) ts = IsSome (first (number_behind terminal.Equal) ts)

-- among the parts of the text of a rule
abbrev pub IsFound : Rule → List Tree → Type 0
IsFound rule.Program ts = IsSome (first (place_at terminal.End) ts)
IsFound rule.Header ts = IsSome (first name_at ts) × IsSome (first next_at ts)
IsFound rule.Next ts = IsSome (first target_at ts)
IsFound rule.Case ts = IsSome (first target_at ts)
IsFound rule.Value ts = IsSome (first number_at ts)
IsFound rule.Target ts = IsSome (target_text ts)
IsFound rule.Meta ts = IsSome (first token_place ts)
IsFound rule.Action ts = IsSome (first name_at ts)
IsFound rule.Param ts = IsSome (first name_at ts) × IsSome (first number_at ts)
IsFound rule.Field ts = 1 ≤ length (words ts)
IsFound rule.Expr ts = IsSome (first leaf_at ts)
IsFound rule.Leaf ts = IsSome (leaf_text ts)
IsFound rule.Table ts = IsSome (first name_at ts) × IsSome (first (name_behind terminal.Default) ts)
IsFound rule.Key ts = IsSome (first kind_at ts) × IsSome (first number_at ts)
IsFound rule.Control ts = ⊤
IsFound rule.Block ts = ⊤
IsFound rule.Stmt ts = IsSome (first token_place ts) × IsStatementFound (first field_at ts) ts
IsFound rule.Arm ts = IsSome (arm_of ts)
