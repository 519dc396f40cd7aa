-- What is read of the words of a line, and which are left.
use Rattle.std.specs.Prelude.{◌≡◌, ℕ, ◌≤◌, List, Option, Some, None, All}
use Rattle.rmt_ast.specs.declared.program.Test.{Test}
use Rattle.rmt_entries.specs.declared.keys.Form.{Form}
use Rattle.rmt_entries.specs.declared.keys.Form.TheVariants.{Value, Pattern}
use Rattle.rmt_entries.specs.Keys.{exact_test, pattern_test}

-- what is read, and the words that are left, are those that are wanted
abbrev pub IsTaken : {X : Type 0} → Option X → List (List ℕ) → Option (X × List (List ℕ)) → Type 0
IsTaken None left wanted = wanted ≡ None
IsTaken (Some x) left wanted = wanted ≡ Some (x, left)

-- the test that a word of a form says
abbrev pub test_of : Form → ℕ → List ℕ → Option Test
test_of Value = exact_test
test_of Pattern = pattern_test

-- no width is above 128
abbrev pub AreNarrow : List ℕ → Type 0
AreNarrow widths = All (λ w. w ≤ 128) widths
