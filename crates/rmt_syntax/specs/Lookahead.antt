-- Which form of a phrase stands at a token. It serves the code and its proofs: but for `same`, no public clause speaks of it.
use Rattle.std.specs.Prelude.{◌≡◌, ℕ, zero, suc, ◌+◌, List, [], ◌∷◌, Bool, true, false, ◌++◌, ◌||◌, if◌then◌else◌, Option}
use Rattle.std.specs.List.{list_any, find, flat_map}
use denote.Enum.Bare.{sameb}
use Rattle.rmt_syntax.specs.contracts.terminal.Terminal.{the_type}
use Rattle.rmt_syntax.specs.declared.grammar.Phrase.TheVariants as phrases
use Rattle.rmt_syntax.specs.Grammar.{Terminal, Rule, One, Node, Phrase, Whole, Done, Form, choices}
use Rattle.rmt_syntax.specs.Grammar.rule
use Rattle.rmt_syntax.specs.Grammar.terminal
use Rattle.rmt_syntax.specs.Trees.{Goal, part, phrase, shut}

-- whether two terminals are the same
abbrev pub same : Terminal → Terminal → Bool
same a b = sameb the_type a b

abbrev pub member : Terminal → List Terminal → Bool
member t ts = list_any (λ c. same c t) ts

-- the terminals that the forms of a phrase may begin with, where its first node is within so many others
abbrev pub firsts : ℕ → Phrase → List Terminal
firsts zero x = []
firsts (suc n) x = flat_map (λ (f : Form). elim f.0 [ [] ↦ [] | p ∷ ps ↦ elim p [ One c ↦ c ∷ [] | Node r ↦ firsts n (Whole r) ] ]) (choices x)

-- the terminals that the text of a rule may begin with
abbrev pub first_of : Rule → List Terminal
first_of r = firsts 3 (Whole r)

-- a form may begin with a terminal; one without parts may always stand
abbrev pub may_begin : Form → Terminal → Bool
may_begin ([], next) t = true
may_begin (One c ∷ ps, next) t = same c t
may_begin (Node r ∷ ps, next) t = member t (first_of r)

-- a name as an operand, which a dot makes the beginning of a field
abbrev pub is_operand_name : Phrase → Terminal → Bool
is_operand_name (Whole rule.Leaf) t = same terminal.Name t
is_operand_name _ t = false

-- the form of a phrase at a terminal
abbrev pub choice_of : Phrase → Terminal → Option Form
choice_of x t = find (λ form. may_begin form t) (choices x)

-- the terminals that a form may begin with
abbrev pub first_form : Form → List Terminal
first_form ([], next) = []
first_form (One c ∷ ps, next) = c ∷ []
first_form (Node r ∷ ps, next) = first_of r

abbrev pub first_phrase : Phrase → List Terminal
first_phrase x = flat_map first_form (choices x)

abbrev pub is_empty : Form → Bool
is_empty ([], next) = true
is_empty (p ∷ ps, next) = false

abbrev pub is_done : Phrase → Bool
is_done Done = true
is_done _ = false

-- nothing more has to come of a phrase
abbrev pub may_end : Phrase → Bool
may_end x = is_done x || list_any is_empty (choices x)

-- the terminals that may come next
abbrev pub front : List Goal → List Terminal
front [] = []
front (part (One c) ∷ gs) = c ∷ []
front (part (Node r) ∷ gs) = first_of r
front (phrase x ∷ gs) = first_phrase x ++ (if may_end x then front gs else [])
front (shut r ∷ gs) = front gs

-- what would go on with a phrase, and so must not come behind it
abbrev pub tails : Phrase → List Terminal
tails (Whole rule.Value) = terminal.Ampersand ∷ []
tails phrases.Mask = terminal.Ampersand ∷ []
tails (Whole rule.Expr) = terminal.Plus ∷ terminal.Minus ∷ terminal.Ampersand ∷ terminal.Bar ∷ terminal.Caret ∷ terminal.Dot ∷ []
tails phrases.Operation = terminal.Plus ∷ terminal.Minus ∷ terminal.Ampersand ∷ terminal.Bar ∷ terminal.Caret ∷ terminal.Dot ∷ []
tails (Whole rule.Leaf) = terminal.Dot ∷ []
tails (Whole rule.Key) = terminal.Counted ∷ []
tails phrases.KeyFields = terminal.Counted ∷ []
tails phrases.KeyActions = terminal.Counted ∷ []
tails phrases.Counted = terminal.Counted ∷ []
tails (Whole rule.Stmt) = terminal.Else ∷ []
tails phrases.Condition = terminal.Else ∷ []
tails phrases.Otherwise = terminal.Else ∷ []
tails _ = []

-- no terminal is in both
abbrev pub Apart : List Terminal → List Terminal → Type 0
Apart a b = (t : Terminal) → member t a ≡ true → member t b ≡ false

-- The end comes last, no text is within another, and nothing goes on with a phrase that comes behind it.
abbrev pub Orderly : List Goal → Type 0
Orderly [] = Unit {0}
Orderly (part (One c) ∷ gs) = (c ≡ terminal.End → gs ≡ phrase Done ∷ shut rule.Program ∷ []) × Orderly gs
Orderly (part (Node r) ∷ gs) = (r ≡ rule.Program → ⊥) × Apart (tails (Whole r)) (front gs) × Orderly gs
Orderly (phrase x ∷ gs) = (x ≡ Whole rule.Program → gs ≡ shut rule.Program ∷ []) × Apart (tails x) (front gs) × Orderly gs
Orderly (shut r ∷ gs) = Orderly gs

-- a bound on how many nodes begin in a phrase before its first token
abbrev pub height : Phrase → ℕ
height (Whole rule.Program) = 2
height (Whole rule.Next) = 2
height phrases.Cases = 4
height (Whole rule.Case) = 2
height phrases.Params = 2
height phrases.Assignments = 2
height (Whole rule.Expr) = 4
height (Whole rule.Leaf) = 2
height phrases.TableKey = 2
height phrases.Statements = 2
height phrases.Arms = 2
height _ = 0

-- a bound on the steps before the next token
abbrev pub weight : List Goal → ℕ
weight [] = 0
weight (part (One c) ∷ gs) = 0
weight (part (Node r) ∷ gs) = 2 + height (Whole r)
weight (phrase x ∷ gs) = 1 + (if may_end x then (if is_done x then 0 else 1) + weight gs else height x)
weight (shut r ∷ gs) = 1 + weight gs
