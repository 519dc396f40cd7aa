-- What a text means: its program, or its one fault.
-- The public contracts rest on it: a reader has to believe it.
use Rattle.std.specs.Prelude.{◌≡◌, ⊤, ℕ, List, None, Some, Result, Ok, Err}
use Rattle.rmt_check.specs.Parts.{Program, Position, ProgramFault, Token, Tree}
use Rattle.rmt_lexer.specs.declared.fault.ProgramFault.TheVariants.{NoMemory, At}
use Rattle.rmt_lexer.specs.Text.{tokens_of}
use Rattle.rmt_syntax.specs.Trees.{IsFault, IsTreeOf}
use Rattle.rmt_check.specs.Reading.{source_of}
use Rattle.rmt_check.specs.Rules.{fault_of}
use Rattle.rmt_check.specs.Meaning.{program_of}

-- a program, or the number of a broken rule and where
abbrev pub Outcome : Type 0
Outcome = Result Program (ℕ × Position)

-- a fault at a line and a column
abbrev pub fault_at : ℕ → ℕ → ℕ → Outcome
fault_at code line column = Err (code, record { line = line; column = column })

-- A text means the fault of its tokens (codes 1 and 2), if it has one; else that of the grammar (3 and 4); else that of the
-- rules of form (5 to 21); else the program of its tree.
pub data Means (text : List ℕ) : Outcome → Type 0 where
  of_tokens : (code line column : ℕ) → tokens_of text ≡ Err (At code line column) → Means text (fault_at code line column)
  of_grammar : (tokens : List Token) (code line column : ℕ) → tokens_of text ≡ Ok tokens → IsFault tokens code line column → Means text (fault_at code line column)
  of_rules : (tokens : List Token) (t : Tree) (fault : ℕ × Position) → tokens_of text ≡ Ok tokens → IsTreeOf tokens t → fault_of (source_of t) ≡ Some fault → Means text (Err fault)
  of_program : (tokens : List Token) (t : Tree) → tokens_of text ≡ Ok tokens → IsTreeOf tokens t → fault_of (source_of t) ≡ None → Means text (Ok (program_of (source_of t)))

-- an answer to a text says what it means, but for want of memory
abbrev pub SaysMeaning : List ℕ → Result Program ProgramFault → Type 0
SaysMeaning text (Ok p) = Means text (Ok p)
SaysMeaning text (Err NoMemory) = ⊤
SaysMeaning text (Err (At code line column)) = Means text (fault_at code line column)
