-- What a reader that stands in the middle of a text has read, and what it still has to read. It serves the code and its
-- proofs: no public clause speaks of it.
use Rattle.std.specs.Prelude.{◌≡◌, ℕ, suc, List, [], ◌∷◌, ◌++◌, map, fold, take, length, ◌≤◌}
use Rattle.std.specs.List.{flat_map}
use Rattle.rmt_lexer.specs.declared.token.Token.{Token}
use Rattle.rmt_syntax.specs.declared.reader.Frame.{Frame}
use Rattle.rmt_syntax.specs.declared.reader.Reader.{Reader}
use Rattle.rmt_syntax.specs.Lookahead.{Orderly}
use Rattle.rmt_syntax.specs.Grammar.{Done}
use Rattle.rmt_syntax.specs.Grammar.rule
use Rattle.rmt_syntax.specs.Trees.{Mark, opens, marks, tokens_in, Goal, part, phrase, shut, Reads, IsText, IsNested, depth_of}

-- the marks of the parts that a node has so far
abbrev pub frame_marks : Frame → List Mark
frame_marks f = opens f.rule ∷ flat_map marks f.parts

-- what is to come of it
abbrev pub frame_goals : Frame → List Goal
frame_goals f = map part f.todo.now ++ phrase f.then ∷ shut f.rule ∷ []

abbrev pub outer_goals : List Frame → List Goal
outer_goals fs = fold (λ gs f. frame_goals f ++ gs) [] fs

-- the marks read so far
abbrev pub marks_of : Reader → List Mark
marks_of r = flat_map frame_marks r.outer.items ++ frame_marks r.inner

-- what is still to come
abbrev pub goals_of : Reader → List Goal
goals_of r = frame_goals r.inner ++ outer_goals r.outer.items

-- A reader that stands before a token: what it read, what is to come, and how many blocks are open.
pub record IsBefore (tokens : List Token) (at : ℕ) (goals : List Goal) (seen : List Mark) (depth : ℕ) : Type 0 where
  pub read : tokens_in seen ≡ take at tokens
  -- what comes by the goals makes a text
  pub sound : (ms : List Mark) → Reads goals ms → IsText (seen ++ ms)
  -- each text that begins with the tokens up to that one goes on by the goals
  pub whole : (all : List Mark) (more : List Token) → IsText all → tokens_in all ≡ take (suc at) tokens ++ more → (ms : List Mark) × (all ≡ seen ++ ms) × Reads goals ms
  pub nested : IsNested seen
  pub open_blocks : depth ≡ depth_of seen
  pub orderly : Orderly goals
  pub ended : length tokens ≤ at → goals ≡ phrase Done ∷ shut rule.Program ∷ []

-- the reader stands before the token at the place
abbrev pub Before : List Token → ℕ → Reader → Type 0
Before tokens at r = IsBefore tokens at (goals_of r) (marks_of r) r.depth
