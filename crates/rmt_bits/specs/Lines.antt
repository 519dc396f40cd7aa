-- The lines of a text, and the words of a line.
use Rattle.std.specs.Prelude.{ℕ, Bool, List, ◌==◌, ◌||◌, not, length, slice_index}
use Rattle.std.specs.List.{enumerate_from, filter, list_all, slice_split}

-- a text cut at its line feeds
abbrev pub lines : List ℕ → List (List ℕ)
lines text = slice_split (λ b. b == 10) text

-- spaces alone, or a comment
abbrev pub is_passed_over : List ℕ → Bool
is_passed_over line = list_all (λ b. b == 32) line || slice_index line 0 == 35

-- the lines of a text that are not passed over, each behind its number; the text's first line has the number `first`
abbrev pub numbered_lines : ℕ → List ℕ → List (ℕ × List ℕ)
numbered_lines first text = filter (λ l. not (is_passed_over l.1)) (enumerate_from first (lines text))

-- what stands between spaces
abbrev pub words : List ℕ → List (List ℕ)
words line = filter (λ word. not (length word == 0)) (slice_split (λ b. b == 32) line)
