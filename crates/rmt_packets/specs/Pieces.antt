-- A packet text that comes in pieces: which of its lines are ended so far, and what a reader of its lines holds.
use Rattle.std.specs.Prelude.{◌≡◌, ℕ, Bool, false, List, [], ◌∷◌, ◌++◌, ◌+◌, ◌-◌, ◌==◌, if◌then◌else◌, length, take, IsTrue}
use Rattle.std.specs.List.{after_last, before_last, count_by, list_all}
use Rattle.rmt_bits.specs.Lines.{numbered_lines}

-- how many lines of a text are ended
abbrev pub feeds : List ℕ → ℕ
feeds text = count_by (λ b. b == 10) text

-- the line that is not ended: what stands behind the last line feed
abbrev pub open_line : List ℕ → List ℕ
open_line text = after_last (λ b. b == 10) text

-- the packet lines that are ended, each behind its number
abbrev pub ended_lines : List ℕ → List (ℕ × List ℕ)
ended_lines text = numbered_lines 1 (before_last (λ b. b == 10) text)

-- how many bytes of a line are kept, one more than the longest packet line has
unfoldable pub front_size : ℕ
front_size = 18444

-- the front of a line that is kept
abbrev pub front_of : List ℕ → List ℕ
front_of line = take front_size line

-- what a reader of lines holds: the front of its line, whether that line has spaces alone so far, the line's number, whether its line
-- feed was taken, whether the line may be read, and how many bytes were taken in all
pub record LineState : Type 0 where
  pub front : List ℕ
  pub is_blank : Bool
  pub number : ℕ
  pub is_ended : Bool
  pub is_ready : Bool
  pub taken : ℕ

-- a reader that took this text
pub record Stands (text : List ℕ) (state : LineState) : Type 0 where
  pub taken : state.taken ≡ length text
  pub number : state.number ≡ (if state.is_ended then feeds text else feeds text + 1)
  pub front : state.is_ended ≡ false → state.front ≡ front_of (open_line text)
  pub blank : state.is_ended ≡ false → state.is_blank ≡ list_all (λ b. b == 32) (open_line text)
  pub behind : IsTrue state.is_ended → open_line text ≡ []

-- behind a text these bytes end a packet line, and their last byte does, and the reader holds that line
pub record EndsLine (text bytes : List ℕ) (state : LineState) : Type 0 where
  pub line : List ℕ
  pub ended : ended_lines (text ++ bytes) ≡ ended_lines text ++ (state.number, line) ∷ []
  pub before : ended_lines (text ++ take (length bytes - 1) bytes) ≡ ended_lines text
  pub front : state.front ≡ front_of line

-- the last line of a text is a packet line without a line feed, and the reader holds it
pub record IsLast (text : List ℕ) (state : LineState) : Type 0 where
  pub line : List ℕ
  pub last : numbered_lines 1 text ≡ ended_lines text ++ (state.number, line) ∷ []
  pub front : state.front ≡ front_of line
