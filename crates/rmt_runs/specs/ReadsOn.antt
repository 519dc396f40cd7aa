-- What a reader of the lines of a packet text in pieces stands for.
use Rattle.std.specs.Prelude.{◌≡◌, ◌≤◌, ◌⊎◌, ℕ, ◌+◌, Bool, false, List, [], ◌∷◌, ◌++◌, length, IsTrue, if◌then◌else◌, Result, IfErr, IfOk, IsErrOf}
use Rattle.rmt_bits.specs.Lines.{numbered_lines}
use Rattle.rmt_io.specs.Outside.{ShelfState, ReadingFailed, OnlyRead}
use Rattle.rmt_packets.specs.Pieces.{LineState, Stands, ended_lines, front_of}
use Rattle.rmt_runs.specs.declared.fault.RunFault.{RunFault}
use Rattle.rmt_runs.specs.declared.fault.RunFault.TheVariants as fault
use Rattle.rmt_runs.specs.Pieces.{PassesLimit}

-- what a reader holds: the reader of its lines, the bytes that the shelf gave and that wait to be taken, how many bytes more may be
-- asked of the shelf, whether the text's end was seen and its last line taken, and how many lines were given
pub record ReaderState : Type 0 where
  pub lines : LineState
  pub waiting : List ℕ
  pub left : ℕ
  pub is_finished : Bool
  pub given : ℕ

-- the packet lines of what was taken: at the end of the text the last one too, whether a line feed ends it or not
abbrev pub lines_taken : Bool → List ℕ → List (ℕ × List ℕ)
lines_taken is_finished taken = if is_finished then numbered_lines 1 taken else ended_lines taken

-- a reader took this front of a text of which so many bytes may be read, and the shelf has yet to give the rest
pub record Took (limit : ℕ) (text : List ℕ) (reader : ReaderState) (rest taken : List ℕ) : Type 0 where
  pub stands : Stands taken reader.lines
  pub whole : text ≡ taken ++ (reader.waiting ++ rest)
  pub within : length taken + (length reader.waiting + reader.left) ≡ limit
  pub finished : IsTrue reader.is_finished → taken ≡ text

-- a reader gave these lines of a text of which so many bytes may be read, and the shelf has yet to give the rest
pub record ReadsLines (limit : ℕ) (text : List ℕ) (gave : List (ℕ × List ℕ)) (reader : ReaderState) (rest : List ℕ) : Type 0 where
  pub taken : List ℕ
  pub took : Took limit text reader rest taken
  pub lines : lines_taken reader.is_finished taken ≡ gave

-- behind these lines a reader holds the next one
pub record AtLine (limit : ℕ) (text : List ℕ) (gave : List (ℕ × List ℕ)) (reader : ReaderState) (rest : List ℕ) : Type 0 where
  pub taken : List ℕ
  pub took : Took limit text reader rest taken
  pub line : List ℕ
  pub lines : lines_taken reader.is_finished taken ≡ gave ++ (reader.lines.number, line) ∷ []
  pub front : reader.lines.front ≡ front_of line

-- a text was taken that has so many packet lines at least
pub record HasLines (count : ℕ) (is_finished : Bool) (lines : LineState) : Type 0 where
  pub text : List ℕ
  pub stands : Stands text lines
  pub enough : count ≤ length (lines_taken is_finished text)

-- what comes next of a text behind the lines that a reader gave, over a shelf that tells its files: a line, which is then ready, or the end; a text that goes
-- on behind the limit ends with TooLong
pub record GivesNext (before after : ShelfState) (old new : ReaderState) (result : Result Bool RunFault) : Type 0 where
  pub line : IfOk result (λ is_line. IsTrue is_line → IsTrue before.tells → (limit : ℕ) (text : List ℕ) (gave : List (ℕ × List ℕ)) → ReadsLines limit text gave old before.rest
      → AtLine limit text gave new after.rest)
  pub end : IfOk result (λ is_line. is_line ≡ false → IsTrue before.tells → (limit : ℕ) (text : List ℕ) (gave : List (ℕ × List ℕ)) → ReadsLines limit text gave old before.rest
      → (length text ≤ limit) × (numbered_lines 1 text ≡ gave))
  pub too_long : IsErrOf result fault.TooLong → IsTrue before.tells → (limit : ℕ) (text : List ℕ) (gave : List (ℕ × List ℕ)) → ReadsLines limit text gave old before.rest
      → PassesLimit limit text gave
  pub ready : IfOk result (λ is_line. IsTrue is_line → IsTrue new.lines.is_ready)

-- how a shelf that was asked can fail: a fault of it is counted, and a steady one has none
pub record AsksShelf (before after : ShelfState) (result : Result Bool RunFault) : Type 0 where
  pub either : IfErr result (λ f. (f ≡ fault.Read) ⊎ (f ≡ fault.TooLong))
  pub failed : IsErrOf result fault.Read → ReadingFailed before after
  pub never_fails : IsErrOf result fault.Read → IsTrue before.steady → ⊥
  pub only_read : OnlyRead before after
