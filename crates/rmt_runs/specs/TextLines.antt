-- The lines of a packet text of which so many bytes may be read, and how far a run took them.
use Rattle.std.specs.Prelude.{◌≡◌, ◌≢◌, ◌≤◌, ◌<◌, ℕ, List, [], ◌∷◌, ◌++◌, Option, None, Some, IsTrue, if◌then◌else◌, length, map, nat_lt, take}
use Rattle.rmt_bits.specs.Lines.{numbered_lines}
use Rattle.rmt_io.specs.Outside.{ShelfState}
use Rattle.rmt_packets.specs.Pieces.{ended_lines, front_of}
use Rattle.rmt_runs.specs.declared.fault.Bad.{Bad}
use Rattle.rmt_runs.specs.declared.fault.RunFault.{RunFault}
use Rattle.rmt_runs.specs.declared.fault.RunFault.TheVariants.{TooLong, Write}

-- the packet lines that may be read: all of a text, or those that end within the limit
abbrev pub lines_within : ℕ → List ℕ → List (ℕ × List ℕ)
lines_within limit text = if nat_lt limit (length text) then ended_lines (take limit text) else numbered_lines 1 text

-- lines by their fronts, as a reader gives them
abbrev pub fronts_of : List (ℕ × List ℕ) → List (ℕ × List ℕ)
fronts_of lines = map (λ (l : ℕ × List ℕ). (l.0, front_of l.1)) lines

-- these lines were read, by their fronts
pub record WereRead (limit : ℕ) (text : List ℕ) (lines : List (ℕ × List ℕ)) : Type 0 where
  pub gave : List (ℕ × List ℕ)
  pub more : List (ℕ × List ℕ)
  pub fronts : fronts_of gave ≡ lines
  pub first : lines_within limit text ≡ gave ++ more

-- all that may be read were, of a text that is not too long, or of one that is
pub record ReadWhole (limit : ℕ) (text : List ℕ) (lines : List (ℕ × List ℕ)) : Type 0 where
  pub fronts : fronts_of (lines_within limit text) ≡ lines
  pub whole : length text ≤ limit

pub record ReadPast (limit : ℕ) (text : List ℕ) (lines : List (ℕ × List ℕ)) : Type 0 where
  pub fronts : fronts_of (lines_within limit text) ≡ lines
  pub long : limit < length text

-- ---- how a run over the open file of a shelf ends; which lines were read is known where the shelf tells its files

-- it took all lines
pub record TakesAll (shelf : ShelfState) (limit : ℕ) (Stands : List (ℕ × List ℕ) → Type 0) : Type 0 where
  pub lines : List (ℕ × List ℕ)
  pub stands : Stands lines
  pub read : IsTrue shelf.tells → ReadWhole limit shelf.rest lines

-- it stopped at a bad line
pub record StopsAt (shelf : ShelfState) (limit number : ℕ) (Stops : List (ℕ × List ℕ) → ℕ × List ℕ → Type 0) : Type 0 where
  pub lines : List (ℕ × List ℕ)
  pub text : List ℕ
  pub stops : Stops lines (number, text)
  pub read : IsTrue shelf.tells → WereRead limit shelf.rest (lines ++ (number, text) ∷ [])

-- with a bad line or without one
abbrev pub EndsBy : ShelfState → ℕ → (List (ℕ × List ℕ) → Type 0) → (List (ℕ × List ℕ) → ℕ × List ℕ → ℕ → Type 0) → Option Bad → Type 0
EndsBy shelf limit Stands Stops None = TakesAll shelf limit Stands
EndsBy shelf limit Stands Stops (Some bad) = StopsAt shelf limit bad.line (λ lines line. Stops lines line bad.code)

-- it broke off between two lines, or at one
pub data BreaksOff (shelf : ShelfState) (limit : ℕ) (Stands : List (ℕ × List ℕ) → Type 0) (Breaks : List (ℕ × List ℕ) → ℕ × List ℕ → Type 0) (f : RunFault) : Type 0 where
  between : (lines : List (ℕ × List ℕ)) → Stands lines → f ≢ Write → (IsTrue shelf.tells → WereRead limit shelf.rest lines × (f ≡ TooLong → ReadPast limit shelf.rest lines))
      → BreaksOff shelf limit Stands Breaks f
  amid : (lines : List (ℕ × List ℕ)) (line : ℕ × List ℕ) → Breaks lines line → f ≢ TooLong → (IsTrue shelf.tells → WereRead limit shelf.rest lines × WereRead limit shelf.rest (lines ++ line ∷ []))
      → BreaksOff shelf limit Stands Breaks f
