-- What is known of the words while fields are packed.
use Rattle.std.specs.Prelude.{◌≡◌, ℕ, ◌<◌, ◌==◌, List, length, slice_index_or, All, Result, Ok, Err}
use Rattle.std.specs.List.{list_any}
use Rattle.rmt_bits.specs.declared.lane.Lane.{Lane}
use Rattle.rmt_ast.specs.declared.program.Program.{Program}
use Rattle.rmt_phv.specs.declared.words.Word.{Word}
use Rattle.rmt_phv.specs.declared.fault.PhvFull.{PhvFull}
use Rattle.rmt_phv.specs.declared.fault.PhvFull.TheVariants.{At}
use Rattle.rmt_phv.specs.Packing.{Piece, class_of, free_bit, holds}
use Rattle.rmt_phv.specs.Sets.{has}
use Rattle.rmt_phv.specs.Writers.{assigns, IsWriters}

-- of each word is known how far the pieces fill it, and which actions assign a field with a piece there
pub record AreFilled (p : Program) (taken : List Piece) (words : List Word) : Type 0 where
  pub size : length words ≡ 224
  pub used : (w : ℕ) (d : Word) → w < 224 → (slice_index_or words w d).used ≡ free_bit taken w
  pub writers : (w n : ℕ) (d : Word) → w < 224 → has (slice_index_or words w d).writers n ≡ holds (assigns p n) taken w

-- field f is packed beside pieces of earlier fields, and of f itself at its own lanes
pub record Packs (p : Program) (f : ℕ) (taken : List Piece) (own : List Lane) (writers : List ℕ) (words : List Word) : Type 0 where
  pub stands : AreFilled p taken words
  pub writes : IsWriters p f writers
  pub own_lanes : (w : ℕ) → holds (λ g. g == f) taken w ≡ list_any (λ (l : Lane). l.word == w) own

-- field f comes next
pub record IsNext (p : Program) (f : ℕ) (taken : List Piece) (writers : List ℕ) (words : List Word) : Type 0 where
  pub stands : AreFilled p taken words
  pub writes : IsWriters p f writers
  pub earlier : All (λ (x : Piece). x.field < f) taken

-- the lanes of field f, or the fault of its first piece that no word serves
abbrev pub lanes_or_fault : ℕ → Result (List Lane) ℕ → Result (List Lane) PhvFull
lanes_or_fault f (Ok own) = Ok own
lanes_or_fault f (Err piece) = Err (At f (class_of piece))
