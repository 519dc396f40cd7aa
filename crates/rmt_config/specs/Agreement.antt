-- When a parser agrees with the walk of a program's parse graph.
use Rattle.std.specs.Prelude.{◌≡◌, ◌≢◌, ◌<◌, ◌≤◌, ◌⊎◌, ◌*◌, ◌^◌, ℕ, ◌+◌, List, [], ◌∷◌, All, slice_index, slice_index_or, slice_set, length}
use Rattle.std.specs.List.{flat_map}
use Rattle.rmt_bits.specs.Bits.{slice}
use Rattle.rmt_bits.specs.declared.lane.Lane.{Lane}
use Rattle.rmt_ast.specs.declared.program.Program.{Program}
use Rattle.rmt_ast.specs.Places.{lanes_of}
use Rattle.rmt_ast.specs.Walk.{Walk, walk}
use Rattle.rmt_ast.specs.Walk as walks
use Rattle.rmt_config.specs.Types.{ParserConfig}
use Rattle.rmt_config.specs.ChipRun.{tail_bytes}
use Rattle.rmt_config.specs.Parser.{Parse, Short, Reject, Accept, Reached, parse, no_tail}

-- the number that lanes hold together, the first one lowest
abbrev pub held_in : List ℕ → List Lane → ℕ
held_in vector [] = 0
held_in vector (l ∷ ls) = slice (slice_index vector l.word) l.low l.len + 2 ^ l.len * held_in vector ls

-- a bit of a word that no lane has
abbrev pub IsFree : List Lane → ℕ → ℕ → Type 0
IsFree lanes word bit = All (λ (l : Lane). (l.word ≢ word) ⊎ ((bit < l.low) ⊎ (l.low + l.len ≤ bit))) lanes

-- the lanes of each field hold its value, and all other bits are 0
pub record Holds (places : List (List Lane)) (state vector : List ℕ) : Type 0 where
  pub whole : length vector ≡ 224
  pub fields : (f : ℕ) → held_in vector (lanes_of places f) ≡ slice_index state f
  pub others : (word bit : ℕ) → IsFree (flat_map (λ (ls : List Lane). ls) places) word bit → slice (slice_index vector word) bit 1 ≡ 0

-- a parse has come as far as a walk: the fields but in_port, to which the port is put later, the tails, and the byte that was reached
pub record HasReached (places : List (List Lane)) (frame : List ℕ) (parsed : Reached) (walked : walks.Reached) : Type 0 where
  pub at : parsed.at ≡ walked.at
  pub state : Holds places (slice_set walked.state 0 0) parsed.vector
  pub tails : (n : ℕ) → tail_bytes frame (slice_index_or parsed.tails n no_tail) ≡ slice_index_or walked.tails n []

-- a parse ends as a walk does
abbrev pub EndsAs : List (List Lane) → List ℕ → Parse → Walk → Type 0
EndsAs places frame Short w = w ≡ walks.Short
EndsAs places frame Reject w = w ≡ walks.Reject
EndsAs places frame (Accept parsed) w = (walked : walks.Reached) × (w ≡ walks.Accept walked) × HasReached places frame parsed walked

-- a frame's parse ends as its walk does, for every frame and every port
abbrev pub AgreesWith : ParserConfig → List (List Lane) → Program → Type 0
AgreesWith parser places p = (port : ℕ) (frame : List ℕ) → All (λ b. b < 256) frame → EndsAs places frame (parse parser frame) (walk p port frame)
