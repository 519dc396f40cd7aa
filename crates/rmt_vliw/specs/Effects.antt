-- What an instruction does to words whose lanes hold a state.
use Rattle.std.specs.Prelude.{ℕ, List}
use Rattle.std.specs.List.{AllZip, flat_map}
use Rattle.rmt_bits.specs.declared.lane.Lane.{Lane}
use Rattle.rmt_vliw.specs.Types.{Program, Assign, Operation}
use Rattle.rmt_ast.specs.State.{IsState}
use Rattle.rmt_ast.specs.Places.{lanes_of}
use Rattle.rmt_ast.specs.Control.{act_of}
use Rattle.rmt_ast.specs.WellFormed.{Fits}
use Rattle.rmt_config.specs.Life.{Words}
use Rattle.rmt_vliw.specs.declared.folded.Folded.{Folded}
use Rattle.rmt_config.specs.Effects.{Hold, words_after, HasArguments, ChangesOnly}

-- the lanes of the fields that are written
abbrev pub written_lanes : List (List Lane) → List Assign → List Lane
written_lanes places values = flat_map (λ (v : Assign). lanes_of places v.dest) values

-- With the record that holds its arguments an instruction takes words that hold a state to words that hold what the action leaves.
pub record Does (p : Program) (places : List (List Lane)) (action : ℕ) (folded : Folded) (ops : List Operation) : Type 0 where
  pub acts : (s args : List ℕ) (words : Words) (held : ℕ) → IsState p s → AllZip Fits folded.params args → HasArguments folded.params args held → Hold places words s → Hold places (words_after ops held words) (act_of p action args s)
  pub others : ChangesOnly (written_lanes places folded.values) ops

-- With these arguments it does so whatever the record is.
pub record DoesWith (p : Program) (places : List (List Lane)) (action : ℕ) (args : List ℕ) (folded : Folded) (ops : List Operation) : Type 0 where
  pub acts : (s : List ℕ) (words : Words) (held : ℕ) → IsState p s → Hold places words s → Hold places (words_after ops held words) (act_of p action args s)
  pub others : ChangesOnly (written_lanes places folded.values) ops
