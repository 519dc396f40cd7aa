-- The operations of an instruction: one for each piece of each field that is written.
use Rattle.std.specs.Prelude.{ℕ, ◌+◌, List, [], ◌∷◌, Option, Some, None, slice_get, slice_index}
use Rattle.std.specs.List.{flat_map}
use Rattle.std.specs.List.Sorted.{IsPermutation, IsNonDecreasingBy}
use Rattle.rmt_bits.specs.Bits.{slice}
use Rattle.rmt_bits.specs.declared.lane.Lane.{Lane}
use Rattle.rmt_vliw.specs.Types.{Assign, Expr, Leaf, Op, Operation, OpKind, Source}
use Rattle.rmt_ast.specs.declared.program.Expr.TheVariants.{One, Two}
use Rattle.rmt_ast.specs.declared.program.Leaf.TheVariants as leaf
use Rattle.rmt_ast.specs.declared.program.Op.TheVariants.{Add, Sub, And, Or, Xor}
use Rattle.rmt_ast.specs.Places.{lanes_of}
use Rattle.rmt_config.specs.declared.config.OpKind.TheVariants as kind
use Rattle.rmt_config.specs.declared.config.Source.TheVariants.{Word, Held, Constant}
use Rattle.rmt_vliw.specs.declared.piece.Piece.{Piece}
use Rattle.rmt_config.specs.Effects.{begin_of}

-- the bits of a lane; a piece that isn't there has none
abbrev pub lane_source : Option Lane → Source
lane_source None = Constant 0
lane_source (Some lane) = Word lane.word lane.low

-- where a piece of an operand is read
abbrev pub source_for : List (List Lane) → List ℕ → Piece → Leaf → Source
source_for places params piece (leaf.Field f) = lane_source (slice_get (lanes_of places f) piece.number)
source_for places params piece (leaf.Param i) = Held (begin_of params i + piece.low)
source_for places params piece (leaf.Number n) = Constant (slice n piece.low piece.len)

abbrev pub kind_for : Op → OpKind
kind_for Add = kind.Add
kind_for Sub = kind.Sub
kind_for And = kind.And
kind_for Or = kind.Or
kind_for Xor = kind.Xor

-- the operation that puts a piece of a value into a lane
abbrev pub operation_for : List (List Lane) → List ℕ → Expr → Piece → Lane → Operation
operation_for places params (One x) piece lane = record {
  word = lane.word;
  low = lane.low;
  len = lane.len;
  kind = kind.Copy;
  left = source_for places params piece x;
  right = Constant 0;
}
operation_for places params (Two op x y) piece lane = record {
  word = lane.word;
  low = lane.low;
  len = lane.len;
  kind = kind_for op;
  left = source_for places params piece x;
  right = source_for places params piece y;
}

-- those of some pieces one after another, from the piece of that number on, which begins at bit `low` of the value
abbrev pub operations_from : List (List Lane) → List ℕ → Expr → ℕ → ℕ → List Lane → List Operation
operations_from places params e number low [] = []
operations_from places params e number low (lane ∷ lanes) =
    operation_for places params e (record { number = number; low = low; len = lane.len }) lane
    ∷ operations_from places params e (number + 1) (low + lane.len) lanes

-- those of a field's value
abbrev pub operations_for : List (List Lane) → List ℕ → Assign → List Operation
operations_for places params v = operations_from places params v.expr 0 0 (lanes_of places v.dest)

-- those of all values
abbrev pub operations_of : List (List Lane) → List ℕ → List Assign → List Operation
operations_of places params values = flat_map (operations_for places params) values

-- a value with arguments in the place of parameters
abbrev pub given_operand : List ℕ → Leaf → Leaf
given_operand args (leaf.Field f) = leaf.Field f
given_operand args (leaf.Param i) = leaf.Number (slice_index args i)
given_operand args (leaf.Number n) = leaf.Number n

abbrev pub given_expr : List ℕ → Expr → Expr
given_expr args (One x) = One (given_operand args x)
given_expr args (Two op x y) = Two op (given_operand args x) (given_operand args y)

abbrev pub given : List ℕ → Assign → Assign
given args v = record { dest = v.dest; expr = given_expr args v.expr }

-- the operations of an instruction stand by rising word
pub record IsInstruction (ops sorted : List Operation) : Type 0 where
  pub same : IsPermutation ops sorted
  pub by_word : IsNonDecreasingBy (λ (op : Operation). op.word) sorted
