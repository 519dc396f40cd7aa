-- Dependencies and levels that are worked by hand.
use Rattle.std.proofs.Common.{◌≡◌, ℕ, false, List, [], ◌∷◌, refl}
use Rattle.std.specs.Prelude.{codes}
use Rattle.std.specs.Result.{result_unwrap_or}
use Rattle.rmt_bits.specs.declared.lane.Lane.{Lane}
use Rattle.rmt_ast.specs.declared.program.Program.{Program}
use Rattle.rmt_ast.specs.declared.program.Assign.{Assign}
use Rattle.rmt_ast.specs.declared.program.Expr.TheVariants.{One, Two}
use Rattle.rmt_ast.specs.declared.program.Leaf.TheVariants as leaf
use Rattle.rmt_ast.specs.declared.program.Op.TheVariants.{Add}
use Rattle.rmt_ast.specs.declared.deps.Edge.{Edge}
use Rattle.rmt_ast.specs.declared.deps.EdgeKind.{EdgeKind}
use Rattle.rmt_ast.specs.declared.deps.EdgeKind.TheVariants.{Match, Action, Successor, Reverse, Word}
use Rattle.rmt_ast.proofs.Programs.{field, with_fields, header, action, keyless, apply_table, apply_in_arm, strict_and_weak, gate, arms}
use Rattle.rmt_phv.specs.Packing.{packing}
use Rattle.rmt_deps.specs.Edges.{guards_of, on_different_arms, dependencies_of}
use Rattle.rmt_deps.specs.Levels.{levels_of}

abbrev places_of : Program → List (List Lane)
places_of p = result_unwrap_or (packing p) []

abbrev edge : ℕ → ℕ → EdgeKind → Edge
edge from to kind = record { from = from; to = to; kind = kind }

abbrev set : ℕ → ℕ → Assign
set field n = record { dest = field; expr = One (leaf.Number n) }

-- header h { a : 2; b : 2; c : 4; }; t1 sets h.a and t2 sets h.b
abbrev two_fields_one_word : Program
two_fields_one_word = record {
  fields = with_fields (field (codes "h.a") 2 ∷ field (codes "h.b") 2 ∷ field (codes "h.c") 4 ∷ []);
  headers = header (4 ∷ 5 ∷ 6 ∷ []) 1 ∷ [];
  actions = action (codes "x") [] (set 4 1 ∷ []) ∷ action (codes "y") [] (set 5 2 ∷ []) ∷ [];
  tables = keyless (codes "t1") 0 ∷ keyless (codes "t2") 1 ∷ [];
  nodes = apply_table 0 ∷ apply_table 1 ∷ [];
}

-- both fields lie in word 0
one_word : dependencies_of two_fields_one_word (places_of two_fields_one_word) ≡ record { field = []; word = edge 0 1 Word ∷ [] }
one_word = refl

one_word_levels : levels_of (dependencies_of two_fields_one_word (places_of two_fields_one_word)) 2 ≡ 0 ∷ 1 ∷ []
one_word_levels = refl

-- b matches on what a writes; c writes what a writes, and what b matches on
strict : dependencies_of strict_and_weak (places_of strict_and_weak)
    ≡ record { field = edge 0 1 Match ∷ edge 0 2 Action ∷ edge 1 2 Reverse ∷ []; word = edge 0 2 Word ∷ [] }
strict = refl

strict_levels : levels_of (dependencies_of strict_and_weak (places_of strict_and_weak)) 3 ≡ 0 ∷ 1 ∷ 1 ∷ []
strict_levels = refl

-- the two arms of an `if` both set out_port, and have no edge
gate_arms : dependencies_of gate (places_of gate) ≡ record { field = edge 0 1 Successor ∷ edge 0 2 Successor ∷ []; word = [] }
gate_arms = refl

-- so have the arms of a table's action, of its other hits and of its miss
table_arms : dependencies_of arms (places_of arms) ≡ record { field = edge 0 1 Successor ∷ edge 0 2 Successor ∷ edge 0 3 Successor ∷ []; word = [] }
table_arms = refl

table_arm_levels : levels_of (dependencies_of arms (places_of arms)) 4 ≡ 0 ∷ 0 ∷ 0 ∷ 0 ∷ []
table_arm_levels = refl

-- the same tables, the second below the first arm's, the last in an arm that shares an outcome with it
abbrev nested : Program
nested = record arms { nodes = apply_table 0 ∷ apply_in_arm 0 4 1 ∷ apply_in_arm 1 2 2 ∷ apply_in_arm 0 6 3 ∷ [] }

up : guards_of nested 2 ≡ record { parent = 1; mask = 2 } ∷ record { parent = 0; mask = 4 } ∷ []
up = refl

shared_outcome : on_different_arms nested 2 3 ≡ false
shared_outcome = refl

-- where its parent has an edge, a child has it too; writers of one port have an action edge and a word edge
nested_edges : dependencies_of nested (places_of nested)
    ≡ record {
      field = edge 0 1 Successor ∷ edge 0 3 Successor ∷ edge 1 2 Action ∷ edge 1 2 Successor ∷ edge 1 3 Action ∷ edge 2 3 Action ∷ [];
      word = edge 1 2 Word ∷ edge 1 3 Word ∷ edge 2 3 Word ∷ [];
    }
nested_edges = refl

-- t does meta.x = meta.y + 1 and u does meta.y = 0: u writes an operand of t
abbrev operands : Program
operands = record {
  fields = with_fields (field (codes "h.f") 8 ∷ field (codes "meta.x") 8 ∷ field (codes "meta.y") 8 ∷ []);
  headers = header (4 ∷ []) 1 ∷ [];
  actions =
      action (codes "inc") [] (record { dest = 5; expr = Two Add (leaf.Field 6) (leaf.Number 1) } ∷ [])
      ∷ action (codes "zero") [] (set 6 0 ∷ []) ∷ [];
  tables = keyless (codes "t") 0 ∷ keyless (codes "u") 1 ∷ [];
  nodes = apply_table 0 ∷ apply_table 1 ∷ [];
}

reverse : dependencies_of operands (places_of operands) ≡ record { field = edge 0 1 Reverse ∷ []; word = [] }
reverse = refl

-- and the other way round: t reads what u writes before it
turned : dependencies_of (record operands { nodes = apply_table 1 ∷ apply_table 0 ∷ [] }) (places_of operands) ≡ record { field = edge 0 1 Action ∷ []; word = [] }
turned = refl
