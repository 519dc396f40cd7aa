-- Bounds that are worked by hand.
use Rattle.std.proofs.Common.{◌≡◌, ℕ, List, [], ◌∷◌, map, length, refl}
use Rattle.std.specs.Prelude.{codes, false, replicate}
use Rattle.std.specs.List.{range_with_len}
use Rattle.rmt_ast.specs.declared.deps.Edge.{Edge}
use Rattle.rmt_ast.specs.declared.deps.EdgeKind.TheVariants as edge
use Rattle.rmt_ast.specs.declared.program.Program.{Program}
use Rattle.rmt_ast.specs.declared.program.Table.{Table}
use Rattle.rmt_ast.specs.declared.program.Kind.{Kind}
use Rattle.rmt_ast.specs.declared.program.Kind.TheVariants.{Exact, Ternary}
use Rattle.rmt_ast.proofs.Programs.{field, with_fields, header, action, keyless, apply_table, strict_and_weak}
use Rattle.rmt_pack.specs.declared.placement.Part.{Part}
use Rattle.rmt_bounds.specs.declared.bound.Bound.{Bound}
use Rattle.rmt_bounds.specs.declared.bound.Proof.{Proof}
use Rattle.rmt_bounds.specs.declared.bound.Proof.TheVariants.{Chain, Sram, Tcam, Slots}
use Rattle.rmt_bounds.specs.Bounds.{stage_bound}
use Rattle.rmt_bounds.specs.Proofs.{chain_stages}
use Rattle.rmt_bounds.specs.Used.{stages_used}

abbrev is : ℕ → Proof → Bound
is stages proof = record { stages = stages; proof = proof }

-- table b looks at what table a writes, and table c writes it again
abbrev edges : List Edge
edges = record { from = 0; to = 1; kind = edge.Match } ∷ record { from = 0; to = 2; kind = edge.Action } ∷ record { from = 1; to = 2; kind = edge.Reverse } ∷ []

-- a weak edge doesn't count
two_of_three : stage_bound strict_and_weak edges ≡ is 2 (Chain (0 ∷ 1 ∷ []))
two_of_three = refl

all_three : chain_stages strict_and_weak edges (0 ∷ 1 ∷ 2 ∷ []) ≡ 2
all_three = refl

-- a program of some tables, all of them applied
abbrev with_tables : List Table → Program
with_tables tables = record {
  fields = with_fields (field (codes "h.a") 80 ∷ field (codes "h.b") 128 ∷ []);
  headers = header (4 ∷ 5 ∷ []) 26 ∷ [];
  actions = action (codes "no") [] [] ∷ [];
  tables = tables;
  nodes = map apply_table (range_with_len 0 (length tables));
}

abbrev table : Kind → List ℕ → ℕ → Table
table kind key size = record { name = codes "t"; kind = kind; key = key; actions = 0 ∷ []; default = 0; args = []; size = size; counted = false }

no_node : stage_bound (with_tables []) [] ≡ is 0 (Chain [])
no_node = refl

one_table : stage_bound (with_tables (keyless (codes "t") 0 ∷ [])) [] ≡ is 1 (Chain (0 ∷ []))
one_table = refl

-- two tables of 50 quanta, each of 16 SRAM blocks
large_tables : stage_bound (with_tables (table Exact (4 ∷ []) 900000 ∷ table Exact (4 ∷ []) 900000 ∷ [])) [] ≡ is 16 (Sram 1600)
large_tables = refl

-- a key of 640 bits takes all the TCAM blocks of a stage for 2,048 entries
split_ternary : stage_bound (with_tables (table Ternary (5 ∷ 5 ∷ 5 ∷ 5 ∷ 5 ∷ []) 2049 ∷ [])) [] ≡ is 2 (Chain (0 ∷ []))
split_ternary = refl

-- nine quanta of 2 TCAM blocks, in two tables
two_ternary : stage_bound (with_tables (table Ternary (4 ∷ []) 8192 ∷ table Ternary (4 ∷ []) 10240 ∷ [])) [] ≡ is 2 (Tcam 18)
two_ternary = refl

-- 17 tables need a second stage for their slots
many_tables : stage_bound (with_tables (replicate 17 (keyless (codes "t") 0))) [] ≡ is 2 (Slots 17)
many_tables = refl

-- a part without quanta, or of no node, counts for no stage
abbrev part : ℕ → ℕ → ℕ → Part
part node stage quanta = record { node = node; stage = stage; quanta = quanta }

late_and_empty : stages_used strict_and_weak (record { parts = part 0 0 1 ∷ part 1 4 1 ∷ part 2 9 0 ∷ part 3 7 1 ∷ [] }) ≡ 5
late_and_empty = refl

none_used : stages_used strict_and_weak (record { parts = part 0 6 0 ∷ part 3 7 1 ∷ [] }) ≡ 0
none_used = refl
