-- A control run over tables that are ready to be looked up, against one over lists of entries.
use Rattle.std.specs.Prelude.{◌≡◌, ⊤, ℕ, ◌+◌, List, [], ◌∷◌, Option, Some, None, if◌then◌else◌, map, slice_get, slice_index, slice_set, option_map, option_and_then, unwrap_or, length, replicate}
use Rattle.rmt_ast.specs.declared.program.Program.{Program}
use Rattle.rmt_ast.specs.declared.program.Table.{Table}
use Rattle.rmt_ast.specs.declared.program.Kind.{Kind}
use Rattle.rmt_ast.specs.declared.program.Node.{Node}
use Rattle.rmt_ast.specs.declared.program.What.{What}
use Rattle.rmt_ast.specs.declared.program.What.TheVariants.{Apply, Gate}
use Rattle.rmt_ast.specs.declared.program.Kind.TheVariants.{Keyless}
use Rattle.rmt_ast.specs.declared.entry.Entry.{Entry}
use Rattle.rmt_ast.specs.State.{passes}
use Rattle.rmt_ast.specs.Control as control
use Rattle.rmt_plain.specs.declared.lookup.Lookup.{Lookup}
use Rattle.rmt_plain.specs.declared.run.Run.{Run}
use Rattle.rmt_plain.specs.Ranking.{IsRanked}
use Rattle.rmt_bits.specs.Grouping.{AreGrouped, best_of}
use Rattle.rmt_plain.specs.Grouping.{AreMarks, place_for, row_of}
use Rattle.rmt_plain.specs.Marks.{slots_for}

-- what the nodes so far have left
abbrev pub run_of : Run → control.Run
run_of r = record { state = r.state.items; outcomes = r.outcomes.items; hits = r.hits }

-- a control run at its start
abbrev pub at_start : Program → List ℕ → control.Run
at_start p s = record { state = s; outcomes = replicate (length p.nodes) 0; hits = [] }

-- the entry that a look-up finds for a key
abbrev pub entry_for : List ℕ → List ℕ → Lookup → Option Entry
entry_for key s l = option_and_then (slice_get l.entries.items) (best_of (place_for l.marks.items key s) l.groups.items None)

-- the entry that is looked up; a node without a table to look up has none
abbrev pub first_of : List ℕ → List ℕ → Option Lookup → Option Entry
first_of key s None = None
first_of key s (Some l) = entry_for key s l

-- what a node that runs does
abbrev pub done_with : Program → Option Lookup → ℕ → What → control.Run → control.Run
done_with p o n (Apply table) r =
    unwrap_or (option_map (λ (t : Table). control.applied_table p n t (first_of t.key r.state o) r) (slice_get p.tables table)) r
done_with p o n (Gate field test) r =
    record r { outcomes = slice_set r.outcomes n (if passes test (slice_index r.state field) then 2 else 1) }

-- a node, where it runs
abbrev pub passed_with : Program → Option Lookup → ℕ → Node → control.Run → control.Run
passed_with p o n node r = if control.runs node.guard r.outcomes then done_with p o n node.what r else r

-- the nodes from number n on
abbrev pub run_with : Program → List Lookup → ℕ → List Node → control.Run → control.Run
run_with p lookups n [] r = r
run_with p lookups n (node ∷ nodes) r = run_with p lookups (n + 1) nodes (passed_with p (slice_get lookups n) n node r)

-- the kind of the table that a node applies
abbrev pub kind_of : Program → What → Kind
kind_of p (Apply t) = unwrap_or (option_map (λ (table : Table). table.kind) (slice_get p.tables t)) Keyless
kind_of p (Gate field test) = Keyless

-- the same by the number of the node
abbrev pub kind_of_node : Program → ℕ → Kind
kind_of_node p n = unwrap_or (option_map (λ (node : Node). kind_of p node.what) (slice_get p.nodes n)) Keyless

-- the entries of a list are ready to be looked up: ranked, in groups, and marked
pub record IsReady (kind : Kind) (es : List Entry) (l : Lookup) : Type 0 where
  pub ranked : IsRanked kind es l.entries.items
  pub grouped : AreGrouped (map row_of l.entries.items) l.groups.items
  pub marks : AreMarks (slots_for (length l.entries.items)) l.entries.items l.marks.items

-- the lists of the nodes from number n on, each ready for its node's table
abbrev pub AreReady : Program → ℕ → List (List Entry) → List Lookup → Type 0
AreReady p n [] [] = ⊤
AreReady p n [] (l ∷ ls) = ⊥
AreReady p n (es ∷ lists) [] = ⊥
AreReady p n (es ∷ lists) (l ∷ ls) = IsReady (kind_of_node p n) es l × AreReady p (n + 1) lists ls

-- the same of a node that may have nothing to look up
abbrev pub Serves : Kind → List Entry → Option Lookup → Type 0
Serves kind es None = es ≡ []
Serves kind es (Some l) = IsReady kind es l

-- the entries of each node are ready to be looked up
abbrev pub AreLookups : Program → List (List Entry) → List Lookup → Type 0
AreLookups p lists lookups =
    (n : ℕ) (node : Node) → slice_get p.nodes n ≡ Some node → Serves (kind_of p node.what) (unwrap_or (slice_get lists n) []) (slice_get lookups n)
