-- The nodes of a program in order, over a state and the outcomes of the nodes.
use Rattle.std.specs.Prelude.{ℕ, ◌+◌, List, [], ◌∷◌, ◌++◌, Bool, true, Option, Some, None, if◌then◌else◌, slice_get, slice_index, slice_set, length, replicate, option_map, unwrap_or, ◌==◌, ◌%◌, ◌/◌, ◌^◌}
use Rattle.rmt_ast.specs.Types.{Program, Action, Table, Node, Guard, What}
use Rattle.rmt_ast.specs.declared.program.What.TheVariants.{Apply, Gate}
use Rattle.rmt_ast.specs.declared.entry.Entry.{Entry}
use Rattle.rmt_ast.specs.State.{passes}
use Rattle.rmt_ast.specs.Actions.{acted}
use Rattle.rmt_ast.specs.Lookup.{hit_of}

-- what the nodes so far have left: the state, an outcome for each node, and the entries that were hit
pub record Run : Type 0 where
  pub state : List ℕ
  pub outcomes : List ℕ
  pub hits : List ℕ

-- a node runs where it has no guard, or its parent's outcome is in the mask
abbrev pub runs : Option Guard → List ℕ → Bool
runs None outcomes = true
runs (Some g) outcomes = g.mask / 2 ^ slice_index outcomes g.parent % 2 == 1

-- what an action of the program leaves of a state
abbrev pub act_of : Program → ℕ → List ℕ → List ℕ → List ℕ
act_of p action args s = unwrap_or (option_map (λ (a : Action). acted p a.assigns args s) (slice_get p.actions action)) s

-- a hit runs the entry's action, and a miss the default
abbrev pub applied_table : Program → ℕ → Table → Option Entry → Run → Run
applied_table p n t None r =
    record { state = act_of p t.default t.args r.state; outcomes = slice_set r.outcomes n 1; hits = r.hits }
applied_table p n t (Some e) r =
    record {
      state = act_of p (slice_index t.actions e.action) e.args r.state;
      outcomes = slice_set r.outcomes n (2 + e.action);
      hits = r.hits ++ e.number ∷ [];
    }

-- what a node that runs does: a table acts by what it hits, and an `if` gives 2 or 1
abbrev pub done_by : Program → List Entry → ℕ → What → Run → Run
done_by p es n (Apply table) r =
    unwrap_or (option_map (λ (t : Table). applied_table p n t (hit_of t.kind t.key es r.state) r) (slice_get p.tables table)) r
done_by p es n (Gate field test) r =
    record r { outcomes = slice_set r.outcomes n (if passes test (slice_index r.state field) then 2 else 1) }

-- the nodes from number n on
abbrev pub run_from : Program → List (List Entry) → ℕ → List Node → Run → Run
run_from p lists n [] r = r
run_from p lists n (node ∷ nodes) r =
    run_from p lists (n + 1) nodes
    (if runs node.guard r.outcomes then done_by p (unwrap_or (slice_get lists n) []) n node.what r else r)

-- all nodes over a state; no node has an outcome at first
abbrev pub run : Program → List (List Entry) → List ℕ → Run
run p lists s = run_from p lists 0 p.nodes (record { state = s; outcomes = replicate (length p.nodes) 0; hits = [] })
