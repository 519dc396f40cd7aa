-- The names that a program and its entries have: those of its tables with a key, by which entries are read and changed without it.
use Rattle.std.specs.Prelude.{ℕ, List, [], ◌∷◌, Bool, true, false, ◌||◌, ◌&&◌, ◌==◌, nat_lt, if◌then◌else◌, Option, Some, None, fold, map, slice_get, option_map, option_and_then, unwrap_or}
use Rattle.std.specs.List.{enumerate_from, filter_map}
use Rattle.rmt_ast.specs.Types.{Program, Action, Table, Kind, Node, What}
use Rattle.rmt_ast.specs.declared.program.Kind.TheVariants.{Keyless, Exact, Prefix, Ternary}
use Rattle.rmt_ast.specs.declared.program.What.TheVariants.{Apply, Gate}
use Rattle.rmt_ast.specs.declared.entry.Entry.{Entry}
use Rattle.rmt_ast.specs.declared.names.Names.{Names}
use Rattle.rmt_ast.specs.declared.names.TableName.{TableName}
use Rattle.rmt_ast.specs.declared.names.ActionName.{ActionName}
use Rattle.rmt_ast.specs.declared.names.RankOf.{RankOf}
use Rattle.rmt_ast.specs.State.{width_of}
use Rattle.rmt_ast.specs.EntryLists.{params_of}

-- a rank stands first: the less one, and of one rank that of the earlier entry
abbrev pub stands_first : RankOf → RankOf → Bool
stands_first a b = nat_lt a.rank b.rank || (a.rank == b.rank && nat_lt a.number b.number)

-- ranks in order, each once, with one more
abbrev pub with_rank : List RankOf → RankOf → List RankOf
with_rank [] r = r ∷ []
with_rank (o ∷ os) r =
    if stands_first r o then r ∷ o ∷ os
    else (if (r.rank == o.rank) && (r.number == o.number) then o ∷ os else o ∷ with_rank os r)

-- the rank of an entry
abbrev pub rank_of : Entry → RankOf
rank_of e = record { number = e.number; rank = e.rank }

-- the ranks of entries in order
abbrev pub ranks_in : List Entry → List RankOf
ranks_in es = fold (λ ranks e. with_rank ranks (rank_of e)) [] es

-- the ranks that the names of a table have: those of a ternary one, since those of other kinds follow from what their cells hold
abbrev pub ranks_of : Kind → List Entry → List RankOf
ranks_of Keyless es = []
ranks_of Exact es = []
ranks_of Prefix es = []
ranks_of Ternary es = ranks_in es

-- the name of an action
abbrev pub name_of_action : Program → ℕ → List ℕ
name_of_action p a = unwrap_or (option_map (λ (x : Action). x.name) (slice_get p.actions a)) []

-- an action of a program by its number
abbrev pub action_named : Program → ℕ → ActionName
action_named p a = record { name = name_of_action p a; params = params_of p a }

-- a table with these entries, which node n applies
abbrev pub table_named : Program → ℕ → List Entry → Table → TableName
table_named p n es t = record {
  node = n;
  name = t.name;
  kind = t.kind;
  size = t.size;
  keys = map (width_of p) t.key;
  actions = map (action_named p) t.actions;
  ranks = ranks_of t.kind es;
}

-- a table that has a key
abbrev pub has_key : Kind → Bool
has_key Keyless = false
has_key Exact = true
has_key Prefix = true
has_key Ternary = true

abbrev pub if_keyed : Program → ℕ → List Entry → Table → Option TableName
if_keyed p n es t = if has_key t.kind then Some (table_named p n es t) else None

-- the table with a key that node n applies, if it applies one
abbrev pub named_at : Program → ℕ → List Entry → What → Option TableName
named_at p n es (Apply t) = option_and_then (if_keyed p n es) (slice_get p.tables t)
named_at p n es (Gate field test) = None

-- the tables with a key that some nodes apply, the first of which has the number n
abbrev pub named_from : Program → List (List Entry) → ℕ → List Node → List TableName
named_from p lists n nodes = filter_map (λ (x : ℕ × Node). named_at p x.0 (unwrap_or (slice_get lists x.0) []) x.1.what) (enumerate_from n nodes)

-- the names of a program with its entries: its tables with a key, by the nodes that apply them
abbrev pub names_of : Program → List (List Entry) → Names
names_of p lists = record { tables = named_from p lists 0 p.nodes }
