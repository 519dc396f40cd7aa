-- Which lists of entries are well formed: one list for each node, each entry in that of its table.
use Rattle.std.specs.Prelude.{◌≡◌, ◌≢◌, ◌<◌, ◌≤◌, ℕ, ◌-◌, ◌^◌, List, [], Option, Some, None, ⊤, IsSomeAnd, All, AllPairs, slice_get, length, map, option_map, unwrap_or}
use Rattle.std.specs.List.{AllZip, flat_map}
use Rattle.rmt_ast.specs.Types.{Program, Test, Action, Table, Kind, Node, What}
use Rattle.rmt_ast.specs.declared.program.Kind.TheVariants.{Keyless, Exact, Prefix, Ternary}
use Rattle.rmt_ast.specs.declared.program.What.TheVariants.{Apply, Gate}
use Rattle.rmt_ast.specs.declared.entry.Entry.{Entry}
use Rattle.rmt_ast.specs.State.{width_of}
use Rattle.rmt_ast.specs.WellFormed.{AllNumbered, AreDistinct, IsTest, Fits}
use Rattle.rmt_ast.specs.Answers.{entry_numbers}

-- what a table asks of its entries: its kind, the widths of its key's fields, the widths of the parameters of each action of its
-- list, and its size; a table that is known by its names alone has one too
pub record Terms : Type 0 where
  pub kind : Kind
  pub widths : List ℕ
  pub params : List (List ℕ)
  pub size : ℕ

-- the parameters of an action
abbrev pub params_of : Program → ℕ → List ℕ
params_of p a = unwrap_or (option_map (λ (x : Action). x.params) (slice_get p.actions a)) []

-- the terms of a table of a program
abbrev pub terms_of : Program → Table → Terms
terms_of p t = record { kind = t.kind; widths = map (width_of p) t.key; params = map (params_of p) t.actions; size = t.size }

-- the terms of the table that a node applies; an `if` has none
abbrev pub terms_at : Program → What → Option Terms
terms_at p (Apply t) = option_map (terms_of p) (slice_get p.tables t)
terms_at p (Gate field test) = None

-- a mask of all bits
abbrev pub IsWhole : ℕ → Test → Type 0
IsWhole width test = test.mask ≡ 2 ^ width - 1

-- a mask of the highest bits, as many as the prefix is long
abbrev pub IsPrefix : ℕ → ℕ → Test → Type 0
IsPrefix rank width test = (rank ≤ width) × (test.mask ≡ 2 ^ width - 2 ^ (width - rank))

-- the masks and the rank that entries of a kind have; in a ternary table the rank is the priority
abbrev pub HasRank : Kind → List ℕ → Entry → Type 0
HasRank Keyless widths e = ⊤
HasRank Exact widths e = AllZip IsWhole widths e.tests × (e.rank ≡ 0)
HasRank Prefix widths e = AllZip (IsPrefix e.rank) widths e.tests
HasRank Ternary widths e = ⊤

-- an entry of the table that node n applies: a test for each key field, and an action of the list with its arguments
pub record IsEntry (n : ℕ) (t : Terms) (e : Entry) : Type 0 where
  pub table : e.table ≡ n
  pub tests : AllZip IsTest t.widths e.tests
  pub rank : HasRank t.kind t.widths e
  pub action : IsSomeAnd (slice_get t.params e.action) (λ params. AllZip Fits params e.args)

-- no exact key and no prefix stands twice
abbrev pub HasKeysOnce : Kind → List Entry → Type 0
HasKeysOnce Keyless es = ⊤
HasKeysOnce Exact es = AllPairs (λ (a b : Entry). a.tests ≢ b.tests) es
HasKeysOnce Prefix es = AllPairs (λ (a b : Entry). a.tests ≢ b.tests) es
HasKeysOnce Ternary es = ⊤

-- the entries of the table that node n applies, by rising number
pub record AreTableEntries (n : ℕ) (es : List Entry) (t : Terms) : Type 0 where
  pub each : All (IsEntry n t) es
  pub rising : AllPairs (λ (a b : Entry). a.number < b.number) es
  pub keys_once : HasKeysOnce t.kind es
  pub within_size : length es ≤ t.size

-- the list of node n, which is empty where the node applies no table
abbrev pub AreEntriesAt : ℕ → List Entry → Option Terms → Type 0
AreEntriesAt n es None = es ≡ []
AreEntriesAt n es (Some t) = AreTableEntries n es t

-- well-formed lists of entries for nodes that have these terms, by their numbers
pub record AreEntriesFor (terms : List (Option Terms)) (lists : List (List Entry)) : Type 0 where
  pub for_each_node : length lists ≡ length terms
  pub each : AllNumbered (λ n es. IsSomeAnd (slice_get terms n) (AreEntriesAt n es)) lists
  pub numbers_once : AreDistinct (flat_map entry_numbers lists)

-- well-formed lists of entries for a program
abbrev pub AreEntries : Program → List (List Entry) → Type 0
AreEntries p lists = AreEntriesFor (map (λ (node : Node). terms_at p node.what) p.nodes) lists
