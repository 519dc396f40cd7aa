-- Why the entries of a run can't be loaded: no seed has a loading, and which table is told.
use Rattle.std.specs.Prelude.{◌≡◌, ◌<◌, ℕ, ◌*◌, List, [], ◌∷◌, Some, length, map, sum}
use Rattle.std.specs.List.{flat_map}
use Rattle.rmt_bits.specs.Bits.{bytes_of}
use Rattle.rmt_ast.specs.Changes.{list_of}
use Rattle.rmt_ast.specs.EntryLists.{Terms}
use Rattle.rmt_ast.specs.NameRules.{terms_named}
use Rattle.rmt_ast.specs.declared.entry.Entry.{Entry}
use Rattle.rmt_ast.specs.declared.names.Names.{Names}
use Rattle.rmt_ast.specs.declared.program.Kind.TheVariants as kind
use Rattle.rmt_config.specs.declared.config.Config.{Config}
use Rattle.rmt_config.specs.declared.config.Memory.{Memory}
use Rattle.rmt_config.specs.declared.config.Memory.TheVariants.{Without, Exact, Ternary}
use Rattle.rmt_config.specs.Commits.{AreFilled}
use Rattle.rmt_config.specs.Rooms.{PartAt, key_number, parts_of}
use Rattle.rmt_config.specs.BlockCounts.{divided_up}
use Rattle.rmt_cuckoo.specs.declared.layout.Ways.{Ways}
use Rattle.rmt_cuckoo.specs.Loading.{IsLoading, IsOverfull}

-- no loading of all exact tables under any seed from 0 to 7
abbrev pub HasNoLoading : Config → Names → List (List Entry) → Type 0
HasNoLoading c names after = (seed : ℕ) → seed < 8 → ((placed : _) × AreFilled c names seed after placed) → ⊥

-- the ways of a part
abbrev pub ways_in : Memory → List Ways
ways_in Without = []
ways_in (Exact k per quanta first_way keys records counters) = record { rows = 1024 * quanta; per = per } ∷ []
ways_in (Ternary quanta keys records counters) = []

-- the exact parts of the table of a node, as its keys are loaded into them
abbrev pub layout_at : Config → ℕ → List Ways
layout_at c node = flat_map (λ (p : PartAt). ways_in p.slot.memory) (parts_of c node)

-- the keys of entries as bytes
abbrev pub keys_of : Terms → List Entry → List (List ℕ)
keys_of t es = map (λ (e : Entry). bytes_of (divided_up (sum t.widths) 8) (key_number t e)) es

-- the first exact table that has no loading under a seed: some of its keys, so many, have so many cells, fewer than they are
pub record IsFirstFull (c : Config) (names : Names) (lists : List (List Entry)) (seed node members cells : ℕ) : Type 0 where
  pub terms : Terms
  pub there : terms_named names node ≡ Some terms
  pub exact : terms.kind ≡ kind.Exact
  pub own : List ℕ
  pub few : IsOverfull (layout_at c node) seed (keys_of terms (list_of lists node)) own cells
  pub count : members ≡ length own
  pub first : (m : ℕ) (t : Terms) → m < node → terms_named names m ≡ Some t → t.kind ≡ kind.Exact
      → (loaded : List ℕ) × IsLoading (layout_at c m) seed (keys_of t (list_of lists m)) loaded
