-- How exact tables are loaded, and when they aren't.
use Rattle.std.specs.Prelude.{◌≡◌, ◌<◌, ⊤, ℕ, ◌*◌, List, [], ◌∷◌, if◌then◌else◌, All, Option, Some, None, filter, map, length, nat_lt, slice_get}
use Rattle.std.specs.List.{range_with_len}
use Rattle.rmt_build.specs.Types.{Program, Table, Kind}
use Rattle.rmt_ast.specs.declared.program.Kind.TheVariants.{Keyless, Exact, Prefix, Ternary}
use Rattle.rmt_ast.specs.declared.entry.Entry.{Entry}
use Rattle.rmt_cuckoo.specs.declared.layout.Ways.{Ways}
use Rattle.rmt_cuckoo.specs.Loading.{IsLoading, IsOverfull}
use Rattle.rmt_pack.specs.declared.placement.Part.{Part}
use Rattle.rmt_pack.specs.Placements.{quanta_in}
use Rattle.rmt_refine.specs.Units.{table_at}
use Rattle.rmt_build.specs.declared.fault.NoFit.{NoFit}
use Rattle.rmt_build.specs.declared.fault.NoFit.TheVariants.{NoMemory, Lookup, Step, Parser, Action, Phv, Stage, Load}
use Rattle.rmt_filling.specs.declared.stands.Stand.{Stand}
use Rattle.rmt_filling.specs.Formats.{format_at}
use Rattle.rmt_filling.specs.Keys.{keys_of}
use Rattle.rmt_filling.specs.EntryCells.{IsLoadedAt, StandInOrder, StandOnce}

-- the part of so many quanta, if there are any
abbrev pub ways_for : ℕ → ℕ → List Ways
ways_for quanta per = if nat_lt 0 quanta then record { rows = 1024 * quanta; per = per } ∷ [] else []

-- the parts of the table of a node, in the order of their stages, where a row has that many cells
abbrev pub layout_in : ℕ → List Part → ℕ → List Ways
layout_in per parts n =
    map (λ k. record { rows = 1024 * quanta_in parts n k; per = per }) (filter (λ k. nat_lt 0 (quanta_in parts n k)) (range_with_len 0 32))

abbrev pub layout_of : Program → List Part → ℕ → List Ways
layout_of p parts n = layout_in (format_at p n).per parts n

-- a node applies an exact table with these entries
pub record AppliesExact (p : Program) (lists : List (List Entry)) (n : ℕ) (t : Table) (es : List Entry) : Type 0 where
  pub table : table_at p n ≡ Some t
  pub exact : t.kind ≡ Exact
  pub entries : slice_get lists n ≡ Some es

-- under a seed some of the entries of the exact table of node n, as many as `members`, have fewer cells than they are
pub record IsFull (p : Program) (lists : List (List Entry)) (parts : List Part) (seed n members cells : ℕ) : Type 0 where
  pub table : Table
  pub entries : List Entry
  pub own : List ℕ
  pub applies : AppliesExact p lists n table entries
  pub overfull : IsOverfull (layout_of p parts n) seed (keys_of p table entries) own cells
  pub many : members ≡ length own

-- under a seed the exact table of node n with these entries is loaded
abbrev pub IsLoadedUnder : Program → List Part → ℕ → ℕ → Table → List Entry → Type 0
IsLoadedUnder p parts seed n t es = (cells : List ℕ) × IsLoading (layout_of p parts n) seed (keys_of p t es) cells

-- under a seed every exact table before node n is loaded
abbrev pub AreLoadedBefore : Program → List (List Entry) → List Part → ℕ → ℕ → Type 0
AreLoadedBefore p lists parts seed n = (m : ℕ) (t : Table) (es : List Entry) → m < n → AppliesExact p lists m t es → IsLoadedUnder p parts seed m t es

-- under a seed every exact table is loaded
abbrev pub AreLoaded : Program → List (List Entry) → List Part → ℕ → Type 0
AreLoaded p lists parts seed = (n : ℕ) (t : Table) (es : List Entry) → AppliesExact p lists n t es → IsLoadedUnder p parts seed n t es

-- under each seed that is less some exact table is full
abbrev pub AreFullBefore : Program → List (List Entry) → List Part → ℕ → Type 0
AreFullBefore p lists parts seed = (s : ℕ) → s < seed → (m : ℕ) × (count : ℕ) × (few : ℕ) × IsFull p lists parts s m count few

-- one of the seeds 0 to 7 under which every exact table is loaded, where under each lesser one some table is full
pub record IsFirstSeed (p : Program) (lists : List (List Entry)) (parts : List Part) (seed : ℕ) : Type 0 where
  pub few : seed < 8
  pub loaded : AreLoaded p lists parts seed
  pub least : AreFullBefore p lists parts seed

-- Under each of the seeds 0 to 7 some exact table is full; under seed 7 the first one is that of this node.
pub record AreNotLoaded (p : Program) (lists : List (List Entry)) (parts : List Part) (n members cells : ℕ) : Type 0 where
  pub each : AreFullBefore p lists parts 8
  pub last : IsFull p lists parts 7 n members cells
  pub first : AreLoadedBefore p lists parts 7 n

-- ---- all tables under one seed

-- how the entries of a table stand: those of an exact one each in the cell into which it is loaded, and those of a prefix or ternary one in order
abbrev pub StandBy : Program → List Part → ℕ → ℕ → Table → List Entry → Kind → List Stand → Type 0
StandBy p parts seed n t es Keyless stands = stands ≡ []
StandBy p parts seed n t es Exact stands =
    (cells : List ℕ) × IsLoading (layout_of p parts n) seed (keys_of p t es) cells × StandOnce (length es) stands × All (IsLoadedAt cells) stands
StandBy p parts seed n t es Prefix stands = StandInOrder Prefix es stands
StandBy p parts seed n t es Ternary stands = StandInOrder Ternary es stands

-- the entries of node n stand; a gate has none
abbrev pub StandAt : Program → List Part → ℕ → ℕ → List Entry → Option Table → List Stand → Type 0
StandAt p parts seed n es None stands = stands ≡ []
StandAt p parts seed n es (Some t) stands = StandBy p parts seed n t es t.kind stands

-- so do those of all nodes
pub record AreAllLoaded (p : Program) (lists : List (List Entry)) (parts : List Part) (seed : ℕ) (stands : List (List Stand)) : Type 0 where
  pub all_there : length stands ≡ length p.nodes
  pub each : (n : ℕ) (es : List Entry) (own : List Stand) → slice_get lists n ≡ Some es → slice_get stands n ≡ Some own → StandAt p parts seed n es (table_at p n) own

-- a refusal of loading
abbrev pub IsNotLoaded : Program → List (List Entry) → List Part → NoFit → Type 0
IsNotLoaded p lists parts NoMemory = ⊤
IsNotLoaded p lists parts (Lookup header bytes) = ⊥
IsNotLoaded p lists parts (Step header extracts) = ⊥
IsNotLoaded p lists parts (Parser many) = ⊥
IsNotLoaded p lists parts (Action number field) = ⊥
IsNotLoaded p lists parts (Phv field class) = ⊥
IsNotLoaded p lists parts (Stage node hits) = ⊥
IsNotLoaded p lists parts (Load node members cells) = AreNotLoaded p lists parts node members cells
