-- The laws of look-ups, of one packet, and of lists of packets.
use Rattle.std.specs.Prelude.{◌≡◌, ◌<◌, ℕ, List, Some, All, map, slice_get}
use Rattle.rmt_bits.specs.Packet.{Packet}
use Rattle.rmt_bits.specs.declared.lane.Lane.{Lane}
use Rattle.rmt_refine.specs.Types.{Program, Table, Config}
use Rattle.rmt_ast.specs.declared.entry.Entry.{Entry}
use Rattle.rmt_ast.specs.WellFormed.{IsProgram}
use Rattle.rmt_ast.specs.EntryLists.{AreEntries}
use Rattle.rmt_ast.specs.Answers.{answer_of}
use Rattle.rmt_ast.specs.State.{IsState, joined, width_of}
use Rattle.rmt_ast.specs.Lookup.{hit_of}
use Rattle.rmt_config.specs.ChipRun.{outcome_of, own_look}
use Rattle.rmt_pack.specs.declared.placement.Part.{Part}
use Rattle.rmt_refine.specs.declared.map.CellOf.{CellOf}
use Rattle.rmt_refine.specs.declared.map.Map.{Map}
use Rattle.rmt_refine.specs.View.{View, look_in, own_view}
use Rattle.rmt_refine.specs.Units.{UnitsCarried, table_at}
use Rattle.rmt_refine.specs.Cells.{TableCellsCarried}
use Rattle.rmt_refine.specs.LookUps.{FindsAs}
use Rattle.rmt_refine.specs.Carries.{Carries, CarriesIn}
use Rattle.rmt_refine.specs.Refined.{AnswersAs}
use Rattle.rmt_refine.specs.RunsAs.{RunsAs}

-- look-ups made in a configuration's own view are those that it makes by itself
abbrev pub OwnLooksAreInItsView : Type 0
OwnLooksAreInItsView = (c : Config) (k place key : ℕ) → look_in c (own_view c) k place key ≡ own_look c k place key

-- Where the units of a configuration are those of a program, and the cells of a view hold the entries of the table that a node applies,
-- the key that the node reads from a state finds the entry that the state hits.
abbrev pub LookUpsFindHits : Type 0
LookUpsFindHits =
    (p : Program) (lists : List (List Entry)) (places : List (List Lane)) (parts : List Part) (starts : List ℕ) (c : Config) (v : View)
    (cells : List CellOf) (n : ℕ) (t : Table) (es : List Entry) (s : List ℕ)
    → IsProgram p → AreEntries p lists → IsState p s → table_at p n ≡ Some t → slice_get lists n ≡ Some es
    → UnitsCarried p places parts starts c → TableCellsCarried p c v cells n t (map (width_of p) t.key) es
    → FindsAs p c v n t (joined p t.key s) (hit_of t.kind t.key es s)

-- Where a configuration carries a program with its entries, in a view, what becomes of a packet whose look-ups are made in that view is what
-- the program answers.
abbrev pub PacketsAreAnswered : Type 0
PacketsAreAnswered =
    (p : Program) (lists : List (List Entry)) (m : Map) (c : Config) (v : View) (packet : Packet)
    → IsProgram p → AreEntries p lists → CarriesIn p lists m c v → All (λ b. b < 256) packet.frame → packet.port < 512
    → AnswersAs p lists (outcome_of (look_in c v) c packet) (answer_of p lists packet)

-- Where a configuration carries a program with its entries, the chip answers and counts as the program does, for every list of packets.
abbrev pub ListsAreAnswered : Type 0
ListsAreAnswered =
    (p : Program) (lists : List (List Entry)) (m : Map) (c : Config) → IsProgram p → AreEntries p lists → Carries p lists m c → RunsAs p lists c
