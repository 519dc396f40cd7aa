-- Where the nodes of a program are to stand, and what that has to keep.
use Rattle.std.specs.Prelude.{◌≡◌, ℕ, ◌*◌, ◌<◌, ◌≤◌, List, [], Some, All, AllPairs, length, count_by, nat_lt, slice_get, slice_index_or, sum_by}
use Rattle.std.specs.List.{range_with_len}
use Rattle.rmt_build.specs.Types.{Program, Table}
use Rattle.rmt_ast.specs.declared.entry.Entry.{Entry}
use Rattle.rmt_ast.specs.EntryLists.{AreEntries}
use Rattle.rmt_ast.specs.WellFormed.{IsProgram}
use Rattle.rmt_pack.specs.declared.placement.Part.{Part}
use Rattle.rmt_pack.specs.Placements.{data_bits, key_bits, quanta_in, quanta_of, taken_in}
use Rattle.rmt_phv.specs.Places.{KeepsApart}
use Rattle.rmt_place.specs.Placing.{AreTwo, IsPart}
use Rattle.rmt_refine.specs.Units.{table_at}
use Rattle.rmt_filling.specs.declared.memory.PartNeed.{PartNeed}
use Rattle.rmt_filling.specs.declared.memory.Taken.{Taken}
use Rattle.rmt_filling.specs.declared.plan.Plan.{Plan}
use Rattle.rmt_filling.specs.declared.stands.Stand.{Stand}
use Rattle.rmt_vliw.specs.Folding.{AreFoldings}
use Rattle.rmt_filling.specs.EntryCells.{StandOnce, cells_for, stands_within}
use Rattle.rmt_filling.specs.Formats.{format_at, formats_of}

-- ---- parts

-- the quanta of a node in the stages before one
abbrev pub quanta_before : List Part → ℕ → ℕ → ℕ
quanta_before parts n k = sum_by (quanta_in parts n) (range_with_len 0 k)

-- the parts of a node in the stages before one
abbrev pub parts_before : List Part → ℕ → ℕ → ℕ
parts_before parts n k = count_by (λ j. nat_lt 0 (quanta_in parts n j)) (range_with_len 0 k)

-- The parts of the nodes of a program, in the formats of the rule: each is of one of its nodes, in a stage of the chip, and has a quantum; no two
-- are of one node in one stage; each node has all its quanta; and the blocks of a stage are enough.
pub record AreParts (p : Program) (parts : List Part) : Type 0 where
  pub each : All (IsPart (length p.nodes)) parts
  pub apart : AllPairs AreTwo parts
  pub whole : (n : ℕ) → n < length p.nodes → (format_at p n).quanta ≤ quanta_of parts n
  pub sram : (k : ℕ) → taken_in p parts (λ n. (format_at p n).sram) k ≤ 106
  pub tcam : (k : ℕ) → taken_in p parts (λ n. (format_at p n).tcam) k ≤ 16

-- what the memory of the table of node n has to hold in stage k
abbrev pub need_in : Program → List Part → Table → ℕ → ℕ → PartNeed
need_in p parts t n k = record {
  format = format_at p n;
  quanta = quanta_in parts n k;
  before = parts_before parts n k;
  key = key_bits p t;
  held = data_bits p t;
  counted = t.counted;
}

-- the blocks of stage k that the nodes before node n take
abbrev pub taken_upto : Program → List Part → ℕ → ℕ → Taken
taken_upto p parts k n = record {
  sram = sum_by (λ m. quanta_in parts m k * (format_at p m).sram) (range_with_len 0 n);
  tcam = sum_by (λ m. quanta_in parts m k * (format_at p m).tcam) (range_with_len 0 n);
}

-- ---- a plan

-- the entries of the table of node n that stand in its part in stage k, by the cells of the part; without a key there are none
abbrev pub stands_of_part : Program → Plan → Table → ℕ → ℕ → List Stand
stands_of_part p plan t n k =
    let cells = cells_for t.kind (format_at p n).per in
    let parts = plan.placement.parts in
    stands_within (cells (quanta_before parts n k)) (cells (quanta_in parts n k)) (slice_index_or plan.stands n [])

-- the entries of each node stand, each in one cell of its table
pub record AreStands (p : Program) (lists : List (List Entry)) (parts : List Part) (stands : List (List Stand)) : Type 0 where
  pub all_there : length stands ≡ length lists
  pub each : (n : ℕ) (es : List Entry) (own : List Stand) → slice_get lists n ≡ Some es → slice_get stands n ≡ Some own → StandOnce (length es) own
  pub within : (n : ℕ) (t : Table) (own : List Stand) → table_at p n ≡ Some t → slice_get stands n ≡ Some own
      → All (λ (s : Stand). s.cell < cells_for t.kind (format_at p n).per (quanta_of parts n)) own

-- where everything is to stand, for a program with these entries
pub record IsPlan (p : Program) (lists : List (List Entry)) (plan : Plan) : Type 0 where
  pub folded : AreFoldings p plan.folded
  pub places : KeepsApart p plan.places
  pub parts : AreParts p plan.placement.parts
  pub formats : plan.formats ≡ formats_of p
  pub stands : AreStands p lists plan.placement.parts plan.stands

-- it is for a well-formed program with these entries, and the chip has a stage k
pub record IsPlanned (p : Program) (lists : List (List Entry)) (plan : Plan) (k : ℕ) : Type 0 where
  pub program : IsProgram p
  pub entries : AreEntries p lists
  pub is_plan : IsPlan p lists plan
  pub stage : k < 32
