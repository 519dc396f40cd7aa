-- How large the parts of a text are where the rules of widths and counts are kept.
-- A helper: no public contract cites it.
use Rattle.std.specs.Prelude.{◌≤◌, ◌+◌, ⊤, ℕ, List, Option, Some, None, All, length}
use Rattle.std.specs.List.{sum_by}
use Rattle.std.specs.Option.{IfSome}
use Rattle.rmt_check.specs.Parts.{Declared, TailText, HeaderText, ActionText, KeyText, TableText, NodeText, Source}
use Rattle.rmt_check.specs.Names.{Known, action_names, fields_of, header_names, listed, metadata, nodes_of, param_names, table_names}
use Rattle.rmt_check.specs.Rules.{bits_of}
use Rattle.rmt_check.specs.Naming.{IsUnder}

-- widths of at most 128 bits
abbrev pub AreNarrow : List Declared → Type 0
AreNarrow ds = All (λ (d : Declared). d.width.value ≤ 128) ds

-- an action of at most 16 parameters
pub record IsSizedAction (a : ActionText) : Type 0 where
  pub widths : AreNarrow a.params
  pub few : length (param_names a) ≤ 16

-- a table with a key has at most 1,048,576 entries
abbrev pub IsSizedKey : Option KeyText → Type 0
IsSizedKey None = ⊤
IsSizedKey (Some k) = k.size.value ≤ 1048576

-- and lists at most 14 actions
pub record IsSizedTable (t : TableText) : Type 0 where
  pub size : IsSizedKey t.key
  pub few : length (listed t) ≤ 14

-- a unit and a base of at most 255
pub record IsSizedTail (t : TailText) : Type 0 where
  pub unit : t.unit.value ≤ 255
  pub base : t.base.value ≤ 255

-- a header of at most 512 bits
pub record IsSizedHeader (h : HeaderText) : Type 0 where
  pub widths : AreNarrow h.fields
  pub bits : bits_of h ≤ 512
  pub few : length h.fields ≤ 512
  pub tail : IfSome h.tail IsSizedTail

-- each node of the control stands in an arm of one of its nodes
abbrev pub AreNested : Source → Type 0
AreNested s = All (λ (n : NodeText). IsUnder (length (nodes_of s)) n.under) (nodes_of s)

-- how many numbers some headers have, each one for its valid and one for each field
abbrev pub count_of : List HeaderText → ℕ
count_of hs = sum_by (λ (h : HeaderText). 1 + length h.fields) hs

-- the sizes of the parts of a text
pub record IsSized (s : Source) : Type 0 where
  pub widths : All (λ (f : Known). f.width ≤ 128) (fields_of s)
  pub few_metadata : length (metadata s) ≤ 256
  pub headers : All IsSizedHeader s.headers
  pub few_headers : length (header_names s) ≤ 64
  pub few_fields : count_of s.headers ≤ 32832
  pub actions : All IsSizedAction s.actions
  pub few_actions : length (action_names s) ≤ 256
  pub tables : All IsSizedTable s.tables
  pub few_tables : length (table_names s) ≤ 128
  pub few_nodes : length (nodes_of s) ≤ 128
