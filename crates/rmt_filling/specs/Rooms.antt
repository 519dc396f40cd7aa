-- Parts of tables whose entries can be written.
use Rattle.std.specs.Prelude.{◌≡◌, ◌≢◌, ◌<◌, ◌≤◌, ◌+◌, ℕ, List, ⊤, All, AllPairs, length}
use Rattle.rmt_filling.specs.Types.{Program, Table, Memory}
use Rattle.rmt_ast.specs.declared.program.Kind.TheVariants as kind
use Rattle.rmt_ast.specs.declared.entry.Entry.{Entry}
use Rattle.rmt_ast.specs.EntryLists.{IsEntry, terms_of}
use Rattle.rmt_ast.specs.WellFormed.{IsProgram, IsTable}
use Rattle.rmt_config.specs.declared.config.Memory.TheVariants.{Without, Exact, Ternary}
use Rattle.rmt_pack.specs.Placements.{data_bits, key_bits}
use Rattle.rmt_pack.specs.Shape.{IsShape}
use Rattle.rmt_filling.specs.declared.stands.Stand.{Stand}
use Rattle.rmt_filling.specs.Holding.{AreKeyBlocks, exact_part, ternary_part}

-- entries of a table that some node applies
abbrev pub AreOf : Program → Table → List Entry → Type 0
AreOf p t es = (n : ℕ) × All (IsEntry n (terms_of p t)) es

-- Entries of a table of a program can be written: its instructions, of which the first has this number, are among the 32 of a stage.
pub record CanBeWritten (p : Program) (t : Table) (es : List Entry) (first : ℕ) : Type 0 where
  pub program : IsProgram p
  pub table : IsTable p t
  pub entries : AreOf p t es
  pub few : first + length t.actions ≤ 32

-- entries that stand in cells, so many, no two in one
pub record StandApart (count many : ℕ) (stands : List Stand) : Type 0 where
  pub entries : All (λ (s : Stand). s.entry < count) stands
  pub cells : All (λ (s : Stand). s.cell < many) stands
  pub apart : AllPairs (λ (a b : Stand). a.cell ≢ b.cell) stands

-- a memory has the blocks that the entries of a table take
abbrev pub HasBlocks : Program → Table → Memory → Type 0
HasBlocks p t Without = ⊤
HasBlocks p t (Exact k per d w ks rs cs) = (t.kind ≡ kind.Exact) × IsShape (exact_part (key_bits p t) (data_bits p t) k per d ks rs)
HasBlocks p t (Ternary d ks rs cs) = (t.kind ≢ kind.Keyless) × IsShape (ternary_part (key_bits p t) (data_bits p t) d rs) × AreKeyBlocks (key_bits p t) d ks
