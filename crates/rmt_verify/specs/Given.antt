-- What the parts of the check are given, and the words that they share, passed on by one name.
use Rattle.std.specs.Prelude.{List}
use Rattle.rmt_bits.specs.declared.lane.Lane.{Lane}
use Rattle.rmt_ast.specs.declared.entry.Entry.{Entry}
use Rattle.rmt_refine.specs.Types.{Program, Config}
pub use Rattle.rmt_bits.specs.declared.fault.OutOfMemory.{OutOfMemory}
pub use Rattle.rmt_ast.specs.EntryLists.{AreEntries}
pub use Rattle.rmt_ast.specs.WellFormed.{IsProgram}
pub use Rattle.rmt_config.specs.Form.{Formed}
pub use Rattle.rmt_phv.specs.Places.{KeepsApart}
pub use Rattle.rmt_refine.specs.Cells.{CellsCarried}
pub use Rattle.rmt_refine.specs.Units.{UnitsCarried}
pub use Rattle.rmt_refine.specs.View.{own_view}

-- a program with its entries, and a formed configuration
pub record IsGiven (p : Program) (lists : List (List Entry)) (c : Config) : Type 0 where
  pub program : IsProgram p
  pub entries : AreEntries p lists
  pub formed : Formed c

-- a program, places that keep its fields apart, and a formed configuration
pub record IsPlaced (p : Program) (lanes : List (List Lane)) (c : Config) : Type 0 where
  pub program : IsProgram p
  pub places : KeepsApart p lanes
  pub formed : Formed c
