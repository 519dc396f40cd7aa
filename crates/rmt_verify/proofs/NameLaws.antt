-- Names that are those of a program and its entries.
use Rattle.std.proofs.Common.{◌≡◌, ◌↔◌, List, subst, sym}
use Rattle.rmt_ast.specs.declared.entry.Entry.{Entry}
use Rattle.rmt_ast.specs.declared.names.Names.{Names}
use Rattle.rmt_ast.specs.EntryLists.{AreEntries}
use Rattle.rmt_ast.specs.Naming.{names_of}
use Rattle.rmt_ast.specs.WellFormed.{IsProgram}
use Rattle.rmt_config.specs.Form.{Formed, visible_with}
use Rattle.rmt_config.specs.NamesForm.{entries_spelled}
use Rattle.rmt_refine.specs.declared.map.Map.{Map}
use Rattle.rmt_refine.specs.Types.{Program, Config}
use Rattle.rmt_refine.specs.Cells.{CellsCarried}
use Rattle.rmt_refine.specs.Named.{NamesCarried}
use Rattle.rmt_refine.specs.Units.{UnitsCarried}
use Rattle.rmt_refine.specs.View.{own_view}
use Rattle.rmt_refine.proofs.SpelledLaws.{lists_spelled}

-- where the cells hold the entries, names that are the program's spell them
pub named : (p : Program) (lists : List (List Entry)) (m : Map) (c : Config) → IsProgram p → AreEntries p lists → Formed c
    → UnitsCarried p m.places m.placement.parts m.starts c → CellsCarried p c (own_view c) m.cells lists
    → (names : Names) → (names ≡ names_of p lists) ↔ NamesCarried p lists c names
named p lists m c program entries formed units cells names = (
  λ same. record {
    names_are = same;
    entries = subst (λ (x : Names). entries_spelled c x ≡ lists) (sym same) (lists_spelled p lists m c (visible_with c.names) program entries units m.cells cells formed.whole.memory);
  },
  λ carried. carried.names_are,
)
