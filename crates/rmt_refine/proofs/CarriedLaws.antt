-- Where a configuration carries a program, the outcome of each node of the program's run is set in some stage.
use Rattle.std.proofs.Common.{ℕ, List}
use Rattle.rmt_refine.specs.Types.{Program, Config}
use Rattle.rmt_ast.specs.declared.entry.Entry.{Entry}
use Rattle.rmt_ast.specs.Control.{run}
use Rattle.rmt_ast.specs.EntryLists.{AreEntries}
use Rattle.rmt_ast.specs.State.{IsState}
use Rattle.rmt_ast.specs.WellFormed.{IsProgram}
use Rattle.rmt_refine.specs.declared.map.Map.{Map}
use Rattle.rmt_refine.specs.View.{View}
use Rattle.rmt_refine.specs.Carries.{CarriesIn}
use Rattle.rmt_refine.specs.Outcomes.{entries_at, run_before}
use Rattle.rmt_refine.proofs.EdgeLaws.{children_follow}
use Rattle.rmt_refine.proofs.OutcomeLaws.{is_run, set_at}
use Rattle.rmt_refine.proofs.StageLaws.{IsRun}

module _ (p : Program) (lists : List (List Entry)) (m : Map) (c : Config) (v : View) (s : List ℕ) (program : IsProgram p) (entries : AreEntries p lists) (state : IsState p s)
    (carries : CarriesIn p lists m c v) where
  -- the stage in which the outcome of each node is set
  abbrev pub set_in : ℕ → ℕ
  set_in =
      set_at p lists m.places m.placement.parts m.starts c v m.cells s program entries state carries.units carries.cells
      (children_follow p m.places m.placement.parts m.starts c program carries.units carries.edges)

  pub carried_run : IsRun p m.places m.placement.parts m.starts c v (entries_at lists) (λ n. (run_before p lists s n).state) (run p lists s).outcomes set_in
  carried_run =
      is_run p lists m.places m.placement.parts m.starts c v m.cells s program entries state carries.units carries.cells
      (children_follow p m.places m.placement.parts m.starts c program carries.units carries.edges)
