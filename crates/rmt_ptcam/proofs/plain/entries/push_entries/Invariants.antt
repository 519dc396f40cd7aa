use Rattle.std.proofs.Common.{◌≡◌, ◌++◌, map, take}
use Rattle.rmt_ptcam.specs.Plain.{entry_of_case}
use Rattle.rmt_ptcam.proofs.plain.entries.push_entries.Given as goal

abbrev pub invariant-loop-case : goal.invariant-loop-case
invariant-loop-case l = l.entries ≡ l.initial.entries ++ map (entry_of_case l.program l.places l.number l.header) (take l.case-index l.case-items)
