use Rattle.std.proofs.Common.{◌≡◌, map, take, zip}
use Rattle.rmt_check.specs.Parts.{Ident, ValueText}
use Rattle.rmt_check.specs.Names.{selected, width_of}
use Rattle.rmt_check.specs.Meaning.{test_of}
use Rattle.rmt_check.proofs.building.headers.tests_of.Given as goal

abbrev pub invariant-loop-number : goal.invariant-loop-number
invariant-loop-number g l =
    l.tests.items
    ≡ map (λ (x : Ident × ValueText). test_of (width_of (g.N.Lookup.text l.names) (selected (g.N.Lookup.text l.names) l.header x.0)) x.1) (take l.number (zip l.header.select l.values))
