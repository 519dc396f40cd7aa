use Rattle.std.proofs.Common.{◌≡◌, ◌++◌, ◌∷◌, drop}
use Rattle.rmt_lists.specs.Holding.{spelled_tests}
use Rattle.rmt_lists.proofs.held.spelled.Given as goal

-- the numbers so far, and then those of the other tests
abbrev pub invariant-loop-test : goal.invariant-loop-test
invariant-loop-test l = l.key.items ++ spelled_tests (drop l.test-index l.tests) ≡ l.rank ∷ spelled_tests l.tests
