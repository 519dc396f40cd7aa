use Rattle.std.proofs.Common.{◌≡◌, ◌++◌, ◌∷◌, drop, map}
use Rattle.rmt_ast.specs.declared.program.Test.{Test}
use Rattle.rmt_entries.proofs.gathered.put_identity.Given as goal

-- the key so far, and then the values of the other tests
abbrev pub invariant-loop-test : goal.invariant-loop-test
invariant-loop-test l = l.key.items ++ map (λ (t : Test). t.value) (drop l.test-index l.test-items) ≡ l.entry.table ∷ l.entry.rank ∷ map (λ (t : Test). t.value) l.test-items
