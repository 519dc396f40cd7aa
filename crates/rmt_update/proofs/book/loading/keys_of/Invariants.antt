use Rattle.std.proofs.Common.{◌≡◌, take}
use Rattle.rmt_ast.specs.NameRules.{terms_of_name}
use Rattle.rmt_update.specs.FirstFull.{keys_of}
use Rattle.rmt_update.proofs.book.loading.keys_of.Given as goal

-- the keys so far
abbrev pub invariant-loop-entry : goal.invariant-loop-entry
invariant-loop-entry l = l.keys ≡ keys_of (terms_of_name l.name) (take l.entry-index l.entries)
