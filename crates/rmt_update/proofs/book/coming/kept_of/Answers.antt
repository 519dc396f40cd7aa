use Rattle.std.proofs.Common.{arith, refl}
use Rattle.rmt_update.proofs.ComingLaws.{keeps-entry, key-long, key-told}
use Rattle.rmt_update.proofs.book.coming.kept_of.Goals as goal

pub returns-clause-keeps : goal.returns-clause-keeps
returns-clause-keeps c =
    keeps-entry c.args.table.now c.args.first c.args.cell c.args.visible c.args.entry.now _ c.requires.entry c.requires.visible refl refl refl refl refl (key-told c.args.table.now c.args.entry.now c.args.key.items c.requires.entry c.requires.key) c.in_ok-mask.ensures.number c.in_ok-held.ensures.number

pub returns-clause-sizes : goal.returns-clause-sizes
returns-clause-sizes c = record { key = key-long c.args.table.now c.args.entry.now c.args.key.items c.requires.key; mask = c.in_ok-mask.ensures.size; held = c.in_ok-held.ensures.size }

pub invariant_of-result-clause-key_short : goal.invariant_of-result-clause-key_short
invariant_of-result-clause-key_short c =
    let long = key-long c.args.table.now c.args.entry.now c.args.key.items c.requires.key in
    let few = c.requires.keys in
    omega (arith, long, few)
