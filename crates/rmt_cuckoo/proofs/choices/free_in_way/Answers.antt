use Rattle.std.proofs.Common.{◌≤◌, ◌+◌, ◌*◌, arith}
use Rattle.rmt_cuckoo.proofs.RowLaws.{taken_row}
use Rattle.rmt_cuckoo.proofs.choices.free_in_way.Goals as goal

pub returns-then-end-taken-clause-none : goal.returns-then-end-taken-clause-none
returns-then-end-taken-clause-none c = λ _.
    let le : c.args.way.first + c.args.way.rows * c.args.way.per ≤ c.args.taken = omega arith in
    taken_row c.args.seed c.args.taken c.args.key.now c.args.holders.now c.args.way c.requires.way.0 le c.requires.taken
