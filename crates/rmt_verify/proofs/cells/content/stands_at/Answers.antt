use Rattle.std.proofs.Common.{arith}
use Rattle.rmt_verify.proofs.ContentLaws.{way_low}
use Rattle.rmt_verify.proofs.cells.content.stands_at.Goals as goal

pub overflow_cast-way : goal.overflow_cast-way
overflow_cast-way c =
    let m = c.args.memory.now in
    let low = way_low m.per m.quanta c.args.cell c.requires.per c.requires.quanta c.requires.cell in
    omega (arith, low)

pub overflow_add-way : goal.overflow_add-way
overflow_add-way c =
    let m = c.args.memory.now in
    let low = way_low m.per m.quanta c.args.cell c.requires.per c.requires.quanta c.requires.cell in
    let ways = c.requires.ways in
    omega (arith, low, ways)
