use Rattle.std.proofs.Common.{◌≡◌, ◌++◌, drop, map}
use Rattle.rmt_config.specs.PartsTold.{part_at}
use Rattle.rmt_config.specs.PrefixRows.{row_in}
use Rattle.rmt_config.proofs.form.names.prefix.put_rows.Given as goal

abbrev pub invariant-loop-number : goal.invariant-loop-number
invariant-loop-number l =
    let row = row_in l.config (part_at l.part) in
    l.rows.items ++ map row (drop l.number-index l.part.slot.now.numbers) ≡ l.fn.rows.items ++ map row l.part.slot.now.numbers
