use Rattle.std.proofs.Common.{◌≡◌, ◌-◌, length, take, drop, length-drop, arith}
use Rattle.std.proofs.lemmas.List.{take_all}
use Rattle.rmt_packets.proofs.Steps.{no_feed}
use Rattle.rmt_packets.proofs.lines.line_end.Goals as goal

pub returns-in-None-clause-place : goal.returns-in-None-clause-place
returns-in-None-clause-place c =
    let text = c.args.text.now in
    let rest = drop c.args.from text in
    let whole : take (length text - c.args.from) rest ≡ rest = take_all (length text - c.args.from) rest (omega (arith, length-drop c.args.from text)) in
    omega (arith, no_feed rest (rw whole at c.in-None.ensures), length-drop c.args.from text)
