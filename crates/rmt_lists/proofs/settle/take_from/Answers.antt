use Rattle.std.proofs.Common.{arith, not, sym, ◌∙◌}
use Rattle.rmt_bits.specs.Members.{is_among}
use Rattle.rmt_ast.specs.declared.entry.Entry.{Entry}
use Rattle.rmt_lists.proofs.SettleLaws.{keeps_below, kept_whole}
use Rattle.rmt_lists.proofs.settle.take_from.Goals as goal

pub returns-in-Some-eq0 : goal.returns-in-Some-eq0
returns-in-Some-eq0 c low =
    let whole = c.in-Some-eq0.ensures in
    let left = c.requires.counts whole.0 whole.1 in
    let count = whole.2 in
    let none = c.in-Some-eq0.field-0-is in
    sym (kept_whole (λ (e : Entry). not (is_among c.args.gone.now.keys e.number)) c.args.list.now (omega (arith, left, count, none)))

pub returns-in_default : goal.returns-in_default
returns-in_default c low = c.keep.ensures ∙ keeps_below c.args.gone.now.keys c.args.above c.args.list.now low
