use Rattle.std.proofs.Common.{sym, ap, ◌∙◌}
use Rattle.rmt_ast.specs.declared.entry.Entry.{Entry}
use Rattle.rmt_ast.specs.RowOrder.{goes_first}
use Rattle.rmt_verify.proofs.OrderLaws.{one_numbered}
use Rattle.rmt_verify.proofs.cells.entries.turns.Goals as goal

pub returns-in-Some-Some-clause-value : goal.returns-in-Some-Some-clause-value
returns-in-Some-Some-clause-value c = λ e f in_e in_f at_e at_f.
    let es = c.args.entries.now in
    let first = c.in-Some-Some.ensures in
    let second = c.in-Some-Some.ensures' in
    let one = one_numbered es c.requires.rising c.in-Some-Some.first.now e first.0 in_e (first.1 ∙ sym at_e) in
    let two = one_numbered es c.requires.rising c.in-Some-Some.second.now f second.0 in_f (second.1 ∙ sym at_f) in
    c.goes_first.ensures ∙ ap (λ (x : Entry). goes_first c.args.kind x c.in-Some-Some.first.now) two ∙ ap (λ (x : Entry). goes_first c.args.kind f x) one
