use Rattle.std.proofs.Common.{◌≡◌, ◌+◌, drop, get_or, sym, ap, subst, ◌∙◌, arith}
use Rattle.std.proofs.lemmas.List.{drop_all}
use Rattle.rmt_config.specs.Order.{rises_from}
use Rattle.rmt_config.proofs.RiseLaws.{one_off, rise_on}
use Rattle.rmt_config.proofs.form.names.key_prints.rise.Goals as goal

pub loop-print-preserved : goal.loop-print-preserved
loop-print-preserved c =
    let ns = c.args.prints.now in
    let i = c.loop-print.print-index in
    subst (λ n. rises_from (n + 1) (drop (i + 1) ns) ≡ rises_from 0 ns) (sym c.from-least.ensures)
    (rise_on c.loop-print.least (get_or ns i 0) (drop i ns) (drop (i + 1) ns) _ (one_off ns i 0 c.loop-print-test.true) (omega (arith, c.from.ensures, c.if-from-least.false)) c.loop-print.invariant)

pub returns : goal.returns
returns c = sym (ap (rises_from c.loop-print.least) (drop_all c.loop-print.print-index c.args.prints.now c.loop-print-test.false)) ∙ c.loop-print.invariant
