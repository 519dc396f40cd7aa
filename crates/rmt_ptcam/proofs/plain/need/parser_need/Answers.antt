use Rattle.std.proofs.Common.{◌≡◌, ◌+◌, None, Option, ap, drop, sym, ◌∙◌}
use Rattle.std.specs.Option.{option_or}
use Rattle.rmt_ptcam.specs.declared.fault.ParserFault.{ParserFault}
use Rattle.rmt_ptcam.specs.Needs.{first_fault, header_fault}
use Rattle.rmt_ptcam.proofs.NeedLaws.{headers_more, unless_ok}
use Rattle.rmt_ptcam.proofs.plain.need.parser_need.Goals as goal

pub loop-number-preserved : goal.loop-number-preserved
loop-number-preserved c =
    let p = c.args.program.now in
    let n = c.loop-number.number in
    let h = c.header-item.result in
    let none : header_fault p n h ≡ None = unless_ok (header_fault p n h) (tt {0}) (tt {0}) (sym c.header_need.ensures ∙ c.in_ok-header_need.was) in
    c.loop-number.invariant ∙ headers_more p n h _ c.as_slice-header-items.ensures c.loop-number-test.true c.header-item.is
    ∙ ap (λ (o : Option ParserFault). option_or o (first_fault p (n + 1) (drop (n + 1) p.headers))) none
