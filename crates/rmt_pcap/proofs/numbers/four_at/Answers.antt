use Rattle.std.proofs.Common.{◌∙◌, arith}
use Rattle.std.proofs.lemmas.Bool.{cond-true, cond-false}
use Rattle.rmt_pcap.proofs.FieldLaws.{field_four}
use Rattle.rmt_pcap.proofs.numbers.four_at.Goals as goal

pub returns-then-big : goal.returns-then-big
returns-then-big c =
    let e = field_four c.args.big c.args.at c.args.bytes.now c.requires ∙ cond-true c.args.big _ _ c.if-big.true in
    omega (arith, e, c.two_at.ensures, c.two_at-2.ensures)

pub returns-else-big : goal.returns-else-big
returns-else-big c =
    let e = field_four c.args.big c.args.at c.args.bytes.now c.requires ∙ cond-false c.args.big _ _ c.if-big.false in
    omega (arith, e, c.two_at.ensures, c.two_at-2.ensures)
