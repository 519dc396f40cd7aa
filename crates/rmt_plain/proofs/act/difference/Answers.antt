use Rattle.std.proofs.Common.{◌-◌, ◌%◌, ◌^◌, ap, ◌∙◌, arith}
use Rattle.std.proofs.Math.Nat.{div-one}
use Rattle.std.proofs.lemmas.Nat.{pow_pos}
use Rattle.rmt_plain.proofs.WidthLaws.{less-mod, more-mod}
use Rattle.rmt_plain.proofs.act.difference.Goals as goal

pub returns-then-b-a : goal.returns-then-b-a
returns-then-b-a c =
    c.slice.ensures ∙ ap (λ n. n % 2 ^ c.args.width) (div-one (c.args.a - c.args.b)) ∙ less-mod c.args.a c.args.b (2 ^ c.args.width) c.if-b-a.true

pub returns-else-b-a : goal.returns-else-b-a
returns-else-b-a c =
    let greatest = c.greatest.ensures in
    let same = c.saturating_sub.ensures in
    let found = more-mod c.args.a c.args.b (2 ^ c.args.width) c.if-b-a.false (pow_pos c.args.width) in
    omega arith
