use Rattle.std.proofs.Common.{◌+◌, ◌%◌, ◌^◌, ap, ◌∙◌}
use Rattle.std.proofs.Math.Nat.{div-one}
use Rattle.rmt_plain.proofs.WidthLaws.{mod-128}
use Rattle.rmt_plain.proofs.act.sum.Goals as goal

pub returns : goal.returns
returns c =
    c.slice.ensures ∙ ap (λ n. n % 2 ^ c.args.width) (div-one ((c.args.a + c.args.b) % 2 ^ 128)) ∙ mod-128 (c.args.a + c.args.b) c.args.width c.requires
