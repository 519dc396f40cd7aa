use Rattle.std.proofs.Common.{◌≡◌, ◌+◌, ◌^◌, ◌∙◌, ap, arith}
use Rattle.rmt_entries.specs.Numbers.{below, number}
use Rattle.std.proofs.lemmas.Nat.{pow_pos}
use Rattle.rmt_entries.proofs.numbers.number_of_width.Goals as goal

pub returns : goal.returns
returns c =
    let limit : c.ones.result + 1 ≡ 2 ^ c.args.width = omega (arith, c.ones.ensures, pow_pos c.args.width) in
    c.number.ensures ∙ ap (λ n. below n (number c.args.word.now)) limit
