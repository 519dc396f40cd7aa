use Rattle.std.proofs.Common.{◌+◌, ◌/◌, ◌^◌, ◌++◌, List, ℕ, get_or, drop, sym, ap, ◌∙◌, arith}
use Rattle.rmt_bits.specs.Bits.{number_of}
use Rattle.rmt_config.specs.NamesForm.{args_of_data}
use Rattle.rmt_book.proofs.ToldLaws.{args-more, width-first}
use Rattle.rmt_book.proofs.told.args_of.Goals as goal

pub loop-width-preserved : goal.loop-width-preserved
loop-width-preserved c =
    let l = c.loop-width in
    let w = get_or c.args.widths.now l.width-index 0 in
    let rest = drop (l.width-index + 1) c.args.widths.now in
    let held = number_of c.args.held.now in
    let b = c.type_inv.widths l.width-index in
    record {
      few = omega (arith, b);
      so_far = ap (λ (vs : List ℕ). vs ++ args_of_data rest (held / 2 ^ (l.low + w))) c.in_ok-push.ensures.ok
          ∙ args-more l.args w rest held l.low c.bits_from.result (args_of_data c.args.widths.now held) c.bits_from.ensures
          (ap (λ (vs : List ℕ). l.args ++ args_of_data vs (held / 2 ^ l.low)) (sym (width-first c.args.widths.now l.width-index c.loop-width-test.true)) ∙ l.invariant.so_far);
    }
