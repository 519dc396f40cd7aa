use Rattle.std.proofs.Common.{◌-◌, ◌^◌, Bool, sym, ap, ◌∙◌}
use Rattle.std.specs.Prelude.{if◌then◌else◌}
use Rattle.rmt_bits.specs.Bits.{number_of, slice}
use Rattle.rmt_book.proofs.ToldLaws.{ones-slice}
use Rattle.rmt_book.proofs.told.mask_from.Goals as goal

pub returns-then-whole : goal.returns-then-whole
returns-then-whole c = λ bits le.
    c.ones.ensures ∙ ones-slice bits c.args.low c.args.len le
    ∙ ap (λ (b : Bool). slice (if b then 2 ^ bits - 1 else number_of c.args.mask.now) c.args.low c.args.len) (sym c.if-whole.true)

pub returns-else-whole : goal.returns-else-whole
returns-else-whole c = λ bits le.
    c.bits_from.ensures
    ∙ ap (λ (b : Bool). slice (if b then 2 ^ bits - 1 else number_of c.args.mask.now) c.args.low c.args.len) (sym c.if-whole.false)
