use Rattle.std.proofs.Common.{List, get_or, take, length, reverse, sym, ap, refl, ◌∙◌, arith}
use Rattle.rmt_bits.specs.declared.lane.Lane.{Lane}
use Rattle.rmt_ast.specs.Places.{lanes_of}
use Rattle.rmt_verify.proofs.PlaceLaws.{high_rest, rest_front, rest_long}
use Rattle.rmt_verify.proofs.places.lookup.are_high_first.Goals as goal

pub returns-then-rest-own : goal.returns-then-rest-own
returns-then-rest-own c = (
  λ no. absurd cc,
  λ all. absurd (
      let more = high_rest c.args.places.now c.args.fields.now c.loop-field.field-index (get_or c.args.fields.now c.loop-field.field-index 0) c.args.lanes.now c.loop-field.rest.now (omega (arith, c.loop-field-test.true)) refl c.loop-field.invariant all in
      omega (arith, c.if-rest-own.true, ap length c.lanes_at-own.ensures, rest_long c.loop-field.rest.now (lanes_of c.args.places.now (get_or c.args.fields.now c.loop-field.field-index 0)) more.0 more.1)),
)

pub returns-then-not-are_reversed : goal.returns-then-not-are_reversed
returns-then-not-are_reversed c = (
  λ no. absurd cc,
  λ all. absurd (
      let more = high_rest c.args.places.now c.args.fields.now c.loop-field.field-index (get_or c.args.fields.now c.loop-field.field-index 0) c.args.lanes.now c.loop-field.rest.now (omega (arith, c.loop-field-test.true)) refl c.loop-field.invariant all in
      let front = rest_front c.loop-field.rest.now (lanes_of c.args.places.now (get_or c.args.fields.now c.loop-field.field-index 0)) more.0 more.1 in
      let yes = c.are_reversed.ensures.1 (c.split_at.ensures.front ∙ ap (λ (ls : List Lane). take (length ls) c.loop-field.rest.now) c.lanes_at-own.ensures ∙ front ∙ ap (λ (ls : List Lane). reverse ls) (sym c.lanes_at-own.ensures)) in
      cc),
)
