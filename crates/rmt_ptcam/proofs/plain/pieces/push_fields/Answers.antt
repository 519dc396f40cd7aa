use Rattle.std.proofs.Common.{◌+◌, ◌++◌, ℕ, List, drop, sym, ap, ◌∙◌, arith}
use Rattle.std.proofs.lemmas.List.{at_drop_all, append-nil}
use Rattle.rmt_bits.specs.declared.lane.Lane.{Lane}
use Rattle.rmt_ptcam.specs.Plain.{bits_from}
use Rattle.rmt_phv.specs.Places.{high_first}
use Rattle.rmt_ptcam.proofs.PlainLaws.{lanes_in_order-drop, lane_bits-drop}
use Rattle.rmt_ptcam.proofs.plain.pieces.push_fields.Goals as goal

pub push_field-requires : goal.push_field-requires
push_field-requires c =
    let more = lane_bits-drop c.args.places.now c.args.fields.now c.loop-field.field-index c.loop-field-test.true in
    omega (arith, more, c.loop-field.invariant.bits, c.requires)

pub loop-field-preserved : goal.loop-field-preserved
loop-field-preserved c =
    let places = c.args.places.now in
    let fields = c.args.fields.now in
    let i = c.loop-field.field-index in
    let more = lane_bits-drop places fields i c.loop-field-test.true in
    record {
      bits = omega (arith, more, c.loop-field.invariant.bits, c.in_ok-from.ensures.behind);
      pushed = c.in_ok-from.ensures.pushed (high_first places (drop (i + 1) fields))
          ∙ sym (ap (λ (ls : List Lane). c.loop-field.extracts ++ bits_from c.loop-field.from ls) (lanes_in_order-drop places fields i c.loop-field-test.true))
          ∙ c.loop-field.invariant.pushed;
    }

pub returns : goal.returns
returns c =
    sym (append-nil c.loop-field.extracts)
    ∙ sym (at_drop_all (λ (gs : List ℕ). c.loop-field.extracts ++ bits_from c.loop-field.from (high_first c.args.places.now gs)) c.args.fields.now c.loop-field.field-index c.loop-field-test.false)
    ∙ c.loop-field.invariant.pushed
