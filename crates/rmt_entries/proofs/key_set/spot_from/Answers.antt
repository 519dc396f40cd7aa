use Rattle.std.proofs.Common.{◌∙◌, sym, arith}
use Rattle.rmt_entries.proofs.KeySetLaws.{crowded_here, free_here, held_here, not_here}
use Rattle.rmt_entries.proofs.key_set.spot_from.Goals as goal

pub returns-then-slot-eq0 : goal.returns-then-slot-eq0
returns-then-slot-eq0 c =
    sym (c.loop-left.invariant.same ∙ free_here c.args.slots.now c.args.held.now c.loop-left.left c.loop-left.place c.args.key.now (omega (arith, c.loop-left-test.true)) c.if-slot-eq0.true)

pub returns-then-is_list_at : goal.returns-then-is_list_at
returns-then-is_list_at c =
    sym (c.loop-left.invariant.same ∙ held_here c.args.slots.now c.args.held.now c.loop-left.left c.loop-left.place c.args.key.now (omega (arith, c.loop-left-test.true)) c.if-slot-eq0.false (sym c.is_list_at.ensures ∙ c.if-is_list_at.true))

pub loop-left-preserved : goal.loop-left-preserved
loop-left-preserved c = record {
  same = c.loop-left.invariant.same ∙ not_here c.args.slots.now c.args.held.now c.loop-left.left c.loop-left.place c.args.key.now (omega (arith, c.loop-left-test.true)) c.if-slot-eq0.false (sym c.is_list_at.ensures ∙ c.if-is_list_at.false);
  room = omega (arith, c.loop-left.invariant.room, c.loop-left-test.true);
}

pub returns : goal.returns
returns c = sym (c.loop-left.invariant.same ∙ crowded_here c.args.slots.now c.args.held.now c.loop-left.left c.loop-left.place c.args.key.now (omega (arith, c.loop-left-test.false)))
