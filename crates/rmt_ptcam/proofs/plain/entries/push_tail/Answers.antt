use Rattle.std.proofs.Common.{◌≡◌, ℕ, List, ap, ◌∙◌}
use Rattle.rmt_ptcam.specs.Needs.{place_in}
use Rattle.rmt_ptcam.proofs.PlainLaws.{tail_more}
use Rattle.rmt_ptcam.proofs.plain.entries.push_tail.Goals as goal

pub loop-entry-preserved : goal.loop-entry-preserved
loop-entry-preserved c =
    let p = c.args.program.now in
    let h = c.args.header.now in
    let place : c.place_of-from.result ≡ place_in p h.fields c.args.tail.field = c.place_of-from.ensures.place ∙ ap (λ (xs : List ℕ). place_in p xs c.args.tail.field) c.as_slice.ensures in
    tail_more p c.args.number h c.args.tail c.args.first c.loop-entry.entry c.place_of-from.result c.width_of-len.result c.args.tails.now c.loop-entry.tails c.push.new.self c.loop-entry.auto.entry place c.width_of-len.ensures.width
    c.loop-entry.invariant c.in_ok-push.ensures.ok
