use Rattle.std.proofs.Common.{subst, arith}
use Rattle.std.specs.Prelude.{zip}
use Rattle.rmt_update.specs.Differences.{AllPut, changes_in}
use Rattle.rmt_update.proofs.PutChanges.{pair-put, put-none, take-past, zip-seen, zip-short}
use Rattle.rmt_update.proofs.book.differences.put_parts.Goals as goal

pub loop-part-init : goal.loop-part-init
loop-part-init c = put-none (changes_in c.args.changes.now.items)

pub loop-part-preserved : goal.loop-part-preserved
loop-part-preserved c =
    let old = c.args.old.now in
    let new = c.args.new.now in
    pair-put (zip old new) c.loop-part.part (c.index-old-part.result, c.index-new-part.result) (changes_in c.args.changes.now.items) (changes_in c.loop-part.changes.items) (changes_in c.put_part.new.changes.items)
    (zip-seen old new c.loop-part.part c.index-old-part.result c.index-new-part.result c.requires.same c.loop-part-test.true c.index-old-part.is c.index-new-part.is) c.loop-part.invariant c.in_ok-put_part.ensures

pub returns : goal.returns
returns c =
    let past = c.loop-part-test.false in
    let short = zip-short c.args.old.now c.args.new.now in
    subst (λ ps. AllPut ps (changes_in c.args.changes.now.items) (changes_in c.loop-part.changes.items)) (take-past (zip c.args.old.now c.args.new.now) c.loop-part.part (omega (arith, past, short))) c.loop-part.invariant
