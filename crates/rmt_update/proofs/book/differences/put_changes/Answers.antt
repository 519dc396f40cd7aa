use Rattle.std.proofs.Common.{◌≡◌, ℕ, map, ◌∙◌, subst}
use Rattle.std.specs.Borrow.{Bor}
use Rattle.std.specs.Prelude.{All}
use Rattle.std.specs.BTreeMap.{keys}
use Rattle.std.proofs.lemmas.List.Elements.{All-contains, All-map, All-nil, All-push, All-weaker}
use Rattle.std.proofs.lemmas.Map.Iter.{iter_end}
use Rattle.rmt_update.specs.Differences.{change_in, changes_in, write_at}
use Rattle.rmt_update.proofs.PutChanges.{more-more, no-more, own-change, puts-more}
use Rattle.rmt_update.proofs.book.differences.put_changes.Goals as goal

pub loop-cell-init : goal.loop-cell-init
loop-cell-init c = λ goal is some. (no-more (changes_in c.args.changes.now.items) goal some, All-nil (λ (k : Bor ℕ). write_at (changes_in c.args.changes.now.items) ((c.args.new.now.stage, c.args.new.now.place), k.now) ≡ goal ((c.args.new.now.stage, c.args.new.now.place), k.now)))

pub loop-cell-preserved : goal.loop-cell-preserved
loop-cell-preserved c = λ goal is some.
    let old = c.args.old.now in
    let new = c.args.new.now in
    let k = c.in-Some.cell in
    let before = c.loop-cell.invariant goal is some in
    let one = puts-more (changes_in c.loop-cell.changes.items) (changes_in c.put_change.new.changes.items) ((new.stage, new.place), k.now) (record { table = c.args.at.0; at = record { part = c.args.at.1; cell = k.now } }) (change_in old new k.now) goal
    (own-change old new k.now c.requires.own) (is k.now) before.0.some c.in_ok-put_change.ensures in (
      more-more (changes_in c.args.changes.now.items) (changes_in c.loop-cell.changes.items) (changes_in c.put_change.new.changes.items) goal before.0 one.0,
      All-push (λ (q : Bor ℕ). write_at (changes_in c.put_change.new.changes.items) ((new.stage, new.place), q.now) ≡ goal ((new.stage, new.place), q.now)) c.loop-cell.yielded k
          (All-weaker (λ (q : Bor ℕ). write_at (changes_in c.loop-cell.changes.items) ((new.stage, new.place), q.now) ≡ goal ((new.stage, new.place), q.now))
          (λ (q : Bor ℕ). write_at (changes_in c.put_change.new.changes.items) ((new.stage, new.place), q.now) ≡ goal ((new.stage, new.place), q.now)) (λ q h. one.0.stay ((new.stage, new.place), q.now) h) c.loop-cell.yielded before.1) one.1,
    )

pub returns : goal.returns
returns c = λ goal is some.
    let new = c.args.new.now in
    let inv = c.loop-cell.invariant goal is some in
    let P : ℕ → Type 0 = λ n. write_at (changes_in c.loop-cell.changes.items) ((new.stage, new.place), n) ≡ goal ((new.stage, new.place), n) in
    let all : map (λ (k : Bor ℕ). k.now) c.loop-cell.yielded ≡ keys c.args.cells.now =
    (iter_end (λ (k : Bor ℕ). k.now) c.keys-cell-items.result c.loop-cell.yielded c.into_iter-cell-iterator.result c.loop-cell.cell-iterator c.next.new.self c.next.result
    c.into_iter-cell-iterator.ensures.into_iter_gives c.loop-cell.yielded_by c.in-None.is c.next.ensures.steps).0 ∙ c.keys-cell-items.ensures.rest in
    (inv.0, λ n there. All-contains P (keys c.args.cells.now) n (subst (All P) all (All-map P (λ (k : Bor ℕ). k.now) c.loop-cell.yielded inv.1)) there)
