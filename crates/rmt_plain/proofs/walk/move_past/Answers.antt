use Rattle.std.proofs.Common.{◌≡◌, List, ap, ◌∙◌, length, arith}
use Rattle.std.specs.Prelude.{slice_set}
use Rattle.std.proofs.lemmas.List.{with_items_is}
use Rattle.rmt_plain.specs.declared.reached.Span.{Span}
use Rattle.rmt_plain.proofs.WalkLaws.{behind_tail_is}
use Rattle.rmt_plain.proofs.walk.move_past.Goals as goal

pub returns : goal.returns
returns c =
    let old = c.args.reached.now in
    let size : length c.put_at.new.items ≡ old.tails.len = omega (arith, c.put_at.auto.items, c.deref_mut.ensures.len) in
    behind_tail_is c.args.frame.now old.state.items c.args.number c.args.bytes old.at old.tails.items _
    (with_items_is old.tails c.put_at.new.items size ∙ c.put_at.ensures
    ∙ ap (λ (spans : List Span). slice_set spans c.args.number (record { from = old.at; len = c.args.bytes })) c.deref_mut.ensures.value)
