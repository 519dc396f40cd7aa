use Rattle.std.proofs.Common.{ℕ, ◌≤◌, Bool, not, refl, sym, ap, ◌∙◌, subst, arith}
use Rattle.std.specs.Prelude.{sum}
use Rattle.rmt_bits.proofs.ListLaws.{slice_get-seen}
use Rattle.rmt_book.specs.Coming.{HasSizes, KeepsEntry}
use Rattle.rmt_update.specs.NextKept.{bit_of}
use Rattle.rmt_update.specs.Taking.{Holds}
use Rattle.rmt_update.proofs.book.placing.coming_to.Goals as goal
use Rattle.rmt_update.proofs.book.placing.coming_to.Goals.{then-odd, else-odd}

pub kept_of-requires-clause-room : goal.kept_of-requires-clause-room
kept_of-requires-clause-room c = λ a is.
    subst (λ (n : ℕ). sum a.params ≤ n) (sym c.from-held.ensures)
    (subst (Holds c.args.table.now c.args.entry.now) (sym c.index-part.ensures) (c.requires.holds c.args.spot.part c.index-part.result.now c.requires.part) a is)

pub kept_of-requires-clause-code : goal.kept_of-requires-clause-code
kept_of-requires-clause-code c = omega (arith, c.if-part-entry.false, c.if-entry-ge256.false)

pub returns : goal.returns
returns c =
    let parts = c.args.table.now.parts.items in
    let part = c.index-part.result.now in
    let keeps = λ (n : ℕ). KeepsEntry c.args.table.now.name part.first c.args.spot.cell n c.args.entry.now c.in_ok-kept.kept in
    record {
      spot = refl;
      part = part;
      there = slice_get-seen parts parts c.args.spot.part part refl c.requires.part c.index-part.ensures;
      keeps = elim c.if-odd.branch [
        | then-odd w ↦ subst keeps (w.visible-is ∙ ap (λ (b : Bool). bit_of (not b)) (sym w.if-odd.true)) c.in_ok-kept.ensures.keeps
        | else-odd w ↦ subst keeps (w.visible-is ∙ ap (λ (b : Bool). bit_of (not b)) (sym w.if-odd.false)) c.in_ok-kept.ensures.keeps
      ];
      sizes = subst (λ (n : ℕ). HasSizes c.args.table.now.name n c.in_ok-kept.kept) c.from-held.ensures c.in_ok-kept.ensures.sizes;
    }
