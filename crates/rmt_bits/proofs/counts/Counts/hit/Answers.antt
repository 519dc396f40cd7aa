use Rattle.std.proofs.Common.{ℕ, List, length, ap, subst, sym, ◌∙◌}
use Rattle.std.proofs.lemmas.List.{length-map}
use Rattle.rmt_bits.specs.declared.answer.Count.{Count}
use Rattle.rmt_bits.specs.Counts.{Counters}
use Rattle.rmt_bits.specs.Counting.{with_hit, AreRising, joined, HaveRoom}
use Rattle.rmt_bits.proofs.CountLaws.{counted-rises}
use Rattle.rmt_bits.proofs.OrderLaws.{counts-hit}
use Rattle.rmt_bits.proofs.RunLaws.{HitBy, belongs, hit_by}
use Rattle.rmt_bits.proofs.counts.Counts.hit.Goals as goal
use Rattle.rmt_bits.proofs.counts.Counts.hit.Goals.{After-hit}

-- what the hit leaves in the run that was looked up
leaves : (c : After-hit) → HitBy c.self.inside.runs.items c.run_for-at.result c.args.number c.args.bytes c.hit.new.self
leaves c =
    hit_by c.self.inside.runs.items c.run_for-at.result c.args.number c.args.bytes c.index_mut-run.result.now c.hit.new.self
    (belongs c.deref.result.now c.self.inside.runs.items c.run_for-at.result c.args.number c.deref.ensures.value c.self.invariant.rising
    c.run_for-at.ensures.inside c.run_for-at.ensures.below c.run_for-at.ensures.above)
    c.index_mut-run.ensures.value c.hit.ensures

pub invariant_of-self : goal.invariant_of-self
invariant_of-self c =
    let h = leaves (goal.at.invariant_of-self c).After-hit in
    let counters = joined c.self.inside.runs.items in
    let old = c.self.invariant in
    record {
      rising = subst AreRising (sym h.joined_is) (counted-rises c.args.bytes c.args.number counters old.rising);
      size_is = old.size_is ∙ sym (ap (λ (cs : List Count). length cs) h.joined_is ∙ length-map counters (with_hit c.args.number c.args.bytes));
      few = old.few;
      runs_have_room = subst (λ (ns : List ℕ). HaveRoom ns (length c.self.inside.free.items) c.self.inside.room) (sym h.sizes_are) old.runs_have_room;
      places = old.places;
    }

pub returns-then-not-is_empty-clause-counts : goal.returns-then-not-is_empty-clause-counts
returns-then-not-is_empty-clause-counts c = λ numbers hits were.
    let h = leaves (goal.at.returns-then-not-is_empty-clause-counts c).After-hit in
    counts-hit numbers hits c.args.number c.args.bytes (joined c.self.inside.runs.items) _ (ap (λ (s : Counters). s.counts) c.self.view_is ∙ were) (λ _. h.joined_is)
