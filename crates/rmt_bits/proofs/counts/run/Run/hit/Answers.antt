use Rattle.std.proofs.Common.{◌≡◌, ◌∙◌, ◌++◌, List, length, take, drop, ap, subst, sym}
use Rattle.std.proofs.lemmas.List.{take_at}
use Rattle.rmt_bits.specs.declared.answer.Count.{Count}
use Rattle.rmt_bits.specs.Counting.{BeginsWith, AreRising, counted}
use Rattle.rmt_bits.proofs.counts.run.Run.hit.Goals as goal

-- the run then has the counters of the slice
back : (c : goal.After-self-1) → take c.self.inside.counts.len (c.count_hit.new.counts ++ drop (length c.count_hit.new.counts) c.self.inside.counts.items) ≡ c.count_hit.new.counts
back c = take_at c.count_hit.new.counts (drop (length c.count_hit.new.counts) c.self.inside.counts.items) c.self.inside.counts.len (c.count_hit.auto.counts ∙ c.deref_mut.ensures.len)

pub invariant_of-self : goal.invariant_of-self
invariant_of-self c =
    let first = c.self.inside.first in
    let begun : BeginsWith first c.deref_mut.result.now = subst (λ (xs : List Count). BeginsWith first xs) (sym c.deref_mut.ensures.value) c.self.invariant.1 in
    (c.self.invariant.0, subst (λ (xs : List Count). BeginsWith first xs) (sym (back c)) (c.count_hit.ensures.begins first begun))

pub returns : goal.returns
returns c = λ rising.
    let same = c.deref_mut.ensures.value ∙ c.self.view_is in
    back c
    ∙ c.count_hit.ensures.counts (subst (λ (xs : List Count). AreRising xs) (sym same) rising)
    ∙ ap (λ (xs : List Count). counted c.args.bytes xs c.args.number) same
