use Rattle.std.proofs.Common.{◌≡◌, ◌<◌, length, Some, true, sym, ap, subst, ◌∙◌, arith}
use Rattle.std.specs.Prelude.{slice_get}
use Rattle.std.proofs.lemmas.Option.{slice_get-get_or, get_or_from_slice_get}
use Rattle.rmt_config.specs.Life.{acts_of}
use Rattle.rmt_chip.specs.Types.{Stage}
use Rattle.rmt_chip.specs.Counting.{hits_made}
use Rattle.rmt_chip.specs.Held.{is_accepted}
use Rattle.rmt_memory.specs.Looked.{AllLooked}
use Rattle.rmt_chip.specs.Ran.{CountsAlso}
use Rattle.rmt_chip.proofs.PendingLaws.{counted_by}
use Rattle.rmt_chip.proofs.outcomes.set_outcomes.Goals as goal

pub returns-then-is_accepted-clause-counted : goal.returns-then-is_accepted-clause-counted
returns-then-is_accepted-clause-counted c = λ stage found.
    let place = c.args.place.now in
    let k = c.args.k in
    let q = c.index_mut-pending.result.now in
    let before = c.args.counters.now.counts in
    let after = c.decide_all.new.counters.counts in
    let inside : k < length place.pending.items = omega (arith, c.requires.room.all_stages, c.requires.exists) in
    let here : slice_get place.pending.items k ≡ Some q = slice_get-get_or place.pending.items k q inside ∙ ap Some (sym c.index_mut-pending.ensures.value) in
    let is : c.index-stages-k.result ≡ stage = c.index-stages-k.is ∙ get_or_from_slice_get c.args.stages.now k stage c.index-stages-k.result found in
    let accepted : is_accepted place.parsed ≡ true = sym c.is_accepted.ensures ∙ c.if-is_accepted.true in
    counted_by k stage place q before after here accepted (λ look number words looked.
    let read = subst (AllLooked look number words c.index-stages-k.result) (sym c.deref.ensures.value) (subst (λ (x : Stage). AllLooked look number words x q.looked.items) (sym is) looked) in
    subst (λ (x : Stage). CountsAlso before after (hits_made place.size (acts_of look number x words place.outcomes).counted)) is (c.decide_all.ensures.done look number words read).counted)
