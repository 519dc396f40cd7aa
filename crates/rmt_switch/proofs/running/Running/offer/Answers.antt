use Rattle.std.proofs.Common.{◌≡◌, ◌++◌, ◌∷◌, [], ◌∙◌, List, ℕ, ap, subst}
use Rattle.rmt_queues.specs.Calls.Call.{Offer}
use Rattle.rmt_switch.specs.Ports.{Holds}
use Rattle.rmt_switch.proofs.running.Running.offer.Goals as goal

pub returns-clause-holds : goal.returns-clause-holds
returns-clause-holds c = λ capture calls h.
    let time = c.args.time.now in
    let item : c.deref.result.now ≡ time ++ c.args.self.now.leaving =
    c.deref.ensures.value ∙ c.in_ok-extend_from_slice-2.ensures.items ∙ ap (λ (xs : List ℕ). xs ++ c.bytes.result.now) (c.in_ok-extend_from_slice.ensures.items ∙ ap (λ (xs : List ℕ). xs ++ time) c.clear.ensures.items)
    ∙ ap (λ (bs : List ℕ). time ++ bs) c.bytes.ensures in
    subst (λ (ports : List ℕ). Holds capture (calls ++ Offer ports (time ++ c.args.self.now.leaving) ∷ []) c.offer.new.self) c.receivers.ensures.ports
    (subst (λ (bytes : List ℕ). Holds capture (calls ++ Offer c.receivers.result.now bytes ∷ []) c.offer.new.self) item (c.offer.ensures capture calls h))
