use Rattle.std.proofs.Common.{◌≡◌, ◌+◌, ◌++◌, ◌%◌, ◌∙◌, [], List, ℕ, Bool, cond, true, false, eqb, ap, sym, subst}
use Rattle.std.proofs.lemmas.Bool.{eq-eqb, ne_eqb}
use Rattle.std.proofs.lemmas.List.{append-nil}
use Rattle.rmt_queues.specs.Calls.{Call}
use Rattle.rmt_switch.specs.Copies.{round}
use Rattle.rmt_switch.specs.Ports.{Holds}
use Rattle.rmt_switch.proofs.ports.Ports.round_after.Goals as goal

pub returns-in_ok-round : goal.returns-in_ok-round
returns-in_ok-round c = λ calls h.
    let next = c.args.cycle + 1 in
    let due : eqb (next % c.args.every) 0 ≡ true = eq-eqb (next % c.args.every) 0 (ap (λ (n : ℕ). next % n) (sym c.from.ensures) ∙ c.if-cycle-from-eq0.true) in
    subst (λ (b : Bool). Holds c.args.capture.now (calls ++ cond b (round 512) []) c.round.new.self) (sym due) (c.in_ok-round.ensures calls h)

pub returns-else-cycle-from-eq0 : goal.returns-else-cycle-from-eq0
returns-else-cycle-from-eq0 c = λ calls h.
    let next = c.args.cycle + 1 in
    let rests : eqb (next % c.args.every) 0 ≡ false = ne_eqb (next % c.args.every) 0 (λ e. c.if-cycle-from-eq0.false (ap (λ (n : ℕ). next % n) c.from.ensures ∙ e)) in
    subst (λ (b : Bool). Holds c.args.capture.now (calls ++ cond b (round 512) []) c.args.self.now) (sym rests)
    (subst (λ (cs : List Call). Holds c.args.capture.now cs c.args.self.now) (sym (append-nil calls)) h)
