use Rattle.std.proofs.Common.{◌≡◌, ◌<◌, ◌++◌, ◌∷◌, [], List, ap, sym, subst, ◌∙◌, arith, get_or, true}
use Rattle.std.proofs.lemmas.List.{get_or_default}
use Rattle.rmt_queues.specs.Calls.{Call}
use Rattle.rmt_queues.specs.Calls.Call.{Take}
use Rattle.rmt_switch.specs.Copies.{round}
use Rattle.rmt_switch.specs.Ports.{Holds}
use Rattle.rmt_switch.specs.declared.ports.Ports.{Ports}
use Rattle.rmt_switch.proofs.PortLaws.{skipped}
use Rattle.rmt_switch.proofs.RoundLaws.{round_length, round_more}
use Rattle.rmt_switch.proofs.ports.Ports.round.Goals as goal
use Rattle.rmt_switch.proofs.ports.Ports.round.Goals.{then-index+in_ok-take, else-index}

pub take-requires-clause-holds : goal.take-requires-clause-holds
take-requires-clause-holds c =
    let (calls, h, few) = c.requires.holds in
    let port = c.loop-port.port in
    let last = c.loop-port.auto.port-end in
    let size = round_length calls port in
    (calls ++ round port, c.loop-port.invariant calls h, omega (arith, few, size, last))

pub loop-port-preserved : goal.loop-port-preserved
loop-port-preserved c = λ calls h.
    let capture = c.args.capture.now in
    let port = c.loop-port.port in
    let now = c.loop-port.invariant calls h in
    let before : List Call = calls ++ round port in
    let all = now.all_waiting in
    let below : port < 512 = c.loop-port-test.true in
    let more : Holds capture (before ++ Take port ∷ []) c.if-index.self =
    elim c.if-index.branch [
      | then-index+in_ok-take w ↦ subst (λ (p : Ports). Holds capture (before ++ Take port ∷ []) p) (sym w.self-is) (w.in_ok-take.ensures before now)
      | else-index w ↦
          subst (λ (p : Ports). Holds capture (before ++ Take port ∷ []) p) (sym w.self-is) (skipped capture before c.loop-port.self now port below
          (get_or_default c.loop-port.self.waiting.items port true c.index.result.now (omega (arith, all, below)) ∙ ap (λ n. get_or c.loop-port.self.waiting.items n c.index.result.now) (sym c.from.ensures)
          ∙ sym c.index.ensures ∙ w.if-index.false))
    ] in
    subst (λ (cs : List Call). Holds capture cs c.if-index.self) (round_more calls port) more

pub returns : goal.returns
returns c = λ calls h.
    let last : c.loop-port.port ≡ 512 = omega arith in
    subst (λ n. Holds c.args.capture.now (calls ++ round n) c.loop-port.self) last (c.loop-port.invariant calls h)
