use Rattle.std.proofs.Common.{◌+◌, ◌++◌, ◌∙◌, List, Option, Some, ap, refl, sym, subst}
use Rattle.std.proofs.lemmas.List.{append-nil}
use Rattle.rmt_bits.specs.declared.answer.Verdict.{Verdict}
use Rattle.rmt_queues.specs.Calls.{Call}
use Rattle.rmt_switch.specs.Ports.{Holds}
use Rattle.rmt_switch.specs.Running.{offer_left, unsent_left}
use Rattle.rmt_switch.proofs.RunLaws.{is_unsent}
use Rattle.rmt_switch.proofs.running.Running.leave.Goals as goal

pub returns-in_ok-offer-in-Sent-clause-holds : goal.returns-in_ok-offer-in-Sent-clause-holds
returns-in_ok-offer-in-Sent-clause-holds c = λ capture calls h.
    let sent = c.in-Some.is ∙ ap Some c.in-Sent.is in
    subst (λ (left : Option Verdict). Holds capture (calls ++ offer_left c.args.groups.now c.args.time.now left c.args.self.now.leaving) c.offer.new.self.ports) (sym sent)
    (c.in_ok-offer-in-Sent.ensures.holds capture calls h)

pub returns-in-Short : goal.returns-in-Short
returns-in-Short c =
    let self = c.args.self.now in
    let groups = c.args.groups.now in
    let time = c.args.time.now in
    let unsent = is_unsent c.in-Some.verdict c.in-Short.is in
    record {
      chip = refl;
      dropped = ap (λ n. self.dropped + n) (sym (ap unsent_left c.in-Some.is ∙ unsent.counts));
      holds = λ capture calls h.
          subst (λ (cs : List Call). Holds capture cs self.ports)
          (sym (ap (λ (left : Option Verdict). calls ++ offer_left groups time left self.leaving) c.in-Some.is ∙ ap (λ (cs : List Call). calls ++ cs) (unsent.offers groups time self.leaving) ∙ append-nil calls)) h;
    }

pub offer-requires-clause-port : goal.offer-requires-clause-port
offer-requires-clause-port c = (c.requires.sent c.in-Sent.port (c.in-Some.is ∙ ap Some c.in-Sent.is)).1.port_below

pub offer-requires-clause-time : goal.offer-requires-clause-time
offer-requires-clause-time c = (c.requires.sent c.in-Sent.port (c.in-Some.is ∙ ap Some c.in-Sent.is)).0

pub offer-requires-clause-holds : goal.offer-requires-clause-holds
offer-requires-clause-holds c = c.requires.holds

pub offer-requires-clause-bytes : goal.offer-requires-clause-bytes
offer-requires-clause-bytes c = (c.requires.sent c.in-Sent.port (c.in-Some.is ∙ ap Some c.in-Sent.is)).1.few
