use Rattle.std.proofs.Common.{◌≡◌, ◌+◌, ◌-◌, ◌++◌, ◌∙◌, List, ℕ, ap, sym, subst, arith}
use Rattle.std.proofs.lemmas.List.{length-append}
use Rattle.rmt_config.specs.ChipRun.{latency_of}
use Rattle.rmt_chip.specs.declared.chip.Chip.{Chip}
use Rattle.rmt_switch.specs.Clocked.{IsClocked}
use Rattle.rmt_switch.specs.Running.{CanBeOffered, first_calls, offer_left}
use Rattle.rmt_switch.specs.Switch.{packets_in, switch_of, time_of}
use Rattle.rmt_switch.proofs.RunLaws.{calls_few, can_be_offered, goes_on, left_few}
use Rattle.rmt_switch.proofs.running.Running.turn.Goals as goal

pub clock-left-requires-clause-clocked : goal.clock-left-requires-clause-clocked
clock-left-requires-clause-clocked c =
    let (k, runs, g, lt) = c.requires.goes in
    let few = c.requires.few in
    (k, packets_in c.args.file.now c.args.capture.now, c.args.cycle, g.clocked, omega (arith, few), omega (arith, lt))

pub leave-requires-clause-sent : goal.leave-requires-clause-sent
leave-requires-clause-sent c =
    let (k, runs, g, lt) = c.requires.goes in
    let file = c.args.file.now in
    let capture = c.args.capture.now in
    let cycle = c.args.cycle in
    let packets = packets_in file capture in
    let now = c.clock-left.ensures k packets cycle g.clocked lt c.frame_at-frame.ensures.input in
    let age = c.from.ensures ∙ c.latency.ensures k packets (cycle + 1) now.0 in
    let number = c.saturating_sub-number.ensures ∙ ap (λ (n : ℕ). cycle - n) age in
    let time : c.time_of.result.now ≡ time_of capture (cycle - latency_of k.stages) = c.time_of.ensures ∙ ap (time_of capture) number in
    subst (λ (t : List ℕ). CanBeOffered t c.clock-left.result c.clock-left.new.out) (sym time)
    (can_be_offered k runs file capture c.requires.records cycle lt c.clock-left.result c.clock-left.new.out now.1)

pub leave-requires-clause-holds : goal.leave-requires-clause-holds
leave-requires-clause-holds c =
    let (k, runs, g, lt) = c.requires.goes in
    let s = switch_of k c.args.groups.now c.args.every in
    let few = calls_few s c.args.file.now c.args.capture.now c.args.cycle in
    let cycle = c.requires.few in
    (c.args.capture.now, first_calls s c.args.file.now c.args.capture.now c.args.cycle, g.holds, omega (arith, few, cycle))

pub round_after-requires-clause-holds : goal.round_after-requires-clause-holds
round_after-requires-clause-holds c =
    let (k, runs, g, lt) = c.requires.goes in
    let s = switch_of k c.args.groups.now c.args.every in
    let calls = first_calls s c.args.file.now c.args.capture.now c.args.cycle in
    let offers = offer_left c.args.groups.now c.time_of.result.now c.clock-left.result c.clock-left.new.out in
    let few = calls_few s c.args.file.now c.args.capture.now c.args.cycle in
    let cycle = c.requires.few in
    let one = left_few c.args.groups.now c.time_of.result.now c.clock-left.result c.clock-left.new.out in
    let both = length-append calls offers in
    (calls ++ offers, c.in_ok-leave.ensures.holds c.args.capture.now calls g.holds, omega (arith, few, cycle, one, both))

pub returns : goal.returns
returns c = λ k runs g lt.
    let file = c.args.file.now in
    let capture = c.args.capture.now in
    let cycle = c.args.cycle in
    let groups = c.args.groups.now in
    let s = switch_of k groups c.args.every in
    let packets = packets_in file capture in
    let now = c.clock-left.ensures k packets cycle g.clocked lt c.frame_at-frame.ensures.input in
    let age = c.from.ensures ∙ c.latency.ensures k packets (cycle + 1) now.0 in
    let number = c.saturating_sub-number.ensures ∙ ap (λ (n : ℕ). cycle - n) age in
    let time : c.time_of.result.now ≡ time_of capture (cycle - latency_of k.stages) = c.time_of.ensures ∙ ap (time_of capture) number in
    let calls = first_calls s file capture cycle in
    let offers = offer_left groups c.time_of.result.now c.clock-left.result c.clock-left.new.out in
    goes_on s file capture cycle c.args.self.now _ c.clock-left.result c.clock-left.new.out c.time_of.result.now g now.1 time
    (subst (λ (chip : Chip). IsClocked k packets (cycle + 1) chip) (sym c.leave.ensures.chip) now.0) c.leave.ensures.dropped
    (c.in_ok-round_after.ensures (calls ++ offers) (c.in_ok-leave.ensures.holds capture calls g.holds))
