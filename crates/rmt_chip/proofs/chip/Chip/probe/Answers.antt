use Rattle.std.proofs.Common.{◌≡◌, ℕ, ◌+◌, ◌≤◌, List, length, vec_len, get_or, refl, ap, ◌∙◌, subst, arith}
use Rattle.rmt_config.specs.RunInputs.{Input}
use Rattle.rmt_chip.specs.Types.{Config}
use Rattle.rmt_chip.specs.Stands.{Stands}
use Rattle.rmt_chip.specs.declared.chip.Chip.{Chip}
use Rattle.rmt_chip.specs.declared.packet_slot.PacketSlot.{PacketSlot}
use Rattle.rmt_config.specs.ChipRun.{latency_of}
use Rattle.rmt_chip.specs.Held.{HoldsIf}
use Rattle.rmt_chip.specs.Inputs.{entered_at}
use Rattle.rmt_chip.specs.Ring.{ring_at}
use Rattle.rmt_chip.proofs.RingLaws.{held_at}
use Rattle.rmt_chip.proofs.StandsLaws.{held_now, shows_within, shows_none, shows_entered}
use Rattle.rmt_chip.proofs.chip.Chip.probe.Goals as goal

-- the packet slot that was read holds what entered so many cycles ago
shown : (self : Chip) (config : Config) (inputs : List Input) (size at age : ℕ) (place : PacketSlot) → age ≤ self.latency → Stands config inputs self → size ≡ vec_len self.places → at ≡ ring_at size self.newest age → place ≡ get_or self.places.items at place
    → HoldsIf config (entered_at config inputs (length inputs) age) age age age (age + 1) place
shown self config inputs size at age place le stands size_is at_is is =
    let whole : size ≡ length self.places.items = omega (arith, size_is, self.places.ok.0) in
    held_at config (entered_at config inputs (length inputs)) self.newest age at self.places.items place (omega (arith, le, self.full, size_is, whole)) (at_is ∙ ap (λ n. ring_at n self.newest age) whole) is (held_now config inputs self stands)

-- an age of at most the latency is that of a packet in flight
in_time : (self : Chip) (config : Config) (inputs : List Input) (age : ℕ) → Stands config inputs self → age ≤ self.latency → age ≤ latency_of config.stages
in_time self config inputs age stands le =
    subst (λ (k : Config). age ≤ latency_of k.stages) stands.config_is (omega (arith, le, self.leaves))

pub returns-then-not-place : goal.returns-then-not-place
returns-then-not-place c = λ config inputs stands.
    let place = c.index-place.result.now in
    let le : c.args.age ≤ c.args.self.now.latency = omega arith in
    let within = in_time c.args.self.now config inputs c.args.age stands le in
    let held = shown c.args.self.now config inputs c.len.result c.place_of.result c.args.age place le stands (omega (arith, c.len.ensures)) (c.place_of.ensures.place ∙ ap (ring_at c.len.result c.args.self.now.newest) c.from.ensures) c.index-place.ensures in
    shows_within config inputs c.args.age _ within (shows_none config c.args.age (entered_at config inputs (length inputs) c.args.age) place held c.if-not-place.true)

pub returns : goal.returns
returns c = λ config inputs stands.
    let place = c.index-place.result.now in
    let le : c.args.age ≤ c.args.self.now.latency = omega arith in
    let within = in_time c.args.self.now config inputs c.args.age stands le in
    let held = shown c.args.self.now config inputs c.len.result c.place_of.result c.args.age place le stands (omega (arith, c.len.ensures)) (c.place_of.ensures.place ∙ ap (ring_at c.len.result c.args.self.now.newest) c.from.ensures) c.index-place.ensures in
    shows_within config inputs c.args.age _ within (shows_entered config c.args.age (entered_at config inputs (length inputs) c.args.age) place _ held c.if-not-place.false refl refl)
