use Rattle.std.proofs.Common.{◌++◌, ◌∷◌, ◌∙◌, [], List, ℕ, Option, map, take, ap, subst, arith}
use Rattle.std.proofs.lemmas.List.{length-take-le}
use Rattle.rmt_bits.specs.Packet.{Packet}
use Rattle.rmt_config.specs.ChipRun.{answer_at, inputs_of, Outcome}
use Rattle.rmt_chip.specs.Inputs.{input_of}
use Rattle.rmt_chip.specs.Leaving.{AnswersIf}
use Rattle.rmt_chip.specs.PacketRuns.{StandsFor}
use Rattle.rmt_config.specs.RunInputs.{input_of as input_with}
use Rattle.rmt_chip.proofs.PacketRunLaws.{clocks-on}
use Rattle.rmt_switch.proofs.ChipClocked.{answer_now, few_entered, take_input}
use Rattle.rmt_switch.proofs.clocking.clock.Goals as goal

pub clock-requires-clause-few : goal.clock-requires-clause-few
clock-requires-clause-few c =
    let (k, packets, cycle, stands, few, within) = c.requires.clocked in
    let entered = few_entered k packets cycle c.args.chip.now stands within in
    omega (arith, entered, few)

pub returns : goal.returns
returns c = λ k packets cycle stands lt input.
    let whole = inputs_of k packets in
    let inputs = take cycle whole in
    let more = ap (λ (x : Option Packet). inputs ++ x ∷ []) input ∙ take_input k packets cycle lt in
    let size = length-take-le cycle whole (omega (arith, lt)) in
    let run = map input_with inputs in
    let now = clocks-on k inputs c.args.frame c.args.chip.now c.clock.new.self c.clock.result c.clock.new.out stands (c.clock.ensures.stands k run stands) (c.clock.ensures.answers k run stands) in (
      subst (λ (xs : List (Option Packet)). StandsFor k xs c.clock.new.self) more now.0,
      subst (λ (o : Option Outcome). AnswersIf o c.clock.result c.clock.new.out)
          (ap (λ (n : ℕ). answer_at k (inputs ++ input_of c.args.frame ∷ []) n) size ∙ ap (λ (xs : List (Option Packet)). answer_at k xs cycle) more ∙ answer_now k packets cycle lt) now.1,
    )
