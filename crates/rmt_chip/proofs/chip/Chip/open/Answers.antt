use Rattle.std.proofs.Common.{◌≡◌, ℕ, ◌+◌, ◌-◌, Bool, cond, List, [], length, get_or, Option, None, refl, sym, ap, subst, ◌∙◌, arith}
use Rattle.std.proofs.lemmas.Bool.{le-ltb}
use Rattle.std.proofs.lemmas.List.{append-nil, length-replicate}
use Rattle.rmt_bits.specs.Counts.{counts}
use Rattle.rmt_config.specs.ChipRun.{counted_numbers}
use Rattle.rmt_config.specs.RunInputs.{Input}
use Rattle.rmt_chip.specs.FrameList.{frames_of}
use Rattle.rmt_chip.specs.Held.{Entered, FrameIs, HoldsIf, IsFree}
use Rattle.rmt_chip.specs.Inputs.{entered_at, entered_in}
use Rattle.std.specs.Prelude.{is_none}
use Rattle.rmt_chip.specs.Types.{Config}
use Rattle.rmt_chip.specs.declared.packet_slot.PacketSlot.{PacketSlot}
use Rattle.rmt_chip.specs.Ring.{ring_at}
use Rattle.rmt_config.specs.ChipRun.{latency_of}
use Rattle.rmt_chip.proofs.FormedRuns.{runnable}
use Rattle.rmt_chip.proofs.RingLaws.{ring_at-lt}
use Rattle.rmt_memory.proofs.StageSlots.{slots_formed}
use Rattle.rmt_chip.proofs.chip.Chip.open.Goals as goal

-- nothing has entered
none_before : (config : Config) (run : List Input) (age : ℕ) → entered_at config run 0 age ≡ None
none_before config run age = ap (λ (b : Bool). cond b (entered_in config run (0 - 1 - age)) None) (le-ltb age 0 (omega arith))

free_at : (config : Config) (run : List Input) (age : ℕ) (place : PacketSlot) → IsFree place → HoldsIf config (entered_at config run 0 age) age age age (age + 1) place
free_at config run age place free = subst (λ (o : Option Entered). HoldsIf config o age age age (age + 1) place) (sym (none_before config run age)) free

none_at : (config : Config) (run : List Input) (age : ℕ) (frame : List ℕ) → FrameIs (entered_at config run 0 age) frame
none_at config run age frame = subst (λ (o : Option Entered). FrameIs o frame) (sym (none_before config run age)) tt

pub latency-latency-requires : goal.latency-latency-requires
latency-latency-requires c =
    let stages = (runnable c.args.config c.requires.form.items c.requires.limits).stages in
    rw c.as_slice.ensures stages

pub parts_of-requires-clause-formed : goal.parts_of-requires-clause-formed
parts_of-requires-clause-formed c = slots_formed c.args.config c.requires.form

pub invariant_of-result : goal.invariant_of-result
invariant_of-result c = record {
  formed = c.requires.form.items;
  limits = ap is_none c.requires.limits;
  fit = c.in_ok-parts.ensures.fit;
  full = let full = c.in_ok-parts.ensures.full in omega arith;
  framed = let size = ap length c.in_ok-parts.ensures.frames ∙ length-replicate {A = List ℕ} (c.from.result + 1) [] in omega arith;
  room = c.in_ok-parts.ensures.room;
  in_ring = omega arith;
  leaves = c.latency-latency.ensures.value ∙ ap latency_of c.as_slice.ensures;
}

pub returns : goal.returns
returns c =
    let config = c.args.config in
    let parts = c.in_ok-parts.parts in
    record {
      formed = c.requires.form;
      config_is = refl;
      memories_are = c.in_ok-parts.ensures.hold;
      entered_is = refl;
      seed_is = refl;
      version_is = refl;
      in_flight = λ later. record {
        places_hold = λ age d h.
            let places = parts.places.items in
            let at = ring_at (length places) 0 age in
            free_at config later age (get_or places at d) (c.in_ok-parts.ensures.free at d (ring_at-lt (length places) 0 age (omega (arith, h)) h));
        frames_stand = λ age h. none_at config later age (get_or (frames_of parts.frames) (ring_at (length (frames_of parts.frames)) 0 age) []);
        counters_are = c.in_ok-parts.ensures.counters ∙ ap (λ ns. counts ns []) (sym (append-nil (counted_numbers config)));
      };
    }
