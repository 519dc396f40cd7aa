-- The inputs of a run, cycle by cycle, and what leaves.
use Rattle.std.proofs.Common.{◌≡◌, ℕ, zero, suc, ◌+◌, ◌-◌, ◌<◌, ◌≤◌, List, [], ◌∷◌, ◌++◌, Bool, cond, true, false, map, length, take, Option, Some, None, refl, sym, ap, ◌∙◌, arith, length-append}
use Rattle.std.specs.Prelude.{replicate, slice_get, option_map, option_and_then, unwrap_or, nat_lt}
use Rattle.std.proofs.lemmas.List.{get_or-take, length-map, length-replicate, length-take-le, take_more}
use Rattle.std.proofs.lemmas.Option.{get_or_from_slice_get, slice_get-get_or}
use Rattle.rmt_bits.specs.Packet.{Packet}
use Rattle.rmt_config.specs.declared.config.Config.{Config}
use Rattle.rmt_config.specs.ChipRun.{Outcome, answer_at, cycles_of, inputs_of, latency_of, outcome_of, own_look}
use Rattle.rmt_chip.specs.declared.chip.Chip.{Chip}
use Rattle.rmt_chip.specs.Stands.{entered_of}
use Rattle.rmt_chip.proofs.PacketRunLaws.{entered-few}
use Rattle.rmt_switch.specs.Clocked.{IsClocked, Left}

-- the input of a cycle: a packet, or nothing behind the last
none_get : (n k : ℕ) → k < n → slice_get (replicate n (let none : Option Packet = None in none)) k ≡ Some None
none_get zero k lt = absurd (omega (arith, lt))
none_get (suc n) zero lt = refl
none_get (suc n) (suc k) lt = none_get n k (omega (arith, lt))

some_get : (ps : List Packet) (n k : ℕ) → k < length ps + n → slice_get (map Some ps ++ replicate n None) k ≡ Some (slice_get ps k)
some_get [] n k lt = none_get n k (omega (arith, lt))
some_get (p ∷ ps) n zero lt = refl
some_get (p ∷ ps) n (suc k) lt = some_get ps n k (omega (arith, lt))

pub cycles_are : (c : Config) (p : Packet) (ps : List Packet) → cycles_of c (p ∷ ps) ≡ length (p ∷ ps) + latency_of c.stages
cycles_are c p ps =
    let none : Option Packet = None in
    let both = length-append (map Some (p ∷ ps)) (replicate (latency_of c.stages) none) in
    let mapped = length-map (p ∷ ps) (λ (q : Packet). Some q) in
    let empty = length-replicate (latency_of c.stages) none in
    omega (arith, both, mapped, empty)

pub input_get : (c : Config) (ps : List Packet) (k : ℕ) → k < cycles_of c ps → slice_get (inputs_of c ps) k ≡ Some (slice_get ps k)
input_get c [] k lt = absurd (omega (arith, lt))
input_get c (p ∷ ps) k lt = some_get (p ∷ ps) (latency_of c.stages) k (let all = cycles_are c p ps in omega (arith, lt, all))

module _ (c : Config) (ps : List Packet) (k : ℕ) (lt : k < cycles_of c ps) where
  -- one cycle more
  pub take_input : take k (inputs_of c ps) ++ slice_get ps k ∷ [] ≡ take (k + 1) (inputs_of c ps)
  take_input =
      sym (take_more (inputs_of c ps) k None lt ∙ ap (λ (x : Option Packet). take k (inputs_of c ps) ++ x ∷ []) (get_or_from_slice_get (inputs_of c ps) k (slice_get ps k) None (input_get c ps k lt)))

  taken_get : (j : ℕ) → j ≤ k → slice_get (take (k + 1) (inputs_of c ps)) j ≡ slice_get (inputs_of c ps) j
  taken_get j le =
      let size = length-take-le (k + 1) (inputs_of c ps) (omega (arith, lt)) in
      slice_get-get_or (take (k + 1) (inputs_of c ps)) j None (omega (arith, size, le))
      ∙ ap Some (get_or-take (k + 1) (inputs_of c ps) j None (omega (arith, le)))
      ∙ sym (slice_get-get_or (inputs_of c ps) j None (omega (arith, lt, le)))

  -- what leaves in a cycle does not wait for later inputs
  pub answer_now : answer_at c (take (k + 1) (inputs_of c ps)) k ≡ answer_at c (inputs_of c ps) k
  answer_now =
      ap (λ (o : Option (Option Packet)). cond (nat_lt k (latency_of c.stages)) None (option_and_then (λ (input : Option Packet). option_map (outcome_of (own_look c) c) input) o))
      (taken_get (k - latency_of c.stages) (omega arith))

  -- what leaves became of a packet
  pub left : (o : Outcome) → answer_at c (inputs_of c ps) k ≡ Some o → Left c ps k o
  left o e = tested (nat_lt k (latency_of c.stages)) e
    where
      j : ℕ
      j = k - latency_of c.stages

      of_packet : (p : Option Packet) → slice_get ps j ≡ p → option_map (outcome_of (own_look c) c) p ≡ Some o → Left c ps k o
      of_packet None is h = absurd (cc)
      of_packet (Some packet) is h = record { packet = packet; entered = is; is = ap (λ (x : Option Outcome). unwrap_or x o) h }

      of_input : option_and_then (λ (input : Option Packet). option_map (outcome_of (own_look c) c) input) (slice_get (inputs_of c ps) j) ≡ Some o → Left c ps k o
      of_input h =
          of_packet (slice_get ps j) refl
          (ap (option_and_then (λ (input : Option Packet). option_map (outcome_of (own_look c) c) input)) (sym (input_get c ps j (omega (arith, lt)))) ∙ h)

      tested : (b : Bool) → cond b None (option_and_then (λ (input : Option Packet). option_map (outcome_of (own_look c) c) input) (slice_get (inputs_of c ps) j)) ≡ Some o → Left c ps k o
      tested true h = absurd (cc)
      tested false h = of_input h

-- ---- how many packets have entered

pub few_entered : (c : Config) (ps : List Packet) (k : ℕ) (chip : Chip) → IsClocked c ps k chip → k ≤ cycles_of c ps → entered_of chip ≤ k
few_entered c ps k chip stands le =
    let few = entered-few c (take k (inputs_of c ps)) chip stands in
    let size = length-take-le k (inputs_of c ps) le in
    omega (arith, few, size)
