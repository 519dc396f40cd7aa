-- Where no cell changes, and a configuration has no names, the answers and counters of a run are those of the configuration's own cells.
use Rattle.std.proofs.Common.{◌≡◌, ℕ, zero, suc, ◌+◌, ◌-◌, cond, List, [], ◌∷◌, ◌++◌, length, map, take, Option, Some, None, refl, ap, ◌∙◌}
use Rattle.std.specs.Prelude.{fold, nat_lt, option_and_then, option_map, slice_get}
use Rattle.std.specs.List.{flat_map}
use Rattle.std.proofs.lemmas.List.{append-nil, length-map}
use Rattle.std.proofs.lemmas.Option.{slice_get-map}
use Rattle.rmt_bits.specs.Packet.{Packet}
use Rattle.rmt_bits.specs.Counts.{counts}
use Rattle.rmt_config.specs.Types.{Config}
use Rattle.rmt_config.specs.Life.{Look}
use Rattle.rmt_config.specs.ChipRun.{Outcome, answer_at, chip_counts_of, counted_numbers, hits_before, hits_in, latency_of, outcome_of, own_look}
use Rattle.rmt_config.specs.RunCells.{RunCells, look_in, own_cells}
use Rattle.rmt_config.specs.RunInputs.{Input, after_input, answer_in, cells_at, counts_in, hits_from, input_of, look_from, numbers_brought, packet_of, start_of}
use Rattle.rmt_config.proofs.RunCellLaws.{look_in-own}

module _ (c : Config) (none : c.names ≡ None) where
  -- packets change no cell
  stays : (cells : RunCells) (n : ℕ) (inputs : List (Option Packet)) → fold (after_input c) cells (take n (map input_of inputs)) ≡ cells
  stays cells zero inputs = refl
  stays cells (suc n) [] = refl
  stays cells (suc n) (None ∷ inputs) = stays cells n inputs
  stays cells (suc n) ((Some packet) ∷ inputs) = stays cells n inputs

  module _ (inputs : List (Option Packet)) where
    look_at : (cycle k place key : ℕ) → look_from c (map input_of inputs) cycle k place key ≡ own_look c k place key
    look_at cycle k place key =
        let version = (cells_at c (map input_of inputs) cycle).version in
        ap (λ cells. look_in c version cells k place key) (stays (own_cells c) (cycle + start_of c k) inputs) ∙ look_in-own c none version k place key

    look_is : (cycle : ℕ) → look_from c (map input_of inputs) cycle ≡ own_look c
    look_is cycle = λ i k place key. look_at cycle k place key i

    outcome_is : (cycle : ℕ) (packet : Packet) → outcome_of (look_from c (map input_of inputs) cycle) c packet ≡ outcome_of (own_look c) c packet
    outcome_is cycle packet = ap (λ (look : Look). outcome_of look c packet) (look_is cycle)

    -- an answer, by what enters
    answered : (look : Look) (o : Option (Option Packet)) → option_map (outcome_of look c) (option_and_then packet_of (option_map input_of o)) ≡ option_and_then (option_map (outcome_of look c)) o
    answered look None = refl
    answered look (Some None) = refl
    answered look (Some (Some packet)) = refl

    pub answers-unchanged : (cycle : ℕ) → answer_in c (map input_of inputs) cycle ≡ answer_at c inputs cycle
    answers-unchanged cycle =
        let entered = cycle - latency_of c.stages in
        ap (λ (o : Option Outcome). cond (nat_lt cycle (latency_of c.stages)) None o)
        (ap (λ (o : Option Input). option_map (outcome_of (look_from c (map input_of inputs) entered) c) (option_and_then packet_of o)) (slice_get-map input_of inputs entered)
        ∙ answered (look_from c (map input_of inputs) entered) (slice_get inputs entered)
        ∙ ap (λ (look : Look). option_and_then (option_map (outcome_of look c)) (slice_get inputs entered)) (look_is entered))

    hits_unchanged : (cycle : ℕ) (rest : List (Option Packet)) → hits_from c (map input_of inputs) cycle (map input_of rest) ≡ hits_in c rest
    hits_unchanged cycle [] = refl
    hits_unchanged cycle (None ∷ rest) = hits_unchanged (cycle + 1) rest
    hits_unchanged cycle ((Some packet) ∷ rest) =
        ap (λ n. hits_before (n + 1) packet (outcome_of (look_from c (map input_of inputs) cycle) c packet).counted ++ hits_from c (map input_of inputs) (cycle + 1) (map input_of rest)) (length-map rest input_of)
        ∙ ap (λ (o : Outcome). hits_before (length rest + 1) packet o.counted ++ hits_from c (map input_of inputs) (cycle + 1) (map input_of rest)) (outcome_is cycle packet)
        ∙ ap (λ hits. hits_before (length rest + 1) packet (outcome_of (own_look c) c packet).counted ++ hits) (hits_unchanged (cycle + 1) rest)

  none_brought : (inputs : List (Option Packet)) → flat_map (numbers_brought c) (map input_of inputs) ≡ []
  none_brought [] = refl
  none_brought (None ∷ inputs) = none_brought inputs
  none_brought ((Some packet) ∷ inputs) = none_brought inputs

  pub counts-unchanged : (inputs : List (Option Packet)) → counts_in c (map input_of inputs) ≡ chip_counts_of c inputs
  counts-unchanged inputs =
      ap (λ numbers. counts (counted_numbers c ++ numbers) (hits_from c (map input_of inputs) 0 (map input_of inputs))) (none_brought inputs)
      ∙ ap (λ numbers. counts numbers (hits_from c (map input_of inputs) 0 (map input_of inputs))) (append-nil (counted_numbers c))
      ∙ ap (counts (counted_numbers c)) (hits_unchanged inputs 0 inputs)
