-- The text of a run is the same for inputs that are alike.
use Rattle.std.proofs.Common.{◌≡◌, ℕ, zero, suc, ◌+◌, ◌-◌, cond, ltb, leb, ◌&&◌, List, [], ◌∷◌, ◌++◌, length, map, take, replicate, Option, Some, None, sym, refl, ap, ◌∙◌}
use Rattle.std.specs.Prelude.{count_by, filter_map, fold, is_some, option_and_then, option_map, slice_get, unwrap_or}
use Rattle.std.specs.List.{AllZip, flat_map, range_with_len}
use Rattle.rmt_bits.specs.Counts.{counts}
use Rattle.rmt_bits.specs.Packet.{Packet}
use Rattle.rmt_bits.proofs.ListLaws.{sum_by-map}
use Rattle.rmt_packets.specs.PacketText.{BadLine}
use Rattle.rmt_config.specs.declared.config.Config.{Config}
use Rattle.rmt_config.specs.ChipRun.{counted_numbers, hits_before, latency_of, outcome_of}
use Rattle.rmt_config.specs.Life.{Look}
use Rattle.rmt_config.specs.Resources.{greatest_by}
use Rattle.rmt_config.specs.RunCells.{RunCells, look_in, own_cells}
use Rattle.rmt_config.specs.RunInputs.{Idle, Input, after_input, answer_in, cells_at, counts_in, flight_in, hits_from, look_from, numbers_brought, outcome_from_cycle, packet_of, start_of}
use Rattle.rmt_chip.specs.Held.{Entered}
use Rattle.rmt_chip.specs.Inputs.{entered_in, packets_of}
use Rattle.rmt_chip.specs.Stands.{in_flight}
use Rattle.rmt_refine.specs.EventRuns.{outcomes_in}
use Rattle.rmt_drive.specs.declared.watch.Watch.{Watch}
use Rattle.rmt_drive.specs.declared.watch.Watch.TheVariants.{Answers, Vectors}
use Rattle.rmt_drive.specs.ChipText.{all_cycles, end_of, flying_below, line_at, lines_of, run_text, vectors_at}
use Rattle.rmt_drive.specs.SimText.{answer_lines, count_line, cycles_line, flight_line}
use Rattle.rmt_drive.proofs.WritesOnce.{IsAlike}

-- inputs that are alike, one by one
abbrev pub AreAlike : Config → List Input → List Input → Type 0
AreAlike c xs ys = AllZip (IsAlike c) xs ys

module _ (c : Config) where
  pub alike_itself : (xs : List Input) → AreAlike c xs xs
  alike_itself [] = tt
  alike_itself (x ∷ xs) = (record { packet = refl; after = λ cells. refl; brought = refl }, alike_itself xs)

  pub alike_append : (xs ys us vs : List Input) → AreAlike c xs ys → AreAlike c us vs → AreAlike c (xs ++ us) (ys ++ vs)
  alike_append [] [] us vs h k = k
  alike_append [] (y ∷ ys) us vs h k = absurd h
  alike_append (x ∷ xs) [] us vs h k = absurd h
  alike_append (x ∷ xs) (y ∷ ys) us vs h k = (h.0, alike_append xs ys us vs h.1 k)

  pub alike_long : (xs ys : List Input) → AreAlike c xs ys → length xs ≡ length ys
  alike_long [] [] h = refl
  alike_long [] (y ∷ ys) h = absurd h
  alike_long (x ∷ xs) [] h = absurd h
  alike_long (x ∷ xs) (y ∷ ys) h = ap suc (alike_long xs ys h.1)

  alike_take : (n : ℕ) (xs ys : List Input) → AreAlike c xs ys → AreAlike c (take n xs) (take n ys)
  alike_take zero xs ys h = tt
  alike_take (suc n) [] [] h = tt
  alike_take (suc n) [] (y ∷ ys) h = absurd h
  alike_take (suc n) (x ∷ xs) [] h = absurd h
  alike_take (suc n) (x ∷ xs) (y ∷ ys) h = (h.0, alike_take n xs ys h.1)

  alike_packets : (xs ys : List Input) → AreAlike c xs ys → map packet_of xs ≡ map packet_of ys
  alike_packets [] [] h = refl
  alike_packets [] (y ∷ ys) h = absurd h
  alike_packets (x ∷ xs) [] h = absurd h
  alike_packets (x ∷ xs) (y ∷ ys) h = λ i. h.0.packet i ∷ alike_packets xs ys h.1 i

  alike_entered : (n : ℕ) (xs ys : List Input) → AreAlike c xs ys → option_and_then packet_of (slice_get xs n) ≡ option_and_then packet_of (slice_get ys n)
  alike_entered n [] [] h = refl
  alike_entered n [] (y ∷ ys) h = absurd h
  alike_entered n (x ∷ xs) [] h = absurd h
  alike_entered zero (x ∷ xs) (y ∷ ys) h = h.0.packet
  alike_entered (suc n) (x ∷ xs) (y ∷ ys) h = alike_entered n xs ys h.1

  alike_cells : (cells : RunCells) (xs ys : List Input) → AreAlike c xs ys → fold (after_input c) cells xs ≡ fold (after_input c) cells ys
  alike_cells cells [] [] h = refl
  alike_cells cells [] (y ∷ ys) h = absurd h
  alike_cells cells (x ∷ xs) [] h = absurd h
  alike_cells cells (x ∷ xs) (y ∷ ys) h = ap (λ k. fold (after_input c) k xs) (h.0.after cells) ∙ alike_cells (after_input c cells y) xs ys h.1

  alike_brought : (xs ys : List Input) → AreAlike c xs ys → flat_map (numbers_brought c) xs ≡ flat_map (numbers_brought c) ys
  alike_brought [] [] h = refl
  alike_brought [] (y ∷ ys) h = absurd h
  alike_brought (x ∷ xs) [] h = absurd h
  alike_brought (x ∷ xs) (y ∷ ys) h = λ i. h.0.brought i ++ alike_brought xs ys h.1 i

  abbrev one_if : Option Packet → ℕ
  one_if o = cond (is_some o) 1 0

  alike_count : (xs ys : List Input) → AreAlike c xs ys → packets_of xs ≡ packets_of ys
  alike_count xs ys h = sym (sum_by-map one_if packet_of xs) ∙ ap (count_by is_some) (alike_packets xs ys h) ∙ sum_by-map one_if packet_of ys

  module _ (xs ys : List Input) (alike : AreAlike c xs ys) where
    same_cells : (n : ℕ) → cells_at c xs n ≡ cells_at c ys n
    same_cells n = alike_cells (own_cells c) (take n xs) (take n ys) (alike_take n xs ys alike)

    same_look : (cycle : ℕ) → look_from c xs cycle ≡ look_from c ys cycle
    same_look cycle = λ i k. look_in c (same_cells cycle i).version (same_cells (cycle + start_of c k) i) k

    same_long : length xs ≡ length ys
    same_long = alike_long xs ys alike

    -- ---- answers

    same_outcome : (cycle : ℕ) → outcome_from_cycle c xs cycle ≡ outcome_from_cycle c ys cycle
    same_outcome cycle = λ i. option_map (outcome_of (same_look cycle i) c) (alike_entered cycle xs ys alike i)

    same_answer : (cycle : ℕ) → answer_in c xs cycle ≡ answer_in c ys cycle
    same_answer cycle = ap (λ o. cond (ltb cycle (latency_of c.stages)) None o) (same_outcome (cycle - latency_of c.stages))

    pub same_outcomes : outcomes_in c xs ≡ outcomes_in c ys
    same_outcomes = λ i. filter_map (λ cycle. same_answer cycle i) (range_with_len 0 (same_long i))

    -- ---- vectors

    abbrev entering_with : ℕ → ℕ → Look → Packet → Entered
    entering_with number version look packet = record { packet = packet; number = number; version = version; look = look }

    same_entered_in : (cycle : ℕ) → entered_in c xs cycle ≡ entered_in c ys cycle
    same_entered_in cycle = λ i.
        option_map (entering_with (alike_count (take cycle xs) (take cycle ys) (alike_take cycle xs ys alike) i) (same_cells cycle i).version (same_look cycle i)) (alike_entered cycle xs ys alike i)

    same_in_flight : (age : ℕ) → in_flight c xs age ≡ in_flight c ys age
    same_in_flight age = λ i. cond (leb age (latency_of c.stages)) (cond (ltb age (same_long i)) (same_entered_in (same_long i - 1 - age) i) None) None

    same_flying : (n : ℕ) → flying_below c xs n ≡ flying_below c ys n
    unfolding flying_below
    same_flying zero = refl
    same_flying (suc age) = λ i. line_at c age (same_in_flight age i) ++ same_flying age i

    -- ---- counters

    same_hits : (cycle : ℕ) (us vs : List Input) → AreAlike c us vs → hits_from c xs cycle us ≡ hits_from c ys cycle vs
    same_hits cycle [] [] h = refl
    same_hits cycle [] (v ∷ vs) h = absurd h
    same_hits cycle (u ∷ us) [] h = absurd h
    same_hits cycle (u ∷ us) (v ∷ vs) h = λ i.
        unwrap_or (option_map (λ packet. hits_before (alike_long us vs h.1 i + 1) packet (outcome_of (same_look cycle i) c packet).counted) (h.0.packet i)) []
        ++ same_hits (cycle + 1) us vs h.1 i

    same_counts : counts_in c xs ≡ counts_in c ys
    same_counts = λ i. counts (counted_numbers c ++ alike_brought xs ys alike i) (same_hits 0 xs ys alike i)

    -- ---- the greatest number in flight

    same_flight : flight_in c xs ≡ flight_in c ys
    same_flight = λ i.
        greatest_by (λ cycle. count_by (λ age. leb age cycle && is_some (alike_entered (cycle - age) xs ys alike i)) (range_with_len 0 (latency_of c.stages + 1))) (range_with_len 0 (same_long i))

  -- ---- the text

  same_vectors : (xs ys : List Input) → AreAlike c xs ys → (cycle : ℕ) → vectors_at c xs cycle ≡ vectors_at c ys cycle
  same_vectors xs ys alike cycle = λ i.
      cond (ltb cycle (same_long xs ys alike i)) (same_flying (take (cycle + 1) xs) (take (cycle + 1) ys) (alike_take (cycle + 1) xs ys alike) (latency_of c.stages + 1) i) []

  pub same_lines : (w : Watch) (xs ys : List Input) → AreAlike c xs ys → lines_of w c xs ≡ lines_of w c ys
  same_lines Answers xs ys alike = ap (answer_lines 0) (same_outcomes xs ys alike)
  same_lines (Vectors cycle) xs ys alike = same_vectors xs ys alike cycle

  pub same_end : (w : Watch) (xs ys : List Input) → AreAlike c xs ys → (bad : Option BadLine) → end_of w c xs bad ≡ end_of w c ys bad
  same_end w xs ys alike (Some bad) = refl
  same_end (Vectors cycle) xs ys alike None = refl
  same_end Answers xs ys alike None = λ i.
      flat_map count_line (same_counts xs ys alike i) ++ (cycles_line (same_long xs ys alike i) ++ flight_line (same_flight xs ys alike i))

  cycles_alike : (w : Watch) (xs ys : List Input) (empty : ℕ) (bad : Option BadLine) → AreAlike c xs ys → AreAlike c (all_cycles w xs empty bad) (all_cycles w ys empty bad)
  cycles_alike Answers xs ys empty bad alike = alike_append xs ys (replicate empty Idle) (replicate empty Idle) alike (alike_itself (replicate empty Idle))
  cycles_alike (Vectors cycle) xs ys empty None alike = alike_append xs ys (replicate empty Idle) (replicate empty Idle) alike (alike_itself (replicate empty Idle))
  cycles_alike (Vectors cycle) xs ys empty (Some bad) alike = alike

  -- alike inputs give one text
  pub same_text : (w : Watch) (xs ys : List Input) (empty : ℕ) (bad : Option BadLine) → AreAlike c xs ys → run_text w c xs empty bad ≡ run_text w c ys empty bad
  same_text w xs ys empty bad alike =
      let all = cycles_alike w xs ys empty bad alike in
      let us = all_cycles w xs empty bad in
      let vs = all_cycles w ys empty bad in
      ap (λ l. l ++ end_of w c us bad) (same_lines w us vs all) ∙ ap (λ l. lines_of w c vs ++ l) (same_end w us vs all bad)
