-- The packets of a run of inputs: their outcomes leave in order, and all their hits are counted, where each packet has as many cycles behind it as it takes.
use Rattle.std.proofs.Common.{◌≡◌, ℕ, zero, suc, ◌+◌, ◌-◌, ◌<◌, ◌≤◌, cond, List, [], ◌∷◌, ◌++◌, filter_map, length, map, replicate, Option, Some, None, refl, sym, ap, ◌∙◌, inl, inr, arith}
use Rattle.std.specs.Prelude.{option_and_then, option_map, slice_get, unwrap_or, ⊤}
use Rattle.std.specs.List.{cons_option, flat_map, range_with_len}
use Rattle.std.proofs.lemmas.Bool.{cases_lt, le-ltb, lt-ltb}
use Rattle.std.proofs.lemmas.List.Elements.{All-weaker}
use Rattle.std.proofs.lemmas.Option.{none-some}
use Rattle.rmt_bits.proofs.ListLaws.{first_from, next_from}
use Rattle.rmt_bits.specs.Packet.{Packet}
use Rattle.rmt_bits.specs.Counts.{Hit}
use Rattle.rmt_refine.specs.Types.{Config, Stage}
use Rattle.rmt_config.specs.declared.cell_write.CellWrite.{CellWrite}
use Rattle.rmt_config.specs.ChipRun.{Outcome, hits_before, latency_of, outcome_of}
use Rattle.rmt_config.specs.Parser.{parse}
use Rattle.rmt_config.specs.RunInputs.{Idle, Input, Turns, answer_in, hits_from, look_from, outcome_from_cycle, packet_of}
use Rattle.rmt_config.proofs.CountLaws.{EndBefore, hit_from, CountBelow, hits_before-all, outcome_below}
use Rattle.rmt_refine.specs.EventRuns.{outcomes_in}
use Rattle.rmt_refine.proofs.OneStateLaws.{changing}

-- ---- the packets that enter

-- a packet with the cycle in which it enters
abbrev pub with_entered : ℕ → Option Packet → List (ℕ × Packet) → List (ℕ × Packet)
with_entered cycle None rest = rest
with_entered cycle (Some packet) rest = (cycle, packet) ∷ rest

-- the packets of inputs of which the first is that of a cycle
abbrev pub packets_at : ℕ → List Input → List (ℕ × Packet)
packets_at cycle [] = []
packets_at cycle (input ∷ inputs) = with_entered cycle (packet_of input) (packets_at (cycle + 1) inputs)

-- each packet has so many cycles behind it
abbrev pub AllLeave : ℕ → List Input → Type 0
AllLeave l [] = ⊤
AllLeave l (input ∷ inputs) = ((packet : Packet) → packet_of input ≡ Some packet → l ≤ length inputs) × AllLeave l inputs

pub idle_packets : (cycle n : ℕ) → packets_at cycle (replicate n Idle) ≡ []
idle_packets cycle zero = refl
idle_packets cycle (suc n) = idle_packets (cycle + 1) n

pub idle_leave : (l n : ℕ) → AllLeave l (replicate n Idle)
idle_leave l zero = tt
idle_leave l (suc n) = ((λ packet e. absurd (none-some packet e)), idle_leave l n)

-- no packet enters in the cycles of a commit
pub commit_packets : (cycle n : ℕ) (ws : List CellWrite) (seed : ℕ) (inputs : List Input) → packets_at cycle (changing n ws ++ Turns seed ∷ inputs) ≡ packets_at (cycle + (n + length ws + 1)) inputs
commit_packets cycle zero [] seed inputs = ap (λ k. packets_at k inputs) (let e : cycle + 1 ≡ cycle + (0 + 0 + 1) = omega arith in e)
commit_packets cycle zero (w ∷ ws) seed inputs =
    commit_packets (cycle + 1) zero ws seed inputs ∙ ap (λ k. packets_at k inputs) (let e : cycle + 1 + (0 + length ws + 1) ≡ cycle + (0 + suc (length ws) + 1) = omega arith in e)
commit_packets cycle (suc n) ws seed inputs =
    commit_packets (cycle + 1) n ws seed inputs ∙ ap (λ k. packets_at k inputs) (let e : cycle + 1 + (n + length ws + 1) ≡ cycle + (suc n + length ws + 1) = omega arith in e)

pub commit_leave : (l n : ℕ) (ws : List CellWrite) (seed : ℕ) (inputs : List Input) → AllLeave l inputs → AllLeave l (changing n ws ++ Turns seed ∷ inputs)
commit_leave l zero [] seed inputs all = ((λ packet e. absurd (none-some packet e)), all)
commit_leave l zero (w ∷ ws) seed inputs all = ((λ packet e. absurd (none-some packet e)), commit_leave l zero ws seed inputs all)
commit_leave l (suc n) ws seed inputs all = ((λ packet e. absurd (none-some packet e)), commit_leave l n ws seed inputs all)

leaves_late : (l : ℕ) (inputs : List Input) (k : ℕ) (packet : Packet) → AllLeave l inputs → option_and_then packet_of (slice_get inputs k) ≡ Some packet → k + 1 + l ≤ length inputs
leaves_late l [] k packet all e = absurd (none-some packet e)
leaves_late l (input ∷ inputs) zero packet all e = let le = all.0 packet e in omega (arith, le)
leaves_late l (input ∷ inputs) (suc k) packet all e = let le = leaves_late l inputs k packet all.1 e in omega (arith, le)

-- ---- what a function gives over a range

module _ {X : Type 0} where
  -- places that give nothing, before the others and behind them
  none_first : (h : ℕ → Option X) (a m n : ℕ) → ((k : ℕ) → k < m → h (a + k) ≡ None) → filter_map h (range_with_len a (m + n)) ≡ filter_map h (range_with_len (a + m) n)
  none_first h a zero n none = (let e : 0 + n ≡ n = omega arith in ap (λ k. filter_map h (range_with_len a k)) e) ∙ ap (λ k. filter_map h (range_with_len k n)) (let e : a ≡ a + 0 = omega arith in e)
  none_first h a (suc m) n none =
      let split : suc m + n ≡ suc (m + n) = omega arith in
      let here : h a ≡ None = (let e : a ≡ a + 0 = omega arith in ap h e) ∙ none 0 (omega arith) in
      ap (λ k. filter_map h (range_with_len a k)) split
      ∙ ap (λ o. cons_option o (filter_map h (range_with_len (a + 1) (m + n)))) here
      ∙ none_first h (a + 1) m n (λ k lt. (let e : a + 1 + k ≡ a + suc k = omega arith in ap h e) ∙ none (suc k) (omega (arith, lt)))
      ∙ ap (λ k. filter_map h (range_with_len k n)) (let e : a + 1 + m ≡ a + suc m = omega arith in e)

  none_last : (h : ℕ → Option X) (a m n : ℕ) → ((k : ℕ) → m ≤ k → k < m + n → h (a + k) ≡ None) → filter_map h (range_with_len a (m + n)) ≡ filter_map h (range_with_len a m)
  none_last h a zero n none =
      (let e : 0 + n ≡ n + 0 = omega arith in ap (λ k. filter_map h (range_with_len a k)) e) ∙ none_first h a n 0 (λ k lt. none k (omega arith) (omega (arith, lt)))
  none_last h a (suc m) n none =
      let split : suc m + n ≡ suc (m + n) = omega arith in
      ap (λ k. filter_map h (range_with_len a k)) split
      ∙ ap (cons_option (h a)) (none_last h (a + 1) m n (λ k le lt. (let e : a + 1 + k ≡ a + suc k = omega arith in ap h e) ∙ none (suc k) (omega (arith, le)) (omega (arith, lt))))

  -- the same at later places
  moved : (h g : ℕ → Option X) (l a n : ℕ) → ((k : ℕ) → h (l + k) ≡ g k) → filter_map h (range_with_len (l + a) n) ≡ filter_map g (range_with_len a n)
  moved h g l a zero same = refl
  moved h g l a (suc n) same =
      ap (λ o. cons_option o (filter_map h (range_with_len (l + a + 1) n))) (same a)
      ∙ ap (cons_option (g a)) ((let e : l + a + 1 ≡ l + (a + 1) = omega arith in ap (λ k. filter_map h (range_with_len k n)) e) ∙ moved h g l (a + 1) n same)

  -- what leaves later, of as many places
  late : (h g : ℕ → Option X) (l n : ℕ) → ((k : ℕ) → k < l → h k ≡ None) → ((k : ℕ) → h (l + k) ≡ g k) → ((k : ℕ) → n < k + 1 + l → k < n → g k ≡ None)
      → filter_map h (range_with_len 0 n) ≡ filter_map g (range_with_len 0 n)
  late h g l n early same none = elim (cases_lt n l) [
    | inl lt ↦ all_none h (λ k below. early k (omega (arith, lt, below))) ∙ sym (all_none g (λ k below. none k (omega (arith, lt)) below))
    | inr le ↦
        let m = n - l in
        let split : n ≡ l + m = omega (arith, le) in
        let other : n ≡ m + l = omega (arith, le) in
        ap (λ k. filter_map h (range_with_len 0 k)) split
        ∙ none_first h 0 l m (λ k below. (let e : 0 + k ≡ k = omega arith in ap h e) ∙ early k below)
        ∙ ap (λ k. filter_map h (range_with_len k m)) (let e : 0 + l ≡ l + 0 = omega arith in e)
        ∙ moved h g l 0 m same
        ∙ sym (none_last g 0 m l (λ k high below. (let e : 0 + k ≡ k = omega arith in ap g e) ∙ none k (omega (arith, high, other)) (omega (arith, below, other))))
        ∙ ap (λ k. filter_map g (range_with_len 0 k)) (sym other)
  ]
    where
      all_none : (f : ℕ → Option X) → ((k : ℕ) → k < n → f k ≡ None) → filter_map f (range_with_len 0 n) ≡ []
      all_none f every =
          (let e : n ≡ n + 0 = omega arith in ap (λ k. filter_map f (range_with_len 0 k)) e) ∙ none_first f 0 n 0 (λ k lt. (let e : 0 + k ≡ k = omega arith in ap f e) ∙ every k lt)

module _ (c : Config) (whole : List Input) where
  -- what becomes of a packet that entered in a cycle
  abbrev pub outcome_at : ℕ × Packet → Outcome
  outcome_at x = outcome_of (look_from c whole x.0) c x.1

  given : (cycle : ℕ) (inputs : List Input) → ((i : ℕ) → slice_get inputs i ≡ slice_get whole (cycle + i))
      → filter_map (outcome_from_cycle c whole) (range_with_len cycle (length inputs)) ≡ map outcome_at (packets_at cycle inputs)
  given cycle [] there = refl
  given cycle (input ∷ inputs) there =
      ap (λ o. cons_option (option_map (outcome_of (look_from c whole cycle) c) (option_and_then packet_of o)) (filter_map (outcome_from_cycle c whole) (range_with_len (cycle + 1) (length inputs)))) (first_from inputs whole input cycle there)
      ∙ ap (cons_option (option_map (outcome_of (look_from c whole cycle) c) (packet_of input))) (given (cycle + 1) inputs (next_from inputs whole input cycle there))
      ∙ by (packet_of input)
    where
      by : (o : Option Packet) → cons_option (option_map (outcome_of (look_from c whole cycle) c) o) (map outcome_at (packets_at (cycle + 1) inputs)) ≡ map outcome_at (with_entered cycle o (packets_at (cycle + 1) inputs))
      by None = refl
      by (Some packet) = refl

  -- the outcomes leave in the order in which the packets entered
  pub outcomes_are : AllLeave (latency_of c.stages) whole → outcomes_in c whole ≡ map outcome_at (packets_at 0 whole)
  outcomes_are all =
      late (answer_in c whole) (outcome_from_cycle c whole) l (length whole)
      (λ k lt. ap (λ b. cond b None (outcome_from_cycle c whole (k - l))) (lt-ltb k l lt))
      (λ k. ap (λ b. cond b None (outcome_from_cycle c whole (l + k - l))) (le-ltb (l + k) l (omega arith)) ∙ ap (outcome_from_cycle c whole) (let e : l + k - l ≡ k = omega arith in e))
      (λ k high lt. none k high (option_and_then packet_of (slice_get whole k)) refl)
      ∙ given 0 whole (λ i. ap (slice_get whole) (let e : i ≡ 0 + i = omega arith in e))
    where
      l : ℕ
      l = latency_of c.stages

      none : (k : ℕ) → length whole < k + 1 + l → (o : Option Packet) → option_and_then packet_of (slice_get whole k) ≡ o → option_map (outcome_of (look_from c whole k) c) o ≡ None
      none k high None e = refl
      none k high (Some packet) e = absurd (let le = leaves_late l whole k packet all e in omega (arith, le, high))

-- ---- all hits are counted

module _ (c : Config) (whole : List Input) (ends : EndBefore (latency_of c.stages) c.stages) where
  -- the hits of a packet that entered in a cycle
  abbrev pub hits_at : ℕ × Packet → List Hit
  hits_at x = map (hit_from x.1) (outcome_at c whole x).counted

  pub hits_are : (cycle : ℕ) (inputs : List Input) → AllLeave (latency_of c.stages) inputs → hits_from c whole cycle inputs ≡ flat_map hits_at (packets_at cycle inputs)
  hits_are cycle [] all = refl
  hits_are cycle (input ∷ inputs) all =
      ap (λ hs. unwrap_or (option_map (λ packet. hits_before (length inputs + 1) packet (outcome_of (look_from c whole cycle) c packet).counted) (packet_of input)) [] ++ hs) (hits_are (cycle + 1) inputs all.1)
      ∙ by (packet_of input) refl
    where
      by : (o : Option Packet) → packet_of input ≡ o
          → unwrap_or (option_map (λ packet. hits_before (length inputs + 1) packet (outcome_of (look_from c whole cycle) c packet).counted) o) [] ++ flat_map hits_at (packets_at (cycle + 1) inputs)
          ≡ flat_map hits_at (with_entered cycle o (packets_at (cycle + 1) inputs))
      by None e = refl
      by (Some packet) e =
          let le = all.0 packet e in
          let early : CountBelow (length inputs + 1) c.stages = All-weaker (λ (s : Stage). s.start + 12 ≤ latency_of c.stages) (λ (s : Stage). s.start + 8 < length inputs + 1) (λ s h. omega (arith, h, le)) c.stages ends in
          ap (λ hs. hs ++ flat_map hits_at (packets_at (cycle + 1) inputs))
          (hits_before-all (length inputs + 1) packet (outcome_of (look_from c whole cycle) c packet).counted (outcome_below (length inputs + 1) (look_from c whole cycle) c packet (parse c.parser packet.frame) early))
