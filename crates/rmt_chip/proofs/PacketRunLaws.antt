-- Where each cycle has a packet or nothing, the answers, the counters and what is seen are those of the configuration's own cells.
use Rattle.std.proofs.Common.{◌≡◌, ℕ, zero, suc, ◌+◌, ◌-◌, ◌<◌, ◌≤◌, Bool, true, false, cond, ltb, List, [], ◌∷◌, ◌++◌, length, map, take, Option, Some, None, refl, sym, ap, subst, ◌∙◌, ⊎_elim, arith}
use Rattle.std.specs.Prelude.{fold, is_some, nat_lt, option_and_then, option_map, slice_get, ◌||◌}
use Rattle.std.specs.List.{count_by, flat_map}
use Rattle.std.proofs.lemmas.Bool.{cases_lt, lt-ltb, le-ltb, le-leb, lt-leb}
use Rattle.std.proofs.lemmas.List.{append-nil, length-map, map-append, take_all}
use Rattle.std.proofs.lemmas.List.Sums.{count_by-le-length, sum_by-cons}
use Rattle.std.proofs.lemmas.Option.{slice_get-map}
use Rattle.rmt_bits.specs.Packet.{Packet}
use Rattle.rmt_bits.specs.Counts.{counts}
use Rattle.rmt_bits.specs.declared.answer.Verdict.{Verdict}
use Rattle.rmt_chip.specs.Types.{Config}
use Rattle.rmt_config.specs.Form.{Formed}
use Rattle.rmt_config.specs.Life.{Look}
use Rattle.rmt_config.specs.ChipRun.{Outcome, answer_at, chip_counts_of, counted_numbers, hits_before, hits_in, latency_of, number_at, outcome_of, own_look, packet_at, words_at}
use Rattle.rmt_config.specs.RunCells.{RunCells, look_in, own_cells}
use Rattle.rmt_config.specs.RunInputs.{Input, after_input, answer_in, cells_at, counts_in, hits_from, input_of as input_with, look_from, numbers_brought, packet_of, start_of as start_in}
use Rattle.rmt_chip.specs.declared.chip.Chip.{Chip}
use Rattle.rmt_chip.specs.declared.frame.Frame.{Frame}
use Rattle.rmt_chip.specs.declared.seen.Seen.{Seen}
use Rattle.rmt_chip.specs.Inputs.{entered_at, entered_in, entering, input_from, input_of, packets_of}
use Rattle.rmt_chip.specs.Leaving.{AnswersIf}
use Rattle.rmt_chip.specs.PacketRuns.{ShowsPacket, StandsFor}
use Rattle.rmt_chip.specs.Stands.{Shows, Stands, entered_of, in_flight}
use Rattle.rmt_chip.proofs.OwnLookLaws.{own-looks}
use Rattle.rmt_chip.proofs.StandsLaws.{packet_back}

-- packets change no cell
cells-stay : (c : Config) (cells : RunCells) (n : ℕ) (inputs : List (Option Packet)) → fold (after_input c) cells (take n (map input_with inputs)) ≡ cells
cells-stay c cells zero inputs = refl
cells-stay c cells (suc n) [] = refl
cells-stay c cells (suc n) (None ∷ inputs) = cells-stay c cells n inputs
cells-stay c cells (suc n) ((Some packet) ∷ inputs) = cells-stay c cells n inputs

none-brought : (c : Config) (inputs : List (Option Packet)) → flat_map (numbers_brought c) (map input_with inputs) ≡ []
none-brought c [] = refl
none-brought c (None ∷ inputs) = none-brought c inputs
none-brought c ((Some packet) ∷ inputs) = none-brought c inputs

module _ (c : Config) (formed : Formed c) (inputs : List (Option Packet)) where
  abbrev run : List Input
  run = map input_with inputs

  look-is : (cycle : ℕ) → look_from c run cycle ≡ own_look c
  look-is cycle = λ i k place key. look-at k place key i
    where
      look-at : (k place key : ℕ) → look_from c run cycle k place key ≡ own_look c k place key
      look-at k place key =
          let version = (cells_at c run cycle).version in
          ap (λ cells. look_in c version cells k place key) (cells-stay c (own_cells c) (cycle + start_in c k) inputs) ∙ own-looks c formed version k place key

  answered-by : (look : Look) (o : Option (Option Packet)) → option_map (outcome_of look c) (option_and_then packet_of (option_map input_with o)) ≡ option_and_then (option_map (outcome_of look c)) o
  answered-by look None = refl
  answered-by look (Some None) = refl
  answered-by look (Some (Some packet)) = refl

  pub answers-alone : (cycle : ℕ) → answer_in c run cycle ≡ answer_at c inputs cycle
  answers-alone cycle =
      let entered = cycle - latency_of c.stages in
      ap (λ (o : Option Outcome). cond (nat_lt cycle (latency_of c.stages)) None o)
      (ap (λ (o : Option Input). option_map (outcome_of (look_from c run entered) c) (option_and_then packet_of o)) (slice_get-map input_with inputs entered)
      ∙ answered-by (look_from c run entered) (slice_get inputs entered)
      ∙ ap (λ (look : Look). option_and_then (option_map (outcome_of look c)) (slice_get inputs entered)) (look-is entered))

  hits-alone : (cycle : ℕ) (rest : List (Option Packet)) → hits_from c run cycle (map input_with rest) ≡ hits_in c rest
  hits-alone cycle [] = refl
  hits-alone cycle (None ∷ rest) = hits-alone (cycle + 1) rest
  hits-alone cycle ((Some packet) ∷ rest) =
      ap (λ n. hits_before (n + 1) packet (outcome_of (look_from c run cycle) c packet).counted ++ hits_from c run (cycle + 1) (map input_with rest)) (length-map rest input_with)
      ∙ ap (λ (look : Look). hits_before (length rest + 1) packet (outcome_of look c packet).counted ++ hits_from c run (cycle + 1) (map input_with rest)) (look-is cycle)
      ∙ ap (λ hits. hits_before (length rest + 1) packet (outcome_of (own_look c) c packet).counted ++ hits) (hits-alone (cycle + 1) rest)

  pub counts-alone : counts_in c run ≡ chip_counts_of c inputs
  counts-alone =
      ap (λ numbers. counts (counted_numbers c ++ numbers) (hits_from c run 0 run)) (none-brought c inputs)
      ∙ ap (λ numbers. counts numbers (hits_from c run 0 run)) (append-nil (counted_numbers c))
      ∙ ap (counts (counted_numbers c)) (hits-alone 0 inputs)

-- how many packets entered before a cycle
count-front : (m : ℕ) (inputs : List (Option Packet)) → packets_of (take m (map input_with inputs)) ≡ number_at inputs m
count-front zero inputs = refl
count-front (suc m) [] = refl
count-front (suc m) (x ∷ inputs) =
    sum_by-cons (λ (i : Input). cond (is_some (packet_of i)) 1 0) (input_with x) (take m (map input_with inputs))
    ∙ ap (λ (o : Option Packet). cond (is_some o) 1 0 + packets_of (take m (map input_with inputs))) (packet_back x)
    ∙ ap (λ n. cond (is_some x) 1 0 + n) (count-front m inputs)
    ∙ sym (sum_by-cons (λ (o : Option Packet). cond (is_some o) 1 0) x (take m inputs))

-- the packet of an input
abbrev inner : Option (Option Packet) → Option Packet
inner o = option_and_then (λ (input : Option Packet). input) o

module _ (c : Config) (formed : Formed c) (inputs : List (Option Packet)) (age : ℕ) (seen : Option Seen) where
  shown-by : (m : ℕ) (o : Option (Option Packet)) → Shows c age (option_map (entering c (map input_with inputs) m) (option_and_then packet_of (option_map input_with o))) seen
      → ShowsPacket c age (number_at inputs m) (inner o) seen
  shown-by m None shows = none seen shows
    where
      none : (s : Option Seen) → Shows c age None s → ShowsPacket c age (number_at inputs m) None s
      none None h = tt
      none (Some s) h = absurd h
  shown-by m (Some None) shows = none seen shows
    where
      none : (s : Option Seen) → Shows c age None s → ShowsPacket c age (number_at inputs m) None s
      none None h = tt
      none (Some s) h = absurd h
  shown-by m (Some (Some p)) shows = some seen shows
    where
      some : (s : Option Seen) → Shows c age (Some (entering c (map input_with inputs) m p)) s → ShowsPacket c age (number_at inputs m) (Some p) s
      some None h = absurd h
      some (Some s) h = (h.0 ∙ count-front m inputs, λ w. h.1 w ∙ ap (λ (look : Look). words_at look c p age w) (look-is c formed inputs m))

  -- nothing is seen of an age at which nothing is
  not-shown : (n : ℕ) → Shows c age None seen → ShowsPacket c age n None seen
  not-shown n shows = by seen shows
    where
      by : (s : Option Seen) → Shows c age None s → ShowsPacket c age n None s
      by None h = tt
      by (Some s) h = absurd h

  -- what the chip shows of an age is the packet of that age in the newest cycle
  pub shows-alone : (cycle : ℕ) → length inputs ≡ cycle + 1 → Shows c age (in_flight c (map input_with inputs) age) seen
      → ShowsPacket c age (number_at inputs (cycle - age)) (packet_at c inputs cycle age) seen
  shows-alone cycle long shows =
      let run = map input_with inputs in
      let l = latency_of c.stages in
      let n = number_at inputs (cycle - age) in
      let there = inner (slice_get inputs (cycle - age)) in
      let size = length-map inputs input_with in
      ⊎_elim
      (λ (gone : l < age).
      subst (λ (b : Bool). ShowsPacket c age n (cond (ltb cycle age || b) None there) seen) (sym (lt-ltb l age gone))
      (subst (λ (o : Option Packet). ShowsPacket c age n o seen) (sym (either (ltb cycle age) there))
      (not-shown n (subst (λ (b : Bool). Shows c age (cond b (entered_at c run (length run) age) None) seen) (lt-leb age l gone) shows))))
      (λ (within : age ≤ l).
      let flying : Shows c age (entered_at c run (length run) age) seen = subst (λ (b : Bool). Shows c age (cond b (entered_at c run (length run) age) None) seen) (le-leb age l within) shows in
      ⊎_elim
      (λ (early : cycle < age).
      subst (λ (b : Bool). ShowsPacket c age n (cond (b || ltb l age) None there) seen) (sym (lt-ltb cycle age early))
      (not-shown n (subst (λ (b : Bool). Shows c age (cond b (entered_in c run (length run - 1 - age)) None) seen) (le-ltb age (length run) (omega (arith, size, long, early))) flying)))
      (λ (h : age ≤ cycle).
      let place : length run - 1 - age ≡ cycle - age = omega (arith, size, long) in
      let in_cycle : Shows c age (entered_in c run (cycle - age)) seen =
      subst (λ m. Shows c age (entered_in c run m) seen) place
      (subst (λ (b : Bool). Shows c age (cond b (entered_in c run (length run - 1 - age)) None) seen) (lt-ltb age (length run) (omega (arith, size, long, h))) flying) in
      subst (λ (b : Bool). ShowsPacket c age n (cond (b || ltb l age) None there) seen) (sym (le-ltb cycle age h))
      (subst (λ (b : Bool). ShowsPacket c age n (cond b None there) seen) (sym (le-ltb l age within))
      (shown-by (cycle - age) (slice_get inputs (cycle - age))
      (subst (λ (o : Option Input). Shows c age (option_map (entering c run (cycle - age)) (option_and_then packet_of o)) seen) (slice_get-map input_with inputs (cycle - age)) in_cycle))))
      (cases_lt cycle age))
      (cases_lt l age)
    where
      either : (b : Bool) (o : Option Packet) → cond (b || true) None o ≡ None
      either true o = refl
      either false o = refl

-- ---- one cycle more

pub runs-on : (c : Config) (inputs : List (Option Packet)) (frame : Option Frame) → map input_with (inputs ++ input_of frame ∷ []) ≡ map input_with inputs ++ input_from frame ∷ []
runs-on c inputs frame = map-append input_with inputs (input_of frame ∷ [])

pub stands-on : (c : Config) (inputs : List (Option Packet)) (frame : Option Frame) (chip : Chip) → Stands c (map input_with inputs ++ input_from frame ∷ []) chip → StandsFor c (inputs ++ input_of frame ∷ []) chip
stands-on c inputs frame chip s = subst (λ (run : List Input). Stands c run chip) (sym (runs-on c inputs frame)) s

pub answers-on : (c : Config) → Formed c → (inputs : List (Option Packet)) (frame : Option Frame) (answer : Option Verdict) (bytes : List ℕ)
    → AnswersIf (answer_in c (map input_with inputs ++ input_from frame ∷ []) (length (map input_with inputs))) answer bytes → AnswersIf (answer_at c (inputs ++ input_of frame ∷ []) (length inputs)) answer bytes
answers-on c formed inputs frame answer bytes h =
    subst (λ (o : Option Outcome). AnswersIf o answer bytes)
    (ap (λ (run : List Input). answer_in c run (length (map input_with inputs))) (sym (runs-on c inputs frame))
    ∙ ap (answer_in c (map input_with (inputs ++ input_of frame ∷ []))) (length-map inputs input_with)
    ∙ answers-alone c formed (inputs ++ input_of frame ∷ []) (length inputs)) h

-- how many packets entered
pub entered-alone : (inputs : List (Option Packet)) → packets_of (map input_with inputs) ≡ count_by is_some inputs
entered-alone inputs =
    ap packets_of (sym (take_all (length inputs) (map input_with inputs) (let e = length-map inputs input_with in omega (arith, e))))
    ∙ count-front (length inputs) inputs ∙ ap (λ (xs : List (Option Packet)). count_by is_some xs) (take_all (length inputs) inputs (omega arith))

-- a cycle with a frame or nothing
pub clocks-on : (c : Config) (inputs : List (Option Packet)) (frame : Option Frame) (old new : Chip) (answer : Option Verdict) (bytes : List ℕ) → StandsFor c inputs old
    → Stands c (map input_with inputs ++ input_from frame ∷ []) new → AnswersIf (answer_in c (map input_with inputs ++ input_from frame ∷ []) (length (map input_with inputs))) answer bytes
    → StandsFor c (inputs ++ input_of frame ∷ []) new × AnswersIf (answer_at c (inputs ++ input_of frame ∷ []) (length inputs)) answer bytes
clocks-on c inputs frame old new answer bytes s stands answers = (stands-on c inputs frame new stands, answers-on c s.formed inputs frame answer bytes answers)

-- no more packets entered than there were cycles
pub entered-few : (c : Config) (inputs : List (Option Packet)) (chip : Chip) → StandsFor c inputs chip → entered_of chip ≤ length inputs
entered-few c inputs chip s =
    let few = count_by-le-length is_some inputs in
    omega (arith, s.entered_is, entered-alone inputs, few)
