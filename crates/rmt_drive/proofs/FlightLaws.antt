-- How many packets are in flight: those that entered, without those that left before.
use Rattle.std.proofs.Common.{◌≡◌, ⊎_elim, ℕ, zero, suc, ◌+◌, ◌-◌, ◌<◌, ◌≤◌, ◌&&◌, Bool, false, cond, leb, List, [], ◌∷◌, ◌++◌, length, take, max, Option, Some, None, sym, refl, ap, ◌∙◌, subst, arith, length-append}
use Rattle.std.specs.Prelude.{filter_map, fold, is_some, option_and_then, option_map, slice_get}
use Rattle.std.specs.List.{count_by, range_with_len, cons_option}
use Rattle.std.proofs.lemmas.Bool.{cases_lt, le-leb, lt-ltb, le-ltb, lt-leb}
use Rattle.std.proofs.lemmas.List.{take-append-le, take_all}
use Rattle.std.proofs.lemmas.List.Elements.{filter_map-append}
use Rattle.std.proofs.lemmas.List.Sums.{fold_push, sum_by_push}
use Rattle.std.proofs.lemmas.Option.{slice_get_past}
use Rattle.rmt_bits.proofs.FunctionLaws.{funext}
use Rattle.rmt_bits.proofs.ListLaws.{range_more, slice_get-front, slice_get-item, take-slice_get}
use Rattle.rmt_bits.specs.Packet.{Packet}
use Rattle.rmt_config.specs.declared.config.Config.{Config}
use Rattle.rmt_config.specs.Resources.{greatest_by}
use Rattle.rmt_config.specs.ChipRun.{Outcome, latency_of, outcome_of}
use Rattle.rmt_config.specs.RunInputs.{Input, answer_in, flight_in, in_flight, look_from, outcome_from_cycle, packet_of}

-- how many packets are among inputs
abbrev pub enters : Input → Bool
enters input = is_some (packet_of input)

abbrev pub packets : List Input → ℕ
packets inputs = count_by enters inputs

-- a packet enters in a cycle
abbrev enters_at : List Input → ℕ → Bool
enters_at inputs n = is_some (option_and_then packet_of (slice_get inputs n))

-- and has an age in another
abbrev flies : List Input → ℕ → ℕ → Bool
flies inputs cycle age = leb age cycle && enters_at inputs (cycle - age)

abbrev one_if : Bool → ℕ
one_if b = cond b 1 0

packets_more : (inputs : List Input) (n : ℕ) → packets (take (n + 1) inputs) ≡ packets (take n inputs) + one_if (enters_at inputs n)
packets_more inputs n =
    ⊎_elim (λ (lt : n < length inputs).
    let there = slice_get-item inputs n lt in
    ap packets (take-slice_get inputs n there.0 there.1) ∙ sum_by_push (λ (i : Input). one_if (enters i)) (take n inputs) there.0
    ∙ ap (λ (o : Option Input). packets (take n inputs) + one_if (is_some (option_and_then packet_of o))) (sym there.1))
    (λ (le : length inputs ≤ n).
    let none : enters_at inputs n ≡ false = ap (λ (o : Option Input). is_some (option_and_then packet_of o)) (slice_get_past inputs n le) in
    let same : packets (take (n + 1) inputs) ≡ packets (take n inputs) = ap packets (take_all (n + 1) inputs (omega (arith, le)) ∙ sym (take_all n inputs le)) in
    let zeros : one_if (enters_at inputs n) ≡ 0 = ap one_if none in
    omega (arith, same, zeros))
    (cases_lt n (length inputs))

count_more : (f : ℕ → Bool) (k : ℕ) → count_by f (range_with_len 0 (k + 1)) ≡ count_by f (range_with_len 0 k) + one_if (f k)
count_more f k =
    let at : 0 + k ≡ k = omega arith in
    ap (count_by f) (range_more 0 k) ∙ sum_by_push (λ n. one_if (f n)) (range_with_len 0 k) (0 + k) ∙ ap (λ n. count_by f (range_with_len 0 k) + one_if (f n)) at

-- of the packets up to a cycle those below an age and those that entered before
flown : (inputs : List Input) (n k : ℕ) → count_by (flies inputs n) (range_with_len 0 k) + packets (take (n + 1 - k) inputs) ≡ packets (take (n + 1) inputs)
flown inputs n zero =
    let all : n + 1 - 0 ≡ n + 1 = omega arith in
    let same : packets (take (n + 1 - 0) inputs) ≡ packets (take (n + 1) inputs) = ap (λ m. packets (take m inputs)) all in
    omega (arith, same)
flown inputs n (suc k) =
    let before = flown inputs n k in
    let size : suc k ≡ k + 1 = omega arith in
    let counted : count_by (flies inputs n) (range_with_len 0 (suc k)) ≡ count_by (flies inputs n) (range_with_len 0 k) + one_if (flies inputs n k) =
    ap (λ m. count_by (flies inputs n) (range_with_len 0 m)) size ∙ count_more (flies inputs n) k in
    ⊎_elim (λ (past : n < k).
    let here : one_if (flies inputs n k) ≡ 0 = ap (λ b. one_if (b && enters_at inputs (n - k))) (lt-leb k n past) in
    let none : n + 1 - suc k ≡ n + 1 - k = omega (arith, past) in
    let same : packets (take (n + 1 - suc k) inputs) ≡ packets (take (n + 1 - k) inputs) = ap (λ m. packets (take m inputs)) none in
    omega (arith, before, counted, here, same))
    (λ (le : k ≤ n).
    let here : one_if (flies inputs n k) ≡ one_if (enters_at inputs (n - k)) = ap (λ b. one_if (b && enters_at inputs (n - k))) (le-leb k n le) in
    let front : n + 1 - k ≡ n - k + 1 = omega (arith, le) in
    let less : n + 1 - suc k ≡ n - k = omega (arith, le) in
    let more : packets (take (n + 1 - k) inputs) ≡ packets (take (n - k) inputs) + one_if (enters_at inputs (n - k)) = ap (λ m. packets (take m inputs)) front ∙ packets_more inputs (n - k) in
    let same : packets (take (n + 1 - suc k) inputs) ≡ packets (take (n - k) inputs) = ap (λ m. packets (take m inputs)) less in
    omega (arith, before, counted, here, more, same))
    (cases_lt n k)

-- how many have left: those that entered the latency before
pub left_are : (c : Config) (inputs : List Input) (m : ℕ) → length (filter_map (answer_in c inputs) (range_with_len 0 m)) ≡ packets (take (m - latency_of c.stages) inputs)
left_are c inputs zero = let none : 0 - latency_of c.stages ≡ 0 = omega arith in ap (λ n. packets (take n inputs)) (sym none)
left_are c inputs (suc m) =
    let l = latency_of c.stages in
    let before = left_are c inputs m in
    let size : suc m ≡ m + 1 = omega arith in
    let at : 0 + m ≡ m = omega arith in
    let f = answer_in c inputs in
    let counted : length (filter_map f (range_with_len 0 (suc m))) ≡ length (filter_map f (range_with_len 0 m)) + one_if (is_some (f m)) =
    ap (λ n. length (filter_map f (range_with_len 0 n))) size ∙ ap (λ (xs : List ℕ). length (filter_map f xs)) (range_more 0 m)
    ∙ ap length (filter_map-append f (range_with_len 0 m) ((0 + m) ∷ [])) ∙ length-append (filter_map f (range_with_len 0 m)) (filter_map f ((0 + m) ∷ []))
    ∙ ap (λ n. length (filter_map f (range_with_len 0 m)) + length (filter_map f (n ∷ []))) at ∙ ap (λ n. length (filter_map f (range_with_len 0 m)) + n) (one (f m)) in
    ⊎_elim (λ (early : m < l).
    let here : one_if (is_some (f m)) ≡ 0 = ap (λ b. one_if (is_some (cond b None (outcome_from_cycle c inputs (m - l))))) (lt-ltb m l early) in
    let none : suc m - l ≡ m - l = omega (arith, early) in
    let same : packets (take (suc m - l) inputs) ≡ packets (take (m - l) inputs) = ap (λ n. packets (take n inputs)) none in
    omega (arith, before, counted, here, same))
    (λ (late : l ≤ m).
    let here : one_if (is_some (f m)) ≡ one_if (enters_at inputs (m - l)) =
    ap (λ b. one_if (is_some (cond b None (outcome_from_cycle c inputs (m - l))))) (le-ltb m l late)
    ∙ ap one_if (mapped (outcome_of (look_from c inputs (m - l)) c) (option_and_then packet_of (slice_get inputs (m - l)))) in
    let front : suc m - l ≡ m - l + 1 = omega (arith, late) in
    let more : packets (take (suc m - l) inputs) ≡ packets (take (m - l) inputs) + one_if (enters_at inputs (m - l)) = ap (λ n. packets (take n inputs)) front ∙ packets_more inputs (m - l) in
    omega (arith, before, counted, here, more))
    (cases_lt m l)
  where
    one : (o : Option Outcome) → length (cons_option o []) ≡ one_if (is_some o)
    one None = refl
    one (Some x) = refl

    mapped : (f : Packet → Outcome) (o : Option Packet) → is_some (option_map f o) ≡ is_some o
    mapped f None = refl
    mapped f (Some p) = refl

-- ---- one cycle more

-- what is in flight in a cycle does not wait for later inputs
flight_before : (c : Config) (inputs more : List Input) (k : ℕ) → k < length inputs → in_flight c (inputs ++ more) k ≡ in_flight c inputs k
flight_before c inputs more k h = ap (λ f. count_by f (range_with_len 0 (latency_of c.stages + 1))) (funext (flies (inputs ++ more) k) (flies inputs k) each)
  where
    each : (age : ℕ) → flies (inputs ++ more) k age ≡ flies inputs k age
    each age = ap (λ (o : Option Input). leb age k && is_some (option_and_then packet_of o)) (slice_get-front inputs more (k - age) (omega (arith, h)))

-- in the last of some cycles there are those that entered, without those that left before
flight_last : (c : Config) (inputs : List Input) (x : Input) → in_flight c (inputs ++ x ∷ []) (length inputs) + packets (take (length inputs - latency_of c.stages) inputs) ≡ packets (inputs ++ x ∷ [])
flight_last c inputs x =
    let n = length inputs in
    let l = latency_of c.stages in
    let whole = inputs ++ x ∷ [] in
    let size : length whole ≡ n + 1 = length-append inputs (x ∷ []) in
    let all = flown whole n (l + 1) in
    let less : n + 1 - (l + 1) ≡ n - l = omega arith in
    let front : packets (take (n + 1 - (l + 1)) whole) ≡ packets (take (n - l) inputs) =
    ap (λ m. packets (take m whole)) less ∙ ap packets (take-append-le (n - l) inputs (x ∷ []) (omega arith)) in
    let total : packets (take (n + 1) whole) ≡ packets whole = ap packets (take_all (n + 1) whole (omega (arith, size))) in
    omega (arith, all, front, total)

greatest_alike : (f g : ℕ → ℕ) (s a n : ℕ) → ((k : ℕ) → k < n → f (a + k) ≡ g (a + k))
    → fold (λ most x. max most (f x)) s (range_with_len a n) ≡ fold (λ most x. max most (g x)) s (range_with_len a n)
greatest_alike f g s a zero e = refl
greatest_alike f g s a (suc n) e =
    let first : f a ≡ g a = subst (λ m. f m ≡ g m) (omega arith) (e 0 (omega arith)) in
    let later : (k : ℕ) → k < n → f (a + 1 + k) ≡ g (a + 1 + k) = λ k h. subst (λ m. f m ≡ g m) (omega arith) (e (suc k) (omega arith)) in
    ap (λ m. fold (λ most x. max most (f x)) (max s m) (range_with_len (a + 1) n)) first ∙ greatest_alike f g (max s (g a)) (a + 1) n later

flight_push : (c : Config) (inputs : List Input) (x : Input) → flight_in c (inputs ++ x ∷ []) ≡ max (flight_in c inputs) (in_flight c (inputs ++ x ∷ []) (length inputs))
flight_push c inputs x =
    let n = length inputs in
    let whole = inputs ++ x ∷ [] in
    let last : 0 + n ≡ n = omega arith in
    ap (λ m. greatest_by (in_flight c whole) (range_with_len 0 m)) (length-append inputs (x ∷ []))
    ∙ ap (greatest_by (in_flight c whole)) (range_more 0 n)
    ∙ fold_push (λ most k. max most (in_flight c whole k)) 0 (range_with_len 0 n) (0 + n)
    ∙ ap (λ m. max m (in_flight c whole (0 + n))) (greatest_alike (in_flight c whole) (in_flight c inputs) 0 0 n (λ k h. flight_before c inputs (x ∷ []) (0 + k) (omega (arith, h))))
    ∙ ap (λ k. max (flight_in c inputs) (in_flight c whole k)) last

-- the greatest number in flight, by how many entered and left
pub flight_more : (c : Config) (inputs : List Input) (x : Input) (left : ℕ) → left ≡ length (filter_map (answer_in c inputs) (range_with_len 0 (length inputs)))
    → flight_in c (inputs ++ x ∷ []) ≡ max (flight_in c inputs) (packets (inputs ++ x ∷ []) - left)
flight_more c inputs x left is =
    let last = flight_last c inputs x in
    let gone = left_are c inputs (length inputs) in
    let now : in_flight c (inputs ++ x ∷ []) (length inputs) ≡ packets (inputs ++ x ∷ []) - left = omega (arith, last, gone, is) in
    flight_push c inputs x ∙ ap (max (flight_in c inputs)) now

-- no more have left than have entered
pub left_few : (c : Config) (inputs : List Input) (x : Input) (left : ℕ) → left ≡ length (filter_map (answer_in c inputs) (range_with_len 0 (length inputs))) → left ≤ packets (inputs ++ x ∷ [])
left_few c inputs x left is =
    let last = flight_last c inputs x in
    let gone = left_are c inputs (length inputs) in
    omega (arith, last, gone, is)
