-- What the runs of the chip come to: the answers leave in the order of the packets, behind the last stage.
use Rattle.std.proofs.Common.{◌≡◌, ℕ, zero, suc, ◌+◌, ◌-◌, ◌<◌, List, [], ◌∷◌, ◌++◌, length, get_or, Option, Some, None, refl, sym, ap, ◌∙◌, subst, arith}
use Rattle.std.specs.Prelude.{nat_lt, if◌then◌else◌, map, replicate, slice_get, option_map, option_and_then, filter_map}
use Rattle.std.specs.List.{range_with_len}
use Rattle.std.proofs.lemmas.List.{length-append, length-map, length-replicate}
use Rattle.std.proofs.lemmas.Bool.{lt-ltb, le-ltb}
use Rattle.rmt_bits.specs.Packet.{Packet}
use Rattle.rmt_config.specs.Types.{Config, Stage}
use Rattle.rmt_config.specs.ChipRun.{outcomes_of, outcome_of, own_look, latency_of}

-- places that give nothing are passed over
none_before : {Y : Type 0} (h : ℕ → Option Y) (a m n : ℕ) → ((k : ℕ) → k < m → h (a + k) ≡ None) → filter_map h (range_with_len a (m + n)) ≡ filter_map h (range_with_len (a + m) n)
none_before h a zero n e =
    let same : a + 0 ≡ a = omega arith in
    let whole : 0 + n ≡ n = omega arith in
    rw (same, whole) refl
none_before h a (suc m) n e =
    let split : suc m + n ≡ suc (m + n) = omega arith in
    let moved : a + suc m ≡ a + 1 + m = omega arith in
    let here : h a ≡ None = subst (λ p. h p ≡ None) (omega arith) (e 0 (omega arith)) in
    let later : (k : ℕ) → k < m → h (a + 1 + k) ≡ None = λ k b. subst (λ p. h p ≡ None) (omega arith) (e (suc k) (omega arith)) in
    rw (split, moved, here) (none_before h (a + 1) m n later)

-- places that give what the items give are mapped
each_given : {X Y : Type 0} (h : ℕ → Option Y) (f : X → Y) (a : ℕ) (xs : List X) → ((k : ℕ) → k < length xs → h (a + k) ≡ option_map f (slice_get xs k)) → filter_map h (range_with_len a (length xs)) ≡ map f xs
each_given h f a [] e = refl
each_given h f a (x ∷ xs) e =
    let here : h a ≡ Some (f x) = subst (λ p. h p ≡ Some (f x)) (omega arith) (e 0 (omega arith)) in
    let later : (k : ℕ) → k < length xs → h (a + 1 + k) ≡ option_map f (slice_get xs k) =
    λ k b. subst (λ p. h p ≡ option_map f (slice_get xs k)) (omega arith) (e (suc k) (omega arith)) in
    rw here (ap (λ ys. f x ∷ ys) (each_given h f (a + 1) xs later))

-- an item of a list of inputs, by its place
given_at : {X Y : Type 0} (f : X → Y) (xs : List X) (rest : List (Option X)) (k : ℕ) → k < length xs → option_and_then (option_map f) (slice_get (map Some xs ++ rest) k) ≡ option_map f (slice_get xs k)
given_at f [] rest k h = absurd (omega (arith, h))
given_at f (x ∷ xs) rest zero h = refl
given_at f (x ∷ xs) rest (suc k) h = given_at f xs rest k (omega (arith, h))

-- what leaves at a cycle, where it entered l cycles before
abbrev leaves_at : {X Y : Type 0} → (X → Y) → ℕ → List (Option X) → ℕ → Option Y
leaves_at f l inputs cycle = if nat_lt cycle l then None else option_and_then (option_map f) (slice_get inputs (cycle - l))

not_yet : {X Y : Type 0} (f : X → Y) (l : ℕ) (inputs : List (Option X)) (cycle : ℕ) → cycle < l → leaves_at f l inputs cycle ≡ None
not_yet f l inputs cycle h = rw (lt-ltb cycle l h) refl

leaves_after : {X Y : Type 0} (f : X → Y) (l : ℕ) (inputs : List (Option X)) (k : ℕ) → leaves_at f l inputs (l + k) ≡ option_and_then (option_map f) (slice_get inputs k)
leaves_after f l inputs k =
    let back : l + k - l ≡ k = omega arith in
    rw (le-ltb (l + k) l (omega arith), back) refl

-- items that enter one a cycle leave one a cycle, each of them once
all_leave : {X Y : Type 0} (f : X → Y) (l : ℕ) (xs : List X) → filter_map (leaves_at f l (map Some xs ++ replicate l None)) (range_with_len 0 (length (map Some xs ++ replicate l None))) ≡ map f xs
all_leave {X} f l xs =
    let inputs : List (Option X) = map Some xs ++ replicate l None in
    let cycles : length inputs ≡ l + length xs = simp (length-append, length-map, length-replicate) (omega arith) in
    let first : 0 + l ≡ l = omega arith in
    rw cycles
    (none_before (leaves_at f l inputs) 0 l (length xs) (λ k h. not_yet f l inputs (0 + k) (omega (arith, h)))
    ∙ ap (λ a. filter_map (leaves_at f l inputs) (range_with_len a (length xs))) first
    ∙ each_given (leaves_at f l inputs) f l xs (λ k h. leaves_after f l inputs k ∙ given_at f xs (replicate l None) k h))

-- every packet is answered by itself, and the answers leave in the order of the packets
pub outcomes_of-map : (c : Config) (packets : List Packet) → outcomes_of c packets ≡ map (outcome_of (own_look c) c) packets
outcomes_of-map c [] = refl
outcomes_of-map c (packet ∷ packets) = all_leave (outcome_of (own_look c) c) (latency_of c.stages) (packet ∷ packets)

-- a packet leaves 12 cycles behind the start of the last stage
pub latency_last : (stages : List Stage) (d : Stage) → 0 < length stages → latency_of stages ≡ (get_or stages (length stages - 1) d).start + 12
latency_last [] d h = absurd (omega (arith, h))
latency_last (s ∷ []) d h = refl
latency_last (s ∷ t ∷ rest) d h =
    let place : length (s ∷ t ∷ rest) - 1 ≡ suc (length (t ∷ rest) - 1) = omega arith in
    latency_last (t ∷ rest) d (omega arith) ∙ ap (λ n. (get_or (s ∷ t ∷ rest) n d).start + 12) (sym place)
