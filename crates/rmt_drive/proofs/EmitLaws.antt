-- The answers of a run, cycle by cycle.
use Rattle.std.proofs.Common.{◌≡◌, ℕ, zero, suc, ◌+◌, ◌-◌, ◌<◌, ◌≤◌, List, [], ◌∷◌, ◌++◌, length, Option, Some, None, sym, refl, ap, ◌∙◌, subst, arith, append_assoc, length-append}
use Rattle.std.specs.Prelude.{filter_map, map, option_and_then, option_map, nat_lt, replicate, if◌then◌else◌}
use Rattle.std.specs.Option.{option_to_list}
use Rattle.std.specs.List.{range_with_len, cons_option}
use Rattle.std.proofs.lemmas.List.{length-replicate, map-append, replicate-append-replicate}
use Rattle.std.proofs.lemmas.List.Elements.{filter_map-append}
use Rattle.rmt_bits.specs.Packet.{Packet}
use Rattle.rmt_config.specs.declared.config.Config.{Config}
use Rattle.rmt_config.specs.ChipRun.{Outcome, answer_at, latency_of, outcome_of, own_look}
use Rattle.rmt_packets.specs.AnswerLine.{answer_line}
use Rattle.rmt_bits.proofs.ListLaws.{range_more, slice_get-front}
use Rattle.rmt_drive.specs.SimText.{answer_lines, answer_of_outcome}
use Rattle.rmt_drive.specs.Watching.{emitted}

pub same_answers : {Y : Type 0} (f g : ℕ → Option Y) (a n : ℕ) → ((k : ℕ) → k < n → f (a + k) ≡ g (a + k)) → filter_map f (range_with_len a n) ≡ filter_map g (range_with_len a n)
same_answers f g a zero e = refl
same_answers f g a (suc n) e =
    let first : f a ≡ g a = subst (λ m. f m ≡ g m) (omega arith) (e 0 (omega arith)) in
    let later : (k : ℕ) → k < n → f (a + 1 + k) ≡ g (a + 1 + k) = λ k h. subst (λ m. f m ≡ g m) (omega arith) (e (suc k) (omega arith)) in
    ap (λ o. cons_option o (filter_map f (range_with_len (a + 1) n))) first ∙ ap (λ l. cons_option (g a) l) (same_answers f g (a + 1) n later)

one_answer : {Y : Type 0} (o : Option Y) → cons_option o [] ≡ option_to_list o
one_answer None = refl
one_answer (Some y) = refl

-- one more answer, where those before it are the same
pub one_answer_more : {Y : Type 0} (f g : ℕ → Option Y) (n : ℕ) → ((k : ℕ) → k < n → f k ≡ g k) → filter_map f (range_with_len 0 (n + 1)) ≡ filter_map g (range_with_len 0 n) ++ option_to_list (f n)
one_answer_more f g n same =
    let last : 0 + n ≡ n = omega arith in
    ap (filter_map f) (range_more 0 n)
    ∙ filter_map-append f (range_with_len 0 n) ((0 + n) ∷ [])
    ∙ ap (λ l. l ++ filter_map f ((0 + n) ∷ [])) (same_answers f g 0 n (λ k h. same (0 + k) (omega (arith, h))))
    ∙ ap (λ m. filter_map g (range_with_len 0 n) ++ filter_map f (m ∷ [])) last
    ∙ ap (λ l. filter_map g (range_with_len 0 n) ++ l) (one_answer (f n))

-- what leaves in a cycle does not wait for later inputs
answer_before : (c : Config) (inputs : List (Option Packet)) (x : Option Packet) (k : ℕ) → k < length inputs → answer_at c (inputs ++ x ∷ []) k ≡ answer_at c inputs k
answer_before c inputs x k h =
    ap (λ o. if nat_lt k (latency_of c.stages) then None else option_and_then (λ (input : Option Packet). option_map (outcome_of (own_look c) c) input) o)
    (slice_get-front inputs (x ∷ []) (k - latency_of c.stages) (omega arith))

-- one more cycle
pub emitted-more : (c : Config) (inputs : List (Option Packet)) (x : Option Packet) → emitted c (inputs ++ x ∷ []) ≡ emitted c inputs ++ option_to_list (answer_at c (inputs ++ x ∷ []) (length inputs))
emitted-more c inputs x =
    let f = answer_at c (inputs ++ x ∷ []) in
    ap (λ m. filter_map f (range_with_len 0 m)) (length-append inputs (x ∷ [])) ∙ one_answer_more f (answer_at c inputs) (length inputs) (answer_before c inputs x)

-- the lines of more answers stand behind those of the first
pub answer_lines-append : (n : ℕ) (xs ys : List Outcome) → answer_lines n (xs ++ ys) ≡ answer_lines n xs ++ answer_lines (n + length xs) ys
answer_lines-append n [] ys = let same : n + 0 ≡ n = omega arith in rw same refl
answer_lines-append n (x ∷ xs) ys =
    let same : n + 1 + length xs ≡ n + length (x ∷ xs) = omega arith in
    ap (λ l. answer_line n (answer_of_outcome x) ++ l) (answer_lines-append (n + 1) xs ys)
    ∙ sym (append_assoc (answer_line n (answer_of_outcome x)) (answer_lines (n + 1) xs) (answer_lines (n + 1 + length xs) ys))
    ∙ ap (λ m. answer_lines n (x ∷ xs) ++ answer_lines m ys) same

-- no more answers than cycles
pub few_left : (f : ℕ → Option Outcome) (a n : ℕ) → length (filter_map f (range_with_len a n)) ≤ n
few_left f a zero = omega arith
few_left f a (suc n) =
    let later : length (filter_map f (range_with_len (a + 1) n)) ≤ n = few_left f (a + 1) n in
    elim (f a) as (λ o. length (cons_option o (filter_map f (range_with_len (a + 1) n))) ≤ suc n) [ None ↦ omega (arith, later) | Some y ↦ omega (arith, later) ]

-- ---- packets, and cycles without one behind them

-- one more packet among the inputs
pub inputs_more : (done : List Packet) (packet : Packet) → map Some done ++ Some packet ∷ [] ≡ map Some (done ++ packet ∷ [])
inputs_more done packet = sym (map-append Some done (packet ∷ []))

pub length_somes : (done : List Packet) → length (map (λ p. Some p) done) ≡ length done
length_somes [] = refl
length_somes (p ∷ done) = ap (λ n. suc n) (length_somes done)

-- one more cycle without a packet
pub padded : (inputs : List (Option Packet)) (a : ℕ) → (inputs ++ replicate a None) ++ None ∷ [] ≡ inputs ++ replicate (a + 1) None
padded inputs a = append_assoc inputs (replicate a None) (None ∷ []) ∙ ap (λ (l : List (Option Packet)). inputs ++ l) (replicate-append-replicate a 1 None)

pub padded_length : (inputs : List (Option Packet)) (a : ℕ) → length (inputs ++ replicate a None) ≡ length inputs + a
padded_length inputs a = length-append inputs (replicate a None) ∙ ap (λ n. length inputs + n) (length-replicate a None)
