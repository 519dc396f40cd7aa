-- Rounds, port by port.
use Rattle.std.proofs.Common.{◌≡◌, ℕ, zero, suc, ◌+◌, ◌*◌, List, [], ◌∷◌, ◌++◌, map, length, append_assoc, ap, sym, ◌∙◌, arith}
use Rattle.std.specs.List.{flat_map, range_with_len}
use Rattle.std.proofs.lemmas.Grind.{flat_map-append}
use Rattle.std.proofs.lemmas.List.{append-nil, length-append, length-map, map_push}
use Rattle.std.proofs.lemmas.List.FromFn.{length-map-range_with_len, length-range_with_len}
use Rattle.rmt_bits.proofs.ListLaws.{range_more}
use Rattle.rmt_queues.specs.Calls.{Call}
use Rattle.rmt_queues.specs.Calls.Call.{Take}
use Rattle.rmt_switch.specs.Copies.{round, rounds}

pub one_more : (n : ℕ) → range_with_len 0 (n + 1) ≡ range_with_len 0 n ++ n ∷ []
one_more n = let same : 0 + n ≡ n = omega arith in range_more 0 n ∙ ap (λ m. range_with_len 0 n ++ m ∷ []) same

-- one port more takes
pub round_more : (calls : List Call) (port : ℕ) → (calls ++ round port) ++ Take port ∷ [] ≡ calls ++ round (port + 1)
round_more calls port = append_assoc calls (round port) (Take port ∷ []) ∙ ap (λ (cs : List Call). calls ++ cs) (sym (ap (map Take) (one_more port) ∙ map_push Take (range_with_len 0 port) port))

pub round_length : (calls : List Call) (ports : ℕ) → length (calls ++ round ports) ≡ length calls + ports
round_length calls ports =
    let both = length-append calls (round ports) in
    let mapped = length-map (range_with_len 0 ports) Take in
    let range = length-range_with_len 0 ports in
    omega (arith, both, mapped, range)

-- one round more
pub rounds_more : (calls : List Call) (ports n : ℕ) → (calls ++ rounds ports n) ++ round ports ≡ calls ++ rounds ports (n + 1)
rounds_more calls ports n =
    append_assoc calls (rounds ports n) (round ports)
    ∙ ap (λ (cs : List Call). calls ++ cs)
    (sym (ap (flat_map (λ k. round ports)) (one_more n) ∙ flat_map-append (λ k. round ports) (range_with_len 0 n) (n ∷ []) ∙ ap (λ (cs : List Call). rounds ports n ++ cs) (append-nil (round ports))))

pub rounds_length : (calls : List Call) (ports n : ℕ) → length (calls ++ rounds ports n) ≡ length calls + ports * n
rounds_length calls ports zero = let both = length-append calls [] in omega (arith, both)
rounds_length calls ports (suc n) =
    let next : suc n ≡ n + 1 = omega arith in
    let more = ap (λ (m : ℕ). length (calls ++ rounds ports m)) next ∙ ap (λ (cs : List Call). length cs) (sym (rounds_more calls ports n)) in
    let both = length-append (calls ++ rounds ports n) (round ports) in
    let one = length-map-range_with_len Take 0 ports in
    let before = rounds_length calls ports n in
    let product : ports * suc n ≡ ports * n + ports = omega arith in
    omega (arith, more, both, one, before, product)
