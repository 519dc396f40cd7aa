-- Rounds take queues empty.
use Rattle.std.proofs.Common.{◌≡◌, ℕ, zero, suc, ◌+◌, ◌-◌, ◌<◌, ◌≤◌, List, [], ◌∷◌, ◌++◌, Bool, cond, true, false, map, length, drop, refl, ap, sym, ◌∙◌, ⊎_elim, arith}
use Rattle.std.specs.Prelude.{◌&&◌}
use Rattle.std.specs.List.{list_any, range_with_len}
use Rattle.std.proofs.lemmas.Bool.{cases_eq, cases_lt}
use Rattle.std.proofs.lemmas.List.{append-nil, length-drop, length-replicate, nil_from_length}
use Rattle.rmt_queues.specs.Calls.{Call, after, after_all, given, held, queued}
use Rattle.rmt_queues.specs.Calls.Call.{Offer, Take}
use Rattle.rmt_queues.specs.Lists.{Lists, empty, fits, has_room, item_of, queue_of, taken, with_item}
use Rattle.rmt_queues.proofs.CallLaws.{many_on, nothing_lost, many_all}
use Rattle.rmt_queues.proofs.CopyLaws.{with_copy_deep}
use Rattle.rmt_queues.proofs.EmptyLaws.{empty_queue}
use Rattle.rmt_queues.proofs.OfferLaws.{queue_sent}
use Rattle.rmt_queues.proofs.TakeLaws.{queue_other, queue_taken}
use Rattle.rmt_switch.specs.Copies.{round, rounds}
use Rattle.rmt_switch.specs.Laws.{EverythingIsSent}
use Rattle.rmt_switch.proofs.CallLaws.{after_all-append}
use Rattle.rmt_switch.proofs.RoundLaws.{rounds_more}

-- ---- no queue has more items than the depth

depth_on : (s : Lists) (call : Call) → (after s call).depth ≡ s.depth
depth_on s (Take port) = refl
depth_on s (Offer ports item) = either (list_any (has_room s) ports && fits s item)
  where
    either : (b : Bool) → (cond b (with_item s ports item) s).depth ≡ s.depth
    either true = refl
    either false = refl

deep_on : (s : Lists) (call : Call) (port : ℕ) → port < length s.queues → length (queue_of s port) ≤ s.depth → length (queue_of (after s call) port) ≤ s.depth
deep_on s (Offer ports item) port below deep = either (list_any (has_room s) ports && fits s item)
  where
    either : (b : Bool) → length (queue_of (cond b (with_item s ports item) s) port) ≤ s.depth
    either true =
        let sent = ap (λ (queue : List ℕ). length queue) (queue_sent s ports item port below) in
        let few = with_copy_deep s.depth ports (length s.items) port (queue_of s port) deep in
        omega (arith, sent, few)
    either false = deep
deep_on s (Take other) port below deep =
    ⊎_elim
    (λ (same : port ≡ other).
    let here = ap (λ (queue : List ℕ). length queue) (ap (λ (p : ℕ). queue_of (taken s p) port) (sym same) ∙ queue_taken s port below) in
    let fewer = length-drop 1 (queue_of s port) in
    omega (arith, here, fewer, deep))
    (λ (apart : port ≡ other → ⊥). let kept = ap (λ (queue : List ℕ). length queue) (queue_other s other port apart) in omega (arith, kept, deep))
    (cases_eq port other)

deep_after : (s : Lists) (calls : List Call) (port : ℕ) → port < length s.queues → length (queue_of s port) ≤ s.depth → length (queue_of (after_all s calls) port) ≤ s.depth
deep_after s [] port below deep = deep
deep_after s (call ∷ calls) port below deep =
    let many = many_on s call in
    let depth = depth_on s call in
    let next = deep_on s call port below deep in
    let rest = deep_after (after s call) calls port (omega (arith, below, many)) (omega (arith, next, depth)) in
    omega (arith, rest, depth)

-- ---- a round takes one item of each queue

-- the takes of ports from one on: a port below them, or above, keeps its queue
takes_other : (s : Lists) (from n port : ℕ) → port < from → queue_of (after_all s (map Take (range_with_len from n))) port ≡ queue_of s port
takes_other s from zero port below = refl
takes_other s from (suc n) port below = takes_other (taken s from) (from + 1) n port (omega (arith, below)) ∙ queue_other s from port (λ e. omega (arith, e, below))

takes_here : (s : Lists) (from n port : ℕ) → from ≤ port → port < from + n → port < length s.queues → queue_of (after_all s (map Take (range_with_len from n))) port ≡ drop 1 (queue_of s port)
takes_here s from zero port least most below = absurd (omega (arith, least, most))
takes_here s from (suc n) port least most below =
    ⊎_elim
    (λ (same : port ≡ from).
    takes_other (taken s from) (from + 1) n port (omega (arith, same)) ∙ ap (λ (p : ℕ). queue_of (taken s p) port) (sym same) ∙ queue_taken s port below)
    (λ (apart : port ≡ from → ⊥).
    let many = many_on s (Take from) in
    let next : from + 1 ≤ port = ⊎_elim (λ (lt : from < port). omega (arith, lt)) (λ (ge : port ≤ from). absurd (apart (omega (arith, ge, least)))) (cases_lt from port) in
    takes_here (taken s from) (from + 1) n port next (omega (arith, most)) (omega (arith, below, many)) ∙ ap (drop 1) (queue_other s from port apart))
    (cases_eq port from)

round_here : (s : Lists) (ports port : ℕ) → port < ports → port < length s.queues → queue_of (after_all s (round ports)) port ≡ drop 1 (queue_of s port)
round_here s ports port lt below = takes_here s 0 ports port (omega arith) (omega (arith, lt)) below

-- so many rounds take so many items
left_after : (s : Lists) (ports port n : ℕ) → port < ports → port < length s.queues → length (queue_of (after_all s (rounds ports n)) port) ≡ length (queue_of s port) - n
left_after s ports port zero lt below = omega arith
left_after s ports port (suc n) lt below =
    let next : suc n ≡ n + 1 = omega arith in
    let before = after_all s (rounds ports n) in
    let more : after_all s (rounds ports (suc n)) ≡ after_all before (round ports) =
    ap (λ (m : ℕ). after_all s (rounds ports m)) next ∙ ap (after_all s) (sym (rounds_more [] ports n)) ∙ after_all-append s (rounds ports n) (round ports) in
    let many = many_all s (rounds ports n) in
    let here = round_here before ports port lt (omega (arith, below, many)) in
    let rest = left_after s ports port n lt below in
    let fewer = length-drop 1 (queue_of before port) in
    let whole = ap (λ (u : Lists). length (queue_of u port)) more ∙ ap (λ (queue : List ℕ). length queue) here in
    omega (arith, whole, fewer, rest)

-- ---- nothing is left

depth_after : (s : Lists) (calls : List Call) → (after_all s calls).depth ≡ s.depth
depth_after s [] = refl
depth_after s (call ∷ calls) = depth_after (after s call) calls ∙ depth_on s call

pub all_sent : EverythingIsSent
all_sent cells ports depth calls port lt =
    let s = empty cells ports depth in
    let none : List ℕ = [] in
    let size = length-replicate ports none in
    let below : port < length s.queues = omega (arith, size, lt) in
    let t = after_all s calls in
    let many = many_all s calls in
    let nothing : length (queue_of s port) ≤ s.depth = let e = ap (λ (queue : List ℕ). length queue) (empty_queue ports port) in omega (arith, e) in
    let deep = deep_after s calls port below nothing in
    let left = left_after t ports port depth lt (omega (arith, below, many)) in
    let end : queue_of (after_all s (calls ++ rounds ports depth)) port ≡ [] =
    ap (λ (u : Lists). queue_of u port) (after_all-append s calls (rounds ports depth)) ∙ nil_from_length (queue_of (after_all t (rounds ports depth)) port) (omega (arith, left, deep)) in
    let u = after_all s (calls ++ rounds ports depth) in
    let whole : given s (calls ++ rounds ports depth) port ++ held u port ≡ queued s (calls ++ rounds ports depth) port = (nothing_lost cells ports depth (calls ++ rounds ports depth) port lt).0 in
    sym (append-nil (given s (calls ++ rounds ports depth) port))
    ∙ ap (λ (queue : List ℕ). given s (calls ++ rounds ports depth) port ++ map (λ number. record { number = number; item = item_of u number }) queue) (sym end) ∙ whole
