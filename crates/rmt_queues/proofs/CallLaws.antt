-- Queues over lists of calls.
use Rattle.std.proofs.Common.{◌≡◌, ℕ, zero, suc, ◌+◌, ◌-◌, ◌<◌, ◌≤◌, List, [], ◌∷◌, ◌++◌, Bool, cond, true, false, ◌&&◌, eqb, map, length, take, drop, get_or, append_assoc, refl, ap, sym, ◌∙◌, subst, ⊎_elim, arith}
use Rattle.std.specs.Prelude.{All, sum_by}
use Rattle.std.specs.List.{list_any}
use Rattle.std.specs.List.Sorted.{IsStrictlyIncreasing}
use Rattle.std.proofs.lemmas.Bool.{cases_Bool, eqb-true, eqb-false}
use Rattle.std.proofs.lemmas.List.{append-nil, drop-map, get_or_default, get_or_append_left, get_or_push, length-replicate, length-set, length_push, map_push, nil_from_length, take-append-drop}
use Rattle.std.proofs.lemmas.List.Elements.{All-cons, All-drop, All-nil, All-same, All-weaker}
use Rattle.rmt_cells.specs.Pieces.{cells_for}
use Rattle.rmt_queues.specs.Calls.{Call, ItemCopy, after, after_all, given, given_by, held, queued, queued_by}
use Rattle.rmt_queues.specs.Calls.Call.{Offer, Take}
use Rattle.rmt_queues.specs.Laws.{EmptyQueuesFreeAll, NothingIsLost}
use Rattle.rmt_queues.specs.Lists.{Lists, empty, fits, has_room, item_of, offered, queue_of, standing, taken, with_item}
use Rattle.rmt_bits.proofs.AlikeLaws.{map_alike}
use Rattle.rmt_queues.proofs.AlikeLaws.{sum_by_none}
use Rattle.rmt_queues.proofs.CountLaws.{standing_few}
use Rattle.rmt_queues.proofs.EmptyLaws.{empty_queue}
use Rattle.rmt_queues.proofs.OfferLaws.{queue_sent, queues_sent, with_copy_known}
use Rattle.rmt_queues.proofs.TakeLaws.{queue_other, queue_taken}

abbrev copy_of : Lists → ℕ → ItemCopy
copy_of s number = record { number = number; item = item_of s number }

-- the numbers in the queue of a port are those of items
abbrev Known : Lists → ℕ → Type 0
Known s port = All (λ number. number < length s.items) (queue_of s port)

abbrev stores : Lists → List ℕ → List ℕ → Bool
stores s ports item = list_any (has_room s) ports && fits s item

-- ---- one offer

module _ (s : Lists) (ports item : List ℕ) (port : ℕ) (below : port < length s.queues) (known : Known s port) where
  abbrev n : ℕ
  n = length s.items

  abbrev t : Lists
  t = with_item s ports item

  abbrev among : Bool
  among = list_any (λ p. eqb p port) ports && has_room s port

  same_copies : map (copy_of t) (queue_of s port) ≡ held s port
  same_copies =
      map_alike (copy_of t) (copy_of s) (queue_of s port)
      (λ i d lt. let number = get_or (queue_of s port) i d in ap (λ (bytes : List ℕ). record { number = number; item = bytes }) (get_or_append_left s.items (item ∷ []) [] number (known i d lt)))

  new_copy : copy_of t n ≡ record { number = n; item = item }
  new_copy = ap (λ (bytes : List ℕ). record { number = n; item = bytes }) (get_or_push s.items item [] n refl)

  copied : (b : Bool) → map (copy_of t) (cond b (queue_of s port ++ n ∷ []) (queue_of s port)) ≡ held s port ++ cond b (record { number = n; item = item } ∷ []) []
  copied true =
      map_push (copy_of t) (queue_of s port) n ∙ ap (λ (cs : List ItemCopy). cs ++ copy_of t n ∷ []) same_copies
      ∙ ap (λ (c : ItemCopy). held s port ++ c ∷ []) new_copy
  copied false = same_copies ∙ sym (append-nil (held s port))

  held_sent : held t port ≡ held s port ++ cond among (record { number = n; item = item } ∷ []) []
  held_sent = ap (map (copy_of t)) (queue_sent s ports item port below) ∙ copied among

  known_sent : Known t port
  known_sent =
      let size = length_push s.items item in
      let all = with_copy_known s.depth ports n port (queue_of s port) known in
      λ i d lt. let here = All-same (λ x. x < n + 1) (queue_of t port) _ (queue_sent s ports item port below) all i d lt in omega (arith, here, size)

-- ---- one call

-- the queues after an offer, where the item is stored and where it is not
choose : (P : Lists → List ItemCopy → Type 0) (b a : Bool) (t s : Lists) (copies : List ItemCopy) → P t (cond a copies []) → P s [] → P (cond b t s) (cond (b && a) copies [])
choose P true a t s copies stored kept = stored
choose P false a t s copies stored kept = kept

pub step : (s : Lists) (call : Call) (port : ℕ) → port < length s.queues → Known s port → held s port ++ queued_by s call port ≡ given_by s call port ++ held (after s call) port
step s (Offer ports item) port below known =
    choose (λ t copies. held s port ++ copies ≡ held t port) (stores s ports item) (list_any (λ p. eqb p port) ports && has_room s port) (with_item s ports item) s
    (record { number = length s.items; item = item } ∷ []) (sym (held_sent s ports item port below known)) (append-nil (held s port))
step s (Take other) port below known =
    ⊎_elim
    (λ (same : eqb other port ≡ true).
    let is : other ≡ port = eqb-true other port same in
    append-nil (held s port) ∙ sym (take-append-drop 1 (held s port))
    ∙ ap (λ (cs : List ItemCopy). take 1 (held s port) ++ cs) (drop-map (copy_of s) 1 (queue_of s port) ∙ ap (map (copy_of s)) (sym (queue_taken s port below)))
    ∙ ap (λ (p : ℕ). take 1 (held s port) ++ held (taken s p) port) (sym is)
    ∙ ap (λ (b : Bool). cond b (take 1 (held s port)) [] ++ held (taken s other) port) (sym same))
    (λ (differ : eqb other port ≡ false).
    append-nil (held s port) ∙ ap (map (copy_of s)) (sym (queue_other s other port (λ e. eqb-false other port differ (sym e))))
    ∙ ap (λ (b : Bool). cond b (take 1 (held s port)) [] ++ held (taken s other) port) (sym differ))
    (cases_Bool (eqb other port))

pub known_on : (s : Lists) (call : Call) (port : ℕ) → port < length s.queues → Known s port → Known (after s call) port
known_on s (Offer ports item) port below known =
    choose (λ t copies. Known t port) (stores s ports item) true (with_item s ports item) s [] (known_sent s ports item port below known) known
known_on s (Take other) port below known =
    let P : ℕ → Type 0 = λ number. number < length s.items in
    ⊎_elim
    (λ (same : eqb other port ≡ true).
    subst (λ (p : ℕ). All P (queue_of (taken s p) port)) (sym (eqb-true other port same))
    (All-same P (queue_of (taken s port) port) (drop 1 (queue_of s port)) (queue_taken s port below) (All-drop P 1 (queue_of s port) known)))
    (λ (differ : eqb other port ≡ false).
    All-same P (queue_of (taken s other) port) (queue_of s port) (queue_other s other port (λ e. eqb-false other port differ (sym e))) known)
    (cases_Bool (eqb other port))

pub many_on : (s : Lists) (call : Call) → length (after s call).queues ≡ length s.queues
many_on s (Offer ports item) = choose (λ t copies. length t.queues ≡ length s.queues) (stores s ports item) true (with_item s ports item) s [] (queues_sent s ports item) refl
many_on s (Take port) = length-set s.queues port (drop 1 (queue_of s port))

pub cells_on : (s : Lists) (call : Call) → (after s call).cells ≡ s.cells
cells_on s (Offer ports item) = choose (λ t copies. t.cells ≡ s.cells) (stores s ports item) true (with_item s ports item) s [] refl refl
cells_on s (Take port) = refl

-- ---- all calls

pub all_steps : (s : Lists) (calls : List Call) (port : ℕ) → port < length s.queues → Known s port → given s calls port ++ held (after_all s calls) port ≡ held s port ++ queued s calls port
all_steps s [] port below known = sym (append-nil (held s port))
all_steps s (call ∷ calls) port below known =
    let t = after s call in
    let many = many_on s call in
    append_assoc (given_by s call port) (given t calls port) (held (after_all t calls) port)
    ∙ ap (λ (cs : List ItemCopy). given_by s call port ++ cs) (all_steps t calls port (omega (arith, below, many)) (known_on s call port below known))
    ∙ sym (append_assoc (given_by s call port) (held t port) (queued t calls port))
    ∙ ap (λ (cs : List ItemCopy). cs ++ queued t calls port) (sym (step s call port below known))
    ∙ append_assoc (held s port) (queued_by s call port) (queued t calls port)

-- numbers from one on, rising
pub record Rises (least : ℕ) (numbers : List ℕ) : Type 0 where
  pub above : All (λ number. least ≤ number) numbers
  pub rising : IsStrictlyIncreasing numbers

rising_cons : (x : ℕ) (xs : List ℕ) → All (λ y. x + 1 ≤ y) xs → IsStrictlyIncreasing xs → (k : ℕ) → k + 1 < length (x ∷ xs) → get_or (x ∷ xs) k 0 < get_or (x ∷ xs) (k + 1) 0
rising_cons x xs above rising zero lt = let here = above 0 0 (omega (arith, lt)) in omega (arith, here)
rising_cons x xs above rising (suc k) lt =
    let next : suc (k + 1) ≡ suc k + 1 = omega arith in
    subst (λ (m : ℕ). get_or (x ∷ xs) (suc k) 0 < get_or (x ∷ xs) m 0) next (rising k (omega (arith, lt)))

rises_cons : (x : ℕ) (xs : List ℕ) → Rises (x + 1) xs → Rises x (x ∷ xs)
rises_cons x xs rises = record {
  above = All-cons (λ number. x ≤ number) x xs (omega arith) (All-weaker (λ number. x + 1 ≤ number) (λ number. x ≤ number) (λ number le. omega (arith, le)) xs rises.above);
  rising = rising_cons x xs rises.above rises.rising;
}

rises_from : (least more : ℕ) (xs : List ℕ) → least ≤ more → Rises more xs → Rises least xs
rises_from least more xs le rises = record {
  above = All-weaker (λ number. more ≤ number) (λ number. least ≤ number) (λ number above. omega (arith, le, above)) xs rises.above;
  rising = rises.rising;
}

abbrev numbers_of : List ItemCopy → List ℕ
numbers_of copies = map (λ (copy : ItemCopy). copy.number) copies

offer_rises : (n : ℕ) (item : List ℕ) (a : Bool) (rest : List ItemCopy) → Rises (n + 1) (numbers_of rest) → Rises n (numbers_of (cond a (record { number = n; item = item } ∷ []) [] ++ rest))
offer_rises n item true rest rises = rises_cons n (numbers_of rest) rises
offer_rises n item false rest rises = rises_from n (n + 1) (numbers_of rest) (omega arith) rises

pub queued_rise : (s : Lists) (calls : List Call) (port : ℕ) → Rises (length s.items) (numbers_of (queued s calls port))
queued_rise s [] port = record { above = All-nil (λ number. length s.items ≤ number); rising = λ k lt. absurd (omega (arith, lt)) }
queued_rise s (Offer ports item ∷ calls) port =
    choose (λ t copies. Rises (length t.items) (numbers_of (queued t calls port)) → Rises (length s.items) (numbers_of (copies ++ queued t calls port)))
    (stores s ports item) (list_any (λ p. eqb p port) ports && has_room s port) (with_item s ports item) s (record { number = length s.items; item = item } ∷ [])
    (λ rises. offer_rises (length s.items) item (list_any (λ p. eqb p port) ports && has_room s port) (queued (with_item s ports item) calls port)
    (subst (λ (n : ℕ). Rises n (numbers_of (queued (with_item s ports item) calls port))) (length_push s.items item) rises))
    (λ rises. rises)
    (queued_rise (offered s ports item) calls port)
queued_rise s (Take other ∷ calls) port = queued_rise (taken s other) calls port

pub nothing_lost : NothingIsLost
nothing_lost cells ports depth calls port lt =
    let s = empty cells ports depth in
    let none : List ℕ = [] in
    let below : port < length s.queues = let size = length-replicate ports none in omega (arith, size, lt) in
    let known : Known s port = All-same (λ number. number < 0) (queue_of s port) [] (empty_queue ports port) (All-nil (λ number. number < 0)) in (
      all_steps s calls port below known ∙ ap (λ (xs : List ℕ). map (copy_of s) xs ++ queued s calls port) (empty_queue ports port),
      (queued_rise s calls port).rising,
    )

pub many_all : (s : Lists) (calls : List Call) → length (after_all s calls).queues ≡ length s.queues
many_all s [] = refl
many_all s (call ∷ calls) = many_all (after s call) calls ∙ many_on s call

cells_all : (s : Lists) (calls : List Call) → (after_all s calls).cells ≡ s.cells
cells_all s [] = refl
cells_all s (call ∷ calls) = cells_all (after s call) calls ∙ cells_on s call

pub all_free : EmptyQueuesFreeAll
all_free cells ports depth calls none =
    let s = after_all (empty cells ports depth) calls in
    let nil : List ℕ = [] in
    let many : length s.queues ≡ ports = many_all (empty cells ports depth) calls ∙ length-replicate ports nil in
    let same : s.cells ≡ cells = cells_all (empty cells ports depth) calls in
    let lengths = sum_by_none (λ (queue : List ℕ). length queue) s.queues
    (λ port d lt. ap (λ (xs : List ℕ). length xs) (get_or_default s.queues port d [] lt ∙ none port (omega (arith, lt, many)))) in
    let few = standing_few s.queues (length s.items) in
    let empty_standing : standing s ≡ [] = nil_from_length (standing s) (omega (arith, lengths, few)) in
    ap (λ (xs : List ℕ). s.cells - sum_by (λ number. cells_for (length (item_of s number))) xs) empty_standing
    ∙ (let all : s.cells - 0 ≡ s.cells = omega arith in all) ∙ same
