-- Calls that stand behind others.
use Rattle.std.proofs.Common.{◌≡◌, ℕ, ◌+◌, ◌<◌, List, [], ◌∷◌, ◌++◌, Bool, cond, true, false, ◌&&◌, eqb, map, length, drop, set, append_assoc, refl, ap, sym, ◌∙◌, ⊎_elim, arith}
use Rattle.std.specs.List.{list_any}
use Rattle.std.proofs.lemmas.Bool.{cases_Bool, eqb-true}
use Rattle.std.proofs.lemmas.List.{append-nil, map-append, set-get_or}
use Rattle.rmt_queues.specs.Calls.{Call, ItemCopy, after, after_all, given, given_by, held}
use Rattle.rmt_queues.specs.Calls.Call.{Take}
use Rattle.rmt_queues.specs.Lists.{Lists, fits, has_room, item_of, offered, queue_of, taken, with_item}
use Rattle.rmt_queues.proofs.CopyLaws.{with_copy_none}
use Rattle.rmt_queues.proofs.OfferLaws.{queue_sent}
use Rattle.rmt_switch.specs.Copies.{counted, sent_in}

pub after_all-append : (s : Lists) (calls more : List Call) → after_all s (calls ++ more) ≡ after_all (after_all s calls) more
after_all-append s [] more = refl
after_all-append s (call ∷ calls) more = after_all-append (after s call) calls more

pub given-append : (s : Lists) (calls more : List Call) (port : ℕ) → given s (calls ++ more) port ≡ given s calls port ++ given (after_all s calls) more port
given-append s [] more port = refl
given-append s (call ∷ calls) more port =
    ap (λ (cs : List ItemCopy). given_by s call port ++ cs) (given-append (after s call) calls more port)
    ∙ sym (append_assoc (given_by s call port) (given (after s call) calls port) (given (after_all (after s call) calls) more port))

pub counted-append : (count : Lists → Call → ℕ) (s : Lists) (calls more : List Call) → counted count s (calls ++ more) ≡ counted count s calls + counted count (after_all s calls) more
counted-append count s [] more = omega arith
counted-append count s (call ∷ calls) more =
    let rest = counted-append count (after s call) calls more in
    omega (arith, rest)

-- one call more
module _ (s : Lists) (calls : List Call) (call : Call) where
  abbrev t : Lists
  t = after_all s calls

  pub after_one : after_all s (calls ++ call ∷ []) ≡ after t call
  after_one = after_all-append s calls (call ∷ [])

  pub counted_one : (count : Lists → Call → ℕ) → counted count s (calls ++ call ∷ []) ≡ counted count s calls + count t call
  counted_one count = let e = counted-append count s calls (call ∷ []) in omega (arith, e)

  pub sent_one : (port : ℕ) → sent_in s (calls ++ call ∷ []) port ≡ sent_in s calls port ++ map (λ (copy : ItemCopy). copy.item) (given_by t call port)
  sent_one port =
      ap (map (λ (copy : ItemCopy). copy.item)) (given-append s calls (call ∷ []) port ∙ ap (λ (cs : List ItemCopy). given s calls port ++ cs) (append-nil (given_by t call port)))
      ∙ map-append (λ (copy : ItemCopy). copy.item) (given s calls port) (given_by t call port)

-- a take where nothing stands changes nothing
pub taken_nothing : (s : Lists) (port : ℕ) → queue_of s port ≡ [] → taken s port ≡ s
taken_nothing s port none =
    ap (λ (queues : List (List ℕ)). record s { queues = queues })
    (ap (λ (queue : List ℕ). set s.queues port (drop 1 queue)) none ∙ ap (λ (queue : List ℕ). set s.queues port queue) (sym none) ∙ set-get_or s.queues port [])

pub given_nothing : (s : Lists) (port other : ℕ) → queue_of s port ≡ [] → given_by s (Take port) other ≡ []
given_nothing s port other none =
    ⊎_elim
    (λ (same : eqb port other ≡ true).
    let here : held s other ≡ [] = ap (λ (p : ℕ). held s p) (sym (eqb-true port other same)) ∙ ap (map (λ number. record { number = number; item = item_of s number })) none in
    rw (same, here) refl)
    (λ (differ : eqb port other ≡ false). rw differ refl)
    (cases_Bool (eqb port other))

-- a queue that is not offered to is as before
pub queue_kept : (s : Lists) (ports item : List ℕ) (port : ℕ) → port < length s.queues → list_any (λ p. eqb p port) ports ≡ false → queue_of (offered s ports item) port ≡ queue_of s port
queue_kept s ports item port below other =
    either (list_any (has_room s) ports && fits s item) (queue_sent s ports item port below ∙ with_copy_none s.depth ports (length s.items) port (queue_of s port) other)
  where
    either : (b : Bool) → queue_of (with_item s ports item) port ≡ queue_of s port → queue_of (cond b (with_item s ports item) s) port ≡ queue_of s port
    either true e = e
    either false e = refl
