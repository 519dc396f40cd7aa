-- Queues in a map, behind a change at one key.
use Rattle.std.proofs.Common.{◌≡◌, ℕ, Bool, true, false, cond, List, [], ◌∷◌, ◌++◌, Option, Some, None, Vec, drop, map, refl, sym, ap, ◌∙◌}
use Rattle.std.specs.Prelude.{if◌then◌else◌, is_some, slice_get, unwrap_or}
use Rattle.std.specs.Global.{Global}
use Rattle.std.specs.Str.{bytes_eq}
use Rattle.std.specs.Ordering.{is_eq}
use Rattle.std.specs.BTreeMap.{WritesThrough, get, get_by, is_at}
use Rattle.std.specs.Map.{lookup}
use Rattle.std.specs.declared.collections.VecDeque.{VecDeque}
use Rattle.std.proofs.lemmas.List.{append-nil}
use Rattle.std.proofs.lemmas.Map.Text.{is_eq-slice_cmp}
use Rattle.std.proofs.lemmas.Slice.Eq.{bytes_eq-Decides}
use Rattle.rmt_bits.specs.Members.{by_numbers}
use Rattle.rmt_lists.specs.KeyNumbers.{Queues, paired, pairs_of, queued}

abbrev pub Queue : Type 0
Queue = VecDeque ℕ Global

abbrev pub items_of : Option Queue → List ℕ
items_of None = []
items_of (Some queue) = queue.items

-- the numbers at a key are those of the queue that the map has there
pub queue-at : (m : Queues) (q : Vec ℕ Global) → queued m q ≡ items_of (get by_numbers m q)
queue-at m q = each m.entries
  where
    by : (a b : Bool) (queue : Queue) (xs : Option (List ℕ)) (o : Option Queue) → a ≡ b → unwrap_or xs [] ≡ items_of o → unwrap_or (cond b (Some queue.items) xs) [] ≡ items_of (cond a (Some queue) o)
    by a true queue xs o same rest = rw same refl
    by a false queue xs o same rest = rw same rest

    each : (es : List (Vec ℕ Global × Queue)) → unwrap_or (lookup (bytes_eq q.items) (map (λ (e : Vec ℕ Global × Queue). (e.0.items, e.1.items)) es)) [] ≡ items_of (lookup (is_at (by_numbers q)) es)
    each [] = refl
    each (e ∷ es) = by (is_eq (by_numbers q e.0)) (bytes_eq q.items e.0.items) e.1 (lookup (bytes_eq q.items) (map (λ (x : Vec ℕ Global × Queue). (x.0.items, x.1.items)) es)) (lookup (is_at (by_numbers q)) es) (is_eq-slice_cmp q.items e.0.items) (each es)

-- a map is another, with a value at a key
abbrev pub Written : Queues → Queues → Vec ℕ Global → Queue → Type 0
Written m n k w = (q : Vec ℕ Global) → get by_numbers n q ≡ cond (is_at (by_numbers k) q) (Some w) (get by_numbers m q)

at_written : (m n : Queues) (k : Vec ℕ Global) (w : Queue) → Written m n k w → (q : Vec ℕ Global) → queued n q ≡ cond (bytes_eq k.items q.items) w.items (queued m q)
at_written m n k w up q = queue-at n q ∙ ap items_of (up q) ∙ by (is_eq (by_numbers k q)) (bytes_eq k.items q.items) (is_eq-slice_cmp k.items q.items)
  where
    by : (a b : Bool) → a ≡ b → items_of (cond a (Some w) (get by_numbers m q)) ≡ cond b w.items (queued m q)
    by true b e = rw (← e) refl
    by false b e = rw (← e) (sym (queue-at m q))

same_key : (m : Queues) (k q : Vec ℕ Global) → bytes_eq k.items q.items ≡ true → queued m q ≡ queued m k
same_key m k q s = ap (paired (pairs_of m)) (sym ((bytes_eq-Decides k.items q.items).0 s))

-- what was found at a key
pub first_seen : (m : Queues) (q : Vec ℕ Global) (o : Option ℕ) → o ≡ slice_get (items_of (get by_numbers m q)) 0 → o ≡ slice_get (queued m q) 0
first_seen m q o found = found ∙ ap (λ (ns : List ℕ). slice_get ns 0) (sym (queue-at m q))

pub none_taken : (m : Queues) (k q : Vec ℕ Global) → queued m k ≡ [] → queued m q ≡ (if bytes_eq k.items q.items then drop 1 (queued m q) else queued m q)
none_taken m k q none = by (bytes_eq k.items q.items) refl
  where
    by : (b : Bool) → bytes_eq k.items q.items ≡ b → queued m q ≡ cond b (drop 1 (queued m q)) (queued m q)
    by true s = let e : queued m q ≡ [] = same_key m k q s ∙ none in e ∙ sym (ap (drop 1) e)
    by false s = refl

pub put_number : (m n : Queues) (k : Vec ℕ Global) (w : Queue) (before : List ℕ) (number : ℕ) → Written m n k w → queued m k ≡ before → w.items ≡ before ++ number ∷ []
    → (q : Vec ℕ Global) → queued n q ≡ queued m q ++ (if bytes_eq k.items q.items then number ∷ [] else [])
put_number m n k w before number up was more q = at_written m n k w up q ∙ by (bytes_eq k.items q.items) refl
  where
    by : (b : Bool) → bytes_eq k.items q.items ≡ b → cond b w.items (queued m q) ≡ queued m q ++ cond b (number ∷ []) []
    by true s = more ∙ ap (λ (ns : List ℕ). ns ++ number ∷ []) (sym (same_key m k q s ∙ was))
    by false s = sym (append-nil (queued m q))

pub take_number : (m n : Queues) (k : Vec ℕ Global) (w : Queue) (before : List ℕ) → Written m n k w → queued m k ≡ before → w.items ≡ drop 1 before
    → (q : Vec ℕ Global) → queued n q ≡ (if bytes_eq k.items q.items then drop 1 (queued m q) else queued m q)
take_number m n k w before up was less q = at_written m n k w up q ∙ by (bytes_eq k.items q.items) refl
  where
    by : (b : Bool) → bytes_eq k.items q.items ≡ b → cond b w.items (queued m q) ≡ cond b (drop 1 (queued m q)) (queued m q)
    by true s = less ∙ ap (drop 1) (sym (same_key m k q s ∙ was))
    by false s = refl

pub same_numbers : (m n : Queues) (k : Vec ℕ Global) (w : Queue) (before : List ℕ) → Written m n k w → queued m k ≡ before → w.items ≡ before → (q : Vec ℕ Global) → queued n q ≡ queued m q
same_numbers m n k w before up was same q = at_written m n k w up q ∙ by (bytes_eq k.items q.items) refl
  where
    by : (b : Bool) → bytes_eq k.items q.items ≡ b → cond b w.items (queued m q) ≡ queued m q
    by true s = same ∙ sym (same_key m k q s ∙ was)
    by false s = refl

-- what is written through a borrow of the value at a key
pub lent : (m n : Queues) (k : Vec ℕ Global) (queue w : Queue) → Some queue ≡ get_by (by_numbers k) m → WritesThrough by_numbers (by_numbers k) m w n → Written m n k w
lent m n k queue w there h = (h.3 (ap is_some (sym there))).0
