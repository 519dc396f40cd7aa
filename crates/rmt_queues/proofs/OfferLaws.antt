-- What stands after an item is stored.
use Rattle.std.proofs.Common.{◌≡◌, ℕ, ◌+◌, ◌*◌, ◌<◌, ◌≤◌, List, [], ◌∷◌, ◌++◌, Bool, cond, true, false, ◌&&◌, eqb, Some, map, length, get_or, set, vec_capacity, refl, ap, sym, ◌∙◌, subst, ⊎_elim, arith}
use Rattle.std.specs.Prelude.{nat_eq, nat_lt, All, count_by, sum_by, filter}
use Rattle.std.specs.List.{list_any, range_with_len, flat_map, IsDistinct}
use Rattle.std.proofs.lemmas.Bool.{cases_lt, ne_eqb, eq-eqb, lt-ltb}
use Rattle.std.proofs.lemmas.List.{append-nil, get_or_append_left, get_or_past, get_or_push, get_or-set_other, get_or-set_same, length-set, length_push, map_push}
use Rattle.std.proofs.lemmas.List.Elements.{All-append, All-nil, All-push, All-same, All-weaker, filter-append}
use Rattle.std.proofs.lemmas.List.FromFn.{fill_by_all, get_or-map-range_with_len, length-map-range_with_len}
use Rattle.std.proofs.lemmas.List.Sorted.{IsPermutation-to_front, IsPermutation-sym}
use Rattle.std.proofs.lemmas.Grind.{flat_map-append}
use Rattle.rmt_bits.proofs.AllLaws.{All-left, All-right, All-range}
use Rattle.rmt_bits.proofs.ListLaws.{range_more, sum_by-map}
use Rattle.rmt_cells.specs.declared.cells.Chain.{Chain}
use Rattle.rmt_cells.specs.Links.{times}
use Rattle.rmt_cells.specs.Stands.{Held, Stands as CellsStand, held_if}
use Rattle.rmt_cells.proofs.Orders.{reordered}
use Rattle.rmt_cells.proofs.Walks.{times_append, times_head}
use Rattle.rmt_queues.specs.declared.queues.Queues.{Queues}
use Rattle.rmt_queues.specs.declared.stored.Stored.{Stored}
use Rattle.rmt_queues.specs.Copies.{with_copy}
use Rattle.rmt_queues.specs.Lists.{Lists, copies_of, has_room, item_of, queue_of, standing, with_item}
use Rattle.rmt_queues.specs.Rings.{AreRoomy, ring_of}
use Rattle.rmt_queues.specs.Stands.{Keeps, StandsAt, held_items}
use Rattle.rmt_queues.specs.Stored.{stored_at}
use Rattle.rmt_bits.proofs.AlikeLaws.{filter_alike, flat_map_alike, map_alike}
use Rattle.rmt_queues.proofs.AlikeLaws.{sum_by_none, sum_by_plus}
use Rattle.rmt_queues.proofs.CopyLaws.{with_copy_count, with_copy_deep, with_copy_map}
use Rattle.rmt_queues.proofs.CountLaws.{ports_counted}
use Rattle.rmt_queues.proofs.StandingLaws.{all_apart, copies_absent, index_of, standing_known}

no_choice : (b : Bool) → ◌≡◌ {A = ℕ} (cond b 0 0) 0
no_choice true = refl
no_choice false = refl

-- the queues of the ports
pub queue_sent : (s : Lists) (ports item : List ℕ) (port : ℕ) → port < length s.queues
    → queue_of (with_item s ports item) port ≡ with_copy s.depth ports (length s.items) port (queue_of s port)
queue_sent s ports item port lt =
    get_or-map-range_with_len (λ p. with_copy s.depth ports (length s.items) p (queue_of s p)) 0 (length s.queues) port port [] lt (omega arith)

pub queues_sent : (s : Lists) (ports item : List ℕ) → length (with_item s ports item).queues ≡ length s.queues
queues_sent s ports item = length-map-range_with_len (λ p. with_copy s.depth ports (length s.items) p (queue_of s p)) 0 (length s.queues)

queue_past : (s : Lists) (ports item : List ℕ) (port : ℕ) → length s.queues ≤ port → queue_of (with_item s ports item) port ≡ []
queue_past s ports item port past = get_or_past (with_item s ports item).queues port [] (let size = queues_sent s ports item in omega (arith, size, past))

pub with_copy_known : (depth : ℕ) (ports : List ℕ) (number port : ℕ) (queue : List ℕ) → All (λ x. x < number) queue → All (λ x. x < number + 1) (with_copy depth ports number port queue)
with_copy_known depth ports number port queue known =
    let wider : All (λ x. x < number + 1) queue = All-weaker (λ x. x < number) (λ x. x < number + 1) (λ x lt. omega (arith, lt)) queue known in
    either (list_any (λ p. eqb p port) ports && nat_lt (length queue) depth) (queue ++ number ∷ []) queue
    (All-push (λ x. x < number + 1) queue number wider (omega arith)) wider
  where
    either : (b : Bool) (xs ys : List ℕ) → All (λ x. x < number + 1) xs → All (λ x. x < number + 1) ys → All (λ x. x < number + 1) (cond b xs ys)
    either true xs ys left right = left
    either false xs ys left right = right

-- how many copies stand: of the item as many as ports have room, of each other as many as before
module _ (s : Lists) (ports item : List ℕ) where
  abbrev number : ℕ
  number = length s.items

  abbrev now : Lists
  now = with_item s ports item

  abbrev added : ℕ → ℕ → ℕ
  added k port = cond (list_any (λ x. eqb x port) ports && has_room s port) (cond (eqb number k) 1 0) 0

  copies_split : (k : ℕ) → copies_of now.queues k ≡ copies_of s.queues k + sum_by (added k) (range_with_len 0 (length s.queues))
  copies_split k =
      let counts : List ℕ → ℕ = λ queue. count_by (λ x. eqb x k) queue in
      let all = range_with_len 0 (length s.queues) in
      let old : copies_of s.queues k ≡ sum_by (λ port. counts (queue_of s port)) all =
      ap (sum_by counts) (fill_by_all (queue_of s) s.queues (length s.queues) [] refl (λ p lt. refl)) ∙ sum_by-map counts (queue_of s) all in
      let new : copies_of now.queues k ≡ sum_by (λ port. counts (with_copy s.depth ports number port (queue_of s port))) all =
      sum_by-map counts (λ port. with_copy s.depth ports number port (queue_of s port)) all in
      let parts = sum_by_plus (λ port. counts (with_copy s.depth ports number port (queue_of s port))) (λ port. counts (queue_of s port)) (added k)
      (λ port. with_copy_count (λ x. eqb x k) s.depth ports number port (queue_of s port)) all in
      omega (arith, old, new, parts)

  pub copies_before : (k : ℕ) → k < number → copies_of now.queues k ≡ copies_of s.queues k
  copies_before k lt =
      let none = sum_by_none (added k) (range_with_len 0 (length s.queues))
      (λ i d below.
      let port = get_or (range_with_len 0 (length s.queues)) i d in
      let among = list_any (λ x. eqb x port) ports && has_room s port in
      ap (λ (b : Bool). cond among (cond b 1 0) 0) (ne_eqb number k (λ same. omega arith)) ∙ no_choice among) in
      omega (arith, none, copies_split k)

  pub copies_sent : ((port : ℕ) → All (λ x. x < length s.items) (queue_of s port)) → IsDistinct nat_eq ports → All (λ port. port < length s.queues) ports
      → copies_of now.queues number ≡ count_by (has_room s) ports
  copies_sent known once within =
      let none = copies_absent s number known (omega arith) in
      let all = range_with_len 0 (length s.queues) in
      let same : sum_by (added number) all ≡ sum_by (λ port. cond (list_any (λ x. eqb x port) ports && has_room s port) 1 0) all =
      ap (λ (b : Bool). sum_by (λ port. cond (list_any (λ x. eqb x port) ports && has_room s port) (cond b 1 0) 0) all) (eq-eqb number number refl) in
      let sum = ports_counted (has_room s) ports (length s.queues) once within in
      omega (arith, none, same, sum, copies_split number)

  -- the item stands behind those that stand
  pub standing_sent : 0 < copies_of now.queues number → standing now ≡ standing s ++ number ∷ []
  standing_sent some =
      let p : ℕ → Bool = λ k. nat_lt 0 (copies_of now.queues k) in
      let q : ℕ → Bool = λ k. nat_lt 0 (copies_of s.queues k) in
      let zero : 0 + number ≡ number = omega arith in
      let alike : filter p (range_with_len 0 number) ≡ filter q (range_with_len 0 number) =
      filter_alike p q (range_with_len 0 number) (All-range (λ k. p k ≡ q k) 0 number (λ k lt. ap (nat_lt 0) (copies_before k (omega (arith, lt))))) in
      ap (λ (n : ℕ). filter p (range_with_len 0 n)) (length_push s.items item)
      ∙ ap (filter p) (range_more 0 number)
      ∙ ap (λ (n : ℕ). filter p (range_with_len 0 number ++ n ∷ [])) zero
      ∙ filter-append p (range_with_len 0 number) (number ∷ [])
      ∙ ap (λ (ks : List ℕ). ks ++ filter p (number ∷ [])) alike
      ∙ ap (λ (b : Bool). standing s ++ cond b (number ∷ []) []) (lt-ltb 0 (copies_of now.queues number) some)

-- ---- the queues after an item is stored at a spare index

pub spare_within : (ix : List ℕ) (s : Lists) (q : Queues) (rest : List ℕ) (index : ℕ) → StandsAt ix s q → q.spare.items ≡ rest ++ index ∷ [] → index < length q.stored.items
spare_within ix s q rest index at spare =
    let P : ℕ → Type 0 = λ i. i < length q.stored.items in
    let all = All-left P q.spare.items (map (index_of ix) (standing s)) at.within in
    All-right P rest (index ∷ []) (All-same P (rest ++ index ∷ []) q.spare.items (sym spare) all) 0 0 (omega arith)

module _ (ix : List ℕ) (s : Lists) (ports item : List ℕ) (q new : Queues) (chain : Chain) (index : ℕ) (at : StandsAt ix s q)
    (once : IsDistinct nat_eq ports) (within : All (λ port. port < length s.queues) ports) (small : length item ≤ 13320)
    (some : 0 < count_by (has_room s) ports)
    (depth : new.depth ≡ q.depth) (many : length new.rings.items ≡ length q.rings.items) (roomy : AreRoomy q.depth new.rings.items)
    (rings : (port : ℕ) → port < length q.rings.items → ring_of new.rings.items port ≡ with_copy q.depth ports index port (ring_of q.rings.items port))
    (spare : q.spare.items ≡ new.spare.items ++ index ∷ []) (spare_room : vec_capacity new.spare ≡ vec_capacity q.spare)
    (stored : new.stored.items ≡ set q.stored.items index (record { chain = Some chain; len = length item; copies = count_by (has_room s) ports }))
    (cells : CellsStand 65536 (record { chain = chain; bytes = item } ∷ held_items q.stored.items ix s.items (standing s)) new.cells) where
  abbrev n : ℕ
  n = length s.items

  abbrev t : Lists
  t = with_item s ports item

  abbrev jx : List ℕ
  jx = ix ++ index ∷ []

  abbrev mine : Stored
  mine = record { chain = Some chain; len = length item; copies = count_by (has_room s) ports }

  old_place : (k : ℕ) → k < n → index_of jx k ≡ index_of ix k
  old_place k lt = get_or_append_left ix (index ∷ []) 0 k (omega (arith, lt, at.indexed))

  new_place : index_of jx n ≡ index
  new_place = get_or_push ix index 0 n at.indexed

  old_item : (k : ℕ) → k < n → item_of t k ≡ item_of s k
  old_item k lt = get_or_append_left s.items (item ∷ []) [] k lt

  new_item : item_of t n ≡ item
  new_item = get_or_push s.items item [] n refl

  copies : copies_of t.queues n ≡ count_by (has_room s) ports
  copies = copies_sent s ports item at.known once within

  stands_now : standing t ≡ standing s ++ n ∷ []
  stands_now = standing_sent s ports item (omega (arith, copies, some))

  -- the index was spare
  unused : times index (map (index_of ix) (standing s)) ≡ 0
  unused =
      let most = at.once index in
      let parts = times_append index q.spare.items (map (index_of ix) (standing s)) in
      let split = ap (times index) spare ∙ times_append index new.spare.items (index ∷ []) in
      let here = times_head index [] in
      omega (arith, most, parts, split, here)

  apart : All (λ k. index_of ix k ≡ index → ⊥) (standing s)
  apart = all_apart index (index_of ix) (standing s) unused

  index_within : index < length q.stored.items
  index_within = spare_within ix s q new.spare.items index at spare

  old_stored : (k : ℕ) → (index_of ix k ≡ index → ⊥) → k < n → stored_at new.stored.items (index_of jx k) ≡ stored_at q.stored.items (index_of ix k)
  old_stored k other lt =
      ap (λ (i : ℕ). stored_at new.stored.items i) (old_place k lt)
      ∙ ap (λ (list : List Stored). stored_at list (index_of ix k)) stored
      ∙ get_or-set_other q.stored.items index (index_of ix k) mine _ other

  new_stored : stored_at new.stored.items (index_of jx n) ≡ mine
  new_stored =
      ap (λ (i : ℕ). stored_at new.stored.items i) new_place
      ∙ ap (λ (list : List Stored). stored_at list index) stored
      ∙ get_or-set_same q.stored.items index mine _ index_within

  -- what is held
  abbrev held_one : List Stored → List ℕ → List (List ℕ) → ℕ → List Held
  held_one list places items k = held_if (stored_at list (index_of places k)).chain (get_or items k [])

  held_now : held_items new.stored.items jx t.items (standing t) ≡ held_items q.stored.items ix s.items (standing s) ++ record { chain = chain; bytes = item } ∷ []
  held_now =
      let f = held_one new.stored.items jx t.items in
      let g = held_one q.stored.items ix s.items in
      let alike : flat_map f (standing s) ≡ flat_map g (standing s) =
      flat_map_alike f g (standing s)
      (λ i d lt.
      let k = get_or (standing s) i d in
      let known = standing_known s i d lt in
      ap (λ (x : Stored). held_if x.chain (get_or t.items k [])) (old_stored k (apart i d lt) known)
      ∙ ap (held_if (stored_at q.stored.items (index_of ix k)).chain) (old_item k known)) in
      let last : f n ≡ record { chain = chain; bytes = item } ∷ [] =
      ap (λ (x : Stored). held_if x.chain (get_or t.items n [])) new_stored ∙ ap (held_if (Some chain)) new_item in
      ap (flat_map f) stands_now ∙ flat_map-append f (standing s) (n ∷ [])
      ∙ ap (λ (hs : List Held). hs ++ (f n ++ [])) alike
      ∙ ap (λ (hs : List Held). flat_map g (standing s) ++ hs) (append-nil (f n) ∙ last)

  cells_now : CellsStand 65536 (held_items new.stored.items jx t.items (standing t)) new.cells
  cells_now =
      let hs = held_items q.stored.items ix s.items (standing s) in
      let h : Held = record { chain = chain; bytes = item } in
      subst (λ (list : List Held). CellsStand 65536 list new.cells) (sym held_now)
      (reordered 65536 (h ∷ hs) (hs ++ h ∷ []) new.cells cells (IsPermutation-sym (hs ++ h ∷ []) (h ∷ hs) (IsPermutation-to_front hs h)))

  kept_now : All (λ k. Keeps (stored_at new.stored.items (index_of jx k)) (length (item_of t k)) (copies_of t.queues k)) (standing t)
  kept_now =
      let P : ℕ → Type 0 = λ k. Keeps (stored_at new.stored.items (index_of jx k)) (length (item_of t k)) (copies_of t.queues k) in
      let before : All P (standing s) =
      λ i d lt.
      let k = get_or (standing s) i d in
      let known = standing_known s i d lt in
      let was = at.kept i d lt in
      let same = old_stored k (apart i d lt) known in
      record {
        chain = was.chain;
        chained = ap (λ (x : Stored). x.chain) same ∙ was.chained;
        len = ap (λ (x : Stored). x.len) same ∙ was.len ∙ ap (λ (bytes : List ℕ). length bytes) (sym (old_item k known));
        copies = ap (λ (x : Stored). x.copies) same ∙ was.copies ∙ sym (copies_before s ports item k known);
      } in
      let last : P n = record {
        chain = chain;
        chained = ap (λ (x : Stored). x.chain) new_stored;
        len = ap (λ (x : Stored). x.len) new_stored ∙ ap (λ (bytes : List ℕ). length bytes) (sym new_item);
        copies = ap (λ (x : Stored). x.copies) new_stored ∙ sym copies;
      } in
      All-same P (standing t) (standing s ++ n ∷ []) stands_now (All-push P (standing s) n before last)

  -- the indices that are spare or used
  places_now : map (index_of jx) (standing t) ≡ map (index_of ix) (standing s) ++ index ∷ []
  places_now =
      ap (map (index_of jx)) stands_now ∙ map_push (index_of jx) (standing s) n
      ∙ ap (λ (is : List ℕ). is ++ index_of jx n ∷ [])
      (map_alike (index_of jx) (index_of ix) (standing s) (λ i d lt. old_place (get_or (standing s) i d) (standing_known s i d lt)))
      ∙ ap (λ (i : ℕ). map (index_of ix) (standing s) ++ i ∷ []) new_place

  size_now : length new.stored.items ≡ length q.stored.items
  size_now = ap length stored ∙ length-set q.stored.items index mine

  within_now : All (λ i. i < length new.stored.items) (new.spare.items ++ map (index_of jx) (standing t))
  within_now =
      let P : ℕ → Type 0 = λ i. i < length q.stored.items in
      let used = All-right P q.spare.items (map (index_of ix) (standing s)) at.within in
      let spares = All-left P q.spare.items (map (index_of ix) (standing s)) at.within in
      let rest = All-left P new.spare.items (index ∷ []) (All-same P (new.spare.items ++ index ∷ []) q.spare.items (sym spare) spares) in
      let all = All-append P new.spare.items (map (index_of ix) (standing s) ++ index ∷ []) rest (All-push P (map (index_of ix) (standing s)) index used index_within) in
      let same : new.spare.items ++ map (index_of jx) (standing t) ≡ new.spare.items ++ (map (index_of ix) (standing s) ++ index ∷ []) =
      ap (λ (is : List ℕ). new.spare.items ++ is) places_now in
      λ i d lt. let here = All-same P (new.spare.items ++ map (index_of jx) (standing t)) _ same all i d lt in omega (arith, here, size_now)

  once_now : (i : ℕ) → times i (new.spare.items ++ map (index_of jx) (standing t)) ≤ 1
  once_now i =
      let most = at.once i in
      let parts = times_append i q.spare.items (map (index_of ix) (standing s)) in
      let split = ap (times i) spare ∙ times_append i new.spare.items (index ∷ []) in
      let new_parts = times_append i new.spare.items (map (index_of jx) (standing t)) in
      let places = ap (times i) places_now ∙ times_append i (map (index_of ix) (standing s)) (index ∷ []) in
      omega (arith, most, parts, split, new_parts, places)

  all_now : length new.spare.items + length (standing t) ≡ length new.stored.items
  all_now =
      let was = at.all in
      let spares = ap length spare ∙ length_push new.spare.items index in
      let items = ap length stands_now ∙ length_push (standing s) n in
      omega (arith, was, spares, items, size_now)

  rings_now : (port : ℕ) → port < length t.queues → ring_of new.rings.items port ≡ map (index_of jx) (queue_of t port)
  rings_now port lt =
      let below : port < length s.queues = let size = queues_sent s ports item in omega (arith, size, lt) in
      let old = map_alike (index_of jx) (index_of ix) (queue_of s port) (λ i d less. old_place (get_or (queue_of s port) i d) (at.known port i d less)) in
      rings port (omega (arith, below, at.ports))
      ∙ ap (λ (queue : List ℕ). with_copy q.depth ports index port queue) (at.rings port below ∙ sym old)
      ∙ ap (λ (d : ℕ). with_copy d ports index port (map (index_of jx) (queue_of s port))) at.depth
      ∙ ap (λ (i : ℕ). with_copy s.depth ports i port (map (index_of jx) (queue_of s port))) (sym new_place)
      ∙ sym (with_copy_map (index_of jx) s.depth ports n port (queue_of s port))
      ∙ ap (map (index_of jx)) (sym (queue_sent s ports item port below))

  deep_now : (port : ℕ) → length (queue_of t port) ≤ s.depth
  deep_now port =
      ⊎_elim
      (λ (below : port < length s.queues).
      subst (λ (queue : List ℕ). length queue ≤ s.depth) (sym (queue_sent s ports item port below)) (with_copy_deep s.depth ports n port (queue_of s port) (at.deep port)))
      (λ (past : length s.queues ≤ port).
      subst (λ (queue : List ℕ). length queue ≤ s.depth) (sym (queue_past s ports item port past)) (omega arith))
      (cases_lt port (length s.queues))

  known_now : (port : ℕ) → All (λ k. k < length t.items) (queue_of t port)
  known_now port =
      let size = length_push s.items item in
      ⊎_elim
      (λ (below : port < length s.queues).
      let all = with_copy_known s.depth ports n port (queue_of s port) (at.known port) in
      λ i d lt. let here = All-same (λ x. x < n + 1) (queue_of t port) _ (queue_sent s ports item port below) all i d lt in omega (arith, here, size))
      (λ (past : length s.queues ≤ port).
      All-same (λ k. k < length t.items) (queue_of t port) [] (queue_past s ports item port past) (All-nil (λ k. k < length t.items)))
      (cases_lt port (length s.queues))

  pub sent_stands : StandsAt jx t new
  sent_stands = record {
    cells = at.cells;
    depth = depth ∙ at.depth;
    shallow = at.shallow;
    ports = many ∙ at.ports ∙ sym (queues_sent s ports item);
    few = let size = queues_sent s ports item in omega (arith, size, at.few);
    rings = rings_now;
    roomy = subst (λ (d : ℕ). AreRoomy d new.rings.items) at.depth roomy;
    deep = deep_now;
    known = known_now;
    indexed = length_push ix index ∙ ap (λ (k : ℕ). k + 1) at.indexed ∙ sym (length_push s.items item);
    small = All-push (λ bytes. length bytes ≤ 13320) s.items item at.small small;
    kept = kept_now;
    held = cells_now;
    room = size_now ∙ at.room ∙ ap (λ (k : ℕ). k * s.depth) (sym (queues_sent s ports item));
    spare_room = omega (arith, at.spare_room, spare_room, size_now);
    within = within_now;
    once = once_now;
    all = all_now;
  }
