-- Queues stand on after a copy is taken.
use Rattle.std.proofs.Common.{◌≡◌, ℕ, ◌+◌, ◌-◌, ◌*◌, ◌<◌, ◌≤◌, List, [], ◌∷◌, ◌++◌, Option, map, length, drop, get_or, set, vec_capacity, refl, ap, sym, ◌∙◌, subst, ⊎_elim, arith}
use Rattle.std.specs.Prelude.{All, Contains}
use Rattle.std.specs.List.{flat_map}
use Rattle.std.proofs.lemmas.Bool.{cases_eq}
use Rattle.std.proofs.lemmas.List.{drop-map, get_or-set_other, get_or-set_same, length-drop, length-append, length-set, length_push, map-append}
use Rattle.std.proofs.lemmas.List.Elements.{All-append, All-cons, All-drop, All-head, All-push, All-same, All-tail, All-weaker}
use Rattle.std.proofs.lemmas.Grind.{flat_map-append}
use Rattle.rmt_bits.proofs.AllLaws.{All-left, All-right}
use Rattle.rmt_cells.specs.declared.cells.Chain.{Chain}
use Rattle.rmt_cells.specs.Links.{times}
use Rattle.rmt_cells.specs.Stands.{Held, Stands as CellsStand, held_if}
use Rattle.rmt_cells.proofs.StandsLaws.{contains_middle}
use Rattle.rmt_cells.proofs.Walks.{times_append, times_cons, times_head}
use Rattle.rmt_queues.specs.declared.queues.Queues.{Queues}
use Rattle.rmt_queues.specs.declared.stored.Stored.{Stored}
use Rattle.rmt_queues.specs.Lists.{Lists, copies_of, item_of, queue_of, standing, taken}
use Rattle.rmt_queues.specs.Rings.{AreRoomy, ring_of}
use Rattle.rmt_queues.specs.Stands.{Keeps, StandsAt, held_items}
use Rattle.rmt_queues.specs.Stored.{stored_at}
use Rattle.rmt_bits.proofs.AlikeLaws.{flat_map_alike}
use Rattle.rmt_queues.proofs.StandingLaws.{all_apart, index_of}
use Rattle.rmt_queues.proofs.TakeLaws.{back, copies_one, copies_other, first_known, front, queue_other, queue_taken, standing_last, standing_more, standing_split}

module _ (ix : List ℕ) (s : Lists) (port : ℕ) (q : Queues) (at : StandsAt ix s q) (below : port < length s.queues) (k : ℕ) (rest : List ℕ) (queue : queue_of s port ≡ k ∷ rest) where
  abbrev t : Lists
  t = taken s port

  abbrev pub ahead : List ℕ
  ahead = front s port k rest below queue at.known

  abbrev pub behind : List ℕ
  behind = back s port k rest below queue at.known

  abbrev index : ℕ
  index = index_of ix k

  split : standing s ≡ ahead ++ k ∷ behind
  split = standing_split s port k rest below queue at.known

  -- the first item is stored
  pub first_kept : Keeps (stored_at q.stored.items index) (length (item_of s k)) (copies_of s.queues k)
  first_kept =
      let P : ℕ → Type 0 = λ number. Keeps (stored_at q.stored.items (index_of ix number)) (length (item_of s number)) (copies_of s.queues number) in
      All-head P k behind (All-right P ahead (k ∷ behind) (All-same P (ahead ++ k ∷ behind) (standing s) (sym split) at.kept))

  pub first_within : index < length q.stored.items
  first_within =
      let P : ℕ → Type 0 = λ i. i < length q.stored.items in
      let used = All-right P q.spare.items (map (index_of ix) (standing s)) at.within in
      let parts = All-same P (map (index_of ix) ahead ++ index ∷ map (index_of ix) behind) (map (index_of ix) (standing s))
      (sym (ap (map (index_of ix)) split ∙ map-append (index_of ix) ahead (k ∷ behind))) used in
      All-head P index (map (index_of ix) behind) (All-right P (map (index_of ix) ahead) (index ∷ map (index_of ix) behind) parts)

  pub first_small : length (item_of s k) ≤ 13320
  first_small = at.small k [] (first_known s port k rest below queue at.known)

  abbrev pub held_one : ℕ → List Held
  held_one number = held_if (stored_at q.stored.items (index_of ix number)).chain (get_or s.items number [])

  -- what is held: its chain, and the others
  pub held_split : held_items q.stored.items ix s.items (standing s) ≡ flat_map held_one ahead ++ (held_if (stored_at q.stored.items index).chain (item_of s k) ++ flat_map held_one behind)
  held_split = ap (flat_map held_one) split ∙ flat_map-append held_one ahead (k ∷ behind)

  pub first_held : Contains (held_items q.stored.items ix s.items (standing s)) (record { chain = first_kept.chain; bytes = item_of s k })
  first_held =
      let h : Held = record { chain = first_kept.chain; bytes = item_of s k } in
      subst (λ (hs : List Held). Contains hs h)
      (sym (held_split ∙ ap (λ (o : Option Chain). flat_map held_one ahead ++ (held_if o (item_of s k) ++ flat_map held_one behind)) first_kept.chained))
      (contains_middle (flat_map held_one ahead) (flat_map held_one behind) h)

  -- its index is that of no other
  index_once : times index (map (index_of ix) (standing s)) ≡ times index (map (index_of ix) ahead) + times index (index ∷ map (index_of ix) behind)
  index_once = ap (times index) (ap (map (index_of ix)) split ∙ map-append (index_of ix) ahead (k ∷ behind)) ∙ times_append index (map (index_of ix) ahead) (index ∷ map (index_of ix) behind)

  ahead_apart : All (λ number. index_of ix number ≡ index → ⊥) ahead
  ahead_apart =
      let most = at.once index in
      let parts = times_append index q.spare.items (map (index_of ix) (standing s)) in
      let here = times_head index (map (index_of ix) behind) in
      all_apart index (index_of ix) ahead (omega (arith, most, parts, here, index_once))

  behind_apart : All (λ number. index_of ix number ≡ index → ⊥) behind
  behind_apart =
      let most = at.once index in
      let parts = times_append index q.spare.items (map (index_of ix) (standing s)) in
      let here = times_head index [] in
      let one = times_cons index index [] in
      let rest = times_cons index index (map (index_of ix) behind) in
      all_apart index (index_of ix) behind (omega (arith, most, parts, here, one, rest, index_once))

  others_apart : All (λ number. (number ≡ k → ⊥) → index_of ix number ≡ index → ⊥) (standing s)
  others_apart =
      let P : ℕ → Type 0 = λ number. (number ≡ k → ⊥) → index_of ix number ≡ index → ⊥ in
      let wide : (number : ℕ) → (index_of ix number ≡ index → ⊥) → P number = λ number apart other. apart in
      All-same P (standing s) (ahead ++ k ∷ behind) split
      (All-append P ahead (k ∷ behind) (All-weaker (λ number. index_of ix number ≡ index → ⊥) P wide ahead ahead_apart)
      (All-cons P k behind (λ other. absurd (other refl)) (All-weaker (λ number. index_of ix number ≡ index → ⊥) P wide behind behind_apart)))

  -- the others are not the first item
  others_differ : All (λ number. number ≡ k → ⊥) (ahead ++ behind)
  others_differ =
      let wide : (number : ℕ) → (index_of ix number ≡ index → ⊥) → number ≡ k → ⊥ = λ number apart same. apart (ap (index_of ix) same) in
      All-append (λ number. number ≡ k → ⊥) ahead behind
      (All-weaker (λ number. index_of ix number ≡ index → ⊥) (λ number. number ≡ k → ⊥) wide ahead ahead_apart)
      (All-weaker (λ number. index_of ix number ≡ index → ⊥) (λ number. number ≡ k → ⊥) wide behind behind_apart)

  module _ (new : Queues) (depth : new.depth ≡ q.depth) (many : length new.rings.items ≡ length q.rings.items) (roomy : AreRoomy s.depth new.rings.items)
      (here : ring_of new.rings.items port ≡ drop 1 (ring_of q.rings.items port)) (there : (p : ℕ) → (p ≡ port → ⊥) → ring_of new.rings.items p ≡ ring_of q.rings.items p) where
    queues_many : length t.queues ≡ length s.queues
    queues_many = length-set s.queues port (drop 1 (queue_of s port))

    rings_now : (p : ℕ) → p < length t.queues → ring_of new.rings.items p ≡ map (index_of ix) (queue_of t p)
    rings_now p lt =
        ⊎_elim
        (λ (same : p ≡ port).
        subst (λ (x : ℕ). ring_of new.rings.items x ≡ map (index_of ix) (queue_of t x)) (sym same)
        (here ∙ ap (drop 1) (at.rings port below) ∙ drop-map (index_of ix) 1 (queue_of s port) ∙ ap (map (index_of ix)) (sym (queue_taken s port below))))
        (λ (other : p ≡ port → ⊥).
        there p other ∙ at.rings p (omega (arith, lt, queues_many)) ∙ ap (map (index_of ix)) (sym (queue_other s port p other)))
        (cases_eq p port)

    deep_now : (p : ℕ) → length (queue_of t p) ≤ s.depth
    deep_now p =
        ⊎_elim
        (λ (same : p ≡ port).
        let size = ap {B = ℕ} (λ (x : ℕ). length (queue_of t x)) same ∙ ap (λ (xs : List ℕ). length xs) (queue_taken s port below) ∙ length-drop 1 (queue_of s port) in
        let was = at.deep port in
        omega (arith, size, was))
        (λ (other : p ≡ port → ⊥). subst (λ (xs : List ℕ). length xs ≤ s.depth) (sym (queue_other s port p other)) (at.deep p))
        (cases_eq p port)

    known_now : (p : ℕ) → All (λ number. number < length s.items) (queue_of t p)
    known_now p =
        let P : ℕ → Type 0 = λ number. number < length s.items in
        ⊎_elim
        (λ (same : p ≡ port).
        subst (λ (x : ℕ). All P (queue_of t x)) (sym same) (All-same P (queue_of t port) (drop 1 (queue_of s port)) (queue_taken s port below) (All-drop P 1 (queue_of s port) (at.known port))))
        (λ (other : p ≡ port → ⊥). All-same P (queue_of t p) (queue_of s p) (queue_other s port p other) (at.known p))
        (cases_eq p port)

    room_now : length q.stored.items ≡ length t.queues * s.depth
    room_now = at.room ∙ ap (λ (n : ℕ). n * s.depth) (sym queues_many)

    few_now : length t.queues ≤ 512
    few_now = omega (arith, queues_many, at.few)

    copies_here : copies_of t.queues k + 1 ≡ copies_of s.queues k
    copies_here = copies_one s port k rest below queue at.known

    copies_there : (j : ℕ) → (j ≡ k → ⊥) → copies_of t.queues j ≡ copies_of s.queues j
    copies_there j other = copies_other s port k rest below queue at.known j other

    -- what is left stands, where what is stored and what is spare fit
    stands_then : All (λ number. Keeps (stored_at new.stored.items (index_of ix number)) (length (item_of s number)) (copies_of t.queues number)) (standing t)
        → CellsStand 65536 (held_items new.stored.items ix s.items (standing t)) new.cells → length new.stored.items ≡ length q.stored.items → length new.stored.items ≤ vec_capacity new.spare
        → All (λ i. i < length new.stored.items) (new.spare.items ++ map (index_of ix) (standing t)) → ((i : ℕ) → times i (new.spare.items ++ map (index_of ix) (standing t)) ≤ 1)
        → length new.spare.items + length (standing t) ≡ length new.stored.items → StandsAt ix t new
    stands_then kept held size spare_room within once all = record {
      cells = at.cells;
      depth = depth ∙ at.depth;
      shallow = at.shallow;
      ports = many ∙ at.ports ∙ sym queues_many;
      few = few_now;
      rings = rings_now;
      roomy = roomy;
      deep = deep_now;
      known = known_now;
      indexed = at.indexed;
      small = at.small;
      kept = kept;
      held = held;
      room = size ∙ room_now;
      spare_room = spare_room;
      within = within;
      once = once;
      all = all;
    }

    -- another copy stands
    module _ (stored : new.stored.items ≡ set q.stored.items index (record { chain = (stored_at q.stored.items index).chain; len = (stored_at q.stored.items index).len; copies = (stored_at q.stored.items index).copies - 1 }))
        (cells : new.cells ≡ q.cells) (spare : new.spare.items ≡ q.spare.items) (same_room : vec_capacity new.spare ≡ vec_capacity q.spare) (some : 0 < copies_of t.queues k) where
      abbrev fewer : Stored
      fewer = record { chain = (stored_at q.stored.items index).chain; len = (stored_at q.stored.items index).len; copies = (stored_at q.stored.items index).copies - 1 }

      same_standing : standing t ≡ standing s
      same_standing = standing_more s port k rest below queue at.known some

      stored_here : stored_at new.stored.items index ≡ fewer
      stored_here = ap (λ (list : List Stored). stored_at list index) stored ∙ get_or-set_same q.stored.items index fewer _ first_within

      stored_there : (i : ℕ) → (i ≡ index → ⊥) → stored_at new.stored.items i ≡ stored_at q.stored.items i
      stored_there i other = ap (λ (list : List Stored). stored_at list i) stored ∙ get_or-set_other q.stored.items index i fewer _ other

      same_chain : (i : ℕ) → (stored_at new.stored.items i).chain ≡ (stored_at q.stored.items i).chain
      same_chain i =
          ⊎_elim
          (λ (same : i ≡ index). subst (λ (x : ℕ). (stored_at new.stored.items x).chain ≡ (stored_at q.stored.items x).chain) (sym same) (ap (λ (x : Stored). x.chain) stored_here))
          (λ (other : i ≡ index → ⊥). ap (λ (x : Stored). x.chain) (stored_there i other))
          (cases_eq i index)

      same_held : held_items new.stored.items ix s.items (standing t) ≡ held_items q.stored.items ix s.items (standing s)
      same_held =
          ap (held_items new.stored.items ix s.items) same_standing
          ∙ flat_map_alike (λ number. held_if (stored_at new.stored.items (index_of ix number)).chain (get_or s.items number [])) held_one (standing s)
          (λ i d lt. let number = get_or (standing s) i d in ap (λ (o : Option Chain). held_if o (get_or s.items number [])) (same_chain (index_of ix number)))

      kept_more : All (λ number. Keeps (stored_at new.stored.items (index_of ix number)) (length (item_of s number)) (copies_of t.queues number)) (standing t)
      kept_more =
          let P : ℕ → Type 0 = λ number. Keeps (stored_at new.stored.items (index_of ix number)) (length (item_of s number)) (copies_of t.queues number) in
          let first : P k = record {
            chain = first_kept.chain;
            chained = ap (λ (x : Stored). x.chain) stored_here ∙ first_kept.chained;
            len = ap (λ (x : Stored). x.len) stored_here ∙ first_kept.len;
            copies = ap (λ (x : Stored). x.copies) stored_here ∙ (let was = first_kept.copies in omega (arith, was, copies_here));
          } in
          All-same P (standing t) (standing s) same_standing
          (λ i d lt.
          let number = get_or (standing s) i d in
          let was = at.kept i d lt in
          ⊎_elim
          (λ (same : number ≡ k). subst P (sym same) first)
          (λ (other : number ≡ k → ⊥).
          let kept = stored_there (index_of ix number) (others_apart i d lt other) in
          let now : P number = record {
            chain = was.chain;
            chained = ap (λ (x : Stored). x.chain) kept ∙ was.chained;
            len = ap (λ (x : Stored). x.len) kept ∙ was.len;
            copies = ap (λ (x : Stored). x.copies) kept ∙ was.copies ∙ sym (copies_there number other);
          } in now)
          (cases_eq number k))

      size_more : length new.stored.items ≡ length q.stored.items
      size_more = ap length stored ∙ length-set q.stored.items index fewer

      used_more : new.spare.items ++ map (index_of ix) (standing t) ≡ q.spare.items ++ map (index_of ix) (standing s)
      used_more = ap (λ (v : List ℕ). v ++ map (index_of ix) (standing t)) spare ∙ ap (λ (xs : List ℕ). q.spare.items ++ map (index_of ix) xs) same_standing

      pub taken_more : StandsAt ix t new
      taken_more =
          stands_then kept_more
          (subst (CellsStand 65536 (held_items new.stored.items ix s.items (standing t))) (sym cells) (subst (λ (hs : List Held). CellsStand 65536 hs q.cells) (sym same_held) at.held))
          size_more (omega (arith, size_more, at.spare_room, same_room))
          (λ i d lt. let here' = All-same (λ x. x < length q.stored.items) (new.spare.items ++ map (index_of ix) (standing t)) _ used_more at.within i d lt in omega (arith, here', size_more))
          (λ i. subst (λ (xs : List ℕ). times i xs ≤ 1) (sym used_more) (at.once i))
          (let spares = ap (λ (v : List ℕ). length v) spare in
          let items = ap (λ (xs : List ℕ). length xs) same_standing in
          let was = at.all in
          omega (arith, spares, items, was, size_more))

    -- it was the last copy
    module _ (gone : Stored) (stored : new.stored.items ≡ set q.stored.items index gone)
        (cells : CellsStand 65536 (flat_map held_one ahead ++ flat_map held_one behind) new.cells)
        (spare : new.spare.items ≡ q.spare.items ++ index ∷ []) (spare_room : vec_capacity new.spare ≡ vec_capacity q.spare) (none : copies_of t.queues k ≡ 0) where
      fewer_stand : standing t ≡ ahead ++ behind
      fewer_stand = standing_last s port k rest below queue at.known none

      apart : All (λ number. index_of ix number ≡ index → ⊥) (ahead ++ behind)
      apart = All-append (λ number. index_of ix number ≡ index → ⊥) ahead behind ahead_apart behind_apart

      stored_on : (i : ℕ) → (i ≡ index → ⊥) → stored_at new.stored.items i ≡ stored_at q.stored.items i
      stored_on i other = ap (λ (list : List Stored). stored_at list i) stored ∙ get_or-set_other q.stored.items index i gone _ other

      held_on : held_items new.stored.items ix s.items (standing t) ≡ flat_map held_one ahead ++ flat_map held_one behind
      held_on =
          ap (held_items new.stored.items ix s.items) fewer_stand
          ∙ flat_map_alike (λ number. held_if (stored_at new.stored.items (index_of ix number)).chain (get_or s.items number [])) held_one (ahead ++ behind)
          (λ i d lt.
          let number = get_or (ahead ++ behind) i d in
          ap (λ (x : Stored). held_if x.chain (get_or s.items number [])) (stored_on (index_of ix number) (apart i d lt)))
          ∙ flat_map-append held_one ahead behind

      -- of what holds of all that stood
      both : (P : ℕ → Type 0) → All P (standing s) → All P (ahead ++ behind)
      both P all =
          let parts = All-same P (ahead ++ k ∷ behind) (standing s) (sym split) all in
          All-append P ahead behind (All-left P ahead (k ∷ behind) parts) (All-tail P k behind (All-right P ahead (k ∷ behind) parts))

      kept_last : All (λ number. Keeps (stored_at new.stored.items (index_of ix number)) (length (item_of s number)) (copies_of t.queues number)) (standing t)
      kept_last =
          let P : ℕ → Type 0 = λ number. Keeps (stored_at new.stored.items (index_of ix number)) (length (item_of s number)) (copies_of t.queues number) in
          let Q : ℕ → Type 0 = λ number. Keeps (stored_at q.stored.items (index_of ix number)) (length (item_of s number)) (copies_of s.queues number) in
          All-same P (standing t) (ahead ++ behind) fewer_stand
          (λ i d lt.
          let number = get_or (ahead ++ behind) i d in
          let was : Q number = both Q at.kept i d lt in
          let kept = stored_on (index_of ix number) (apart i d lt) in
          let now : P number = record {
            chain = was.chain;
            chained = ap (λ (x : Stored). x.chain) kept ∙ was.chained;
            len = ap (λ (x : Stored). x.len) kept ∙ was.len;
            copies = ap (λ (x : Stored). x.copies) kept ∙ was.copies ∙ sym (copies_there number (others_differ i d lt));
          } in now)

      size_last : length new.stored.items ≡ length q.stored.items
      size_last = ap length stored ∙ length-set q.stored.items index gone

      places_on : map (index_of ix) (standing t) ≡ map (index_of ix) ahead ++ map (index_of ix) behind
      places_on = ap (map (index_of ix)) fewer_stand ∙ map-append (index_of ix) ahead behind

      places_were : map (index_of ix) (standing s) ≡ map (index_of ix) ahead ++ index ∷ map (index_of ix) behind
      places_were = ap (map (index_of ix)) split ∙ map-append (index_of ix) ahead (k ∷ behind)

      within_last : All (λ i. i < length new.stored.items) (new.spare.items ++ map (index_of ix) (standing t))
      within_last =
          let P : ℕ → Type 0 = λ i. i < length q.stored.items in
          let spares = All-left P q.spare.items (map (index_of ix) (standing s)) at.within in
          let used = All-same P (map (index_of ix) ahead ++ index ∷ map (index_of ix) behind) (map (index_of ix) (standing s)) (sym places_were) (All-right P q.spare.items (map (index_of ix) (standing s)) at.within) in
          let left = All-left P (map (index_of ix) ahead) (index ∷ map (index_of ix) behind) used in
          let right = All-tail P index (map (index_of ix) behind) (All-right P (map (index_of ix) ahead) (index ∷ map (index_of ix) behind) used) in
          let on = All-same P (map (index_of ix) (standing t)) _ places_on (All-append P (map (index_of ix) ahead) (map (index_of ix) behind) left right) in
          let spares_now = All-same P new.spare.items (q.spare.items ++ index ∷ []) spare (All-push P q.spare.items index spares first_within) in
          let all = All-append P new.spare.items (map (index_of ix) (standing t)) spares_now on in
          λ i d lt. let one = all i d lt in omega (arith, one, size_last)

      once_last : (i : ℕ) → times i (new.spare.items ++ map (index_of ix) (standing t)) ≤ 1
      once_last i =
          let most = at.once i in
          let was = times_append i q.spare.items (map (index_of ix) (standing s)) in
          let were = ap (times i) places_were ∙ times_append i (map (index_of ix) ahead) (index ∷ map (index_of ix) behind) in
          let one = times_cons i index (map (index_of ix) behind) in
          let alone = times_cons i index [] in
          let now = times_append i new.spare.items (map (index_of ix) (standing t)) in
          let spares = ap (times i) spare ∙ times_append i q.spare.items (index ∷ []) in
          let on = ap (times i) places_on ∙ times_append i (map (index_of ix) ahead) (map (index_of ix) behind) in
          omega (arith, most, was, were, one, alone, now, spares, on)

      all_last : length new.spare.items + length (standing t) ≡ length new.stored.items
      all_last =
          let was = at.all in
          let spares = ap length spare ∙ length_push q.spare.items index in
          let on = ap (λ (xs : List ℕ). length xs) fewer_stand ∙ length-append ahead behind in
          let were = ap (λ (xs : List ℕ). length xs) split ∙ length-append ahead (k ∷ behind) in
          omega (arith, was, spares, on, were, size_last)

      pub taken_last : StandsAt ix t new
      taken_last = stands_then kept_last (subst (λ (hs : List Held). CellsStand 65536 hs new.cells) (sym held_on) cells) size_last (omega (arith, size_last, at.spare_room, spare_room)) within_last once_last all_last
