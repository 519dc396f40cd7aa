-- What the first of a ring says of the lists.
use Rattle.std.proofs.Common.{◌≡◌, ℕ, ◌+◌, ◌-◌, ◌<◌, ◌≤◌, List, [], ◌∷◌, ◌++◌, Option, Some, None, map, length, take, drop, get_or, set, vec_capacity, ap, sym, ◌∙◌, subst, ⊎_elim, arith}
use Rattle.std.specs.Prelude.{Contains, slice_get, option_map}
use Rattle.std.specs.List.{flat_map}
use Rattle.std.proofs.lemmas.Bool.{cases_eq}
use Rattle.std.proofs.lemmas.List.{get_or_default, length-append, length-set, set-get_or}
use Rattle.std.proofs.lemmas.List.Elements.{All-get_or, All-set}
use Rattle.rmt_cells.specs.declared.cells.Chain.{Chain}
use Rattle.rmt_cells.specs.Stands.{Held, Stands as CellsStand, held_if}
use Rattle.rmt_queues.specs.declared.queues.Queues.{Queues}
use Rattle.rmt_queues.specs.declared.rings.Ring.{Ring}
use Rattle.rmt_queues.specs.declared.stored.Stored.{Stored}
use Rattle.rmt_queues.specs.Lists.{Lists, copies_of, item_of, queue_of, standing, take_answer, taken}
use Rattle.rmt_queues.specs.Rings.{AreRoomy, IsRoomy, ring_of}
use Rattle.rmt_queues.specs.Stands.{Keeps, Stands, StandsAt, held_items}
use Rattle.rmt_queues.specs.Stored.{stored_at}
use Rattle.rmt_queues.proofs.RingLaws.{ring_at, ring_set_other, ring_set_same}
use Rattle.rmt_queues.proofs.StandingLaws.{index_of}
use Rattle.rmt_queues.proofs.TakeLaws.{back, copies_one, first_popped, front, none_popped, standing_split}
use Rattle.rmt_queues.proofs.TakenLaws.{ahead, behind, first_held, first_kept, first_small, first_within, held_one, held_split, taken_last, taken_more}

-- the first item of a queue, and where it is stored
pub record First (ix : List ℕ) (s : Lists) (port index : ℕ) : Type 0 where
  pub number : ℕ
  pub rest : List ℕ
  pub queue : queue_of s port ≡ number ∷ rest
  pub index_is : index ≡ index_of ix number

module _ (ix : List ℕ) (s : Lists) (port : ℕ) (q : Queues) (at : StandsAt ix s q) (below : port < length s.queues) (r : Ring) (is : r ≡ get_or q.rings.items port r) where
  inside : port < length q.rings.items
  inside = omega (arith, below, at.ports)

  old_ring : ring_of q.rings.items port ≡ r.numbers.items
  old_ring = ring_at q.rings.items port r inside ∙ ap (λ (x : Ring). x.numbers.items) (sym is)

  same_first : slice_get r.numbers.items 0 ≡ slice_get (map (index_of ix) (queue_of s port)) 0
  same_first = ap (λ (xs : List ℕ). slice_get xs 0) (sym old_ring ∙ at.rings port below)

  pub first_of : (index : ℕ) → Some index ≡ slice_get r.numbers.items 0 → First ix s port index
  first_of index first = let (number, rest, queue, index_is) = first_popped ix (queue_of s port) index (first ∙ same_first) in record { number = number; rest = rest; queue = queue; index_is = index_is }

  pub none_of : None ≡ slice_get r.numbers.items 0 → queue_of s port ≡ []
  none_of first = none_popped ix (queue_of s port) (first ∙ same_first)

  -- the rings with one that is changed
  module _ (r' : Ring) (rest : r'.numbers.items ≡ drop 1 r.numbers.items) (roomy : (depth : ℕ) → IsRoomy depth r → IsRoomy depth r') where
    pub rings_many : length (set q.rings.items port r') ≡ length q.rings.items
    rings_many = length-set q.rings.items port r'

    pub rings_roomy : AreRoomy s.depth (set q.rings.items port r')
    rings_roomy =
        let was : IsRoomy s.depth r = subst (IsRoomy s.depth) (sym is) (All-get_or (IsRoomy s.depth) q.rings.items port r inside at.roomy) in
        All-set (IsRoomy s.depth) q.rings.items port r' (roomy s.depth was) at.roomy

    pub rings_here : ring_of (set q.rings.items port r') port ≡ drop 1 (ring_of q.rings.items port)
    rings_here = ring_set_same q.rings.items port r' inside ∙ rest ∙ ap (drop 1) (sym old_ring)

    pub rings_there : (p : ℕ) → (p ≡ port → ⊥) → ring_of (set q.rings.items port r') p ≡ ring_of q.rings.items p
    rings_there p other = ring_set_other q.rings.items port p r' other

-- what is stored at an index
pub stored_read : (stored : List Stored) (index other : ℕ) (x : Stored) → index ≡ other → other < length stored → x ≡ get_or stored index x → x ≡ stored_at stored other
stored_read stored index other x same lt is =
    is ∙ ap (λ (i : ℕ). get_or stored i x) same ∙ get_or_default stored other x _ lt

-- an index is used, so that fewer are spare
pub spare_left : (ix : List ℕ) (s : Lists) (port : ℕ) (q : Queues) (at : StandsAt ix s q) → port < length s.queues → (k : ℕ) (rest : List ℕ) → queue_of s port ≡ k ∷ rest
    → length q.spare.items < length q.stored.items
spare_left ix s port q at below k rest queue =
    let split = standing_split s port k rest below queue at.known in
    let size = ap (λ (xs : List ℕ). length xs) split ∙ length-append (front s port k rest below queue at.known) (k ∷ back s port k rest below queue at.known) in
    let all = at.all in
    omega (arith, size, all)

-- the answer to a take
pub answer_first : (s : Lists) (port k : ℕ) (rest : List ℕ) → queue_of s port ≡ k ∷ rest → take_answer s port ≡ Some (item_of s k)
answer_first s port k rest queue = ap (λ (xs : List ℕ). option_map (item_of s) (slice_get xs 0)) queue

-- nothing was there to be taken: only the rings are written, with what was in them
pub taken_none : (ix : List ℕ) (s : Lists) (port : ℕ) (q new : Queues) → StandsAt ix s q → queue_of s port ≡ []
    → new ≡ record q { rings = new.rings } → length new.rings.items ≡ length q.rings.items → AreRoomy s.depth new.rings.items
    → ((p : ℕ) → ring_of new.rings.items p ≡ ring_of q.rings.items p) → StandsAt ix (taken s port) new
taken_none ix s port q new at none only many roomy rings =
    let drops : drop 1 (queue_of s port) ≡ queue_of s port = ap (drop 1) none ∙ sym none in
    let same : s.queues ≡ set s.queues port (drop 1 (queue_of s port)) = sym (ap (set s.queues port) drops ∙ set-get_or s.queues port []) in
    let with_rings : StandsAt ix s (record q { rings = new.rings }) = record {
      cells = at.cells;
      depth = at.depth;
      shallow = at.shallow;
      ports = many ∙ at.ports;
      few = at.few;
      rings = λ p lt. rings p ∙ at.rings p lt;
      roomy = roomy;
      deep = at.deep;
      known = at.known;
      indexed = at.indexed;
      small = at.small;
      kept = at.kept;
      held = at.held;
      room = at.room;
      spare_room = at.spare_room;
      within = at.within;
      once = at.once;
      all = at.all;
    } in
    subst (λ (qs : List (List ℕ)). StandsAt ix (record s { queues = qs }) new) same (subst (StandsAt ix s) (sym only) with_rings)

-- ---- a take of the first item, told of the lists

module _ (s u : Lists) (q : Queues) (port : ℕ) (stands : Stands s q) (other : Stands u q) (among : port < length u.queues) (r : Ring) (is : r ≡ get_or q.rings.items port r) where
  abbrev pub ix : List ℕ
  ix = stands.indices

  pub below : port < length s.queues
  below = let a = stands.at.ports in let b = other.at.ports in omega (arith, a, b, among)

  -- nothing is there
  pub none_stands : None ≡ slice_get r.numbers.items 0 → (r' : Ring) → r'.numbers.items ≡ drop 1 r.numbers.items → ((depth : ℕ) → IsRoomy depth r → IsRoomy depth r') → (new : Queues)
      → new ≡ record q { rings = new.rings } → new.rings.items ≡ set q.rings.items port r' → Stands (taken s port) new
  none_stands first r' rest roomy new only rings =
      let none = none_of ix s port q stands.at below r is first in
      let ring : ring_of q.rings.items port ≡ [] = stands.at.rings port below ∙ ap (map (index_of ix)) none in
      let same : (p : ℕ) → ring_of (set q.rings.items port r') p ≡ ring_of q.rings.items p =
      λ p. ⊎_elim
      (λ (at : p ≡ port). subst (λ (x : ℕ). ring_of (set q.rings.items port r') x ≡ ring_of q.rings.items x) (sym at)
      (rings_here ix s port q stands.at below r is r' rest roomy ∙ ap (drop 1) ring ∙ sym ring))
      (λ (apart : p ≡ port → ⊥). rings_there ix s port q stands.at below r is r' rest roomy p apart)
      (cases_eq p port) in
      record {
        indices = ix;
        at = taken_none ix s port q new stands.at none only (ap length rings ∙ rings_many ix s port q stands.at below r is r' rest roomy)
            (subst (AreRoomy s.depth) (sym rings) (rings_roomy ix s port q stands.at below r is r' rest roomy))
            (λ p. ap (λ (rs : List Ring). ring_of rs p) rings ∙ same p);
      }

  module _ (index : ℕ) (popped : Some index ≡ slice_get r.numbers.items 0) where
    abbrev pub first : First ix s port index
    first = first_of ix s port q stands.at below r is index popped

    abbrev k : ℕ
    k = first.number

    within : index_of ix k < length q.stored.items
    within = first_within ix s port q stands.at below k first.rest first.queue

    pub index_below : index < length q.stored.items
    index_below = omega (arith, within, first.index_is)

    abbrev kept : Keeps (stored_at q.stored.items (index_of ix k)) (length (item_of s k)) (copies_of s.queues k)
    kept = first_kept ix s port q stands.at below k first.rest first.queue

    abbrev all_held : List Held
    all_held = held_items q.stored.items ix s.items (standing s)

    abbrev pub front_held : List Held
    front_held = flat_map (held_one ix s port q stands.at below k first.rest first.queue) (ahead ix s port q stands.at below k first.rest first.queue)

    abbrev pub back_held : List Held
    back_held = flat_map (held_one ix s port q stands.at below k first.rest first.queue) (behind ix s port q stands.at below k first.rest first.queue)

    one_fewer : copies_of (taken s port).queues k + 1 ≡ copies_of s.queues k
    one_fewer = copies_one s port k first.rest below first.queue stands.at.known

    pub spare_fewer : length q.spare.items < length q.stored.items
    spare_fewer = spare_left ix s port q stands.at below k first.rest first.queue

    -- what is read at the index
    module _ (x : Stored) (read : x ≡ get_or q.stored.items index x) where
      here : x ≡ stored_at q.stored.items (index_of ix k)
      here = stored_read q.stored.items index (index_of ix k) x first.index_is within read

      chained : x.chain ≡ Some kept.chain
      chained = ap (λ (y : Stored). y.chain) here ∙ kept.chained

      sized : x.len ≡ length (item_of s k)
      sized = ap (λ (y : Stored). y.len) here ∙ kept.len

      counted : x.copies ≡ copies_of (taken s port).queues k + 1
      counted = ap (λ (y : Stored). y.copies) here ∙ kept.copies ∙ sym one_fewer

      pub short : x.len ≤ 13320
      short = let small = first_small ix s port q stands.at below k first.rest first.queue in omega (arith, small, sized)

      pub is_held : (room : ℕ) → 13320 ≤ room → (held : List Held) × (chain : Chain) × (bytes : List ℕ) × CellsStand 65536 held q.cells
          × Contains held (record { chain = chain; bytes = bytes }) × (x.chain ≡ Some chain) × (x.len ≡ length bytes) × (length bytes ≤ room)
      is_held room enough = (
        all_held,
        kept.chain,
        item_of s k,
        stands.at.held,
        first_held ix s port q stands.at below k first.rest first.queue,
        chained,
        sized,
        (let small = first_small ix s port q stands.at below k first.rest first.queue in omega (arith, small, enough)),
      )

      -- the bytes that were read are those of the item
      pub item_told : (len : ℕ) (into : List ℕ)
          → ((held : List Held) (chain : Chain) (bytes : List ℕ) → CellsStand 65536 held q.cells → Contains held (record { chain = chain; bytes = bytes }) → x.chain ≡ Some chain → x.len ≡ length bytes → take len into ≡ bytes)
          → take_answer s port ≡ Some (take len into)
      item_told len into bytes =
          answer_first s port k first.rest first.queue
          ∙ ap (λ (xs : List ℕ). Some xs) (sym (bytes all_held kept.chain (item_of s k) stands.at.held (first_held ix s port q stands.at below k first.rest first.queue) chained sized))

      -- the chain is given back
      pub given : (o : Option Chain) → o ≡ x.chain → CellsStand 65536 (front_held ++ (held_if o (item_of s k) ++ back_held)) q.cells
      given o same =
          subst (λ (c : Option Chain). CellsStand 65536 (front_held ++ (held_if c (item_of s k) ++ back_held)) q.cells) (sym (same ∙ ap (λ (y : Stored). y.chain) here))
          (subst (λ (hs : List Held). CellsStand 65536 hs q.cells) (held_split ix s port q stands.at below k first.rest first.queue) stands.at.held)

      -- the queues afterwards
      module _ (r' : Ring) (rest : r'.numbers.items ≡ drop 1 r.numbers.items) (roomy : (depth : ℕ) → IsRoomy depth r → IsRoomy depth r')
          (new : Queues) (depth : new.depth ≡ q.depth) (rings : new.rings.items ≡ set q.rings.items port r') where
        many_now : length new.rings.items ≡ length q.rings.items
        many_now = ap length rings ∙ rings_many ix s port q stands.at below r is r' rest roomy

        roomy_now : AreRoomy s.depth new.rings.items
        roomy_now = subst (AreRoomy s.depth) (sym rings) (rings_roomy ix s port q stands.at below r is r' rest roomy)

        here_now : ring_of new.rings.items port ≡ drop 1 (ring_of q.rings.items port)
        here_now = ap (λ (rs : List Ring). ring_of rs port) rings ∙ rings_here ix s port q stands.at below r is r' rest roomy

        there_now : (p : ℕ) → (p ≡ port → ⊥) → ring_of new.rings.items p ≡ ring_of q.rings.items p
        there_now p apart = ap (λ (rs : List Ring). ring_of rs p) rings ∙ rings_there ix s port q stands.at below r is r' rest roomy p apart

        abbrev less : Stored → Stored
        less y = record { chain = y.chain; len = y.len; copies = y.copies - 1 }

        -- another copy stands
        pub more_stand : new.stored.items ≡ set q.stored.items index (less x) → new.cells ≡ q.cells → new.spare.items ≡ q.spare.items → vec_capacity new.spare ≡ vec_capacity q.spare → 1 < x.copies → Stands (taken s port) new
        more_stand stored cells spare room some = record {
          indices = ix;
          at = taken_more ix s port q stands.at below k first.rest first.queue new depth many_now roomy_now here_now there_now
              (stored ∙ ap (λ (i : ℕ). set q.stored.items i (less x)) first.index_is ∙ ap (λ (y : Stored). set q.stored.items (index_of ix k) (less y)) here)
              cells spare room (omega (arith, some, counted));
        }

        -- it was the last
        pub last_stands : (gone : Stored) → new.stored.items ≡ set q.stored.items index gone → CellsStand 65536 (front_held ++ back_held) new.cells
            → new.spare.items ≡ q.spare.items ++ index ∷ [] → vec_capacity new.spare ≡ vec_capacity q.spare → x.copies ≤ 1 → Stands (taken s port) new
        last_stands gone stored cells spare room few = record {
          indices = ix;
          at = taken_last ix s port q stands.at below k first.rest first.queue new depth many_now roomy_now here_now there_now
              gone (stored ∙ ap (λ (i : ℕ). set q.stored.items i gone) first.index_is) cells (spare ∙ ap (λ (i : ℕ). q.spare.items ++ i ∷ []) first.index_is) room
              (omega (arith, few, counted));
        }
