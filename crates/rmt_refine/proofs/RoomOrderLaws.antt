-- The rooms of a prefix or ternary table stand in order, whatever the key; and an entry that goes before another has fewer entries before it.
use Rattle.std.proofs.Common.{◌≡◌, ℕ, ◌+◌, ◌*◌, ◌<◌, ◌==◌, true, ◌&&◌, List, [], ◌∷◌, ◌++◌, map, get_or, Some, All, refl, sym, ap, subst, ◌∙◌, inl, inr, arith}
use Rattle.std.specs.Prelude.{AllPairs, nat_lt, slice_get}
use Rattle.std.specs.List.{flat_map, range_with_len}
use Rattle.std.proofs.lemmas.Bool.{and_from, eq-eqb, lt-ltb, or_left, or_right}
use Rattle.std.proofs.lemmas.List.Elements.{All-head, All-map, All-tail, All-weaker}
use Rattle.rmt_bits.proofs.PairLaws.{AllPairs-map, AllPairs-weaker, range_rises}
use Rattle.rmt_ast.specs.declared.program.Kind.TheVariants as kind
use Rattle.rmt_refine.specs.Types.{Config, Kind, Memory, Program, Table}
use Rattle.rmt_config.specs.declared.config.Memory.TheVariants.{Without, Exact, Ternary}
use Rattle.rmt_config.specs.LaneForm.{bits_of_lanes}
use Rattle.rmt_config.specs.Cells.{candidates}
use Rattle.rmt_config.specs.Rooms.{PartAt, Room, is_before, parts_of, rooms_for}
use Rattle.rmt_refine.specs.declared.map.Map.{Map}
use Rattle.rmt_refine.specs.Units.{HasKind, UnitsCarried, nodes_in, table_at}
use Rattle.rmt_refine.proofs.NodeLaws.{one_place}
use Rattle.rmt_refine.proofs.PartLaws.{kind_of_part, unit_of_part}
use Rattle.rmt_pack.proofs.RoomLaws.{PartIs, stages_there}
use Rattle.rmt_pack.proofs.PartOrderLaws.{Rises, parts_in_order}
use Rattle.rmt_pack.proofs.RoomOrderLaws.{pairs_flat}
use Rattle.rmt_pack.proofs.RankLaws.{IsRowKind}

-- ---- pairs

-- pairs of items, each of which has a property
pub pairs_with : {X : Type 0} (P : X → Type 0) (R S : X → X → Type 0) → ((x y : X) → P x → P y → R x y → S x y) → (xs : List X) → All P xs → AllPairs R xs → AllPairs S xs
pairs_with P R S gives xs all pairs i j d lt within = gives (get_or xs i d) (get_or xs j d) (all i d (omega (arith, lt, within))) (all j d within) (pairs i j d lt within)

-- ---- rooms

-- a memory whose cells are rows, in each of which any key may stand
record HasRows (a : PartAt) : Type 0 where
  rows : ℕ
  any_row : (seed bits key : ℕ) → candidates seed bits a.slot.memory key ≡ range_with_len 0 rows

rows_of : (k : Kind) (q : ℕ) (m : Memory) → IsRowKind k → HasKind k q m → (rows : ℕ) × ((seed bits key : ℕ) → candidates seed bits m key ≡ range_with_len 0 rows)
rows_of k q Without rowed h = (0, λ seed bits key. refl)
rows_of k q (Ternary d ks rs cs) rowed h = (2048 * d, λ seed bits key. refl)
rows_of k q (Exact x per d first ks rs cs) (inl is) h = absurd (subst (λ (y : Kind). HasKind y q (Exact x per d first ks rs cs)) is h)
rows_of k q (Exact x per d first ks rs cs) (inr is) h = absurd (subst (λ (y : Kind). HasKind y q (Exact x per d first ks rs cs)) is h)

module _ (p : Program) (m : Map) (c : Config) (units : UnitsCarried p m.places m.placement.parts m.starts c) (n : ℕ) (t : Table) (table : table_at p n ≡ Some t) (rowed : IsRowKind t.kind) where
  parts_are : All (PartIs c n) (parts_of c n)
  parts_are = stages_there c n 0 c.stages (λ i. ap (slice_get c.stages) (omega arith))

  part_rows : (a : PartAt) → PartIs c n a → HasRows a
  part_rows a h =
      let kd = kind_of_part p m.places m.placement.parts m.starts c n t a.stage a.place h.stage a.slot units table h.part in
      let r = rows_of t.kind kd.0 a.slot.memory rowed kd.2 in
      record { rows = r.0; any_row = r.1 }

  all_rows : All HasRows (parts_of c n)
  all_rows = All-weaker (PartIs c n) HasRows part_rows (parts_of c n) parts_are

  -- a table has one part in a stage
  parts_apart : (a b : PartAt) → PartIs c n a → PartIs c n b → Rises a b → a.stage < b.stage
  parts_apart a b ha hb (inl lt) = lt
  parts_apart a b ha hb (inr same) =
      let ua = (unit_of_part p m.places m.placement.parts m.starts c n a.stage a.place ha.stage a.slot units ha.part).0 in
      let ub = (unit_of_part p m.places m.placement.parts m.starts c n b.stage b.place hb.stage b.slot units hb.part).0 in
      let one = one_place p m.placement.parts a.stage n a.place b.place ua (subst (λ k. slice_get (nodes_at k) b.place ≡ Some n) (sym same.0) ub) in
      absurd (omega (arith, same.1, one))
    where
      nodes_at : ℕ → List ℕ
      nodes_at k = nodes_in p m.placement.parts k

  parts_rise : AllPairs (λ (a b : PartAt). a.stage < b.stage) (parts_of c n)
  parts_rise = pairs_with (PartIs c n) Rises (λ (a b : PartAt). a.stage < b.stage) parts_apart (parts_of c n) parts_are (parts_in_order c n)

  abbrev Before : Room → Room → Type 0
  Before r s = is_before r s ≡ true

  abbrev rooms_in : ℕ → ℕ → PartAt → List Room
  rooms_in seed key a = map (λ i. record { part = a; cell = i }) (candidates seed (bits_of_lanes a.slot.keys) a.slot.memory key)

  own_rooms : (seed key : ℕ) (a : PartAt) → HasRows a → AllPairs Before (rooms_in seed key a)
  own_rooms seed key a h =
      subst (λ xs. AllPairs Before (map (λ i. record { part = a; cell = i }) xs)) (sym (h.any_row seed (bits_of_lanes a.slot.keys) key))
      (AllPairs-map Before (λ i. record { part = a; cell = i }) (range_with_len 0 h.rows)
      (AllPairs-weaker (λ x y. x < y) (λ x y. Before (record { part = a; cell = x }) (record { part = a; cell = y }))
      (λ x y lt. or_right (nat_lt a.stage a.stage) ((a.stage == a.stage) && nat_lt x y) (and_from (a.stage == a.stage) (nat_lt x y) (eq-eqb a.stage a.stage refl) (lt-ltb x y lt)))
      (range_with_len 0 h.rows) (range_rises 0 h.rows)))

  across : (seed key : ℕ) (a b : PartAt) → a.stage < b.stage → All (λ r. All (Before r) (rooms_in seed key b)) (rooms_in seed key a)
  across seed key a b lt =
      All-map (λ r. All (Before r) (rooms_in seed key b)) (λ i. record { part = a; cell = i }) among_a
      (λ x d within. All-map (Before (record { part = a; cell = get_or among_a x d })) (λ i. record { part = b; cell = i }) among_b
      (λ y e inside. or_left (nat_lt a.stage b.stage) ((a.stage == b.stage) && nat_lt (get_or among_a x d) (get_or among_b y e)) (lt-ltb a.stage b.stage lt)))
    where
      among_a : List ℕ
      among_a = candidates seed (bits_of_lanes a.slot.keys) a.slot.memory key

      among_b : List ℕ
      among_b = candidates seed (bits_of_lanes b.slot.keys) b.slot.memory key

  -- rooms stand in order
  pub rooms_rise : (seed key : ℕ) → AllPairs Before (rooms_for c seed n key)
  rooms_rise seed key =
      pairs_flat (λ (a b : PartAt). a.stage < b.stage) Before (rooms_in seed key) (across seed key) (parts_of c n)
      (All-weaker HasRows (λ a. AllPairs Before (rooms_in seed key a)) (own_rooms seed key) (parts_of c n) all_rows) parts_rise

  same_rooms : (seed key other : ℕ) (rest : List PartAt) → All HasRows rest → flat_map (rooms_in seed key) rest ≡ flat_map (rooms_in seed other) rest
  same_rooms seed key other [] all = refl
  same_rooms seed key other (a ∷ rest) all =
      let h = All-head HasRows a rest all in
      ap (λ xs. map (λ i. record { part = a; cell = i }) xs ++ flat_map (rooms_in seed key) rest) (h.any_row seed (bits_of_lanes a.slot.keys) key ∙ sym (h.any_row seed (bits_of_lanes a.slot.keys) other))
      ∙ ap (λ xs. rooms_in seed other a ++ xs) (same_rooms seed key other rest (All-tail HasRows a rest all))

  -- and are those of every key
  pub any_key : (seed key other : ℕ) → rooms_for c seed n key ≡ rooms_for c seed n other
  any_key seed key other = same_rooms seed key other (parts_of c n) all_rows

-- ---- entries that go first
