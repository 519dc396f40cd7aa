-- The entries of all tables with rooms, put together from those of each table.
use Rattle.std.proofs.Common.{◌≡◌, ℕ, suc, ◌+◌, ◌≤◌, false, List, [], ◌∷◌, ◌++◌, length, map, Option, Some, refl, sym, ap, ◌∙◌, subst, arith}
use Rattle.std.specs.Prelude.{All, AllPairs, IsSomeAnd, slice_get}
use Rattle.std.specs.List.{AllZip, flat_map}
use Rattle.std.proofs.lemmas.List.{map-append}
use Rattle.std.proofs.lemmas.List.Elements.{All-append, All-cons, All-head, All-nil, All-tail, All-weaker}
use Rattle.std.proofs.lemmas.List.Kept.{AllPairs-cons}
use Rattle.std.proofs.lemmas.Option.{get_or_from_slice_get}
use Rattle.rmt_bits.proofs.AllLaws.{All-slice_get}
use Rattle.rmt_bits.proofs.PairLaws.{AllPairs-append, AllPairs-head, AllPairs-none, AllPairs-tail}
use Rattle.rmt_ast.specs.declared.entry.Entry.{Entry}
use Rattle.rmt_ast.specs.declared.names.Names.{Names}
use Rattle.rmt_ast.specs.Changes.{list_of}
use Rattle.rmt_ast.specs.EntryLists.{Terms}
use Rattle.rmt_ast.specs.NameRules.{terms_named}
use Rattle.rmt_config.specs.declared.config.Config.{Config}
use Rattle.rmt_config.specs.Commits.{AreFilled, IsFilled, Placed}
use Rattle.rmt_config.specs.Rooms.{PartAt, Room, is_same, parts_of}
use Rattle.rmt_book.specs.declared.spots.Spot.{Spot}
use Rattle.rmt_book.specs.declared.table.PartCells.{PartCells}
use Rattle.rmt_update.specs.Loads.{HasShape}
use Rattle.rmt_book.specs.Spots.{no_part, placed_from, placed_in, room_at, spot_from, spots_at}
use Rattle.rmt_update.proofs.PartOrder.{IsPartOf, nodes-apart, rooms-apart}
use Rattle.rmt_update.proofs.RoomNumbers.{IsNumber, spot-of}
use Rattle.rmt_update.proofs.ZipLaws.{zip-all-right}

-- no two rooms are the same
abbrev pub AreApart : List Placed → Type 0
AreApart ps = AllPairs (λ (p q : Placed). is_same p.room q.room ≡ false) ps

-- ---- pairs beside pairs

pub zip-pairs : {X Y : Type 0} (R : X → Y → Type 0) (P : X → X → Type 0) (Q : Y → Y → Type 0) → ((x z : X) (y w : Y) → R x y → R z w → P x z → Q y w)
    → (xs : List X) (ys : List Y) → AllZip R xs ys → AllPairs P xs → AllPairs Q ys
zip-pairs R P Q gives [] [] zip pairs = AllPairs-none Q
zip-pairs R P Q gives [] (y ∷ ys) zip pairs = absurd zip
zip-pairs R P Q gives (x ∷ xs) [] zip pairs = absurd zip
zip-pairs {X} {Y} R P Q gives (x ∷ xs) (y ∷ ys) zip pairs =
    AllPairs-cons Q y ys (across xs ys zip.1 (AllPairs-head P x xs pairs)) (zip-pairs R P Q gives xs ys zip.1 (AllPairs-tail P x xs pairs))
  where
    across : (zs : List X) (ws : List Y) → AllZip R zs ws → All (P x) zs → All (Q y) ws
    across [] [] both all = All-nil (Q y)
    across [] (w ∷ ws) both all = absurd both
    across (z ∷ zs) [] both all = absurd both
    across (z ∷ zs) (w ∷ ws) both all = All-cons (Q y) w ws (gives x z y w zip.0 both.0 (All-head (P x) z zs all)) (across zs ws both.1 (All-tail (P x) z zs all))

-- ---- one table

-- an entry may stand at a number
pub record StandsAt (Fits : Entry → Room → Type 0) (ps : List PartAt) (e : Entry) (x : ℕ) : Type 0 where
  pub i : ℕ
  pub n : ℕ
  pub p : PartAt
  pub is : IsNumber ps x i n p
  pub fits : Fits e (record { part = p; cell = n })

-- an entry has the room of a number
record HasRoom (Fits : Entry → Room → Type 0) (ps : List PartAt) (x : ℕ) (a : Placed) : Type 0 where
  i : ℕ
  n : ℕ
  p : PartAt
  is : IsNumber ps x i n p
  room : a.room ≡ record { part = p; cell = n }
  fits : Fits a.entry a.room

module _ (Fits : Entry → Room → Type 0) (ps : List PartAt) (xs : List PartCells) (zip : AllZip HasShape ps xs) where
  has-room : (e : Entry) (x : ℕ) → StandsAt Fits ps e x → HasRoom Fits ps x (record { entry = e; room = room_at ps (spot_from 0 xs x) })
  has-room e x h =
      let same : room_at ps (spot_from 0 xs x) ≡ record { part = h.p; cell = h.n } =
      ap (room_at ps) (spot-of ps xs x h.i h.n h.p zip h.is) ∙ ap (λ (q : PartAt). record { part = q; cell = h.n }) (get_or_from_slice_get ps h.i h.p no_part h.is.there) in
      record { i = h.i; n = h.n; p = h.p; is = h.is; room = same; fits = subst (Fits e) (sym same) h.fits }

  have-rooms : (es : List Entry) (ns : List ℕ) → AllZip (StandsAt Fits ps) es ns → AllZip (HasRoom Fits ps) ns (placed_in ps es (spots_at xs ns))
  have-rooms [] [] stand = tt
  have-rooms [] (n ∷ ns) stand = absurd stand
  have-rooms (e ∷ es) [] stand = absurd stand
  have-rooms (e ∷ es) (n ∷ ns) stand = (has-room e n stand.0, have-rooms es ns stand.1)

pub entries-in : (ps : List PartAt) (es : List Entry) (ss : List Spot) → length ss ≡ length es → map (λ (p : Placed). p.entry) (placed_in ps es ss) ≡ es
entries-in ps [] ss same = refl
entries-in ps (e ∷ es) [] same = absurd (omega (arith, same))
entries-in ps (e ∷ es) (s ∷ ss) same = ap (λ xs. e ∷ xs) (entries-in ps es ss (omega (arith, same)))

-- what is known of the placed entries of a node
pub record NodeStands (c : Config) (names : Names) (seed : ℕ) (all : List (List Entry)) (node : ℕ) (placed : List Placed) : Type 0 where
  pub rooms : All (λ (p : Placed). IsSomeAnd (terms_named names p.entry.table) (λ t. IsFilled c seed t t.kind (list_of all p.entry.table) p.entry p.room)) placed
  pub parts : All (λ (p : Placed). IsPartOf c node p.room.part) placed
  pub apart : AreApart placed

pub none-stand : (c : Config) (names : Names) (seed : ℕ) (all : List (List Entry)) (node : ℕ) → NodeStands c names seed all node []
none-stand c names seed all node = record {
  rooms = All-nil (λ (p : Placed). IsSomeAnd (terms_named names p.entry.table) (λ t. IsFilled c seed t t.kind (list_of all p.entry.table) p.entry p.room));
  parts = All-nil (λ (p : Placed). IsPartOf c node p.room.part);
  apart = AllPairs-none (λ (p q : Placed). is_same p.room q.room ≡ false);
}

-- an entry of a node fits into a room
abbrev pub FitsHere : Config → ℕ → ℕ → List (List Entry) → Terms → Entry → Room → Type 0
FitsHere c seed node all t e room = (e.table ≡ node) × IsFilled c seed t t.kind (list_of all node) e room

module _ (c : Config) (names : Names) (seed node : ℕ) (all : List (List Entry)) (xs : List PartCells) (zip : AllZip HasShape (parts_of c node) xs) (own : All (IsPartOf c node) (parts_of c node)) (t : Terms) (named : terms_named names node ≡ Some t) where
  filled-here : (e : Entry) (room : Room) → FitsHere c seed node all t e room → IsSomeAnd (terms_named names e.table) (λ u. IsFilled c seed u u.kind (list_of all e.table) e room)
  filled-here e room h =
      subst (λ n. IsSomeAnd (terms_named names n) (λ u. IsFilled c seed u u.kind (list_of all n) e room)) (sym h.0)
      (subst (λ (o : Option Terms). IsSomeAnd o (λ u. IsFilled c seed u u.kind (list_of all node) e room)) (sym named) h.1)

  -- entries that stand at different numbers
  pub table-stands : (es : List Entry) (ns : List ℕ) → AllZip (StandsAt (FitsHere c seed node all t) (parts_of c node)) es ns → AllPairs (λ a b. a ≡ b → ⊥) ns
      → NodeStands c names seed all node (placed_in (parts_of c node) es (spots_at xs ns))
  table-stands es ns stand differ =
      let R = HasRoom (FitsHere c seed node all t) (parts_of c node) in
      let placed = placed_in (parts_of c node) es (spots_at xs ns) in
      let have = have-rooms (FitsHere c seed node all t) (parts_of c node) xs zip es ns stand in
      record {
        rooms = zip-all-right R (λ (p : Placed). IsSomeAnd (terms_named names p.entry.table) (λ u. IsFilled c seed u u.kind (list_of all p.entry.table) p.entry p.room))
            (λ x a h. filled-here a.entry a.room h.fits) ns placed have;
        parts = zip-all-right R (λ (p : Placed). IsPartOf c node p.room.part)
            (λ x a h. subst (λ (r : Room). IsPartOf c node r.part) (sym h.room) (All-slice_get (IsPartOf c node) (parts_of c node) h.i h.p own h.is.there)) ns placed have;
        apart = zip-pairs R (λ x y. x ≡ y → ⊥) (λ (p q : Placed). is_same p.room q.room ≡ false)
            (λ x y a b ha hb ne.
            ap (λ (r : Room). is_same r b.room) ha.room ∙ ap (is_same (record { part = ha.p; cell = ha.n })) hb.room ∙ rooms-apart c node x y ha.i hb.i ha.n hb.n ha.p hb.p ha.is hb.is ne)
            ns placed have differ;
      }

-- ---- all tables

module _ (c : Config) (names : Names) (seed : ℕ) (all : List (List Entry)) where
  record StandFrom (k : ℕ) (placed : List Placed) : Type 0 where
    rooms : All (λ (p : Placed). IsSomeAnd (terms_named names p.entry.table) (λ t. IsFilled c seed t t.kind (list_of all p.entry.table) p.entry p.room)) placed
    parts : All (λ (p : Placed). (node : ℕ) × (k ≤ node) × IsPartOf c node p.room.part) placed
    apart : AreApart placed

  stand-from : (k : ℕ) (lists : List (List Entry)) (spots : List (List Spot))
      → ((i : ℕ) (es : List Entry) (ss : List Spot) → slice_get lists i ≡ Some es → slice_get spots i ≡ Some ss → NodeStands c names seed all (k + i) (placed_in (parts_of c (k + i)) es ss))
      → StandFrom k (placed_from c k lists spots)
  stand-from k [] spots each = record {
    rooms = All-nil (λ (p : Placed). IsSomeAnd (terms_named names p.entry.table) (λ t. IsFilled c seed t t.kind (list_of all p.entry.table) p.entry p.room));
    parts = All-nil (λ (p : Placed). (node : ℕ) × (k ≤ node) × IsPartOf c node p.room.part);
    apart = AllPairs-none (λ (p q : Placed). is_same p.room q.room ≡ false);
  }
  stand-from k (es ∷ lists) [] each = record {
    rooms = All-nil (λ (p : Placed). IsSomeAnd (terms_named names p.entry.table) (λ t. IsFilled c seed t t.kind (list_of all p.entry.table) p.entry p.room));
    parts = All-nil (λ (p : Placed). (node : ℕ) × (k ≤ node) × IsPartOf c node p.room.part);
    apart = AllPairs-none (λ (p q : Placed). is_same p.room q.room ≡ false);
  }
  stand-from k (es ∷ lists) (ss ∷ spots) each =
      let none : k + 0 ≡ k = omega arith in
      let Q : Placed → Type 0 = λ p. IsSomeAnd (terms_named names p.entry.table) (λ t. IsFilled c seed t t.kind (list_of all p.entry.table) p.entry p.room) in
      let P : ℕ → Placed → Type 0 = λ m p. (node : ℕ) × (m ≤ node) × IsPartOf c node p.room.part in
      let S : Placed → Placed → Type 0 = λ p q. is_same p.room q.room ≡ false in
      let here = placed_in (parts_of c k) es ss in
      let more = placed_from c (k + 1) lists spots in
      let one = subst (λ m. NodeStands c names seed all m (placed_in (parts_of c m) es ss)) none (each 0 es ss refl refl) in
      let rest = stand-from (k + 1) lists spots (λ i fs ts at_es at_ss. let next : k + suc i ≡ k + 1 + i = omega arith in
      subst (λ m. NodeStands c names seed all m (placed_in (parts_of c m) fs ts)) next (each (suc i) fs ts at_es at_ss)) in
      record {
        rooms = All-append Q here more one.rooms rest.rooms;
        parts = All-append (P k) here more (All-weaker (λ (p : Placed). IsPartOf c k p.room.part) (P k) (λ p h. (k, omega arith, h)) here one.parts)
            (All-weaker (P (k + 1)) (P k) (λ p h. let le = h.1 in (h.0, omega (arith, le), h.2)) more rest.parts);
        apart = AllPairs-append S here more one.apart rest.apart
            (All-weaker (λ (p : Placed). IsPartOf c k p.room.part) (λ p. All (S p) more)
            (λ p own. All-weaker (P (k + 1)) (S p) (λ q h. let le = h.1 in nodes-apart c k h.0 p.room q.room own h.2 (λ e. omega (arith, e, le))) more rest.parts) here one.parts);
      }

  entries-from : (k : ℕ) (lists : List (List Entry)) (spots : List (List Spot)) → AllZip (λ (es : List Entry) (ss : List Spot). length ss ≡ length es) lists spots
      → map (λ (p : Placed). p.entry) (placed_from c k lists spots) ≡ flat_map (λ es. es) lists
  entries-from k [] [] zip = refl
  entries-from k [] (ss ∷ spots) zip = absurd zip
  entries-from k (es ∷ lists) [] zip = absurd zip
  entries-from k (es ∷ lists) (ss ∷ spots) zip =
      map-append (λ (p : Placed). p.entry) (placed_in (parts_of c k) es ss) (placed_from c (k + 1) lists spots)
      ∙ ap (λ xs. xs ++ map (λ (p : Placed). p.entry) (placed_from c (k + 1) lists spots)) (entries-in (parts_of c k) es ss zip.0)
      ∙ ap (λ xs. es ++ xs) (entries-from (k + 1) lists spots zip.1)

  pub all-stand : (spots : List (List Spot)) → AllZip (λ (es : List Entry) (ss : List Spot). length ss ≡ length es) all spots
      → ((i : ℕ) (es : List Entry) (ss : List Spot) → slice_get all i ≡ Some es → slice_get spots i ≡ Some ss → NodeStands c names seed all i (placed_in (parts_of c i) es ss))
      → AreFilled c names seed all (placed_from c 0 all spots)
  all-stand spots zip each =
      let stand = stand-from 0 all spots (λ i es ss at_es at_ss. let e : i ≡ 0 + i = omega arith in
      subst (λ m. NodeStands c names seed all m (placed_in (parts_of c m) es ss)) e (each i es ss at_es at_ss)) in
      record { each = entries-from 0 all spots zip; apart = stand.apart; rooms = stand.rooms }
