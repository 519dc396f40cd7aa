-- The changed cells between a book's tables and their parts as they are next are those by which the cells become the next ones.
use Rattle.std.proofs.Common.{◌≡◌, ℕ, suc, ◌<◌, ◌==◌, ◌&&◌, Bool, true, false, cond, List, [], ◌∷◌, Option, Some, None, refl, sym, ap, ◌∙◌, subst, inl, inr, arith}
use Rattle.std.specs.Prelude.{All, Contains, IsSomeAnd, Vec, find, is_some, slice_get, zip}
use Rattle.std.specs.Global.{Global}
use Rattle.std.specs.BTreeMap.{get, keys}
use Rattle.std.proofs.lemmas.Cmp.{nat_cmp_total}
use Rattle.std.specs.List.{AllZip}
use Rattle.std.specs.Ordering.{nat_cmp}
use Rattle.std.proofs.lemmas.Bool.{and_from, and_parts, eq-eqb, eqb-true}
use Rattle.std.proofs.lemmas.List.Elements.{All-contains, All-contains_itself, All-weaker}
use Rattle.std.proofs.lemmas.Map.Lookups.{exact_unsigned}
use Rattle.std.proofs.lemmas.Map.Views.{btree_map_contains_key_iff}
use Rattle.std.proofs.lemmas.Option.{none-some, same_Some}
use Rattle.rmt_bits.proofs.AllLaws.{All-slice_get}
use Rattle.rmt_bits.proofs.FindLaws.{find-some}
use Rattle.rmt_bits.proofs.ListLaws.{AllZip-slice_get, find-passes}
use Rattle.rmt_bits.proofs.MemberLaws.{Contains-flat_map, Contains-item, Contains-split, flat_from}
use Rattle.rmt_ast.specs.declared.entry.Entry.{Entry}
use Rattle.rmt_config.specs.declared.cell_write.CellWrite.{CellWrite}
use Rattle.rmt_config.specs.declared.config.Config.{Config}
use Rattle.rmt_config.specs.declared.config.SlotUnit.{SlotUnit}
use Rattle.rmt_config.specs.Cells.{cells_in}
use Rattle.rmt_config.specs.Commits.{AreWrites, IsCell}
use Rattle.rmt_config.specs.Rooms.{PartAt, parts_of}
use Rattle.rmt_config.specs.RunCells.{RunCells, is_changed, slot_at, with_version}
use Rattle.rmt_update.specs.declared.book.Book.{Book}
use Rattle.rmt_book.specs.declared.kept.Kept.{Kept}
use Rattle.rmt_book.specs.declared.table.PartCells.{PartCells}
use Rattle.rmt_book.specs.declared.table.TableCells.{TableCells}
use Rattle.rmt_update.specs.BookStands.{BookStands, HoldsPart, IsKeptOf}
use Rattle.rmt_update.specs.Changing.{ChangeKey, change_key}
use Rattle.rmt_book.specs.Coming.{empty_write, kept_write}
use Rattle.rmt_update.specs.Differences.{AreDifferences, Goal, IsGoal, all_pairs, change_by, change_in, is_exact, is_same_kept, pairs_of}
use Rattle.rmt_book.specs.Kept.{AreBytesOf}
use Rattle.rmt_update.specs.Planned.{HasLengths}
use Rattle.rmt_update.proofs.CellsFound.{found, nodes-rise, one-node, table-holds, table-own}
use Rattle.rmt_update.proofs.DiffLaws.{CellTurns, TurnsBy, are-writes}
use Rattle.rmt_update.proofs.OncePlaced.{found-in, part-once}
use Rattle.rmt_update.proofs.PartOrder.{IsPartOf}
use Rattle.rmt_update.proofs.PutChanges.{zip-at}
use Rattle.rmt_update.proofs.SameKept.{change-turns}
use Rattle.rmt_update.proofs.ZipLaws.{zip-left, zip-right}

-- ---- pairs

zip-from : {X Y : Type 0} (xs : List X) (ys : List Y) (z : X × Y) → Contains (zip xs ys) z → (i : ℕ) × (slice_get xs i ≡ Some z.0) × (slice_get ys i ≡ Some z.1)
zip-from [] ys z there = absurd (let lt = there.1 in omega (arith, lt))
zip-from (x ∷ xs) [] z there = absurd (let lt = there.1 in omega (arith, lt))
zip-from {X} {Y} (x ∷ xs) (y ∷ ys) z there = elim (Contains-split (x, y) (zip xs ys) z there) [
  | inl same ↦ (0, ap (λ (p : X × Y). Some p.0) same, ap (λ (p : X × Y). Some p.1) same)
  | inr later ↦ let h = zip-from xs ys z later in (suc h.0, h.1, h.2)
]

-- the parts of a table as they are next
abbrev pub NextHolds : Config → RunCells → TableCells → Vec PartCells Global → Type 0
NextHolds c next t ps = AllZip (HoldsPart next) (parts_of c t.name.node) ps.items

module _ (c : Config) (cells : RunCells) (lists : List (List Entry)) (b : Book) (stands : BookStands c cells lists b) (next : RunCells) (seed : ℕ) (moved : List (Vec PartCells Global))
    (holds : AllZip (NextHolds c (with_version next seed)) b.tables.items moved) where
  abbrev ps : List (PartCells × PartCells)
  ps = all_pairs b.tables.items moved

  -- where a pair of parts stands
  record PairAt (p : PartCells × PartCells) : Type 0 where
    i : ℕ
    j : ℕ
    table : TableCells
    in_tables : slice_get b.tables.items i ≡ Some table
    parts : Vec PartCells Global
    in_moved : slice_get moved i ≡ Some parts
    old : slice_get table.parts.items j ≡ Some p.0
    new : slice_get parts.items j ≡ Some p.1
    part : PartAt
    in_parts : slice_get (parts_of c table.name.node) j ≡ Some part
    own : IsPartOf c table.name.node part
    was : HoldsPart cells part p.0
    is : HoldsPart (with_version next seed) part p.1

  pair-at : (i j : ℕ) (t : TableCells) (v : Vec PartCells Global) (x y : PartCells) → slice_get b.tables.items i ≡ Some t → slice_get moved i ≡ Some v → slice_get t.parts.items j ≡ Some x → slice_get v.items j ≡ Some y → PairAt (x, y)
  pair-at i j t v x y at_t at_v at_x at_y =
      let held = table-holds c cells lists b stands i t at_t in
      let later = AllZip-slice_get (NextHolds c (with_version next seed)) b.tables.items moved i t v holds at_t at_v in
      let z = zip-right (HoldsPart cells) (parts_of c t.name.node) t.parts.items j x held at_x in
      record {
        i = i;
        j = j;
        table = t;
        in_tables = at_t;
        parts = v;
        in_moved = at_v;
        old = at_x;
        new = at_y;
        part = z.0;
        in_parts = z.1;
        own = All-slice_get (IsPartOf c t.name.node) (parts_of c t.name.node) j z.0 (table-own c cells lists b stands i t at_t).own z.1;
        was = z.2;
        is = AllZip-slice_get (HoldsPart (with_version next seed)) (parts_of c t.name.node) v.items j z.0 y later z.1 at_y;
      }

  pair-of : (p : PartCells × PartCells) → Contains (all_pairs b.tables.items moved) p → PairAt p
  pair-of p there =
      let f = flat_from pairs_of (zip b.tables.items moved) p there in
      let g = zip-from b.tables.items moved f.1 (Contains-item (zip b.tables.items moved) f.0 f.1 f.2) in
      let h = zip-from f.1.0.parts.items f.1.1.items p f.3 in
      pair-at g.0 h.0 f.1.0 f.1.1 p.0 p.1 g.1 g.2 h.1 h.2

  -- a pair has its place alone
  one-pair : (p q : PartCells × PartCells) → PairAt p → PairAt q → p.1.stage ≡ q.1.stage → p.1.place ≡ q.1.place → p ≡ q
  one-pair p q hp hq stage place =
      let stages : hp.part.stage ≡ hq.part.stage = sym hp.is.stage ∙ stage ∙ hq.is.stage in
      let places : hp.part.place ≡ hq.part.place = sym hp.is.place ∙ place ∙ hq.is.place in
      let slots : hp.part.slot ≡ hq.part.slot =
      same_Some hp.part.slot hq.part.slot (sym hp.own.slot ∙ ap (λ k. slot_at c k hp.part.place) stages ∙ ap (slot_at c hq.part.stage) places ∙ hq.own.slot) in
      let nodes : hp.table.name.node ≡ hq.table.name.node = sym hp.own.own ∙ ap (λ (s : SlotUnit). s.node) slots ∙ hq.own.own in
      let index : hp.i ≡ hq.i = one-node b.tables.items hp.i hq.i hp.table hq.table (nodes-rise c cells lists b stands) hp.in_tables hq.in_tables nodes in
      let tables : hp.table ≡ hq.table = same_Some hp.table hq.table (sym hp.in_tables ∙ ap (slice_get b.tables.items) index ∙ hq.in_tables) in
      let vecs : hp.parts ≡ hq.parts = same_Some hp.parts hq.parts (sym hp.in_moved ∙ ap (slice_get moved) index ∙ hq.in_moved) in
      let there : slice_get (parts_of c hp.table.name.node) hq.j ≡ Some hq.part = ap (λ m. slice_get (parts_of c m) hq.j) nodes ∙ hq.in_parts in
      let same : hp.j ≡ hq.j = part-once c hp.table.name.node hp.j hq.j hp.part hq.part hp.in_parts there stages places in
      let first : p.0 ≡ q.0 = same_Some p.0 q.0 (sym hp.old ∙ ap (λ (t : TableCells). slice_get t.parts.items hp.j) tables ∙ ap (slice_get hq.table.parts.items) same ∙ hq.old) in
      let second : p.1 ≡ q.1 = same_Some p.1 q.1 (sym hp.new ∙ ap (λ (v : Vec PartCells Global). slice_get v.items hp.j) vecs ∙ ap (slice_get hq.parts.items) same ∙ hq.new) in
      ap (λ z. (z, p.1)) first ∙ ap (λ z. (q.0, z)) second

  -- ---- the changes that are to be

  abbrev is_place : ℕ → ℕ → PartCells × PartCells → Bool
  is_place k place p = (p.1.stage == k) && (p.1.place == place)

  goal_of : Option (PartCells × PartCells) → ℕ → Option CellWrite
  goal_of None n = None
  goal_of (Some p) n = change_in p.0 p.1 n

  goal : ChangeKey → Option CellWrite
  goal q = goal_of (find (is_place q.0.0 q.0.1) (all_pairs b.tables.items moved)) q.1

  goal-is : All (IsGoal goal) (all_pairs b.tables.items moved)
  unfolding goal goal_of
  goal-is =
      All-weaker (Contains (all_pairs b.tables.items moved)) (IsGoal goal) (λ p there n.
      let test = is_place p.1.stage p.1.place in
      let pass : test p ≡ true = and_from (p.1.stage == p.1.stage) (p.1.place == p.1.place) (eq-eqb p.1.stage p.1.stage refl) (eq-eqb p.1.place p.1.place refl) in
      let f = find-some test (all_pairs b.tables.items moved) p there pass in
      let own = and_parts (f.0.1.stage == p.1.stage) (f.0.1.place == p.1.place) (find-passes test (all_pairs b.tables.items moved) f.0 f.1) in
      let same : f.0 ≡ p = one-pair f.0 p (pair-of f.0 (found-in test (all_pairs b.tables.items moved) f.0 f.1)) (pair-of p there) (eqb-true f.0.1.stage p.1.stage own.0) (eqb-true f.0.1.place p.1.place own.1) in
      ap (λ o. goal_of o n) (f.1 ∙ ap Some same)) (all_pairs b.tables.items moved) (All-contains_itself (all_pairs b.tables.items moved))

  module _ (writes : List CellWrite) (differ : (g : Goal) → All (IsGoal g) (all_pairs b.tables.items moved) → AreDifferences (all_pairs b.tables.items moved) writes g) where
    are : AreDifferences (all_pairs b.tables.items moved) writes goal
    are = differ goal goal-is

    -- ---- each is a cell

    some-kept : (x y : PartCells) (n : ℕ) (part : PartAt) (w : CellWrite) → HoldsPart cells part x → HoldsPart (with_version next seed) part y → change_in x y n ≡ Some w → n < cells_in part.slot.memory
    some-kept x y n part w was is change = by (get nat_cmp x.cells n) (get nat_cmp y.cells n) refl refl change
      where
        by : (o o2 : Option Kept) → get nat_cmp x.cells n ≡ o → get nat_cmp y.cells n ≡ o2 → change_by (is_exact y.shape.grid) y.stage y.place n o o2 ≡ Some w → n < cells_in part.slot.memory
        by None None e e2 h = absurd (none-some w h)
        by (Some k) o2 e e2 h = All-contains (λ m. m < cells_in part.slot.memory) (keys x.cells) n was.within ((btree_map_contains_key_iff nat_cmp_total exact_unsigned x.cells n).0 (ap is_some e))
        by None (Some k) e e2 h = All-contains (λ m. m < cells_in part.slot.memory) (keys y.cells) n is.within ((btree_map_contains_key_iff nat_cmp_total exact_unsigned y.cells n).0 (ap is_some e2))

    -- a pair whose cell changes so
    record ChangesSo (w : CellWrite) : Type 0 where
      p : PartCells × PartCells
      at : PairAt p
      within : w.cell < cells_in at.part.slot.memory
      slot : slot_at c w.stage w.unit ≡ Some at.part.slot
      change : change_in p.0 p.1 w.cell ≡ Some w

    changes-so : (w : CellWrite) → goal (change_key w) ≡ Some w → ChangesSo w
    unfolding goal goal_of
    changes-so w is = by (find (is_place w.stage w.unit) (all_pairs b.tables.items moved)) refl is
      where
        by : (o : Option (PartCells × PartCells)) → find (is_place w.stage w.unit) (all_pairs b.tables.items moved) ≡ o → goal_of o w.cell ≡ Some w → ChangesSo w
        by None e h = absurd (none-some w h)
        by (Some p) e h =
            let at = pair-of p (found-in (is_place w.stage w.unit) (all_pairs b.tables.items moved) p e) in
            let own = and_parts (p.1.stage == w.stage) (p.1.place == w.unit) (find-passes (is_place w.stage w.unit) (all_pairs b.tables.items moved) p e) in
            let stage : at.part.stage ≡ w.stage = sym at.is.stage ∙ eqb-true p.1.stage w.stage own.0 in
            let place : at.part.place ≡ w.unit = sym at.is.place ∙ eqb-true p.1.place w.unit own.1 in
            record {
              p = p;
              at = at;
              within = some-kept p.0 p.1 w.cell at.part w at.was at.is h;
              slot = ap (λ k. slot_at c k w.unit) (sym stage) ∙ ap (slot_at c at.part.stage) (sym place) ∙ at.own.slot;
              change = h;
            }

    cell-of : (w : CellWrite) → goal (change_key w) ≡ Some w → IsCell c w.stage w.unit w.cell
    cell-of w is = let h = changes-so w is in subst (λ (o : Option SlotUnit). IsSomeAnd o (λ slot. w.cell < cells_in slot.memory)) (sym h.slot) h.within

    -- ---- each has the bytes of its slot

    bytes-by : (x y : PartCells) (n : ℕ) (part : PartAt) (w : CellWrite) → HoldsPart (with_version next seed) part y → n < cells_in part.slot.memory → slot_at c w.stage w.unit ≡ Some part.slot → change_in x y n ≡ Some w → HasLengths c w
    bytes-by x y n part w is lt there change = by (get nat_cmp x.cells n) (get nat_cmp y.cells n) refl change
      where
        emptied : empty_write y.stage y.place n ≡ w → HasLengths c w
        emptied same = record {
          slot = part.slot;
          there = there;
          visible = subst (λ (v : CellWrite). v.visible < 4) same (omega arith);
          bytes = λ some. absurd (some (sym (ap (λ (v : CellWrite). v.visible) same)));
        }

        kept : (k : Kept) → get nat_cmp y.cells n ≡ Some k → kept_write y.stage y.place k.visible k ≡ w → HasLengths c w
        kept k e same =
            let run = with_version next seed in
            let h = subst (IsKeptOf seed part (run.content part.stage part.place n) (record { cell = n; number = run.number part.stage part.place n })) e (is.each n lt) in
            let visible = h.1.visible in
            record {
              slot = part.slot;
              there = there;
              visible = subst (λ (v : CellWrite). v.visible < 4) same (omega (arith, visible));
              bytes = λ some. subst (λ (v : CellWrite). AreBytesOf part.slot v.key v.mask v.held) same (is.bytes n k e);
            }

        changed : (b : Bool) (k : Kept) → get nat_cmp y.cells n ≡ Some k → cond b None (Some (kept_write y.stage y.place k.visible k)) ≡ Some w → HasLengths c w
        changed true k e h = absurd (none-some w h)
        changed false k e h = kept k e (same_Some (kept_write y.stage y.place k.visible k) w h)

        by : (o o2 : Option Kept) → get nat_cmp y.cells n ≡ o2 → change_by (is_exact y.shape.grid) y.stage y.place n o o2 ≡ Some w → HasLengths c w
        by None None e h = absurd (none-some w h)
        by (Some j) None e h = emptied (same_Some (empty_write y.stage y.place n) w h)
        by None (Some k) e h = kept k e (same_Some (kept_write y.stage y.place k.visible k) w h)
        by (Some j) (Some k) e h = changed (is_same_kept (is_exact y.shape.grid) j k) k e h

    lengths-of : (w : CellWrite) → goal (change_key w) ≡ Some w → HasLengths c w
    lengths-of w is = let h = changes-so w is in bytes-by h.p.0 h.p.1 w.cell h.at.part w h.at.is h.within h.slot h.change

    pub writes-sized : All (HasLengths c) writes
    writes-sized = All-weaker (λ (w : CellWrite). goal (change_key w) ≡ Some w) (HasLengths c) lengths-of writes are.each

    -- ---- each cell turns

    turns : (k place n : ℕ) → IsCell c k place n → CellTurns c cells next writes k place n
    turns k place n cell =
        let f = found c cells lists b stands k place n cell in
        let v = zip-left (NextHolds c (with_version next seed)) b.tables.items moved f.spot.table f.at.table holds f.at.in_tables in
        let y = zip-left (HoldsPart (with_version next seed)) (parts_of c f.at.table.name.node) v.0.items f.spot.at.part f.is.part v.2 f.is.in_node in
        let there : Contains (all_pairs b.tables.items moved) (f.at.part, y.0) =
        Contains-flat_map pairs_of (zip b.tables.items moved) (f.at.table, v.0) (f.at.part, y.0)
        (Contains-item (zip b.tables.items moved) f.spot.table (f.at.table, v.0) (zip-at b.tables.items moved f.spot.table f.at.table v.0 f.at.in_tables v.1))
        (Contains-item (zip f.at.table.parts.items v.0.items) f.spot.at.part (f.at.part, y.0) (zip-at f.at.table.parts.items v.0.items f.spot.at.part f.at.part y.0 f.at.in_parts y.1)) in
        let m = f.spot.at.cell in
        let all = All-contains (λ (p : PartCells × PartCells). (i : ℕ) → find (λ (w : CellWrite). is_changed w p.1.stage p.1.place i) writes ≡ change_in p.0 p.1 i) (all_pairs b.tables.items moved) (f.at.part, y.0) are.all there m in
        let kept = f.is.holds.each m f.is.within in
        let kept2 = y.2.each m f.is.within in
        let change : find (λ (w : CellWrite). is_changed w f.is.part.stage f.is.part.place m) writes
        ≡ change_by (is_exact y.0.shape.grid) f.is.part.stage f.is.part.place m (get nat_cmp f.at.part.cells m) (get nat_cmp y.0.cells m) =
        ap (λ i. find (λ (w : CellWrite). is_changed w i f.is.part.place m) writes) (sym y.2.stage) ∙ ap (λ i. find (λ (w : CellWrite). is_changed w y.0.stage i m) writes) (sym y.2.place) ∙ all
        ∙ ap (λ i. change_by (is_exact y.0.shape.grid) i y.0.place m (get nat_cmp f.at.part.cells m) (get nat_cmp y.0.cells m)) y.2.stage
        ∙ ap (λ i. change_by (is_exact y.0.shape.grid) f.is.part.stage i m (get nat_cmp f.at.part.cells m) (get nat_cmp y.0.cells m)) y.2.place in
        let here : CellTurns c cells next writes f.is.part.stage f.is.part.place m = record {
          part = f.is.part;
          slot = f.is.own.slot;
          seed = cells.seed;
          seed2 = seed;
          old = get nat_cmp f.at.part.cells m;
          new = get nat_cmp y.0.cells m;
          kept = kept;
          kept2 = kept2;
          turns = subst (TurnsBy f.is.part m (get nat_cmp f.at.part.cells m) (get nat_cmp y.0.cells m)) (sym change)
              (change-turns f.is.part y.0.shape.grid y.2.shape.grid m cells.seed seed _ _ _ _ (get nat_cmp f.at.part.cells m) (get nat_cmp y.0.cells m) kept kept2);
        } in
        subst (λ i. CellTurns c cells next writes i place n) f.stage
        (subst (λ i. CellTurns c cells next writes f.is.part.stage i n) f.place (subst (λ i. CellTurns c cells next writes f.is.part.stage f.is.part.place i) f.cell here))

    pub writes-are : AreWrites c cells next writes
    writes-are =
        are-writes c cells next writes are.in_order (All-weaker (λ (w : CellWrite). goal (change_key w) ≡ Some w) (λ (w : CellWrite). IsCell c w.stage w.unit w.cell) cell-of writes are.each) turns
