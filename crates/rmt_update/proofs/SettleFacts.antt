-- What is known of the tables of a book before a commit that moves no cell, and of those behind it.
use Rattle.std.proofs.Common.{◌≡◌, ◌≢◌, ℕ, suc, ◌<◌, Bool, true, List, [], ◌∷◌, ◌++◌, get_or, length, map, Option, Some, None, refl, sym, ap, ◌∙◌, subst, inl, inr, arith}
use Rattle.std.specs.Prelude.{All, Contains, IsSomeAnd, is_some, nat_lt, option_and_then, slice_get}
use Rattle.std.specs.List.{AllZip}
use Rattle.std.specs.BTreeMap.{get, keys}
use Rattle.std.specs.Cmp.{nat_cmp_total}
use Rattle.std.specs.List.Sorted.{IsStrictlySortedBy}
use Rattle.std.specs.Map.{keys_of}
use Rattle.std.specs.Ordering.{nat_cmp}
use Rattle.std.proofs.lemmas.Bool.{and_parts, cases_lt, ltb-true}
use Rattle.std.proofs.lemmas.List.Elements.{All-contains}
use Rattle.std.proofs.lemmas.Map.Lookups.{exact_unsigned}
use Rattle.std.proofs.lemmas.Map.Views.{btree_map_contains_key_iff}
use Rattle.std.proofs.lemmas.Option.{none-some, same_Some, slice_get-get_or, slice_get_within}
use Rattle.rmt_bits.proofs.AllLaws.{All-slice_get}
use Rattle.rmt_bits.proofs.MemberLaws.{Contains-item}
use Rattle.rmt_ast.specs.declared.entry.Entry.{Entry}
use Rattle.rmt_ast.specs.declared.names.Names.{Names}
use Rattle.rmt_ast.specs.declared.names.TableName.{TableName}
use Rattle.rmt_config.specs.declared.cell_write.CellWrite.{CellWrite}
use Rattle.rmt_config.specs.declared.config.Config.{Config}
use Rattle.rmt_config.specs.declared.config.SlotUnit.{SlotUnit}
use Rattle.rmt_config.specs.declared.config.Stage.{Stage}
use Rattle.rmt_config.specs.declared.config.Unit.TheVariants.{Slot}
use Rattle.rmt_config.specs.Cells.{cells_in}
use Rattle.rmt_config.specs.Commits.{AreWrites, Placed, settled}
use Rattle.rmt_config.specs.Rooms.{PartAt, parts_of}
use Rattle.rmt_config.specs.RunCells.{RunCells, slot_at, with_version}
use Rattle.rmt_config.specs.StageForm.{stage_is_formed}
use Rattle.rmt_update.specs.declared.book.Book.{Book}
use Rattle.rmt_update.specs.declared.book.changing.CellChange.{CellChange}
use Rattle.rmt_book.specs.declared.kept.Kept.{Kept}
use Rattle.rmt_update.specs.declared.book.placing.Coming.{Coming}
use Rattle.rmt_book.specs.declared.spot.BookSpot.{BookSpot}
use Rattle.rmt_book.specs.declared.table.PartCells.{PartCells}
use Rattle.rmt_book.specs.declared.table.TableCells.{TableCells}
use Rattle.rmt_lists.specs.declared.lists.Changes.{Changes}
use Rattle.rmt_book.specs.BookSpots.{kept_at}
use Rattle.rmt_update.specs.BookStands.{BookStands, HoldsPart, IsKeptOf, IsUsed}
use Rattle.rmt_update.specs.Changing.{ChangeKey, key_cmp}
use Rattle.rmt_update.specs.Come.{AreOrdered}
use Rattle.rmt_update.specs.Differences.{AreDifferences, Changes as CellChanges, Goal, IsGoal, all_pairs}
use Rattle.rmt_update.specs.Placing.{ArePlaced, IsBookSpot, TakesCell}
use Rattle.rmt_update.specs.Planned.{HasLengths, MayChange}
use Rattle.rmt_update.specs.TurnWrites.{AreChanged, AreSmall, HaveOwnSlots, IsFresh, cell_turn}
use Rattle.rmt_update.specs.Turning.{AreNext, HaveCells, IsSameTable, come_to, left_kept, part_of, turned}
use Rattle.rmt_update.proofs.CellsFound.{nodes-rise, one-node, spot-part, table-holds, table-own}
use Rattle.rmt_update.proofs.DifferenceLaws.{NextHolds, writes-are, writes-sized}
use Rattle.rmt_update.proofs.NextCells.{HaveOwnCells, turned-differ, turned-next}
use Rattle.rmt_update.proofs.NextNumbers.{entry-comes, old-used}
use Rattle.rmt_update.proofs.NextTables.{table-next}
use Rattle.rmt_update.proofs.OncePlaced.{part-once}
use Rattle.rmt_update.proofs.PartOrder.{IsPartOf, pair-at}
use Rattle.rmt_update.proofs.SettledKept.{kept-next, next_at}
use Rattle.rmt_update.proofs.SettledPlaces.{come-or-not}
use Rattle.rmt_book.proofs.ToldEntryLaws.{PartFacts}
use Rattle.rmt_update.proofs.TurnWriteLaws.{kept-nowhere, kept-part}
use Rattle.rmt_update.proofs.ZipLaws.{zip-right}

module _ (c : Config) (cells : RunCells) (lists : List (List Entry)) (b : Book) (stands : BookStands c cells lists b) where
  abbrev ts : List TableCells
  ts = b.tables.items

  -- the part of a spot
  record IsPartAt (s : BookSpot) (p : PartCells) : Type 0 where
    table : TableCells
    in_tables : slice_get ts s.table ≡ Some table
    in_parts : slice_get table.parts.items s.at.part ≡ Some p
    part : PartAt
    in_node : slice_get (parts_of c table.name.node) s.at.part ≡ Some part
    holds : HoldsPart cells part p
    own : IsPartOf c table.name.node part
    facts : PartFacts c table.name part

  part-at : (s : BookSpot) (p : PartCells) → part_of ts s ≡ Some p → IsPartAt s p
  part-at s p is = by (slice_get ts s.table) refl is
    where
      by : (o : Option TableCells) → slice_get ts s.table ≡ o → option_and_then (λ (t : TableCells). slice_get t.parts.items s.at.part) o ≡ Some p → IsPartAt s p
      by None at h = absurd (none-some p h)
      by (Some t) at h =
          let own = table-own c cells lists b stands s.table t at in
          let x = zip-right (HoldsPart cells) (parts_of c t.name.node) t.parts.items s.at.part p (table-holds c cells lists b stands s.table t at) h in
          record {
            table = t;
            in_tables = at;
            in_parts = h;
            part = x.0;
            in_node = x.1;
            holds = x.2;
            own = All-slice_get (IsPartOf c t.name.node) (parts_of c t.name.node) s.at.part x.0 own.own x.1;
            facts = All-slice_get (PartFacts c t.name) (parts_of c t.name.node) s.at.part x.0 own.parts x.1;
          }

  few-stages : nat_lt (length c.stages) 256 ≡ true
  few-stages = (and_parts _ _ (and_parts _ _ (and_parts _ _ stands.formed.items).1).0).0

  few-units : (s : Stage) → stage_is_formed s ≡ true → nat_lt (length s.units) 256 ≡ true
  few-units s e = (and_parts _ _ (and_parts _ _ (and_parts _ _ (and_parts _ _ (and_parts _ _ (and_parts _ _ (and_parts _ _ e).0).0).0).0).0).0).1

  pub are-small : AreSmall ts
  are-small s p is =
      let h = part-at s p is in
      let at = h.facts.stands in
      let few : length c.stages < 256 = ltb-true (length c.stages) 256 few-stages in
      let in_stages = slice_get_within c.stages h.part.stage at.stage at.in_stages in
      let few2 : length at.stage.units < 256 = ltb-true (length at.stage.units) 256 (few-units at.stage at.formed) in
      let in_units = slice_get_within at.stage.units h.part.place (Slot h.part.slot) at.in_units in
      let stage = h.holds.stage in
      let place = h.holds.place in
      (omega (arith, few, in_stages, stage), omega (arith, few2, in_units, place))

  pub own-slots : HaveOwnSlots ts
  own-slots s z p q at_s at_z stage place =
      let h = part-at s p at_s in
      let g = part-at z q at_z in
      let stages : h.part.stage ≡ g.part.stage = sym h.holds.stage ∙ stage ∙ g.holds.stage in
      let places : h.part.place ≡ g.part.place = sym h.holds.place ∙ place ∙ g.holds.place in
      let slots : h.part.slot ≡ g.part.slot =
      same_Some h.part.slot g.part.slot (sym h.own.slot ∙ ap (λ k. slot_at c k h.part.place) stages ∙ ap (slot_at c g.part.stage) places ∙ g.own.slot) in
      let nodes : h.table.name.node ≡ g.table.name.node = sym h.own.own ∙ ap (λ (x : SlotUnit). x.node) slots ∙ g.own.own in
      let there : slice_get (parts_of c h.table.name.node) z.at.part ≡ Some g.part = ap (λ m. slice_get (parts_of c m) z.at.part) nodes ∙ g.in_node in (
        one-node ts s.table z.table h.table g.table (nodes-rise c cells lists b stands) h.in_tables g.in_tables nodes,
        part-once c h.table.name.node s.at.part z.at.part h.part g.part h.in_node there stages places,
      )

  pub own-cells : HaveOwnCells ts
  own-cells s k is = by (part_of ts s) refl
    where
      by : (o : Option PartCells) → part_of ts s ≡ o → k.cell ≡ s.at.cell
      by None at = absurd (none-some k (sym (kept-nowhere ts s at) ∙ is))
      by (Some p) at =
          let h = part-at s p at in
          let got : get nat_cmp p.cells s.at.cell ≡ Some k = sym (kept-part ts s p at) ∙ is in
          let low = All-contains (λ m. m < cells_in h.part.slot.memory) (keys p.cells) s.at.cell h.holds.within ((btree_map_contains_key_iff nat_cmp_total exact_unsigned p.cells s.at.cell).0 (ap is_some got)) in
          (subst (IsKeptOf cells.seed h.part (cells.content h.part.stage h.part.place s.at.cell) (record { cell = s.at.cell; number = cells.number h.part.stage h.part.place s.at.cell })) got (h.holds.each s.at.cell low)).1.cell

module _ (c : Config) (names : Names) (cells : RunCells) (lists : List (List Entry)) (ch : Changes) (b : Book) (xs : List Coming) (stands : BookStands c cells lists b) (named : c.names ≡ Some names)
    (may : MayChange c names cells lists ch) (placed : ArePlaced c names cells lists ch b.odd b.tables.items xs) where
  abbrev run : RunCells
  run = settled c names cells lists (placed.stay ++ placed.coming)

  -- what comes to a cell is what it holds next
  comes-kept : (s : BookSpot) (at : IsBookSpot b.tables.items s) (k : Kept) → next_at c names cells lists ch b xs stands named placed s ≡ Some k → (k.cell ≡ s.at.cell) × (k.visible ≢ 0)
  comes-kept s at k is =
      let own = (spot-part c cells lists b stands s at).part in
      let h = subst (IsKeptOf cells.seed own (run.content own.stage own.place s.at.cell) (record { cell = s.at.cell; number = run.number own.stage own.place s.at.cell })) is (kept-next c names cells lists ch b xs stands named placed s at) in
      (h.1.cell, h.3)

  -- entries come to a cell of their own
  one-comes : (i j : ℕ) (x y : Coming) → slice_get xs i ≡ Some x → slice_get xs j ≡ Some y → x.spot ≡ y.spot → x ≡ y
  one-comes i j x y at_x at_y same = elim (cases_lt i j) [
    | inl lt ↦ absurd (pair-at (λ (v w : Coming). v.spot ≢ w.spot) xs i j x y placed.apart lt at_x at_y same)
    | inr le ↦ elim (cases_lt j i) [
      | inl gt ↦ absurd (pair-at (λ (v w : Coming). v.spot ≢ w.spot) xs j i y x placed.apart gt at_y at_x (sym same))
      | inr ge ↦ same_Some x y (sym at_x ∙ ap (slice_get xs) (let e : i ≡ j = omega (arith, le, ge) in e) ∙ at_y)
    ]
  ]

  -- entries that come
  pub are-fresh : All (IsFresh b.tables.items) xs
  are-fresh i d lt =
      let x = get_or xs i d in
      let at_x : slice_get xs i ≡ Some x = slice_get-get_or xs i d lt in
      let q = zip-right (TakesCell c cells.seed b.odd b.tables.items) placed.coming xs i x placed.takes at_x in
      fresh x q.0 (Contains-item placed.coming i q.0 q.1) q.2 at_x
    where
      fresh : (x : Coming) (q : Placed) → Contains placed.coming q → TakesCell c cells.seed b.odd b.tables.items q x → slice_get xs i ≡ Some x → IsFresh b.tables.items x
      fresh x q there takes at_x = record {
        there = subst (λ (o : Option TableCells). IsSomeAnd o (λ (t : TableCells). x.spot.at.part < length t.parts.items)) (sym takes.at.in_tables) (slice_get_within takes.at.table.parts.items x.spot.at.part takes.at.part takes.at.in_parts);
        cell = kept.0;
        shown = kept.1;
        new = λ k is same.
            let used = old-used c names cells lists ch b xs stands named may placed x.spot takes.at k is in
            let number : x.kept.number ≡ q.entry.number = ap (λ (e : Entry). e.number) takes.keeps.told in
            All-contains (λ (e : Entry). (k place n : ℕ) → IsUsed c cells k place n → cells.number k place n ≢ e.number) ch.come q.entry may.come_new
            (entry-comes c names cells lists ch b xs stands named may placed q there) _ _ _ used.0 (used.1 ∙ same ∙ number);
      }
        where
          kept : (x.kept.cell ≡ x.spot.at.cell) × (x.kept.visible ≢ 0)
          kept = elim (come-or-not c names cells lists b stands named cells.seed b.odd x.spot takes.at placed.coming xs placed.takes placed.apart) [
            | inl h ↦
                subst (λ (y : Coming). (y.kept.cell ≡ x.spot.at.cell) × (y.kept.visible ≢ 0)) (one-comes h.i i h.x x h.kept at_x h.spot)
                (comes-kept x.spot takes.at h.x.kept (h.comes (left_kept b.odd ch.gone (kept_at b.tables.items x.spot))))
            | inr h ↦ absurd (All-contains (λ (y : Coming). y.spot ≢ x.spot) xs x h.apart (Contains-item xs i x at_x) refl)
          ]

  -- the tables behind the commit hold what it leaves
  pub next-holds : (us : List TableCells) → AreNext b.odd ch.gone xs b.tables.items us → AllZip (NextHolds c (with_version run cells.seed)) b.tables.items (map (λ (u : TableCells). u.parts) us)
  next-holds us next =
      by b.tables.items us next.same (λ i t u at_t at_u same.
      subst (λ (n : TableName). AllZip (HoldsPart (with_version run cells.seed)) (parts_of c n.node) u.parts.items) same.0 (table-next c names cells lists ch b xs stands named placed us next i u at_u))
    where
      by : (ys zs : List TableCells) → AllZip IsSameTable ys zs → ((i : ℕ) (t u : TableCells) → slice_get ys i ≡ Some t → slice_get zs i ≡ Some u → IsSameTable t u → NextHolds c (with_version run cells.seed) t u.parts)
          → AllZip (NextHolds c (with_version run cells.seed)) ys (map (λ (u : TableCells). u.parts) zs)
      by [] [] zip each = tt
      by [] (u ∷ zs) zip each = absurd zip
      by (t ∷ ys) [] zip each = absurd zip
      by (t ∷ ys) (u ∷ zs) zip each = (each 0 t u refl refl zip.0, by ys zs zip.1 (λ i. each (suc i)))

-- the changed cells of slices are those of what they hold
pub changed-from : (odd : Bool) (ts ts2 : List TableCells) (gone gone2 : List ℕ) (xs xs2 : List Coming) (m : CellChanges) → ts2 ≡ ts → gone2 ≡ gone → xs2 ≡ xs
    → AreChanged ts2 (λ s. come_to xs2 s (left_kept odd gone2 (kept_at ts2 s))) m → AreChanged ts (λ s. come_to xs s (left_kept odd gone (kept_at ts s))) m
changed-from odd ts ts2 gone gone2 xs xs2 m same same_gone same_xs changed =
    subst (λ ys. AreChanged ts (λ s. come_to ys s (left_kept odd gone (kept_at ts s))) m) same_xs
    (subst (λ ns. AreChanged ts (λ s. come_to xs2 s (left_kept odd ns (kept_at ts s))) m) same_gone (subst (λ us. AreChanged us (λ s. come_to xs2 s (left_kept odd gone2 (kept_at us s))) m) same changed))

-- ---- the tables behind the commit, once entries came to their cells and the changed cells turned

module _ (c : Config) (names : Names) (cells : RunCells) (lists : List (List Entry)) (ch : Changes) (b : Book) (xs : List Coming) (stands : BookStands c cells lists b) (named : c.names ≡ Some names)
    (may : MayChange c names cells lists ch) (placed : ArePlaced c names cells lists ch b.odd b.tables.items xs) (m : CellChanges) (ordered : IsStrictlySortedBy key_cmp (keys_of m))
    (changed : AreChanged b.tables.items (λ s. come_to xs s (left_kept b.odd ch.gone (kept_at b.tables.items s))) m) (us : List TableCells)
    (have : HaveCells b.tables.items us (λ s. turned (map cell_turn m) s (come_to xs s (kept_at b.tables.items s)))) (rise : All AreOrdered b.tables.items) where
  slots : HaveOwnSlots b.tables.items
  slots = own-slots c cells lists b stands

  fresh : All (IsFresh b.tables.items) xs
  fresh = are-fresh c names cells lists ch b xs stands named may placed

  settled-next : AreNext b.odd ch.gone xs b.tables.items us
  settled-next = turned-next b.odd ch.gone xs b.tables.items slots fresh m ordered changed us have rise

  module _ (writes : List CellWrite) (are : writes ≡ map (λ (x : ChangeKey × CellChange). x.1.write) m) where
    differ : (g : Goal) → All (IsGoal g) (all_pairs b.tables.items (map (λ (u : TableCells). u.parts) us)) → AreDifferences (all_pairs b.tables.items (map (λ (u : TableCells). u.parts) us)) writes g
    differ = turned-differ b.odd ch.gone xs b.tables.items slots fresh m ordered changed us have (own-cells c cells lists b stands) writes are

    settled-writes : AreWrites c cells (settled c names cells lists (placed.stay ++ placed.coming)) writes
    settled-writes =
        writes-are c cells lists b stands (settled c names cells lists (placed.stay ++ placed.coming)) cells.seed (map (λ (u : TableCells). u.parts) us)
        (next-holds c names cells lists ch b xs stands named may placed us settled-next) writes differ

    settled-sizes : All (HasLengths c) writes
    settled-sizes =
        writes-sized c cells lists b stands (settled c names cells lists (placed.stay ++ placed.coming)) cells.seed (map (λ (u : TableCells). u.parts) us)
        (next-holds c names cells lists ch b xs stands named may placed us settled-next) writes differ

    pub settled-facts : AreNext b.odd ch.gone xs b.tables.items us × AreWrites c cells (settled c names cells lists (placed.stay ++ placed.coming)) writes × All (HasLengths c) writes
    settled-facts = (settled-next, settled-writes, settled-sizes)
