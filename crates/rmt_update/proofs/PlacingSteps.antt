-- How the entries of a commit come to the cells of its tables.
use Rattle.std.proofs.Common.{◌≡◌, ◌≢◌, ℕ, ◌+◌, ◌<◌, ◌≤◌, ◌==◌, ◌&&◌, true, false, not, cond, eqb, List, [], ◌∷◌, ◌++◌, append_assoc, Option, Some, None, drop, get_or, length, map, sum, take, refl, sym, ap, ◌∙◌, subst, inl, inr, arith}
use Rattle.std.specs.Prelude.{All, Contains, filter, fold, nat_le, slice_get}
use Rattle.std.specs.List.{AllZip, list_all}
use Rattle.std.proofs.lemmas.Bool.{and_parts, eqb-true, leb-true}
use Rattle.std.proofs.lemmas.Grind.{flat_map-append}
use Rattle.std.proofs.lemmas.List.{append-nil, get_or-take, length-take, take-append-drop, take_all}
use Rattle.std.proofs.lemmas.List.Elements.{All-cons, All-contains, All-nil, Contains-append_cases, Contains-get_or, at_from_Contains, filter-append}
use Rattle.std.proofs.lemmas.List.Sums.{fold-append}
use Rattle.std.proofs.lemmas.Option.{slice_get-get_or}
use Rattle.rmt_bits.proofs.ListLaws.{take-slice_get}
use Rattle.rmt_bits.proofs.AllLaws.{All-from_test, All-slice_get, All-unmap}
use Rattle.rmt_bits.proofs.PairLaws.{AllPairs-none}
use Rattle.rmt_bits.proofs.MemberLaws.{Contains-filter, Contains-flat_map, Contains-item, Contains-map, Contains-unfilter, from_flat_map}
use Rattle.rmt_bits.specs.Members.{is_among}
use Rattle.rmt_ast.specs.EntryLists.{IsEntry}
use Rattle.rmt_ast.specs.NameRules.{terms_of_name}
use Rattle.rmt_ast.specs.declared.entry.Entry.{Entry}
use Rattle.rmt_ast.specs.declared.names.ActionName.{ActionName}
use Rattle.rmt_ast.specs.declared.names.TableName.{TableName}
use Rattle.rmt_config.specs.Commits.{Placed, all_entries, come, is_numbered_in, placed_after, with_coming}
use Rattle.rmt_config.specs.NamesForm.{has_actions, is_made_so}
use Rattle.rmt_config.specs.Rooms.{PartAt, parts_of}
use Rattle.rmt_update.specs.declared.book.Book.{Book}
use Rattle.rmt_update.specs.declared.book.index.TableIndex.{TableIndex}
use Rattle.rmt_update.specs.declared.book.placing.Coming.{Coming}
use Rattle.rmt_book.specs.declared.spot.BookSpot.{BookSpot}
use Rattle.rmt_book.specs.declared.spots.Spot.{Spot}
use Rattle.rmt_book.specs.declared.table.TableCells.{TableCells}
use Rattle.rmt_lists.specs.declared.lists.Changes.{Changes}
use Rattle.rmt_update.specs.Come.{AreOrdered, HaveCome, IsRunOf, Run, behind, come_in, come_to, staying}
use Rattle.rmt_update.specs.Loads.{HasShape}
use Rattle.rmt_update.specs.Placing.{ArePlaced, IsBookSpot, StaysAt, TakesCell, room_of}
use Rattle.rmt_update.specs.Planned.{changed_lists}
use Rattle.rmt_update.specs.RowIndex.{IsIndex}
use Rattle.rmt_update.specs.Taking.{Holds, MayCome, MayGive, TakesFrom}
use Rattle.rmt_update.proofs.BookFacts.{book-tables, holds-there, nodes-rising, own-there, zip-shapes}
use Rattle.rmt_update.proofs.BookLaws.{names-fit}
use Rattle.rmt_update.proofs.ComeLaws.{come-is}
use Rattle.rmt_update.proofs.ComesLaws.{none-comes}
use Rattle.rmt_update.proofs.IndexStart.{entry-formed}
use Rattle.rmt_update.proofs.PartOrder.{pair-at}
use Rattle.rmt_update.proofs.PlacingLaws.{IndexStands, come-on, have-more, index-start, may-give, none-behind}
use Rattle.rmt_book.proofs.SliceLoops.{flat-next}
use Rattle.rmt_update.proofs.StayLaws.{come-new, come-unnumbered, stay_placed}
use Rattle.rmt_update.proofs.TableRules.{few-bits}
use Rattle.rmt_update.proofs.ZipLaws.{zip-right}

-- how far entries have come to a table: those before it, and the first so many that come to it
pub record Progress (w : Run) (b : Book) (ch : Changes) (at : ℕ) (x : TableCells) (k : ℕ) (xs : List Coming) (index : TableIndex) : Type 0 where
  pub have : HaveCome w b ch (come_to ch (take at b.tables.items) ++ filter (λ (e : Entry). x.name.node == e.table) (take k ch.come)) xs
  pub stands : IndexStands w x (staying w ch ++ have.placed) index

module _ (w : Run) (b : Book) (ch : Changes) (run : IsRunOf b ch w) (ordered : All AreOrdered b.tables.items) (at : ℕ) (x : TableCells) (at_x : slice_get b.tables.items at ≡ Some x) where
  abbrev tables : List TableCells
  tables = b.tables.items

  abbrev node : ℕ
  node = x.name.node

  abbrev earlier : List Entry
  earlier = come_to ch (take at b.tables.items)

  abbrev own_of : List Entry → List Entry
  own_of es = filter (λ (e : Entry). x.name.node == e.table) es

  -- ---- what its entries meet

  pub come-table : (e : Entry) → (node == e.table) ≡ true → e.table ≡ node
  come-table e own = sym (eqb-true node e.table own)

  pub come-formed : (e : Entry) → Contains ch.come e → (node == e.table) ≡ true → IsEntry node (terms_of_name x.name) e
  come-formed e there own =
      let in_table : Contains (come_in ch x) e = Contains-filter (λ (y : Entry). node == y.table) ch.come e there own in
      let in_tables : Contains (come_to ch tables) e = Contains-flat_map (come_in ch) tables x e (Contains-item tables at x at_x) in_table in
      let in_come : Contains (come w.lists (changed_lists w.lists ch)) e = subst (λ es. Contains es e) (sym (come-is w b ch run ordered)) in_tables in
      entry-formed w b ch run ordered at x at_x e (Contains-unfilter (λ (y : Entry). not (is_numbered_in (all_entries w.lists) y)) (all_entries (changed_lists w.lists ch)) e in_come).0 (come-table e own)

  pub come-few : sum x.name.keys ≤ 640
  come-few = few-bits w.config w.names w.lists x.name.node x (own-there w.config w.names w.cells w.lists b run.stands run.named at x at_x)

  -- the arguments of each action fit the data of each part
  pub come-holds : (e : Entry) → All (Holds x e) x.parts.items
  come-holds e =
      let fit = names-fit w.config w.names run.stands.formed run.named in
      let made = (and_parts _ _ (and_parts _ _ fit).0).1 in
      let all = All-from_test (λ (t : TableName). is_made_so w.config t ≡ true) (is_made_so w.config) (λ t h. h) w.names.tables made in
      let here = All-slice_get (λ (s : TableCells). is_made_so w.config s.name ≡ true) tables at x
      (All-unmap (λ (t : TableName). is_made_so w.config t ≡ true) (λ (s : TableCells). s.name) tables
      (subst (All (λ (t : TableName). is_made_so w.config t ≡ true)) (book-tables w.config w.names w.cells w.lists b run.stands run.named).same all)) at_x in
      let actions : has_actions w.config x.name ≡ true = (and_parts _ _ (and_parts _ _ here).0).1 in
      let parts = All-from_test (λ (p : PartAt). (eqb (length x.name.actions) p.slot.actions && list_all (λ (a : ActionName). nat_le (sum a.params) p.slot.held) x.name.actions) ≡ true)
      (λ (p : PartAt). eqb (length x.name.actions) p.slot.actions && list_all (λ (a : ActionName). nat_le (sum a.params) p.slot.held) x.name.actions) (λ p h. h) (parts_of w.config x.name.node) actions in
      λ i d lt a at_a.
      let y = get_or x.parts.items i d in
      let beside = zip-right HasShape (parts_of w.config x.name.node) x.parts.items i y
      (zip-shapes w.cells (parts_of w.config x.name.node) x.parts.items (holds-there w.config w.names w.cells w.lists b run.stands run.named at x at_x)) (slice_get-get_or x.parts.items i d lt) in
      let p = beside.0 in
      let fits = (and_parts _ _ (All-slice_get (λ (p : PartAt). (eqb (length x.name.actions) p.slot.actions && list_all (λ (a : ActionName). nat_le (sum a.params) p.slot.held) x.name.actions) ≡ true)
      (parts_of w.config x.name.node) i p parts beside.1)).1 in
      let le = leb-true (sum a.params) p.slot.held (All-slice_get (λ (a : ActionName). nat_le (sum a.params) p.slot.held ≡ true) x.name.actions e.action a
      (All-from_test (λ (a : ActionName). nat_le (sum a.params) p.slot.held ≡ true) (λ (a : ActionName). nat_le (sum a.params) p.slot.held) (λ a h. h) x.name.actions fits) at_a) in
      let held = beside.2.held in
      omega (arith, le, held)

  -- ---- one after another

  -- those that came before are of other tables
  earlier-other : (e : Entry) → Contains earlier e → e.table ≢ node
  earlier-other e there same =
      let t = from_flat_map (come_in ch) (take at tables) e there in
      let place = at_from_Contains (take at tables) t.0 t.1 in
      let own = (Contains-unfilter (λ (y : Entry). t.0.name.node == y.table) ch.come e t.2).1 in
      let k = place.0 in
      let long = length-take at tables in
      let within = place.1 in
      let less : k < at = omega (arith, long, within) in
      let at_t : slice_get tables k ≡ Some t.0 =
      slice_get-get_or tables k t.0 (omega (arith, long, within)) ∙ ap Some (sym (get_or-take at tables k t.0 less) ∙ place.2 t.0) in
      let lt = pair-at (λ (s u : TableCells). s.name.node < u.name.node) tables k at t.0 x (nodes-rising w.config w.names w.cells w.lists b run.stands run.named) less at_t at_x in
      let node_t = eqb-true t.0.name.node e.table own in
      omega (arith, lt, node_t, same)

  came-there : (ps : List Placed) (ys : List Coming) → AllZip (TakesCell w.config w.cells.seed b.odd tables) ps ys
      → All (λ (q : Placed). (s : BookSpot) × (z : IsBookSpot tables s) × (q.entry.table ≡ z.table.name.node) × (q.room ≡ room_of w.config tables s)) ps
  came-there [] [] zip = All-nil (λ (q : Placed). (s : BookSpot) × (z : IsBookSpot tables s) × (q.entry.table ≡ z.table.name.node) × (q.room ≡ room_of w.config tables s))
  came-there [] (y ∷ ys) zip = absurd zip
  came-there (p ∷ ps) [] zip = absurd zip
  came-there (p ∷ ps) (y ∷ ys) zip =
      All-cons (λ (q : Placed). (s : BookSpot) × (z : IsBookSpot tables s) × (q.entry.table ≡ z.table.name.node) × (q.room ≡ room_of w.config tables s)) p ps (y.spot, zip.0.at, zip.0.node, zip.0.room) (came-there ps ys zip.1)

  placed-entry : (es : List Entry) (ps : List Placed) → map (λ (q : Placed). q.entry) ps ≡ es → (p : Placed) → Contains ps p → Contains es p.entry
  placed-entry es ps same p there = subst (λ ys. Contains ys p.entry) same (Contains-map (λ (q : Placed). q.entry) ps p there)

  -- before the first
  pub progress-start : (xs : List Coming) (index : TableIndex) → HaveCome w b ch earlier xs → IsIndex b.odd (is_among ch.gone) x index → Progress w b ch at x 0 xs index
  progress-start xs index h is =
      let none : earlier ≡ earlier ++ [] = sym (append-nil earlier) in
      record {
        have = record { placed = h.placed; entries = h.entries ∙ none; after = ap (behind w ch) (sym none) ∙ h.after; takes = h.takes; apart = h.apart };
        stands =
            index-start w b ch run ordered at x at_x h.placed
            (λ i d lt. earlier-other (get_or h.placed i d).entry (placed-entry earlier h.placed h.entries (get_or h.placed i d) (Contains-get_or h.placed i d lt)))
            (came-there h.placed xs h.takes) index is;
      }

  module _ (k : ℕ) (xs : List Coming) (index : TableIndex) (p : Progress w b ch at x k xs index) (e : Entry) (at_e : slice_get ch.come k ≡ Some e) where
    abbrev so_far : List Entry
    so_far = earlier ++ own_of (take k ch.come)

    there-e : Contains ch.come e
    there-e = Contains-item ch.come k e at_e

    -- one of another table
    pub progress-other : (node == e.table) ≡ false → Progress w b ch at x (k + 1) xs index
    progress-other other =
        let same : own_of (take (k + 1) ch.come) ≡ own_of (take k ch.come) =
        ap own_of (take-slice_get ch.come k e at_e) ∙ filter-append (λ (y : Entry). node == y.table) (take k ch.come) (e ∷ []) ∙ ap (λ t. own_of (take k ch.come) ++ cond t (e ∷ []) []) other ∙ append-nil (own_of (take k ch.come)) in
        let all : so_far ≡ earlier ++ own_of (take (k + 1) ch.come) = ap (λ es. earlier ++ es) (sym same) in
        record {
          have = record { placed = p.have.placed; entries = p.have.entries ∙ all; after = ap (behind w ch) (sym all) ∙ p.have.after; takes = p.have.takes; apart = p.have.apart };
          stands = p.stands;
        }

    module _ (own : (node == e.table) ≡ true) where
      table : e.table ≡ node
      table = come-table e own

      one-more : so_far ++ e ∷ [] ≡ earlier ++ own_of (take (k + 1) ch.come)
      one-more =
          append_assoc earlier (own_of (take k ch.come)) (e ∷ [])
          ∙ ap (λ es. earlier ++ es)
          (sym (ap own_of (take-slice_get ch.come k e at_e) ∙ filter-append (λ (y : Entry). node == y.table) (take k ch.come) (e ∷ []) ∙ ap (λ t. own_of (take k ch.come) ++ cond t (e ∷ []) []) own))

      fresh : All (λ (q : Placed). q.entry.table ≡ node → q.entry.number ≢ e.number) (staying w ch ++ p.have.placed)
      fresh i d lt of same =
          let q = get_or (staying w ch ++ p.have.placed) i d in
          elim (Contains-append_cases (staying w ch) p.have.placed q (Contains-get_or (staying w ch ++ p.have.placed) i d lt)) [
            | inl stays ↦ stay-new q stays same
            | inr came ↦ elim (Contains-append_cases earlier (own_of (take k ch.come)) q.entry (placed-entry so_far p.have.placed p.have.entries q came)) [
              | inl before ↦ earlier-other q.entry before of
              | inr now ↦ rise-new q.entry (Contains-unfilter (λ (y : Entry). node == y.table) (take k ch.come) q.entry now).0 same
            ]
          ]
        where
          stay-new : (q : Placed) → Contains (staying w ch) q → q.entry.number ≡ e.number → ⊥
          stay-new q stays same =
              let s = All-contains (λ (p : Placed). (s : BookSpot) × StaysAt b.odd ch.gone tables s p.entry × (p.room ≡ room_of w.config tables s)) (staying w ch) q (stay_placed w b ch run ordered).each stays in
              come-new w b ch run ordered q.entry e (record { spot = s.0; at = s.1.at; kept = s.1.kept; there = s.1.there; seen = s.1.seen; tells = s.1.tells }) there-e same

          rise-new : (y : Entry) → Contains (take k ch.come) y → y.number ≡ e.number → ⊥
          rise-new y there same =
              let place = at_from_Contains (take k ch.come) y there in
              let long = length-take k ch.come in
              let within = place.1 in
              let less : place.0 < k = omega (arith, long, within) in
              let at_y : slice_get ch.come place.0 ≡ Some y = slice_get-get_or ch.come place.0 y (omega (arith, long, within)) ∙ ap Some (sym (get_or-take k ch.come place.0 y less) ∙ place.2 y) in
              let lt = pair-at (λ (a b : Entry). a.number < b.number) ch.come place.0 k y e run.may.come_rise less at_y at_e in
              omega (arith, lt, same)

      formed : IsEntry node (terms_of_name x.name) e
      formed = come-formed e there-e own

      pub progress-may : MayGive x e index
      progress-may = may-give w b ch run ordered at x at_x (staying w ch ++ p.have.placed) e table formed fresh index p.stands

      -- one that finds no room
      pub progress-none : (spot : Option Spot) (new : TableIndex) → TakesFrom b.odd b.seed x e index new spot → MayCome b.odd at x e spot None → behind w ch (come_to ch (take (at + 1) tables)) ≡ None
      progress-none None new takes may =
          let rest = own_of (drop (k + 1) ch.come) in
          let found = come-on w b ch run ordered at x at_x (staying w ch ++ p.have.placed) e table formed fresh index new None p.stands takes in
          let all : (so_far ++ e ∷ []) ++ rest ≡ come_to ch (take (at + 1) tables) =
          ap (λ es. es ++ rest) one-more ∙ append_assoc earlier (own_of (take (k + 1) ch.come)) rest
          ∙ ap (λ es. earlier ++ es) (sym (filter-append (λ (y : Entry). node == y.table) (take (k + 1) ch.come) (drop (k + 1) ch.come)) ∙ ap own_of (take-append-drop (k + 1) ch.come))
          ∙ sym (flat-next (come_in ch) tables at x at_x) in
          ap (behind w ch) (sym all) ∙ none-behind w b ch run ordered at x at_x so_far xs p.have e table rest found
      progress-none (Some s) new takes may = absurd may

      -- one that comes
      pub progress-some : (spot : Option Spot) (c : Coming) (new : TableIndex) → TakesFrom b.odd b.seed x e index new spot → MayCome b.odd at x e spot (Some c) → Progress w b ch at x (k + 1) (xs ++ c ∷ []) new
      progress-some None c new takes may = absurd may
      progress-some (Some s) c new takes may =
          let found = come-on w b ch run ordered at x at_x (staying w ch ++ p.have.placed) e table formed fresh index new (Some s) p.stands takes in
          let more = have-more w b ch run ordered at x at_x so_far xs p.have e table formed found.0 found.1 s found.2 found.3 c may in
          let q : Placed = record { entry = e; room = found.0 } in
          record {
            have = record {
              placed = more.0.placed;
              entries = more.0.entries ∙ one-more;
              after = ap (behind w ch) (sym one-more) ∙ more.0.after;
              takes = more.0.takes;
              apart = more.0.apart;
            };
            stands = subst (λ ps. IndexStands w x ps new) (append_assoc (staying w ch) p.have.placed (q ∷ []) ∙ ap (λ ps. staying w ch ++ ps) (sym more.1)) found.4;
          }

  -- behind the last
  pub progress-end : (k : ℕ) (xs : List Coming) (index : TableIndex) → length ch.come ≤ k → Progress w b ch at x k xs index → HaveCome w b ch (come_to ch (take (at + 1) tables)) xs
  progress-end k xs index le p =
      let all : earlier ++ own_of (take k ch.come) ≡ come_to ch (take (at + 1) tables) =
      ap (λ es. earlier ++ own_of es) (take_all k ch.come le) ∙ sym (flat-next (come_in ch) tables at x at_x) in
      record { placed = p.have.placed; entries = p.have.entries ∙ all; after = ap (behind w ch) (sym all) ∙ p.have.after; takes = p.have.takes; apart = p.have.apart }

-- ---- all tables

module _ (w : Run) (b : Book) (ch : Changes) (run : IsRunOf b ch w) (ordered : All AreOrdered b.tables.items) where
  abbrev all_tables : List TableCells
  all_tables = b.tables.items

  -- before the first
  pub come-start : HaveCome w b ch [] []
  come-start = record { placed = []; entries = refl; after = ap Some (sym (append-nil (staying w ch))); takes = tt; apart = AllPairs-none (λ (x y : Coming). x.spot ≢ y.spot) }

  -- where one finds no room a cell must move
  pub place-none : (n : ℕ) → behind w ch (come_to ch (take n all_tables)) ≡ None → placed_after w.config w.names w.cells w.lists (changed_lists w.lists ch) ≡ None
  place-none n none =
      ap (behind w ch) (come-is w b ch run ordered ∙ ap (come_to ch) (sym (take-append-drop n all_tables)) ∙ flat_map-append (come_in ch) (take n all_tables) (drop n all_tables))
      ∙ fold-append (with_coming w.config w.names w.cells) (Some (staying w ch)) (come_to ch (take n all_tables)) (come_to ch (drop n all_tables))
      ∙ ap (λ o. fold (with_coming w.config w.names w.cells) o (come_to ch (drop n all_tables))) none ∙ none-comes w.config w.names w.cells (come_to ch (drop n all_tables))

  -- else all have come
  pub place-some : (n : ℕ) (xs : List Coming) → length all_tables ≤ n → HaveCome w b ch (come_to ch (take n all_tables)) xs → ArePlaced w.config w.names w.cells w.lists ch b.odd b.tables.items xs
  place-some n xs le h =
      let all : come_to ch (take n all_tables) ≡ come w.lists (changed_lists w.lists ch) = ap (come_to ch) (take_all n all_tables le) ∙ sym (come-is w b ch run ordered) in
      record {
        stay = staying w ch;
        staying = stay_placed w b ch run ordered;
        coming = h.placed;
        entries = h.entries ∙ all;
        new = λ i d lt. fresh (get_or h.placed i d) (Contains-get_or h.placed i d lt);
        takes = h.takes;
        apart = h.apart;
        placed = ap (behind w ch) (sym all) ∙ h.after;
      }
    where
      fresh : (q : Placed) → Contains h.placed q → is_numbered_in (all_entries w.lists) q.entry ≡ false
      fresh q there =
          let in_come : Contains (come_to ch (take n all_tables)) q.entry = subst (λ ys. Contains ys q.entry) h.entries (Contains-map (λ (p : Placed). p.entry) h.placed q there) in
          let t = from_flat_map (come_in ch) (take n all_tables) q.entry in_come in
          come-unnumbered w b ch run ordered q.entry (Contains-unfilter (λ (y : Entry). t.0.name.node == y.table) ch.come q.entry t.2).0
