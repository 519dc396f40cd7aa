-- How many cells change in a commit that moves none.
use Rattle.std.proofs.Common.{◌≡◌, ◌≢◌, ◌⊎◌, ℕ, suc, ◌+◌, ◌/◌, ◌%◌, ◌≤◌, ◌==◌, Bool, true, false, not, eqb, List, [], ◌∷◌, ◌++◌, length, length-append, get_or, map, Option, Some, None, refl, sym, ap, ◌∙◌, subst, inl, inr, arith}
use Rattle.std.specs.Prelude.{All, AllPairs, Contains, slice_get}
use Rattle.std.specs.Cmp.{nat_eq_equiv}
use Rattle.std.specs.BTreeMap.{values}
use Rattle.std.proofs.lemmas.Bool.{eqb-true}
use Rattle.std.proofs.lemmas.List.{length-map}
use Rattle.std.proofs.lemmas.List.Elements.{All-contains, All-head, All-tail, Contains-append_left, Contains-append_right}
use Rattle.std.proofs.lemmas.List.Kept.{AllPairs-cons}
use Rattle.std.proofs.lemmas.Bool.{ne_eqb}
use Rattle.std.proofs.lemmas.Map.Keys.{IsDistinct-from_apart}
use Rattle.std.proofs.lemmas.Map.Made.{length-le_from_is_member}
use Rattle.std.proofs.lemmas.Option.{same_Some}
use Rattle.rmt_bits.proofs.MemberLaws.{Contains-filter, Contains-flat_map, Contains-from_any, Contains-item, Contains-map, Contains-first, Contains-later, Contains-split, any_item, list_any-Contains}
use Rattle.rmt_bits.proofs.PairLaws.{AllPairs-head, AllPairs-none, AllPairs-tail}
use Rattle.rmt_bits.specs.Members.{is_among}
use Rattle.rmt_ast.specs.declared.entry.Entry.{Entry}
use Rattle.rmt_ast.specs.declared.names.Names.{Names}
use Rattle.rmt_config.specs.declared.cell_write.CellWrite.{CellWrite}
use Rattle.rmt_config.specs.declared.config.Config.{Config}
use Rattle.rmt_config.specs.Commits.{AreWrites, IsCell, Placed, settled, writes_before}
use Rattle.rmt_config.specs.Rooms.{PartAt, parts_of}
use Rattle.rmt_config.specs.RunCells.{RunCells}
use Rattle.rmt_config.proofs.CommitLaws.{writes_apart}
use Rattle.rmt_update.specs.declared.book.Book.{Book}
use Rattle.rmt_book.specs.declared.kept.Kept.{Kept}
use Rattle.rmt_update.specs.declared.book.placing.Coming.{Coming}
use Rattle.rmt_book.specs.declared.spot.BookSpot.{BookSpot}
use Rattle.rmt_book.specs.declared.table.TableCells.{TableCells}
use Rattle.rmt_lists.specs.declared.lists.Changes.{Changes}
use Rattle.rmt_book.specs.BookSpots.{kept_at}
use Rattle.rmt_update.specs.BookStands.{BookStands, IsUsed}
use Rattle.rmt_update.specs.Placing.{ArePlaced, IsBookSpot, TakesCell}
use Rattle.rmt_update.specs.Planned.{MayChange}
use Rattle.rmt_update.specs.Recent.{is_recent, recent, recent_in, recent_of}
use Rattle.rmt_book.specs.Seen.{is_seen}
use Rattle.rmt_update.specs.Turning.{left_kept}
use Rattle.rmt_update.proofs.CellsFound.{found, kept-is, one-spot, spot-part}
use Rattle.rmt_update.proofs.DifferLaws.{bits-same}
use Rattle.rmt_update.proofs.KeptContent.{content-is, kept_content, kept_number, number-is}
use Rattle.rmt_update.proofs.NextNumbers.{new, entry-comes, old-used, same-cell}
use Rattle.rmt_update.proofs.PairsTold.{there-cell}
use Rattle.rmt_update.proofs.SettledKept.{kept-next, left-stays, next_at, old-kept}
use Rattle.rmt_update.proofs.SettledPlaces.{come-or-not, none-come}
use Rattle.rmt_pack.proofs.FindLaws.{all_at}

module _ (c : Config) (names : Names) (cells : RunCells) (lists : List (List Entry)) (ch : Changes) (b : Book) (xs : List Coming) (stands : BookStands c cells lists b) (named : c.names ≡ Some names)
    (may : MayChange c names cells lists ch) (placed : ArePlaced c names cells lists ch b.odd b.tables.items xs) where
  abbrev next : RunCells
  next = settled c names cells lists (placed.stay ++ placed.coming)

  -- the numbers of entries that were lately changed, that go, and that come
  abbrev all_numbers : List ℕ
  all_numbers = map (λ (k : Kept). k.number) (recent b.tables.items) ++ (ch.gone ++ map (λ (x : Coming). x.kept.number) xs)

  -- the number of the entry by which a cell changes: one that comes, or that was there
  data Says (s : BookSpot) (n : ℕ) : Type 0 where
    came : (i : ℕ) (q : Placed) (x : Coming) → slice_get placed.coming i ≡ Some q → slice_get xs i ≡ Some x → TakesCell c cells.seed b.odd b.tables.items q x → x.spot ≡ s → n ≡ x.kept.number → Says s n
    was : (j : Kept) → kept_at b.tables.items s ≡ Some j → n ≡ j.number → Says s n

  -- it is of one cell
  one-says : (s z : BookSpot) (at : IsBookSpot b.tables.items s) (az : IsBookSpot b.tables.items z) (n m : ℕ) → Says s n → Says z m → n ≡ m → s ≡ z
  one-says s z at az n m (was j is num) (was k is2 num2) same =
      let one = old-used c names cells lists ch b xs stands named may placed s at j is in
      let two = old-used c names cells lists ch b xs stands named may placed z az k is2 in
      let cell = stands.numbers _ _ _ _ _ _ one.0 two.0 (one.1 ∙ sym num ∙ same ∙ num2 ∙ sym two.1) in
      one-spot c cells lists b stands s z at az cell.0 cell.1 cell.2
  one-says s z at az n m (was j is num) (came i q x there kept takes spot num2) same =
      let one = old-used c names cells lists ch b xs stands named may placed s at j is in
      let number : x.kept.number ≡ q.entry.number = ap (λ (e : Entry). e.number) takes.keeps.told in
      absurd (All-contains (λ (e : Entry). (k place n : ℕ) → IsUsed c cells k place n → cells.number k place n ≢ e.number) ch.come q.entry may.come_new
      (entry-comes c names cells lists ch b xs stands named may placed q (Contains-item placed.coming i q there)) _ _ _ one.0 (one.1 ∙ sym num ∙ same ∙ num2 ∙ number))
  one-says s z at az n m (came i q x there kept takes spot num) (was j is num2) same =
      let one = old-used c names cells lists ch b xs stands named may placed z az j is in
      let number : x.kept.number ≡ q.entry.number = ap (λ (e : Entry). e.number) takes.keeps.told in
      absurd (All-contains (λ (e : Entry). (k place n : ℕ) → IsUsed c cells k place n → cells.number k place n ≢ e.number) ch.come q.entry may.come_new
      (entry-comes c names cells lists ch b xs stands named may placed q (Contains-item placed.coming i q there)) _ _ _ one.0 (one.1 ∙ sym num2 ∙ sym same ∙ num ∙ number))
  one-says s z at az n m (came i q x there kept takes spot num) (came l r y there2 kept2 takes2 spot2 num2) same =
      let cell = same-cell c names cells lists ch b xs stands named may placed s z at az x.kept y.kept (new i q x there kept takes spot refl) (new l r y there2 kept2 takes2 spot2 refl) (sym num ∙ same ∙ num2) in
      one-spot c cells lists b stands s z at az cell.0 cell.1 cell.2

  -- ---- why a cell changes

  record IsCause (w : CellWrite) : Type 0 where
    s : BookSpot
    at : IsBookSpot b.tables.items s
    stage : (spot-part c cells lists b stands s at).part.stage ≡ w.stage
    place : (spot-part c cells lists b stands s at).part.place ≡ w.unit
    cell : s.at.cell ≡ w.cell
    n : ℕ
    says : Says s n
    there : Contains all_numbers n

  abbrev Changes_at : ℕ → ℕ → ℕ → Type 0
  Changes_at k place n = (cells.content k place n ≢ next.content k place n) ⊎ (cells.number k place n ≢ next.number k place n)

  module _ (s : BookSpot) (at : IsBookSpot b.tables.items s) where
    abbrev p : PartAt
    p = (spot-part c cells lists b stands s at).part

    -- where the same is kept nothing changes
    unchanged : (o o2 : Option Kept) → kept_at b.tables.items s ≡ o → next_at c names cells lists ch b xs stands named placed s ≡ o2 → kept_content p o ≡ kept_content p o2 → kept_number o ≡ kept_number o2
        → Changes_at p.stage p.place s.at.cell → ⊥
    unchanged o o2 is is2 content number (inl differ) =
        let one = content-is cells.seed p (cells.content p.stage p.place s.at.cell) (record { cell = s.at.cell; number = cells.number p.stage p.place s.at.cell }) (kept_at b.tables.items s) (old-kept c names cells lists ch b xs stands named placed s at) in
        let two = content-is cells.seed p (next.content p.stage p.place s.at.cell) (record { cell = s.at.cell; number = next.number p.stage p.place s.at.cell }) (next_at c names cells lists ch b xs stands named placed s) (kept-next c names cells lists ch b xs stands named placed s at) in
        differ (one ∙ ap (kept_content p) is ∙ content ∙ ap (kept_content p) (sym is2) ∙ sym two)
    unchanged o o2 is is2 content number (inr differ) =
        let one = number-is cells.seed p (cells.content p.stage p.place s.at.cell) (record { cell = s.at.cell; number = cells.number p.stage p.place s.at.cell }) (kept_at b.tables.items s) (old-kept c names cells lists ch b xs stands named placed s at) in
        let two = number-is cells.seed p (next.content p.stage p.place s.at.cell) (record { cell = s.at.cell; number = next.number p.stage p.place s.at.cell }) (next_at c names cells lists ch b xs stands named placed s) (kept-next c names cells lists ch b xs stands named placed s at) in
        differ (one ∙ ap kept_number is ∙ number ∙ ap kept_number (sym is2) ∙ sym two)

    recent-there : (j : Kept) → kept_at b.tables.items s ≡ Some j → is_recent j ≡ true → Contains all_numbers j.number
    recent-there j is off =
        let got = sym (kept-is b.tables.items s at) ∙ is in
        let in_part : Contains (recent_in at.part) j = Contains-filter is_recent (values at.part.cells) j (Contains-map (λ (x : ℕ × Kept). x.1) at.part.cells.entries (s.at.cell, j) (there-cell at.part s.at.cell j got)) off in
        let in_table : Contains (recent_of at.table) j = Contains-flat_map recent_in at.table.parts.items at.part j (Contains-item at.table.parts.items s.at.part at.part at.in_parts) in_part in
        let in_all : Contains (recent b.tables.items) j = Contains-flat_map recent_of b.tables.items at.table j (Contains-item b.tables.items s.table at.table at.in_tables) in_table in
        Contains-append_left (map (λ (k : Kept). k.number) (recent b.tables.items)) (ch.gone ++ map (λ (x : Coming). x.kept.number) xs) j.number
        (Contains-map (λ (k : Kept). k.number) (recent b.tables.items) j in_all)

    gone-there : (n : ℕ) → is_among ch.gone n ≡ true → Contains all_numbers n
    gone-there n goes =
        Contains-append_right (map (λ (k : Kept). k.number) (recent b.tables.items)) (ch.gone ++ map (λ (x : Coming). x.kept.number) xs) n
        (Contains-append_left ch.gone (map (λ (x : Coming). x.kept.number) xs) n (Contains-from_any ch.gone n goes))

    come-there : (i : ℕ) (x : Coming) → slice_get xs i ≡ Some x → Contains all_numbers x.kept.number
    come-there i x kept =
        Contains-append_right (map (λ (k : Kept). k.number) (recent b.tables.items)) (ch.gone ++ map (λ (x : Coming). x.kept.number) xs) x.kept.number
        (Contains-append_right ch.gone (map (λ (x : Coming). x.kept.number) xs) x.kept.number (Contains-map (λ (x : Coming). x.kept.number) xs x (Contains-item xs i x kept)))

    why : Changes_at p.stage p.place s.at.cell → (n : ℕ) × Says s n × Contains all_numbers n
    why change = elim (come-or-not c names cells lists b stands named cells.seed b.odd s at placed.coming xs placed.takes placed.apart) [
      | inl h ↦ (h.x.kept.number, came h.i h.q h.x h.there h.kept h.takes h.spot refl, come-there h.i h.x h.kept)
      | inr h ↦ left (kept_at b.tables.items s) refl (none-come xs s (left_kept b.odd ch.gone (kept_at b.tables.items s)) h.apart) change
    ]
      where
        left : (o : Option Kept) → kept_at b.tables.items s ≡ o → next_at c names cells lists ch b xs stands named placed s ≡ left_kept b.odd ch.gone (kept_at b.tables.items s)
            → Changes_at p.stage p.place s.at.cell → (n : ℕ) × Says s n × Contains all_numbers n
        left None is nx change = absurd (unchanged None None is (nx ∙ ap (left_kept b.odd ch.gone) is) refl refl change)
        left (Some j) is nx change = by (j.visible == 3) refl (is_among ch.gone j.number) refl
          where
            three-seen : (o : Bool) → j.visible ≡ 3 → is_seen o j ≡ true
            three-seen true e = ap (λ v. eqb (v / 2 % 2) 1) e
            three-seen false e = ap (λ v. eqb (v / 1 % 2) 1) e

            by : (t : Bool) → (j.visible == 3) ≡ t → (g : Bool) → is_among ch.gone j.number ≡ g → (n : ℕ) × Says s n × Contains all_numbers n
            by false off g goes = (j.number, was j is refl, recent-there j is (ap not off))
            by true both true goes = (j.number, was j is refl, gone-there j.number goes)
            by true both false stays =
                let three = eqb-true j.visible 3 both in
                let to : left_kept b.odd ch.gone (Some j) ≡ Some (record j { visible = 3 }) = left-stays b.odd ch.gone j (three-seen b.odd three) stays in
                absurd (unchanged (Some j) (Some (record j { visible = 3 })) is (nx ∙ ap (left_kept b.odd ch.gone) is ∙ to) (bits-same p j 3 three).0 (bits-same p j 3 three).1 change)

  cause : (w : CellWrite) → IsCell c w.stage w.unit w.cell → Changes_at w.stage w.unit w.cell → IsCause w
  cause w cell change =
      let f = found c cells lists b stands w.stage w.unit w.cell cell in
      let one = spot-part c cells lists b stands f.spot f.at in
      let parts : one.part ≡ f.is.part = same_Some one.part f.is.part (sym one.in_node ∙ f.is.in_node) in
      let stage : one.part.stage ≡ w.stage = ap (λ (p : PartAt). p.stage) parts ∙ f.stage in
      let place : one.part.place ≡ w.unit = ap (λ (p : PartAt). p.place) parts ∙ f.place in
      let here : Changes_at one.part.stage one.part.place f.spot.at.cell =
      subst (λ k. Changes_at k one.part.place f.spot.at.cell) (sym stage) (subst (λ q. Changes_at w.stage q f.spot.at.cell) (sym place) (subst (λ n. Changes_at w.stage w.unit n) (sym f.cell) change)) in
      let h = why f.spot f.at here in
      record { s = f.spot; at = f.at; stage = stage; place = place; cell = f.cell; n = h.0; says = h.1; there = h.2 }

  -- ---- all changed cells

  numbers_of : (ws : List CellWrite) → All IsCause ws → List ℕ
  numbers_of [] all = []
  numbers_of (w ∷ ws) all = (All-head IsCause w ws all).n ∷ numbers_of ws (All-tail IsCause w ws all)

  from-numbers : (ws : List CellWrite) (all : All IsCause ws) (m : ℕ) → Contains (numbers_of ws all) m → (w : CellWrite) × Contains ws w × (h : IsCause w) × (h.n ≡ m)
  unfolding numbers_of
  from-numbers [] all m there = absurd (let lt = there.1 in omega (arith, lt))
  from-numbers (w ∷ ws) all m there = elim (Contains-split (All-head IsCause w ws all).n (numbers_of ws (All-tail IsCause w ws all)) m there) [
    | inl e ↦ (w, Contains-first w ws, All-head IsCause w ws all, e)
    | inr later ↦ let r = from-numbers ws (All-tail IsCause w ws all) m later in (r.0, Contains-later w ws r.0 r.1, r.2, r.3)
  ]

  numbers-count : (ws : List CellWrite) (all : All IsCause ws) → length (numbers_of ws all) ≡ length ws
  unfolding numbers_of
  numbers-count [] all = refl
  numbers-count (w ∷ ws) all = ap suc (numbers-count ws (All-tail IsCause w ws all))

  numbers-apart : (ws : List CellWrite) (all : All IsCause ws) → AllPairs (λ a b. writes_before a b ≡ true) ws → AllPairs (λ (a b : ℕ). a ≢ b) (numbers_of ws all)
  unfolding numbers_of
  numbers-apart [] all order = AllPairs-none (λ (a b : ℕ). a ≢ b)
  numbers-apart (w ∷ ws) all order =
      let own = All-head IsCause w ws all in
      AllPairs-cons (λ (a b : ℕ). a ≢ b) own.n (numbers_of ws (All-tail IsCause w ws all))
      (all_at (λ (m : ℕ). own.n ≢ m) (numbers_of ws (All-tail IsCause w ws all)) (λ m there same.
      let r = from-numbers ws (All-tail IsCause w ws all) m there in
      let before = All-contains (λ v. writes_before w v ≡ true) ws r.0 (AllPairs-head (λ a b. writes_before a b ≡ true) w ws order) r.1 in
      let cell = same-place w r.0 own r.2 (one-says own.s r.2.s own.at r.2.at own.n r.2.n own.says r.2.says (same ∙ sym r.3)) in
      writes_apart w r.0 before cell.0 cell.1 cell.2))
      (numbers-apart ws (All-tail IsCause w ws all) (AllPairs-tail (λ a b. writes_before a b ≡ true) w ws order))
    where
      same-place : (w v : CellWrite) (h : IsCause w) (g : IsCause v) → h.s ≡ g.s → (w.stage ≡ v.stage) × (w.unit ≡ v.unit) × (w.cell ≡ v.cell)
      same-place w v h g same =
          let parts = parts-one h.s g.s same h.at g.at in
          (sym h.stage ∙ ap (λ (p : PartAt). p.stage) parts ∙ g.stage, sym h.place ∙ ap (λ (p : PartAt). p.place) parts ∙ g.place, sym h.cell ∙ ap (λ (x : BookSpot). x.at.cell) same ∙ g.cell)
        where
          parts-one : (s z : BookSpot) → s ≡ z → (at : IsBookSpot b.tables.items s) (az : IsBookSpot b.tables.items z) → (spot-part c cells lists b stands s at).part ≡ (spot-part c cells lists b stands z az).part
          parts-one s z e = subst (λ (y : BookSpot). (at : IsBookSpot b.tables.items s) (az : IsBookSpot b.tables.items y) → (spot-part c cells lists b stands s at).part ≡ (spot-part c cells lists b stands y az).part) e (λ at az.
              let g = spot-part c cells lists b stands s at in
              let h = spot-part c cells lists b stands s az in
              let tables : at.table ≡ az.table = same_Some at.table az.table (sym at.in_tables ∙ az.in_tables) in
              same_Some g.part h.part (sym g.in_node ∙ ap (λ (t : TableCells). slice_get (parts_of c t.name.node) s.at.part) tables ∙ h.in_node))

  pub few-change : (ws : List CellWrite) → AreWrites c cells next ws → length ws ≤ length (recent b.tables.items) + length ch.gone + length xs
  few-change ws are =
      let all : All IsCause ws = λ k d lt. cause (get_or ws k d) (are.cells_are k d lt) (are.change k d lt) in
      let ns = numbers_of ws all in
      let pairs = numbers-apart ws all are.in_order in
      let few = length-le_from_is_member nat_eq_equiv ns all_numbers (IsDistinct-from_apart eqb ns (λ i j d lt l. ne_eqb _ _ (pairs i j d lt l))) (λ q h.
      let a = any_item (eqb q) ns h in
      let r = from-numbers ws all a.0 a.1 in
      list_any-Contains (eqb q) all_numbers a.0 (subst (Contains all_numbers) r.3 r.2.there) a.2) in
      let count = numbers-count ws all in
      let l = length-map (recent b.tables.items) (λ (k : Kept). k.number) in
      let m = length-append (map (λ (k : Kept). k.number) (recent b.tables.items)) (ch.gone ++ map (λ (x : Coming). x.kept.number) xs) in
      let n = length-append ch.gone (map (λ (x : Coming). x.kept.number) xs) in
      let o = length-map xs (λ (x : Coming). x.kept.number) in
      omega (arith, few, count, l, m, n, o)
