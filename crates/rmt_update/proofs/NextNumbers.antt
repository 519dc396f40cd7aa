-- No two cells of a book have entries of one number behind a commit that moves none.
use Rattle.std.proofs.Common.{◌≡◌, ◌≢◌, ℕ, ◌+◌, ◌<◌, ◌==◌, false, not, List, [], ◌∷◌, ◌++◌, Option, Some, None, refl, sym, ap, ◌∙◌, subst, inl, inr, arith}
use Rattle.std.specs.Prelude.{AllPairs, Contains, IsSomeAnd, filter, slice_get}
use Rattle.std.specs.List.{enumerate_from}
use Rattle.std.proofs.lemmas.Bool.{cases_lt, eq-eqb, false≢true}
use Rattle.std.proofs.lemmas.List.Elements.{All-contains, Contains-append_cases}
use Rattle.std.proofs.lemmas.List.Kept.{AllPairs-filter}
use Rattle.std.proofs.lemmas.Option.{same_Some}
use Rattle.rmt_bits.proofs.MemberLaws.{Contains-first, Contains-flat_map, Contains-item, Contains-later, Contains-map, Contains-split, Contains-unfilter, Contains-unmap, from_flat_map, list_any-Contains}
use Rattle.rmt_bits.specs.Members.{is_among}
use Rattle.rmt_ast.specs.declared.entry.Entry.{Entry}
use Rattle.rmt_ast.specs.declared.names.Names.{Names}
use Rattle.rmt_config.specs.declared.config.Config.{Config}
use Rattle.rmt_config.specs.declared.config.SlotUnit.{SlotUnit}
use Rattle.rmt_config.specs.Cells.{Content, cells_in, is_occupied}
use Rattle.rmt_config.specs.Commits.{Placed, all_entries, is_numbered_in, settled}
use Rattle.rmt_config.specs.Rooms.{PartAt, parts_of}
use Rattle.rmt_config.specs.RunCells.{RunCells, with_version}
use Rattle.rmt_update.specs.declared.book.Book.{Book}
use Rattle.rmt_book.specs.declared.kept.Kept.{Kept}
use Rattle.rmt_update.specs.declared.book.placing.Coming.{Coming}
use Rattle.rmt_book.specs.declared.spot.BookSpot.{BookSpot}
use Rattle.rmt_book.specs.declared.table.TableCells.{TableCells}
use Rattle.rmt_lists.specs.declared.lists.Changes.{Changes}
use Rattle.rmt_book.specs.BookSpots.{kept_at}
use Rattle.rmt_update.specs.BookStands.{BookStands, HaveOwnNumbers, IsKeptOf, IsUsed}
use Rattle.rmt_update.specs.Placing.{ArePlaced, IsBookSpot, TakesCell}
use Rattle.rmt_update.specs.Planned.{MayChange, changed_list, changed_lists}
use Rattle.rmt_update.specs.Turning.{left_kept}
use Rattle.rmt_update.proofs.CellsFound.{IsFound, found, spot-part}
use Rattle.rmt_update.proofs.NextTables.{left-was}
use Rattle.rmt_update.proofs.PartOrder.{pair-at}
use Rattle.rmt_update.proofs.SettledKept.{kept-next, next_at, old-kept}
use Rattle.rmt_update.proofs.SettledPlaces.{come-or-not, none-come}
use Rattle.rmt_update.proofs.ByNumberLaws.{from-by_number}
use Rattle.rmt_pack.proofs.EntryLaws.{all_numbers, AllPairs-unmap}

-- ---- numbers of which none stands twice

module _ (c : Config) (names : Names) (cells : RunCells) (lists : List (List Entry)) (ch : Changes) (b : Book) (xs : List Coming) (stands : BookStands c cells lists b) (named : c.names ≡ Some names)
    (may : MayChange c names cells lists ch) (placed : ArePlaced c names cells lists ch b.odd b.tables.items xs) where
  -- no two entries that come have one number
  coming-apart : AllPairs (λ (p q : Placed). p.entry.number ≢ q.entry.number) placed.coming
  coming-apart =
      AllPairs-unmap (λ (a b : Entry). a.number ≢ b.number) (λ (q : Placed). q.entry) placed.coming
      (subst (AllPairs (λ (a b : Entry). a.number ≢ b.number)) (sym placed.entries)
      (AllPairs-filter (λ (a b : Entry). a.number ≢ b.number) (λ e. not (is_numbered_in (all_entries lists) e)) (all_entries (changed_lists lists ch))
      (AllPairs-unmap (λ (x y : ℕ). x ≢ y) (λ (e : Entry). e.number) (all_entries (changed_lists lists ch))
      (subst (AllPairs (λ (x y : ℕ). x ≢ y)) (all_numbers (changed_lists lists ch)) may.formed.entries.numbers_once))))

  -- an entry that comes is in a list behind the changes
  pub record IsInList (e : Entry) : Type 0 where
    pub node : ℕ
    pub es : List Entry
    pub numbered : Contains (enumerate_from 0 lists) (node, es)
    pub there : Contains (changed_list ch (node, es)) e

  pub in-list : (e : Entry) → Contains (all_entries (changed_lists lists ch)) e → IsInList e
  in-list e there =
      let g = from_flat_map (λ (es : List Entry). es) (changed_lists lists ch) e there in
      let h = Contains-unmap (changed_list ch) (enumerate_from 0 lists) g.0 g.1 in
      record { node = h.0.0; es = h.0.1; numbered = h.1; there = subst (λ (es : List Entry). Contains es e) (sym h.2) g.2 }

  pub entry-behind : (q : Placed) → Contains placed.coming q → Contains (all_entries (changed_lists lists ch)) q.entry
  entry-behind q there =
      (Contains-unfilter (λ e. not (is_numbered_in (all_entries lists) e)) (all_entries (changed_lists lists ch)) q.entry
      (subst (λ (es : List Entry). Contains es q.entry) placed.entries (Contains-map (λ (p : Placed). p.entry) placed.coming q there))).0

  in-lists : (ls : List (List Entry)) (a m : ℕ) (es : List Entry) → Contains (enumerate_from a ls) (m, es) → Contains ls es
  in-lists [] a m es there = absurd (let lt = there.1 in omega (arith, lt))
  in-lists (l ∷ ls) a m es there = elim (Contains-split (a, l) (enumerate_from (a + 1) ls) (m, es) there) [
    | inl same ↦ subst (Contains (l ∷ ls)) (ap (λ (x : ℕ × List Entry). x.1) same) (Contains-first l ls)
    | inr later ↦ Contains-later l ls es (in-lists ls (a + 1) m es later)
  ]

  -- it is among those that come
  pub entry-comes : (q : Placed) → Contains placed.coming q → Contains ch.come q.entry
  entry-comes q there =
      let g = in-list q.entry (entry-behind q there) in
      let zs = from-by_number (filter (λ (e : Entry). not (is_among ch.gone e.number)) g.es ++ filter (λ (e : Entry). g.node == e.table) ch.come) q.entry g.there in
      elim (Contains-append_cases (filter (λ (e : Entry). not (is_among ch.gone e.number)) g.es) (filter (λ (e : Entry). g.node == e.table) ch.come) q.entry zs) [
        | inl old ↦
            let was = (Contains-unfilter (λ (e : Entry). not (is_among ch.gone e.number)) g.es q.entry old).0 in
            let all = Contains-flat_map (λ (es : List Entry). es) lists g.es q.entry (in-lists lists 0 g.node g.es g.numbered) was in
            absurd (false≢true (sym (All-contains (λ (p : Placed). is_numbered_in (all_entries lists) p.entry ≡ false) placed.coming q placed.new there)
            ∙ list_any-Contains (λ (o : Entry). o.number == q.entry.number) (all_entries lists) q.entry all (eq-eqb q.entry.number q.entry.number refl)))
        | inr new ↦ (Contains-unfilter (λ (e : Entry). g.node == e.table) ch.come q.entry new).0
      ]

  -- ---- cells that are used

  -- what is kept of a cell is of one that is used
  pub old-used : (s : BookSpot) (at : IsBookSpot b.tables.items s) (k : Kept) → kept_at b.tables.items s ≡ Some k
      → (let p = (spot-part c cells lists b stands s at).part in IsUsed c cells p.stage p.place s.at.cell × (cells.number p.stage p.place s.at.cell ≡ k.number))
  old-used s at k is =
      let h = spot-part c cells lists b stands s at in
      let kept = subst (IsKeptOf cells.seed h.part (cells.content h.part.stage h.part.place s.at.cell) (record { cell = s.at.cell; number = cells.number h.part.stage h.part.place s.at.cell })) is
      (old-kept c names cells lists ch b xs stands named placed s at) in
      ((subst (λ (o : Option SlotUnit). IsSomeAnd o (λ slot. s.at.cell < cells_in slot.memory)) (sym h.own.slot) h.within, kept.0), sym kept.1.number)

  -- what is kept next of a cell: an entry that comes, or what was kept
  pub data NextIs (s : BookSpot) (k : Kept) : Type 0 where
    new : (i : ℕ) (q : Placed) (x : Coming) → slice_get placed.coming i ≡ Some q → slice_get xs i ≡ Some x → TakesCell c cells.seed b.odd b.tables.items q x → x.spot ≡ s → k ≡ x.kept → NextIs s k
    old : (j : Kept) → kept_at b.tables.items s ≡ Some j → left_kept b.odd ch.gone (Some j) ≡ Some k → k.number ≡ j.number → NextIs s k

  pub next-is : (s : BookSpot) (at : IsBookSpot b.tables.items s) (k : Kept) → next_at c names cells lists ch b xs stands named placed s ≡ Some k → NextIs s k
  next-is s at k is = elim (come-or-not c names cells lists b stands named cells.seed b.odd s at placed.coming xs placed.takes placed.apart) [
    | inl h ↦ new h.i h.q h.x h.there h.kept h.takes h.spot (same_Some k h.x.kept (sym is ∙ h.comes (left_kept b.odd ch.gone (kept_at b.tables.items s))))
    | inr h ↦
        let left : left_kept b.odd ch.gone (kept_at b.tables.items s) ≡ Some k = sym (none-come xs s (left_kept b.odd ch.gone (kept_at b.tables.items s)) h.apart) ∙ is in
        let was = left-was b.odd ch.gone (kept_at b.tables.items s) k left in
        old was.0 was.1 (ap (left_kept b.odd ch.gone) (sym was.1) ∙ left) was.2
  ]

  -- two that have one number are of one cell
  pub same-cell : (s z : BookSpot) (at : IsBookSpot b.tables.items s) (az : IsBookSpot b.tables.items z) (j k : Kept) → NextIs s j → NextIs z k → j.number ≡ k.number
      → (let p = (spot-part c cells lists b stands s at).part in let q = (spot-part c cells lists b stands z az).part in (p.stage ≡ q.stage) × (p.place ≡ q.place) × (s.at.cell ≡ z.at.cell))
  same-cell s z at az j k (old o is left num) (old r is2 left2 num2) same =
      let one = old-used s at o is in
      let two = old-used z az r is2 in
      stands.numbers _ _ _ _ _ _ one.0 two.0 (one.1 ∙ sym num ∙ same ∙ num2 ∙ sym two.1)
  same-cell s z at az j k (old o is left num) (new i q x there kept takes spot comes) same =
      let one = old-used s at o is in
      let number : x.kept.number ≡ q.entry.number = ap (λ (e : Entry). e.number) takes.keeps.told in
      absurd (All-contains (λ (e : Entry). (k place n : ℕ) → IsUsed c cells k place n → cells.number k place n ≢ e.number) ch.come q.entry may.come_new (entry-comes q (Contains-item placed.coming i q there)) _ _ _ one.0
      (one.1 ∙ sym num ∙ same ∙ ap (λ (y : Kept). y.number) comes ∙ number))
  same-cell s z at az j k (new i q x there kept takes spot comes) (old r is2 left2 num2) same =
      let two = old-used z az r is2 in
      let number : x.kept.number ≡ q.entry.number = ap (λ (e : Entry). e.number) takes.keeps.told in
      absurd (All-contains (λ (e : Entry). (k place n : ℕ) → IsUsed c cells k place n → cells.number k place n ≢ e.number) ch.come q.entry may.come_new (entry-comes q (Contains-item placed.coming i q there)) _ _ _ two.0
      (two.1 ∙ sym num2 ∙ sym same ∙ ap (λ (y : Kept). y.number) comes ∙ number))
  same-cell s z at az j k (new i q x there kept takes spot comes) (new i2 q2 x2 there2 kept2 takes2 spot2 comes2) same =
      let number : x.kept.number ≡ q.entry.number = ap (λ (e : Entry). e.number) takes.keeps.told in
      let number2 : x2.kept.number ≡ q2.entry.number = ap (λ (e : Entry). e.number) takes2.keeps.told in
      let entries : q.entry.number ≡ q2.entry.number = sym number ∙ ap (λ (y : Kept). y.number) (sym comes) ∙ same ∙ ap (λ (y : Kept). y.number) comes2 ∙ number2 in
      let places : i ≡ i2 =
      (elim (cases_lt i i2) [
        | inl lt ↦ absurd (pair-at (λ (p q : Placed). p.entry.number ≢ q.entry.number) placed.coming i i2 q q2 coming-apart lt there there2 entries)
        | inr le ↦ elim (cases_lt i2 i) [
          | inl gt ↦ absurd (pair-at (λ (p q : Placed). p.entry.number ≢ q.entry.number) placed.coming i2 i q2 q coming-apart gt there2 there (sym entries))
          | inr ge ↦ omega (arith, le, ge)
        ]
      ]) in
      let comings : x ≡ x2 = same_Some x x2 (sym kept ∙ ap (slice_get xs) places ∙ kept2) in
      let spots : s ≡ z = sym spot ∙ ap (λ (y : Coming). y.spot) comings ∙ spot2 in
      one-place s z spots at az
    where
      one-place : (s z : BookSpot) → s ≡ z → (at : IsBookSpot b.tables.items s) (az : IsBookSpot b.tables.items z)
          → (let p = (spot-part c cells lists b stands s at).part in let q = (spot-part c cells lists b stands z az).part in (p.stage ≡ q.stage) × (p.place ≡ q.place) × (s.at.cell ≡ z.at.cell))
      one-place s z e = subst (λ (y : BookSpot). (at : IsBookSpot b.tables.items s) (az : IsBookSpot b.tables.items y)
          → (let p = (spot-part c cells lists b stands s at).part in let q = (spot-part c cells lists b stands y az).part in (p.stage ≡ q.stage) × (p.place ≡ q.place) × (s.at.cell ≡ y.at.cell))) e (λ at az.
          let g = spot-part c cells lists b stands s at in
          let h = spot-part c cells lists b stands s az in
          let tables : at.table ≡ az.table = same_Some at.table az.table (sym at.in_tables ∙ az.in_tables) in
          let parts : g.part ≡ h.part = same_Some g.part h.part (sym g.in_node ∙ ap (λ (t : TableCells). slice_get (parts_of c t.name.node) s.at.part) tables ∙ h.in_node) in
          (ap (λ (p : PartAt). p.stage) parts, ap (λ (p : PartAt). p.place) parts, refl))

  -- ---- the cells behind the commit

  abbrev next_run : RunCells
  next_run = with_version (settled c names cells lists (placed.stay ++ placed.coming)) cells.seed

  record NextUsed (k place n : ℕ) : Type 0 where
    f : IsFound c cells b.tables.items k place n
    kept : Kept
    is : next_at c names cells lists ch b xs stands named placed f.spot ≡ Some kept
    number : next_run.number k place n ≡ kept.number

  next-used : (k place n : ℕ) → IsUsed c next_run k place n → NextUsed k place n
  next-used k place n used =
      let f = found c cells lists b stands k place n used.0 in
      let one = spot-part c cells lists b stands f.spot f.at in
      let parts : one.part ≡ f.is.part = same_Some one.part f.is.part (sym one.in_node ∙ f.is.in_node) in
      let stage : one.part.stage ≡ k = ap (λ (p : PartAt). p.stage) parts ∙ f.stage in
      let place_is : one.part.place ≡ place = ap (λ (p : PartAt). p.place) parts ∙ f.place in
      let kept = subst (λ i. IsKeptOf cells.seed one.part (next_run.content i one.part.place f.spot.at.cell) (record { cell = f.spot.at.cell; number = next_run.number i one.part.place f.spot.at.cell }) (next_at c names cells lists ch b xs stands named placed f.spot)) stage
      (kept-next c names cells lists ch b xs stands named placed f.spot f.at) in
      let kept2 = subst (λ j. IsKeptOf cells.seed one.part (next_run.content k j f.spot.at.cell) (record { cell = f.spot.at.cell; number = next_run.number k j f.spot.at.cell }) (next_at c names cells lists ch b xs stands named placed f.spot)) place_is kept in
      let kept3 = subst (λ m. IsKeptOf cells.seed one.part (next_run.content k place m) (record { cell = m; number = next_run.number k place m }) (next_at c names cells lists ch b xs stands named placed f.spot)) f.cell kept2 in
      by f one.part (next_at c names cells lists ch b xs stands named placed f.spot) refl kept3
    where
      by : (f : IsFound c cells b.tables.items k place n) (p : PartAt) (o : Option Kept) → next_at c names cells lists ch b xs stands named placed f.spot ≡ o
          → IsKeptOf cells.seed p (next_run.content k place n) (record { cell = n; number = next_run.number k place n }) o → NextUsed k place n
      by f p None is kept = absurd (false≢true (sym (ap (λ (x : Content). is_occupied x.head) kept.0) ∙ used.1))
      by f p (Some j) is kept = record { f = f; kept = j; is = is; number = sym kept.1.number }

  pub numbers-next : HaveOwnNumbers c next_run
  numbers-next k place n k2 place2 n2 one two same =
      let u = next-used k place n one in
      let v = next-used k2 place2 n2 two in
      let h = same-cell u.f.spot v.f.spot u.f.at v.f.at u.kept v.kept (next-is u.f.spot u.f.at u.kept u.is) (next-is v.f.spot v.f.at v.kept v.is) (sym u.number ∙ same ∙ v.number) in
      let g = spot-part c cells lists b stands u.f.spot u.f.at in
      let r = spot-part c cells lists b stands v.f.spot v.f.at in
      let gp : g.part ≡ u.f.is.part = same_Some g.part u.f.is.part (sym g.in_node ∙ u.f.is.in_node) in
      let rp : r.part ≡ v.f.is.part = same_Some r.part v.f.is.part (sym r.in_node ∙ v.f.is.in_node) in (
        sym (ap (λ (p : PartAt). p.stage) gp ∙ u.f.stage) ∙ h.0 ∙ ap (λ (p : PartAt). p.stage) rp ∙ v.f.stage,
        sym (ap (λ (p : PartAt). p.place) gp ∙ u.f.place) ∙ h.1 ∙ ap (λ (p : PartAt). p.place) rp ∙ v.f.place,
        sym u.f.cell ∙ h.2 ∙ v.f.cell,
      )
