-- The tables of a book behind a commit that moves no cell hold what the commit leaves in the cells.
use Rattle.std.proofs.Common.{◌≡◌, ◌≢◌, ◌⊎◌, ℕ, zero, suc, ◌<◌, Bool, true, false, cond, List, [], ◌∷◌, ◌++◌, get_or, Option, Some, None, refl, sym, ap, ◌∙◌, subst, inl, inr, arith}
use Rattle.std.specs.Prelude.{All, Contains, IsSome, slice_get}
use Rattle.std.specs.List.{AllZip}
use Rattle.std.specs.BTreeMap.{get, keys}
use Rattle.std.specs.Cmp.{eq_by_cmp_equiv, nat_cmp_total}
use Rattle.std.specs.Ordering.{eq_by_cmp, nat_cmp}
use Rattle.std.proofs.lemmas.Bool.{false≢true}
use Rattle.std.proofs.lemmas.List.Elements.{All-contains}
use Rattle.std.proofs.lemmas.Map.Lookups.{exact_unsigned}
use Rattle.std.proofs.lemmas.Map.Views.{All-keys_from_lookup, Contains-keys_from_lookup, tells_apart}
use Rattle.std.proofs.lemmas.Option.{none-some, same_Some, slice_get-get_or}
use Rattle.rmt_bits.proofs.MemberLaws.{Contains-first, Contains-item, Contains-later}
use Rattle.rmt_bits.specs.Members.{is_among}
use Rattle.rmt_ast.specs.declared.entry.Entry.{Entry}
use Rattle.rmt_ast.specs.declared.names.Names.{Names}
use Rattle.rmt_ast.specs.declared.names.TableName.{TableName}
use Rattle.rmt_config.specs.declared.config.Config.{Config}
use Rattle.rmt_config.specs.Cells.{cells_in}
use Rattle.rmt_config.specs.Commits.{settled}
use Rattle.rmt_config.specs.Rooms.{PartAt, parts_of}
use Rattle.rmt_config.specs.RunCells.{RunCells, with_version}
use Rattle.rmt_update.specs.declared.book.Book.{Book}
use Rattle.rmt_book.specs.declared.kept.Kept.{Kept}
use Rattle.rmt_update.specs.declared.book.placing.Coming.{Coming}
use Rattle.rmt_book.specs.declared.spot.BookSpot.{BookSpot}
use Rattle.rmt_book.specs.declared.table.PartCells.{PartCells}
use Rattle.rmt_book.specs.declared.table.TableCells.{TableCells}
use Rattle.rmt_lists.specs.declared.lists.Changes.{Changes}
use Rattle.rmt_book.specs.BookSpots.{kept_at}
use Rattle.rmt_update.specs.BookStands.{BookStands, HoldsPart, HoldsTable, IsKeptOf}
use Rattle.rmt_update.specs.NextKept.{bit_of}
use Rattle.rmt_book.specs.PartShape.{IsShape}
use Rattle.rmt_update.specs.Placing.{ArePlaced, IsBookSpot, TakesCell}
use Rattle.rmt_book.specs.Seen.{is_seen}
use Rattle.rmt_update.specs.Turning.{AreLike, AreNext, IsSamePart, IsSameTable, is_spot, left_kept}
use Rattle.rmt_book.specs.Coming.{HasSizes}
use Rattle.rmt_book.specs.Kept.{HasBytes}
use Rattle.rmt_update.proofs.CellsFound.{spot-part, table-holds}
use Rattle.rmt_update.proofs.LikeLaws.{like-kept, like-some}
use Rattle.rmt_update.proofs.SameTables.{part-kept}
use Rattle.rmt_update.proofs.SettledKept.{kept-next, next_at}
use Rattle.rmt_update.proofs.SettledPlaces.{none-come, same-spot, spot-itself}
use Rattle.rmt_book.proofs.ShapeLaws.{cells-are}
use Rattle.rmt_update.proofs.BytesLaws.{come-bytes, left-bytes, like-bytes, sizes-bytes}
use Rattle.rmt_update.proofs.ZipLaws.{zip-length, zip-made, zip-right}

-- an entry comes to a cell, or none does
pub one-comes : (xs : List Coming) (s : BookSpot) → ((x : Coming) × Contains xs x × (x.spot ≡ s)) ⊎ All (λ (x : Coming). x.spot ≢ s) xs
one-comes [] s = inr (λ k d lt. absurd (omega (arith, lt)))
one-comes (x ∷ xs) s = by (is_spot x.spot s) refl (one-comes xs s)
  where
    by : (b : Bool) → is_spot x.spot s ≡ b → ((y : Coming) × Contains xs y × (y.spot ≡ s)) ⊎ All (λ (y : Coming). y.spot ≢ s) xs → ((y : Coming) × Contains (x ∷ xs) y × (y.spot ≡ s)) ⊎ All (λ (y : Coming). y.spot ≢ s) (x ∷ xs)
    by true e rest = inl (x, Contains-first x xs, same-spot x.spot s e)
    by false e (inl h) = inl (h.0, Contains-later x xs h.0 h.1, h.2)
    by false e (inr h) = inr (cons (λ is. false≢true (sym e ∙ ap (is_spot x.spot) (sym is) ∙ spot-itself x.spot)) h)
      where
        cons : x.spot ≢ s → All (λ (y : Coming). y.spot ≢ s) xs → All (λ (y : Coming). y.spot ≢ s) (x ∷ xs)
        cons here rest zero d lt = here
        cons here rest (suc k) d lt = rest k d (omega (arith, lt))

-- the entry of an item beside another list
pub beside : {X Y : Type 0} (R : X → Y → Type 0) (xs : List X) (ys : List Y) (y : Y) → AllZip R xs ys → Contains ys y → (x : X) × Contains xs x × R x y
beside R xs ys y zip there =
    let at : slice_get ys there.0 ≡ Some y = slice_get-get_or ys there.0 y there.1 ∙ ap Some there.2 in
    let h = zip-right R xs ys there.0 y zip at in
    (h.0, Contains-item xs there.0 h.0 h.1, h.2)

-- what is left was there
pub left-was : (odd : Bool) (gone : List ℕ) (o : Option Kept) (k : Kept) → left_kept odd gone o ≡ Some k → (j : Kept) × (o ≡ Some j) × (k.number ≡ j.number)
left-was odd gone None k e = absurd (none-some k e)
left-was odd gone (Some j) k e = by (is_seen odd j) e
  where
    by : (b : Bool) → cond b (Some (record j { visible = cond (is_among gone j.number) (bit_of odd) 3 })) None ≡ Some k → (i : Kept) × (Some j ≡ Some i) × (k.number ≡ i.number)
    by true h = (j, refl, ap (λ (i : Kept). i.number) (sym (same_Some _ k h)))
    by false h = absurd (none-some k h)

module _ (c : Config) (names : Names) (cells : RunCells) (lists : List (List Entry)) (ch : Changes) (b : Book) (xs : List Coming) (stands : BookStands c cells lists b) (named : c.names ≡ Some names)
    (placed : ArePlaced c names cells lists ch b.odd b.tables.items xs) (us : List TableCells) (next : AreNext b.odd ch.gone xs b.tables.items us) where
  abbrev pub next_run : RunCells
  next_run = with_version (settled c names cells lists (placed.stay ++ placed.coming)) cells.seed

  abbrev pub next_kept_at : BookSpot → Option Kept
  next_kept_at = next_at c names cells lists ch b xs stands named placed

  -- a part of the next tables, and of those before
  pub record IsTwoParts (i j : ℕ) (u : TableCells) (y : PartCells) : Type 0 where
    pub t : TableCells
    pub in_tables : slice_get b.tables.items i ≡ Some t
    pub name : u.name ≡ t.name
    pub x : PartCells
    pub in_parts : slice_get t.parts.items j ≡ Some x
    pub same : IsSamePart x y
    pub p : PartAt
    pub there : slice_get (parts_of c t.name.node) j ≡ Some p
    pub holds : HoldsPart cells p x
    pub each : (n : ℕ) → AreLike (get nat_cmp y.cells n) (next_kept_at (record { table = i; at = record { part = j; cell = n } }))
    pub old : (n : ℕ) → get nat_cmp x.cells n ≡ kept_at b.tables.items (record { table = i; at = record { part = j; cell = n } })

  pub two-parts : (i j : ℕ) (u : TableCells) (y : PartCells) → slice_get us i ≡ Some u → slice_get u.parts.items j ≡ Some y → IsTwoParts i j u y
  two-parts i j u y at_u at_y =
      let a = zip-right IsSameTable b.tables.items us i u next.same at_u in
      let d = zip-right IsSamePart a.0.parts.items u.parts.items j y a.2.1 at_y in
      let h = zip-right (HoldsPart cells) (parts_of c a.0.name.node) a.0.parts.items j d.0 (table-holds c cells lists b stands i a.0 a.1) d.1 in
      record {
        t = a.0;
        in_tables = a.1;
        name = a.2.0;
        x = d.0;
        in_parts = d.1;
        same = d.2;
        p = h.0;
        there = h.1;
        holds = h.2;
        each = λ n. subst (λ o. AreLike o (next_kept_at (record { table = i; at = record { part = j; cell = n } }))) (part-kept us i j u y n at_u at_y) (next.each (record { table = i; at = record { part = j; cell = n } }));
        old = λ n. sym (part-kept b.tables.items i j a.0 d.0 n a.1 d.1);
      }

  -- a cell of such a part
  pub spot-of : (i j n : ℕ) (u : TableCells) (y : PartCells) (h : IsTwoParts i j u y) → n < cells_in h.p.slot.memory → IsBookSpot b.tables.items (record { table = i; at = record { part = j; cell = n } })
  spot-of i j n u y h lt =
      let count = cells-are h.p.slot h.x.shape h.holds.shape in
      record { table = h.t; in_tables = h.in_tables; part = h.x; in_parts = h.in_parts; within = omega (arith, lt, count) }

  -- its table and its cells are those of the part
  pub at-table : (i j n : ℕ) (u : TableCells) (y : PartCells) (h : IsTwoParts i j u y) (at : IsBookSpot b.tables.items (record { table = i; at = record { part = j; cell = n } })) → at.table ≡ h.t
  at-table i j n u y h at = same_Some at.table h.t (sym at.in_tables ∙ h.in_tables)

  pub at-part : (i j n : ℕ) (u : TableCells) (y : PartCells) (h : IsTwoParts i j u y) (at : IsBookSpot b.tables.items (record { table = i; at = record { part = j; cell = n } })) → at.part ≡ h.x
  at-part i j n u y h at = same_Some at.part h.x (sym at.in_parts ∙ ap (λ (t : TableCells). slice_get t.parts.items j) (at-table i j n u y h at) ∙ h.in_parts)

  -- its part is that one
  pub own-part : (i j n : ℕ) (u : TableCells) (y : PartCells) (h : IsTwoParts i j u y) (at : IsBookSpot b.tables.items (record { table = i; at = record { part = j; cell = n } }))
      → (spot-part c cells lists b stands (record { table = i; at = record { part = j; cell = n } }) at).part ≡ h.p
  own-part i j n u y h at =
      let s : BookSpot = record { table = i; at = record { part = j; cell = n } } in
      let g = spot-part c cells lists b stands s at in
      let tables : at.table ≡ h.t = same_Some at.table h.t (sym at.in_tables ∙ h.in_tables) in
      same_Some g.part h.p (sym g.in_node ∙ ap (λ (t : TableCells). slice_get (parts_of c t.name.node) j) tables ∙ h.there)

  -- what is kept is kept of a cell
  pub kept-within : (i j n : ℕ) (u : TableCells) (y : PartCells) (h : IsTwoParts i j u y) → IsSome (get nat_cmp y.cells n) → n < cells_in h.p.slot.memory
  kept-within i j n u y h some = elim (one-comes xs s) [
    | inl g ↦
        let q = beside (TakesCell c cells.seed b.odd b.tables.items) placed.coming xs g.0 placed.takes g.1 in
        let at : IsBookSpot b.tables.items s = subst (IsBookSpot b.tables.items) g.2 q.2.at in
        subst (λ (p : PartAt). n < cells_in p.slot.memory) (own-part i j n u y h at) (spot-part c cells lists b stands s at).within
    | inr none ↦ was (get nat_cmp h.x.cells n) refl (subst IsSome (none-come xs s (left_kept b.odd ch.gone (kept_at b.tables.items s)) none ∙ ap (left_kept b.odd ch.gone) (sym (h.old n))) (like-some (get nat_cmp y.cells n) (next_kept_at s) (h.each n) some))
  ]
    where
      s : BookSpot
      s = record { table = i; at = record { part = j; cell = n } }

      was : (o : Option Kept) → get nat_cmp h.x.cells n ≡ o → IsSome (left_kept b.odd ch.gone o) → n < cells_in h.p.slot.memory
      was None is e = absurd (false≢true e)
      was (Some k) is e =
          All-contains (λ m. m < cells_in h.p.slot.memory) (keys h.x.cells) n h.holds.within
          (Contains-keys_from_lookup {eq = eq_by_cmp nat_cmp} (tells_apart exact_unsigned) n h.x.cells.entries (subst IsSome (sym is) refl))

  -- what is kept next of it has the bytes of its part
  bytes-next : (i j n : ℕ) (u : TableCells) (y : PartCells) (h : IsTwoParts i j u y) (k : Kept) → get nat_cmp y.cells n ≡ Some k → HasBytes h.p.slot k
  bytes-next i j n u y h =
      like-bytes h.p.slot (get nat_cmp y.cells n) (next_kept_at s) (h.each n)
      (come-bytes h.p.slot xs s (left_kept b.odd ch.gone (kept_at b.tables.items s)) comes
      (left-bytes h.p.slot b.odd ch.gone (kept_at b.tables.items s) (λ k is. h.holds.bytes n k (h.old n ∙ is))))
    where
      s : BookSpot
      s = record { table = i; at = record { part = j; cell = n } }

      own : (k : Kept) (a : IsBookSpot b.tables.items s) → HasSizes a.table.name a.part.shape.held k → HasBytes h.p.slot k
      own k a sizes =
          let g = spot-part c cells lists b stands s a in
          subst (λ (p : PartAt). HasBytes p.slot k) (own-part i j n u y h a) (sizes-bytes a.table.name g.part a.part.shape.held k g.facts.bits g.facts.kind g.holds.shape.held sizes)

      comes : (x : Coming) → Contains xs x → x.spot ≡ s → HasBytes h.p.slot x.kept
      comes x there is =
          let q = beside (TakesCell c cells.seed b.odd b.tables.items) placed.coming xs x placed.takes there in
          subst (λ (z : BookSpot). (a : IsBookSpot b.tables.items z) → HasSizes a.table.name a.part.shape.held x.kept → HasBytes h.p.slot x.kept) (sym is) (own x.kept) q.2.at q.2.sizes

  part-next : (i j : ℕ) (u : TableCells) (y : PartCells) (h : IsTwoParts i j u y) → HoldsPart next_run h.p y
  part-next i j u y h = record {
    stage = h.same.stage ∙ h.holds.stage;
    place = h.same.place ∙ h.holds.place;
    first = h.same.first ∙ h.holds.first;
    shape = subst (IsShape h.p.slot) (sym h.same.shape) h.holds.shape;
    within = All-keys_from_lookup {eq = eq_by_cmp nat_cmp} (eq_by_cmp_equiv nat_cmp_total) (λ n. n < cells_in h.p.slot.memory) y.cells.entries (λ n some. kept-within i j n u y h some);
    each = λ n lt.
        let s : BookSpot = record { table = i; at = record { part = j; cell = n } } in
        let at = spot-of i j n u y h lt in
        like-kept cells.seed h.p (next_run.content h.p.stage h.p.place n) (record { cell = n; number = next_run.number h.p.stage h.p.place n }) (get nat_cmp y.cells n) (next_kept_at s) (h.each n)
        (subst (λ (p : PartAt). IsKeptOf cells.seed p (next_run.content p.stage p.place n) (record { cell = n; number = next_run.number p.stage p.place n }) (next_kept_at s)) (own-part i j n u y h at)
        (kept-next c names cells lists ch b xs stands named placed s at));
    bytes = λ n k is. bytes-next i j n u y h k is;
  }

  pub table-next : (i : ℕ) (u : TableCells) → slice_get us i ≡ Some u → HoldsTable c next_run u
  table-next i u at_u =
      let a = zip-right IsSameTable b.tables.items us i u next.same at_u in
      let own = table-holds c cells lists b stands i a.0 a.1 in
      let nodes = ap (λ (t : TableName). t.node) a.2.0 in
      subst (λ m. AllZip (HoldsPart next_run) (parts_of c m) u.parts.items) (sym nodes)
      (zip-made (HoldsPart next_run) (parts_of c a.0.name.node) u.parts.items
      (zip-length (HoldsPart cells) (parts_of c a.0.name.node) a.0.parts.items own ∙ zip-length IsSamePart a.0.parts.items u.parts.items a.2.1)
      (λ j p y at_p at_y.
      let h = two-parts i j u y at_u at_y in
      let tables : a.0 ≡ h.t = same_Some a.0 h.t (sym a.1 ∙ h.in_tables) in
      let same : h.p ≡ p = same_Some h.p p (sym h.there ∙ ap (λ (t : TableCells). slice_get (parts_of c t.name.node) j) (sym tables) ∙ at_p) in
      subst (λ (q : PartAt). HoldsPart next_run q y) same (part-next i j u y h)))

  pub tables-next : All (HoldsTable c next_run) us
  tables-next k d lt = table-next k (get_or us k d) (slice_get-get_or us k d lt)

-- a cell with both visible bits is seen by either version
pub both-seen : (o : Bool) (k : Kept) → is_seen o (record k { visible = 3 }) ≡ true
both-seen true k = refl
both-seen false k = refl
