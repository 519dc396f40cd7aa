-- What is kept of each cell of a book behind a commit that moves none is what the commit leaves in the cell.
use Rattle.std.proofs.Common.{◌≡◌, ℕ, Bool, true, false, not, cond, List, ◌++◌, Option, Some, None, refl, sym, ap, ◌∙◌, subst, inl, inr}
use Rattle.std.specs.Prelude.{IsTrue, find, slice_get, sum}
use Rattle.std.proofs.lemmas.Bool.{false≢true}
use Rattle.std.proofs.lemmas.Option.{same_Some}
use Rattle.rmt_bits.proofs.AllLaws.{All-slice_get}
use Rattle.rmt_bits.specs.Members.{is_among}
use Rattle.rmt_ast.specs.declared.entry.Entry.{Entry}
use Rattle.rmt_ast.specs.declared.names.Names.{Names}
use Rattle.rmt_ast.specs.NameRules.{terms_named, terms_of_name}
use Rattle.rmt_config.specs.declared.config.Config.{Config}
use Rattle.rmt_config.specs.Commits.{Placed, all_entries, is_numbered_in, placed_at}
use Rattle.rmt_config.specs.Rooms.{PartAt, Room, is_at, key_number}
use Rattle.rmt_config.specs.LaneForm.{bits_of_lanes}
use Rattle.rmt_config.specs.NamesForm.{is_of_kind}
use Rattle.rmt_config.specs.RunCells.{RunCells}
use Rattle.rmt_update.specs.declared.book.Book.{Book}
use Rattle.rmt_book.specs.declared.kept.Kept.{Kept}
use Rattle.rmt_update.specs.declared.book.placing.Coming.{Coming}
use Rattle.rmt_book.specs.declared.spot.BookSpot.{BookSpot}
use Rattle.rmt_book.specs.declared.table.TableCells.{TableCells}
use Rattle.rmt_lists.specs.declared.lists.Changes.{Changes}
use Rattle.rmt_book.specs.BookSpots.{kept_at}
use Rattle.rmt_update.specs.BookStands.{BookStands, IsKeptOf, is_candidate}
use Rattle.rmt_book.specs.Coming.{KeepsEntry}
use Rattle.rmt_update.specs.NextKept.{bit_of, next_kept}
use Rattle.rmt_update.specs.Open.{is_kept_seen}
use Rattle.rmt_update.specs.Placing.{ArePlaced, IsBookSpot, room_of}
use Rattle.rmt_book.specs.Seen.{is_seen}
use Rattle.rmt_update.specs.Turning.{come_to, left_kept}
use Rattle.rmt_update.proofs.CellsFound.{kept-is, own_names, room-is, spot-part, table-own}
use Rattle.rmt_update.proofs.SettledCells.{Next, next-comes, next-empty, next-leaves, next-stays}
use Rattle.rmt_update.proofs.SettledPlaces.{ComesTo, come-or-not, find-back, find-front, none-come, part, stay-found, stay-none, stay-old}

-- what is left where nothing stays
pub left-leaves : (odd : Bool) (gone : List ℕ) (k : Kept) → (is_seen odd k ≡ true → is_among gone k.number ≡ false → ⊥) → next_kept odd true (Some k) ≡ left_kept odd gone (Some k)
left-leaves odd gone k never = by (is_seen odd k) refl (is_among gone k.number) refl
  where
    by : (s : Bool) → is_seen odd k ≡ s → (g : Bool) → is_among gone k.number ≡ g
        → cond s (Some (record k { visible = bit_of odd })) None ≡ cond s (Some (record k { visible = cond g (bit_of odd) 3 })) None
    by true seen true goes = refl
    by true seen false stays = absurd (never seen stays)
    by false unseen g goes = refl

-- and where it stays
pub left-stays : (odd : Bool) (gone : List ℕ) (k : Kept) → is_seen odd k ≡ true → is_among gone k.number ≡ false → left_kept odd gone (Some k) ≡ Some (record k { visible = 3 })
left-stays odd gone k seen stays =
    ap (λ s. cond s (Some (record k { visible = cond (is_among gone k.number) (bit_of odd) 3 })) None) seen ∙ ap (λ g. Some (record k { visible = cond g (bit_of odd) 3 })) stays

module _ (c : Config) (names : Names) (cells : RunCells) (lists : List (List Entry)) (ch : Changes) (b : Book) (xs : List Coming) (stands : BookStands c cells lists b) (named : c.names ≡ Some names)
    (placed : ArePlaced c names cells lists ch b.odd b.tables.items xs) where
  -- what is kept next of a cell
  abbrev pub next_at : BookSpot → Option Kept
  next_at s = come_to xs s (left_kept b.odd ch.gone (kept_at b.tables.items s))

  pub same-names : own_names c cells lists b stands ≡ names
  same-names = same_Some _ _ (sym stands.names ∙ named)

  -- the terms of a table's node
  pub table-terms : (i : ℕ) (t : TableCells) → slice_get b.tables.items i ≡ Some t → terms_named names t.name.node ≡ Some (terms_of_name t.name)
  table-terms i t at = ap (λ (ns : Names). terms_named ns t.name.node) (sym same-names) ∙ (table-own c cells lists b stands i t at).terms

  module _ (s : BookSpot) (at : IsBookSpot b.tables.items s) where
    abbrev own : PartAt
    own = part c names cells lists b stands named s at

    abbrev pub Kept_at : Option Kept → Type 0
    Kept_at o = IsKeptOf cells.seed own (cells.content own.stage own.place s.at.cell) (record { cell = s.at.cell; number = cells.number own.stage own.place s.at.cell }) o

    pub old-kept : Kept_at (kept_at b.tables.items s)
    old-kept =
        let h = spot-part c cells lists b stands s at in
        subst Kept_at (sym (kept-is b.tables.items s at)) (h.holds.each s.at.cell h.within)

    -- where no entry comes
    left-next : (o : Option Kept) → kept_at b.tables.items s ≡ o → Kept_at o → (f : Option Placed) → find (λ (q : Placed). is_at own.stage own.place s.at.cell q.room) placed.stay ≡ f
        → Next c names cells lists own (spot-part c cells lists b stands s at).own.slot b.odd stands.version s.at.cell f (left_kept b.odd ch.gone o)
    left-next o is kept (Some p) e =
        let h = stay-found c names cells lists b stands named b.odd ch.gone placed.stay placed.staying s at p e in
        let there : kept_at b.tables.items s ≡ Some h.kept = kept-is b.tables.items s h.at ∙ h.there in
        let same : o ≡ Some h.kept = sym is ∙ there in
        subst (λ q. Next c names cells lists own (spot-part c cells lists b stands s at).own.slot b.odd stands.version s.at.cell (Some p) (left_kept b.odd ch.gone q)) (sym same)
        (subst (Next c names cells lists own (spot-part c cells lists b stands s at).own.slot b.odd stands.version s.at.cell (Some p)) (sym (left-stays b.odd ch.gone h.kept h.seen h.stays))
        (next-stays c names cells lists own (spot-part c cells lists b stands s at).own.slot b.odd stands.version s.at.cell p h.kept
        (stay-old c names cells lists b stands named b.odd ch.gone placed.stay placed.staying s at p e) (subst Kept_at same kept) h.seen (ap (λ (x : Entry). x.number) h.tells)))
    left-next None is kept None e = next-empty c names cells lists own (spot-part c cells lists b stands s at).own.slot b.odd stands.version s.at.cell kept
    left-next (Some k) is kept None e =
        subst (Next c names cells lists own (spot-part c cells lists b stands s at).own.slot b.odd stands.version s.at.cell None)
        (left-leaves b.odd ch.gone k (λ seen stays.
        stay-none c names cells lists b stands named b.odd ch.gone placed.stay placed.staying s at _ e
        (record { at = at; kept = k; there = sym (kept-is b.tables.items s at) ∙ is; seen = seen; stays = stays; tells = refl })))
        (next-leaves c names cells lists own (spot-part c cells lists b stands s at).own.slot b.odd stands.version s.at.cell k kept)

    -- where one comes, none stays
    none-stays : (h : ComesTo c names cells lists b stands named cells.seed b.odd s placed.coming xs (find (λ (q : Placed). is_at own.stage own.place s.at.cell q.room) placed.coming))
        → (f : Option Placed) → find (λ (q : Placed). is_at own.stage own.place s.at.cell q.room) placed.stay ≡ f → f ≡ None
    none-stays h None e = refl
    none-stays h (Some p) e =
        let g = stay-found c names cells lists b stands named b.odd ch.gone placed.stay placed.staying s at p e in
        let there : kept_at b.tables.items s ≡ Some g.kept = kept-is b.tables.items s g.at ∙ g.there in
        let free : is_kept_seen b.odd (kept_at b.tables.items h.x.spot) ≡ false = ap (is_kept_seen b.odd) (kept-is b.tables.items h.x.spot h.takes.at) ∙ h.takes.free in
        absurd (false≢true (sym free ∙ ap (λ z. is_kept_seen b.odd (kept_at b.tables.items z)) h.spot ∙ ap (is_kept_seen b.odd) there ∙ g.seen))

    comes-next : (h : ComesTo c names cells lists b stands named cells.seed b.odd s placed.coming xs (find (λ (q : Placed). is_at own.stage own.place s.at.cell q.room) placed.coming))
        → Next c names cells lists own (spot-part c cells lists b stands s at).own.slot b.odd stands.version s.at.cell (Some h.q) (Some h.x.kept)
    comes-next h = moved h.x.spot h.takes.at h.spot h.takes.node h.takes.room h.takes.candidate h.takes.keeps
      where
        here : (a : IsBookSpot b.tables.items s) → h.q.entry.table ≡ a.table.name.node → h.q.room ≡ room_of c b.tables.items s
            → is_candidate cells.seed h.q.room.part (key_number (terms_of_name a.table.name) h.q.entry) s.at.cell ≡ true
            → KeepsEntry a.table.name a.part.first s.at.cell (bit_of (not b.odd)) h.q.entry h.x.kept
            → Next c names cells lists own (spot-part c cells lists b stands s at).own.slot b.odd stands.version s.at.cell (Some h.q) (Some h.x.kept)
        here a node room candidate keeps =
            let g = spot-part c cells lists b stands s a in
            let mine = spot-part c cells lists b stands s at in
            let in_part : h.q.room.part ≡ own = ap (λ (r : Room). r.part) (room ∙ room-is c cells lists b stands s at) in
            let other : h.q.room.part ≡ g.part = ap (λ (r : Room). r.part) (room ∙ room-is c cells lists b stands s a) in
            let parts : g.part ≡ own = sym other ∙ in_part in
            let first : a.part.first ≡ own.first = g.holds.first ∙ ap (λ (p : PartAt). p.first) parts in
            let new = All-slice_get (λ (q : Placed). is_numbered_in (all_entries lists) q.entry ≡ false) placed.coming h.i h.q placed.new h.there in
            let terms : terms_named names h.q.entry.table ≡ Some (terms_of_name a.table.name) = ap (terms_named names) node ∙ table-terms s.table a.table a.in_tables in
            next-comes c names cells lists own mine.own.slot b.odd stands.version s.at.cell h.q a.table.name h.x.kept new in_part terms
            (subst (λ (p : PartAt). sum a.table.name.keys ≡ bits_of_lanes p.slot.keys) parts g.facts.bits)
            (subst (λ (p : PartAt). IsTrue (is_of_kind a.table.name.kind p.slot.memory)) parts g.facts.kind)
            (subst (λ f. KeepsEntry a.table.name f s.at.cell (bit_of (not b.odd)) h.q.entry h.x.kept) first keeps)
            (subst (λ (p : PartAt). is_candidate cells.seed p (key_number (terms_of_name a.table.name) h.q.entry) s.at.cell ≡ true) in_part candidate)

        moved : (z : BookSpot) (a : IsBookSpot b.tables.items z) → z ≡ s → h.q.entry.table ≡ a.table.name.node → h.q.room ≡ room_of c b.tables.items z
            → is_candidate cells.seed h.q.room.part (key_number (terms_of_name a.table.name) h.q.entry) z.at.cell ≡ true
            → KeepsEntry a.table.name a.part.first z.at.cell (bit_of (not b.odd)) h.q.entry h.x.kept
            → Next c names cells lists own (spot-part c cells lists b stands s at).own.slot b.odd stands.version s.at.cell (Some h.q) (Some h.x.kept)
        moved z a same =
            subst (λ (y : BookSpot). (a : IsBookSpot b.tables.items y) → h.q.entry.table ≡ a.table.name.node → h.q.room ≡ room_of c b.tables.items y
            → is_candidate cells.seed h.q.room.part (key_number (terms_of_name a.table.name) h.q.entry) y.at.cell ≡ true
            → KeepsEntry a.table.name a.part.first y.at.cell (bit_of (not b.odd)) h.q.entry h.x.kept
            → Next c names cells lists own (spot-part c cells lists b stands s at).own.slot b.odd stands.version s.at.cell (Some h.q) (Some h.x.kept)) (sym same) here a

    -- what is kept next of a cell is what it holds then
    abbrev pub Next_at : Option Placed → Option Kept → Type 0
    Next_at = Next c names cells lists own (spot-part c cells lists b stands s at).own.slot b.odd stands.version s.at.cell

    pub kept-next : Next_at (placed_at (placed.stay ++ placed.coming) own.stage own.place s.at.cell) (next_at s)
    kept-next = elim (come-or-not c names cells lists b stands named cells.seed b.odd s at placed.coming xs placed.takes placed.apart) [
      | inl h ↦
          subst (λ f. Next_at f (next_at s))
          (sym (find-back (λ (q : Placed). is_at own.stage own.place s.at.cell q.room) placed.stay placed.coming
          (none-stays h (find (λ (q : Placed). is_at own.stage own.place s.at.cell q.room) placed.stay) refl) ∙ h.is))
          (subst (Next_at (Some h.q)) (sym (h.comes (left_kept b.odd ch.gone (kept_at b.tables.items s)))) (comes-next h))
      | inr h ↦
          subst (λ o. Next_at (placed_at (placed.stay ++ placed.coming) own.stage own.place s.at.cell) o) (sym (none-come xs s (left_kept b.odd ch.gone (kept_at b.tables.items s)) h.apart))
          (by h.none (find (λ (q : Placed). is_at own.stage own.place s.at.cell q.room) placed.stay) refl)
    ]
      where
        by : find (λ (q : Placed). is_at own.stage own.place s.at.cell q.room) placed.coming ≡ None → (f : Option Placed) → find (λ (q : Placed). is_at own.stage own.place s.at.cell q.room) placed.stay ≡ f
            → Next_at (placed_at (placed.stay ++ placed.coming) own.stage own.place s.at.cell) (left_kept b.odd ch.gone (kept_at b.tables.items s))
        by none (Some p) e =
            subst (λ f. Next_at f (left_kept b.odd ch.gone (kept_at b.tables.items s))) (sym (find-front (λ (q : Placed). is_at own.stage own.place s.at.cell q.room) placed.stay placed.coming p e))
            (left-next (kept_at b.tables.items s) refl old-kept (Some p) e)
        by none None e =
            subst (λ f. Next_at f (left_kept b.odd ch.gone (kept_at b.tables.items s))) (sym (find-back (λ (q : Placed). is_at own.stage own.place s.at.cell q.room) placed.stay placed.coming e ∙ none))
            (left-next (kept_at b.tables.items s) refl old-kept None e)
