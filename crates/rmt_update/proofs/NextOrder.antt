-- The rows of a prefix or ternary table stand in their order behind a commit that moves no cell.
use Rattle.std.proofs.Common.{◌≡◌, ◌≢◌, ◌⊎◌, ℕ, ◌<◌, ◌==◌, ◌||◌, Bool, true, false, not, ◌&&◌, List, Some, refl, sym, ap, ◌∙◌, subst, inl, inr, arith}
use Rattle.std.specs.Prelude.{AllPairs, Contains, IsSome, find, nat_lt, slice_get}
use Rattle.std.specs.List.{filter_map}
use Rattle.std.specs.BTreeMap.{get}
use Rattle.std.specs.Ordering.{nat_cmp}
use Rattle.std.proofs.lemmas.Bool.{cases_lt, eq-eqb, eqb-true, false≢true, ltb-true, lt-ltb}
use Rattle.std.proofs.lemmas.Option.{same_Some}
use Rattle.rmt_ast.specs.declared.entry.Entry.{Entry}
use Rattle.rmt_ast.specs.declared.names.Names.{Names}
use Rattle.rmt_ast.specs.declared.names.TableName.{TableName}
use Rattle.rmt_ast.specs.declared.program.Kind.{Kind}
use Rattle.rmt_ast.specs.declared.program.Kind.TheVariants as kind
use Rattle.rmt_ast.specs.NameRules.{terms_named, terms_of_name}
use Rattle.rmt_ast.specs.RowOrder.{goes_first}
use Rattle.rmt_config.specs.declared.config.Config.{Config}
use Rattle.rmt_config.specs.Commits.{Placed, come, placed_now, stay}
use Rattle.rmt_config.specs.NamesForm.{each_later, has_order}
use Rattle.rmt_config.specs.Rooms.{PartAt, Room, is_before, parts_of}
use Rattle.rmt_config.specs.RunCells.{RunCells}
use Rattle.rmt_update.specs.declared.book.Book.{Book}
use Rattle.rmt_book.specs.declared.kept.Kept.{Kept}
use Rattle.rmt_update.specs.declared.book.placing.Coming.{Coming}
use Rattle.rmt_book.specs.declared.spot.BookSpot.{BookSpot}
use Rattle.rmt_book.specs.declared.table.PartCells.{PartCells}
use Rattle.rmt_book.specs.declared.table.TableCells.{TableCells}
use Rattle.rmt_lists.specs.declared.lists.Changes.{Changes}
use Rattle.rmt_book.specs.BookSpots.{kept_at}
use Rattle.rmt_update.specs.BookStands.{BookStands}
use Rattle.rmt_update.specs.Placing.{ArePlaced, IsBookSpot, room_of}
use Rattle.rmt_update.specs.Planned.{MayChange, changed_lists}
use Rattle.rmt_book.specs.Seen.{IsReadable, entries_by_part, is_seen}
use Rattle.rmt_book.specs.Told.{told_entry}
use Rattle.rmt_update.specs.Turning.{AreNext, IsLike, IsSamePart, IsSameTable}
use Rattle.rmt_bits.proofs.AllLaws.{All-slice_get}
use Rattle.rmt_bits.proofs.OptionLaws.{eqb-sym}
use Rattle.rmt_update.proofs.CellsFound.{kept-is, room-is}
use Rattle.rmt_update.proofs.KeptOrder.{AllKeep, InOrder, all-keep, keep-at}
use Rattle.rmt_update.proofs.LikeLaws.{like-of, like-seen, like-told}
use Rattle.rmt_update.proofs.NextLists.{numbers-here, stays-seen}
use Rattle.rmt_update.proofs.NextNumbers.{NextIs, new, old, next-is}
use Rattle.rmt_update.proofs.NextTables.{IsTwoParts, at-part, at-table, kept-within, own-part, spot-of, two-parts}
use Rattle.rmt_update.proofs.PairsTold.{later-pairs, pairs-later, pairs-table, table-pairs}
use Rattle.rmt_update.proofs.PartOrder.{pair-at}
use Rattle.rmt_update.proofs.PartStages.{parts-apart}
use Rattle.rmt_update.proofs.SettledKept.{next_at, table-terms}
use Rattle.rmt_update.proofs.ZipLaws.{zip-left}
use Rattle.rmt_config.proofs.LayoutLaws.{memory_formed}

-- kinds whose rows have an order
abbrev IsRows : Kind → Type 0
IsRows kind.Keyless = ⊥
IsRows kind.Exact = ⊥
IsRows kind.Prefix = Unit {0}
IsRows kind.Ternary = Unit {0}

order-of : (k : Kind) (es : List Entry) → (IsRows k → each_later (goes_first k) es ≡ true) → has_order k es ≡ true
order-of kind.Keyless es h = refl
order-of kind.Exact es h = refl
order-of kind.Prefix es h = h tt
order-of kind.Ternary es h = h tt

of-order : (k : Kind) (es : List Entry) → IsRows k → has_order k es ≡ true → each_later (goes_first k) es ≡ true
of-order kind.Keyless es rows h = absurd rows
of-order kind.Exact es rows h = absurd rows
of-order kind.Prefix es rows h = h
of-order kind.Ternary es rows h = h

-- of two entries with numbers of their own one goes first
total : (a b n m : ℕ) → n ≢ m → ((nat_lt a b || ((a == b) && nat_lt n m)) ≡ true) ⊎ ((nat_lt b a || ((b == a) && nat_lt m n)) ≡ true)
total a b n m other = elim (cases_lt a b) [
  | inl lt ↦ inl (ap (λ x. x || ((a == b) && nat_lt n m)) (lt-ltb a b lt))
  | inr ge ↦ elim (cases_lt b a) [
    | inl gt ↦ inr (ap (λ x. x || ((b == a) && nat_lt m n)) (lt-ltb b a gt))
    | inr le ↦
        let same : a ≡ b = omega (arith, ge, le) in
        elim (cases_lt n m) [
          | inl lt ↦ inl (ap (λ x. nat_lt a b || (x && nat_lt n m)) (eq-eqb a b same) ∙ ap (λ x. nat_lt a b || x) (lt-ltb n m lt) ∙ either (nat_lt a b))
          | inr up ↦ inr (ap (λ x. nat_lt b a || (x && nat_lt m n)) (eq-eqb b a (sym same)) ∙ ap (λ x. nat_lt b a || x) (lt-ltb m n (omega (arith, up, other))) ∙ either (nat_lt b a))
        ]
  ]
]
  where
    either : (x : Bool) → (x || true) ≡ true
    either true = refl
    either false = refl

goes-total : (k : Kind) (a b : Entry) → IsRows k → a.number ≢ b.number → (goes_first k a b ≡ true) ⊎ (goes_first k b a ≡ true)
goes-total kind.Keyless a b rows other = absurd rows
goes-total kind.Exact a b rows other = absurd rows
goes-total kind.Prefix a b rows other = elim (total b.rank a.rank a.number b.number other) [
  | inl h ↦ inl (ap (λ x. nat_lt b.rank a.rank || (x && nat_lt a.number b.number)) (flip a.rank b.rank) ∙ h)
  | inr h ↦ inr (ap (λ x. nat_lt a.rank b.rank || (x && nat_lt b.number a.number)) (flip b.rank a.rank) ∙ h)
]
  where
    flip : (x y : ℕ) → (x == y) ≡ (y == x)
    flip x y = eqb-sym x y
goes-total kind.Ternary a b rows other = total a.rank b.rank a.number b.number other

-- a room isn't before one that stands before it
not-before : (p q : PartAt) (n m : ℕ) → (p.stage < q.stage) ⊎ ((p ≡ q) × (n < m)) → is_before (record { part = q; cell = m }) (record { part = p; cell = n }) ≡ true → ⊥
not-before p q n m order h = by (nat_lt q.stage p.stage) refl (q.stage == p.stage) refl (nat_lt m n) refl h order
  where
    by : (a : Bool) → nat_lt q.stage p.stage ≡ a → (d : Bool) → (q.stage == p.stage) ≡ d → (e : Bool) → nat_lt m n ≡ e → (a || (d && e)) ≡ true → (p.stage < q.stage) ⊎ ((p ≡ q) × (n < m)) → ⊥
    by true a d is e cell h (inl lt) = let up = ltb-true q.stage p.stage a in omega (arith, up, lt)
    by true a d is e cell h (inr same) = let up = ltb-true q.stage p.stage a in let stages = ap (λ (x : PartAt). x.stage) same.0 in omega (arith, up, stages)
    by false a true is e cell h (inl lt) = let stages = eqb-true q.stage p.stage is in omega (arith, stages, lt)
    by false a true is true cell h (inr same) = let up = ltb-true m n cell in let lt = same.1 in omega (arith, up, lt)
    by false a true is false cell h (inr same) = false≢true h
    by false a false is e cell h order = false≢true h

module _ (c : Config) (names : Names) (cells : RunCells) (lists : List (List Entry)) (ch : Changes) (b : Book) (xs : List Coming) (stands : BookStands c cells lists b) (named : c.names ≡ Some names)
    (may : MayChange c names cells lists ch) (placed : ArePlaced c names cells lists ch b.odd b.tables.items xs) (us : List TableCells) (next : AreNext b.odd ch.gone xs b.tables.items us) where
  abbrev ts : List TableCells
  ts = b.tables.items

  keep : AllKeep c names cells placed.stay placed.coming
  keep = all-keep c names cells (come lists (changed_lists lists ch)) (filter_map (placed_now c names cells) (stay lists (changed_lists lists ch))) placed.stay placed.coming placed.placed placed.entries

  -- where an entry that the next version sees has its room
  data Stands (s : BookSpot) (e : Entry) (k : Kept) : Type 0 where
    stays : (j : Kept) → kept_at ts s ≡ Some j → is_seen b.odd j ≡ true → k ≡ record j { visible = 3 } → Contains placed.stay (record { entry = e; room = room_of c ts s }) → Stands s e k
    comes : (i : ℕ) (q : Placed) → slice_get placed.coming i ≡ Some q → q ≡ record { entry = e; room = room_of c ts s } → Stands s e k

  stand : (s : BookSpot) (at : IsBookSpot ts s) (k : Kept) → NextIs c names cells lists ch b xs stands named may placed s k → is_seen (not b.odd) k ≡ true → Stands s (told_entry at.table.name at.part.first k) k
  stand s at k (new i q x there kept takes spot is) seen = by x.spot takes.at spot (sym (ap (told_entry at.table.name at.part.first) is)) takes.keeps.told takes.room
    where
      by : (z : BookSpot) (a : IsBookSpot ts z) → z ≡ s → told_entry at.table.name at.part.first x.kept ≡ told_entry at.table.name at.part.first k → told_entry a.table.name a.part.first x.kept ≡ q.entry → q.room ≡ room_of c ts z
          → Stands s (told_entry at.table.name at.part.first k) k
      by z a same = subst (λ (y : BookSpot). (a : IsBookSpot ts y) → told_entry at.table.name at.part.first x.kept ≡ told_entry at.table.name at.part.first k → told_entry a.table.name a.part.first x.kept ≡ q.entry → q.room ≡ room_of c ts y
          → Stands s (told_entry at.table.name at.part.first k) k) (sym same) here a
        where
          here : (a : IsBookSpot ts s) → told_entry at.table.name at.part.first x.kept ≡ told_entry at.table.name at.part.first k → told_entry a.table.name a.part.first x.kept ≡ q.entry → q.room ≡ room_of c ts s
              → Stands s (told_entry at.table.name at.part.first k) k
          here a own told room =
              let tables : a.table ≡ at.table = same_Some a.table at.table (sym a.in_tables ∙ at.in_tables) in
              let parts : a.part ≡ at.part = same_Some a.part at.part (sym a.in_parts ∙ ap (λ (t : TableCells). slice_get t.parts.items s.at.part) tables ∙ at.in_parts) in
              let entry : q.entry ≡ told_entry at.table.name at.part.first k =
              sym told ∙ ap (λ (t : TableCells). told_entry t.name a.part.first x.kept) tables ∙ ap (λ (p : PartCells). told_entry at.table.name p.first x.kept) parts ∙ own in
              comes i q there (ap (λ (e : Entry). record { entry = e; room = q.room }) entry ∙ ap (λ (r : Room). record { entry = told_entry at.table.name at.part.first k; room = r }) room)
  stand s at k (old j is left num) seen =
      let h = stays-seen b.odd ch.gone j k left seen in
      stays j is h.0 h.2
      (subst (λ (i : Kept). Contains placed.stay (record { entry = told_entry at.table.name at.part.first i; room = room_of c ts s })) (sym h.2)
      (placed.staying.all s (told_entry at.table.name at.part.first j) (record { at = at; kept = j; there = sym (kept-is ts s at) ∙ is; seen = h.0; stays = h.1; tells = refl })))

  -- entries of one table
  module _ (i : ℕ) (t u : TableCells) (at_t : slice_get ts i ≡ Some t) (at_u : slice_get us i ≡ Some u) (same : IsSameTable t u) (found : find (λ (x : TableCells). x.name.node == t.name.node) ts ≡ Some t) where
    -- a cell that the next version sees
    record IsNextCell (j n : ℕ) (y : PartCells) (k : Kept) : Type 0 where
      d : IsTwoParts c names cells lists ch b xs stands named placed us next i j u y
      at : IsBookSpot ts (record { table = i; at = record { part = j; cell = n } })
      kept : Kept
      like : IsLike k kept
      is : NextIs c names cells lists ch b xs stands named may placed (record { table = i; at = record { part = j; cell = n } }) kept
      entry : told_entry at.table.name at.part.first kept ≡ told_entry u.name y.first k
      room : room_of c ts (record { table = i; at = record { part = j; cell = n } }) ≡ record { part = d.p; cell = n }

    next-cell : (j n : ℕ) (y : PartCells) (k : Kept) → slice_get u.parts.items j ≡ Some y → get nat_cmp y.cells n ≡ Some k → IsNextCell j n y k
    next-cell j n y k at_y got =
        let s : BookSpot = record { table = i; at = record { part = j; cell = n } } in
        let d = two-parts c names cells lists ch b xs stands named placed us next i j u y at_u at_y in
        let at = spot-of c names cells lists ch b xs stands named placed us next i j n u y d (kept-within c names cells lists ch b xs stands named placed us next i j n u y d (subst IsSome (sym got) refl)) in
        let h = like-of (get nat_cmp y.cells n) (next_at c names cells lists ch b xs stands named placed s) k (d.each n) got in
        record {
          d = d;
          at = at;
          kept = h.0;
          like = h.2;
          is = next-is c names cells lists ch b xs stands named may placed s at h.0 h.1;
          entry = ap (λ (x : TableCells). told_entry x.name at.part.first h.0) (at-table c names cells lists ch b xs stands named placed us next i j n u y d at)
              ∙ ap (λ (x : PartCells). told_entry d.t.name x.first h.0) (at-part c names cells lists ch b xs stands named placed us next i j n u y d at) ∙ ap (λ (x : TableName). told_entry x d.x.first h.0) (sym d.name) ∙ ap (λ f. told_entry u.name f h.0) (sym d.same.first) ∙ sym (like-told u.name y.first k h.0 h.2);
          room = room-is c cells lists b stands s at ∙ ap (λ (p : PartAt). record { part = p; cell = n }) (own-part c names cells lists ch b xs stands named placed us next i j n u y d at);
        }

    terms : terms_named names t.name.node ≡ Some (terms_of_name t.name)
    terms = table-terms c names cells lists ch b xs stands named placed i t at_t

    -- the room of the later one isn't before that of the earlier one
    rooms : (j l n m : ℕ) (y z : PartCells) (g h : Kept) (a : IsNextCell j n y g) (o : IsNextCell l m z h) → (j < l) ⊎ ((j ≡ l) × (n < m)) → is_before (record { part = o.d.p; cell = m }) (record { part = a.d.p; cell = n }) ≡ true → ⊥
    rooms j l n m y z g h a o order before = not-before a.d.p o.d.p n m (by order) before
      where
        nodes : slice_get (parts_of c t.name.node) j ≡ Some a.d.p
        nodes = ap (λ (v : TableCells). slice_get (parts_of c v.name.node) j) (same_Some t a.d.t (sym at_t ∙ a.d.in_tables)) ∙ a.d.there

        nodes2 : slice_get (parts_of c t.name.node) l ≡ Some o.d.p
        nodes2 = ap (λ (v : TableCells). slice_get (parts_of c v.name.node) l) (same_Some t o.d.t (sym at_t ∙ o.d.in_tables)) ∙ o.d.there

        by : (j < l) ⊎ ((j ≡ l) × (n < m)) → (a.d.p.stage < o.d.p.stage) ⊎ ((a.d.p ≡ o.d.p) × (n < m))
        by (inl lt) = inl (pair-at (λ (p q : PartAt). p.stage < q.stage) (parts_of c t.name.node) j l a.d.p o.d.p (parts-apart c t.name.node (memory_formed c stands.formed)) lt nodes nodes2)
        by (inr h) = inr (same_Some a.d.p o.d.p (sym nodes ∙ ap (slice_get (parts_of c t.name.node)) h.0 ∙ nodes2), h.1)

    -- two in order by their rooms are so by their ranks
    goes : (k : Kind) (rows : IsRows k) (e f : Entry) (r s : Room) → e.number ≢ f.number → (goes_first k f e ≡ true → is_before s r ≡ true) → (is_before s r ≡ true → ⊥) → goes_first k e f ≡ true
    goes k rows e f r s other keeps never = elim (goes-total k e f rows other) [
      | inl h ↦ h
      | inr h ↦ absurd (never (keeps h))
    ]

    module _ (rows : IsRows t.name.kind) where
      old-order : AllPairs (λ (x y : Entry). goes_first t.name.kind x y ≡ true) (entries_by_part b.odd t)
      old-order = later-pairs (goes_first t.name.kind) (entries_by_part b.odd t) (of-order t.name.kind (entries_by_part b.odd t) rows (All-slice_get (IsReadable b.odd) ts i t stands.readable at_t).order)

      pair : (j l n m : ℕ) (y z : PartCells) (g h : Kept) → slice_get u.parts.items j ≡ Some y → slice_get u.parts.items l ≡ Some z → get nat_cmp y.cells n ≡ Some g → get nat_cmp z.cells m ≡ Some h
          → is_seen (not b.odd) g ≡ true → is_seen (not b.odd) h ≡ true → (j < l) ⊎ ((j ≡ l) × (n < m)) → (told_entry u.name y.first g).number ≢ (told_entry u.name z.first h).number
          → goes_first t.name.kind (told_entry u.name y.first g) (told_entry u.name z.first h) ≡ true
      pair j l n m y z g h at_y at_z in_y in_z seen_g seen_h order other =
          let a = next-cell j n y g at_y in_y in
          let o = next-cell l m z h at_z in_z in
          by a o (stand (record { table = i; at = record { part = j; cell = n } }) a.at a.kept a.is (sym (like-seen (not b.odd) g a.kept a.like) ∙ seen_g)) (stand (record { table = i; at = record { part = l; cell = m } }) o.at o.kept o.is (sym (like-seen (not b.odd) h o.kept o.like) ∙ seen_h))
        where
          e : Entry
          e = told_entry u.name y.first g

          f : Entry
          f = told_entry u.name z.first h

          one-kind : (p q : Placed) (a : IsNextCell j n y g) (o : IsNextCell l m z h) → InOrder t.name.kind p q
              → ((p ≡ record { entry = e; room = record { part = a.d.p; cell = n } }) × (q ≡ record { entry = f; room = record { part = o.d.p; cell = m } }))
              ⊎ ((q ≡ record { entry = e; room = record { part = a.d.p; cell = n } }) × (p ≡ record { entry = f; room = record { part = o.d.p; cell = m } })) → goes_first t.name.kind e f ≡ true
          one-kind p q a o kept (inl same_both) =
              let is = subst (λ (x : Placed). InOrder t.name.kind x q) same_both.0 kept in
              let both = subst (λ (x : Placed). InOrder t.name.kind (record { entry = e; room = record { part = a.d.p; cell = n } }) x) same_both.1 is in
              goes t.name.kind rows e f (record { part = a.d.p; cell = n }) (record { part = o.d.p; cell = m }) other (both refl).1 (rooms j l n m y z g h a o order)
          one-kind p q a o kept (inr same_both) =
              let is = subst (λ (x : Placed). InOrder t.name.kind p x) same_both.0 kept in
              let both = subst (λ (x : Placed). InOrder t.name.kind x (record { entry = e; room = record { part = a.d.p; cell = n } })) same_both.1 is in
              goes t.name.kind rows e f (record { part = a.d.p; cell = n }) (record { part = o.d.p; cell = m }) other (both refl).0 (rooms j l n m y z g h a o order)

          as-placed : {j n : ℕ} {y : PartCells} {g : Kept} (a : IsNextCell j n y g)
              → (let r : Placed = record { entry = told_entry a.at.table.name a.at.part.first a.kept; room = room_of c ts (record { table = i; at = record { part = j; cell = n } }) } in r)
              ≡ record { entry = told_entry u.name y.first g; room = record { part = a.d.p; cell = n } }
          as-placed {j} {n} {y} {g} a =
              ap (λ (x : Entry). record { entry = x; room = room_of c ts (record { table = i; at = record { part = j; cell = n } }) }) a.entry
              ∙ ap (λ (r : Room). record { entry = told_entry u.name y.first g; room = r }) a.room

          named-as : (q : Placed) (x : Entry) (r : Room) → q ≡ record { entry = x; room = r } → x.table ≡ t.name.node → terms_named names q.entry.table ≡ Some (terms_of_name t.name)
          named-as q x r is node = ap (λ (p : Placed). terms_named names p.entry.table) is ∙ ap (terms_named names) node ∙ terms

          by : (a : IsNextCell j n y g) (o : IsNextCell l m z h) → Stands (record { table = i; at = record { part = j; cell = n } }) (told_entry a.at.table.name a.at.part.first a.kept) a.kept
              → Stands (record { table = i; at = record { part = l; cell = m } }) (told_entry o.at.table.name o.at.part.first o.kept) o.kept → goes_first t.name.kind e f ≡ true
          by a o (stays g0 was seen_g0 three_g in_stay) (stays h0 was2 seen_h0 three_h in_stay2) =
              let tables : a.d.t ≡ t = same_Some a.d.t t (sym a.d.in_tables ∙ at_t) in
              let tables2 : o.d.t ≡ t = same_Some o.d.t t (sym o.d.in_tables ∙ at_t) in
              let had = pairs-table b.odd t.name (λ (x y : Entry). goes_first t.name.kind x y ≡ true) t.parts.items
              (λ k p at_p. (let v = zip-left IsSamePart t.parts.items u.parts.items k p same.1 at_p in v.2.ordered)) old-order j l n m a.d.x o.d.x g0 h0
              (ap (λ (v : TableCells). slice_get v.parts.items j) (sym tables) ∙ a.d.in_parts) (ap (λ (v : TableCells). slice_get v.parts.items l) (sym tables2) ∙ o.d.in_parts)
              (a.d.old n ∙ was) (o.d.old m ∙ was2) seen_g0 seen_h0 order in
              let left_is : told_entry t.name a.d.x.first g0 ≡ e = ap (λ (v : TableName). told_entry v a.d.x.first g0) (sym same.0) ∙ ap (λ k. told_entry u.name k g0) (sym a.d.same.first) ∙ ap (told_entry u.name y.first) (sym three_g) ∙ sym (like-told u.name y.first g a.kept a.like) in
              let right_is : told_entry t.name o.d.x.first h0 ≡ f = ap (λ (v : TableName). told_entry v o.d.x.first h0) (sym same.0) ∙ ap (λ k. told_entry u.name k h0) (sym o.d.same.first) ∙ ap (told_entry u.name z.first) (sym three_h) ∙ sym (like-told u.name z.first h o.kept o.like) in
              subst (λ (v : Entry). goes_first t.name.kind v f ≡ true) left_is (subst (λ (v : Entry). goes_first t.name.kind (told_entry t.name a.d.x.first g0) v ≡ true) right_is had)
          by a o (stays g0 was seen_g0 three_g in_stay) (comes i2 q at_q is) =
              one-kind (record { entry = told_entry a.at.table.name a.at.part.first a.kept; room = room_of c ts (record { table = i; at = record { part = j; cell = n } }) }) q a o (keep-at c names cells placed.coming placed.stay keep i2 q (terms_of_name t.name) at_q (named-as q f (record { part = o.d.p; cell = m }) (is ∙ as-placed o) (ap (λ (n : TableName). n.node) same.0)) _ (inl in_stay))
              (inl (as-placed a, is ∙ as-placed o))
          by a o (comes i2 q at_q is) (stays h0 was2 seen_h0 three_h in_stay) =
              one-kind (record { entry = told_entry o.at.table.name o.at.part.first o.kept; room = room_of c ts (record { table = i; at = record { part = l; cell = m } }) }) q a o (keep-at c names cells placed.coming placed.stay keep i2 q (terms_of_name t.name) at_q (named-as q e (record { part = a.d.p; cell = n }) (is ∙ as-placed a) (ap (λ (n : TableName). n.node) same.0)) _ (inl in_stay))
              (inr (is ∙ as-placed a, as-placed o))
          by a o (comes i2 q at_q is) (comes i3 r at_r is2) = elim (cases_lt i2 i3) [
            | inl lt ↦
                one-kind q r a o (keep-at c names cells placed.coming placed.stay keep i3 r (terms_of_name t.name) at_r (named-as r f (record { part = o.d.p; cell = m }) (is2 ∙ as-placed o) (ap (λ (n : TableName). n.node) same.0)) q (inr (i2, lt, at_q)))
                (inl (is ∙ as-placed a, is2 ∙ as-placed o))
            | inr ge ↦ elim (cases_lt i3 i2) [
              | inl gt ↦
                  one-kind r q a o (keep-at c names cells placed.coming placed.stay keep i2 q (terms_of_name t.name) at_q (named-as q e (record { part = a.d.p; cell = n }) (is ∙ as-placed a) (ap (λ (n : TableName). n.node) same.0)) r (inr (i3, gt, at_r)))
                  (inr (is ∙ as-placed a, is2 ∙ as-placed o))
              | inr le ↦
                  let places : i2 ≡ i3 = omega (arith, ge, le) in
                  let one : q ≡ r = same_Some q r (sym at_q ∙ ap (slice_get placed.coming) places ∙ at_r) in
                  absurd (other (ap (λ (p : Placed). p.entry.number) (sym (as-placed a) ∙ sym is ∙ one ∙ is2 ∙ as-placed o)))
            ]
          ]

    -- the rows in their order
    pub order-here : has_order u.name.kind (entries_by_part (not b.odd) u) ≡ true
    order-here = order-of u.name.kind (entries_by_part (not b.odd) u) (λ rows.
        let kinds : u.name.kind ≡ t.name.kind = ap (λ (n : TableName). n.kind) same.0 in
        pairs-later (goes_first u.name.kind) (entries_by_part (not b.odd) u)
        (subst (λ k. AllPairs (λ (x y : Entry). goes_first k x y ≡ true) (entries_by_part (not b.odd) u)) (sym kinds) (all (subst IsRows kinds rows))))
      where
        all : IsRows t.name.kind → AllPairs (λ (x y : Entry). goes_first t.name.kind x y ≡ true) (entries_by_part (not b.odd) u)
        all rows =
            let own = λ (j : ℕ) (y : PartCells) (at_y : slice_get u.parts.items j ≡ Some y). (two-parts c names cells lists ch b xs stands named placed us next i j u y at_u at_y).same.still in
            let numbers = numbers-here c names cells lists ch b xs stands named may placed us next i t u at_t at_u same found in
            table-pairs (not b.odd) u.name (λ (x y : Entry). goes_first t.name.kind x y ≡ true) u.parts.items own
            (λ j l n m y z g h at_y at_z in_y in_z seen_g seen_h order.
            pair rows j l n m y z g h at_y at_z in_y in_z seen_g seen_h order (pairs-table (not b.odd) u.name (λ (x y : Entry). x.number ≢ y.number) u.parts.items own numbers j l n m y z g h at_y at_z in_y in_z seen_g seen_h order))
