-- Entries that are put into rows without a gap stand in the order of their precedence.
use Rattle.std.proofs.Common.{◌≡◌, ◌≢◌, ℕ, zero, suc, ◌+◌, ◌<◌, ◌≤◌, true, List, [], ◌∷◌, Some, sym, ap, ◌∙◌, inl, inr, arith}
use Rattle.std.specs.Prelude.{Contains, slice_get}
use Rattle.std.proofs.lemmas.Option.{none-some, same_Some}
use Rattle.rmt_ast.specs.declared.entry.Entry.{Entry}
use Rattle.rmt_ast.specs.declared.names.Names.{Names}
use Rattle.rmt_ast.specs.Changes.{list_of}
use Rattle.rmt_ast.specs.EntryLists.{AreTableEntries}
use Rattle.rmt_ast.specs.NameRules.{terms_of_name}
use Rattle.rmt_ast.specs.RowOrder.{goes_first}
use Rattle.rmt_config.specs.declared.config.Config.{Config}
use Rattle.rmt_config.specs.Rooms.{PartAt, Room, parts_of, rooms_for}
use Rattle.rmt_pack.proofs.RankLaws.{IsRowKind}
use Rattle.rmt_book.specs.declared.table.TableCells.{TableCells}
use Rattle.rmt_update.proofs.FirstLaws.{firsts, firsts-within, goes-by-count}
use Rattle.rmt_update.proofs.OncePlaced.{part-once}
use Rattle.rmt_update.proofs.PartPairs.{IsBefore}
use Rattle.rmt_update.proofs.RoomNumbers.{offset, row-at, size_of}
use Rattle.rmt_update.proofs.TableRules.{Own, row-parts, rows-suffice}

-- the rows of a part stand before those of the parts behind it
pub offset-before : (ps : List PartAt) (i j : ℕ) (p : PartAt) → slice_get ps i ≡ Some p → i < j → offset ps i + size_of p ≤ offset ps j
offset-before [] i j p at lt = absurd (none-some p at)
offset-before (q ∷ ps) zero zero p at lt = absurd (omega (arith, lt))
offset-before (q ∷ ps) zero (suc j) p at lt = let same = ap size_of (same_Some q p at) in omega (arith, same)
offset-before (q ∷ ps) (suc i) zero p at lt = absurd (omega (arith, lt))
offset-before (q ∷ ps) (suc i) (suc j) p at lt = let le = offset-before ps i j p at (omega (arith, lt)) in omega (arith, le)

module _ (c : Config) (names : Names) (seed : ℕ) (lists : List (List Entry)) (node : ℕ) (x : TableCells) (h : Own c names lists node x) (entries : AreTableEntries node (list_of lists node) (terms_of_name x.name))
    (rowed : IsRowKind x.name.kind) where
  abbrev es : List Entry
  es = list_of lists node

  -- the number of an entry's row, over all parts
  pub record RowOf (key i n : ℕ) (p : PartAt) (e : Entry) : Type 0 where
    pub within : n < size_of p
    pub number : firsts x.name.kind es e ≡ offset (parts_of c node) i + n

  pub row-of : (key i n : ℕ) (p : PartAt) (e : Entry) → Contains es e → slice_get (parts_of c node) i ≡ Some p → slice_get (rooms_for c seed node key) (firsts x.name.kind es e) ≡ Some (record { part = p; cell = n })
      → RowOf key i n p e
  row-of key i n p e there at room =
      let few = firsts-within x.name.kind es e there in
      let size = entries.within_size in
      let rows = rows-suffice c names lists node x h rowed in
      let r = row-at seed key (parts_of c node) (firsts x.name.kind es e) (row-parts c names lists node x h rowed) (omega (arith, few, size, rows)) in
      let same : record { part = r.p; cell = r.n } ≡ record { part = p; cell = n } = same_Some (record { part = r.p; cell = r.n }) (record { part = p; cell = n }) (sym r.room ∙ room) in
      let part : r.p ≡ p = ap (λ (q : Room). q.part) same in
      let cell : r.n ≡ n = ap (λ (q : Room). q.cell) same in
      let place : r.i ≡ i = part-once c node r.i i r.p p r.is.there at (ap (λ (q : PartAt). q.stage) part) (ap (λ (q : PartAt). q.place) part) in
      let sizes = ap size_of part in
      let low = r.is.within in
      record { within = omega (arith, low, cell, sizes); number = r.is.number ∙ ap (λ k. offset (parts_of c node) k + r.n) place ∙ ap (λ k. offset (parts_of c node) i + k) cell }

  pub rows-in-order : (key key2 i n j m : ℕ) (p q : PartAt) (a b : Entry) → Contains es a → Contains es b → a.number ≢ b.number → slice_get (parts_of c node) i ≡ Some p → slice_get (parts_of c node) j ≡ Some q
      → slice_get (rooms_for c seed node key) (firsts x.name.kind es a) ≡ Some (record { part = p; cell = n }) → slice_get (rooms_for c seed node key2) (firsts x.name.kind es b) ≡ Some (record { part = q; cell = m })
      → IsBefore i n j m → goes_first x.name.kind a b ≡ true
  rows-in-order key key2 i n j m p q a b in_a in_b differ at_p at_q room_a room_b before =
      let ra = row-of key i n p a in_a at_p room_a in
      let rb = row-of key2 j m q b in_b at_q room_b in
      goes-by-count x.name.kind es rowed a b in_a in_b differ (less ra rb before)
    where
      less : RowOf key i n p a → RowOf key2 j m q b → IsBefore i n j m → firsts x.name.kind es a < firsts x.name.kind es b
      less ra rb (inl lt) = let le = offset-before (parts_of c node) i j p at_p lt in let na = ra.number in let nb = rb.number in let w = ra.within in omega (arith, le, na, nb, w)
      less ra rb (inr both) =
          let na = ra.number in
          let nb = rb.number in
          let same = ap (offset (parts_of c node)) both.0 in
          let lt = both.1 in
          omega (arith, na, nb, same, lt)
