-- The tables of a book behind a commit that moves no cell: entries came to their cells, and the changed cells turned.
use Rattle.std.proofs.Common.{◌≡◌, ◌≢◌, ◌⊎◌, ℕ, zero, suc, Bool, true, false, ◌==◌, cond, List, [], ◌∷◌, map, Option, Some, None, Vec, option_map, refl, sym, ap, ◌∙◌, subst, inl, inr, arith}
use Rattle.std.specs.Prelude.{All, AllPairs, Contains, find, option_and_then, slice_get, zip}
use Rattle.std.specs.Global.{Global}
use Rattle.std.specs.List.{AllZip}
use Rattle.std.specs.List.Sorted.{IsStrictlySortedBy}
use Rattle.std.specs.BTreeMap.{IsOrdered, get}
use Rattle.std.specs.Cmp.{eq_by_cmp_equiv}
use Rattle.std.specs.Map.{keys_of}
use Rattle.std.specs.Ordering.{eq_by_cmp, nat_cmp}
use Rattle.std.proofs.lemmas.Bool.{eqb-true, false_from_ne_true}
use Rattle.std.proofs.lemmas.List.Elements.{All-contains, All-head, All-map, All-tail, Contains-append_cases}
use Rattle.std.proofs.lemmas.Map.Keys.{IsDistinct-from_sorted}
use Rattle.std.proofs.lemmas.Map.Views.{Contains-from_lookup, lookup-from_Contains, tells_apart}
use Rattle.std.proofs.lemmas.Option.{none-some, same_Some}
use Rattle.rmt_bits.proofs.ListLaws.{AllZip-slice_get}
use Rattle.rmt_bits.proofs.MemberLaws.{Contains-first, Contains-flat_map, Contains-item, Contains-later, Contains-split}
use Rattle.rmt_bits.specs.Members.{is_among}
use Rattle.rmt_config.specs.declared.cell_write.CellWrite.{CellWrite}
use Rattle.rmt_config.specs.Commits.{writes_before}
use Rattle.rmt_config.specs.RunCells.{is_changed}
use Rattle.rmt_update.specs.declared.book.changing.CellChange.{CellChange}
use Rattle.rmt_book.specs.declared.kept.Kept.{Kept}
use Rattle.rmt_update.specs.declared.book.placing.Coming.{Coming}
use Rattle.rmt_book.specs.declared.shape.PartShape.{PartShape}
use Rattle.rmt_book.specs.declared.spot.BookSpot.{BookSpot}
use Rattle.rmt_book.specs.declared.table.PartCells.{PartCells}
use Rattle.rmt_book.specs.declared.table.TableCells.{TableCells}
use Rattle.rmt_update.specs.declared.book.turning.Turn.{Turn}
use Rattle.rmt_update.specs.declared.book.turning.Turn.TheVariants.{Empty, Holds, Shows}
use Rattle.rmt_book.specs.BookSpots.{kept_at}
use Rattle.rmt_update.specs.Changing.{ChangeKey, change_key, key_cmp}
use Rattle.rmt_update.specs.Come.{AreOrdered}
use Rattle.rmt_book.specs.Coming.{empty_write, kept_write}
use Rattle.rmt_update.specs.Differences.{AreDifferences, Changes, Goal, IsGoal, all_pairs, change_at, change_by, change_in, is_exact, is_same_kept, pairs_of, write_at}
use Rattle.rmt_update.specs.NextKept.{bit_of}
use Rattle.rmt_book.specs.Seen.{is_seen}
use Rattle.rmt_update.specs.TurnWrites.{AreChanged, HaveOwnSlots, IsFresh, IsOfTables, cell_turn, change_to, key_in, turn_of}
use Rattle.rmt_update.specs.Turning.{AreLike, AreNext, HaveCells, IsSamePart, IsSameTable, IsStill, IsStillTable, come_to, is_spot, left_kept, part_of, turned, turned_by}
use Rattle.rmt_update.proofs.KeyedLaws.{IsKeyed, key-exact, key-total, keyed-found, keyed-order}
use Rattle.rmt_update.proofs.LikeLaws.{alike-itself}
use Rattle.rmt_update.proofs.PutChanges.{zip-at}
use Rattle.rmt_update.proofs.SettledPlaces.{same-spot, spot-itself}
use Rattle.rmt_update.proofs.TurnWriteLaws.{kept-nowhere, kept-part, one-key, same-bits}
use Rattle.rmt_update.proofs.ZipLaws.{zip-left}
use Rattle.rmt_pack.proofs.FindLaws.{all_at}

-- what is kept of a cell has its number
abbrev pub HaveOwnCells : List TableCells → Type 0
HaveOwnCells ts = (s : BookSpot) (k : Kept) → kept_at ts s ≡ Some k → k.cell ≡ s.at.cell

-- ---- one spot

-- an entry comes to a spot, whatever was there, or none does
data ComeOr (come : List Coming) (s : BookSpot) : Type 0 where
  comes : (x : Coming) → Contains come x → ((o : Option Kept) → come_to come s o ≡ Some x.kept) → ComeOr come s
  none : ((o : Option Kept) → come_to come s o ≡ o) → ComeOr come s

come-or : (come : List Coming) (s : BookSpot) → ComeOr come s
come-or [] s = none (λ o. refl)
come-or (x ∷ xs) s = by (is_spot x.spot s) refl (come-or xs s)
  where
    by : (b : Bool) → is_spot x.spot s ≡ b → ComeOr xs s → ComeOr (x ∷ xs) s
    by b e (comes y there is) = comes y (Contains-later x xs y there) (λ o. is (cond (is_spot x.spot s) (Some x.kept) o))
    by true e (none is) = comes x (Contains-first x xs) (λ o. is (cond (is_spot x.spot s) (Some x.kept) o) ∙ ap (λ b. cond b (Some x.kept) o) e)
    by false e (none is) = none (λ o. is (cond (is_spot x.spot s) (Some x.kept) o) ∙ ap (λ b. cond b (Some x.kept) o) e)

-- a turn twice is a turn
twice : (t : Turn) (o : Option Kept) → turned_by t (turned_by t o) ≡ turned_by t o
twice Empty o = refl
twice (Shows v) None = refl
twice (Shows v) (Some k) = refl
twice (Holds k) None = refl
twice (Holds k) (Some j) = refl

module _ (s : BookSpot) (o : Option Kept) where
  abbrev Turns_to : Turn → List (ChangeKey × CellChange) → Type 0
  Turns_to t es = All (λ (e : ChangeKey × CellChange). is_spot e.1.spot s ≡ true → turn_of e.1.write.visible ≡ t) es

  -- where no changed cell stands nothing turns
  pub none-turn : (es : List (ChangeKey × CellChange)) → All (λ (e : ChangeKey × CellChange). is_spot e.1.spot s ≡ false) es → turned (map cell_turn es) s o ≡ o
  none-turn [] all = refl
  none-turn (e ∷ es) all =
      ap (λ b. cond b (turned_by (turn_of e.1.write.visible) (turned (map cell_turn es) s o)) (turned (map cell_turn es) s o)) (All-head (λ (d : ChangeKey × CellChange). is_spot d.1.spot s ≡ false) e es all)
      ∙ none-turn es (All-tail (λ (d : ChangeKey × CellChange). is_spot d.1.spot s ≡ false) e es all)

  may-turn : (t : Turn) (es : List (ChangeKey × CellChange)) → Turns_to t es → (turned (map cell_turn es) s o ≡ o) ⊎ (turned (map cell_turn es) s o ≡ turned_by t o)
  may-turn t [] all = inl refl
  may-turn t (e ∷ es) all =
      by (is_spot e.1.spot s) refl (may-turn t es (All-tail (λ (d : ChangeKey × CellChange). is_spot d.1.spot s ≡ true → turn_of d.1.write.visible ≡ t) e es all))
    where
      rest : Option Kept
      rest = turned (map cell_turn es) s o

      by : (b : Bool) → is_spot e.1.spot s ≡ b → (turned (map cell_turn es) s o ≡ o) ⊎ (turned (map cell_turn es) s o ≡ turned_by t o)
          → (turned (map cell_turn (e ∷ es)) s o ≡ o) ⊎ (turned (map cell_turn (e ∷ es)) s o ≡ turned_by t o)
      by false is h = elim h [
        | inl a ↦ inl (ap (λ b. cond b (turned_by (turn_of e.1.write.visible) (turned (map cell_turn es) s o)) (turned (map cell_turn es) s o)) is ∙ a)
        | inr a ↦ inr (ap (λ b. cond b (turned_by (turn_of e.1.write.visible) (turned (map cell_turn es) s o)) (turned (map cell_turn es) s o)) is ∙ a)
      ]
      by true is h =
          let here : turned (map cell_turn (e ∷ es)) s o ≡ turned_by t (turned (map cell_turn es) s o) =
          ap (λ b. cond b (turned_by (turn_of e.1.write.visible) (turned (map cell_turn es) s o)) (turned (map cell_turn es) s o)) is
          ∙ ap (λ u. turned_by u (turned (map cell_turn es) s o)) (All-head (λ (d : ChangeKey × CellChange). is_spot d.1.spot s ≡ true → turn_of d.1.write.visible ≡ t) e es all is) in
          elim h [
            | inl a ↦ inr (here ∙ ap (turned_by t) a)
            | inr a ↦ inr (here ∙ ap (turned_by t) a ∙ twice t o)
          ]

  -- where one stands it does
  one-turns : (t : Turn) (es : List (ChangeKey × CellChange)) → Turns_to t es → (x : ChangeKey × CellChange) → Contains es x → is_spot x.1.spot s ≡ true → turned (map cell_turn es) s o ≡ turned_by t o
  one-turns t [] all x there here = absurd (let lt = there.1 in omega (arith, lt))
  one-turns t (e ∷ es) all x there here =
      elim (Contains-split e es x there) [
        | inl same ↦ first (ap (λ (d : ChangeKey × CellChange). is_spot d.1.spot s) same ∙ here)
        | inr later ↦ by (is_spot e.1.spot s) refl (one-turns t es (All-tail (λ (d : ChangeKey × CellChange). is_spot d.1.spot s ≡ true → turn_of d.1.write.visible ≡ t) e es all) x later here)
      ]
    where
      made : is_spot e.1.spot s ≡ true → turned (map cell_turn (e ∷ es)) s o ≡ turned_by t (turned (map cell_turn es) s o)
      made is =
          ap (λ b. cond b (turned_by (turn_of e.1.write.visible) (turned (map cell_turn es) s o)) (turned (map cell_turn es) s o)) is
          ∙ ap (λ u. turned_by u (turned (map cell_turn es) s o)) (All-head (λ (d : ChangeKey × CellChange). is_spot d.1.spot s ≡ true → turn_of d.1.write.visible ≡ t) e es all is)

      first : is_spot e.1.spot s ≡ true → turned (map cell_turn (e ∷ es)) s o ≡ turned_by t o
      first is = elim (may-turn t es (All-tail (λ (d : ChangeKey × CellChange). is_spot d.1.spot s ≡ true → turn_of d.1.write.visible ≡ t) e es all)) [
        | inl a ↦ made is ∙ ap (turned_by t) a
        | inr a ↦ made is ∙ ap (turned_by t) a ∙ twice t o
      ]

      by : (b : Bool) → is_spot e.1.spot s ≡ b → turned (map cell_turn es) s o ≡ turned_by t o → turned (map cell_turn (e ∷ es)) s o ≡ turned_by t o
      by false is h = ap (λ b. cond b (turned_by (turn_of e.1.write.visible) (turned (map cell_turn es) s o)) (turned (map cell_turn es) s o)) is ∙ h
      by true is h = made is ∙ ap (turned_by t) h ∙ twice t o

-- what a changed cell's turn makes of it
abbrev after : Option CellWrite → Option Kept → Option Kept
after None o = o
after (Some w) o = turned_by (turn_of w.visible) o

shows : (v : ℕ) (k : Kept) → v ≢ 0 → turned_by (turn_of v) (Some k) ≡ Some (record k { visible = v })
shows v k some = ap (λ b. turned_by (cond b Empty (Shows v)) (Some k)) (false_from_ne_true (v == 0) (λ e. some (eqb-true v 0 e)))

-- where an entry comes
comes-after : (exact : Bool) (stage place n : ℕ) (o : Option Kept) (k : Kept) → k.visible ≢ 0 → (w : Option CellWrite) → w ≡ change_by exact stage place n o (Some k) → after w (Some k) ≡ Some k
comes-after exact stage place n o k some None is = refl
comes-after exact stage place n o k some (Some w) is = ap (λ v. turned_by (turn_of v) (Some k)) (seen o is) ∙ shows k.visible k some
  where
    one : (a b : CellWrite) → Some a ≡ Some b → a.visible ≡ b.visible
    one a b e = ap (λ (x : CellWrite). x.visible) (same_Some a b e)

    seen : (o : Option Kept) → Some w ≡ change_by exact stage place n o (Some k) → w.visible ≡ k.visible
    seen None e = one w (kept_write stage place k.visible k) e
    seen (Some j) e = by (is_same_kept exact j k) e
      where
        by : (b : Bool) → Some w ≡ cond b None (Some (kept_write stage place k.visible k)) → w.visible ≡ k.visible
        by true h = absurd (none-some w (sym h))
        by false h = one w (kept_write stage place k.visible k) h

-- where none does
left-after : (exact : Bool) (stage place n : ℕ) (odd : Bool) (gone : List ℕ) (o : Option Kept) (w : Option CellWrite) → w ≡ change_by exact stage place n o (left_kept odd gone o) → after w o ≡ left_kept odd gone o
left-after exact stage place n odd gone None w is = ap (λ x. after x None) is
left-after exact stage place n odd gone (Some k) w is = by (is_seen odd k) w is
  where
    v : ℕ
    v = cond (is_among gone k.number) (bit_of odd) 3

    some : v ≢ 0
    some = either (is_among gone k.number) odd
      where
        either : (g o : Bool) → cond g (bit_of o) 3 ≢ 0
        either true true e = omega (arith, e)
        either true false e = omega (arith, e)
        either false o e = omega (arith, e)

    same : (b : Bool) → (k.visible == v) ≡ b → (w : Option CellWrite) → w ≡ cond b None (Some (kept_write stage place v (record k { visible = v }))) → after w (Some k) ≡ Some (record k { visible = v })
    same true e w h = ap (λ x. after x (Some k)) h ∙ ap (λ n. Some (record k { visible = n })) (eqb-true k.visible v e)
    same false e w h = ap (λ x. after x (Some k)) h ∙ shows v k some

    by : (b : Bool) (w : Option CellWrite) → w ≡ change_by exact stage place n (Some k) (cond b (Some (record k { visible = v })) None) → after w (Some k) ≡ cond b (Some (record k { visible = v })) None
    by false w h = ap (λ x. after x (Some k)) h
    by true w h = same (k.visible == v) refl w (h ∙ ap (λ b. cond b None (Some (kept_write stage place v (record k { visible = v })))) (same-bits exact k v))

-- ---- all spots

module _ (odd : Bool) (gone : List ℕ) (come : List Coming) (ts : List TableCells) (slots : HaveOwnSlots ts) (fresh : All (IsFresh ts) come) (m : Changes) (ordered : IsStrictlySortedBy key_cmp (keys_of m)) where
  abbrev next : BookSpot → Option Kept
  next s = come_to come s (left_kept odd gone (kept_at ts s))

  module _ (changed : AreChanged ts next m) where
    of-tables : (e : ChangeKey × CellChange) → Contains m e → IsOfTables ts e
    of-tables e there = All-contains (IsOfTables ts) m e changed.spots there

    found-there : (e : ChangeKey × CellChange) → Contains m e → change_at m e.0 ≡ Some e.1
    found-there e there = lookup-from_Contains {eq = eq_by_cmp key_cmp} (eq_by_cmp_equiv key-total) e.0 e.1 m (IsDistinct-from_sorted key_cmp (keys_of m) ordered) there

    -- a changed cell of a spot stands by the spot's key
    own-entry : (s : BookSpot) (p : PartCells) → part_of ts s ≡ Some p → (e : ChangeKey × CellChange) → Contains m e → is_spot e.1.spot s ≡ true → e.0 ≡ key_in p s
    own-entry s p at e there is =
        let h = of-tables e there in
        let one : e.1.spot ≡ s = same-spot e.1.spot s is in
        let two : h.0 ≡ p = same_Some h.0 p (sym h.1 ∙ ap (part_of ts) one ∙ at) in
        h.2 ∙ ap (λ (q : PartCells). key_in q e.1.spot) two ∙ ap (key_in p) one

    -- of each cell the change is its turn
    turned-at : (s : BookSpot) (p : PartCells) → part_of ts s ≡ Some p → (o : Option Kept) → turned (map cell_turn m) s o ≡ after (write_at m (key_in p s)) o
    turned-at s p at o = by (change_at m (key_in p s)) refl
      where
        by : (c : Option CellChange) → change_at m (key_in p s) ≡ c → turned (map cell_turn m) s o ≡ after (option_map (λ (x : CellChange). x.write) (change_at m (key_in p s))) o
        by None is =
            none-turn s o m (all_at (λ (e : ChangeKey × CellChange). is_spot e.1.spot s ≡ false) m (λ e there.
            false_from_ne_true (is_spot e.1.spot s) (λ t. none-some e.1 (sym (sym (found-there e there) ∙ ap (change_at m) (own-entry s p at e there t) ∙ is)))))
            ∙ ap (λ (c : Option CellChange). after (option_map (λ (x : CellChange). x.write) c) o) (sym is)
        by (Some c) is =
            let there : Contains m (key_in p s, c) = Contains-from_lookup {eq = eq_by_cmp key_cmp} (tells_apart key-exact) (key_in p s) c m is in
            let h = of-tables (key_in p s, c) there in
            let here : c.spot ≡ s = one-key ts slots c.spot s h.0 p h.1 at (sym h.2) in
            one-turns s o (turn_of c.write.visible) m (all_at (λ (e : ChangeKey × CellChange). is_spot e.1.spot s ≡ true → turn_of e.1.write.visible ≡ turn_of c.write.visible) m (λ e among t.
            ap (λ (x : CellChange). turn_of x.write.visible) (same_Some e.1 c (sym (found-there e among) ∙ ap (change_at m) (own-entry s p at e among t) ∙ is)))) (key_in p s, c) there
            (ap (λ z. is_spot z s) here ∙ spot-itself s) ∙ ap (λ (x : Option CellChange). after (option_map (λ (y : CellChange). y.write) x) o) (sym is)

    -- nothing turns outside of the tables
    turned-nowhere : (s : BookSpot) → part_of ts s ≡ None → (o : Option Kept) → turned (map cell_turn m) s o ≡ o
    turned-nowhere s nowhere o =
        none-turn s o m (all_at (λ (e : ChangeKey × CellChange). is_spot e.1.spot s ≡ false) m (λ e there.
        let h = of-tables e there in
        false_from_ne_true (is_spot e.1.spot s) (λ t. none-some h.0 (sym nowhere ∙ ap (part_of ts) (sym (same-spot e.1.spot s t)) ∙ h.1))))

    module _ (us : List TableCells) (have : HaveCells ts us (λ s. turned (map cell_turn m) s (come_to come s (kept_at ts s)))) where
      pub next-kept : (s : BookSpot) → kept_at us s ≡ next s
      next-kept s = have.each s ∙ by (part_of ts s) refl
        where
          at-part : (p : PartCells) → part_of ts s ≡ Some p → ComeOr come s → after (write_at m (key_in p s)) (come_to come s (kept_at ts s)) ≡ next s
          at-part p at (comes x there is) =
              ap (after (write_at m (key_in p s))) (is (kept_at ts s))
              ∙ comes-after (is_exact p.shape.grid) p.stage p.place s.at.cell (get nat_cmp p.cells s.at.cell) x.kept (All-contains (IsFresh ts) come x fresh there).shown (write_at m (key_in p s))
              (changed.each s p at ∙ ap (change_to p s) (is (left_kept odd gone (kept_at ts s)))) ∙ sym (is (left_kept odd gone (kept_at ts s)))
          at-part p at (none is) =
              ap (after (write_at m (key_in p s))) (is (kept_at ts s))
              ∙ left-after (is_exact p.shape.grid) p.stage p.place s.at.cell odd gone (kept_at ts s) (write_at m (key_in p s))
              (changed.each s p at ∙ ap (change_to p s) (is (left_kept odd gone (kept_at ts s)))
              ∙ ap (λ o. change_by (is_exact p.shape.grid) p.stage p.place s.at.cell o (left_kept odd gone (kept_at ts s))) (sym (kept-part ts s p at))) ∙ sym (is (left_kept odd gone (kept_at ts s)))

          by : (o : Option PartCells) → part_of ts s ≡ o → turned (map cell_turn m) s (come_to come s (kept_at ts s)) ≡ next s
          by None at = turned-nowhere s at (come_to come s (kept_at ts s)) ∙ ap (come_to come s) (nothing ∙ sym (ap (left_kept odd gone) nothing))
            where
              nothing : kept_at ts s ≡ None
              nothing = kept-nowhere ts s at
          by (Some p) at = turned-at s p at (come_to come s (kept_at ts s)) ∙ at-part p at (come-or come s)

      -- ---- they are the next ones

      same-parts : (xs ys : List PartCells) → All (λ (x : PartCells). IsOrdered nat_cmp x.cells) xs → AllZip IsStill xs ys → AllZip IsSamePart xs ys
      same-parts [] [] all zip = tt
      same-parts [] (y ∷ ys) all zip = absurd zip
      same-parts (x ∷ xs) [] all zip = absurd zip
      same-parts (x ∷ xs) (y ∷ ys) all zip =
          let own = All-head (λ (z : PartCells). IsOrdered nat_cmp z.cells) x xs all in
          let h = zip.0 in
          (record { stage = h.stage; place = h.place; first = h.first; shape = h.shape; ordered = own; still = h.ordered own }, same-parts xs ys (All-tail (λ (z : PartCells). IsOrdered nat_cmp z.cells) x xs all) zip.1)

      same-tables : (xs ys : List TableCells) → All AreOrdered xs → AllZip IsStillTable xs ys → AllZip IsSameTable xs ys
      same-tables [] [] all zip = tt
      same-tables [] (y ∷ ys) all zip = absurd zip
      same-tables (x ∷ xs) [] all zip = absurd zip
      same-tables (x ∷ xs) (y ∷ ys) all zip = ((zip.0.0, same-parts x.parts.items y.parts.items (All-head AreOrdered x xs all) zip.0.1), same-tables xs ys (All-tail AreOrdered x xs all) zip.1)

      pub turned-next : All AreOrdered ts → AreNext odd gone come ts us
      turned-next all = record {
        same = same-tables ts us all have.same;
        each = λ s. subst (λ o. AreLike o (next s)) (sym (next-kept s)) (alike-itself (next s));
      }

      -- ---- the changes are their differences

      abbrev pub moved : List (Vec PartCells Global)
      moved = map (λ (u : TableCells). u.parts) us

      part-at : (xs : List TableCells) (i j n : ℕ) (t : TableCells) (x : PartCells) → slice_get xs i ≡ Some t → slice_get t.parts.items j ≡ Some x → part_of xs (record { table = i; at = record { part = j; cell = n } }) ≡ Some x
      part-at xs i j n t x at_t at_x = ap (λ (o : Option TableCells). option_and_then (λ (y : TableCells). slice_get y.parts.items j) o) at_t ∙ at_x

      -- a pair of parts, before and behind
      record IsPairAt (p : PartCells × PartCells) : Type 0 where
        i : ℕ
        j : ℕ
        old : (n : ℕ) → part_of ts (record { table = i; at = record { part = j; cell = n } }) ≡ Some p.0
        new : (n : ℕ) → part_of us (record { table = i; at = record { part = j; cell = n } }) ≡ Some p.1
        still_is : IsStill p.0 p.1

      pairs-in : (xs ys : List PartCells) → AllZip IsStill xs ys → (i j : ℕ) → ((k : ℕ) (x y : PartCells) → slice_get xs k ≡ Some x → slice_get ys k ≡ Some y → IsStill x y → IsPairAt (x, y))
          → (p : PartCells × PartCells) → Contains (zip xs ys) p → IsPairAt p
      pairs-in [] ys zipped i j each p there = absurd (let lt = there.1 in omega (arith, lt))
      pairs-in (x ∷ xs) [] zipped i j each p there = absurd (let lt = there.1 in omega (arith, lt))
      pairs-in (x ∷ xs) (y ∷ ys) zipped i j each p there = elim (Contains-split (x, y) (zip xs ys) p there) [
        | inl same ↦ subst IsPairAt same (each 0 x y refl refl zipped.0)
        | inr later ↦ pairs-in xs ys zipped.1 i j (λ k. each (suc k)) p later
      ]

      all-pairs-in : (xs ys : List TableCells) → AllZip IsStillTable xs ys → ((k : ℕ) (t u : TableCells) → slice_get xs k ≡ Some t → slice_get ys k ≡ Some u → (p : PartCells × PartCells) → Contains (zip t.parts.items u.parts.items) p → IsPairAt p)
          → (p : PartCells × PartCells) → Contains (all_pairs xs (map (λ (u : TableCells). u.parts) ys)) p → IsPairAt p
      all-pairs-in [] ys zipped each p there = absurd (let lt = there.1 in omega (arith, lt))
      all-pairs-in (t ∷ xs) [] zipped each p there = absurd (let lt = there.1 in omega (arith, lt))
      all-pairs-in (t ∷ xs) (u ∷ ys) zipped each p there = elim (Contains-append_cases (zip t.parts.items u.parts.items) (all_pairs xs (map (λ (v : TableCells). v.parts) ys)) p there) [
        | inl here ↦ each 0 t u refl refl p here
        | inr later ↦ all-pairs-in xs ys zipped.1 (λ k. each (suc k)) p later
      ]

      pair-at : (p : PartCells × PartCells) → Contains (all_pairs ts moved) p → IsPairAt p
      pair-at = all-pairs-in ts us have.same (λ i t u at_t at_u.
          let own = AllZip-slice_get IsStillTable ts us i t u have.same at_t at_u in
          pairs-in t.parts.items u.parts.items own.1 i 0 (λ j x y at_x at_y is. record {
            i = i;
            j = j;
            old = λ n. part-at ts i j n t x at_t at_x;
            new = λ n. part-at us i j n u y at_u at_y;
            still_is = is;
          }))

      map-at : {X Y : Type 0} (f : X → Y) (xs : List X) (i : ℕ) (x : X) → slice_get xs i ≡ Some x → slice_get (map f xs) i ≡ Some (f x)
      map-at f [] i x at = absurd (none-some x at)
      map-at f (y ∷ xs) zero x at = ap (option_map f) at
      map-at f (y ∷ xs) (suc i) x at = map-at f xs i x at

      -- the part of a changed cell is in a pair
      there-pair : (s : BookSpot) (x : PartCells) → part_of ts s ≡ Some x → (y : PartCells) × Contains (all_pairs ts moved) (x, y)
      there-pair s x at = by (slice_get ts s.table) refl at
        where
          by : (o : Option TableCells) → slice_get ts s.table ≡ o → option_and_then (λ (t : TableCells). slice_get t.parts.items s.at.part) o ≡ Some x → (y : PartCells) × Contains (all_pairs ts moved) (x, y)
          by None is h = absurd (none-some x h)
          by (Some t) is h =
              let u = zip-left IsStillTable ts us s.table t have.same is in
              let y = zip-left IsStill t.parts.items u.0.parts.items s.at.part x u.2.1 h in
              let at_v : slice_get moved s.table ≡ Some u.0.parts = map-at (λ (v : TableCells). v.parts) us s.table u.0 u.1 in (
                y.0,
                Contains-flat_map pairs_of (zip ts moved) (t, u.0.parts) (x, y.0)
                    (Contains-item (zip ts moved) s.table (t, u.0.parts) (zip-at ts moved s.table t u.0.parts is at_v))
                    (Contains-item (zip t.parts.items u.0.parts.items) s.at.part (x, y.0) (zip-at t.parts.items u.0.parts.items s.at.part x y.0 h y.1)),
              )

      -- how a cell of a pair changes
      pair-change : (p : PartCells × PartCells) → IsPairAt p → (n : ℕ) → write_at m ((p.1.stage, p.1.place), n) ≡ change_in p.0 p.1 n
      pair-change p h n =
          let s : BookSpot = record { table = h.i; at = record { part = h.j; cell = n } } in
          let is = h.still_is in
          let now : get nat_cmp p.1.cells n ≡ next s = sym (kept-part us s p.1 (h.new n)) ∙ next-kept s in
          ap (λ k. write_at m ((k, p.1.place), n)) is.stage ∙ ap (λ k. write_at m ((p.0.stage, k), n)) is.place ∙ changed.each s p.0 (h.old n)
          ∙ ap (λ o. change_by (is_exact p.0.shape.grid) p.0.stage p.0.place n (get nat_cmp p.0.cells n) o) (sym now)
          ∙ ap (λ (z : PartShape). change_by (is_exact z.grid) p.0.stage p.0.place n (get nat_cmp p.0.cells n) (get nat_cmp p.1.cells n)) (sym is.shape)
          ∙ ap (λ k. change_by (is_exact p.1.shape.grid) k p.0.place n (get nat_cmp p.0.cells n) (get nat_cmp p.1.cells n)) (sym is.stage)
          ∙ ap (λ k. change_by (is_exact p.1.shape.grid) p.1.stage k n (get nat_cmp p.0.cells n) (get nat_cmp p.1.cells n)) (sym is.place)

      module _ (cells : HaveOwnCells ts) where
        -- what is kept next of a cell has its number
        next-own : (s : BookSpot) (k : Kept) → next s ≡ Some k → k.cell ≡ s.at.cell
        next-own s k is = own come fresh (left_kept odd gone (kept_at ts s)) (left (kept_at ts s) refl) is
          where
            left : (o : Option Kept) → kept_at ts s ≡ o → (j : Kept) → left_kept odd gone (kept_at ts s) ≡ Some j → j.cell ≡ s.at.cell
            left None at j e = absurd (none-some j (sym (ap (left_kept odd gone) at) ∙ e))
            left (Some i) at j e = by (is_seen odd i) (sym (ap (left_kept odd gone) at) ∙ e)
              where
                by : (b : Bool) → cond b (Some (record i { visible = cond (is_among gone i.number) (bit_of odd) 3 })) None ≡ Some j → j.cell ≡ s.at.cell
                by true h = ap (λ (z : Kept). z.cell) (sym (same_Some _ j h)) ∙ cells s i at
                by false h = absurd (none-some j h)

            own : (xs : List Coming) → All (IsFresh ts) xs → (o : Option Kept) → ((j : Kept) → o ≡ Some j → j.cell ≡ s.at.cell) → come_to xs s o ≡ Some k → k.cell ≡ s.at.cell
            own [] all o old e = old k e
            own (x ∷ xs) all o old e = own xs (All-tail (IsFresh ts) x xs all) (cond (is_spot x.spot s) (Some x.kept) o) (λ j. by (is_spot x.spot s) refl j) e
              where
                by : (b : Bool) → is_spot x.spot s ≡ b → (j : Kept) → cond b (Some x.kept) o ≡ Some j → j.cell ≡ s.at.cell
                by true f j h = ap (λ (z : Kept). z.cell) (sym (same_Some x.kept j h)) ∙ (All-head (IsFresh ts) x xs all).cell ∙ ap (λ (z : BookSpot). z.at.cell) (same-spot x.spot s f)
                by false f j h = old j h

        own-key-by : (exact : Bool) (stage place n : ℕ) (o q : Option Kept) (w : CellWrite) → ((k : Kept) → q ≡ Some k → k.cell ≡ n) → change_by exact stage place n o q ≡ Some w → ((stage, place), n) ≡ change_key w
        own-key-by exact stage place n None None w own is = absurd (none-some w is)
        own-key-by exact stage place n (Some j) None w own is = ap change_key (same_Some (empty_write stage place n) w is)
        own-key-by exact stage place n None (Some k) w own is = ap (λ c. ((stage, place), c)) (sym (own k refl)) ∙ ap change_key (same_Some (kept_write stage place k.visible k) w is)
        own-key-by exact stage place n (Some j) (Some k) w own is = by (is_same_kept exact j k) is
          where
            by : (b : Bool) → cond b None (Some (kept_write stage place k.visible k)) ≡ Some w → ((stage, place), n) ≡ change_key w
            by true h = absurd (none-some w h)
            by false h = ap (λ c. ((stage, place), c)) (sym (own k refl)) ∙ ap change_key (same_Some (kept_write stage place k.visible k) w h)

        -- a changed cell stands by its own key
        entry-write : (e : ChangeKey × CellChange) → Contains m e → write_at m e.0 ≡ Some e.1.write
        entry-write e there = ap (option_map (λ (x : CellChange). x.write)) (found-there e there)

        entry-key : (e : ChangeKey × CellChange) → Contains m e → e.0 ≡ change_key e.1.write
        entry-key e there =
            let h = of-tables e there in
            let s = e.1.spot in
            h.2
            ∙ own-key-by (is_exact h.0.shape.grid) h.0.stage h.0.place s.at.cell (get nat_cmp h.0.cells s.at.cell) (next s) e.1.write (next-own s)
            (sym (changed.each s h.0 h.1) ∙ ap (write_at m) (sym h.2) ∙ entry-write e there)

        pub turned-differ : (writes : List CellWrite) → writes ≡ map (λ (x : ChangeKey × CellChange). x.1.write) m → (g : Goal) → All (IsGoal g) (all_pairs ts moved) → AreDifferences (all_pairs ts moved) writes g
        turned-differ writes are goal goals =
            let keyed : All IsKeyed m = all_at IsKeyed m entry-key in
            record {
              in_order = subst (AllPairs (λ a b. writes_before a b ≡ true)) (sym are) (keyed-order m keyed ordered);
              each = subst (All (λ (w : CellWrite). goal (change_key w) ≡ Some w)) (sym are)
                  (All-map (λ (w : CellWrite). goal (change_key w) ≡ Some w) (λ (x : ChangeKey × CellChange). x.1.write) m
                  (all_at (λ (e : ChangeKey × CellChange). goal (change_key e.1.write) ≡ Some e.1.write) m (λ e there.
                  let h = of-tables e there in
                  let pair = there-pair e.1.spot h.0 h.1 in
                  let at = pair-at (h.0, pair.0) pair.1 in
                  let is = at.still_is in
                  let own : change_key e.1.write ≡ ((pair.0.stage, pair.0.place), e.1.spot.at.cell) =
                  sym (entry-key e there) ∙ h.2 ∙ ap (λ k. ((k, h.0.place), e.1.spot.at.cell)) (sym is.stage) ∙ ap (λ k. ((pair.0.stage, k), e.1.spot.at.cell)) (sym is.place) in
                  ap goal own ∙ All-contains (IsGoal goal) (all_pairs ts moved) (h.0, pair.0) goals pair.1 e.1.spot.at.cell ∙ sym (pair-change (h.0, pair.0) at e.1.spot.at.cell)
                  ∙ ap (write_at m) (sym own ∙ sym (entry-key e there)) ∙ entry-write e there)));
              all = all_at (λ (p : PartCells × PartCells). (n : ℕ) → find (λ (w : CellWrite). is_changed w p.1.stage p.1.place n) writes ≡ change_in p.0 p.1 n) (all_pairs ts moved) (λ p there n.
                  ap (find (λ (w : CellWrite). is_changed w p.1.stage p.1.place n)) are ∙ keyed-found p.1.stage p.1.place n m keyed ∙ pair-change p (pair-at p there) n);
            }
