-- Which cells of a table entries have by now.
use Rattle.std.proofs.Common.{◌≡◌, ◌≢◌, ℕ, ◌<◌, ◌&&◌, ◌||◌, Bool, true, false, not, cond, eqb, List, [], ◌∷◌, ◌++◌, Some, length, refl, sym, ap, ◌∙◌, inl, inr, arith}
use Rattle.std.specs.Prelude.{All, AllPairs, slice_get}
use Rattle.std.specs.List.{AllZip, list_any}
use Rattle.std.specs.BTreeMap.{is_at}
use Rattle.std.specs.BTreeSet.{BTreeSet, contains}
use Rattle.std.specs.Ordering.{nat_cmp}
use Rattle.std.proofs.lemmas.Bool.{cases_lt, eq-eqb, eqb-true, false≢true, false_from_ne_true}
use Rattle.std.proofs.lemmas.Option.{same_Some}
use Rattle.std.proofs.lemmas.List.{length-set}
use Rattle.std.proofs.lemmas.Slice.Zip.{AllZip-long}
use Rattle.rmt_bits.proofs.AllLaws.{All-slice_get}
use Rattle.rmt_bits.proofs.ListLaws.{AllZip-slice_get, slice_get-set_other, slice_get-set_same}
use Rattle.rmt_config.specs.Commits.{Placed, is_free}
use Rattle.rmt_config.specs.Rooms.{PartAt, Room, content_in, is_same}
use Rattle.rmt_config.specs.RunCells.{RunCells, has_bit}
use Rattle.rmt_book.specs.declared.spots.Spot.{Spot}
use Rattle.rmt_update.specs.RowIndex.{IsNone}
use Rattle.rmt_update.specs.Taking.{IsGiven}
use Rattle.rmt_update.proofs.FreeLaws.{AreGiven}
use Rattle.rmt_update.proofs.PartOrder.{pair-at, same-as}
use Rattle.rmt_update.proofs.RowIndexLaws.{own-number, same-number}
use Rattle.rmt_update.proofs.ZipLaws.{zip-made}
use Rattle.rmt_update.proofs.LoadLaws.{is-same}

-- ---- one room more

pub any-push : {X : Type 0} (test : X → Bool) (xs : List X) (x : X) → list_any test (xs ++ x ∷ []) ≡ (list_any test xs || test x)
any-push test [] x = by (test x)
  where
    by : (b : Bool) → (b || false) ≡ (false || b)
    by true = refl
    by false = refl
any-push test (y ∷ xs) x = ap (λ b. test y || b) (any-push test xs x) ∙ by (test y) (list_any test xs) (test x)
  where
    by : (a b c : Bool) → (a || (b || c)) ≡ ((a || b) || c)
    by true b c = refl
    by false b c = refl

-- a room stays free where another is given
pub free-push : (cells : RunCells) (ps : List Placed) (q : Placed) (a : Room) → is_same q.room a ≡ false → is_free cells (ps ++ q ∷ []) a ≡ is_free cells ps a
free-push cells ps q a other = ap (λ b. not (has_bit cells.version (content_in cells a).head) && not b) (any-push (λ (p : Placed). is_same p.room a) ps q ∙ ap (λ b. list_any (λ (p : Placed). is_same p.room a) ps || b) other ∙ none (list_any (λ (p : Placed). is_same p.room a) ps))
  where
    none : (b : Bool) → (b || false) ≡ b
    none true = refl
    none false = refl

-- the given one is no longer free
pub given-push : (cells : RunCells) (ps : List Placed) (q : Placed) → is_free cells (ps ++ q ∷ []) q.room ≡ false
given-push cells ps q =
    ap (λ b. not (has_bit cells.version (content_in cells q.room).head) && not b) (any-push (λ (p : Placed). is_same p.room q.room) ps q ∙ ap (λ b. list_any (λ (p : Placed). is_same p.room q.room) ps || b) (is-same q.room))
    ∙ none (not (has_bit cells.version (content_in cells q.room).head)) (list_any (λ (p : Placed). is_same p.room q.room) ps)
  where
    none : (a b : Bool) → (a && not (b || true)) ≡ false
    none true true = refl
    none true false = refl
    none false b = refl

-- ---- the cells that were given in exact parts

-- before any entry comes to a table, none of its unseen cells is given
pub none-given : (cells : RunCells) (ps : List Placed) (parts : List PartAt) (given : List (BTreeSet ℕ)) → length given ≡ length parts → All IsNone given
    → ((i : ℕ) (p : PartAt) (n : ℕ) → slice_get parts i ≡ Some p → has_bit cells.version (cells.content p.stage p.place n).head ≡ false → list_any (λ (q : Placed). is_same q.room (record { part = p; cell = n })) ps ≡ false)
    → AllZip (AreGiven cells ps) parts given
none-given cells ps parts given long none unseen =
    zip-made (AreGiven cells ps) parts given (sym long) (λ i p g at_p at_g n clear. unseen i p n at_p clear ∙ sym (All-slice_get IsNone given i g none at_g n))

-- of two parts in different stages the rooms are not the same
other-stage : (a b : Room) → a.part.stage ≢ b.part.stage → is_same a b ≡ false
other-stage a b ne = false_from_ne_true (is_same a b) (λ e. ne (sym (same-as a b e).stage))

-- a further cell is given
pub one-given : (cells : RunCells) (ps : List Placed) (q : Placed) (parts : List PartAt) (old new : List (BTreeSet ℕ)) (s : Spot) → AllPairs (λ (a b : PartAt). a.stage < b.stage) parts → slice_get parts s.part ≡ Some q.room.part → q.room.cell ≡ s.cell
    → IsGiven old new s → AllZip (AreGiven cells ps) parts old → AllZip (AreGiven cells (ps ++ q ∷ [])) parts new
one-given cells ps q parts old new s apart there cell given zip = zip-made (AreGiven cells (ps ++ q ∷ [])) parts new (sym long) each
  where
    long : length new ≡ length parts
    long = ap (λ (gs : List (BTreeSet ℕ)). length gs) given.changed ∙ length-set old s.part given.behind ∙ AllZip-long (AreGiven cells ps) parts old zip

    more : (p : PartAt) (n : ℕ) → list_any (λ (r : Placed). is_same r.room (record { part = p; cell = n })) (ps ++ q ∷ []) ≡ (list_any (λ (r : Placed). is_same r.room (record { part = p; cell = n })) ps || is_same q.room (record { part = p; cell = n }))
    more p n = any-push (λ (r : Placed). is_same r.room (record { part = p; cell = n })) ps q

    either : (a b : Bool) → b ≡ true → (a || b) ≡ true
    either true b e = refl
    either false b e = e

    neither : (a b : Bool) → b ≡ false → (a || b) ≡ a
    neither true b e = refl
    neither false b e = e

    here : (p : PartAt) (g : BTreeSet ℕ) → slice_get parts s.part ≡ Some p → slice_get new s.part ≡ Some g → AreGiven cells (ps ++ q ∷ []) p g
    here p g at_p at_g n clear =
        let behind : g ≡ given.behind =
        same_Some g given.behind (sym at_g ∙ ap (λ gs. slice_get gs s.part) given.changed ∙ slice_get-set_same old s.part given.before given.behind given.there) in
        let same : q.room.part ≡ p = same_Some q.room.part p (sym there ∙ at_p) in
        let before = AllZip-slice_get (AreGiven cells ps) parts old s.part p given.before zip at_p given.there n clear in
        more p n ∙ by (is_at (nat_cmp s.cell) n) refl same before ∙ sym (given.has n) ∙ ap (λ (h : BTreeSet ℕ). contains nat_cmp h n) (sym behind)
      where
        by : (b : Bool) → is_at (nat_cmp s.cell) n ≡ b → q.room.part ≡ p → list_any (λ (r : Placed). is_same r.room (record { part = p; cell = n })) ps ≡ contains nat_cmp given.before n
            → (list_any (λ (r : Placed). is_same r.room (record { part = p; cell = n })) ps || is_same q.room (record { part = p; cell = n })) ≡ cond b true (contains nat_cmp given.before n)
        by true is same before =
            let room : q.room ≡ record { part = p; cell = n } = ap (λ (x : PartAt). record { part = x; cell = q.room.cell }) same ∙ ap (λ m. record { part = p; cell = m }) (cell ∙ same-number s.cell n is) in
            either (list_any (λ (r : Placed). is_same r.room (record { part = p; cell = n })) ps) (is_same q.room (record { part = p; cell = n })) (ap (is_same q.room) (sym room) ∙ is-same q.room)
        by false is same before =
            let other : is_same q.room (record { part = p; cell = n }) ≡ false =
            false_from_ne_true (is_same q.room (record { part = p; cell = n })) (λ e.
            let at : n ≡ s.cell = (same-as q.room (record { part = p; cell = n }) e).cell ∙ cell in
            false≢true (sym is ∙ ap (is_at (nat_cmp s.cell)) at ∙ own-number s.cell)) in
            neither (list_any (λ (r : Placed). is_same r.room (record { part = p; cell = n })) ps) (is_same q.room (record { part = p; cell = n })) other ∙ before

    elsewhere : (i : ℕ) (p : PartAt) (g : BTreeSet ℕ) → i ≢ s.part → slice_get parts i ≡ Some p → slice_get new i ≡ Some g → AreGiven cells (ps ++ q ∷ []) p g
    elsewhere i p g ne at_p at_g n clear =
        let at_old : slice_get old i ≡ Some g = sym (slice_get-set_other old s.part i given.behind ne) ∙ ap (λ gs. slice_get gs i) (sym given.changed) ∙ at_g in
        let before = AllZip-slice_get (AreGiven cells ps) parts old i p g zip at_p at_old n clear in
        let stages : q.room.part.stage ≢ p.stage =
        elim (cases_lt i s.part) [
          | inl lt ↦ let l = pair-at (λ (a b : PartAt). a.stage < b.stage) parts i s.part p q.room.part apart lt at_p there in (λ same. omega (arith, same, l))
          | inr le ↦ elim (cases_lt s.part i) [
            | inl lt ↦ let l = pair-at (λ (a b : PartAt). a.stage < b.stage) parts s.part i q.room.part p apart lt there at_p in (λ same. omega (arith, same, l))
            | inr ge ↦ absurd (ne (omega (arith, le, ge)))
          ]
        ] in
        more p n ∙ neither (list_any (λ (r : Placed). is_same r.room (record { part = p; cell = n })) ps) (is_same q.room (record { part = p; cell = n })) (other-stage q.room (record { part = p; cell = n }) stages) ∙ before

    each : (i : ℕ) (p : PartAt) (g : BTreeSet ℕ) → slice_get parts i ≡ Some p → slice_get new i ≡ Some g → AreGiven cells (ps ++ q ∷ []) p g
    each i p g at_p at_g = by (eqb i s.part) refl
      where
        by : (b : Bool) → eqb i s.part ≡ b → AreGiven cells (ps ++ q ∷ []) p g
        by true is = let same = eqb-true i s.part is in here p g (ap (slice_get parts) (sym same) ∙ at_p) (ap (slice_get new) (sym same) ∙ at_g)
        by false is = elsewhere i p g (λ same. false≢true (sym is ∙ eq-eqb i s.part same)) at_p at_g
