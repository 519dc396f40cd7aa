-- Which cells change in a commit that moves none, put together one after another.
use Rattle.std.proofs.Common.{◌≡◌, ◌⊎◌, ℕ, zero, suc, ◌+◌, ◌/◌, ◌%◌, ◌<◌, ◌≤◌, Bool, true, false, not, ◌&&◌, ◌||◌, ◌==◌, cond, eqb, List, [], ◌∷◌, ◌++◌, length, take, Option, Some, None, option_map, refl, sym, ap, ◌∙◌, subst, inl, inr, arith}
use Rattle.std.specs.Prelude.{All, Contains, IsSomeAnd, option_and_then, slice_get}
use Rattle.std.specs.List.{AllZip}
use Rattle.std.specs.BTreeMap.{BTreeMap, get, insert_entry, is_at}
use Rattle.std.specs.Ordering.{match_ordering, nat_cmp}
use Rattle.std.specs.declared.cmp.Ordering.{Ordering}
use Rattle.std.specs.declared.cmp.Ordering.TheVariants.{Less, Equal, Greater}
use Rattle.std.proofs.lemmas.Bool.{and_from, eq-eqb, eqb-true, false_from_ne_true, false≢true}
use Rattle.std.proofs.lemmas.List.Elements.{All-cons, All-head, All-nil, All-tail, All-weaker, Contains-push_cases}
use Rattle.std.proofs.lemmas.Option.{none-some, same_Some, slice_get_within}
use Rattle.rmt_bits.specs.Bits.{number_of}
use Rattle.rmt_bits.proofs.ListLaws.{take-slice_get}
use Rattle.rmt_bits.proofs.MemberLaws.{Contains-from_any}
use Rattle.rmt_bits.proofs.OptionLaws.{eqb-sym}
use Rattle.rmt_bits.specs.Members.{is_among}
use Rattle.rmt_config.specs.declared.cell_write.CellWrite.{CellWrite}
use Rattle.rmt_update.specs.declared.book.book_index.BookIndex.{BookIndex}
use Rattle.rmt_update.specs.declared.book.changing.CellChange.{CellChange}
use Rattle.rmt_book.specs.declared.kept.Kept.{Kept}
use Rattle.rmt_update.specs.declared.book.placing.Coming.{Coming}
use Rattle.rmt_book.specs.declared.spot.BookSpot.{BookSpot}
use Rattle.rmt_book.specs.declared.table.PartCells.{PartCells}
use Rattle.rmt_book.specs.declared.table.TableCells.{TableCells}
use Rattle.rmt_update.specs.BookIndex.{FindsCells}
use Rattle.rmt_book.specs.BookSpots.{kept_at}
use Rattle.rmt_update.specs.Changing.{ChangeKey, key_cmp}
use Rattle.rmt_book.specs.Coming.{kept_write}
use Rattle.rmt_update.specs.Differences.{Changes, Puts, change_by, is_exact, is_same_kept, write_at}
use Rattle.rmt_update.specs.NextKept.{bit_of}
use Rattle.rmt_update.specs.Recent.{is_recent}
use Rattle.rmt_book.specs.Seen.{is_seen}
use Rattle.rmt_update.specs.TurnWrites.{AreChanged, AreOnWay, HaveOwnSlots, IsChanged, IsFresh, IsOfTables, MoreChanged, PutsLeft, change_to, key_in, left_write, shown_write}
use Rattle.rmt_update.specs.Turning.{IsSpotIn, IsStillTable, come_to, is_spot, left_kept, part_of}
use Rattle.rmt_update.proofs.EnteringLaws.{come-last, still-there}
use Rattle.rmt_update.proofs.ChangesLaws.{write-put}
use Rattle.rmt_update.proofs.InsertLaws.{own-key, same-key}
use Rattle.rmt_update.proofs.KeyedLaws.{key-exact, key-total}
use Rattle.rmt_update.proofs.PutChanges.{take-past}
use Rattle.rmt_update.proofs.SettledPlaces.{same-spot, spot-itself}

-- what is kept of a cell of a part, and of one without a part
pub kept-part : (ts : List TableCells) (s : BookSpot) (p : PartCells) → part_of ts s ≡ Some p → kept_at ts s ≡ get nat_cmp p.cells s.at.cell
kept-part ts s p is = by (slice_get ts s.table) is
  where
    by : (o : Option TableCells) → option_and_then (λ (t : TableCells). slice_get t.parts.items s.at.part) o ≡ Some p
        → option_and_then (λ (t : TableCells). option_and_then (λ (x : PartCells). get nat_cmp x.cells s.at.cell) (slice_get t.parts.items s.at.part)) o ≡ get nat_cmp p.cells s.at.cell
    by None h = absurd (none-some p h)
    by (Some t) h = ap (λ (o : Option PartCells). option_and_then (λ (x : PartCells). get nat_cmp x.cells s.at.cell) o) h

pub kept-nowhere : (ts : List TableCells) (s : BookSpot) → part_of ts s ≡ None → kept_at ts s ≡ None
kept-nowhere ts s is = by (slice_get ts s.table) is
  where
    by : (o : Option TableCells) → option_and_then (λ (t : TableCells). slice_get t.parts.items s.at.part) o ≡ None
        → option_and_then (λ (t : TableCells). option_and_then (λ (x : PartCells). get nat_cmp x.cells s.at.cell) (slice_get t.parts.items s.at.part)) o ≡ None
    by None h = refl
    by (Some t) h = ap (λ (o : Option PartCells). option_and_then (λ (x : PartCells). get nat_cmp x.cells s.at.cell) o) h

-- ---- keys

-- a cell has its key alone
pub one-key : (ts : List TableCells) → HaveOwnSlots ts → (s z : BookSpot) (p q : PartCells) → part_of ts s ≡ Some p → part_of ts z ≡ Some q → key_in p s ≡ key_in q z → s ≡ z
one-key ts slots s z p q at_s at_z same =
    let one = slots s z p q at_s at_z (ap (λ (k : ChangeKey). k.0.0) same) (ap (λ (k : ChangeKey). k.0.1) same) in
    same-spot s z
    (and_from _ _ (and_from _ _ (eq-eqb s.table z.table one.0) (eq-eqb s.at.part z.at.part one.1)) (eq-eqb s.at.cell z.at.cell (ap (λ (k : ChangeKey). k.1) same)))

-- what holds of all changed cells, and of one that is put, holds of all then
all-put : (P : ChangeKey × CellChange → Type 0) (es : List (ChangeKey × CellChange)) (k : ChangeKey) (x : CellChange) → All P es → P (k, x) → All P (insert_entry key_cmp es k x)
all-put P [] k x all own = All-cons P (k, x) [] own (All-nil P)
all-put P (e ∷ es) k x all own = by (key_cmp k e.0) refl (all-put P es k x (All-tail P e es all) own)
  where
    by : (o : Ordering) → key_cmp k e.0 ≡ o → All P (insert_entry key_cmp es k x) → All P (match_ordering o ((k, x) ∷ e ∷ es) ((e.0, x) ∷ es) (e ∷ insert_entry key_cmp es k x))
    by Less h rest = All-cons P (k, x) (e ∷ es) own all
    by Equal h rest = All-cons P (e.0, x) es (subst (λ q. P (q, x)) (key-exact k e.0 h) own) (All-tail P e es all)
    by Greater h rest = All-cons P e (insert_entry key_cmp es k x) (All-head P e es all) rest

-- ---- cells to which no entry comes

pub same-bits : (exact : Bool) (k : Kept) (v : ℕ) → is_same_kept exact k (record k { visible = v }) ≡ (k.visible == v)
same-bits exact k v =
    all (k.visible == v) (k.code == k.code) (k.number == k.number) (number_of k.key.items == number_of k.key.items) (number_of k.held.items == number_of k.held.items) (number_of k.mask.items == number_of k.mask.items) exact
    (eq-eqb k.code k.code refl) (eq-eqb k.number k.number refl) (eq-eqb (number_of k.key.items) (number_of k.key.items) refl) (eq-eqb (number_of k.held.items) (number_of k.held.items) refl)
    (eq-eqb (number_of k.mask.items) (number_of k.mask.items) refl)
  where
    all : (a c n x h m e : Bool) → c ≡ true → n ≡ true → x ≡ true → h ≡ true → m ≡ true → (((((a && c) && n) && x) && h) && (e || m)) ≡ a
    all true c n x h m e oc on ox oh om = rw oc (rw on (rw ox (rw oh (rw om (last e)))))
      where
        last : (b : Bool) → (b || true) ≡ true
        last true = refl
        last false = refl
    all false c n x h m e oc on ox oh om = refl

-- the write of other visible bits is that of what is left
left-is : (odd : Bool) (gone : List ℕ) (p : PartCells) (s : BookSpot) → left_write odd gone p s.at.cell (get nat_cmp p.cells s.at.cell) ≡ change_to p s (left_kept odd gone (get nat_cmp p.cells s.at.cell))
left-is odd gone p s = by (get nat_cmp p.cells s.at.cell)
  where
    exact : Bool
    exact = is_exact p.shape.grid

    by : (o : Option Kept) → left_write odd gone p s.at.cell o ≡ change_by exact p.stage p.place s.at.cell o (left_kept odd gone o)
    by None = refl
    by (Some k) = seen (is_seen odd k)
      where
        v : ℕ
        v = cond (is_among gone k.number) (bit_of odd) 3

        flip : (a b : ℕ) (x : Option CellWrite) → cond (a == b) None x ≡ cond (b == a) None x
        flip a b x = ap (λ t. cond t None x) (eqb-sym a b)

        seen : (b : Bool) → shown_write p.stage p.place s.at.cell k (option_map (λ (j : Kept). j.visible) (cond b (Some (record k { visible = v })) None))
            ≡ change_by exact p.stage p.place s.at.cell (Some k) (cond b (Some (record k { visible = v })) None)
        seen false = refl
        seen true = flip v k.visible (Some (kept_write p.stage p.place v k)) ∙ ap (λ t. cond t None (Some (kept_write p.stage p.place v k))) (sym (same-bits exact k v))

module _ (ts : List TableCells) (next : BookSpot → Option Kept) where
  -- where nothing was put, all stays on its way
  none-put : (m m2 : Changes) (at : BookSpot → Type 0) → m2 ≡ m → ((z : BookSpot) → at z → IsChanged ts next m2 z) → AreOnWay ts next m → MoreChanged ts next m m2 at
  none-put m m2 at put done way = record {
    some = record {
      spots = subst (All (IsOfTables ts)) (sym put) way.spots;
      each = λ z q at_z. elim (way.each z q at_z) [
        | inl a ↦ inl (ap (λ es. write_at es (key_in q z)) put ∙ a)
        | inr a ↦ inr (ap (λ es. write_at es (key_in q z)) put ∙ a)
      ];
    };
    stay = λ z h q at_z. ap (λ es. write_at es (key_in q z)) put ∙ h q at_z;
    done = done;
  }

module _ (ts : List TableCells) (next : BookSpot → Option Kept) (slots : HaveOwnSlots ts) where
  -- one cell more is changed
  put-more : (m m2 : Changes) (s : BookSpot) (p : PartCells) → part_of ts s ≡ Some p → (w : Option CellWrite) → w ≡ change_to p s (next s) → Puts m m2 (key_in p s) s w → AreOnWay ts next m → MoreChanged ts next m m2 (λ z. s ≡ z)
  put-more m m2 s p at None is put way = none-put ts next m m2 (λ z. s ≡ z) put (λ z same. subst (IsChanged ts next m2) same here) way
    where
      here : IsChanged ts next m2 s
      here q at_q =
          let one : p ≡ q = same_Some p q (sym at ∙ at_q) in
          let none : change_to q s (next s) ≡ None = ap (λ (x : PartCells). change_to x s (next s)) (sym one) ∙ sym is in
          ap (λ es. write_at es (key_in q s)) put ∙ (elim (way.each s q at_q) [
            | inl a ↦ a ∙ sym none
            | inr a ↦ a
          ])
  put-more m m2 s p at (Some w) is put way = record {
    some = record {
      spots = subst (All (IsOfTables ts)) (sym put) (all-put (IsOfTables ts) m (key_in p s) (record { spot = s; write = w }) way.spots (p, at, refl));
      each = λ z q at_z. by z q at_z (is_at (key_cmp (key_in q z)) (key_in p s)) refl (way.each z q at_z);
    };
    stay = λ z h q at_z. still z q at_z (is_at (key_cmp (key_in q z)) (key_in p s)) refl (h q at_z);
    done = λ z same. subst (IsChanged ts next m2) same here;
  }
    where
      reached : (z : BookSpot) (q : PartCells) → part_of ts z ≡ Some q → is_at (key_cmp (key_in q z)) (key_in p s) ≡ true → Some w ≡ change_to q z (next z)
      reached z q at_z e =
          let one : z ≡ s = one-key ts slots z s q p at_z at (same-key key-total key-exact (key_in q z) (key_in p s) e) in
          let two : q ≡ p = same_Some q p (sym at_z ∙ ap (part_of ts) one ∙ at) in
          is ∙ ap (λ (x : PartCells). change_to x s (next s)) (sym two) ∙ ap (λ (y : BookSpot). change_to q y (next y)) (sym one)

      by : (z : BookSpot) (q : PartCells) → part_of ts z ≡ Some q → (b : Bool) → is_at (key_cmp (key_in q z)) (key_in p s) ≡ b → (write_at m (key_in q z) ≡ None) ⊎ (write_at m (key_in q z) ≡ change_to q z (next z))
          → (write_at m2 (key_in q z) ≡ None) ⊎ (write_at m2 (key_in q z) ≡ change_to q z (next z))
      by z q at_z true e h = inr (write-put m m2 (key_in p s) (record { spot = s; write = w }) put (key_in q z) ∙ ap (λ b. cond b (Some w) (write_at m (key_in q z))) e ∙ reached z q at_z e)
      by z q at_z false e (inl a) = inl (write-put m m2 (key_in p s) (record { spot = s; write = w }) put (key_in q z) ∙ ap (λ b. cond b (Some w) (write_at m (key_in q z))) e ∙ a)
      by z q at_z false e (inr a) = inr (write-put m m2 (key_in p s) (record { spot = s; write = w }) put (key_in q z) ∙ ap (λ b. cond b (Some w) (write_at m (key_in q z))) e ∙ a)

      still : (z : BookSpot) (q : PartCells) → part_of ts z ≡ Some q → (b : Bool) → is_at (key_cmp (key_in q z)) (key_in p s) ≡ b → write_at m (key_in q z) ≡ change_to q z (next z) → write_at m2 (key_in q z) ≡ change_to q z (next z)
      still z q at_z true e h = write-put m m2 (key_in p s) (record { spot = s; write = w }) put (key_in q z) ∙ ap (λ b. cond b (Some w) (write_at m (key_in q z))) e ∙ reached z q at_z e
      still z q at_z false e h = write-put m m2 (key_in p s) (record { spot = s; write = w }) put (key_in q z) ∙ ap (λ b. cond b (Some w) (write_at m (key_in q z))) e ∙ h

      here : IsChanged ts next m2 s
      here q at_q = write-put m m2 (key_in p s) (record { spot = s; write = w }) put (key_in q s) ∙ ap (λ b. cond b (Some w) (write_at m (key_in q s))) own ∙ reached s q at_q own
        where
          own : is_at (key_cmp (key_in q s)) (key_in p s) ≡ true
          own = ap (λ (x : PartCells). is_at (key_cmp (key_in x s)) (key_in p s)) (same_Some q p (sym at_q ∙ at)) ∙ own-key key-total key-exact (key_in p s)

  pub fewer : (m m2 : Changes) (P Q : BookSpot → Type 0) → ((s : BookSpot) → Q s → P s) → MoreChanged ts next m m2 P → MoreChanged ts next m m2 Q
  fewer m m2 P Q sub h = record { some = h.some; stay = h.stay; done = λ s q. h.done s (sub s q) }

  pub more-more : (m m2 m3 : Changes) (P Q R : BookSpot → Type 0) → ((s : BookSpot) → R s → P s ⊎ Q s) → MoreChanged ts next m m2 P → MoreChanged ts next m2 m3 Q → MoreChanged ts next m m3 R
  more-more m m2 m3 P Q R split a b = record {
    some = b.some;
    stay = λ s h. b.stay s (a.stay s h);
    done = λ s r. elim (split s r) [
      | inl p ↦ b.stay s (a.done s p)
      | inr q ↦ b.done s q
    ];
  }

-- the cells of some numbers
abbrev pub HasOne : BTreeMap ℕ BookSpot → List ℕ → BookSpot → Type 0
HasOne found ns s = (n : ℕ) × Contains ns n × (get nat_cmp found n ≡ Some s)

module _ (ts : List TableCells) (odd : Bool) (gone : List ℕ) (slots : HaveOwnSlots ts) where
  abbrev pub left_at : BookSpot → Option Kept
  left_at s = left_kept odd gone (kept_at ts s)

  pub left-more : (m m2 : Changes) (s : BookSpot) → PutsLeft odd gone (part_of ts s) s m m2 → AreOnWay ts left_at m → MoreChanged ts left_at m m2 (λ z. s ≡ z)
  left-more m m2 s put way = by (part_of ts s) refl put
    where
      by : (o : Option PartCells) → part_of ts s ≡ o → PutsLeft odd gone o s m m2 → MoreChanged ts left_at m m2 (λ z. s ≡ z)
      by None is e = none-put ts left_at m m2 (λ z. s ≡ z) e (λ z same q at_z. absurd (none-some q (sym is ∙ ap (part_of ts) same ∙ at_z))) way
      by (Some p) is e =
          put-more ts left_at slots m m2 s p is (left_write odd gone p s.at.cell (get nat_cmp p.cells s.at.cell))
          (left-is odd gone p s ∙ ap (λ o. change_to p s (left_kept odd gone o)) (sym (kept-part ts s p is))) e way

  -- ---- one after another

  abbrev More : Changes → Changes → (BookSpot → Type 0) → Type 0
  More m m2 P = AreOnWay ts left_at m → MoreChanged ts left_at m m2 P

  pub recent-start : (m : Changes) (xs : List BookSpot) → More m m (Contains (take 0 xs))
  recent-start m xs way = record { some = way; stay = λ s h. h; done = λ s there. absurd (let lt = there.1 in omega (arith, lt)) }

  pub recent-more : (m m2 m3 : Changes) (xs : List BookSpot) (i : ℕ) (s : BookSpot) → slice_get xs i ≡ Some s → More m m2 (Contains (take i xs)) → PutsLeft odd gone (part_of ts s) s m2 m3 → More m m3 (Contains (take (i + 1) xs))
  recent-more m m2 m3 xs i s at before put way =
      let one = before way in
      more-more ts left_at slots m m2 m3 (Contains (take i xs)) (λ z. s ≡ z) (Contains (take (i + 1) xs))
      (λ z there. Contains-push_cases (take i xs) s z (subst (λ ys. Contains ys z) (take-slice_get xs i s at) there)) one (left-more m2 m3 s put one.some)

  pub recent-end : (m m2 : Changes) (xs : List BookSpot) (i : ℕ) → length xs ≤ i → More m m2 (Contains (take i xs)) → More m m2 (Contains xs)
  recent-end m m2 xs i past h = subst (λ ys. More m m2 (Contains ys)) (take-past xs i past) h

  pub gone-start : (m : Changes) (found : BTreeMap ℕ BookSpot) (ns : List ℕ) → More m m (HasOne found (take 0 ns))
  gone-start m found ns way = record { some = way; stay = λ s h. h; done = λ s one. absurd (let lt = one.1.1 in omega (arith, lt)) }

  gone-cases : (found : BTreeMap ℕ BookSpot) (ns : List ℕ) (i n : ℕ) → slice_get ns i ≡ Some n → (z : BookSpot) → HasOne found (take (i + 1) ns) z → HasOne found (take i ns) z ⊎ (get nat_cmp found n ≡ Some z)
  gone-cases found ns i n at z one =
      elim (Contains-push_cases (take i ns) n one.0 (subst (λ ys. Contains ys one.0) (take-slice_get ns i n at) one.1)) [
        | inl before ↦ inl (one.0, before, one.2)
        | inr same ↦ inr (ap (get nat_cmp found) same ∙ one.2)
      ]

  pub gone-more : (m m2 m3 : Changes) (found : BTreeMap ℕ BookSpot) (ns : List ℕ) (i n : ℕ) (s : BookSpot) → slice_get ns i ≡ Some n → get nat_cmp found n ≡ Some s → More m m2 (HasOne found (take i ns))
      → PutsLeft odd gone (part_of ts s) s m2 m3 → More m m3 (HasOne found (take (i + 1) ns))
  gone-more m m2 m3 found ns i n s at is before put way =
      let one = before way in
      more-more ts left_at slots m m2 m3 (HasOne found (take i ns)) (λ z. s ≡ z) (HasOne found (take (i + 1) ns))
      (λ z there. elim (gone-cases found ns i n at z there) [
        | inl h ↦ inl h
        | inr h ↦ inr (same_Some s z (sym is ∙ h))
      ]) one (left-more m2 m3 s put one.some)

  pub gone-less : (m m2 : Changes) (found : BTreeMap ℕ BookSpot) (ns : List ℕ) (i n : ℕ) → slice_get ns i ≡ Some n → get nat_cmp found n ≡ None → More m m2 (HasOne found (take i ns)) → More m m2 (HasOne found (take (i + 1) ns))
  gone-less m m2 found ns i n at none before way =
      fewer ts left_at slots m m2 (HasOne found (take i ns)) (HasOne found (take (i + 1) ns)) (λ z there. elim (gone-cases found ns i n at z there) [
        | inl h ↦ h
        | inr h ↦ absurd (none-some z (sym none ∙ h))
      ]) (before way)

  pub gone-end : (m m2 : Changes) (found : BTreeMap ℕ BookSpot) (ns : List ℕ) (i : ℕ) → length ns ≤ i → More m m2 (HasOne found (take i ns)) → More m m2 (HasOne found ns)
  gone-end m m2 found ns i past h = subst (λ ys. More m m2 (HasOne found ys)) (take-past ns i past) h

-- all cells that change are among those without both visible bits, and those from which entries go
module _ (ts : List TableCells) (odd : Bool) (gone : List ℕ) (slots : HaveOwnSlots ts) (ix : BookIndex) (finds : FindsCells ts ix) where
  abbrev goes : ℕ → Bool
  goes n = is_among gone n

  left-still : (k : Kept) → is_recent k ≡ false → goes k.number ≡ false → left_kept odd gone (Some k) ≡ Some k
  left-still k both stays =
      let three : k.visible ≡ 3 = eqb-true k.visible 3 (true_from_not (k.visible == 3) both) in
      ap (λ b. cond b (Some (record k { visible = cond (goes k.number) (bit_of odd) 3 })) None) (three-seen odd three)
      ∙ ap (λ b. Some (record k { visible = cond b (bit_of odd) 3 })) stays ∙ ap (λ v. Some (record k { visible = v })) (sym three)
    where
      true_from_not : (b : Bool) → not b ≡ false → b ≡ true
      true_from_not true e = refl
      true_from_not false e = absurd (false≢true (sym e))

      three-seen : (o : Bool) → k.visible ≡ 3 → is_seen o k ≡ true
      three-seen true e = ap (λ v. eqb (v / 2 % 2) 1) e
      three-seen false e = ap (λ v. eqb (v / 1 % 2) 1) e

  change-none : (p : PartCells) (s : BookSpot) (k : Kept) → get nat_cmp p.cells s.at.cell ≡ Some k → change_to p s (Some k) ≡ None
  change-none p s k got =
      ap (λ o. change_by (is_exact p.shape.grid) p.stage p.place s.at.cell o (Some k)) got
      ∙ ap (λ t. cond t None (Some (kept_write p.stage p.place k.visible k))) (same-bits (is_exact p.shape.grid) k k.visible ∙ eq-eqb k.visible k.visible refl)

  change-nothing : (p : PartCells) (s : BookSpot) → get nat_cmp p.cells s.at.cell ≡ None → change_to p s None ≡ None
  change-nothing p s got = ap (λ o. change_by (is_exact p.shape.grid) p.stage p.place s.at.cell o None) got

  pub all-left : (m m2 m3 : Changes) → m ≡ []
      → (AreOnWay ts (left_at ts odd gone slots) m → MoreChanged ts (left_at ts odd gone slots) m m2 (Contains ix.recent.items))
      → (AreOnWay ts (left_at ts odd gone slots) m2 → MoreChanged ts (left_at ts odd gone slots) m2 m3 (λ (s : BookSpot). (n : ℕ) × Contains gone n × (get nat_cmp ix.spots n ≡ Some s)))
      → AreChanged ts (λ s. left_kept odd gone (kept_at ts s)) m3
  all-left m m2 m3 empty first second = record {
    spots = two.some.spots;
    each = λ s p at. by s p at (kept_at ts s) refl;
  }
    where
      none : AreOnWay ts (left_at ts odd gone slots) m
      none = record {
        spots = subst (All (IsOfTables ts)) (sym empty) (All-nil (IsOfTables ts));
        each = λ s p at. inl (ap (λ es. write_at es (key_in p s)) empty);
      }

      one : MoreChanged ts (left_at ts odd gone slots) m m2 (Contains ix.recent.items)
      one = first none

      two : MoreChanged ts (left_at ts odd gone slots) m2 m3 (λ (s : BookSpot). (n : ℕ) × Contains gone n × (get nat_cmp ix.spots n ≡ Some s))
      two = second one.some

      by : (s : BookSpot) (p : PartCells) → part_of ts s ≡ Some p → (o : Option Kept) → kept_at ts s ≡ o → write_at m3 (key_in p s) ≡ change_to p s (left_kept odd gone (kept_at ts s))
      by s p at None is =
          let nothing : change_to p s (left_kept odd gone (kept_at ts s)) ≡ None = ap (λ q. change_to p s (left_kept odd gone q)) is ∙ change-nothing p s (sym (kept-part ts s p at) ∙ is) in
          elim (two.some.each s p at) [
            | inl a ↦ a ∙ sym nothing
            | inr a ↦ a
          ]
      by s p at (Some k) is = case (is_recent k) refl (goes k.number) refl
        where
          case : (r : Bool) → is_recent k ≡ r → (g : Bool) → goes k.number ≡ g → write_at m3 (key_in p s) ≡ change_to p s (left_kept odd gone (kept_at ts s))
          case true e g f = two.stay s (one.done s (finds.recent s k is e)) p at
          case false e true f = two.done s (k.number, Contains-from_any gone k.number f, finds.all s k is) p at
          case false e false f =
              let nothing : change_to p s (left_kept odd gone (kept_at ts s)) ≡ None =
              ap (λ q. change_to p s (left_kept odd gone q)) is ∙ ap (change_to p s) (left-still k e f) ∙ change-none p s k (sym (kept-part ts s p at) ∙ is) in
              elim (two.some.each s p at) [
                | inl a ↦ a ∙ sym nothing
                | inr a ↦ a
              ]

-- ---- cells to which entries come

module _ (ts : List TableCells) (slots : HaveOwnSlots ts) where
  -- an entry comes to a cell in which none of its number stands
  fresh-change : (x : Coming) (p : PartCells) → part_of ts x.spot ≡ Some p → IsFresh ts x → Some (kept_write p.stage p.place x.kept.visible x.kept) ≡ change_to p x.spot (Some x.kept)
  fresh-change x p at fresh = by (get nat_cmp p.cells x.spot.at.cell) refl
    where
      by : (o : Option Kept) → get nat_cmp p.cells x.spot.at.cell ≡ o → Some (kept_write p.stage p.place x.kept.visible x.kept) ≡ change_by (is_exact p.shape.grid) p.stage p.place x.spot.at.cell o (Some x.kept)
      by None is = refl
      by (Some k) is =
          let other : (k.number == x.kept.number) ≡ false = false_from_ne_true (k.number == x.kept.number) (λ e. fresh.new k (kept-part ts x.spot p at ∙ is) (eqb-true k.number x.kept.number e)) in
          ap (λ t. cond t None (Some (kept_write p.stage p.place x.kept.visible x.kept))) (sym (differs other))
        where
          differs : (k.number == x.kept.number) ≡ false → is_same_kept (is_exact p.shape.grid) k x.kept ≡ false
          differs other =
              off (k.visible == x.kept.visible) (k.code == x.kept.code) (k.number == x.kept.number) (number_of k.key.items == number_of x.kept.key.items) (number_of k.held.items == number_of x.kept.held.items)
              (is_exact p.shape.grid || (number_of k.mask.items == number_of x.kept.mask.items)) other
            where
              off : (a c n y h m : Bool) → n ≡ false → (((((a && c) && n) && y) && h) && m) ≡ false
              off true true n y h m e = rw e refl
              off true false n y h m e = refl
              off false c n y h m e = refl

  pub come-put : (next : BookSpot → Option Kept) (xs : List Coming) (x : Coming) (p : PartCells) (m m2 : Changes) → part_of ts x.spot ≡ Some p → IsFresh ts x
      → m2 ≡ insert_entry key_cmp m (key_in p x.spot) (record { spot = x.spot; write = kept_write p.stage p.place x.kept.visible x.kept })
      → AreChanged ts (λ s. come_to xs s (next s)) m → AreChanged ts (λ s. come_to (xs ++ x ∷ []) s (next s)) m2
  come-put next xs x p m m2 at fresh put changed = record {
    spots = subst (All (IsOfTables ts)) (sym put) (all-put (IsOfTables ts) m (key_in p x.spot) (record { spot = x.spot; write = w }) changed.spots (p, at, refl));
    each = λ z q at_z. write-put m m2 (key_in p x.spot) (record { spot = x.spot; write = w }) put (key_in q z) ∙ by z q at_z (is_at (key_cmp (key_in q z)) (key_in p x.spot)) refl ∙ ap (change_to q z) (sym (come-last xs x z (next z)));
  }
    where
      w : CellWrite
      w = kept_write p.stage p.place x.kept.visible x.kept

      by : (z : BookSpot) (q : PartCells) → part_of ts z ≡ Some q → (b : Bool) → is_at (key_cmp (key_in q z)) (key_in p x.spot) ≡ b
          → cond (is_at (key_cmp (key_in q z)) (key_in p x.spot)) (Some w) (write_at m (key_in q z)) ≡ change_to q z (cond (is_spot x.spot z) (Some x.kept) (come_to xs z (next z)))
      by z q at_z true e =
          let one : z ≡ x.spot = one-key ts slots z x.spot q p at_z at (same-key key-total key-exact (key_in q z) (key_in p x.spot) e) in
          let two : q ≡ p = same_Some q p (sym at_z ∙ ap (part_of ts) one ∙ at) in
          let own : is_spot x.spot z ≡ true = ap (is_spot x.spot) one ∙ spot-itself x.spot in
          ap (λ b. cond b (Some w) (write_at m (key_in q z))) e ∙ fresh-change x p at fresh ∙ ap (λ (y : PartCells). change_to y x.spot (Some x.kept)) (sym two)
          ∙ ap (λ (y : BookSpot). change_to q y (Some x.kept)) (sym one) ∙ ap (λ b. change_to q z (cond b (Some x.kept) (come_to xs z (next z)))) (sym own)
      by z q at_z false e =
          let other : is_spot x.spot z ≡ false = false_from_ne_true (is_spot x.spot z) (λ t. false≢true (sym e ∙ own (same-spot x.spot z t))) in
          ap (λ b. cond b (Some w) (write_at m (key_in q z))) e ∙ changed.each z q at_z ∙ ap (λ b. change_to q z (cond b (Some x.kept) (come_to xs z (next z)))) (sym other)
        where
          own : x.spot ≡ z → is_at (key_cmp (key_in q z)) (key_in p x.spot) ≡ true
          own one =
              let two : p ≡ q = same_Some p q (sym at ∙ ap (part_of ts) one ∙ at_z) in
              ap (λ (y : PartCells). is_at (key_cmp (key_in q z)) (key_in y x.spot)) two ∙ ap (λ (y : BookSpot). is_at (key_cmp (key_in q z)) (key_in q y)) one ∙ own-key key-total key-exact (key_in q z)

  -- entries one after another
  abbrev CameTo : (BookSpot → Option Kept) → List Coming → Changes → Type 0
  CameTo next xs m = AreChanged ts (λ s. come_to xs s (next s)) m

  pub come-step : (m m2 m3 : Changes) (xs : List Coming) (i : ℕ) (x : Coming) (p : PartCells) → slice_get xs i ≡ Some x → part_of ts x.spot ≡ Some p → IsFresh ts x
      → m3 ≡ insert_entry key_cmp m2 (key_in p x.spot) (record { spot = x.spot; write = kept_write p.stage p.place x.kept.visible x.kept })
      → ((next : BookSpot → Option Kept) → AreChanged ts next m → CameTo next (take i xs) m2) → (next : BookSpot → Option Kept) → AreChanged ts next m → CameTo next (take (i + 1) xs) m3
  come-step m m2 m3 xs i x p at at_p fresh put before next changed =
      subst (λ ys. CameTo next ys m3) (sym (take-slice_get xs i x at)) (come-put next (take i xs) x p m2 m3 at_p fresh put (before next changed))

  pub come-end : (m m2 : Changes) (xs : List Coming) (i : ℕ) → length xs ≤ i → ((next : BookSpot → Option Kept) → AreChanged ts next m → CameTo next (take i xs) m2) → (next : BookSpot → Option Kept) → AreChanged ts next m → CameTo next xs m2
  come-end m m2 xs i past before next changed = subst (λ ys. CameTo next ys m2) (take-past xs i past) (before next changed)

-- a cell of tables has a part
pub has-part : (ts : List TableCells) (s : BookSpot) → IsSpotIn ts s → part_of ts s ≡ None → ⊥
has-part ts s there none = by (slice_get ts s.table) there none
  where
    short : (ps : List PartCells) (n : ℕ) → n < length ps → slice_get ps n ≡ None → ⊥
    short [] n lt e = omega (arith, lt)
    short (p ∷ ps) zero lt e = none-some p (sym e)
    short (p ∷ ps) (suc n) lt e = short ps n (omega (arith, lt)) e

    by : (o : Option TableCells) → IsSomeAnd o (λ (t : TableCells). s.at.part < length t.parts.items) → option_and_then (λ (t : TableCells). slice_get t.parts.items s.at.part) o ≡ None → ⊥
    by None h e = absurd h
    by (Some t) h e = short t.parts.items s.at.part h e

-- a part is one of a cell of tables
pub part-there : (ts : List TableCells) (s : BookSpot) (p : PartCells) → part_of ts s ≡ Some p → IsSpotIn ts s
part-there ts s p is = by (slice_get ts s.table) is
  where
    by : (o : Option TableCells) → option_and_then (λ (t : TableCells). slice_get t.parts.items s.at.part) o ≡ Some p → IsSomeAnd o (λ (t : TableCells). s.at.part < length t.parts.items)
    by None h = absurd (none-some p h)
    by (Some t) h = slice_get_within t.parts.items s.at.part p h

-- changed cells are of tables, also once their cells changed
pub changes-there : (ts us : List TableCells) (es xs : Changes) → xs ≡ es → All (IsOfTables ts) es → AllZip IsStillTable ts us → All (λ (x : ChangeKey × CellChange). IsSpotIn us x.1.spot) xs
changes-there ts us es xs are all same =
    subst (All (λ (x : ChangeKey × CellChange). IsSpotIn us x.1.spot)) (sym are)
    (All-weaker (IsOfTables ts) (λ (e : ChangeKey × CellChange). IsSpotIn us e.1.spot) (λ e h. still-there ts us e.1.spot same (part-there ts e.1.spot h.0 h.1)) es all)
