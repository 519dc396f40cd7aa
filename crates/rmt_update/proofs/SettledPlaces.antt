-- Which entry has each cell of a book behind a commit that moves none, and what is kept of the cell then.
use Rattle.std.proofs.Common.{◌≡◌, ◌≢◌, ◌⊎◌, ℕ, ◌==◌, Bool, true, false, ◌&&◌, cond, List, [], ◌∷◌, ◌++◌, Option, Some, None, get_or, refl, sym, ap, ◌∙◌, subst, inl, inr, arith}
use Rattle.std.specs.Prelude.{All, AllPairs, Contains, find, slice_get}
use Rattle.std.specs.List.{AllZip}
use Rattle.std.proofs.lemmas.Bool.{and_parts, eq-eqb, eqb-true}
use Rattle.std.proofs.lemmas.List.Elements.{All-contains, All-head, All-tail, Contains-get_or}
use Rattle.std.proofs.lemmas.Option.{none-some}
use Rattle.rmt_bits.proofs.ListLaws.{find-passes}
use Rattle.rmt_bits.proofs.FindLaws.{find-some}
use Rattle.rmt_bits.proofs.MemberLaws.{Contains-item, Contains-split}
use Rattle.rmt_bits.proofs.PairLaws.{AllPairs-head, AllPairs-tail}
use Rattle.rmt_ast.specs.declared.entry.Entry.{Entry}
use Rattle.rmt_ast.specs.declared.names.Names.{Names}
use Rattle.rmt_config.specs.declared.config.Config.{Config}
use Rattle.rmt_config.specs.Commits.{Placed, all_entries, is_numbered_in}
use Rattle.rmt_config.specs.Rooms.{PartAt, is_at}
use Rattle.rmt_config.specs.RunCells.{RunCells}
use Rattle.rmt_update.specs.declared.book.Book.{Book}
use Rattle.rmt_book.specs.declared.kept.Kept.{Kept}
use Rattle.rmt_update.specs.declared.book.placing.Coming.{Coming}
use Rattle.rmt_book.specs.declared.spot.BookSpot.{BookSpot}
use Rattle.rmt_book.specs.declared.table.TableCells.{TableCells}
use Rattle.rmt_update.specs.BookStands.{BookStands}
use Rattle.rmt_update.specs.Placing.{AreStaying, IsBookSpot, StaysAt, TakesCell, room_of}
use Rattle.rmt_update.specs.Turning.{come_to, is_spot}
use Rattle.rmt_update.proofs.CellsFound.{one-spot, own_tables, room-is, spot-part}
use Rattle.rmt_update.proofs.OncePlaced.{found-in}
use Rattle.rmt_update.proofs.ZipLaws.{find-both}

pub same-spot : (a b : BookSpot) → is_spot a b ≡ true → a ≡ b
same-spot a b e =
    let two = and_parts _ _ e in
    let one = and_parts _ _ two.0 in
    ap (λ i. record { table = i; at = a.at }) (eqb-true a.table b.table one.0)
    ∙ ap (λ j. record { table = b.table; at = record { part = j; cell = a.at.cell } }) (eqb-true a.at.part b.at.part one.1)
    ∙ ap (λ n. record { table = b.table; at = record { part = b.at.part; cell = n } }) (eqb-true a.at.cell b.at.cell two.1)

pub spot-itself : (s : BookSpot) → is_spot s s ≡ true
spot-itself s = ap (λ b. (b && (s.at.part == s.at.part)) && (s.at.cell == s.at.cell)) (eq-eqb s.table s.table refl) ∙ ap (λ b. b && (s.at.cell == s.at.cell)) (eq-eqb s.at.part s.at.part refl) ∙ eq-eqb s.at.cell s.at.cell refl

-- the first of two lists that has an item that passes
pub find-front : {X : Type 0} (test : X → Bool) (xs ys : List X) (x : X) → find test xs ≡ Some x → find test (xs ++ ys) ≡ Some x
find-front test [] ys x e = absurd (none-some x e)
find-front test (z ∷ xs) ys x e = by (test z) e (find-front test xs ys x)
  where
    by : (b : Bool) → cond b (Some z) (find test xs) ≡ Some x → (find test xs ≡ Some x → find test (xs ++ ys) ≡ Some x) → cond b (Some z) (find test (xs ++ ys)) ≡ Some x
    by true h rest = h
    by false h rest = rest h

pub find-back : {X : Type 0} (test : X → Bool) (xs ys : List X) → find test xs ≡ None → find test (xs ++ ys) ≡ find test ys
find-back test [] ys e = refl
find-back test (z ∷ xs) ys e = by (test z) e (find-back test xs ys)
  where
    by : (b : Bool) → cond b (Some z) (find test xs) ≡ None → (find test xs ≡ None → find test (xs ++ ys) ≡ find test ys) → cond b (Some z) (find test (xs ++ ys)) ≡ find test ys
    by true h rest = absurd (none-some z (sym h))
    by false h rest = rest h

-- ---- what comes to a cell

pub none-come : (xs : List Coming) (s : BookSpot) (o : Option Kept) → All (λ (x : Coming). x.spot ≢ s) xs → come_to xs s o ≡ o
none-come [] s o all = refl
none-come (x ∷ xs) s o all = by (is_spot x.spot s) refl (none-come xs s o (All-tail (λ (y : Coming). y.spot ≢ s) x xs all))
  where
    by : (b : Bool) → is_spot x.spot s ≡ b → come_to xs s o ≡ o → come_to xs s (cond b (Some x.kept) o) ≡ o
    by true e rest = absurd (All-head (λ (y : Coming). y.spot ≢ s) x xs all (same-spot x.spot s e))
    by false e rest = rest

-- what comes to its own cell
pub come-here : (xs : List Coming) (x : Coming) (o : Option Kept) → AllPairs (λ (x y : Coming). x.spot ≢ y.spot) xs → Contains xs x → come_to xs x.spot o ≡ Some x.kept
come-here [] x o apart there = absurd (let lt = there.1 in omega (arith, lt))
come-here (y ∷ xs) x o apart there = elim (Contains-split y xs x there) [
  | inl same ↦
      ap (λ (z : Coming). come_to xs x.spot (cond (is_spot z.spot x.spot) (Some z.kept) o)) same
      ∙ ap (λ b. come_to xs x.spot (cond b (Some x.kept) o)) (spot-itself x.spot)
      ∙ none-come xs x.spot (Some x.kept) (λ k d lt e. AllPairs-head (λ (x y : Coming). x.spot ≢ y.spot) y xs apart k d lt (ap (λ (z : Coming). z.spot) same ∙ sym e))
  | inr later ↦ come-here xs x (cond (is_spot y.spot x.spot) (Some y.kept) o) (AllPairs-tail (λ (x y : Coming). x.spot ≢ y.spot) y xs apart) later
]

module _ (c : Config) (names : Names) (cells : RunCells) (lists : List (List Entry)) (b : Book) (stands : BookStands c cells lists b) (named : c.names ≡ Some names) where
  abbrev pub tables : List TableCells
  tables = own_tables c cells lists b stands

  abbrev pub part : (s : BookSpot) (at : IsBookSpot tables s) → PartAt
  part s at = (spot-part c cells lists b stands s at).part

  -- a room of a cell of a book is the cell of its part's slot
  pub room-at : (s : BookSpot) (at : IsBookSpot tables s) → is_at (part s at).stage (part s at).place s.at.cell (room_of c tables s) ≡ true
  room-at s at =
      ap (is_at (part s at).stage (part s at).place s.at.cell) (room-is c cells lists b stands s at)
      ∙ (ap (λ x. (x && ((part s at).place == (part s at).place)) && (s.at.cell == s.at.cell)) (eq-eqb (part s at).stage (part s at).stage refl)
      ∙ ap (λ x. x && (s.at.cell == s.at.cell)) (eq-eqb (part s at).place (part s at).place refl) ∙ eq-eqb s.at.cell s.at.cell refl)

  -- and of no other
  pub at-room : (s z : BookSpot) (at : IsBookSpot tables s) (az : IsBookSpot tables z) → is_at (part s at).stage (part s at).place s.at.cell (room_of c tables z) ≡ true → z ≡ s
  at-room s z at az e =
      let h : is_at (part s at).stage (part s at).place s.at.cell (record { part = part z az; cell = z.at.cell }) ≡ true = sym (ap (is_at (part s at).stage (part s at).place s.at.cell) (room-is c cells lists b stands z az)) ∙ e in
      let two = and_parts _ _ h in
      let one = and_parts _ _ two.0 in
      one-spot c cells lists b stands z s az at (eqb-true (part z az).stage (part s at).stage one.0) (eqb-true (part z az).place (part s at).place one.1) (eqb-true z.at.cell s.at.cell two.1)

  -- the entry of a cell that stays
  module _ (odd : Bool) (gone : List ℕ) (stay : List Placed) (staying : AreStaying c lists odd gone tables stay) where
    pub stay-found : (s : BookSpot) (at : IsBookSpot tables s) (p : Placed) → find (λ (q : Placed). is_at (part s at).stage (part s at).place s.at.cell q.room) stay ≡ Some p
        → StaysAt odd gone tables s p.entry
    stay-found s at p e =
        let h = All-contains (λ (q : Placed). (z : BookSpot) × StaysAt odd gone tables z q.entry × (q.room ≡ room_of c tables z)) stay p staying.each (found-in _ stay p e) in
        let is = sym (ap (is_at (part s at).stage (part s at).place s.at.cell) h.2) ∙ find-passes (λ (q : Placed). is_at (part s at).stage (part s at).place s.at.cell q.room) stay p e in
        subst (λ z. StaysAt odd gone tables z p.entry) (at-room s h.0 at h.1.at is) h.1

    pub stay-none : (s : BookSpot) (at : IsBookSpot tables s) (e : Entry) → find (λ (q : Placed). is_at (part s at).stage (part s at).place s.at.cell q.room) stay ≡ None → StaysAt odd gone tables s e → ⊥
    stay-none s at e none h =
        let there = find-some (λ (q : Placed). is_at (part s at).stage (part s at).place s.at.cell q.room) stay (record { entry = e; room = room_of c tables s }) (staying.all s e h) (room-at s at) in
        none-some there.0 (sym none ∙ there.1)

    pub stay-old : (s : BookSpot) (at : IsBookSpot tables s) (p : Placed) → find (λ (q : Placed). is_at (part s at).stage (part s at).place s.at.cell q.room) stay ≡ Some p → is_numbered_in (all_entries lists) p.entry ≡ true
    stay-old s at p e = All-contains (λ (q : Placed). is_numbered_in (all_entries lists) q.entry ≡ true) stay p staying.old (found-in _ stay p e)

  -- an entry that comes to a cell
  pub record ComesTo (seed : ℕ) (odd : Bool) (s : BookSpot) (qs : List Placed) (xs : List Coming) (found : Option Placed) : Type 0 where
    pub i : ℕ
    pub q : Placed
    pub x : Coming
    pub there : slice_get qs i ≡ Some q
    pub kept : slice_get xs i ≡ Some x
    pub takes : TakesCell c seed odd tables q x
    pub spot : x.spot ≡ s
    pub is : found ≡ Some q
    pub comes : (o : Option Kept) → come_to xs s o ≡ Some x.kept

  -- or none
  pub record NoneComes (s : BookSpot) (xs : List Coming) (found : Option Placed) : Type 0 where
    pub none : found ≡ None
    pub apart : All (λ (x : Coming). x.spot ≢ s) xs

  pub come-or-not : (seed : ℕ) (odd : Bool) (s : BookSpot) (at : IsBookSpot tables s) (qs : List Placed) (xs : List Coming) → AllZip (TakesCell c seed odd tables) qs xs → AllPairs (λ (x y : Coming). x.spot ≢ y.spot) xs
      → ComesTo seed odd s qs xs (find (λ (q : Placed). is_at (part s at).stage (part s at).place s.at.cell q.room) qs)
      ⊎ NoneComes s xs (find (λ (q : Placed). is_at (part s at).stage (part s at).place s.at.cell q.room) qs)
  come-or-not seed odd s at qs xs zip apart = elim (find-both (TakesCell c seed odd tables) test (λ (x : Coming). is_spot x.spot s) same qs xs zip) [
    | inl none ↦
        inr (record {
          none = none.0;
          apart = λ k d lt is.
              let found = find-some (λ (x : Coming). is_spot x.spot s) xs (get_or xs k d) (Contains-get_or xs k d lt) (ap (λ z. is_spot z s) is ∙ spot-itself s) in none-some found.0 (sym none.1 ∙ found.1);
        })
    | inr h ↦
        let spot = same-spot h.y.spot s (find-passes (λ (x : Coming). is_spot x.spot s) xs h.y h.second) in
        inl (record {
          i = h.i;
          q = h.x;
          x = h.y;
          there = h.at;
          kept = h.beside.0;
          takes = h.beside.1;
          spot = spot;
          is = h.first;
          comes = λ o. subst (λ z. come_to xs z o ≡ Some h.y.kept) spot (come-here xs h.y o apart (Contains-item xs h.i h.y h.beside.0));
        })
  ]
    where
      test : Placed → Bool
      test p = is_at (part s at).stage (part s at).place s.at.cell p.room

      same : (q : Placed) (x : Coming) → TakesCell c seed odd tables q x → is_spot x.spot s ≡ test q
      same q x takes = by (is_spot x.spot s) refl (test q) refl
        where
          by : (b : Bool) → is_spot x.spot s ≡ b → (t : Bool) → test q ≡ t → b ≡ t
          by true e true t = refl
          by true e false t = sym (sym t ∙ ap (is_at (part s at).stage (part s at).place s.at.cell) (takes.room ∙ ap (room_of c tables) (same-spot x.spot s e)) ∙ room-at s at)
          by false e true t = sym e ∙ ap (λ z. is_spot z s) (at-room s x.spot at takes.at (sym (ap (is_at (part s at).stage (part s at).place s.at.cell) takes.room) ∙ t)) ∙ spot-itself s
          by false e false t = refl
