-- A cell is free for an entry that comes where it is free in the cells of the run.
use Rattle.std.proofs.Common.{◌≡◌, ℕ, zero, suc, ◌+◌, ◌-◌, ◌/◌, ◌%◌, ◌^◌, ◌<◌, ◌≤◌, Bool, true, false, not, ◌&&◌, cond, eqb, List, [], ◌∷◌, ◌++◌, map, Option, Some, None, option_map, refl, sym, ap, subst, ◌∙◌, arith}
use Rattle.std.specs.Prelude.{All, find, slice_get}
use Rattle.std.specs.List.{AllZip, list_any}
use Rattle.std.specs.BTreeMap.{get}
use Rattle.std.specs.BTreeSet.{BTreeSet, contains}
use Rattle.std.specs.Ordering.{nat_cmp}
use Rattle.std.proofs.lemmas.List.Elements.{All-head, All-tail}
use Rattle.rmt_config.specs.Cells.{Content, cells_in}
use Rattle.rmt_config.specs.Commits.{Placed, is_free}
use Rattle.rmt_config.specs.Rooms.{PartAt, Room, is_same}
use Rattle.rmt_config.specs.RunCells.{RunCells, has_bit}
use Rattle.rmt_book.specs.declared.kept.Kept.{Kept}
use Rattle.rmt_book.specs.declared.spots.Spot.{Spot}
use Rattle.rmt_book.specs.declared.table.PartCells.{PartCells}
use Rattle.rmt_update.specs.BookStands.{HoldsPart, IsKeptOf}
use Rattle.rmt_update.specs.Open.{first_of, first_open, in_part, is_kept_seen, is_open}
use Rattle.rmt_book.specs.Seen.{is_seen}

-- ---- the visible bit of a version

bit-of : (r vis head : ℕ) → r < 2 → vis ≡ head / 2 % 4 → vis / cond (eqb r 1) 2 1 % 2 ≡ head / 2 ^ (1 + r) % 2
bit-of zero vis head lt e = let l : vis / 1 % 2 ≡ head / 2 % 2 = omega (arith, e) in l
bit-of (suc zero) vis head lt e = let l : vis / 2 % 2 ≡ head / 4 % 2 = omega (arith, e) in l
bit-of (suc (suc r)) vis head lt e = absurd (omega (arith, lt))

empty-bit : (r : ℕ) → r < 2 → eqb (0 / 2 ^ (1 + r) % 2) 1 ≡ false
empty-bit zero lt = refl
empty-bit (suc zero) lt = refl
empty-bit (suc (suc r)) lt = absurd (omega (arith, lt))

-- a version sees what is kept where its bit is set
pub seen-bit : (v : ℕ) (odd : Bool) (k : Kept) (head : ℕ) → odd ≡ eqb (v % 2) 1 → k.visible ≡ head / 2 % 4 → is_seen odd k ≡ has_bit v head
seen-bit v odd k head is e = ap (λ (b : Bool). eqb (k.visible / cond b 2 1 % 2) 1) is ∙ ap (λ n. eqb n 1) (bit-of (v % 2) k.visible head (omega arith) e)

pub empty-unseen : (v : ℕ) → has_bit v 0 ≡ false
empty-unseen v = empty-bit (v % 2) (omega arith)

pub kept-bit : (cells : RunCells) (p : PartAt) (x : PartCells) (odd : Bool) → odd ≡ eqb (cells.version % 2) 1 → HoldsPart cells p x → (n : ℕ) → n < cells_in p.slot.memory
    → is_kept_seen odd (get nat_cmp x.cells n) ≡ has_bit cells.version (cells.content p.stage p.place n).head
kept-bit cells p x odd is holds n lt = by (get nat_cmp x.cells n) (holds.each n lt)
  where
    by : (o : Option Kept) → IsKeptOf cells.seed p (cells.content p.stage p.place n) (record { cell = n; number = cells.number p.stage p.place n }) o
        → is_kept_seen odd o ≡ has_bit cells.version (cells.content p.stage p.place n).head
    by None h = sym (ap (λ (y : Content). has_bit cells.version y.head) h.0 ∙ empty-unseen cells.version)
    by (Some k) h = seen-bit cells.version odd k (cells.content p.stage p.place n).head is h.1.visible

-- ---- free cells

-- the entries that have rooms by now have no unseen cells of a part but those that were given
abbrev pub AreGiven : RunCells → List Placed → PartAt → BTreeSet ℕ → Type 0
AreGiven cells placed p g = (n : ℕ) → has_bit cells.version (cells.content p.stage p.place n).head ≡ false
    → list_any (λ (q : Placed). is_same q.room (record { part = p; cell = n })) placed ≡ contains nat_cmp g n

open-free : (cells : RunCells) (placed : List Placed) (p : PartAt) (x : PartCells) (g : BTreeSet ℕ) (odd : Bool) → odd ≡ eqb (cells.version % 2) 1 → HoldsPart cells p x → AreGiven cells placed p g
    → (n : ℕ) → n < cells_in p.slot.memory → is_free cells placed (record { part = p; cell = n }) ≡ is_open odd x g n
open-free cells placed p x g odd is holds given n lt =
    by (has_bit cells.version (cells.content p.stage p.place n).head) refl
    ∙ ap (λ b. not b && not (contains nat_cmp g n)) (sym (kept-bit cells p x odd is holds n lt))
  where
    by : (b : Bool) → has_bit cells.version (cells.content p.stage p.place n).head ≡ b
        → (not b && not (list_any (λ (q : Placed). is_same q.room (record { part = p; cell = n })) placed)) ≡ (not b && not (contains nat_cmp g n))
    by true e = refl
    by false e = ap not (given n e)

-- the rooms of cells of a part
abbrev pub rooms_at : PartAt → List ℕ → List Room
rooms_at p ns = map (λ n. record { part = p; cell = n }) ns

find-free : (cells : RunCells) (placed : List Placed) (p : PartAt) (x : PartCells) (g : BTreeSet ℕ) (odd : Bool) → odd ≡ eqb (cells.version % 2) 1 → HoldsPart cells p x → AreGiven cells placed p g
    → (ns : List ℕ) → All (λ n. n < cells_in p.slot.memory) ns → find (is_free cells placed) (rooms_at p ns) ≡ option_map (λ n. record { part = p; cell = n }) (find (is_open odd x g) ns)
find-free cells placed p x g odd is holds given [] all = refl
find-free cells placed p x g odd is holds given (n ∷ ns) all =
    ap (λ b. cond b (Some (record { part = p; cell = n })) (find (is_free cells placed) (rooms_at p ns))) (open-free cells placed p x g odd is holds given n (All-head (λ n. n < cells_in p.slot.memory) n ns all))
    ∙ by (is_open odd x g n) (find-free cells placed p x g odd is holds given ns (All-tail (λ n. n < cells_in p.slot.memory) n ns all))
  where
    by : (b : Bool) → find (is_free cells placed) (rooms_at p ns) ≡ option_map (λ n. record { part = p; cell = n }) (find (is_open odd x g) ns)
        → cond b (Some (record { part = p; cell = n })) (find (is_free cells placed) (rooms_at p ns)) ≡ option_map (λ n. record { part = p; cell = n }) (cond b (Some n) (find (is_open odd x g) ns))
    by true rest = refl
    by false rest = rest

-- ---- over the parts

-- the first room is that of a spot among parts, of which the first has this place
abbrev pub FirstIs : List PartAt → ℕ → Option Spot → Option Room → Type 0
FirstIs ps at None None = Unit {0}
FirstIs ps at None (Some r) = ⊥
FirstIs ps at (Some s) None = ⊥
FirstIs ps at (Some s) (Some r) = (at ≤ s.part) × (slice_get ps (s.part - at) ≡ Some r.part) × (r.cell ≡ s.cell)

-- the first of two rooms
abbrev pub first_room : Option Room → Option Room → Option Room
first_room (Some r) other = Some r
first_room None other = other

find-joined : (test : Room → Bool) (xs ys : List Room) → find test (xs ++ ys) ≡ first_room (find test xs) (find test ys)
find-joined test [] ys = refl
find-joined test (x ∷ xs) ys = by (test x) (find-joined test xs ys)
  where
    by : (b : Bool) → find test (xs ++ ys) ≡ first_room (find test xs) (find test ys) → cond b (Some x) (find test (xs ++ ys)) ≡ first_room (cond b (Some x) (find test xs)) (find test ys)
    by true rest = refl
    by false rest = rest

-- what stands behind the first part
first-behind : (p : PartAt) (ps : List PartAt) (at : ℕ) (o : Option Spot) (r : Option Room) → FirstIs ps (at + 1) o r → FirstIs (p ∷ ps) at o r
first-behind p ps at None None h = tt
first-behind p ps at None (Some r) h = absurd h
first-behind p ps at (Some s) None h = absurd h
first-behind p ps at (Some s) (Some r) h =
    let le = h.0 in
    let place : s.part - at ≡ suc (s.part - (at + 1)) = omega (arith, le) in
    (omega (arith, le), ap (slice_get (p ∷ ps)) place ∙ h.1, h.2)

module _ (cells : RunCells) (placed : List Placed) (odd : Bool) (is : odd ≡ eqb (cells.version % 2) 1) where
  -- cells of each part, all within it
  abbrev AreWithin : PartAt → List ℕ → Type 0
  AreWithin p ns = All (λ n. n < cells_in p.slot.memory) ns

  -- the rooms of cells of each part
  abbrev pub all_rooms : List PartAt → List (List ℕ) → List Room
  all_rooms [] css = []
  all_rooms (p ∷ ps) [] = []
  all_rooms (p ∷ ps) (cs ∷ css) = rooms_at p cs ++ all_rooms ps css

  -- the first free cell is the first free room
  pub first-free : (at : ℕ) (ps : List PartAt) (xs : List PartCells) (gs : List (BTreeSet ℕ)) (css : List (List ℕ)) → AllZip (HoldsPart cells) ps xs → AllZip (AreGiven cells placed) ps gs
      → AllZip AreWithin ps css → FirstIs ps at (first_open odd at xs gs css) (find (is_free cells placed) (all_rooms ps css))
  first-free at [] [] [] [] hold given within = tt
  first-free at [] (x ∷ xs) gs css hold given within = absurd hold
  first-free at [] [] (g ∷ gs) css hold given within = absurd given
  first-free at [] [] [] (cs ∷ css) hold given within = absurd within
  first-free at (p ∷ ps) [] gs css hold given within = absurd hold
  first-free at (p ∷ ps) (x ∷ xs) [] css hold given within = absurd given
  first-free at (p ∷ ps) (x ∷ xs) (g ∷ gs) [] hold given within = absurd within
  first-free at (p ∷ ps) (x ∷ xs) (g ∷ gs) (cs ∷ css) hold given within =
      let rest = first-free (at + 1) ps xs gs css hold.1 given.1 within.1 in
      let joined = find-joined (is_free cells placed) (rooms_at p cs) (all_rooms ps css)
      ∙ ap (λ o. first_room o (find (is_free cells placed) (all_rooms ps css))) (find-free cells placed p x g odd is hold.0 given.0 cs within.0) in
      subst (FirstIs (p ∷ ps) at (first_open odd at (x ∷ xs) (g ∷ gs) (cs ∷ css))) (sym joined) (by (find (is_open odd x g) cs) (first_open odd (at + 1) xs gs css) (find (is_free cells placed) (all_rooms ps css)) rest)
    where
      by : (o : Option ℕ) (s : Option Spot) (r : Option Room) → FirstIs ps (at + 1) s r → FirstIs (p ∷ ps) at (first_of (in_part at o) s) (first_room (option_map (λ n. record { part = p; cell = n }) o) r)
      by None s r rest = first-behind p ps at s r rest
      by (Some n) s r rest = let none : at - at ≡ 0 = omega arith in (omega arith, ap (slice_get (p ∷ ps)) none, refl)
