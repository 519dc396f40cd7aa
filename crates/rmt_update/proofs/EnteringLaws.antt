-- Cells of tables that change in their places, one after another, and back.
use Rattle.std.proofs.Common.{◌≡◌, ℕ, zero, suc, ◌<◌, ◌≤◌, Bool, true, false, ◌&&◌, cond, eqb, List, [], ◌∷◌, ◌++◌, length, slice_set, Option, Some, None, Vec, Result, Ok, Err, refl, sym, ap, ◌∙◌, subst, arith}
use native.Mathlib.Bridge.{le_prop}
use Rattle.std.specs.Prelude.{All, IsSome, IsSomeAnd, OnOk, is_err, is_ok, option_and_then, slice_get}
use Rattle.std.specs.Global.{Global}
use Rattle.std.specs.List.{AllZip}
use Rattle.std.specs.BTreeMap.{BTreeMap, WritesThrough, get, is_at}
use Rattle.std.specs.Ordering.{nat_cmp}
use Rattle.std.proofs.lemmas.Bool.{eq-eqb, eqb-true, false≢true}
use Rattle.std.proofs.lemmas.List.Elements.{All-cons, All-head, All-nil, All-push, All-tail, All-weaker}
use Rattle.std.proofs.lemmas.Option.{none-some, same_Some, slice_get_within}
use Rattle.rmt_bits.proofs.ListLaws.{slice_get-set_other, slice_get-set_same}
use Rattle.rmt_book.specs.declared.kept.Kept.{Kept}
use Rattle.rmt_update.specs.declared.book.placing.Coming.{Coming}
use Rattle.rmt_book.specs.declared.spot.BookSpot.{BookSpot}
use Rattle.rmt_book.specs.declared.spots.Spot.{Spot}
use Rattle.rmt_book.specs.declared.table.PartCells.{PartCells}
use Rattle.rmt_book.specs.declared.table.TableCells.{TableCells}
use Rattle.rmt_update.specs.declared.book.turning.CellTurn.{CellTurn}
use Rattle.rmt_book.specs.BookSpots.{kept_at}
use Rattle.rmt_update.specs.Turning.{HaveCells, IsSpotIn, IsStill, IsStillTable, LeadBack, PartWith, PartsWith, TablesWith, cell_at, come_to, is_spot, turn_to, turned, turned_by}
use Rattle.rmt_book.proofs.RankLaws.{same-number}
use Rattle.rmt_update.proofs.SettledPlaces.{same-spot}
use Rattle.rmt_update.proofs.ZipLaws.{zip-left, zip-length}

-- ---- the same parts

still-itself : (p : PartCells) → IsStill p p
still-itself p = record { stage = refl; place = refl; first = refl; shape = refl; ordered = λ h. h }

still-on : (p q r : PartCells) → IsStill p q → IsStill q r → IsStill p r
still-on p q r a d = record { stage = d.stage ∙ a.stage; place = d.place ∙ a.place; first = d.first ∙ a.first; shape = d.shape ∙ a.shape; ordered = λ h. d.ordered (a.ordered h) }

zip-itself : {X : Type 0} (R : X → X → Type 0) → ((x : X) → R x x) → (xs : List X) → AllZip R xs xs
zip-itself R own [] = tt
zip-itself R own (x ∷ xs) = (own x, zip-itself R own xs)

zip-on : {X : Type 0} (R : X → X → Type 0) → ((x y z : X) → R x y → R y z → R x z) → (xs ys zs : List X) → AllZip R xs ys → AllZip R ys zs → AllZip R xs zs
zip-on R on [] [] [] a d = tt
zip-on R on [] [] (z ∷ zs) a d = absurd d
zip-on R on [] (y ∷ ys) zs a d = absurd a
zip-on R on (x ∷ xs) [] zs a d = absurd a
zip-on R on (x ∷ xs) (y ∷ ys) [] a d = absurd d
zip-on R on (x ∷ xs) (y ∷ ys) (z ∷ zs) a d = (on x y z a.0 d.0, zip-on R on xs ys zs a.1 d.1)

zip-set : {X : Type 0} (R : X → X → Type 0) → ((x : X) → R x x) → (xs : List X) (i : ℕ) (x y : X) → slice_get xs i ≡ Some x → R x y → AllZip R xs (slice_set xs i y)
zip-set R own [] i x y at h = absurd (none-some x at)
zip-set R own (z ∷ xs) zero x y at h = (subst (λ w. R w y) (sym (same_Some z x at)) h, zip-itself R own xs)
zip-set R own (z ∷ xs) (suc i) x y at h = (own z, zip-set R own xs i x y at h)

table-itself : (t : TableCells) → IsStillTable t t
table-itself t = (refl, zip-itself IsStill still-itself t.parts.items)

table-on : (t u v : TableCells) → IsStillTable t u → IsStillTable u v → IsStillTable t v
table-on t u v a d = (d.0 ∙ a.0, zip-on IsStill still-on t.parts.items u.parts.items v.parts.items a.1 d.1)

pub tables-itself : (ts : List TableCells) → AllZip IsStillTable ts ts
tables-itself ts = zip-itself IsStillTable table-itself ts

pub tables-on : (ts us vs : List TableCells) → AllZip IsStillTable ts us → AllZip IsStillTable us vs → AllZip IsStillTable ts vs
tables-on ts us vs a d = zip-on IsStillTable table-on ts us vs a d

-- ---- one cell

-- of parts
pub part-put : (ps : List PartCells) (at : Spot) (make : Option Kept → Option Kept) (p q : PartCells) → slice_get ps at.part ≡ Some p → PartWith at.cell make p q → PartsWith at make ps (slice_set ps at.part q)
part-put ps at make p q here put = record {
  same = zip-set IsStill still-itself ps at.part p q here put.still;
  each = λ s. by s (eqb at.part s.part) refl;
}
  where
    in_part : ℕ → Option PartCells → Option Kept
    in_part n o = option_and_then (λ (x : PartCells). get nat_cmp x.cells n) o

    by : (s : Spot) (b : Bool) → eqb at.part s.part ≡ b → cell_at (slice_set ps at.part q) s ≡ cond (eqb at.part s.part && eqb at.cell s.cell) (make (cell_at ps s)) (cell_at ps s)
    by s true e =
        let same = eqb-true at.part s.part e in
        let old : cell_at ps s ≡ get nat_cmp p.cells s.cell = ap (λ i. option_and_then (λ (x : PartCells). get nat_cmp x.cells s.cell) (slice_get ps i)) (sym same) ∙ ap (λ o. option_and_then (λ (x : PartCells). get nat_cmp x.cells s.cell) o) here in
        ap (λ i. option_and_then (λ (x : PartCells). get nat_cmp x.cells s.cell) (slice_get (slice_set ps at.part q) i)) (sym same)
        ∙ ap (λ o. option_and_then (λ (x : PartCells). get nat_cmp x.cells s.cell) o) (slice_get-set_same ps at.part p q here)
        ∙ put.each s.cell ∙ ap (λ o. cond (eqb at.cell s.cell) (make o) o) (sym old) ∙ ap (λ b. cond (b && eqb at.cell s.cell) (make (cell_at ps s)) (cell_at ps s)) (sym e)
    by s false e =
        ap (λ o. option_and_then (λ (x : PartCells). get nat_cmp x.cells s.cell) o) (slice_get-set_other ps at.part s.part q (λ same. false≢true (sym e ∙ eq-eqb at.part s.part (sym same))))
        ∙ ap (λ b. cond (b && eqb at.cell s.cell) (make (cell_at ps s)) (cell_at ps s)) (sym e)

-- and of tables
pub table-put : (ts : List TableCells) (at : BookSpot) (make : Option Kept → Option Kept) (t : TableCells) (ps : Vec PartCells Global) → slice_get ts at.table ≡ Some t → PartsWith at.at make t.parts.items ps.items
    → TablesWith at make ts (slice_set ts at.table (record { name = t.name; parts = ps }))
table-put ts at make t ps here put = record {
  same = zip-set IsStillTable table-itself ts at.table t u here (refl, put.same);
  each = λ s. by s (eqb at.table s.table) refl;
}
  where
    u : TableCells
    u = record { name = t.name; parts = ps }

    by : (s : BookSpot) (b : Bool) → eqb at.table s.table ≡ b
        → kept_at (slice_set ts at.table u) s ≡ cond ((eqb at.table s.table && eqb at.at.part s.at.part) && eqb at.at.cell s.at.cell) (make (kept_at ts s)) (kept_at ts s)
    by s true e =
        let same = eqb-true at.table s.table e in
        let old : kept_at ts s ≡ cell_at t.parts.items s.at = ap (λ i. option_and_then (λ (y : TableCells). cell_at y.parts.items s.at) (slice_get ts i)) (sym same) ∙ ap (λ o. option_and_then (λ (y : TableCells). cell_at y.parts.items s.at) o) here in
        ap (λ i. option_and_then (λ (y : TableCells). cell_at y.parts.items s.at) (slice_get (slice_set ts at.table u) i)) (sym same)
        ∙ ap (λ o. option_and_then (λ (y : TableCells). cell_at y.parts.items s.at) o) (slice_get-set_same ts at.table t u here)
        ∙ put.each s.at ∙ ap (λ o. cond (eqb at.at.part s.at.part && eqb at.at.cell s.at.cell) (make o) o) (sym old)
        ∙ ap (λ b. cond ((b && eqb at.at.part s.at.part) && eqb at.at.cell s.at.cell) (make (kept_at ts s)) (kept_at ts s)) (sym e)
    by s false e =
        ap (λ o. option_and_then (λ (y : TableCells). cell_at y.parts.items s.at) o) (slice_get-set_other ts at.table s.table u (λ same. false≢true (sym e ∙ eq-eqb at.table s.table (sym same))))
        ∙ ap (λ b. cond ((b && eqb at.at.part s.at.part) && eqb at.at.cell s.at.cell) (make (kept_at ts s)) (kept_at ts s)) (sym e)

-- a cell that was there is there
pub still-there : (ts us : List TableCells) (s : BookSpot) → AllZip IsStillTable ts us → IsSpotIn ts s → IsSpotIn us s
still-there ts us s zip there = by (slice_get ts s.table) refl there
  where
    by : (o : Option TableCells) → slice_get ts s.table ≡ o → IsSomeAnd o (λ (t : TableCells). s.at.part < length t.parts.items) → IsSpotIn us s
    by None is h = absurd h
    by (Some t) is h =
        let u = zip-left IsStillTable ts us s.table t zip is in
        let same = zip-length IsStill t.parts.items u.0.parts.items u.2.1 in
        subst (λ (o : Option TableCells). IsSomeAnd o (λ (x : TableCells). s.at.part < length x.parts.items)) (sym u.1) (omega (arith, h, same))

pub there-within : (ts : List TableCells) (s : BookSpot) → IsSpotIn ts s → s.table < length ts
there-within ts s there = by (slice_get ts s.table) refl there
  where
    by : (o : Option TableCells) → slice_get ts s.table ≡ o → IsSomeAnd o (λ (t : TableCells). s.at.part < length t.parts.items) → s.table < length ts
    by None is h = absurd h
    by (Some t) is h = slice_get_within ts s.table t is

pub there-part : (ts : List TableCells) (s : BookSpot) (t : TableCells) → slice_get ts s.table ≡ Some t → IsSpotIn ts s → s.at.part < length t.parts.items
there-part ts s t is there = subst (λ (o : Option TableCells). IsSomeAnd o (λ (x : TableCells). s.at.part < length x.parts.items)) is there

-- ---- turns one after another

pub turned-append : (xs ys : List CellTurn) (s : BookSpot) (o : Option Kept) → turned (xs ++ ys) s o ≡ turned xs s (turned ys s o)
turned-append [] ys s o = refl
turned-append (x ∷ xs) ys s o = ap (λ q. cond (is_spot x.spot s) (turned_by x.turn q) q) (turned-append xs ys s o)

-- the turns that are left, and those that were made
pub record AreTurning (ts us : List TableCells) (all left : List CellTurn) : Type 0 where
  pub same : AllZip IsStillTable ts us
  pub spots : All (λ (x : CellTurn). IsSpotIn us x.spot) left
  pub each : (s : BookSpot) → turned left s (kept_at us s) ≡ turned all s (kept_at ts s)

pub turning-none : (ts : List TableCells) (all : List CellTurn) → All (λ (x : CellTurn). IsSpotIn ts x.spot) all → AreTurning ts ts all all
turning-none ts all spots = record { same = tables-itself ts; spots = spots; each = λ s. refl }

all-front : {X : Type 0} (P : X → Type 0) (xs : List X) (x : X) → All P (xs ++ x ∷ []) → All P xs
all-front P [] x all = All-nil P
all-front P (y ∷ ys) x all = All-cons P y ys (All-head P y (ys ++ x ∷ []) all) (all-front P ys x (All-tail P y (ys ++ x ∷ []) all))

all-last : {X : Type 0} (P : X → Type 0) (xs : List X) (x : X) → All P (xs ++ x ∷ []) → P x
all-last P [] x all = All-head P x [] all
all-last P (y ∷ ys) x all = all-last P ys x (All-tail P y (ys ++ x ∷ []) all)

pub turning-last : (ts us : List TableCells) (all left rest : List CellTurn) (x : CellTurn) → left ≡ rest ++ x ∷ [] → AreTurning ts us all left → IsSpotIn us x.spot
turning-last ts us all left rest x is h = all-last (λ (y : CellTurn). IsSpotIn us y.spot) rest x (subst (All (λ (y : CellTurn). IsSpotIn us y.spot)) is h.spots)

pub turning-more : (ts us vs : List TableCells) (all left rest : List CellTurn) (x : CellTurn) → left ≡ rest ++ x ∷ [] → AreTurning ts us all left → TablesWith x.spot (turned_by x.turn) us vs → AreTurning ts vs all rest
turning-more ts us vs all left rest x is h put = record {
  same = tables-on ts us vs h.same put.same;
  spots =
      All-weaker (λ (y : CellTurn). IsSpotIn us y.spot) (λ (y : CellTurn). IsSpotIn vs y.spot) (λ y. still-there us vs y.spot put.same) rest
      (all-front (λ (y : CellTurn). IsSpotIn us y.spot) rest x (subst (All (λ (y : CellTurn). IsSpotIn us y.spot)) is h.spots));
  each = λ s. ap (turned rest s) (put.each s) ∙ sym (turned-append rest (x ∷ []) s (kept_at us s)) ∙ ap (λ xs. turned xs s (kept_at us s)) (sym is) ∙ h.each s;
}

pub turning-all : (ts us : List TableCells) (all left : List CellTurn) → left ≡ [] → AreTurning ts us all left → HaveCells ts us (λ s. turned all s (kept_at ts s))
turning-all ts us all left is h = record { same = h.same; each = λ s. ap (λ xs. turned xs s (kept_at us s)) (sym is) ∙ h.each s }

-- ---- entries that come, and the turns back

back-again : (o : Option Kept) (k : Kept) → turned_by (turn_to o) (Some k) ≡ o
back-again None k = refl
back-again (Some j) k = refl

back-at : (x : BookSpot) (k : Kept) (ts us : List TableCells) (s : BookSpot) → TablesWith x (λ (o : Option Kept). Some k) ts us
    → cond (is_spot x s) (turned_by (turn_to (kept_at ts x)) (kept_at us s)) (kept_at us s) ≡ kept_at ts s
back-at x k ts us s put = by (is_spot x s) refl
  where
    by : (b : Bool) → is_spot x s ≡ b → cond b (turned_by (turn_to (kept_at ts x)) (kept_at us s)) (kept_at us s) ≡ kept_at ts s
    by true e =
        let now : kept_at us s ≡ Some k = put.each s ∙ ap (λ b. cond b (Some k) (kept_at ts s)) e in
        ap (turned_by (turn_to (kept_at ts x))) now ∙ back-again (kept_at ts x) k ∙ ap (kept_at ts) (same-spot x s e)
    by false e = put.each s ∙ ap (λ b. cond b (Some k) (kept_at ts s)) e

-- an entry came, and the turn back was added
pub lead-more : (turns : List CellTurn) (x : BookSpot) (k : Kept) (us vs : List TableCells) → IsSpotIn us x → TablesWith x (λ (o : Option Kept). Some k) us vs → (ts : List TableCells)
    → LeadBack turns us ts → LeadBack (turns ++ record { spot = x; turn = turn_to (kept_at us x) } ∷ []) vs ts
lead-more turns x k us vs there put ts lead = record {
  same = tables-on ts us vs lead.same put.same;
  spots =
      All-push (λ (y : CellTurn). IsSpotIn vs y.spot) turns (record { spot = x; turn = turn_to (kept_at us x) })
      (All-weaker (λ (y : CellTurn). IsSpotIn us y.spot) (λ (y : CellTurn). IsSpotIn vs y.spot) (λ y. still-there us vs y.spot put.same) turns lead.spots) (still-there us vs x put.same there);
  each = λ s. turned-append turns (record { spot = x; turn = turn_to (kept_at us x) } ∷ []) s (kept_at vs s) ∙ ap (turned turns s) (back-at x k us vs s put) ∙ lead.each s;
}

-- it came and was turned back at once
pub lead-undone : (turns : List CellTurn) (x : BookSpot) (k : Kept) (us vs ws : List TableCells) → TablesWith x (λ (o : Option Kept). Some k) us vs → TablesWith x (turned_by (turn_to (kept_at us x))) vs ws → (ts : List TableCells)
    → LeadBack turns us ts → LeadBack turns ws ts
lead-undone turns x k us vs ws put undo ts lead = record {
  same = tables-on ts us ws lead.same (tables-on us vs ws put.same undo.same);
  spots = All-weaker (λ (y : CellTurn). IsSpotIn us y.spot) (λ (y : CellTurn). IsSpotIn ws y.spot) (λ y. still-there us ws y.spot (tables-on us vs ws put.same undo.same)) turns lead.spots;
  each = λ s. ap (turned turns s) (undo.each s ∙ back-at x k us vs s put) ∙ lead.each s;
}

-- it didn't come
pub lead-same : (turns : List CellTurn) (x : BookSpot) (us vs : List TableCells) → TablesWith x (λ (o : Option Kept). o) us vs → (ts : List TableCells) → LeadBack turns us ts → LeadBack turns vs ts
lead-same turns x us vs put ts lead = record {
  same = tables-on ts us vs lead.same put.same;
  spots = All-weaker (λ (y : CellTurn). IsSpotIn us y.spot) (λ (y : CellTurn). IsSpotIn vs y.spot) (λ y. still-there us vs y.spot put.same) turns lead.spots;
  each = λ s. ap (turned turns s) (put.each s ∙ either (is_spot x s) (kept_at us s)) ∙ lead.each s;
}
  where
    either : (b : Bool) (o : Option Kept) → cond b o o ≡ o
    either true o = refl
    either false o = refl

pub lead-none : (ts : List TableCells) (turns : List CellTurn) → turns ≡ [] → LeadBack turns ts ts
lead-none ts turns none = record {
  same = tables-itself ts;
  spots = subst (All (λ (y : CellTurn). IsSpotIn ts y.spot)) (sym none) (All-nil (λ (y : CellTurn). IsSpotIn ts y.spot));
  each = λ s. ap (λ xs. turned xs s (kept_at ts s)) none;
}

pub led-back : (turns : List CellTurn) (ts us vs : List TableCells) → LeadBack turns us ts → HaveCells us vs (λ s. turned turns s (kept_at us s)) → HaveCells ts vs (kept_at ts)
led-back turns ts us vs lead have = record { same = tables-on ts us vs lead.same have.same; each = λ s. have.each s ∙ lead.each s }

-- entries come, and then others
pub come-append : (xs ys : List Coming) (s : BookSpot) (o : Option Kept) → come_to (xs ++ ys) s o ≡ come_to ys s (come_to xs s o)
come-append [] ys s o = refl
come-append (x ∷ xs) ys s o = come-append xs ys s (cond (is_spot x.spot s) (Some x.kept) o)

pub come-last : (xs : List Coming) (x : Coming) (s : BookSpot) (o : Option Kept) → come_to (xs ++ x ∷ []) s o ≡ cond (is_spot x.spot s) (Some x.kept) (come_to xs s o)
come-last xs x s o = come-append xs (x ∷ []) s o

-- none so far, and one more
pub come-none : (ts : List TableCells) → HaveCells ts ts (λ s. come_to [] s (kept_at ts s))
come-none ts = record { same = tables-itself ts; each = λ s. refl }

pub come-more : (xs : List Coming) (x : Coming) (ts us vs : List TableCells) → HaveCells ts us (λ s. come_to xs s (kept_at ts s)) → TablesWith x.spot (λ (o : Option Kept). Some x.kept) us vs
    → HaveCells ts vs (λ s. come_to (xs ++ x ∷ []) s (kept_at ts s))
come-more xs x ts us vs have put = record {
  same = tables-on ts us vs have.same put.same;
  each = λ s. put.each s ∙ ap (cond (is_spot x.spot s) (Some x.kept)) (have.each s) ∙ sym (come-last xs x s (kept_at ts s));
}

-- ---- results

pub not-err : {A E : Type 0} (r : Result A E) → is_err r ≡ false → is_ok r ≡ true
not-err (Ok x) e = refl
not-err (Err x) e = absurd (false≢true (sym e))

pub ok-of : {A E : Type 0} (r : Result A E) (P : Type 0) → is_ok r ≡ true → OnOk r P → P
ok-of (Ok x) P e p = p
ok-of (Err x) P e p = absurd (false≢true e)

-- ---- what is written through a borrow

-- of the occupied cell of a part
pub part-written : (p : PartCells) (m : BTreeMap ℕ Kept) (cell : ℕ) (make : Option Kept → Option Kept) (k w : Kept) → get nat_cmp p.cells cell ≡ Some k → make (Some k) ≡ Some w → WritesThrough nat_cmp (nat_cmp cell) p.cells w m
    → PartWith cell make p (record { stage = p.stage; place = p.place; first = p.first; shape = p.shape; cells = m })
part-written p m cell make k w is makes writes = record {
  still = record { stage = refl; place = refl; first = refl; shape = refl; ordered = λ h. writes.4 };
  each = λ n. (writes.3 (subst IsSome (sym is) refl)).0 n ∙ by n (eqb cell n) refl;
}
  where
    by : (n : ℕ) (b : Bool) → eqb cell n ≡ b → cond (is_at (nat_cmp cell) n) (Some w) (get nat_cmp p.cells n) ≡ cond (eqb cell n) (make (get nat_cmp p.cells n)) (get nat_cmp p.cells n)
    by n b e = ap (λ t. cond t (Some w) (get nat_cmp p.cells n)) (same-number cell n ∙ e) ∙ at b e ∙ ap (λ t. cond t (make (get nat_cmp p.cells n)) (get nat_cmp p.cells n)) (sym e)
      where
        at : (b : Bool) → eqb cell n ≡ b → cond b (Some w) (get nat_cmp p.cells n) ≡ cond b (make (get nat_cmp p.cells n)) (get nat_cmp p.cells n)
        at true e = sym (ap make (ap (get nat_cmp p.cells) (sym (eqb-true cell n e)) ∙ is) ∙ makes)
        at false e = refl

-- of its visible bits alone
pub same-shown : (k : Kept) (v : ℕ) (key : length k.key.items ≤ 8192) (mask : length k.mask.items ≤ 8192) (held : length k.held.items ≤ 8192)
    → record k { visible = v } ≡ record k { visible = v; key_short = key; mask_short = mask; held_short = held }
same-shown k v key mask held i = record k { visible = v; key_short = le_prop k.key_short key i; mask_short = le_prop k.mask_short mask i; held_short = le_prop k.held_short held i }

pub no-items : {X : Type 0} (xs : List X) → length xs ≡ 0 → xs ≡ []
no-items [] e = refl
no-items (x ∷ xs) e = absurd (omega (arith, e))

-- no cell has changed
pub unchanged : (ts : List TableCells) → HaveCells ts ts (kept_at ts)
unchanged ts = record { same = tables-itself ts; each = λ s. refl }
