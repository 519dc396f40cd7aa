-- No more entries come to cells than the changes have.
use Rattle.std.proofs.Common.{◌≡◌, ◌≢◌, ℕ, ◌<◌, ◌≤◌, ◌==◌, Bool, true, false, not, cond, List, [], ◌∷◌, length, length-append, refl, sym, ap, ◌∙◌, arith}
use Rattle.std.specs.Prelude.{All, AllPairs, filter}
use Rattle.std.specs.List.{flat_map}
use Rattle.std.proofs.lemmas.Bool.{eqb-true}
use Rattle.std.proofs.lemmas.List.{length-map}
use Rattle.std.proofs.lemmas.List.Elements.{All-weaker}
use Rattle.std.proofs.lemmas.List.Filters.{length-filter_both}
use Rattle.rmt_bits.proofs.AlikeLaws.{flat_map_alike}
use Rattle.rmt_bits.proofs.PairLaws.{AllPairs-head, AllPairs-tail}
use Rattle.rmt_ast.specs.declared.entry.Entry.{Entry}
use Rattle.rmt_config.specs.Commits.{Placed}
use Rattle.rmt_update.specs.declared.book.Book.{Book}
use Rattle.rmt_update.specs.declared.book.placing.Coming.{Coming}
use Rattle.rmt_book.specs.declared.table.TableCells.{TableCells}
use Rattle.rmt_lists.specs.declared.lists.Changes.{Changes}
use Rattle.rmt_update.specs.Come.{AreOrdered, IsRunOf, Run}
use Rattle.rmt_update.specs.Placing.{ArePlaced, TakesCell}
use Rattle.rmt_update.proofs.BookFacts.{nodes-rising}
use Rattle.rmt_update.proofs.ComeLaws.{come-is}
use Rattle.rmt_update.proofs.ZipLaws.{zip-length}

-- the entries of a node, and those of all others
abbrev of_node : ℕ → Entry → Bool
of_node n e = n == e.table

abbrev of_others : ℕ → Entry → Bool
of_others n e = not (of_node n e)

-- the entries of a node are among those that are not of another
others : (n m : ℕ) → n ≢ m → (es : List Entry) → filter (of_node m) (filter (of_others n) es) ≡ filter (of_node m) es
others n m apart [] = refl
others n m apart (e ∷ es) = by (n == e.table) refl (m == e.table) refl (others n m apart es)
  where
    by : (b : Bool) → (n == e.table) ≡ b → (d : Bool) → (m == e.table) ≡ d → filter (of_node m) (filter (of_others n) es) ≡ filter (of_node m) es
        → filter (of_node m) (cond (not b) (e ∷ filter (of_others n) es) (filter (of_others n) es)) ≡ cond d (e ∷ filter (of_node m) es) (filter (of_node m) es)
    by true is true is2 rest = absurd (apart (eqb-true n e.table is ∙ sym (eqb-true m e.table is2)))
    by true is false is2 rest = rest
    by false is d is2 rest =
        ap (λ (x : Bool). cond x (e ∷ filter (of_node m) (filter (of_others n) es)) (filter (of_node m) (filter (of_others n) es))) is2
        ∙ ap (λ (ys : List Entry). cond d (e ∷ ys) ys) rest

-- the entries of some nodes are at most all
few-to : (es : List Entry) (ts : List TableCells) → AllPairs (λ (s t : TableCells). s.name.node < t.name.node) ts
    → length (flat_map (λ (t : TableCells). filter (of_node t.name.node) es) ts) ≤ length es
few-to es [] rise = omega arith
few-to es (t ∷ ts) rise =
    let n = t.name.node in
    let left : List Entry = filter (of_others n) es in
    let to : List Entry → TableCells → List Entry = λ xs s. filter (of_node s.name.node) xs in
    let both = length-filter_both (of_node n) (of_others n) (λ e. refl) es in
    let rest : length (flat_map (to left) ts) ≤ length left = few-to left ts (AllPairs-tail (λ (a b : TableCells). a.name.node < b.name.node) t ts rise) in
    let same : flat_map (to left) ts ≡ flat_map (to es) ts =
    flat_map_alike (to left) (to es) ts (All-weaker (λ (s : TableCells). n < s.name.node) (λ (s : TableCells). to left s ≡ to es s)
    (λ s less. others n s.name.node (λ is. absurd (omega (arith, less, is))) es) ts (AllPairs-head (λ (a b : TableCells). a.name.node < b.name.node) t ts rise)) in
    let long = length-append (filter (of_node n) es) (flat_map (to es) ts) in
    let l : length (flat_map (to left) ts) ≡ length (flat_map (to es) ts) = ap length same in
    omega (arith, both, rest, long, l)

-- the cells that entries take are as many as the entries, and these come to tables
pub few-placed : (w : Run) (b : Book) (ch : Changes) (run : IsRunOf b ch w) → All AreOrdered b.tables.items → (xs : List Coming)
    → ArePlaced w.config w.names w.cells w.lists ch b.odd b.tables.items xs → length xs ≤ length ch.come
few-placed w b ch run ordered xs placed =
    let zip = zip-length (TakesCell w.config w.cells.seed b.odd b.tables.items) placed.coming xs placed.takes in
    let mapped = length-map placed.coming (λ (q : Placed). q.entry) in
    let come_so = ap length (placed.entries ∙ come-is w b ch run ordered) in
    let few = few-to ch.come b.tables.items (nodes-rising w.config w.names w.cells w.lists b run.stands run.named) in
    omega (arith, zip, mapped, come_so, few)
