-- Steps of loading one table.
use Rattle.std.proofs.Common.{◌≡◌, ℕ, ◌+◌, ◌*◌, ◌^◌, ◌<◌, ◌≤◌, List, [], ◌∷◌, ◌++◌, get_or, length, map, sum, take, Option, sym, ap, ◌∙◌, subst, inl, inr, arith}
use Rattle.std.specs.Prelude.{All, count_by, unwrap_or}
use Rattle.std.specs.List.{AllZip}
use Rattle.std.proofs.lemmas.Grind.{flat_map-append}
use Rattle.std.proofs.lemmas.List.{append-nil, map-append, take_more}
use Rattle.std.proofs.lemmas.List.Elements.{All-cons, All-nil, All-weaker}
use Rattle.std.proofs.lemmas.List.Sums.{sum_by_more}
use Rattle.std.proofs.lemmas.Option.{get_or_from_slice_get}
use Rattle.rmt_bits.specs.Bits.{bytes_of}
use Rattle.rmt_bits.proofs.AllLaws.{All-flat_map}
use Rattle.rmt_bits.proofs.ListLaws.{slice_get-item}
use Rattle.rmt_ast.specs.declared.entry.Entry.{Entry}
use Rattle.rmt_ast.specs.declared.program.Kind.{Kind}
use Rattle.rmt_ast.specs.declared.program.Kind.TheVariants as kind
use Rattle.rmt_ast.specs.Changes.{list_of}
use Rattle.rmt_ast.specs.EntryLists.{IsEntry, Terms}
use Rattle.rmt_ast.specs.RowOrder.{goes_first}
use Rattle.rmt_ast.specs.WellFormed.{IsTest}
use Rattle.rmt_config.specs.Rooms.{key_number}
use Rattle.rmt_config.specs.BlockCounts.{divided_up}
use Rattle.rmt_cuckoo.specs.declared.layout.Ways.{Ways}
use Rattle.rmt_cuckoo.specs.Loading.{cells_in, cells_of}
use Rattle.rmt_pack.proofs.RankLaws.{IsRowKind}
use Rattle.rmt_book.specs.declared.grid.Grid.{Grid}
use Rattle.rmt_book.specs.declared.grid.Grid.TheVariants as grid
use Rattle.rmt_update.specs.declared.book.loading.TableTried.{TableTried}
use Rattle.rmt_update.specs.declared.book.loading.TableTried.TheVariants as table
use Rattle.rmt_book.specs.declared.spots.Spot.{Spot}
use Rattle.rmt_book.specs.declared.table.PartCells.{PartCells}
use Rattle.rmt_update.specs.FirstFull.{keys_of}
use Rattle.rmt_update.specs.Loads.{AreLoadedKeys, IsTried, StandBy, layout_in, ways_for}
use Rattle.rmt_book.specs.Spots.{spots_at}

-- the layout of the parts so far, with one more
pub layout-more : (parts : List PartCells) (i : ℕ) (x : PartCells) → i < length parts → x ≡ get_or parts i x → layout_in (take (i + 1) parts) ≡ layout_in (take i parts) ++ ways_for x.shape.grid
layout-more parts i x lt is =
    ap layout_in (take_more parts i x lt) ∙ ap (λ (y : PartCells). layout_in (take i parts ++ y ∷ [])) (sym is)
    ∙ flat_map-append (λ (y : PartCells). ways_for y.shape.grid) (take i parts) (x ∷ []) ∙ ap (λ ws. layout_in (take i parts) ++ ws) (append-nil (ways_for x.shape.grid))

grid-rows : (g : Grid) → All (λ (w : Ways). 1 ≤ w.rows) (ways_for g)
grid-rows (grid.Ways v) = let some = v.some_rows in All-cons (λ (w : Ways). 1 ≤ w.rows) (record { rows = v.rows; per = v.per }) [] some (All-nil (λ (w : Ways). 1 ≤ w.rows))
grid-rows (grid.Rows rows) = All-nil (λ (w : Ways). 1 ≤ w.rows)

grid-cells : (g : Grid) → All (λ (w : Ways). cells_in w < 2 ^ 32) (ways_for g)
grid-cells (grid.Ways v) = let few = v.few_cells in All-cons (λ (w : Ways). cells_in w < 2 ^ 32) (record { rows = v.rows; per = v.per }) [] few (All-nil (λ (w : Ways). cells_in w < 2 ^ 32))
grid-cells (grid.Rows rows) = All-nil (λ (w : Ways). cells_in w < 2 ^ 32)

-- each way has a row, and each part has few cells
pub layout-rows : (parts : List PartCells) → All (λ (w : Ways). 1 ≤ w.rows) (layout_in parts)
layout-rows parts = All-flat_map (λ (w : Ways). 1 ≤ w.rows) (λ (x : PartCells). ways_for x.shape.grid) parts (λ i d lt. grid-rows (get_or parts i d).shape.grid)

pub layout-cells : (parts : List PartCells) → All (λ (w : Ways). cells_in w < 2 ^ 32) (layout_in parts)
layout-cells parts = All-flat_map (λ (w : Ways). cells_in w < 2 ^ 32) (λ (x : PartCells). ways_for x.shape.grid) parts (λ i d lt. grid-cells (get_or parts i d).shape.grid)

-- the keys of the entries so far, with one more
pub keys-more : (t : Terms) (es : List Entry) (i : ℕ) (e : Entry) (keys : List (List ℕ)) (key : List ℕ) → i < length es → e ≡ get_or es i e → keys ≡ keys_of t (take i es)
    → key ≡ bytes_of (divided_up (sum t.widths) 8) (key_number t e) → keys ++ key ∷ [] ≡ keys_of t (take (i + 1) es)
keys-more t es i e keys key lt is so_far one =
    let f : Entry → List ℕ = λ o. bytes_of (divided_up (sum t.widths) 8) (key_number t o) in
    ap (λ ks. ks ++ key ∷ []) so_far ∙ ap (λ k. keys_of t (take i es) ++ k ∷ []) (one ∙ ap f is) ∙ sym (map-append f (take i es) (get_or es i e ∷ [])) ∙ sym (ap (map f) (take_more es i e lt))

-- the cells of the parts so far, with one more
pub cells-more : (ws : List Ways) (i cells : ℕ) (d : Ways) → i < length ws → cells ≡ cells_of (take i ws) → cells + 4 * ((get_or ws i d).rows * (get_or ws i d).per) ≡ cells_of (take (i + 1) ws)
cells-more ws i cells d lt so_far = let more = sum_by_more cells_in ws i d lt in omega (arith, more, so_far)

-- rows by kind
pub rows-stand-by : (k : Kind) (parts : List PartCells) (seed : ℕ) (t : Terms) (es : List Entry) (spots : List Spot) → IsRowKind k
    → spots ≡ spots_at parts (map (λ e. count_by (λ f. goes_first k f e) es) es) → StandBy parts seed t es k spots
rows-stand-by k parts seed t es spots (inl is) e =
    subst (λ j. spots ≡ spots_at parts (map (λ e. count_by (λ f. goes_first j f e) es) es) → StandBy parts seed t es j spots) (sym is) (λ a. a) e
rows-stand-by k parts seed t es spots (inr is) e =
    subst (λ j. spots ≡ spots_at parts (map (λ e. count_by (λ f. goes_first j f e) es) es) → StandBy parts seed t es j spots) (sym is) (λ a. a) e

pub tests-of : (node : ℕ) (t : Terms) (es : List Entry) → All (IsEntry node t) es → All (λ (e : Entry). AllZip IsTest t.widths e.tests) es
tests-of node t es all = All-weaker (IsEntry node t) (λ (e : Entry). AllZip IsTest t.widths e.tests) (λ e is. is.tests) es all

-- the list of a node, as it is read
pub list-is : (lists xs : List (List Entry)) (n : ℕ) (es : List Entry) → n < length lists → xs ≡ lists → es ≡ get_or xs n es → es ≡ list_of lists n
list-is lists xs n es lt same is =
    let one = slice_get-item lists n lt in
    is ∙ ap (λ ys. get_or ys n es) same ∙ get_or_from_slice_get lists n one.0 es one.1 ∙ sym (ap (λ (o : Option (List Entry)). unwrap_or o []) one.1)

-- the keys of an exact table that were loaded, or were not
pub exact-tried : (parts told : List PartCells) (layout : List Ways) (seed : ℕ) (t : Terms) (es : List Entry) (keys : List (List ℕ)) (tried : TableTried) → t.kind ≡ kind.Exact → told ≡ parts
    → layout ≡ layout_in parts → keys ≡ keys_of t es → AreLoadedKeys told layout seed keys tried → IsTried parts seed t es tried
exact-tried parts told layout seed t es keys tried exact same layouts are h =
    by tried
    (subst (λ ks. AreLoadedKeys parts (layout_in parts) seed ks tried) are (subst (λ l. AreLoadedKeys parts l seed keys tried) layouts (subst (λ ps. AreLoadedKeys ps layout seed keys tried) same h)))
  where
    by : (x : TableTried) → AreLoadedKeys parts (layout_in parts) seed (keys_of t es) x → IsTried parts seed t es x
    by (table.Stand spots) stand = subst (λ k. StandBy parts seed t es k spots) (sym exact) stand
    by (table.Overfull members cells) full = (exact, full.0, full.1, full.2)
