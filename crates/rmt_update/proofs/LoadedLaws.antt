-- What comes of loading all tables, in the words of a commit that moves cells.
use Rattle.std.proofs.Common.{◌≡◌, ℕ, ◌+◌, ◌*◌, ◌<◌, ◌==◌, List, [], ◌∷◌, ◌++◌, length, Option, Some, None, option_map, refl, sym, ap, ◌∙◌, subst, inl, inr, arith}
use Rattle.std.specs.Prelude.{All, slice_get, unwrap_or}
use Rattle.std.specs.List.{AllZip, flat_map}
use Rattle.std.proofs.lemmas.Bool.{cases_lt}
use Rattle.std.proofs.lemmas.List.{length-append}
use Rattle.std.proofs.lemmas.Option.{none-some, same_Some, slice_get_within}
use Rattle.rmt_bits.proofs.AllLaws.{All-find, All-unmap}
use Rattle.rmt_bits.proofs.ListLaws.{slice_get-item}
use Rattle.rmt_ast.specs.declared.entry.Entry.{Entry}
use Rattle.rmt_ast.specs.declared.names.Names.{Names}
use Rattle.rmt_ast.specs.declared.names.TableName.{TableName}
use Rattle.rmt_ast.specs.declared.program.Kind.TheVariants as kind
use Rattle.rmt_ast.specs.Changes.{list_of}
use Rattle.rmt_ast.specs.EntryLists.{Terms}
use Rattle.rmt_ast.specs.NameRules.{AreEntriesOf, terms_named, terms_of_name}
use Rattle.rmt_config.specs.declared.config.Config.{Config}
use Rattle.rmt_config.specs.Commits.{AreFilled, Placed}
use Rattle.rmt_config.specs.declared.config.Memory.{Memory}
use Rattle.rmt_config.specs.declared.config.Memory.TheVariants.{Without, Exact, Ternary}
use Rattle.rmt_config.specs.Rooms.{PartAt, parts_of}
use Rattle.rmt_cuckoo.specs.declared.layout.Ways.{Ways}
use Rattle.rmt_cuckoo.specs.Loading.{IsLoading, IsOverfull}
use Rattle.rmt_update.specs.declared.book.loading.Full.{Full}
use Rattle.rmt_update.specs.declared.book.loading.Loaded.{Loaded}
use Rattle.rmt_update.specs.declared.book.loading.TableTried.TheVariants as table
use Rattle.rmt_book.specs.declared.spots.Spot.{Spot}
use Rattle.rmt_book.specs.declared.grid.Grid.{Grid}
use Rattle.rmt_book.specs.declared.grid.Grid.TheVariants as grid
use Rattle.rmt_book.specs.declared.table.PartCells.{PartCells}
use Rattle.rmt_book.specs.declared.table.TableCells.{TableCells}
use Rattle.rmt_update.specs.FirstFull.{HasNoLoading, IsFirstFull, keys_of, layout_at, ways_in}
use Rattle.rmt_update.specs.Loads.{AreStuck, AreTables, HasShape, IsLoaded, IsStuck, IsTriedAt, StandBy, StandUpto, layout_in, table_of, ways_for}
use Rattle.rmt_book.specs.PartShape.{IsGrid}
use Rattle.rmt_book.specs.Spots.{placed_from, placed_in}
use Rattle.rmt_update.proofs.AfterLaws.{last-or-before}
use Rattle.rmt_update.proofs.LoadLaws.{NodeTried, loading-of, node-tried, table-entries}
use Rattle.rmt_update.proofs.PlacedLaws.{NodeStands, all-stand}
use Rattle.rmt_update.proofs.TableRules.{own-table, terms-found}
use Rattle.rmt_update.proofs.ZipLaws.{zip-made}

-- no table has both a loading and keys with too few cells
abbrev pub NeverBoth : Type 0
NeverBoth = (layout : List Ways) (seed : ℕ) (keys : List (List ℕ)) (cells members : List ℕ) (count : ℕ) → IsLoading layout seed keys cells → IsOverfull layout seed keys members count → ⊥

-- the ways of parts are those of their slots
layout-is : (ps : List PartAt) (xs : List PartCells) → AllZip HasShape ps xs → layout_in xs ≡ flat_map (λ (p : PartAt). ways_in p.slot.memory) ps
layout-is [] [] zip = refl
layout-is [] (x ∷ xs) zip = absurd zip
layout-is (p ∷ ps) [] zip = absurd zip
layout-is (p ∷ ps) (x ∷ xs) zip =
    ap (λ ws. ws ++ layout_in xs) (by p.slot.memory x.shape.grid zip.0.grid) ∙ ap (λ ws. ways_in p.slot.memory ++ ws) (layout-is ps xs zip.1)
  where
    by : (m : Memory) (g : Grid) → IsGrid m g → ways_for g ≡ ways_in m
    by Without g is = absurd is
    by (Exact k per quanta first keys records counters) (grid.Ways w) is =
        ap (λ n. record { rows = n; per = w.per } ∷ []) is.1 ∙ ap (λ n. record { rows = 1024 * quanta; per = n } ∷ []) is.2
    by (Exact k per quanta first keys records counters) (grid.Rows rows) is = absurd is
    by (Ternary quanta keys records counters) (grid.Ways w) is = absurd is
    by (Ternary quanta keys records counters) (grid.Rows rows) is = refl

-- ---- node by node

pub none-upto : (tables : List TableCells) (lists : List (List Entry)) (seed : ℕ) → StandUpto tables lists seed 0 []
none-upto tables lists seed = record { count_is = refl; each = λ n ss at. absurd (none-some ss at) }

pub upto-more : (tables : List TableCells) (lists : List (List Entry)) (seed m : ℕ) (spots : List (List Spot)) (own : List Spot) → StandUpto tables lists seed m spots
    → IsTriedAt seed (list_of lists m) (table_of tables m) (table.Stand own) → StandUpto tables lists seed (m + 1) (spots ++ own ∷ [])
upto-more tables lists seed m spots own upto here =
    let count = upto.count_is in
    let stand : ℕ → List Spot → Type 0 = λ n ss. IsTriedAt seed (list_of lists n) (table_of tables n) (table.Stand ss) in
    let last : m ≡ length spots = omega (arith, count) in
    record {
      count_is = (let many = length-append spots (own ∷ []) in omega (arith, many, count));
      each = λ n ss. last-or-before spots own ss n stand (λ k z lt. upto.each k z) (subst (λ k. stand k own) last here);
    }

module _ (c : Config) (names : Names) (tables : List TableCells) (lists : List (List Entry)) (are : AreTables c names tables) (formed : AreEntriesOf names lists) where
  -- ---- all stand

  module _ (seed : ℕ) (spots : List (List Spot)) (upto : StandUpto tables lists seed (length lists) spots) where
    tried : (n : ℕ) (ss : List Spot) → slice_get spots n ≡ Some ss → NodeTried c names seed lists n ss
    tried n ss at =
        let within = slice_get_within spots n ss at in
        let count = upto.count_is in
        node-tried c names tables seed lists n ss are formed (omega (arith, within, count)) (upto.each n ss at)

    own-list : (n : ℕ) (es : List Entry) → slice_get lists n ≡ Some es → list_of lists n ≡ es
    own-list n es at = ap (λ (o : Option (List Entry)). unwrap_or o []) at

    pub spots-many : AllZip (λ (es : List Entry) (ss : List Spot). length ss ≡ length es) lists spots
    spots-many =
        zip-made (λ (es : List Entry) (ss : List Spot). length ss ≡ length es) lists spots (sym upto.count_is) (λ i es ss at_es at_ss. (tried i ss at_ss).many ∙ ap (λ (xs : List Entry). length xs) (own-list i es at_es))

    pub spots-filled : AreFilled c names seed lists (placed_from c 0 lists spots)
    spots-filled =
        all-stand c names seed lists spots spots-many
        (λ i es ss at_es at_ss. subst (λ xs. NodeStands c names seed lists i (placed_in (parts_of c i) xs ss)) (own-list i es at_es) (tried i ss at_ss).stand)

  -- ---- some don't

  node-within : (node : ℕ) (x : TableCells) → table_of tables node ≡ Some x → node < length lists
  node-within node x found =
      let all = All-unmap (λ (t : TableName). t.node < length lists) (λ (y : TableCells). y.name) tables (subst (All (λ (t : TableName). t.node < length lists)) are.same formed.tables) in
      let lt = All-find (λ (y : TableCells). y.name.node < length lists) (λ (y : TableCells). y.name.node == node) tables x all found in
      let same = (own-table c names tables lists node x are found).node_is in
      omega (arith, lt, same)

  module _ (never : NeverBoth) where
    pub stuck-none : (seed : ℕ) (full : Full) → IsStuck tables lists seed full → (placed : List Placed) → AreFilled c names seed lists placed → ⊥
    stuck-none seed full stuck placed filled = by (table_of tables full.node) refl stuck.here
      where
        by : (o : Option TableCells) → table_of tables full.node ≡ o → IsTriedAt seed (list_of lists full.node) o (table.Overfull full.members full.cells) → ⊥
        by None is here = here
        by (Some x) is here =
            let h = own-table c names tables lists full.node x are is in
            let load = loading-of c names seed lists full.node x h (table-entries c names lists full.node x h formed (node-within full.node x is)) here.0 placed formed filled in
            never (layout_in x.parts.items) seed (keys_of (terms_of_name x.name) (list_of lists full.node)) load.0 here.1 full.cells load.1 here.2

    pub loaded-is : (seed : ℕ) (loaded : Loaded) → loaded.seed ≡ seed → seed < 8 → StandUpto tables lists seed (length lists) loaded.spots → AreStuck tables lists seed → IsLoaded c names lists loaded
    loaded-is seed loaded same few upto stuck = record {
      first = record {
        in_range = omega (arith, same, few);
        first = λ s placed lt filled. let one = stuck s (omega (arith, lt, same)) in stuck-none s one.0 one.1 placed filled;
      };
      many = spots-many seed loaded.spots upto;
      filled = subst (λ s. AreFilled c names s lists (placed_from c 0 lists loaded.spots)) (sym same) (spots-filled seed loaded.spots upto);
    }

    pub none-loads : AreStuck tables lists 8 → HasNoLoading c names lists
    none-loads stuck seed few some = let one = stuck seed few in stuck-none seed one.0 one.1 some.0 some.1

  -- the first that doesn't
  first-loads : (seed node : ℕ) (spots : List (List Spot)) → StandUpto tables lists seed node spots → (m : ℕ) (t : Terms) → m < node → terms_named names m ≡ Some t → t.kind ≡ kind.Exact
      → (loaded : List ℕ) × IsLoading (layout_at c m) seed (keys_of t (list_of lists m)) loaded
  first-loads seed node spots upto m t lt named exact = by (table_of tables m) refl
    where
      by : (o : Option TableCells) → table_of tables m ≡ o → (loaded : List ℕ) × IsLoading (layout_at c m) seed (keys_of t (list_of lists m)) loaded
      by None is = absurd (none-some t (sym (terms-found c names tables m are ∙ ap (option_map (λ (y : TableCells). terms_of_name y.name)) is) ∙ named))
      by (Some x) is =
          let h = own-table c names tables lists m x are is in
          let same : terms_of_name x.name ≡ t = same_Some (terms_of_name x.name) t (sym h.terms ∙ named) in
          let count = upto.count_is in
          let one = slice_get-item spots m (omega (arith, lt, count)) in
          let stand = subst (λ o. IsTriedAt seed (list_of lists m) o (table.Stand one.0)) is (upto.each m one.0 one.1) in
          let kind_is : x.name.kind ≡ kind.Exact = ap (λ (u : Terms). u.kind) same ∙ exact in
          let load = subst (λ k. StandBy x.parts.items seed (terms_of_name x.name) (list_of lists m) k one.0) kind_is stand in (
            load.0,
            subst (λ l. IsLoading l seed (keys_of t (list_of lists m)) load.0) (layout-is (parts_of c m) x.parts.items h.shapes)
                (subst (λ u. IsLoading (layout_in x.parts.items) seed (keys_of u (list_of lists m)) load.0) same load.1),
          )

  pub first-full : (seed : ℕ) (full : Full) → IsStuck tables lists seed full → IsFirstFull c names lists seed full.node full.members full.cells
  first-full seed full stuck = by (table_of tables full.node) refl stuck.here
    where
      by : (o : Option TableCells) → table_of tables full.node ≡ o → IsTriedAt seed (list_of lists full.node) o (table.Overfull full.members full.cells)
          → IsFirstFull c names lists seed full.node full.members full.cells
      by None is here = absurd here
      by (Some x) is here =
          let h = own-table c names tables lists full.node x are is in
          record {
            terms = terms_of_name x.name;
            there = h.terms;
            exact = here.0;
            own = here.1;
            few = subst (λ l. IsOverfull l seed (keys_of (terms_of_name x.name) (list_of lists full.node)) here.1 full.cells) (layout-is (parts_of c full.node) x.parts.items h.shapes) here.2;
            count = here.3;
            first = first-loads seed full.node stuck.spots stuck.before;
          }

-- under one more seed
pub stuck-more : (tables : List TableCells) (lists : List (List Entry)) (seed : ℕ) (full : Full) → AreStuck tables lists seed → IsStuck tables lists seed full → AreStuck tables lists (seed + 1)
stuck-more tables lists seed full stuck here s lt = elim (cases_lt s seed) [
  | inl less ↦ stuck s less
  | inr le ↦ let same : seed ≡ s = omega (arith, lt, le) in subst (λ k. (f : Full) × IsStuck tables lists k f) same (full, here)
]
