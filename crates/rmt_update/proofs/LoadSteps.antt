-- A commit that moves cells, step by step.
use Rattle.std.proofs.Common.{◌≡◌, ◌^◌, ◌<◌, ◌≤◌, ◌&&◌, true, not, List, Some, None, length, map, sym, ap, ◌∙◌, subst, arith}
use Rattle.std.specs.Prelude.{All, Vec, is_some, nat_lt}
use Rattle.std.specs.Global.{Global}
use Rattle.std.specs.BTreeMap.{keys}
use Rattle.std.specs.List.{AllZip, list_all}
use Rattle.std.proofs.lemmas.Bool.{and_parts, ltb-true}
use Rattle.std.proofs.lemmas.List.Elements.{All-contains}
use Rattle.std.proofs.lemmas.Map.Lookups.{exact_unsigned}
use Rattle.std.proofs.lemmas.Map.Views.{btree_map_contains_key_iff}
use Rattle.std.proofs.lemmas.Option.{same_Some, slice_get_within}
use Rattle.rmt_bits.proofs.AllLaws.{All-slice_get, All-from_items}
use Rattle.rmt_config.specs.declared.config.Stage.{Stage}
use Rattle.std.proofs.lemmas.Cmp.{nat_cmp_total}
use Rattle.rmt_config.specs.Cells.{cells_in}
use Rattle.rmt_config.specs.declared.config.Unit.TheVariants.{Slot}
use Rattle.rmt_book.proofs.ToldEntryLaws.{PartFacts}
use Rattle.rmt_ast.specs.declared.entry.Entry.{Entry}
use Rattle.rmt_ast.specs.declared.names.Names.{Names}
use Rattle.rmt_config.specs.declared.config.Config.{Config}
use Rattle.rmt_config.specs.Commits.{Makes, filled, moves, placed_after}
use Rattle.rmt_config.specs.Rooms.{parts_of}
use Rattle.rmt_config.specs.RunCells.{RunCells, with_version}
use Rattle.rmt_config.specs.LaneForm.{headers_are_formed, ports_are_formed}
use Rattle.rmt_config.specs.ParserForm.{parser_is_formed}
use Rattle.rmt_config.specs.StageForm.{stage_is_formed, stages_are_formed, starts_are_formed}
use Rattle.rmt_config.specs.TailForm.{tails_have_headers}
use Rattle.rmt_update.specs.declared.book.Book.{Book}
use Rattle.rmt_update.specs.declared.book.loading.Loaded.{Loaded}
use Rattle.rmt_update.specs.declared.book.plan.Plan.{Plan}
use Rattle.rmt_book.specs.declared.table.PartCells.{PartCells}
use Rattle.rmt_book.specs.declared.table.TableCells.{TableCells}
use Rattle.rmt_lists.specs.declared.fault.UpdateFault.{UpdateFault}
use Rattle.rmt_lists.specs.declared.fault.UpdateFault.TheVariants.{LoadFull, NoMemory}
use Rattle.rmt_lists.specs.declared.lists.Changes.{Changes}
use Rattle.rmt_update.specs.BookStands.{BookStands, HoldsPart, IsKeptOf}
use Rattle.rmt_update.specs.Differences.{AreDifferences, CanChange, Goal, IsGoal, all_pairs}
use Rattle.rmt_update.specs.Loads.{AreTables, IsLoaded, IsNotLoaded}
use Rattle.rmt_update.specs.Moved.{with_parts}
use Rattle.rmt_update.specs.Planned.{IsPlanned, IsUnplanned, MayChange, changed_lists}
use Rattle.rmt_update.specs.Refill.{IsMoved, SamePart, TableFits}
use Rattle.rmt_book.specs.Seen.{entries_at}
use Rattle.rmt_book.specs.Spots.{placed_from}
use Rattle.rmt_update.proofs.AfterLaws.{changed-length}
use Rattle.rmt_update.proofs.BookMoved.{long-range, next-holds, stands-moved}
use Rattle.rmt_update.proofs.CellsFound.{are-tables, found-node, nodes-rise}
use Rattle.rmt_update.proofs.DifferenceLaws.{NextHolds, writes-are, writes-sized}
use Rattle.rmt_update.proofs.SpotsFit.{table-fits}
use Rattle.rmt_update.proofs.TableRules.{own-table}
use Rattle.rmt_update.proofs.ZipLaws.{zip-gives, zip-length, zip-right}

few-units : (s : Stage) → stage_is_formed s ≡ true → nat_lt (length s.units) 256 ≡ true
few-units s e = (and_parts _ _ (and_parts _ _ (and_parts _ _ (and_parts _ _ (and_parts _ _ (and_parts _ _ (and_parts _ _ e).0).0).0).0).0).0).1

-- why nothing is loaded is why nothing is planned
pub unplanned : (c : Config) (names : Names) (cells : RunCells) (before after : List (List Entry)) (fault : UpdateFault) → placed_after c names cells before after ≡ None → IsNotLoaded c names after fault
    → IsUnplanned c names cells before after fault
unplanned c names cells before after NoMemory none h = tt
unplanned c names cells before after (LoadFull node members count) none h = (none, h.0, h.1)

-- the tables of a book are those of its configuration
pub tables-are : (c : Config) (names : Names) (cells : RunCells) (lists : List (List Entry)) (b : Book) → BookStands c cells lists b → c.names ≡ Some names → AreTables c names b.tables.items
tables-are c names cells lists b stands named = subst (λ n. AreTables c n b.tables.items) (same_Some (record { tables = map (λ (t : TableCells). t.name) b.tables.items }) names (sym stands.names ∙ named)) (are-tables c cells lists b stands)

module _ (c : Config) (names : Names) (cells : RunCells) (lists : List (List Entry)) (b : Book) (stands : BookStands c cells lists b) (named : c.names ≡ Some names) (ch : Changes) (may : MayChange c names cells lists ch) where
  abbrev pub after : List (List Entry)
  after = changed_lists lists ch

  -- as many lists as nodes
  pub after-few : b.nodes < 2 ^ 32 → length (changed_lists lists ch) < 2 ^ 32
  after-few few =
      let long = changed-length lists ch in
      let nodes : length lists ≡ b.nodes = ap length stands.lists ∙ long-range (entries_at b.odd b.tables.items) 0 b.nodes in
      omega (arith, few, long, nodes)

  module _ (loaded : Loaded) (is : IsLoaded c names (changed_lists lists ch) loaded) where
    are : AreTables c names b.tables.items
    are = tables-are c names cells lists b stands named

    pub tables-fit : All (TableFits (changed_lists lists ch) loaded.spots) b.tables.items
    tables-fit = All-from_items (TableFits (changed_lists lists ch) loaded.spots) b.tables.items (λ i t at.
        table-fits c names loaded.seed (changed_lists lists ch) loaded.spots is.many is.filled b.tables.items are may.formed t (found-node b.tables.items i t (nodes-rise c cells lists b stands) at))

    module _ (moved : List (Vec PartCells Global)) (all : AllZip (λ t (v : Vec PartCells Global). IsMoved (changed_lists lists ch) loaded.spots t v.items) b.tables.items moved) where
      pub same-parts : AllZip (λ t (v : Vec PartCells Global). length v.items ≡ length t.parts.items) b.tables.items moved
      same-parts = zip-gives (λ t (v : Vec PartCells Global). IsMoved (changed_lists lists ch) loaded.spots t v.items) (λ t (v : Vec PartCells Global). length v.items ≡ length t.parts.items)
          (λ t v m. sym (zip-length SamePart t.parts.items v.items m.same)) b.tables.items moved all

      pub same-count : length moved ≤ length b.tables.items
      same-count = let same = zip-length (λ t (v : Vec PartCells Global). IsMoved (changed_lists lists ch) loaded.spots t v.items) b.tables.items moved all in omega (arith, same)

      held : AllZip (NextHolds c (with_version (filled c names cells (placed_from c 0 (changed_lists lists ch) loaded.spots)) loaded.seed)) b.tables.items moved
      held = next-holds c names cells lists b stands named (changed_lists lists ch) may.formed loaded.seed loaded.spots is.many is.filled moved all

      pub can-change : All (λ (v : Vec PartCells Global). All CanChange v.items) moved
      can-change = All-from_items (λ (v : Vec PartCells Global). All CanChange v.items) moved (λ i v at.
          let next = with_version (filled c names cells (placed_from c 0 (changed_lists lists ch) loaded.spots)) loaded.seed in
          let t = zip-right (NextHolds c next) b.tables.items moved i v held at in
          let own = own-table c names b.tables.items (changed_lists lists ch) t.0.name.node t.0 are (found-node b.tables.items i t.0 (nodes-rise c cells lists b stands) t.1) in
          All-from_items CanChange v.items (λ j y at_y.
          let p = zip-right (HoldsPart next) (parts_of c t.0.name.node) v.items j y t.2 at_y in
          let facts = All-slice_get (PartFacts c t.0.name) (parts_of c t.0.name.node) j p.0 own.parts p.1 in
          let few_stages : length c.stages < 256 = ltb-true (length c.stages) 256 (few-stages) in
          let in_stages = slice_get_within c.stages p.0.stage facts.stands.stage facts.stands.in_stages in
          let few_units : length facts.stands.stage.units < 256 = ltb-true (length facts.stands.stage.units) 256 (few-units facts.stands.stage facts.stands.formed) in
          let in_units = slice_get_within facts.stands.stage.units p.0.place (Slot p.0.slot) facts.stands.in_units in
          let stage = p.2.stage in
          let place = p.2.place in
          record {
            stage = omega (arith, few_stages, in_stages, stage);
            place = omega (arith, few_units, in_units, place);
            own = λ n k held_k.
                let lt = All-contains (λ m. m < cells_in p.0.slot.memory) (keys y.cells) n p.2.within ((btree_map_contains_key_iff nat_cmp_total exact_unsigned y.cells n).0 (ap is_some held_k)) in
                (subst (IsKeptOf next.seed p.0 (next.content p.0.stage p.0.place n) (record { cell = n; number = next.number p.0.stage p.0.place n })) held_k (p.2.each n lt)).1.cell;
          }))
        where
          few-stages : nat_lt (length c.stages) 256 ≡ true
          few-stages =
              let all = and_parts (((ports_are_formed c && headers_are_formed c.headers) && parser_is_formed c.parser) && tails_have_headers c) (stages_are_formed c.stages) stands.formed.items in
              let two = and_parts (nat_lt (length c.stages) 256 && list_all stage_is_formed c.stages) (starts_are_formed (map (λ (s : Stage). s.start) c.stages)) all.1 in
              (and_parts (nat_lt (length c.stages) 256) (list_all stage_is_formed c.stages) two.0).0

      pub planned : (plan : Plan) (b2 : Book) → placed_after c names cells lists (changed_lists lists ch) ≡ None → plan.moved ≡ true → plan.seed ≡ loaded.seed
          → ((g : Goal) → All (IsGoal g) (all_pairs b.tables.items moved) → AreDifferences (all_pairs b.tables.items moved) plan.writes.items g)
          → b2.odd ≡ not b.odd → b2.seed ≡ loaded.seed → b2.nodes ≡ b.nodes → b2.tables.items ≡ with_parts b.tables.items moved → b2.index ≡ None
          → (next : RunCells) × IsPlanned c names cells lists (changed_lists lists ch) plan next b2
      planned plan b2 none moved_is seed differ odd seed2 nodes tables index =
          let next = filled c names cells (placed_from c 0 (changed_lists lists ch) loaded.spots) in (
            next,
            record {
              makes = subst (λ m. Makes c names cells lists (changed_lists lists ch) m plan.seed next) (sym moved_is)
                  (subst (λ s. Makes c names cells lists (changed_lists lists ch) true s next) (sym seed)
                  (moves loaded.seed (placed_from c 0 (changed_lists lists ch) loaded.spots) none is.first is.filled));
              writes = writes-are c cells lists b stands next loaded.seed moved held plan.writes.items differ;
              sizes = writes-sized c cells lists b stands next loaded.seed moved held plan.writes.items differ;
              stands = subst (λ s. BookStands c (with_version next s) (changed_lists lists ch) b2) (sym seed)
                  (stands-moved c names cells lists b stands named (changed_lists lists ch) may.formed loaded.seed loaded.spots is.many is.filled moved all b2 (changed-length lists ch) odd seed2 nodes tables index);
            },
          )
