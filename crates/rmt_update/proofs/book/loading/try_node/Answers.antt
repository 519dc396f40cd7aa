use Rattle.std.proofs.Common.{◌≡◌, sym, ◌∙◌, subst, arith}
use Rattle.std.proofs.lemmas.Result.{IfOk-weaker}
use Rattle.rmt_ast.specs.Changes.{list_of}
use Rattle.rmt_ast.specs.NameRules.{terms_of_name}
use Rattle.rmt_update.specs.declared.book.loading.TableTried.TheVariants as table
use Rattle.rmt_update.specs.Loads.{CanFill, IsTried, IsTriedAt, table_of}
use Rattle.rmt_update.proofs.LoadLaws.{table-entries}
use Rattle.rmt_lists.proofs.NewLaws.{size-few}
use Rattle.rmt_update.proofs.SmallLaws.{list-is, tests-of}
use Rattle.rmt_update.proofs.TableRules.{Own, few-bits, own-table}
use Rattle.rmt_update.proofs.book.loading.try_node.Goals as goal
use Rattle.rmt_update.proofs.book.loading.try_node.Goals.{After-as_slice-entries, In-Some}

-- the table, and what is known of it
own_table : (c : In-Some) → Own c.requires.fit.0 c.requires.fit.1 c.args.entries.now c.args.node c.in-Some.table.now
own_table c = own-table c.requires.fit.0 c.requires.fit.1 c.args.tables.now c.args.entries.now c.args.node c.in-Some.table.now c.requires.fit.2 (sym c.in-Some.ensures)

-- the entries that are read are its own
own_entries : (c : After-as_slice-entries) → c.as_slice-entries.result.now ≡ list_of c.args.entries.now c.args.node
own_entries c =
    let lists = c.args.entries.now in
    c.as_slice-entries.ensures ∙ list-is lists c.as_slice-lists.result.now c.args.node c.index-lists-node.result c.requires.node c.as_slice-lists.ensures c.index-lists-node.is

pub try_table-requires : goal.try_table-requires
try_table-requires c =
    let fit = c.requires.fit in
    let x = c.in-Some.table.now in
    let node = c.args.node in
    let es = list_of c.args.entries.now node in
    let at = goal.at.try_table-requires c in
    let h = own_table at.In-Some in
    let all = table-entries fit.0 fit.1 c.args.entries.now node x h fit.3 c.requires.node in
    let can : CanFill x es = record {
      formed = h.facts.formed;
      bits = few-bits fit.0 fit.1 c.args.entries.now node x h;
      tests = tests-of node (terms_of_name x.name) es all.each;
      few = let most = all.within_size in let size = size-few x.name h.facts.formed in omega (arith, most, size);
    } in
    subst (CanFill x) (sym (own_entries at.After-as_slice-entries)) can

pub returns-in-Some : goal.returns-in-Some
returns-in-Some c =
    let x = c.in-Some.table.now in
    let es = list_of c.args.entries.now c.args.node in
    IfOk-weaker c.try_table.result (IsTried x.parts.items c.args.seed (terms_of_name x.name) c.as_slice-entries.result.now) (IsTriedAt c.args.seed es (table_of c.args.tables.now c.args.node))
    (λ tried h. subst (λ o. IsTriedAt c.args.seed es o tried) c.in-Some.ensures
    (subst (λ es. IsTried x.parts.items c.args.seed (terms_of_name x.name) es tried) (own_entries (goal.at.returns-in-Some c).After-as_slice-entries) h)) c.try_table.ensures

pub returns-in-None : goal.returns-in-None
returns-in-None c = subst (λ o. IsTriedAt c.args.seed (list_of c.args.entries.now c.args.node) o (table.Stand c.new.result)) c.in-None.ensures c.new.ensures
