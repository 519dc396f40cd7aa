use Rattle.std.proofs.Common.{◌≡◌, ◌≤◌, ◌∙◌, All, ap, arith, length, subst, sym}
use Rattle.rmt_ast.specs.WellFormed.{HasKey}
use Rattle.rmt_cuckoo.specs.declared.layout.Ways.{Ways}
use Rattle.rmt_cuckoo.specs.Loading.{cells_of}
use Rattle.rmt_build.specs.Loads.{layout_in, layout_of}
use Rattle.rmt_filling.specs.Keys.{IsTried}
use Rattle.rmt_build.proofs.LayoutLaws.{few_entries, few_quanta_in, small_exact}
use Rattle.rmt_build.proofs.PlanLaws.{is_table}
use Rattle.rmt_build.proofs.TriedLaws.{tried_stands}
use Rattle.rmt_build.proofs.loading.try_exact.Goals as goal

pub layout_of-requires-clause-few : goal.layout_of-requires-clause-few
layout_of-requires-clause-few c = few_quanta_in c.args.own.now.placed.now.program.now c.requires.placed.program c.args.own.now.node c.args.own.now.table.now c.requires.own.table c.requires.exact c.args.own.now.placed.now.parts.now c.requires.placed.are_parts

pub keys_of-requires-clause-table : goal.keys_of-requires-clause-table
keys_of-requires-clause-table c =
    subst (λ kind. HasKey c.args.own.now.placed.now.program.now kind c.args.own.now.table.now) c.requires.exact (is_table c.args.own.now.placed.now.program.now c.requires.placed.program c.args.own.now.node c.args.own.now.table.now c.requires.own.table).key

pub load_exact-requires : goal.load_exact-requires
load_exact-requires c =
    let p = c.args.own.now.placed.now.program.now in
    let parts = c.args.own.now.placed.now.parts.now in
    let n = c.args.own.now.node in
    let same : layout_of p parts n ≡ c.in_ok-layout.layout = sym (c.in_ok-layout.ensures ∙ ap (λ f. layout_in f.per parts n) c.requires.own.by_rule) in
    let small = small_exact p c.requires.placed.program n c.args.own.now.table.now c.requires.own.table c.requires.exact parts c.requires.placed.are_parts in
    let few = few_entries p c.requires.placed.program n c.args.own.now.table.now c.requires.own.table c.requires.exact c.args.own.now.entries.now c.requires.own.entries in
    record {
      parts = subst (λ ws. length ws ≤ 64) same small.long;
      rows = subst (All (λ (part : Ways). 1 ≤ part.rows)) same small.rows;
      few_cells = omega (arith, small.cells, ap cells_of same);
      few_keys = omega (arith, few, ap length c.in_ok-keys.ensures);
    }

pub returns : goal.returns
returns c =
    let p = c.args.own.now.placed.now.program.now in
    let t = c.args.own.now.table.now in
    let same : c.in_ok-layout.layout ≡ layout_of p c.args.own.now.placed.now.parts.now c.args.own.now.node = c.in_ok-layout.ensures ∙ ap (λ f. layout_in f.per c.args.own.now.placed.now.parts.now c.args.own.now.node) c.requires.own.by_rule in
    tried_stands p c.args.own.now.placed.now.parts.now c.args.seed c.args.own.now.node t c.args.own.now.entries.now c.requires.exact c.in_ok-tried.tried
    (subst (λ ks. IsTried (layout_of p c.args.own.now.placed.now.parts.now c.args.own.now.node) c.args.seed ks c.in_ok-tried.tried) c.in_ok-keys.ensures
    (subst (λ ws. IsTried ws c.args.seed c.in_ok-keys.keys c.in_ok-tried.tried) same c.in_ok-tried.ensures))
