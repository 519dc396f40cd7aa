use Rattle.std.proofs.Common.{◌≡◌, ◌≤◌, ◌<◌, ◌^◌, All, arith, rules, ap, sym, ◌∙◌, subst}
use Rattle.std.proofs.lemmas.Grind.{common_steps}
use Rattle.rmt_ast.specs.NameRules.{terms_of_name}
use Rattle.rmt_cuckoo.specs.declared.layout.Ways.{Ways}
use Rattle.rmt_cuckoo.specs.Loading.{cells_in}
use Rattle.rmt_update.specs.Loads.{layout_in}
use Rattle.rmt_update.proofs.SmallLaws.{exact-tried, layout-cells, layout-rows}
use Rattle.rmt_update.proofs.book.loading.try_exact.Goals as goal
use Rattle.rmt_update.proofs.book.loading.try_exact.Goals.{In_ok-layout}

-- the layout is that of the table's parts
layout_is : (c : In_ok-layout) → c.in_ok-layout.layout ≡ layout_in c.args.fill.now.table.now.parts.items
layout_is c = c.in_ok-layout.ensures ∙ ap layout_in c.as_slice-parts.ensures.value

pub is_small-small-requires : goal.is_small-small-requires
is_small-small-requires c =
    subst (All (λ (w : Ways). cells_in w < 2 ^ 32)) (sym (c.as_slice.ensures ∙ layout_is (goal.at.is_small-small-requires c).In_ok-layout)) (layout-cells c.args.fill.now.table.now.parts.items)

pub load_keys-requires : goal.load_keys-requires
load_keys-requires c = record {
  parts = search rules;
  rows = subst (All (λ (w : Ways). 1 ≤ w.rows)) (sym (layout_is (goal.at.load_keys-requires c).In_ok-layout)) (layout-rows c.args.fill.now.table.now.parts.items);
  few_cells = search rules;
  few_keys = grind (arith, common_steps);
}

pub returns : goal.returns
returns c =
    let t = c.args.fill.now.table.now in
    exact-tried t.parts.items c.as_slice-parts.result.now c.in_ok-layout.layout c.args.fill.now.seed (terms_of_name t.name) c.args.fill.now.entries.now c.in_ok-keys.keys c.in_ok-tried.tried c.requires.kind c.as_slice-parts.ensures.value
    (layout_is (goal.at.returns c).In_ok-layout) c.in_ok-keys.ensures c.in_ok-tried.ensures
