use Rattle.std.proofs.Common.{rules, ◌≡◌, ◌≢◌, ◌∙◌, ◌<◌, ◌≤◌, ℕ, List, [], ap, sym, subst, get_or, arith}
use Rattle.std.specs.Prelude.{IfOk}
use Rattle.std.proofs.lemmas.List.{get_or_default}
use Rattle.rmt_ast.specs.declared.program.Kind.TheVariants.{Keyless}
use Rattle.rmt_pack.specs.declared.format.Format.{Format}
use Rattle.rmt_pack.specs.declared.placement.Part.{Part}
use Rattle.rmt_pack.specs.Placements.{quanta_in}
use Rattle.rmt_filling.specs.declared.stands.Stand.{Stand}
use Rattle.rmt_filling.specs.Formats.{format_at}
use Rattle.rmt_build.specs.Plans.{quanta_before, stands_of_part}
use Rattle.rmt_filling.specs.EntryCells.{cells_for, stands_within}
use Rattle.rmt_build.proofs.PlanLaws.{few_in, few_per, format_seen, formats_long}
use Rattle.rmt_build.proofs.EntryCellLaws.{within_none}
use Rattle.rmt_build.proofs.units.stands_in.Goals as goal

abbrev zero_format : Format
zero_format = record { width = 0; per = 0; quanta = 0; sram = 0; tcam = 0 }

pub returns-then-eq : goal.returns-then-eq
returns-then-eq c =
    let keyless : c.args.own.now.table.now.kind ≡ Keyless = search rules in
    let own = get_or c.args.own.now.planned.now.plan.now.stands c.args.own.now.node [] in
    let parts = c.args.own.now.planned.now.plan.now.placement.parts in
    let per = (format_at c.args.own.now.planned.now.program.now c.args.own.now.node).per in
    c.new.ensures ∙ sym (ap (λ kind. stands_within (cells_for kind per (quanta_before parts c.args.own.now.node c.args.own.now.planned.now.stage)) (cells_for kind per (quanta_in parts c.args.own.now.node c.args.own.now.planned.now.stage)) own) keyless ∙ within_none own)

pub bounds-as_slice-node : goal.bounds-as_slice-node
bounds-as_slice-node c = formats_long c.args.own.now.planned.now.program.now c.requires.planned.program c.args.own.now.node c.args.own.now.table.now c.requires.table c.as_slice.result.now (c.as_slice.ensures ∙ c.requires.planned.is_plan.formats)

pub quanta_before-requires-clause-few : goal.quanta_before-requires-clause-few
quanta_before-requires-clause-few c = λ k.
    (let keyed : c.args.own.now.table.now.kind ≢ Keyless = search rules in
    subst (λ (ps : List Part). quanta_in ps c.args.own.now.node k ≤ 106) (sym c.as_slice-parts.ensures)
    (few_in c.args.own.now.planned.now.program.now c.requires.planned.program c.args.own.now.node c.args.own.now.table.now c.requires.table c.args.own.now.planned.now.plan.now.placement.parts k c.requires.planned.is_plan.parts keyed))

pub cells_of-first-requires-clause-per : goal.cells_of-first-requires-clause-per
cells_of-first-requires-clause-per c =
    let keyed : c.args.own.now.table.now.kind ≢ Keyless = search rules in
    let seen = format_seen c.args.own.now.planned.now.program.now c.requires.planned.program c.args.own.now.node c.args.own.now.table.now c.requires.table c.as_slice.result.now zero_format (c.as_slice.ensures ∙ c.requires.planned.is_plan.formats) in
    subst (λ (f : Format). f.per < 100) (sym seen) (few_per c.args.own.now.planned.now.program.now c.requires.planned.program c.args.own.now.node c.args.own.now.table.now c.requires.table keyed)

pub cells_of-cells-requires-clause-quanta : goal.cells_of-cells-requires-clause-quanta
cells_of-cells-requires-clause-quanta c =
    let keyed : c.args.own.now.table.now.kind ≢ Keyless = search rules in
    let few = few_in c.args.own.now.planned.now.program.now c.requires.planned.program c.args.own.now.node c.args.own.now.table.now c.requires.table c.args.own.now.planned.now.plan.now.placement.parts c.args.own.now.planned.now.stage c.requires.planned.is_plan.parts keyed in
    let same = c.quanta_in.ensures ∙ ap (λ ps. quanta_in ps c.args.own.now.node c.args.own.now.planned.now.stage) c.as_slice-parts.ensures in
    omega (arith, few, same)

pub cells_of-cells-requires-clause-per : goal.cells_of-cells-requires-clause-per
cells_of-cells-requires-clause-per c =
    let keyed : c.args.own.now.table.now.kind ≢ Keyless = search rules in
    let seen = format_seen c.args.own.now.planned.now.program.now c.requires.planned.program c.args.own.now.node c.args.own.now.table.now c.requires.table c.as_slice.result.now zero_format (c.as_slice.ensures ∙ c.requires.planned.is_plan.formats) in
    subst (λ (f : Format). f.per < 100) (sym seen) (few_per c.args.own.now.planned.now.program.now c.requires.planned.program c.args.own.now.node c.args.own.now.table.now c.requires.table keyed)

pub returns : goal.returns
returns c =
    let n = c.args.own.now.node in
    let k = c.args.own.now.planned.now.stage in
    let parts = c.args.own.now.planned.now.plan.now.placement.parts in
    let seen = format_seen c.args.own.now.planned.now.program.now c.requires.planned.program n c.args.own.now.table.now c.requires.table c.as_slice.result.now zero_format (c.as_slice.ensures ∙ c.requires.planned.is_plan.formats) in
    let cells : ℕ → ℕ → ℕ = λ per q. cells_for c.args.own.now.table.now.kind per q in
    let first : c.cells_of-first.result ≡ cells (format_at c.args.own.now.planned.now.program.now n).per (quanta_before parts n k) =
    c.cells_of-first.ensures ∙ (ap (λ (f : Format). cells f.per c.quanta_before.result) seen
    ∙ ap (cells (format_at c.args.own.now.planned.now.program.now n).per) (c.quanta_before.ensures.quanta ∙ ap (λ ps. quanta_before ps n k) c.as_slice-parts.ensures)) in
    let own : c.cells_of-cells.result ≡ cells (format_at c.args.own.now.planned.now.program.now n).per (quanta_in parts n k) =
    c.cells_of-cells.ensures ∙ (ap (λ (f : Format). cells f.per c.quanta_in.result) seen
    ∙ ap (cells (format_at c.args.own.now.planned.now.program.now n).per) (c.quanta_in.ensures ∙ ap (λ ps. quanta_in ps n k) c.as_slice-parts.ensures)) in
    let x = c.index-as_slice-node.result in
    let stands : c.as_slice-stands.result.now ≡ get_or c.args.own.now.planned.now.plan.now.stands n [] =
    c.as_slice-stands.ensures ∙ (c.index-as_slice-node.is ∙ (ap (λ xs. get_or xs n x) c.as_slice-2.ensures ∙ get_or_default c.args.own.now.planned.now.plan.now.stands n x [] c.requires.stands)) in
    let same : stands_within c.cells_of-first.result c.cells_of-cells.result c.as_slice-stands.result.now ≡ stands_of_part c.args.own.now.planned.now.program.now c.args.own.now.planned.now.plan.now c.args.own.now.table.now n k =
    ap (λ a. stands_within a c.cells_of-cells.result c.as_slice-stands.result.now) first
    ∙ (ap (λ b. stands_within (cells (format_at c.args.own.now.planned.now.program.now n).per (quanta_before parts n k)) b c.as_slice-stands.result.now) own
    ∙ ap (stands_within (cells (format_at c.args.own.now.planned.now.program.now n).per (quanta_before parts n k)) (cells (format_at c.args.own.now.planned.now.program.now n).per (quanta_in parts n k))) stands) in
    subst (λ (xs : List Stand). IfOk c.stands_from.result (λ (ys : List Stand). ys ≡ xs)) same c.stands_from.ensures
