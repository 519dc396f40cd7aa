use Rattle.std.proofs.Common.{◌≡◌, ℕ, ◌+◌, ◌*◌, Bool, ◌&&◌, true, ltb, sym, ap, ◌∙◌, arith}
use Rattle.std.specs.List.{list_all}
use Rattle.std.proofs.lemmas.Nat.{mul-le}
use Rattle.rmt_config.specs.Cells.{sram_row}
use Rattle.rmt_config.specs.Layouts.{heads_hold, listed_cells}
use Rattle.rmt_config.specs.Order.{rises_from}
use Rattle.std.proofs.lemmas.Bool.{ltb-true}
use Rattle.std.proofs.lemmas.List.Folds.{list_all-map}
use Rattle.std.proofs.lemmas.List.Sums.{AllPass-from_list_all}
use Rattle.rmt_config.specs.Types.{CellNumber}
use Rattle.rmt_config.proofs.form.cells.cells_are_formed.Goals as goal

pub joined-requires : goal.joined-requires
joined-requires c =
    let l = c.args.entries.now.layout in
    let is = c.requires.entries.heads.is in
    let low = mul-le l.ways l.quanta 4 106 is.most_ways is.most_quanta in
    omega (arith, low)

pub joined-count-requires : goal.joined-count-requires
joined-count-requires c =
    let l = c.args.entries.now.layout in
    let is = c.requires.entries.heads.is in
    let low = mul-le l.ways l.quanta 4 106 is.most_ways is.most_quanta in
    let all = mul-le c.joined.result l.way 424 67108864 (omega (arith, c.joined.ensures, low)) (omega (arith, is.most_way)) in
    omega (arith, all)

pub heads_fit-requires-clause-entries : goal.heads_fit-requires-clause-entries
heads_fit-requires-clause-entries c = c.requires.entries

pub heads_fit-requires-clause-first : goal.heads_fit-requires-clause-first
heads_fit-requires-clause-first c = c.requires.first

pub heads_fit-requires-clause-cells : goal.heads_fit-requires-clause-cells
heads_fit-requires-clause-cells c k d lt =
    let l = c.args.entries.now.layout in
    let count : c.joined-count.result ≡ l.ways * l.quanta * l.way =
    c.joined-count.ensures ∙ more (c.joined.result * l.way) ∙ ap (λ n. n * l.way) (c.joined.ensures ∙ more (l.ways * l.quanta)) in
    let all = sym (list_all-map (λ n. ltb n c.joined-count.result) (λ (n : CellNumber). n.cell) c.args.numbers.now) ∙ sym c.cells_fit.ensures ∙ c.if-not-cells_fit.false in
    let one = AllPass-from_list_all (λ (n : CellNumber). ltb n.cell c.joined-count.result) c.args.numbers.now all k d lt in
    omega (arith, ltb-true _ _ one, count)
  where
    more : (n : ℕ) → n + 0 ≡ n
    more n = omega arith

pub returns : goal.returns
returns c =
    let e = c.args.entries.now in
    let l = e.layout in
    let rule = c.args.rule in
    let cells = listed_cells c.args.numbers.now in
    let hold = heads_hold l (sram_row e.rows.now) e.blocks.now rule.visible rule.first rule.actions cells in
    let fit : Bool = list_all (λ n. ltb n (l.ways * l.quanta * l.way)) cells in
    let rise : rises_from 0 cells ≡ true = sym c.items_rise.ensures ∙ c.if-not-items_rise.false in
    let count : c.joined-count.result ≡ l.ways * l.quanta * l.way =
    c.joined-count.ensures ∙ more (c.joined.result * l.way) ∙ ap (λ n. n * l.way) (c.joined.ensures ∙ more (l.ways * l.quanta)) in
    let fits : fit ≡ true = ap (λ m. list_all (λ n. ltb n m) cells) (sym count) ∙ sym c.cells_fit.ensures ∙ c.if-not-cells_fit.false in
    c.heads_fit.ensures ∙ sym (ap (λ b. b && fit && hold) rise ∙ ap (λ b. b && hold) fits)
  where
    more : (n : ℕ) → n + 0 ≡ n
    more n = omega arith
