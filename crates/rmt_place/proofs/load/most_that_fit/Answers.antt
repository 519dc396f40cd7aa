use Rattle.std.proofs.Common.{◌≡◌, ◌∙◌, sym, ap, rules, true, false}
use Rattle.rmt_place.specs.declared.load.TheConstants.{MOST}
use Rattle.rmt_place.specs.Steps.{are_kept}
use Rattle.rmt_place.specs.Needs.{keeps_limits}
use Rattle.rmt_place.proofs.LoadLaws.{none_fits, most_fit, with_one}
use Rattle.rmt_place.proofs.load.most_that_fit.Goals as goal

pub returns-then-not-keep-clause-value : goal.returns-then-not-keep-clause-value
returns-then-not-keep-clause-value c = λ xs h.
    let kept : c.keep.result ≡ keeps_limits (with_one xs c.args.demand.now 1) = c.keep.ensures ∙ ap (are_kept MOST) (c.sums.ensures _ (c.with_quanta.ensures.holds xs h)) in
    let fails : c.keep.result ≡ false = search rules in
    sym (none_fits xs c.args.demand.now c.args.left (sym kept ∙ fails))

pub returns-clause-value : goal.returns-clause-value
returns-clause-value c = λ xs h.
    let kept : c.keep.result ≡ keeps_limits (with_one xs c.args.demand.now 1) = c.keep.ensures ∙ ap (are_kept MOST) (c.sums.ensures _ (c.with_quanta.ensures.holds xs h)) in
    let holds : c.keep.result ≡ true = search rules in
    sym (most_fit xs c.args.load.now c.args.demand.now c.args.left c.most_of-by_sram.result c.most_of.result h c.requires (sym kept ∙ holds)
    c.most_of-by_sram.ensures.few c.most_of-by_sram.ensures.fit c.most_of-by_sram.ensures.most
    c.most_of.ensures.few c.most_of.ensures.fit c.most_of.ensures.most)
