use Rattle.std.proofs.Common.{refl, subst, arith, List, ℕ, ◌++◌}
use Rattle.rmt_config.specs.LimitSteps.{Marks}
use Rattle.std.specs.List.{flat_map}
use Rattle.rmt_place.specs.Needs.{Standing}
use Rattle.rmt_place.proofs.LoadLaws.{holds_more}
use Rattle.rmt_place.proofs.load.with_quanta.Goals as goal

pub returns-clause-holds : goal.returns-clause-holds
returns-clause-holds c = λ xs h.
    holds_more xs c.args.load.now _ c.args.demand.now c.args.quanta h (omega (arith, c.product.ensures.value)) (omega (arith, c.product-2.ensures.value))
    (subst (λ (l : List ℕ). Marks (flat_map (λ (x : Standing). x.demand.exact_words) xs ++ l) c.with_words.result) c.as_slice.ensures (c.with_words.ensures _ h.exact))
    (subst (λ (l : List ℕ). Marks (flat_map (λ (x : Standing). x.demand.ternary_words) xs ++ l) c.with_words-2.result) c.as_slice-2.ensures (c.with_words-2.ensures _ h.ternary))
    refl refl refl refl

pub returns-clause-small : goal.returns-clause-small
returns-clause-small c = record { sram = c.product.ensures.each; tcam = c.product-2.ensures.each; slots = omega arith; instructions = omega arith; held = omega arith; gates = omega arith }
