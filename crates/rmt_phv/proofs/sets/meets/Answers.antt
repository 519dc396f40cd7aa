use Rattle.std.proofs.Common.{◌≡◌, ◌≢◌, ℕ, Option, get_or, bit_and, refl, ap, ◌∙◌, arith}
use Rattle.std.specs.Prelude.{unwrap_or}
use Rattle.std.proofs.lemmas.Bool.{false≢true}
use Rattle.rmt_phv.proofs.SetLaws.{meet_here, meet_none}
use Rattle.rmt_phv.proofs.sets.meets.Goals as goal

pub returns-then-block-other-ne0 : goal.returns-then-block-other-ne0
returns-then-block-other-ne0 c =
    let k = c.loop-at.at in
    let other : c.unwrap_or-other.result ≡ get_or c.args.b.now k 0 =
    c.unwrap_or-other.ensures ∙ ap (λ (o : Option ℕ). unwrap_or o 0) c.copied.ensures ∙ c.get.ensures.lookup.4 (omega arith) 0 in
    (λ _. meet_here c.args.a.now c.args.b.now k (omega (arith, c.type_inv.a k)) (λ none. c.if-block-other-ne0.true (ap (bit_and (get_or c.args.a.now k 0)) other ∙ none)), λ _. refl)

pub returns : goal.returns
returns c =
    (λ e. absurd (false≢true e), λ both. absurd (meet_none c.args.a.now c.args.b.now (λ k lt. c.loop-at.invariant k (omega arith)) both))
