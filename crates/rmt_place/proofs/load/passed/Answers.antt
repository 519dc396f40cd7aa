use Rattle.std.proofs.Common.{◌≡◌, ℕ, ◌+◌, ◌-◌, ◌∙◌, arith, sym, ap, cond, true, false, drop, get_or}
use Rattle.std.specs.Prelude.{nat_lt}
use Rattle.std.proofs.lemmas.Bool.{lt-ltb, le-ltb}
use Rattle.rmt_config.specs.Limits.{told}
use Rattle.rmt_place.specs.declared.load.TheConstants.{MOST}
use Rattle.rmt_place.specs.Steps.{passed_of}
use Rattle.rmt_place.proofs.LoadLaws.{a_hit, passed_step}
use Rattle.rmt_place.proofs.load.passed.Goals as goal

pub returns-then-most-more : goal.returns-then-most-more
returns-then-most-more c =
    let at = c.loop-at.at in
    let step = passed_step c.args.stage (at + 6) MOST c.args.have.now c.args.more.now at (omega arith) (omega arith) (omega arith) in
    let test : nat_lt (get_or MOST at 0) (get_or c.args.more.now at 0) ≡ true = lt-ltb _ _ c.if-most-more.true in
    let need : c.told-then-most-more.result ≡ told (get_or c.args.more.now at 0 - get_or c.args.have.now at 0) = c.told-then-most-more.ensures ∙ ap told c.saturating_sub.ensures in
    ap (λ (s : ℕ). a_hit (at + 6) c.args.stage (s) (c.told-then-most-more.result)) c.told.ensures
    ∙ (ap (λ (n : ℕ). a_hit (at + 6) c.args.stage (told (get_or c.args.have.now at 0)) (n)) need
    ∙ (sym (step ∙ ap (λ b. cond b (a_hit (at + 6) c.args.stage (told (get_or c.args.have.now at 0)) (told (get_or c.args.more.now at 0 - get_or c.args.have.now at 0)))
    (passed_of c.args.stage (at + 6 + 1) (drop (at + 1) MOST) (drop (at + 1) c.args.have.now) (drop (at + 1) c.args.more.now))) test)
    ∙ c.loop-at.invariant))

pub loop-at-preserved : goal.loop-at-preserved
loop-at-preserved c =
    let at = c.loop-at.at in
    let step = passed_step c.args.stage (at + 6) MOST c.args.have.now c.args.more.now at (omega arith) (omega arith) (omega arith) in
    let test : nat_lt (get_or MOST at 0) (get_or c.args.more.now at 0) ≡ false = le-ltb _ _ c.if-most-more.false in
    let number : at + 1 + 6 ≡ at + 6 + 1 = omega arith in
    ap (λ (l : ℕ). passed_of c.args.stage l (drop (at + 1) MOST) (drop (at + 1) c.args.have.now) (drop (at + 1) c.args.more.now)) number
    ∙ (sym (step ∙ ap (λ b. cond b (a_hit (at + 6) c.args.stage (told (get_or c.args.have.now at 0)) (told (get_or c.args.more.now at 0 - get_or c.args.have.now at 0)))
    (passed_of c.args.stage (at + 6 + 1) (drop (at + 1) MOST) (drop (at + 1) c.args.have.now) (drop (at + 1) c.args.more.now))) test)
    ∙ c.loop-at.invariant)
