use Rattle.std.proofs.Common.{◌≡◌, ◌+◌, ◌<◌, ◌&&◌, ℕ, Bool, true, false, List, length, drop, get_or, sym, ap, ◌∙◌, arith}
use Rattle.std.specs.Prelude.{slice_index}
use Rattle.rmt_ast.specs.declared.program.Test.{Test}
use Rattle.rmt_ast.specs.State.{passes}
use Rattle.rmt_ast.specs.Walk as spec
use Rattle.rmt_plain.proofs.WalkLaws.{all_pass-drop, all_pass-ended, no_test}
use Rattle.rmt_plain.proofs.walk.all_pass.Goals as goal

-- one test more, of which it was found out whether it passes
one_more : (tests : List Test) (fields s : List ℕ) (i value : ℕ) (found b : Bool) → i < length tests → i < length fields
    → value ≡ slice_index s (slice_index fields i) → found ≡ passes (get_or tests i no_test) value → found ≡ b
    → (b && spec.all_pass (drop (i + 1) tests) (drop (i + 1) fields) s) ≡ spec.all_pass (drop i tests) (drop i fields) s
one_more tests fields s i value found b lt lf read is same =
    sym (all_pass-drop tests fields s i no_test lt lf
    ∙ ap (λ (t : Bool). t && spec.all_pass (drop (i + 1) tests) (drop (i + 1) fields) s) (ap (passes (get_or tests i no_test)) (sym read) ∙ sym is ∙ same))

pub returns-then-not-passes : goal.returns-then-not-passes
returns-then-not-passes c =
    let inside = c.min-i-end.ensures in
    one_more c.args.tests.now c.args.fields.now c.args.state.now c.loop-i.i _ _ false (omega arith) (omega arith) c.number_at.ensures c.passes.ensures c.if-not-passes.true ∙ c.loop-i.invariant

pub loop-i-preserved : goal.loop-i-preserved
loop-i-preserved c =
    let inside = c.min-i-end.ensures in
    one_more c.args.tests.now c.args.fields.now c.args.state.now c.loop-i.i _ _ true (omega arith) (omega arith) c.number_at.ensures c.passes.ensures c.if-not-passes.false ∙ c.loop-i.invariant

pub returns : goal.returns
returns c =
    let inside = c.min-i-end.ensures in
    sym (all_pass-ended c.args.tests.now c.args.fields.now c.args.state.now c.loop-i.i (omega arith)) ∙ c.loop-i.invariant
