use Rattle.std.proofs.Common.{◌≡◌, ℕ, ◌+◌, ◌<◌, List, [], ◌∷◌, ◌++◌, append_assoc, drop, get_or, length, ap, sym, ◌∙◌}
use Rattle.std.proofs.lemmas.List.{append-nil, at_drop_all, at_drop_more}
use Rattle.rmt_ast.specs.declared.program.Test.{Test}
use Rattle.rmt_lists.specs.Holding.{spelled_tests}
use Rattle.rmt_lists.proofs.held.spelled.Goals as goal

-- the numbers so far with those of one test more
test-more : (ts : List Test) (i : ℕ) (d : Test) (before between after whole : List ℕ) → i < length ts → before ++ spelled_tests (drop i ts) ≡ whole → between ≡ before ++ (get_or ts i d).value ∷ []
    → after ≡ between ++ (get_or ts i d).mask ∷ [] → after ++ spelled_tests (drop (i + 1) ts) ≡ whole
test-more ts i d before between after whole lt so_far value mask =
    let t = get_or ts i d in
    let rest = spelled_tests (drop (i + 1) ts) in
    let here : spelled_tests (drop i ts) ≡ t.value ∷ t.mask ∷ rest = at_drop_more spelled_tests ts i d lt in
    ap (λ ks. ks ++ rest) (mask ∙ ap (λ ks. ks ++ t.mask ∷ []) value) ∙ append_assoc (before ++ t.value ∷ []) (t.mask ∷ []) rest ∙ append_assoc before (t.value ∷ []) (t.mask ∷ rest)
    ∙ ap (λ ks. before ++ ks) (sym here) ∙ so_far

pub loop-test-preserved : goal.loop-test-preserved
loop-test-preserved c =
    test-more c.args.tests.now c.loop-test.test-index (record { value = 0; mask = 0 }) c.loop-test.key.items _ _ _ c.loop-test-test.true c.loop-test.invariant c.in_ok-push-2.ensures.items c.in_ok-push-3.ensures.items

pub returns : goal.returns
returns c =
    sym (append-nil c.loop-test.key.items) ∙ ap (λ ks. c.loop-test.key.items ++ ks) (sym (at_drop_all spelled_tests c.args.tests.now c.loop-test.test-index c.loop-test-test.false)) ∙ c.loop-test.invariant
