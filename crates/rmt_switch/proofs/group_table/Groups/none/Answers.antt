use Rattle.std.proofs.Common.{◌≡◌, ℕ, List, [], ◌∷◌, ◌++◌, ap, sym, ◌∙◌, subst, arith}
use Rattle.std.specs.Prelude.{replicate}
use Rattle.std.proofs.lemmas.List.{replicate-append-replicate}
use Rattle.rmt_switch.specs.GroupText.{AreGroups}
use Rattle.rmt_switch.proofs.DistinctLaws.{empty_groups}
use Rattle.rmt_switch.proofs.group_table.Groups.none.Goals as goal

pub invariant_of-result : goal.invariant_of-result
invariant_of-result c =
    let last : c.loop-number._number ≡ 512 = omega arith in
    subst AreGroups (sym (c.loop-number.invariant ∙ ap (λ n. replicate n []) last)) empty_groups

abbrev nothing : List ℕ
nothing = []

pub loop-number-preserved : goal.loop-number-preserved
loop-number-preserved c =
    let n = c.loop-number._number in
    ◌∙◌ {A = List (List ℕ)} c.in_ok-push.ensures.items
    (ap (λ (lists : List (List ℕ)). lists ++ c.new.result ∷ []) c.loop-number.invariant
    ∙ ap (λ (list : List ℕ). replicate n nothing ++ list ∷ []) c.new.ensures
    ∙ replicate-append-replicate n 1 nothing)
