use Rattle.std.proofs.Common.{◌≡◌, ◌+◌, ◌++◌, ◌∷◌, [], ◌≤◌, cond, List, None, Some, ap, arith, length, subst, sym, ◌∙◌}
use Rattle.rmt_ptcam.specs.declared.joining.rows.StateRows.{StateRows}
use Rattle.rmt_ptcam.specs.declared.joins.Join.{Join}
use Rattle.rmt_ptcam.specs.Grouping.{joined_in, parser_in}
use Rattle.rmt_ptcam.specs.Joining.{entries_in}
use Rattle.rmt_ptcam.proofs.ClusterSteps.{step_alone, step_taken, step_there}
use Rattle.rmt_ptcam.proofs.clustered.clustering.one_entry.Goals as goal

pub returns-then-not-branch-clause-step : goal.returns-then-not-branch-clause-step
returns-then-not-branch-clause-step c =
    let g : List StateRows = c.args.groups.now in
    let h : List StateRows = c.join_in.new.groups in
    let j : Join = c.args.join in
    let same : h ≡ g = c.in_ok-join_in.ensures.kept c.if-not-branch.true in
    let none : joined_in g j ≡ None = sym c.in_ok-join_in.ensures.made ∙ ap (λ b. cond b (Some h) None) c.if-not-branch.true in
    ap (λ (k : List StateRows). record { parser = parser_in k; joins = c.args.joins.now; behind = c.from-at.result + 1 }) same
    ∙ ap (λ k. record { parser = parser_in g; joins = c.args.joins.now; behind = k + 1 }) c.from-at.ensures
    ∙ step_alone c.args.program.now g c.requires.stand c.args.joins.now j c.in-Some.next (sym c.next_at.ensures ∙ c.in-Some.is) none

pub returns-then-not-branch-clause-within : goal.returns-then-not-branch-clause-within
returns-then-not-branch-clause-within c =
    let g : List StateRows = c.args.groups.now in
    let h : List StateRows = c.join_in.new.groups in
    let same : h ≡ g = c.in_ok-join_in.ensures.kept c.if-not-branch.true in
    let there = step_there c.args.program.now g c.requires.stand c.args.joins.now c.args.join c.in-Some.next (sym c.next_at.ensures ∙ c.in-Some.is) in
    subst (λ (k : List StateRows). c.from-at.result + 1 ≤ length (entries_in c.args.join.state (parser_in k).entries)) (sym same) (let at = c.from-at.ensures in omega (arith, there, at))

pub overflow_add-result-2 : goal.overflow_add-result-2
overflow_add-result-2 c =
    let told =
    step_taken c.args.program.now c.args.groups.now c.requires.stand c.args.joins.now c.args.join c.in-Some.next (sym c.next_at.ensures ∙ c.in-Some.is) (sym c.is_wanted.ensures ∙ c.if-not-is_wanted.false)
    c.join_in.new.groups c.in_ok-join_in.field-0 c.in_ok-join_in.ensures.made c.if-not-branch.false in
    let small = told.small in
    let at = c.from-at.ensures in
    let others = c.count_next-others.ensures in
    omega (arith, small, at, others)

pub returns : goal.returns
returns c =
    let h : List StateRows = c.join_in.new.groups in
    let j : Join = c.args.join in
    let told =
    step_taken c.args.program.now c.args.groups.now c.requires.stand c.args.joins.now c.args.join c.in-Some.next (sym c.next_at.ensures ∙ c.in-Some.is) (sym c.is_wanted.ensures ∙ c.if-not-is_wanted.false)
    c.join_in.new.groups c.in_ok-join_in.field-0 c.in_ok-join_in.ensures.made c.if-not-branch.false in
    record {
      step =
          ap (λ (js : List Join). record { parser = parser_in h; joins = js; behind = c.from-at.result + c.count_next-others.result }) c.in_ok-push.ensures.ok
          ∙ ap (λ k. record { parser = parser_in h; joins = c.args.joins.now ++ j ∷ []; behind = k + c.count_next-others.result }) c.from-at.ensures
          ∙ ap (λ k. record { parser = parser_in h; joins = c.args.joins.now ++ j ∷ []; behind = j.entry + k }) c.count_next-others.ensures
          ∙ told.step;
      stand = told.stand;
      within = let own = told.within in let at = c.from-at.ensures in let others = c.count_next-others.ensures in omega (arith, own, at, others);
    }
