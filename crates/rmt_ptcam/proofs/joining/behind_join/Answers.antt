use Rattle.std.proofs.Common.{Some, ap, arith, subst, sym, ◌∙◌}
use Rattle.std.proofs.lemmas.List.{length-map}
use Rattle.rmt_ptcam.specs.Grouping.{all_rows}
use Rattle.rmt_ptcam.specs.Joining.{IsGood, Row}
use Rattle.rmt_ptcam.proofs.GroupLaws.{start_stands}
use Rattle.rmt_ptcam.proofs.InPlaceLaws.{none_joined, one_seen}
use Rattle.rmt_ptcam.proofs.joining.behind_join.Goals as goal

pub join_in-requires : goal.join_in-requires
join_in-requires c = record { stand = start_stands c.args.parser.now c.requires.keeps c.deref_mut.result.now (c.deref_mut.ensures.value ∙ c.in_ok-groups.ensures) }

pub returns-then-not-branch-clause-given : goal.returns-then-not-branch-clause-given
returns-then-not-branch-clause-given c =
    none_joined c.args.parser.now c.requires.keeps c.args.join c.deref_mut.result.now c.join_in.new.groups c.in_ok-join_in.field-0 (c.deref_mut.ensures.value ∙ c.in_ok-groups.ensures) c.if-not-branch.true c.in_ok-join_in.ensures.made

pub flattened-requires : goal.flattened-requires
flattened-requires c =
    let made =
    one_seen c.args.parser.now c.requires.keeps c.args.join c.deref_mut.result.now c.join_in.new.groups c.in_ok-groups.groups.items c.deref.result.now c.in_ok-groups.groups.len c.in_ok-join_in.field-0
    (c.deref_mut.ensures.value ∙ c.in_ok-groups.ensures) c.if-not-branch.false c.in_ok-join_in.ensures.made c.deref.ensures.value (c.join_in.auto.groups ∙ c.deref_mut.ensures.len) in
    let few = made.good.keeps.few in
    let long = length-map (all_rows c.deref.result.now) (λ (x : Row). x.entry) in
    omega (arith, few, long)

pub returns : goal.returns
returns c =
    let made =
    one_seen c.args.parser.now c.requires.keeps c.args.join c.deref_mut.result.now c.join_in.new.groups c.in_ok-groups.groups.items c.deref.result.now c.in_ok-groups.groups.len c.in_ok-join_in.field-0
    (c.deref_mut.ensures.value ∙ c.in_ok-groups.ensures) c.if-not-branch.false c.in_ok-join_in.ensures.made c.deref.ensures.value (c.join_in.auto.groups ∙ c.deref_mut.ensures.len) in
    record { given = ap Some c.in_ok-flattened.ensures ∙ made.some; good = subst (IsGood c.args.parser.now) (sym c.in_ok-flattened.ensures) made.good }
