use Rattle.std.proofs.Common.{Some, ap, arith, ◌∙◌}
use Rattle.std.proofs.lemmas.List.{length-map}
use Rattle.rmt_ptcam.specs.Grouping.{all_rows}
use Rattle.rmt_ptcam.specs.Joining.{Row}
use Rattle.rmt_ptcam.proofs.GroupLaws.{start_stands}
use Rattle.rmt_ptcam.proofs.InPlaceLaws.{all_seen, none_made}
use Rattle.rmt_ptcam.proofs.joins.behind_joins.Goals as goal

pub all_in-requires : goal.all_in-requires
all_in-requires c = record { stand = start_stands c.args.parser.now c.requires.keeps c.deref_mut.result.now (c.deref_mut.ensures.value ∙ c.in_ok-groups.ensures) }

pub returns-then-not-branch : goal.returns-then-not-branch
returns-then-not-branch c =
    none_made c.args.parser.now c.requires.keeps c.args.joins.now c.deref_mut.result.now c.all_in.new.groups c.in_ok-all_in.field-0 (c.deref_mut.ensures.value ∙ c.in_ok-groups.ensures) c.if-not-branch.true c.in_ok-all_in.ensures

pub flattened-requires : goal.flattened-requires
flattened-requires c =
    let made =
    all_seen c.args.parser.now c.requires.keeps c.args.joins.now c.deref_mut.result.now c.all_in.new.groups c.in_ok-groups.groups.items c.deref.result.now c.in_ok-groups.groups.len
    c.in_ok-all_in.field-0 (c.deref_mut.ensures.value ∙ c.in_ok-groups.ensures) c.if-not-branch.false c.in_ok-all_in.ensures c.deref.ensures.value (c.all_in.auto.groups ∙ c.deref_mut.ensures.len) in
    let few = made.good.keeps.few in
    let long = length-map (all_rows c.deref.result.now) (λ (x : Row). x.entry) in
    omega (arith, few, long)

pub returns : goal.returns
returns c =
    let made =
    all_seen c.args.parser.now c.requires.keeps c.args.joins.now c.deref_mut.result.now c.all_in.new.groups c.in_ok-groups.groups.items c.deref.result.now c.in_ok-groups.groups.len
    c.in_ok-all_in.field-0 (c.deref_mut.ensures.value ∙ c.in_ok-groups.ensures) c.if-not-branch.false c.in_ok-all_in.ensures c.deref.ensures.value (c.all_in.auto.groups ∙ c.deref_mut.ensures.len) in
    ap Some c.in_ok-flattened.ensures ∙ made.some
