use Rattle.std.proofs.Common.{◌≡◌, ap, arith, subst, sym, ◌∙◌}
use Rattle.std.proofs.lemmas.List.{length-map}
use Rattle.std.proofs.lemmas.Result.{IfOk-weaker}
use Rattle.rmt_ptcam.specs.Types.{ParserConfig}
use Rattle.rmt_ptcam.specs.Clustering.{all_joined}
use Rattle.rmt_ptcam.specs.Grouping.{all_rows, parser_in}
use Rattle.rmt_ptcam.specs.Joining.{KeepsForm, Row}
use Rattle.rmt_ptcam.proofs.ClusterSteps.{joined_behind}
use Rattle.rmt_ptcam.proofs.GroupLaws.{start_stands}
use Rattle.rmt_ptcam.proofs.InPlaceLaws.{stand_seen, written}
use Rattle.rmt_ptcam.proofs.clustered.behind_rule.Goals as goal

pub all_joined-requires-clause-stand : goal.all_joined-requires-clause-stand
all_joined-requires-clause-stand c = start_stands c.args.plain.now c.requires.keeps c.deref_mut.result.now (c.deref_mut.ensures.value ∙ c.in_ok-groups.ensures)

pub flattened-requires : goal.flattened-requires
flattened-requires c =
    let stand = stand_seen c.in_ok-groups.groups.len c.all_joined.new.groups c.in_ok-groups.groups.items c.deref.result.now c.deref.ensures.value (c.all_joined.auto.groups ∙ c.deref_mut.ensures.len) c.in_ok-all_joined.ensures.stand in
    let few = stand.keeps.few in
    let long = length-map (all_rows c.deref.result.now) (λ (x : Row). x.entry) in
    omega (arith, few, long)

pub returns : goal.returns
returns c =
    let len = c.all_joined.auto.groups ∙ c.deref_mut.ensures.len in
    let seen = written c.in_ok-groups.groups.len c.all_joined.new.groups c.in_ok-groups.groups.items c.deref.result.now c.deref.ensures.value len in
    let stand = stand_seen c.in_ok-groups.groups.len c.all_joined.new.groups c.in_ok-groups.groups.items c.deref.result.now c.deref.ensures.value len c.in_ok-all_joined.ensures.stand in
    record {
      joined = IfOk-weaker c.flattened.result (λ (q : ParserConfig). q ≡ parser_in c.deref.result.now) (λ (q : ParserConfig). q ≡ all_joined c.args.program.now c.args.plain.now)
          (λ q is. joined_behind c.args.program.now c.args.plain.now c.requires.keeps c.deref_mut.result.now c.all_joined.new.groups q (c.deref_mut.ensures.value ∙ c.in_ok-groups.ensures) c.in_ok-all_joined.ensures.joined (is ∙ ap parser_in seen)) c.flattened.ensures;
      keeps = IfOk-weaker c.flattened.result (λ (q : ParserConfig). q ≡ parser_in c.deref.result.now) KeepsForm (λ q is. subst KeepsForm (sym is) stand.keeps) c.flattened.ensures;
    }
