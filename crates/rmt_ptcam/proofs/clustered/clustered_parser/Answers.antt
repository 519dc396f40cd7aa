use Rattle.std.proofs.Common.{◌≡◌, Option, ap, sym, ◌∙◌, arith}
use Rattle.std.specs.Prelude.{Ok}
use Rattle.std.proofs.lemmas.Result.{IfOk-at_ok}
use Rattle.rmt_ptcam.specs.Types.{ParserConfig}
use Rattle.rmt_ptcam.specs.declared.fault.ParserFault.{ParserFault}
use Rattle.rmt_ptcam.specs.Clustering.{all_joined, clustered}
use Rattle.rmt_ptcam.specs.Joining.{KeepsForm}
use Rattle.rmt_ptcam.specs.Needs.{unless}
use Rattle.rmt_ptcam.proofs.ClusteringLaws.{is_clustered, joined_states, planned_ok}
use Rattle.rmt_ptcam.proofs.ClusteredLaws.{IsDone, clustered_done}
use Rattle.rmt_ptcam.proofs.FormedParsers.{formed_keeps}
use Rattle.rmt_ptcam.proofs.clustered.clustered_parser.Goals as goal

pub behind_rule-parser-requires : goal.behind_rule-parser-requires
behind_rule-parser-requires c = record { few = c.requires.program.counts.headers; keeps = formed_keeps c.in_ok-plain.plain c.in_ok-plain.ensures.formed }

pub compacted-requires : goal.compacted-requires
compacted-requires c =
    let p = c.args.program.now in
    let keeps : KeepsForm c.in_ok-parser.parser = IfOk-at_ok KeepsForm c.in_ok-parser.was c.behind_rule-parser.ensures.keeps in
    let joined = IfOk-at_ok (λ (q : ParserConfig). q ≡ all_joined p c.in_ok-plain.plain) c.in_ok-parser.was c.behind_rule-parser.ensures.joined in
    let made = planned_ok p c.args.places.now c.in_ok-plain.plain (c.in_ok-plain.ensures.made (λ e. cc)) in
    let count = joined_states p c.args.places.now c.in_ok-plain.plain c.in_ok-parser.parser made.1 joined in
    let few = c.requires.program.counts.headers in
    record { keeps = keeps; some = keeps.some; few = omega (arith, count, few) }

pub returns : goal.returns
returns c =
    let p = c.args.program.now in
    let places = c.args.places.now in
    let joined = IfOk-at_ok (λ (q : ParserConfig). q ≡ all_joined p c.in_ok-plain.plain) c.in_ok-parser.was c.behind_rule-parser.ensures.joined in
    let made = planned_ok p places c.in_ok-plain.plain (c.in_ok-plain.ensures.made (λ e. cc)) in
    let is : c.in_ok-compacted.field-0 ≡ clustered p places = c.in_ok-compacted.ensures.given ∙ is_clustered p places c.in_ok-plain.plain c.in_ok-parser.parser made.1 joined in
    let done : IsDone p places c.in_ok-compacted.field-0 = clustered_done p places c.requires.program c.requires.places made.0 c.in_ok-compacted.field-0 is in
    record {
      made = λ memory. ap Ok is ∙ sym (ap (λ (o : Option ParserFault). unless o (clustered p places)) made.0);
      runs = done.runs;
      joins = done.joins;
      formed = done.formed;
      headers = done.headers;
      agrees = done.agrees;
      pace = done.pace;
      few = done.few;
    }
