use Rattle.std.proofs.Common.{◌≡◌, ◌≤◌, List, None, Option, length, ap, sym, subst, ◌∙◌}
use Rattle.std.specs.Prelude.{Ok}
use Rattle.rmt_ptcam.specs.Types.{ParserConfig}
use Rattle.rmt_ptcam.specs.declared.fault.ParserFault.{ParserFault}
use Rattle.rmt_ptcam.specs.declared.joins.Join.{Join}
use Rattle.rmt_ptcam.specs.Clustering.{all_headers}
use Rattle.rmt_ptcam.specs.Grouping.{by_state}
use Rattle.rmt_ptcam.specs.Joins.{joins, replayed}
use Rattle.rmt_ptcam.specs.Needs.{refusal, unless}
use Rattle.rmt_ptcam.specs.Plain.{plain}
use Rattle.rmt_ptcam.proofs.ClusterSteps.{joins_behind}
use Rattle.rmt_ptcam.proofs.ClusteringLaws.{planned_ok}
use Rattle.rmt_ptcam.proofs.FormedParsers.{formed_keeps}
use Rattle.rmt_ptcam.proofs.GroupLaws.{start_stands}
use Rattle.rmt_ptcam.proofs.JoinsCount.{joins_few}
use Rattle.rmt_ptcam.proofs.JoinsLaws.{joins_give}
use Rattle.rmt_ptcam.proofs.PlainForm.{plain_keeps}
use Rattle.rmt_ptcam.proofs.joins.joins_of.Goals as goal

pub grouped-requires : goal.grouped-requires
grouped-requires c = formed_keeps c.in_ok-parser.parser c.in_ok-parser.ensures.formed

pub all_joined-requires-clause-stand : goal.all_joined-requires-clause-stand
all_joined-requires-clause-stand c = start_stands c.in_ok-parser.parser (formed_keeps c.in_ok-parser.parser c.in_ok-parser.ensures.formed) c.deref_mut.result.now (c.deref_mut.ensures.value ∙ c.in_ok-groups.ensures)

pub returns : goal.returns
returns c =
    let p = c.args.program.now in
    let places = c.args.places.now in
    let parser : ParserConfig = c.in_ok-parser.parser in
    let made : (refusal p ≡ None) × (parser ≡ plain p places) = planned_ok p places parser (c.in_ok-parser.ensures.made (λ e. cc)) in
    let start : c.deref_mut.result.now ≡ by_state parser = c.deref_mut.ensures.value ∙ c.in_ok-groups.ensures in
    let told : c.in_ok-all_joined.field-0 ≡ joins p places =
    joins_behind p parser (formed_keeps parser c.in_ok-parser.ensures.formed) c.deref_mut.result.now c.in_ok-all_joined.field-0 start c.in_ok-all_joined.ensures.joins ∙ ap (λ (q : ParserConfig). (all_headers p q).joins) made.1 in
    record {
      made = λ memory. ap Ok told ∙ sym (ap (λ (o : Option ParserFault). unless o (joins p places)) made.0);
      few = subst (λ (js : List Join). length js ≤ 256) (sym told) (joins_few p places made.0 (plain_keeps p places c.requires.program c.requires.places made.0));
      replay = ap (replayed (plain p places)) told ∙ joins_give p places;
    }
