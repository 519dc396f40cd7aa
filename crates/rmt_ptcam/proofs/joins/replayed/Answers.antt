use Rattle.std.proofs.Common.{◌≡◌, Option, Some, ap, sym, ◌∙◌, arith}
use Rattle.std.specs.Prelude.{option_map}
use Rattle.std.proofs.lemmas.Result.{IfOk-at_ok}
use Rattle.rmt_ptcam.specs.Types.{ParserConfig}
use Rattle.rmt_ptcam.specs.Clustering.{compact}
use Rattle.rmt_ptcam.specs.Joins.{behind_joins}
use Rattle.rmt_ptcam.proofs.ClusteringLaws.{good_on}
use Rattle.rmt_ptcam.proofs.FormedParsers.{formed_keeps, keeps_formed}
use Rattle.rmt_ptcam.proofs.InPlaceLaws.{list_good}
use Rattle.rmt_ptcam.proofs.joins.replayed.Goals as goal

pub behind_joins-behind-requires : goal.behind_joins-behind-requires
behind_joins-behind-requires c = record { keeps = formed_keeps c.args.parser c.requires.formed }

pub compacted-requires : goal.compacted-requires
compacted-requires c =
    let parser : ParserConfig = c.args.parser in
    let given : c.in_ok-behind.behind ≡ behind_joins parser c.args.joins.now = IfOk-at_ok (λ (o : Option ParserConfig). o ≡ behind_joins parser c.args.joins.now) c.in_ok-behind.was c.behind_joins-behind.ensures in
    let told = list_good parser c.args.joins.now c.in-Some.behind (formed_keeps parser c.requires.formed) (sym c.in-Some.is ∙ given) in
    let states = told.1 in
    let few = c.requires.few in
    record { keeps = told.0.keeps; some = told.0.keeps.some; few = omega (arith, states, few) }

pub returns-in_ok-compacted-in-Some : goal.returns-in_ok-compacted-in-Some
returns-in_ok-compacted-in-Some c =
    let parser : ParserConfig = c.args.parser in
    let given : c.in_ok-behind.behind ≡ behind_joins parser c.args.joins.now = IfOk-at_ok (λ (o : Option ParserConfig). o ≡ behind_joins parser c.args.joins.now) c.in_ok-behind.was c.behind_joins-behind.ensures in
    let some : Some c.in-Some.behind ≡ behind_joins parser c.args.joins.now = sym c.in-Some.is ∙ given in
    let told = list_good parser c.args.joins.now c.in-Some.behind (formed_keeps parser c.requires.formed) some in
    let own = c.in_ok-compacted-in-Some.ensures in
    let good = good_on parser c.in-Some.behind c.in_ok-compacted-in-Some.field-0 told.0 own.good in
    record { given = ap Some own.given ∙ ap (option_map compact) some; alike = good.alike; formed = keeps_formed c.in_ok-compacted-in-Some.field-0 good.keeps }

pub returns-in-None : goal.returns-in-None
returns-in-None c =
    let parser : ParserConfig = c.args.parser in
    let given : c.in_ok-behind.behind ≡ behind_joins parser c.args.joins.now = IfOk-at_ok (λ (o : Option ParserConfig). o ≡ behind_joins parser c.args.joins.now) c.in_ok-behind.was c.behind_joins-behind.ensures in
    record { given = ap (option_map compact) (sym c.in-None.is ∙ given); alike = tt; formed = tt }
