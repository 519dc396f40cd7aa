use Rattle.std.proofs.Common.{cond, None, ap, ◌∙◌, length}
use Rattle.std.proofs.lemmas.Bool.{lt-ltb}
use Rattle.std.proofs.lemmas.Option.{IfSome_then}
use Rattle.rmt_ptcam.specs.Types.{ParserConfig}
use Rattle.rmt_ptcam.specs.Joining.{entries_in, join_of}
use Rattle.rmt_ptcam.proofs.FormedParsers.{formed_keeps, keeps_formed}
use Rattle.rmt_ptcam.proofs.joining.join.Goals as goal

pub behind_join-requires : goal.behind_join-requires
behind_join-requires c = record { keeps = formed_keeps c.args.parser.now c.requires.formed }

pub returns-clause-given : goal.returns-clause-given
returns-clause-given c =
    let parser : ParserConfig = c.args.parser.now in
    c.in_ok-behind_join.ensures.given ∙ ap (λ b. cond b (join_of parser c.args.state c.args.entry) None) (lt-ltb c.args.entry (length (entries_in c.args.state parser.entries)) c.requires.there)

pub returns-clause-alike : goal.returns-clause-alike
returns-clause-alike c = IfSome_then c.in_ok-behind_join.field-0 c.in_ok-behind_join.ensures.good (λ (q : ParserConfig) good. good.alike)

pub returns-clause-formed : goal.returns-clause-formed
returns-clause-formed c = IfSome_then c.in_ok-behind_join.field-0 c.in_ok-behind_join.ensures.good (λ (q : ParserConfig) good. keeps_formed q good.keeps)
