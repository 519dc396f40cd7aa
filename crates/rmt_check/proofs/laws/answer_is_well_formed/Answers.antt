use Rattle.std.proofs.Common.{sym, subst}
use Rattle.std.specs.Prelude.{All}
use Rattle.rmt_ast.specs.WellFormed.{IsProgram}
use Rattle.rmt_check.specs.Naming.{IsPlainWord}
use Rattle.rmt_check.specs.Reading.{source_of}
use Rattle.rmt_check.proofs.texts.WordLaws.{tokens_plain}
use Rattle.rmt_check.proofs.laws.answer_is_well_formed.Goals as goal

pub returns : goal.returns
returns c text tokens t p read tree answer =
    let plain = subst (All IsPlainWord) (sym tree.yield) (tokens_plain text tokens read) in
    subst IsProgram (sym answer.1) (c.program_is_well_formed.ensures (source_of t) (c.source_is_of_text.ensures t tree.grammar plain) answer.0)
