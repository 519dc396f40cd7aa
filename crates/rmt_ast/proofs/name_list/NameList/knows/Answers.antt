use Rattle.std.proofs.Common.{is_some, sym, ap, ◌∙◌}
use Rattle.rmt_ast.proofs.NameListLaws.{known_number}
use Rattle.rmt_ast.proofs.name_list.NameList.knows.Goals as goal

pub returns : goal.returns
returns c = c.is_some.ensures ∙ ap is_some c.number.ensures.number ∙ sym (known_number c.args.self.now c.args.name.now)
