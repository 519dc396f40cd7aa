use Rattle.std.proofs.Common.{◌≡◌, rules}
use Rattle.rmt_ast.specs.NameList.{number_of}
use Rattle.rmt_ast.proofs.NameListLaws.{number_within}
use Rattle.rmt_ast.proofs.name_list.NameList.number.Goals as goal

pub returns-clause-within : goal.returns-clause-within
returns-clause-within c =
    let e : c.copied.result ≡ number_of c.args.self.now c.args.name.now = search rules in
    number_within c.args.self.now c.args.name.now c.copied.result e
