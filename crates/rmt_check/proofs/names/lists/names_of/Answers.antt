use Rattle.std.proofs.Common.{map, ap, ◌∙◌}
use Rattle.std.proofs.lemmas.List.{take_all}
use Rattle.rmt_ast.specs.NameList.{bytes_of}
use Rattle.rmt_check.specs.Parts.{Ident}
use Rattle.rmt_check.proofs.Finding.{gathered_more}
use Rattle.rmt_check.proofs.names.lists.names_of.Goals as goal

pub loop-part-preserved : goal.loop-part-preserved
loop-part-preserved g c =
    let name = c.as_slice.ensures ∙ ap (λ (i : Ident). i.name) c.ident.ensures in
    gathered_more bytes_of (λ x. (g.T.Labelled.ident_of x).name) c.loop-part.names.items c.push.new.self.items c.as_slice.result c.args.parts.now c.loop-part.part-index c.part-item.result
    c.in_ok-push.ensures.items name c.loop-part-test.true c.part-item.is c.loop-part.invariant

pub returns : goal.returns
returns g c =
    let all = take_all c.loop-part.part-index c.args.parts.now c.loop-part-test.false in
    let names = c.loop-part.invariant ∙ ap (map (λ x. (g.T.Labelled.ident_of x).name)) all in rw names at c.of.ensures
