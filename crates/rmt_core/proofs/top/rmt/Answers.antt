use Rattle.std.proofs.Common.{ap, subst, sym, ◌∙◌}
use Rattle.rmt_core.specs.CommandReading.{seen}
use Rattle.rmt_core.specs.Commands.{IfCommand, ReadsNone, words_of}
use Rattle.rmt_drive.specs.Ends.{Answered, outside}
use Rattle.rmt_core.specs.Gives.{Gives}
use Rattle.rmt_core.proofs.BudgetLaws.{HasBudget, has_budget}
use Rattle.rmt_core.proofs.SampleLaws.{quiet_possible}
use Rattle.rmt_core.proofs.top.rmt.Goals as goal

pub compile-requires-in-Improve : goal.compile-requires-in-Improve
compile-requires-in-Improve g c = subst HasBudget (sym (ap seen (sym c.in-Improve.is) ∙ c.command_from.ensures)) (has_budget (words_of c.args.words.now.items))

pub returns-in-Sample-clause-answered : goal.returns-in-Sample-clause-answered
returns-in-Sample-clause-answered g c = λ _.
    let shelf = g.F.Shelf.state c.args.shelf.now in
    subst
    (λ x. IfCommand x (λ command. Answered (outside shelf (g.O.Sink.state c.args.out.now)) (outside shelf (g.O.Sink.state c.sample.new.out)) (Gives shelf.files command) c.sample.result))
    (ap seen (sym c.in-Sample.is) ∙ c.command_from.ensures) (c.sample.ensures.answered shelf)

pub returns-in-Sample-clause-alone : goal.returns-in-Sample-clause-alone
returns-in-Sample-clause-alone g c =
    let shelf = g.F.Shelf.state c.args.shelf.now in
    subst
    (λ x. IfCommand x (λ command. ReadsNone command → Answered (outside shelf (g.O.Sink.state c.args.out.now)) (outside shelf (g.O.Sink.state c.sample.new.out)) (Gives shelf.files command) c.sample.result))
    (ap seen (sym c.in-Sample.is) ∙ c.command_from.ensures) (λ _. c.sample.ensures.answered shelf)

pub returns-in-Sample-clause-quiet : goal.returns-in-Sample-clause-quiet
returns-in-Sample-clause-quiet g c = λ e _.
    quiet_possible c.in-Sample.number c.sample.result c.sample.ensures.possible c.sample.ensures.quiet e
