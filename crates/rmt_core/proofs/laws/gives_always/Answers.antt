use Rattle.rmt_core.proofs.GivenAlways.{Known, gives_always, gives_never_nothing}
use Rattle.rmt_core.proofs.laws.gives_always.Goals as goal

pub returns : goal.returns
returns c =
    let known : Known = record { means = c.one_meaning.ensures.some; memory = c.lists_or_fault.ensures.fault } in
    record { always = gives_always known; never_nothing = gives_never_nothing known }
