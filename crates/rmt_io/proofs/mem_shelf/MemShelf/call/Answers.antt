use Rattle.std.proofs.Common.{ap, ◌∙◌}
use Rattle.rmt_io.specs.Calls.{fails_no_more}
use Rattle.rmt_io.proofs.Numbered.{fails_next-no_more, no_more-later}
use Rattle.rmt_io.proofs.mem_shelf.MemShelf.call.Goals as goal

pub returns-clause-not_failing : goal.returns-clause-not_failing
returns-clause-not_failing c =
    let f = c.self.inside in
    λ h. c.is_failing-failing.ensures ∙ fails_next-no_more f.fails.items f.calls (ap (λ s. fails_no_more s.fails s.calls) c.self.view_is ∙ h)

pub returns-clause-steady : goal.returns-clause-steady
returns-clause-steady c =
    let f = c.self.inside in
    λ h. no_more-later f.fails.items f.calls c.raise-self-inside.result c.raise-self-inside.ensures.rises (ap (λ s. fails_no_more s.fails s.calls) c.self.view_is ∙ h)
