use Rattle.rmt_syntax.proofs.Words.{◌∙◌, sym, ap, List, slice_get, Part, One}
use Rattle.rmt_syntax.proofs.Words.terminal
use Rattle.rmt_syntax.proofs.Cuts.{heads}
use Rattle.rmt_syntax.proofs.reader.Reader.take_name.Goals as goal

pub returns-clause-goals : goal.returns-clause-goals
returns-clause-goals c gs h =
    let next = c.in_ok-take.ensures.goals (One terminal.Name) (ap (λ (ps : List Part). slice_get ps 0) c.choose.ensures.todo) in
    (heads _ _ _ _ (sym next ∙ c.choose.ensures.goals gs h)).1
