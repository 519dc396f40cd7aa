use Rattle.rmt_syntax.proofs.Words.{◌∙◌, sym, ap, ◌∷◌, List, slice_get, Goal, part, phrase, Part, One, Done, FieldEnd}
use Rattle.rmt_syntax.proofs.Words.terminal
use Rattle.rmt_syntax.proofs.Cuts.{heads}
use Rattle.rmt_syntax.proofs.BeforeLaws.{next_phrase}
use Rattle.rmt_syntax.proofs.reader.Reader.take_field.Goals as goal

pub returns-clause-goals : goal.returns-clause-goals
returns-clause-goals c gs h =
    let n = next_phrase c.enter.new.self c.in_ok-enter.ensures.todo in
    let rest = (heads _ _ _ _ (sym n.1 ∙ c.in_ok-enter.ensures.goals (phrase Done ∷ gs) (c.choose.ensures.goals gs h))).1 in
    let next = c.in_ok-take.ensures.goals (One terminal.Name) (ap (λ (ps : List Part). slice_get ps 0) c.choose-2.ensures.todo) in
    (heads _ _ _ _ (sym next ∙ c.choose-2.ensures.goals n.0 n.1)).1 ∙ ap (λ (v : List Goal). part (One terminal.Dot) ∷ phrase FieldEnd ∷ v) rest
