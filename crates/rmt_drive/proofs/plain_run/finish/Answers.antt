-- What waits, and what stands behind the answers.
use Rattle.std.proofs.Common.{◌≢◌, ◌++◌, List, ℕ, [], ◌∙◌, subst}
use Rattle.rmt_io.specs.Outside.{Gained}
use Rattle.rmt_drive.specs.PlainRunning.{event_lines}
use Rattle.rmt_runs.specs.Printing.{GainedFront}
use Rattle.rmt_runs.proofs.WaitingLaws.{all_on, front_on, some_lines, written_more}
use Rattle.rmt_drive.proofs.plain_run.finish.Goals as goal

pub returns-in-Ok-clause-printed : goal.returns-in-Ok-clause-printed
returns-in-Ok-clause-printed g c = λ e p lists said before h.
    subst (λ (l : List ℕ). Gained before (g.O.Sink.state c.end_run.new.out) (event_lines p lists said.events ++ l)) (c.as_slice.ensures.value ∙ c.in-Ok.ensures p lists said.events h.takes)
    (all_on (written_more h.written c.as_slice.result.now) (g.O.Sink.state c.end_run.new.out) (c.end_run.ensures.printed e))

pub returns-in-Ok-clause-front : goal.returns-in-Ok-clause-front
returns-in-Ok-clause-front g c = λ p lists said before h.
    subst (λ (l : List ℕ). GainedFront before (g.O.Sink.state c.end_run.new.out) (event_lines p lists said.events ++ l)) (c.as_slice.ensures.value ∙ c.in-Ok.ensures p lists said.events h.takes)
    (front_on (written_more h.written c.as_slice.result.now) (g.O.Sink.state c.end_run.new.out) c.end_run.ensures.front)

pub returns-in-Ok-clause-some : goal.returns-in-Ok-clause-some
returns-in-Ok-clause-some g c = λ e p lists said before h.
    subst (λ (l : List ℕ). event_lines p lists said.events ++ l ≢ []) (c.as_slice.ensures.value ∙ c.in-Ok.ensures p lists said.events h.takes)
    (some_lines (written_more h.written c.as_slice.result.now) (c.end_run.ensures.some e))
