-- The counters are those of the packets and commits.
use Rattle.std.proofs.Common.{ap, ◌∙◌, Result, Ok, Err}
use Rattle.std.specs.Prelude.{IfOk}
use Rattle.std.specs.List.{flat_map}
use Rattle.rmt_ast.specs.Changes.{at_first}
use Rattle.rmt_ast.specs.Events.{lists_from, met_from}
use Rattle.rmt_plain.specs.Stands.{entries_after}
use Rattle.rmt_drive.specs.SimText.{count_line}
use Rattle.rmt_drive.proofs.plain_run.last_text.Goals as goal

if_ok : {A E : Type 0} {P Q : A → Type 0} (r : Result A E) → ((x : A) → P x → Q x) → IfOk r P → IfOk r Q
if_ok (Ok x) f h = f x h
if_ok (Err e) f h = tt

pub returns-in-None : goal.returns-in-None
returns-in-None c =
    rw c.in-None.is
    (if_ok c.count_lines.result
    (λ text is p lists events taken. is ∙ ap (flat_map count_line)
    (c.counters.ensures.met p (lists_from (at_first lists) events) (entries_after (at_first lists) events).lists (met_from (at_first lists) events) taken))
    c.count_lines.ensures)
