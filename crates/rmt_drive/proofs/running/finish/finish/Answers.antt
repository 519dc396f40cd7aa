-- The lines that wait, and what stands behind them, are the rest of the text.
use Rattle.std.proofs.Common.{◌≡◌, List, None, sym, ap, ◌∙◌, subst}
use Rattle.rmt_io.proofs.OutsideLaws.{only_printed_trans}
use Rattle.rmt_config.specs.RunInputs.{Input}
use Rattle.rmt_chip.specs.Stands.{Stands}
use Rattle.rmt_drive.specs.ChipEvents.{empty_cycles}
use Rattle.rmt_drive.specs.ChipText.{all_cycles}
use Rattle.rmt_drive.specs.RunEnd.{bad_line, status_of_end}
use Rattle.rmt_drive.proofs.DrainLaws.{all_written, ended_as, ended_done, ran_whole, text_begins, write_alone}
use Rattle.rmt_drive.proofs.RunLaws.{cut_begins, front_begins}
use Rattle.rmt_runs.proofs.WaitingLaws.{all_on, front_on, some_lines, written_front}
use Rattle.rmt_drive.proofs.running.finish.finish.Goals as goal

pub returns-in-Err-clause-front : goal.returns-in-Err-clause-front
returns-in-Err-clause-front g c = λ w k events made r before h.
    (cut_begins (text_begins w k made (empty_cycles r) (bad_line c.args.bad)) (c.in-Err.ensures.cut w k events made r before h)).front

pub returns-in-Err-clause-some : goal.returns-in-Err-clause-some
returns-in-Err-clause-some g c = λ e w k events made r before h.
    (cut_begins (text_begins w k made (empty_cycles r) (bad_line c.args.bad)) (c.in-Err.ensures.cut w k events made r before h)).some (write_alone c.in-Err.fault (sym c.fault_status.ensures ∙ e))

pub returns-in_default-clause-front : goal.returns-in_default-clause-front
returns-in_default-clause-front g c = λ w k events made r before h.
    front_begins (text_begins w k made (empty_cycles r) (bad_line c.args.bad)) before (g.O.Sink.state c.run_out.new.out) (written_front (c.in-Ok.ensures.ok w k events made r before h).written)

pub returns-clause-printed : goal.returns-clause-printed
returns-clause-printed g c = λ e w k events made r before h.
    let goes = c.in-Ok.ensures.ok w k events made r before h in
    let written = all_written w k made (empty_cycles r) (bad_line c.args.bad) c.run_out.new.run c.run_out.new.chip before (g.O.Sink.state c.run_out.new.out)
    c.as_slice.result.now goes (c.as_slice.ensures.value ∙ c.in-Ok-last_text.ensures k _ goes.stands goes.clocked goes.flies) in
    all_on written (g.O.Sink.state c.end_run.new.out) (c.end_run.ensures.printed e)

pub returns-clause-front : goal.returns-clause-front
returns-clause-front g c = λ w k events made r before h.
    let goes = c.in-Ok.ensures.ok w k events made r before h in
    let written = all_written w k made (empty_cycles r) (bad_line c.args.bad) c.run_out.new.run c.run_out.new.chip before (g.O.Sink.state c.run_out.new.out)
    c.as_slice.result.now goes (c.as_slice.ensures.value ∙ c.in-Ok-last_text.ensures k _ goes.stands goes.clocked goes.flies) in
    front_on written (g.O.Sink.state c.end_run.new.out) c.end_run.ensures.front

pub returns-clause-some : goal.returns-clause-some
returns-clause-some g c = λ e w k events made r before h.
    let goes = c.in-Ok.ensures.ok w k events made r before h in
    let written = all_written w k made (empty_cycles r) (bad_line c.args.bad) c.run_out.new.run c.run_out.new.chip before (g.O.Sink.state c.run_out.new.out)
    c.as_slice.result.now goes (c.as_slice.ensures.value ∙ c.in-Ok-last_text.ensures k _ goes.stands goes.clocked goes.flies) in
    some_lines written (c.end_run.ensures.some e)

pub returns-clause-clocked : goal.returns-clause-clocked
returns-clause-clocked g c = λ e w k events made r before h.
    let goes = c.in-Ok.ensures.ok w k events made r before h in
    let none : bad_line c.args.bad ≡ None = ended_done c.args.bad (ended_as c.end_run.result (status_of_end c.args.bad) e c.end_run.ensures.status) in
    subst (λ (l : List Input). Stands k l c.run_out.new.chip) (ap (λ b. all_cycles w made (empty_cycles r) b) none ∙ ran_whole w made (empty_cycles r)) goes.stands

pub returns-clause-only_printed : goal.returns-clause-only_printed
returns-clause-only_printed g c = only_printed_trans c.run_out.ensures.prints.only_printed c.end_run.ensures.only_printed
