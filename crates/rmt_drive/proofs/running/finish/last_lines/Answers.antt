-- The counters, and the last two lines.
use Rattle.std.proofs.Common.{◌≡◌, ◌++◌, ap, ◌∙◌}
use Rattle.std.specs.List.{flat_map}
use Rattle.rmt_config.specs.RunInputs.{counts_in}
use Rattle.rmt_drive.specs.SimText.{count_line, cycles_line, flight_line}
use Rattle.rmt_drive.proofs.running.finish.last_lines.Goals as goal

pub returns : goal.returns
returns c = λ k made stands.
    let counted : c.counters.result.now.counts ≡ counts_in k made = c.counters.ensures k made stands in
    let last : c.as_bytes.result.now ≡ cycles_line c.args.cycles ++ flight_line c.args.flight = c.as_bytes.ensures.value ∙ c.in_ok-last.ensures in
    c.in_ok-extend_from_slice.ensures.items ∙ ap (λ xs. xs ++ c.as_bytes.result.now) (c.in_ok-text.ensures ∙ ap (flat_map count_line) counted)
    ∙ ap (λ ys. flat_map count_line (counts_in k made) ++ ys) last
