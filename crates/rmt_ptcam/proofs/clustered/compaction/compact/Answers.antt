use Rattle.std.proofs.Common.{List, ℕ, ap, sym, subst, ◌∙◌}
use Rattle.std.specs.Prelude.{map}
use Rattle.std.specs.List.{filter}
use Rattle.rmt_bits.specs.Members.{is_among}
use Rattle.rmt_ptcam.specs.Adding.{Adds}
use Rattle.rmt_ptcam.specs.Joining.{IsGood, Row, rows_of}
use Rattle.rmt_ptcam.specs.Clustering.{met_states, renamed, states_kept}
use Rattle.rmt_ptcam.proofs.CompactLaws.{compact_added, compact_good}
use Rattle.rmt_ptcam.proofs.clustered.compaction.compact.Goals as goal

pub returns-clause-given : goal.returns-clause-given
returns-clause-given c =
    let parser = c.args.parser.now in
    let met : List ℕ = c.in_ok-met.met in
    compact_added parser met c.in_ok-states.states c.new-entries.result c.push_kept.new.entries c.new-tails.result c.push_kept.new.tails
    (c.in_ok-met.ensures ∙ ap met_states c.as_slice.ensures)
    (c.in_ok-states.ensures ∙ ap (λ (ms : List ℕ). states_kept (is_among ms) 0 c.as_slice-3.result.now) c.as_slice-2.ensures ∙ ap (states_kept (is_among met) 0) c.as_slice-3.ensures)
    c.new-entries.ensures c.new-tails.ensures
    (subst (λ (ms : List ℕ). Adds (map (renamed (is_among ms)) (filter (λ (x : Row). is_among ms x.entry.state) (rows_of parser))) c.new-entries.result c.push_kept.new.entries c.new-tails.result c.push_kept.new.tails) c.as_slice-4.ensures c.in_ok-push_kept.ensures)

pub returns-clause-good : goal.returns-clause-good
returns-clause-good c = subst (IsGood c.args.parser.now) (sym (returns-clause-given c)) (compact_good c.args.parser.now c.requires.keeps c.requires.some)
