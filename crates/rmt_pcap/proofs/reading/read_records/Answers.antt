use Rattle.std.proofs.Common.{◌≡◌, ℕ, ◌+◌, ◌<◌, ◌≤◌, List, [], ◌∷◌, ◌++◌, length, drop, Some, None, sym, ap, ◌∙◌, arith}
use Rattle.std.proofs.lemmas.List.{length-drop, take_rest}
use Rattle.rmt_pcap.specs.declared.capture.Record.{Record}
use Rattle.rmt_pcap.specs.Captures.{record_at, said_from}
use Rattle.rmt_pcap.specs.Steps.{whole_len}
use Rattle.rmt_pcap.proofs.RecordLaws.{kept_step, read_cut, skipped_step, step_size}
use Rattle.rmt_pcap.proofs.reading.read_records.Goals as goal
use Rattle.rmt_pcap.proofs.reading.read_records.Goals.{then-is_kept+in_ok-record_of+in_ok-push, else-is_kept}

pub returns-in_default : goal.returns-in_default
returns-in_default c =
    let at = c.loop-at.at in
    let some : 0 < length (drop at c.args.bytes.now) = omega (arith, length-drop at c.args.bytes.now, c.loop-at-test.true) in
    let cut : whole_len c.args.big (drop at c.args.bytes.now) ≡ None =
    sym (c.in_default.ensures ∙ ap (λ (ys : List ℕ). whole_len c.args.big ys) (take_rest c.args.bytes.now at)) in
    read_cut c.args.big at c.loop-at.skipped (drop at c.args.bytes.now) c.loop-at.records (said_from c.args.big 24 0 (drop 24 c.args.bytes.now)) some cut c.loop-at.invariant.3

pub loop-at-preserved : goal.loop-at-preserved
loop-at-preserved c =
    let big = c.args.big in
    let at = c.loop-at.at in
    let len = c.in-Some.len in
    let file = c.args.bytes.now in
    let was = c.loop-at.invariant in
    let all = said_from big 24 0 (drop 24 file) in
    let first : whole_len big (drop at file) ≡ Some len =
    sym (c.in-Some.ensures ∙ ap (λ (ys : List ℕ). whole_len big ys) (take_rest file at)) in
    let size : at + (16 + len) ≤ length file = step_size big at len file c.loop-at-test.true first in
    elim c.if-is_kept.branch [
      | then-is_kept+in_ok-record_of+in_ok-push w ↦
          let made : w.in_ok-record_of.field-0 ≡ record_at at (drop at file) len =
          w.in_ok-record_of.ensures ∙ ap (λ (ys : List ℕ). record_at at ys len) (take_rest file at) in
          let grown : c.if-is_kept.records ≡ c.loop-at.records ++ record_at at (drop at file) len ∷ [] =
          w.records-is ∙ w.in_ok-push.ensures.ok ∙ ap (λ (r : Record). c.loop-at.records ++ r ∷ []) made in (
            omega (arith, w.skipped-is, was.0),
            omega (arith, was.1),
            size,
            kept_step big at len c.loop-at.skipped c.if-is_kept.skipped file c.loop-at.records c.if-is_kept.records all first (sym w.if-is_kept.ensures) grown w.skipped-is was.3,
          )
      | else-is_kept w ↦ (
        omega (arith, w.skipped-is, was.0),
        omega (arith, was.1),
        size,
        skipped_step big at len c.loop-at.skipped c.if-is_kept.skipped file c.loop-at.records c.if-is_kept.records all first (sym w.if-is_kept.ensures) w.records-is w.skipped-is was.3,
      )
    ]
