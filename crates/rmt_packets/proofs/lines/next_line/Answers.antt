use Rattle.std.proofs.Common.{◌≡◌, ◌-◌, ◌<◌, ◌≤◌, ◌⊎◌, true, false, length, get_or, slice_range, sym, ap, ◌∙◌, inl, inr, arith}
use Rattle.std.proofs.lemmas.Bool.{cases_lt}
use Rattle.rmt_bits.specs.Lines.{is_passed_over}
use Rattle.rmt_packets.proofs.Steps.{feed_at, line_at}
use Rattle.rmt_packets.proofs.lines.next_line.Goals as goal

pub returns-then-not-is_passed_over-clause-some : goal.returns-then-not-is_passed_over-clause-some
returns-then-not-is_passed_over-clause-some c =
    let l = c.loop-from in
    let text = c.args.text.now in
    let p : is_passed_over (slice_range text l.from c.line_end-to.result) ≡ false = sym c.is_passed_over.ensures ∙ c.if-not-is_passed_over.true in
    l.invariant.same ∙ rw p at (line_at text l.line l.from c.line_end-to.result c.behind-next.result c.line_end-to.ensures.place c.behind-next.ensures.rest)

pub returns-then-not-is_passed_over-clause-starts : goal.returns-then-not-is_passed_over-clause-starts
returns-then-not-is_passed_over-clause-starts c =
    elim c.loop-from.invariant.starts [
      | inl e ↦ inl e
      | inr r ↦ elim r [ inl e ↦ inr e | inr e ↦ absurd (omega arith) ]
    ]

pub returns-then-not-is_passed_over-clause-ends : goal.returns-then-not-is_passed_over-clause-ends
returns-then-not-is_passed_over-clause-ends c =
    let l = c.loop-from in
    let text = c.args.text.now in
    let to = c.line_end-to.result in
    elim (cases_lt to (length text)) [ inl lt ↦ inr (feed_at text l.from to c.line_end-to.ensures.place lt) | inr ge ↦ inl (omega arith) ]

pub loop-from-preserved : goal.loop-from-preserved
loop-from-preserved c =
    let l = c.loop-from in
    let text = c.args.text.now in
    let p : is_passed_over (slice_range text l.from c.line_end-to.result) ≡ true = sym c.is_passed_over.ensures ∙ c.if-not-is_passed_over.false in
    let moves : l.from < c.behind-next.result =
    elim (cases_lt c.line_end-to.result (length text)) [ inl lt ↦ omega (arith, c.behind-next.ensures.past lt) | inr ge ↦ omega arith ] in
    let to = c.line_end-to.result in
    let next = c.behind-next.result in
    let starts : (next ≡ c.args.at) ⊎ (((c.args.at < next) × (get_or text (next - 1) 0 ≡ 10)) ⊎ (length text ≤ next)) =
    elim (cases_lt to (length text)) [
      | inl lt ↦
          let back : next - 1 ≡ to = omega (arith, c.behind-next.ensures.past lt) in
          inr (inl (omega arith, ap (λ i. get_or text i 0) back ∙ feed_at text l.from to c.line_end-to.ensures.place lt))
      | inr ge ↦ inr (inr (omega arith))
    ] in
    record {
      starts = starts;
      within = c.behind-next.ensures.within;
      behind = omega arith;
      counted = omega arith;
      few = omega (arith, moves);
      same = l.invariant.same ∙ rw p at (line_at text l.line l.from c.line_end-to.result c.behind-next.result c.line_end-to.ensures.place c.behind-next.ensures.rest);
    }
