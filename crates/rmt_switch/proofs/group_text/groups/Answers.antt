use Rattle.std.proofs.Common.{◌+◌, ◌∙◌, sym, subst, List, ℕ, arith}
use Rattle.rmt_switch.specs.GroupText.{groups_of}
use Rattle.rmt_switch.specs.LinesSoFar.{Reads}
use Rattle.rmt_switch.proofs.GroupLaws.{gives_fault, gives_handed, reads_added, reads_bad, reads_first, reads_passed}
use Rattle.rmt_switch.proofs.group_text.groups.Goals as goal
use Rattle.rmt_switch.proofs.group_text.groups.Goals.{then-not-is_passed_over+in_ok-add_line, else-not-is_passed_over}
use Rattle.rmt_bits.proofs.ListLaws.{has_bytes}

pub returns-in_err-add_line : goal.returns-in_err-add_line
returns-in_err-add_line c =
    let l = c.loop-rest in
    let short = c.cut.ensures.shorter (has_bytes l.rest.now (sym c.is_empty.ensures ∙ c.loop-rest-test.true)) in
    let passed = sym c.is_passed_over.ensures ∙ c.if-not-is_passed_over.true in
    record {
      exact =
          gives_handed c.from_residual.result c.in_err-add_line.field-0.0 (groups_of c.args.text.now) c.from_residual.ensures.1
          (gives_fault c.in_err-add_line.field-0.0 l.number (groups_of c.args.text.now) _ c.in_err-add_line.ensures.fault
          (λ bad. reads_bad c.args.text.now l.rest.now l.number l.groups l.invariant c.cut.result.0.now c.cut.result.1.now c.cut.ensures.front c.cut.ensures.back short passed bad));
    }

pub loop-rest-preserved : goal.loop-rest-preserved
loop-rest-preserved c =
    let l = c.loop-rest in
    let short = c.cut.ensures.shorter (has_bytes l.rest.now (sym c.is_empty.ensures ∙ c.loop-rest-test.true)) in
    elim c.if-not-is_passed_over.branch [
      | then-not-is_passed_over+in_ok-add_line w ↦
          subst (λ (gs : List (List ℕ)). Reads c.args.text.now c.cut.result.1.now (l.number + 1) gs) (sym w.groups-is)
          (reads_added c.args.text.now l.rest.now l.number l.groups l.invariant c.cut.result.0.now c.cut.result.1.now c.cut.ensures.front c.cut.ensures.back short w.add_line.new.groups
          (sym c.is_passed_over.ensures ∙ w.if-not-is_passed_over.true) w.in_ok-add_line.ensures.added)
      | else-not-is_passed_over w ↦
          subst (λ (gs : List (List ℕ)). Reads c.args.text.now c.cut.result.1.now (l.number + 1) gs) (sym w.groups-is)
          (reads_passed c.args.text.now l.rest.now l.number l.groups l.invariant c.cut.result.0.now c.cut.result.1.now c.cut.ensures.front c.cut.ensures.back short
          (sym c.is_passed_over.ensures ∙ w.if-not-is_passed_over.false))
    ]

pub loop-rest-init : goal.loop-rest-init
loop-rest-init c =
    let text = c.args.text.now in
    subst (λ (gs : List (List ℕ)). Reads text text 1 gs) (sym c.in-Ok.ensures) (reads_first text)

pub overflow_add-number : goal.overflow_add-number
overflow_add-number c =
    let l = c.loop-rest in
    let some = has_bytes l.rest.now (sym c.is_empty.ensures ∙ c.loop-rest-test.true) in
    omega (arith, some, l.invariant.few, c.requires)

pub loop-rest-smaller : goal.loop-rest-smaller
loop-rest-smaller c =
    let l = c.loop-rest in
    c.cut.ensures.shorter (has_bytes l.rest.now (sym c.is_empty.ensures ∙ c.loop-rest-test.true))
