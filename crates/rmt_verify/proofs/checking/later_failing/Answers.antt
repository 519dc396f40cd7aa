use Rattle.std.proofs.Common.{refl, arith}
use Rattle.rmt_verify.proofs.CheckLaws.{carried, edges_seen, fails_first, opposed, part_holds, parts_known, units_seen}
use Rattle.rmt_verify.proofs.checking.later_failing.Goals as goal

pub edges_hold-requires-clause-parts : goal.edges_hold-requires-clause-parts
edges_hold-requires-clause-parts c =
    parts_known c.args.program.now c.args.map.now.map.places c.as_slice-parts.result.now c.as_slice-starts.result.now c.args.config.now (units_seen c.args.program.now c.args.entries.now c.args.config.now c.args.map.now c.args.map.now.joins c.as_slice-parts.result.now c.as_slice-starts.result.now refl c.as_slice-parts.ensures c.as_slice-starts.ensures c.requires.first.units)

pub returns-then-not-branch-clause-exact : goal.returns-then-not-branch-clause-exact
returns-then-not-branch-clause-exact c = fails_first c.args.program.now c.args.entries.now c.args.config.now c.args.map.now c.args.map.now.joins c.as_slice-parts.result.now c.as_slice-starts.result.now refl c.as_slice-parts.ensures c.as_slice-starts.ensures 4 (omega arith)
    (λ lt. c.requires.first.places) (λ lt. c.requires.first.parser) (λ lt. units_seen c.args.program.now c.args.entries.now c.args.config.now c.args.map.now c.args.map.now.joins c.as_slice-parts.result.now c.as_slice-starts.result.now refl c.as_slice-parts.ensures c.as_slice-starts.ensures c.requires.first.units) (λ lt. absurd (omega (arith, lt))) (λ lt. absurd (omega (arith, lt))) (λ lt. absurd (omega (arith, lt)))
    (λ h. opposed c.in_ok-cells_hold.field-0 c.if-not-branch.true c.in_ok-cells_hold.ensures.exact.1 (h.cells refl))

pub returns-then-not-branch-2-clause-exact : goal.returns-then-not-branch-2-clause-exact
returns-then-not-branch-2-clause-exact c = fails_first c.args.program.now c.args.entries.now c.args.config.now c.args.map.now c.args.map.now.joins c.as_slice-parts.result.now c.as_slice-starts.result.now refl c.as_slice-parts.ensures c.as_slice-starts.ensures 5 (omega arith)
    (λ lt. c.requires.first.places) (λ lt. c.requires.first.parser) (λ lt. units_seen c.args.program.now c.args.entries.now c.args.config.now c.args.map.now c.args.map.now.joins c.as_slice-parts.result.now c.as_slice-starts.result.now refl c.as_slice-parts.ensures c.as_slice-starts.ensures c.requires.first.units) (λ lt. c.in_ok-cells_hold.ensures.exact.0 c.if-not-branch.false) (λ lt. absurd (omega (arith, lt))) (λ lt. absurd (omega (arith, lt)))
    (λ h. opposed c.in_ok-code_holds.field-0 c.if-not-branch-2.true c.in_ok-code_holds.ensures.exact.1 (h.code refl))

pub returns-then-not-branch-3-clause-exact : goal.returns-then-not-branch-3-clause-exact
returns-then-not-branch-3-clause-exact c = fails_first c.args.program.now c.args.entries.now c.args.config.now c.args.map.now c.args.map.now.joins c.as_slice-parts.result.now c.as_slice-starts.result.now refl c.as_slice-parts.ensures c.as_slice-starts.ensures 6 (omega arith)
    (λ lt. c.requires.first.places) (λ lt. c.requires.first.parser) (λ lt. units_seen c.args.program.now c.args.entries.now c.args.config.now c.args.map.now c.args.map.now.joins c.as_slice-parts.result.now c.as_slice-starts.result.now refl c.as_slice-parts.ensures c.as_slice-starts.ensures c.requires.first.units) (λ lt. c.in_ok-cells_hold.ensures.exact.0 c.if-not-branch.false) (λ lt. c.in_ok-code_holds.ensures.exact.0 c.if-not-branch-2.false) (λ lt. absurd (omega (arith, lt)))
    (λ h. opposed c.in_ok-edges_hold.field-0 c.if-not-branch-3.true c.in_ok-edges_hold.ensures.exact.1 (edges_seen c.args.program.now c.args.entries.now c.args.config.now c.args.map.now c.args.map.now.joins c.as_slice-parts.result.now c.as_slice-starts.result.now refl c.as_slice-parts.ensures c.as_slice-starts.ensures (h.edges refl)))

pub returns-then-not-branch-4-clause-exact : goal.returns-then-not-branch-4-clause-exact
returns-then-not-branch-4-clause-exact c = fails_first c.args.program.now c.args.entries.now c.args.config.now c.args.map.now c.args.map.now.joins c.as_slice-parts.result.now c.as_slice-starts.result.now refl c.as_slice-parts.ensures c.as_slice-starts.ensures 7 (omega arith)
    (λ lt. c.requires.first.places) (λ lt. c.requires.first.parser) (λ lt. units_seen c.args.program.now c.args.entries.now c.args.config.now c.args.map.now c.args.map.now.joins c.as_slice-parts.result.now c.as_slice-starts.result.now refl c.as_slice-parts.ensures c.as_slice-starts.ensures c.requires.first.units) (λ lt. c.in_ok-cells_hold.ensures.exact.0 c.if-not-branch.false) (λ lt. c.in_ok-code_holds.ensures.exact.0 c.if-not-branch-2.false) (λ lt. c.in_ok-edges_hold.ensures.exact.0 c.if-not-branch-3.false)
    (λ h. opposed c.in_ok-names_hold.field-0 c.if-not-branch-4.true c.in_ok-names_hold.ensures.exact.1 (h.names refl))

pub returns-clause-exact : goal.returns-clause-exact
returns-clause-exact c = λ n. part_holds c.args.program.now c.args.entries.now c.args.config.now c.args.map.now c.args.map.now.joins c.as_slice-parts.result.now c.as_slice-starts.result.now refl c.as_slice-parts.ensures c.as_slice-starts.ensures n
    (λ e. c.requires.first.places) (λ e. c.requires.first.parser) (λ e. units_seen c.args.program.now c.args.entries.now c.args.config.now c.args.map.now c.args.map.now.joins c.as_slice-parts.result.now c.as_slice-starts.result.now refl c.as_slice-parts.ensures c.as_slice-starts.ensures c.requires.first.units) (λ e. c.in_ok-cells_hold.ensures.exact.0 c.if-not-branch.false) (λ e. c.in_ok-code_holds.ensures.exact.0 c.if-not-branch-2.false) (λ e. c.in_ok-edges_hold.ensures.exact.0 c.if-not-branch-3.false) (λ e. c.in_ok-names_hold.ensures.exact.0 c.if-not-branch-4.false)

pub returns-clause-carries : goal.returns-clause-carries
returns-clause-carries c = λ none.
    carried c.args.program.now c.args.entries.now c.args.map.now.map c.args.config.now c.as_slice-parts.result.now c.as_slice-starts.result.now c.as_slice-parts.ensures c.as_slice-starts.ensures c.requires.formed
    c.requires.first.places c.requires.first.agrees (units_seen c.args.program.now c.args.entries.now c.args.config.now c.args.map.now c.args.map.now.joins c.as_slice-parts.result.now c.as_slice-starts.result.now refl c.as_slice-parts.ensures c.as_slice-starts.ensures c.requires.first.units)
    (c.in_ok-cells_hold.ensures.exact.0 c.if-not-branch.false) (c.in_ok-code_holds.ensures.carries c.if-not-branch-2.false) (c.in_ok-edges_hold.ensures.exact.0 c.if-not-branch-3.false)
    (c.in_ok-names_hold.ensures.exact.0 c.if-not-branch-4.false)
