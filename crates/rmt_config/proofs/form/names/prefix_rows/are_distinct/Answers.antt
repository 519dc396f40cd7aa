use Rattle.std.proofs.Common.{ℕ, List, drop, sym, ap, ◌∙◌}
use Rattle.std.specs.BTreeSet.{contains}
use Rattle.std.proofs.lemmas.List.{drop_all}
use Rattle.rmt_ast.specs.RankPairs.{pair_cmp}
use Rattle.rmt_config.specs.declared.form.names.prefix_rows.Row.{Row}
use Rattle.rmt_config.proofs.PrefixSeen.{seen-all, seen-first, seen-more, seen-no}
use Rattle.rmt_config.proofs.form.names.prefix_rows.are_distinct.Goals as goal

abbrev none : Row
none = record { key = 0; mask = 0; number = 0 }

pub loop-row-init : goal.loop-row-init
loop-row-init c = seen-first c.args.bits c.args.rows.now c.new-seen.result (λ q. ap (λ (ks : List (ℕ × ℕ)). contains pair_cmp (record { keys = ks }) q) c.new-seen.ensures.empty)

pub returns-then-not-branch : goal.returns-then-not-branch
returns-then-not-branch c =
    seen-no c.args.bits c.args.rows.now c.loop-row.row-index none c.loop-row.seen c.slice.result c.slice-in-loop-row.result c.loop-row-test.true c.loop-row.invariant
    c.slice.ensures c.slice-in-loop-row.ensures (sym c.if-not-branch.true ∙ c.in_ok-insert.ensures.added)

pub loop-row-preserved : goal.loop-row-preserved
loop-row-preserved c =
    seen-more c.args.bits c.args.rows.now c.loop-row.row-index none c.loop-row.seen c.slice.result c.slice-in-loop-row.result c.loop-row-test.true c.loop-row.invariant
    c.slice.ensures c.slice-in-loop-row.ensures c.insert.new.self (sym c.if-not-branch.false ∙ c.in_ok-insert.ensures.added) c.in_ok-insert.ensures.updates

pub returns : goal.returns
returns c =
    seen-all c.args.bits c.args.rows.now (drop c.loop-row.row-index c.args.rows.now) c.loop-row.seen
    (drop_all c.loop-row.row-index c.args.rows.now c.loop-row-test.false) c.loop-row.invariant
