use Rattle.std.proofs.Common.{◌≡◌, ◌++◌, ◌+◌, [], ℕ, cond, List, length, drop, get_or, sym, ap, ◌∙◌, arith}
use Rattle.rmt_ast.specs.declared.program.Node.{Node}
use Rattle.rmt_ast.specs.declared.entry.Entry.{Entry}
use Rattle.rmt_ast.specs.Answers.{counted_numbers, entry_numbers, is_counted}
use Rattle.rmt_plain.proofs.FirstLaws.{counted_numbers-ended, counted_numbers-more, no_node}
use Rattle.rmt_plain.proofs.counters.numbers_of.Goals as goal

pub loop-i-preserved : goal.loop-i-preserved
loop-i-preserved c =
    let p = c.args.program.now in
    let i = c.loop-i.i in
    let end = c.min-i-end.ensures in
    let same = ap (λ (ns : List Node). length ns) c.as_slice-nodes.ensures in
    let grown : c.push_counted.new.numbers.items ≡ c.loop-i.numbers.items ++ cond (is_counted p (get_or p.nodes i no_node).what) (entry_numbers (get_or c.args.lists.now i c.index-lists-i.result)) [] =
    c.in_ok-push_counted.ensures
    ∙ ap (λ (ns : List Node). c.loop-i.numbers.items ++ cond (is_counted p (get_or ns i no_node).what) (entry_numbers c.as_slice.result.now) []) c.as_slice-nodes.ensures
    ∙ ap (λ (es : List Entry). c.loop-i.numbers.items ++ cond (is_counted p (get_or p.nodes i no_node).what) (entry_numbers es) []) (c.as_slice.ensures ∙ c.index-lists-i.is) in
    ap (λ (ns : List ℕ). ns ++ counted_numbers p (drop (i + 1) p.nodes) (drop (i + 1) c.args.lists.now)) grown
    ∙ counted_numbers-more p c.args.lists.now i c.index-lists-i.result c.loop-i.numbers.items (omega arith) (omega arith)
    ∙ c.loop-i.invariant

pub returns : goal.returns
returns c =
    let end = c.min-i-end.ensures in
    let same = ap (λ (ns : List Node). length ns) c.as_slice-nodes.ensures in
    sym (counted_numbers-ended c.args.program.now c.loop-i.numbers.items c.args.program.now.nodes c.args.lists.now c.loop-i.i (omega arith)) ∙ c.loop-i.invariant
