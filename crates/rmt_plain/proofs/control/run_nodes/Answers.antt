use Rattle.std.proofs.Common.{◌≡◌, ◌+◌, List, Option, drop, get_or, sym, ap, ◌∙◌, arith}
use Rattle.std.specs.Prelude.{slice_get}
use Rattle.std.proofs.lemmas.List.{at_drop_more}
use Rattle.rmt_ast.specs.declared.program.Node.{Node}
use Rattle.rmt_plain.specs.declared.lookup.Lookup.{Lookup}
use Rattle.rmt_plain.specs.Running.{run_of, passed_with, run_with}
use Rattle.rmt_plain.proofs.FirstLaws.{no_node}
use Rattle.rmt_plain.proofs.control.run_nodes.Goals as goal

pub loop-number-preserved : goal.loop-number-preserved
loop-number-preserved c =
    let p = c.args.program.now in
    let lookups = c.args.lookups.now in
    let n = c.loop-number.number in
    let as_it_is : run_of c.pass_node.new.run ≡ passed_with p (slice_get lookups n) n (get_or p.nodes n no_node) (run_of c.loop-number.run) =
    c.in_ok-pass_node.ensures
    ∙ ap (λ (o : Option Lookup). passed_with p o n (get_or c.as_slice.result.now n no_node) (run_of c.loop-number.run)) (sym c.lookup_at.ensures)
    ∙ ap (λ (nodes : List Node). passed_with p (slice_get lookups n) n (get_or nodes n no_node) (run_of c.loop-number.run)) c.as_slice.ensures in
    ap (run_with p lookups (n + 1) (drop (n + 1) p.nodes)) as_it_is
    ∙ sym (at_drop_more (λ (nodes : List Node). run_with p lookups n nodes (run_of c.loop-number.run)) p.nodes n no_node (let end = c.len-number-end.ensures in omega arith))
    ∙ c.loop-number.invariant
