use Rattle.std.proofs.Common.{◌∙◌, length, map, ap, sym, subst}
use Rattle.std.specs.List.{All}
use Rattle.std.proofs.lemmas.List.{length-reverse}
use Rattle.rmt_deps.specs.Edges.{GoesForward}
use Rattle.rmt_deps.proofs.LevelLaws.{length-levels_of}
use Rattle.rmt_improve.specs.Orders.{turned}
use Rattle.rmt_improve.proofs.TryLaws.{turned_forward}
use Rattle.rmt_improve.proofs.weight.heights.Goals as goal

pub levels-requires : goal.levels-requires
levels-requires c =
    let nodes = c.args.nodes in
    let deps = c.args.deps.now in
    record {
      field = subst (All (GoesForward nodes)) (sym (c.in_ok-turned.ensures ∙ ap (map (turned nodes)) c.as_slice.ensures)) (turned_forward nodes deps.field c.requires.field);
      word = subst (All (GoesForward nodes)) (sym (c.in_ok-turned-2.ensures ∙ ap (map (turned nodes)) c.as_slice-2.ensures)) (turned_forward nodes deps.word c.requires.word);
    }

pub returns-clause-size : goal.returns-clause-size
returns-clause-size c =
    ap length c.in_ok-reversed.ensures
    ∙ (length-reverse c.as_slice-3.result.now ∙ (ap length (c.as_slice-3.ensures ∙ c.in_ok-levels.ensures.levels) ∙ length-levels_of record { field = c.in_ok-turned.field-0; word = c.in_ok-turned-2.field-0 } c.args.nodes))
