use Rattle.std.proofs.Common.{List, Option, length, map, sym, ap, subst, ◌∙◌}
use Rattle.rmt_cells.specs.declared.cells.Chain.{Chain}
use Rattle.rmt_chip.specs.Frames.{AreFrames, frames_in}
use Rattle.rmt_chip.proofs.FrameLaws.{no_frames, no_bytes, no_sizes}
use Rattle.rmt_chip.proofs.frames.Frames.new.Goals as goal

pub invariant_of-result : goal.invariant_of-result
invariant_of-result c = record {
  stand = subst (λ (cs : List (Option Chain)). AreFrames c.in-Ok.cells cs (frames_in c.in-Ok.cells cs)) (sym c.in_ok-chains.ensures) (no_frames c.in-Ok.cells c.args.count c.in-Ok.ensures.free);
  sized = c.in_ok-sizes.ensures ∙ no_sizes c.in-Ok.cells c.args.count ∙ ap (λ (cs : List (Option Chain)). map length (frames_in c.in-Ok.cells cs)) (sym c.in_ok-chains.ensures);
}

pub returns : goal.returns
returns c = ap (frames_in c.in-Ok.cells) c.in_ok-chains.ensures ∙ no_bytes c.in-Ok.cells c.args.count
