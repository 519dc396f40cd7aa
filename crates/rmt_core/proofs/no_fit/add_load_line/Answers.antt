use Rattle.std.proofs.Common.{codes}
use Rattle.rmt_drive.proofs.LineLaws.{ok_then, three_parts}
use Rattle.rmt_core.proofs.no_fit.add_load_line.Goals as goal

pub returns : goal.returns
returns c =
    ok_then c.add_two_numbers.result
    (λ last. three_parts c.args.text.now.items _ _ _ (codes "no fit load ") _ _ c.in_ok-extend_from_slice.ensures.items c.in_ok-add_node_name.ensures last)
    c.add_two_numbers.ensures
