use Rattle.std.proofs.Common.{◌≡◌, [], map, take}
use Rattle.rmt_ptcam.specs.Adding.{Adds}
use Rattle.rmt_ptcam.specs.Grouping.{all_rows, state_in}
use Rattle.rmt_ptcam.proofs.joining.rows.flattened.Given as goal

abbrev pub invariant-loop-group : goal.invariant-loop-group
invariant-loop-group l = record {
  states : l.parser.states ≡ map state_in (take l.group-index l.groups);
  rows : Adds (all_rows (take l.group-index l.groups)) [] l.parser.entries [] l.parser.tails;
}
