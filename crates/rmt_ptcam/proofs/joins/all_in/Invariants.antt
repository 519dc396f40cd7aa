use Rattle.std.proofs.Common.{◌≡◌, drop}
use Rattle.rmt_ptcam.specs.Grouping.{Stand, parser_in}
use Rattle.rmt_ptcam.specs.Joins.{behind_joins}
use Rattle.rmt_ptcam.proofs.joins.all_in.Given as goal

abbrev pub invariant-loop-join : goal.invariant-loop-join
invariant-loop-join l = record {
  left : behind_joins (parser_in l.groups) (drop l.join-index l.joins) ≡ behind_joins (parser_in l.initial.groups) l.joins;
  stand : Stand l.groups;
}
