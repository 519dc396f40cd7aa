use Rattle.std.proofs.Common.{◌≡◌, ◌-◌, ◌≤◌, length}
use Rattle.rmt_ptcam.specs.Clustering.{one_header, some_entries}
use Rattle.rmt_ptcam.specs.Grouping.{Stand, parser_in}
use Rattle.rmt_ptcam.specs.Joining.{entries_in}
use Rattle.rmt_ptcam.proofs.clustered.clustering.one_header.Given as goal

-- the entries that are left give the whole
abbrev pub invariant-loop-k : goal.invariant-loop-k
invariant-loop-k l = record {
  so_far : some_entries l.program l.number (l._k-end - l._k) (record { parser = parser_in l.groups; joins = l.joins; behind = l.behind })
      ≡ one_header l.program l.number (record { parser = parser_in l.initial.groups; joins = l.initial.joins; behind = 0 });
  stand : Stand l.groups;
  within : l.behind ≤ length (entries_in l.number (parser_in l.groups).entries);
}
