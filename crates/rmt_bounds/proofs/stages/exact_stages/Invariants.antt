use Rattle.std.proofs.Common.{◌≡◌, ◌≤◌, ◌-◌, ◌++◌, map, filter}
use Rattle.std.specs.Prelude.{IfSome}
use Rattle.std.specs.List.{flat_map, range_with_len}
use Rattle.rmt_pack.specs.Formats.{is_in_stage, layouts_of_width, exact_layout}
use Rattle.rmt_bounds.specs.Bounds.{least_of, stages_for}
use Rattle.rmt_bounds.proofs.stages.exact_stages.Given as goal

-- the least of all formats in narrower units
abbrev pub invariant-loop-width : goal.invariant-loop-width
invariant-loop-width l = record {
  value : l.least ≡ least_of (map stages_for (filter is_in_stage (flat_map (layouts_of_width l.need) (range_with_len 1 (l.width - 1)))));
  small : IfSome l.least (λ n. n ≤ 512);
}

-- the least of those and of the formats in units of this width with fewer cells
abbrev pub invariant-loop-per : goal.invariant-loop-per
invariant-loop-per l = record {
  value : l.least ≡ least_of (map stages_for (filter is_in_stage (flat_map (layouts_of_width l.need) (range_with_len 1 (l.width - 1)) ++ map (exact_layout l.need l.width) (range_with_len 1 (l.per - 1)))));
  small : IfSome l.least (λ n. n ≤ 512);
}
