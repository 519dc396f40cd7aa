use Rattle.std.proofs.Common.{◌≡◌, ◌-◌, ◌++◌, map, filter}
use Rattle.std.specs.List.{flat_map, range_with_len}
use Rattle.rmt_pack.specs.Formats.{first_of, is_in_stage, layouts_of_width, exact_layout}
use Rattle.rmt_pack.proofs.format.exact_format.Given as goal

-- the best of all layouts in narrower units
abbrev pub invariant-loop-width : goal.invariant-loop-width
invariant-loop-width l = l.best ≡ first_of (filter is_in_stage (flat_map (layouts_of_width l.need) (range_with_len 1 (l.width - 1))))

-- the best of those and of the layouts in units of this width with fewer cells
abbrev pub invariant-loop-per : goal.invariant-loop-per
invariant-loop-per l = l.best ≡ first_of (filter is_in_stage (flat_map (layouts_of_width l.need) (range_with_len 1 (l.width - 1)) ++ map (exact_layout l.need l.width) (range_with_len 1 (l.per - 1))))
