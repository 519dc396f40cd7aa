use Rattle.std.proofs.Common.{◌≡◌, drop, map}
use Rattle.rmt_config.specs.Order.{rises_from}
use Rattle.rmt_config.proofs.form.search.items_rise.Given as goal

abbrev pub invariant-loop-item : goal.invariant-loop-item
invariant-loop-item g l = rises_from l.least (map g.T.Numbered.place_of (drop l.item-index l.items)) ≡ rises_from l.fn.first (map g.T.Numbered.place_of l.items)
