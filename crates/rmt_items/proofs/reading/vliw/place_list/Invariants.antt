use Rattle.std.proofs.Common.{◌≡◌, take}
use Rattle.rmt_config.specs.CodeForm.{places_of}
use Rattle.rmt_items.proofs.reading.vliw.place_list.Given as goal

abbrev pub invariant-loop-unit : goal.invariant-loop-unit
invariant-loop-unit l = l.places.items ≡ places_of (take l.unit-index l.units)
