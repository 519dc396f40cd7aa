use Rattle.std.proofs.Common.{◌≡◌, drop}
use Rattle.std.specs.List.{list_any}
use Rattle.rmt_ptcam.specs.Needs.{touches}
use Rattle.rmt_ptcam.proofs.plain.headers.is_looked_up.Given as goal

abbrev pub invariant-loop-field : goal.invariant-loop-field
invariant-loop-field l =
    list_any (touches l.program l.header l.byte) l.header.select ≡ list_any (touches l.program l.header l.byte) (drop l.field-index l.field-items)
