use Rattle.std.proofs.Common.{◌≡◌, take, vec_len}
use Rattle.rmt_place.specs.Steps.{Marked}
use Rattle.rmt_place.proofs.start.marked.Given as goal

abbrev pub invariant-loop-part : goal.invariant-loop-part
invariant-loop-part l = record {
  size : vec_len l.marks ≡ vec_len l.initial.marks;
  marks : Marked (take l.part-index l.parts) l.marks.items;
}
