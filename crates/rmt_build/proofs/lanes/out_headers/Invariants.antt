use Rattle.std.proofs.Common.{take}
use Rattle.std.specs.List.{AllZip}
use Rattle.rmt_refine.specs.Places.{HeaderCarried}
use Rattle.rmt_build.proofs.lanes.out_headers.Given as goal

-- the headers so far
abbrev pub invariant-loop-header : goal.invariant-loop-header
invariant-loop-header l = AllZip (HeaderCarried l.places) (take l.header-index l.headers) l.sent
