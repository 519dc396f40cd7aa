use Rattle.std.proofs.Common.{◌≡◌, ◌+◌, drop, length}
use Rattle.std.specs.Prelude.{sum_by}
use Rattle.rmt_ast.specs.State.{width_of}
use Rattle.rmt_phv.specs.Packing.{pieces}
use Rattle.rmt_ptcam.specs.Needs.{extract_count}
use Rattle.rmt_ptcam.proofs.plain.need.count_extracts.Given as goal

abbrev pub invariant-loop-field : goal.invariant-loop-field
invariant-loop-field l = l.count + sum_by (λ f. length (pieces (width_of l.program f))) (drop l.field-index l.header.fields) ≡ extract_count l.program l.header
