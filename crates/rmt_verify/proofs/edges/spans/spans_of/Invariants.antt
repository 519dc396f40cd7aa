use Rattle.std.proofs.Common.{◌≡◌, ℕ, length, take, get_or}
use Rattle.rmt_pack.specs.Starts.{stages_of}
use Rattle.rmt_verify.specs.EdgeSpans.{no_span, span_of}
use Rattle.rmt_verify.proofs.edges.spans.spans_of.Given as goal

abbrev pub invariant-loop-part : goal.invariant-loop-part
invariant-loop-part l = record {
  each : (n : ℕ) → get_or l.spans.items n no_span ≡ span_of (stages_of (take l.part-index l.parts) n);
  all : length l.spans.items ≡ l.nodes;
}
