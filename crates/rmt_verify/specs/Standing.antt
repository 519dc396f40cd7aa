-- What is known of nodes and of a stage while its units are looked at.
use Rattle.std.specs.Prelude.{◌≡◌, ◌<◌, ℕ, List, Option, All, length, slice_index, slice_index_or}
use Rattle.rmt_config.specs.Limits.{told}
use Rattle.rmt_pack.specs.Placements.{quanta_in}
use Rattle.rmt_pack.specs.Starts.{stages_of}
use Rattle.rmt_refine.specs.Types.{Program}
use Rattle.rmt_verify.specs.Given.{IsProgram, KeepsApart}
use Rattle.rmt_verify.specs.Types.{Lane, Part}
use Rattle.rmt_verify.specs.EdgeSpans.{no_span, span_of}
use Rattle.rmt_verify.specs.declared.edges.spans.Span.{Span}

-- the first and the last stage of each node
abbrev pub AreSpans : List Part → List (Option Span) → Type 0
AreSpans parts spans = (n : ℕ) → slice_index_or spans n no_span ≡ span_of (stages_of parts n)

-- a program, places that keep its fields apart, parts of its nodes, and the first and the last stage of each node
pub record ArePlaced (p : Program) (lanes : List (List Lane)) (parts : List Part) (spans : List (Option Span)) : Type 0 where
  pub program : IsProgram p
  pub places : KeepsApart p lanes
  pub nodes_are : All (λ (x : Part). x.node < length p.nodes) parts
  pub spans_are : AreSpans parts spans

-- the quanta of each node in a stage, and the first and the last stage of each node
pub record IsKnown (parts : List Part) (stage : ℕ) (quanta : List ℕ) (spans : List (Option Span)) : Type 0 where
  pub quanta_are : (n : ℕ) → slice_index quanta n ≡ told (quanta_in parts n stage)
  pub spans_are : AreSpans parts spans
