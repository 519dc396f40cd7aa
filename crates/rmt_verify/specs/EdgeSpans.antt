-- The stages between which the parts of nodes stand, and whether an edge is kept, as they tell.
use Rattle.std.specs.Prelude.{◌≡◌, ◌<◌, ◌≤◌, ℕ, ◌+◌, List, Bool, true, ◌&&◌, nat_lt, nat_le, if◌then◌else◌, Option, Some, None, fold, min, max, length, slice_index, slice_index_or}
use Rattle.rmt_ast.specs.declared.deps.Edge.{Edge}
use Rattle.rmt_ast.specs.declared.deps.EdgeKind.{EdgeKind}
use Rattle.rmt_pack.specs.Placements.{is_strict}
use Rattle.rmt_pack.specs.Starts.{distance}
use Rattle.rmt_verify.specs.Types.{Part}
use Rattle.rmt_verify.specs.declared.edges.spans.Span.{Span}

-- a part is of one of so many nodes, stands in one of so many stages, and has quanta there
pub record IsPartOf (nodes stages : ℕ) (x : Part) : Type 0 where
  pub node : x.node < nodes
  pub stage : x.stage < stages
  pub some : 0 < x.quanta

-- one stage more
abbrev pub widened : Option Span → ℕ → Option Span
widened None k = Some (record { first = k; last = k })
widened (Some s) k = Some (record { first = min s.first k; last = max s.last k })

-- the first and the last of some stages
abbrev pub span_of : List ℕ → Option Span
span_of stages = fold widened None stages

-- an edge of that kind is kept between nodes with these spans
abbrev pub span_keeps : List ℕ → EdgeKind → Option Span → Option Span → Bool
span_keeps starts kind None second = true
span_keeps starts kind (Some a) None = true
span_keeps starts kind (Some a) (Some b) =
    if is_strict kind then nat_lt a.last b.first && nat_le (slice_index starts a.last + distance kind) (slice_index starts b.first) else nat_le a.last b.first

abbrev pub no_span : Option Span
no_span = None

abbrev pub is_kept : List (Option Span) → List ℕ → Edge → Bool
is_kept spans starts e = span_keeps starts e.kind (slice_index_or spans e.from no_span) (slice_index_or spans e.to no_span)

-- starts rise from 0
pub record Rise (starts : List ℕ) : Type 0 where
  pub first : 1 ≤ length starts → slice_index starts 0 ≡ 0
  pub rise : (j k : ℕ) → j < k → k < length starts → slice_index starts j < slice_index starts k
