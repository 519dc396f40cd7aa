-- What the code works with: marks of nodes, and the rank of a placement.
use Rattle.std.specs.Prelude.{◌≡◌, ◌<◌, ℕ, List, [], ◌∷◌, Bool, false, not, ◌&&◌, ◌==◌, Option, Some, None, Result, Ok, Err, ⊤, length, slice_index_or}
use Rattle.std.specs.List.{list_any}
use Rattle.rmt_bits.specs.Members.{is_among}
use Rattle.rmt_ast.specs.declared.deps.Edge.{Edge}
use Rattle.rmt_pack.specs.declared.placement.Part.{Part}
use Rattle.rmt_place.specs.Placing.{Stuck}
use Rattle.rmt_place.specs.Starting.{stages_in}
use Rattle.rmt_improve.specs.declared.rank.Rank.{Rank}
use Rattle.rmt_improve.specs.declared.tries.Outcome.{Outcome}
use Rattle.rmt_improve.specs.declared.tries.Outcome.TheVariants as outcome
use Rattle.rmt_improve.specs.declared.tries.Tried.{Tried}
use Rattle.rmt_improve.specs.Tries.{Try, last_start}

-- ---- marks of nodes

-- the marks of the nodes that are taken are set
abbrev pub AreTaken : List ℕ → List Bool → Type 0
AreTaken taken marks = (n : ℕ) → n < length marks → slice_index_or marks n false ≡ is_among taken n

-- an edge goes to a node from one whose mark is not set
abbrev pub is_held : List Edge → List Bool → ℕ → Bool
is_held edges marks n = list_any (λ (e : Edge). (e.to == n) && not (slice_index_or marks e.from false)) edges

-- a node whose mark is set in neither list
abbrev pub is_free : List Bool → List Bool → ℕ → Bool
is_free taken held n = not (slice_index_or taken n false) && not (slice_index_or held n false)

-- a node, or none, as a list
abbrev pub listed : Option ℕ → List ℕ
listed None = []
listed (Some n) = n ∷ []

-- ---- tries

-- how good a placement is
pub record IsRank (edges : List Edge) (parts : List Part) (rank : Rank) : Type 0 where
  pub stages : rank.stages ≡ stages_in parts
  pub start : rank.start ≡ last_start edges parts

-- what a try gave
abbrev pub placed_by : Outcome → Result (List Part) Stuck
placed_by (outcome.Placed placement rank) = Ok placement.parts
placed_by (outcome.Stuck node placed hits) = Err (record { node = node; placed = placed.parts; hits = hits })

abbrev pub as_try : Tried → Try
as_try t = record { order = t.order; placed = placed_by t.outcome }

-- its rank is that of its placement
abbrev pub IsRanked : List Edge → Outcome → Type 0
IsRanked edges (outcome.Placed placement rank) = IsRank edges placement.parts rank
IsRanked edges (outcome.Stuck node placed hits) = ⊤
