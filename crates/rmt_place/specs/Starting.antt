-- When the stages of a placement start: each as early as the edges to every earlier stage allow.
use Rattle.std.specs.Prelude.{ℕ, ◌+◌, List, [], ◌∷◌, ◌++◌, if◌then◌else◌, filter, map, length, slice_index, fold}
use Rattle.std.specs.List.{flat_map, range_with_len}
use Rattle.rmt_bits.specs.Members.{is_among}
use Rattle.rmt_ast.specs.declared.deps.Edge.{Edge}
use Rattle.rmt_config.specs.Resources.{greatest_by}
use Rattle.rmt_pack.specs.declared.placement.Part.{Part}
use Rattle.rmt_pack.specs.Starts.{distance, stages_of}

-- how many stages a placement has: its greatest stage and 1, or none
abbrev pub stages_in : List Part → ℕ
stages_in parts = greatest_by (λ (x : Part). x.stage + 1) parts

-- so many cycles behind each stage before stage k in which a node has a part
abbrev pub starts_behind : List ℕ → List Part → ℕ → ℕ → ℕ → List ℕ
starts_behind starts parts k node cycles = map (λ j. slice_index starts j + cycles) (filter (is_among (stages_of parts node)) (range_with_len 0 k))

-- the starts that an edge asks of stage k, if its later node has a part there: behind each earlier stage with a part of its earlier node
abbrev pub asked_by : List ℕ → List Part → ℕ → Edge → List ℕ
asked_by starts parts k e = if is_among (stages_of parts e.to) k then starts_behind starts parts k e.from (distance e.kind) else []

-- the least start of the next stage: 0 of the first, else at least 1 behind that of the stage before, and what the edges ask
abbrev pub next_start : List Edge → List Part → List ℕ → ℕ
next_start edges parts starts =
    greatest_by (λ start. start) (greatest_by (λ start. start + 1) starts ∷ flat_map (asked_by starts parts (length starts)) edges)

-- the starts of all stages
abbrev pub starts_of : List Edge → List Part → List ℕ
starts_of edges parts = fold (λ starts k. starts ++ next_start edges parts starts ∷ []) [] (range_with_len 0 (stages_in parts))
