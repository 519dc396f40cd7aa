-- Starts by the rule come at most 12 cycles a stage, and each part of a placement stands in a stage that starts.
use Rattle.std.proofs.Common.{◌≡◌, ℕ, ◌*◌, ◌<◌, ◌≤◌, List, length, map, arith}
use Rattle.std.specs.Prelude.{Contains, slice_index}
use Rattle.std.specs.List.{range_with_len}
use Rattle.std.proofs.lemmas.List.FromFn.{get_or-map-range_with_len, length-map-range_with_len}
use Rattle.rmt_ast.specs.declared.deps.Edge.{Edge}
use Rattle.rmt_ast.specs.declared.deps.EdgeKind.{EdgeKind}
use Rattle.rmt_ast.specs.declared.deps.EdgeKind.TheVariants as edge
use Rattle.rmt_pack.specs.declared.placement.Part.{Part}
use Rattle.rmt_pack.specs.Starts.{KeepDistances, distance, stages_of}

-- stages 12 cycles apart
abbrev wide : ℕ → List ℕ
wide count = map (λ k. 12 * k) (range_with_len 0 count)

wide_at : (count k : ℕ) → k < count → slice_index (wide count) k ≡ 12 * k
wide_at count k lt = get_or-map-range_with_len (λ j. 12 * j) 0 count k k 0 lt (omega arith)

distance_le : (kind : EdgeKind) → distance kind ≤ 12
distance_le edge.Match = omega arith
distance_le edge.Action = omega arith
distance_le edge.Word = omega arith
distance_le edge.Successor = omega arith
distance_le edge.Reverse = omega arith

module _ (edges : List Edge) (parts : List Part) (count : ℕ) (room : (k : ℕ) (e : Edge) → Contains edges e → Contains (stages_of parts e.to) k → k < count) where
  -- they keep every distance
  wide_keeps : KeepDistances edges parts (wide count)
  wide_keeps = record {
    first = λ some. (let long = length-map-range_with_len (λ k. 12 * k) 0 count in let at = wide_at count 0 (omega (arith, some, long)) in omega (arith, at));
    rise = λ j k lt within.
        (let long = length-map-range_with_len (λ i. 12 * i) 0 count in
        let in_k : k < count = omega (arith, within, long) in
        omega (arith, wide_at count j (omega (arith, lt, in_k)), wide_at count k in_k, lt));
    apart = λ e j k there in_j in_k lt.
        (let within = room k e there in_k in
        omega (arith, wide_at count j (omega (arith, lt, within)), wide_at count k within, lt, distance_le e.kind));
  }

  -- so the least starts come no later
  pub early : (starts : List ℕ) → length starts ≡ count
      → ((others : List ℕ) → KeepDistances edges parts others → length starts ≤ length others → (k : ℕ) → k < length starts → slice_index starts k ≤ slice_index others k)
      → (k : ℕ) → k < length starts → slice_index starts k ≤ 12 * k
  early starts long least k lt =
      let at = wide_at count k (omega (arith, lt, long)) in
      omega (arith, least (wide count) wide_keeps (omega (arith, long, length-map-range_with_len (λ i. 12 * i) 0 count)) k lt, at)
