-- The program on two stages: the configuration carries it.
use Rattle.std.proofs.Common.{◌≡◌, ℕ, zero, suc, ◌+◌, ◌<◌, ◌≤◌, Bool, true, false, not, ◌||◌, ◌==◌, cond, [], ◌∷◌, refl, subst, inl, inr, arith}
use Rattle.std.specs.Prelude.{All, Contains, MatchBool, nat_lt, slice_index}
use Rattle.std.specs.List.{list_all}
use Rattle.std.proofs.lemmas.Bool.{ltb-true, or_cases}
use Rattle.rmt_ast.specs.declared.deps.Edge.{Edge}
use Rattle.rmt_ast.specs.declared.deps.EdgeKind.TheVariants as edges
use Rattle.rmt_deps.specs.Edges.{edge}
use Rattle.rmt_pack.specs.declared.placement.Part.{Part}
use Rattle.rmt_pack.specs.Placements.{Keeps, is_strict}
use Rattle.rmt_pack.specs.Starts.{distance, stages_of}
use Rattle.rmt_refine.specs.Carries.{Carries, EdgesKept, all_edges}
use Rattle.rmt_refine.specs.Named.{NamesCarried}
use Rattle.rmt_refine.proofs.TwoStages.{config, its_map, its_names, lists, parts, places, program}
use Rattle.rmt_refine.proofs.ListedLaws.{all_by, at_most, differ, three}
use Rattle.rmt_refine.proofs.PlacesExamples.{places_carried, units_carried}
use Rattle.rmt_refine.proofs.CellNumberLaws.{all_listed}
use Rattle.rmt_refine.proofs.MemoryExamples.{memories_hold}
use Rattle.rmt_refine.proofs.CellsExamples.{cells_carried}
use Rattle.rmt_refine.proofs.CodeExamples.{code_carried}
use Rattle.rmt_refine.proofs.ParserExamples.{parser_agrees}
use Rattle.rmt_bits.proofs.MemberLaws.{Contains-split}
use Rattle.std.proofs.lemmas.List.Elements.{All-contains}

-- ---- edges and starts

pub edges_there : all_edges program places ≡ edge 0 2 edges.Action ∷ edge 0 2 edges.Reverse ∷ edge 1 2 edges.Reverse ∷ []
edges_there = refl

abbrev keeps : Edge → Part → Part → Bool
keeps e a b = not (a.node == e.from) || (not (b.node == e.to) || cond (is_strict e.kind) (nat_lt a.stage b.stage) (nat_lt a.stage (b.stage + 1)))

in_order_by : (strict : Bool) (j k : ℕ) → cond strict (nat_lt j k) (nat_lt j (k + 1)) ≡ true → MatchBool strict (j < k) (j ≤ k)
in_order_by true j k e = ltb-true j k e
in_order_by false j k e = at_most j k e

they_keep : (e : Edge) (a b : Part) → keeps e a b ≡ true → Keeps e a b
they_keep e a b h from to some_a some_b =
    elim (or_cases (not (a.node == e.from)) (not (b.node == e.to) || cond (is_strict e.kind) (nat_lt a.stage b.stage) (nat_lt a.stage (b.stage + 1))) h) [
      | inl other ↦ absurd (differ a.node e.from other from)
      | inr more ↦ elim (or_cases (not (b.node == e.to)) (cond (is_strict e.kind) (nat_lt a.stage b.stage) (nat_lt a.stage (b.stage + 1))) more) [
        | inl other ↦ absurd (differ b.node e.to other to)
        | inr order ↦ in_order_by (is_strict e.kind) a.stage b.stage order
      ]
    ]

order_kept : All (λ (e : Edge). All (λ (a : Part). All (Keeps e a) parts) parts) (all_edges program places)
order_kept =
    all_by (λ e. list_all (λ a. list_all (keeps e a) parts) parts) (λ (e : Edge). All (λ (a : Part). All (Keeps e a) parts) parts)
    (λ e h. all_by (λ a. list_all (keeps e a) parts) (λ (a : Part). All (Keeps e a) parts) (λ a g. all_by (keeps e a) (Keeps e a) (λ b f. they_keep e a b f) parts g) parts h)
    (all_edges program places) refl

rises : (j k : ℕ) → j < k → k < 2 → slice_index (0 ∷ 3 ∷ []) j < slice_index (0 ∷ 3 ∷ []) k
rises zero zero lt within = absurd (omega (arith, lt))
rises zero (suc zero) lt within = omega arith
rises (suc j) (suc zero) lt within = absurd (omega (arith, lt))
rises (suc j) zero lt within = absurd (omega (arith, lt))
rises j (suc (suc k)) lt within = absurd (omega (arith, within))

-- each edge goes to node 2, which stands in stage 1 alone
abbrev IsApart : Edge → Type 0
IsApart e = (j k : ℕ) → Contains (stages_of parts e.to) k → j < k → slice_index (0 ∷ 3 ∷ []) j + distance e.kind ≤ slice_index (0 ∷ 3 ∷ []) k

to_second : (most j k : ℕ) → most ≤ 3 → Contains (1 ∷ []) k → j < k → slice_index (0 ∷ 3 ∷ []) j + most ≤ slice_index (0 ∷ 3 ∷ []) k
to_second most zero k le there lt = elim (Contains-split 1 [] k there) [
  | inl e ↦ subst (λ i. 0 + most ≤ slice_index (0 ∷ 3 ∷ []) i) e (omega (arith, le))
  | inr later ↦ absurd (let none = later.1 in omega (arith, none))
]
to_second most (suc j) k le there lt = elim (Contains-split 1 [] k there) [
  | inl e ↦ absurd (omega (arith, e, lt))
  | inr later ↦ absurd (let none = later.1 in omega (arith, none))
]

distances_kept : All IsApart (all_edges program places)
distances_kept =
    three IsApart _ _ _ (λ j k there lt. to_second 3 j k (omega arith) there lt) (λ j k there lt. to_second 1 j k (omega arith) there lt)
    (λ j k there lt. to_second 1 j k (omega arith) there lt)

pub edges_kept : EdgesKept (all_edges program places) parts (0 ∷ 3 ∷ [])
edges_kept = record {
  order = order_kept;
  distances = record {
    first = λ some. refl;
    rise = rises;
    apart = λ e j k there in_j in_k lt. All-contains IsApart (all_edges program places) e distances_kept there j k in_k lt;
  };
}

-- ---- names

-- the cells and ranks of the configuration spell the entries
names_carried : NamesCarried program lists config its_names
names_carried = record { names_are = refl; entries = refl }

-- ---- so it carries the program

pub carried : Carries program lists its_map config
carried = record { places = places_carried; parser = parser_agrees; units = units_carried; cells = cells_carried; listed = all_listed 3 config memories_hold; code = code_carried; edges = edges_kept; names = names_carried }
