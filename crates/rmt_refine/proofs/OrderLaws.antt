-- Two nodes that both run and that an edge joins stand in its order, and their stages as far apart as it asks.
use Rattle.std.proofs.Common.{◌≡◌, ℕ, ◌+◌, ◌<◌, ◌≤◌, true, false, ◌==◌, List, [], ◌∷◌, length, refl, subst, ◌⊎◌, inl, inr, arith}
use Rattle.std.specs.Prelude.{Contains, MatchBool, filter, slice_index}
use Rattle.std.proofs.lemmas.Bool.{eq-eqb, or_left, or_right}
use Rattle.std.proofs.lemmas.List.Elements.{All-contains_itself}
use Rattle.rmt_ast.specs.declared.deps.Edge.{Edge}
use Rattle.rmt_ast.specs.declared.deps.EdgeKind.{EdgeKind}
use Rattle.rmt_ast.specs.declared.deps.EdgeKind.TheVariants as kind
use Rattle.rmt_refine.specs.Types.{Program, Config}
use Rattle.rmt_ast.specs.declared.entry.Entry.{Entry}
use Rattle.rmt_ast.specs.EntryLists.{AreEntries}
use Rattle.rmt_ast.specs.State.{IsState}
use Rattle.rmt_ast.specs.WellFormed.{IsProgram}
use Rattle.rmt_deps.specs.Edges.{depends, edge, keys_of, meet, on_different_arms, reads_of, words_of_fields, writes_of}
use Rattle.rmt_pack.specs.declared.placement.Part.{Part}
use Rattle.rmt_pack.specs.Placements.{is_strict, quanta_in}
use Rattle.rmt_pack.specs.Starts.{distance, stages_of}
use Rattle.rmt_refine.specs.declared.map.Map.{Map}
use Rattle.rmt_refine.specs.View.{View}
use Rattle.rmt_refine.specs.Carries.{CarriesIn, all_edges}
use Rattle.rmt_refine.proofs.EdgeLaws.{field_edge, in_order, run_beside, word_edge}
use Rattle.rmt_refine.proofs.FieldLaws.{Goes}
use Rattle.rmt_refine.proofs.NodeLaws.{part_there}
use Rattle.rmt_bits.proofs.MemberLaws.{Contains-map, list_any-Contains, Contains-filter}
use Rattle.rmt_bits.specs.Members.{is_among}

-- ---- members

they_meet : (xs ys : List ℕ) (n : ℕ) → Contains xs n → Contains ys n → meet xs ys ≡ true
they_meet xs ys n in_xs in_ys = list_any-Contains (is_among ys) xs n in_xs (list_any-Contains (λ y. y == n) ys n in_ys (eq-eqb n n refl))

-- a stage with quanta of a node is one of its stages
stands_there : (parts : List Part) (n k : ℕ) → 0 < quanta_in parts n k → Contains (stages_of parts n) k
stands_there parts n k some =
    let y = part_there parts n k some in
    let own = filter (λ (x : Part). x.node == n) parts in
    subst (Contains (stages_of parts n)) y.3
    (Contains-map (λ (x : Part). x.stage) own y.0 (Contains-filter (λ (x : Part). x.node == n) parts y.0 y.1 (eq-eqb _ n y.2)))

-- ---- two nodes that run

module _ (p : Program) (lists : List (List Entry)) (m : Map) (c : Config) (v : View) (s : List ℕ) (program : IsProgram p) (entries : AreEntries p lists) (state : IsState p s)
    (carries : CarriesIn p lists m c v) where
  abbrev edges : List Edge
  edges = all_edges p m.places

  abbrev parts : List Part
  parts = m.placement.parts

  abbrev start : ℕ → ℕ
  start k = slice_index m.starts k

  beside : (a b : ℕ) → Goes p lists s a → Goes p lists s b → on_different_arms p a b ≡ false
  beside a b goes_a goes_b = run_beside p lists s a b program goes_a goes_b

  -- a field edge of theirs
  joined_by : (a b : ℕ) (k : EdgeKind) → a < b → b < length p.nodes → Goes p lists s a → Goes p lists s b
      → Contains (kind.Match ∷ kind.Action ∷ kind.Successor ∷ kind.Reverse ∷ []) k → depends p m.places k a b ≡ true → Contains edges (edge a b k)
  joined_by a b k lt within goes_a goes_b there is =
      field_edge p m.places (Contains edges) a b k lt within (beside a b goes_a goes_b) there is (All-contains_itself edges)

  -- the order of a strict edge, and its distance
  strict_order : (e : Edge) (j k : ℕ) → Contains edges e → 0 < quanta_in parts e.from j → 0 < quanta_in parts e.to k → is_strict e.kind ≡ true
      → (j < k) × (start j + distance e.kind ≤ start k)
  strict_order e j k there some_j some_k strict =
      let lt : j < k = subst (λ b. MatchBool b (j < k) (j ≤ k)) strict (in_order p m.places parts m.starts c carries.units carries.edges e j k there some_j some_k) in
      (lt, carries.edges.distances.apart e j k there (stands_there parts e.from j some_j) (stands_there parts e.to k some_k) lt)

  -- what a node writes is seen by a later one that has it in its key
  pub match_order : (a b j k f : ℕ) → a < b → b < length p.nodes → Goes p lists s a → Goes p lists s b → 0 < quanta_in parts a j → 0 < quanta_in parts b k
      → Contains (writes_of p a) f → Contains (keys_of p b) f → (j < k) × (start j + 12 ≤ start k)
  match_order a b j k f lt within goes_a goes_b some_j some_k writes keys =
      strict_order (edge a b kind.Match) j k
      (joined_by a b kind.Match lt within goes_a goes_b (0, omega arith, refl) (they_meet (writes_of p a) (keys_of p b) f writes keys)) some_j some_k refl

  -- by one that reads it, and before one that writes it too
  pub action_order : (a b j k f : ℕ) → a < b → b < length p.nodes → Goes p lists s a → Goes p lists s b → 0 < quanta_in parts a j → 0 < quanta_in parts b k
      → Contains (writes_of p a) f → Contains (reads_of p b) f ⊎ Contains (writes_of p b) f → (j < k) × (start j + 3 ≤ start k)
  action_order a b j k f lt within goes_a goes_b some_j some_k writes uses =
      let reading = meet (writes_of p a) (reads_of p b) in
      let writing = meet (writes_of p a) (writes_of p b) in
      strict_order (edge a b kind.Action) j k
      (joined_by a b kind.Action lt within goes_a goes_b (1, omega arith, refl)
      (elim uses [
        | inl reads ↦ or_left reading writing (they_meet (writes_of p a) (reads_of p b) f writes reads)
        | inr again ↦ or_right reading writing (they_meet (writes_of p a) (writes_of p b) f writes again)
      ])) some_j some_k refl

  -- two nodes that write in one word
  pub word_order : (a b j k w : ℕ) → a < b → b < length p.nodes → Goes p lists s a → Goes p lists s b → 0 < quanta_in parts a j → 0 < quanta_in parts b k
      → Contains (words_of_fields m.places (writes_of p a)) w → Contains (words_of_fields m.places (writes_of p b)) w → (j < k) × (start j + 3 ≤ start k)
  word_order a b j k w lt within goes_a goes_b some_j some_k in_a in_b =
      strict_order (edge a b kind.Word) j k
      (word_edge p m.places (Contains edges) a b lt within (beside a b goes_a goes_b)
      (they_meet (words_of_fields m.places (writes_of p a)) (words_of_fields m.places (writes_of p b)) w in_a in_b) (All-contains_itself edges)) some_j some_k refl

  -- a node that has a field in its key, or reads it, stands no later than one that writes it afterwards
  pub reverse_order : (a b j k f : ℕ) → a < b → b < length p.nodes → Goes p lists s a → Goes p lists s b → 0 < quanta_in parts a j → 0 < quanta_in parts b k
      → Contains (writes_of p b) f → Contains (keys_of p a) f ⊎ Contains (reads_of p a) f → j ≤ k
  reverse_order a b j k f lt within goes_a goes_b some_j some_k writes uses =
      let keyed = meet (writes_of p b) (keys_of p a) in
      let reading = meet (writes_of p b) (reads_of p a) in
      in_order p m.places parts m.starts c carries.units carries.edges (edge a b kind.Reverse) j k
      (joined_by a b kind.Reverse lt within goes_a goes_b (3, omega arith, refl)
      (elim uses [
        | inl keys ↦ or_left keyed reading (they_meet (writes_of p b) (keys_of p a) f writes keys)
        | inr reads ↦ or_right keyed reading (they_meet (writes_of p b) (reads_of p a) f writes reads)
      ])) some_j some_k
