-- Placements and starts that are worked by hand.
use Rattle.std.proofs.Common.{◌≡◌, ℕ, ◌+◌, List, [], ◌∷◌, ◌++◌, map, refl}
use Rattle.std.specs.Prelude.{Ok, Err, replicate}
use Rattle.std.specs.List.{range_with_len}
use Rattle.std.specs.Result.{result_unwrap_or}
use Rattle.rmt_bits.specs.declared.lane.Lane.{Lane}
use Rattle.rmt_ast.specs.declared.program.Program.{Program}
use Rattle.rmt_ast.specs.declared.deps.Edge.{Edge}
use Rattle.rmt_ast.specs.declared.deps.EdgeKind.{EdgeKind}
use Rattle.rmt_ast.specs.declared.deps.EdgeKind.TheVariants.{Match, Action, Successor, Reverse, Word}
use Rattle.rmt_ast.specs.declared.deps.Deps.{Deps}
use Rattle.rmt_ast.proofs.Programs.{strict_and_weak as strict_and_weak_program, gate as gate_program}
use Rattle.rmt_phv.specs.Packing.{packing}
use Rattle.rmt_deps.specs.Edges.{dependencies_of}
use Rattle.rmt_pack.specs.declared.placement.Part.{Part}
use Rattle.rmt_place.specs.declared.demand.Demand.{Demand}
use Rattle.rmt_place.specs.Placing.{order_of, placement_in, placement_of, placement}
use Rattle.rmt_place.specs.Starting.{starts_of}

abbrev pub part : ℕ → ℕ → ℕ → Part
part node stage quanta = record { node = node; stage = stage; quanta = quanta }

abbrev pub edge : ℕ → ℕ → EdgeKind → Edge
edge from to kind = record { from = from; to = to; kind = kind }

abbrev pub no_edges : Deps
no_edges = record { field = []; word = [] }

abbrev places_of : Program → List (List Lane)
places_of p = result_unwrap_or (packing p) []

-- a table without a key
abbrev pub keyless : Demand
keyless = record { quanta = 1; sram = 0; tcam = 0; exact_words = []; ternary_words = []; slots = 1; instructions = 1; held = 0; gates = 0 }

-- an exact table of so many quanta of so many blocks, with one listed action, whose key lies in these words
abbrev exact : ℕ → ℕ → List ℕ → Demand
exact quanta sram words = record keyless { quanta = quanta; sram = sram; exact_words = words; instructions = 2 }

-- ---- placements

-- the second level comes behind the first, whatever the numbers
by_level : order_of (1 ∷ 0 ∷ 1 ∷ 0 ∷ []) ≡ 1 ∷ 3 ∷ 0 ∷ 2 ∷ []
by_level = refl

-- b matches on what a writes; c writes what b matches on, and stands beside it
strict_and_weak :
    placement strict_and_weak_program (places_of strict_and_weak_program) (dependencies_of strict_and_weak_program (places_of strict_and_weak_program))
    ≡ Ok (part 0 0 1 ∷ part 1 1 1 ∷ part 2 1 1 ∷ [])
strict_and_weak = refl

-- two writers of one word stand in two stages
two_fields_one_word : placement_of (keyless ∷ keyless ∷ []) (record { field = []; word = edge 0 1 Word ∷ [] }) ≡ Ok (part 0 0 1 ∷ part 1 1 1 ∷ [])
two_fields_one_word = refl

-- a gate and both its arms stand in one stage
gate_and_arms :
    placement gate_program (places_of gate_program) (dependencies_of gate_program (places_of gate_program))
    ≡ Ok (part 0 0 1 ∷ part 1 0 1 ∷ part 2 0 1 ∷ [])
gate_and_arms = refl

-- a stage has 16 slots
seventeen_tables : placement_of (replicate 17 keyless) no_edges ≡ Ok (map (λ n. part n 0 1) (range_with_len 0 16) ++ part 16 1 1 ∷ [])
seventeen_tables = refl

-- parts stand in the order of placing
the_other_order : placement_in (keyless ∷ keyless ∷ []) no_edges (1 ∷ 0 ∷ []) ≡ Ok (part 1 0 1 ∷ part 0 0 1 ∷ [])
the_other_order = refl

-- in an order that isn't good an edge may not be kept
not_a_good_order :
    placement_in (replicate 3 keyless) (record { field = []; word = edge 0 1 Word ∷ edge 1 2 Word ∷ [] }) (2 ∷ 1 ∷ 0 ∷ [])
    ≡ Ok (part 2 1 1 ∷ part 1 1 1 ∷ part 0 0 1 ∷ [])
not_a_good_order = refl

-- 2 quanta of 16 TCAM blocks each
split_ternary : placement_of (record keyless { quanta = 2; tcam = 16; sram = 2; instructions = 2 } ∷ []) no_edges ≡ Ok (part 0 0 1 ∷ part 0 1 1 ∷ [])
split_ternary = refl

-- 50 quanta of 16 blocks each: six to a stage, and the second table fills up the last stage of the first
large_tables :
    placement_of (exact 50 16 (160 ∷ []) ∷ exact 50 16 (161 ∷ []) ∷ []) no_edges
    ≡ Ok (map (λ k. part 0 k 6) (range_with_len 0 8) ++ part 0 8 2 ∷ part 1 8 4 ∷ map (λ k. part 1 k 6) (range_with_len 9 7) ++ part 1 16 4 ∷ [])
large_tables = refl

-- a key in words of 648 bits, of which a stage reads 640
crossbar :
    placement_of (exact 1 22 (range_with_len 160 20 ++ 0 ∷ []) ∷ []) no_edges
    ≡ Err (record { node = 0; placed = []; hits = map (λ k. record { limit = 8; stage = k; sum = 0; need = 648 }) (range_with_len 0 32) })
crossbar = refl

-- two keys that read one word read it once: of 21 words of 32 bits one is read by both
shared_word :
    placement_of (exact 1 4 (range_with_len 160 10) ∷ exact 1 4 (range_with_len 169 11) ∷ []) no_edges
    ≡ Ok (part 0 0 1 ∷ part 1 0 1 ∷ [])
shared_word = refl

-- each of 33 tables matches on what the one before it writes
chain_too_long :
    placement_of (replicate 33 (exact 1 4 (0 ∷ []))) (record { field = map (λ n. edge n (n + 1) Match) (range_with_len 0 32); word = [] })
    ≡ Err (record { node = 32; placed = map (λ n. part n n 1) (range_with_len 0 32); hits = record { limit = 1; stage = 32; sum = 32; need = 1 } ∷ [] })
chain_too_long = refl

-- a node that is stuck behind 30 others: what it has stands, and each stage tells what one more quantum needs
stuck_at_the_end :
    placement_of (replicate 31 (exact 1 4 (0 ∷ [])) ++ exact 20 50 (0 ∷ []) ∷ []) (record { field = map (λ n. edge n (n + 1) Action) (range_with_len 0 31); word = [] })
    ≡ Err (record {
      node = 31;
      placed = map (λ n. part n n 1) (range_with_len 0 31) ++ part 31 31 2 ∷ [];
      hits = record { limit = 6; stage = 31; sum = 100; need = 50 } ∷ [];
    })
stuck_at_the_end = refl

-- ---- starts

-- node 2 matches on what node 0 writes, past a neighbour
past_a_neighbour : starts_of (edge 0 2 Match ∷ []) (part 0 0 1 ∷ part 1 1 1 ∷ part 2 2 1 ∷ []) ≡ 0 ∷ 1 ∷ 12 ∷ []
past_a_neighbour = refl

starts_of_writers : starts_of (edge 0 1 Word ∷ []) (part 0 0 1 ∷ part 1 1 1 ∷ []) ≡ 0 ∷ 3 ∷ []
starts_of_writers = refl

-- no edge joins the parts of one table
starts_of_parts : starts_of [] (part 0 0 6 ∷ part 0 1 6 ∷ part 0 2 4 ∷ []) ≡ 0 ∷ 1 ∷ 2 ∷ []
starts_of_parts = refl

-- each part of the earlier node keeps its distance from each part of the later one
starts_of_split : starts_of (edge 0 1 Match ∷ []) (part 0 0 1 ∷ part 0 1 1 ∷ part 1 2 1 ∷ part 1 3 1 ∷ []) ≡ 0 ∷ 1 ∷ 13 ∷ 14 ∷ []
starts_of_split = refl

-- a weak edge asks for no more than the next cycle
starts_of_weak : starts_of (edge 0 1 Reverse ∷ edge 0 1 Successor ∷ []) (part 0 0 1 ∷ part 1 1 1 ∷ []) ≡ 0 ∷ 1 ∷ []
starts_of_weak = refl

no_stage : starts_of [] [] ≡ []
no_stage = refl
