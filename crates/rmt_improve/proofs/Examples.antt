-- Orders and tries that are worked by hand.
use Rattle.std.proofs.Common.{◌≡◌, ℕ, ◌+◌, [], ◌∷◌, ◌++◌, map, true, false, Ok, Err, refl}
use Rattle.std.specs.Prelude.{replicate}
use Rattle.std.specs.List.{range_with_len}
use Rattle.std.specs.Result.{result_map_both}
use Rattle.rmt_ast.specs.declared.deps.EdgeKind.TheVariants.{Match, Action, Successor, Word}
use Rattle.rmt_ast.specs.declared.deps.Deps.{Deps}
use Rattle.rmt_place.specs.declared.demand.Demand.{Demand}
use Rattle.rmt_place.specs.Starting.{stages_in}
use Rattle.rmt_place.proofs.Examples.{part, edge, no_edges, keyless}
use Rattle.rmt_improve.specs.Orders.{blocks_of, by_weight, exchanged, heights_of}
use Rattle.rmt_improve.specs.Tries.{best_try, is_better_than, is_placed_better, last_start, order_of_try}

-- a ternary table of one quantum of so many TCAM blocks
abbrev ternary : ℕ → Demand
ternary tcam = record keyless { tcam = tcam; instructions = 2 }

-- ---- orders

-- a path to the end, of which the edge from 1 to 2 is weak
heights : heights_of (record { field = edge 0 1 Match ∷ edge 1 2 Successor ∷ edge 2 3 Action ∷ []; word = [] }) 4 ≡ 2 ∷ 1 ∷ 1 ∷ 0 ∷ []
heights = refl

-- the way behind node 0 is as long by an edge to the word of a third node as by the nearer ones
heights_by_words : heights_of (record { field = edge 0 1 Successor ∷ []; word = edge 0 2 Word ∷ [] }) 3 ≡ 1 ∷ 0 ∷ 0 ∷ []
heights_by_words = refl

blocks : blocks_of (record keyless { quanta = 3; sram = 4; tcam = 2 } ∷ keyless ∷ []) ≡ 18 ∷ 0 ∷ []
blocks = refl

-- of two that are as heavy the first
as_heavy : by_weight [] (1 ∷ 2 ∷ 2 ∷ []) 3 ≡ 1 ∷ 2 ∷ 0 ∷ []
as_heavy = refl

-- the heaviest node waits for the lightest
waits : by_weight (edge 0 1 Match ∷ []) (0 ∷ 5 ∷ 1 ∷ []) 3 ≡ 2 ∷ 0 ∷ 1 ∷ []
waits = refl

neighbours : exchanged (edge 0 1 Match ∷ []) (0 ∷ 1 ∷ 2 ∷ []) 1 ≡ 0 ∷ 2 ∷ 1 ∷ []
neighbours = refl

-- an edge goes from the first to the second
joined_neighbours : exchanged (edge 0 1 Match ∷ []) (0 ∷ 1 ∷ 2 ∷ []) 0 ≡ 0 ∷ 1 ∷ 2 ∷ []
joined_neighbours = refl

-- the sixth try begins again at the front
sixth_try : order_of_try (replicate 3 keyless) no_edges 5 (0 ∷ 1 ∷ 2 ∷ []) ≡ 1 ∷ 0 ∷ 2 ∷ []
sixth_try = refl

one_node : order_of_try (keyless ∷ []) no_edges 3 (0 ∷ []) ≡ 0 ∷ []
one_node = refl

-- ---- which try is better

fewer_stages : is_placed_better [] (part 0 0 1 ∷ []) (part 0 1 1 ∷ []) ≡ true
fewer_stages = refl

-- in two stages each, but the edge is kept at 3 cycles and at 12
earlier_end : is_placed_better (edge 0 1 Match ∷ edge 0 2 Action ∷ []) (part 0 0 1 ∷ part 2 1 1 ∷ []) (part 0 0 1 ∷ part 1 1 1 ∷ []) ≡ true
earlier_end = refl

as_good : is_placed_better [] (part 0 0 1 ∷ []) (part 0 0 1 ∷ []) ≡ false
as_good = refl

not_stuck : is_better_than [] (Ok []) (Err record { node = 0; placed = []; hits = [] }) ≡ true
not_stuck = refl

no_stage : last_start [] [] ≡ 0
no_stage = refl

-- ---- the best try

-- 16 tables, and two more of which the last reads what the other writes: by the rule the two come last
abbrev better_order : Deps
better_order = record { field = edge 16 17 Action ∷ []; word = [] }

by_the_rule : result_map_both stages_in (λ stuck. stuck.node) (best_try (replicate 18 keyless) better_order 1).placed ≡ Ok 3
by_the_rule = refl

-- the one with a strict edge behind it is placed first
by_height : (best_try (replicate 18 keyless) better_order 2).placed ≡ Ok (part 16 0 1 ∷ map (λ n. part n 0 1) (range_with_len 0 15) ++ part 15 1 1 ∷ part 17 1 1 ∷ [])
by_height = refl

-- tables of 6, 6, 10 and 10 blocks, of which a stage has 16
by_blocks : (best_try (map ternary (6 ∷ 6 ∷ 10 ∷ 10 ∷ [])) no_edges 3).placed ≡ Ok (part 2 0 1 ∷ part 3 1 1 ∷ part 0 0 1 ∷ part 1 1 1 ∷ [])
by_blocks = refl

-- where the first three tries give three stages, and so does the first exchange, the second one gives two
before_the_exchange : result_map_both stages_in (λ stuck. stuck.node) (best_try (map ternary (6 ∷ 6 ∷ 5 ∷ 5 ∷ 5 ∷ 5 ∷ [])) no_edges 4).placed ≡ Ok 3
before_the_exchange = refl

by_exchange :
    (best_try (map ternary (6 ∷ 6 ∷ 5 ∷ 5 ∷ 5 ∷ 5 ∷ [])) no_edges 5).placed
    ≡ Ok (part 0 0 1 ∷ part 2 0 1 ∷ part 1 1 1 ∷ part 3 0 1 ∷ part 4 1 1 ∷ part 5 1 1 ∷ [])
by_exchange = refl

-- of tries that are as good the first
first_of_equals : (best_try (replicate 3 keyless) no_edges 6).order ≡ 0 ∷ 1 ∷ 2 ∷ []
first_of_equals = refl

-- each of 33 tables matches on what the one before it writes, so there is one good order alone
no_order :
    (best_try (replicate 33 keyless) (record { field = map (λ n. edge n (n + 1) Match) (range_with_len 0 32); word = [] }) 5).placed
    ≡ Err record { node = 32; placed = map (λ n. part n n 1) (range_with_len 0 32); hits = record { limit = 1; stage = 32; sum = 32; need = 1 } ∷ [] }
no_order = refl

-- a key of 648 bits, in words of which a stage reads 640: all tries are stuck, as the first
all_stuck :
    (best_try (record keyless { exact_words = range_with_len 160 20 ++ 0 ∷ [] } ∷ keyless ∷ []) no_edges 4).placed
    ≡ Err record { node = 0; placed = []; hits = map (λ k. record { limit = 8; stage = k; sum = 0; need = 648 }) (range_with_len 0 32) }
all_stuck = refl
