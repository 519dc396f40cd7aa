-- Packings that are worked by hand.
use Rattle.std.proofs.Common.{◌≡◌, ℕ, List, [], ◌∷◌, ◌++◌, Ok, Err, map, replicate, refl}
use Rattle.std.specs.List.{range_with_len}
use Rattle.rmt_bits.specs.declared.lane.Lane.{Lane}
use Rattle.rmt_ast.specs.declared.program.Program.{Program}
use Rattle.rmt_ast.specs.declared.program.Field.{Field}
use Rattle.rmt_ast.specs.declared.program.Action.{Action}
use Rattle.rmt_ast.specs.declared.program.Assign.{Assign}
use Rattle.rmt_ast.specs.declared.program.Expr.TheVariants.{One}
use Rattle.rmt_ast.specs.declared.program.Leaf.TheVariants as leaf
use Rattle.rmt_phv.specs.declared.fault.PhvFull.TheVariants.{At}
use Rattle.rmt_phv.specs.Packing.{Piece, pieces, pieces_at, places_from, packing}

abbrev field : ℕ → Field
field width = record { name = []; width = width }

-- an action that sets these fields
abbrev sets : List ℕ → Action
sets fields = record { name = []; params = []; assigns = map (λ f. let a : Assign = record { dest = f; expr = One (leaf.Number 0) } in a) fields }

-- a program with fields of these widths and these actions, of which the packing sees nothing else
abbrev program : List ℕ → List Action → Program
program widths actions = record { fields = map field widths; headers = []; actions = actions; tables = []; nodes = [] }

abbrev lane : ℕ → ℕ → ℕ → Lane
lane word low len = record { word = word; low = low; len = len }

-- 70 bits are two pieces of 32 and one of 6
cut_70 : pieces 70 ≡ 32 ∷ 32 ∷ 6 ∷ []
cut_70 = refl

cut_128 : pieces 128 ≡ 32 ∷ 32 ∷ 32 ∷ 32 ∷ []
cut_128 = refl

cut_1 : pieces 1 ≡ 1 ∷ []
cut_1 = refl

-- Two ports of 9 bits find no room in one word of 16. `drop` and a `valid` share word 0, which has no room for 8 bits more.
smallest : packing (program (9 ∷ 9 ∷ 1 ∷ 1 ∷ 8 ∷ []) (sets (1 ∷ []) ∷ []))
    ≡ Ok ((lane 64 0 9 ∷ []) ∷ (lane 65 0 9 ∷ []) ∷ (lane 0 0 1 ∷ []) ∷ (lane 0 1 1 ∷ []) ∷ (lane 1 0 8 ∷ []) ∷ [])
smallest = refl

-- a header of fields a : 2, b : 2 and c : 4, of which one action sets a and another sets b: a and b share word 0
two_fields_one_word : packing (program (9 ∷ 9 ∷ 1 ∷ 1 ∷ 2 ∷ 2 ∷ 4 ∷ []) (sets (4 ∷ []) ∷ sets (5 ∷ []) ∷ []))
    ≡ Ok ((lane 64 0 9 ∷ []) ∷ (lane 65 0 9 ∷ []) ∷ (lane 0 0 1 ∷ []) ∷ (lane 0 1 1 ∷ []) ∷ (lane 0 2 2 ∷ []) ∷ (lane 0 4 2 ∷ []) ∷ (lane 1 0 4 ∷ []) ∷ [])
two_fields_one_word = refl

-- where one action sets both, b goes to word 1
written_together : packing (program (9 ∷ 9 ∷ 1 ∷ 1 ∷ 2 ∷ 2 ∷ 4 ∷ []) (sets (4 ∷ 5 ∷ []) ∷ []))
    ≡ Ok ((lane 64 0 9 ∷ []) ∷ (lane 65 0 9 ∷ []) ∷ (lane 0 0 1 ∷ []) ∷ (lane 0 1 1 ∷ []) ∷ (lane 0 2 2 ∷ []) ∷ (lane 1 0 2 ∷ []) ∷ (lane 0 4 4 ∷ []) ∷ [])
written_together = refl

-- 70 bits stand in two words of 32 and share one of 8; the rest of 40 bits stands beside them
shared_rest : packing (program (70 ∷ 1 ∷ 34 ∷ []) [])
    ≡ Ok ((lane 160 0 32 ∷ lane 161 0 32 ∷ lane 0 0 6 ∷ []) ∷ (lane 0 6 1 ∷ []) ∷ (lane 162 0 32 ∷ lane 1 0 2 ∷ []) ∷ [])
shared_rest = refl

-- words that are taken whole, by fields that nothing writes
abbrev full_words : ℕ → ℕ → ℕ → List Piece
full_words first count len = pieces_at 0 (map (λ word. lane word 0 len) (range_with_len first count))

-- a piece of 1 bit that finds no word of 8 stands in one of 16
next_class : places_from (program [] []) 7 (full_words 0 64 8) (field 1 ∷ []) ≡ Ok ((lane 64 0 1 ∷ []) ∷ [])
next_class = refl

-- 64 pieces of 32 bits fill the words of 32, and the next finds none
full : places_from (program [] []) 7 (full_words 160 64 32) (field 8 ∷ field 32 ∷ []) ≡ Err (At 8 32)
full = refl

-- a piece of 9 bits that finds no word tells the class of 16
full_16 : places_from (program [] []) 7 (full_words 64 160 9 ++ full_words 160 64 20) (field 9 ∷ []) ≡ Err (At 7 16)
full_16 = refl

-- five fields of the smallest program and metadata of 65 times 32 bits: the last one finds no word
other_limits : packing (program (9 ∷ 9 ∷ 1 ∷ 1 ∷ 8 ∷ replicate 65 32) []) ≡ Err (At 69 32)
other_limits = refl
