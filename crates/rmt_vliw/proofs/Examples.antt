-- Actions that are folded and carried out by hand.
use Rattle.std.proofs.Common.{◌≡◌, ℕ, ◌+◌, ◌*◌, ◌^◌, List, [], ◌∷◌, Ok, Err, refl}
use Rattle.rmt_bits.specs.declared.lane.Lane.{Lane}
use Rattle.rmt_vliw.specs.Types.{Assign, Expr, Operation}
use Rattle.rmt_ast.specs.declared.program.Expr.TheVariants.{One, Two}
use Rattle.rmt_ast.specs.declared.program.Leaf.TheVariants as leaf
use Rattle.rmt_ast.specs.declared.program.Op.TheVariants.{Add, Sub, Or, Xor}
use Rattle.rmt_ast.proofs.Programs.{action}
use Rattle.rmt_config.specs.declared.config.OpKind.TheVariants as kind
use Rattle.rmt_config.specs.declared.config.Source.TheVariants.{Word, Held, Constant}
use Rattle.rmt_config.specs.Life.{Words}
use Rattle.rmt_vliw.specs.Folding.{folded_of, folded_or_fault}
use Rattle.rmt_vliw.specs.declared.fault.ActionDeep.TheVariants.{At}
use Rattle.rmt_vliw.specs.Operations.{operations_of, given}
use Rattle.rmt_config.specs.Effects.{held_by, words_after}

abbrev to : ℕ → Expr → Assign
to f e = record { dest = f; expr = e }

abbrev lane : ℕ → ℕ → ℕ → Lane
lane word low len = record { word = word; low = low; len = len }

-- h.a = h.a + h.b; h.b = h.a + h.c: the value of field 5 is h.a + h.b + h.c
too_deep : folded_or_fault 7 (folded_of (action [] [] (to 4 (Two Add (leaf.Field 4) (leaf.Field 5)) ∷ to 5 (Two Add (leaf.Field 4) (leaf.Field 6)) ∷ []))) ≡ Err (At 7 5)
too_deep = refl

-- h.a = h.b; h.b = h.a: both are the old h.b
assignments_in_order : folded_of (action [] [] (to 4 (One (leaf.Field 5)) ∷ to 5 (One (leaf.Field 4)) ∷ []))
    ≡ Ok (record { params = []; values = to 4 (One (leaf.Field 5)) ∷ to 5 (One (leaf.Field 5)) ∷ [] })
assignments_in_order = refl

-- a field that is written twice has its last value, at the place of its first assignment; that the first one was deep doesn't count
written_twice : folded_of (action [] (8 ∷ []) (to 4 (Two Add (leaf.Field 4) (leaf.Field 5)) ∷ to 4 (Two Add (leaf.Field 4) (leaf.Param 0)) ∷ to 5 (One (leaf.Number 3)) ∷ to 4 (Two Xor (leaf.Field 5) (leaf.Param 0)) ∷ []))
    ≡ Ok (record { params = 8 ∷ []; values = to 4 (Two Xor (leaf.Number 3) (leaf.Param 0)) ∷ to 5 (One (leaf.Number 3)) ∷ [] })
written_twice = refl

-- nothing is simplified: 1 + 2, then that and 0
not_simplified : folded_of (action [] [] (to 4 (Two Add (leaf.Number 1) (leaf.Number 2)) ∷ to 4 (Two Or (leaf.Field 4) (leaf.Number 0)) ∷ [])) ≡ Err 4
not_simplified = refl

-- meta.x = h.a; h.a = h.b; h.b = meta.x: a swap through metadata
swapped : folded_of (action [] [] (to 6 (One (leaf.Field 4)) ∷ to 4 (One (leaf.Field 5)) ∷ to 5 (One (leaf.Field 6)) ∷ []))
    ≡ Ok (record { params = []; values = to 6 (One (leaf.Field 4)) ∷ to 4 (One (leaf.Field 5)) ∷ to 5 (One (leaf.Field 4)) ∷ [] })
swapped = refl

-- two fields of 128 bits in words of 32, and one of 70 bits
abbrev places : List (List Lane)
places =
    (lane 160 0 32 ∷ lane 161 0 32 ∷ lane 162 0 32 ∷ lane 163 0 32 ∷ [])
    ∷ (lane 164 0 32 ∷ lane 165 0 32 ∷ lane 166 0 32 ∷ lane 167 0 32 ∷ [])
    ∷ (lane 168 0 32 ∷ lane 169 0 32 ∷ lane 0 2 6 ∷ [])
    ∷ []

abbrev copy : ℕ → ℕ → Operation
copy word from = record { word = word; low = 0; len = 32; kind = kind.Copy; left = Word from 0; right = Constant 0 }

-- field 0 = field 1: four pieces
copied_128 : operations_of places [] (to 0 (One (leaf.Field 1)) ∷ []) ≡ copy 160 164 ∷ copy 161 165 ∷ copy 162 166 ∷ copy 163 167 ∷ []
copied_128 = refl

-- field 2 = field 2 ^ a parameter that lies behind one of 9 bits
of_parameter : operations_of places (9 ∷ 70 ∷ []) (to 2 (Two Xor (leaf.Field 2) (leaf.Param 1)) ∷ [])
    ≡ record { word = 168; low = 0; len = 32; kind = kind.Xor; left = Word 168 0; right = Held 9 }
    ∷ record { word = 169; low = 0; len = 32; kind = kind.Xor; left = Word 169 0; right = Held 41 }
    ∷ record { word = 0; low = 2; len = 6; kind = kind.Xor; left = Word 0 2; right = Held 73 }
    ∷ []
of_parameter = refl

-- the default of the same with its argument, cut to its pieces
of_argument : operations_of places (9 ∷ 70 ∷ []) (given (3 ∷ (5 * 2 ^ 64 + 7 * 2 ^ 32 + 11) ∷ []) (to 2 (Two Xor (leaf.Field 2) (leaf.Param 1))) ∷ [])
    ≡ record { word = 168; low = 0; len = 32; kind = kind.Xor; left = Word 168 0; right = Constant 11 }
    ∷ record { word = 169; low = 0; len = 32; kind = kind.Xor; left = Word 169 0; right = Constant 7 }
    ∷ record { word = 0; low = 2; len = 6; kind = kind.Xor; left = Word 0 2; right = Constant 5 }
    ∷ []
of_argument = refl

-- word 0 has 27 in its low 5 bits beside the field's 6 from bit 2 on: its two lowest bits stay
abbrev words : Words
words w = w + 3

held_after : held_by (words_after (operations_of places [] (given (3 ∷ (5 * 2 ^ 64 + 7 * 2 ^ 32 + 11) ∷ []) (to 2 (One (leaf.Param 1))) ∷ [])) 0 words) (lane 168 0 32 ∷ lane 169 0 32 ∷ lane 0 2 6 ∷ []) ≡ 5 * 2 ^ 64 + 7 * 2 ^ 32 + 11
held_after = refl

low_bits_stay : words_after (operations_of places [] (to 2 (One (leaf.Number (5 * 2 ^ 64))) ∷ [])) 0 words 0 ≡ 5 * 4 + 3
low_bits_stay = refl

-- both fields of a swap are read before either is written
swap_words : held_by (words_after (operations_of places [] (to 0 (One (leaf.Field 1)) ∷ to 1 (One (leaf.Field 0)) ∷ [])) 0 words) (lane 164 0 32 ∷ lane 165 0 32 ∷ []) ≡ 164 * 2 ^ 32 + 163
swap_words = refl

-- field 2 = field 2 ^ a parameter behind one of 9 bits, which is 13 * 2 ^ 64 + 6: words 168 and 169 hold 171 and 172, and bits 2 to 7 of word 0 hold 0
parameter_words : held_by (words_after (operations_of places (9 ∷ 70 ∷ []) (to 2 (Two Xor (leaf.Field 2) (leaf.Param 1)) ∷ [])) ((13 * 2 ^ 64 + 6) * 2 ^ 9 + 511) words) (lane 168 0 32 ∷ lane 169 0 32 ∷ lane 0 2 6 ∷ [])
    ≡ 13 * 2 ^ 64 + 172 * 2 ^ 32 + 173
parameter_words = refl

-- a field of 6 bits in the middle of a word of 8, which has 3 in it and 0 in the others: 3 - 5 is 62
narrow_difference : words_after (operations_of ((lane 0 1 6 ∷ []) ∷ []) [] (to 0 (Two Sub (leaf.Number 3) (leaf.Number 5)) ∷ [])) 0 words 0 ≡ 62 * 2 + 1
narrow_difference = refl
