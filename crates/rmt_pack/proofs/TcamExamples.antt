-- Ternary keys that are worked by hand.
use Rattle.std.proofs.Common.{◌≡◌, [], ◌∷◌, refl}
use Rattle.rmt_config.specs.Rooms.{side_by_side}
use Rattle.rmt_pack.specs.Tcam.{joined_words}

-- fields of 8 and 4 bits: the first is higher
two_fields : side_by_side (8 ∷ 4 ∷ []) (0xab ∷ 0x5 ∷ []) ≡ 0xab5
two_fields = refl

-- a key of 88 bits lies in three words of 40, the lowest first
three_words : joined_words (0x6677889900 ∷ 0x1122334455 ∷ 0xab ∷ []) ≡ side_by_side (8 ∷ 80 ∷ []) (0xab ∷ 0x11223344556677889900 ∷ [])
three_words = refl
