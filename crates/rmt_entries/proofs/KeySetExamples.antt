-- Where a set of lists of numbers has a list, worked out.
use Rattle.std.proofs.Common.{◌≡◌, ℕ, ◌^◌, ◌+◌, true, false, List, [], ◌∷◌, ◌++◌, Vec, replicate, refl}
use Rattle.std.specs.Global.{Global}
use Rattle.std.specs.BTreeSet.{BTreeSet}
use Rattle.rmt_entries.specs.declared.key_set.Spot.TheVariants.{Free, Held, Crowded}
use Rattle.rmt_entries.specs.KeySets.{home, is_at, is_near, is_there, list_at, mixed, near, place_of, spot_in, spot_of, spread}

-- prints, and the places that they say
prints : (spread (2 ^ 32) ≡ 4294967297) × (mixed 0 1 ≡ 1) × (mixed 0 21 ≡ 3997430041347992693) × (mixed 0 (2 ^ 64 + 1) ≡ 16390740472144878273)
prints = (refl, refl, refl, refl)

places : (place_of 1000 [] ≡ 0) × (place_of 1000 (5 ∷ []) ≡ 5) × (place_of 1000 (6 ∷ []) ≡ 6) × (place_of 1000 (20 ∷ []) ≡ 875)
places = (refl, refl, refl, refl)

-- two lists behind their lengths, (7, 8) and (9)
held : List ℕ
held = 2 ∷ 7 ∷ 8 ∷ 1 ∷ 9 ∷ []

-- slots: each list may stand at the first and those that are sixteen apart; the second has (9), and the one sixteen behind (7, 8)
slots : List ℕ
slots = 0 ∷ 4 ∷ replicate 15 0 ++ 1 ∷ replicate 111 0

lists : (list_at held 0 ≡ 7 ∷ 8 ∷ []) × (list_at held 3 ≡ 9 ∷ [])
unfolding held
lists = (refl, refl)

at_slots : (is_at held 1 (7 ∷ 8 ∷ []) ≡ true) × (is_at held 4 (7 ∷ 8 ∷ []) ≡ false) × (is_at held 0 (7 ∷ 8 ∷ []) ≡ false)
unfolding held
at_slots = (refl, refl, refl)

one_home : home slots (7 ∷ 8 ∷ []) ≡ 0
unfolding slots
one_home = refl

near_one : (is_near slots held near 1 (7 ∷ 8 ∷ []) ≡ true) × (is_near slots held 1 1 (7 ∷ 8 ∷ []) ≡ false)
unfolding slots held is_near
near_one = (refl, refl)

spots : (spot_of slots held near 0 (9 ∷ []) ≡ Free 0) × (spot_of slots held 2 1 (9 ∷ []) ≡ Held) × (spot_of slots held 2 1 (7 ∷ 8 ∷ []) ≡ Held)
    × (spot_of slots held 2 1 (5 ∷ []) ≡ Crowded) × (spot_of slots held 3 1 (5 ∷ []) ≡ Free 33)
unfolding slots held spot_of
spots = (refl, refl, refl, refl, refl)

there : (is_there true (Free 3) ≡ false) × (is_there false Held ≡ true) × (is_there true Crowded ≡ true) × (is_there false Crowded ≡ false)
there = (refl, refl, refl, refl)

spot_of_one : (crowded : BTreeSet (Vec ℕ Global)) → spot_in (slots, (held, crowded)) (9 ∷ []) ≡ Free 0
unfolding slots held spot_of
spot_of_one crowded = refl
