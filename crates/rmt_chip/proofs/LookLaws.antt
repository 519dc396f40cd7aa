-- What the units of a stage read.
use Rattle.std.proofs.Common.{◌≡◌, ℕ, ◌+◌, ◌*◌, ◌/◌, ◌^◌, ◌<◌, ◌≤◌, ◌≢◌, List, [], ◌∷◌, length, get_or, set, inl, inr, sym, ap, subst, ◌∙◌, arith}
use Rattle.std.specs.Prelude.{fold}
use Rattle.std.proofs.Math.Nat.{mod-lt, mul-le-mul_left}
use Rattle.std.proofs.lemmas.Bool.{cases_eq}
use Rattle.std.proofs.lemmas.List.{length-set, get_or-set_same, get_or-set_other, get_or_default}
use Rattle.std.proofs.lemmas.List.Sums.{sum_by-cons, sum-map}
use Rattle.std.proofs.lemmas.Nat.{pow_pos, pow-add}
use Rattle.rmt_bits.specs.declared.lane.Lane.{Lane}
use Rattle.rmt_chip.specs.Types.{Stage, Unit}
use Rattle.rmt_config.specs.LaneForm.{bits_of_lanes}
use Rattle.rmt_config.specs.Life.{Look, Words, lane_of, key_of}
use Rattle.rmt_memory.specs.declared.looked.Looked.{Looked}
use Rattle.rmt_memory.specs.Looked.{HasRoom, HaveRoom, LookedFor}

-- a key has no more bits than its lanes
joined : (n x b len : ℕ) → n < 2 ^ b → x < 2 ^ len → 2 ^ len * n + x < 2 ^ (b + len)
joined n x b len low small =
    let split : 2 ^ (b + len) ≡ 2 ^ b * 2 ^ len = pow-add 2 b len in
    let more : 2 ^ len * (n + 1) ≤ 2 ^ len * 2 ^ b = mul-le-mul_left (2 ^ len) (omega arith) in
    omega arith

key_from : (words : Words) (lanes : List Lane) (n b : ℕ) → n < 2 ^ b
    → fold (λ m (lane : Lane). 2 ^ lane.len * m + lane_of words lane) n lanes < 2 ^ (b + bits_of_lanes lanes)
key_from words [] n b low = let same : b + bits_of_lanes [] ≡ b = omega arith in rw same low
key_from words (lane ∷ lanes) n b low =
    let size : bits_of_lanes (lane ∷ lanes) ≡ lane.len + bits_of_lanes lanes =
    sum-map (λ (l : Lane). l.len) (lane ∷ lanes) ∙ sum_by-cons (λ (l : Lane). l.len) lane lanes ∙ ap (λ (m : ℕ). lane.len + m) (sym (sum-map (λ (l : Lane). l.len) lanes)) in
    let all : b + lane.len + bits_of_lanes lanes ≡ b + bits_of_lanes (lane ∷ lanes) = omega arith in
    let next = key_from words lanes (2 ^ lane.len * n + lane_of words lane) (b + lane.len) (joined n (lane_of words lane) b lane.len low (mod-lt (words lane.word / 2 ^ lane.low) (pow_pos lane.len))) in
    subst (λ (m : ℕ). fold (λ k (l : Lane). 2 ^ l.len * k + lane_of words l) (2 ^ lane.len * n + lane_of words lane) lanes < 2 ^ m) all next

pub key_of-lt : (words : Words) (lanes : List Lane) → key_of words lanes < 2 ^ bits_of_lanes lanes
key_of-lt words lanes =
    let least : 0 < 2 ^ 0 = omega arith in
    let none : 0 + bits_of_lanes lanes ≡ bits_of_lanes lanes = omega arith in
    subst (λ (m : ℕ). key_of words lanes < 2 ^ m) none (key_from words lanes 0 0 least)

-- ---- lists of what is read

-- what holds of every item but one, and of what is put in its place
pub set_each : (P : ℕ → Looked → Type 0) (xs : List Looked) (i : ℕ) (new : Looked) (n : ℕ) → i < length xs → P i new → ((j : ℕ) (d : Looked) → j < n → j ≢ i → P j (get_or xs j d))
    → (j : ℕ) (d : Looked) → j < n → P j (get_or (set xs i new) j d)
set_each P xs i new n inside here others j d lt =
    elim (cases_eq j i) [
      | inl same ↦ subst (λ (m : ℕ). P m (get_or (set xs i new) m d)) (sym same) (subst (P i) (sym (get_or-set_same xs i new d inside)) here)
      | inr apart ↦ subst (P j) (sym (get_or-set_other xs i j new d apart)) (others j d lt apart)
    ]

-- one more unit has read
pub room_kept : (stage : Stage) (xs : List Looked) (i : ℕ) (new : Looked) (u : Unit) → i < length stage.units → HasRoom (get_or stage.units i u) new → HaveRoom stage xs → HaveRoom stage (set xs i new)
room_kept stage xs i new u inside here room =
    let within : i < length xs = subst (λ (m : ℕ). i < m) (sym room.all_units) inside in
    record {
      all_units = length-set xs i new ∙ room.all_units;
      each = λ j v d lt. set_each (λ (m : ℕ) (l : Looked). (w : Unit) → HasRoom (get_or stage.units m w) l) xs i new (length stage.units) within
          (λ w. subst (λ (x : Unit). HasRoom x new) (get_or_default stage.units i u w inside) here)
          (λ m e below apart w. room.each m w e below) j d lt v;
    }

pub looked_more : (look : Look) (k : ℕ) (words : Words) (units : List Unit) (xs : List Looked) (i : ℕ) (new : Looked) (u : Unit) → i < length units → i < length xs
    → LookedFor look k i words (get_or units i u) new
    → ((j : ℕ) (v : Unit) (d : Looked) → j < i → LookedFor look k j words (get_or units j v) (get_or xs j d))
    → (j : ℕ) (v : Unit) (d : Looked) → j < i + 1 → LookedFor look k j words (get_or units j v) (get_or (set xs i new) j d)
looked_more look k words units xs i new u inside within here before j v d lt =
    set_each (λ (m : ℕ) (l : Looked). (w : Unit) → LookedFor look k m words (get_or units m w) l) xs i new (i + 1) within
    (λ w. subst (λ (x : Unit). LookedFor look k i words x new) (get_or_default units i u w inside) here)
    (λ m e below apart w. before m w e (omega arith)) j d lt v
