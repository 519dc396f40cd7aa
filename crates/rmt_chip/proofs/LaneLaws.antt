-- The lanes of a header, one after another.
use Rattle.std.proofs.Common.{◌≡◌, ℕ, ◌+◌, ◌-◌, ◌*◌, ◌/◌, ◌%◌, ◌^◌, ◌<◌, ◌≤◌, List, length, get_or, take, sym, ap, ◌∙◌, arith}
use Rattle.std.specs.List.{sum_by}
use Rattle.std.proofs.lemmas.List.Sums.{sum_by_more, sum_by-take-le, sum-map, fold_more}
use Rattle.std.proofs.lemmas.Nat.{pow_pos, pow-add, shr_high, mod_low}
use Rattle.rmt_bits.specs.Bits.{deposit}
use Rattle.rmt_bits.specs.declared.lane.Lane.{Lane}
use Rattle.rmt_config.specs.LaneForm.{bits_of_lanes}
use Rattle.rmt_config.specs.Life.{Words, lane_of, key_of}

bits_sum : (lanes : List Lane) → bits_of_lanes lanes ≡ sum_by (λ (l : Lane). l.len) lanes
bits_sum lanes = sum-map (λ (l : Lane). l.len) lanes

pub bits_of_lanes_more : (lanes : List Lane) (i : ℕ) (d : Lane) → i < length lanes → bits_of_lanes (take (i + 1) lanes) ≡ bits_of_lanes (take i lanes) + (get_or lanes i d).len
bits_of_lanes_more lanes i d h =
    bits_sum (take (i + 1) lanes) ∙ sum_by_more (λ (l : Lane). l.len) lanes i d h ∙ ap (λ n. n + (get_or lanes i d).len) (sym (bits_sum (take i lanes)))

pub bits_of_lanes-le : (lanes : List Lane) (i : ℕ) → bits_of_lanes (take i lanes) ≤ bits_of_lanes lanes
bits_of_lanes-le lanes i = let a = bits_sum (take i lanes) in let b = bits_sum lanes in let c = sum_by-take-le (λ (l : Lane). l.len) lanes i in omega arith

pub key_of_more : (words : Words) (lanes : List Lane) (i : ℕ) (d : Lane) → i < length lanes
    → key_of words (take (i + 1) lanes) ≡ 2 ^ (get_or lanes i d).len * key_of words (take i lanes) + lane_of words (get_or lanes i d)
key_of_more words lanes i d h = fold_more (λ n (lane : Lane). 2 ^ lane.len * n + lane_of words lane) 0 lanes i d h

-- a deposit below the bits so far
pub deposit_below : (n k low len x : ℕ) → n ≡ k * 2 ^ (low + len) → x < 2 ^ len → deposit n low len x ≡ (2 ^ len * k + x) * 2 ^ low
deposit_below n k low len x e h =
    let split : 2 ^ (low + len) ≡ 2 ^ low * 2 ^ len = pow-add 2 low len in
    let whole : n ≡ k * 2 ^ (low + len) + 0 = omega (arith, e) in
    let high : n / 2 ^ (low + len) ≡ k = ap (λ m. m / 2 ^ (low + len)) whole ∙ shr_high k (low + len) 0 (pow_pos (low + len)) in
    let again : n ≡ k * 2 ^ len * 2 ^ low + 0 = e ∙ (let m : k * 2 ^ (low + len) ≡ k * 2 ^ len * 2 ^ low + 0 = rw split (omega arith) in m) in
    let rest : n % 2 ^ low ≡ 0 = ap (λ m. m % 2 ^ low) again ∙ mod_low (k * 2 ^ len) low 0 (pow_pos low) in
    rw (high, rest, split) (omega arith)

-- one more piece in a header's bytes
pub filled_more : (n n' k at len x size : ℕ) → n ≡ k * 2 ^ (size - at) → at + len ≤ size → x < 2 ^ len → n' ≡ deposit n (size - (at + len)) len x
    → n' ≡ (2 ^ len * k + x) * 2 ^ (size - (at + len))
filled_more n n' k at len x size was within small put =
    let low = size - (at + len) in
    let split : size - at ≡ low + len = omega arith in
    put ∙ deposit_below n k low len x (was ∙ ap (λ m. k * 2 ^ m) split) small
