-- Laws of numbers as bytes, the highest first.
use Rattle.std.proofs.Common.{ℕ, ◌*◌, ◌^◌, ◌<◌, ◌≤◌, List, length, take, arith}
use Rattle.std.proofs.lemmas.List.{length-take}
use Rattle.std.proofs.Math.Pow.{pow_mono}
use Rattle.rmt_bits.specs.Bits.{number_of}
use Rattle.rmt_bits.proofs.ByteLaws.{AreBytes, number_of-lt, AreBytes-take}

-- fewer than 14 bytes are a number of fewer than 13 * 8 bits
pub front-lt : (bytes : List ℕ) (i : ℕ) → AreBytes bytes → i ≤ 13 → number_of (take i bytes) < 2 ^ 104
front-lt bytes i fits le =
    let short : length (take i bytes) ≤ 13 = omega (arith, length-take i bytes) in
    let lt = number_of-lt (take i bytes) (AreBytes-take i bytes fits) in
    let top = pow_mono (let few : 8 * length (take i bytes) ≤ 104 = omega arith in few) in
    omega (arith, lt, top)
