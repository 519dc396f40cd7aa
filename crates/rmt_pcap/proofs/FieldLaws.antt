-- Laws of numbers in a file.
use Rattle.std.proofs.Common.{◌≡◌, ℕ, ◌+◌, ◌*◌, ◌^◌, ◌≤◌, Bool, true, false, cond, List, ◌++◌, length, take, drop, ap, ◌∙◌, arith}
use Rattle.std.specs.Prelude.{reverse}
use Rattle.std.proofs.Math.Seq.{take-add}
use Rattle.std.proofs.lemmas.List.{drop-drop, length-drop, length-take-le, length-reverse, reverse-append, take-append-le, drop-append-le}
use Rattle.rmt_bits.specs.Bits.{number_of}
use Rattle.rmt_bits.proofs.ByteLaws.{number_of-append}
use Rattle.rmt_pcap.specs.Captures.{field, in_order}

-- how many bytes a field has
field_size : (at count : ℕ) (bytes : List ℕ) → at + count ≤ length bytes → length (take count (drop at bytes)) ≡ count
field_size at count bytes within = length-take-le count (drop at bytes) (omega (arith, length-drop at bytes))

-- two runs of two bytes as one number
joined : (front back : List ℕ) → length back ≡ 2 → number_of (front ++ back) ≡ 65536 * number_of front + number_of back
joined front back two =
    let e = number_of-append front back in
    let p : 2 ^ (8 * length back) ≡ 65536 = ap (λ k. 2 ^ (8 * k)) two in
    e ∙ ap (λ k. number_of front * k + number_of back) p ∙ (let q : number_of front * 65536 + number_of back ≡ 65536 * number_of front + number_of back = omega arith in q)

-- a number of four bytes by its halves
pub field_four : (big : Bool) (at : ℕ) (bytes : List ℕ) → at + 4 ≤ length bytes
    → field big at 4 bytes ≡ cond big (65536 * field big at 2 bytes + field big (at + 2) 2 bytes) (65536 * field big (at + 2) 2 bytes + field big at 2 bytes)
field_four big at bytes within =
    let a = take 2 (drop at bytes) in
    let b = take 2 (drop (at + 2) bytes) in
    let whole : take 4 (drop at bytes) ≡ a ++ b = take-add 2 2 (drop at bytes) ∙ ap (λ (ys : List ℕ). a ++ take 2 ys) (drop-drop 2 at bytes) in
    let la : length a ≡ 2 = field_size at 2 bytes (omega arith) in
    let lb : length b ≡ 2 = field_size (at + 2) 2 bytes (omega arith) in
    elim big as (λ v. number_of (in_order v (take 4 (drop at bytes))) ≡ cond v (65536 * number_of (in_order v a) + number_of (in_order v b)) (65536 * number_of (in_order v b) + number_of (in_order v a))) [
      | true ↦ ap number_of whole ∙ joined a b lb
      | false ↦ ap (λ (ys : List ℕ). number_of (reverse ys)) whole ∙ ap number_of (reverse-append a b) ∙ joined (reverse b) (reverse a) (length-reverse a ∙ la)
    ]

-- a field that lies in the front of a file
pub field_front : (big : Bool) (at count : ℕ) (front back : List ℕ) → at + count ≤ length front → field big at count (front ++ back) ≡ field big at count front
field_front big at count front back within =
    let h : at ≤ length front = omega arith in
    let k : count ≤ length (drop at front) = omega (arith, length-drop at front) in
    ap (λ (ys : List ℕ). number_of (in_order big (take count ys))) (drop-append-le at front back h)
    ∙ ap (λ (ys : List ℕ). number_of (in_order big ys)) (take-append-le count (drop at front) back k)
