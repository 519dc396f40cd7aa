-- The bytes of headers with their tails, one after another.
use Rattle.std.proofs.Common.{◌≡◌, ℕ, zero, suc, ◌+◌, ◌<◌, ◌≤◌, Bool, true, false, cond, eqb, List, [], ◌∷◌, ◌++◌, length, get_or, take, refl, sym, ap, ◌∙◌, append_assoc, arith}
use Rattle.std.proofs.lemmas.List.{length-append, length-take, append-nil}
use Rattle.rmt_bits.specs.Bits.{bytes_of}
use Rattle.rmt_bits.proofs.ByteLaws.{length-bytes_of}
use Rattle.rmt_chip.specs.Types.{OutHeader}
use Rattle.rmt_config.specs.Life.{Words, lane_of, key_of}
use Rattle.rmt_config.specs.ChipRun.{header_bytes}
use Rattle.rmt_chip.specs.Leaving.{headers_sent}

more : (words : Words) (headers : List OutHeader) (tails : List (List ℕ)) (n : ℕ) (d : OutHeader) → n < length headers → n < length tails
    → headers_sent words (take (suc n) headers) (take (suc n) tails) ≡ headers_sent words (take n headers) (take n tails) ++ header_bytes words (get_or headers n d) (get_or tails n [])
more words [] tails n d h t = absurd (omega (arith, h))
more words (x ∷ hs) [] n d h t = absurd (omega (arith, t))
more words (x ∷ hs) (y ∷ ts) zero d h t = append-nil (header_bytes words x y)
more words (x ∷ hs) (y ∷ ts) (suc n) d h t =
    ap (λ (rest : List ℕ). header_bytes words x y ++ rest) (more words hs ts n d (omega (arith, h)) (omega (arith, t)))
    ∙ sym (append_assoc (header_bytes words x y) (headers_sent words (take n hs) (take n ts)) (header_bytes words (get_or hs n d) (get_or ts n [])))

pub sent_more : (words : Words) (headers : List OutHeader) (tails : List (List ℕ)) (n : ℕ) (d : OutHeader) → n < length headers → n < length tails
    → headers_sent words (take (n + 1) headers) (take (n + 1) tails) ≡ headers_sent words (take n headers) (take n tails) ++ header_bytes words (get_or headers n d) (get_or tails n [])
sent_more words headers tails n d h t =
    let next : n + 1 ≡ suc n = omega arith in
    ap (λ m. headers_sent words (take m headers) (take m tails)) next ∙ more words headers tails n d h t

-- tails past the last header are left out
pub sent_short : (words : Words) (headers : List OutHeader) (tails : List (List ℕ)) (n : ℕ) → length headers ≤ n → headers_sent words headers (take n tails) ≡ headers_sent words headers tails
sent_short words [] tails n h = refl
sent_short words (x ∷ hs) [] zero h = refl
sent_short words (x ∷ hs) [] (suc n) h = refl
sent_short words (x ∷ hs) (y ∷ ts) zero h = absurd (omega (arith, h))
sent_short words (x ∷ hs) (y ∷ ts) (suc n) h = ap (λ (rest : List ℕ). header_bytes words x y ++ rest) (sent_short words hs ts n (omega (arith, h)))

if_sent : (b : Bool) (xs : List ℕ) → length (cond b xs []) ≤ length xs
if_sent true xs = omega arith
if_sent false xs = omega arith

-- a header with a tail that was taken from a frame
pub header_bytes-le : (words : Words) (h : OutHeader) (tail : List ℕ) (n : ℕ) → length tail ≤ n → length (header_bytes words h tail) ≤ h.bytes + n
header_bytes-le words h tail n short =
    let all = if_sent (eqb (lane_of words h.valid) 1) (bytes_of h.bytes (key_of words h.pieces) ++ tail) in
    let parts = length-append (bytes_of h.bytes (key_of words h.pieces)) tail in
    let size = length-bytes_of h.bytes (key_of words h.pieces) in
    omega (arith, all, parts, size, short)

pub length-taken : (n : ℕ) (xs : List ℕ) → length (take n xs) ≤ n
length-taken n xs = let e = length-take n xs in omega (arith, e)
