-- Runs of bytes, of which one is written.
use Rattle.std.proofs.Common.{◌≡◌, ◌≢◌, ℕ, ◌+◌, ◌-◌, ◌*◌, ◌<◌, ◌≤◌, List, [], ◌∷◌, ◌++◌, length, get_or, take, drop, set, sym, refl, ap, ◌∙◌, arith, inl, inr}
use Rattle.std.proofs.lemmas.Bool.{cases_lt}
use Rattle.std.proofs.lemmas.List.{drop-take, take_all, get_or-take, get_or-drop, get_or-set_same, get_or-set_other, ext_get_or, length-set, length-take, length-drop}
use Rattle.std.proofs.lemmas.Nat.{mul-le}
use Rattle.std.proofs.lemmas.Slice.{take-put_mid, take-put_mid_below, drop-put_mid, between-put_mid}
use borrow.Rule.Slice.PartMut.{put_mid, same_len_mid, mid_of}

-- one part behind the first byte
pub part_size : (head : ℕ) (first xs : List ℕ) (k : ℕ) → 1 + length first ≤ length xs → k ≡ length first → length (put_mid 1 k (set xs 0 head) first) ≡ length xs
part_size head first [] k fits is = absurd (omega (arith, fits))
part_size head first (x ∷ xs) k fits is =
    same_len_mid 1 k (head ∷ xs) first (let t = length-take k xs in omega (arith, t, is, fits))

-- one byte and two parts behind it, written over a list that has as many
pub filled : (head : ℕ) (first second xs : List ℕ) (k k' : ℕ) → length xs ≡ 1 + length first + length second → k ≡ length first → k' ≡ length second
    → put_mid (1 + length first) k' (put_mid 1 k (set xs 0 head) first) second ≡ head ∷ (first ++ second)
filled head first second [] k k' size one two = absurd (omega (arith, size))
filled head first second (x ∷ xs) k k' size one two =
    let a = length first in
    let ys : List ℕ = head ∷ xs in
    let inner = put_mid 1 k ys first in
    let inner_size : length inner ≡ 1 + a + length second = part_size head first (x ∷ xs) k (omega (arith, size)) one ∙ size in
    let mid' : length second ≡ length (mid_of (1 + a) k' inner) = (let t = length-take k' (drop (1 + a) inner) in let d = length-drop (1 + a) inner in omega (arith, t, d, two, inner_size)) in
    let all = put_mid (1 + a) k' inner second in
    let all_size : length all ≡ 1 + a + length second = same_len_mid (1 + a) k' inner second mid' ∙ inner_size in
    sym (take_all (1 + a + length second) all (omega (arith, all_size)))
    ∙ take-put_mid (1 + a) k' inner second (1 + a + length second) refl (omega (arith, inner_size))
    ∙ ap (λ (zs : List ℕ). zs ++ second) (take-put_mid 1 k ys first (1 + a) refl (omega arith))

module _ (size : ℕ) (old run : List ℕ) (at k : ℕ) (is : k ≡ size) (whole : length run ≡ size) (fits : at * size + size ≤ length old) where
  abbrev new : List ℕ
  new = put_mid (at * size) k old run

  pub written-size : length new ≡ length old
  written-size =
      let mid : length run ≡ length (mid_of (at * size) k old) = (let t = length-take k (drop (at * size) old) in let d = length-drop (at * size) old in omega (arith, t, d, is, whole, fits)) in
      same_len_mid (at * size) k old run mid

  pub written-own : take size (drop (at * size) new) ≡ run
  written-own =
      let same : at * size + size - at * size ≡ size = omega arith in
      ap (λ n. take n (drop (at * size) new)) (sym same)
      ∙ between-put_mid (at * size) k old run (at * size + size) (omega (arith, fits)) (omega (arith, whole))

  pub written-other : (n : ℕ) → n ≢ at → take size (drop (n * size) new) ≡ take size (drop (n * size) old)
  written-other n other =
      elim (cases_lt n at) as (λ _. take size (drop (n * size) new) ≡ take size (drop (n * size) old)) [
        | inl less ↦
            let next : (n + 1) * size ≡ n * size + size = omega arith in
            let most : (n + 1) * size ≤ at * size = mul-le (n + 1) size at size (omega (arith, less)) (omega arith) in
            sym (drop-take (n * size) size new)
            ∙ ap (drop (n * size)) (take-put_mid_below (at * size) k old run (n * size + size) (omega (arith, next, most)) (omega (arith, fits)))
            ∙ drop-take (n * size) size old
        | inr more ↦
            let next : (at + 1) * size ≡ at * size + size = omega arith in
            let most : (at + 1) * size ≤ n * size = mul-le (at + 1) size n size (let lt : at < n = omega (arith, more, other) in omega (arith, lt)) (omega arith) in
            ap (take size) (drop-put_mid (at * size) k old run (n * size) (omega (arith, next, most, is)) (omega (arith, fits)) (omega (arith, whole, is)))
      ]

-- the first byte of a run is another
module _ (size : ℕ) (old : List ℕ) (at x : ℕ) (some : 0 < size) where
  abbrev put : List ℕ
  put = set old (at * size) x

  pub head-own : at * size < length old → get_or (take size (drop (at * size) put)) 0 0 ≡ x
  head-own there =
      let none : at * size + 0 ≡ at * size = omega arith in
      get_or-take size (drop (at * size) put) 0 0 some ∙ get_or-drop (at * size) put 0 0
      ∙ ap (λ n. get_or put n 0) none ∙ get_or-set_same old (at * size) x 0 there

  pub head-other : (n : ℕ) → n ≢ at → take size (drop (n * size) put) ≡ take size (drop (n * size) old)
  head-other n other =
      let all = length-take size (drop (n * size) put) in
      let all' = length-take size (drop (n * size) old) in
      let rest = length-drop (n * size) put in
      let rest' = length-drop (n * size) old in
      let same = length-set old (at * size) x in
      ext_get_or 0 (take size (drop (n * size) put)) (take size (drop (n * size) old)) (omega (arith, all, all', rest, rest', same))
      (λ k lt.
      let inside : k < size = omega (arith, lt, all) in
      get_or-take size (drop (n * size) put) k 0 inside ∙ get_or-drop (n * size) put k 0
      ∙ get_or-set_other old (at * size) (n * size + k) x 0 (apart n k other inside)
      ∙ sym (get_or-take size (drop (n * size) old) k 0 inside ∙ get_or-drop (n * size) old k 0))
    where
      apart : (n k : ℕ) → n ≢ at → k < size → n * size + k ≢ at * size
      apart n k ne inside e =
          elim (cases_lt n at) as (λ _. ⊥) [
            | inl less ↦
                let next : (n + 1) * size ≡ n * size + size = omega arith in
                let most : (n + 1) * size ≤ at * size = mul-le (n + 1) size at size (omega (arith, less)) (omega arith) in
                omega (arith, next, most, inside, e)
            | inr more ↦
                let lt : at < n = omega (arith, more, ne) in
                let next : (at + 1) * size ≡ at * size + size = omega arith in
                let most : (at + 1) * size ≤ n * size = mul-le (at + 1) size n size (omega (arith, lt)) (omega arith) in
                omega (arith, next, most, e, some)
          ]
