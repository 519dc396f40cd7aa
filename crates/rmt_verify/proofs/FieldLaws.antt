-- Numbers side by side, looked at one after another.
use Rattle.std.proofs.Common.{◌≡◌, ℕ, zero, suc, ◌+◌, ◌-◌, ◌*◌, ◌%◌, ◌^◌, ◌<◌, ◌≤◌, ◌==◌, ◌&&◌, Bool, true, false, List, [], ◌∷◌, length, get_or, take, drop, refl, sym, ap, ◌∙◌, subst, arith}
use Rattle.std.specs.Prelude.{sum}
use Rattle.std.specs.List.{AllZip}
use Rattle.std.proofs.lemmas.Bool.{both_ways, eq-eqb, ne_eqb}
use Rattle.std.proofs.lemmas.List.{drop_all}
use Rattle.std.proofs.lemmas.Slice.Zip.{AllZip-long}
use Rattle.std.proofs.lemmas.List.Sums.{sum_by-cons, sum_by-drop_more, sum_by_more}
use Rattle.std.proofs.lemmas.Nat.{mod-pow-add, pow_pos}
use Rattle.std.proofs.lemmas.Nat.{mod_below}
use Rattle.std.proofs.Math.Nat.{mod-eq_of_lt}
use Rattle.rmt_bits.proofs.BitLaws.{parts-lt}
use Rattle.rmt_bits.specs.Bits.{slice}
use Rattle.rmt_ast.specs.declared.program.Test.{Test}
use Rattle.rmt_ast.specs.WellFormed.{IsTest}
use Rattle.rmt_config.specs.Effects.{begin_of}
use Rattle.rmt_config.specs.Rooms.{mask_or_value, tests_as_one}
use Rattle.rmt_refine.proofs.KeyLaws.{block_eq}
use Rattle.rmt_pack.proofs.BesideLaws.{part_fits}
use Rattle.rmt_config.proofs.RiseLaws.{one_off}

-- ---- tests

abbrev pub one : Bool → List ℕ → List Test → ℕ
one m ws ts = tests_as_one (mask_or_value m) ws ts

pub one_lt : (m : Bool) (ws : List ℕ) (ts : List Test) → AllZip IsTest ws ts → one m ws ts < 2 ^ sum ws
one_lt m [] [] zip = omega arith
one_lt m [] (t ∷ ts) zip = absurd zip
one_lt m (w ∷ ws) [] zip = absurd zip
one_lt m (w ∷ ws) (t ∷ ts) zip =
    let size : sum (w ∷ ws) ≡ w + sum ws = sum_by-cons (λ n. n) w ws in
    let room : w + sum ws - sum ws ≡ w = omega arith in
    subst (λ k. mask_or_value m t * 2 ^ sum ws + one m ws ts < 2 ^ k) (sym size)
    (parts-lt (mask_or_value m t) (one m ws ts) (sum ws) (w + sum ws) (omega arith) (subst (λ k. mask_or_value m t < 2 ^ k) (sym room) (part_fits m w t zip.0)) (one_lt m ws ts zip.1))

zip_drop : {X Y : Type 0} (R : X → Y → Type 0) (xs : List X) (ys : List Y) (i : ℕ) → AllZip R xs ys → AllZip R (drop i xs) (drop i ys)
zip_drop R xs ys zero zip = zip
zip_drop R [] [] (suc i) zip = tt
zip_drop R [] (y ∷ ys) (suc i) zip = absurd zip
zip_drop R (x ∷ xs) [] (suc i) zip = absurd zip
zip_drop R (x ∷ xs) (y ∷ ys) (suc i) zip = zip_drop R xs ys i zip.1

-- what is left of a number is what is left of tests
abbrev pub left_of : Bool → List ℕ → List Test → ℕ → ℕ → Bool
left_of m ws ts n i = n % 2 ^ sum (drop i ws) == one m (drop i ws) (drop i ts)

module _ (m : Bool) (ws : List ℕ) (ts : List Test) (n : ℕ) (zip : AllZip IsTest ws ts) where
  abbrev rest : ℕ → ℕ
  rest i = sum (drop i ws)

  abbrev left : ℕ → Bool
  left i = left_of m ws ts n i

  pub tests_step : (i : ℕ) (d : Test) → i < length ts → left i ≡ ((slice n (rest (i + 1)) (get_or ws i 0) == mask_or_value m (get_or ts i d)) && left (i + 1))
  tests_step i d lt =
      let w = get_or ws i 0 in
      let t = get_or ts i d in
      let r = rest (i + 1) in
      let low = one m (drop (i + 1) ws) (drop (i + 1) ts) in
      let long = AllZip-long IsTest ws ts zip in
      let inside : i < length ws = omega (arith, lt, long) in
      let size : rest i ≡ w + r = sum_by-drop_more (λ x. x) ws i 0 inside in
      let value : one m (drop i ws) (drop i ts) ≡ mask_or_value m t * 2 ^ r + low = ap (λ xs. one m xs (drop i ts)) (one_off ws i 0 inside) ∙ ap (one m (w ∷ drop (i + 1) ws)) (one_off ts i d lt) in
      let split : n % 2 ^ rest i ≡ slice n r w * 2 ^ r + n % 2 ^ r = ap (λ k. n % 2 ^ k) size ∙ mod-pow-add n w r in
      ap (λ a. a == one m (drop i ws) (drop i ts)) split ∙ ap (λ b. (slice n r w * 2 ^ r + n % 2 ^ r) == b) value
      ∙ block_eq (slice n r w) (mask_or_value m t) (n % 2 ^ r) low r (mod_below n (2 ^ r) (pow_pos r)) (one_lt m (drop (i + 1) ws) (drop (i + 1) ts) (zip_drop IsTest ws ts (i + 1) zip))

  pub tests_first : n < 2 ^ sum ws → left 0 ≡ (n == one m ws ts)
  tests_first small = ap (λ k. k == one m ws ts) (mod-eq_of_lt small)

  pub tests_end : (i : ℕ) → length ts ≤ i → left i ≡ true
  tests_end i le =
      let long = AllZip-long IsTest ws ts zip in
      let none : drop i ws ≡ [] = drop_all i ws (omega (arith, le, long)) in
      let none_ts : drop i ts ≡ [] = drop_all i ts le in
      let zero_left : n % 2 ^ 0 ≡ 0 = omega arith in
      ap (λ xs. n % 2 ^ sum xs == one m xs (drop i ts)) none ∙ eq-eqb (n % 2 ^ 0) 0 zero_left

  pub place_next : (from whole i : ℕ) → i < length ts → from + rest i ≡ whole → (from + get_or ws i 0 + rest (i + 1) ≡ whole) × (whole - (from + get_or ws i 0) ≡ rest (i + 1))
  place_next from whole i lt at =
      let long = AllZip-long IsTest ws ts zip in
      let size = sum_by-drop_more (λ x. x) ws i 0 (omega (arith, lt, long)) in
      (omega (arith, size, at), omega (arith, size, at))

  -- what is read there
  pub test_read : (from whole i r : ℕ) → i < length ts → from + rest i ≡ whole → r ≡ slice n (whole - (from + get_or ws i 0)) (get_or ws i 0) → r ≡ slice n (rest (i + 1)) (get_or ws i 0)
  test_read from whole i r lt at is = is ∙ ap (λ low. slice n low (get_or ws i 0)) (place_next from whole i lt at).1

  -- where it is not the test's part, the number is not that of the tests; where it is, what is left decides
  module _ (from whole i r : ℕ) (d : Test) (lt : i < length ts) (place : from + rest i ≡ whole) (read : r ≡ slice n (whole - (from + get_or ws i 0)) (get_or ws i 0)) (same : left i ≡ (n == one m ws ts)) where
    here_or_not : (b : Bool) → (slice n (rest (i + 1)) (get_or ws i 0) == mask_or_value m (get_or ts i d)) ≡ b → (b && left (i + 1)) ≡ (n == one m ws ts)
    here_or_not b is = sym (tests_step i d lt ∙ ap (λ x. x && left (i + 1)) is) ∙ same

    pub tests_differ : (r ≡ mask_or_value m (get_or ts i d) → ⊥) → n ≡ one m ws ts → ⊥
    tests_differ other eq = both_ways (n == one m ws ts) (sym (here_or_not false (ne_eqb _ _ (λ e. other (test_read from whole i r lt place read ∙ e))))) (eq-eqb n (one m ws ts) eq)

    pub tests_agree : r ≡ mask_or_value m (get_or ts i d) → left (i + 1) ≡ (n == one m ws ts)
    tests_agree here = here_or_not true (eq-eqb _ _ (sym (test_read from whole i r lt place read) ∙ here))

pub width_there : (ws : List ℕ) (ts : List Test) (i : ℕ) → AllZip IsTest ws ts → i < length ts → i < length ws
width_there ws ts i zip lt = let long = AllZip-long IsTest ws ts zip in omega (arith, lt, long)

-- ---- arguments

pub begin_next : (ws : List ℕ) (i above whole : ℕ) → i < length ws → above + begin_of ws i ≡ whole → sum ws ≤ whole
    → (get_or ws i 0 ≤ above) × (above - get_or ws i 0 + begin_of ws (i + 1) ≡ whole) × (whole - above ≡ begin_of ws i)
begin_next ws i above whole lt at room =
    let next = sum_by_more (λ x. x) ws i 0 lt in
    let all = sum_by-drop_more (λ x. x) ws i 0 lt in
    let both = sum_parts ws i in
    (omega (arith, next, at, room, all, both), omega (arith, next, at, room, all, both), omega (arith, at))
  where
    sum_parts : (xs : List ℕ) (j : ℕ) → sum (take j xs) + sum (drop j xs) ≡ sum xs
    sum_parts xs zero = omega arith
    sum_parts [] (suc j) = refl
    sum_parts (x ∷ xs) (suc j) =
        let a = sum_by-cons (λ n. n) x (take j xs) in
        let b = sum_by-cons (λ n. n) x xs in
        let c = sum_parts xs j in
        omega (arith, a, b, c)

pub here_read : (ws : List ℕ) (i above whole n r : ℕ) → i < length ws → above + begin_of ws i ≡ whole → sum ws ≤ whole
    → r ≡ slice n (whole - (above - get_or ws i 0 + get_or ws i 0)) (get_or ws i 0) → r ≡ slice n (begin_of ws i) (get_or ws i 0)
here_read ws i above whole n r lt at room is =
    let next = begin_next ws i above whole lt at room in
    let back : whole - (above - get_or ws i 0 + get_or ws i 0) ≡ begin_of ws i = (let le = next.0 in let low = next.2 in omega (arith, le, low)) in
    is ∙ ap (λ low. slice n low (get_or ws i 0)) back
