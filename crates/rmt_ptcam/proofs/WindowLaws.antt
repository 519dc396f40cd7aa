-- Extracts on a window that is two windows one behind another.
use Rattle.std.proofs.Common.{◌≡◌, true, ℕ, ◌+◌, ◌-◌, ◌*◌, ◌/◌, ◌%◌, ◌^◌, ◌<◌, ◌≤◌, List, [], ◌∷◌, ◌++◌, length, map, fold, refl, sym, ap, ◌∙◌, arith}
use Rattle.std.specs.Prelude.{All}
use Rattle.std.proofs.lemmas.Bool.{and_parts, leb-true}
use Rattle.std.proofs.lemmas.Nat.{shr_high, mod_low}
use Rattle.std.proofs.lemmas.List.{length-append}
use Rattle.std.proofs.lemmas.List.Sums.{fold-append}
use Rattle.std.proofs.lemmas.List.Elements.{All-head, All-tail}
use Rattle.rmt_bits.specs.Bits.{slice, number_of, bits_of_bytes}
use Rattle.rmt_bits.specs.declared.lane.Lane.{Lane}
use Rattle.rmt_bits.proofs.BitLaws.{slice-from_low}
use Rattle.rmt_bits.proofs.ByteLaws.{AreBytes, number_of-append, number_of-lt}
use Rattle.std.proofs.lemmas.Nat.{shr-shr}
use Rattle.rmt_ptcam.specs.Types.{Extract}
use Rattle.rmt_config.specs.declared.config.Extract.TheVariants.{Bits, One}
use Rattle.rmt_config.specs.Parser.{extracted, put}
use Rattle.rmt_config.specs.ParserForm.{extract_is_formed}
use Rattle.rmt_ptcam.specs.Joining.{moved}

module _ (front back : List ℕ) (small : AreBytes back) where
  abbrev size : ℕ
  size = 8 * length back

  number_is : number_of (front ++ back) ≡ number_of front * 2 ^ size + number_of back
  number_is = number_of-append front back

  -- bits of the first window
  pub bits_front : (from len : ℕ) → from + len ≤ 8 * length front → bits_of_bytes (front ++ back) from len ≡ bits_of_bytes front from len
  bits_front from len within =
      let long = length-append front back in
      let low : 8 * length (front ++ back) - (from + len) ≡ size + (8 * length front - (from + len)) = omega (arith, long, within) in
      ap (λ k. slice (number_of (front ++ back)) k len) low
      ∙ ap (λ n. n / 2 ^ (size + (8 * length front - (from + len))) % 2 ^ len) number_is
      ∙ ap (λ n. n % 2 ^ len) (sym (shr-shr (number_of front * 2 ^ size + number_of back) size (8 * length front - (from + len))))
      ∙ ap (λ n. n / 2 ^ (8 * length front - (from + len)) % 2 ^ len) (shr_high (number_of front) size (number_of back) (number_of-lt back small))

  -- bits of the second one
  pub bits_back : (from len : ℕ) → from + len ≤ 8 * length back → bits_of_bytes (front ++ back) (from + 8 * length front) len ≡ bits_of_bytes back from len
  bits_back from len within =
      let long = length-append front back in
      let low : 8 * length (front ++ back) - (from + 8 * length front + len) ≡ size - (from + len) = omega (arith, long, within) in
      ap (λ k. slice (number_of (front ++ back)) k len) low
      ∙ slice-from_low (number_of (front ++ back)) (number_of back) (size - (from + len)) len size (omega (arith, within))
      (ap (λ n. n % 2 ^ size) number_is ∙ mod_low (number_of front) size (number_of back) (number_of-lt back small) ∙ sym (mod_whole (number_of back) (number_of-lt back small)))
    where
      mod_whole : (n : ℕ) → n < 2 ^ size → n % 2 ^ size ≡ n
      mod_whole n lt = let e : 0 * 2 ^ size + n ≡ n = omega arith in ap (λ k. k % 2 ^ size) (sym e) ∙ mod_low 0 size n lt

  formed_bits : (need from : ℕ) (lane : Lane) → extract_is_formed need (Bits from lane) ≡ true → from + lane.len ≤ 8 * need
  formed_bits need from lane is = leb-true (from + lane.len) (8 * need) (and_parts _ _ is).1

  -- an extract of the first window
  extract_front : (v : List ℕ) (x : Extract) → extract_is_formed (length front) x ≡ true → extracted (front ++ back) v x ≡ extracted front v x
  extract_front v (Bits from lane) is = ap (put v lane) (bits_front from lane.len (formed_bits (length front) from lane is))
  extract_front v (One lane) is = refl

  -- and one of the second, moved
  extract_back : (v : List ℕ) (x : Extract) → extract_is_formed (length back) x ≡ true → extracted (front ++ back) v (moved (length front) x) ≡ extracted back v x
  extract_back v (Bits from lane) is = ap (put v lane) (bits_back from lane.len (formed_bits (length back) from lane is))
  extract_back v (One lane) is = refl

  fold_front : (xs : List Extract) (v : List ℕ) → All (λ x. extract_is_formed (length front) x ≡ true) xs → fold (extracted (front ++ back)) v xs ≡ fold (extracted front) v xs
  fold_front [] v formed = refl
  fold_front (x ∷ xs) v formed =
      ap (λ (w : List ℕ). fold (extracted (front ++ back)) w xs) (extract_front v x (All-head (λ y. extract_is_formed (length front) y ≡ true) x xs formed))
      ∙ fold_front xs (extracted front v x) (All-tail (λ y. extract_is_formed (length front) y ≡ true) x xs formed)

  fold_back : (xs : List Extract) (v : List ℕ) → All (λ x. extract_is_formed (length back) x ≡ true) xs
      → fold (extracted (front ++ back)) v (map (moved (length front)) xs) ≡ fold (extracted back) v xs
  fold_back [] v formed = refl
  fold_back (x ∷ xs) v formed =
      ap (λ (w : List ℕ). fold (extracted (front ++ back)) w (map (moved (length front)) xs)) (extract_back v x (All-head (λ y. extract_is_formed (length back) y ≡ true) x xs formed))
      ∙ fold_back xs (extracted back v x) (All-tail (λ y. extract_is_formed (length back) y ≡ true) x xs formed)

  -- extracts of both, one after another
  pub fold_both : (xs ys : List Extract) (v : List ℕ) → All (λ x. extract_is_formed (length front) x ≡ true) xs → All (λ x. extract_is_formed (length back) x ≡ true) ys
      → fold (extracted (front ++ back)) v (xs ++ map (moved (length front)) ys) ≡ fold (extracted back) (fold (extracted front) v xs) ys
  fold_both xs ys v formed_xs formed_ys =
      fold-append (extracted (front ++ back)) v xs (map (moved (length front)) ys)
      ∙ ap (λ (w : List ℕ). fold (extracted (front ++ back)) w (map (moved (length front)) ys)) (fold_front xs v formed_xs)
      ∙ fold_back ys (fold (extracted front) v xs) formed_ys
