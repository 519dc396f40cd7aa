-- Keys whose prints differ differ.
use Rattle.std.proofs.Common.{◌≡◌, ℕ, List, [], ◌∷◌, map, Bool, true, false, not, eqb, refl, sym, ap, ◌∙◌}
use Rattle.std.specs.List.{list_any}
use Rattle.std.specs.Str.{bytes_eq}
use Rattle.std.proofs.lemmas.Bool.{and_parts, and_from, eq-eqb, false≢true, not-true, not_from_false, or_from, or_parts}
use Rattle.std.proofs.lemmas.Slice.Eq.{bytes_eq-Decides}
use Rattle.rmt_bits.specs.Bits.{bytes_of}
use Rattle.rmt_config.specs.KeyPrints.{kept_of_keys, print, print_of}
use Rattle.rmt_config.specs.KeysSeen.{news, was_seen}
use Rattle.rmt_config.specs.Order.{are_new}
use Rattle.rmt_config.proofs.KeyListLaws.{kept-prints}

not_same : (size k m : ℕ) → eqb (print_of size m) (print_of size k) ≡ false → (b : Bool) → bytes_eq (bytes_of size m) (bytes_of size k) ≡ b → b ≡ false
not_same size k m e false is = refl
not_same size k m e true is =
    absurd (false≢true (sym e ∙ eq-eqb (print_of size m) (print_of size k) (ap print ((bytes_eq-Decides (bytes_of size m) (bytes_of size k)).0 is))))

unseen : (size k : ℕ) (before : List ℕ) → list_any (λ m. eqb m (print_of size k)) (map (print_of size) before) ≡ false → was_seen size k before ≡ false
unseen size k [] e = refl
unseen size k (m ∷ before) e =
    let parts = or_parts (eqb (print_of size m) (print_of size k)) (list_any (λ m. eqb m (print_of size k)) (map (print_of size) before)) e in
    let here = bytes_eq (bytes_of size m) (bytes_of size k) in
    or_from here (was_seen size k before) (not_same size k m parts.0 here refl) (unseen size k before parts.1)

news-by : (size : ℕ) (before ks : List ℕ) → are_new (map (print_of size) before) (map (print_of size) ks) ≡ true → news size before ks ≡ true
news-by size before [] e = refl
news-by size before (k ∷ ks) e =
    let seen = list_any (λ m. eqb m (print_of size k)) (map (print_of size) before) in
    let parts = and_parts (not seen) (are_new (map (print_of size) (k ∷ before)) (map (print_of size) ks)) e in
    and_from (not (was_seen size k before)) (news size (k ∷ before) ks) (not_from_false (was_seen size k before) (unseen size k before (not-true seen parts.0)))
    (news-by size (k ∷ before) ks parts.1)

-- keys are new one after another where their prints are
pub news-by_prints : (size : ℕ) (ks prints : List ℕ) → prints ≡ kept_of_keys false size ks → are_new [] prints ≡ true → news size [] ks ≡ true
news-by_prints size ks prints of e = news-by size [] ks (ap (are_new []) (sym (of ∙ kept-prints size ks)) ∙ e)
