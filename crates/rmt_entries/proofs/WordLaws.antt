-- When a line has no words.
use Rattle.std.proofs.Common.{◌≡◌, ◌==◌, ℕ, suc, false, not, List, [], ◌∷◌, length, refl, sym, ap, ◌∙◌, inl, inr, one-add, arith}
use Rattle.std.specs.List.{after_first, before_first, list_all, prefix_len}
use Rattle.std.proofs.lemmas.Bool.{cases_Bool}
use Rattle.std.proofs.lemmas.Bool.Decides.{nat_tests}
use Rattle.rmt_bits.proofs.LineLaws.{is_space, word_first, word_none}
use Rattle.rmt_entries.specs.Lines.{words}

no_more : (n : ℕ) → (suc n == 0) ≡ false
no_more n = grind (arith, nat_tests)

-- a line without words has spaces alone
pub words_blank : (line : List ℕ) → (length (words line) == 0) ≡ list_all is_space line
words_blank [] = refl
words_blank (x ∷ xs) = elim (cases_Bool (x == 32)) [
  | inl t ↦
      let before : before_first is_space (x ∷ xs) ≡ [] = rw t refl in
      let after : after_first is_space (x ∷ xs) ≡ xs = rw t refl in
      let rest : words (x ∷ xs) ≡ words xs = word_none (x ∷ xs) [] xs (sym before) (sym after) refl in
      ap (λ (ws : List (List ℕ)). length ws == 0) rest ∙ words_blank xs ∙ rw t refl
  | inr f ↦
      let before : before_first is_space (x ∷ xs) ≡ x ∷ before_first is_space xs = rw (f, one-add (prefix_len (λ b. not (is_space b)) xs)) refl in
      let some : (length (before_first is_space (x ∷ xs)) == 0) ≡ false = rw before (no_more (length (before_first is_space xs))) in
      let first = word_first (x ∷ xs) (before_first is_space (x ∷ xs)) (after_first is_space (x ∷ xs)) refl refl some in
      ap (λ (ws : List (List ℕ)). length ws == 0) first ∙ no_more (length (words (after_first is_space (x ∷ xs)))) ∙ rw f refl
]
