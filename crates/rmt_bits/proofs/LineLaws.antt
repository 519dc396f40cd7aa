-- The parts of a list that is cut, the lines of a text and the words of a line: the first, and then those behind it.
use Rattle.std.proofs.Common.{◌≡◌, ℕ, ◌+◌, ◌≤◌, ◌==◌, Bool, true, false, not, cond, List, [], ◌∷◌, length, take, drop, refl, ap, ◌∙◌, inl, inr, arith}
use Rattle.std.specs.List.{after_first, before_first, enumerate_from, filter, position_or_len, slice_split}
use Rattle.std.proofs.Math.ListN.{drop_of_length-le}
use Rattle.std.proofs.lemmas.Bool.{cases_lt, not-true}
use Rattle.std.proofs.lemmas.List.{take_all}
use Rattle.std.proofs.lemmas.List.Splits.{slice_split_first, slice_split_none}
use Rattle.std.proofs.lemmas.List.Sums.{prefix_len_passes}
use Rattle.rmt_bits.specs.Lines.{is_passed_over, numbered_lines, words}

-- a negated test chooses the other way round
pub cond-not : {A : Type 0} (b : Bool) (x y : A) → cond (not b) x y ≡ cond b y x
cond-not true x y = refl
cond-not false x y = refl

-- where nothing ends a part, all is one part
one_part : {A : Type 0} (is_end : A → Bool) (xs : List A) → length xs ≤ position_or_len is_end xs → slice_split is_end xs ≡ xs ∷ []
one_part is_end xs h = slice_split_none is_end xs (λ k d lt. not-true _ (prefix_len_passes (λ x. not (is_end x)) xs k d (omega arith)))

-- what is made of the parts, which are the first one and then those behind it; no parts make what the empty part makes
pub slice_split-each : {A X : Type 0} (is_end : A → Bool) (d : A) (f g : List (List A) → List X) (step : List A → List X → List X) → ((p : List A) (ps : List (List A)) → f (p ∷ ps) ≡ step p (g ps))
    → g [] ≡ g ([] ∷ []) → (xs : List A) → f (slice_split is_end xs) ≡ step (before_first is_end xs) (g (slice_split is_end (after_first is_end xs)))
slice_split-each is_end d f g step each none xs =
    elim (cases_lt (position_or_len is_end xs) (length xs)) [
      | inl lt ↦ ap f (slice_split_first is_end xs d lt) ∙ each (before_first is_end xs) (slice_split is_end (after_first is_end xs))
      | inr ge ↦
          let t : take (position_or_len is_end xs) xs ≡ xs = take_all (position_or_len is_end xs) xs ge in
          let rest : drop (position_or_len is_end xs + 1) xs ≡ [] = drop_of_length-le xs (omega arith) in
          rw (t, rest) (ap f (one_part is_end xs ge) ∙ each xs [] ∙ ap (step xs) none)
    ]

abbrev pub is_feed : ℕ → Bool
is_feed b = b == 10

-- the lines of a text are its first line, where it is not passed over, and those behind it
pub numbered_lines-first : (n : ℕ) (text : List ℕ) → numbered_lines n text
    ≡ cond (is_passed_over (before_first is_feed text)) (numbered_lines (n + 1) (after_first is_feed text)) ((n, before_first is_feed text) ∷ numbered_lines (n + 1) (after_first is_feed text))
numbered_lines-first n text =
    slice_split-each is_feed 0 (kept n) (kept (n + 1)) (λ line ls. cond (is_passed_over line) ls ((n, line) ∷ ls)) (λ line ls. cond-not (is_passed_over line) _ _) refl text
  where
    kept : ℕ → List (List ℕ) → List (ℕ × List ℕ)
    kept n ls = filter (λ l. not (is_passed_over l.1)) (enumerate_from n ls)

abbrev pub is_space : ℕ → Bool
is_space b = b == 32

-- the words of a line are what stands before its first space, if anything, and then those behind it
pub words_cut : (line : List ℕ) → words line ≡ cond (not (length (before_first is_space line) == 0)) (before_first is_space line ∷ words (after_first is_space line)) (words (after_first is_space line))
words_cut line = slice_split-each is_space 0 (filter (λ word. not (length word == 0))) (filter (λ word. not (length word == 0))) (λ p ps. cond (not (length p == 0)) (p ∷ ps) ps) (λ p ps. refl) refl line

pub word_first : (line word rest : List ℕ) → word ≡ before_first is_space line → rest ≡ after_first is_space line → (length word == 0) ≡ false → words line ≡ word ∷ words rest
word_first line word rest e f h = rw (e, f) (words_cut line ∙ rw (← e, h) refl)

pub word_none : (line word rest : List ℕ) → word ≡ before_first is_space line → rest ≡ after_first is_space line → (length word == 0) ≡ true → words line ≡ words rest
word_none line word rest e f h = rw f (words_cut line ∙ rw (← e, h) refl)
