-- The lines of a text, one after another.
use Rattle.std.proofs.Common.{◌≡◌, ℕ, ◌+◌, ◌-◌, ◌<◌, true, false, not, cond, ltb, None, List, ◌∷◌, length, length-drop, drop, get_or, slice_range, sym, ap, ◌∙◌, inl, inr, arith}
use Rattle.std.specs.List.{position, position_or_len}
use Rattle.std.proofs.lemmas.Bool.{cases_Bool, eqb-true, ltb-false, true≢false}
use Rattle.std.proofs.lemmas.List.{drop-drop, get_or-drop}
use Rattle.std.proofs.lemmas.List.Sums.{prefix_len-le-length, prefix_len_stops}
use Rattle.rmt_bits.proofs.LineLaws.{is_feed, numbered_lines-first}
use Rattle.rmt_bits.specs.Lines.{is_passed_over, numbered_lines}

-- the lines from a place of a text on
pub line_at : (text : List ℕ) (n from to next : ℕ) → to ≡ from + position_or_len is_feed (drop from text) → drop next text ≡ drop (to + 1) text
    → numbered_lines n (drop from text) ≡ cond (is_passed_over (slice_range text from to)) (numbered_lines (n + 1) (drop next text)) ((n, slice_range text from to) ∷ numbered_lines (n + 1) (drop next text))
line_at text n from to next e rest =
    let w : to - from ≡ position_or_len is_feed (drop from text) = omega arith in
    let m : to + 1 ≡ from + (position_or_len is_feed (drop from text) + 1) = omega arith in
    let d : drop next text ≡ drop (position_or_len is_feed (drop from text) + 1) (drop from text) = rest ∙ ap (λ i. drop i text) m ∙ sym (drop-drop (position_or_len is_feed (drop from text) + 1) from text) in
    rw (w, d) (numbered_lines-first n (drop from text))

fed : (b : ℕ) → not (is_feed b) ≡ false → is_feed b ≡ true
fed b h = elim (cases_Bool (is_feed b)) [ inl e ↦ e | inr e ↦ let g = rw e at h in absurd (true≢false g) ]

-- where no line feed was found the whole text stands before it
pub no_feed : (xs : List ℕ) → None ≡ position is_feed xs → position_or_len is_feed xs ≡ length xs
no_feed xs h =
    elim (cases_Bool (ltb (position_or_len is_feed xs) (length xs))) [
      | inl e ↦ let g = rw e at h in cc
      | inr e ↦ omega (arith, ltb-false (position_or_len is_feed xs) (length xs) e, prefix_len-le-length (λ b. not (is_feed b)) xs)
    ]

-- the byte at which a line ends
pub feed_at : (text : List ℕ) (from to : ℕ) → to ≡ from + position_or_len is_feed (drop from text) → to < length text → get_or text to 0 ≡ 10
feed_at text from to e lt =
    let rest = drop from text in
    let inside : position_or_len is_feed rest < length rest = omega (arith, length-drop from text) in
    let stops = prefix_len_stops (λ b. not (is_feed b)) rest 0 inside in
    let here : get_or rest (position_or_len is_feed rest) 0 ≡ get_or text to 0 = get_or-drop from text (position_or_len is_feed rest) 0 ∙ ap (λ i. get_or text i 0) (sym e) in
    sym here ∙ eqb-true (get_or rest (position_or_len is_feed rest) 0) 10 (fed (get_or rest (position_or_len is_feed rest) 0) stops)
