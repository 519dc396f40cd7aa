-- The lines of a text that is cut anywhere.
use Rattle.std.proofs.Common.{◌≡◌, ℕ, ◌+◌, ◌-◌, ◌<◌, ◌≤◌, ◌⊎◌, true, false, not, cond, List, [], ◌∷◌, ◌++◌, length, take, drop, get_or, slice_range, refl, sym, ap, ◌∙◌, inl, inr, arith, length-append, append_assoc, append-nil}
use Rattle.std.specs.List.{All, enumerate_from, filter, onto_first, position_or_len, suffix_len}
use Rattle.std.proofs.Math.Seq.{drop-append-add, get_or-append_seam, take-append_seam}
use Rattle.std.proofs.lemmas.Bool.{cases_Bool, eqb-true, not-true}
use Rattle.std.proofs.lemmas.List.{get_or-append_right, get_or-take, length-take}
use Rattle.std.proofs.lemmas.List.Elements.{All-append, All-cons, All-head, All-nil, All-tail, filter-append}
use Rattle.std.proofs.lemmas.List.Splits.{length-slice_split, slice_split-cons_no, slice_split-cons_yes, slice_split_none}
use Rattle.std.proofs.lemmas.List.Sums.{prefix_len_passes, sum_by-append, suffix_len_is}
use Rattle.rmt_bits.specs.Lines.{is_passed_over, lines, numbered_lines}
use Rattle.rmt_packets.specs.Pieces.{ended_lines, feeds, open_line}
use Rattle.rmt_bits.proofs.LineLaws.{cond-not, is_feed}

-- bytes without a line feed
abbrev pub NoFeed : List ℕ → Type 0
NoFeed xs = All (λ b. is_feed b ≡ false) xs

feeds_none : (xs : List ℕ) → NoFeed xs → feeds xs ≡ 0
feeds_none [] n = refl
feeds_none (x ∷ xs) n =
    let e = All-head (λ b. is_feed b ≡ false) x xs n in
    let r = feeds_none xs (All-tail (λ b. is_feed b ≡ false) x xs n) in
    rw (e, r)

pub feeds_append : (xs ys : List ℕ) → feeds (xs ++ ys) ≡ feeds xs + feeds ys
feeds_append xs ys = sum_by-append (λ b. cond (is_feed b) 1 0) xs ys

-- a text, cut at its last line feed
record Cut (text : List ℕ) : Type 0 where
  front : List ℕ
  last : List ℕ
  is : text ≡ front ++ 10 ∷ last
  free : NoFeed last

cut_of : (text : List ℕ) → NoFeed text ⊎ Cut text
cut_of [] = inl (All-nil (λ b. is_feed b ≡ false))
cut_of (x ∷ xs) =
    elim (cut_of xs) [
      | inr c ↦ inr (record { front = x ∷ c.front; last = c.last; is = ap (λ ys. x ∷ ys) c.is; free = c.free })
      | inl n ↦
          elim (cases_Bool (is_feed x)) [
            | inl e ↦ inr (record { front = []; last = xs; is = ap (λ y. y ∷ xs) (eqb-true x 10 e); free = n })
            | inr e ↦ inl (All-cons (λ b. is_feed b ≡ false) x xs e n)
          ]
    ]

suffix_cut : (a b : List ℕ) → NoFeed b → suffix_len (λ x. not (is_feed x)) (a ++ 10 ∷ b) ≡ length b
suffix_cut a b n =
    let l = length-append a (10 ∷ b) in
    let behind : (k : ℕ) → length a + 1 ≤ k → k < length (a ++ 10 ∷ b) → not (is_feed (get_or (a ++ 10 ∷ b) k 0)) ≡ true =
    λ k ge lt.
    let e : get_or (a ++ 10 ∷ b) k 0 ≡ get_or b (k - (length a + 1)) 0 =
    ap (λ xs. get_or xs k 0) (sym (append_assoc a (10 ∷ []) b)) ∙ get_or-append_right (a ++ 10 ∷ []) b (length a + 1) k 0 (length-append a (10 ∷ [])) ge in
    ap (λ x. not (is_feed x)) e ∙ ap not (n (k - (length a + 1)) 0 (omega (arith, l))) in
    let seam : length a + 1 - 1 ≡ length a = omega arith in
    let here : not (is_feed (get_or (a ++ 10 ∷ b) (length a + 1 - 1) 0)) ≡ false =
    ap (λ i. not (is_feed (get_or (a ++ 10 ∷ b) i 0))) seam ∙ ap (λ x. not (is_feed x)) (get_or-append_seam a 10 b 0) in
    omega (arith, l, suffix_len_is (λ x. not (is_feed x)) (a ++ 10 ∷ b) (length a + 1) 0 (omega (arith, l)) behind (λ _. here))

suffix_none : (b : List ℕ) → NoFeed b → suffix_len (λ x. not (is_feed x)) b ≡ length b
suffix_none b n = omega (arith, suffix_len_is (λ x. not (is_feed x)) b 0 0 (omega arith) (λ k ge lt. ap not (n k 0 lt)) (λ lt. absurd (omega arith)))

pub open_cut : (a b : List ℕ) → NoFeed b → open_line (a ++ 10 ∷ b) ≡ b
open_cut a b n =
    let t = a ++ 10 ∷ b in
    let e : length t - suffix_len (λ x. not (is_feed x)) t ≡ length a + 1 = omega (arith, suffix_cut a b n, length-append a (10 ∷ b)) in
    ap (λ i. drop i t) e ∙ drop-append-add a (10 ∷ b) 1

ended_cut : (a b : List ℕ) → NoFeed b → ended_lines (a ++ 10 ∷ b) ≡ numbered_lines 1 a
ended_cut a b n =
    let t = a ++ 10 ∷ b in
    let e : length t - suffix_len (λ x. not (is_feed x)) t - 1 ≡ length a = omega (arith, suffix_cut a b n, length-append a (10 ∷ b)) in
    ap (λ i. numbered_lines 1 (take i t)) e ∙ ap (numbered_lines 1) (take-append_seam a (10 ∷ b))

open_none : (b : List ℕ) → NoFeed b → open_line b ≡ b
open_none b n =
    let e : length b - suffix_len (λ x. not (is_feed x)) b ≡ 0 = omega (arith, suffix_none b n) in
    ap (λ i. drop i b) e

ended_none : (b : List ℕ) → NoFeed b → ended_lines b ≡ []
ended_none b n =
    let e : length b - suffix_len (λ x. not (is_feed x)) b - 1 ≡ 0 = omega (arith, suffix_none b n) in
    ap (λ i. numbered_lines 1 (take i b)) e

onto_append : (x : ℕ) (ps qs : List (List ℕ)) → 0 < length ps → onto_first x (ps ++ qs) ≡ onto_first x ps ++ qs
onto_append x [] qs lt = absurd (omega arith)
onto_append x (p ∷ ps) qs lt = refl

lines_append : (a b : List ℕ) → lines (a ++ 10 ∷ b) ≡ lines a ++ lines b
lines_append [] b = refl
lines_append (x ∷ a) b =
    let rest : lines (a ++ 10 ∷ b) ≡ lines a ++ lines b = lines_append a b in
    elim (cases_Bool (is_feed x)) [
      | inl e ↦ slice_split-cons_yes is_feed x (a ++ 10 ∷ b) e ∙ ap (λ ls. [] ∷ ls) rest ∙ sym (ap (λ ls. ls ++ lines b) (slice_split-cons_yes is_feed x a e))
      | inr e ↦
          slice_split-cons_no is_feed x (a ++ 10 ∷ b) e ∙ ap (onto_first x) rest ∙ onto_append x (lines a) (lines b) (omega (arith, length-slice_split is_feed a))
          ∙ sym (ap (λ ls. ls ++ lines b) (slice_split-cons_no is_feed x a e))
    ]

enumerate_append : (n : ℕ) (xs ys : List (List ℕ)) → enumerate_from n (xs ++ ys) ≡ enumerate_from n xs ++ enumerate_from (n + length xs) ys
enumerate_append n [] ys =
    let e : n ≡ n + 0 = omega arith in
    ap (λ k. enumerate_from k ys) e
enumerate_append n (x ∷ xs) ys =
    let e : n + 1 + length xs ≡ n + length (x ∷ xs) = omega arith in
    ap (λ ls. (n, x) ∷ ls) (enumerate_append (n + 1) xs ys ∙ ap (λ k. enumerate_from (n + 1) xs ++ enumerate_from k ys) e)

-- the lines of two texts with a line feed between them
pub numbered_append : (n : ℕ) (a b : List ℕ) → numbered_lines n (a ++ 10 ∷ b) ≡ numbered_lines n a ++ numbered_lines (n + (feeds a + 1)) b
numbered_append n a b =
    ap (λ ls. filter (λ l. not (is_passed_over l.1)) (enumerate_from n ls)) (lines_append a b)
    ∙ ap (filter (λ l. not (is_passed_over l.1))) (enumerate_append n (lines a) (lines b))
    ∙ filter-append (λ l. not (is_passed_over l.1)) (enumerate_from n (lines a)) (enumerate_from (n + length (lines a)) (lines b))
    ∙ ap (λ k. numbered_lines n a ++ numbered_lines (n + k) b) (length-slice_split is_feed a)

-- a line, numbered, where it is not passed over
pub numbered_line : (n : ℕ) (xs : List ℕ) → NoFeed xs → numbered_lines n xs ≡ cond (is_passed_over xs) [] ((n, xs) ∷ [])
numbered_line n xs free =
    ap (λ ls. filter (λ l. not (is_passed_over l.1)) (enumerate_from n ls)) (slice_split_none is_feed xs free) ∙ cond-not (is_passed_over xs) ((n, xs) ∷ []) []

-- the line that is not ended has no line feed
pub open_free : (text : List ℕ) → NoFeed (open_line text)
open_free text =
    elim (cut_of text) [
      | inl n ↦ let e = open_none text n in rw e n
      | inr c ↦ let e : open_line text ≡ c.last = ap open_line c.is ∙ open_cut c.front c.last c.free in rw e c.free
    ]

-- the packet lines of a text that goes on: those that are ended, and then those of its open line and of what follows
pub lines_go_on : (text more : List ℕ) → numbered_lines 1 (text ++ more) ≡ ended_lines text ++ numbered_lines (feeds text + 1) (open_line text ++ more)
lines_go_on text more =
    elim (cut_of text) [
      | inl n ↦
          let o = open_none text n in
          let e = ended_none text n in
          let f = feeds_none text n in
          rw (e, f, o)
      | inr c ↦
          let o : open_line text ≡ c.last = ap open_line c.is ∙ open_cut c.front c.last c.free in
          let e : ended_lines text ≡ numbered_lines 1 c.front = ap ended_lines c.is ∙ ended_cut c.front c.last c.free in
          let one : feeds (10 ∷ c.last) ≡ 1 + feeds c.last = feeds_append (10 ∷ []) c.last in
          let f : feeds text + 1 ≡ 1 + (feeds c.front + 1) = omega (arith, ap feeds c.is, feeds_append c.front (10 ∷ c.last), feeds_none c.last c.free) in
          ap (λ t. numbered_lines 1 (t ++ more)) c.is ∙ ap (numbered_lines 1) (append_assoc c.front (10 ∷ c.last) more) ∙ numbered_append 1 c.front (c.last ++ more)
          ∙ ap (λ ls. ls ++ numbered_lines (1 + (feeds c.front + 1)) (c.last ++ more)) (sym e)
          ∙ ap (λ k. ended_lines text ++ numbered_lines k (c.last ++ more)) (sym f)
          ∙ ap (λ l. ended_lines text ++ numbered_lines (feeds text + 1) (l ++ more)) (sym o)
    ]

-- bytes without a line feed make the open line longer, and end none
pub open_grows : (text part : List ℕ) → NoFeed part → open_line (text ++ part) ≡ open_line text ++ part
open_grows text part free =
    elim (cut_of text) [
      | inl n ↦ open_none (text ++ part) (All-append (λ b. is_feed b ≡ false) text part n free) ∙ ap (λ l. l ++ part) (sym (open_none text n))
      | inr c ↦
          ap (λ t. open_line (t ++ part)) c.is ∙ ap open_line (append_assoc c.front (10 ∷ c.last) part)
          ∙ open_cut c.front (c.last ++ part) (All-append (λ b. is_feed b ≡ false) c.last part c.free free)
          ∙ ap (λ l. l ++ part) (sym (ap open_line c.is ∙ open_cut c.front c.last c.free))
    ]

pub ended_grows : (text part : List ℕ) → NoFeed part → ended_lines (text ++ part) ≡ ended_lines text
ended_grows text part free =
    elim (cut_of text) [
      | inl n ↦ ended_none (text ++ part) (All-append (λ b. is_feed b ≡ false) text part n free) ∙ sym (ended_none text n)
      | inr c ↦
          ap (λ t. ended_lines (t ++ part)) c.is ∙ ap ended_lines (append_assoc c.front (10 ∷ c.last) part)
          ∙ ended_cut c.front (c.last ++ part) (All-append (λ b. is_feed b ≡ false) c.last part c.free free)
          ∙ sym (ap ended_lines c.is ∙ ended_cut c.front c.last c.free)
    ]

pub feeds_grow : (text part : List ℕ) → NoFeed part → feeds (text ++ part) ≡ feeds text
feeds_grow text part free = omega (arith, feeds_append text part, feeds_none part free)

-- a line feed ends the open line
pub open_fed : (text : List ℕ) → open_line (text ++ 10 ∷ []) ≡ []
open_fed text = open_cut text [] (All-nil (λ b. is_feed b ≡ false))

pub feeds_fed : (text : List ℕ) → feeds (text ++ 10 ∷ []) ≡ feeds text + 1
feeds_fed text = feeds_append text (10 ∷ [])

-- the packet lines of a whole text: those that are ended, and the open line where it is not passed over
pub whole_lines : (text : List ℕ) → numbered_lines 1 text ≡ ended_lines text ++ cond (is_passed_over (open_line text)) [] ((feeds text + 1, open_line text) ∷ [])
whole_lines text =
    ap (numbered_lines 1) (sym (append-nil text)) ∙ lines_go_on text []
    ∙ ap (λ l. ended_lines text ++ numbered_lines (feeds text + 1) l) (append-nil (open_line text))
    ∙ ap (λ ls. ended_lines text ++ ls) (numbered_line (feeds text + 1) (open_line text) (open_free text))

-- a line feed makes the open line one of those that are ended
pub ended_fed : (text : List ℕ) → ended_lines (text ++ 10 ∷ []) ≡ ended_lines text ++ cond (is_passed_over (open_line text)) [] ((feeds text + 1, open_line text) ∷ [])
ended_fed text = ended_cut text [] (All-nil (λ b. is_feed b ≡ false)) ∙ whole_lines text

-- the bytes from a place to the first line feed have none
pub free_to : (text : List ℕ) (from to : ℕ) → to ≡ from + position_or_len is_feed (drop from text) → NoFeed (slice_range text from to)
free_to text from to e k d lt =
    let rest = drop from text in
    let w : to - from ≡ position_or_len is_feed rest = omega arith in
    let below : k < position_or_len is_feed rest = omega (arith, length-take (to - from) rest) in
    let same : get_or (take (to - from) rest) k d ≡ get_or rest k d = get_or-take (to - from) rest k d (omega arith) in
    ap is_feed same ∙ not-true (is_feed (get_or rest k d)) (prefix_len_passes (λ b. not (is_feed b)) rest k d below)
