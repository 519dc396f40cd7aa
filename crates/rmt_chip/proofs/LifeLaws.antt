-- A packet's life, stage by stage, and from one age to the next.
use Rattle.std.proofs.Common.{◌≡◌, ◌≢◌, ℕ, zero, suc, ◌+◌, ◌-◌, ◌<◌, ◌≤◌, List, [], ◌∷◌, ◌++◌, length, get_or, take, refl, sym, ap, ◌∙◌, ⊎_elim, arith}
use Rattle.std.specs.Prelude.{unwrap_or, slice_index}
use Rattle.std.proofs.Math.Path.{fun_ext}
use Rattle.std.proofs.lemmas.List.{take_more, take_all, length-take-le, get_or-map}
use Rattle.std.proofs.lemmas.Bool.Decides.{nat_tests}
use Rattle.std.proofs.lemmas.Bool.{cases_lt}
use Rattle.rmt_chip.specs.Types.{Stage}
use Rattle.rmt_config.specs.Life.{Look, Life, through, through_from, life_of, acts_of, word_after}
use Rattle.rmt_chip.specs.Runnable.{start_of}
use Rattle.rmt_chip.specs.Lives.{upto, acts_at}

through_from-push : (look : Look) (k : ℕ) (xs : List Stage) (y : Stage) (life : Life) → through_from look k (xs ++ y ∷ []) life ≡ through look (k + length xs) y (through_from look k xs life)
through_from-push look k [] y life = let e : k ≡ k + 0 = omega arith in ap (λ n. through look n y life) e
through_from-push look k (x ∷ xs) y life =
    let e : k + 1 + length xs ≡ k + suc (length xs) = omega arith in
    through_from-push look (k + 1) xs y (through look k x life) ∙ ap (λ n. through look n y (through_from look (k + 1) xs (through look k x life))) e

pub upto_more : (look : Look) (stages : List Stage) (vector : List ℕ) (k : ℕ) (d : Stage) → k < length stages
    → upto look stages vector (k + 1) ≡ through look k (get_or stages k d) (upto look stages vector k)
upto_more look stages vector k d h =
    ap (λ (s : List Stage). life_of look s vector) (take_more stages k d h)
    ∙ through_from-push look 0 (take k stages) (get_or stages k d) _
    ∙ ap (λ n. through look n (get_or stages k d) (upto look stages vector k)) (let e : 0 + length (take k stages) ≡ k = omega (arith, length-take-le k stages (omega arith)) in e)

pub upto_all : (look : Look) (stages : List Stage) (vector : List ℕ) → upto look stages vector (length stages) ≡ life_of look stages vector
upto_all look stages vector = ap (λ (s : List Stage). life_of look s vector) (take_all (length stages) stages (omega arith))

pub start_of-get : (stages : List Stage) (k : ℕ) (d : Stage) → k < length stages → (get_or stages k d).start ≡ start_of stages k
start_of-get stages k d h = sym (get_or-map (λ (s : Stage). s.start) stages k d 0 h)

-- the starts rise
abbrev pub Rise : List Stage → Type 0
Rise stages = (j k : ℕ) → j < k → k < length stages → start_of stages j < start_of stages k

-- what a stage that writes later leaves as it was
word_before : (look : Look) (k : ℕ) (stage : Stage) (life : Life) (t w : ℕ) → t < stage.start + 12 → (through look k stage life).word t w ≡ life.word t w
word_before look k stage life t w h = grind (arith, nat_tests)

-- what a stage that has written leaves
word_from : (look : Look) (k : ℕ) (stage : Stage) (life : Life) (t w : ℕ) → stage.start + 12 ≤ t
    → (through look k stage life).word t w ≡ unwrap_or (word_after (acts_of look k stage (life.word stage.start) life.outcomes).running (life.word (stage.start + 9)) w) (life.word t w)
word_from look k stage life t w h = grind (arith, nat_tests)

-- before a stage writes, the words are those that the stages before it leave
pub word_upto : (look : Look) (stages : List Stage) (vector : List ℕ) → Rise stages → (k i t w : ℕ) → k + i ≤ length stages → (k < length stages → t < start_of stages k + 12)
    → (upto look stages vector (k + i)).word t w ≡ (upto look stages vector k).word t w
word_upto look stages vector rise k zero t w h early = ap (λ n. (upto look stages vector n).word t w) (let e : k + 0 ≡ k = omega arith in e)
word_upto look stages vector rise k (suc i) t w h early =
    let m = k + i in
    let inside : m < length stages = omega arith in
    let next : k + suc i ≡ m + 1 = omega arith in
    let grown : start_of stages k ≤ start_of stages m = starts_grow stages rise k i inside in
    let before : t < start_of stages k + 12 = early (omega arith) in
    let d = first_stage stages (omega arith) in
    let stage = get_or stages m d in
    let at : stage.start ≡ start_of stages m = start_of-get stages m d inside in
    ap (λ n. (upto look stages vector n).word t w) next
    ∙ ap (λ (l : Life). l.word t w) (upto_more look stages vector m d inside)
    ∙ word_before look m stage (upto look stages vector m) t w (omega arith)
    ∙ word_upto look stages vector rise k i t w (omega arith) early
  where
    first_stage : (xs : List Stage) → 0 < length xs → Stage
    first_stage [] h = absurd (omega (arith, h))
    first_stage (x ∷ xs) h = x

    starts_grow : (xs : List Stage) → Rise xs → (a n : ℕ) → a + n < length xs → start_of xs a ≤ start_of xs (a + n)
    starts_grow xs r a zero b = let e : a + 0 ≡ a = omega arith in rw e (omega arith)
    starts_grow xs r a (suc n) b = let less : start_of xs a < start_of xs (a + suc n) = r a (a + suc n) (omega arith) b in omega arith

-- no stage writes between these two ages
pub word_stays : (look : Look) (stages : List Stage) (vector : List ℕ) (n t w : ℕ) → n ≤ length stages → ((j : ℕ) → j < n → start_of stages j + 12 ≢ t + 1)
    → (upto look stages vector n).word (t + 1) w ≡ (upto look stages vector n).word t w
word_stays look stages vector zero t w h apart = refl
word_stays look [] vector (suc n) t w h apart = absurd (omega (arith, h))
word_stays look (s ∷ rest) vector (suc n) t w h apart =
    let stages : List Stage = s ∷ rest in
    let inside : n < length stages = omega (arith, h) in
    let stage = get_or stages n s in
    let at : stage.start ≡ start_of stages n = start_of-get stages n s inside in
    let here : start_of stages n + 12 ≢ t + 1 = apart n (omega arith) in
    let more = upto_more look stages vector n s inside in
    let next : suc n ≡ n + 1 = omega arith in
    let before : (upto look stages vector n).word (t + 1) w ≡ (upto look stages vector n).word t w = word_stays look stages vector n t w (omega arith) (λ j b. apart j (omega arith)) in
    let whole : (u : ℕ) → (upto look stages vector (suc n)).word u w ≡ (through look n stage (upto look stages vector n)).word u w =
    λ u. ap (λ m. (upto look stages vector m).word u w) next ∙ ap (λ (l : Life). l.word u w) more in
    whole (t + 1) ∙ one_stage look n stage (upto look stages vector n) t w (λ e. here (ap (λ m. m + 12) (sym at) ∙ e)) before ∙ sym (whole t)
  where
    one_stage : (look : Look) (k : ℕ) (stage : Stage) (life : Life) (t w : ℕ) → stage.start + 12 ≢ t + 1 → life.word (t + 1) w ≡ life.word t w → (through look k stage life).word (t + 1) w ≡ (through look k stage life).word t w
    one_stage look k stage life t w apart e =
        ⊎_elim
        (λ (h : t + 1 < stage.start + 12). word_before look k stage life (t + 1) w h ∙ e ∙ sym (word_before look k stage life t w (omega arith)))
        (λ (h : stage.start + 12 ≤ t + 1).
        word_from look k stage life (t + 1) w h
        ∙ ap (λ v. unwrap_or (word_after (acts_of look k stage (life.word stage.start) life.outcomes).running (life.word (stage.start + 9)) w) v) e
        ∙ sym (word_from look k stage life t w (omega arith)))
        (cases_lt (t + 1) (stage.start + 12))

-- the words at an age at which the stage has not written yet
pub words_upto : (look : Look) (stages : List Stage) (vector : List ℕ) → Rise stages → (k t : ℕ) → k < length stages → t < start_of stages k + 12
    → (w : ℕ) → (life_of look stages vector).word t w ≡ (upto look stages vector k).word t w
words_upto look stages vector rise k t inside early w =
    let split : k + (length stages - k) ≡ length stages = omega arith in
    sym (ap (λ (l : Life). l.word t w) (upto_all look stages vector))
    ∙ sym (ap (λ n. (upto look stages vector n).word t w) split)
    ∙ word_upto look stages vector rise k (length stages - k) t w (omega arith) (λ _. early)

-- what a running stage writes, said by the words of the whole life
pub word_written : (look : Look) (stages : List Stage) (vector : List ℕ) → Rise stages → (k w : ℕ) (d : Stage) → k < length stages
    → (life_of look stages vector).word (start_of stages k + 12) w
    ≡ unwrap_or (word_after (acts_at look stages vector k (get_or stages k d)).running ((life_of look stages vector).word (start_of stages k + 9)) w)
    ((life_of look stages vector).word (start_of stages k + 11) w)
unfolding acts_at
word_written look stages vector rise k w d inside =
    let o = start_of stages k in
    let stage = get_or stages k d in
    let whole = life_of look stages vector in
    let lives = upto look stages vector in
    let at : stage.start ≡ o = start_of-get stages k d inside in
    let run = (acts_at look stages vector k stage).running in
    let split : k + 1 + (length stages - (k + 1)) ≡ length stages = omega arith in
    let next : k + 1 < length stages → o + 12 < start_of stages (k + 1) + 12 =
    λ h. let less : o < start_of stages (k + 1) = rise k (k + 1) (omega arith) h in omega arith in
    let up : whole.word (o + 12) w ≡ (lives (k + 1)).word (o + 12) w =
    sym (ap (λ (l : Life). l.word (o + 12) w) (upto_all look stages vector))
    ∙ sym (ap (λ n. (lives n).word (o + 12) w) split)
    ∙ word_upto look stages vector rise (k + 1) (length stages - (k + 1)) (o + 12) w (omega arith) next in
    let one : (lives (k + 1)).word (o + 12) w ≡ unwrap_or (word_after run ((lives k).word (stage.start + 9)) w) ((lives k).word (o + 12) w) =
    ap (λ (l : Life). l.word (o + 12) w) (upto_more look stages vector k d inside)
    ∙ word_from look k stage (lives k) (o + 12) w (omega arith) in
    let apart : (j : ℕ) → j < k → start_of stages j + 12 ≢ o + 11 + 1 =
    λ j h e. let less : start_of stages j < o = rise j k h inside in absurd (omega arith) in
    let n12 : o + 12 ≡ o + 11 + 1 = omega arith in
    let still : (lives k).word (o + 12) w ≡ whole.word (o + 11) w =
    ap (λ t. (lives k).word t w) n12
    ∙ word_stays look stages vector k (o + 11) w (omega arith) apart
    ∙ sym (words_upto look stages vector rise k (o + 11) inside (omega arith) w) in
    let n9 : stage.start + 9 ≡ o + 9 = omega arith in
    let read : (lives k).word (stage.start + 9) ≡ whole.word (o + 9) =
    ap (λ t. (lives k).word t) n9 ∙ sym (fun_ext (words_upto look stages vector rise k (o + 9) inside (omega arith))) in
    up ∙ one
    ∙ ap (λ (ws : ℕ → ℕ). unwrap_or (word_after run ws w) ((lives k).word (o + 12) w)) read
    ∙ ap (λ v. unwrap_or (word_after run (whole.word (o + 9)) w) v) still

-- no stage writes at the next age
pub word_unwritten : (look : Look) (stages : List Stage) (vector : List ℕ) (t w : ℕ) → ((j : ℕ) → j < length stages → start_of stages j + 12 ≢ t + 1)
    → (life_of look stages vector).word (t + 1) w ≡ (life_of look stages vector).word t w
word_unwritten look stages vector t w apart =
    let all = upto_all look stages vector in
    sym (ap (λ (l : Life). l.word (t + 1) w) all)
    ∙ word_stays look stages vector (length stages) t w (omega arith) apart
    ∙ ap (λ (l : Life). l.word t w) all

-- at first the words are the parser's
pub word_first : (look : Look) (stages : List Stage) (vector : List ℕ) (w : ℕ) → Rise stages → (life_of look stages vector).word 0 w ≡ slice_index vector w
word_first look [] vector w rise = refl
word_first look (s ∷ stages) vector w rise = words_upto look (s ∷ stages) vector rise 0 0 (omega arith) (omega arith) w

-- the outcomes that a stage leaves
pub outcomes_more : (look : Look) (stages : List Stage) (vector : List ℕ) (k : ℕ) (d : Stage) → k < length stages
    → (upto look stages vector (k + 1)).outcomes ≡ (acts_at look stages vector k (get_or stages k d)).outcomes
unfolding acts_at
outcomes_more look stages vector k d inside = ap (λ (l : Life). l.outcomes) (upto_more look stages vector k d inside)
