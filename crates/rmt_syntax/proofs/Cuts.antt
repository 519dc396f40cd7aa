-- Where marks are cut by the tokens among them.
use Rattle.rmt_syntax.proofs.Words.{◌≡◌, ◌∙◌, ℕ, ◌+◌, ◌<◌, ◌≤◌, sym, ap, refl, subst, List, [], ◌∷◌, ◌++◌, length, arith, length-append, append_assoc, append-nil, Token, Mark, leaf, opens, tokens_in, IsNested, IsNestedFrom, depth_of}
use Rattle.rmt_syntax.proofs.Words.rule
use Rattle.rmt_syntax.proofs.Machine.{tokens_append, nested_front, depth_append}

pub heads : {A : Type 0} (x y : A) (xs ys : List A) → x ∷ xs ≡ y ∷ ys → (x ≡ y) × (xs ≡ ys)
heads x y xs ys e = (cc, cc)

-- marks that begin with one token, and with no block
pub record Leads (ms : List Mark) : Type 0 where
  pub front : List Mark
  pub rest : List Mark
  pub all : ms ≡ front ++ rest
  pub one : length (tokens_in front) ≡ 1
  pub fits : (n : ℕ) → n ≤ 32 → IsNestedFrom n front

pub at_once : (t : Token) (rest : List Mark) → Leads (leaf t ∷ rest)
at_once t rest = record { front = leaf t ∷ []; rest = rest; all = refl; one = refl; fits = λ n h. (h, h) }

-- of two fronts the one with more tokens begins with the other
pub longer_cut : (a b c d : List Mark) → a ++ b ≡ c ++ d → length (tokens_in c) < length (tokens_in a) → (rest : List Mark) × (a ≡ c ++ rest)
longer_cut a b [] d e lt = (a, refl)
longer_cut [] b (m ∷ c) d e lt = absurd (omega (arith, lt))
longer_cut (n ∷ a) b (m ∷ c) d e lt =
    let h = heads n m (a ++ b) (c ++ d) e in
    let one : length (tokens_in (n ∷ a)) ≡ length (tokens_in (n ∷ [])) + length (tokens_in a) = ap length (tokens_append (n ∷ []) a) ∙ length-append (tokens_in (n ∷ [])) (tokens_in a) in
    let two : length (tokens_in (m ∷ c)) ≡ length (tokens_in (m ∷ [])) + length (tokens_in c) = ap length (tokens_append (m ∷ []) c) ∙ length-append (tokens_in (m ∷ [])) (tokens_in c) in
    let same : length (tokens_in (n ∷ [])) ≡ length (tokens_in (m ∷ [])) = ap (λ (v : Mark). length (tokens_in (v ∷ []))) h.0 in
    let further = longer_cut a b c d h.1 (omega (arith, one, two, same, lt)) in
    (further.0, ap (λ v. v ∷ a) h.0 ∙ ap (λ v. m ∷ v) further.1)

-- marks with more tokens than stand before a 33rd block, where they stand, are not nested
pub too_many : (a rest outside behind : List Mark) → a ++ rest ≡ outside ++ opens rule.Block ∷ behind → length (tokens_in outside) < length (tokens_in a)
    → depth_of outside ≡ 32 → IsNested a → ⊥
too_many a rest outside behind e lt deep nested =
    let same : length (tokens_in (outside ++ opens rule.Block ∷ [])) ≡ length (tokens_in outside) =
    ap length (tokens_append outside (opens rule.Block ∷ []) ∙ append-nil (tokens_in outside)) in
    let c = longer_cut a rest (outside ++ opens rule.Block ∷ []) behind (e ∙ sym (append_assoc outside (opens rule.Block ∷ []) behind)) (omega (arith, same, lt)) in
    let most : depth_of (outside ++ opens rule.Block ∷ []) ≤ 32 = nested_front 0 (outside ++ opens rule.Block ∷ []) c.0 (subst IsNested c.1 nested) in
    let more : depth_of (outside ++ opens rule.Block ∷ []) ≡ depth_of outside + 1 = depth_append outside (opens rule.Block ∷ []) in
    omega (arith, most, more, deep)
