-- The steps of a reader keep what it stands for.
use Rattle.rmt_syntax.proofs.Words.{◌≡◌, ◌∙◌, ℕ, suc, ◌<◌, ◌≤◌, false, sym, ap, refl, subst, List, [], ◌∷◌, ◌++◌, Some, map, take, drop, length, fold, arith, append_assoc, append-nil, slice_get, Token, Terminal, Rule, Part, One, Node, Phrase, Whole, Done, choices, terminal_of, Mark, leaf, opens, shuts, tokens_in, Goal, part, phrase, shut, Reads, token, node, end, done, choose, IsText, IsNested, IsNestedFrom, depth_of, depth_after, is_done, IsBefore, append_cancel_left, slice_get_within, Orderly, fold-append, take-suc, take-append-drop, take-take, get_or_from_slice_get}
use Rattle.rmt_syntax.proofs.Words.kind
use Rattle.rmt_syntax.proofs.Words.rule

pub tokens_append : (a b : List Mark) → tokens_in (a ++ b) ≡ tokens_in a ++ tokens_in b
tokens_append [] b = refl
tokens_append (leaf t ∷ a) b = ap (λ ts. t ∷ ts) (tokens_append a b)
tokens_append (opens r ∷ a) b = tokens_append a b
tokens_append (shuts r ∷ a) b = tokens_append a b

pub take_next : {A : Type 0} (xs : List A) (n : ℕ) (x : A) → slice_get xs n ≡ Some x → take (suc n) xs ≡ take n xs ++ x ∷ []
take_next xs n x h = take-suc xs n x (slice_get_within xs n x h) ∙ ap (λ v. take n xs ++ v ∷ []) (get_or_from_slice_get xs n x x h)

-- so many items, and the further ones of more
pub taken_further : {A : Type 0} (xs : List A) (m n : ℕ) → m ≤ n → take n xs ≡ take m xs ++ drop m (take n xs)
taken_further xs m n h = sym (take-append-drop m (take n xs)) ∙ ap (λ v. v ++ drop m (take n xs)) (take-take m n xs h)

-- a text that begins with the tokens goes on by what is to come, with the next token
pub goes_on : {tokens : List Token} {at : ℕ} {t : Token} {goals : List Goal} {seen all : List Mark} {depth : ℕ} {more : List Token} → slice_get tokens at ≡ Some t
    → IsBefore tokens at goals seen depth → IsText all → tokens_in all ≡ take (suc at) tokens ++ more
    → (ms : List Mark) × (all ≡ seen ++ ms) × Reads goals ms × (tokens_in ms ≡ t ∷ more)
goes_on {tokens} {at} {t} {seen = seen} {all = all} {more = more} here s text e =
    let w = s.whole all more text e in
    let both : take at tokens ++ tokens_in w.0 ≡ take at tokens ++ t ∷ more =
    ap (λ v. v ++ tokens_in w.0) (sym s.read) ∙ sym (tokens_append seen w.0) ∙ ap tokens_in (sym w.1) ∙ e
    ∙ ap (λ v. v ++ more) (take_next tokens at t here) ∙ append_assoc (take at tokens) (t ∷ []) more in
    (w.0, w.1, w.2, append_cancel_left (take at tokens) (tokens_in w.0) (t ∷ more) both)

pub nested_append : (n : ℕ) (a b : List Mark) → IsNestedFrom n a → IsNestedFrom (fold depth_after n a) b → IsNestedFrom n (a ++ b)
nested_append n [] b h k = k
nested_append n (x ∷ a) b h k = (h.0, nested_append (depth_after n x) a b h.1 k)

pub nested_front : (n : ℕ) (a b : List Mark) → IsNestedFrom n (a ++ b) → fold depth_after n a ≤ 32
nested_front n [] [] h = h
nested_front n [] (m ∷ b) h = h.0
nested_front n (x ∷ a) b h = nested_front (depth_after n x) a b h.1

pub nested_now : (ms : List Mark) → IsNested ms → depth_of ms ≤ 32
nested_now ms h = nested_front 0 ms [] (subst IsNested (sym (append-nil ms)) h)

pub depth_append : (a b : List Mark) → depth_of (a ++ b) ≡ fold depth_after (depth_of a) b
depth_append a b = fold-append depth_after 0 a b

-- few blocks are open
pub room : {tokens : List Token} {at : ℕ} {goals : List Goal} {seen : List Mark} {depth : ℕ} → IsBefore tokens at goals seen depth → depth ≤ 32
room {seen = seen} s = omega (arith, s.open_blocks, nested_now seen s.nested)

-- a block may begin where fewer than 32 are open
fits : (n : ℕ) (m : Mark) → n ≤ 32 → (m ≡ opens rule.Block → n < 32) → depth_after n m ≤ 32
fits n (opens rule.Block) h k = let lt : n < 32 = k refl in omega arith
fits n (shuts rule.Block) h k = omega arith
fits n _ h k = h

-- behind the end of a rule
pub after_end : {r : Rule} {gs : List Goal} {ms : List Mark} → Reads (shut r ∷ gs) ms → (rest : List Mark) × (ms ≡ shuts r ∷ rest) × Reads gs rest
after_end (end {ms = ms} d) = (ms, refl, d)

pub after_done : {gs : List Goal} {ms : List Mark} → Reads (phrase Done ∷ gs) ms → Reads gs ms
after_done (done d) = d
after_done (choose i parts next e d) = cc

-- a phrase that is not at its end goes on with one of its forms
pub choose_now : {x : Phrase} {gs : List Goal} {ms : List Mark} → is_done x ≡ false → Reads (phrase x ∷ gs) ms
    → (i : ℕ) × (ps : List Part) × (next : Phrase) × (slice_get (choices x) i ≡ Some (ps, next)) × Reads (map part ps ++ phrase next ∷ gs) ms
choose_now h (done d) = cc
choose_now h (choose i ps next e d) = (i, ps, next, e, d)

pub after_node : {r : Rule} {gs : List Goal} {ms : List Mark} → Reads (part (Node r) ∷ gs) ms → (rest : List Mark) × (ms ≡ opens r ∷ rest) × Reads (phrase (Whole r) ∷ shut r ∷ gs) rest
after_node (node {ms = ms} d) = (ms, refl, d)

pub after_one : {c : Terminal} {gs : List Goal} {ms : List Mark} → Reads (part (One c) ∷ gs) ms → (t : Token) × (rest : List Mark) × (ms ≡ leaf t ∷ rest) × (terminal_of t.what ≡ c) × Reads gs rest
after_one (token {t = t} {ms = ms} is d) = (t, ms, refl, is, d)

module _ {tokens : List Token} {at : ℕ} {t : Token} (here : slice_get tokens at ≡ Some t) where
  -- A step over marks: what is to come behind them reads on, and all that was to come, with the token, begins with them.
  pub step : {next : ℕ} {goals gs : List Goal} {seen : List Mark} {depth : ℕ} (ms : List Mark) (further : List Token) → IsBefore tokens at goals seen depth → take (suc next) tokens ≡ take (suc at) tokens ++ further → tokens_in (seen ++ ms) ≡ take next tokens
      → ((rest : List Mark) → Reads gs rest → Reads goals (ms ++ rest))
      → ((rest : List Mark) (more : List Token) → Reads goals rest → tokens_in rest ≡ t ∷ (further ++ more) → (behind : List Mark) × (rest ≡ ms ++ behind) × Reads gs behind)
      → IsNestedFrom depth ms → Orderly gs → (length tokens ≤ next → gs ≡ phrase Done ∷ shut rule.Program ∷ []) → IsBefore tokens next gs (seen ++ ms) (fold depth_after depth ms)
  step {seen = seen} ms further s far read sound whole nested orderly ended = record {
    read = read;
    sound = λ rest d. subst IsText (sym (append_assoc seen ms rest)) (s.sound (ms ++ rest) (sound rest d));
    whole = λ all more text e.
        let w = goes_on here s text (e ∙ ap (λ v. v ++ more) far ∙ append_assoc (take (suc at) tokens) further more) in
        let v = whole w.0 more w.2 w.3 in
        (v.0, w.1 ∙ ap (λ v. seen ++ v) v.1 ∙ sym (append_assoc seen ms v.0), v.2);
    nested = nested_append 0 seen ms s.nested (subst (λ n. IsNestedFrom n ms) s.open_blocks nested);
    open_blocks = ap (λ n. fold depth_after n ms) s.open_blocks ∙ sym (depth_append seen ms);
    orderly = orderly;
    ended = ended;
  }

  -- a step over a mark that is no token
  silent : {goals gs : List Goal} {seen : List Mark} {depth : ℕ} (m : Mark) → tokens_in (m ∷ []) ≡ [] → IsBefore tokens at goals seen depth → ((rest : List Mark) → Reads gs rest → Reads goals (m ∷ rest))
      → ((rest : List Mark) → Reads goals rest → (behind : List Mark) × (rest ≡ m ∷ behind) × Reads gs behind)
      → (m ≡ opens rule.Block → depth < 32) → Orderly gs → IsBefore tokens at gs (seen ++ m ∷ []) (depth_after depth m)
  silent {seen = seen} {depth = depth} m none s sound whole few orderly =
      step (m ∷ []) [] s (sym (append-nil _)) (tokens_append seen (m ∷ []) ∙ ap (λ v. tokens_in seen ++ v) none ∙ append-nil (tokens_in seen) ∙ s.read)
      sound (λ rest more d e. whole rest d) (room s, fits depth m (room s) few) orderly (λ h. absurd (omega (arith, h, slice_get_within tokens at t here)))

  pub shut_stands : {r : Rule} {gs : List Goal} {seen : List Mark} {depth : ℕ} → IsBefore tokens at (shut r ∷ gs) seen depth → IsBefore tokens at gs (seen ++ shuts r ∷ []) (depth_after depth (shuts r))
  shut_stands {r = r} s = silent (shuts r) refl s (λ rest d. end d) (λ rest d. after_end d) (λ e. cc) s.orderly

  pub enter_stands : {r : Rule} {gs : List Goal} {seen : List Mark} {depth : ℕ} → (r ≡ rule.Block → depth < 32) → IsBefore tokens at (part (Node r) ∷ gs) seen depth → IsBefore tokens at (phrase (Whole r) ∷ shut r ∷ gs) (seen ++ opens r ∷ []) (depth_after depth (opens r))
  enter_stands {r = r} few s =
      silent (opens r) refl s (λ rest d. node d) (λ rest d. after_node d) (λ e. few cc) ((λ h. absurd (s.orderly.0 cc)), s.orderly.1, s.orderly.2)

  -- a step over no mark
  pub stay : {goals gs : List Goal} {seen : List Mark} {depth : ℕ} → IsBefore tokens at goals seen depth
      → ((ms : List Mark) → Reads gs ms → Reads goals ms) → ((ms : List Mark) (more : List Token) → Reads goals ms → tokens_in ms ≡ t ∷ more → Reads gs ms)
      → Orderly gs → IsBefore tokens at gs seen depth
  stay s sound whole orderly = record {
    read = s.read;
    sound = λ ms d. s.sound ms (sound ms d);
    whole = λ all more text e. let w = goes_on here s text e in (w.0, w.1, whole w.0 more w.2 w.3);
    nested = s.nested;
    open_blocks = s.open_blocks;
    orderly = orderly;
    ended = λ h. absurd (omega (arith, h, slice_get_within tokens at t here));
  }

  pub done_stands : {gs : List Goal} {seen : List Mark} {depth : ℕ} → IsBefore tokens at (phrase Done ∷ gs) seen depth → IsBefore tokens at gs seen depth
  done_stands s = stay s (λ ms d. done d) (λ ms more d e. after_done d) s.orderly.2

pub read_next : {tokens : List Token} {at : ℕ} {t : Token} {goals : List Goal} {seen : List Mark} {depth : ℕ} (ms : List Mark) → tokens_in ms ≡ t ∷ [] → slice_get tokens at ≡ Some t
    → IsBefore tokens at goals seen depth → tokens_in (seen ++ ms) ≡ take (suc at) tokens
read_next {tokens} {at} {t} {seen = seen} ms one here s = tokens_append seen ms ∙ ap (λ v. v ++ tokens_in ms) s.read ∙ ap (λ v. take at tokens ++ v) one ∙ sym (take_next tokens at t here)

pub take_stands : {tokens : List Token} {at : ℕ} {t : Token} {c : Terminal} {gs : List Goal} {seen : List Mark} {depth : ℕ} → slice_get tokens at ≡ Some t
    → (length tokens ≤ suc at → t.what ≡ kind.End) → terminal_of t.what ≡ c → IsBefore tokens at (part (One c) ∷ gs) seen depth → IsBefore tokens (suc at) gs (seen ++ leaf t ∷ []) depth
take_stands {tokens} {at} {t} here last is s =
    step here (leaf t ∷ []) (drop (suc at) (take (suc (suc at)) tokens)) s (taken_further tokens (suc at) (suc (suc at)) (omega arith)) (read_next (leaf t ∷ []) refl here s) (λ rest d. token is d) (λ rest more d e.
    let v = after_one d in
    let same : v.0 ∷ tokens_in v.1 ≡ t ∷ (drop (suc at) (take (suc (suc at)) tokens) ++ more) = sym (ap tokens_in v.2) ∙ e in
    let it : v.0 ≡ t = cc in
    (v.1, v.2 ∙ ap (λ u. leaf u ∷ v.1) it, v.4))
    (room s, room s) s.orderly.1 (λ h. s.orderly.0 (sym is ∙ ap terminal_of (last h)))
