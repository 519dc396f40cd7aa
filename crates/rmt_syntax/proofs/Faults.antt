-- Where a reader that stands before a token finds a fault.
use Rattle.rmt_syntax.proofs.Words.{◌≡◌, ◌∙◌, ℕ, suc, false, sym, ap, refl, subst, List, [], ◌∷◌, ◌++◌, Option, Some, None, take, append_assoc, slice_get, Token, Terminal, Rule, One, Node, Phrase, Done, Form, terminal_of, Mark, leaf, opens, tokens_in, Goal, part, phrase, shut, Reads, nothing, token, node, choose, IsText, is_done, choice_of, is_operand_name, IsBefore, Unexpected, TooDeep, Statements, or-false}
use Rattle.rmt_syntax.proofs.Words.terminal
use Rattle.rmt_syntax.proofs.Words.rule
use Rattle.rmt_syntax.proofs.Fronts.{first_token, chosen}
use Rattle.rmt_syntax.proofs.Machine.{tokens_append, goes_on, after_end, after_done, after_one, choose_now}
use Rattle.rmt_syntax.proofs.Sets.{same_is}
use Rattle.rmt_syntax.proofs.Produce.{has_text}

-- no text begins with the tokens up to one
abbrev pub Fails : List Token → ℕ → Type 0
Fails tokens at = (all : List Mark) (more : List Token) → IsText all → tokens_in all ≡ take (suc at) tokens ++ more → ⊥

pub is_unexpected : {tokens : List Token} {at : ℕ} {goals : List Goal} {seen : List Mark} {depth : ℕ} → IsBefore tokens at goals seen depth → Fails tokens at → Unexpected tokens at
is_unexpected {goals = goals} {seen = seen} s f =
    let text = has_text goals in
    record {
      before = (seen, (text.0, s.sound text.0 text.1), s.read, s.nested);
      none = λ front is e. f (front ++ is.0) (tokens_in is.0) is.1 (tokens_append front is.0 ∙ ap (λ v. v ++ tokens_in is.0) e);
    }

no_token : {ms : List Mark} {ts : List Token} {t : Token} → Reads [] ms → tokens_in ms ≡ t ∷ ts → ⊥
no_token nothing e = cc

module _ {tokens : List Token} {at : ℕ} {t : Token} (here : slice_get tokens at ≡ Some t) where
  -- nothing comes
  pub fails_none : {seen : List Mark} {depth : ℕ} → IsBefore tokens at [] seen depth → Fails tokens at
  fails_none s all more text e =
      let w = goes_on here s text e in
      no_token w.2 w.3

  -- another token comes
  pub fails_one : {c : Terminal} {gs : List Goal} {seen : List Mark} {depth : ℕ} → (terminal_of t.what ≡ c → ⊥) → IsBefore tokens at (part (One c) ∷ gs) seen depth → Fails tokens at
  fails_one other s all more text e =
      let w = goes_on here s text e in
      let v = after_one w.2 in
      let same : v.0 ∷ tokens_in v.1 ≡ t ∷ more = sym (ap tokens_in v.2) ∙ w.3 in
      let it : v.0 ≡ t = cc in
      other (sym (ap (λ (u : Token). terminal_of u.what) it) ∙ v.3)

  -- another token than the first of a block comes
  pub fails_block : {gs : List Goal} {seen : List Mark} {depth : ℕ} → (terminal_of t.what ≡ terminal.OpenBrace → ⊥) → IsBefore tokens at (part (Node rule.Block) ∷ gs) seen depth → Fails tokens at
  fails_block other s all more text e =
      let w = goes_on here s text e in
      let m = first_token t more w.2 w.3 in
      other (sym (same_is terminal.OpenBrace (terminal_of t.what) (sym (or-false _) ∙ m)))

  -- no form of the phrase begins so
  pub fails_phrase : {x : Phrase} {gs : List Goal} {seen : List Mark} {depth : ℕ} → is_operand_name x (terminal_of t.what) ≡ false → is_done x ≡ false → choice_of x (terminal_of t.what) ≡ None → IsBefore tokens at (phrase x ∷ gs) seen depth → Fails tokens at
  fails_phrase {x = x} {gs = gs} name undone none s all more text e =
      let w = goes_on here s text e in
      let n = choose_now undone w.2 in
      let same : ◌≡◌ {A = Option Form} (Some (n.1, n.2)) None = sym (chosen x t more n.0 n.1 n.2 gs w.0 n.3 n.4 w.3 s.orderly.1 name) ∙ none in cc

  -- the text is at its end
  pub fails_end : {r : Rule} {seen : List Mark} {depth : ℕ} → IsBefore tokens at (phrase Done ∷ shut r ∷ []) seen depth → Fails tokens at
  fails_end s all more text e =
      let w = goes_on here s text e in
      let v = after_end (after_done w.2) in
      no_token v.2 (sym (ap tokens_in v.1) ∙ w.3)

  pub is_too_deep : {gs : List Goal} {seen : List Mark} {depth : ℕ} → terminal_of t.what ≡ terminal.OpenBrace → depth ≡ 32 → IsBefore tokens at (part (Node rule.Block) ∷ gs) seen depth → TooDeep tokens at
  is_too_deep {gs = gs} {seen = seen} {depth = depth} brace deep s =
      let text = has_text (phrase Statements ∷ shut rule.Block ∷ gs) in
      record {
        outside = seen;
        brace = t;
        front = (text.0, subst IsText (sym (append_assoc seen (opens rule.Block ∷ leaf t ∷ []) text.0)) (s.sound (opens rule.Block ∷ leaf t ∷ text.0) (node (choose 0 (One terminal.OpenBrace ∷ []) Statements refl (token brace text.1)))));
        before = s.read;
        here = here;
        nested = s.nested;
        depth = sym s.open_blocks ∙ deep;
      }
