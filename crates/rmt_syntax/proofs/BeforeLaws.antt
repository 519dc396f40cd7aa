-- A reader that stands before a token, over equal values; before the first token, and behind the last.
use Rattle.rmt_syntax.proofs.Words.{◌≡◌, ◌∙◌, inl, ℕ, zero, suc, ◌+◌, ◌≤◌, true, sym, ap, refl, subst, List, [], ◌∷◌, ◌++◌, Some, map, length, arith, slice_get, Token, Terminal, Rule, Part, Phrase, Whole, Mark, Goal, part, phrase, shut, is_operand_name, IsBefore, Before, marks_of, ProgramFault, At, add-one, goals_of, outer_goals, EndsOnce, Answers, Err, take, append-nil, opens, shuts, tokens_in, Reads, nothing, node, end, done, IsText, IsNested, take_all, IsTreeOf, marks}
use Rattle.rmt_syntax.proofs.Words.kind
use Rattle.rmt_syntax.proofs.Words.terminal
use Rattle.rmt_syntax.proofs.Words.rule
use Rattle.rmt_syntax.specs.declared.reader.Reader.{Reader}
use Rattle.rmt_syntax.proofs.Sets.{same_is}
use Rattle.rmt_syntax.proofs.Faults.{Fails, is_unexpected}
use Rattle.rmt_syntax.specs.declared.tree.Tree.{Tree}
use Rattle.rmt_syntax.proofs.Forests.{same_tree, nothing_more}
use Rattle.rmt_syntax.proofs.Machine.{tokens_append, after_end, after_done, after_node, nested_append, nested_now}

-- the last token is the end
pub ends_at : (tokens : List Token) (at : ℕ) (t : Token) → EndsOnce tokens → slice_get tokens at ≡ Some t → length tokens ≤ suc at → t.what ≡ kind.End
ends_at [] at t h e le = cc
ends_at (x ∷ []) zero t h e le = let same : x ≡ t = cc in subst (λ (v : Token). v.what ≡ kind.End) same h
ends_at (x ∷ []) (suc at) t h e le = cc
ends_at (x ∷ y ∷ ts) zero t h e le = absurd (omega (arith, le))
ends_at (x ∷ y ∷ ts) (suc at) t h e le = ends_at (y ∷ ts) at t h.1 e (omega (arith, le))

-- a reader that came to a place
pub arrives : {tokens : List Token} {at : ℕ} {goals : List Goal} {seen : List Mark} {depth : ℕ} (r : Reader) → goals_of r ≡ goals → marks_of r ≡ seen → r.depth ≡ depth
    → IsBefore tokens at goals seen depth → Before tokens at r
arrives r e1 e2 e3 s = rw (e1, e2, e3) s

pub arrives_next : {tokens : List Token} {at : ℕ} {goals : List Goal} {seen : List Mark} {depth : ℕ} (r : Reader) → goals_of r ≡ goals → marks_of r ≡ seen → r.depth ≡ depth
    → IsBefore tokens (suc at) goals seen depth → Before tokens (at + 1) r
arrives_next {tokens} {at} r e1 e2 e3 s = subst (λ n. Before tokens n r) (sym (add-one at)) (arrives r e1 e2 e3 s)

-- code 3 at the token
pub refused : {tokens : List Token} {at : ℕ} {t : Token} {goals : List Goal} {seen : List Mark} {depth : ℕ} {fault : ProgramFault} → slice_get tokens at ≡ Some t
    → fault ≡ At 3 t.line t.column → IsBefore tokens at goals seen depth → Fails tokens at → Answers tokens (Err fault)
refused {tokens} {at} {t} {goals} {seen} {depth} here e s f =
    subst (λ v. Answers tokens (Err v)) (sym e) (at, t, here, refl, refl, inl (refl, is_unexpected s f))

pub operand_is : (x : Phrase) (t : Terminal) → is_operand_name x t ≡ true → (x ≡ Whole rule.Leaf) × (t ≡ terminal.Name)
operand_is (Whole rule.Leaf) t h = (refl, sym (same_is terminal.Name t h))
operand_is _ t h = cc

front_part : (todo : List Part) (x : Phrase) (r : Rule) (outer : List Goal) (p : Part) → slice_get todo 0 ≡ Some p
    → (gs : List Goal) × ((map part todo ++ phrase x ∷ shut r ∷ []) ++ outer ≡ part p ∷ gs)
front_part [] x r outer p h = cc
front_part (q ∷ todo) x r outer p h = let e : q ≡ p = cc in ((map part todo ++ phrase x ∷ shut r ∷ []) ++ outer, ap (λ v. part v ∷ ((map part todo ++ phrase x ∷ shut r ∷ []) ++ outer)) e)

-- the part that comes next
pub at_part : {tokens : List Token} {at : ℕ} (r : Reader) (p : Part) → slice_get r.inner.todo.now 0 ≡ Some p → Before tokens at r
    → (gs : List Goal) × (goals_of r ≡ part p ∷ gs) × IsBefore tokens at (part p ∷ gs) (marks_of r) r.depth
at_part {tokens} {at} r p h s =
    let n = front_part r.inner.todo.now r.inner.then r.inner.rule (outer_goals r.outer.items) p h in
    (n.0, n.1, subst (λ v. IsBefore tokens at v (marks_of r) r.depth) n.1 s)

pub next_phrase : (r : Reader) → r.inner.todo.now ≡ [] → (gs : List Goal) × (goals_of r ≡ phrase r.inner.then ∷ gs)
next_phrase r h = (shut r.inner.rule ∷ outer_goals r.outer.items, ap (λ v. (map part v ++ phrase r.inner.then ∷ shut r.inner.rule ∷ []) ++ outer_goals r.outer.items) h)

-- the phrase that comes next
pub at_phrase : {tokens : List Token} {at : ℕ} (r : Reader) (x : Phrase) → r.inner.todo.now ≡ [] → r.inner.then ≡ x → Before tokens at r
    → (gs : List Goal) × (goals_of r ≡ phrase r.inner.then ∷ gs) × IsBefore tokens at (phrase x ∷ gs) (marks_of r) r.depth
at_phrase {tokens} {at} r x h e s =
    let n = next_phrase r h in
    (n.0, n.1, subst (λ v. IsBefore tokens at v (marks_of r) r.depth) (n.1 ∙ ap (λ v. phrase v ∷ n.0) e) s)

-- before the first token
pub starts : (tokens : List Token) → EndsOnce tokens → IsBefore tokens 0 (phrase (Whole rule.Program) ∷ shut rule.Program ∷ []) (opens rule.Program ∷ []) 0
starts [] ends = absurd ends
starts (t ∷ ts) ends = record {
  read = refl;
  sound = λ ms d. node d;
  whole = λ all more text e. after_node text;
  nested = (omega arith, omega arith);
  open_blocks = refl;
  orderly = ((λ e. refl), (λ t m. cc), tt);
  ended = λ h. absurd (omega (arith, h));
}

-- behind the last token: what was read is a text of the tokens
pub text_is : {tokens : List Token} {at : ℕ} {goals : List Goal} {seen : List Mark} {depth : ℕ} → length tokens ≤ at → IsBefore tokens at goals seen depth
    → IsText (seen ++ shuts rule.Program ∷ [])
text_is h s = s.sound (shuts rule.Program ∷ []) (subst (λ v. Reads v (shuts rule.Program ∷ [])) (sym (s.ended h)) (done (end nothing)))

pub tree_is : {tokens : List Token} {at : ℕ} {goals : List Goal} {seen : List Mark} {depth : ℕ} (t : Tree) → length tokens ≤ at → IsBefore tokens at goals seen depth
    → marks t ≡ seen ++ shuts rule.Program ∷ [] → IsTreeOf tokens t
tree_is {tokens} {at} {seen = seen} t h s e =
    let most = nested_now seen s.nested in
    record {
      grammar = subst IsText (sym e) (text_is h s);
      yield = ap tokens_in e ∙ tokens_append seen (shuts rule.Program ∷ []) ∙ append-nil (tokens_in seen) ∙ s.read ∙ take_all at tokens h;
      nested = subst IsNested (sym e) (nested_append 0 seen (shuts rule.Program ∷ []) s.nested (most, most));
    }

-- and no other tree has them
pub tree_alone : {tokens : List Token} {at : ℕ} {goals : List Goal} {seen : List Mark} {depth : ℕ} (t : Tree) {other : Tree} → length tokens ≤ at → IsBefore tokens at goals seen depth
    → marks t ≡ seen ++ shuts rule.Program ∷ [] → IsTreeOf tokens other → t ≡ other
tree_alone {tokens} {at} {seen = seen} t {other} h s e o =
    let w = s.whole (marks other) [] o.grammar (o.yield ∙ sym (take_all (suc at) tokens (omega (arith, h))) ∙ sym (append-nil (take (suc at) tokens))) in
    let v = after_end (after_done (subst (λ gs. Reads gs w.0) (s.ended h) w.2)) in
    same_tree t other (e ∙ sym (w.1 ∙ ap (λ ms. seen ++ ms) (v.1 ∙ ap (λ ms. shuts rule.Program ∷ ms) (nothing_more v.2))))
