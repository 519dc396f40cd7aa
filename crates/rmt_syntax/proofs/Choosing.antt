-- The steps of a reader at a phrase. Each step before a token is taken lowers the weight of what is to come.
use Rattle.rmt_syntax.proofs.Words.{◌≡◌, ◌∙◌, inl, inr, ℕ, suc, Bool, true, false, sym, ap, refl, subst, List, [], ◌∷◌, ◌++◌, Option, Some, map, arith, ◌&&◌, ◌||◌, not, slice_get, find, Token, Terminal, Rule, Part, One, Node, Phrase, Whole, Done, Form, choices, terminal_of, Mark, Goal, part, phrase, shut, Reads, choose, same, may_begin, is_done, front, tails, Apart, Orderly, choice_of, is_operand_name, IsBefore, first_form, first_phrase, is_empty, may_end, if◌then◌else◌, and_parts, or_cases, not-true, both_ways, cases_Bool, cond-true, cond-false, ◌+◌, ◌<◌, first_of, nat_lt, ltb-true, weight, height}
use Rattle.rmt_syntax.proofs.Words.terminal
use Rattle.rmt_syntax.proofs.Words.rule
use Rattle.rmt_syntax.proofs.Fronts.{chosen, done_is, empty_ends, front_part}
use Rattle.rmt_syntax.proofs.Machine.{stay, choose_now}
use Rattle.rmt_syntax.proofs.Checks.{in_order, sound, is_program, is_lower}
use Rattle.rmt_syntax.proofs.Sets.{all_at, subset, disjoint, disjoint_is, apart_both, apart_part}

program_is : (x : Phrase) → is_program x ≡ true → x ≡ Whole rule.Program
program_is (Whole rule.Program) h = refl
program_is _ h = cc

empty_is : (ps : List Part) (next : Phrase) → is_empty (ps, next) ≡ true → ps ≡ []
empty_is [] next h = refl
empty_is (p ∷ ps) next h = cc

apart_rest : (b : Bool) (xs ys zs : List Terminal) → (not b || subset xs ys) ≡ true → Apart ys zs → Apart xs (if b then zs else [])
apart_rest true xs ys zs h f = apart_part xs ys zs h f
apart_rest false xs ys zs h f = λ t m. refl

-- a form of a phrase keeps the order
order : (x : Phrase) (ps : List Part) (next : Phrase) (gs : List Goal) → in_order x ps next ≡ true
    → (x ≡ Whole rule.Program → gs ≡ shut rule.Program ∷ []) → Apart (tails x) (front gs) → Orderly gs → Orderly (map part ps ++ phrase next ∷ gs)
order x [] next gs h p apart o =
    let both = and_parts (subset (tails next) (tails x)) (not (is_program next) || is_program x) h in
    let is_last : next ≡ Whole rule.Program → gs ≡ shut rule.Program ∷ [] = λ e.
    let program : is_program next ≡ true = ap is_program e in
    elim (or_cases (not (is_program next)) (is_program x) both.1) [
      | inl a ↦ absurd (both_ways _ (not-true _ a) program)
      | inr a ↦ p (program_is x a)
    ] in
    (is_last, apart_part (tails next) (tails x) (front gs) both.0 apart, o)
order x (One c ∷ ps) next gs h p apart o =
    let both = and_parts (not (same c terminal.End) || (is_program x && is_empty (ps, next) && is_done next)) (in_order x ps next) h in
    let is_last : c ≡ terminal.End → (map part ps ++ phrase next ∷ gs) ≡ phrase Done ∷ shut rule.Program ∷ [] = λ e.
    elim (or_cases (not (same c terminal.End)) (is_program x && is_empty (ps, next) && is_done next) both.0) [
      | inl a ↦ absurd (both_ways _ (not-true _ a) (ap (λ v. same v terminal.End) e))
      | inr a ↦
          let first = and_parts (is_program x && is_empty (ps, next)) (is_done next) a in
          let second = and_parts (is_program x) (is_empty (ps, next)) first.0 in
          let e1 : ps ≡ [] = empty_is ps next second.1 in
          let e2 : next ≡ Done = done_is next first.1 in
          let e3 : gs ≡ shut rule.Program ∷ [] = p (program_is x second.0) in
          ap (λ v. map part v ++ phrase next ∷ gs) e1 ∙ ap (λ v. phrase v ∷ gs) e2 ∙ ap (λ v. phrase Done ∷ v) e3
    ] in
    (is_last, order x ps next gs both.1 p apart o)
order x (Node r ∷ []) next gs h p apart o =
    let first = and_parts (not (is_program (Whole r)) && disjoint (tails (Whole r)) (first_phrase next) && (not (may_end next) || subset (tails (Whole r)) (tails x))) (in_order x [] next) h in
    let second = and_parts (not (is_program (Whole r)) && disjoint (tails (Whole r)) (first_phrase next)) (not (may_end next) || subset (tails (Whole r)) (tails x)) first.0 in
    let third = and_parts (not (is_program (Whole r))) (disjoint (tails (Whole r)) (first_phrase next)) second.0 in
    let behind = apart_both (tails (Whole r)) (first_phrase next) _ (disjoint_is _ _ third.1) (apart_rest (may_end next) (tails (Whole r)) (tails x) (front gs) second.1 apart) in
    ((λ e. both_ways _ (not-true _ third.0) (ap (λ v. is_program (Whole v)) e)), behind, order x [] next gs first.1 p apart o)
order x (Node r ∷ q ∷ ps) next gs h p apart o =
    let first = and_parts (not (is_program (Whole r)) && disjoint (tails (Whole r)) (first_form (q ∷ ps, next))) (in_order x (q ∷ ps) next) h in
    let second = and_parts (not (is_program (Whole r))) (disjoint (tails (Whole r)) (first_form (q ∷ ps, next))) first.0 in
    let behind = subst (λ v. Apart (tails (Whole r)) v) (sym (front_part q ps next (map part ps ++ phrase next ∷ gs))) (disjoint_is _ _ second.1) in
    ((λ e. both_ways _ (not-true _ second.0) (ap (λ v. is_program (Whole v)) e)), behind, order x (q ∷ ps) next gs first.1 p apart o)

-- what reads as a form reads as one that is the same
pub as_form : {ps qs : List Part} {x y : Phrase} {ms : List Mark} (gs : List Goal) → ◌≡◌ {A = Option Form} (Some (ps, x)) (Some (qs, y)) → Reads (map part ps ++ phrase x ∷ gs) ms
    → Reads (map part qs ++ phrase y ∷ gs) ms
as_form {ps} {qs} {x} {y} {ms} gs h d = let e : ◌≡◌ {A = Form} (ps, x) (qs, y) = cc in subst (λ (f : Form). Reads (map part f.0 ++ phrase f.1 ∷ gs) ms) e d

pub found_at : (p : Form → Bool) (fs : List Form) (f : Form) → find p fs ≡ Some f → (i : ℕ) × (slice_get fs i ≡ Some f)
found_at p [] f h = cc
found_at p (g ∷ gs) f h = elim (cases_Bool (p g)) [
  | inl e ↦ (0, sym (cond-true (p g) (Some g) (find p gs) e) ∙ h)
  | inr e ↦ (let k = found_at p gs f (sym (cond-false (p g) (Some g) (find p gs) e) ∙ h) in (suc k.0, k.1))
]

pub choose_stands : {tokens : List Token} {at : ℕ} {t : Token} {x : Phrase} {ps : List Part} {next : Phrase} {gs : List Goal} {seen : List Mark} {depth : ℕ} → slice_get tokens at ≡ Some t
    → is_operand_name x (terminal_of t.what) ≡ false → is_done x ≡ false → choice_of x (terminal_of t.what) ≡ Some (ps, next)
    → IsBefore tokens at (phrase x ∷ gs) seen depth → IsBefore tokens at (map part ps ++ phrase next ∷ gs) seen depth
choose_stands {t = t} {x = x} {ps = ps} {next = next} {gs = gs} here name undone found s =
    let at = found_at (λ (form : Form). may_begin form (terminal_of t.what)) (choices x) (ps, next) found in
    stay here s (λ ms d. choose at.0 ps next at.1 d)
    (λ ms more d e. let n = choose_now undone d in as_form gs (sym (chosen x t more n.0 n.1 n.2 gs ms n.3 n.4 e s.orderly.1 name) ∙ found) n.4)
    (order x ps next gs (all_at (λ (f : Form). in_order x f.0 f.1) (choices x) at.0 (ps, next) (sound x).order at.1) s.orderly.0 s.orderly.1 s.orderly.2)

pub enter_lowers : (r : Rule) (gs : List Goal) → weight (phrase (Whole r) ∷ shut r ∷ gs) < weight (part (Node r) ∷ gs)
enter_lowers r gs =
    let ends : may_end (Whole r) ≡ false = not-true _ (and_parts (not (may_end (Whole r))) (subset (first_phrase (Whole r)) (first_of r)) (sound (Whole r)).begins).0 in
    omega (arith, cond-false (may_end (Whole r)) ((if is_done (Whole r) then 0 else 1) + weight (shut r ∷ gs)) (height (Whole r)) ends)

form_lowers : (x : Phrase) (i : ℕ) (ps : List Part) (next : Phrase) (gs : List Goal) → slice_get (choices x) i ≡ Some (ps, next) → is_done x ≡ false
    → weight (map part ps ++ phrase next ∷ gs) < weight (phrase x ∷ gs)
form_lowers x i [] next gs e d =
    let ends = empty_ends x i next e in
    let now = cond-true (may_end x) ((if is_done x then 0 else 1) + weight gs) (height x) ends.0 in
    let behind : weight (phrase next ∷ gs) ≡ 1 + (0 + weight gs) = ap (λ v. weight (phrase v ∷ gs)) (done_is next ends.1) in
    omega (arith, now, cond-false {A = ℕ} (is_done x) 0 1 d, behind)
form_lowers x i (One c ∷ ps) next gs e d = omega arith
form_lowers x i (Node r ∷ ps) next gs e d =
    let both = and_parts (nat_lt (1 + height (Whole r)) (height x)) (not (may_end x)) (all_at (is_lower x) (choices x) i (Node r ∷ ps, next) (sound x).lower e) in
    omega (arith, cond-false (may_end x) ((if is_done x then 0 else 1) + weight gs) (height x) (not-true _ both.1), ltb-true (1 + height (Whole r)) (height x) both.0)

pub choose_lowers : (x : Phrase) (t : Terminal) (ps : List Part) (next : Phrase) (gs : List Goal) → choice_of x t ≡ Some (ps, next) → is_done x ≡ false
    → weight (map part ps ++ phrase next ∷ gs) < weight (phrase x ∷ gs)
choose_lowers x t ps next gs found d = let at = found_at (λ (form : Form). may_begin form t) (choices x) (ps, next) found in form_lowers x at.0 ps next gs at.1 d
