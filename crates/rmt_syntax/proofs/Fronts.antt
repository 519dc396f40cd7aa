-- What comes next is among the terminals that may.
use Rattle.rmt_syntax.proofs.Words.{◌≡◌, ◌∙◌, inl, inr, ℕ, zero, suc, true, false, cond-true, cond-false, sym, ap, refl, subst, List, [], ◌∷◌, ◌++◌, Some, map, ◌&&◌, ◌||◌, not, slice_get, list_all, flat_map, find, false_from_ne_true, Token, Terminal, Rule, Part, One, Node, Phrase, Whole, Done, Form, choices, terminal_of, Mark, tokens_in, Goal, part, phrase, shut, Reads, nothing, token, node, end, done, choose, same, member, first_of, first_form, first_phrase, may_begin, is_empty, is_done, may_end, front, tails, Apart, choice_of, is_operand_name, and_parts, or_cases, or_right, or-false, not-true, both_ways}
use Rattle.rmt_syntax.proofs.Sets.{all_member, all_at, any_at, member_here, member_left, member_right, member_either, subset_is, subset}
use Rattle.rmt_syntax.proofs.Checks.{distinct, ends_well, sound, differ}

-- what a form may begin with its phrase may begin with
pub member_form : (t : Terminal) (fs : List Form) (i : ℕ) (f : Form) → slice_get fs i ≡ Some f → member t (first_form f) ≡ true → member t (flat_map first_form fs) ≡ true
member_form t [] i f e m = cc
member_form t (g ∷ gs) zero f e m = let same : f ≡ g = cc in member_left t (first_form g) _ (subst (λ v. member t (first_form v) ≡ true) same m)
member_form t (g ∷ gs) (suc i) f e m = member_right t (first_form g) _ (member_form t gs i f e m)

-- an empty form is behind a phrase that may end, and ends it
pub empty_ends : (x : Phrase) (i : ℕ) (next : Phrase) → slice_get (choices x) i ≡ Some ([], next) → (may_end x ≡ true) × (is_done next ≡ true)
empty_ends x i next e = (or_right (is_done x) _ (any_at is_empty (choices x) i ([], next) refl e), all_at ends_well (choices x) i ([], next) (sound x).ends e)

pub done_is : (x : Phrase) → is_done x ≡ true → x ≡ Done
done_is Done h = refl
done_is _ h = cc

pub front_part : (p : Part) (ps : List Part) (next : Phrase) (gs : List Goal) → front (part p ∷ gs) ≡ first_form (p ∷ ps, next)
front_part (One c) ps next gs = refl
front_part (Node r) ps next gs = refl

-- the text of a rule begins as it says
rule_begins : (t : Terminal) (r : Rule) (gs : List Goal) → member t (front (phrase (Whole r) ∷ gs)) ≡ true → member t (first_of r) ≡ true
rule_begins t r gs m =
    let both = and_parts (not (may_end (Whole r))) (subset (first_phrase (Whole r)) (first_of r)) (sound (Whole r)).begins in
    elim (member_either t (first_phrase (Whole r)) _ m) [
      | inl k ↦ subset_is (first_phrase (Whole r)) (first_of r) both.1 t k
      | inr k ↦ (let none : false ≡ true = subst (λ v. member t v ≡ true) (cond-false (may_end (Whole r)) (front gs) [] (not-true _ both.0)) k in cc)
    ]

-- a form's phrase begins as the form does
form_begins : (t : Terminal) (x : Phrase) (i : ℕ) (parts : List Part) (next : Phrase) (gs : List Goal) → slice_get (choices x) i ≡ Some (parts, next)
    → member t (front (map part parts ++ phrase next ∷ gs)) ≡ true → member t (front (phrase x ∷ gs)) ≡ true
form_begins t x i [] next gs e m =
    let ends = empty_ends x i next e in
    let behind : member t (front gs) ≡ true = subst (λ (n : Phrase). member t (front (phrase n ∷ gs)) ≡ true) (done_is next ends.1) m in
    member_right t (first_phrase x) _ (subst (λ v. member t v ≡ true) (sym (cond-true (may_end x) (front gs) [] ends.0)) behind)
form_begins t x i (p ∷ ps) next gs e m =
    member_left t (first_phrase x) _
    (member_form t (choices x) i (p ∷ ps, next) e (subst (λ v. member t v ≡ true) (front_part p ps next (map part ps ++ phrase next ∷ gs)) m))

-- where marks of what is to come have a token, it is first one that may come next
pub first_token : {gs : List Goal} {ms : List Mark} (t : Token) (more : List Token) → Reads gs ms → tokens_in ms ≡ t ∷ more → member (terminal_of t.what) (front gs) ≡ true
first_token t more nothing e = cc
first_token t more (token {c = c} {t = u} is d) e = let same : u ≡ t = cc in member_here (terminal_of t.what) c [] (sym is ∙ ap (λ (v : Token). terminal_of v.what) same)
first_token t more (node {r = r} {gs = gs} d) e = rule_begins (terminal_of t.what) r (shut r ∷ gs) (first_token t more d e)
first_token t more (end d) e = first_token t more d e
first_token t more (done d) e = first_token t more d e
first_token t more (choose {x = x} {gs = gs} i parts next is d) e = form_begins (terminal_of t.what) x i parts next gs is (first_token t more d e)

begins_as : (f : Form) (t : Terminal) → is_empty f ≡ false → may_begin f t ≡ member t (first_form f)
begins_as ([], next) t h = cc
begins_as (One c ∷ ps, next) t h = sym (or-false (same c t))
begins_as (Node r ∷ ps, next) t h = refl

-- the form that may begin with a terminal is found, where none before it begins with it
find_form : (x : Phrase) (t : Terminal) (fs : List Form) (i : ℕ) (f : Form) → distinct x fs ≡ true → slice_get fs i ≡ Some f → may_begin f t ≡ true
    → ((j : ℕ) (g : Form) → slice_get fs j ≡ Some g → differ x (first_form g) (first_form f) ≡ true → member t (first_form g) ≡ true → ⊥)
    → find (λ (form : Form). may_begin form t) fs ≡ Some f
find_form x t [] i f d e m n = cc
find_form x t (g ∷ fs) zero f d e m n = let same : f ≡ g = cc in cond-true (may_begin g t) (Some g) _ (subst (λ v. may_begin v t ≡ true) same m) ∙ ap Some (sym same)
find_form x t (g ∷ []) (suc i) f d e m n = cc
find_form x t (g ∷ h ∷ fs) (suc i) f d e m n =
    let first = and_parts (not (is_empty g) && list_all (λ (other : Form). differ x (first_form g) (first_form other)) (h ∷ fs)) (distinct x (h ∷ fs)) d in
    let both = and_parts (not (is_empty g)) _ first.0 in
    let other : differ x (first_form g) (first_form f) ≡ true = all_at (λ (other : Form). differ x (first_form g) (first_form other)) (h ∷ fs) i f both.1 e in
    let passes : may_begin g t ≡ false = false_from_ne_true (may_begin g t) (λ k. n 0 g refl other (sym (begins_as g t (not-true _ both.0)) ∙ k)) in
    cond-false (may_begin g t) (Some g) _ passes ∙ find_form x t (h ∷ fs) i f first.1 e m (λ j. n (suc j))

-- the form that the text goes on with is the one that is found
pub chosen : (x : Phrase) (t : Token) (more : List Token) (i : ℕ) (parts : List Part) (next : Phrase) (gs : List Goal) (ms : List Mark) → slice_get (choices x) i ≡ Some (parts, next)
    → Reads (map part parts ++ phrase next ∷ gs) ms → tokens_in ms ≡ t ∷ more → Apart (tails x) (front gs) → is_operand_name x (terminal_of t.what) ≡ false
    → choice_of x (terminal_of t.what) ≡ Some (parts, next)
chosen x t more i [] next gs ms e d is apart o =
    let c : Terminal = terminal_of t.what in
    let ends = empty_ends x i next e in
    let behind : member c (front gs) ≡ true = subst (λ (n : Phrase). member c (front (phrase n ∷ gs)) ≡ true) (done_is next ends.1) (first_token t more d is) in
    find_form x c (choices x) i ([], next) (sound x).distinct_forms e refl (λ j g k other here.
    elim (or_cases (not (may_end x)) (subset (first_phrase x) (tails x)) (sound x).goes_on) [
      | inl a ↦ both_ways _ (not-true _ a) ends.0
      | inr a ↦ both_ways _ (apart c (subset_is (first_phrase x) (tails x) a c (member_form c (choices x) j g k here))) behind
    ])
chosen x t more i (p ∷ ps) next gs ms e d is apart o =
    let c : Terminal = terminal_of t.what in
    let f : Form = (p ∷ ps, next) in
    let m : member c (first_form f) ≡ true = subst (λ v. member c v ≡ true) (front_part p ps next (map part ps ++ phrase next ∷ gs)) (first_token t more d is) in
    find_form x c (choices x) i f (sound x).distinct_forms e (begins_as f c refl ∙ m) (λ j g k other here.
    elim (or_cases (not (member c (first_form f))) (is_operand_name x c) (all_member (λ v. not (member v (first_form f)) || is_operand_name x v) (first_form g) c other here)) [
      | inl a ↦ both_ways _ (not-true _ a) m
      | inr a ↦ both_ways _ o a
    ])
