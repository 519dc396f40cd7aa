-- What the grammar wants to come, computed, and that marks of these shapes are read by it.
use Rattle.std.proofs.Common.{◌≡◌, subst, refl, ℕ, zero, suc, Bool, true, false, List, [], ◌∷◌, ◌++◌, map, drop, Option, Some, None}
use Rattle.std.specs.Prelude.{slice_get}
use Rattle.std.specs.List.{position_or_len}
use Rattle.rmt_syntax.specs.declared.tree.Rule.{Rule}
use Rattle.rmt_syntax.specs.declared.grammar.Part.TheVariants.{One, Node}
use Rattle.rmt_syntax.specs.declared.grammar.Phrase.{Phrase}
use Rattle.rmt_syntax.specs.declared.grammar.Phrase.TheVariants.{Whole, Done}
use Rattle.rmt_syntax.specs.Grammar.{Form, choices, terminal_of}
use Rattle.rmt_syntax.specs.Lookahead.{same, member, first_of}
use Rattle.rmt_syntax.specs.Trees.{Mark, leaf, opens, shuts, Goal, part, phrase, shut, Reads, nothing, token, node, end, done, choose}

-- a mark as the goal that it fulfils
abbrev pub shape : Mark → Goal
shape (leaf t) = part (One (terminal_of t.what))
shape (opens r) = part (Node r)
shape (shuts r) = shut r

-- the first token is one that the text of a rule may begin with
abbrev may_be : Rule → List Mark → Bool
may_be r [] = false
may_be r (leaf t ∷ ms) = member (terminal_of t.what) (first_of r)
may_be r (opens q ∷ ms) = may_be r ms
may_be r (shuts q ∷ ms) = false

-- a form that may stand before these marks
abbrev stands : List Mark → Form → Bool
stands ms ([], next) = true
stands (leaf t ∷ ms) (One c ∷ ps, next) = same c (terminal_of t.what)
stands (opens r ∷ ms) (Node q ∷ ps, next) = may_be q ms
stands _ _ = false

-- no mark has this shape
abbrev none : List Goal
none = phrase Done ∷ []

abbrev onward : (List Goal → List Goal) → List Goal → Option Form → List Goal
onward go gs None = none
onward go gs (Some form) = go (map part form.0 ++ phrase form.1 ∷ gs)

-- the shapes that have to come for some goals, in so many steps; the marks serve to choose the forms
abbrev pub shapes : ℕ → List Mark → List Goal → List Goal
shapes zero ms gs = none
shapes (suc k) ms [] = []
shapes (suc k) ms (part (One c) ∷ gs) = part (One c) ∷ shapes k (drop 1 ms) gs
shapes (suc k) ms (part (Node r) ∷ gs) = part (Node r) ∷ shapes k (drop 1 ms) (phrase (Whole r) ∷ shut r ∷ gs)
shapes (suc k) ms (shut r ∷ gs) = shut r ∷ shapes k (drop 1 ms) gs
shapes (suc k) ms (phrase Done ∷ gs) = shapes k ms gs
shapes (suc k) ms (phrase x ∷ gs) = onward (shapes k ms) gs (slice_get (choices x) (position_or_len (stands ms) (choices x)))

not_none : (ms : List Mark) → map shape ms ≡ none → ⊥
not_none [] e = cc
not_none (leaf t ∷ ms) e = cc
not_none (opens r ∷ ms) e = cc
not_none (shuts r ∷ ms) e = cc

read_form : (x : Phrase) (gs : List Goal) (ms : List Mark) (go : List Goal → List Goal) → ((hs : List Goal) → map shape ms ≡ go hs → Reads hs ms) → (i : ℕ) (o : Option Form) → slice_get (choices x) i ≡ o
    → map shape ms ≡ onward go gs o → Reads (phrase x ∷ gs) ms
read_form x gs ms go further i None is e = absurd (not_none ms e)
read_form x gs ms go further i (Some form) is e = choose i form.0 form.1 is (further (map part form.0 ++ phrase form.1 ∷ gs) e)

-- marks of these shapes are read
pub reads : (k : ℕ) (os : List Mark) (gs : List Goal) (ms : List Mark) → map shape ms ≡ shapes k os gs → Reads gs ms
reads zero os gs ms e = absurd (not_none ms e)
reads (suc k) os [] [] e = nothing
reads (suc k) os [] (m ∷ ms) e = cc
reads (suc k) os (part (One c) ∷ gs) [] e = cc
reads (suc k) os (part (One c) ∷ gs) (leaf t ∷ ms) e = token (cc) (reads k (drop 1 os) gs ms (cc))
reads (suc k) os (part (One c) ∷ gs) (opens r ∷ ms) e = cc
reads (suc k) os (part (One c) ∷ gs) (shuts r ∷ ms) e = cc
reads (suc k) os (part (Node r) ∷ gs) [] e = cc
reads (suc k) os (part (Node r) ∷ gs) (leaf t ∷ ms) e = cc
reads (suc k) os (part (Node r) ∷ gs) (opens q ∷ ms) e =
    let is : r ≡ q = cc in
    subst (λ x. Reads (part (Node r) ∷ gs) (opens x ∷ ms)) is (node (reads k (drop 1 os) (phrase (Whole r) ∷ shut r ∷ gs) ms (cc)))
reads (suc k) os (part (Node r) ∷ gs) (shuts q ∷ ms) e = cc
reads (suc k) os (shut r ∷ gs) [] e = cc
reads (suc k) os (shut r ∷ gs) (leaf t ∷ ms) e = cc
reads (suc k) os (shut r ∷ gs) (opens q ∷ ms) e = cc
reads (suc k) os (shut r ∷ gs) (shuts q ∷ ms) e =
    let is : r ≡ q = cc in
    subst (λ x. Reads (shut r ∷ gs) (shuts x ∷ ms)) is (end (reads k (drop 1 os) gs ms (cc)))
reads (suc k) os (phrase Done ∷ gs) ms e = done (reads k os gs ms e)
reads (suc k) os (phrase x ∷ gs) ms e = read_form x gs ms (shapes k os) (λ hs h. reads k os hs ms h) _ (slice_get (choices x) (position_or_len (stands os) (choices x))) refl e
