-- What is read at a place among some parts, and what a tree of the control adds.
use Rattle.std.proofs.Common.{◌≡◌, ◌∙◌, ℕ, zero, suc, ◌+◌, ◌<◌, ◌≤◌, List, [], ◌∷◌, ◌++◌, Bool, true, false, if◌then◌else◌, Option, Some, None, option_to_list, Result, Ok, Err, IsOk, IfOk, fold, map, filter_map, length, drop, refl, sym, ap, arith, add-one, append_assoc}
use Rattle.std.specs.List.{cons_option, enumerate_from}
use Rattle.std.specs.Option.{option_or}
use Rattle.std.proofs.lemmas.List.{append-nil, drop_all}
use Rattle.rmt_check.specs.Parts.{Token, Rule, Under, NodeText}
use Rattle.rmt_check.proofs.Finding.{cons_list}
use Rattle.rmt_syntax.specs.declared.tree.Tree.{Tree, One, Many, out-Tree, out-roll-Tree}
use Rattle.rmt_syntax.specs.declared.tree.Tree.TheOpen as tree
use Rattle.rmt_syntax.specs.declared.tree.Tree.TheVariants.{rolls-One, rolls-Many}
use Rattle.rmt_syntax.specs.declared.tree.Tree.TheFolds.{fold-Tree, fold-roll-Tree}
use Rattle.rmt_check.specs.Reading.{parts_of, each, first, node_text, Adds, Read, all_added, arm_adds, with_arm, statement_added, is_statement, text_added, reads, layer_added, added}

pub one : (t : Token) → out-Tree (One t) ≡ tree.One t
one t = ap out-Tree (sym (rolls-One t)) ∙ out-roll-Tree (tree.One t)

pub many : (r : Rule) (v : List Tree) → out-Tree (Many r v) ≡ tree.Many r v
many r v = ap out-Tree (sym (rolls-Many r v)) ∙ out-roll-Tree (tree.Many r v)

pub each_here : {A : Type 0} (see : List Tree → Option A) (ts : List Tree) (n : ℕ) → n < length ts → each see (drop n ts) ≡ cons_option (see (drop n ts)) (each see (drop (n + 1) ts))
each_here see [] n lt = absurd (omega arith)
each_here see (t ∷ ts) zero lt = refl
each_here see (t ∷ ts) (suc n) lt = rw add-one (rw add-one at (each_here see ts n (omega arith)))

pub first_here : {A : Type 0} (see : List Tree → Option A) (ts : List Tree) (n : ℕ) → n < length ts → first see (drop n ts) ≡ option_or (see (drop n ts)) (first see (drop (n + 1) ts))
first_here see [] n lt = absurd (omega arith)
first_here see (t ∷ ts) zero lt = refl
first_here see (t ∷ ts) (suc n) lt = rw add-one (rw add-one at (first_here see ts n (omega arith)))

-- what is read at a place joins what was read before it
pub each_more : {A E : Type 0} (see : List Tree → Option A) (ts us : List Tree) (n : ℕ) (found next all : List A) (read : Result (Option A) E) → n < length ts → us ≡ drop n ts
    → found ++ each see (drop n ts) ≡ all → IfOk read (λ part. part ≡ see us) → IsOk read × IfOk read (λ part. next ≡ found ++ option_to_list part) → next ++ each see (drop (n + 1) ts) ≡ all
each_more {A = A} see ts us n found next all (Ok o) lt at so_far is put =
    let rest : List A = each see (drop (n + 1) ts) in
    let here : each see (drop n ts) ≡ option_to_list o ++ rest = each_here see ts n lt ∙ ap (λ p. cons_option p rest) (sym (is ∙ ap see at)) ∙ cons_list o rest in
    ap (λ ys. ys ++ rest) put.1 ∙ append_assoc found (option_to_list o) rest ∙ ap (λ ys. found ++ ys) (sym here) ∙ so_far
each_more see ts us n found next all (Err e) lt at so_far is put = grind arith

-- there is no more
pub each_over : {A : Type 0} (see : List Tree → Option A) (ts : List Tree) (n : ℕ) (found all : List A) → length ts ≤ n → found ++ each see (drop n ts) ≡ all → found ≡ all
each_over see ts n found all le so_far = sym (append-nil found) ∙ ap (λ us. found ++ each see us) (sym (drop_all n ts le)) ∙ so_far

-- what is found at a place is the first, where nothing was found before it
pub first_some : {A : Type 0} (see : List Tree → Option A) (ts : List Tree) (n : ℕ) (all : Option A) (x : A) → n < length ts → first see (drop n ts) ≡ all → see (drop n ts) ≡ Some x → Some x ≡ all
first_some see ts n all x lt so_far is = sym (first_here see ts n lt ∙ ap (λ o. option_or o (first see (drop (n + 1) ts))) is) ∙ so_far

pub first_none : {A : Type 0} (see : List Tree → Option A) (ts : List Tree) (n : ℕ) (all : Option A) → n < length ts → first see (drop n ts) ≡ all → see (drop n ts) ≡ None → first see (drop (n + 1) ts) ≡ all
first_none see ts n all lt so_far is = sym (first_here see ts n lt ∙ ap (λ o. option_or o (first see (drop (n + 1) ts))) is) ∙ so_far

-- nothing is found at all
pub first_over : {A : Type 0} (see : List Tree → Option A) (ts : List Tree) (n : ℕ) (all : Option A) → length ts ≤ n → first see (drop n ts) ≡ all → None ≡ all
first_over see ts n all le so_far = sym (ap (first see) (drop_all n ts le)) ∙ so_far

-- trees beside what they add
abbrev pub owns : List Tree → List Read
owns ts = map (λ t. (t, added t)) ts

pub reads_own : (ts : List Tree) → reads (map (fold-Tree (Tree → Adds) layer_added) ts) ts ≡ owns ts
reads_own [] = refl
reads_own (t ∷ ts) = ap (λ (rs : List Read). (t, added t) ∷ rs) (reads_own ts)

pub added_one : (t : Token) (under : Option Under) (before : List NodeText) → added (One t) under before ≡ before
added_one t under before =
    ap (λ (f : Tree → Adds). f (One t) under before) (ap (fold-Tree (Tree → Adds) layer_added) (sym (rolls-One t)) ∙ fold-roll-Tree (Tree → Adds) layer_added (tree.One t))

pub added_many : (r : Rule) (v : List Tree) → added (Many r v) ≡ text_added r (owns v)
added_many r v =
    ap (λ (f : Tree → Adds). f (Many r v)) (ap (fold-Tree (Tree → Adds) layer_added) (sym (rolls-Many r v)) ∙ fold-roll-Tree (Tree → Adds) layer_added (tree.Many r v))
    ∙ ap (λ x. text_added r (reads (map (fold-Tree (Tree → Adds) layer_added) v) (parts_of x))) (many r v) ∙ ap (text_added r) (reads_own v)

pub added_is : (r : Rule) (v : List Tree) (under : Option Under) (before : List NodeText) → added (Many r v) under before ≡ text_added r (owns v) under before
added_is r v under before = ap (λ (f : Adds). f under before) (added_many r v)

-- the arms among some trees
abbrev pub arms : List Tree → List Adds
arms ts = filter_map arm_adds (owns ts)

trees_of : (ts : List Tree) → map (λ (r : Read). r.0) (owns ts) ≡ ts
trees_of [] = refl
trees_of (t ∷ ts) = ap (λ us. t ∷ us) (trees_of ts)

abbrev pub adds_of : List Tree → List Adds
adds_of ts = map added ts

adds_are : (ts : List Tree) → map (λ (r : Read). r.1) (owns ts) ≡ adds_of ts
adds_are [] = refl
adds_are (t ∷ ts) = ap (λ fs. added t ∷ fs) (adds_are ts)

abbrev chosen : List Read → Bool → Adds
chosen rs b = if b then statement_added rs else all_added (map (λ (r : Read). r.1) rs)

pub added_statement : (r : Rule) (v : List Tree) (under : Option Under) (before : List NodeText) → is_statement r ≡ true
    → added (Many r v) under before ≡ fold (with_arm (length before)) (before ++ node_text under v ∷ []) (enumerate_from 0 (arms v))
added_statement r v under before h =
    ap (λ (f : Adds). f under before) (added_many r v ∙ ap (chosen (owns v)) h)
    ∙ ap (λ (ts : List Tree). fold (with_arm (length before)) (before ++ node_text under ts ∷ []) (enumerate_from 0 (arms v))) (trees_of v)

pub added_other : (r : Rule) (v : List Tree) (under : Option Under) (before : List NodeText) → is_statement r ≡ false → added (Many r v) under before ≡ all_added (adds_of v) under before
added_other r v under before h =
    ap (λ (f : Adds). f under before) (added_many r v ∙ ap (chosen (owns v)) h) ∙ ap (λ (fs : List Adds). all_added fs under before) (adds_are v)

pub ruleset added_laws = (added_one, added_statement, added_other)

pub ruleset places = (first_here)
