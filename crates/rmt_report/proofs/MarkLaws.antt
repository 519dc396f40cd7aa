-- Marks of words, step by step.
use Rattle.std.proofs.Common.{◌≡◌, ℕ, ◌+◌, ◌<◌, List, [], ◌∷◌, ◌++◌, Bool, true, cond, eqb, length, get_or, take, set, append_assoc, append-nil, subst, sym, ap, ◌∙◌}
use Rattle.std.specs.List.{flat_map}
use Rattle.rmt_config.specs.LimitSteps.{Marks}
use Rattle.rmt_config.proofs.LimitLemmas.{one_marked, flat_more}
use Rattle.rmt_bits.specs.Words.{word_size}
use Rattle.rmt_report.specs.Marked.{MarksAlso}

-- 1 for a word of so many bits, 0 for another
abbrev pub one_of_size : ℕ → ℕ → ℕ
one_of_size size word = cond (eqb (word_size word) size) 1 0

pub also_none : (marks : List Bool) → MarksAlso [] marks marks
also_none marks = record { also = λ ns m. subst (λ (ws : List ℕ). Marks ws marks) (sym (append-nil ns)) m }

pub also_one : (word : ℕ) (marks : List Bool) → word < 256 → MarksAlso (word ∷ []) marks (set marks word true)
also_one word marks byte = record { also = λ ns m. one_marked ns marks word byte m }

-- one after the other
pub also_both : (xs ys : List ℕ) (a b c : List Bool) → MarksAlso xs a b → MarksAlso ys b c → MarksAlso (xs ++ ys) a c
also_both xs ys a b c first second =
    record { also = λ ns m. subst (λ (ws : List ℕ). Marks ws c) (append_assoc ns xs ys) (second.also (ns ++ xs) (first.also ns m)) }

-- one item more of a list
pub also_more : {X : Type 0} (f : X → List ℕ) (xs : List X) (i : ℕ) (x : X) (a b c : List Bool) → i < length xs → x ≡ get_or xs i x
    → MarksAlso (flat_map f (take i xs)) a b → MarksAlso (f x) b c → MarksAlso (flat_map f (take (i + 1) xs)) a c
also_more f xs i x a b c lt is first second =
    subst (λ (ws : List ℕ). MarksAlso ws a c) (ap (λ y. flat_map f (take i xs) ++ f y) is ∙ flat_more f xs i x lt) (also_both (flat_map f (take i xs)) (f x) a b c first second)

-- the items of a list behind other words
pub also_list : {X : Type 0} (f : X → List ℕ) (ws : List ℕ) (xs ys : List X) (a b c : List Bool) → xs ≡ ys
    → MarksAlso ws a b → MarksAlso (flat_map f xs) b c → MarksAlso (ws ++ flat_map f ys) a c
also_list {X = X} f ws xs ys a b c is first second = also_both ws (flat_map f ys) a b c first (subst (λ (zs : List X). MarksAlso (flat_map f zs) b c) is second)
