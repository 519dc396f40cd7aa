-- Counters take a number more.
use Rattle.std.proofs.Common.{◌≡◌, ℕ, ◌+◌, ◌<◌, ◌++◌, true, ◌==◌, List, [], ◌∷◌, length, get_or, take, map, sym, ap, ◌∙◌, tests, arith}
use Rattle.std.specs.Prelude.{Contains}
use Rattle.std.specs.List.{flat_map, list_any}
use Rattle.std.proofs.lemmas.List.{append-nil, append_assoc, take_more}
use Rattle.std.proofs.lemmas.List.Concat.{flat_map-append}
use Rattle.std.proofs.lemmas.List.Elements.{All-weaker}
use Rattle.rmt_bits.specs.Counts.{Hit, count_for, counts}
use Rattle.rmt_bits.specs.Counting.{hits_among, with_count}
use Rattle.rmt_bits.proofs.AlikeLaws.{filter_all}
use Rattle.rmt_bits.proofs.MemberLaws.{list_any-Contains}
use Rattle.rmt_bits.proofs.OrderLaws.{counts-with_count, in_order_push}
use Rattle.rmt_chip.specs.Counting.{AreAmong}

-- hits of numbers that have counters are all kept
among-all : (numbers : List ℕ) (hits : List Hit) → AreAmong numbers hits → hits_among numbers hits ≡ hits
among-all numbers hits all =
    filter_all (λ (h : Hit). list_any (λ m. m == h.number) numbers) hits
    (All-weaker (λ (h : Hit). Contains numbers h.number) (λ (h : Hit). list_any (λ m. m == h.number) numbers ≡ true)
    (λ h there. list_any-Contains (λ m. m == h.number) numbers h.number there (same h.number)) hits all)
  where
    same : (n : ℕ) → (n == n) ≡ true
    same n = grind (arith, tests)

pub counts-push : (numbers : List ℕ) (hits : List Hit) (n : ℕ) → AreAmong numbers hits → with_count n (counts numbers hits) ≡ counts (numbers ++ n ∷ []) hits
counts-push numbers hits n all =
    counts-with_count numbers hits n
    ∙ ap (counts (n ∷ numbers)) (among-all numbers hits all)
    ∙ ap (map (count_for hits)) (sym (in_order_push numbers n))

-- the numbers of one more
pub flat-next : {X : Type 0} (f : X → List ℕ) (xs : List X) (i : ℕ) (it : X) (start was new : List ℕ) → i < length xs → it ≡ get_or xs i it
    → was ≡ start ++ flat_map f (take i xs) → new ≡ was ++ f it → new ≡ start ++ flat_map f (take (i + 1) xs)
flat-next {X} f xs i it start was new lt is before now =
    let front = flat_map f (take i xs) in
    let next : flat_map f (take (i + 1) xs) ≡ front ++ f it =
    ap (flat_map f) (take_more xs i it lt) ∙ flat_map-append f (take i xs) (get_or xs i it ∷ []) ∙ ap (λ (ns : List ℕ). front ++ ns) (append-nil (f (get_or xs i it)))
    ∙ ap (λ (x : X). front ++ f x) (sym is) in
    now ∙ ap (λ (ns : List ℕ). ns ++ f it) before ∙ append_assoc start front (f it) ∙ ap (λ (ns : List ℕ). start ++ ns) (sym next)
