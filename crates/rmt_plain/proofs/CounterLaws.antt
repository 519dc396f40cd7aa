-- Counters take a number more.
use Rattle.std.proofs.Common.{◌≡◌, ℕ, ◌++◌, Bool, true, false, true≢false, ◌==◌, cond, List, [], ◌∷◌, map, refl, sym, ap, subst, ◌∙◌, tests, arith}
use Rattle.std.specs.Prelude.{All, Contains}
use Rattle.std.specs.List.{list_any}
use Rattle.std.proofs.lemmas.Bool.{eqb-true}
use Rattle.std.proofs.lemmas.List.Elements.{All-head, All-tail, All-nil, All-cons, All-contains_itself, All-weaker, Contains-append_left}
use Rattle.rmt_bits.specs.Counts.{Hit, count_for, counts, in_order}
use Rattle.rmt_bits.specs.Counting.{hits_among, with_count}
use Rattle.rmt_bits.proofs.MemberLaws.{list_any-Contains}
use Rattle.rmt_bits.proofs.AlikeLaws.{map_alike}
use Rattle.rmt_bits.proofs.OrderLaws.{All-with_number, counts-with_count, in_order_push, count_parts}
use Rattle.rmt_plain.specs.Counters.{IsThereIfHit}
use Rattle.rmt_bits.proofs.ListLaws.{sum_by-filter_all}

All-in_order : (P : ℕ → Type 0) (ns : List ℕ) → All P ns → All P (in_order ns)
All-in_order P [] all = All-nil P
All-in_order P (n ∷ ns) all = All-with_number P n (in_order ns) (All-head P n ns all) (All-in_order P ns (All-tail P n ns all))

-- a number that is among others if it was hit: the hits of the others are all that count
among_kept : (numbers : List ℕ) (hits : List Hit) (m : ℕ) → IsThereIfHit numbers hits m → count_for (hits_among numbers hits) m ≡ count_for hits m
among_kept numbers hits m there = count_parts m (sum_by-filter_all _ test hits (off (λ h. 1))) (sum_by-filter_all _ test hits (off (λ h. h.bytes)))
  where
    test : Hit → Bool
    test h = list_any (λ k. k == h.number) numbers

    passes : (h : Hit) → Contains numbers h.number → test h ≡ true
    passes h c = let same : (h.number == h.number) ≡ true = grind (arith, tests) in list_any-Contains (λ k. k == h.number) numbers h.number c same

    off : (f : Hit → ℕ) → All (λ (h : Hit). test h ≡ false → cond (h.number == m) (f h) 0 ≡ 0) hits
    off f = All-weaker (λ (h : Hit). h.number ≡ m → Contains numbers m) (λ (h : Hit). test h ≡ false → cond (h.number == m) (f h) 0 ≡ 0) one hits there
      where
        one : (h : Hit) → (h.number ≡ m → Contains numbers m) → test h ≡ false → cond (h.number == m) (f h) 0 ≡ 0
        one h known out = by (h.number == m) refl
          where
            by : (b : Bool) → (h.number == m) ≡ b → cond b (f h) 0 ≡ 0
            by true e = let is = eqb-true h.number m e in absurd (true≢false (sym (passes h (subst (Contains numbers) (sym is) (known is))) ∙ out))
            by false e = refl

-- a number that others have is there
pub there_of_all : (numbers : List ℕ) (hits : List Hit) → All (IsThereIfHit numbers hits) numbers
there_of_all numbers hits = All-weaker (Contains numbers) (IsThereIfHit numbers hits) (λ n c k d lt e. c) numbers (All-contains_itself numbers)

-- counters take a number that was not hit, or that they have
pub counts_push : (numbers : List ℕ) (hits : List Hit) (n : ℕ) → IsThereIfHit numbers hits n → with_count n (counts numbers hits) ≡ counts (numbers ++ n ∷ []) hits
counts_push numbers hits n there =
    counts-with_count numbers hits n
    ∙ map_alike (count_for (hits_among numbers hits)) (count_for hits) (in_order (n ∷ numbers))
    (All-in_order (λ m. count_for (hits_among numbers hits) m ≡ count_for hits m) (n ∷ numbers)
    (All-weaker (IsThereIfHit numbers hits) (λ m. count_for (hits_among numbers hits) m ≡ count_for hits m) (among_kept numbers hits) (n ∷ numbers)
    (All-cons (IsThereIfHit numbers hits) n numbers there (there_of_all numbers hits))))
    ∙ ap (map (count_for hits)) (sym (in_order_push numbers n))

-- what is there among some numbers is there among more
pub there_more : (numbers more : List ℕ) (hits : List Hit) (n : ℕ) → IsThereIfHit numbers hits n → IsThereIfHit (numbers ++ more) hits n
there_more numbers more hits n there =
    All-weaker (λ (h : Hit). h.number ≡ n → Contains numbers n) (λ (h : Hit). h.number ≡ n → Contains (numbers ++ more) n)
    (λ h known e. Contains-append_left numbers more n (known e)) hits there
