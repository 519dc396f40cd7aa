-- The first match in the order of ranking is what a table hits.
use Rattle.std.proofs.Common.{◌≡◌, ◌≢◌, ℕ, zero, suc, ◌+◌, ◌-◌, ◌^◌, ◌<◌, ◌≤◌, Bool, true, false, not, ◌&&◌, ◌||◌, ◌==◌, List, length, get_or, Option, Some, None, ◌⊎◌, inl, inr, refl, sym, ap, subst, ◌∙◌, tests, arith}
use Rattle.std.specs.Prelude.{⊤, All, AllPairs, find, nat_lt}
use Rattle.std.specs.List.{list_all}
use Rattle.std.specs.Ordering.{nat_cmp, is_lt}
use Rattle.std.specs.List.Sorted.{IsSortedByKey}
use Rattle.std.proofs.lemmas.Bool.{false≢true, ltb-false, le-ltb, and_parts, not-true, false_from_ne_true, cases_lt}
use Rattle.std.proofs.lemmas.List.{get_or_default}
use Rattle.std.proofs.lemmas.List.Sums.{AllPass-from_list_all, list_all-from_AllPass}
use Rattle.std.proofs.lemmas.List.Sorted.{IsPermutation-sym, All-permutation, Contains-permutation, ties_still_rise}
use Rattle.rmt_ast.specs.declared.program.Kind.{Kind}
use Rattle.rmt_ast.specs.declared.program.Kind.TheVariants.{Keyless, Exact, Prefix, Ternary}
use Rattle.rmt_ast.specs.declared.entry.Entry.{Entry}
use Rattle.rmt_ast.specs.Lookup.{matches, precedes, hits}
use Rattle.rmt_plain.specs.Ranking.{weight_of, IsRanked}
use Rattle.rmt_plain.proofs.FindLaws.{IsFirst, first_from_find, find-first, none_from_find, find-none}
use Rattle.rmt_bits.proofs.TestLaws.{and_false_right}

abbrev weight : Kind → Entry → ℕ
weight kind e = weight_of kind e.rank

-- the rank of a prefix is a number of 32 bits
abbrev pub IsSmall : Kind → Entry → Type 0
IsSmall Keyless e = ⊤
IsSmall Exact e = ⊤
IsSmall Prefix e = e.rank ≤ 2 ^ 32 - 1
IsSmall Ternary e = ⊤

-- a is no later choice than b
record Before (kind : Kind) (a b : Entry) : Type 0 where
  lighter : weight kind a ≤ weight kind b
  earlier : weight kind a ≡ weight kind b → a.number ≤ b.number

or_parts : (a b : Bool) → (a || b) ≡ false → (a ≡ false) × (b ≡ false)
or_parts true b h = absurd (false≢true (sym h))
or_parts false b h = (refl, h)

-- of two, the later choice does not precede the other
not_preceded : (kind : Kind) (a b : Entry) → IsSmall kind a → IsSmall kind b → Before kind a b → precedes kind b a ≡ false
not_preceded Keyless a b sa sb h = refl
not_preceded Exact a b sa sb h = refl
not_preceded Prefix a b sa sb h = let le = h.lighter in le-ltb a.rank b.rank (omega arith)
not_preceded Ternary a b sa sb h =
    by (nat_lt b.rank a.rank) (b.rank == a.rank) (le-ltb b.rank a.rank (let le = h.lighter in le)) (λ e. le-ltb b.number a.number (h.earlier (sym (grind_eq b.rank a.rank e))))
  where
    grind_eq : (x y : ℕ) → (x == y) ≡ true → x ≡ y
    grind_eq x y e = grind (arith, tests)

    by : (x y : Bool) → x ≡ false → (y ≡ true → nat_lt b.number a.number ≡ false) → (x || (y && nat_lt b.number a.number)) ≡ false
    by true y h k = absurd (false≢true (sym h))
    by false true h k = k refl
    by false false h k = refl

-- where neither precedes the other, the choice is by number
by_number : (kind : Kind) (a b : Entry) → kind ≢ Keyless → IsSmall kind a → IsSmall kind b → Before kind a b → precedes kind a b ≡ false → a.number ≤ b.number
by_number Keyless a b keyed sa sb h e = absurd (keyed refl)
by_number Exact a b keyed sa sb h e = h.earlier refl
by_number Prefix a b keyed sa sb h e =
    let le = h.lighter in
    let ge : a.rank ≤ b.rank = ltb-false b.rank a.rank e in
    h.earlier (omega arith)
by_number Ternary a b keyed sa sb h e =
    let le = h.lighter in
    let ge : b.rank ≤ a.rank = ltb-false a.rank b.rank (or_parts (nat_lt a.rank b.rank) (a.rank == b.rank && nat_lt a.number b.number) e).0 in
    h.earlier (omega arith)

module _ (kind : Kind) (es rs : List Entry) (rising : AllPairs (λ (a b : Entry). a.number < b.number) es) (ranked : IsRanked kind es rs) where
  sorted_by_number : IsSortedByKey (λ (e : Entry). e.number) nat_cmp es
  sorted_by_number k d low inside =
      let up : (get_or es k d).number < (get_or es (k + 1) d).number = rising k (k + 1) d (omega arith) inside in
      not_lt (get_or es (k + 1) d).number (get_or es k d).number up
    where
      not_lt : (a b : ℕ) → b < a → is_lt (nat_cmp a b) ≡ false
      not_lt a b h = grind (arith, tests)

  next_rises : (k : ℕ) (d : Entry) → k + 1 < length rs → weight kind (get_or rs k d) ≡ weight kind (get_or rs (k + 1) d) → (get_or rs k d).number ≤ (get_or rs (k + 1) d).number
  next_rises = ties_still_rise (λ (e : Entry). e.number) (λ (e : Entry). weight kind e) es rs sorted_by_number ranked.stable

  far_rises : (i m : ℕ) (d : Entry) → i + m < length rs → weight kind (get_or rs i d) ≡ weight kind (get_or rs (i + m) d) → (get_or rs i d).number ≤ (get_or rs (i + m) d).number
  far_rises i zero d inside same = let at : i + 0 ≡ i = omega arith in subst (λ j. (get_or rs i d).number ≤ (get_or rs j d).number) (sym at) (omega arith)
  far_rises i (suc m) d inside same =
      let at : i + suc m ≡ (i + m) + 1 = omega arith in
      let low = ranked.by_weight i (i + m) d (omega arith) (omega arith) in
      let high : weight kind (get_or rs (i + m) d) ≤ weight kind (get_or rs (i + suc m) d) = ranked.by_weight (i + m) (i + suc m) d (omega arith) inside in
      let here : weight kind (get_or rs i d) ≡ weight kind (get_or rs (i + m) d) = omega arith in
      let next : weight kind (get_or rs (i + m) d) ≡ weight kind (get_or rs ((i + m) + 1) d) = subst (λ j. weight kind (get_or rs (i + m) d) ≡ weight kind (get_or rs j d)) at (omega arith) in
      let so_far = far_rises i m d (omega arith) here in
      let last = next_rises (i + m) d (omega arith) next in
      subst (λ j. (get_or rs i d).number ≤ (get_or rs j d).number) (sym at) (omega arith)

  ordered : (i j : ℕ) (d : Entry) → i ≤ j → j < length rs → Before kind (get_or rs i d) (get_or rs j d)
  ordered i j d le inside =
      let at : i + (j - i) ≡ j = omega arith in
      record {
        lighter = ranked.by_weight i j d le inside;
        earlier = λ same. subst (λ k. (get_or rs i d).number ≤ (get_or rs k d).number) at
            (far_rises i (j - i) d (omega arith) (subst (λ k. weight kind (get_or rs i d) ≡ weight kind (get_or rs k d)) (sym at) same));
      }

  module _ (keyed : kind ≢ Keyless) (small : All (IsSmall kind) es) (key s : List ℕ) where
    small_ranked : All (IsSmall kind) rs
    small_ranked = All-permutation (IsSmall kind) es rs ranked.same small

    -- the first match in the order is a hit
    first_hits : (i : ℕ) (e : Entry) → IsFirst (matches key s) rs i e → hits kind key es s e ≡ true
    first_hits i e first =
        both (matches key s e) (list_all others es) first.passes
        (list_all-from_AllPass others es (All-permutation (λ o. others o ≡ true) rs es (IsPermutation-sym es rs ranked.same) (λ j d inside. at j d inside (cases_lt j i))))
      where
        others : Entry → Bool
        others o = not (matches key s o && precedes kind o e)

        both : (a b : Bool) → a ≡ true → b ≡ true → (a && b) ≡ true
        both a b ha hb = cc

        at : (j : ℕ) (d : Entry) → j < length rs → (j < i) ⊎ (i ≤ j) → others (get_or rs j d) ≡ true
        at j d inside (inl lt) = ap (λ b. not (b && precedes kind (get_or rs j d) e)) (first.before j d lt)
        at j d inside (inr le) =
            let before : Before kind e (get_or rs j d) = subst (λ x. Before kind x (get_or rs j d)) (get_or_default rs i d e first.inside ∙ first.at) (ordered i j d le inside) in
            let small_e : IsSmall kind e = subst (IsSmall kind) first.at (small_ranked i e first.inside) in
            ap not (and_false_right (matches key s (get_or rs j d)) _ (not_preceded kind e (get_or rs j d) small_e (small_ranked j d inside) before))

    -- an entry that hits does not come before that match in the table
    hits_later : (i : ℕ) (e e' : Entry) (a b : ℕ) → IsFirst (matches key s) rs i e → get_or es a e ≡ e → a < length es → get_or es b e' ≡ e' → b < a → hits kind key es s e' ≡ true → ⊥
    hits_later i e e' a b first at_a inside at_b lt h =
        let parts = and_parts (matches key s e') (list_all (λ o. not (matches key s o && precedes kind o e')) es) h in
        let other : not (matches key s e && precedes kind e e') ≡ true =
        subst (λ o. not (matches key s o && precedes kind o e') ≡ true) at_a (AllPass-from_list_all (λ o. not (matches key s o && precedes kind o e')) es parts.1 a e inside) in
        let not_before : precedes kind e e' ≡ false = ap (λ b. b && precedes kind e e') (sym first.passes) ∙ not-true _ other in
        let there = Contains-permutation es rs e' ranked.same (b, omega arith, at_b) in
        by there.0 there.1 there.2 parts.0 not_before (cases_lt there.0 i)
      where
        by : (j : ℕ) → j < length rs → get_or rs j e' ≡ e' → matches key s e' ≡ true → precedes kind e e' ≡ false → (j < i) ⊎ (i ≤ j) → ⊥
        by j within is passed not_before (inl early) = false≢true (sym (first.before j e' early) ∙ ap (matches key s) is ∙ passed)
        by j within is passed not_before (inr le) =
            let before : Before kind e e' =
            subst (λ y. Before kind e y) is (subst (λ x. Before kind x (get_or rs j e')) (get_or_default rs i e' e first.inside ∙ first.at) (ordered i j e' le within)) in
            let small_e : IsSmall kind e = subst (IsSmall kind) first.at (small_ranked i e first.inside) in
            let small_e' : IsSmall kind e' = subst (IsSmall kind) is (small_ranked j e' within) in
            let low : e.number ≤ e'.number = by_number kind e e' keyed small_e small_e' before not_before in
            let up : e'.number < e.number =
            subst (λ x. x.number < e.number) at_b (subst (λ x. (get_or es b e').number < x.number) (get_or_default es a e' e inside ∙ at_a) (rising b a e' lt inside)) in
            omega arith

    found_hit : (i : ℕ) (e : Entry) → IsFirst (matches key s) rs i e → find (hits kind key es s) es ≡ Some e
    found_hit i e first =
        let there = Contains-permutation rs es e (IsPermutation-sym es rs ranked.same) (i, first.inside, first.at) in
        find-first (hits kind key es s) es there.0 e (record {
          at = there.2;
          inside = there.1;
          passes = first_hits i e first;
          before = λ b d lt. false_from_ne_true _ (λ h.
              hits_later i e (get_or es b d) there.0 b first there.2 there.1 (let within = there.1 in get_or_default es b (get_or es b d) d (omega arith)) lt h);
        })

    no_hit : ((k : ℕ) (d : Entry) → k < length rs → matches key s (get_or rs k d) ≡ false) → find (hits kind key es s) es ≡ None
    no_hit none =
        let all_off : All (λ o. matches key s o ≡ false) es = All-permutation (λ o. matches key s o ≡ false) rs es (IsPermutation-sym es rs ranked.same) none in
        find-none (hits kind key es s) es (λ k d lt. ap (λ b. b && list_all (λ o. not (matches key s o && precedes kind o (get_or es k d))) es) (all_off k d lt))

    pub find-ranked : find (matches key s) rs ≡ find (hits kind key es s) es
    find-ranked = by (find (matches key s) rs) refl
      where
        by : (o : Option Entry) → find (matches key s) rs ≡ o → find (matches key s) rs ≡ find (hits kind key es s) es
        by None e = e ∙ sym (no_hit (none_from_find (matches key s) rs e))
        by (Some x) e = let first = first_from_find (matches key s) rs x e in e ∙ sym (found_hit first.0 x first.1)
