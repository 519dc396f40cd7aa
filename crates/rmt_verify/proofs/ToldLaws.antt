-- What a map tells of entries, one cell after another.
use Rattle.std.proofs.Common.{◌≡◌, ◌≢◌, ◌⊎◌, ◌↔◌, ℕ, ◌+◌, ◌<◌, ◌∷◌, ◌++◌, [], Bool, true, false, cond, eqb, Option, Some, None, List, length, get_or, take, Contains, refl, sym, ap, ◌∙◌, subst, inl, inr}
use Rattle.std.specs.Prelude.{AllPairs, is_some}
use Rattle.std.specs.BTreeMap.{BTreeMap, get}
use Rattle.std.specs.Ordering.{is_eq, nat_cmp}
use Rattle.std.proofs.lemmas.Bool.{both_ways, eq-eqb, eqb-true, false≢true}
use Rattle.std.proofs.lemmas.List.{take_more}
use Rattle.std.proofs.lemmas.List.Elements.{All-contains_itself, All-weaker, Contains-append_left, Contains-append_right}
use Rattle.std.proofs.lemmas.Option.{none-some, same_Some}
use Rattle.rmt_bits.proofs.MemberLaws.{Contains-first, Contains-split}
use Rattle.rmt_config.proofs.OrderLaws.{same_number}
use Rattle.rmt_verify.specs.Types.{CellOf}
use Rattle.rmt_verify.specs.Told.{AreTold, TellApart}
use Rattle.rmt_verify.proofs.PairLaws.{pairs_before, pairs_more}

among_more : (cells : List CellOf) (i : ℕ) (d y : CellOf) → i < length cells → Contains (take (i + 1) cells) y ↔ (Contains (take i cells) y ⊎ (get_or cells i d ≡ y))
among_more cells i d y lt = (to, from)
  where
    more : take (i + 1) cells ≡ take i cells ++ get_or cells i d ∷ []
    more = take_more cells i d lt

    split : (xs : List CellOf) (x : CellOf) → Contains (xs ++ x ∷ []) y → Contains xs y ⊎ (x ≡ y)
    split [] x there = elim (Contains-split x [] y there) [
      | inl is ↦ inr is
      | inr none ↦ inl none
    ]
    split (z ∷ zs) x there = elim (Contains-split z (zs ++ x ∷ []) y there) [
      | inl is ↦ inl (subst (Contains (z ∷ zs)) is (Contains-first z zs))
      | inr later ↦ elim (split zs x later) [
        | inl among ↦ inl (Contains-append_right (z ∷ []) zs y among)
        | inr is ↦ inr is
      ]
    ]

    to : Contains (take (i + 1) cells) y → Contains (take i cells) y ⊎ (get_or cells i d ≡ y)
    to there = split (take i cells) (get_or cells i d) (subst (λ (xs : List CellOf). Contains xs y) more there)

    from : Contains (take i cells) y ⊎ (get_or cells i d ≡ y) → Contains (take (i + 1) cells) y
    from (inl among) = subst (λ (xs : List CellOf). Contains xs y) (sym more) (Contains-append_left (take i cells) (get_or cells i d ∷ []) y among)
    from (inr is) =
        subst (λ (xs : List CellOf). Contains xs y) (sym more)
        (subst (Contains (take i cells ++ get_or cells i d ∷ [])) is (Contains-append_right (take i cells) (get_or cells i d ∷ []) (get_or cells i d) (Contains-first (get_or cells i d) [])))

module _ (cells : List CellOf) (i : ℕ) (x : CellOf) (told : BTreeMap ℕ CellOf) (lt : i < length cells) (is : x ≡ get_or cells i x) (so_far : AreTold (take i cells) told) where
  -- one that is told of twice
  pub told_twice : is_some (get nat_cmp told x.entry) ≡ true → AllPairs TellApart cells → ⊥
  told_twice some apart = by (get nat_cmp told x.entry) refl some
    where
      by : (o : Option CellOf) → get nat_cmp told x.entry ≡ o → is_some o ≡ true → ⊥
      by None e s = false≢true s
      by (Some y) e s =
          let own = so_far.own x.entry y e in
          let among = (so_far.each y).0 (ap (get nat_cmp told) own ∙ e) in
          let before = pairs_before TellApart cells i x lt apart in
          let item : get_or (take i cells) among.0 y ≡ y = among.2 in
          before among.0 y among.1 (ap (λ (z : CellOf). z.entry) item ∙ own ∙ ap (λ (z : CellOf). z.entry) is)

  -- one more
  pub told_more : (new : BTreeMap ℕ CellOf) → get nat_cmp told x.entry ≡ None → ((q : ℕ) → get nat_cmp new q ≡ cond (is_eq (nat_cmp x.entry q)) (Some x) (get nat_cmp told q)) → AreTold (take (i + 1) cells) new
  told_more new none updates = record { once = once; own = own; each = each }
    where
      at : (q : ℕ) → get nat_cmp new q ≡ cond (eqb x.entry q) (Some x) (get nat_cmp told q)
      at q = updates q ∙ ap (λ b. cond b (Some x) (get nat_cmp told q)) (same_number x.entry q)

      not_before : (y : CellOf) → Contains (take i cells) y → y.entry ≢ x.entry
      not_before y among same = absurd (none-some y (sym none ∙ ap (get nat_cmp told) (sym same) ∙ (so_far.each y).1 among))

      once : AllPairs TellApart (take (i + 1) cells)
      once =
          pairs_more TellApart cells i x lt so_far.once
          (All-weaker (Contains (take i cells)) (λ (a : CellOf). TellApart a (get_or cells i x)) (λ a among same. not_before a among (same ∙ ap (λ (z : CellOf). z.entry) (sym is))) (take i cells)
          (All-contains_itself (take i cells)))

      own : (n : ℕ) (y : CellOf) → get nat_cmp new n ≡ Some y → y.entry ≡ n
      own n y e = by (eqb x.entry n) refl
        where
          by : (b : Bool) → eqb x.entry n ≡ b → y.entry ≡ n
          by true same = ap (λ (z : CellOf). z.entry) (sym (same_Some x y (sym (ap (λ b. cond b (Some x) (get nat_cmp told n)) same) ∙ sym (at n) ∙ e))) ∙ eqb-true x.entry n same
          by false other = so_far.own n y (sym (ap (λ b. cond b (Some x) (get nat_cmp told n)) other) ∙ sym (at n) ∙ e)

      each : (y : CellOf) → (get nat_cmp new y.entry ≡ Some y) ↔ Contains (take (i + 1) cells) y
      each y = by (eqb x.entry y.entry) refl
        where
          more : Contains (take (i + 1) cells) y ↔ (Contains (take i cells) y ⊎ (get_or cells i x ≡ y))
          more = among_more cells i x y lt

          by : (b : Bool) → eqb x.entry y.entry ≡ b → (get nat_cmp new y.entry ≡ Some y) ↔ Contains (take (i + 1) cells) y
          by true same = (
            λ e. more.1 (inr (sym is ∙ same_Some x y (sym (ap (λ b. cond b (Some x) (get nat_cmp told y.entry)) same) ∙ sym (at y.entry) ∙ e))),
            λ there. at y.entry ∙ ap (λ b. cond b (Some x) (get nat_cmp told y.entry)) same ∙ ap Some (the (more.0 there)),
          )
            where
              the : Contains (take i cells) y ⊎ (get_or cells i x ≡ y) → x ≡ y
              the (inl among) = absurd (not_before y among (sym (eqb-true x.entry y.entry same)))
              the (inr here) = is ∙ here
          by false other = (
            λ e. more.1 (inl ((so_far.each y).0 (sym (ap (λ b. cond b (Some x) (get nat_cmp told y.entry)) other) ∙ sym (at y.entry) ∙ e))),
            λ there. at y.entry ∙ ap (λ b. cond b (Some x) (get nat_cmp told y.entry)) other ∙ (so_far.each y).1 (the (more.0 there)),
          )
            where
              the : Contains (take i cells) y ⊎ (get_or cells i x ≡ y) → Contains (take i cells) y
              the (inl among) = among
              the (inr here) = absurd (both_ways (eqb x.entry y.entry) other (eq-eqb x.entry y.entry (ap (λ (z : CellOf). z.entry) (is ∙ here))))

pub none_from : (o : Option CellOf) → is_some o ≡ false → o ≡ None
none_from None e = refl
none_from (Some y) e = absurd (false≢true (sym e))
