-- Lists that rise by a number and have the same items are one.
use Rattle.std.proofs.Common.{◌≡◌, ℕ, ◌<◌, List, [], ◌∷◌, Contains, refl, sym, ap, subst, ◌∙◌, inl, inr, arith}
use Rattle.std.specs.Prelude.{AllPairs}
use Rattle.std.proofs.lemmas.List.Elements.{All-contains}
use Rattle.rmt_bits.proofs.MemberLaws.{Contains-first, Contains-later, Contains-split}
use Rattle.rmt_bits.proofs.PairLaws.{AllPairs-head, AllPairs-tail}

module _ {X : Type 0} (key : X → ℕ) where
  abbrev Below : X → X → Type 0
  Below a b = key a < key b

  none_left : {A : Type 0} (x : X) → Contains [] x → A
  none_left x there = absurd (let lt = there.1 in omega (arith, lt))

  below_itself : (e : X) → Below e e → ⊥
  below_itself e lt = omega (arith, lt)

  rest_there : (x y : X) (xs ys : List X) → AllPairs Below (x ∷ xs) → x ≡ y → ((e : X) → Contains (x ∷ xs) e → Contains (y ∷ ys) e) → (e : X) → Contains xs e → Contains ys e
  rest_there x y xs ys rises same to e there = elim (Contains-split y ys e (to e (Contains-later x xs e there))) [
    | inl is ↦ absurd (below_itself e (subst (λ z. Below z e) (same ∙ is) (All-contains (Below x) xs e (AllPairs-head Below x xs rises) there)))
    | inr later ↦ later
  ]

  same_heads : (x y : X) (xs ys : List X) → AllPairs Below (x ∷ xs) → AllPairs Below (y ∷ ys) → Contains (y ∷ ys) x → Contains (x ∷ xs) y → x ≡ y
  same_heads x y xs ys one other in_y in_x = elim (Contains-split y ys x in_y) [
    | inl same ↦ sym same
    | inr later ↦ elim (Contains-split x xs y in_x) [
      | inl same ↦ same
      | inr last ↦
          let a = All-contains (Below y) ys x (AllPairs-head Below y ys other) later in
          let b = All-contains (Below x) xs y (AllPairs-head Below x xs one) last in
          absurd (omega (arith, a, b))
    ]
  ]

  -- what has the same items is one
  pub same_rising : (xs ys : List X) → AllPairs Below xs → AllPairs Below ys → ((e : X) → Contains xs e → Contains ys e) → ((e : X) → Contains ys e → Contains xs e) → xs ≡ ys
  same_rising [] [] one other to from = refl
  same_rising [] (y ∷ ys) one other to from = none_left y (from y (Contains-first y ys))
  same_rising (x ∷ xs) [] one other to from = none_left x (to x (Contains-first x xs))
  same_rising (x ∷ xs) (y ∷ ys) one other to from =
      let same = same_heads x y xs ys one other (to x (Contains-first x xs)) (from y (Contains-first y ys)) in
      ap (λ z. z ∷ xs) same
      ∙ ap (λ zs. y ∷ zs) (same_rising xs ys (AllPairs-tail Below x xs one) (AllPairs-tail Below y ys other) (rest_there x y xs ys one same to) (rest_there y x ys xs other (sym same) from))
