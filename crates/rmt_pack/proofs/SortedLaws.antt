-- Entries by rising number are those of a list, where no number stands twice in it.
use Rattle.std.proofs.Common.{◌≡◌, ◌≢◌, ◌⊎◌, ℕ, ◌<◌, Bool, true, false, cond, List, [], ◌∷◌, fold, All, Contains, refl, sym, ap, subst, ◌∙◌, inl, inr, arith}
use Rattle.std.specs.Prelude.{AllPairs, nat_lt}
use Rattle.std.proofs.lemmas.Bool.{both_ways, cases_lt, lt-ltb, ltb-true}
use Rattle.std.proofs.lemmas.List.Elements.{All-cons, All-contains, All-contains_itself, All-head, All-nil, All-tail, All-weaker}
use Rattle.std.proofs.lemmas.List.Kept.{AllPairs-cons}
use Rattle.rmt_bits.proofs.MemberLaws.{Contains-first, Contains-later, Contains-split}
use Rattle.rmt_bits.proofs.PairLaws.{AllPairs-head, AllPairs-none, AllPairs-tail}
use Rattle.rmt_ast.specs.declared.entry.Entry.{Entry}
use Rattle.rmt_config.specs.NamesForm.{by_number, with_entry}
use Rattle.rmt_pack.proofs.SameRiseLaws.{same_rising}

abbrev pub IsBelow : Entry → Entry → Type 0
IsBelow a b = a.number < b.number

abbrev pub Differ : Entry → Entry → Type 0
Differ a b = a.number ≢ b.number

none_there : {A : Type 0} (x : Entry) → Contains [] x → A
none_there x there = absurd (let lt = there.1 in omega (arith, lt))

-- ---- one more entry

with_member : (e : Entry) (os : List Entry) (x : Entry) → Contains (with_entry e os) x → (e ≡ x) ⊎ Contains os x
with_member e [] x there = Contains-split e [] x there
with_member e (o ∷ os) x there = by (nat_lt o.number e.number) there (with_member e os x)
  where
    by : (b : Bool) → Contains (cond b (o ∷ with_entry e os) (e ∷ o ∷ os)) x → (Contains (with_entry e os) x → (e ≡ x) ⊎ Contains os x) → (e ≡ x) ⊎ Contains (o ∷ os) x
    by false h rest = Contains-split e (o ∷ os) x h
    by true h rest = elim (Contains-split o (with_entry e os) x h) [
      | inl same ↦ inr (subst (Contains (o ∷ os)) same (Contains-first o os))
      | inr later ↦ elim (rest later) [
        | inl is ↦ inl is
        | inr old ↦ inr (Contains-later o os x old)
      ]
    ]

with_there : (e : Entry) (os : List Entry) (x : Entry) → (e ≡ x) ⊎ Contains os x → Contains (with_entry e os) x
with_there e [] x (inl same) = subst (Contains (e ∷ [])) same (Contains-first e [])
with_there e [] x (inr there) = none_there x there
with_there e (o ∷ os) x h = by (nat_lt o.number e.number) h (with_there e os x)
  where
    by : (b : Bool) → (e ≡ x) ⊎ Contains (o ∷ os) x → ((e ≡ x) ⊎ Contains os x → Contains (with_entry e os) x) → Contains (cond b (o ∷ with_entry e os) (e ∷ o ∷ os)) x
    by false (inl same) rest = subst (Contains (e ∷ o ∷ os)) same (Contains-first e (o ∷ os))
    by false (inr there) rest = Contains-later e (o ∷ os) x there
    by true (inl same) rest = Contains-later o (with_entry e os) x (rest (inl same))
    by true (inr there) rest = elim (Contains-split o os x there) [
      | inl same ↦ subst (Contains (o ∷ with_entry e os)) same (Contains-first o (with_entry e os))
      | inr later ↦ Contains-later o (with_entry e os) x (rest (inr later))
    ]

with_rises : (e : Entry) (os : List Entry) → AllPairs IsBelow os → All (Differ e) os → AllPairs IsBelow (with_entry e os)
with_rises e [] rises other = AllPairs-cons IsBelow e [] (All-nil (IsBelow e)) (AllPairs-none IsBelow)
with_rises e (o ∷ os) rises other = by (nat_lt o.number e.number) refl (with_rises e os (AllPairs-tail IsBelow o os rises) (All-tail (Differ e) o os other))
  where
    above : All (IsBelow o) os
    above = AllPairs-head IsBelow o os rises

    by : (b : Bool) → nat_lt o.number e.number ≡ b → AllPairs IsBelow (with_entry e os) → AllPairs IsBelow (cond b (o ∷ with_entry e os) (e ∷ o ∷ os))
    by true lt rest =
        AllPairs-cons IsBelow o (with_entry e os)
        (All-weaker (Contains (with_entry e os)) (IsBelow o)
        (λ x there. elim (with_member e os x there) [
          | inl same ↦ subst (IsBelow o) same (ltb-true o.number e.number lt)
          | inr old ↦ All-contains (IsBelow o) os x above old
        ])
        (with_entry e os) (All-contains_itself (with_entry e os))) rest
    by false lt rest =
        let differ = All-head (Differ e) o os other in
        let less : e.number < o.number = greater o.number e.number lt differ in
        AllPairs-cons IsBelow e (o ∷ os) (All-cons (IsBelow e) o os less (All-weaker (IsBelow o) (IsBelow e) (λ x more. omega (arith, less, more)) os above)) rises
      where
        greater : (a b : ℕ) → nat_lt a b ≡ false → b ≢ a → b < a
        greater a b fails differ = elim (cases_lt b a) [
          | inl lt ↦ lt
          | inr le ↦ absurd (both_ways (nat_lt a b) fails (lt-ltb a b (omega (arith, le, differ))))
        ]

-- ---- all entries

-- a fold of entries has those that it began with and those that come
fold_member : (xs acc : List Entry) (x : Entry) → Contains (fold (λ sorted e. with_entry e sorted) acc xs) x → Contains acc x ⊎ Contains xs x
fold_member [] acc x there = inl there
fold_member (y ∷ ys) acc x there = elim (fold_member ys (with_entry y acc) x there) [
  | inl early ↦ elim (with_member y acc x early) [
    | inl same ↦ inr (subst (Contains (y ∷ ys)) same (Contains-first y ys))
    | inr old ↦ inl old
  ]
  | inr later ↦ inr (Contains-later y ys x later)
]

fold_there : (xs acc : List Entry) (x : Entry) → Contains acc x ⊎ Contains xs x → Contains (fold (λ sorted e. with_entry e sorted) acc xs) x
fold_there [] acc x (inl there) = there
fold_there [] acc x (inr there) = none_there x there
fold_there (y ∷ ys) acc x (inl there) = fold_there ys (with_entry y acc) x (inl (with_there y acc x (inr there)))
fold_there (y ∷ ys) acc x (inr there) = elim (Contains-split y ys x there) [
  | inl same ↦ fold_there ys (with_entry y acc) x (inl (with_there y acc x (inl same)))
  | inr later ↦ fold_there ys (with_entry y acc) x (inr later)
]

fold_rises : (xs acc : List Entry) → AllPairs IsBelow acc → AllPairs Differ xs → All (λ x. All (Differ x) acc) xs → AllPairs IsBelow (fold (λ sorted e. with_entry e sorted) acc xs)
fold_rises [] acc rises differ other = rises
fold_rises (y ∷ ys) acc rises differ other =
    fold_rises ys (with_entry y acc) (with_rises y acc rises (All-head (λ x. All (Differ x) acc) y ys other)) (AllPairs-tail Differ y ys differ)
    (All-weaker (Contains ys) (λ x. All (Differ x) (with_entry y acc))
    (λ x there. All-weaker (Contains (with_entry y acc)) (Differ x)
    (λ a in_acc same. elim (with_member y acc a in_acc) [
      | inl is ↦ All-contains (Differ y) ys x (AllPairs-head Differ y ys differ) there (ap (λ (z : Entry). z.number) is ∙ sym same)
      | inr old ↦ All-contains (Differ x) acc a (All-contains (λ z. All (Differ z) acc) ys x (All-tail (λ z. All (Differ z) acc) y ys other) there) old same
    ])
    (with_entry y acc) (All-contains_itself (with_entry y acc)))
    ys (All-contains_itself ys))

-- entries with numbers of their own are, by rising number, the rising list of the same entries
pub by_number_is : (xs es : List Entry) → AllPairs (λ (a b : Entry). a.number ≢ b.number) xs → AllPairs (λ (a b : Entry). a.number < b.number) es
    → ((e : Entry) → Contains xs e → Contains es e) → ((e : Entry) → Contains es e → Contains xs e) → by_number xs ≡ es
by_number_is xs es differ rises to from =
    same_rising (λ (e : Entry). e.number) (by_number xs) es
    (fold_rises xs [] (AllPairs-none IsBelow) differ (All-weaker (Contains xs) (λ x. All (Differ x) []) (λ x there. All-nil (Differ x)) xs (All-contains_itself xs))) rises
    (λ e there. elim (fold_member xs [] e there) [
      | inl none ↦ none_there e none
      | inr own ↦ to e own
    ])
    (λ e there. fold_there xs [] e (inr (from e there)))
