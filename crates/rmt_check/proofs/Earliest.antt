-- Laws of the earlier of two places, and of the earliest of a list.
use Rattle.std.proofs.Common.{◌≡◌, ℕ, ◌<◌, ◌≤◌, ◌+◌, List, [], ◌∷◌, ◌++◌, if◌then◌else◌, None, Some, Option, Result, IfOk, map, take, length, get_or, refl, sym, ap, subst, ◌∙◌, arith}
use Rattle.std.specs.List.{enumerate_from, flat_map}
use Rattle.std.proofs.lemmas.Bool.Decides.{nat_tests}
use Rattle.std.proofs.lemmas.List.{take_more, map_more, take_all, append-nil}
use Rattle.std.proofs.lemmas.List.Concat.{flat_map-append}
use Rattle.std.proofs.lemmas.List.FromFn.{length-enumerate_from, get_or-enumerate_from}
use Rattle.rmt_check.specs.Parts.{Position, Ident, CaseText, HeaderText}
use Rattle.rmt_check.specs.Rules.{is_before, earlier, earliest, target_names, targets}

abbrev choose : Position → Position → Position
choose a b = if is_before b a then b else a

choose_assoc : (a b c : Position) → choose (choose a b) c ≡ choose a (choose b c)
choose_assoc a b c = grind (arith, nat_tests)

pub earlier_assoc : (a b c : Option Position) → earlier (earlier a b) c ≡ earlier a (earlier b c)
earlier_assoc None b c = refl
earlier_assoc (Some a) None c = refl
earlier_assoc (Some a) (Some b) None = refl
earlier_assoc (Some a) (Some b) (Some c) = ap Some (choose_assoc a b c)

-- the earliest of two lists
pub earliest-append : (xs ys : List Position) → earliest (xs ++ ys) ≡ earlier (earliest xs) (earliest ys)
earliest-append [] ys = refl
earliest-append (x ∷ xs) ys = ap (λ (o : Option Position). earlier (Some x) o) (earliest-append xs ys) ∙ sym (earlier_assoc (Some x) (earliest xs) (earliest ys))

-- the same with the earliest of each as calls give them
pub joined : (xs ys : List Position) (a b both : Option Position) → both ≡ earlier a b → a ≡ earliest xs → b ≡ earliest ys → both ≡ earliest (xs ++ ys)
joined xs ys a b both e p q = e ∙ ap (λ (o : Option Position). earlier o b) p ∙ ap (earlier (earliest xs)) q ∙ sym (earliest-append xs ys)

-- The places of the items of a list: a loop that keeps the earliest so far.
module _ {X : Type 0} (f : X → List Position) where
  -- one more item, with its earliest place as a call gives it
  pub earliest_more_at : (best one next : Option Position) (xs : List X) (i : ℕ) (x : X) → i < length xs → x ≡ get_or xs i x → best ≡ earliest (flat_map f (take i xs))
      → one ≡ earliest (f x) → next ≡ earlier best one → next ≡ earliest (flat_map f (take (i + 1) xs))
  earliest_more_at best one next xs i x lt at h e n =
      let more : flat_map f (take (i + 1) xs) ≡ flat_map f (take i xs) ++ f x =
      ap (flat_map f) (take_more xs i x lt) ∙ flat_map-append f (take i xs) (get_or xs i x ∷ [])
      ∙ ap (λ (ps : List Position). flat_map f (take i xs) ++ ps) (append-nil (f (get_or xs i x)) ∙ ap f (sym at)) in
      rw more (joined (flat_map f (take i xs)) (f x) best one next n h e)

  -- the end of the loop
  pub earliest_all : (best : Option Position) (xs : List X) (i : ℕ) → length xs ≤ i → best ≡ earliest (flat_map f (take i xs)) → best ≡ earliest (flat_map f xs)
  earliest_all best xs i le h = h ∙ ap (λ (ys : List X). earliest (flat_map f ys)) (take_all i xs le)

-- the same of a loop over items with their numbers
module _ {X : Type 0} (f : ℕ × X → List Position) (xs : List X) (i : ℕ) where
  pub earliest_more_numbered : (best one next : Option Position) (x : X) → i < length xs → x ≡ get_or xs i x → best ≡ earliest (flat_map f (take i (enumerate_from 0 xs)))
      → one ≡ earliest (f (i, x)) → next ≡ earlier best one → next ≡ earliest (flat_map f (take (i + 1) (enumerate_from 0 xs)))
  earliest_more_numbered best one next x lt at h e n =
      let within : i < length (enumerate_from 0 xs) = rw (length-enumerate_from 0 xs) lt in
      let number : 0 + i ≡ i = omega arith in
      let here : (i, x) ≡ get_or (enumerate_from 0 xs) i (i, x) =
      ap (λ (y : X). (i, y)) at ∙ sym (get_or-enumerate_from 0 xs i (i, x) lt ∙ ap (λ (k : ℕ). (k, get_or xs i x)) number) in
      earliest_more_at f best one next (enumerate_from 0 xs) i (i, x) within here h e n

  pub earliest_all_numbered : (best : Option Position) → length xs ≤ i → best ≡ earliest (flat_map f (take i (enumerate_from 0 xs))) → best ≡ earliest (flat_map f (enumerate_from 0 xs))
  earliest_all_numbered best le h = earliest_all f best (enumerate_from 0 xs) i (rw (length-enumerate_from 0 xs) le) h

-- the step of a loop over items that stand at one place each
pub earliest_more_place : {X : Type 0} (f : X → Position) (best next : Option Position) (p : Position) (xs : List X) (i : ℕ) (x : X) → i < length xs → x ≡ get_or xs i x → best ≡ earliest (map f (take i xs))
    → p ≡ f x → next ≡ earlier best (Some p) → next ≡ earliest (map f (take (i + 1) xs))
earliest_more_place f best next p xs i x lt at h e n =
    rw (map_more f xs i x lt) (joined (map f (take i xs)) (f (get_or xs i x) ∷ []) best (Some p) next n h (ap Some (e ∙ ap f at)))

-- the places of a list of lists
pub flat_map-flat_map : {X Y Z : Type 0} (f : Y → List Z) (g : X → List Y) (xs : List X) → flat_map f (flat_map g xs) ≡ flat_map (λ x. flat_map f (g x)) xs
flat_map-flat_map f g [] = refl
flat_map-flat_map f g (x ∷ xs) = flat_map-append f (g x) (flat_map g xs) ∙ ap (λ ys. flat_map f (g x) ++ ys) (flat_map-flat_map f g xs)

-- what is broken at the targets of a header: by its cases and the last one
pub targets_joined : (f : Ident → List Position) (h : HeaderText) (p : Option Position) → p ≡ earliest (flat_map (λ (c : CaseText). flat_map f (target_names c.target)) h.cases ++ flat_map f (target_names h.other))
    → p ≡ earliest (flat_map f (targets h))
targets_joined f h p e = rw (flat_map-append f (flat_map (λ (c : CaseText). target_names c.target) h.cases) (target_names h.other), flat_map-flat_map f (λ (c : CaseText). target_names c.target) h.cases) e

-- A place that is the earliest of some, where the list can be read off.
pub record Found (xs : List Position) (p : Option Position) : Type 0 where
  pub is : p ≡ earliest xs

-- what is found in a list is found in an equal one
pub found_in : {X : Type 0} (f : List X → List Position) {p : Option Position} {xs ys : List X} → p ≡ earliest (f xs) → xs ≡ ys → Found (f ys) p
found_in f e same = record { is = e ∙ ap (λ xs. earliest (f xs)) same }

pub join : {xs ys : List Position} {a b both : Option Position} → both ≡ earlier a b → Found xs a → Found ys b → Found (xs ++ ys) both
join {xs} {ys} {a} {b} {both} e p q = record { is = joined xs ys a b both e p.is q.is }

-- The same of a search that may want memory.
pub record Sought {E : Type 0} (xs : List Position) (r : Result (Option Position) E) : Type 0 where
  pub is : IfOk r (λ p. p ≡ earliest xs)

pub sought_in : {E X : Type 0} (f : List X → List Position) (r : Result (Option Position) E) {xs ys : List X} → IfOk r (λ p. p ≡ earliest (f xs)) → xs ≡ ys → Sought (f ys) r
sought_in f r e same = record { is = subst (λ xs. IfOk r (λ p. p ≡ earliest (f xs))) same e }

pub join_sought : {E : Type 0} {xs ys : List Position} {a b : Result (Option Position) E} (both : Result (Option Position) E)
    → ((xs ys : List Position) → IfOk a (λ p. p ≡ earliest xs) → IfOk b (λ p. p ≡ earliest ys) → IfOk both (λ p. p ≡ earliest (xs ++ ys))) → Sought xs a → Sought ys b → Sought (xs ++ ys) both
join_sought {xs = xs} {ys = ys} both h p q = record { is = h xs ys p.is q.is }

-- for the attribute of a function that joins what was found
pub ruleset joins = (earliest-append)
