-- How long lists are that are made of others: of parts, and of the items that pass a test.
use Rattle.std.proofs.Common.{◌≡◌, ℕ, ◌+◌, ◌*◌, ◌<◌, ◌≤◌, Bool, true, false, cond, List, [], ◌∷◌, length, refl, arith}
use Rattle.std.specs.Prelude.{filter}
use Rattle.std.specs.List.{onto_first, slice_split, sum_by}
use Rattle.std.proofs.lemmas.List.Splits.{length-slice_split, slice_split-cons_no, slice_split-cons_yes}
use Rattle.std.proofs.lemmas.List.Sums.{sum_by-cons}

-- the parts of a list that is cut at items, with one item for each
abbrev pub size : {X : Type 0} → List X → ℕ
size part = length part + 1

longer : {X : Type 0} (x : X) (parts : List (List X)) → 0 < length parts → sum_by size (onto_first x parts) ≡ sum_by size parts + 1
longer x [] some = absurd (omega (arith, some))
longer x (part ∷ parts) some =
    let one = sum_by-cons size (x ∷ part) parts in
    let two = sum_by-cons size part parts in
    omega (arith, one, two)

pub parts_size : {X : Type 0} (cut : X → Bool) (xs : List X) → sum_by size (slice_split cut xs) ≡ length xs + 1
parts_size cut [] = omega arith
parts_size cut (x ∷ xs) = by (cut x) refl (parts_size cut xs)
  where
    by : (b : Bool) → cut x ≡ b → sum_by size (slice_split cut xs) ≡ length xs + 1 → sum_by size (slice_split cut (x ∷ xs)) ≡ length (x ∷ xs) + 1
    by true e rest =
        let one = sum_by-cons size [] (slice_split cut xs) in
        rw (slice_split-cons_yes cut x xs e) (omega (arith, one, rest))
    by false e rest =
        let some : 0 < length (slice_split cut xs) = let count = length-slice_split cut xs in omega (arith, count) in
        rw (slice_split-cons_no cut x xs e) (omega (arith, longer x (slice_split cut xs) some, rest))

-- items that pass a test which shows their least size
pub kept_size : {X : Type 0} (test : X → Bool) (weight : X → ℕ) (least : ℕ) → ((x : X) → test x ≡ true → least ≤ weight x) → (xs : List X)
    → length (filter test xs) * least ≤ sum_by weight xs
kept_size test weight least shows [] = omega arith
kept_size test weight least shows (x ∷ xs) = by (test x) refl (kept_size test weight least shows xs)
  where
    by : (b : Bool) → test x ≡ b → length (filter test xs) * least ≤ sum_by weight xs → length (cond b (x ∷ filter test xs) (filter test xs)) * least ≤ sum_by weight (x ∷ xs)
    by true e rest =
        let own = shows x e in
        let total = sum_by-cons weight x xs in
        let one_more : length (x ∷ filter test xs) * least ≡ least + length (filter test xs) * least = omega arith in
        omega (arith, own, total, rest, one_more)
    by false e rest = let total = sum_by-cons weight x xs in omega (arith, total, rest)
