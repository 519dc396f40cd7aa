-- The order of rooms.
use Rattle.std.proofs.Common.{◌≡◌, ◌⊎◌, ℕ, ◌+◌, ◌<◌, ◌==◌, true, false, List, [], get_or, Some, Contains, refl, ap, subst, ◌∙◌, inl, inr, arith, ◌≤◌, Bool, ◌&&◌, cond, ◌∷◌, ◌++◌, All}
use Rattle.std.specs.Prelude.{AllPairs, count_by, slice_get, nat_lt}
use Rattle.std.proofs.lemmas.Bool.{and_from, eq-eqb, and_parts, eqb-true, false_from_ne_true, lt-ltb, ltb-true, or_cases, or_left, or_right}
use Rattle.std.proofs.lemmas.List.Elements.{All-append, All-head, All-nil, All-tail}
use Rattle.std.proofs.lemmas.Option.{get_or_from_slice_get, slice_get_within}
use Rattle.rmt_bits.proofs.MemberLaws.{Contains-item, Contains-split}
use Rattle.rmt_ast.specs.declared.entry.Entry.{Entry}
use Rattle.rmt_ast.specs.declared.program.Kind.TheVariants as kind
use Rattle.rmt_ast.specs.EntryLists.{Terms}
use Rattle.rmt_ast.specs.RowOrder.{goes_first}
use Rattle.rmt_config.specs.declared.config.Config.{Config}
use Rattle.rmt_ast.specs.declared.program.Kind.{Kind}
use Rattle.rmt_config.specs.Rooms.{Room, key_number, rooms_for}
use Rattle.rmt_config.specs.Commits.{IsFilled}
use Rattle.std.specs.List.{flat_map}
use Rattle.std.proofs.lemmas.List.Sums.{sum_by-cons}
use Rattle.rmt_bits.proofs.PairLaws.{AllPairs-append, AllPairs-head, AllPairs-none, AllPairs-tail}
use Rattle.rmt_pack.proofs.RankLaws.{goes_never, precedes_chain}

pub room_there : (c : Config) (seed : ℕ) (t : Terms) (k : Kind) (es : List Entry) (e : Entry) (room : Room) → IsFilled c seed t k es e room → Contains (rooms_for c seed e.table (key_number t e)) room
room_there c seed t kind.Keyless es e room h = absurd h
room_there c seed t kind.Exact es e room h = h
room_there c seed t kind.Prefix es e room h = Contains-item (rooms_for c seed e.table (key_number t e)) (count_by (λ f. goes_first kind.Prefix f e) es) room h
room_there c seed t kind.Ternary es e room h = Contains-item (rooms_for c seed e.table (key_number t e)) (count_by (λ f. goes_first kind.Ternary f e) es) room h

-- pairs of what a function gives of items that stand in pairs
pub pairs_flat : {X Y : Type 0} (R : X → X → Type 0) (S : Y → Y → Type 0) (f : X → List Y) → ((x y : X) → R x y → All (λ a. All (S a) (f y)) (f x)) → (xs : List X)
    → All (λ x. AllPairs S (f x)) xs → AllPairs R xs → AllPairs S (flat_map f xs)
pairs_flat R S f gives [] own pairs = AllPairs-none S
pairs_flat {X} {Y} R S f gives (x ∷ xs) own pairs =
    AllPairs-append S (f x) (flat_map f xs) (All-head (λ y. AllPairs S (f y)) x xs own)
    (pairs_flat R S f gives xs (All-tail (λ y. AllPairs S (f y)) x xs own) (AllPairs-tail R x xs pairs))
    (across xs (AllPairs-head R x xs pairs))
  where
    both : (a b : List Y) (zs : List Y) → All (λ z. All (S z) a) zs → All (λ z. All (S z) b) zs → All (λ z. All (S z) (a ++ b)) zs
    both a b zs ha hb k d lt = All-append (S (get_or zs k d)) a b (ha k d lt) (hb k d lt)

    across : (ys : List X) → All (R x) ys → All (λ a. All (S a) (flat_map f ys)) (f x)
    across [] all = λ k d lt. All-nil (S (get_or (f x) k d))
    across (y ∷ ys) all = both (f y) (flat_map f ys) (f x) (gives x y (All-head (R x) y ys all)) (across ys (All-tail (R x) y ys all))

-- two items of a list in which all stand in pairs
pub pair_at : {X : Type 0} (R : X → X → Type 0) (xs : List X) (i j : ℕ) (x y : X) → AllPairs R xs → i < j → slice_get xs i ≡ Some x → slice_get xs j ≡ Some y → R x y
pair_at R xs i j x y pairs lt at_x at_y =
    subst (λ z. R z y) (get_or_from_slice_get xs i x x at_x)
    (subst (R (get_or xs i x)) (get_or_from_slice_get xs j y x at_y) (pairs i j x lt (slice_get_within xs j y at_y)))

abbrev one_if : Bool → ℕ
one_if b = cond b 1 0

-- more items pass a test that all of another pass
count_less : {X : Type 0} (f g : X → Bool) → ((x : X) → f x ≡ true → g x ≡ true) → (xs : List X) → count_by f xs ≤ count_by g xs
count_less f g more [] = omega arith
count_less f g more (x ∷ xs) = by (f x) refl (count_less f g more xs)
  where
    by : (b : Bool) → f x ≡ b → count_by f xs ≤ count_by g xs → count_by f (x ∷ xs) ≤ count_by g (x ∷ xs)
    by true e le =
        let head_f : one_if (f x) ≡ 1 = ap one_if e in
        let head_g : one_if (g x) ≡ 1 = ap one_if (more x e) in
        let f_is : count_by f (x ∷ xs) ≡ one_if (f x) + count_by f xs = sum_by-cons (λ z. one_if (f z)) x xs in
        let g_is : count_by g (x ∷ xs) ≡ one_if (g x) + count_by g xs = sum_by-cons (λ z. one_if (g z)) x xs in
        omega (arith, le, head_f, head_g, f_is, g_is)
    by false e le =
        let head_f : one_if (f x) ≡ 0 = ap one_if e in
        let f_is : count_by f (x ∷ xs) ≡ one_if (f x) + count_by f xs = sum_by-cons (λ z. one_if (f z)) x xs in
        let g_is : count_by g (x ∷ xs) ≡ one_if (g x) + count_by g xs = sum_by-cons (λ z. one_if (g z)) x xs in
        omega (arith, le, head_f, f_is, g_is)

-- and one more, where there is one more
pub count_one_less : {X : Type 0} (f g : X → Bool) → ((x : X) → f x ≡ true → g x ≡ true) → (xs : List X) (x : X) → Contains xs x → f x ≡ false → g x ≡ true → count_by f xs < count_by g xs
count_one_less f g more [] x there fails passes = absurd (let lt = there.1 in omega (arith, lt))
count_one_less {X} f g more (y ∷ ys) x there fails passes = elim (Contains-split y ys x there) [
  | inl same ↦
      let le = count_less f g more ys in
      let head_f : one_if (f y) ≡ 0 = ap one_if (ap f same ∙ fails) in
      let head_g : one_if (g y) ≡ 1 = ap one_if (ap g same ∙ passes) in
      let f_is : count_by f (y ∷ ys) ≡ one_if (f y) + count_by f ys = sum_by-cons (λ z. one_if (f z)) y ys in
      let g_is : count_by g (y ∷ ys) ≡ one_if (g y) + count_by g ys = sum_by-cons (λ z. one_if (g z)) y ys in
      omega (arith, le, head_f, head_g, f_is, g_is)
  | inr later ↦
      let lt = count_one_less f g more ys x later fails passes in
      let heads = head_le y in
      let f_is : count_by f (y ∷ ys) ≡ one_if (f y) + count_by f ys = sum_by-cons (λ z. one_if (f z)) y ys in
      let g_is : count_by g (y ∷ ys) ≡ one_if (g y) + count_by g ys = sum_by-cons (λ z. one_if (g z)) y ys in
      omega (arith, lt, heads, f_is, g_is)
]
  where
    head_le : (z : X) → one_if (f z) ≤ one_if (g z)
    head_le z = by (f z) refl
      where
        by : (b : Bool) → f z ≡ b → one_if (f z) ≤ one_if (g z)
        by true e = (let head_g : one_if (g z) ≡ 1 = ap one_if (more z e) in let head_f : one_if (f z) ≡ 1 = ap one_if e in omega (arith, head_g, head_f))
        by false e = (let head_f : one_if (f z) ≡ 0 = ap one_if e in omega (arith, head_f))

-- the longer prefix, or the earlier one of one length
abbrev IsLonger : Entry → Entry → Type 0
IsLonger a b = (b.rank < a.rank) ⊎ ((a.rank ≡ b.rank) × (a.number < b.number))

longer : (a b : Entry) → goes_first kind.Prefix a b ≡ true → IsLonger a b
longer a b h = elim (or_cases (nat_lt b.rank a.rank) ((a.rank == b.rank) && nat_lt a.number b.number) h) [
  | inl lt ↦ inl (ltb-true b.rank a.rank lt)
  | inr both ↦ let r = and_parts (a.rank == b.rank) (nat_lt a.number b.number) both in inr (eqb-true a.rank b.rank r.0, ltb-true a.number b.number r.1)
]

from_longer : (a b : Entry) → IsLonger a b → goes_first kind.Prefix a b ≡ true
from_longer a b (inl lt) = or_left (nat_lt b.rank a.rank) ((a.rank == b.rank) && nat_lt a.number b.number) (lt-ltb b.rank a.rank lt)
from_longer a b (inr both) =
    or_right (nat_lt b.rank a.rank) ((a.rank == b.rank) && nat_lt a.number b.number)
    (and_from (a.rank == b.rank) (nat_lt a.number b.number) (eq-eqb a.rank b.rank both.0) (lt-ltb a.number b.number both.1))

longer_chain : (a b d : Entry) → IsLonger a b → IsLonger b d → IsLonger a d
longer_chain a b d (inl x) (inl y) = inl (omega (arith, x, y))
longer_chain a b d (inl x) (inr y) = let e = y.0 in inl (omega (arith, x, e))
longer_chain a b d (inr x) (inl y) = let e = x.0 in inl (omega (arith, y, e))
longer_chain a b d (inr x) (inr y) = let l = x.1 in let k = y.1 in inr (x.0 ∙ y.0, omega (arith, l, k))

first_chain : (k : Kind) (a b d : Entry) → goes_first k a b ≡ true → goes_first k b d ≡ true → goes_first k a d ≡ true
first_chain kind.Keyless a b d h g = h
first_chain kind.Exact a b d h g = h
first_chain kind.Prefix a b d h g = from_longer a d (longer_chain a b d (longer a b h) (longer b d g))
first_chain kind.Ternary a b d h g = precedes_chain kind.Ternary a b d h g

-- an entry that goes before another has fewer entries before it
pub fewer_first : (k : Kind) (es : List Entry) (a b : Entry) → Contains es a → goes_first k a b ≡ true → count_by (λ f. goes_first k f a) es < count_by (λ f. goes_first k f b) es
fewer_first k es a b there h =
    count_one_less (λ f. goes_first k f a) (λ f. goes_first k f b) (λ f g. first_chain k f a b g h) es a there
    (false_from_ne_true (goes_first k a a) (goes_never k a)) h
