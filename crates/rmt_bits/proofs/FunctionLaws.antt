-- Equal functions, and equal bytes.
use Rattle.std.proofs.Common.{◌≡◌, ℕ, List, [], ◌∷◌, Bool, true, ◌&&◌, nat_eq, refl, sym, ap}
use Rattle.std.specs.Str.{bytes_eq}
use Rattle.std.specs.Cmp.Lexicographic.{pointwise}
use Rattle.std.proofs.lemmas.Slice.Eq.{bytes_eq-Decides}
use Rattle.rmt_bits.proofs.OptionLaws.{same_Bool}

-- functions that agree everywhere are equal
pub funext : {A B : Type 0} (f g : A → B) → ((x : A) → f x ≡ g x) → f ≡ g
funext f g h = λ i x. h x i

-- bytes are equal where they are equal one by one
pub bytes_eq-pointwise : (a b : List ℕ) → bytes_eq a b ≡ pointwise nat_eq a b
bytes_eq-pointwise [] [] = refl
bytes_eq-pointwise [] (d ∷ ds) = refl
bytes_eq-pointwise (c ∷ cs) [] = refl
bytes_eq-pointwise (c ∷ cs) (d ∷ ds) = ap (λ (r : Bool). nat_eq c d && r) (bytes_eq-pointwise cs ds)

-- whichever comes first
pub bytes_eq-sym : (a b : List ℕ) → bytes_eq a b ≡ bytes_eq b a
bytes_eq-sym a b = same_Bool (bytes_eq a b) (bytes_eq b a) (along a b) (along b a)
  where
    along : (x y : List ℕ) → bytes_eq x y ≡ true → bytes_eq y x ≡ true
    along x y e = (bytes_eq-Decides y x).1 (sym ((bytes_eq-Decides x y).0 e))

-- bytes are equal to themselves, and bytes that are equal are the same
pub bytes_eq-same : (q : List ℕ) → bytes_eq q q ≡ true
bytes_eq-same q = (bytes_eq-Decides q q).1 refl

pub bytes_eq-true : (key q : List ℕ) → bytes_eq key q ≡ true → key ≡ q
bytes_eq-true key q = (bytes_eq-Decides key q).0
