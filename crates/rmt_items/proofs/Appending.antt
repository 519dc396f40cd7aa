-- Bytes that calls append.
use Rattle.std.proofs.Common.{◌≡◌, ℕ, ◌+◌, ◌<◌, List, [], ◌∷◌, ◌++◌, length, get_or, take, sym, ap, ◌∙◌, append_assoc, Result, Ok, Err, cond}
use Rattle.std.specs.List.{flat_map}
use Rattle.std.specs.Prelude.{OnOk, is_ok}
use Rattle.std.proofs.lemmas.List.{append-nil, take_more}
use Rattle.std.proofs.lemmas.List.Concat.{flat_map-cons}
use Rattle.std.proofs.lemmas.Grind.{flat_map-append}
use Rattle.std.proofs.lemmas.Result.{on_ok_weaker}

-- three pieces one behind the other, the last by a call whose result is returned
pub appended_three : {T E : Type 0} (r : Result T E) (front a b c o1 o2 o3 : List ℕ) → o1 ≡ front ++ a → o2 ≡ o1 ++ b
    → OnOk r (o3 ≡ o2 ++ c) → OnOk r (o3 ≡ front ++ (a ++ b ++ c))
appended_three r front a b c o1 o2 o3 e1 e2 last =
    let e : o2 ≡ front ++ (a ++ b) = e2 ∙ ap (λ (x : List ℕ). x ++ b) e1 ∙ append_assoc front a b in
    on_ok_weaker r (λ l. l ∙ ap (λ (x : List ℕ). x ++ c) e ∙ append_assoc front (a ++ b) c) last

-- four pieces one behind the other, the last by a call whose result is returned
pub appended_four : {T E : Type 0} (r : Result T E) (front a b c d o1 o2 o3 o4 : List ℕ) → o1 ≡ front ++ a → o2 ≡ o1 ++ b → o3 ≡ o2 ++ c
    → OnOk r (o4 ≡ o3 ++ d) → OnOk r (o4 ≡ front ++ (a ++ b ++ c ++ d))
appended_four r front a b c d o1 o2 o3 o4 e1 e2 e3 last =
    let e : o3 ≡ front ++ (a ++ b ++ c) = e3 ∙ ap (λ (x : List ℕ). x ++ c) (e2 ∙ ap (λ (x : List ℕ). x ++ b) e1) ∙ simp append_assoc in
    on_ok_weaker r (λ l. l ∙ ap (λ (x : List ℕ). x ++ d) e ∙ append_assoc front (a ++ b ++ c) d) last

-- what was appended where a call went well, as other bytes that are the same
pub appended_as : {T E : Type 0} (r : Result T E) (new old text same : List ℕ) → new ≡ cond (is_ok r) (old ++ text) old → text ≡ same → OnOk r (new ≡ old ++ same)
appended_as (Ok x) new old text same e is = e ∙ ap (λ (t : List ℕ). old ++ t) is
appended_as (Err x) new old text same e is = tt

-- five pieces likewise
pub appended_five : {T E : Type 0} (r : Result T E) (front a b c d e o1 o2 o3 o4 o5 : List ℕ) → o1 ≡ front ++ a → o2 ≡ o1 ++ b → o3 ≡ o2 ++ c → o4 ≡ o3 ++ d
    → OnOk r (o5 ≡ o4 ++ e) → OnOk r (o5 ≡ front ++ (a ++ b ++ c ++ d ++ e))
appended_five r front a b c d e o1 o2 o3 o4 o5 e1 e2 e3 e4 last =
    let so_far : o3 ≡ front ++ (a ++ b ++ c) = e3 ∙ ap (λ (x : List ℕ). x ++ c) (e2 ∙ ap (λ (x : List ℕ). x ++ b) e1) ∙ simp append_assoc in
    let whole : o4 ≡ front ++ (a ++ b ++ c ++ d) = e4 ∙ ap (λ (x : List ℕ). x ++ d) so_far ∙ append_assoc front (a ++ b ++ c) d in
    on_ok_weaker r (λ l. l ∙ ap (λ (x : List ℕ). x ++ e) whole ∙ append_assoc front (a ++ b ++ c ++ d) e) last

-- what a loop puts for each item: that of one more
pub put_more : {X A : Type 0} (f : X → List A) (xs : List X) (i : ℕ) (x : X) (start so_far more : List A) → i < length xs → x ≡ get_or xs i x
    → so_far ≡ start ++ flat_map f (take i xs) → more ≡ so_far ++ f x → more ≡ start ++ flat_map f (take (i + 1) xs)
put_more {X} {A} f xs i x start so_far more lt is was put =
    let one : flat_map f (x ∷ []) ≡ f x = flat_map-cons f x [] ∙ append-nil (f x) in
    let grown : take (i + 1) xs ≡ take i xs ++ x ∷ [] = take_more xs i x lt ∙ ap (λ (y : X). take i xs ++ y ∷ []) (sym is) in
    let parts : flat_map f (take (i + 1) xs) ≡ flat_map f (take i xs) ++ f x = ap (flat_map f) grown ∙ flat_map-append f (take i xs) (x ∷ []) ∙ ap (λ (l : List A). flat_map f (take i xs) ++ l) one in
    put ∙ ap (λ (l : List A). l ++ f x) was ∙ append_assoc start (flat_map f (take i xs)) (f x) ∙ ap (λ (l : List A). start ++ l) (sym parts)
