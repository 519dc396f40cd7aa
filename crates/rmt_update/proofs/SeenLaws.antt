-- The entries that a version sees, one after another.
use Rattle.std.proofs.Common.{◌≡◌, ◌≢◌, ℕ, ◌+◌, ◌<◌, Bool, true, false, cond, List, [], ◌∷◌, ◌++◌, get_or, length, length-append, map, take, sym, ap, ◌∙◌, subst, arith}
use Rattle.std.specs.Borrow.{Bor}
use Rattle.std.specs.Prelude.{eqb, filter}
use Rattle.std.specs.List.{flat_map}
use Rattle.std.specs.List.Sorted.{IsNonDecreasingBy, IsPermutation}
use Rattle.std.proofs.Math.Seq.{get_or-append_seam}
use Rattle.std.proofs.lemmas.Grind.{flat_map-append}
use Rattle.std.proofs.lemmas.Bool.Decides.{Decides-eqb}
use Rattle.std.proofs.lemmas.List.{append-nil, get_or-map, get_or_append_left, length-map, take_more}
use Rattle.std.proofs.lemmas.List.Sorted.{Contains-permutation, IsPermutation-map, IsPermutation-sym}
use Rattle.std.proofs.lemmas.Map.Keys.{IsDistinct-IsPermutation}
use Rattle.std.proofs.lemmas.Map.Made.{AllPairs-from_IsDistinct, IsDistinct-from_AllPairs}
use Rattle.rmt_bits.proofs.OptionLaws.{eqb-sym}
use Rattle.rmt_bits.proofs.PairLaws.{AllPairs-map}
use Rattle.rmt_ast.specs.declared.entry.Entry.{Entry}
use Rattle.rmt_book.specs.declared.kept.Kept.{Kept}
use Rattle.rmt_book.specs.Numbered.{IsNew}
use Rattle.rmt_book.specs.Seen.{HaveNumbers}
use Rattle.rmt_config.specs.NamesForm.{by_number}
use Rattle.rmt_pack.proofs.SortedLaws.{by_number_is}

-- of entries that have numbers, those in front do
pub numbers-front : (xs ys : List Entry) → HaveNumbers (xs ++ ys) → HaveNumbers xs
numbers-front xs ys h i j d lt l =
    let one = h i j d lt (omega (arith, l, length-append xs ys)) in
    subst (λ (a : Entry). a.number ≢ (get_or xs j d).number) (get_or_append_left xs ys d i (omega (arith, lt, l)))
    (subst (λ (b : Entry). (get_or (xs ++ ys) i d).number ≢ b.number) (get_or_append_left xs ys d j l) one)

-- and the next one is new among them
pub number-new : (xs : List Entry) (e : Entry) → HaveNumbers (xs ++ e ∷ []) → IsNew e.number xs
number-new xs e h i d l same =
    let one = h i (length xs) d l (omega (arith, length-append xs (e ∷ []))) in
    one (ap (λ (a : Entry). a.number) (get_or_append_left xs (e ∷ []) d i l) ∙ sym same ∙ sym (ap (λ (a : Entry). a.number) (get_or-append_seam xs e [] d)))

-- entries that have numbers have them in any order
numbers-moved : (xs ys : List Entry) → IsPermutation xs ys → HaveNumbers xs → HaveNumbers ys
numbers-moved xs ys moved h i j d lt inside same =
    let number : Entry → ℕ = λ e. e.number in
    let long = length-map ys number in
    AllPairs-from_IsDistinct Decides-eqb (map number ys)
    (IsDistinct-IsPermutation eqb eqb-sym (map number xs) (map number ys) (IsPermutation-map number xs ys moved) (IsDistinct-from_AllPairs Decides-eqb (map number xs) (AllPairs-map ◌≢◌ number xs h))) i j (number d) lt
    (omega (arith, inside, long)) (get_or-map number ys i d (number d) (omega (arith, lt, inside)) ∙ same ∙ sym (get_or-map number ys j d (number d) inside))

-- the same entries, sorted by their numbers
pub number-sorted : (xs ys : List Entry) → HaveNumbers xs → IsPermutation xs ys → IsNonDecreasingBy (λ (e : Entry). e.number) ys → ys ≡ by_number xs
number-sorted xs ys h moved sorted =
    let own = numbers-moved xs ys moved h in
    sym
    (by_number_is xs ys h
    (λ i j d lt inside. let le = sorted i j d (omega (arith, lt)) inside in let apart = own i j d lt inside in omega (arith, le, apart))
    (λ e there. Contains-permutation xs ys e moved there) (λ e there. Contains-permutation ys xs e (IsPermutation-sym xs ys moved) there))

-- ---- the cells that are gone over

told-cons : (told : Kept → Entry) (b : Bool) (x : Kept) (more rest : List Kept) (tail : List Entry) → map told more ≡ map told rest ++ tail
    → map told (cond b (x ∷ more) more) ≡ map told (cond b (x ∷ rest) rest) ++ tail
told-cons told true x more rest tail e = ap (λ es. told x ∷ es) e
told-cons told false x more rest tail e = e

-- a cell that is seen tells one entry more
pub told-more : (told : Kept → Entry) (seen : Kept → Bool) (ks : List (Bor Kept)) (k : Bor Kept) → seen k.now ≡ true
    → map told (filter seen (map (λ (x : Bor Kept). x.now) (ks ++ k ∷ []))) ≡ map told (filter seen (map (λ (x : Bor Kept). x.now) ks)) ++ told k.now ∷ []
told-more told seen [] k is = ap (λ b. map told (cond b (k.now ∷ []) [])) is
told-more told seen (x ∷ ks) k is =
    told-cons told (seen x.now) x.now (filter seen (map (λ (x : Bor Kept). x.now) (ks ++ k ∷ []))) (filter seen (map (λ (x : Bor Kept). x.now) ks)) (told k.now ∷ []) (told-more told seen ks k is)

-- a cell that is unseen tells nothing
pub unseen-more : (seen : Kept → Bool) (ks : List (Bor Kept)) (k : Bor Kept) → seen k.now ≡ false
    → filter seen (map (λ (x : Bor Kept). x.now) (ks ++ k ∷ [])) ≡ filter seen (map (λ (x : Bor Kept). x.now) ks)
unseen-more seen [] k is = ap (λ b. cond b (k.now ∷ []) []) is
unseen-more seen (x ∷ ks) k is = ap (λ (xs : List Kept). cond (seen x.now) (x.now ∷ xs) xs) (unseen-more seen ks k is)

-- ---- the parts that are gone over

pub parts-more : {X : Type 0} (f : X → List Entry) (xs seen : List X) (i : ℕ) (x : X) → seen ≡ xs → i < length seen → x ≡ get_or seen i x
    → flat_map f (take (i + 1) xs) ≡ flat_map f (take i xs) ++ f x
parts-more f xs seen i x same lt is =
    let here : x ≡ get_or xs i x = is ∙ ap (λ ys. get_or ys i x) same in
    let within : i < length xs = subst (λ ys. i < length ys) same lt in
    ap (flat_map f) (take_more xs i x within ∙ ap (λ y. take i xs ++ y ∷ []) (sym here))
    ∙ flat_map-append f (take i xs) (x ∷ []) ∙ ap (λ es. flat_map f (take i xs) ++ es) (append-nil (f x))
