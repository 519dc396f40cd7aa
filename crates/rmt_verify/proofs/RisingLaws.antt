-- Instructions whose operations stand by rising word: there is one for given operations.
use Rattle.std.proofs.Common.{◌≡◌, ◌↔◌, ◌∙◌, Bool, subst, ℕ, zero, suc, ◌+◌, ◌<◌, ◌&&◌, true, List, [], ◌∷◌, length, get_or, map, ltb, leb, refl, sym, ap, arith}
use Rattle.std.specs.Prelude.{All, Contains, IsTrue}
use Rattle.std.specs.List.{list_all}
use Rattle.std.specs.List.Sorted.{IsPermutation}
use Rattle.std.proofs.lemmas.Bool.{and_parts, ltb-true}
use Rattle.std.proofs.lemmas.List.Elements.{All-cons, All-contains_itself, All-nil, All-weaker}
use Rattle.std.proofs.lemmas.List.Sorted.{All-permutation, Contains-permutation}
use Rattle.rmt_config.specs.CodeForm.{code_is_formed, operation_is_formed, places_of, vliw_is_formed}
use Rattle.rmt_config.specs.Order.{rises_from}
use Rattle.rmt_config.specs.StageForm.{stage_is_formed}
use Rattle.rmt_config.specs.declared.config.Vliw.{Vliw}
use Rattle.rmt_config.specs.declared.form.code.InstructionRole.{InstructionRole}
use Rattle.rmt_config.proofs.RiseLaws.{all_above, rise-upto}
use Rattle.rmt_refine.specs.Types.{Operation, Stage}
use Rattle.rmt_vliw.specs.Operations.{IsInstruction}
use Rattle.rmt_verify.specs.WordsRise.{CodeRises, WordsRise}

-- ---- lists that rise

-- the least of two rising lists of the same items is one
same_first : {X : Type 0} (f : X → ℕ) (x y : X) (xs ys : List X) → rises_from (f x + 1) (map f xs) ≡ true → rises_from (f y + 1) (map f ys) ≡ true
    → (i : ℕ) → i < length (y ∷ ys) → get_or (y ∷ ys) i x ≡ x → (j : ℕ) → j < length (x ∷ xs) → get_or (x ∷ xs) j y ≡ y → x ≡ y
same_first f x y xs ys up up2 zero lt is j lt2 is2 = sym is
same_first f x y xs ys up up2 (suc i) lt is zero lt2 is2 = is2
same_first f x y xs ys up up2 (suc i) lt is (suc j) lt2 is2 =
    let one = all_above f (f y + 1) ys up2 i x (omega (arith, lt)) in
    let two = all_above f (f x + 1) xs up j y (omega (arith, lt2)) in
    let e = ap f is in
    let e2 = ap f is2 in
    absurd (omega (arith, one, two, e, e2))

-- an item above the first one is behind it
in_tail : {X : Type 0} (f : X → ℕ) (y : X) (ys : List X) (x : X) → f y < f x → Contains (y ∷ ys) x → Contains ys x
in_tail f y ys x less (zero, lt, is) = let e = ap f is in absurd (omega (arith, e, less))
in_tail f y ys x less (suc k, lt, is) = (k, omega (arith, lt), is)

pub same_rising : {X : Type 0} (f : X → ℕ) (a b : ℕ) (xs ys : List X) → rises_from a (map f xs) ≡ true → rises_from b (map f ys) ≡ true
    → All (Contains ys) xs → All (Contains xs) ys → xs ≡ ys
same_rising f a b [] [] up up2 each back = refl
same_rising f a b [] (y ∷ ys) up up2 each back = let none = back 0 y (omega arith) in absurd (omega (arith, none.1))
same_rising f a b (x ∷ xs) [] up up2 each back = let none = each 0 x (omega arith) in absurd (omega (arith, none.1))
same_rising f a b (x ∷ xs) (y ∷ ys) up up2 each back =
    let high = (and_parts (leb a (f x)) (rises_from (f x + 1) (map f xs)) up).1 in
    let high2 = (and_parts (leb b (f y)) (rises_from (f y + 1) (map f ys)) up2).1 in
    let at = each 0 x (omega arith) in
    let at2 = back 0 y (omega arith) in
    let first : x ≡ y = same_first f x y xs ys high high2 at.0 at.1 at.2 at2.0 at2.1 at2.2 in
    let level = ap f first in
    let rest : xs ≡ ys =
    same_rising f (f x + 1) (f y + 1) xs ys high high2
    (λ i d lt. let above = all_above f (f x + 1) xs high i d lt in in_tail f y ys (get_or xs i d) (omega (arith, above, level)) (each (suc i) d (omega (arith, lt))))
    (λ i d lt. let above = all_above f (f y + 1) ys high2 i d lt in in_tail f x xs (get_or ys i d) (omega (arith, above, level)) (back (suc i) d (omega (arith, lt)))) in
    cc

-- ---- instructions

-- two orders of the same operations, both by rising word
pub same_ops : (made own ops : List Operation) → IsPermutation made own → WordsRise own → WordsRise ops → IsInstruction made ops → own ≡ ops
same_ops made own ops moved up up2 is =
    same_rising (λ (op : Operation). op.word) 0 0 own ops up up2
    (All-permutation (Contains ops) made own moved (All-weaker (Contains made) (Contains ops) (λ op has. Contains-permutation made ops op is.same has) made (All-contains_itself made)))
    (All-permutation (Contains own) made ops is.same (All-weaker (Contains made) (Contains own) (λ op has. Contains-permutation made own op moved has) made (All-contains_itself made)))

pub is_instruction : (made own : List Operation) → IsPermutation made own → WordsRise own → IsInstruction made own
is_instruction made own moved up = record { same = moved; by_word = rise-upto (λ (op : Operation). op.word) own up }

-- equal to the ones that were made is an instruction exactly where it is one of the same operations
pub same_answer : (made own ops seen : List Operation) (b : Bool) → seen ≡ own → IsPermutation made own → WordsRise own → WordsRise ops → (IsTrue b ↔ (seen ≡ ops))
    → (IsTrue b ↔ IsInstruction made ops)
same_answer made own ops seen b same moved up up2 e = (
  λ yes. subst (IsInstruction made) (sym same ∙ e.0 yes) (is_instruction made own moved up),
  λ is. e.1 (same ∙ same_ops made own ops moved up up2 is),
)

-- ---- those of a formed stage

pub words_rise : (place : InstructionRole) (v : Vliw) → vliw_is_formed place v ≡ true → WordsRise v.ops
words_rise place v e =
    let few = ltb (length v.ops) 256 in
    let each = list_all (operation_is_formed place) v.ops in
    (and_parts (few && each) (rises_from 0 (map (λ (op : Operation). op.word) v.ops)) e).1

code_rises : (places : List InstructionRole) (code : List Vliw) → code_is_formed places code ≡ true → All (λ (v : Vliw). WordsRise v.ops) code
code_rises places [] e = All-nil (λ (v : Vliw). WordsRise v.ops)
code_rises [] (v ∷ code) e = absurd cc
code_rises (place ∷ places) (v ∷ code) e =
    let parts = and_parts (vliw_is_formed place v) (code_is_formed places code) e in
    All-cons (λ (v : Vliw). WordsRise v.ops) v code (words_rise place v parts.0) (code_rises places code parts.1)

module _ (s : Stage) (formed : stage_is_formed s ≡ true) where
  stage_parts : (length s.units < 256) × (code_is_formed (places_of s.units) s.code ≡ true)
  stage_parts =
      let rows = and_parts _ _ (and_parts _ _ (and_parts _ _ formed).0).0 in
      let code = and_parts _ _ (and_parts _ _ rows.0).0 in
      let front = and_parts _ _ (and_parts _ _ code.0).0 in
      (ltb-true (length s.units) 256 front.1, code.1)

  pub stage_rises : CodeRises s
  stage_rises = code_rises (places_of s.units) s.code stage_parts.1

  pub few_units : length s.units < 256
  few_units = stage_parts.0
