-- Marks, as they grow.
use Rattle.std.proofs.Common.{◌≡◌, ◌≢◌, ℕ, zero, suc, ◌++◌, Bool, true, false, List, [], ◌∷◌, length, replicate, Option, Some, ⊎_elim, refl, sym, ap, subst, ◌∙◌, arith}
use Rattle.std.specs.Prelude.{Contains, map, slice_get, slice_set, unwrap_or}
use Rattle.std.proofs.lemmas.Bool.{cases_eq, false≢true}
use Rattle.std.proofs.lemmas.List.{length-set, length-replicate, map_push}
use Rattle.std.proofs.lemmas.List.Elements.{All-push, Contains-push, Contains-append_left}
use Rattle.std.proofs.lemmas.Option.{none-some}
use Rattle.rmt_ast.specs.declared.entry.Entry.{Entry}
use Rattle.rmt_plain.specs.Marks.{slot_of, is_marked}
use Rattle.rmt_plain.specs.Grouping.{slot_for, IsMarked, AreMarks}
use Rattle.rmt_bits.proofs.ListLaws.{slice_get-set_other}

not_marked : (slots k : ℕ) → slice_get (replicate slots false) k ≡ Some true → ⊥
not_marked zero k h = none-some true h
not_marked (suc n) zero h = false≢true (ap (λ (o : Option Bool). unwrap_or o true) h)
not_marked (suc n) (suc k) h = not_marked n k h

-- at first nothing is marked
pub no_marks : (slots : ℕ) → AreMarks slots [] (replicate slots false)
no_marks slots = record { slots_are = length-replicate slots false; wanted = λ k d lt. absurd (omega arith); only = λ k h. absurd (not_marked slots k h) }

set_there : (marks : List Bool) (i : ℕ) → unwrap_or (slice_get (slice_set marks i true) i) true ≡ true
set_there [] i = refl
set_there (m ∷ ms) zero = refl
set_there (m ∷ ms) (suc i) = set_there ms i

set_kept : (marks : List Bool) (i j : ℕ) → unwrap_or (slice_get marks j) true ≡ true → unwrap_or (slice_get (slice_set marks i true) j) true ≡ true
set_kept [] i j h = refl
set_kept (m ∷ ms) zero zero h = refl
set_kept (m ∷ ms) zero (suc j) h = h
set_kept (m ∷ ms) (suc i) zero h = h
set_kept (m ∷ ms) (suc i) (suc j) h = set_kept ms i j h

-- the slots stay as many
same_slots : (marks : List Bool) (i t : ℕ) → is_marked (slice_set marks i true) t ≡ unwrap_or (slice_get (slice_set marks i true) (slot_of (length marks) t)) true
same_slots marks i t = ap (λ n. unwrap_or (slice_get (slice_set marks i true) (slot_of n t)) true) (length-set marks i true)

module _ (slots : ℕ) (es : List Entry) (e : Entry) (marks : List Bool) where
  abbrev own_slot : ℕ
  own_slot = slot_for slots e

  abbrev grown : List Bool
  grown = slice_set marks own_slot true

  own_marked : length marks ≡ slots → IsMarked grown e
  own_marked size = same_slots marks own_slot _ ∙ ap (λ n. unwrap_or (slice_get grown (slot_for n e)) true) size ∙ set_there marks own_slot

  only_own : ((k : ℕ) → slice_get marks k ≡ Some true → Contains (map (slot_for slots) es) k) → (k : ℕ) → slice_get grown k ≡ Some true → Contains (map (slot_for slots) es ++ own_slot ∷ []) k
  only_own only k h =
      ⊎_elim (λ (same : k ≡ own_slot). subst (Contains (map (slot_for slots) es ++ own_slot ∷ [])) (sym same) (Contains-push (map (slot_for slots) es) own_slot))
      (λ (apart : k ≢ own_slot). Contains-append_left (map (slot_for slots) es) (own_slot ∷ []) k (only k (sym (slice_get-set_other marks own_slot k true apart) ∙ h)))
      (cases_eq k own_slot)

  -- what one more entry wants is marked
  pub marks_push : AreMarks slots es marks → AreMarks slots (es ++ e ∷ []) grown
  marks_push was = record {
    slots_are = length-set marks own_slot true ∙ was.slots_are;
    wanted = All-push (IsMarked grown) es e (λ k d lt. same_slots marks own_slot _ ∙ set_kept marks own_slot _ (was.wanted k d lt)) (own_marked was.slots_are);
    only = λ k h. subst (λ (xs : List ℕ). Contains xs k) (sym (map_push (slot_for slots) es e)) (only_own was.only k h);
  }
