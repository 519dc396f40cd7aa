-- The numbers of fields by their keys.
use Rattle.std.proofs.Common.{◌≡◌, ℕ, ◌+◌, ◌<◌, List, ◌++◌, ◌∷◌, [], take, get_or, length, None, Some, sym, ap, ◌∙◌, arith}
use Rattle.std.specs.Borrow.{Bor}
use Rattle.std.specs.Map.{lookup}
use Rattle.std.specs.Str.{bytes_eq}
use Rattle.std.proofs.lemmas.List.{take_more, map_push, length-map, length-take}
use Rattle.indexmap.specs.IndexMap.{IndexMap, get, insert_entry}
use Rattle.rmt_ast.specs.NameList.{HasNumbers, number_of}
use Rattle.rmt_check.specs.Names.{Known}
use Rattle.rmt_check.specs.StoredFields.{all_codes, code, stored, named_at, place_among}
use Rattle.rmt_check.proofs.FieldCodes.{place-code, stored-code}
use Rattle.rmt_ast.proofs.NameListLaws.{same, number_new, numbers_again}

-- one field more
module _ {S : Type 0} (m : IndexMap (ℕ × Bor (List ℕ)) ℕ S) (fs : List Known) (i : ℕ) (f : Known) (k : ℕ × Bor (List ℕ)) (key : named_at k ≡ f.named)
    (lt : i < length fs) (is : f ≡ get_or fs i f) (old : HasNumbers stored m.entries (all_codes (take i fs))) where
  more : all_codes (take (i + 1) fs) ≡ all_codes (take i fs) ++ stored k ∷ []
  more =
      ap all_codes (take_more fs i f lt) ∙ map_push (λ (x : Known). code x.named) (take i fs) (get_or fs i f)
      ∙ ap (λ c. all_codes (take i fs) ++ c ∷ []) (ap (λ (x : Known). code x.named) (sym is) ∙ ap code (sym key) ∙ sym (stored-code k))

  pub field_new : get (same stored) m k ≡ None → HasNumbers stored (insert_entry (same stored) m.entries k i) (all_codes (take (i + 1) fs))
  field_new none = rw more (number_new stored m (all_codes (take i fs)) k i old (simp (length-map, length-take) (omega arith)) none)

  pub field_again : (v : ℕ) → get (same stored) m k ≡ Some v → HasNumbers stored m.entries (all_codes (take (i + 1) fs))
  field_again v some = rw more (numbers_again stored m.entries (all_codes (take i fs)) (stored k) v old some)

-- the number of a field is found by its key
pub number_found : (fs : List Known) (es : List ((ℕ × Bor (List ℕ)) × ℕ)) (k : ℕ × Bor (List ℕ)) → HasNumbers stored es (all_codes fs)
    → lookup (λ x. bytes_eq (stored k) (stored x)) es ≡ place_among fs (named_at k)
number_found fs es k h =
    h.at (stored k) ∙ ap (number_of (all_codes fs)) (stored-code k) ∙ sym (place-code (λ (f : Known). f.named) (named_at k) fs)
