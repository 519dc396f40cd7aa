-- What holds of each form of each phrase, found by computing.
use Rattle.rmt_syntax.proofs.Words.{◌≡◌, ℕ, zero, suc, ◌+◌, Bool, true, false, refl, List, [], ◌∷◌, ◌&&◌, ◌||◌, not, nat_lt, list_all, list_any, Terminal, Part, One, Node, Phrase, Whole, Form, choices, same, member, first_of, first_form, first_phrase, is_empty, is_done, may_end, height, tails, is_operand_name}
use Rattle.rmt_syntax.proofs.Words.terminal
use Rattle.rmt_syntax.proofs.Words.rule
use Rattle.rmt_syntax.proofs.Sets.{subset, disjoint}

abbrev pub is_program : Phrase → Bool
is_program (Whole rule.Program) = true
is_program _ = false

-- no terminal is in both, but for a name that begins an operand
abbrev pub differ : Phrase → List Terminal → List Terminal → Bool
differ x xs ys = list_all (λ t. not (member t ys) || is_operand_name x t) xs

-- two forms of one phrase begin with different terminals, and one without parts stands last
abbrev pub distinct : Phrase → List Form → Bool
distinct x [] = true
distinct x (f ∷ []) = true
distinct x (f ∷ g ∷ fs) = not (is_empty f) && list_all (λ other. differ x (first_form f) (first_form other)) (g ∷ fs) && distinct x (g ∷ fs)

-- a form without parts ends its phrase
abbrev pub ends_well : Form → Bool
ends_well f = not (is_empty f) || is_done f.1

-- a form begins with a lower node, where its phrase may not end
abbrev pub is_lower : Phrase → Form → Bool
is_lower x ([], next) = true
is_lower x (One c ∷ ps, next) = true
is_lower x (Node r ∷ ps, next) = nat_lt (1 + height (Whole r)) (height x) && not (may_end x)

-- the parts, in the phrase x and before next, keep the order of what is to come
abbrev pub in_order : Phrase → List Part → Phrase → Bool
in_order x [] next = subset (tails next) (tails x) && (not (is_program next) || is_program x)
in_order x (One c ∷ ps) next = (not (same c terminal.End) || (is_program x && is_empty (ps, next) && is_done next)) && in_order x ps next
in_order x (Node r ∷ []) next =
    not (is_program (Whole r)) && disjoint (tails (Whole r)) (first_phrase next) && (not (may_end next) || subset (tails (Whole r)) (tails x)) && in_order x [] next
in_order x (Node r ∷ p ∷ ps) next = not (is_program (Whole r)) && disjoint (tails (Whole r)) (first_form (p ∷ ps, next)) && in_order x (p ∷ ps) next

-- what goes on with a phrase that may end is among its tails
abbrev pub goes_on_well : Phrase → Bool
goes_on_well x = not (may_end x) || subset (first_phrase x) (tails x)

-- the text of a rule is not empty, and begins as first_of says
abbrev pub begins_well : Phrase → Bool
begins_well (Whole r) = not (may_end (Whole r)) && subset (first_phrase (Whole r)) (first_of r)
begins_well _ = true

-- a form has a text where its nodes and its phrase have one
abbrev pub part_ends : (Phrase → Bool) → Part → Bool
part_ends ends (One c) = true
part_ends ends (Node r) = ends (Whole r)

abbrev pub form_ends : (Phrase → Bool) → Form → Bool
form_ends ends f = list_all (part_ends ends) f.0 && ends f.1

-- a phrase has a text in which at most so many phrases and nodes stand in one another
abbrev pub has_end : ℕ → Phrase → Bool
has_end zero x = is_done x
has_end (suc n) x = is_done x || list_any (form_ends (has_end n)) (choices x)

-- what holds of a phrase
pub record Sound (x : Phrase) : Type 0 where
  pub distinct_forms : distinct x (choices x) ≡ true
  pub ends : list_all ends_well (choices x) ≡ true
  pub order : list_all (λ f. in_order x f.0 f.1) (choices x) ≡ true
  pub goes_on : goes_on_well x ≡ true
  pub lower : list_all (is_lower x) (choices x) ≡ true
  pub begins : begins_well x ≡ true
  pub end : has_end 4 x ≡ true

pub sound : (x : Phrase) → Sound x
sound (Whole rule.Program) = record { distinct_forms = refl; ends = refl; order = refl; goes_on = refl; lower = refl; begins = refl; end = refl }
sound (Whole _) = record { distinct_forms = refl; ends = refl; order = refl; goes_on = refl; lower = refl; begins = refl; end = refl }
sound _ = record { distinct_forms = refl; ends = refl; order = refl; goes_on = refl; lower = refl; begins = refl; end = refl }
