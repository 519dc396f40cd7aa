-- Which words are names.
use Rattle.std.specs.Prelude.{ℕ, List, [], ◌∷◌, Bool, false, not, ◌&&◌, ◌||◌, ◌==◌, nat_le, codes}
use Rattle.std.specs.List.{list_all}
use Rattle.rmt_bits.specs.Digits.{is_digit}
use Rattle.rmt_ast.specs.NameList.{is_known}

-- a letter or _
abbrev pub is_letter : ℕ → Bool
is_letter b = (nat_le 97 b && nat_le b 122) || (nat_le 65 b && nat_le b 90) || (b == 95)

-- what a name may go on with
abbrev pub is_name_byte : ℕ → Bool
is_name_byte b = is_letter b || is_digit b

-- a letter or _, and then letters, digits and _
abbrev pub has_name_form : List ℕ → Bool
has_name_form [] = false
has_name_form (b ∷ bs) = is_letter b && list_all is_name_byte bs

-- the words that are no names in an image; a program's text reserves `tail` too
abbrev pub reserved_words : List (List ℕ)
reserved_words =
    codes "header" ∷ codes "next" ∷ codes "accept" ∷ codes "reject" ∷ codes "meta" ∷ codes "action" ∷ codes "table" ∷ codes "exact"
    ∷ codes "prefix" ∷ codes "ternary" ∷ codes "actions" ∷ codes "default" ∷ codes "size" ∷ codes "counted" ∷ codes "control" ∷ codes "apply"
    ∷ codes "if" ∷ codes "else" ∷ codes "hit" ∷ codes "miss" ∷ codes "in_port" ∷ codes "out_port" ∷ codes "drop" ∷ codes "valid" ∷ []

-- a name as an image may have it: of the form of names, and not reserved
abbrev pub is_name : List ℕ → Bool
is_name word = has_name_form word && not (is_known reserved_words word)
