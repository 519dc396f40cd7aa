-- Names and their numbers.
use Rattle.std.specs.Prelude.{◌≡◌, ℕ, List, Bool, Option, map, position}
use Rattle.std.specs.Borrow.{Bor}
use Rattle.std.specs.List.{list_any}
use Rattle.std.specs.Map.{lookup}
use Rattle.std.specs.Str.{bytes_eq}
use Rattle.rmt_ast.specs.declared.name_list.NameList.TheInside.{Inside}

-- the number of a name: the place of the first that is equal
abbrev pub number_of : List (List ℕ) → List ℕ → Option ℕ
number_of names name = position (bytes_eq name) names

-- whether a name is among some names
abbrev pub is_known : List (List ℕ) → List ℕ → Bool
is_known names name = list_any (bytes_eq name) names

-- a borrowed name as its bytes
abbrev pub bytes_of : Bor (List ℕ) → List ℕ
bytes_of name = name.now

abbrev pub seen : List (Bor (List ℕ)) → List (List ℕ)
seen names = map bytes_of names

-- a map, whose keys have these bytes, has the number of each name
pub record HasNumbers {K : Type 0} (bytes : K → List ℕ) (entries : List (K × ℕ)) (names : List (List ℕ)) : Type 0 where
  pub at : (name : List ℕ) → lookup (λ (k : K). bytes_eq name (bytes k)) entries ≡ number_of names name

pub record AreNumbered (n : Inside) : Type 0 where
  pub numbers : HasNumbers bytes_of n.numbers.entries (seen n.names.items)
