-- How fields are stored for look-ups.
-- A helper: no public contract cites it.
use Rattle.std.specs.Prelude.{ℕ, zero, suc, List, ◌∷◌, Option, map, position}
use Rattle.std.specs.Borrow.{Bor}
use Rattle.rmt_check.specs.Parts.{TableText}
use Rattle.rmt_check.specs.Names.{Known, Owner, of_all, of_metadata, of_header, Named, own, same_field, ident_names, listed}

-- A field is stored by a number for its owner in front of its own name: 0 for what every program has, 1 for the metadata,
-- 2 and more for the headers.
abbrev pub code_of : Owner → ℕ
code_of of_all = 0
code_of of_metadata = 1
code_of (of_header n) = suc (suc n)

abbrev pub code : Named → List ℕ
code x = code_of x.owner ∷ x.name

-- the owner of a number, and the field that a key is
abbrev pub owner_at : ℕ → Owner
owner_at zero = of_all
owner_at (suc zero) = of_metadata
owner_at (suc (suc n)) = of_header n

abbrev pub named_at : ℕ × Bor (List ℕ) → Named
named_at k = own (owner_at k.0) k.1.now

-- a key as it is stored
abbrev pub stored : ℕ × Bor (List ℕ) → List ℕ
stored k = k.0 ∷ k.1.now

-- what some fields are stored by
abbrev pub all_codes : List Known → List (List ℕ)
all_codes fs = map (λ (f : Known). code f.named) fs

-- the number of a field among some: the place of the first that is the same
abbrev pub place_among : List Known → Named → Option ℕ
place_among fs x = position (same_field x) (map (λ (f : Known). f.named) fs)

-- of each table, the names of the actions of its list
abbrev pub list_names : List TableText → List (List (List ℕ))
list_names ts = map (λ (t : TableText). ident_names (listed t)) ts
