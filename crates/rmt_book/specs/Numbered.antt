-- Entries in a map by their numbers.
use Rattle.std.specs.Prelude.{◌≡◌, ◌≢◌, ℕ, List, All, map}
use Rattle.std.specs.BTreeMap.{BTreeMap}
use Rattle.rmt_ast.specs.declared.entry.Entry.{Entry}
use Rattle.rmt_config.specs.NamesForm.{by_number}

-- an entry beside its number
abbrev pub keyed : Entry → ℕ × Entry
keyed e = (e.number, e)

-- no entry has a number
abbrev pub IsNew : ℕ → List Entry → Type 0
IsNew n es = All (λ (e : Entry). n ≢ e.number) es

-- a map has entries by their numbers
pub record IsOrder (es : List Entry) (m : BTreeMap ℕ Entry) : Type 0 where
  pub entries : m.entries ≡ map keyed (by_number es)
