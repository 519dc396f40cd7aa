-- What a map tells of each entry, found by the entry's number.
use Rattle.std.specs.Prelude.{◌≡◌, ◌≢◌, ◌↔◌, ℕ, List, Some, AllPairs, Contains}
use Rattle.std.specs.BTreeMap.{BTreeMap, get}
use Rattle.std.specs.Ordering.{nat_cmp}
use Rattle.rmt_verify.specs.Types.{CellOf}

abbrev pub TellApart : CellOf → CellOf → Type 0
TellApart a b = a.entry ≢ b.entry

-- no entry is told of twice, and what is found by an entry's number is what is told of it
pub record AreTold (cells : List CellOf) (told : BTreeMap ℕ CellOf) : Type 0 where
  pub once : AllPairs TellApart cells
  pub own : (n : ℕ) (x : CellOf) → get nat_cmp told n ≡ Some x → x.entry ≡ n
  pub each : (x : CellOf) → (get nat_cmp told x.entry ≡ Some x) ↔ Contains cells x
