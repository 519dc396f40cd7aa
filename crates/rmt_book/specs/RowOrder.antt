-- Rows of entries in the order of their precedence, and the first free row that keeps it.
use Rattle.std.specs.Prelude.{◌≡◌, ◌<◌, ℕ, ◌-◌, Option, Some, None, true}
use Rattle.std.specs.BTreeMap.{BTreeMap, get}
use Rattle.std.specs.BTreeSet.{BTreeSet, contains}
use Rattle.std.specs.Ordering.{nat_cmp}
use Rattle.std.specs.declared.cmp.Ordering.TheVariants.{Less}
use Rattle.rmt_ast.specs.RankPairs.{pair_cmp}
use Rattle.rmt_ast.specs.declared.entry.Entry.{Entry}
use Rattle.rmt_ast.specs.declared.program.Kind.{Kind}
use Rattle.rmt_ast.specs.declared.program.Kind.TheVariants as kind

-- what entries of a kind are put in order by: the longest prefix first, or the least priority, and then the number
abbrev pub key_by : Kind → ℕ → ℕ → ℕ × ℕ
key_by kind.Keyless rank number = (rank, number)
key_by kind.Exact rank number = (rank, number)
key_by kind.Prefix rank number = (4294967295 - rank, number)
key_by kind.Ternary rank number = (rank, number)

abbrev pub entry_key : Kind → Entry → ℕ × ℕ
entry_key k e = key_by k e.rank e.number

-- of two entries the one that goes first stands in the smaller row
abbrev pub AreInOrder : BTreeMap (ℕ × ℕ) ℕ → Type 0
AreInOrder rows = (k m : ℕ × ℕ) (i j : ℕ) → get pair_cmp rows k ≡ Some i → get pair_cmp rows m ≡ Some j → pair_cmp k m ≡ Less → i < j

-- in a row a further entry keeps that order
abbrev pub Fits : BTreeMap (ℕ × ℕ) ℕ → ℕ × ℕ → ℕ → Type 0
Fits rows key row = (k : ℕ × ℕ) (i : ℕ) → get pair_cmp rows k ≡ Some i → (pair_cmp k key ≡ Less → i < row) × (pair_cmp key k ≡ Less → row < i)

-- the first free row in which a further entry keeps the order
abbrev pub IsFirstFit : BTreeMap (ℕ × ℕ) ℕ → BTreeSet ℕ → ℕ × ℕ → Option ℕ → Type 0
IsFirstFit rows free key None = (row : ℕ) → contains nat_cmp free row ≡ true → Fits rows key row → ⊥
IsFirstFit rows free key (Some row) =
    (contains nat_cmp free row ≡ true) × Fits rows key row × ((i : ℕ) → i < row → contains nat_cmp free i ≡ true → Fits rows key i → ⊥)
