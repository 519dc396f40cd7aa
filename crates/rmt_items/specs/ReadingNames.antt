-- Reading the names of an image from their front: their grammar alone, as the rules on names are rules of the whole.
use Rattle.std.specs.Prelude.{ℕ, ◌==◌, if◌then◌else◌, List, []}
use Rattle.rmt_ast.specs.declared.program.Kind.{Kind}
use Rattle.rmt_ast.specs.declared.program.Kind.TheVariants as kind
use Rattle.rmt_ast.specs.declared.names.Names.{Names}
use Rattle.rmt_ast.specs.declared.names.TableName.{TableName}
use Rattle.rmt_ast.specs.declared.names.ActionName.{ActionName}
use Rattle.rmt_ast.specs.declared.names.RankOf.{RankOf}
use Rattle.rmt_items.specs.declared.fault.ReadFault.TheVariants.{Short}
use Rattle.rmt_bits.specs.Readers as bits
use Rattle.rmt_items.specs.Readers.{Reader, give, behind, ◌⊗◌, made, kept, list_at, listed, at_most, byte_at, number_at, fours_at}

-- that many bytes, as they stand
unfoldable pub bytes_at : ℕ → Reader (List ℕ)
bytes_at n bytes = bits.bytes_at Short n bytes

-- a name behind its length
unfoldable pub name_at : Reader (List ℕ)
name_at bytes = listed (number_at 4) bytes_at bytes

abbrev pub action_of_parts : List ℕ × List ℕ → ActionName
action_of_parts x = record { name = x.0; params = x.1 }

-- an action: its name, and a byte for the width of each parameter
unfoldable pub action_at : Reader ActionName
action_at bytes = made action_of_parts (name_at ⊗ listed byte_at bytes_at) bytes

abbrev pub rank_of_parts : ℕ × ℕ → RankOf
rank_of_parts x = record { number = x.0; rank = x.1 }

unfoldable pub rank_at : Reader RankOf
rank_at bytes = made rank_of_parts fours_at bytes

abbrev pub table_kind_of : ℕ → Kind
table_kind_of n = if n == 0 then kind.Exact else (if n == 1 then kind.Prefix else kind.Ternary)

-- the choice byte of a table's kind
unfoldable pub table_kind_at : Reader Kind
table_kind_at bytes = made table_kind_of (kept (at_most 2) byte_at) bytes

-- ranks stand in ternary tables alone
abbrev pub ranks_at : Kind → Reader (List RankOf)
ranks_at kind.Keyless = give []
ranks_at kind.Exact = give []
ranks_at kind.Prefix = give []
ranks_at kind.Ternary = listed (number_at 4) (list_at rank_at)

abbrev pub table_of_parts : (ℕ × List ℕ) × (Kind × (ℕ × (List ℕ × (List ActionName × List RankOf)))) → TableName
table_of_parts x = record {
  node = x.0.0;
  name = x.0.1;
  kind = x.1.0;
  size = x.1.1.0;
  keys = x.1.1.1.0;
  actions = x.1.1.1.1.0;
  ranks = x.1.1.1.1.1;
}

abbrev pub TableBody : Type 0
TableBody = Kind × (ℕ × (List ℕ × (List ActionName × List RankOf)))

-- what stands behind the name of a table: its kind, size, a byte for the width of each field of the key, its actions and its ranks
unfoldable pub table_body_at : Reader TableBody
table_body_at bytes = behind table_kind_at (λ k. number_at 4 ⊗ listed (number_at 2) bytes_at ⊗ listed byte_at (list_at action_at) ⊗ ranks_at k) bytes

-- a table: its node and name, and what stands behind them
unfoldable pub table_at : Reader TableName
table_at bytes = made table_of_parts ((byte_at ⊗ name_at) ⊗ table_body_at) bytes

abbrev pub names_of_parts : List TableName → Names
names_of_parts tables = record { tables = tables }

unfoldable pub names_at : Reader Names
names_at bytes = made names_of_parts (listed byte_at (list_at table_at)) bytes
