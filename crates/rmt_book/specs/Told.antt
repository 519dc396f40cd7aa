-- The entry that a kept cell tells.
use Rattle.std.specs.Prelude.{ℕ, ◌-◌, ◌^◌, Bool, true, false, if◌then◌else◌, sum}
use Rattle.rmt_bits.specs.Bits.{number_of}
use Rattle.rmt_ast.specs.declared.program.Kind.{Kind}
use Rattle.rmt_ast.specs.declared.program.Kind.TheVariants as kind
use Rattle.rmt_ast.specs.declared.entry.Entry.{Entry}
use Rattle.rmt_ast.specs.declared.names.TableName.{TableName}
use Rattle.rmt_config.specs.NamesForm.{args_of_data, params_in, tests_of_key}
use Rattle.rmt_book.specs.declared.kept.Kept.{Kept}

-- all bits of a key count
abbrev pub is_whole : Kind → Bool
is_whole kind.Keyless = false
is_whole kind.Exact = true
is_whole kind.Prefix = false
is_whole kind.Ternary = false

-- the entry in a cell of a part of a table, whose first instruction has that number
abbrev pub told_entry : TableName → ℕ → Kept → Entry
told_entry t first k = record {
  table = t.node;
  number = k.number;
  tests = tests_of_key t.keys (number_of k.key.items) (if is_whole t.kind then 2 ^ sum t.keys - 1 else number_of k.mask.items);
  rank = k.rank;
  action = k.code - first;
  args = args_of_data (params_in t (k.code - first)) (number_of k.held.items);
}
