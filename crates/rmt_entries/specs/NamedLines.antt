-- What a line says by the names of tables, without their program.
use Rattle.std.specs.Prelude.{ℕ, List, [], ◌∷◌, ◌==◌, if◌then◌else◌, Option, Some, None, Result, Ok, Err, IsSomeAnd, find, length, map}
use Rattle.std.specs.Str.{bytes_eq}
use Rattle.rmt_ast.specs.declared.entry.Entry.{Entry}
use Rattle.rmt_ast.specs.declared.names.Names.{Names}
use Rattle.rmt_ast.specs.declared.names.TableName.{TableName}
use Rattle.rmt_ast.specs.declared.names.ActionName.{ActionName}
use Rattle.rmt_ast.specs.EntryLists.{IsEntry}
use Rattle.rmt_ast.specs.NameRules.{terms_named, terms_of_name}
use Rattle.rmt_entries.specs.declared.fault.EntryFault.{EntryFault}
use Rattle.rmt_entries.specs.declared.fault.EntryFault.TheVariants.{At}
use Rattle.rmt_entries.specs.declared.keys.Key.{Key}
use Rattle.rmt_entries.specs.declared.named.EntryName.{EntryName}
use Rattle.rmt_entries.specs.Entries.{Read, read_line}
use Rattle.rmt_entries.specs.Keys.{key_of}
use Rattle.rmt_entries.specs.Lines.{is_printable, words}
use Rattle.rmt_entries.specs.Tables.{AppliedTable, table_named}

-- the name of an action
abbrev pub action_word : ActionName → List ℕ
action_word a = a.name

-- a table that is known by its names, as a line sees it
abbrev pub named_table : TableName → AppliedTable
named_table t = record { node = t.node; name = t.name; terms = terms_of_name t; actions = map action_word t.actions }

abbrev pub named_tables : Names → List AppliedTable
named_tables names = map named_table names.tables

-- the first of them of a name
abbrev pub table_in : Names → List ℕ → Option TableName
table_in names name = find (λ (t : TableName). bytes_eq name t.name) names.tables

-- the fault of a line that stands alone
abbrev pub alone : {X : Type 0} → Result X ℕ → Result X EntryFault
alone (Ok x) = Ok x
alone (Err code) = Err (At code 1)

abbrev pub entry_read : Result Read ℕ → Result Entry ℕ
entry_read (Ok r) = Ok r.entry
entry_read (Err code) = Err code

-- the entry of number 0 that a line says by names, or the least code that it breaks
abbrev pub named_entry : Names → List ℕ → Result Entry ℕ
named_entry names line = entry_read (read_line (named_tables names) 0 line)

-- an entry that its table's names allow
abbrev pub IsNamedEntry : Names → Entry → Type 0
IsNamedEntry names e = IsSomeAnd (terms_named names e.table) (λ t. IsEntry e.table t e)

-- a key of a table, where no word stands behind; else 3
abbrev pub whole_key : AppliedTable → Option (Key × List (List ℕ)) → Result EntryName ℕ
whole_key t None = Err 3
whole_key t (Some k) = if length k.1 == 0 then Ok (record { table = t.node; tests = k.0.tests; rank = k.0.rank }) else Err 3

-- the key that the words behind a table's name say; 2 where no table has the name
abbrev pub key_of_table : List (List ℕ) → Option AppliedTable → Result EntryName ℕ
key_of_table xs None = Err 2
key_of_table xs (Some t) = whole_key t (key_of t.terms.kind t.terms.widths xs)

-- the key that the words of a line say; 1 where they are fewer than two
abbrev pub key_words : List AppliedTable → List (List ℕ) → Result EntryName ℕ
key_words tables [] = Err 1
key_words tables (x ∷ []) = Err 1
key_words tables (name ∷ x ∷ xs) = key_of_table (x ∷ xs) (table_named tables name)

-- The key of an entry that a line says by names, its table's name and its words of a key, or the least code that it breaks: 1 its
-- form, 2 its table, 3 its key or a word behind that.
abbrev pub named_key : Names → List ℕ → Result EntryName ℕ
named_key names line = if is_printable line then key_words (named_tables names) (words line) else Err 1
