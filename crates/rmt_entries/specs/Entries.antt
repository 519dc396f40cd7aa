-- What an entry text says: its entries in the order of their lines, each in the list of its table, or its first bad line.
use Rattle.std.specs.Prelude.{ℕ, List, [], ◌∷◌, ◌++◌, Bool, true, false, ◌==◌, ◌&&◌, nat_le, if◌then◌else◌, Option, Some, None, Result, Ok, Err, length, map, position, slice_index_or}
use Rattle.std.specs.List.{filter, list_any, range_with_len}
use Rattle.std.specs.Str.{bytes_eq}
use Rattle.rmt_ast.specs.declared.program.Program.{Program}
use Rattle.rmt_ast.specs.declared.program.Test.{Test}
use Rattle.rmt_ast.specs.declared.program.Kind.{Kind}
use Rattle.rmt_ast.specs.declared.program.Kind.TheVariants.{Keyless, Exact, Prefix, Ternary}
use Rattle.rmt_ast.specs.declared.entry.Entry.{Entry}
use Rattle.rmt_entries.specs.declared.fault.EntryFault.{EntryFault}
use Rattle.rmt_entries.specs.declared.fault.EntryFault.TheVariants.{At}
use Rattle.rmt_bits.specs.Lines.{numbered_lines}
use Rattle.rmt_entries.specs.Lines.{is_printable, words}
use Rattle.rmt_entries.specs.Numbers.{number_of_width}
use Rattle.rmt_entries.specs.declared.keys.Key.{Key}
use Rattle.rmt_entries.specs.Keys.{key_of, read_each}
use Rattle.rmt_entries.specs.Tables.{AppliedTable, applied_tables, table_named}

-- a table with an entry that a line says of it
pub record Read : Type 0 where
  pub table : AppliedTable
  pub entry : Entry

-- all that was read, where no word stands behind
abbrev pub whole_line : Option (List ℕ × List (List ℕ)) → Option (List ℕ)
whole_line None = None
whole_line (Some r) = if length r.1 == 0 then Some r.0 else None

-- the arguments that words say, one for each parameter
abbrev pub arguments : List ℕ → List (List ℕ) → Option (List ℕ)
arguments params xs = whole_line (read_each number_of_width params xs)

-- an entry with its arguments; 5 where they are wrong
abbrev pub with_arguments : AppliedTable → ℕ → Key → ℕ → Option (List ℕ) → Result Read ℕ
with_arguments t number key action None = Err 5
with_arguments t number key action (Some args) = Ok (record {
  table = t;
  entry = record { table = t.node; number = number; tests = key.tests; rank = key.rank; action = action; args = args };
})

-- an action of the table's list, and the words behind its name; 4 where there is none
abbrev pub with_action : AppliedTable → ℕ → Key → Option ℕ → List (List ℕ) → Result Read ℕ
with_action t number key None xs = Err 4
with_action t number key (Some action) xs = with_arguments t number key action (arguments (slice_index_or t.terms.params action []) xs)

-- what stands behind the key: the name of an action and its arguments
abbrev pub behind_key : AppliedTable → ℕ → Key → List (List ℕ) → Result Read ℕ
behind_key t number key [] = Err 4
behind_key t number key (name ∷ xs) = with_action t number key (position (bytes_eq name) t.actions) xs

-- an entry with its key; 3 where there is none
abbrev pub with_key : AppliedTable → ℕ → Option (Key × List (List ℕ)) → Result Read ℕ
with_key t number None = Err 3
with_key t number (Some k) = behind_key t number k.0 k.1

-- what the words behind the table's name say; 2 where no table has the name
abbrev pub of_table : ℕ → List (List ℕ) → Option AppliedTable → Result Read ℕ
of_table number xs None = Err 2
of_table number xs (Some t) = with_key t number (key_of t.terms.kind t.terms.widths xs)

-- what the words of a line say; 1 where they are fewer than two
abbrev pub read_words : List AppliedTable → ℕ → List (List ℕ) → Result Read ℕ
read_words tables number [] = Err 1
read_words tables number (x ∷ []) = Err 1
read_words tables number (name ∷ x ∷ xs) = of_table number (x ∷ xs) (table_named tables name)

-- The entry of that number that a line says by itself, or the least code that it breaks: 1 its form, 2 its table, 3 its key, 4 its
-- action, 5 its arguments.
abbrev pub read_line : List AppliedTable → ℕ → List ℕ → Result Read ℕ
read_line tables number line = if is_printable line then read_words tables number (words line) else Err 1

-- the entries of tables of this kind have distinct keys
abbrev pub has_keys_once : Kind → Bool
has_keys_once Keyless = false
has_keys_once Exact = true
has_keys_once Prefix = true
has_keys_once Ternary = false

-- what no two entries of an exact or a prefix table share: the table, the length of a prefix, and the values
abbrev pub identity : Entry → List ℕ
identity e = e.table ∷ e.rank ∷ map (λ (t : Test). t.value) e.tests

-- an entry with the identity of one of these
abbrev pub is_repeated : List Entry → Entry → Bool
is_repeated es e = list_any (λ o. bytes_eq (identity e) (identity o)) es

-- the entries of the table that a node applies
abbrev pub entries_at : List Entry → ℕ → List Entry
entries_at es node = filter (λ (e : Entry). node == e.table) es

-- an entry beside those of earlier lines; 6 where one of them has its key, 7 where its table is full
abbrev pub admitted : List Entry → Result Read ℕ → Result Entry ℕ
admitted es (Err code) = Err code
admitted es (Ok r) =
    if has_keys_once r.table.terms.kind && is_repeated es r.entry then Err 6
    else (if nat_le r.table.terms.size (length (entries_at es r.entry.table)) then Err 7 else Ok r.entry)

-- the entry that a line says behind these, or the least code that it breaks
abbrev pub entry_of : List AppliedTable → List Entry → List ℕ → Result Entry ℕ
entry_of tables es line = admitted es (read_line tables (length es) line)

-- an entry, or the fault of its line, before what the lines behind it say
abbrev pub line_then : ℕ → Result Entry ℕ → (Entry → Result (List Entry) EntryFault) → Result (List Entry) EntryFault
line_then number (Ok e) rest = rest e
line_then number (Err code) rest = Err (At code number)

-- the entries of some lines behind those of earlier ones, or the first bad line
abbrev pub reading : List AppliedTable → List Entry → List (ℕ × List ℕ) → Result (List Entry) EntryFault
reading tables es [] = Ok es
reading tables es (l ∷ ls) = line_then l.0 (entry_of tables es l.1) (λ e. reading tables (es ++ e ∷ []) ls)

-- a list for each node
abbrev pub by_node : ℕ → List Entry → List (List Entry)
by_node nodes es = map (entries_at es) (range_with_len 0 nodes)

abbrev pub lists_or_fault : ℕ → Result (List Entry) EntryFault → Result (List (List Entry)) EntryFault
lists_or_fault nodes (Ok es) = Ok (by_node nodes es)
lists_or_fault nodes (Err fault) = Err fault

-- the entry lists that a text says for a program, or its first bad line with the least code that it breaks
abbrev pub entries_of : Program → List ℕ → Result (List (List Entry)) EntryFault
entries_of p text = lists_or_fault (length p.nodes) (reading (applied_tables p) [] (numbered_lines 1 text))
