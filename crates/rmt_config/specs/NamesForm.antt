-- The rules of form on names, each by itself: the tables of a configuration by name, and the entries that cells and ranks spell.
use Rattle.std.specs.Prelude.{ℕ, ◌+◌, ◌*◌, ◌-◌, ◌^◌, ◌%◌, ◌/◌, List, [], ◌∷◌, Bool, true, false, not, ◌&&◌, ◌||◌, ◌==◌, nat_lt, nat_le, if◌then◌else◌, Option, is_some, option_map, unwrap_or, find, fold, length, map, max, sum}
use Rattle.std.specs.List.{enumerate_from, flat_map, list_all, list_any, range_with_len}
use Rattle.std.specs.Str.{bytes_eq}
use Rattle.rmt_bits.specs.Bits.{slice}
use Rattle.rmt_ast.specs.declared.program.Kind.{Kind}
use Rattle.rmt_ast.specs.declared.program.Kind.TheVariants as kind
use Rattle.rmt_ast.specs.declared.program.Test.{Test}
use Rattle.rmt_ast.specs.declared.entry.Entry.{Entry}
use Rattle.rmt_ast.specs.declared.names.Names.{Names}
use Rattle.rmt_ast.specs.declared.names.TableName.{TableName}
use Rattle.rmt_ast.specs.declared.names.ActionName.{ActionName}
use Rattle.rmt_ast.specs.declared.names.RankOf.{RankOf}
use Rattle.rmt_ast.specs.Changes.{are_same}
use Rattle.rmt_ast.specs.NameRules.{names_are_formed}
use Rattle.rmt_ast.specs.RowOrder.{goes_first}
use Rattle.rmt_config.specs.Types.{Config, Unit, CellNumber, Memory}
use Rattle.rmt_config.specs.declared.config.Unit.TheVariants.{Gate, Slot}
use Rattle.rmt_config.specs.declared.config.Memory.TheVariants.{Without, Exact, Ternary}
use Rattle.rmt_config.specs.LaneForm.{bits_of_lanes}
use Rattle.rmt_config.specs.Life.{has_memory}
use Rattle.rmt_config.specs.Cells.{Content, candidates, code_of}
use Rattle.rmt_config.specs.CellForm.{entry_numbers}
use Rattle.rmt_config.specs.RunCells.{own_content}
use Rattle.rmt_config.specs.Rooms.{PartAt, parts_of}
use Rattle.rmt_config.specs.TableForm.{Placed, node_of, placed_units}

-- ---- the entry that a cell spells

-- the tests of a key's fields of these widths, the first of which is highest
abbrev pub tests_of_key : List ℕ → ℕ → ℕ → List Test
tests_of_key [] key mask = []
tests_of_key (w ∷ ws) key mask = record { value = slice key (sum ws) w; mask = slice mask (sum ws) w } ∷ tests_of_key ws key mask

-- the arguments in an entry's data, each at the place of its parameter, from bit 0 upward
abbrev pub args_of_data : List ℕ → ℕ → List ℕ
args_of_data [] held = []
args_of_data (w ∷ ws) held = held % 2 ^ w ∷ args_of_data ws (held / 2 ^ w)

-- how many of the highest bits of a key of that many bits a mask has, where it has these and no other
abbrev pub prefix_length : ℕ → ℕ → Option ℕ
prefix_length bits mask = find (λ len. mask == 2 ^ bits - 2 ^ (bits - len)) (range_with_len 0 (bits + 1))

-- the rank that names tell of the entry of a number
abbrev pub rank_told : List RankOf → ℕ → ℕ
rank_told ranks number = unwrap_or (option_map (λ (r : RankOf). r.rank) (find (λ (r : RankOf). r.number == number) ranks)) 0

-- the rank of an entry with a mask and a number: the length of a prefix, the priority of a ternary entry
abbrev pub rank_in : Kind → TableName → ℕ → ℕ → ℕ
rank_in kind.Keyless t mask number = 0
rank_in kind.Exact t mask number = 0
rank_in kind.Prefix t mask number = unwrap_or (prefix_length (sum t.keys) mask) 0
rank_in kind.Ternary t mask number = rank_told t.ranks number

-- the widths of the parameters of an action of a table's list
abbrev pub params_in : TableName → ℕ → List ℕ
params_in t action = unwrap_or (option_map (λ (x : ℕ × ActionName). x.1.params) (find (λ (x : ℕ × ActionName). x.0 == action) (enumerate_from 0 t.actions))) []

-- what a part's cell holds
abbrev pub held_by : Config → PartAt → CellNumber → Content
held_by c part n = own_content c part.stage part.place n.cell

-- the entry that an occupied cell spells
abbrev pub entry_in : Config → TableName → PartAt → CellNumber → Entry
entry_in c t part n =
    let content = held_by c part n in
    let action = code_of content.head - part.first in
    record {
      table = t.node;
      number = n.number;
      tests = tests_of_key t.keys content.key content.mask;
      rank = rank_in t.kind t content.mask n.number;
      action = action;
      args = args_of_data (params_in t action) content.held;
    }

-- ---- the entries that a configuration spells

-- the entries of a table, by part and cell
abbrev pub entries_by_cell : Config → TableName → List Entry
entries_by_cell c t = flat_map (λ (part : PartAt). map (entry_in c t part) part.slot.numbers) (parts_of c t.node)

-- entries by rising number, with one more
abbrev pub with_entry : Entry → List Entry → List Entry
with_entry e [] = e ∷ []
with_entry e (o ∷ os) = if nat_lt o.number e.number then o ∷ with_entry e os else e ∷ o ∷ os

abbrev pub by_number : List Entry → List Entry
by_number es = fold (λ sorted e. with_entry e sorted) [] es

-- one more than the greatest node of a configuration's units
abbrev pub node_count_of : Config → ℕ
node_count_of c = fold (λ n (placed : Placed). max n (node_of placed.unit + 1)) 0 (placed_units c)

-- the entries of the table of a node; there are none where no table of that node has names
abbrev pub entries_of_node : Config → Names → ℕ → List Entry
entries_of_node c names node =
    unwrap_or (option_map (λ (t : TableName). by_number (entries_by_cell c t)) (find (λ (t : TableName). t.node == node) names.tables)) []

-- the entry lists that a configuration with names spells: one for each node from 0 up to the greatest of its units
abbrev pub entries_spelled : Config → Names → List (List Entry)
entries_spelled c names = map (entries_of_node c names) (range_with_len 0 (node_count_of c))

-- ---- the rules

abbrev pub is_of_kind : Kind → Memory → Bool
is_of_kind kind.Keyless memory = false
is_of_kind kind.Exact Without = false
is_of_kind kind.Exact (Exact k p d w ks rs cs) = true
is_of_kind kind.Exact (Ternary d ks rs cs) = false
is_of_kind kind.Prefix Without = false
is_of_kind kind.Prefix (Exact k p d w ks rs cs) = false
is_of_kind kind.Prefix (Ternary d ks rs cs) = true
is_of_kind kind.Ternary Without = false
is_of_kind kind.Ternary (Exact k p d w ks rs cs) = false
is_of_kind kind.Ternary (Ternary d ks rs cs) = true

-- a rule holds of each part of a table
abbrev pub each_part : Config → (PartAt → Bool) → TableName → Bool
each_part c rule t = list_all rule (parts_of c t.node)

-- a table has a part, and its parts have memory of its kind
abbrev pub has_parts : Config → TableName → Bool
has_parts c t = nat_le 1 (length (parts_of c t.node)) && each_part c (λ (part : PartAt). is_of_kind t.kind part.slot.memory) t

-- a slot with memory is of a node whose table has names
abbrev pub is_named : Names → Unit → Bool
is_named names (Gate g) = true
is_named names (Slot s) = not (has_memory s.memory) || list_any (λ (t : TableName). t.node == s.node) names.tables

-- exactly one table for each node with memory
abbrev pub tables_are_those : Config → Names → Bool
tables_are_those c names = list_all (has_parts c) names.tables && list_all (λ (placed : Placed). is_named names placed.unit) (placed_units c)

-- the widths of a key's fields sum to its bits
abbrev pub has_key_bits : Config → TableName → Bool
has_key_bits c t = each_part c (λ (part : PartAt). sum t.keys == bits_of_lanes part.slot.keys) t

-- the mask of each row of a prefix table is some of the highest bits, or none
abbrev pub has_prefixes : Config → TableName → Bool
has_prefixes c t = each_part c (λ (part : PartAt). list_all (λ n. is_some (prefix_length (sum t.keys) (held_by c part n).mask)) part.slot.numbers) t

abbrev pub has_masks : Config → Kind → TableName → Bool
has_masks c kind.Keyless t = true
has_masks c kind.Exact t = true
has_masks c kind.Prefix t = has_prefixes c t
has_masks c kind.Ternary t = true

-- the actions are as many as the slot says, and the parameters of each fit the slot's data
abbrev pub has_actions : Config → TableName → Bool
has_actions c t = each_part c (λ (part : PartAt). (length t.actions == part.slot.actions) && list_all (λ (a : ActionName). nat_le (sum a.params) part.slot.held) t.actions) t

abbrev pub quanta_of : Memory → ℕ
quanta_of Without = 0
quanta_of (Exact k p d w ks rs cs) = d
quanta_of (Ternary d ks rs cs) = d

-- a prefix or ternary table has no more entries than rows
abbrev pub has_rows : Config → Kind → TableName → Bool
has_rows c kind.Keyless t = true
has_rows c kind.Exact t = true
has_rows c kind.Prefix t = nat_le t.size (2048 * sum (map (λ (part : PartAt). quanta_of part.slot.memory) (parts_of c t.node)))
has_rows c kind.Ternary t = nat_le t.size (2048 * sum (map (λ (part : PartAt). quanta_of part.slot.memory) (parts_of c t.node)))

-- ranks list the numbers of the entries of a ternary table by part and cell
abbrev pub has_ranks : Config → Kind → TableName → Bool
has_ranks c kind.Keyless t = true
has_ranks c kind.Exact t = true
has_ranks c kind.Prefix t = true
has_ranks c kind.Ternary t = bytes_eq (map (λ (r : RankOf). r.number) t.ranks) (flat_map (λ (part : PartAt). map (λ (n : CellNumber). n.number) part.slot.numbers) (parts_of c t.node))

-- 1,048,576 additions find numbers behind those of the configuration
abbrev pub numbers_leave_room : Config → Bool
numbers_leave_room c = list_all (λ n. nat_lt n 4293918720) (entry_numbers c)

-- ---- the rules on the entries that are spelled

-- a rule holds of each item with each later one
abbrev pub each_later : {A : Type 0} → (A → A → Bool) → List A → Bool
each_later rule [] = true
each_later rule (x ∷ xs) = list_all (rule x) xs && each_later rule xs

-- an exact key, and a prefix, stands once
abbrev pub has_keys_once : Kind → List Entry → Bool
has_keys_once kind.Keyless es = true
has_keys_once kind.Exact es = each_later (λ (a b : Entry). not (are_same a.tests b.tests)) es
has_keys_once kind.Prefix es = each_later (λ (a b : Entry). not (are_same a.tests b.tests)) es
has_keys_once kind.Ternary es = true

-- the rows of prefix and ternary entries stand in the order of their precedence, over parts and rows
abbrev pub has_order : Kind → List Entry → Bool
has_order kind.Keyless es = true
has_order kind.Exact es = true
has_order kind.Prefix es = each_later (goes_first kind.Prefix) es
has_order kind.Ternary es = each_later (goes_first kind.Ternary) es

-- each occupied cell of a part is one in which its key may stand under the seed
abbrev pub stands_in_candidates : Config → PartAt → Bool
stands_in_candidates c part =
    list_all (λ (n : CellNumber). list_any (λ m. m == n.cell) (candidates c.seed (bits_of_lanes part.slot.keys) part.slot.memory (held_by c part n).key)) part.slot.numbers

-- the entries that cells and ranks spell are well formed for the table
abbrev pub has_entries : Config → TableName → Bool
has_entries c t =
    let es = entries_by_cell c t in
    nat_le (length es) t.size && has_keys_once t.kind es && has_order t.kind es && each_part c (stands_in_candidates c) t

-- ---- all of them

-- a table is named as its parts are made
abbrev pub is_made_so : Config → TableName → Bool
is_made_so c t = has_key_bits c t && has_actions c t && has_rows c t.kind t

-- a table is named as its parts are filled
abbrev pub is_filled_so : Config → TableName → Bool
is_filled_so c t = has_masks c t.kind t && has_ranks c t.kind t && has_entries c t

-- names as long as their counts can say, and ranks as great as their places can
abbrev pub names_are_short : TableName → Bool
names_are_short t =
    nat_lt (length t.name) (2 ^ 32) && list_all (λ (a : ActionName). nat_lt (length a.name) (2 ^ 32)) t.actions
    && list_all (λ (r : RankOf). nat_lt r.rank (2 ^ 32)) t.ranks

-- as many tables as their count can say, each with names as long as theirs can
abbrev pub names_have_counts : Names → Bool
names_have_counts names = nat_lt (length names.tables) 256 && list_all names_are_short names.tables

-- names with every rule
abbrev pub names_fit : Config → Names → Bool
names_fit c names =
    names_are_formed names && names_have_counts names && numbers_leave_room c && tables_are_those c names
    && list_all (is_made_so c) names.tables && list_all (is_filled_so c) names.tables
