-- The rules of form on names that speak of names alone, each by itself; and which entries are well formed for names.
use Rattle.std.specs.Prelude.{ℕ, ◌<◌, List, [], ◌∷◌, Bool, true, not, ◌&&◌, ◌==◌, nat_lt, nat_le, Option, option_map, find, length, map, All, IsTrue}
use Rattle.std.specs.List.{flat_map, list_all, range_with_len}
use Rattle.rmt_ast.specs.Types.{Action, Kind, Program, Table}
use Rattle.rmt_ast.specs.declared.program.Kind.TheVariants.{Keyless, Exact, Prefix, Ternary}
use Rattle.rmt_ast.specs.declared.entry.Entry.{Entry}
use Rattle.rmt_ast.specs.declared.names.Names.{Names}
use Rattle.rmt_ast.specs.declared.names.TableName.{TableName}
use Rattle.rmt_ast.specs.declared.names.ActionName.{ActionName}
use Rattle.rmt_ast.specs.declared.names.RankOf.{RankOf}
use Rattle.rmt_ast.specs.NameList.{is_known}
use Rattle.rmt_ast.specs.NameForm.{is_name}
use Rattle.rmt_ast.specs.Naming.{has_key}
use Rattle.rmt_ast.specs.Answers.{entry_numbers}
use Rattle.rmt_ast.specs.EntryLists.{Terms, AreEntriesFor}

-- each number is below the later ones
abbrev pub rise : List ℕ → Bool
rise [] = true
rise (n ∷ ns) = list_all (λ m. nat_lt n m) ns && rise ns

-- no name stands twice
abbrev pub differ : List (List ℕ) → Bool
differ [] = true
differ (name ∷ names) = not (is_known names name) && differ names

-- tables stand by rising node
abbrev pub nodes_rise : Names → Bool
nodes_rise n = rise (map (λ (t : TableName). t.node) n.tables)

-- table names differ
abbrev pub table_names_differ : Names → Bool
table_names_differ n = differ (map (λ (t : TableName). t.name) n.tables)

-- the action names of a table differ
abbrev pub action_names_differ : TableName → Bool
action_names_differ t = differ (map (λ (a : ActionName). a.name) t.actions)

-- the names of a table and of its actions have the form of names, and none is reserved
abbrev pub has_names : TableName → Bool
has_names t = is_name t.name && list_all (λ (a : ActionName). is_name a.name) t.actions

-- 1 to 128 bits
abbrev pub are_widths : List ℕ → Bool
are_widths ws = list_all (λ w. nat_le 1 w && nat_le w 128) ws

-- a prefix is of one field
abbrev pub has_fields : Kind → List ℕ → Bool
has_fields Keyless keys = true
has_fields Exact keys = true
has_fields Prefix keys = length keys == 1
has_fields Ternary keys = true

-- an action has at most 16 parameters
abbrev pub has_params : ActionName → Bool
has_params a = are_widths a.params && nat_le (length a.params) 16

-- 1 to 1,048,576 entries
abbrev pub has_size : TableName → Bool
has_size t = nat_le 1 t.size && nat_le t.size 1048576

-- ranks stand where the kind is ternary alone
abbrev pub may_have_ranks : Kind → List RankOf → Bool
may_have_ranks Keyless ranks = length ranks == 0
may_have_ranks Exact ranks = length ranks == 0
may_have_ranks Prefix ranks = length ranks == 0
may_have_ranks Ternary ranks = true

-- a table with all rules that speak of its names alone
abbrev pub table_is_formed : TableName → Bool
table_is_formed t =
    has_key t.kind && has_names t && action_names_differ t && are_widths t.keys && has_fields t.kind t.keys
    && list_all has_params t.actions && has_size t && may_have_ranks t.kind t.ranks

-- names with all rules that speak of them alone
abbrev pub names_are_formed : Names → Bool
names_are_formed n = nodes_rise n && table_names_differ n && list_all table_is_formed n.tables

-- what a table asks of its entries, by its names
abbrev pub terms_of_name : TableName → Terms
terms_of_name t = record { kind = t.kind; widths = t.keys; params = map (λ (a : ActionName). a.params) t.actions; size = t.size }

-- what the table asks that a node applies; a node without a table with a key asks nothing
abbrev pub terms_named : Names → ℕ → Option Terms
terms_named names node = option_map terms_of_name (find (λ (t : TableName). t.node == node) names.tables)

-- well-formed lists of entries for names, one for each node from 0 on
pub record AreEntriesOf (names : Names) (lists : List (List Entry)) : Type 0 where
  pub tables : All (λ (t : TableName). t.node < length lists) names.tables
  pub entries : AreEntriesFor (map (terms_named names) (range_with_len 0 (length lists))) lists

-- a program that an image can name, with its entries: its names are ones that an image may have, and 1,048,576 more entries find numbers
pub record CanBeNamed (p : Program) (lists : List (List Entry)) : Type 0 where
  pub tables : All (λ (t : Table). IsTrue (is_name t.name)) p.tables
  pub actions : All (λ (a : Action). IsTrue (is_name a.name)) p.actions
  pub numbers : All (λ n. n < 4293918720) (flat_map entry_numbers lists)
