-- The names of programs with their entries, and which names are formed.
use Rattle.std.specs.Prelude.{◌≡◌, ℕ, List, [], ◌∷◌, codes, false, true, refl}
use Rattle.rmt_ast.specs.Types.{Program}
use Rattle.rmt_ast.specs.declared.program.Expr.TheVariants.{One}
use Rattle.rmt_ast.specs.declared.program.Leaf.TheVariants as leaf
use Rattle.rmt_ast.specs.declared.program.Kind.TheVariants.{Keyless, Exact, Prefix, Ternary}
use Rattle.rmt_ast.specs.declared.names.Names.{Names}
use Rattle.rmt_ast.specs.declared.names.TableName.{TableName}
use Rattle.rmt_ast.specs.declared.names.ActionName.{ActionName}
use Rattle.rmt_ast.specs.declared.names.RankOf.{RankOf}
use Rattle.rmt_ast.specs.Naming.{names_of}
use Rattle.rmt_ast.specs.NameForm.{is_name, has_name_form}
use Rattle.rmt_ast.specs.NameRules.{action_names_differ, are_widths, has_fields, has_names, has_params, has_size, may_have_ranks, names_are_formed, nodes_rise, table_names_differ}
use Rattle.rmt_ast.proofs.Programs.{action, apply_table, arms, field, gate, header, keyless, one_entry, prefix, prefixes, priorities, stop_and_on, strict_and_weak, ternary, two_hits, both_keys, with_fields}

-- header h { f : 8; } and one table without a key, whose default sends to port 1
abbrev pub smallest : Program
smallest = record {
  fields = with_fields (field (codes "h.f") 8 ∷ []);
  headers = header (4 ∷ []) 1 ∷ [];
  actions = action (codes "send") [] (record { dest = 1; expr = One (leaf.Number 1) } ∷ []) ∷ [];
  tables = keyless (codes "t") 0 ∷ [];
  nodes = apply_table 0 ∷ [];
}

abbrev named : List ℕ → List ℕ → ActionName
named name params = record { name = name; params = params }

abbrev rank : ℕ → ℕ → RankOf
rank number of = record { number = number; rank = of }

-- a table without a key has no names
pub smallest_names : names_of smallest ([] ∷ []) ≡ record { tables = [] }
smallest_names = refl

-- table b, node 1, is exact on 8 bits, with the action go, which has a parameter of 9 bits
abbrev pub names_of_b : TableName
names_of_b = record { node = 1; name = codes "b"; kind = Exact; size = 16; keys = 8 ∷ []; actions = named (codes "go") (9 ∷ []) ∷ []; ranks = [] }

pub strict_and_weak_names : names_of strict_and_weak one_entry ≡ record { tables = names_of_b ∷ [] }
strict_and_weak_names = refl

-- the ranks of a prefix table follow from its masks
pub prefix_names : names_of prefix prefixes
    ≡ record { tables = record { node = 0; name = codes "r"; kind = Prefix; size = 1024; keys = 32 ∷ []; actions = named (codes "go") (9 ∷ []) ∷ []; ranks = [] } ∷ [] }
prefix_names = refl

-- those of a ternary one stand by rising priority, then number
abbrev pub names_of_t : TableName
names_of_t = record { node = 0; name = codes "t"; kind = Ternary; size = 8; keys = 8 ∷ []; actions = named (codes "go") (9 ∷ []) ∷ []; ranks = rank 1 20 ∷ rank 2 20 ∷ rank 0 30 ∷ [] }

pub ternary_names : names_of ternary priorities ≡ record { tables = names_of_t ∷ [] }
ternary_names = refl

-- tables of arms, and nodes that are an `if`, between those with a key
pub arms_names : names_of arms stop_and_on
    ≡ record { tables = record { node = 0; name = codes "t"; kind = Exact; size = 4; keys = 8 ∷ []; actions = named (codes "stop") [] ∷ named (codes "on") [] ∷ []; ranks = [] } ∷ [] }
arms_names = refl

pub gate_names : names_of gate ([] ∷ [] ∷ [] ∷ []) ≡ record { tables = [] }
gate_names = refl

pub two_hits_names : names_of two_hits both_keys
    ≡ record {
      tables =
          record { node = 0; name = codes "t"; kind = Exact; size = 4; keys = 8 ∷ 8 ∷ []; actions = named (codes "back") [] ∷ []; ranks = [] }
          ∷ record { node = 1; name = codes "u"; kind = Exact; size = 4; keys = 8 ∷ []; actions = named (codes "no") [] ∷ []; ranks = [] } ∷ [];
    }
two_hits_names = refl

-- ---- the form of names

pub some_names : (is_name (codes "b") ≡ true) × (is_name (codes "_7") ≡ true) × (is_name (codes "Hop_2") ≡ true) × (is_name (codes "headers") ≡ true)
some_names = (refl, refl, refl, refl)

-- nothing, a digit first, and other bytes
pub no_names : (is_name [] ≡ false) × (is_name (codes "7b") ≡ false) × (is_name (codes "b.c") ≡ false) × (is_name (codes "b ") ≡ false) × (is_name (196 ∷ []) ≡ false)
no_names = (refl, refl, refl, refl, refl)

-- a word that is reserved has the form of a name
pub reserved_names : (has_name_form (codes "valid") ≡ true) × (is_name (codes "valid") ≡ false) × (is_name (codes "header") ≡ false) × (is_name (codes "counted") ≡ false)
reserved_names = (refl, refl, refl, refl)

-- tail stays a name in images
pub tail_is_name : is_name (codes "tail") ≡ true
tail_is_name = refl

-- ---- the rules on names alone

pub formed_names : (names_are_formed (names_of smallest ([] ∷ [])) ≡ true) × (names_are_formed (names_of strict_and_weak one_entry) ≡ true)
    × (names_are_formed (names_of prefix prefixes) ≡ true) × (names_are_formed (names_of ternary priorities) ≡ true) × (names_are_formed (names_of two_hits both_keys) ≡ true)
formed_names = (refl, refl, refl, refl, refl)

abbrev with : TableName → Names
with t = record { tables = names_of_t ∷ t ∷ [] }

pub two_tables : names_are_formed (with names_of_b) ≡ true
two_tables = refl

-- a node that stands twice, or before an earlier one
pub node_twice : (nodes_rise (with (record names_of_b { node = 0 })) ≡ false) × (nodes_rise (record { tables = names_of_b ∷ names_of_t ∷ [] }) ≡ false)
node_twice = (refl, refl)

pub table_twice : table_names_differ (with (record names_of_b { name = codes "t" })) ≡ false
table_twice = refl

pub action_twice : action_names_differ (record names_of_b { actions = named (codes "go") [] ∷ named (codes "no") [] ∷ named (codes "go") (9 ∷ []) ∷ [] }) ≡ false
action_twice = refl

pub reserved_table : has_names (record names_of_b { name = codes "table" }) ≡ false
reserved_table = refl

pub action_without_name : has_names (record names_of_b { actions = named [] [] ∷ [] }) ≡ false
action_without_name = refl

-- a field of no bits, and one of 129
pub wrong_widths : (are_widths (8 ∷ 0 ∷ []) ≡ false) × (are_widths (129 ∷ []) ≡ false) × (are_widths (128 ∷ 1 ∷ []) ≡ true)
wrong_widths = (refl, refl, refl)

pub prefix_of_two : (has_fields Prefix (8 ∷ 8 ∷ []) ≡ false) × (has_fields Exact (8 ∷ 8 ∷ []) ≡ true)
prefix_of_two = (refl, refl)

pub many_params : has_params (named (codes "a") (1 ∷ 1 ∷ 1 ∷ 1 ∷ 1 ∷ 1 ∷ 1 ∷ 1 ∷ 1 ∷ 1 ∷ 1 ∷ 1 ∷ 1 ∷ 1 ∷ 1 ∷ 1 ∷ 1 ∷ [])) ≡ false
many_params = refl

pub wrong_sizes : (has_size (record names_of_b { size = 0 }) ≡ false) × (has_size (record names_of_b { size = 1048577 }) ≡ false) × (has_size (record names_of_b { size = 1048576 }) ≡ true)
wrong_sizes = (refl, refl, refl)

-- an exact table with a rank, and a table without a key
pub rank_of_exact : may_have_ranks Exact (rank 0 0 ∷ []) ≡ false
rank_of_exact = refl

pub keyless_table : names_are_formed (with (record names_of_b { kind = Keyless })) ≡ false
keyless_table = refl
