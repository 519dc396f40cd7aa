-- The spelling of an image of version 1, 2 or 3: the configuration, then its names, then its tails.
use Rattle.std.specs.Prelude.{ℕ, List, [], ◌∷◌, ◌++◌, Option, Some, None, codes, length}
use Rattle.rmt_ast.specs.declared.program.Kind.{Kind}
use Rattle.rmt_ast.specs.declared.program.Kind.TheVariants as kind
use Rattle.rmt_ast.specs.declared.names.Names.{Names}
use Rattle.rmt_ast.specs.declared.names.TableName.{TableName}
use Rattle.rmt_ast.specs.declared.names.ActionName.{ActionName}
use Rattle.rmt_ast.specs.declared.names.RankOf.{RankOf}
use Rattle.rmt_config.specs.Types.{Config, TailOf}
use Rattle.rmt_config.specs.Spelling.{two_bytes, four_bytes, spelled_list8, spelled_list16, spelled_list32, spelled_config}

abbrev pub spelled_name : List ℕ → List ℕ
spelled_name name = four_bytes (length name) ++ name

abbrev pub spelled_action : ActionName → List ℕ
spelled_action a = spelled_name a.name ++ spelled_list8 (λ width. width ∷ []) a.params

abbrev pub spelled_rank : RankOf → List ℕ
spelled_rank r = four_bytes r.number ++ four_bytes r.rank

-- a table with names has a key
abbrev pub spelled_table_kind : Kind → ℕ
spelled_table_kind kind.Keyless = 3
spelled_table_kind kind.Exact = 0
spelled_table_kind kind.Prefix = 1
spelled_table_kind kind.Ternary = 2

-- ranks stand in ternary tables alone
abbrev pub spelled_ranks : Kind → List RankOf → List ℕ
spelled_ranks kind.Keyless ranks = []
spelled_ranks kind.Exact ranks = []
spelled_ranks kind.Prefix ranks = []
spelled_ranks kind.Ternary ranks = spelled_list32 spelled_rank ranks

abbrev pub spelled_table : TableName → List ℕ
spelled_table t =
    t.node ∷ spelled_name t.name ++ spelled_table_kind t.kind ∷ four_bytes t.size
    ++ spelled_list16 (λ width. width ∷ []) t.keys ++ spelled_list8 spelled_action t.actions ++ spelled_ranks t.kind t.ranks

abbrev pub spelled_names : Option Names → List ℕ
spelled_names None = []
spelled_names (Some names) = spelled_list8 spelled_table names.tables

abbrev pub spelled_tail : TailOf → List ℕ
spelled_tail t = two_bytes t.entry ++ t.header ∷ two_bytes t.from ++ t.len ∷ t.unit ∷ t.base ∷ []

-- tails are told only where there is one
abbrev pub spelled_tails : List TailOf → List ℕ
spelled_tails [] = []
spelled_tails (t ∷ ts) = spelled_list16 spelled_tail (t ∷ ts)

abbrev pub version_with : Option Names → List TailOf → ℕ
version_with None [] = 1
version_with (Some names) [] = 2
version_with None (t ∷ ts) = 3
version_with (Some names) (t ∷ ts) = 3

-- 1 without names and tails, 2 with names alone, 3 with a tail
abbrev pub version_of : Config → ℕ
version_of c = version_with c.names c.parser.tails

-- the whole image: the four letters, the version, the configuration, its names and its tails
abbrev pub spelled_image : Config → List ℕ
spelled_image c =
    codes "RMTI" ++ two_bytes (version_of c) ++ spelled_config c ++ spelled_names c.names ++ spelled_tails c.parser.tails
