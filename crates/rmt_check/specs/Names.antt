-- What the names of a text stand for.
-- The public contracts rest on it: a reader has to believe it.
use Rattle.std.specs.Prelude.{ℕ, List, [], ◌∷◌, ◌++◌, Bool, true, false, ◌==◌, ◌&&◌, Option, Some, None, codes, length, map, find, position, filter_map, option_map, unwrap_or, slice_get, is_some}
use Rattle.std.specs.List.{flat_map, enumerate_from}
use Rattle.std.specs.Option.{option_to_list, option_map_or}
use Rattle.std.specs.Str.{bytes_eq}
use Rattle.rmt_ast.specs.NameList.{number_of}
use Rattle.rmt_check.specs.Parts.{Ident, Declared, OwnerText, FieldText, HeaderText, MetaText, LeafText, Sign, ExprText, ActionText, KeyText, TableText, WhatText, NodeText, Source}
use Rattle.rmt_check.specs.declared.source.OwnerText.TheVariants as owner
use Rattle.rmt_check.specs.declared.source.WhatText.TheVariants.{Apply, If}

abbrev pub header_names : Source → List (List ℕ)
header_names s = map (λ (h : HeaderText). h.ident.name) s.headers

abbrev pub action_names : Source → List (List ℕ)
action_names s = map (λ (a : ActionText). a.ident.name) s.actions

abbrev pub table_names : Source → List (List ℕ)
table_names s = map (λ (t : TableText). t.ident.name) s.tables

abbrev pub param_names : ActionText → List (List ℕ)
param_names a = map (λ (d : Declared). d.ident.name) a.params

-- the metadata fields
abbrev pub metadata : Source → List Declared
metadata s = flat_map (λ (m : MetaText). m.fields) s.metas

-- Whose a field is: every program's, the metadata's, or that of the header with a number.
pub data Owner : Type 0 where
  of_all : Owner
  of_metadata : Owner
  of_header : ℕ → Owner

abbrev pub same_owner : Owner → Owner → Bool
same_owner of_all of_all = true
same_owner of_metadata of_metadata = true
same_owner (of_header m) (of_header n) = m == n
same_owner _ _ = false

-- a field as a text names it: whose it is, and its own name
pub record Named : Type 0 where
  pub owner : Owner
  pub name : List ℕ

abbrev pub own : Owner → List ℕ → Named
own owner name = record { owner = owner; name = name }

abbrev pub same_field : Named → Named → Bool
same_field x y = same_owner x.owner y.owner && bytes_eq x.name y.name

abbrev pub in_port : Named
in_port = own of_all (codes "in_port")

-- a field of the program, and the name of its owner, where that is printed in front of its own
pub record Known : Type 0 where
  pub named : Named
  pub width : ℕ
  pub owner_name : Option (List ℕ)

-- the fields that every program has
abbrev pub common : List ℕ → ℕ → Known
common name width = record { named = own of_all name; width = width; owner_name = None }

abbrev pub common_fields : List Known
common_fields = common (codes "in_port") 9 ∷ common (codes "out_port") 9 ∷ common (codes "drop") 1 ∷ []

-- a field of a header, or of the metadata
abbrev pub owned : Owner → List ℕ → List ℕ → ℕ → Known
owned owner owner_name name width = record { named = own owner name; width = width; owner_name = Some owner_name }

abbrev pub declared_fields : Owner → List ℕ → List Declared → List Known
declared_fields owner owner_name ds = map (λ (d : Declared). owned owner owner_name d.ident.name d.width.value) ds

-- the fields of the header with a number, its valid first
abbrev pub header_fields : ℕ × HeaderText → List Known
header_fields h = owned (of_header h.0) h.1.ident.name (codes "valid") 1 ∷ declared_fields (of_header h.0) h.1.ident.name h.1.fields

-- the fields by number: those of every program, those of each header, those of the metadata
abbrev pub fields_of : Source → List Known
fields_of s = common_fields ++ flat_map header_fields (enumerate_from 0 s.headers) ++ declared_fields of_metadata (codes "meta") (metadata s)

-- the name by which a field is printed, as drop or eth.dst
abbrev pub printed : List ℕ → List ℕ → List ℕ
printed owner name = owner ++ codes "." ++ name

abbrev pub printed_name : Known → List ℕ
printed_name f = option_map_or (λ owner. printed owner f.named.name) f.owner_name f.named.name

-- the header of a name; for a name that is none, one that has no field
abbrev pub header_owner : Source → List ℕ → Owner
header_owner s name = of_header (unwrap_or (number_of (header_names s) name) (length s.headers))

abbrev pub owner_of : Source → OwnerText → Owner
owner_of s owner.Intrinsic = of_all
owner_of s owner.Metadata = of_metadata
owner_of s (owner.Header h) = header_owner s h.name

-- a field that a text names
abbrev pub named : Source → FieldText → Named
named s f = own (owner_of s f.owner) f.ident.name

-- a field that a header names as its own
abbrev pub selected : Source → HeaderText → Ident → Named
selected s h i = own (header_owner s h.ident.name) i.name

-- the fields by number, as a text names them
abbrev pub named_fields : Source → List Named
named_fields s = map (λ (f : Known). f.named) (fields_of s)

-- the number of a field: the place of the first that is the same
abbrev pub field_place : Source → Named → Option ℕ
field_place s x = position (same_field x) (named_fields s)

abbrev pub is_field : Source → Named → Bool
is_field s x = is_some (field_place s x)

-- the width of a field by its number, and by its name; 0 where there is none
abbrev pub width_at : Source → ℕ → ℕ
width_at s n = unwrap_or (option_map (λ (f : Known). f.width) (slice_get (fields_of s) n)) 0

abbrev pub width_of : Source → Named → ℕ
width_of s x = option_map_or (width_at s) (field_place s x) 0

-- the nodes of the control
abbrev pub nodes_of : Source → List NodeText
nodes_of s = unwrap_or s.control []

-- the table that a node applies
abbrev pub applied : WhatText → Option Ident
applied (Apply table arms) = Some table
applied (If field mask value) = None

abbrev pub applied_tables : Source → List Ident
applied_tables s = filter_map (λ (n : NodeText). applied n.what) (nodes_of s)

-- the actions of a table's list
abbrev pub listed : TableText → List Ident
listed t = unwrap_or (option_map (λ (k : KeyText). k.actions) t.key) []

abbrev pub ident_names : List Ident → List (List ℕ)
ident_names is = map (λ (i : Ident). i.name) is

-- the actions of the list of the first table with a name
abbrev pub listed_by : Source → List ℕ → List Ident
listed_by s name = unwrap_or (option_map listed (find (λ (t : TableText). bytes_eq name t.ident.name) s.tables)) []

-- the fields of a table's key
abbrev pub key_fields : TableText → List FieldText
key_fields t = unwrap_or (option_map (λ (k : KeyText). k.fields) t.key) []

-- the width of a parameter
abbrev pub param_width : ActionText → List ℕ → ℕ
param_width a name = unwrap_or (option_map (λ (d : Declared). d.width.value) (find (λ (d : Declared). bytes_eq name d.ident.name) a.params)) 0

-- the parameters of the action with a name
abbrev pub params_of : Source → List ℕ → List Declared
params_of s name = unwrap_or (option_map (λ (a : ActionText). a.params) (find (λ (a : ActionText). bytes_eq name a.ident.name) s.actions)) []

-- the operands of an assignment
abbrev pub operands : ExprText → List LeafText
operands e = e.left ∷ option_to_list (option_map (λ (r : Sign × LeafText). r.1) e.right)
