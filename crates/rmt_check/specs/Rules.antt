-- The rules of form, each as the places where it is broken, and the fault of a text: what a reader of the contract of `check`
-- has to believe.
use Rattle.std.specs.Prelude.{ℕ, ◌+◌, ◌-◌, ◌*◌, ◌%◌, ◌^◌, List, [], ◌∷◌, ◌++◌, Bool, true, false, not, ◌==◌, ◌&&◌, ◌||◌, nat_le, nat_lt, if◌then◌else◌, Option, Some, None, length, drop, take, map, zip, sum, option_map}
use Rattle.std.specs.List.{flat_map, list_any, enumerate_from}
use Rattle.std.specs.Option.{option_to_list, option_or, is_none}
use Rattle.std.specs.Str.{bytes_eq}
use Rattle.rmt_lexer.specs.Text.{first_place}
use Rattle.rmt_check.specs.Parts.{Kind, Op, Position, Ident, Number, Declared, OwnerText, FieldText, ValueText, TargetText, CaseText, TailText, HeaderText, MetaText, LeafText, Sign, AssignText, ActionText, KeyText, TableText, ArmText, WhatText, NodeText, Source}
use Rattle.rmt_ast.specs.declared.program.Kind.TheVariants.{Prefix}
use Rattle.rmt_ast.specs.declared.program.Op.TheVariants.{Add, Sub, And, Or, Xor}
use Rattle.rmt_check.specs.declared.source.OwnerText.TheVariants as owner
use Rattle.rmt_check.specs.declared.source.TargetText.TheVariants as target
use Rattle.rmt_check.specs.declared.source.LeafText.TheVariants as leaf
use Rattle.rmt_check.specs.declared.source.ArmText.TheVariants as arm
use Rattle.rmt_check.specs.declared.source.WhatText.TheVariants.{Apply, If}
use Rattle.rmt_ast.specs.NameList.{number_of, is_known}
use Rattle.rmt_check.specs.Names.{header_names, action_names, table_names, param_names, metadata, in_port, same_field, is_field, named, width_of, nodes_of, applied_tables, listed, listed_by, key_fields, selected, param_width, params_of, operands}

-- a place, where something is broken there
abbrev pub when : Bool → Position → List Position
when true p = p ∷ []
when false p = []

-- the places of the items that come behind one that is the same
abbrev pub repeated_by : {X : Type 0} → (X → X → Bool) → (X → Position) → List X → List Position
repeated_by same place xs = flat_map (λ (x : ℕ × _). when (list_any (same x.1) (take x.0 xs)) (place x.1)) (enumerate_from 0 xs)

-- the places of the names that an earlier one repeats
abbrev pub repeated : List Ident → List Position
repeated xs = repeated_by (λ (x y : Ident). bytes_eq x.name y.name) (λ x. x.place) xs

-- the places of the names that are not among these
abbrev pub unknown : List (List ℕ) → List Ident → List Position
unknown names xs = flat_map (λ (x : Ident). when (not (is_known names x.name)) x.place) xs

abbrev pub places : List Ident → List Position
places xs = map (λ (x : Ident). x.place) xs

abbrev pub declared_names : List Declared → List Ident
declared_names ds = map (λ (d : Declared). d.ident) ds

abbrev pub headers_of : Source → List Ident
headers_of s = map (λ (h : HeaderText). h.ident) s.headers

abbrev pub actions_of : Source → List Ident
actions_of s = map (λ (a : ActionText). a.ident) s.actions

abbrev pub tables_of : Source → List Ident
tables_of s = map (λ (t : TableText). t.ident) s.tables

abbrev pub fields_twice : HeaderText → List Position
fields_twice h = repeated (declared_names h.fields)

abbrev pub params_twice : ActionText → List Position
params_twice a = repeated (declared_names a.params)

abbrev pub listed_twice : TableText → List Position
listed_twice t = repeated (listed t)

abbrev pub further_metas : Source → List Position
further_metas s = map (λ (m : MetaText). m.place) (drop 1 s.metas)

-- Code 5: a name is declared again in its space, `meta` stands again, or an action is listed twice in a table.
abbrev pub broken_5 : Source → List Position
broken_5 s =
    repeated (headers_of s)
    ++ flat_map fields_twice s.headers
    ++ further_metas s
    ++ repeated (declared_names (metadata s))
    ++ repeated (actions_of s)
    ++ flat_map params_twice s.actions
    ++ repeated (tables_of s)
    ++ flat_map listed_twice s.tables

-- a field's header that is not declared
abbrev pub unknown_owner : Source → OwnerText → List Position
unknown_owner s owner.Intrinsic = []
unknown_owner s owner.Metadata = []
unknown_owner s (owner.Header h) = unknown (header_names s) (h ∷ [])

-- the header of a field where it is not declared, and the field where it is not
abbrev pub unknown_field : Source → FieldText → List Position
unknown_field s f = unknown_owner s f.owner ++ when (not (is_field s (named s f))) f.ident.place

abbrev pub target_names : TargetText → List Ident
target_names (target.Header h) = h ∷ []
target_names target.Accept = []
target_names target.Reject = []

-- the headers that a header goes on to
abbrev pub targets : HeaderText → List Ident
targets h = flat_map (λ (c : CaseText). target_names c.target) h.cases ++ target_names h.other

-- the names of those that are none
abbrev pub unknown_targets : Source → HeaderText → List Position
unknown_targets s h = unknown (header_names s) (targets h)

-- the names of a select that are no fields of the header
abbrev pub unknown_select : Source → HeaderText → List Position
unknown_select s h = flat_map (λ (i : Ident). when (not (is_field s (selected s h i))) i.place) h.select

-- the name of a tail that is no field of the header
abbrev pub unknown_tail : Source → HeaderText → List Position
unknown_tail s h = flat_map (λ (t : TailText). when (not (is_field s (selected s h t.field))) t.field.place) (option_to_list h.tail)

-- the names of a header's own fields that are none
abbrev pub unknown_own : Source → HeaderText → List Position
unknown_own s h = unknown_select s h ++ unknown_tail s h

abbrev pub unknown_leaf : Source → ActionText → LeafText → List Position
unknown_leaf s a (leaf.Field f) = unknown_field s f
unknown_leaf s a (leaf.Param p) = unknown (param_names a) (p ∷ [])
unknown_leaf s a (leaf.Number n) = []

abbrev pub unknown_assign : Source → ActionText → AssignText → List Position
unknown_assign s a x = unknown_field s x.dest ++ flat_map (unknown_leaf s a) (operands x.expr)

abbrev pub unknown_in_action : Source → ActionText → List Position
unknown_in_action s a = flat_map (unknown_assign s a) a.assigns

abbrev pub unknown_in_table : Source → TableText → List Position
unknown_in_table s t =
    flat_map (unknown_field s) (key_fields t) ++ unknown (action_names s) (listed t) ++ unknown (action_names s) (t.default ∷ [])

abbrev pub arm_names : ArmText → List Ident
arm_names arm.Hit = []
arm_names arm.Miss = []
arm_names (arm.Action a) = a ∷ []

-- a table that is not declared, an arm's action that is not in the table's list, an unknown field
abbrev pub unknown_in_node : Source → WhatText → List Position
unknown_in_node s (Apply table arms) =
    unknown (table_names s) (table ∷ []) ++ unknown (map (λ (i : Ident). i.name) (listed_by s table.name)) (flat_map arm_names arms)
unknown_in_node s (If field mask value) = unknown_field s field

abbrev pub unknown_at_node : Source → NodeText → List Position
unknown_at_node s n = unknown_in_node s n.what

-- Code 6: a name is not declared where it is used.
abbrev pub broken_6 : Source → List Position
broken_6 s =
    flat_map (unknown_own s) s.headers
    ++ flat_map (unknown_targets s) s.headers
    ++ flat_map (unknown_in_action s) s.actions
    ++ flat_map (unknown_in_table s) s.tables
    ++ flat_map (unknown_at_node s) (nodes_of s)

abbrev pub is_width : ℕ → Bool
is_width n = nat_le 1 n && nat_le n 128

abbrev pub no_widths : List Declared → List Position
no_widths ds = flat_map (λ (d : Declared). when (not (is_width d.width.value)) d.width.place) ds

abbrev pub field_widths : HeaderText → List Position
field_widths h = no_widths h.fields

abbrev pub param_widths : ActionText → List Position
param_widths a = no_widths a.params

-- Code 7: a width is 0 or above 128.
abbrev pub broken_7 : Source → List Position
broken_7 s = flat_map field_widths s.headers ++ no_widths (metadata s) ++ flat_map param_widths s.actions

-- the bits of a header
abbrev pub bits_of : HeaderText → ℕ
bits_of h = sum (map (λ (d : Declared). d.width.value) h.fields)

-- 1 to 64 whole bytes
abbrev pub is_size : ℕ → Bool
is_size bits = nat_le 1 bits && nat_le bits 512 && (bits % 8 == 0)

abbrev pub bad_size : HeaderText → List Position
bad_size h = when (not (is_size (bits_of h))) h.ident.place

-- Code 8: a header is of 0 bits, of more than 512, or not of whole bytes.
abbrev pub broken_8 : Source → List Position
broken_8 s = flat_map bad_size s.headers

abbrev pub is_at_most : Option ℕ → ℕ → Bool
is_at_most None n = false
is_at_most (Some m) n = nat_le m n

-- a name of a header that is declared at or before header n
abbrev pub not_later : Source → ℕ → Ident → List Position
not_later s n i = when (is_at_most (number_of (header_names s) i.name) n) i.place

abbrev pub early_targets : Source → ℕ × HeaderText → List Position
early_targets s h = flat_map (not_later s h.0) (targets h.1)

-- Code 9: header n names a header that is declared at or before itself.
abbrev pub broken_9 : Source → List Position
broken_9 s = flat_map (early_targets s) (enumerate_from 0 s.headers)

abbrev pub fits : ℕ → ℕ → Bool
fits width n = nat_lt n (2 ^ width)

abbrev pub too_wide : ℕ → Number → List Position
too_wide width n = when (not (fits width n.value)) n.place

-- an operand of another width than the assigned field
abbrev pub differs : Source → ActionText → ℕ → LeafText → List Position
differs s a width (leaf.Field f) = when (not (width_of s (named s f) == width)) f.place
differs s a width (leaf.Param p) = when (not (param_width a p.name == width)) p.place
differs s a width (leaf.Number n) = too_wide width n

-- the numbers of a value that do not fit
abbrev pub too_wide_value : ℕ → ValueText → List Position
too_wide_value width v = too_wide width v.value ++ flat_map (too_wide width) (option_to_list v.mask)

-- the values of a case that have a name in the select
abbrev pub too_wide_case : Source → HeaderText → CaseText → List Position
too_wide_case s h c = flat_map (λ (x : Ident × ValueText). too_wide_value (width_of s (selected s h x.0)) x.1) (zip h.select c.values)

abbrev pub too_wide_node : Source → WhatText → List Position
too_wide_node s (Apply table arms) = []
too_wide_node s (If field mask value) =
    let v : ValueText = record { value = value; mask = mask } in too_wide_value (width_of s (named s field)) v

abbrev pub operand_widths : Source → ActionText → List Position
operand_widths s a = flat_map (λ (x : AssignText). flat_map (differs s a (width_of s (named s x.dest))) (operands x.expr)) a.assigns

abbrev pub case_widths : Source → HeaderText → List Position
case_widths s h = flat_map (too_wide_case s h) h.cases

abbrev pub gate_widths : Source → NodeText → List Position
gate_widths s n = too_wide_node s n.what

-- Code 10: an operand is not of the width of the assigned field, or a number does not fit the field.
abbrev pub broken_10 : Source → List Position
broken_10 s = flat_map (operand_widths s) s.actions ++ flat_map (case_widths s) s.headers ++ flat_map (gate_widths s) (nodes_of s)

abbrev pub is_sum : Op → Bool
is_sum Add = true
is_sum Sub = true
is_sum And = false
is_sum Or = false
is_sum Xor = false

abbrev pub wide_sign : ℕ → Option (Sign × LeafText) → List Position
wide_sign width None = []
wide_sign width (Some r) = when (is_sum r.0.op && nat_lt 32 width) r.0.place

abbrev pub wide_signs : Source → ActionText → List Position
wide_signs s a = flat_map (λ (x : AssignText). wide_sign (width_of s (named s x.dest)) x.expr.right) a.assigns

-- Code 11: `+` or `-` into a field wider than 32 bits.
abbrev pub broken_11 : Source → List Position
broken_11 s = flat_map (wide_signs s) s.actions

abbrev pub written_ports : Source → ActionText → List Position
written_ports s a = flat_map (λ (x : AssignText). when (same_field (named s x.dest) in_port) x.dest.place) a.assigns

-- Code 12: `in_port` is assigned.
abbrev pub broken_12 : Source → List Position
broken_12 s = flat_map (written_ports s) s.actions

-- Code 13: a table is applied again.
abbrev pub broken_13 : Source → List Position
broken_13 s = repeated (applied_tables s)

-- the places of the fields that an earlier one repeats
abbrev pub repeated_fields : Source → List FieldText → List Position
repeated_fields s fs = repeated_by (λ (f g : FieldText). same_field (named s f) (named s g)) (λ f. f.place) fs

abbrev pub further_prefix : Kind → List FieldText → List Position
further_prefix Prefix fs = map (λ (f : FieldText). f.place) (drop 1 fs)
further_prefix _ fs = []

abbrev pub bad_key : Source → Option KeyText → List Position
bad_key s None = []
bad_key s (Some k) = further_prefix k.kind k.fields ++ repeated_fields s k.fields

abbrev pub bad_key_of : Source → TableText → List Position
bad_key_of s t = bad_key s t.key

abbrev pub repeated_select : HeaderText → List Position
repeated_select h = repeated h.select

-- Code 14: a prefix key has a second field, or a key or a select has a field twice.
abbrev pub broken_14 : Source → List Position
broken_14 s = flat_map repeated_select s.headers ++ flat_map (bad_key_of s) s.tables

abbrev pub key_bits : Source → TableText → ℕ
key_bits s t = sum (map (λ (f : FieldText). width_of s (named s f)) (key_fields t))

abbrev pub long_key : Source → TableText → List Position
long_key s t = when (nat_lt 640 (key_bits s t)) t.ident.place

-- Code 15: a key is of more than 640 bits.
abbrev pub broken_15 : Source → List Position
broken_15 s = flat_map (long_key s) s.tables

abbrev pub many_listed : TableText → List Position
many_listed t = places (drop 14 (listed t))

-- Code 16: a table lists more than 14 actions.
abbrev pub broken_16 : Source → List Position
broken_16 s = flat_map many_listed s.tables

abbrev pub value_place : ValueText → Position
value_place v = v.value.place

-- a case with another number of values than the select has names
abbrev pub bad_case : HeaderText → CaseText → List Position
bad_case h c = if length h.select == length c.values then [] else map value_place (take 1 c.values)

-- a default with another number of arguments than its action has parameters, or with one that does not fit
abbrev pub bad_default : Source → TableText → List Position
bad_default s t =
    when (not (length (params_of s t.default.name) == length t.args)) t.default.place
    ++ flat_map (λ (x : Declared × Number). too_wide x.0.width.value x.1) (zip (params_of s t.default.name) t.args)

abbrev pub bad_cases : HeaderText → List Position
bad_cases h = flat_map (bad_case h) h.cases

-- Code 17: the values of a case or the arguments of a default are not as they have to be.
abbrev pub broken_17 : Source → List Position
broken_17 s = flat_map bad_cases s.headers ++ flat_map (bad_default s) s.tables

abbrev pub bad_table_size : Option KeyText → List Position
bad_table_size None = []
bad_table_size (Some k) = when (not (nat_le 1 k.size.value && nat_le k.size.value 1048576)) k.size.place

abbrev pub no_header : Source → List Position
no_header s = when (length s.headers == 0) first_place

abbrev pub many_headers : Source → List Position
many_headers s = map (λ (h : HeaderText). h.ident.place) (drop 64 s.headers)

abbrev pub many_actions : Source → List Position
many_actions s = map (λ (a : ActionText). a.ident.place) (drop 256 s.actions)

abbrev pub many_params : ActionText → List Position
many_params a = places (drop 16 (declared_names a.params))

abbrev pub many_assigns : ActionText → List Position
many_assigns a = map (λ (x : AssignText). x.dest.place) (drop 64 a.assigns)

abbrev pub many_metadata : Source → List Position
many_metadata s = places (drop 256 (declared_names (metadata s)))

abbrev pub many_nodes : Source → List Position
many_nodes s = map (λ (n : NodeText). n.place) (drop 128 (nodes_of s))

abbrev pub bad_size_of : TableText → List Position
bad_size_of t = bad_table_size t.key

-- Code 18: no header, more than 64, more than 256 actions, 16 parameters, 64 assignments, 256 metadata fields or 128 nodes, or a size of 0 or above 1,048,576.
abbrev pub broken_18 : Source → List Position
broken_18 s =
    no_header s
    ++ many_headers s
    ++ many_actions s
    ++ flat_map many_params s.actions
    ++ flat_map many_assigns s.actions
    ++ many_metadata s
    ++ many_nodes s
    ++ flat_map bad_size_of s.tables

-- Code 19: there is no control.
abbrev pub broken_19 : Source → List Position
broken_19 s = when (is_none s.control) s.end

abbrev pub not_applied : Source → TableText → List Position
not_applied s t = when (not (is_known (map (λ (i : Ident). i.name) (applied_tables s)) t.ident.name)) t.ident.place

-- Code 20: no node applies a table.
abbrev pub broken_20 : Source → List Position
broken_20 s = flat_map (not_applied s) s.tables

-- The lengths of a tail: its field has at most 8 bits, its unit is 1 to 255, its base at most 255, and the greatest value of
-- the field makes 0 to 64 bytes.
abbrev pub is_tail_range : ℕ → ℕ → ℕ → Bool
is_tail_range width unit base =
    nat_le width 8 && nat_le 1 unit && nat_le unit 255 && nat_le base 255 && nat_le base ((2 ^ width - 1) * unit) && nat_le ((2 ^ width - 1) * unit) (base + 64)

abbrev pub bad_tail : Source → HeaderText → TailText → List Position
bad_tail s h t = when (not (is_tail_range (width_of s (selected s h t.field)) t.unit.value t.base.value)) t.place

abbrev pub bad_tails : Source → HeaderText → List Position
bad_tails s h = flat_map (bad_tail s h) (option_to_list h.tail)

-- Code 21: the lengths of a tail are not as they have to be.
abbrev pub broken_21 : Source → List Position
broken_21 s = flat_map (bad_tails s) s.headers

-- a place before another
abbrev pub is_before : Position → Position → Bool
is_before a b = nat_lt a.line b.line || ((a.line == b.line) && nat_lt a.column b.column)

-- the earlier of two places
abbrev pub earlier : Option Position → Option Position → Option Position
earlier None b = b
earlier (Some a) None = Some a
earlier (Some a) (Some b) = Some (if is_before b a then b else a)

-- the earliest place
abbrev pub earliest : List Position → Option Position
earliest [] = None
earliest (p ∷ ps) = earlier (Some p) (earliest ps)

-- the places where each rule is broken, by code
abbrev pub broken : Source → List (ℕ × List Position)
broken s =
    (5, broken_5 s) ∷ (6, broken_6 s) ∷ (7, broken_7 s) ∷ (8, broken_8 s) ∷ (9, broken_9 s) ∷ (10, broken_10 s) ∷ (11, broken_11 s) ∷ (12, broken_12 s)
    ∷ (13, broken_13 s) ∷ (14, broken_14 s) ∷ (15, broken_15 s) ∷ (16, broken_16 s) ∷ (17, broken_17 s) ∷ (18, broken_18 s) ∷ (19, broken_19 s)
    ∷ (20, broken_20 s) ∷ (21, broken_21 s) ∷ []

-- the least code that is broken, at its earliest place
abbrev pub least_of : List (ℕ × List Position) → Option (ℕ × Position)
least_of [] = None
least_of ((code, ps) ∷ rest) = option_or (option_map (λ (p : Position). (code, p)) (earliest ps)) (least_of rest)

-- the fault of a text, if it has one
abbrev pub fault_of : Source → Option (ℕ × Position)
fault_of s = least_of (broken s)
