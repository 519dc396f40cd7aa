-- The small text, changed so that it breaks a rule, and the places where it does.
use Rattle.std.proofs.Common.{◌≡◌, ℕ, [], ◌∷◌, List, codes, None, Some, map, replicate, refl}
use Rattle.std.specs.List.{flat_map, range_with_len}
use Rattle.rmt_ast.specs.declared.program.Kind.TheVariants.{Prefix}
use Rattle.rmt_lexer.specs.Text.{first_place}
use Rattle.rmt_check.specs.Parts.{FieldText, CaseText, HeaderText, AssignText, KeyText, NodeText, Source}
use Rattle.rmt_check.specs.declared.source.TargetText.TheVariants as target
use Rattle.rmt_check.specs.declared.source.LeafText.TheVariants as leaf
use Rattle.rmt_check.specs.Rules.{broken_5, broken_6, broken_7, broken_8, broken_9, broken_10, broken_11, broken_12, broken_13, broken_14, broken_15, broken_16, broken_17, broken_18, broken_19, broken_20, broken_21, fault_of}
use Rattle.rmt_check.proofs.ExampleText.{at, ident, number, declared, of_header, of_meta, of_all, value, header_h, header_g, header_o, meta, one, assign, action_set, action_hop, add_one, key, table_t, apply_t, text}

abbrev with_headers : List HeaderText → Source
with_headers hs = record text { headers = hs }

-- the action `set` with this assignment
abbrev setting : AssignText → Source
setting a = record text { actions = action_set a ∷ action_hop add_one ∷ [] }

abbrev with_key : KeyText → Source
with_key k = record text { tables = table_t k ∷ [] }

abbrev with_fields : List FieldText → Source
with_fields fs = with_key (record key { fields = fs })

abbrev with_nodes : List NodeText → Source
with_nodes ns = record text { control = Some ns }

-- code 5: the second header has the name of the first
two_headers_h : broken_5 (with_headers (header_h ∷ record header_g { ident = ident 10 (codes "h") } ∷ [])) ≡ at 10 ∷ []
two_headers_h = refl

-- fields of two headers may have one name, and so they do in the text; those of one header may not
fields_in_two_headers : broken_5 text ≡ []
fields_in_two_headers = refl

fields_in_one_header : broken_5 (with_headers (header_h ∷ record header_g { fields = declared 11 (codes "a") 16 ∷ declared 13 (codes "a") 8 ∷ [] } ∷ [])) ≡ at 13 ∷ []
fields_in_one_header = refl

-- `meta` again
two_metas : broken_5 (record text { metas = meta ∷ record meta { place = at 25; fields = [] } ∷ [] }) ≡ at 25 ∷ []
two_metas = refl

-- code 6: `b` is a field of the header h, not of g, and there is no header f
field_of_another_header : broken_6 (setting (assign (of_header 33 (codes "g") (codes "b")) (one (leaf.Param (ident 35 (codes "x")))))) ≡ at 34 ∷ []
field_of_another_header = refl

no_header_f : broken_6 (setting (assign (of_header 33 (codes "f") (codes "b")) (one (leaf.Param (ident 35 (codes "x")))))) ≡ at 33 ∷ at 34 ∷ []
no_header_f = refl

no_select_c : broken_6 (with_headers (record header_h { select = ident 6 (codes "c") ∷ [] } ∷ header_g ∷ [])) ≡ at 6 ∷ []
no_select_c = refl

-- of the header alone is the field of a tail
no_tail_a : broken_6 (with_headers (header_h ∷ header_g ∷ header_o 4 (codes "a") 4 4 ∷ [])) ≡ at 85 ∷ []
no_tail_a = refl

-- code 7: a width of 129, and of 0
widths_beyond : map (λ width. broken_7 (with_headers (header_h ∷ record header_g { fields = declared 11 (codes "a") width ∷ [] } ∷ []))) (129 ∷ 0 ∷ []) ≡ replicate 2 (at 12 ∷ [])
widths_beyond = refl

-- code 8: 15 bits
no_whole_bytes : broken_8 (with_headers (header_h ∷ record header_g { fields = declared 11 (codes "a") 15 ∷ [] } ∷ [])) ≡ at 10 ∷ []
no_whole_bytes = refl

-- code 9: the second header goes on to the first
goes_back : broken_9 (with_headers (header_h ∷ record header_g { other = target.Header (ident 14 (codes "h")) } ∷ [])) ≡ at 14 ∷ []
goes_back = refl

-- code 10: a parameter of 8 bits into 16, and a value of 9 bits for a field of 8
other_width : broken_10 (setting (assign (of_meta 33 (codes "m")) (one (leaf.Param (ident 35 (codes "x")))))) ≡ at 35 ∷ []
other_width = refl

too_wide_value : broken_10 (with_headers (record header_h { cases = (let c : CaseText = record { values = value 7 256 ∷ []; target = target.Accept } in c) ∷ [] } ∷ header_g ∷ [])) ≡ at 7 ∷ []
too_wide_value = refl

-- code 11: a sum of 33 bits
too_wide_sum : broken_11 (record text { metas = record meta { fields = declared 21 (codes "m") 33 ∷ [] } ∷ [] }) ≡ at 45 ∷ []
too_wide_sum = refl

-- code 12
in_port_assigned : broken_12 (setting (assign (of_all 33 (codes "in_port")) (one (leaf.Number (number 35 0))))) ≡ at 33 ∷ []
in_port_assigned = refl

-- a metadata field of that name is another field
in_port_of_meta : broken_12 (setting (assign (of_meta 33 (codes "in_port")) (one (leaf.Number (number 35 0))))) ≡ []
in_port_of_meta = refl

-- code 13: the table is applied twice
applied_again : broken_13 (with_nodes (apply_t 60 ∷ apply_t 80 ∷ [])) ≡ at 81 ∷ []
applied_again = refl

-- code 14: a second field of a prefix key, a field twice; fields of one name in two headers are two
second_prefix : broken_14 (with_key (record key { kind = Prefix; fields = of_header 51 (codes "h") (codes "a") ∷ of_header 53 (codes "h") (codes "b") ∷ [] })) ≡ at 53 ∷ []
second_prefix = refl

field_twice : broken_14 (with_fields (of_header 51 (codes "h") (codes "a") ∷ of_header 53 (codes "h") (codes "a") ∷ [])) ≡ at 53 ∷ []
field_twice = refl

one_name_in_two : broken_14 (with_fields (of_header 51 (codes "h") (codes "a") ∷ of_header 53 (codes "g") (codes "a") ∷ [])) ≡ []
one_name_in_two = refl

-- code 15: a key of 656 bits, one of 640 in the same table
long_key : broken_15 (with_fields (map (λ n. of_header n (codes "g") (codes "a")) (range_with_len 100 41))) ≡ at 50 ∷ []
long_key = refl

full_key : broken_15 (with_fields (map (λ n. of_header n (codes "g") (codes "a")) (range_with_len 100 40))) ≡ []
full_key = refl

-- code 16: the 15th action of a list
fifteen_actions : broken_16 (with_key (record key { actions = map (λ n. ident n (codes "set")) (range_with_len 101 15) })) ≡ at 115 ∷ []
fifteen_actions = refl

-- code 17: no argument for one parameter, an argument of 9 bits for one of 8
no_argument : broken_17 (record text { tables = record (table_t key) { args = [] } ∷ [] }) ≡ at 55 ∷ []
no_argument = refl

too_wide_argument : broken_17 (record text { tables = record (table_t key) { args = number 56 256 ∷ [] } ∷ [] }) ≡ at 56 ∷ []
too_wide_argument = refl

-- code 18: no header, no size
no_headers : broken_18 (with_headers []) ≡ first_place ∷ []
no_headers = refl

no_size : broken_18 (with_key (record key { size = number 57 0 })) ≡ at 57 ∷ []
no_size = refl

-- code 19
no_control : broken_19 (record text { control = None }) ≡ at 70 ∷ []
no_control = refl

-- code 20
not_applied : broken_20 (with_nodes []) ≡ at 50 ∷ []
not_applied = refl

-- the text with a third header, whose tail is that of its first field
abbrev with_tail : ℕ → ℕ → ℕ → Source
with_tail width unit base = with_headers (header_h ∷ header_g ∷ header_o width (codes "n") unit base ∷ [])

-- code 21: 15 * 5 - 4 bytes, a field of 9 bits, no unit, a unit and a base of 9 bits, and 15 * 4 - 61 bytes
tails_beyond : map broken_21 (with_tail 4 5 4 ∷ with_tail 9 1 255 ∷ with_tail 4 0 0 ∷ with_tail 1 256 200 ∷ with_tail 8 1 256 ∷ with_tail 4 4 61 ∷ []) ≡ replicate 6 (at 84 ∷ [])
tails_beyond = refl

-- 56, 0 and 64 bytes
tails_in_range : flat_map broken_21 (with_tail 4 4 4 ∷ with_tail 4 4 60 ∷ with_tail 4 5 11 ∷ []) ≡ []
tails_in_range = refl

-- of two broken rules the least code counts, at the earliest of its places
least_code : fault_of (record (with_headers (header_h ∷ record header_g { fields = declared 11 (codes "a") 15 ∷ declared 13 (codes "b") 130 ∷ [] } ∷ [])) { control = None }) ≡ Some (7, at 14)
least_code = refl

earliest_place : fault_of (record (with_headers (header_h ∷ record header_g { fields = declared 11 (codes "a") 0 ∷ [] } ∷ [])) { metas = record meta { fields = declared 21 (codes "m") 0 ∷ [] } ∷ [] }) ≡ Some (7, at 12)
earliest_place = refl
