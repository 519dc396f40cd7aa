-- What entry texts say of programs, worked out.
use Rattle.std.proofs.Common.{◌≡◌, ℕ, ◌+◌, ◌/◌, ◌%◌, List, [], ◌∷◌, ◌++◌, refl}
use Rattle.std.specs.Prelude.{codes, Ok, Err}
use Rattle.std.specs.List.{flat_map, range_with_len}
use Rattle.rmt_entries.specs.declared.fault.EntryFault.TheVariants.{At}
use Rattle.rmt_ast.specs.Naming.{names_of}
use Rattle.rmt_entries.specs.Entries.{entries_of}
use Rattle.rmt_entries.specs.NamedLines.{named_entry, named_key}
use Rattle.rmt_ast.proofs.Programs.{both_keys, one_entry, prefix, prefixes, priorities, strict_and_weak, ternary, two_keys}

-- lists
one_line : entries_of strict_and_weak (codes "b 7 go 5\n") ≡ Ok one_entry
one_line = refl

no_line : entries_of strict_and_weak [] ≡ Ok ([] ∷ [] ∷ [] ∷ [])
no_line = refl

-- lines with spaces alone or with # at the start are passed over; words stand apart by spaces; the last line feed may lack
passed_over : entries_of strict_and_weak (codes "# b 1 go 1\n\n   \n  b   7  go 5  ") ≡ Ok one_entry
passed_over = refl

other_digits : entries_of strict_and_weak (codes "b 007 go 0x5") ≡ Ok one_entry
other_digits = refl

two_fields : entries_of two_keys (codes "t 1 2 back\n") ≡ Ok both_keys
two_fields = refl

-- bits of a value outside its mask are ignored
four_prefixes : entries_of prefix (codes "r 0/0 go 1\nr 0x0a000000/8 go 2\nr 0x0a0001ff/24 go 3\nr 0x0a000105/32 go 4\n") ≡ Ok prefixes
four_prefixes = refl

patterns : entries_of ternary (codes "t 30 0x1f&0xf0 go 1\nt 20 0xf2&0x0f go 2\nt 20 0x32 go 3\n") ≡ Ok priorities
patterns = refl

-- in a ternary table lines may be alike
alike : entries_of ternary (codes "t 1 * go 1\nt 1 * go 1\nt 1 3&4&5 go 1\n") ≡ Err (At 3 3)
alike = refl

-- code 1
too_few_words : entries_of strict_and_weak (codes "b\n") ≡ Err (At 1 1)
too_few_words = refl

one_unknown_word : entries_of strict_and_weak (codes "b 7 go 5\nq\n") ≡ Err (At 1 2)
one_unknown_word = refl

tab_is_no_space : entries_of strict_and_weak (codes "b\t7 go 5\n") ≡ Err (At 1 1)
tab_is_no_space = refl

-- code 2
no_table : entries_of strict_and_weak (codes "q 1 go 1\n") ≡ Err (At 2 1)
no_table = refl

comment_behind_a_space : entries_of strict_and_weak (codes " # b 7 go 5\n") ≡ Err (At 2 1)
comment_behind_a_space = refl

-- code 3
too_wide_value : entries_of strict_and_weak (codes "b 256 go 1\n") ≡ Err (At 3 1)
too_wide_value = refl

no_key : entries_of strict_and_weak (codes "a 1 go 1\n") ≡ Err (At 3 1)
no_key = refl

key_before_action : entries_of strict_and_weak (codes "b 256 sx 512\n") ≡ Err (At 3 1)
key_before_action = refl

great_x : entries_of strict_and_weak (codes "b 0X7 go 1\n") ≡ Err (At 3 1)
great_x = refl

prefix_too_long : entries_of prefix (codes "r 0/33 go 1\n") ≡ Err (At 3 1)
prefix_too_long = refl

length_is_decimal : entries_of prefix (codes "r 0/0x8 go 1\n") ≡ Err (At 3 1)
length_is_decimal = refl

-- code 4
no_action : entries_of strict_and_weak (codes "b 1\n") ≡ Err (At 4 1)
no_action = refl

action_of_no_list : entries_of strict_and_weak (codes "b 1 sx\n") ≡ Err (At 4 1)
action_of_no_list = refl

-- code 5
too_wide_argument : entries_of strict_and_weak (codes "b 1 go 512\n") ≡ Err (At 5 1)
too_wide_argument = refl

argument_too_many : entries_of strict_and_weak (codes "b 1 go 5 5\n") ≡ Err (At 5 1)
argument_too_many = refl

-- code 6
same_key : entries_of strict_and_weak (codes "b 1 go 1\nb 0x1 go 2\n") ≡ Err (At 6 2)
same_key = refl

same_prefix : entries_of prefix (codes "r 0x0a000001/8 go 1\nr 0x0a000000/9 go 1\nr 0x0affffff/8 go 2\n") ≡ Err (At 6 3)
same_prefix = refl

-- code 7
lines_of_keys : ℕ → List ℕ
lines_of_keys count = flat_map (λ k. codes "b " ++ ((48 + k / 10) ∷ (48 + k % 10) ∷ codes " go 1\n")) (range_with_len 0 count)

full : entries_of strict_and_weak (lines_of_keys 17) ≡ Err (At 7 17)
unfolding lines_of_keys
full = refl

repeated_in_a_full_table : entries_of strict_and_weak (lines_of_keys 16 ++ codes "b 15 go 1\n") ≡ Err (At 6 17)
unfolding lines_of_keys
repeated_in_a_full_table = refl

-- single lines, by names
entry_line : named_entry (names_of strict_and_weak one_entry) (codes "b  7 go 5 ") ≡ Ok (record { table = 1; number = 0; tests = record { value = 7; mask = 255 } ∷ []; rank = 0; action = 0; args = 5 ∷ [] })
entry_line = refl

-- no line is passed over
empty_line : named_entry (names_of strict_and_weak one_entry) [] ≡ Err 1
empty_line = refl

comment_line : named_entry (names_of strict_and_weak one_entry) (codes "# b 7 go 5") ≡ Err 2
comment_line = refl

-- a table without a key has no names
keyless_line : named_entry (names_of strict_and_weak one_entry) (codes "a 1 go 1") ≡ Err 2
keyless_line = refl

wide_line : (named_entry (names_of strict_and_weak one_entry) (codes "b 256 sx 512") ≡ Err 3)
    × (named_entry (names_of strict_and_weak one_entry) (codes "b 1 sx 512") ≡ Err 4) × (named_entry (names_of strict_and_weak one_entry) (codes "b 1 go 512") ≡ Err 5)
wide_line = (refl, refl, refl)

key_line : named_key (names_of strict_and_weak one_entry) (codes "b 0x7") ≡ Ok (record { table = 1; tests = record { value = 7; mask = 255 } ∷ []; rank = 0 })
key_line = refl

prefix_line : named_key (names_of prefix prefixes) (codes "r 0x0a0001ff/24") ≡ Ok (record { table = 0; tests = record { value = 0x0a000100; mask = 0xffffff00 } ∷ []; rank = 24 })
prefix_line = refl

ternary_line : named_key (names_of ternary priorities) (codes "t 20 *") ≡ Ok (record { table = 0; tests = record { value = 0; mask = 0 } ∷ []; rank = 20 })
ternary_line = refl

no_key_line : (named_key (names_of strict_and_weak one_entry) (codes "b") ≡ Err 1) × (named_key (names_of strict_and_weak one_entry) (codes "c 7") ≡ Err 2)
    × (named_key (names_of strict_and_weak one_entry) (codes "b 256") ≡ Err 3)
no_key_line = (refl, refl, refl)

-- no word stands behind a key
word_too_many : named_key (names_of strict_and_weak one_entry) (codes "b 7 go") ≡ Err 3
word_too_many = refl
