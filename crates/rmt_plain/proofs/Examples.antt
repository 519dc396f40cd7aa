-- Worked rows of the definitions.
use Rattle.std.proofs.Common.{◌≡◌, ℕ, List, [], ◌∷◌, Some, None, map, inl, inr, refl, arith}
use Rattle.std.proofs.lemmas.List.Elements.{All-from_recursion}
use Rattle.std.specs.Prelude.{Contains}
use Rattle.std.specs.List.{flat_map}
use Rattle.rmt_bits.specs.Packet.{Packet}
use Rattle.rmt_bits.proofs.MemberLaws.{Contains-split}
use Rattle.rmt_bits.specs.declared.answer.Count.{Count}
use Rattle.rmt_ast.specs.declared.entry.Entry.{Entry}
use Rattle.rmt_ast.specs.Answers.{counts_of}
use Rattle.rmt_ast.specs.Changes.{Adds, Change, Removes, at_first}
use Rattle.rmt_ast.specs.Events.{Arrives, Commits}
use Rattle.rmt_ast.proofs.Programs.{entry, one_entry, packet, prefix, strict_and_weak}
use Rattle.rmt_ast.specs.declared.program.Kind.TheVariants.{Prefix, Ternary}
use Rattle.rmt_bits.specs.Grouping.{earlier}
use Rattle.rmt_plain.specs.Grouping.{masked}
use Rattle.rmt_plain.specs.Ranking.{weight_of}
use Rattle.rmt_plain.specs.Stands.{FollowOn, StaysOrIsNew, counts_met, entries_after, entries_in, meets, numbers_in}

abbrev count : ℕ → ℕ → ℕ → Count
count number packets bytes = record { entry = number; packets = packets; bytes = bytes }

-- the longer prefix is lighter, and the lower priority number
long_prefix : weight_of Prefix 24 ≡ 4294967271
long_prefix = refl

no_prefix : weight_of Prefix 0 ≡ 4294967295
no_prefix = refl

priority : weight_of Ternary 7 ≡ 7
priority = refl

-- the high bits of field 2 and the low bits of field 0
masked_key : masked (0xf0 ∷ 0x0f ∷ []) (2 ∷ 0 ∷ []) (0x12 ∷ 0 ∷ 0x34 ∷ []) ≡ 0x30 ∷ 0x02 ∷ []
masked_key = refl

earlier_of_two : earlier (Some 5) (Some 3) ≡ Some 3
earlier_of_two = refl

earlier_of_one : earlier None (Some 3) ≡ Some 3
earlier_of_one = refl

-- prefixes of 8 and of 24 bits, and what a commit sets in their place: the longer goes, and a whole address comes
abbrev first_entries : List (List Entry)
first_entries = (entry 0 8 0x0a000000 0xff000000 (1 ∷ []) ∷ entry 1 24 0x0a000100 0xffffff00 (2 ∷ []) ∷ []) ∷ []

abbrev later_entries : List (List Entry)
later_entries = (entry 0 8 0x0a000000 0xff000000 (1 ∷ []) ∷ entry 2 32 0x0a000105 0xffffffff (3 ∷ []) ∷ []) ∷ []

-- packets to 10.0.1.5 and 10.0.1.6
abbrev to_five : Packet
to_five = packet 0 (10 ∷ 0 ∷ 1 ∷ 5 ∷ [])

abbrev to_six : Packet
to_six = packet 0 (10 ∷ 0 ∷ 1 ∷ 6 ∷ [])

-- the entry that is gone keeps its count, and the one that comes counts from 0 on
counted_over_a_commit : counts_met prefix (first_entries ∷ later_entries ∷ []) (meets first_entries to_five ∷ meets first_entries to_six ∷ meets later_entries to_five ∷ meets later_entries to_six ∷ [])
    ≡ count 0 1 4 ∷ count 1 2 8 ∷ count 2 1 4 ∷ []
counted_over_a_commit = refl

no_packet_yet : counts_met prefix (first_entries ∷ later_entries ∷ []) [] ≡ count 0 0 0 ∷ count 1 0 0 ∷ count 2 0 0 ∷ []
no_packet_yet = refl

-- without a commit the counters are those of the packets
counted_alone : counts_met prefix (first_entries ∷ []) (map (meets first_entries) (to_five ∷ to_six ∷ [])) ≡ counts_of prefix first_entries (to_five ∷ to_six ∷ [])
counted_alone = refl

-- a table that is not counted has no counters
not_counted : counts_met strict_and_weak (one_entry ∷ []) (meets one_entry (packet 0 (7 ∷ [])) ∷ []) ≡ []
not_counted = refl

later_numbers : numbers_in later_entries ≡ 0 ∷ 2 ∷ []
later_numbers = refl

-- the entry of 8 bits stands in both, and the number of the whole address is new
two_is_new : Contains (flat_map numbers_in (first_entries ∷ [])) 2 → ⊥
two_is_new there = elim (Contains-split 0 (1 ∷ []) 2 there) [
  | inl e ↦ absurd (omega (arith, e))
  | inr later ↦ elim (Contains-split 1 [] 2 later) [
    | inl e ↦ absurd (omega (arith, e))
    | inr none ↦ absurd (let lt = none.1 in omega (arith, lt))
  ]
]

follows : FollowOn (first_entries ∷ []) first_entries later_entries
follows = All-from_recursion (StaysOrIsNew (first_entries ∷ []) first_entries) (entries_in later_entries) (inl (0, omega arith, refl), (inr two_is_new, tt))

-- the same by the changes of a commit
abbrev the_commit : List Change
the_commit = Removes 0 (record { tests = record { value = 0x0a000100; mask = 0xffffff00 } ∷ []; rank = 24 }) ∷ Adds (entry 0 32 0x0a000105 0xffffffff (3 ∷ [])) ∷ []

entries_over_a_commit : entries_after (at_first first_entries) (Arrives to_five ∷ Commits the_commit ∷ Arrives to_five ∷ []) ≡ record { lists = later_entries; next = 3 }
entries_over_a_commit = refl
