-- Runs of packets and commits whose answers and counters are known.
use Rattle.std.specs.Prelude.{◌≡◌, ℕ, List, [], ◌∷◌, codes, true, refl}
use Rattle.rmt_bits.specs.declared.answer.Verdict.TheVariants.{Sent}
use Rattle.rmt_bits.specs.declared.answer.Answer.{Answer}
use Rattle.rmt_bits.specs.declared.answer.Count.{Count}
use Rattle.rmt_ast.specs.Types.{Program, Test}
use Rattle.rmt_ast.specs.declared.program.Kind.TheVariants.{Exact}
use Rattle.rmt_ast.specs.declared.entry.Entry.{Entry}
use Rattle.rmt_ast.specs.Changes.{Adds, Change, Removes, at_first, committed, next_number}
use Rattle.rmt_ast.specs.Events.{Arrives, Commits, Event, answers_of_events, counts_of_events}
use Rattle.rmt_ast.proofs.Programs.{entry, keyless, one_entry, packet, prefix, prefixes, priorities, strict_and_weak, ternary}

abbrev sent : ℕ → List ℕ → List ℕ → Answer
sent port bytes hits = record { verdict = Sent port; bytes = bytes; hits = hits }

abbrev count : ℕ → ℕ → ℕ → Count
count number packets bytes = record { entry = number; packets = packets; bytes = bytes }

abbrev key_test : ℕ → ℕ → Test
key_test value mask = record { value = value; mask = mask }

-- the lines `+ b K go PORT` and `- b K`; a line tells no number
abbrev add_b : ℕ → ℕ → Change
add_b key port = Adds (record { table = 1; number = 0; tests = key_test key 255 ∷ []; rank = 0; action = 0; args = port ∷ [] })

abbrev remove_b : ℕ → Change
remove_b key = Removes 1 (record { tests = key_test key 255 ∷ []; rank = 0 })

-- the entry of a number that stands behind a line `+ b K go PORT`
abbrev entry_b : ℕ → ℕ → ℕ → Entry
entry_b number key port = record { table = 1; number = number; tests = key_test key 255 ∷ []; rank = 0; action = 0; args = port ∷ [] }

-- a packet of one byte, 7
abbrev seven : Event
seven = Arrives (packet 0 (7 ∷ []))

-- strict_and_weak with a counted table b
abbrev counted_b : Program
counted_b = record strict_and_weak {
  tables =
      keyless (codes "a") 0
      ∷ record { name = codes "b"; kind = Exact; key = 5 ∷ []; actions = 2 ∷ []; default = 3; args = []; size = 16; counted = true }
      ∷ keyless (codes "c") 1 ∷ [];
}

-- `0 07;- b 7;+ b 7 go 6;commit;0 07`: the packet behind the commit goes to port 6
abbrev replaced_in_flight : List Event
replaced_in_flight = seven ∷ Commits (remove_b 7 ∷ add_b 7 6 ∷ []) ∷ seven ∷ []

pub replaced_in_flight_answers : answers_of_events strict_and_weak one_entry replaced_in_flight ≡ sent 5 (7 ∷ []) (0 ∷ []) ∷ sent 6 (7 ∷ []) (1 ∷ []) ∷ []
replaced_in_flight_answers = refl

-- no table is counted
pub replaced_in_flight_counts : counts_of_events strict_and_weak one_entry replaced_in_flight ≡ []
replaced_in_flight_counts = refl

-- where it is, the entry that went and the one that came have a count each
pub replaced_in_flight_counted : counts_of_events counted_b one_entry replaced_in_flight ≡ count 0 1 1 ∷ count 1 1 1 ∷ []
replaced_in_flight_counted = refl

-- the same, and then `- b 7;commit;0 07`
abbrev then_removed : List Event
then_removed = seven ∷ Commits (remove_b 7 ∷ add_b 7 6 ∷ []) ∷ seven ∷ Commits (remove_b 7 ∷ []) ∷ seven ∷ []

pub then_removed_answers : answers_of_events strict_and_weak one_entry then_removed
    ≡ sent 5 (7 ∷ []) (0 ∷ []) ∷ sent 6 (7 ∷ []) (1 ∷ []) ∷ sent 0 (7 ∷ []) [] ∷ []
then_removed_answers = refl

pub then_removed_counted : counts_of_events counted_b one_entry then_removed ≡ count 0 1 1 ∷ count 1 1 1 ∷ []
then_removed_counted = refl

-- `0 07;commit`
abbrev empty_commit : List Event
empty_commit = seven ∷ Commits [] ∷ []

pub empty_commit_answers : answers_of_events strict_and_weak one_entry empty_commit ≡ sent 5 (7 ∷ []) (0 ∷ []) ∷ []
empty_commit_answers = refl

pub empty_commit_counted : counts_of_events counted_b one_entry empty_commit ≡ count 0 1 1 ∷ []
empty_commit_counted = refl

-- an entry that a commit adds is counted, also where no packet comes
pub added_is_counted : counts_of_events counted_b one_entry (Commits (add_b 8 6 ∷ []) ∷ []) ≡ count 0 0 0 ∷ count 1 0 0 ∷ []
added_is_counted = refl

-- an addition and its removal in one commit are no change, and have no count; but the number is taken
abbrev no_change : List Change
no_change = add_b 8 6 ∷ remove_b 8 ∷ []

pub no_change_leaves : committed (at_first one_entry) no_change ≡ record { lists = one_entry; next = 2 }
no_change_leaves = refl

pub no_change_counted : counts_of_events counted_b one_entry (Commits no_change ∷ seven ∷ []) ≡ count 0 1 1 ∷ []
no_change_counted = refl

-- a removal and an addition of one key in one commit replace the entry by one of another number
pub replaced_leaves : committed (at_first one_entry) (remove_b 7 ∷ add_b 7 6 ∷ []) ≡ record { lists = [] ∷ (entry_b 1 7 6 ∷ []) ∷ [] ∷ []; next = 2 }
replaced_leaves = refl

-- the number goes on over commits, also where the entry of the greatest is gone
pub numbers_go_on : committed (committed (at_first one_entry) (add_b 8 6 ∷ remove_b 7 ∷ [])) (remove_b 8 ∷ add_b 9 2 ∷ []) ≡ record { lists = [] ∷ (entry_b 2 9 2 ∷ []) ∷ [] ∷ []; next = 3 }
numbers_go_on = refl

-- 0 where there is no entry, else one more than the greatest over all tables
pub first_numbers : (next_number ([] ∷ [] ∷ []) ≡ 0) × (next_number one_entry ≡ 1) × (next_number prefixes ≡ 4) × (next_number ((entry 9 0 0 0 [] ∷ []) ∷ (entry 4 0 0 0 [] ∷ []) ∷ []) ≡ 10)
first_numbers = (refl, refl, refl, refl)

-- of two prefixes of one value that differ in length, that of the length goes
pub prefix_goes : committed (at_first ((entry 0 8 0x0a000000 0xff000000 [] ∷ entry 1 24 0x0a000000 0xffffff00 [] ∷ []) ∷ []))
    (Removes 0 (record { tests = key_test 0x0a000000 0xffffff00 ∷ []; rank = 24 }) ∷ [])
    ≡ record { lists = (entry 0 8 0x0a000000 0xff000000 [] ∷ []) ∷ []; next = 2 }
prefix_goes = refl

-- two ternary entries of one priority and pattern, and one of another priority
abbrev equal_ones : List (List Entry)
equal_ones = (entry 0 20 0x02 0x0f (1 ∷ []) ∷ entry 1 10 0x02 0x0f (2 ∷ []) ∷ entry 2 20 0x02 0x0f (3 ∷ []) ∷ []) ∷ []

abbrev remove_equal : Change
remove_equal = Removes 0 (record { tests = key_test 0x02 0x0f ∷ []; rank = 20 })

-- the one of least number goes, and by a second removal the other
pub least_goes : committed (at_first equal_ones) (remove_equal ∷ []) ≡ record { lists = (entry 1 10 0x02 0x0f (2 ∷ []) ∷ entry 2 20 0x02 0x0f (3 ∷ []) ∷ []) ∷ []; next = 3 }
least_goes = refl

pub both_go : committed (at_first equal_ones) (remove_equal ∷ remove_equal ∷ []) ≡ record { lists = (entry 1 10 0x02 0x0f (2 ∷ []) ∷ []) ∷ []; next = 3 }
both_go = refl

-- packets between commits meet the entries as they are: first by priority 20, then by one of 10, then by 30 alone
pub ternary_events_answers : answers_of_events ternary priorities
    (Arrives (packet 9 (0x12 ∷ []))
    ∷ Commits (Adds (entry 0 10 0x12 0xff (7 ∷ [])) ∷ []) ∷ Arrives (packet 9 (0x12 ∷ []))
    ∷ Commits (Removes 0 (record { tests = key_test 0x12 0xff ∷ []; rank = 10 }) ∷ Removes 0 (record { tests = key_test 0x02 0x0f ∷ []; rank = 20 }) ∷ []) ∷ Arrives (packet 9 (0x12 ∷ [])) ∷ [])
    ≡ sent 2 (0x12 ∷ []) (1 ∷ []) ∷ sent 7 (0x12 ∷ []) (3 ∷ []) ∷ sent 1 (0x12 ∷ []) (0 ∷ []) ∷ []
ternary_events_answers = refl

-- each entry counts the packets that hit it while it stood
pub prefix_events_counts : counts_of_events prefix prefixes
    (Arrives (packet 0 (10 ∷ 0 ∷ 1 ∷ 5 ∷ []))
    ∷ Commits (Removes 0 (record { tests = key_test 0x0a000105 0xffffffff ∷ []; rank = 32 }) ∷ []) ∷ Arrives (packet 0 (10 ∷ 0 ∷ 1 ∷ 5 ∷ []))
    ∷ Commits (Adds (entry 0 32 0x0a000105 0xffffffff (7 ∷ [])) ∷ []) ∷ Arrives (packet 0 (10 ∷ 0 ∷ 1 ∷ 5 ∷ [])) ∷ [])
    ≡ count 0 0 0 ∷ count 1 0 0 ∷ count 2 1 4 ∷ count 3 1 4 ∷ count 4 1 4 ∷ []
prefix_events_counts = refl
