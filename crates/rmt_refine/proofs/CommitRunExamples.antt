-- The program on two stages: runs with a commit of each kind, and three changes each of which breaks one part of what a commit keeps, so that there is no such run.
use Rattle.std.proofs.Common.{◌≡◌, ◌≢◌, ℕ, ◌*◌, ◌<◌, false, true, List, [], ◌∷◌, ◌++◌, length, map, replicate, refl, sym, ap, ◌∙◌, arith}
use Rattle.std.specs.Prelude.{slice_index_or}
use Rattle.rmt_bits.specs.declared.answer.Count.{Count}
use Rattle.rmt_bits.specs.declared.answer.Verdict.{Verdict}
use Rattle.rmt_bits.specs.declared.answer.Verdict.TheVariants.{Sent}
use Rattle.rmt_bits.specs.declared.answer.Verdict.TheVariants as verdict
use Rattle.std.proofs.lemmas.Bool.{false≢true}
use Rattle.std.proofs.lemmas.List.Elements.{All-cons, All-nil}
use Rattle.rmt_bits.specs.Packet.{IsPacket}
use Rattle.rmt_ast.specs.declared.entry.Entry.{Entry}
use Rattle.rmt_ast.specs.Changes.{Adds, Change, Removes, at_first, committed}
use Rattle.rmt_ast.specs.EntryLists.{terms_of}
use Rattle.rmt_ast.specs.Events.{Arrives, Commits, Event, answers_of_events, counts_of_events}
use Rattle.rmt_config.specs.declared.cell_write.CellWrite.{CellWrite}
use Rattle.rmt_config.specs.Commits.{RunState, RunsTo, behind_commit, behind_packet}
use Rattle.rmt_config.specs.RunCells.{own_cells}
use Rattle.rmt_config.specs.RunInputs.{Enters, Idle, Input, Turns, Writes, counts_in}
use Rattle.rmt_refine.specs.EventRuns.{AnswersEvents, outcomes_in}
use Rattle.rmt_refine.specs.Fit.{AreFit, CanBeAdded}
use Rattle.rmt_refine.specs.ShortCommits.{touched}
use Rattle.rmt_refine.specs.RunsAs.{told_by_answer, told_by_outcome}
use Rattle.rmt_refine.proofs.CarriedExamples.{carried}
use Rattle.rmt_refine.proofs.EventRunLaws.{events_answered}
use Rattle.rmt_refine.proofs.FormExamples.{are_entries, is_program}
use Rattle.rmt_refine.proofs.MemoryExamples.{formed, within}
use Rattle.rmt_refine.proofs.OutcomeExamples.{packet}
use Rattle.rmt_refine.proofs.TwoStages.{config, entries, entry, its_map, its_names, lists, ports, program, test}

-- each run that the configuration may have answers and counts as the program does
pub all_runs : (events : List Event) (inputs : List Input) → AreFit program (at_first lists) events → RunsTo config its_names lists events inputs → AnswersEvents program lists config events inputs
all_runs events inputs fit runs = events_answered program lists its_map config its_names events inputs is_program are_entries carried formed within refl fit runs

-- ---- commits

-- a cell of the slot of ports is changed
abbrev write : ℕ → ℕ → ℕ → ℕ → ℕ → ℕ → ℕ → ℕ → ℕ → CellWrite
write stage unit cell visible code key mask port number = record {
  stage = stage;
  unit = unit;
  cell = cell;
  visible = visible;
  code = code;
  key = key ∷ [];
  mask = mask ∷ [];
  held = 0 ∷ port ∷ [];
  number = number;
}

-- a packet, some cycles, and the packet again until it has left
abbrev around : ℕ → List Input → List Input
around d cycles = Enters (packet d) ∷ (cycles ++ Enters (packet d) ∷ replicate 15 Idle)

-- a packet, a commit, and the packet again
abbrev events : ℕ → List Change → List Event
events d changes = Arrives (packet d) ∷ Commits changes ∷ Arrives (packet d) ∷ []

-- what both answer to one byte: these two ports
abbrev ports_told : ℕ → ℕ → ℕ → List (Verdict × List ℕ)
ports_told d first second = (Sent first, d ∷ 9 ∷ []) ∷ (Sent second, d ∷ 9 ∷ []) ∷ []

abbrev answers : ℕ → List Change → List (Verdict × List ℕ)
answers d changes = map told_by_answer (answers_of_events program lists (events d changes))

abbrev outcomes : ℕ → List Input → List (Verdict × List ℕ)
outcomes d cycles = map told_by_outcome (outcomes_in config (around d cycles))

abbrev count : ℕ → ℕ → Count
count number packets = record { entry = number; packets = packets; bytes = 2 * packets }

-- the line of number 1 goes: its cell keeps the bit of the first version
abbrev pub goes : List Change
goes = Removes 1 (record { tests = test 0x02 0x0f ∷ []; rank = 20 }) ∷ []

abbrev pub gone : List Input
gone = Writes (write 0 1 0 1 1 0x02 0x0f 2 1) ∷ Turns 0 ∷ []

pub removed : (outcomes 0x32 gone ≡ ports_told 0x32 2 3) × (answers 0x32 goes ≡ ports_told 0x32 2 3)
removed = (refl, refl)

pub removed_counts : (counts_in config (around 0x32 gone) ≡ count 0 0 ∷ count 1 1 ∷ count 2 1 ∷ []) × (counts_of_events program lists (events 0x32 goes) ≡ count 0 0 ∷ count 1 1 ∷ count 2 1 ∷ [])
removed_counts = (refl, refl)

-- a line of priority 25 comes: it takes the row behind those of priority 20
abbrev pub comes : List Change
comes = Adds (entry 0 25 0x15 0xff 5) ∷ []

abbrev pub come : List Input
come = Writes (write 0 1 2 2 1 0x15 0xff 5 3) ∷ Turns 0 ∷ []

pub added : (outcomes 0x15 come ≡ ports_told 0x15 1 5) × (answers 0x15 comes ≡ ports_told 0x15 1 5)
added = (refl, refl)

pub added_counts : (counts_in config (around 0x15 come) ≡ count 0 1 ∷ count 1 0 ∷ count 2 0 ∷ count 3 1 ∷ []) × (counts_of_events program lists (events 0x15 comes) ≡ count 0 1 ∷ count 1 0 ∷ count 2 0 ∷ count 3 1 ∷ [])
added_counts = (refl, refl)

-- a line of priority 10 comes: no row stands before the others, so all rows are laid out anew, once the packet has left
abbrev pub comes_first : List Change
comes_first = Adds (entry 0 10 0x32 0xff 5) ∷ []

abbrev pub moved : List Input
moved =
    replicate 15 Idle
    ++ Writes (write 0 1 0 3 1 0x32 0xff 5 3) ∷ Writes (write 0 1 1 3 1 0x02 0x0f 2 1) ∷ Writes (write 0 1 2 3 1 0x32 0xff 3 2) ∷ Writes (write 0 1 3 3 1 0x10 0xf0 1 0) ∷ Writes (write 1 0 0 0 0 0 0 0 0)
    ∷ Turns 0 ∷ []

pub moved_rows : (outcomes 0x32 moved ≡ ports_told 0x32 2 5) × (answers 0x32 comes_first ≡ ports_told 0x32 2 5)
moved_rows = (refl, refl)

pub moved_counts : (counts_in config (around 0x32 moved) ≡ count 0 0 ∷ count 1 1 ∷ count 2 0 ∷ count 3 1 ∷ []) × (counts_of_events program lists (events 0x32 comes_first) ≡ count 0 0 ∷ count 1 1 ∷ count 2 0 ∷ count 3 1 ∷ [])
moved_counts = (refl, refl)

-- ---- which changes can be made

is_packet : (d : ℕ) → d < 256 → IsPacket (packet d)
is_packet d lt = record {
  port_exists = omega arith;
  is_not_empty = omega arith;
  is_not_long = omega arith;
  has_bytes = All-cons (λ b. b < 256) d (9 ∷ []) lt (All-cons (λ b. b < 256) 9 [] (omega arith) (All-nil (λ b. b < 256)));
}

pub removal_fits : AreFit program (at_first lists) (events 0x32 goes)
removal_fits = (is_packet 0x32 (omega arith), ((refl, tt), (is_packet 0x32 (omega arith), tt)))

pub addition_fits : AreFit program (at_first lists) (events 0x15 comes)
addition_fits =
    let can : CanBeAdded (terms_of program ports) entries (entry 0 25 0x15 0xff 5) = record {
      is_entry = record { table = refl; tests = (record { value_fits = omega arith; mask_fits = omega arith; value_is_masked = refl }, tt); rank = tt; action = (omega arith, tt) };
      is_new = refl;
      has_room = omega arith;
    } in
    (is_packet 0x15 (omega arith), ((can, tt), (is_packet 0x15 (omega arith), tt)))

-- a key that the table doesn't hold can't be removed, also where only the priority differs
pub absent_unfit : AreFit program (at_first lists) (events 0x32 (Removes 1 (record { tests = test 0x02 0x0f ∷ []; rank = 21 }) ∷ [])) → ⊥
absent_unfit h = let changes = h.1 in let inner = changes.0 in false≢true inner.0

-- nor one that an earlier change of the commit removed
pub twice_unfit : AreFit program (at_first lists) (events 0x32 (goes ++ goes)) → ⊥
twice_unfit h = let changes = h.1 in let inner = changes.0 in let second = inner.1 in false≢true second.0

-- ---- how long commits take

abbrev begin : RunState
begin = record { cells = own_cells config; entries = at_first lists; cycle = 0; older_gone = 0; all_gone = 0 }

-- the entries that a commit touches are those that go and come
pub touched_by : (map (λ (e : Entry). e.number) (touched lists (committed (at_first lists) goes).lists) ≡ 1 ∷ []) × (map (λ (e : Entry). e.number) (touched lists (committed (at_first lists) (goes ++ comes)).lists) ≡ 3 ∷ 1 ∷ [])
    × (touched lists (committed (at_first lists) []).lists ≡ [])
touched_by = (refl, refl, refl)

-- behind a packet a removal takes one cycle for its cell and one for the version; where cells move it waits until the packet has left
pub cycles_taken : ((behind_commit (behind_packet config begin) goes false 0 (write 0 1 0 1 1 0x02 0x0f 2 1 ∷ []) (own_cells config)).cycle ≡ 3)
    × ((behind_commit (behind_packet config begin) comes_first true 0 [] (own_cells config)).cycle ≡ 17)
cycles_taken = (refl, refl)

-- ---- what breaks a part

-- a line of priority 30 goes
abbrev goes_last : List Change
goes_last = Removes 1 (record { tests = test 0x10 0xf0 ∷ []; rank = 30 }) ∷ []

abbrev port_of : Verdict → ℕ
port_of verdict.Short = 512
port_of verdict.Reject = 512
port_of verdict.Dropped = 512
port_of (verdict.Sent port) = port

-- the port to which the packet at this place of a list goes
abbrev port_at : ℕ → List (Verdict × List ℕ) → ℕ
port_at i told = port_of (slice_index_or told i (verdict.Dropped, [])).0

-- inputs that answer otherwise than the program does are those of no run of the list
no_run : (d i first second third fourth : ℕ) (changes : List Change) (cycles : List Input) → AreFit program (at_first lists) (events d changes)
    → outcomes d cycles ≡ ports_told d first second → answers d changes ≡ ports_told d third fourth → port_at i (ports_told d first second) ≢ port_at i (ports_told d third fourth)
    → RunsTo config its_names lists (events d changes) (around d cycles) → ⊥
no_run d i first second third fourth changes cycles fit ours theirs differ runs =
    differ (ap (port_at i) (sym ours ∙ (all_runs (events d changes) (around d cycles) fit runs).answers ∙ theirs))

last_fits : AreFit program (at_first lists) (events 0x15 goes_last)
last_fits = (is_packet 0x15 (omega arith), ((refl, tt), (is_packet 0x15 (omega arith), tt)))

-- a changed cell that loses the bit of the current version: the packet in flight misses in the second stage
abbrev losing : List Input
losing = Writes (write 1 0 0 0 0 0 0 0 0) ∷ Turns 0 ∷ []

pub kept_bit : (outcomes 0x15 (Writes (write 1 0 0 1 0 0x10 0xf0 1 0) ∷ Turns 0 ∷ []) ≡ ports_told 0x15 1 0) × (answers 0x15 goes_last ≡ ports_told 0x15 1 0)
kept_bit = (refl, refl)

pub lost_bit : outcomes 0x15 losing ≡ ports_told 0x15 0 0
lost_bit = refl

pub no_lost_bit : RunsTo config its_names lists (events 0x15 goes_last) (around 0x15 losing) → ⊥
no_lost_bit = no_run 0x15 0 0 0 1 0 goes_last losing last_fits lost_bit kept_bit.1 (λ e. omega (arith, e))

-- a number that is used again: one counter for two entries
abbrev using_again : List Input
using_again = Writes (write 0 1 2 2 1 0x15 0xff 5 0) ∷ Turns 0 ∷ []

pub used_again : counts_in config (around 0x15 using_again) ≡ count 0 2 ∷ count 1 0 ∷ count 2 0 ∷ []
used_again = refl

pub no_used_again : RunsTo config its_names lists (events 0x15 comes) (around 0x15 using_again) → ⊥
no_used_again runs =
    let same = sym used_again ∙ (all_runs (events 0x15 comes) (around 0x15 using_again) addition_fits runs).counters ∙ added_counts.1 in
    let three : 3 ≡ 4 = ap (λ (counts : List Count). length counts) same in
    omega (arith, three)

-- a row out of order among those of a version: the line of greater priority number is found first
abbrev behind_last : List Input
behind_last = Writes (write 1 0 1 2 0 0x15 0xff 5 3) ∷ Turns 0 ∷ []

pub out_of_order : outcomes 0x15 behind_last ≡ ports_told 0x15 1 1
out_of_order = refl

pub no_out_of_order : RunsTo config its_names lists (events 0x15 comes) (around 0x15 behind_last) → ⊥
no_out_of_order = no_run 0x15 1 1 1 1 5 comes behind_last addition_fits out_of_order added.1 (λ e. omega (arith, e))
