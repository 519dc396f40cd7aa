-- What a plain run stands for.
use Rattle.std.specs.Prelude.{◌≡◌, ◌⊎◌, ℕ, List, [], ◌∷◌, map, All, Contains}
use Rattle.std.specs.List.{flat_map}
use Rattle.rmt_bits.specs.Packet.{Packet}
use Rattle.rmt_bits.specs.Counts.{counts}
use Rattle.rmt_bits.specs.declared.answer.Count.{Count}
use Rattle.rmt_ast.specs.declared.program.Program.{Program}
use Rattle.rmt_ast.specs.declared.entry.Entry.{Entry}
use Rattle.rmt_ast.specs.WellFormed.{IsProgram}
use Rattle.rmt_ast.specs.EntryLists.{AreEntries}
use Rattle.rmt_ast.specs.Answers.{counted_numbers, entry_numbers, hits_of}
use Rattle.rmt_ast.specs.Changes.{Installed, at_first, committed}
use Rattle.rmt_ast.specs.Events.{Arrives, Commits, Event, Met, lists_from, met_from}
use Rattle.rmt_plain.specs.declared.plain.Plain.{Plain}
use Rattle.rmt_plain.specs.Running.{AreLookups}

-- the entries of all tables
abbrev pub entries_in : List (List Entry) → List Entry
entries_in lists = flat_map (λ (es : List Entry). es) lists

-- the numbers of the entries of all tables
abbrev pub numbers_in : List (List Entry) → List ℕ
numbers_in lists = flat_map entry_numbers lists

-- an entry that stands among these, or has a number that no entry so far had
abbrev pub StaysOrIsNew : List (List (List Entry)) → List (List Entry) → Entry → Type 0
StaysOrIsNew so_far lists e = Contains (entries_in lists) e ⊎ (Contains (flat_map numbers_in so_far) e.number → ⊥)

-- entries that follow on those so far, of which these are the last
abbrev pub FollowOn : List (List (List Entry)) → List (List Entry) → List (List Entry) → Type 0
FollowOn so_far lists next = All (StaysOrIsNew so_far lists) (entries_in next)

-- the counters of the entries so far, a list of lists for each commit: one for each entry of a counted table, with the
-- packets that hit it while it stood
abbrev pub counts_met : Program → List (List (List Entry)) → List Met → List Count
counts_met p so_far met =
    counts (flat_map (counted_numbers p p.nodes) so_far) (flat_map (λ (m : Met). hits_of p m.lists m.packet) met)

-- a plain run of this program has met packets, each with the entries that stood then: its tables find those that stand
-- now, which are among the entries so far, and its counters are those of the packets
pub record HasMet (p : Program) (so_far : List (List (List Entry))) (lists : List (List Entry)) (met : List Met) (plain : Plain) : Type 0 where
  pub program_is : plain.program ≡ p
  pub well_formed : IsProgram p
  pub entries : AreEntries p lists
  pub stand_now : Contains so_far lists
  pub stood : All (λ (m : Met). Contains so_far m.lists) met
  pub lookups_find : AreLookups p lists plain.lookups.items
  pub counters_are : plain.counters.counts ≡ counts_met p so_far met

-- a packet that meets these entries
abbrev pub meets : List (List Entry) → Packet → Met
meets lists packet = record { lists = lists; packet = packet }

-- a plain run of this program with these entries stands for the packets so far, all of which met these entries
abbrev pub Stands : Program → List (List Entry) → List Packet → Plain → Type 0
Stands p lists packets plain = HasMet p (lists ∷ []) lists (map (meets lists) packets) plain

-- ---- a run over packets and commits

-- the entries as the commits leave them, and the number that the next entry gets
abbrev pub entries_after : Installed → List Event → Installed
entries_after s [] = s
entries_after s ((Arrives packet) ∷ events) = entries_after s events
entries_after s ((Commits changes) ∷ events) = entries_after (committed s changes) events

-- a plain run of this program that began with these entries stands for the packets and commits so far
abbrev pub HasTaken : Program → List (List Entry) → List Event → Plain → Type 0
HasTaken p lists events plain =
    HasMet p (lists_from (at_first lists) events) (entries_after (at_first lists) events).lists (met_from (at_first lists) events) plain
