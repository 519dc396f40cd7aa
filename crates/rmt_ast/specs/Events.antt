-- Packets and commits: what a program answers where its entries change between packets.
use Rattle.std.specs.Prelude.{List, [], ◌∷◌, map}
use Rattle.std.specs.List.{flat_map}
use Rattle.rmt_bits.specs.Packet.{Packet}
use Rattle.rmt_bits.specs.Counts.{counts}
use Rattle.rmt_bits.specs.declared.answer.Count.{Count}
use Rattle.rmt_bits.specs.declared.answer.Answer.{Answer}
use Rattle.rmt_ast.specs.Types.{Program}
use Rattle.rmt_ast.specs.declared.entry.Entry.{Entry}
use Rattle.rmt_ast.specs.Answers.{answer_of, hits_of, counted_numbers}
use Rattle.rmt_ast.specs.Changes.{Change, Installed, at_first, committed}

-- what comes to a run: a packet, or a commit, by which the changes since the last one take effect
pub data Event : Type 0 where
  Arrives : (packet : Packet) → Event
  Commits : (changes : List Change) → Event

-- a packet with the entries that it meets
pub record Met : Type 0 where
  pub lists : List (List Entry)
  pub packet : Packet

-- each packet with the entries that the commits before it leave
abbrev pub met_from : Installed → List Event → List Met
met_from s [] = []
met_from s ((Arrives packet) ∷ events) = record { lists = s.lists; packet = packet } ∷ met_from s events
met_from s ((Commits changes) ∷ events) = met_from (committed s changes) events

-- the entries as each commit leaves them, after those that stood before
abbrev pub lists_from : Installed → List Event → List (List (List Entry))
lists_from s [] = s.lists ∷ []
lists_from s ((Arrives packet) ∷ events) = lists_from s events
lists_from s ((Commits changes) ∷ events) = s.lists ∷ lists_from (committed s changes) events

-- the answers to the packets of a list of packets and commits, each by itself, with the entries that it meets
abbrev pub answers_of_events : Program → List (List Entry) → List Event → List Answer
answers_of_events p lists events = map (λ (m : Met). answer_of p m.lists m.packet) (met_from (at_first lists) events)

-- the counters after it: one for each entry of a counted table that was there at first or that a commit added
abbrev pub counts_of_events : Program → List (List Entry) → List Event → List Count
counts_of_events p lists events =
    counts (flat_map (counted_numbers p p.nodes) (lists_from (at_first lists) events))
    (flat_map (λ (m : Met). hits_of p m.lists m.packet) (met_from (at_first lists) events))
