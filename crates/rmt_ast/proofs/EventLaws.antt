-- A list of packets alone is a list of packets and commits without commits.
use Rattle.std.proofs.Common.{◌≡◌, List, [], ◌∷◌, ◌++◌, map, ap, refl, ◌∙◌}
use Rattle.std.specs.List.{flat_map}
use Rattle.std.proofs.lemmas.List.{append-nil}
use Rattle.rmt_bits.specs.Packet.{Packet}
use Rattle.rmt_bits.specs.Counts.{counts}
use Rattle.rmt_ast.specs.Types.{Program}
use Rattle.rmt_ast.specs.declared.entry.Entry.{Entry}
use Rattle.rmt_ast.specs.Answers.{answer_of, answers_of, counted_numbers, counts_of, hits_of}
use Rattle.rmt_ast.specs.Changes.{Installed, at_first}
use Rattle.rmt_ast.specs.Events.{Arrives, Met, met_from, lists_from, answers_of_events, counts_of_events}

module _ (p : Program) where
  answers_alone : (s : Installed) (packets : List Packet) → map (λ (m : Met). answer_of p m.lists m.packet) (met_from s (map Arrives packets)) ≡ map (answer_of p s.lists) packets
  answers_alone s [] = refl
  answers_alone s (x ∷ xs) = ap (λ answers. answer_of p s.lists x ∷ answers) (answers_alone s xs)

  hits_alone : (s : Installed) (packets : List Packet) → flat_map (λ (m : Met). hits_of p m.lists m.packet) (met_from s (map Arrives packets)) ≡ flat_map (hits_of p s.lists) packets
  hits_alone s [] = refl
  hits_alone s (x ∷ xs) = ap (λ hs. hits_of p s.lists x ++ hs) (hits_alone s xs)

  numbers_alone : (s : Installed) (packets : List Packet) → flat_map (counted_numbers p p.nodes) (lists_from s (map Arrives packets)) ≡ counted_numbers p p.nodes s.lists
  numbers_alone s [] = append-nil (counted_numbers p p.nodes s.lists)
  numbers_alone s (x ∷ xs) = numbers_alone s xs

  -- without a commit the answers are those of the packets with the entries as they stand
  pub answers-without_commits : (lists : List (List Entry)) (packets : List Packet) → answers_of_events p lists (map Arrives packets) ≡ answers_of p lists packets
  answers-without_commits lists packets = answers_alone (at_first lists) packets

  pub counts-without_commits : (lists : List (List Entry)) (packets : List Packet) → counts_of_events p lists (map Arrives packets) ≡ counts_of p lists packets
  counts-without_commits lists packets =
      ap (λ ns. counts ns (flat_map (λ (m : Met). hits_of p m.lists m.packet) (met_from (at_first lists) (map Arrives packets)))) (numbers_alone (at_first lists) packets)
      ∙ ap (counts (counted_numbers p p.nodes lists)) (hits_alone (at_first lists) packets)
