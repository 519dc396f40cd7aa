-- What a packet and a commit make of the counters.
use Rattle.std.proofs.Common.{◌≡◌, ℕ, ◌++◌, List, [], ◌∷◌, length, map, sym, ap, subst, ◌∙◌, append-nil}
use Rattle.std.specs.List.{flat_map}
use Rattle.std.proofs.lemmas.List.{flat_map_more, map-append}
use Rattle.std.proofs.lemmas.List.Folds.{flat_map-map}
use Rattle.rmt_bits.specs.Packet.{Packet}
use Rattle.rmt_bits.specs.Counts.{Hit, counts, hits_by}
use Rattle.rmt_bits.specs.declared.answer.Count.{Count}
use Rattle.rmt_ast.specs.declared.program.Program.{Program}
use Rattle.rmt_ast.specs.declared.entry.Entry.{Entry}
use Rattle.rmt_ast.specs.Answers.{answer_of, counted_numbers, counts_of, hits_of}
use Rattle.rmt_ast.specs.Events.{Met}
use Rattle.rmt_plain.specs.declared.plain.Plain.{Plain}
use Rattle.rmt_plain.specs.Stands.{HasMet, Stands, counts_met, meets}

-- the hits of packets, each with the entries that it met
abbrev pub met_hits : Program → List Met → List Hit
met_hits p met = flat_map (λ (m : Met). hits_of p m.lists m.packet) met

-- the numbers of the entries of counted tables so far
abbrev pub numbers_so_far : Program → List (List (List Entry)) → List ℕ
numbers_so_far p so_far = flat_map (counted_numbers p p.nodes) so_far

pub counts_more : (p : Program) (so_far : List (List (List Entry))) (lists : List (List Entry)) (met : List Met) (packet : Packet) (hits : List ℕ) (old new : List Count)
    → old ≡ counts_met p so_far met → hits ≡ (answer_of p lists packet).hits
    → ((numbers : List ℕ) (before : List Hit) → old ≡ counts numbers before → new ≡ counts numbers (before ++ hits_by (length packet.frame) hits))
    → new ≡ counts_met p so_far (met ++ meets lists packet ∷ [])
counts_more p so_far lists met packet hits old new were are grown =
    let ns = numbers_so_far p so_far in
    grown ns (met_hits p met) were
    ∙ ap (λ (hs : List ℕ). counts ns (met_hits p met ++ hits_by (length packet.frame) hs)) are
    ∙ ap (counts ns) (flat_map_more (λ (m : Met). hits_of p m.lists m.packet) [] met (meets lists packet))

-- a packet more meets the same entries
pub stands_push : {plain : Plain} (p : Program) (lists : List (List Entry)) (packets : List Packet) (packet : Packet) → HasMet p (lists ∷ []) lists (map (meets lists) packets ++ meets lists packet ∷ []) plain
    → Stands p lists (packets ++ packet ∷ []) plain
stands_push {plain} p lists packets packet stands = subst (λ (met : List Met). HasMet p (lists ∷ []) lists met plain) (sym (map-append (meets lists) packets (packet ∷ []))) stands

-- entries come
pub counts_commit : (p : Program) (so_far : List (List (List Entry))) (next : List (List Entry)) (met : List Met)
    → counts (numbers_so_far p so_far ++ counted_numbers p p.nodes next) (met_hits p met) ≡ counts_met p (so_far ++ next ∷ []) met
counts_commit p so_far next met = ap (λ (ns : List ℕ). counts ns (met_hits p met)) (flat_map_more (counted_numbers p p.nodes) [] so_far next)

-- where no commit has come all packets meet the same entries
pub counts_alone : (p : Program) (lists : List (List Entry)) (packets : List Packet) → counts_met p (lists ∷ []) (map (meets lists) packets) ≡ counts_of p lists packets
counts_alone p lists packets =
    ap (λ (ns : List ℕ). counts ns (met_hits p (map (meets lists) packets))) (append-nil (counted_numbers p p.nodes lists))
    ∙ ap (counts (counted_numbers p p.nodes lists)) (flat_map-map (λ (m : Met). hits_of p m.lists m.packet) (meets lists) packets)
