-- What the chip counts in a whole run: each hit of each packet, since every hit is counted before its packet leaves.
use Rattle.std.proofs.Common.{◌≡◌, ℕ, zero, suc, ◌+◌, ◌<◌, ◌≤◌, List, [], ◌∷◌, ◌++◌, length, Option, Some, None, refl, ap, subst, arith}
use Rattle.std.specs.Prelude.{map, replicate, fold, All, slice_index}
use Rattle.std.specs.List.{flat_map}
use Rattle.std.specs.List.Sorted.{IsStrictlyIncreasing}
use Rattle.std.proofs.lemmas.List.{length-append, length-map, length-replicate}
use Rattle.std.proofs.lemmas.List.Elements.{All-nil, All-cons, All-head, All-tail, All-append, All-weaker}
use Rattle.std.proofs.lemmas.Bool.{lt-ltb}
use Rattle.rmt_bits.specs.Packet.{Packet}
use Rattle.rmt_bits.specs.Counts.{Hit, counts}
use Rattle.rmt_config.specs.Types.{Config, Stage, Unit, SlotUnit}
use Rattle.rmt_config.specs.declared.config.Unit.TheVariants.{Gate, Slot}
use Rattle.rmt_config.specs.Cells.{Found}
use Rattle.rmt_config.specs.Instructions.{first_code}
use Rattle.rmt_config.specs.Parser.{Parse, Short, Reject, Accept, parse, put}
use Rattle.rmt_config.specs.Life.{Look, Words, Life, Acts, Counted, slot_acts, looked_up, unit_acts, through, through_from, life_of, runs}
use Rattle.rmt_config.specs.ChipRun.{Outcome, outcome_from, outcome_of, own_look, latency_of, inputs_of, hits_before, hits_in, counted_numbers, chip_counts_of}
use Rattle.rmt_bits.proofs.AllLaws.{All-reverse}
use Rattle.rmt_bits.proofs.TestLaws.{either}

-- all counts are made below an age
abbrev pub AreBelow : ℕ → List Counted → Type 0
AreBelow age counted = All (λ (x : Counted). x.age < age) counted

module _ (age : ℕ) (stage : Stage) (early : stage.start + 8 < age) where
  slot_below : (first : ℕ) (slot : SlotUnit) (o : Option Found) (a : Acts) → AreBelow age a.counted → AreBelow age (slot_acts stage first slot o a).counted
  slot_below first slot (Some f) a h = either (AreBelow age) slot.counted _ a.counted (All-cons (λ (x : Counted). x.age < age) _ a.counted early h) h
  slot_below first slot None a h = either (λ (b : Acts). AreBelow age b.counted) slot.last _ a h h

  unit_below : (look : Look) (k : ℕ) (words : Words) (a : Acts) (u : Unit) → AreBelow age a.counted → AreBelow age (unit_acts look k stage words a u).counted
  unit_below look k words a (Gate g) h = either (λ (b : Acts). AreBelow age b.counted) (runs g.node g.guard a.outcomes) _ a h h
  unit_below look k words a (Slot slot) h =
      either (λ (b : Acts). AreBelow age b.counted) (runs slot.node slot.guard a.outcomes) _ a
      (slot_below (first_code stage a.place) slot (looked_up look k a.place words slot) a h) h

  units_below : (look : Look) (k : ℕ) (words : Words) (units : List Unit) (a : Acts) → AreBelow age a.counted → AreBelow age (fold (unit_acts look k stage words) a units).counted
  units_below look k words [] a h = h
  units_below look k words (u ∷ us) a h = units_below look k words us (unit_acts look k stage words a u) (unit_below look k words a u h)

  through_below : (look : Look) (k : ℕ) (life : Life) → AreBelow age life.counted → AreBelow age (through look k stage life).counted
  through_below look k life h =
      All-append (λ (x : Counted). x.age < age) life.counted _ h
      (All-reverse (λ (x : Counted). x.age < age) _ (units_below look k (life.word stage.start) stage.units _ (All-nil _)))

-- stages that count below an age
abbrev pub CountBelow : ℕ → List Stage → Type 0
CountBelow age stages = All (λ (s : Stage). s.start + 8 < age) stages

pub life_below : (age : ℕ) (look : Look) (k : ℕ) (stages : List Stage) (life : Life) → CountBelow age stages → AreBelow age life.counted → AreBelow age (through_from look k stages life).counted
life_below age look k [] life early h = h
life_below age look k (stage ∷ stages) life early h =
    life_below age look (k + 1) stages (through look k stage life) (All-tail (λ (s : Stage). s.start + 8 < age) stage stages early)
    (through_below age stage (All-head (λ (s : Stage). s.start + 8 < age) stage stages early) look k life h)

pub outcome_below : (age : ℕ) (look : Look) (c : Config) (packet : Packet) (p : Parse) → CountBelow age c.stages → AreBelow age (outcome_from look c packet p).counted
outcome_below age look c packet Short early = All-nil _
outcome_below age look c packet Reject early = All-nil _
outcome_below age look c packet (Accept r) early =
    let below : AreBelow age (life_of look c.stages (put r.vector c.in_port packet.port)).counted = life_below age look 0 c.stages _ early (All-nil _) in
    either (λ (o : Outcome). AreBelow age o.counted) _ _ _ below below

-- the hit that a count of a packet makes
abbrev pub hit_from : Packet → Counted → Hit
hit_from packet counted = record { number = counted.number; bytes = length packet.frame }

-- all hits of a packet that the chip counts
abbrev pub hits_from : Config → Packet → List Hit
hits_from c packet = map (hit_from packet) (outcome_of (own_look c) c packet).counted

pub hits_before-all : (age : ℕ) (packet : Packet) (counted : List Counted) → AreBelow age counted → hits_before age packet counted ≡ map (hit_from packet) counted
hits_before-all age packet [] h = refl
hits_before-all age packet (x ∷ xs) h =
    rw (lt-ltb x.age age (All-head (λ (y : Counted). y.age < age) x xs h))
    (ap (λ ys. hit_from packet x ∷ ys) (hits_before-all age packet xs (All-tail (λ (y : Counted). y.age < age) x xs h)))

hits_in-nothing : (c : Config) (n : ℕ) → hits_in c (replicate n None) ≡ []
hits_in-nothing c zero = refl
hits_in-nothing c (suc n) = hits_in-nothing c n

hits_in-all : (c : Config) (n : ℕ) → CountBelow (n + 1) c.stages → (packets : List Packet) → hits_in c (map Some packets ++ replicate n None) ≡ flat_map (hits_from c) packets
hits_in-all c n early [] = hits_in-nothing c n
hits_in-all c n early (packet ∷ packets) =
    let rest : List (Option Packet) = map Some packets ++ replicate n None in
    let cycles : length rest ≡ length packets + n = simp (length-append, length-map, length-replicate) refl in
    let below : AreBelow (length rest + 1) (outcome_of (own_look c) c packet).counted =
    All-weaker (λ (x : Counted). x.age < n + 1) (λ (x : Counted). x.age < length rest + 1) (λ x h. omega (arith, h, cycles)) _
    (outcome_below (n + 1) (own_look c) c packet (parse c.parser packet.frame) early) in
    rw (hits_before-all (length rest + 1) packet _ below, hits_in-all c n early packets) refl

-- no stage starts after the last one
abbrev pub EndBefore : ℕ → List Stage → Type 0
EndBefore latency stages = All (λ (s : Stage). s.start + 12 ≤ latency) stages

pub EndBefore-rising : (stages : List Stage) → IsStrictlyIncreasing (map (λ (s : Stage). s.start) stages) → EndBefore (latency_of stages) stages
EndBefore-rising [] rising = All-nil _
EndBefore-rising (s ∷ []) rising = All-cons (λ (t : Stage). t.start + 12 ≤ s.start + 12) s [] (omega arith) (All-nil _)
EndBefore-rising (s ∷ t ∷ stages) rising =
    let starts : List ℕ = map (λ (u : Stage). u.start) (t ∷ stages) in
    let rest : IsStrictlyIncreasing starts =
    λ k h. let next : suc k + 1 ≡ suc (k + 1) = omega arith in
    subst (λ m. slice_index starts k < slice_index (s.start ∷ starts) m) next (rising (suc k) (omega (arith, h))) in
    let later : EndBefore (latency_of (t ∷ stages)) (t ∷ stages) = EndBefore-rising (t ∷ stages) rest in
    let first : t.start + 12 ≤ latency_of (t ∷ stages) = All-head (λ (u : Stage). u.start + 12 ≤ latency_of (t ∷ stages)) t stages later in
    let below : s.start < t.start = rising 0 (omega arith) in
    All-cons (λ (u : Stage). u.start + 12 ≤ latency_of (t ∷ stages)) s (t ∷ stages) (omega (arith, first, below)) later

-- after a list of packets the counters are those of all their hits
pub chip_counts_of-all : (c : Config) (packets : List Packet) → EndBefore (latency_of c.stages) c.stages → chip_counts_of c (inputs_of c packets) ≡ counts (counted_numbers c) (flat_map (hits_from c) packets)
chip_counts_of-all c [] ends = refl
chip_counts_of-all c (packet ∷ packets) ends =
    ap (counts (counted_numbers c))
    (hits_in-all c (latency_of c.stages) (All-weaker (λ (s : Stage). s.start + 12 ≤ latency_of c.stages) (λ (s : Stage). s.start + 8 < latency_of c.stages + 1) (λ s h. omega (arith, h)) c.stages ends) (packet ∷ packets))
