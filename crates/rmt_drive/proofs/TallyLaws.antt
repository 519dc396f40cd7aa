-- Runs of which only counts are kept, one cycle after another.
use Rattle.std.proofs.Common.{◌≡◌, ℕ, zero, suc, ◌+◌, ◌-◌, ◌<◌, ◌≤◌, List, [], ◌∷◌, ◌++◌, length, drop, cond, Option, Some, None, Result, Ok, Err, sym, refl, ap, ◌∙◌, subst, arith, length-append}
use Rattle.std.specs.Prelude.{is_some, map, replicate}
use Rattle.std.specs.List.{count_by}
use Rattle.std.proofs.lemmas.List.Sums.{count_by-le-length, sum_by-append, sum_by-cons}
use Rattle.std.specs.Option.{option_to_list}
use Rattle.std.proofs.lemmas.List.{length-map, map-append}
use Rattle.rmt_bits.specs.Packet.{Packet}
use Rattle.rmt_bits.specs.declared.answer.Verdict.{Verdict}
use Rattle.rmt_config.specs.declared.config.Config.{Config}
use Rattle.rmt_config.specs.ChipRun.{Outcome, answer_at, cycles_of, inputs_of, latency_of, outcomes_of}
use Rattle.rmt_chip.specs.PacketRuns.{StandsFor as Stands}
use Rattle.rmt_chip.specs.Stands.{entered_of}
use Rattle.rmt_chip.proofs.PacketRunLaws.{entered-alone, entered-few}
use Rattle.rmt_chip.specs.Leaving.{AnswersIf}
use Rattle.rmt_packets.specs.PacketText.{BadLine, Reading, behind, packet_of, packets_of, reading_of}
use Rattle.rmt_bits.specs.Lines.{numbered_lines}
use Rattle.rmt_packets.proofs.Readings.{behind_packet, behind_fault, behind_end, behind_none}
use Rattle.rmt_refine.specs.RunsAs.{told_by_outcome}
use Rattle.rmt_drive.specs.declared.sampling.run.CountedRun.{CountedRun}
use Rattle.rmt_drive.specs.SampleText.{answers_line, counts_line}
use Rattle.rmt_drive.specs.Tallies.{Counts, StandsFor, left_of, told_of}
use Rattle.rmt_drive.specs.Watching.{emitted}
use Rattle.rmt_drive.proofs.EmitLaws.{emitted-more, few_left, inputs_more, length_somes}

-- ---- one cycle

told_left : (o : Option Outcome) (left : Option Verdict) (bytes : List ℕ) → AnswersIf o left bytes → map told_by_outcome (option_to_list o) ≡ left_of left bytes
told_left None None bytes h = refl
told_left None (Some v) bytes h = absurd h
told_left (Some o) None bytes h = absurd h
told_left (Some o) (Some v) bytes h = rw (h.verdict_is, h.bytes_are) refl

told_more : (c : Config) (inputs : List (Option Packet)) (x : Option Packet) (left : Option Verdict) (bytes : List ℕ) → AnswersIf (answer_at c (inputs ++ x ∷ []) (length inputs)) left bytes
    → told_of c (inputs ++ x ∷ []) ≡ told_of c inputs ++ left_of left bytes
told_more c inputs x left bytes h =
    let o = answer_at c (inputs ++ x ∷ []) (length inputs) in
    ap (map told_by_outcome) (emitted-more c inputs x) ∙ map-append told_by_outcome (emitted c inputs) (option_to_list o)
    ∙ ap (λ l. told_of c inputs ++ l) (told_left o left bytes h)

pub stands_on : (c : Config) (inputs : List (Option Packet)) (x : Option Packet) (old new : CountedRun) (left : Option Verdict) (bytes : List ℕ)
    → Stands c (inputs ++ x ∷ []) new.chip × AnswersIf (answer_at c (inputs ++ x ∷ []) (length inputs)) left bytes → new.cycles ≡ old.cycles + 1
    → ((answers : List (Verdict × List ℕ)) → Counts answers old.tally → Counts (answers ++ left_of left bytes) new.tally) → StandsFor c inputs old → StandsFor c (inputs ++ x ∷ []) new
stands_on c inputs x old new left bytes clocked cycles counts s = record {
  stands = clocked.0;
  clocked = omega (arith, cycles, s.clocked, length-append inputs (x ∷ []));
  counts = subst (λ l. Counts l new.tally) (sym (told_more c inputs x left bytes clocked.1)) (counts (told_of c inputs) s.counts);
}

-- no more packets entered or were answered than there were cycles
pub few_answered : {c : Config} {inputs : List (Option Packet)} {run : CountedRun} → StandsFor c inputs run → run.tally.answered ≤ length inputs
few_answered {c} {inputs} s = omega (arith, s.counts.answered, length-map (emitted c inputs) told_by_outcome, few_left (answer_at c inputs) 0 (length inputs))

pub few_in : {c : Config} {inputs : List (Option Packet)} {run : CountedRun} → StandsFor c inputs run → entered_of run.chip ≤ length inputs
few_in {c} {inputs} {run} s = entered-few c inputs run.chip s.stands

-- an empty cycle enters nothing
many_append : (xs ys : List (Option Packet)) → count_by is_some (xs ++ ys) ≡ count_by is_some xs + count_by is_some ys
many_append xs ys = sum_by-append (λ (o : Option Packet). cond (is_some o) 1 0) xs ys

abbrev nothing : ℕ → List (Option Packet)
nothing a = replicate a None

many_none : (a : ℕ) → count_by is_some (nothing a) ≡ 0
many_none zero = refl
many_none (suc a) = sum_by-cons (λ (o : Option Packet). cond (is_some o) 1 0) None (nothing a) ∙ (let e : 0 + count_by is_some (nothing a) ≡ 0 = omega (arith, many_none a) in e)

pub few_drained : {c : Config} (inputs : List (Option Packet)) (a : ℕ) {run : CountedRun} → StandsFor c (inputs ++ replicate a None) run → entered_of run.chip ≤ length inputs
few_drained {c} inputs a {run} s =
    let few = count_by-le-length is_some inputs in
    omega (arith, s.stands.entered_is, entered-alone (inputs ++ replicate a None), many_append inputs (replicate a None), many_none a, few)

-- ---- one line after another

-- the packets of the lines before a place have entered
pub record Reached (c : Config) (text : List ℕ) (at number : ℕ) (run : CountedRun) : Type 0 where
  pub done : List Packet
  pub stands : StandsFor c (map Some done) run
  pub reads : packets_of text ≡ behind done (reading_of (numbered_lines number (drop at text)))
  pub few : length done ≤ at

pub reached_first : (c : Config) (text : List ℕ) (run : CountedRun) → StandsFor c [] run → Reached c text 0 1 run
reached_first c text run s = record { done = []; stands = s; reads = sym (behind_none (packets_of text)); few = omega arith }

pub reached_in : {c : Config} {text : List ℕ} {at number : ℕ} {run : CountedRun} → Reached c text at number run → entered_of run.chip ≤ at
reached_in r = omega (arith, r.few, few_in r.stands, length_somes r.done)

pub reached_cycles : {c : Config} {text : List ℕ} {at number : ℕ} {run : CountedRun} → Reached c text at number run → run.cycles ≤ at
reached_cycles r = omega (arith, r.few, r.stands.clocked, length_somes r.done)

pub reached_answered : {c : Config} {text : List ℕ} {at number : ℕ} {run : CountedRun} → Reached c text at number run → run.tally.answered ≤ at
reached_answered r = omega (arith, r.few, few_answered r.stands, length_somes r.done)

-- behind a line whose packet entered
pub reached_more : (c : Config) (text : List ℕ) (at number next later : ℕ) (line : List ℕ) (old new : CountedRun) (p : Packet) → (r : Reached c text at number old)
    → numbered_lines number (drop at text) ≡ (later, line) ∷ numbered_lines (later + 1) (drop next text) → packet_of line ≡ Ok p → at < next
    → StandsFor c (map Some r.done ++ Some p ∷ []) new → Reached c text next (later + 1) new
reached_more c text at number next later line old new p r lines packet moves stands = record {
  done = r.done ++ p ∷ [];
  stands = subst (λ l. StandsFor c l new) (inputs_more r.done p) stands;
  reads = r.reads ∙ ap (λ l. behind r.done (reading_of l)) lines ∙ behind_packet r.done later line p (numbered_lines (later + 1) (drop next text)) packet;
  few = omega (arith, r.few, length-append r.done (p ∷ []));
}

-- a line of a text without a bad line says a packet
pub reached_good : (c : Config) (text : List ℕ) (at number next later : ℕ) (line : List ℕ) (run : CountedRun) → (packets_of text).bad ≡ None → (r : Reached c text at number run)
    → numbered_lines number (drop at text) ≡ (later, line) ∷ numbered_lines (later + 1) (drop next text) → (p : Packet) × (packet_of line ≡ Ok p)
reached_good c text at number next later line run good r lines = by (packet_of line) refl
  where
    some_bad : Option BadLine → Type 0
    some_bad None = ⊥
    some_bad (Some b) = Unit {0}

    by : (s : Result Packet ℕ) → packet_of line ≡ s → (p : Packet) × (packet_of line ≡ Ok p)
    by (Ok p) e = (p, e)
    by (Err code) e =
        let bad = r.reads ∙ ap (λ l. behind r.done (reading_of l)) lines ∙ behind_fault r.done later line code (numbered_lines (later + 1) (drop next text)) e in
        absurd (subst some_bad (sym (ap (λ (x : Reading). x.bad) bad) ∙ good) tt)

-- all packets entered
pub reached_end : (c : Config) (text : List ℕ) (at number : ℕ) (run : CountedRun) → (r : Reached c text at number run) → numbered_lines number (drop at text) ≡ []
    → StandsFor c (map Some (packets_of text).packets) run × (length (packets_of text).packets ≤ at)
reached_end c text at number run r lines =
    let all : packets_of text ≡ record { packets = r.done; bad = None } = r.reads ∙ ap (λ l. behind r.done (reading_of l)) lines ∙ behind_end r.done in
    let same : (packets_of text).packets ≡ r.done = ap (λ (x : Reading). x.packets) all in
    (subst (λ ps. StandsFor c (map Some ps) run) (sym same) r.stands, omega (arith, ap length same, r.few))

-- ---- until the last packet has left

-- where nothing entered no cycle is left
pub ran_none : (c : Config) (packets : List Packet) (run : CountedRun) → run.cycles ≡ 0 → StandsFor c (map Some packets) run → StandsFor c (inputs_of c packets) run
ran_none c [] run none s = s
ran_none c (p ∷ packets) run none s = absurd (omega (arith, none, s.clocked))

-- else the last packet leaves at the latency
pub ran_all : (c : Config) (packets : List Packet) (old new : CountedRun) → 0 < old.cycles → StandsFor c (map Some packets) old
    → StandsFor c (map Some packets ++ replicate (latency_of c.stages) None) new → StandsFor c (inputs_of c packets) new
ran_all c [] old new some before s = absurd (omega (arith, some, before.clocked))
ran_all c (p ∷ packets) old new some before s = s

-- ---- the line

-- the line of what was counted is that of the answers
pub tallied_line : (n stages : ℕ) (c : Config) (packets : List Packet) (run : CountedRun) → stages ≡ length c.stages → StandsFor c (inputs_of c packets) run
    → counts_line n run.tally.answered run.tally.sent (run.tally.answered - run.tally.sent) run.tally.bytes stages run.cycles
    ≡ answers_line n (map told_by_outcome (outcomes_of c packets)) (length c.stages) (cycles_of c packets)
tallied_line n stages c packets run stages_are s = rw (s.counts.answered, s.counts.sent, s.counts.bytes, s.clocked, stages_are) refl
