-- A cycle of the chip against the chip run.
use Rattle.std.proofs.Common.{◌≡◌, ℕ, ◌+◌, ◌-◌, ◌<◌, ◌≤◌, Bool, true, false, cond, eqb, List, length, drop, Option, Some, None, refl, sym, ap, ◌∙◌, subst, ⊎_elim, arith}
use Rattle.std.specs.Prelude.{map, slice_index, slice_get, option_map, option_and_then}
use Rattle.std.proofs.Math.Path.{fun_ext}
use Rattle.std.proofs.lemmas.Bool.{cases_lt, lt-ltb, le-ltb}
use Rattle.rmt_bits.specs.Packet.{Packet}
use Rattle.rmt_bits.specs.declared.answer.Verdict.{Verdict}
use Rattle.rmt_chip.specs.Types.{Config}
use Rattle.rmt_config.specs.Life.{Look, Life, Words, Counted, lane_of, life_of}
use Rattle.rmt_config.specs.declared.tails.TailAt.{TailAt}
use Rattle.rmt_config.specs.Parser.{Parse, Short, Reject, Accept, parse, put}
use Rattle.rmt_config.specs.ChipRun.{Outcome, tail_bytes, finished, outcome_from, outcome_of, latency_of}
use Rattle.rmt_config.specs.RunInputs.{Input, answer_in, look_from, outcome_from_cycle, packet_of}
use Rattle.rmt_chip.specs.declared.packet_slot.PacketSlot.{PacketSlot}
use Rattle.rmt_ptcam.specs.declared.parse.Parsed.{Parsed}
use Rattle.rmt_chip.specs.Held.{Begins, CarriedFor, Entered, HoldsIf, EntersIf, FrameIs}
use Rattle.rmt_chip.specs.Inputs.{entered_in, entered_at, entering}
use Rattle.rmt_chip.specs.Leaving.{Answers, AnswersIf, leaving, leaving_if, still}
use Rattle.rmt_chip.proofs.LifeLaws.{Rise}
use Rattle.rmt_chip.proofs.EnterLaws.{IsOf, holds_entered}

pub holds_enters : (c : Config) → Rise c.stages → (packet : Option Packet) (number version : ℕ) (e : Option Entered) (place : PacketSlot) → IsOf packet number version e → EntersIf c packet number version place → HoldsIf c e 0 0 0 0 place
holds_enters c rise None number version None place is h = h
holds_enters c rise None number version (Some e) place is h = absurd is
holds_enters c rise (Some packet) number version None place is h = absurd is
holds_enters c rise (Some packet) number version (Some e) place is h = holds_entered c rise e place (record {
  taken = h.taken;
  number_is = h.number_is ∙ sym is.1;
  version_is = h.version_is ∙ sym is.2;
  size = h.size ∙ ap (λ (p : Packet). length p.frame) (sym is.0);
  outcomes = h.outcomes;
  begins = subst (λ (p : Packet). Begins c p place (parse c.parser p.frame)) (sym is.0) h.begins;
})

-- the verdict and the bytes of an outcome, without what it counts
pub record SameAnswer (a b : Outcome) : Type 0 where
  pub verdicts : a.verdict ≡ b.verdict
  pub bytes : a.bytes ≡ b.bytes

one_of : (t : Bool) (v w : Verdict) (x y : List ℕ) (m n : List Counted) → SameAnswer (cond t (record { verdict = v; bytes = x; counted = m }) (record { verdict = w; bytes = y; counted = m })) (cond t (record { verdict = v; bytes = x; counted = n }) (record { verdict = w; bytes = y; counted = n }))
one_of true v w x y m n = record { verdicts = refl; bytes = refl }
one_of false v w x y m n = record { verdicts = refl; bytes = refl }

finished_same : (c : Config) (tails : List (List ℕ)) (payload : List ℕ) (words : Words) (life life' : Life) → life.word (latency_of c.stages) ≡ words → life'.word (latency_of c.stages) ≡ words → SameAnswer (finished c tails payload life) (finished c tails payload life')
finished_same c tails payload words life life' e e' = rw (e, e') (one_of (eqb (lane_of words c.drop) 1) _ _ _ _ life.counted life'.counted)

leaving_for : (look : Look) (c : Config) (packet : Packet) (l : ℕ) (place : PacketSlot) (frame : List ℕ) → frame ≡ packet.frame → (p : Parse)
    → CarriedFor look c packet (latency_of c.stages) (latency_of c.stages) (latency_of c.stages) l place p → SameAnswer (leaving c place frame place.parsed) (outcome_from look c packet p)
leaving_for look c packet l place frame f Short held = subst (λ (x : Parsed). SameAnswer (leaving c place frame x) (outcome_from look c packet Short)) (sym held.0) (record { verdicts = refl; bytes = refl })
leaving_for look c packet l place frame f Reject held = subst (λ (x : Parsed). SameAnswer (leaving c place frame x) (outcome_from look c packet Reject)) (sym held.0) (record { verdicts = refl; bytes = refl })
leaving_for look c packet l place frame f (Accept r) held =
    let v0 = put r.vector c.in_port packet.port in
    let words : (λ (w : ℕ). slice_index place.vector w) ≡ (life_of look c.stages v0).word (latency_of c.stages) = fun_ext held.2.words in
    let same : SameAnswer (finished c (map (tail_bytes packet.frame) r.tails) (drop r.at packet.frame) (still place.vector)) (outcome_from look c packet (Accept r)) =
    finished_same c (map (tail_bytes packet.frame) r.tails) (drop r.at packet.frame) ((life_of look c.stages v0).word (latency_of c.stages)) (still place.vector) (life_of look c.stages v0) words refl in
    subst (λ (x : Parsed). SameAnswer (leaving c place frame x) (outcome_from look c packet (Accept r))) (sym held.0)
    (subst (λ (fr : List ℕ). SameAnswer (finished c (map (tail_bytes fr) place.tails) (drop r.at fr) (still place.vector)) (outcome_from look c packet (Accept r))) (sym f)
    (subst (λ (ts : List TailAt). SameAnswer (finished c (map (tail_bytes packet.frame) ts) (drop r.at packet.frame) (still place.vector)) (outcome_from look c packet (Accept r))) (sym held.1) same))

same_answers : (a b : Outcome) (answer : Verdict) (bytes : List ℕ) → SameAnswer a b → Answers a answer bytes → Answers b answer bytes
same_answers a b answer bytes s h = record { verdict_is = h.verdict_is ∙ s.verdicts; bytes_are = h.bytes_are ∙ s.bytes }

-- what leaves a packet slot is the outcome of the packet that it holds
pub leaves_right : (c : Config) (l : ℕ) (item : Option Entered) (place : PacketSlot) (frame : List ℕ) (answer : Option Verdict) (bytes : List ℕ)
    → HoldsIf c item (latency_of c.stages) (latency_of c.stages) (latency_of c.stages) l place → FrameIs item frame → AnswersIf (leaving_if c place frame place.taken) answer bytes
    → AnswersIf (option_map (λ (e : Entered). outcome_of e.look c e.packet) item) answer bytes
leaves_right c l None place frame answer bytes held is left = subst (λ (b : Bool). AnswersIf (leaving_if c place frame b) answer bytes) held.taken left
leaves_right c l (Some e) place frame None bytes held is left = absurd (let h : AnswersIf (leaving_if c place frame true) None bytes = subst (λ (b : Bool). AnswersIf (leaving_if c place frame b) None bytes) held.taken left in h)
leaves_right c l (Some e) place frame (Some answer) bytes held is left =
    let h : AnswersIf (leaving_if c place frame true) (Some answer) bytes = subst (λ (b : Bool). AnswersIf (leaving_if c place frame b) (Some answer) bytes) held.taken left in
    same_answers (leaving c place frame place.parsed) (outcome_of e.look c e.packet) answer bytes (leaving_for e.look c e.packet l place frame is (parse c.parser e.packet.frame) held.carried) h

-- the answer of the last cycle of a run, by what has the age at which it leaves
pub answer_entered : (c : Config) (run : List Input) (n : ℕ) → answer_in c run n ≡ option_map (λ (e : Entered). outcome_of e.look c e.packet) (entered_at c run (n + 1) (latency_of c.stages))
answer_entered c run n =
    let l = latency_of c.stages in
    ⊎_elim
    (λ (h : n < l).
    ap (λ (b : Bool). cond b None (outcome_from_cycle c run (n - l))) (lt-ltb n l h)
    ∙ sym (ap (λ (b : Bool). option_map (λ (e : Entered). outcome_of e.look c e.packet) (cond b (entered_in c run (n + 1 - 1 - l)) None)) (le-ltb l (n + 1) (omega arith))))
    (λ (h : l ≤ n).
    let back : n + 1 - 1 - l ≡ n - l = omega arith in
    ap (λ (b : Bool). cond b None (outcome_from_cycle c run (n - l))) (le-ltb n l h)
    ∙ sym (by (option_and_then packet_of (slice_get run (n - l))))
    ∙ sym (ap (λ (b : Bool). option_map (λ (e : Entered). outcome_of e.look c e.packet) (cond b (entered_in c run (n + 1 - 1 - l)) None)) (lt-ltb l (n + 1) (omega arith))
    ∙ ap (λ m. option_map (λ (e : Entered). outcome_of e.look c e.packet) (entered_in c run m)) back))
    (cases_lt n l)
  where
    by : (o : Option Packet) → option_map (λ (e : Entered). outcome_of e.look c e.packet) (option_map (entering c run (n - latency_of c.stages)) o) ≡ option_map (outcome_of (look_from c run (n - latency_of c.stages)) c) o
    by None = refl
    by (Some p) = refl
