-- A run of the chip, one cycle later.
use Rattle.std.proofs.Common.{◌≡◌, ◌≢◌, ℕ, ◌+◌, ◌-◌, ◌<◌, ◌≤◌, Bool, true, false, cond, eqb, List, [], ◌∷◌, ◌++◌, length, max, Option, Some, None, sym, refl, ap, ◌∙◌, subst, arith, append-nil, length-append}
use Rattle.std.specs.Prelude.{is_some}
use Rattle.std.specs.Option.{option_to_list}
use Rattle.std.proofs.lemmas.Bool.{le-ltb}
use Rattle.std.proofs.lemmas.List.Sums.{sum_by_push}
use Rattle.rmt_bits.specs.declared.answer.Verdict.{Verdict}
use Rattle.rmt_io.specs.Outside.{SinkState}
use Rattle.rmt_ast.specs.Events.{Event}
use Rattle.rmt_config.specs.declared.config.Config.{Config}
use Rattle.rmt_config.specs.Commits.{RunState}
use Rattle.rmt_config.specs.ChipRun.{Outcome, latency_of}
use Rattle.rmt_config.specs.RunInputs.{Idle, Input, answer_in, flight_in}
use Rattle.rmt_chip.specs.declared.chip.Chip.{Chip}
use Rattle.rmt_chip.specs.declared.frame.Frame.{Frame}
use Rattle.rmt_chip.specs.Inputs.{MayEnter, packets_of}
use Rattle.rmt_chip.specs.Leaving.{AnswersIf}
use Rattle.rmt_chip.specs.Stands.{Stands, entered_of}
use Rattle.rmt_chip.proofs.EnteredLaws.{byte_of}
use Rattle.rmt_refine.specs.EventRuns.{outcomes_in}
use Rattle.rmt_drive.specs.declared.running.state.Run.{Run}
use Rattle.rmt_drive.specs.declared.watch.Watch.{Watch}
use Rattle.rmt_drive.specs.declared.watch.Watch.TheVariants as watch
use Rattle.rmt_drive.specs.ChipText.{flying_below, lines_of}
use Rattle.rmt_drive.specs.ChipCycles.{Came, Goes, line_if}
use Rattle.rmt_drive.specs.SimText.{answer_lines}
use Rattle.rmt_runs.specs.Waiting.{Written}
use Rattle.rmt_drive.proofs.AnswerLaws.{given_more}
use Rattle.rmt_drive.proofs.ChipTextLaws.{added, lines_more, starts}
use Rattle.rmt_drive.proofs.FlightLaws.{enters, flight_more, left_few}
use Rattle.rmt_runs.proofs.WaitingLaws.{written_more, written_none, written_on}
use mir.Val.{bool_byte}

line_left : (n : ℕ) (o : Option Outcome) (left : Option Verdict) (bytes : List ℕ) → AnswersIf o left bytes → line_if n left bytes ≡ answer_lines n (option_to_list o)
line_left n None None bytes h = refl
line_left n None (Some v) bytes h = absurd h
line_left n (Some o) None bytes h = absurd h
line_left n (Some o) (Some v) bytes h = rw (h.verdict_is, h.bytes_are) (sym (append-nil _))

one_left : (o : Option Outcome) (left : Option Verdict) (bytes : List ℕ) → AnswersIf o left bytes → cond (is_some left) 1 0 ≡ length (option_to_list o)
one_left None None bytes h = refl
one_left None (Some v) bytes h = absurd h
one_left (Some o) None bytes h = absurd h
one_left (Some o) (Some v) bytes h = refl

-- what a cycle gives of the chip and of the counts
pub record Clocked (c : Config) (made : List Input) (x : Input) (old new : Run) (chip : Chip) (left : Option Verdict) (bytes : List ℕ) : Type 0 where
  pub stands : Stands c (made ++ x ∷ []) chip
  pub answers : AnswersIf (answer_in c (made ++ x ∷ []) (length made)) left bytes
  pub watches : new.watch ≡ old.watch
  pub cycles : new.cycles ≡ old.cycles + 1
  pub answered : new.answered ≡ old.answered + cond (is_some left) 1 0
  pub flies : new.flight ≡ max old.flight (entered_of chip - old.answered)

-- by the numbers that a run counts in a cycle
pub clocked_so : (c : Config) (made : List Input) (x : Input) (old new : Run) (chip : Chip) (left : Option Verdict) (bytes : List ℕ) (some : Bool) (n entered behind m : ℕ)
    → Stands c (made ++ x ∷ []) chip → AnswersIf (answer_in c (made ++ x ∷ []) (length made)) left bytes
    → new.watch ≡ old.watch → new.cycles ≡ old.cycles + 1 → new.answered ≡ old.answered + n → new.flight ≡ m
    → some ≡ is_some left → n ≡ bool_byte some → entered ≡ entered_of chip → behind ≡ entered - old.answered → m ≡ max old.flight behind → Clocked c made x old new chip left bytes
clocked_so c made x old new chip left bytes some n entered behind m stands answers watches cycles answered flight is one all less most = record {
  stands = stands;
  answers = answers;
  watches = watches;
  cycles = cycles;
  answered = answered ∙ ap (λ k. old.answered + k) (one ∙ ap bool_byte is ∙ byte_of (is_some left));
  flies = flight ∙ most ∙ ap (max old.flight) (less ∙ ap (λ k. k - old.answered) all);
}

-- one cycle, with the lines that it adds
goes_on : (w : Watch) (c : Config) (made : List Input) (x : Input) (old new : Run) (first chip : Chip) (before now : SinkState) (left : Option Verdict) (bytes : List ℕ)
    → Clocked c made x old new chip left bytes → new.waiting.lines.items ≡ old.waiting.lines.items ++ added w c made x
    → Goes w c made old first before now → Goes w c (made ++ x ∷ []) new chip before now
goes_on w c made x old new first chip before now left bytes clocked waits g =
    let o = answer_in c (made ++ x ∷ []) (length made) in
    let begin = starts c made first g.stands in
    let more = given_more c begin made x in
    let outs = outcomes_in c made in
    record {
      watches = clocked.watches ∙ g.watches;
      stands = clocked.stands;
      clocked = clocked.cycles ∙ ap (λ n. n + 1) g.clocked ∙ sym (length-append made (x ∷ []));
      numbered = clocked.answered ∙ ap (λ n. n + cond (is_some left) 1 0) g.numbered ∙ ap (λ n. length outs + n) (one_left o left bytes clocked.answers)
          ∙ sym (length-append outs (option_to_list o)) ∙ ap length (sym more);
      flies = clocked.flies ∙ ap (λ n. max n (entered_of chip - old.answered)) g.flies ∙ ap (λ n. max (flight_in c made) (n - old.answered)) clocked.stands.entered_is
          ∙ ap (λ n. max (flight_in c made) (packets_of (made ++ x ∷ []) - n)) g.numbered ∙ sym (flight_more c made x (length outs) refl);
      written = subst (λ l. Written l new.waiting.lines.items before now) (sym (lines_more c begin w made x)) (rw waits (written_more g.written (added w c made x)));
    }

-- where the answers are watched
pub goes_answer : (w : Watch) (c : Config) (made : List Input) (x : Input) (old new : Run) (first chip : Chip) (before now : SinkState) (left : Option Verdict) (bytes seen : List ℕ)
    → old.watch ≡ watch.Answers → seen ≡ bytes → Clocked c made x old new chip left bytes → new.waiting.lines.items ≡ old.waiting.lines.items ++ line_if old.answered left seen
    → Goes w c made old first before now → Goes w c (made ++ x ∷ []) new chip before now
goes_answer w c made x old new first chip before now left bytes seen is same clocked waits g =
    let o = answer_in c (made ++ x ∷ []) (length made) in
    let number : old.answered ≡ 0 + length (outcomes_in c made) = omega (arith, g.numbered) in
    let line : line_if old.answered left seen ≡ added w c made x =
    ap (λ b. line_if old.answered left b) same ∙ line_left old.answered o left bytes clocked.answers ∙ ap (λ n. answer_lines n (option_to_list o)) number
    ∙ ap (λ v. added v c made x) (sym is ∙ g.watches) in
    goes_on w c made x old new first chip before now left bytes clocked (waits ∙ ap (λ l. old.waiting.lines.items ++ l) line) g

-- where the vectors of the cycle are watched
pub goes_vectors : (w : Watch) (c : Config) (made : List Input) (x : Input) (old new : Run) (first chip : Chip) (before now : SinkState) (left : Option Verdict) (bytes : List ℕ) (cycle : ℕ)
    → old.watch ≡ watch.Vectors cycle → new.cycles ≡ cycle + 1 → Clocked c made x old new chip left bytes
    → ((all : List Input) → Stands c all chip → new.waiting.lines.items ≡ old.waiting.lines.items ++ flying_below c all (latency_of c.stages + 1))
    → Goes w c made old first before now → Goes w c (made ++ x ∷ []) new chip before now
goes_vectors w c made x old new first chip before now left bytes cycle is reached clocked waits g =
    let long : length made + 1 ≡ cycle + 1 = sym (ap (λ n. n + 1) g.clocked) ∙ sym clocked.cycles ∙ reached in
    let there = waits (made ++ x ∷ []) clocked.stands in
    let line : flying_below c (made ++ x ∷ []) (latency_of c.stages + 1) ≡ added w c made x =
    sym (ap (λ b. cond b (flying_below c (made ++ x ∷ []) (latency_of c.stages + 1)) []) (is_eq (length made + 1) (cycle + 1) long)) ∙ ap (λ v. added v c made x) (sym is ∙ g.watches) in
    goes_on w c made x old new first chip before now left bytes clocked (there ∙ ap (λ l. old.waiting.lines.items ++ l) line) g
  where
    is_eq : (a b : ℕ) → a ≡ b → eqb a b ≡ true
    is_eq a b h = grind (arith, h)

-- where the vectors of another cycle are
pub goes_past : (w : Watch) (c : Config) (made : List Input) (x : Input) (old new : Run) (first chip : Chip) (before now : SinkState) (left : Option Verdict) (bytes : List ℕ) (cycle : ℕ)
    → old.watch ≡ watch.Vectors cycle → new.cycles ≢ cycle + 1 → Clocked c made x old new chip left bytes → new.waiting.lines.items ≡ old.waiting.lines.items
    → Goes w c made old first before now → Goes w c (made ++ x ∷ []) new chip before now
goes_past w c made x old new first chip before now left bytes cycle is other clocked waits g =
    let far : length made + 1 ≢ cycle + 1 = λ e. other (clocked.cycles ∙ ap (λ n. n + 1) g.clocked ∙ e) in
    let line : [] ≡ added w c made x =
    sym (ap (λ b. cond b (flying_below c (made ++ x ∷ []) (latency_of c.stages + 1)) []) (not_eq (length made + 1) (cycle + 1) far)) ∙ ap (λ v. added v c made x) (sym is ∙ g.watches) in
    goes_on w c made x old new first chip before now left bytes clocked (waits ∙ sym (append-nil old.waiting.lines.items) ∙ ap (λ l. old.waiting.lines.items ++ l) line) g
  where
    not_eq : (a b : ℕ) → (a ≡ b → ⊥) → eqb a b ≡ false
    not_eq a b h = grind (arith, h)

-- some of what waited was written
pub goes_written : (w : Watch) (c : Config) (made : List Input) (old new : Run) (chip : Chip) (before now later : SinkState)
    → new.watch ≡ old.watch → new.cycles ≡ old.cycles → new.answered ≡ old.answered → new.flight ≡ old.flight → Written old.waiting.lines.items new.waiting.lines.items now later
    → Goes w c made old chip before now → Goes w c made new chip before later
goes_written w c made old new chip before now later watches cycles answered flight more g = record {
  watches = watches ∙ g.watches;
  stands = g.stands;
  clocked = cycles ∙ g.clocked;
  numbered = answered ∙ g.numbered;
  flies = flight ∙ g.flies;
  written = written_on g.written more;
}

-- no more answers than packets
pub few_numbered : {w : Watch} {c : Config} {made : List Input} {run : Run} {chip : Chip} {before now : SinkState} → Goes w c made run chip before now → run.answered ≤ entered_of chip
few_numbered {w} {c} {made} {run} {chip} g =
    let few : length (outcomes_in c made) ≤ packets_of (made ++ Idle ∷ []) = left_few c made Idle (length (outcomes_in c made)) refl in
    let push : packets_of (made ++ Idle ∷ []) ≡ packets_of made + 0 = sum_by_push (λ (i : Input). cond (enters i) 1 0) made Idle in
    let is : entered_of chip ≡ packets_of made = g.stands.entered_is in
    omega (arith, g.numbered, few, push, is)

-- before the first cycle
pub goes_first : (w : Watch) (c : Config) (run : Run) (chip : Chip) → run.watch ≡ w → Stands c [] chip → run.cycles ≡ 0 → run.answered ≡ 0 → run.flight ≡ 0 → run.waiting.lines.items ≡ [] → (before : SinkState) → Goes w c [] run chip before before
goes_first w c run chip watches stands cycles answered flight waits before = record {
  watches = watches;
  stands = stands;
  clocked = cycles;
  numbered = answered;
  flies = flight;
  written = rw (lines_first w c, waits) (written_none before);
}
  where
    lines_first : (w : Watch) (c : Config) → lines_of w c [] ≡ []
    lines_first watch.Answers c = refl
    lines_first (watch.Vectors cycle) c = rw (le-ltb cycle 0 (omega arith)) refl

-- a frame that may enter
pub may_enter : (f : Frame) → f.port < 512 → 1 ≤ length f.bytes.now → length f.bytes.now ≤ 9216 → MayEnter (Some f)
may_enter f port some short = λ x e. let same : f ≡ x = cc in subst (λ (y : Frame). (y.port < 512) × (1 ≤ length y.bytes.now) × (length y.bytes.now ≤ 9216)) same (port, some, short)

-- with a chip that stands for the same
pub goes_chip : {w : Watch} {c : Config} {made : List Input} {run : Run} {old : Chip} {before now : SinkState} → Goes w c made run old before now → (new : Chip) → Stands c made new → Goes w c made run new before now
goes_chip g new stands = record {
  watches = g.watches;
  stands = stands;
  clocked = g.clocked;
  numbered = g.numbered;
  flies = g.flies;
  written = g.written;
}

pub came_chip : {w : Watch} {c : Config} {events : List Event} {made : List Input} {r : RunState} {run : Run} {old : Chip} {before now : SinkState} → Came w c events made r run old before now → (new : Chip)
    → Stands c made new → Came w c events made r run new before now
came_chip h new stands = record { comes = h.comes; goes = goes_chip h.goes new stands }
