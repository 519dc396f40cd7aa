-- A run that ended early, and one that came to the end of what may be read.
use Rattle.std.proofs.Common.{◌≡◌, ℕ, [], List, Option, None, Err, inl, refl, ap, sym, subst, ◌∙◌, arith, rules}
use Rattle.rmt_io.proofs.OutsideLaws.{only_printed_trans, printing_failed_later}
use Rattle.rmt_io.specs.Outside.{Gained, ShelfState, SinkState}
use Rattle.rmt_runs.proofs.FrontLaws.{gained_none}
use Rattle.rmt_chip.specs.declared.chip.Chip.{Chip}
use Rattle.rmt_chip.specs.Stands.{Stands, entered_of}
use Rattle.rmt_config.specs.declared.config.Config.{Config}
use Rattle.rmt_runs.specs.declared.fault.Bad.{Bad}
use Rattle.rmt_runs.specs.TextLines.{EndsBy}
use Rattle.rmt_drive.specs.declared.running.commits.Commits.{Commits}
use Rattle.rmt_drive.specs.declared.running.state.Run.{Run}
use Rattle.rmt_drive.specs.declared.watch.Watch.{Watch}
use Rattle.rmt_drive.specs.ChipCycles.{Goes}
use Rattle.rmt_drive.specs.CommitsOf.{AreCommitsOf}
use Rattle.rmt_drive.specs.Running.{StandsOver, StopsOver, Taken}
use Rattle.rmt_drive.specs.ChipEvents.{empty_cycles}
use Rattle.rmt_drive.specs.ChipText.{run_text}
use Rattle.rmt_drive.specs.RunEnd.{bad_line}
use Rattle.rmt_drive.proofs.ChipEnds.{broken_answered, few_first, follows_first, not_done, ran_all, taken_answered}
use Rattle.rmt_drive.proofs.DrainLaws.{ended_done, ended_was}
use Rattle.rmt_drive.proofs.LineBreaks.{broke, ended, taken_as}
use Rattle.rmt_drive.proofs.running.run_watched.Goals as goal

-- a run from its first line on, to its end or to a bad line; the run and the chip are those that were lent
taken_first : (w : Watch) (k : Config) (limit : ℕ) (shelf : ShelfState) (begun run was : Run) (first chip left : Chip) (commits found : Option Commits) (before now : SinkState) (bad : Option Bad) (names kept : ℕ × ℕ)
    → names ≡ kept → (kept.1 ≡ names.1 → was ≡ run) → (kept.0 ≡ names.0 → left ≡ chip) → Stands k [] first → AreCommitsOf k commits → Goes w k [] begun first before before
    → (StandsOver (w, k) [] begun first commits before before
    → EndsBy shelf limit (λ lines. StandsOver (w, k) lines run chip found before now) (λ lines line code. StopsOver (w, k) lines line code run chip before now) bad)
    → Taken w k limit shelf (bad_line bad) was left before now
taken_first w k limit shelf begun run was first chip left commits found before now bad names kept lent runs chips stands of goes ends =
    taken_as (runs (sym (ap (λ (x : ℕ × ℕ). x.1) lent))) (chips (sym (ap (λ (x : ℕ × ℕ). x.0) lent)))
    (ended w k limit shelf run chip found before now bad (ends (follows_first w k begun first commits before stands of goes)))

pub take_all-requires-clause-starts : goal.take_all-requires-clause-starts
take_all-requires-clause-starts g c =
    let s = c.requires.stands in
    let now = g.O.Sink.state c.args.out.now in
    ((c.args.watch, s.0), follows_first c.args.watch s.0 c.in-Ok.run' c.args.chip.now c.args.commits.now now s.1 s.2 (c.in-Ok.ensures s.0 c.args.chip.now now s.1))

pub take_all-requires-clause-few : goal.take_all-requires-clause-few
take_all-requires-clause-few g c =
    let s = c.requires.stands in
    let now = g.O.Sink.state c.args.out.now in
    few_first c.args.watch s.0 c.in-Ok.run' c.args.chip.now now now (c.in-Ok.ensures s.0 c.args.chip.now now s.1)

pub finish-requires : goal.finish-requires
finish-requires g c =
    let now = g.O.Sink.state c.args.out.now in
    let w = c.args.watch in
    let k = c.requires.stands.0 in
    let t = taken_first w k c.args.limit (g.F.Shelf.state c.args.shelf.now) c.in-Ok.run' c.take_all.new.taker.run.now _ c.args.chip.now c.take_all.new.taker.chip.now _ c.args.commits.now c.take_all.new.taker.commits.now now (g.O.Sink.state c.take_all.new.out) c.in-Ok-take_all.bad _ _ c.take_all.ensures.lent c.run-3-1.given.1 c.chip-1.given.1 c.requires.stands.1 c.requires.stands.2 (c.in-Ok.ensures k c.args.chip.now now c.requires.stands.1) (c.in-Ok-take_all.ensures.ended (w, k)) in
    let few = c.in-Ok-take_all.ensures.few in
    let lent = c.take_all.ensures.lent in
    let chips = c.chip-1.given.1 (sym (ap (λ (x : ℕ × ℕ). x.0) lent)) in
    let runs = c.run-3-1.given.1 (sym (ap (λ (x : ℕ × ℕ). x.1) lent)) in
    record {
      may = record {
        came = (w, k, t.said.events, t.made, t.state, now, t.came);
        entered = omega (arith, few.1, few.2.entered, ap (λ (x : Chip). entered_of x) chips);
        cycles = omega (arith, few.1, few.2.cycles, ap (λ (x : Run). x.cycles) runs);
      };
    }

pub returns-in-Ok-take_all-clause-clocked : goal.returns-in-Ok-take_all-clause-clocked
returns-in-Ok-take_all-clause-clocked g c = λ e tells k stands of.
    let now = g.O.Sink.state c.args.out.now in
    let w = c.args.watch in
    let t = taken_first w k c.args.limit (g.F.Shelf.state c.args.shelf.now) c.in-Ok.run' c.take_all.new.taker.run.now _ c.args.chip.now c.take_all.new.taker.chip.now _ c.args.commits.now c.take_all.new.taker.commits.now now (g.O.Sink.state c.take_all.new.out) c.in-Ok-take_all.bad _ _ c.take_all.ensures.lent c.run-3-1.given.1 c.chip-1.given.1 stands of (c.in-Ok.ensures k c.args.chip.now now stands) (c.in-Ok-take_all.ensures.ended (w, k)) in
    let was = ended_was c.in-Ok-take_all.bad c.finish.result e c.finish.ensures.possible in
    let none : bad_line c.in-Ok-take_all.bad ≡ None = ended_done c.in-Ok-take_all.bad was in
    ran_all k c.args.limit (g.F.Shelf.state c.args.shelf.now).rest t.full t.said t.made t.state (t.reads tells) t.came.comes t.ends w c.finish.new.chip now (g.O.Sink.state c.finish.new.out) (t.bad_is ∙ none)
    (c.finish.ensures.clocked e w k t.said.events t.made t.state now t.came)
    (subst (λ b. Gained now (g.O.Sink.state c.finish.new.out) (run_text w k t.made (empty_cycles t.state) b)) none (c.finish.ensures.printed (e ∙ sym was) w k t.said.events t.made t.state now t.came))

pub returns-in-Ok-take_all-clause-answered : goal.returns-in-Ok-take_all-clause-answered
returns-in-Ok-take_all-clause-answered g c = λ tells k stands of.
    let now = g.O.Sink.state c.args.out.now in
    let w = c.args.watch in
    let t = taken_first w k c.args.limit (g.F.Shelf.state c.args.shelf.now) c.in-Ok.run' c.take_all.new.taker.run.now _ c.args.chip.now c.take_all.new.taker.chip.now _ c.args.commits.now c.take_all.new.taker.commits.now now (g.O.Sink.state c.take_all.new.out) c.in-Ok-take_all.bad _ _ c.take_all.ensures.lent c.run-3-1.given.1 c.chip-1.given.1 stands of (c.in-Ok.ensures k c.args.chip.now now stands) (c.in-Ok-take_all.ensures.ended (w, k)) in
    let e = c.finish.ensures in
    taken_answered k c.args.limit (g.F.Shelf.state c.args.shelf.now).rest t.full t.said t.made t.state (t.reads tells) t.came.comes t.ends _ _ w c.in-Ok-take_all.bad t.bad_is c.take_all.ensures.only_read.files c.finish.result e.possible
    (λ f. e.some f w k t.said.events t.made t.state now t.came) (λ d. e.printed d w k t.said.events t.made t.state now t.came) (e.front w k t.said.events t.made t.state now t.came)
    (λ f. printing_failed_later (g.O.Sink.state c.finish.new.out) c.take_all.ensures.only_printed (e.failed f))

pub returns-clause-answered : goal.returns-clause-answered
returns-clause-answered g c = λ tells k stands of.
    let now = g.O.Sink.state c.args.out.now in
    let w = c.args.watch in
    let shelf = g.F.Shelf.state c.args.shelf.now in
    let h = follows_first w k c.in-Ok.run' c.args.chip.now c.args.commits.now now stands of (c.in-Ok.ensures k c.args.chip.now now stands) in
    let new = c.take_all.new.taker in
    rw c.fault_status.ensures
    (broken_answered _ _ w k c.args.limit shelf.rest c.in-Err.fault
    (broke w k h.come.formed h.come.small shelf c.args.limit new.run.now new.chip.now new.commits.now now (g.O.Sink.state c.take_all.new.out) c.in-Err.fault tells (c.in-Err.ensures.broken (w, k) h)) c.take_all.ensures.only_read.files
    (λ e. c.in-Err.ensures.write_fault (ap Err e)) (λ e. c.in-Err.ensures.never_fails (ap Err e)))

pub returns-in-Ok-take_all-clause-befalls : goal.returns-in-Ok-take_all-clause-befalls
returns-in-Ok-take_all-clause-befalls g c = record {
  read_fault = search rules;
  never_fails = search rules;
  write_fault = λ e. printing_failed_later (g.O.Sink.state c.finish.new.out) c.take_all.ensures.only_printed (c.finish.ensures.failed e);
  only_read = c.take_all.ensures.only_read;
  only_printed = only_printed_trans c.take_all.ensures.only_printed c.finish.ensures.only_printed;
}

-- without memory nothing was read or printed
pub returns-in_default-clause-answered : goal.returns-in_default-clause-answered
returns-in_default-clause-answered g c = λ tells k stands of. record {
  files = inl (λ name. refl);
  front = λ given is. (given, is, gained_none (g.O.Sink.state c.args.out.now) (g.O.Sink.state c.args.out.now) given.text (λ t. refl));
  steady = λ st e. absurd (cc);
}

pub returns-clause-clocked : goal.returns-clause-clocked
returns-clause-clocked g c = λ done tells k stands of. absurd (not_done c.in-Err.fault (sym c.fault_status.ensures ∙ done))
