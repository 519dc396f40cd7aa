use Rattle.std.proofs.Common.{◌≡◌, ◌++◌, ◌∷◌, [], ℕ, List, ap, sym, subst, ◌∙◌}
use Rattle.std.specs.Prelude.{All, Contains}
use Rattle.std.proofs.lemmas.List.Elements.{All-weaker, Contains-append_left, Contains-append_right}
use Rattle.rmt_bits.specs.Counts.{counts}
use Rattle.rmt_bits.proofs.MemberLaws.{Contains-first}
use Rattle.rmt_ast.specs.declared.program.Program.{Program}
use Rattle.rmt_ast.specs.declared.entry.Entry.{Entry}
use Rattle.rmt_ast.specs.Answers.{counted_numbers}
use Rattle.rmt_ast.specs.Events.{Met}
use Rattle.rmt_plain.specs.Counters.{IsThereIfHit}
use Rattle.rmt_plain.specs.Running.{AreLookups}
use Rattle.rmt_plain.proofs.CommitLaws.{all_there_if_hit}
use Rattle.rmt_plain.proofs.FirstLaws.{lookups-ready}
use Rattle.rmt_plain.proofs.StandsLaws.{counts_commit, met_hits, numbers_so_far}
use Rattle.rmt_plain.proofs.plain.Plain.commit.Goals as goal

pub returns-clause-ok : goal.returns-clause-ok
returns-clause-ok c = λ p so_far lists met stands later follow.
    let next : List (List Entry) = c.args.entries in
    let is : c.args.self.now.program ≡ p = stands.program_is in
    let found : AreLookups p next c.in_ok-lookups.lookups.items = subst (λ (q : Program). AreLookups q next c.in_ok-lookups.lookups.items) is (lookups-ready c.args.self.now.program next c.in_ok-lookups.lookups.items c.in_ok-lookups.ensures) in
    let numbers_are : c.deref.result.now ≡ counted_numbers p p.nodes next =
    c.deref.ensures.value ∙ c.in_ok-numbers.ensures ∙ ap (λ (ls : List (List Entry)). counted_numbers c.args.self.now.program c.args.self.now.program.nodes ls) c.as_slice.ensures
    ∙ ap (λ (q : Program). counted_numbers q q.nodes next) is in
    let were : c.reserve.new.self.counts ≡ counts (numbers_so_far p so_far) (met_hits p met) = c.reserve.ensures.counts ∙ stands.counters_are in
    let there : All (IsThereIfHit (numbers_so_far p so_far) (met_hits p met)) c.deref.result.now = subst (All (IsThereIfHit (numbers_so_far p so_far) (met_hits p met))) (sym numbers_are) (all_there_if_hit p so_far lists next met stands.entries later stands.stand_now stands.stood follow) in
    record {
      program_is = is;
      well_formed = stands.well_formed;
      entries = later;
      stand_now = Contains-append_right so_far (next ∷ []) next (Contains-first next []);
      stood = All-weaker (λ (m : Met). Contains so_far m.lists) (λ (m : Met). Contains (so_far ++ next ∷ []) m.lists) (λ m h. Contains-append_left so_far (next ∷ []) m.lists h) met stands.stood;
      lookups_find = found;
      counters_are =
          c.add_counters.ensures (numbers_so_far p so_far) (met_hits p met) were there
          ∙ ap (λ (ns : List ℕ). counts (numbers_so_far p so_far ++ ns) (met_hits p met)) numbers_are
          ∙ counts_commit p so_far next met;
    }
