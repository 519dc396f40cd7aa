use Rattle.std.proofs.Common.{[], refl, sym, ◌∙◌}
use Rattle.rmt_bits.proofs.MemberLaws.{Contains-first}
use Rattle.std.proofs.lemmas.List.Elements.{All-nil}
use Rattle.std.specs.Prelude.{Contains, ◌∷◌}
use Rattle.rmt_ast.specs.Events.{Met}
use Rattle.rmt_plain.proofs.FirstLaws.{runnable, lookups-ready}
use Rattle.rmt_plain.proofs.StandsLaws.{counts_alone}
use Rattle.rmt_plain.proofs.plain.Plain.new.Goals as goal

pub invariant_of-result : goal.invariant_of-result
invariant_of-result c = record { runs = runnable c.args.program c.requires.program }

pub returns : goal.returns
returns c = record {
  program_is = refl;
  well_formed = c.requires.program;
  entries = c.requires.entries;
  stand_now = Contains-first c.args.entries [];
  stood = All-nil (λ (m : Met). Contains (c.args.entries ∷ []) m.lists);
  lookups_find = lookups-ready c.args.program c.args.entries c.in_ok-lookups.lookups.items c.in_ok-lookups.ensures;
  counters_are = c.in_ok-counters.ensures ∙ sym (counts_alone c.args.program c.args.entries []);
}
