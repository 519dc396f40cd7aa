-- What a run begins with.
use Rattle.std.proofs.Common.{◌<◌, ℕ, List, [], refl, sym, subst}
use Rattle.std.specs.Prelude.{All, IsTrue}
use Rattle.std.specs.List.{flat_map}
use Rattle.rmt_ast.specs.declared.entry.Entry.{Entry}
use Rattle.rmt_ast.specs.declared.names.Names.{Names}
use Rattle.rmt_ast.specs.Answers.{entry_numbers}
use Rattle.rmt_ast.specs.Naming.{names_of}
use Rattle.rmt_ast.specs.NameRules.{AreEntriesOf, CanBeNamed, names_are_formed}
use Rattle.rmt_ast.proofs.NamingLaws.{names_of-formed}
use Rattle.rmt_plain.proofs.EventLaws.{taken_first}
use Rattle.rmt_refine.proofs.NamedLaws.{entries_named}
use Rattle.rmt_lists.specs.Running.{fresh}
use Rattle.rmt_lists.specs.Stands.{Stands}
use Rattle.rmt_drive.specs.EventText.{most_additions}
use Rattle.rmt_runs.specs.Waiting.{Written}
use Rattle.rmt_drive.proofs.EditedLaws.{edited_first}
use Rattle.rmt_core.proofs.ImageSize.{can_be_named}
use Rattle.rmt_runs.proofs.WaitingLaws.{written_none}
use Rattle.rmt_core.proofs.plain_begin.begin.Goals as goal
use Rattle.rmt_core.proofs.plain_begin.begin.Goals.{In-Ok-copy}

-- the program and its entries can be named
named : (c : In-Ok-copy) → CanBeNamed c.args.meant.program c.args.meant.entries
named c =
    let said = c.requires.said in
    can_be_named c.args.meant.program c.args.meant.entries c.requires.program said (c.one_meaning.ensures.named said.text c.args.meant.program said.means)

pub names_of-requires : goal.names_of-requires
names_of-requires c = c.requires.program.counts.nodes

pub new-requires-clause-formed : goal.new-requires-clause-formed
new-requires-clause-formed c =
    subst (λ (ns : Names). IsTrue (names_are_formed ns)) (sym c.in-Ok.ensures) (names_of-formed c.args.meant.program c.args.meant.entries c.requires.program (named c))

pub new-requires-clause-entries : goal.new-requires-clause-entries
new-requires-clause-entries c =
    subst (λ (ns : Names). AreEntriesOf ns c.in-Ok-copy.entries) (sym c.in-Ok.ensures)
    (subst (λ (es : List (List Entry)). AreEntriesOf (names_of c.args.meant.program c.args.meant.entries) es) (sym c.in-Ok-copy.ensures)
    (entries_named c.args.meant.program c.args.meant.entries c.requires.program c.requires.entries))

pub new-requires-clause-numbers : goal.new-requires-clause-numbers
new-requires-clause-numbers c =
    subst (λ (es : List (List Entry)). All (λ n. n < 4293918720) (flat_map entry_numbers es)) (sym c.in-Ok-copy.ensures) (named c).numbers

pub returns-in-Ok-new-2 : goal.returns-in-Ok-new-2
returns-in-Ok-new-2 c = λ now.
    let p = c.args.meant.program in
    let lists = c.args.meant.entries in
    record {
      good = refl;
      edited = edited_first p lists c.requires.entries;
      takes = taken_first p lists c.in-Ok-new-2.plain c.in-Ok-new-2.ensures;
      stands =
          subst (λ (ns : Names). Stands (fresh ns lists most_additions) c.in-Ok-new.lists) c.in-Ok.ensures
          (subst (λ (es : List (List Entry)). Stands (fresh c.in-Ok.names es most_additions) c.in-Ok-new.lists) c.in-Ok-copy.ensures c.in-Ok-new.ensures.stands);
      numbered = refl;
      written = subst (λ (w : List ℕ). Written [] w now now) (sym c.new-in-Ok-new-2.ensures) (written_none now);
    }
