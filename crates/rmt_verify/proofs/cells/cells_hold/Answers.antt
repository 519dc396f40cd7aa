use Rattle.std.proofs.Common.{true≢false, ◌≡◌, ◌∙◌, List, length, sym, ap, subst}
use Rattle.std.specs.Prelude.{AllPairs, MatchOption}
use Rattle.std.proofs.lemmas.Result.{IfOk-weaker}
use Rattle.rmt_ast.specs.declared.entry.Entry.{Entry}
use Rattle.rmt_config.specs.Commits.{all_entries}
use Rattle.rmt_verify.specs.Told.{AreTold, TellApart}
use Rattle.rmt_verify.proofs.KnownLaws.{node_known}
use Rattle.rmt_verify.proofs.CellsToldLaws.{all_held, as_many, told_apart}
use Rattle.rmt_verify.proofs.cells.cells_hold.Goals as goal

pub returns-then-not-are_as_many-clause-exact : goal.returns-then-not-are_as_many-clause-exact
returns-then-not-are_as_many-clause-exact c = (
  λ no. absurd (true≢false (sym no)),
  λ carried. absurd (
      let long = as_many c.args.given.now.program.now c.args.given.now.entries.now c.args.given.now.map.now c.args.given.now.config.now c.requires.given.entries c.requires.given.formed c.requires.units c.as_slice-cells.result.now c.as_slice-cells.ensures carried in
      let yes = c.are_as_many.ensures.1 (long ∙ sym (ap (λ (ls : List (List Entry)). length (all_entries ls)) c.as_slice.ensures)) in
      true≢false (sym yes ∙ c.if-not-are_as_many.true)),
)

pub nodes_hold-requires-clause-known : goal.nodes_hold-requires-clause-known
nodes_hold-requires-clause-known c =
    let m = c.args.given.now.map.now in
    node_known c.args.given.now.program.now m.places m.placement.parts m.starts c.args.given.now.config.now c.requires.places c.requires.units c.requires.given.formed

pub returns-in-Some-clause-exact : goal.returns-in-Some-clause-exact
returns-in-Some-clause-exact c =
    let cells = c.as_slice-cells.result.now in
    let are : AreTold cells c.in-Some.told = subst (λ o. MatchOption o (AllPairs TellApart cells → ⊥) (AreTold cells)) c.in-Some.is c.in_ok-told.ensures in
    let long : length cells ≡ length (all_entries c.args.given.now.entries.now) = c.are_as_many.ensures.0 c.if-not-are_as_many.false ∙ ap (λ (ls : List (List Entry)). length (all_entries ls)) c.as_slice.ensures in
    IfOk-weaker c.nodes_hold.result _ _ (λ hold each.
    all_held c.args.given.now.program.now c.args.given.now.entries.now c.args.given.now.map.now c.args.given.now.config.now c.requires.given.entries c.requires.given.formed c.requires.units cells c.as_slice-cells.ensures c.in-Some.told hold are long each)
    c.nodes_hold.ensures

pub returns-in-None-clause-exact : goal.returns-in-None-clause-exact
returns-in-None-clause-exact c =
    let cells = c.as_slice-cells.result.now in
    let twice : AllPairs TellApart cells → ⊥ = subst (λ o. MatchOption o (AllPairs TellApart cells → ⊥) (AreTold cells)) c.in-None.is c.in_ok-told.ensures in (
      λ no. absurd (true≢false (sym no)),
      λ carried. absurd (twice (told_apart c.args.given.now.program.now c.args.given.now.entries.now c.args.given.now.map.now c.args.given.now.config.now c.requires.given.entries c.requires.given.formed c.requires.units cells c.as_slice-cells.ensures carried)),
    )
