use Rattle.std.proofs.Common.{ℕ, List, not, ap, ◌∙◌}
use Rattle.std.specs.List.{flat_map}
use Rattle.rmt_ast.specs.NameList.{is_known}
use Rattle.rmt_check.specs.Parts.{TableText}
use Rattle.rmt_check.specs.Rules.{earliest, when}
use Rattle.rmt_check.proofs.rules.applied.first_unapplied.Goals as goal

pub returns : goal.returns
returns c =
    c.earliest_with.ensures ∙ ap (λ (ns : List (List ℕ)). earliest (flat_map (λ (t : TableText). when (not (is_known ns t.ident.name)) t.ident.place) c.args.tables.now)) c.in_ok-applied.ensures
