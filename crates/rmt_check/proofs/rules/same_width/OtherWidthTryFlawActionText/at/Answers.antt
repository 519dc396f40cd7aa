use Rattle.std.proofs.Common.{List, ap₂, ◌∙◌}
use Rattle.std.specs.List.{flat_map}
use Rattle.rmt_check.specs.Parts.{ActionText, AssignText}
use Rattle.rmt_check.specs.Names.{named, operands, width_of}
use Rattle.rmt_check.specs.Rules.{differs, earliest}
use Rattle.rmt_check.proofs.rules.same_width.OtherWidthTryFlawActionText.at.Goals as goal

pub returns : goal.returns
returns g c =
    let s = g.N.Lookup.text c.args.names.now in
    c.earliest_with.ensures
    ∙ ap₂ (λ (a : ActionText) (xs : List AssignText). earliest (flat_map (λ (x : AssignText). flat_map (differs s a (width_of s (named s x.dest))) (operands x.expr)) xs)) c.in_ok-own.ensures.names c.as_slice-assigns.ensures
