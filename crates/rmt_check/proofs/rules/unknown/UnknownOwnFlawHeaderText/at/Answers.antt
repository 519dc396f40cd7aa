use Rattle.std.proofs.Common.{◌++◌, List, [], not, sym, ap, ◌∙◌}
use Rattle.std.specs.List.{flat_map}
use Rattle.std.proofs.lemmas.List.{append-nil}
use Rattle.rmt_check.specs.Parts.{Ident, Position}
use Rattle.rmt_check.specs.Names.{is_field, selected}
use Rattle.rmt_check.specs.Rules.{earliest, unknown_select, when}
use Rattle.rmt_check.proofs.rules.unknown.UnknownOwnFlawHeaderText.at.Goals as goal

pub returns-in-Some : goal.returns-in-Some
returns-in-Some g c =
    let s = g.N.Lookup.text c.args.names.now in
    let h = c.args.header.now in
    let wrong : Ident → List Position = λ i. when (not (is_field s (selected s h i))) i.place in
    let select = c.earliest_of-select.ensures ∙ ap (λ (is : List Ident). earliest (flat_map wrong is)) c.as_slice.ensures in
    let tail = c.at.ensures ∙ ap earliest (sym (append-nil (wrong c.in-Some.tail.field))) in
    rw c.in-Some.is (c.earlier.ensures.joined (unknown_select s h) (wrong c.in-Some.tail.field ++ []) select tail)
