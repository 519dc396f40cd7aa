use Rattle.std.proofs.Common.{◌≡◌, ◌&&◌, ◌∙◌, Bool, true, false, not, ap, sym, eqb}
use Rattle.std.specs.List.{list_any}
use Rattle.rmt_switch.specs.GroupText.{are_distinct}
use Rattle.rmt_switch.proofs.group_text.«+are_distinct».Goals as goal

pub returns-then-not-contains : goal.returns-then-not-contains
returns-then-not-contains t c =
    let others = c.in-Some.others.now in
    let absent : list_any (λ m. eqb m c.in-Some.first.now) others ≡ false = sym c.contains.ensures.value ∙ c.if-not-contains.true in
    c.are_distinct.ensures ∙ sym (ap are_distinct c.in-Some.ensures.cases.0 ∙ ap (λ (b : Bool). not b && are_distinct others) absent)

pub returns-else-not-contains : goal.returns-else-not-contains
returns-else-not-contains t c =
    let others = c.in-Some.others.now in
    let present : list_any (λ m. eqb m c.in-Some.first.now) others ≡ true = sym c.contains.ensures.value ∙ c.if-not-contains.false in
    ap not c.if-not-contains.false ∙ sym (ap are_distinct c.in-Some.ensures.cases.0 ∙ ap (λ (b : Bool). not b && are_distinct others) present)
