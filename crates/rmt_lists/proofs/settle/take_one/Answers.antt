use Rattle.std.proofs.Common.{◌∙◌, ap, not, slice_get, sym}
use Rattle.std.specs.List.{remove}
use Rattle.rmt_bits.specs.Members.{is_among}
use Rattle.rmt_ast.specs.declared.entry.Entry.{Entry}
use Rattle.rmt_lists.proofs.SettleLaws.{keeps_below, kept_but_one}
use Rattle.rmt_lists.proofs.settle.take_one.Goals as goal

pub returns-in-Some : goal.returns-in-Some
returns-in-Some c low =
    let found = c.in-Some.ensures in
    let same = c.into_vec-entries.ensures ∙ c.replace.ensures.value in
    c.from_vec.ensures ∙ c.remove.ensures.items ∙ ap (λ es. remove es c.in-Some.at) same
    ∙ kept_but_one (λ (e : Entry). not (is_among c.args.gone.now.keys e.number)) c.args.list.now c.in-Some.at found.0 c.requires.one
    (ap (λ es. slice_get es c.in-Some.at) (sym c.as_slice.ensures) ∙ found.1) (ap not found.2)

pub returns-in-None : goal.returns-in-None
returns-in-None c low = c.keep.ensures ∙ keeps_below c.args.gone.now.keys c.args.above c.args.list.now low
