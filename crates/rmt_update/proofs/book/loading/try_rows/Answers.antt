use Rattle.std.proofs.Common.{ap, ◌∙◌}
use Rattle.rmt_ast.specs.NameRules.{terms_of_name}
use Rattle.rmt_book.specs.Spots.{spots_at}
use Rattle.rmt_update.proofs.SmallLaws.{rows-stand-by}
use Rattle.rmt_update.proofs.book.loading.try_rows.Goals as goal

pub returns : goal.returns
returns c = λ seed.
    let t = c.args.table.now in
    rows-stand-by t.name.kind t.parts.items seed (terms_of_name t.name) c.args.entries.now c.in_ok-spots.spots c.requires.kind
    (c.in_ok-spots.ensures ∙ ap (λ xs. spots_at xs c.as_slice-2.result.now) c.as_slice.ensures.value ∙ ap (spots_at t.parts.items) (c.as_slice-2.ensures.value ∙ c.in_ok-rows.ensures))
