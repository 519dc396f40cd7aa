use Rattle.std.proofs.Common.{sym, ◌∙◌, arith}
use Rattle.rmt_config.proofs.RiseLaws.{here-above, here-below, middle-below}
use Rattle.rmt_config.proofs.form.search.first_near.Goals as goal

pub returns-then-here-place-clause-below : goal.returns-then-here-place-clause-below
returns-then-here-place-clause-below g c =
    here-below g.T.Numbered.place_of c.args.items.now c.args.near c.args.place c.index-items-near.result c.requires (omega (arith, c.if-near-items.false)) c.index-items-near.is
    (sym c.place-here.ensures ∙ c.if-here-place.true)

pub returns-then-here-place-clause-above : goal.returns-then-here-place-clause-above
returns-then-here-place-clause-above g c =
    here-above g.T.Numbered.place_of c.args.items.now c.args.near c.args.place c.index-items-near.result c.requires (omega (arith, c.if-near-items.false)) c.index-items-near.is
    (sym c.place-here.ensures ∙ c.if-here-place.true)

pub first_behind-requires-clause-below : goal.first_behind-requires-clause-below
first_behind-requires-clause-below g c =
    middle-below g.T.Numbered.place_of c.args.items.now c.args.near c.args.place c.index-items-near.result c.requires (omega (arith, c.if-near-items.false)) c.index-items-near.is
    (omega (arith, c.place-here.ensures, c.if-here-place.false, c.if-here-place-2.false))
