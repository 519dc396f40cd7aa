use Rattle.std.proofs.Common.{◌≡◌, ◌++◌, ap, sym, ◌∙◌, subst}
use Rattle.std.specs.Prelude.{OnOk}
use Rattle.std.proofs.lemmas.List.{append-nil}
use Rattle.rmt_book.specs.declared.grid.Grid.{Grid}
use Rattle.rmt_update.specs.Loads.{ways_for}
use Rattle.rmt_update.proofs.book.loading.put_ways.Goals as goal

pub returns-in-Ways : goal.returns-in-Ways
returns-in-Ways c = subst (λ (g : Grid). OnOk c.push.result (c.push.new.self ≡ c.args.layout.now ++ ways_for g)) (sym c.in-Ways.is) c.push.ensures.ok

pub returns-in-Rows : goal.returns-in-Rows
returns-in-Rows c = sym (ap (λ (g : Grid). c.args.layout.now ++ ways_for g) c.in-Rows.is ∙ append-nil c.args.layout.now)
