use Rattle.std.proofs.Common.{◌++◌, List, Option, sym, ap, ◌∙◌}
use Rattle.std.proofs.lemmas.List.{append-nil, drop_all}
use Rattle.rmt_ast.specs.declared.entry.Entry.{Entry}
use Rattle.rmt_lists.specs.Stands.{somes}
use Rattle.rmt_lists.proofs.settle.come_of.Goals as goal

pub returns : goal.returns
returns c =
    let own = c.loop-place.entries.items in
    c.from_vec.ensures ∙ sym (append-nil own) ∙ ap (λ (xs : List (Option Entry)). own ++ somes xs) (sym (drop_all c.loop-place.place-index c.args.come.now c.loop-place-test.false)) ∙ c.loop-place.invariant.all
