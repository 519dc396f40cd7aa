use Rattle.std.proofs.Common.{◌≡◌, ◌+◌, ◌<◌, ◌≤◌, List, [], ◌++◌, ◌∷◌, length, get_or, drop, map, ltb, refl, sym, ap, subst, ◌∙◌, append_assoc}
use Rattle.std.proofs.lemmas.List.{append-nil, drop_all}
use Rattle.std.specs.List.{list_all}
use Rattle.std.proofs.lemmas.Bool.{and_parts, ltb-true}
use Rattle.std.proofs.lemmas.List.Folds.{list_all-map}
use Rattle.rmt_config.specs.Types.{CellNumber}
use Rattle.rmt_config.specs.Cells.{cells_in}
use Rattle.rmt_config.specs.declared.form.names.prefix_rows.Row.{Row}
use Rattle.rmt_config.specs.PartsTold.{part_at}
use Rattle.rmt_config.specs.PrefixRows.{row_in}
use Rattle.rmt_config.proofs.SpelledLists.{item-passes}
use Rattle.rmt_config.proofs.form.names.prefix.put_rows.Goals as goal
use Rattle.rmt_config.proofs.RiseLaws.{one_off}

pub held_in-held-requires-clause-within : goal.held_in-held-requires-clause-within
held_in-held-requires-clause-within c =
    let s = c.args.part.now.slot.now in
    let ns = c.as_slice-number-items.result.now in
    let i = c.loop-number.number-index in
    let none : CellNumber = record { cell = 0; number = 0 } in
    let n = get_or ns i none in
    let count = cells_in s.memory in
    ltb-true n.cell count
    (item-passes (λ (n : CellNumber). ltb n.cell count) ns i n none c.loop-number-test.true refl
    (ap (list_all (λ (n : CellNumber). ltb n.cell count)) c.as_slice-number-items.ensures
    ∙ sym (list_all-map (λ n. ltb n count) (λ (n : CellNumber). n.cell) s.numbers)
    ∙ (and_parts _ _ (and_parts _ _ c.requires.stands.holds.numbers).0).1))

pub loop-number-preserved : goal.loop-number-preserved
loop-number-preserved c =
    let row = row_in c.args.config.now (part_at c.args.part.now) in
    let before = c.loop-number.rows.items in
    let ns = c.args.part.now.slot.now.numbers in
    let items = c.as_slice-number-items.result.now in
    let i = c.loop-number.number-index in
    let none : CellNumber = record { cell = 0; number = 0 } in
    let e = c.as_slice-number-items.ensures in
    let held = c.held_in-held in
    let made : Row = record { key = held.result.key; mask = held.result.mask; number = (get_or items i none).number } in
    let rest = map row (drop (i + 1) ns) in
    let made-is : made ≡ row (get_or ns i none) =
    ap (λ n. record { key = n; mask = held.result.mask; number = (get_or items i none).number }) held.ensures.key
    ∙ ap (λ n. record { key = (row (get_or items i none)).key; mask = n; number = (get_or items i none).number }) held.ensures.mask
    ∙ ap (λ (ms : List CellNumber). row (get_or ms i none)) e in
    let step : before ++ map row (drop i ns) ≡ before ++ (row (get_or ns i none) ∷ rest) =
    ap (λ (ms : List CellNumber). before ++ map row ms) (one_off ns i none (subst (λ (ms : List CellNumber). i < length ms) e c.loop-number-test.true)) in
    ap (λ rows. rows ++ rest) c.in_ok-push.ensures.items ∙ append_assoc before (made ∷ []) rest ∙ ap (λ r. before ++ (r ∷ rest)) made-is ∙ sym step ∙ c.loop-number.invariant

pub returns : goal.returns
returns c =
    let row = row_in c.args.config.now (part_at c.args.part.now) in
    let before = c.loop-number.rows.items in
    let ns = c.args.part.now.slot.now.numbers in
    let i = c.loop-number.number-index in
    let done = drop_all i ns (subst (λ (ms : List CellNumber). length ms ≤ i) c.as_slice-number-items.ensures c.loop-number-test.false) in
    sym (ap (λ (ms : List CellNumber). before ++ map row ms) done ∙ append-nil before) ∙ c.loop-number.invariant
