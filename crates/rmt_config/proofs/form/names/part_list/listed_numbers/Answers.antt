use Rattle.std.proofs.Common.{◌≡◌, ◌+◌, ◌++◌, ◌∷◌, map, drop, sym, ap, ◌∙◌, List}
use Rattle.std.proofs.lemmas.List.{append_assoc}
use Rattle.rmt_config.specs.Types.{CellNumber}
use Rattle.rmt_config.specs.declared.form.names.part_list.Part.{Part}
use Rattle.rmt_config.specs.PartsTold.{parts_at, listed_numbers}
use Rattle.rmt_config.proofs.form.names.part_list.listed_numbers.Goals as goal
use Rattle.rmt_config.proofs.RiseLaws.{one_off}

pub loop-part-preserved : goal.loop-part-preserved
loop-part-preserved c =
    let before = c.loop-part.numbers.items in
    let part = c.part-item.result in
    let i = c.loop-part.part-index in
    let parts = c.args.parts.now in
    let here = map (λ (n : CellNumber). n.number) part.slot.now.numbers in
    let rest = listed_numbers (parts_at (drop (i + 1) parts)) in
    let step : before ++ listed_numbers (parts_at (drop i parts)) ≡ before ++ (here ++ rest) =
    ap (λ (ps : List Part). before ++ listed_numbers (parts_at ps)) (one_off parts i part c.loop-part-test.true ∙ ap (λ p. p ∷ drop (i + 1) parts) (sym c.part-item.is)) in
    ap (λ ns. ns ++ rest) (c.in_ok-put_numbers.ensures ∙ ap (λ (cells : List CellNumber). before ++ map (λ (n : CellNumber). n.number) cells) c.as_slice.ensures) ∙ append_assoc before here rest ∙ sym step ∙ c.loop-part.invariant
