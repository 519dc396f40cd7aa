use Rattle.std.proofs.Common.{◌≡◌, ℕ, ◌+◌, List, ◌++◌, ◌∷◌, ◌≤◌, drop, length, map, sym, ap, ◌∙◌, subst, append_assoc}
use Rattle.std.specs.Prelude.{IfOk, sum}
use Rattle.std.proofs.lemmas.List.{drop_all}
use Rattle.rmt_config.specs.Rooms.{parts_of}
use Rattle.rmt_config.specs.declared.form.names.part_list.Part.{Part}
use Rattle.rmt_config.specs.PartsTold.{part_at, parts_at}
use Rattle.rmt_config.specs.PrefixRows.{row_in, rows_of}
use Rattle.rmt_config.proofs.PrefixRows.{key-low, key-one, prefix-at, prefix-filled, prefix-full, rows-all}
use Rattle.rmt_config.proofs.form.names.prefix.prefix_fits.Goals as goal
use Rattle.rmt_config.proofs.RiseLaws.{one_off}

pub returns-then-of : goal.returns-then-of
returns-then-of c = prefix-full c.args.of.now c.requires.stands c.requires.kind c.requires.alone c.if-of.true

pub bits_of-bits-requires : goal.bits_of-bits-requires
bits_of-bits-requires c = ap (λ (ws : List ℕ). length ws) c.as_slice.ensures ∙ key-one c.args.of.now c.requires.stands c.requires.kind c.requires.alone

pub put_rows-requires : goal.put_rows-requires
put_rows-requires c = record {
  stands = (prefix-at c.args.of.now c.requires.stands c.requires.kind c.requires.alone c.loop-part.part-index c.part-item.result c.loop-part-test.true c.part-item.is).stands;
  kind = (prefix-at c.args.of.now c.requires.stands c.requires.kind c.requires.alone c.loop-part.part-index c.part-item.result c.loop-part-test.true c.part-item.is).kind;
  short = (prefix-at c.args.of.now c.requires.stands c.requires.kind c.requires.alone c.loop-part.part-index c.part-item.result c.loop-part-test.true c.part-item.is).short;
  memory = c.requires.stands.memory;
}

pub loop-part-preserved : goal.loop-part-preserved
loop-part-preserved c =
    let config = c.args.of.now.config.now in
    let before = c.loop-part.rows.items in
    let part = c.part-item.result in
    let i = c.loop-part.part-index in
    let parts = c.args.of.now.parts.now in
    let here = map (row_in config (part_at part)) part.slot.now.numbers in
    let rest = rows_of config (parts_at (drop (i + 1) parts)) in
    let step : before ++ rows_of config (parts_at (drop i parts)) ≡ before ++ (here ++ rest) =
    ap (λ (ps : List Part). before ++ rows_of config (parts_at ps)) (one_off parts i part c.loop-part-test.true ∙ ap (λ p. p ∷ drop (i + 1) parts) (sym c.part-item.is)) in
    ap (λ rows. rows ++ rest) c.in_ok-put_rows.ensures ∙ append_assoc before here rest ∙ sym step ∙ c.loop-part.invariant

pub rows_fit-requires : goal.rows_fit-requires
rows_fit-requires c =
    subst (λ n. n ≤ 128) (sym (c.bits_of-bits.ensures ∙ ap (λ (ws : List ℕ). sum ws) c.as_slice.ensures)) (key-low c.args.of.now c.requires.stands c.requires.kind c.requires.alone)

pub returns : goal.returns
returns c =
    let of = c.args.of.now in
    let rows : c.as_slice-2.result.now ≡ rows_of of.config.now (parts_of of.config.now of.table.now.node) =
    c.as_slice-2.ensures.value
    ∙ rows-all of.config.now c.loop-part.rows.items (drop c.loop-part.part-index of.parts.now) (rows_of of.config.now (parts_of of.config.now of.table.now.node))
    (drop_all c.loop-part.part-index of.parts.now c.loop-part-test.false) c.loop-part.invariant in
    subst (λ b. IfOk c.rows_fit.result (λ fit. fit ≡ b))
    (prefix-filled of c.requires.stands c.requires.kind c.requires.alone c.bits_of-bits.result c.as_slice-2.result.now c.if-of.false
    (c.bits_of-bits.ensures ∙ ap (λ (ws : List ℕ). sum ws) c.as_slice.ensures) rows) c.rows_fit.ensures
