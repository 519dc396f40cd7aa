use Rattle.std.proofs.Common.{◌≡◌, ◌≤◌, ◌<◌, ◌++◌, ◌∷◌, [], List, Some, ap, arith, length, refl, sym, subst, take, ◌∙◌}
use Rattle.std.specs.Prelude.{slice_get, slice_set}
use Rattle.std.proofs.lemmas.Option.{slice_get_read}
use Rattle.rmt_bits.proofs.ListLaws.{slice_get-seen}
use Rattle.rmt_ptcam.specs.Types.{ParserConfig, ParserEntry}
use Rattle.rmt_ptcam.specs.declared.joining.rows.StateRows.{StateRows}
use Rattle.rmt_ptcam.specs.Grouping.{groups_from}
use Rattle.rmt_ptcam.specs.Joining.{Row, rows_of}
use Rattle.rmt_ptcam.proofs.AddingLaws.{all_rows, row_of}
use Rattle.rmt_ptcam.proofs.GroupLaws.{groups_more, length_groups, state_low}
use Rattle.rmt_ptcam.proofs.joining.rows.grouped.Goals as goal

pub index_mut-requires : goal.index_mut-requires
index_mut-requires c =
    let parser : ParserConfig = c.args.parser.now in
    let n = c.loop-number.number in
    let e : ParserEntry = c.index-entries-number.result in
    let there : slice_get parser.entries n ≡ Some e = slice_get-seen parser.entries _ n e c.as_slice-entries.ensures c.loop-number-test.true c.index-entries-number.is in
    let low : e.state < length parser.states = state_low parser c.requires n e there in
    let at : c.from-state.result ≡ e.state = c.from-state.ensures ∙ ap (λ (x : ParserEntry). x.state) c.in_ok-entry.ensures in
    let many : length c.loop-number.groups.items ≡ length parser.states = ap length c.loop-number.invariant ∙ length_groups (take n (rows_of parser)) 0 parser.states in
    let len = c.loop-number.groups.ok.0 in
    omega (arith, low, at, many, len)

pub loop-number-preserved : goal.loop-number-preserved
loop-number-preserved c =
    let parser : ParserConfig = c.args.parser.now in
    let n = c.loop-number.number in
    let e : ParserEntry = c.index-entries-number.result in
    let there : slice_get parser.entries n ≡ Some e = slice_get-seen parser.entries _ n e c.as_slice-entries.ensures c.loop-number-test.true c.index-entries-number.is in
    let x : Row = record { entry = c.in_ok-entry.entry; tail = c.entry_tail-tail.result } in
    let row : slice_get (rows_of parser) n ≡ Some x =
    row_of parser n e there ∙ ap (λ t. Some (record { entry = e; tail = t })) (sym c.entry_tail-tail.ensures) ∙ ap (λ (y : ParserEntry). Some (record { entry = y; tail = c.entry_tail-tail.result })) (sym c.in_ok-entry.ensures) in
    let g : StateRows = c.index_mut.result.now in
    let gs : List StateRows = c.loop-number.groups.items in
    let front : List StateRows = groups_from (take n (rows_of parser)) 0 parser.states in
    let low : e.state < length parser.states = state_low parser c.requires n e there in
    let at : c.from-state.result ≡ e.state = c.from-state.ensures ∙ ap (λ (y : ParserEntry). y.state) c.in_ok-entry.ensures in
    let many : length gs ≡ length parser.states = ap length c.loop-number.invariant ∙ length_groups (take n (rows_of parser)) 0 parser.states in
    let inside : c.from-state.result < length gs = omega (arith, low, at, many) in
    let own : slice_get front x.entry.state ≡ Some g =
    ap (λ (l : List StateRows). slice_get l x.entry.state) (sym c.loop-number.invariant) ∙ ap (slice_get gs) (sym c.from-state.ensures)
    ∙ slice_get_read gs (length gs) c.from-state.result g refl inside c.index_mut.ensures.value in
    ap (λ k. slice_set gs k (record { lookups = g.lookups; rows = c.push.new.self })) c.from-state.ensures
    ∙ ap (λ (rows : List Row). slice_set gs x.entry.state (record { lookups = g.lookups; rows = rows })) c.in_ok-push.ensures.ok
    ∙ ap (λ (l : List StateRows). slice_set l x.entry.state (record g { rows = g.rows ++ x ∷ [] })) c.loop-number.invariant
    ∙ groups_more (rows_of parser) n x parser.states g row own

pub returns : goal.returns
returns c =
    let parser : ParserConfig = c.args.parser.now in
    let end : length parser.entries ≤ c.loop-number.number = subst (λ (xs : List ParserEntry). length xs ≤ c.loop-number.number) c.as_slice-entries.ensures c.loop-number-test.false in
    c.loop-number.invariant ∙ ap (λ (rows : List Row). groups_from rows 0 parser.states) (all_rows parser c.loop-number.number end)
