use Rattle.std.proofs.Common.{◌≤◌, ◌<◌, List, length, sym, subst, arith}
use Rattle.rmt_ptcam.specs.Types.{ParserEntry}
use Rattle.rmt_ptcam.proofs.SearchLaws.{entry_here, entry_nowhere, no_entry, read_again}
use Rattle.rmt_ptcam.proofs.parse.search.entry_number.Goals as goal

pub returns-then-entry-state : goal.returns-then-entry-state
returns-then-entry-state c =
    let es = c.args.parser.now.entries in
    let n = c.loop-number.number in
    let e = c.index-entries-number.result in
    let least : c.args.state ≤ e.state = subst (λ (x : ParserEntry). c.args.state ≤ x.state) (sym c.index-entries-number.is) (c.first_entry-number.ensures.behind n e (omega arith) c.loop-number-test.true) in
    sym (entry_nowhere es c.args.state c.args.value n e (read_again es _ n e c.index-entries-number.is c.as_slice-entries.ensures) c.loop-number.invariant c.requires least c.if-entry-state.true)

pub returns-then-value-entry : goal.returns-then-value-entry
returns-then-value-entry c =
    let es = c.args.parser.now.entries in
    let n = c.loop-number.number in
    let e = c.index-entries-number.result in
    let inside : n < length es = subst (λ (xs : List ParserEntry). n < length xs) c.as_slice-entries.ensures c.loop-number-test.true in
    sym (entry_here es c.args.state c.args.value n e (read_again es _ n e c.index-entries-number.is c.as_slice-entries.ensures) c.loop-number.invariant inside c.if-entry-state.false c.if-value-entry.true)

pub returns : goal.returns
returns c =
    let es = c.args.parser.now.entries in
    let end : length es ≤ c.loop-number.number = subst (λ (xs : List ParserEntry). length xs ≤ c.loop-number.number) c.as_slice-entries.ensures c.loop-number-test.false in
    sym (no_entry es c.args.state c.args.value (λ k d l. c.loop-number.invariant k d (omega (arith, l, end))))
