use Rattle.std.proofs.Common.{◌≡◌, ℕ, ◌+◌, ◌*◌, ◌≤◌, List, Option, sym, ap, subst, ◌∙◌}
use Rattle.std.specs.Prelude.{IfSome, slice_get, slice_index_or}
use Rattle.rmt_ptcam.specs.Types.{ParserEntry, TailOf}
use Rattle.rmt_config.specs.Parser.{entry_of, step, taken}
use Rattle.rmt_ptcam.specs.Fitting.{IsEntry}
use Rattle.rmt_ptcam.specs.Parsing.{standing, StepGives}
use Rattle.rmt_bits.proofs.AllLaws.{All-slice_get}
use Rattle.rmt_ptcam.proofs.ParseLaws.{entry_there, tail_asks}
use Rattle.rmt_ptcam.proofs.parse.one_state.Goals as goal

pub take_entry-requires-clause-fits : goal.take_entry-requires-clause-fits
take_entry-requires-clause-fits c =
    let parser = c.args.parser.now in
    let n = c.in-Some.number in
    let e = c.index-entries-number.result in
    let read : e ≡ slice_index_or parser.entries n e = c.index-entries-number.is ∙ ap (λ (es : List ParserEntry). slice_index_or es n e) c.as_slice-entries.ensures in
    let found = entry_there parser c.args.state c.value_of-value.result n e (sym c.in-Some.ensures) read in
    let tails = c.requires.fits.tails in
    record {
      entry = All-slice_get IsEntry parser.entries n e c.requires.fits.entries found;
      header = tail_asks _ parser n c.entry_tail-tail.result tails c.entry_tail-tail.ensures (λ t h same. h.header);
      few_bits = tail_asks _ parser n c.entry_tail-tail.result tails c.entry_tail-tail.ensures (λ t h same. h.few_bits);
      within = tail_asks _ parser n c.entry_tail-tail.result tails c.entry_tail-tail.ensures
          (λ t h same. subst (λ o. IfSome o (λ (x : ParserEntry). t.from + t.len ≤ 8 * x.need)) (ap (slice_get parser.entries) same ∙ found) h.within);
    }

pub returns-in-Some-clause-step : goal.returns-in-Some-clause-step
returns-in-Some-clause-step c = λ goes.
    let parser = c.args.parser.now in
    let frame = c.args.frame.now in
    let n = c.in-Some.number in
    let e = c.index-entries-number.result in
    let r = standing c.args.vector.now c.args.tails.now c.args.cursor in
    let read : e ≡ slice_index_or parser.entries n e = c.index-entries-number.is ∙ ap (λ (es : List ParserEntry). slice_index_or es n e) c.as_slice-entries.ensures in
    let found = entry_there parser c.args.state c.value_of-value.result n e (sym c.in-Some.ensures) read in
    let which = c.in-Some.ensures ∙ ap (λ (v : ℕ). entry_of parser c.args.state v) c.value_of-value.ensures in
    subst (λ (o : Option ℕ). StepGives goes (taken goes parser frame o r) c.take_entry.result c.take_entry.new.vector c.take_entry.new.tails) which
    (subst (λ (o : Option TailOf). StepGives goes (step goes frame o (slice_get parser.entries n) r) c.take_entry.result c.take_entry.new.vector c.take_entry.new.tails) c.entry_tail-tail.ensures
    (subst (λ (o : Option ParserEntry). StepGives goes (step goes frame c.entry_tail-tail.result o r) c.take_entry.result c.take_entry.new.vector c.take_entry.new.tails) (sym found) (c.take_entry.ensures.step goes)))
