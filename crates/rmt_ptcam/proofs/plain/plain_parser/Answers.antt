use Rattle.std.proofs.Common.{◌≡◌, ◌<◌, ◌≤◌, nat_lt, true, List, length, None, Option, sym, subst, ap, ◌∙◌, arith}
use Rattle.std.specs.Prelude.{Ok, slice_index_or}
use Rattle.std.specs.List.{list_all}
use Rattle.rmt_config.specs.ParserForm.{parser_is_formed}
use Rattle.rmt_ptcam.proofs.FormedParsers.{plain_formed, plain_headers}
use Rattle.rmt_ptcam.specs.Types.{Header, ParserConfig, TailOf}
use Rattle.rmt_ptcam.specs.declared.fault.ParserFault.{ParserFault}
use Rattle.rmt_ptcam.specs.Needs.{refusal, unless}
use Rattle.rmt_ptcam.specs.Plain.{plain}
use Rattle.rmt_ptcam.proofs.NeedLaws.{unless_ok, header_short}
use Rattle.rmt_ptcam.specs.Fitting.{IsParser}
use Rattle.rmt_ptcam.proofs.PlainLaws.{built_all, built_more, few_entries, lanes_bits}
use Rattle.rmt_ptcam.proofs.FormLaws.{plain_is_parser}
use Rattle.rmt_ptcam.proofs.AgreementLaws.{plain_agrees}
use Rattle.rmt_config.specs.Agreement.{AgreesWith}
use Rattle.rmt_ptcam.proofs.plain.plain_parser.Goals as goal
use Rattle.rmt_bits.proofs.ListLaws.{slice_get-seen}

pub push_header-requires : goal.push_header-requires
push_header-requires c =
    let p = c.args.program.now in
    let n = c.loop-number.number in
    let h = c.header-item.result in
    let read : h ≡ slice_index_or p.headers n h = c.header-item.is ∙ ap (λ (xs : List Header). slice_index_or xs n h) c.as_slice-header-items.ensures in
    let inside : n < length p.headers = subst (λ (xs : List Header). n < length xs) c.as_slice-header-items.ensures c.loop-number-test.true in
    let there = slice_get-seen p.headers _ n h c.as_slice-header-items.ensures c.loop-number-test.true c.header-item.is in
    let fits : refusal p ≡ None = unless_ok (refusal p) (tt {0}) (tt {0}) (sym c.parser_need.ensures ∙ c.in_ok-parser_need.was) in
    let few = few_entries p c.args.places.now n h c.loop-number.parser.entries inside read fits c.loop-number.invariant.entries_so_far in
    record {
      program = c.requires.program;
      header = c.requires.program.headers n h there;
      short = omega (arith, header_short p n h c.requires.program there, lanes_bits p c.args.places.now h.fields c.requires.places);
      few = omega (arith, few);
    }

pub loop-number-preserved : goal.loop-number-preserved
loop-number-preserved c =
    let p = c.args.program.now in
    let n = c.loop-number.number in
    let h = c.header-item.result in
    let read : h ≡ slice_index_or p.headers n h = c.header-item.is ∙ ap (λ (xs : List Header). slice_index_or xs n h) c.as_slice-header-items.ensures in
    let inside : n < length p.headers = subst (λ (xs : List Header). n < length xs) c.as_slice-header-items.ensures c.loop-number-test.true in
    let told = c.in_ok-push_header.ensures in
    built_more p c.args.places.now n h c.loop-number.parser c.push_header.new.parser inside read told.states told.entries told.tails c.loop-number.invariant

pub returns : goal.returns
returns c =
    let p = c.args.program.now in
    let places = c.args.places.now in
    let l = c.loop-number in
    let parser : ParserConfig = l.parser in
    let end : length p.headers ≤ l.number = subst (λ (xs : List Header). length xs ≤ l.number) c.as_slice-header-items.ensures c.loop-number-test.false in
    let fits : refusal p ≡ None = unless_ok (refusal p) (tt {0}) (tt {0}) (sym c.parser_need.ensures ∙ c.in_ok-parser_need.was) in
    let is : parser ≡ plain p places = built_all p places l.number parser.states parser.entries parser.tails end l.invariant in
    record {
      made = λ memory. ap Ok is ∙ sym (ap (λ (o : Option ParserFault). unless o (plain p places)) fits);
      runs = subst IsParser (sym is) (plain_is_parser p places c.requires.program c.requires.places);
      formed = subst (λ (q : ParserConfig). parser_is_formed q ≡ true) (sym is) (plain_formed p places c.requires.program c.requires.places fits);
      headers = subst (λ (q : ParserConfig). list_all (λ (t : TailOf). nat_lt t.header (length p.headers)) q.tails ≡ true) (sym is) (plain_headers p places);
      agrees = subst (λ (q : ParserConfig). AgreesWith q places p) (sym is) (plain_agrees p places c.requires.program c.requires.places fits);
    }
