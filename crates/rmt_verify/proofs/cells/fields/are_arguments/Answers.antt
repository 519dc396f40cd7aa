use Rattle.std.proofs.Common.{◌≡◌, ◌*◌, length, get_or, refl, sym, ap, ◌∙◌, inl, inr, arith}
use Rattle.std.specs.Prelude.{slice_get}
use Rattle.std.proofs.lemmas.Bool.{cases_lt}
use Rattle.std.proofs.lemmas.Option.{same_Some, slice_get-get_or, slice_get_within}
use Rattle.rmt_bits.specs.Bits.{number_of, slice}
use Rattle.rmt_config.specs.Effects.{begin_of}
use Rattle.rmt_verify.proofs.FieldLaws.{begin_next, here_read}
use Rattle.rmt_verify.proofs.cells.fields.are_arguments.Goals as goal

pub returns-then-bits_of_bytes-args : goal.returns-then-bits_of_bytes-args
returns-then-bits_of_bytes-args c = (
  λ no. absurd cc,
  λ all. absurd (
      let ws = c.args.widths.now in
      let i = c.loop-at.at in
      let read = here_read ws i c.loop-at.above (8 * length c.args.bytes.now) (number_of c.args.bytes.now) c.bits_of_bytes.result c.loop-at-test.true c.loop-at.invariant.place c.requires.room c.bits_of_bytes.ensures in
      c.if-bits_of_bytes-args.true (read ∙ all i (get_or ws i 0) (slice_get-get_or ws i 0 c.loop-at-test.true))),
)

pub loop-at-preserved : goal.loop-at-preserved
loop-at-preserved c =
    let ws = c.args.widths.now in
    let i = c.loop-at.at in
    let n = number_of c.args.bytes.now in
    let next = begin_next ws i c.loop-at.above (8 * length c.args.bytes.now) c.loop-at-test.true c.loop-at.invariant.place c.requires.room in
    let read = here_read ws i c.loop-at.above (8 * length c.args.bytes.now) n c.bits_of_bytes.result c.loop-at-test.true c.loop-at.invariant.place c.requires.room c.bits_of_bytes.ensures in
    record {
      place = next.1;
      so_far = λ k width lt at. elim (cases_lt k i) as (λ _. slice n (begin_of ws k) width ≡ get_or c.args.args.now k 0) [
        | inl before ↦ c.loop-at.invariant.so_far k width before at
        | inr here ↦
            let is : k ≡ i = omega (arith, lt, here) in
            let own : get_or ws i 0 ≡ width = same_Some (get_or ws i 0) width (sym (slice_get-get_or ws i 0 c.loop-at-test.true) ∙ ap (slice_get ws) (sym is) ∙ at) in
            ap (λ j. slice n (begin_of ws j) width) is ∙ ap (slice n (begin_of ws i)) (sym own) ∙ sym read ∙ c.if-bits_of_bytes-args.false ∙ ap (λ j. get_or c.args.args.now j 0) (sym is)
      ];
    }

pub returns : goal.returns
returns c = (
  λ yes i width at. (let lt = slice_get_within c.args.widths.now i width at in c.loop-at.invariant.so_far i width (omega (arith, lt, c.loop-at-test.false)) at),
  λ all. refl,
)
