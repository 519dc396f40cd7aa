use Rattle.std.proofs.Common.{◌≡◌, List, ℕ, ap, ◌∙◌, arith}
use Rattle.rmt_ptcam.specs.Needs.{place_in}
use Rattle.rmt_ptcam.proofs.PlainLaws.{place_within}
use Rattle.rmt_ptcam.proofs.plain.cases.put_test.Goals as goal

pub bytes_of_bits-requires-clause-within : goal.bytes_of_bits-requires-clause-within
bytes_of_bits-requires-clause-within c =
    let p = c.args.program.now in
    let fs = c.args.header.now.fields in
    let within = place_within p fs c.args.field c.requires.own in
    let place : c.place_of-from.result ≡ place_in p fs c.args.field = c.place_of-from.ensures.place ∙ ap (λ (xs : List ℕ). place_in p xs c.args.field) c.as_slice.ensures in
    omega (arith, within, place, c.width_of-width.ensures.width, c.requires.whole, c.requires.value_bytes)

pub bytes_of_bits-requires-2-clause-within : goal.bytes_of_bits-requires-2-clause-within
bytes_of_bits-requires-2-clause-within c =
    let p = c.args.program.now in
    let fs = c.args.header.now.fields in
    let within = place_within p fs c.args.field c.requires.own in
    let place : c.place_of-from.result ≡ place_in p fs c.args.field = c.place_of-from.ensures.place ∙ ap (λ (xs : List ℕ). place_in p xs c.args.field) c.as_slice.ensures in
    omega (arith, within, place, c.width_of-width.ensures.width, c.requires.whole, c.requires.mask_bytes)
