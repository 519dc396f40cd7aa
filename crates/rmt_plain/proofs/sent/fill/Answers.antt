use Rattle.std.proofs.Common.{◌≡◌, ◌+◌, ◌*◌, ◌-◌, ◌/◌, ◌%◌, ◌^◌, ℕ, List, length, drop, ap, ◌∙◌, rules, arith}
use Rattle.std.specs.Prelude.{slice_index}
use Rattle.std.proofs.lemmas.List.{at_drop_all}
use Rattle.rmt_bits.specs.Bits.{number_of, deposit}
use Rattle.rmt_ast.specs.State.{joined}
use Rattle.rmt_ast.specs.WellFormed.{bits_of}
use Rattle.rmt_plain.proofs.FieldLaws.{joined-drop, value_held}
use Rattle.rmt_ast.proofs.WellFormedLemmas.{bits_of-drop}
use Rattle.rmt_plain.proofs.WidthLaws.{deposit_onto, high_more}
use Rattle.rmt_plain.proofs.sent.fill.Goals as goal
use Rattle.rmt_bits.proofs.ByteLaws.{number_of-cleared}

pub bytes_of_bits-requires-clause-within : goal.bytes_of_bits-requires-clause-within
bytes_of_bits-requires-clause-within c =
    let more = bits_of-drop c.args.program.now c.args.fields.now c.loop-field.field-index (omega arith) in
    let at_is = c.loop-field.invariant.at_is in
    let width = c.width_of-width.ensures.width in
    omega arith

pub overflow_add-at : goal.overflow_add-at
overflow_add-at c =
    omega (arith, bits_of-drop c.args.program.now c.args.fields.now c.loop-field.field-index (omega arith), c.loop-field.invariant.at_is, c.width_of-width.ensures.width, c.requires.short)

pub loop-field-preserved : goal.loop-field-preserved
loop-field-preserved c =
    let p = c.args.program.now in
    let s = c.args.state.now in
    let i = c.loop-field.field-index in
    let fields = c.args.fields.now in
    let n = number_of c.loop-field.bytes in
    let rest = bits_of p (drop (i + 1) fields) in
    let w = c.width_of-width.result in
    let more = bits_of-drop p fields i (omega arith) in
    let at_is = c.loop-field.invariant.at_is in
    let high = c.loop-field.invariant.high in
    let width = c.width_of-width.ensures.width in
    let low : 8 * length c.loop-field.bytes - (c.loop-field.at + w) ≡ rest = omega arith in
    let k = high.0 in
    let was : n ≡ k * 2 ^ (w + rest) = high.1 ∙ ap (λ (m : ℕ). k * 2 ^ m) (omega arith) in
    let put : number_of c.bytes_of_bits.new.into ≡ n + c.slice-value.result * 2 ^ rest =
    c.bytes_of_bits.ensures ∙ ap (λ (m : ℕ). deposit n m w c.slice-value.result) low ∙ deposit_onto n k rest w c.slice-value.result was in
    let moved = c.from-at.ensures in
    let kept = c.bytes_of_bits.auto.into in
    record {
      at_is = omega arith;
      high = (k * 2 ^ w + c.slice-value.result, put ∙ high_more n k rest w c.slice-value.result was);
      so_far = λ state.
          let f = slice_index fields i in
          let value : c.slice-value.result ≡ slice_index s f =
          c.slice-value.ensures
          ∙ ap (λ (m : ℕ). m / 2 ^ 0 % 2 ^ w) c.number_at.ensures
          ∙ ap (λ (m : ℕ). slice_index s f / 2 ^ 0 % 2 ^ m) width
          ∙ value_held p s f state in
          let product : c.slice-value.result * 2 ^ rest ≡ slice_index s f * 2 ^ rest = ap (λ (m : ℕ). m * 2 ^ rest) value in
          let joined_more = joined-drop p fields s i (omega arith) in
          let before = c.loop-field.invariant.so_far state in
          omega arith;
    }

pub returns : goal.returns
returns c = λ state.
    let p = c.args.program.now in
    let s = c.args.state.now in
    let none = at_drop_all (λ (fs : List ℕ). joined p fs s) c.args.fields.now c.loop-field.field-index (omega arith) in
    let before = c.loop-field.invariant.so_far state in
    omega arith

pub loop-field-init : goal.loop-field-init
loop-field-init c =
    let zeros = c.fill.ensures.after (λ y h. search rules) in
    let none = number_of-cleared c.fill.new.self (length c.args.bytes.now) zeros in
    let kept = c.fill.auto.self in
    let whole = c.requires.whole in
    record { at_is = omega arith; high = (0, omega arith); so_far = λ state. omega arith }
