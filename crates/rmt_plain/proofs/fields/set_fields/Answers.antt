use Rattle.std.proofs.Common.{◌≡◌, ◌+◌, ◌*◌, ◌-◌, ℕ, List, length, drop, sym, ap, ◌∙◌, arith}
use Rattle.std.specs.Prelude.{slice_index, slice_set}
use Rattle.std.proofs.lemmas.List.{at_drop_more, at_drop_all}
use Rattle.rmt_bits.specs.Bits.{number_of, slice}
use Rattle.rmt_ast.specs.State.{set_fields, width_of}
use Rattle.rmt_ast.specs.WellFormed.{bits_of}
use Rattle.rmt_ast.proofs.WellFormedLemmas.{bits_of-drop}
use Rattle.rmt_plain.proofs.fields.set_fields.Goals as goal

pub bits_of_bytes-requires-clause-within : goal.bits_of_bytes-requires-clause-within
bits_of_bytes-requires-clause-within c =
    let p = c.args.program.now in
    let more = bits_of-drop p c.args.fields.now c.loop-field.field-index (omega arith) in
    let from_is = c.loop-field.invariant.from_is in
    let width = c.width_of-width.ensures.width in
    omega arith

pub overflow_add-from : goal.overflow_add-from
overflow_add-from c =
    let p = c.args.program.now in
    let more = bits_of-drop p c.args.fields.now c.loop-field.field-index (omega arith) in
    let from_is = c.loop-field.invariant.from_is in
    let width = c.width_of-width.ensures.width in
    let short = c.requires.short in
    omega arith

pub loop-field-preserved : goal.loop-field-preserved
loop-field-preserved c =
    let p = c.args.program.now in
    let i = c.loop-field.field-index in
    let fields = c.args.fields.now in
    let bytes = c.args.bytes.now in
    let f = slice_index fields i in
    let s = c.loop-field.state in
    let more = bits_of-drop p fields i (omega arith) in
    let from_is = c.loop-field.invariant.from_is in
    let width : c.width_of-width.result ≡ width_of p f = c.width_of-width.ensures.width in
    let low : 8 * length bytes - (c.loop-field.from + width_of p f) ≡ bits_of p (drop (i + 1) fields) = omega arith in
    let value : c.bits_of_bytes.result ≡ slice (number_of bytes) (bits_of p (drop (i + 1) fields)) (width_of p f) =
    c.bits_of_bytes.ensures
    ∙ ap (λ (w : ℕ). slice (number_of bytes) (8 * length bytes - (c.loop-field.from + w)) w) width
    ∙ ap (λ (n : ℕ). slice (number_of bytes) n (width_of p f)) low in
    let put : c.put_at.new.items ≡ slice_set s f (slice (number_of bytes) (bits_of p (drop (i + 1) fields)) (width_of p f)) =
    c.put_at.ensures ∙ ap (slice_set s f) value in
    record {
      from_is = omega arith;
      rest =
          ap (set_fields p (drop (i + 1) fields) (number_of bytes)) put
          ∙ sym (at_drop_more (λ (fs : List ℕ). set_fields p fs (number_of bytes) s) fields i 0 (omega arith))
          ∙ c.loop-field.invariant.rest;
    }

pub returns : goal.returns
returns c =
    let p = c.args.program.now in
    sym (at_drop_all (λ (fs : List ℕ). set_fields p fs (number_of c.args.bytes.now) c.loop-field.state) c.args.fields.now c.loop-field.field-index (omega arith))
    ∙ c.loop-field.invariant.rest
