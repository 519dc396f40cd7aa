use Rattle.std.proofs.Common.{◌≡◌, ℕ, List, [], Option, Some, None, sym, ap, subst, ◌∙◌, arith}
use Rattle.std.specs.Prelude.{slice_get, slice_index, option_map, unwrap_or}
use Rattle.std.proofs.lemmas.Option.{slice_get-get_or, slice_get_past}
use Rattle.std.specs.Option.{option_or}
use Rattle.rmt_chip.specs.Types.{Vliw, Operation}
use Rattle.rmt_config.specs.Life.{written, op_on}
use Rattle.rmt_chip.specs.Ran.{running_of}
use Rattle.rmt_chip.specs.Runnable.{InstructionFits}
use Rattle.rmt_chip.specs.Writes.{last_on}
use Rattle.rmt_chip.proofs.WriteLaws.{most-le}
use Rattle.rmt_chip.proofs.operands.push_ran.Goals as goal

pub push_instruction-requires-clause-fits : goal.push_instruction-requires-clause-fits
push_instruction-requires-clause-fits c =
    let it = c.index-code-at.result in
    subst InstructionFits (sym c.index-code-at.is) (c.requires.fit c.from-at.result it (omega arith))

pub push_instruction-requires-clause-room : goal.push_instruction-requires-clause-room
push_instruction-requires-clause-room c =
    let it = c.index-code-at.result in
    let found : slice_get c.args.code.now c.from-at.result ≡ Some it = slice_get-get_or c.args.code.now c.from-at.result it (omega arith) ∙ ap Some (sym c.index-code-at.is) in
    let most = most-le c.args.code.now c.from-at.result it found in
    let room = c.requires.room in
    omega arith

pub returns-then-at-code-clause-len : goal.returns-then-at-code-clause-len
returns-then-at-code-clause-len c =
    let it = c.index-code-at.result in
    let found : slice_get c.args.code.now c.from-at.result ≡ Some it = slice_get-get_or c.args.code.now c.from-at.result it (omega arith) ∙ ap Some (sym c.index-code-at.is) in
    let most = most-le c.args.code.now c.from-at.result it found in
    let len = c.push_instruction.ensures.len in
    omega arith

pub returns-then-at-code-clause-due : goal.returns-then-at-code-clause-due
returns-then-at-code-clause-due c = λ w.
    let it = c.index-code-at.result in
    let words = λ (v : ℕ). slice_index c.args.vector.now v in
    let ran = c.args.ran in
    let found : slice_get c.args.code.now ran.code ≡ Some it =
    ap (slice_get c.args.code.now) (sym c.from-at.ensures) ∙ slice_get-get_or c.args.code.now c.from-at.result it (omega arith) ∙ ap Some (sym c.index-code-at.is) in
    let run = running_of c.args.code.now c.args.looked.now ran in
    let ops : run.ops ≡ it.ops = ap (λ (o : Option Vliw). unwrap_or (option_map (λ (v : Vliw). v.ops) o) []) found in
    c.push_instruction.ensures.due w
    ∙ ap (λ (h : ℕ). option_or (option_map (written words h) (op_on w it.ops)) (last_on c.args.due.now.items w)) c.record-held.ensures.value
    ∙ ap (λ (os : List Operation). option_or (option_map (written words run.held) (op_on w os)) (last_on c.args.due.now.items w)) (sym ops)

pub returns-else-at-code-clause-due : goal.returns-else-at-code-clause-due
returns-else-at-code-clause-due c = λ w.
    let words = λ (v : ℕ). slice_index c.args.vector.now v in
    let ran = c.args.ran in
    let past : slice_get c.args.code.now ran.code ≡ None = ap (slice_get c.args.code.now) (sym c.from-at.ensures) ∙ slice_get_past c.args.code.now c.from-at.result (omega arith) in
    let run = running_of c.args.code.now c.args.looked.now ran in
    let ops : run.ops ≡ [] = ap (λ (o : Option Vliw). unwrap_or (option_map (λ (v : Vliw). v.ops) o) []) past in
    ap (λ (os : List Operation). option_or (option_map (written words run.held) (op_on w os)) (last_on c.args.due.now.items w)) (sym ops)
