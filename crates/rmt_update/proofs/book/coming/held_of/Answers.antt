use Rattle.std.proofs.Common.{◌≡◌, ◌≤◌, ◌*◌, ◌^◌, ℕ, List, subst, sym, ◌∙◌, arith}
use Rattle.std.specs.Prelude.{All, IfOk, sum}
use Rattle.rmt_bits.specs.Bits.{number_of}
use Rattle.rmt_config.specs.Rooms.{args_as_one}
use Rattle.rmt_update.proofs.ComingLaws.{own-params, some-action}
use Rattle.rmt_book.proofs.NamedLaws.{params-low}
use Rattle.rmt_update.proofs.book.coming.held_of.Goals as goal

pub args_bytes-requires-clause-narrow : goal.args_bytes-requires-clause-narrow
args_bytes-requires-clause-narrow c =
    subst (λ (ws : List ℕ). All (λ w. w ≤ 128) ws) (sym c.as_slice.ensures) (params-low c.args.table.now c.args.entry.now.action c.in-Some.action.now c.requires.formed c.in-Some.ensures.item)

pub unreachable-requires : goal.unreachable-requires
unreachable-requires c = some-action c.args.table.now c.args.entry.now c.requires.entry c.in-None.ensures.item

pub returns-clause-number : goal.returns-clause-number
returns-clause-number c =
    let data_of = λ (ws vs : List ℕ). IfOk c.args_bytes.result (λ bytes. number_of bytes.items ≡ args_as_one ws vs) in
    let all = args_as_one c.as_slice.result.now c.as_slice-args.result.now in
    let once : 2 ^ 0 * all ≡ all = omega arith in
    let number = subst (λ (n : ℕ). IfOk c.args_bytes.result (λ bytes. number_of bytes.items ≡ n)) once c.args_bytes.ensures.number in
    subst (λ (ws : List ℕ). data_of ws c.args.entry.now.args) (c.as_slice.ensures ∙ sym (own-params c.args.table.now c.args.entry.now c.in-Some.action.now c.in-Some.ensures.item))
    (subst (data_of c.as_slice.result.now) c.as_slice-args.ensures number)

pub args_bytes-requires-clause-room : goal.args_bytes-requires-clause-room
args_bytes-requires-clause-room c =
    let room = subst (λ (ws : List ℕ). sum ws ≤ c.args.held) (sym c.as_slice.ensures) (c.requires.room c.in-Some.action.now c.in-Some.ensures.item) in
    omega (arith, room)

pub returns-clause-size : goal.returns-clause-size
returns-clause-size c = c.args_bytes.ensures.long
