use Rattle.std.proofs.Common.{◌≡◌, ◌+◌, ◌-◌, ◌/◌, length, ap, ◌∙◌, arith}
use Rattle.std.proofs.lemmas.List.{length-replicate, with_items_is}
use Rattle.rmt_bits.specs.Bits.{number_of}
use Rattle.rmt_bits.proofs.ByteLaws.{number_of-cleared}
use Rattle.rmt_config.specs.BlockCounts.{divided_up}
use Rattle.rmt_pack.proofs.encoding.args_bytes.Goals as goal
use Rattle.rmt_pack.proofs.encoding.args_bytes.Goals.{After-deref_mut}

-- how many bytes there are
size : (c : After-deref_mut) → length c.deref_mut.result.now ≡ divided_up c.args.bits 8
size c = ap length (c.deref_mut.ensures.value ∙ c.in_ok-bytes.ensures) ∙ length-replicate _ _

pub put_args-requires-clause-few : goal.put_args-requires-clause-few
put_args-requires-clause-few c =
    let few = c.requires.few in
    let long : length c.deref_mut.result.now ≡ (c.args.bits + 8 - 1) / 8 = size c in
    omega (arith, few, long)

pub put_args-requires-clause-zero : goal.put_args-requires-clause-zero
put_args-requires-clause-zero c = number_of-cleared c.deref_mut.result.now _ (c.deref_mut.ensures.value ∙ c.in_ok-bytes.ensures)

pub put_args-requires-clause-room : goal.put_args-requires-clause-room
put_args-requires-clause-room c =
    let room = c.requires.room in
    let long : length c.deref_mut.result.now ≡ (c.args.bits + 8 - 1) / 8 = size c in
    omega (arith, room, long)

pub returns-clause-long : goal.returns-clause-long
returns-clause-long c =
    let same = c.put_args.auto.bytes in
    ap length (with_items_is c.in_ok-bytes.bytes c.put_args.new.bytes (same ∙ c.deref_mut.ensures.len)) ∙ same ∙ size (goal.at.returns-clause-long c).After-deref_mut

pub returns-clause-number : goal.returns-clause-number
returns-clause-number c = ap number_of (with_items_is c.in_ok-bytes.bytes c.put_args.new.bytes (c.put_args.auto.bytes ∙ c.deref_mut.ensures.len)) ∙ c.put_args.ensures
