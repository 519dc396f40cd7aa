use Rattle.std.proofs.Common.{◌≡◌, ◌+◌, ◌-◌, ◌/◌, length, ap, sym, ◌∙◌, arith}
use Rattle.std.specs.Prelude.{sum}
use Rattle.std.proofs.lemmas.List.{length-replicate, with_items_is}
use Rattle.rmt_bits.specs.Bits.{bytes_of, number_of}
use Rattle.rmt_bits.proofs.ByteLaws.{bytes_of-number_of, number_of-cleared}
use Rattle.rmt_config.specs.BlockCounts.{divided_up}
use Rattle.rmt_pack.proofs.encoding.tests_bytes.Goals as goal
use Rattle.rmt_pack.proofs.encoding.tests_bytes.Goals.{After-deref_mut}

-- how many bytes there are
size : (c : After-deref_mut) → length c.deref_mut.result.now ≡ divided_up c.sum_of-bits.result 8
size c = ap length (c.deref_mut.ensures.value ∙ c.in_ok-bytes.ensures) ∙ length-replicate _ _

pub sum_of-bits-requires : goal.sum_of-bits-requires
sum_of-bits-requires c = let few = c.requires.few in omega (arith, few)

pub bytes_for-requires : goal.bytes_for-requires
bytes_for-requires c =
    let few = c.requires.few in
    let bits = c.sum_of-bits.ensures in
    omega (arith, few, bits)

pub divide_up-requires : goal.divide_up-requires
divide_up-requires c =
    let few = c.requires.few in
    let bits = c.sum_of-bits.ensures in
    omega (arith, few, bits)

pub put_tests-requires-clause-few : goal.put_tests-requires-clause-few
put_tests-requires-clause-few c =
    let few = c.requires.few in
    let bits = c.sum_of-bits.ensures in
    let long : length c.deref_mut.result.now ≡ (c.sum_of-bits.result + 8 - 1) / 8 = size (goal.at.put_tests-requires-clause-few c).After-deref_mut in
    omega (arith, few, bits, long)

pub put_tests-requires-clause-zero : goal.put_tests-requires-clause-zero
put_tests-requires-clause-zero c = number_of-cleared c.deref_mut.result.now _ (c.deref_mut.ensures.value ∙ c.in_ok-bytes.ensures)

pub put_tests-requires-clause-room : goal.put_tests-requires-clause-room
put_tests-requires-clause-room c =
    let bits = c.sum_of-bits.ensures in
    let count : c.divide_up.result ≡ (c.sum_of-bits.result + 8 - 1) / 8 = c.divide_up.ensures in
    let long : length c.deref_mut.result.now ≡ (c.sum_of-bits.result + 8 - 1) / 8 = size (goal.at.put_tests-requires-clause-room c).After-deref_mut in
    omega (arith, bits, count, long)

pub returns-clause-long : goal.returns-clause-long
returns-clause-long c =
    let same = c.put_tests.auto.bytes in
    ap length (with_items_is c.in_ok-bytes.bytes c.put_tests.new.bytes (same ∙ c.deref_mut.ensures.len)) ∙ same ∙ size (goal.at.returns-clause-long c).After-deref_mut ∙ ap (λ n. divided_up n 8) c.sum_of-bits.ensures

pub returns-clause-number : goal.returns-clause-number
returns-clause-number c = ap number_of (with_items_is c.in_ok-bytes.bytes c.put_tests.new.bytes (c.put_tests.auto.bytes ∙ c.deref_mut.ensures.len)) ∙ c.put_tests.ensures.number

pub returns-clause-bytes : goal.returns-clause-bytes
returns-clause-bytes c =
    let new = c.put_tests.new.bytes in
    let same = c.put_tests.auto.bytes in
    let long : length new ≡ divided_up (sum c.args.widths.now) 8 = same ∙ size (goal.at.returns-clause-bytes c).After-deref_mut ∙ ap (λ n. divided_up n 8) c.sum_of-bits.ensures in
    with_items_is c.in_ok-bytes.bytes new (same ∙ c.deref_mut.ensures.len)
    ∙ sym (bytes_of-number_of new c.put_tests.ensures.bytes) ∙ ap (λ n. bytes_of n (number_of new)) long ∙ ap (bytes_of (divided_up (sum c.args.widths.now) 8)) c.put_tests.ensures.number
