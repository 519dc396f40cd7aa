use Rattle.std.proofs.Common.{◌≡◌, ℕ, List, ◌+◌, ◌-◌, ◌*◌, ◌^◌, ◌<◌, ◌≤◌, length, get_or, drop, ap, sym, subst, arith}
use Rattle.std.specs.Prelude.{sum}
use Rattle.std.proofs.lemmas.List.{drop_all}
use Rattle.std.proofs.lemmas.List.Elements.{AllZip-get_or, length_all_zip}
use Rattle.std.proofs.lemmas.Nat.{pow_pos}
use Rattle.rmt_bits.specs.Bits.{number_of}
use Rattle.rmt_ast.specs.WellFormed.{Fits}
use Rattle.rmt_config.specs.Rooms.{args_as_one}
use Rattle.rmt_pack.proofs.BesideLaws.{args-step}
use Rattle.rmt_pack.proofs.TcamLaws.{sum-drop}
use Rattle.rmt_pack.proofs.encoding.put_args.Goals as goal

pub bounds-args-at : goal.bounds-args-at
bounds-args-at c =
    let same = length_all_zip Fits c.args.widths.now c.args.args.now c.requires.fit in
    let lt = c.loop-at-test.true in
    omega (arith, same, lt)

-- there is room for an argument below those so far
room-left : (ws : List ℕ) (at above : ℕ) → at < length ws → sum (drop at ws) ≤ above → get_or ws at 0 ≤ above
room-left ws at above lt room = let parts = sum-drop ws at lt in omega (arith, parts, room)

pub overflow_sub-above-in-loop-at : goal.overflow_sub-above-in-loop-at
overflow_sub-above-in-loop-at c = room-left c.args.widths.now c.loop-at.at c.loop-at.above c.loop-at-test.true c.loop-at.invariant.room

pub bytes_of_bits-requires-clause-short : goal.bytes_of_bits-requires-clause-short
bytes_of_bits-requires-clause-short c = c.requires.widths c.loop-at.at 0 c.loop-at-test.true

pub bytes_of_bits-requires-clause-within : goal.bytes_of_bits-requires-clause-within
bytes_of_bits-requires-clause-within c =
    let room = room-left c.args.widths.now c.loop-at.at c.loop-at.above c.loop-at-test.true c.loop-at.invariant.room in
    let within = c.loop-at.invariant.within in
    omega (arith, room, within)

pub bytes_of_bits-requires-clause-small : goal.bytes_of_bits-requires-clause-small
bytes_of_bits-requires-clause-small c = AllZip-get_or Fits c.args.widths.now c.args.args.now c.loop-at.at 0 0 c.requires.fit c.loop-at-test.true

pub loop-at-preserved : goal.loop-at-preserved
loop-at-preserved c =
    let ws = c.args.widths.now in
    let vs = c.args.args.now in
    let at = c.loop-at.at in
    let new = c.bytes_of_bits.new.into in
    let inv = c.loop-at.invariant in
    let long : 8 * length c.loop-at.bytes ≡ 8 * length new = ap (λ n. 8 * n) (sym c.bytes_of_bits.auto.into) in
    let total = 2 ^ c.args.low * args_as_one ws vs in
    let step = args-step (number_of c.loop-at.bytes) (number_of new) (8 * length c.loop-at.bytes) c.loop-at.above total ws vs at c.loop-at-test.true c.requires.fit
    inv.room inv.within inv.small inv.value c.bytes_of_bits.ensures in
    let within : c.loop-at.above - get_or ws at 0 ≤ 8 * length c.loop-at.bytes = let le = inv.within in omega (arith, le) in
    record {
      room = step.0;
      within = subst (λ n. c.loop-at.above - get_or ws at 0 ≤ n) long within;
      small = subst (λ n. number_of new < 2 ^ (n - (c.loop-at.above - get_or ws at 0))) long step.1;
      value = subst (λ n. number_of new + 2 ^ (n - (c.loop-at.above - get_or ws at 0)) * args_as_one (drop (at + 1) ws) (drop (at + 1) vs) ≡ total) long step.2;
    }

pub loop-at-init : goal.loop-at-init
loop-at-init c =
    let n = number_of c.args.bytes.now in
    let low = c.args.low in
    let total = args_as_one c.args.widths.now c.args.args.now in
    let room = c.requires.room in
    let zero = c.requires.zero in
    let left : 8 * length c.args.bytes.now - (length c.args.bytes.now * 8 - low) ≡ low = omega (arith, room) in
    record {
      room = omega (arith, room);
      within = omega arith;
      small = subst (λ k. n < 2 ^ k) (sym left) (subst (λ m. m < 2 ^ low) (sym zero) (pow_pos low));
      value = subst (λ k. n + 2 ^ k * total ≡ 2 ^ low * total) (sym left) (omega (arith, zero));
    }

pub returns : goal.returns
returns c =
    let free = 2 ^ (8 * length c.loop-at.bytes - c.loop-at.above) in
    let value = subst (λ (ws : List ℕ). number_of c.loop-at.bytes + free * args_as_one ws (drop c.loop-at.at c.args.args.now) ≡ 2 ^ c.args.low * args_as_one c.args.widths.now c.args.args.now)
    (drop_all c.loop-at.at c.args.widths.now c.loop-at-test.false) c.loop-at.invariant.value in
    omega (arith, value)
