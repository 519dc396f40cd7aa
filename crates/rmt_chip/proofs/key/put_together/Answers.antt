use Rattle.std.proofs.Common.{◌≡◌, ◌+◌, ◌*◌, ◌-◌, ◌^◌, ◌≤◌, ◌<◌, ℕ, length, get_or, take, ap, sym, ◌∙◌, rules, arith}
use Rattle.std.specs.Prelude.{slice_index}
use Rattle.std.proofs.lemmas.List.{take_all}
use Rattle.rmt_bits.specs.declared.lane.Lane.{Lane}
use Rattle.rmt_bits.specs.Bits.{number_of, deposit}
use Rattle.rmt_config.specs.LaneForm.{bits_of_lanes}
use Rattle.rmt_config.specs.Life.{key_of, lane_of}
use Rattle.rmt_chip.proofs.LaneLaws.{bits_of_lanes_more, bits_of_lanes-le, key_of_more, filled_more}
use Rattle.rmt_chip.proofs.key.put_together.Goals as goal
use Rattle.rmt_bits.proofs.ByteLaws.{number_of-cleared}

abbrev no_lane : Lane
no_lane = record { word = 0; low = 0; len = 0 }

pub bytes_of_bits-requires-clause-within : goal.bytes_of_bits-requires-clause-within
bytes_of_bits-requires-clause-within c =
    let i = c.loop-piece.piece-index in
    let more = bits_of_lanes_more c.args.lanes.now i no_lane (omega arith) in
    let most = bits_of_lanes-le c.args.lanes.now (i + 1) in
    let at = c.loop-piece.invariant.at_is in
    let whole = c.requires.room in
    omega arith

pub overflow_add-at : goal.overflow_add-at
overflow_add-at c =
    let i = c.loop-piece.piece-index in
    let more = bits_of_lanes_more c.args.lanes.now i no_lane (omega arith) in
    let most = bits_of_lanes-le c.args.lanes.now (i + 1) in
    let at = c.loop-piece.invariant.at_is in
    let whole = c.requires.room in
    let short = c.requires.short in
    omega arith

pub loop-piece-preserved : goal.loop-piece-preserved
loop-piece-preserved c =
    let i = c.loop-piece.piece-index in
    let lanes = c.args.lanes.now in
    let words = λ (w : ℕ). slice_index c.args.vector.now w in
    let lane = get_or lanes i no_lane in
    let more = bits_of_lanes_more lanes i no_lane (omega arith) in
    let most = bits_of_lanes-le lanes (i + 1) in
    let at = c.loop-piece.invariant.at_is in
    let whole = c.requires.room in
    let len : c.from-at.result ≡ lane.len = c.from-at.ensures in
    let within : c.loop-piece.at + lane.len ≤ 8 * length c.args.buffer.now = omega arith in
    let bits : c.from.result ≡ lane_of words lane = c.from.ensures ∙ c.lane-bits.ensures.value in
    let small : c.from.result < 2 ^ lane.len = rw c.from.ensures c.lane-bits.ensures.within in
    let size : length c.loop-piece.buffer ≡ length c.args.buffer.now = omega arith in
    let put = c.bytes_of_bits.ensures ∙ ap (λ (n : ℕ). deposit (number_of c.loop-piece.buffer) (8 * n - (c.loop-piece.at + lane.len)) lane.len c.from.result) size in
    let filled = filled_more (number_of c.loop-piece.buffer) (number_of c.bytes_of_bits.new.into) (key_of words (take i lanes)) c.loop-piece.at lane.len c.from.result (8 * length c.args.buffer.now) c.loop-piece.invariant.so_far within small put in
    record {
      at_is = omega arith;
      so_far = filled
          ∙ ap (λ (x : ℕ). (2 ^ lane.len * key_of words (take i lanes) + x) * 2 ^ (8 * length c.args.buffer.now - (c.loop-piece.at + lane.len))) bits
          ∙ ap (λ (k : ℕ). k * 2 ^ (8 * length c.args.buffer.now - (c.loop-piece.at + lane.len))) (sym (key_of_more words lanes i no_lane (omega arith)))
          ∙ ap (λ (n : ℕ). key_of words (take (i + 1) lanes) * 2 ^ (8 * length c.args.buffer.now - (c.loop-piece.at + n))) (sym len);
    }

pub returns : goal.returns
returns c =
    let lanes = c.args.lanes.now in
    let words = λ (w : ℕ). slice_index c.args.vector.now w in
    let all = take_all c.loop-piece.piece-index lanes (omega arith) in
    let whole = ap bits_of_lanes all in
    let sum = c.loop-piece.invariant.at_is in
    let at : c.loop-piece.at ≡ 8 * length c.args.buffer.now = omega arith in
    let none : 8 * length c.args.buffer.now - c.loop-piece.at ≡ 0 = omega arith in
    c.loop-piece.invariant.so_far
    ∙ ap (λ (n : ℕ). key_of words (take c.loop-piece.piece-index lanes) * 2 ^ n) none
    ∙ (let e : key_of words (take c.loop-piece.piece-index lanes) * 2 ^ 0 ≡ key_of words (take c.loop-piece.piece-index lanes) = omega arith in e)
    ∙ ap (key_of words) all

pub loop-piece-init : goal.loop-piece-init
loop-piece-init c =
    let zeros = c.fill.ensures.after (λ y h. search rules) in
    let none = number_of-cleared c.fill.new.self (length c.args.buffer.now) zeros in
    let size = c.key_bits.ensures in
    let room = c.requires.room in
    record { at_is = omega arith; so_far = omega arith }
