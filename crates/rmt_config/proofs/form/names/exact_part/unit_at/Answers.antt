use Rattle.std.proofs.Common.{◌≡◌, ◌+◌, ◌*◌, ◌/◌, ◌<◌, arith}
use Rattle.std.proofs.lemmas.Nat.{div_below, mul-le}
use Rattle.rmt_config.proofs.form.names.exact_part.unit_at.Goals as goal

pub piece_at-requires : goal.piece_at-requires
piece_at-requires c =
    let place = c.args.place in
    let w = c.args.cells.now.width in
    let d = c.args.cells.now.quanta in
    let same : 1024 * d ≡ d * 1024 = omega arith in
    let low : place.row / 1024 < d = div_below place.row 1024 d (omega arith) (omega (arith, c.requires.low, same)) in
    let le = mul-le (place.row / 1024 * 4 + place.way + 1) w (d * 4) w (omega (arith, low, c.requires.four)) (omega arith) in
    let all : d * 4 * w ≡ d * (4 * w) = omega arith in
    omega (arith, le, all, c.requires.cells.blocks)
