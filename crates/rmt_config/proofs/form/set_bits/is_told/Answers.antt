use Rattle.std.proofs.Common.{◌+◌, ◌*◌, ◌/◌, ◌%◌, ◌<◌, ℕ, arith}
use Rattle.std.proofs.lemmas.Nat.{div_below, mod_below, mul-add-lt, mul-le}
use Rattle.rmt_config.specs.declared.form.layout.CellLayout.{CellLayout}
use Rattle.rmt_config.specs.Layouts.{IsLayout}
use Rattle.rmt_config.proofs.form.set_bits.is_told.Goals as goal

-- a row of a quantum, and a quantum of a way, have few numbers
row-low : (l : CellLayout) (unit row : ℕ) → IsLayout l → row < l.rows → unit % l.units * l.rows + row < 536870912
row-low l unit row is low =
    let small = mul-add-lt (unit % l.units) l.rows row l.units (mod_below unit l.units is.some_units) low in
    let big = mul-le l.units l.rows 262144 2048 (omega (arith, is.most_units)) is.most_rows in
    omega (arith, small, big)

quantum-low : (l : CellLayout) (unit index : ℕ) → IsLayout l → unit < l.quanta * l.units → index < l.ways * l.way → index / l.way * l.quanta + unit / l.units < 425
quantum-low l unit index is there within =
    let small = mul-add-lt (index / l.way) l.quanta (unit / l.units) l.ways (div_below index l.way l.ways is.some_way within) (div_below unit l.units l.quanta is.some_units there) in
    let big = mul-le l.ways l.quanta 4 106 is.most_ways is.most_quanta in
    omega (arith, small, big)

pub joined-high-requires : goal.joined-high-requires
joined-high-requires c = let low = row-low c.args.listed.now.layout c.args.unit c.args.row c.requires.listed.layout c.requires.row in omega (arith, low)

pub joined-index-requires : goal.joined-index-requires
joined-index-requires c =
    let low = row-low c.args.listed.now.layout c.args.unit c.args.row c.requires.listed.layout c.requires.row in
    let high : c.joined-high.result < 536870912 = omega (arith, c.joined-high.ensures, low) in
    let small = mul-add-lt c.joined-high.result c.args.listed.now.layout.per c.args.position 536870912 high c.if-position-layout.false in
    omega (arith, small, c.requires.listed.layout.most_per)

pub joined-requires : goal.joined-requires
joined-requires c =
    let l = c.args.listed.now.layout in
    let big = mul-le l.ways l.way 4 67108864 c.requires.listed.layout.most_ways (omega (arith, c.requires.listed.layout.most_way)) in
    omega (arith, big)

pub joined-high-requires-2 : goal.joined-high-requires-2
joined-high-requires-2 c =
    let low = quantum-low c.args.listed.now.layout c.args.unit c.joined-index.result c.requires.listed.layout c.requires.unit (omega (arith, c.if-index-joined.false, c.joined.ensures)) in
    omega (arith, low)

pub joined-requires-2 : goal.joined-requires-2
joined-requires-2 c =
    let l = c.args.listed.now.layout in
    let i = c.joined-index.result in
    let low = quantum-low l c.args.unit i c.requires.listed.layout c.requires.unit (omega (arith, c.if-index-joined.false, c.joined.ensures)) in
    let high : c.joined-high-2.result < 425 = omega (arith, c.joined-high-2.ensures, low) in
    let small = mul-add-lt c.joined-high-2.result l.way (i % l.way) 425 high (mod_below i l.way c.requires.listed.layout.some_way) in
    omega (arith, small, c.requires.listed.layout.most_way)
