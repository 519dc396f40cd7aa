use Rattle.std.proofs.Common.{◌≡◌, ℕ, ◌+◌, ◌*◌, ◌/◌, ◌%◌, ◌<◌, ap, ◌∙◌, arith}
use Rattle.std.proofs.lemmas.Nat.{div_below, mod_below, mul-add-lt, mul-le}
use Rattle.rmt_config.specs.declared.form.layout.CellLayout.{CellLayout}
use Rattle.rmt_config.specs.Layouts.{IsLayout, local_of, quantum_of, unit_of}
use Rattle.rmt_config.proofs.form.names.key_bytes.spot_of.Goals as goal
use Rattle.rmt_config.proofs.ToldBits.{some_place}

-- a cell has its place in a quantum below the cells of its ways
local-low : (l : CellLayout) (n : ℕ) → IsLayout l → n < l.ways * l.quanta * l.way → local_of l n < l.way * l.ways
local-low l n is lt =
    mul-add-lt (n / l.way / l.quanta) l.way (n % l.way) l.ways
    (div_below (n / l.way) l.quanta l.ways is.some_quanta (div_below n l.way (l.ways * l.quanta) is.some_way lt)) (mod_below n l.way is.some_way)

cells-few : (l : CellLayout) → IsLayout l → l.way * l.ways < 268435457
cells-few l is = let most = mul-le l.way l.ways 67108864 4 (omega (arith, is.most_way)) is.most_ways in omega (arith, most)

row-few : (l : CellLayout) → IsLayout l → l.rows * l.per < 134217729
row-few l is = let most = mul-le l.rows l.per 2048 65536 is.most_rows (omega (arith, is.most_per)) in omega (arith, most)

unit-low : (l : CellLayout) (n : ℕ) → IsLayout l → n < l.ways * l.quanta * l.way → unit_of l (quantum_of l n) (local_of l n) < 27787264
unit-low l n is lt =
    let inside : l.way * l.ways ≡ l.ways * l.way = omega arith in
    let unit = div_below (local_of l n) (l.rows * l.per) l.units (some_place l is) (omega (arith, local-low l n is lt, inside, is.enough)) in
    let low = mul-add-lt (quantum_of l n) l.units (local_of l n / (l.rows * l.per)) l.quanta (mod_below (n / l.way) l.quanta is.some_quanta) unit in
    let most = mul-le l.units l.quanta 262144 106 (omega (arith, is.most_units)) is.most_quanta in
    omega (arith, low, most)

pub joined-local-requires : goal.joined-local-requires
joined-local-requires c =
    let l = c.args.layout.now in
    let is = c.requires.layout.is in
    omega (arith, local-low l c.args.cell is c.requires.cell, cells-few l is)

pub joined-in_unit-requires : goal.joined-in_unit-requires
joined-in_unit-requires c = omega (arith, row-few c.args.layout.now c.requires.layout.is)

pub nonzero_div-local : goal.nonzero_div-local
nonzero_div-local c = omega (arith, some_place c.args.layout.now c.requires.layout.is, c.joined-in_unit.ensures)

pub joined-requires : goal.joined-requires
joined-requires c =
    let l = c.args.layout.now in
    let low = unit-low l c.args.cell c.requires.layout.is c.requires.cell in
    let unit : quantum_of l c.args.cell * l.units + c.joined-local.result / c.joined-in_unit.result ≡ unit_of l (quantum_of l c.args.cell) (local_of l c.args.cell) =
    unit-is l c.args.cell c.joined-local.result c.joined-in_unit.result c.joined-local.ensures c.joined-in_unit.ensures in
    omega (arith, low, unit)
  where
    unit-is : (l : CellLayout) (n local row : ℕ) → local ≡ local_of l n → row ≡ l.rows * l.per + 0
        → quantum_of l n * l.units + local / row ≡ unit_of l (quantum_of l n) (local_of l n)
    unit-is l n local row el er =
        let e : row ≡ l.rows * l.per = omega (arith, er) in
        ap (λ m. quantum_of l n * l.units + m / row) el ∙ ap (λ m. quantum_of l n * l.units + local_of l n / m) e

pub joined-requires-2 : goal.joined-requires-2
joined-requires-2 c =
    let l = c.args.layout.now in
    let is = c.requires.layout.is in
    let here = mod_below c.joined-local.result l.per is.some_per in
    let low = mul-le (c.joined-local.result % l.per) l.entry 65536 131072 (omega (arith, here, is.most_per)) (omega (arith, is.most_entry)) in
    omega (arith, low)

pub returns-clause-unit : goal.returns-clause-unit
returns-clause-unit c =
    let l = c.args.layout.now in
    let quantum = quantum_of l c.args.cell in
    let row : c.joined-in_unit.result ≡ l.rows * l.per = omega (arith, c.joined-in_unit.ensures) in
    c.joined.ensures ∙ ap (λ n. quantum * l.units + n / c.joined-in_unit.result) c.joined-local.ensures
    ∙ ap (λ n. quantum * l.units + local_of l c.args.cell / n) row

pub returns-clause-row : goal.returns-clause-row
returns-clause-row c =
    let l = c.args.layout.now in
    let row : c.joined-in_unit.result ≡ l.rows * l.per = omega (arith, c.joined-in_unit.ensures) in
    ap (λ n. n % c.joined-in_unit.result / l.per) c.joined-local.ensures ∙ ap (λ n. local_of l c.args.cell % n / l.per) row

pub returns-clause-low : goal.returns-clause-low
returns-clause-low c =
    let l = c.args.layout.now in
    let low : c.joined-2.result ≡ c.joined-local.result % l.per * l.entry = omega (arith, c.joined-2.ensures) in
    low ∙ ap (λ n. n % l.per * l.entry) c.joined-local.ensures
