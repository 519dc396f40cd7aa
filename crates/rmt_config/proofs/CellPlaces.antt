-- The numbers of cells, of their quanta, units, rows and positions, and back.
use Rattle.std.proofs.Common.{◌≡◌, ℕ, ◌+◌, ◌*◌, ◌/◌, ◌%◌, ◌<◌, ◌≤◌, sym, ap, ◌∙◌, arith}
use Rattle.std.proofs.lemmas.Nat.{div-add-mod', mul-le, mul-lt, mul-add-lt, div-mul-add, mod-mul-add, mod_below, div_below}
use Rattle.rmt_config.specs.declared.form.layout.CellLayout.{CellLayout}
use Rattle.rmt_config.specs.Layouts.{number_in, quantum_of, local_of, unit_of, row_of, position_of, index_in, IsLayout}

-- ---- rows of m, d of them at a time

-- a number is its digits in the base m, and the higher of these in the base d
digits : (a d m : ℕ) → a ≡ a / m / d * (d * m) + (a / m % d * m + a % m)
digits a d m =
    let low : a / m * m + a % m ≡ a = div-add-mod' a m in
    let high : a / m / d * d + a / m % d ≡ a / m = div-add-mod' (a / m) d in
    let both : (a / m / d * d + a / m % d) * m + a % m ≡ a = ap (λ n. n * m + a % m) high ∙ low in
    sym both ∙ spread (a / m / d) (a / m % d) (a % m)
  where
    spread : (q r s : ℕ) → (q * d + r) * m + s ≡ q * (d * m) + (r * m + s)
    spread q r s = omega arith

lower-lt : (a d m : ℕ) → 0 < d → 0 < m → a / m % d * m + a % m < d * m
lower-lt a d m some_d some_m =
    let lt = mul-add-lt (a / m % d) m (a % m) d (mod_below (a / m) d some_d) (mod_below a m some_m) in
    let e : m * d ≡ d * m = omega arith in
    rw (← e) lt

pub mod-rows : (a d m : ℕ) → 0 < d → 0 < m → a % (d * m) ≡ a / m % d * m + a % m
mod-rows a d m some_d some_m =
    ap (λ n. n % (d * m)) (digits a d m) ∙ mod-mul-add (a / m / d) (d * m) (a / m % d * m + a % m) (lower-lt a d m some_d some_m)

pub div-rows : (a d m : ℕ) → 0 < d → 0 < m → a / (d * m) ≡ a / m / d
div-rows a d m some_d some_m =
    ap (λ n. n / (d * m)) (digits a d m) ∙ div-mul-add (a / m / d) (d * m) (a / m % d * m + a % m) (lower-lt a d m some_d some_m)

pub mod-div_rows : (a d m : ℕ) → 0 < d → 0 < m → a % (d * m) / m ≡ a / m % d
mod-div_rows a d m some_d some_m =
    ap (λ n. n / m) (mod-rows a d m some_d some_m) ∙ div-mul-add (a / m % d) m (a % m) (mod_below a m some_m)

pub mod-mod_rows : (a d m : ℕ) → 0 < d → 0 < m → a % (d * m) % m ≡ a % m
mod-mod_rows a d m some_d some_m =
    ap (λ n. n % m) (mod-rows a d m some_d some_m) ∙ mod-mul-add (a / m % d) m (a % m) (mod_below a m some_m)

-- a number from its three digits
pub three-high : (q r s d m : ℕ) → r < d → s < m → ((q * d + r) * m + s) / (d * m) ≡ q
three-high q r s d m lr ls =
    div-rows ((q * d + r) * m + s) d m (omega arith) (omega arith)
    ∙ ap (λ n. n / d) (div-mul-add (q * d + r) m s ls) ∙ div-mul-add q d r lr

pub three-middle : (q r s d m : ℕ) → r < d → s < m → ((q * d + r) * m + s) % (d * m) / m ≡ r
three-middle q r s d m lr ls =
    mod-div_rows ((q * d + r) * m + s) d m (omega arith) (omega arith)
    ∙ ap (λ n. n % d) (div-mul-add (q * d + r) m s ls) ∙ mod-mul-add q d r lr

pub three-of : (a d m : ℕ) → 0 < d → 0 < m → (a / (d * m) * d + a % (d * m) / m) * m + a % m ≡ a
three-of a d m some_d some_m =
    let e1 = div-rows a d m some_d some_m in
    let e2 = mod-div_rows a d m some_d some_m in
    let high : a / m / d * d + a / m % d ≡ a / m = div-add-mod' (a / m) d in
    rw (e1, e2, high) (div-add-mod' a m)

-- ---- units, rows and positions

pub index_unit : (l : CellLayout) (unit row position : ℕ) → row < l.rows → position < l.per
    → index_in l unit row position / (l.rows * l.per) ≡ unit % l.units
index_unit l unit row position lr lp = three-high (unit % l.units) row position l.rows l.per lr lp

pub index_row : (l : CellLayout) (unit row position : ℕ) → row < l.rows → position < l.per → row_of l (index_in l unit row position) ≡ row
index_row l unit row position lr lp = three-middle (unit % l.units) row position l.rows l.per lr lp

pub index_position : (l : CellLayout) (unit row position : ℕ) → position < l.per → position_of l (index_in l unit row position) ≡ position
index_position l unit row position lp = mod-mul-add (unit % l.units * l.rows + row) l.per position lp

-- the unit of what stands at an index in the quantum of a unit is that unit
pub unit_back : (l : CellLayout) (unit row position : ℕ) → row < l.rows → position < l.per
    → unit_of l (unit / l.units) (index_in l unit row position) ≡ unit
unit_back l unit row position lr lp = rw (index_unit l unit row position lr lp) (div-add-mod' unit l.units)

pub index_below : (l : CellLayout) (unit row position : ℕ) → 0 < l.units → row < l.rows → position < l.per
    → index_in l unit row position < l.units * (l.rows * l.per)
index_below l unit row position some lr lp =
    let inner : row * l.per + position < l.per * l.rows = mul-add-lt row l.per position l.rows lr lp in
    let e : l.per * l.rows ≡ l.rows * l.per = omega arith in
    let small : row * l.per + position < l.rows * l.per = rw (← e) inner in
    let lt : unit % l.units * (l.rows * l.per) + (row * l.per + position) < l.rows * l.per * l.units =
    mul-add-lt (unit % l.units) (l.rows * l.per) (row * l.per + position) l.units (mod_below unit l.units some) small in
    let one : index_in l unit row position ≡ unit % l.units * (l.rows * l.per) + (row * l.per + position) = spread (unit % l.units) row l.rows l.per position in
    let other : l.rows * l.per * l.units ≡ l.units * (l.rows * l.per) = omega arith in
    rw (one, ← other) lt
  where
    spread : (q r d m s : ℕ) → (q * d + r) * m + s ≡ q * (d * m) + (r * m + s)
    spread q r d m s = omega arith

-- an index is that of its unit, row and position
unit_mod : (l : CellLayout) (quantum i : ℕ) → i < l.units * (l.rows * l.per) → 0 < l.rows * l.per → unit_of l quantum i % l.units ≡ i / (l.rows * l.per)
unit_mod l quantum i lt some = mod-mul-add quantum l.units (i / (l.rows * l.per)) (div_below i (l.rows * l.per) l.units some lt)

pub unit_quantum : (l : CellLayout) (quantum i : ℕ) → i < l.units * (l.rows * l.per) → 0 < l.rows * l.per → unit_of l quantum i / l.units ≡ quantum
unit_quantum l quantum i lt some = div-mul-add quantum l.units (i / (l.rows * l.per)) (div_below i (l.rows * l.per) l.units some lt)

pub index_back : (l : CellLayout) (quantum i : ℕ) → 0 < l.rows → 0 < l.per → 0 < l.rows * l.per → i < l.units * (l.rows * l.per)
    → index_in l (unit_of l quantum i) (row_of l i) (position_of l i) ≡ i
index_back l quantum i some_rows some_per some lt =
    ap (λ u. (u * l.rows + row_of l i) * l.per + position_of l i) (unit_mod l quantum i lt some) ∙ three-of i l.rows l.per some_rows some_per

-- ---- quanta

pub number_quantum : (l : CellLayout) (quantum i : ℕ) → 0 < l.way → quantum < l.quanta → quantum_of l (number_in l quantum i) ≡ quantum
number_quantum l quantum i some lt =
    ap (λ n. n % l.quanta) (div-mul-add (i / l.way * l.quanta + quantum) l.way (i % l.way) (mod_below i l.way some))
    ∙ mod-mul-add (i / l.way) l.quanta quantum lt

pub number_local : (l : CellLayout) (quantum i : ℕ) → 0 < l.way → quantum < l.quanta → local_of l (number_in l quantum i) ≡ i
number_local l quantum i some lt =
    let high = div-mul-add (i / l.way * l.quanta + quantum) l.way (i % l.way) (mod_below i l.way some) in
    let low = mod-mul-add (i / l.way * l.quanta + quantum) l.way (i % l.way) (mod_below i l.way some) in
    let top = div-mul-add (i / l.way) l.quanta quantum lt in
    rw (high, low, top) (div-add-mod' i l.way)

pub number_back : (l : CellLayout) (n : ℕ) → 0 < l.way → number_in l (quantum_of l n) (local_of l n) ≡ n
number_back l n some =
    let high = div-mul-add (n / l.way / l.quanta) l.way (n % l.way) (mod_below n l.way some) in
    let low = mod-mul-add (n / l.way / l.quanta) l.way (n % l.way) (mod_below n l.way some) in
    let top : n / l.way / l.quanta * l.quanta + n / l.way % l.quanta ≡ n / l.way = div-add-mod' (n / l.way) l.quanta in
    rw (high, low, top) (div-add-mod' n l.way)

pub local_below : (l : CellLayout) (n : ℕ) → 0 < l.way → 0 < l.quanta → n < l.ways * l.quanta * l.way → local_of l n < l.ways * l.way
local_below l n some some_quanta lt =
    let one : n / l.way < l.ways * l.quanta = div_below n l.way (l.ways * l.quanta) some lt in
    let two : n / l.way / l.quanta < l.ways = div_below (n / l.way) l.quanta l.ways some_quanta one in
    let three = mul-add-lt (n / l.way / l.quanta) l.way (n % l.way) l.ways two (mod_below n l.way some) in
    let e : l.way * l.ways ≡ l.ways * l.way = omega arith in
    rw (← e) three

pub number_below : (l : CellLayout) (quantum i : ℕ) → 0 < l.way → quantum < l.quanta → i < l.ways * l.way → number_in l quantum i < l.ways * l.quanta * l.way
number_below l quantum i some lq lt =
    let one : i / l.way < l.ways = div_below i l.way l.ways some lt in
    let two : i / l.way * l.quanta + quantum < l.quanta * l.ways = mul-add-lt (i / l.way) l.quanta quantum l.ways one lq in
    let three : number_in l quantum i < l.way * (l.quanta * l.ways) =
    mul-add-lt (i / l.way * l.quanta + quantum) l.way (i % l.way) (l.quanta * l.ways) two (mod_below i l.way some) in
    let e : l.way * (l.quanta * l.ways) ≡ l.ways * l.quanta * l.way = omega arith in
    rw (← e) three

pub quantum_below : (l : CellLayout) (n : ℕ) → 0 < l.quanta → quantum_of l n < l.quanta
quantum_below l n some = mod_below (n / l.way) l.quanta some

-- a unit of a cell of the memory is a unit of it
pub unit_below : (l : CellLayout) (n : ℕ) → IsLayout l → n < l.ways * l.quanta * l.way → unit_of l (quantum_of l n) (local_of l n) < l.quanta * l.units
unit_below l n is lt =
    let some : 0 < l.rows * l.per = (let one = mul-lt 0 0 l.rows l.per is.some_rows is.some_per in omega (arith, one)) in
    let local = local_below l n is.some_way is.some_quanta lt in
    let in_unit = div_below (local_of l n) (l.rows * l.per) l.units some (omega (arith, local, is.enough)) in
    let below = mul-add-lt (quantum_of l n) l.units (local_of l n / (l.rows * l.per)) l.quanta (quantum_below l n is.some_quanta) in_unit in
    let e : l.units * l.quanta ≡ l.quanta * l.units = omega arith in
    rw (← e) below

-- the blocks of a unit of the memory stand in a list of its blocks
pub blocks_there : (l : CellLayout) (unit len : ℕ) → unit < l.quanta * l.units → len ≡ l.quanta * l.units * l.side → (unit + 1) * l.side ≤ len
blocks_there l unit len lt e =
    let le = mul-le (unit + 1) l.side (l.quanta * l.units) l.side (omega (arith, lt)) (omega arith) in
    omega (arith, le, e)
