-- The shape of a part, and the cells in which a key may stand.
use Rattle.std.proofs.Common.{◌≡◌, ℕ, ◌+◌, ◌*◌, ◌^◌, ◌<◌, ◌≤◌, List, true, refl, ap, ◌∙◌, arith}
use Rattle.std.specs.List.{flat_map, range_with_len}
use Rattle.std.proofs.lemmas.Bool.{and_parts}
use Rattle.std.proofs.lemmas.Nat.{mul-le}
use Rattle.rmt_bits.specs.Bits.{bytes_of}
use Rattle.rmt_ast.specs.declared.program.Kind.{Kind}
use Rattle.rmt_ast.specs.declared.program.Kind.TheVariants as kind
use Rattle.rmt_config.specs.declared.config.Memory.{Memory}
use Rattle.rmt_config.specs.declared.config.Memory.TheVariants.{Without, Exact, Ternary}
use Rattle.rmt_config.specs.declared.config.SlotUnit.{SlotUnit}
use Rattle.rmt_config.specs.Cells.{candidates, cells_in}
use Rattle.rmt_config.specs.KeysSeen.{WaysLow}
use Rattle.rmt_config.specs.LaneForm.{bits_of_lanes}
use Rattle.rmt_config.specs.Life.{has_memory}
use Rattle.rmt_config.specs.MemoryRules.{ExactFits}
use Rattle.rmt_config.specs.NamesForm.{is_of_kind}
use Rattle.rmt_config.specs.BlockCounts.{divided_up}
use Rattle.rmt_config.specs.UnitForm.{memory_is_formed, slot_head_is_formed, slot_is_formed}
use Rattle.rmt_config.proofs.SlotLaws.{exact-fits}
use Rattle.rmt_book.specs.declared.grid.Grid.{Grid}
use Rattle.rmt_book.specs.declared.grid.Grid.TheVariants.{Ways, Rows}
use Rattle.rmt_book.specs.declared.shape.PartShape.{PartShape}
use Rattle.rmt_book.specs.PartShape.{HasFewCells, IsGrid, IsShape, cell_count, cells_for, row_cells}

-- a memory of a table's kind has cells
pub kind-has : (k : Kind) (m : Memory) → is_of_kind k m ≡ true → has_memory m ≡ true
kind-has kind.Keyless m is = absurd cc
kind-has kind.Exact Without is = absurd cc
kind-has kind.Exact (Exact k p d w ks rs cs) is = refl
kind-has kind.Exact (Ternary d ks rs cs) is = refl
kind-has kind.Prefix Without is = absurd cc
kind-has kind.Prefix (Exact k p d w ks rs cs) is = refl
kind-has kind.Prefix (Ternary d ks rs cs) is = refl
kind-has kind.Ternary Without is = absurd cc
kind-has kind.Ternary (Exact k p d w ks rs cs) is = refl
kind-has kind.Ternary (Ternary d ks rs cs) is = refl

-- an exact part has fewer cells than numbers of 32 bits
exact-few : (s : SlotUnit) (k p d : ℕ) (ks rs : List ℕ) → ExactFits s k p d ks rs → 4096 * d * p < 2 ^ 32
exact-few s k p d ks rs fits =
    let le : p * 8 ≤ p * (bits_of_lanes s.keys + 8) = mul-le p 8 p (bits_of_lanes s.keys + 8) (omega arith) (omega arith) in
    let most = fits.fits in
    let narrow = fits.most_k in
    let quanta = fits.most_d in
    let small : p ≤ 3570 = omega (arith, le, most, narrow) in
    let both : d * p ≤ 106 * 3570 = mul-le d p 106 3570 quanta small in
    let e : 4096 * d * p ≡ 4096 * (d * p) = omega arith in
    omega (arith, both, e)

few-cells : (s : SlotUnit) (m : Memory) → slot_head_is_formed s ≡ true → memory_is_formed s m ≡ true → has_memory m ≡ true → WaysLow m → HasFewCells m
few-cells s Without head formed has low = absurd cc
few-cells s (Exact k p d w ks rs cs) head formed has low =
    let fits = exact-fits s k p d w ks rs cs head formed in
    let some = fits.some_d in
    (low, omega (arith, some), exact-few s k p d ks rs fits)
few-cells s (Ternary d ks rs cs) head formed has low = tt

pub slot-few : (s : SlotUnit) → slot_is_formed s ≡ true → has_memory s.memory ≡ true → WaysLow s.memory → HasFewCells s.memory
slot-few s formed has low = let both = and_parts (slot_head_is_formed s) (memory_is_formed s s.memory) formed in few-cells s s.memory both.0 both.1 has low

-- ---- what a shape says of its slot

count-of : (m : Memory) (g : Grid) → IsGrid m g → cell_count g ≡ cells_in m
count-of Without g is = absurd is
count-of (Exact k p d w ks rs cs) (Rows rows) is = absurd is
count-of (Exact k p d w ks rs cs) (Ways v) is = ap (λ r. 4 * (r * v.per)) is.1 ∙ ap (λ n. 4 * (1024 * d * n)) is.2 ∙ quanta d p
  where
    quanta : (a b : ℕ) → 4 * (1024 * a * b) ≡ 4096 * a * b
    quanta a b = omega arith
count-of (Ternary d ks rs cs) (Ways v) is = absurd is
count-of (Ternary d ks rs cs) (Rows rows) is = is

pub cells-are : (slot : SlotUnit) (s : PartShape) → IsShape slot s → cell_count s.grid ≡ cells_in slot.memory
cells-are slot s is = count-of slot.memory s.grid is.grid

for-grid : (seed bits key : ℕ) (m : Memory) (g : Grid) → IsGrid m g → cells_for seed (bytes_of (divided_up bits 8) key) g ≡ candidates seed bits m key
for-grid seed bits key Without g is = absurd is
for-grid seed bits key (Exact k p d w ks rs cs) (Rows rows) is = absurd is
for-grid seed bits key (Exact k p d w ks rs cs) (Ways v) is =
    let bytes = bytes_of (divided_up bits 8) key in
    ap (λ f. flat_map (row_cells seed bytes f v.rows v.per) (range_with_len 0 4)) is.0
    ∙ ap (λ r. flat_map (row_cells seed bytes w r v.per) (range_with_len 0 4)) is.1
    ∙ ap (λ n. flat_map (row_cells seed bytes w (1024 * d) n) (range_with_len 0 4)) is.2
for-grid seed bits key (Ternary d ks rs cs) (Ways v) is = absurd is
for-grid seed bits key (Ternary d ks rs cs) (Rows rows) is = ap (range_with_len 0) is

pub cells-told : (seed key : ℕ) (slot : SlotUnit) (s : PartShape) (bytes : List ℕ) → IsShape slot s → bytes ≡ bytes_of (divided_up (bits_of_lanes slot.keys) 8) key
    → cells_for seed bytes s.grid ≡ candidates seed (bits_of_lanes slot.keys) slot.memory key
cells-told seed key slot s bytes is told = ap (λ bs. cells_for seed bs s.grid) told ∙ for-grid seed (bits_of_lanes slot.keys) key slot.memory s.grid is.grid

-- ---- the cells of a row

-- a row ends within its part
pub row-end : (way row rows per : ℕ) → way < 4 → row < rows → (way * rows + row) * per + per ≤ 4 * (rows * per)
row-end way row rows per four low =
    let three : way * rows ≤ 3 * rows = mul-le way rows 3 rows (omega (arith, four)) (omega arith) in
    let le : (way * rows + row + 1) * per ≤ (4 * rows) * per = mul-le (way * rows + row + 1) per (4 * rows) per (omega (arith, three, low)) (omega arith) in
    let e : (way * rows + row + 1) * per ≡ (way * rows + row) * per + per = omega arith in
    let f : (4 * rows) * per ≡ 4 * (rows * per) = omega arith in
    omega (arith, le, e, f)
