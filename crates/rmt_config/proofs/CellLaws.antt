-- Cells of a memory: the candidates of a key, cells that are clear, and the blocks of a quantum.
use Rattle.std.proofs.Common.{◌≡◌, ℕ, ◌+◌, ◌*◌, ◌/◌, ◌<◌, ◌≤◌, List, true, arith}
use Rattle.std.specs.Prelude.{All}
use Rattle.std.specs.List.{range_with_len}
use Rattle.std.proofs.lemmas.Bool.{and_parts, eqb-true}
use Rattle.std.proofs.lemmas.List.Elements.{All-nil}
use Rattle.std.proofs.lemmas.Nat.{div_below, mod_below, mul-le}
use Rattle.rmt_bits.proofs.AllLaws.{All-flat_map, All-range}
use Rattle.rmt_config.specs.Types.{Memory, SlotUnit}
use Rattle.rmt_config.specs.declared.config.Memory.TheVariants.{Without, Exact, Ternary}
use Rattle.rmt_config.specs.UnitForm.{slot_head_is_formed, memory_is_formed}
use Rattle.rmt_config.specs.Cells.{Content, candidates, cells_in, index_of, key_row}
use Rattle.rmt_config.specs.CellForm.{is_clear}
use Rattle.rmt_config.proofs.SlotLaws.{exact-fits}

-- ---- candidates

pub cell_lt : (way row rows per w : ℕ) → way < 4 → row < rows → w < (way * rows + row) * per + 0 + per → w < 4 * rows * per
cell_lt way row rows per w some_way some_row lt =
    let ways = mul-le way rows 3 rows (omega (arith, some_way)) (omega arith) in
    let more = mul-le (way * rows + row + 1) per (4 * rows) per (omega (arith, ways, some_row)) (omega arith) in
    omega (arith, more, lt)

-- the cells in which a key may stand are cells of its memory
pub exact-candidates : (k per d first : ℕ) (ks rs cs : List ℕ) → 0 < d → (seed bits key : ℕ)
    → All (λ j. j < cells_in (Exact k per d first ks rs cs)) (candidates seed bits (Exact k per d first ks rs cs) key)
exact-candidates k per d first ks rs cs some seed bits key =
    let rows = 1024 * d in
    let row : ℕ → ℕ = λ way. key_row seed first d bits key way in
    let P : ℕ → Type 0 = λ j. j < 4096 * d * per in
    All-flat_map P (λ way. range_with_len (index_of rows per (record { way = way; row = row way; position = 0 })) per) (range_with_len 0 4)
    (All-range (λ way. All P (range_with_len (index_of rows per (record { way = way; row = row way; position = 0 })) per)) 0 4
    (λ way some_way.
    All-range P (index_of rows per (record { way = way; row = row way; position = 0 })) per
    (λ w lw.
    let below : row way < rows = mod_below _ rows (omega (arith, some)) in
    let r = cell_lt way (row way) rows per w (omega (arith, some_way)) below (omega (arith, lw)) in
    omega (arith, r))))

pub ternary-candidates : (d : ℕ) (ks rs cs : List ℕ) (seed bits key : ℕ) → All (λ j. j < cells_in (Ternary d ks rs cs)) (candidates seed bits (Ternary d ks rs cs) key)
ternary-candidates d ks rs cs seed bits key = All-range (λ j. j < 2048 * d) 0 (2048 * d) (λ w lw. omega (arith, lw))

-- those of a memory that keeps the rules of form
pub candidates-within : (s : SlotUnit) (m : Memory) → slot_head_is_formed s ≡ true → memory_is_formed s m ≡ true → (seed bits key : ℕ) → All (λ j. j < cells_in m) (candidates seed bits m key)
candidates-within s Without head h seed bits key = All-nil (λ j. j < 0)
candidates-within s (Exact k per d first ks rs cs) head h seed bits key = exact-candidates k per d first ks rs cs (exact-fits s k per d first ks rs cs head h).some_d seed bits key
candidates-within s (Ternary d ks rs cs) head h seed bits key = ternary-candidates d ks rs cs seed bits key

-- ---- a clear cell

-- its head is 0
pub clear-head : (m : Memory) (c : Content) (n : ℕ) → n < cells_in m → is_clear m c ≡ true → c.head ≡ 0
clear-head Without c n lt h = absurd (omega (arith, lt))
clear-head (Exact k p d w ks rs cs) c n lt h = eqb-true c.head 0 (and_parts _ _ (and_parts _ _ h).0).0
clear-head (Ternary d ks rs cs) c n lt h = eqb-true c.head 0 (and_parts _ _ (and_parts _ _ (and_parts _ _ h).0).0).0

-- ---- blocks

-- a quantum of a listed row has its blocks
pub blocks-there : (d width len n : ℕ) → len ≡ d * width → n < 2048 * d → (n / 2048 + 1) * width ≤ len
blocks-there d width len n is lt =
    let low : n / 2048 < d = div_below n 2048 d (omega arith) (omega (arith, lt)) in
    let fit : (n / 2048 + 1) * width ≤ d * width = mul-le (n / 2048 + 1) width d width (omega (arith, low)) (omega arith) in
    omega (arith, fit, is)
