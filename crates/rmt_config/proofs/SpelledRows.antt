-- The rows of a ternary part are all candidates of any key.
use Rattle.std.proofs.Common.{◌≡◌, ◌⊎◌, inl, inr, ℕ, zero, suc, ◌+◌, ◌*◌, ◌<◌, ◌≤◌, List, [], ◌∷◌, map, Bool, true, false, ◌||◌, ltb, eqb, refl, arith}
use Rattle.std.specs.Prelude.{All}
use Rattle.std.specs.List.{list_all, list_any, range_with_len}
use Rattle.std.proofs.lemmas.Bool.{and_parts, and_from, or_cases, or_left, or_right, ltb-true, ltb-false, eqb-true, eq-eqb, false≢true}
use Rattle.std.proofs.lemmas.List.Elements.{All-head, All-tail}
use Rattle.rmt_config.specs.Types.{Config, CellNumber, Memory}
use Rattle.rmt_config.specs.declared.config.Memory.TheVariants.{Without, Exact, Ternary}
use Rattle.rmt_config.specs.LaneForm.{bits_of_lanes}
use Rattle.rmt_config.specs.Cells.{candidates, cells_in}
use Rattle.rmt_config.specs.TableForm.{is_ternary}
use Rattle.rmt_config.specs.Rooms.{PartAt}
use Rattle.rmt_config.specs.NamesForm.{held_by, stands_in_candidates}
use Rattle.rmt_config.specs.PartStands.{PartStands}

pub range-from : (a len n : ℕ) → a ≤ n → n < a + len → list_any (λ m. eqb m n) (range_with_len a len) ≡ true
range-from a zero n le lt = absurd (omega (arith, le, lt))
range-from a (suc len) n le lt = by (ltb a n) refl (λ more. range-from (a + 1) len n more (omega (arith, lt)))
  where
    by : (b : Bool) → ltb a n ≡ b → (a + 1 ≤ n → list_any (λ m. eqb m n) (range_with_len (a + 1) len) ≡ true) → (eqb a n || list_any (λ m. eqb m n) (range_with_len (a + 1) len)) ≡ true
    by true e rest = or_right (eqb a n) (list_any (λ m. eqb m n) (range_with_len (a + 1) len)) (rest (let l = ltb-true a n e in omega (arith, l)))
    by false e rest = or_left (eqb a n) (list_any (λ m. eqb m n) (range_with_len (a + 1) len)) (eq-eqb a n (let l = ltb-false a n e in omega (arith, l, le)))

pub range-to : (a len n : ℕ) → list_any (λ m. eqb m n) (range_with_len a len) ≡ true → (a ≤ n) × (n < a + len)
range-to a zero n e = absurd (false≢true e)
range-to a (suc len) n e = by (or_cases (eqb a n) (list_any (λ m. eqb m n) (range_with_len (a + 1) len)) e) (range-to (a + 1) len n)
  where
    by : (eqb a n ≡ true) ⊎ (list_any (λ m. eqb m n) (range_with_len (a + 1) len) ≡ true) → (list_any (λ m. eqb m n) (range_with_len (a + 1) len) ≡ true → (a + 1 ≤ n) × (n < a + 1 + len)) → (a ≤ n) × (n < a + suc len)
    by (inl here) rest = let l = eqb-true a n here in (omega (arith, l), omega (arith, l))
    by (inr more) rest = let l = rest more in (omega (arith, l.0), omega (arith, l.1))

row-of : (seed bits : ℕ) (m : Memory) (key n : ℕ) → is_ternary m ≡ true → n < cells_in m → list_any (λ k. eqb k n) (candidates seed bits m key) ≡ true
row-of seed bits Without key n is lt = absurd (false≢true is)
row-of seed bits (Exact k p d w ks rs cs) key n is lt = absurd (false≢true is)
row-of seed bits (Ternary d ks rs cs) key n is lt = range-from 0 (2048 * d) n (omega arith) (omega (arith, lt))

pub cells-all : (count : ℕ) (f : CellNumber → Bool) → ((n : CellNumber) → n.cell < count → f n ≡ true) → (ns : List CellNumber) → list_all (λ n. ltb n count) (map (λ (n : CellNumber). n.cell) ns) ≡ true
    → list_all f ns ≡ true
cells-all count f h [] e = refl
cells-all count f h (n ∷ ns) e =
    let parts = and_parts (ltb n.cell count) (list_all (λ n. ltb n count) (map (λ (n : CellNumber). n.cell) ns)) e in
    and_from (f n) (list_all f ns) (h n (ltb-true n.cell count parts.0)) (cells-all count f h ns parts.1)

rows-stand : (c : Config) (p : PartAt) → PartStands c p → is_ternary p.slot.memory ≡ true → stands_in_candidates c p ≡ true
rows-stand c p stands is =
    cells-all (cells_in p.slot.memory) (λ n. list_any (λ m. eqb m n.cell) (candidates c.seed (bits_of_lanes p.slot.keys) p.slot.memory (held_by c p n).key))
    (λ n lt. row-of c.seed (bits_of_lanes p.slot.keys) p.slot.memory (held_by c p n).key n.cell is lt) p.slot.numbers
    (and_parts _ _ (and_parts _ _ stands.holds.numbers).0).1

-- so no row of a table with such parts stands elsewhere
pub all-stand : (c : Config) (kind : Memory → Bool) → ((m : Memory) → kind m ≡ true → is_ternary m ≡ true) → (ps : List PartAt) → All (PartStands c) ps
    → list_all (λ (p : PartAt). kind p.slot.memory) ps ≡ true → list_all (stands_in_candidates c) ps ≡ true
all-stand c kind are [] all e = refl
all-stand c kind are (p ∷ ps) all e =
    let parts = and_parts (kind p.slot.memory) (list_all (λ (p : PartAt). kind p.slot.memory) ps) e in
    and_from (stands_in_candidates c p) (list_all (stands_in_candidates c) ps)
    (rows-stand c p (All-head (PartStands c) p ps all) (are p.slot.memory parts.0)) (all-stand c kind are ps (All-tail (PartStands c) p ps all) parts.1)
