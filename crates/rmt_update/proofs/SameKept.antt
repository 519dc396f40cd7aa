-- Whether what is kept of a cell changes, as it is compared.
use Rattle.std.proofs.Common.{◌≡◌, ℕ, ◌+◌, ◌*◌, ◌<◌, ◌==◌, ◌||◌, Bool, true, false, cond, Option, Some, None, refl, sym, ap, ◌∙◌, inl, inr, arith}
use Rattle.std.proofs.lemmas.Bool.{and_from, and_parts, eq-eqb, eqb-true, false≢true}
use Rattle.rmt_bits.specs.Bits.{number_of}
use Rattle.rmt_config.specs.declared.config.CellNumber.{CellNumber}
use Rattle.rmt_config.specs.declared.config.Memory.{Memory}
use Rattle.rmt_config.specs.declared.config.Memory.TheVariants.{Without, Exact, Ternary}
use Rattle.rmt_config.specs.Cells.{Content}
use Rattle.rmt_config.specs.LaneForm.{bits_of_lanes}
use Rattle.rmt_config.specs.Rooms.{PartAt}
use Rattle.rmt_config.specs.RunCells.{written_mask}
use Rattle.rmt_book.specs.declared.grid.Grid.{Grid}
use Rattle.rmt_book.specs.declared.grid.Grid.TheVariants.{Ways, Rows}
use Rattle.rmt_book.specs.declared.kept.Kept.{Kept}
use Rattle.rmt_update.specs.BookStands.{IsKeptOf}
use Rattle.rmt_book.specs.Coming.{kept_write}
use Rattle.rmt_update.specs.Differences.{change_by, is_exact, is_same_kept}
use Rattle.rmt_book.specs.PartShape.{IsGrid}
use Rattle.rmt_update.proofs.DiffLaws.{Differ, TurnsBy}
use Rattle.rmt_update.proofs.DifferLaws.{emptied-differs, filled-differs}
use Rattle.rmt_update.proofs.KeptContent.{kept_content, kept_number}

abbrev content : ℕ → ℕ → ℕ → ℕ → Content
content h k m d = record { head = h; key = k; mask = m; held = d }

-- what six equal parts make
record SameParts (exact : Bool) (a b : Kept) : Type 0 where
  visible : a.visible ≡ b.visible
  code : a.code ≡ b.code
  number : a.number ≡ b.number
  key : number_of a.key.items ≡ number_of b.key.items
  held : number_of a.held.items ≡ number_of b.held.items
  mask : (exact || (number_of a.mask.items == number_of b.mask.items)) ≡ true

parts-of : (exact : Bool) (a b : Kept) → is_same_kept exact a b ≡ true → SameParts exact a b
parts-of exact a b e =
    let five = and_parts _ _ e in
    let four = and_parts _ _ five.0 in
    let three = and_parts _ _ four.0 in
    let two = and_parts _ _ three.0 in
    let one = and_parts _ _ two.0 in
    record {
      visible = eqb-true a.visible b.visible one.0;
      code = eqb-true a.code b.code one.1;
      number = eqb-true a.number b.number two.1;
      key = eqb-true (number_of a.key.items) (number_of b.key.items) three.1;
      held = eqb-true (number_of a.held.items) (number_of b.held.items) four.1;
      mask = five.1;
    }

from-parts : (exact : Bool) (a b : Kept) → SameParts exact a b → is_same_kept exact a b ≡ true
from-parts exact a b h =
    and_from _ _
    (and_from _ _
    (and_from _ _
    (and_from _ _ (and_from _ _ (eq-eqb a.visible b.visible h.visible) (eq-eqb a.code b.code h.code)) (eq-eqb a.number b.number h.number))
    (eq-eqb (number_of a.key.items) (number_of b.key.items) h.key))
    (eq-eqb (number_of a.held.items) (number_of b.held.items) h.held)) h.mask

-- the masks of a part
mask-same : (bits : ℕ) (m : Memory) (g : Grid) (xs ys : Kept) → IsGrid m g → (is_exact g || (number_of xs.mask.items == number_of ys.mask.items)) ≡ true → written_mask bits m xs.mask.items ≡ written_mask bits m ys.mask.items
mask-same bits Without g xs ys is e = absurd is
mask-same bits (Exact k per quanta first keys records counters) (Ways w) xs ys is e = refl
mask-same bits (Exact k per quanta first keys records counters) (Rows rows) xs ys is e = absurd is
mask-same bits (Ternary quanta keys records counters) (Ways w) xs ys is e = absurd is
mask-same bits (Ternary quanta keys records counters) (Rows rows) xs ys is e = eqb-true (number_of xs.mask.items) (number_of ys.mask.items) e

same-mask : (bits : ℕ) (m : Memory) (g : Grid) (xs ys : Kept) → IsGrid m g → written_mask bits m xs.mask.items ≡ written_mask bits m ys.mask.items → (is_exact g || (number_of xs.mask.items == number_of ys.mask.items)) ≡ true
same-mask bits Without g xs ys is e = absurd is
same-mask bits (Exact k per quanta first keys records counters) (Ways w) xs ys is e = refl
same-mask bits (Exact k per quanta first keys records counters) (Rows rows) xs ys is e = absurd is
same-mask bits (Ternary quanta keys records counters) (Ways w) xs ys is e = absurd is
same-mask bits (Ternary quanta keys records counters) (Rows rows) xs ys is e = eq-eqb (number_of xs.mask.items) (number_of ys.mask.items) e

module _ (p : PartAt) (g : Grid) (grid : IsGrid p.slot.memory g) (a b : Kept) where
  is-same : is_same_kept (is_exact g) a b ≡ true → (kept_content p (Some a) ≡ kept_content p (Some b)) × (kept_number (Some a) ≡ kept_number (Some b))
  is-same e =
      let h = parts-of (is_exact g) a b e in
      (made _ _ _ _ _ _ _ _ (ap (λ v. 1 + 2 * v + 8 * a.code) h.visible ∙ ap (λ v. 1 + 2 * b.visible + 8 * v) h.code) h.key (mask-same (bits_of_lanes p.slot.keys) p.slot.memory g a b grid h.mask) h.held, h.number)
    where
      made : (h1 h2 k1 k2 m1 m2 d1 d2 : ℕ) → h1 ≡ h2 → k1 ≡ k2 → m1 ≡ m2 → d1 ≡ d2 → content h1 k1 m1 d1 ≡ content h2 k2 m2 d2
      made h1 h2 k1 k2 m1 m2 d1 d2 e1 e2 e3 e4 =
          ap (λ n. content n k1 m1 d1) e1 ∙ ap (λ n. content h2 n m1 d1) e2 ∙ ap (λ n. content h2 k2 n d1) e3 ∙ ap (λ n. content h2 k2 m2 n) e4

  other : a.visible < 4 → b.visible < 4 → is_same_kept (is_exact g) a b ≡ false → Differ p (Some a) (Some b)
  other low_a low_b fails = by (a.number == b.number) refl
    where
      by : (t : Bool) → (a.number == b.number) ≡ t → Differ p (Some a) (Some b)
      by false e = inr (λ same. false≢true (sym e ∙ eq-eqb a.number b.number same))
      by true e = inl (λ same. let head : 1 + 2 * a.visible + 8 * a.code ≡ 1 + 2 * b.visible + 8 * b.code = ap (λ (x : Content). x.head) same in
          false≢true (sym fails ∙ from-parts (is_exact g) a b (record {
            visible = omega (arith, head, low_a, low_b);
            code = omega (arith, head, low_a, low_b);
            number = eqb-true a.number b.number e;
            key = ap (λ (x : Content). x.key) same;
            held = ap (λ (x : Content). x.held) same;
            mask = same-mask (bits_of_lanes p.slot.keys) p.slot.memory g a b grid (ap (λ (x : Content). x.mask) same);
          })))

-- a kept cell has two visible bits
low-bits : (seed : ℕ) (p : PartAt) (x : Content) (n : CellNumber) (k : Kept) → IsKeptOf seed p x n (Some k) → k.visible < 4
low-bits seed p x n k h = let visible = h.1.visible in omega (arith, visible)

-- the change that is put turns the cell
pub change-turns : (p : PartAt) (g : Grid) → IsGrid p.slot.memory g → (n s s2 : ℕ) (x x2 : Content) (m m2 : CellNumber) (o o2 : Option Kept) → IsKeptOf s p x m o → IsKeptOf s2 p x2 m2 o2
    → TurnsBy p n o o2 (change_by (is_exact g) p.stage p.place n o o2)
change-turns p g grid n s s2 x x2 m m2 None None kept kept2 = (refl, refl)
change-turns p g grid n s s2 x x2 m m2 (Some a) None kept kept2 = (refl, emptied-differs p a)
change-turns p g grid n s s2 x x2 m m2 None (Some b) kept kept2 = (refl, filled-differs p b)
change-turns p g grid n s s2 x x2 m m2 (Some a) (Some b) kept kept2 = by (is_same_kept (is_exact g) a b) refl
  where
    by : (t : Bool) → is_same_kept (is_exact g) a b ≡ t → TurnsBy p n (Some a) (Some b) (cond t None (Some (kept_write p.stage p.place b.visible b)))
    by true e = is-same p g grid a b e
    by false e = (refl, other p g grid a b (low-bits s p x m a kept) (low-bits s2 p x2 m2 b kept2) e)
