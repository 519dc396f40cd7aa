-- What the rules of form say of the memory of a slot.
use Rattle.std.proofs.Common.{◌≡◌, ℕ, ◌+◌, ◌*◌, ◌^◌, ◌<◌, List, [], length, get_or, true, refl, ap, ◌∙◌, subst}
use Rattle.std.proofs.lemmas.Bool.{and_parts, eqb-true, ltb-true}
use Rattle.std.proofs.lemmas.List.{nil_from_length}
use Rattle.rmt_memory.specs.Types.{Stage, SlotUnit, Memory}
use Rattle.rmt_config.specs.declared.config.Memory.TheVariants.{Without, Exact, Ternary}
use Rattle.rmt_config.specs.LaneForm.{bits_of_lanes}
use Rattle.rmt_config.specs.BlockCounts.{divided_up}
use Rattle.rmt_config.specs.Cells.{cells_in}
use Rattle.rmt_config.specs.UnitForm.{slot_head_is_formed, memory_is_formed}
use Rattle.rmt_config.specs.MemoryRules.{ExactFits, TernaryFits}
use Rattle.rmt_config.proofs.SlotLaws.{exact-fits, ternary-fits, without-numbers}
use Rattle.rmt_config.specs.KeysSeen.{WaysLow}
use Rattle.rmt_memory.specs.Memories.{SlotFormed, NumbersFit}
use Rattle.rmt_memory.proofs.CellLaws.{cells-rise, cell-below}

module _ (stage : Stage) (s : SlotUnit) (formed : SlotFormed stage s) where
  head : slot_head_is_formed s ≡ true
  head = (and_parts (slot_head_is_formed s) (memory_is_formed s s.memory) formed.form).0

  memory : (m : Memory) → s.memory ≡ m → memory_is_formed s m ≡ true
  memory m e = subst (λ x. memory_is_formed s x ≡ true) e (and_parts (slot_head_is_formed s) (memory_is_formed s s.memory) formed.form).1

  few : length s.numbers < 2 ^ 32
  few = ltb-true (length s.numbers) (2 ^ 32) (and_parts _ _ (and_parts _ _ head).0).1

  numbers-fit : (m : Memory) (count : ℕ) → s.memory ≡ m → cells_in m ≡ count → NumbersFit s count
  numbers-fit m count e is = record {
    rise = cells-rise stage formed.first s formed.holds;
    below = λ k d lt. subst (λ n. (get_or s.numbers k d).cell < n) (ap cells_in e ∙ is) (cell-below stage formed.first s formed.holds k d lt);
    few = few;
  }

  module _ (k p d w : ℕ) (ks rs cs : List ℕ) (e : s.memory ≡ Exact k p d w ks rs cs) where
    pub exact-facts : ExactFits s k p d ks rs
    exact-facts = exact-fits s k p d w ks rs cs head (memory (Exact k p d w ks rs cs) e)

    pub exact-numbers-fit : NumbersFit s (4096 * d * p)
    exact-numbers-fit = numbers-fit (Exact k p d w ks rs cs) (4096 * d * p) e refl

    pub exact-ways : w + 3 < 256
    exact-ways = subst WaysLow e formed.ways

  module _ (d : ℕ) (ks rs cs : List ℕ) (e : s.memory ≡ Ternary d ks rs cs) where
    pub ternary-facts : TernaryFits s d ks rs
    ternary-facts = ternary-fits s d ks rs cs head (memory (Ternary d ks rs cs) e)

    pub ternary-numbers-fit : NumbersFit s (2048 * d)
    ternary-numbers-fit = numbers-fit (Ternary d ks rs cs) (2048 * d) e refl

  -- a slot without memory has no key, no data and no cells
  module _ (e : s.memory ≡ Without) where
    pub without-cells : s.numbers ≡ []
    without-cells = without-numbers s (memory Without e)

    pub without-key : divided_up (bits_of_lanes s.keys) 8 ≡ 0
    without-key = ap (λ ls. divided_up (bits_of_lanes ls) 8) (nil_from_length s.keys (eqb-true (length s.keys) 0 (and_parts _ _ (and_parts _ _ (memory Without e)).0).1))

    pub without-held : divided_up s.held 8 ≡ 0
    without-held = ap (λ h. divided_up h 8) (eqb-true s.held 0 (and_parts _ _ (and_parts _ _ (and_parts _ _ (memory Without e)).0).0).1)
