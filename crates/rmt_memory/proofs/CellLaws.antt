-- What the rules of form say of the cells of a slot, and what a key finds in one of them.
use Rattle.std.proofs.Common.{◌≡◌, ℕ, ◌-◌, ◌^◌, ◌<◌, length, get_or, map, true, false, eqb, sym, ap, ◌∙◌, subst, arith}
use Rattle.std.specs.Prelude.{bit_and, not}
use Rattle.std.proofs.lemmas.Bool.{and_parts, eqb-true, eq-eqb, ltb-true}
use Rattle.std.proofs.lemmas.List.{get_or-map, length-map}
use Rattle.std.proofs.lemmas.List.Sums.{AllPass-from_list_all}
use Rattle.std.proofs.lemmas.Nat.{and_mask}
use Rattle.std.proofs.Math.Nat.{mod-eq_of_lt}
use Rattle.rmt_memory.specs.Types.{Stage, SlotUnit, CellNumber}
use Rattle.rmt_config.specs.Order.{rises_from}
use Rattle.rmt_config.specs.StageForm.{is_listed}
use Rattle.rmt_config.specs.Cells.{Content, content_of, cells_in, is_seen}
use Rattle.rmt_config.specs.CellForm.{SlotHolds, cells_of, content_is_formed}
use Rattle.rmt_memory.proofs.RangeLaws.{cell_at, nowhere}
use Rattle.rmt_config.proofs.CellLaws.{clear-head}

module _ {visible : ℕ} (stage : Stage) (first : ℕ) (s : SlotUnit) (holds : SlotHolds visible stage first s) where
  pub cells-rise : rises_from 0 (map (λ (c : CellNumber). c.cell) s.numbers) ≡ true
  cells-rise = (and_parts _ _ (and_parts _ _ holds.numbers).0).0

  -- a listed cell is one of the memory
  pub cell-below : (k : ℕ) (d : CellNumber) → k < length s.numbers → (get_or s.numbers k d).cell < cells_in s.memory
  cell-below k d lt =
      let all = AllPass-from_list_all _ (cells_of s) (and_parts _ _ (and_parts _ _ holds.numbers).0).1 k 0 (let e = length-map s.numbers (λ (c : CellNumber). c.cell) in omega (arith, e, lt)) in
      let same = get_or-map (λ (c : CellNumber). c.cell) s.numbers k d 0 lt in
      subst (λ n. n < cells_in s.memory) same (ltb-true _ _ all)

  -- and it is seen
  pub cell-seen : (i : ℕ) → i < length s.numbers → is_seen (content_of stage s (cell_at s.numbers i)).head ≡ true
  cell-seen i lt =
      let all = AllPass-from_list_all (λ n. content_is_formed visible first s (content_of stage s n)) (cells_of s) (and_parts _ _ holds.numbers).1 i 0 (let e = length-map s.numbers (λ (c : CellNumber). c.cell) in omega (arith, e, lt)) in
      let same = get_or-map (λ (c : CellNumber). c.cell) s.numbers i nowhere 0 lt in
      subst (λ n. is_seen (content_of stage s n).head ≡ true) same (and_parts _ _ (and_parts _ _ (and_parts _ _ all).0).0).0

  -- a cell that isn't listed is clear
  pub unlisted-clear : (n : ℕ) → n < cells_in s.memory → is_listed n (cells_of s) ≡ false → (content_of stage s n).head ≡ 0
  unlisted-clear n lt off = clear-head s.memory (content_of stage s n) n lt (holds.others n lt (ap not off))

-- a cell agrees with a key of that many bits exactly where its key is the same, if all bits count
pub has-same : (bits key : ℕ) (c : Content) → c.mask ≡ 2 ^ bits - 1 → key < 2 ^ bits → eqb (bit_and key c.mask) c.key ≡ true → c.key ≡ key
has-same bits key c mask lt has =
    sym (eqb-true (bit_and key c.mask) c.key has) ∙ ap (bit_and key) mask ∙ and_mask key bits ∙ mod-eq_of_lt lt

pub same-has : (bits key : ℕ) (c : Content) → c.mask ≡ 2 ^ bits - 1 → key < 2 ^ bits → c.key ≡ key → eqb (bit_and key c.mask) c.key ≡ true
same-has bits key c mask lt same =
    eq-eqb (bit_and key c.mask) c.key (ap (bit_and key) mask ∙ and_mask key bits ∙ mod-eq_of_lt lt ∙ sym same)
