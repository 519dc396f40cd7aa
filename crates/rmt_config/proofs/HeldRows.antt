-- What blocks hold, by rows in rising order.
use Rattle.std.proofs.Common.{◌≡◌, ℕ, zero, suc, ◌+◌, ◌*◌, ◌/◌, ◌%◌, ◌^◌, ◌<◌, ◌≤◌, List, [], ◌∷◌, length, get_or, map, Bool, true, false, ◌&&◌, eqb, Some, sym, refl, ap, ◌∙◌, subst, arith, inl, inr}
use Rattle.std.specs.Prelude.{All, find, option_map, unwrap_or, slice_get}
use Rattle.std.proofs.lemmas.Bool.{and_parts, and_from, cases_order, eqb-true, eq-eqb, false_from_ne_true}
use Rattle.std.proofs.lemmas.Nat.{div-mul-add, mod-mul-add, pow_pos, same_from_place}
use Rattle.std.proofs.lemmas.List.Folds.{find_at}
use Rattle.std.proofs.lemmas.List.Sums.{position_or_len_is}
use Rattle.rmt_config.specs.declared.form.layout.CellLayout.{CellLayout}
use Rattle.rmt_config.specs.Order.{rises_from}
use Rattle.rmt_config.specs.Cells.{Blocks, sram_row}
use Rattle.rmt_config.specs.Types.{SramRow}
use Rattle.rmt_config.proofs.UnitBits.{Within}
use Rattle.rmt_config.proofs.RiseLaws.{rise-below}
use Rattle.rmt_config.proofs.ToldBits.{Agrees}
use Rattle.rmt_bits.proofs.ListLaws.{find-none}
use Rattle.rmt_bits.proofs.FindLaws.{found-lt}

-- the first item of that block and row, and what it says
abbrev pub stands : {X : Type 0} → (X → ℕ) → (X → ℕ) → ℕ → ℕ → X → Bool
stands fb fr b r x = eqb (fb x) b && eqb (fr x) r

abbrev pub held_of : {X : Type 0} → (X → ℕ) → (X → ℕ) → (X → ℕ) → List X → Blocks
held_of fb fr val xs b r = unwrap_or (option_map val (find (stands fb fr b r) xs)) 0

slice_get-here : {X : Type 0} (xs : List X) (k : ℕ) (d : X) → k < length xs → slice_get xs k ≡ Some (get_or xs k d)
slice_get-here [] k d lt = absurd (omega (arith, lt))
slice_get-here (x ∷ xs) zero d lt = refl
slice_get-here (x ∷ xs) (suc k) d lt = slice_get-here xs k d (omega (arith, lt))

-- an item is found by its block and row, since those before it are lower
pub found-item : {X : Type 0} (fb fr val num : X → ℕ) (h : ℕ) (xs : List X) (k : ℕ) (d : X) → ((x : X) → num x ≡ h * fb x + fr x)
    → rises_from 0 (map num xs) ≡ true → k < length xs → (b r : ℕ) → fb (get_or xs k d) ≡ b → fr (get_or xs k d) ≡ r
    → held_of fb fr val xs b r ≡ val (get_or xs k d)
found-item {X} fb fr val num h xs k d is rise lt b r eb er =
    let at = position_or_len_is p xs k d (omega (arith, lt)) earlier (λ _. here) in
    ap (λ o. unwrap_or (option_map val o) 0) (find_at p xs ∙ ap (slice_get xs) at ∙ slice_get-here xs k d lt)
  where
    p : X → Bool
    p = stands fb fr b r

    here : p (get_or xs k d) ≡ true
    here = and_from (eqb (fb (get_or xs k d)) b) (eqb (fr (get_or xs k d)) r) (eq-eqb (fb (get_or xs k d)) b eb) (eq-eqb (fr (get_or xs k d)) r er)

    earlier : (j : ℕ) → j < k → p (get_or xs j d) ≡ false
    earlier j less = false_from_ne_true (p (get_or xs j d)) (λ same.
        let parts = and_parts (eqb (fb (get_or xs j d)) b) (eqb (fr (get_or xs j d)) r) same in
        let e1 : fb (get_or xs j d) ≡ fb (get_or xs k d) = eqb-true (fb (get_or xs j d)) b parts.0 ∙ sym eb in
        let e2 : fr (get_or xs j d) ≡ fr (get_or xs k d) = eqb-true (fr (get_or xs j d)) r parts.1 ∙ sym er in
        let e : num (get_or xs j d) ≡ num (get_or xs k d) =
        is (get_or xs j d) ∙ ap (λ n. h * n + fr (get_or xs j d)) e1 ∙ ap (λ n. h * fb (get_or xs k d) + n) e2 ∙ sym (is (get_or xs k d)) in
        let below = rise-below num 0 xs rise j k d less lt in
        absurd (omega (arith, e, below)))

pub found-none : {X : Type 0} (fb fr val : X → ℕ) (xs : List X) (b r : ℕ) → All (λ x. fb x ≡ b → fr x ≡ r → ⊥) xs → held_of fb fr val xs b r ≡ 0
found-none fb fr val xs b r none =
    ap (λ o. unwrap_or (option_map val o) 0) (find-none (stands fb fr b r) xs (λ k d lt. false_from_ne_true (stands fb fr b r (get_or xs k d)) (λ same.
    let parts = and_parts (eqb (fb (get_or xs k d)) b) (eqb (fr (get_or xs k d)) r) same in
    none k d lt (eqb-true (fb (get_or xs k d)) b parts.0) (eqb-true (fr (get_or xs k d)) r parts.1))))

turned : (h b r : ℕ) → h * b + r ≡ b * h + r
turned h b r = omega arith

-- an item is found by its number, where blocks have h rows
pub found-numbered : {X : Type 0} (fb fr val num : X → ℕ) (h : ℕ) (xs : List X) (at block row : ℕ) (d : X) → ((x : X) → num x ≡ h * fb x + fr x) → rises_from 0 (map num xs) ≡ true
    → All (λ x. fr x < h) xs → row < h → at < length xs → num (get_or xs at d) ≡ block * h + row → val (get_or xs at d) ≡ held_of fb fr val xs block row
found-numbered fb fr val num h xs at block row d is rise low lr lt e =
    let x = get_or xs at d in
    let same = same_from_place (fb x) (fr x) block row h (low at d lt) lr (sym (is x ∙ turned h (fb x) (fr x)) ∙ e) in
    sym (found-item fb fr val num h xs at d is rise lt block row same.0 same.1)

-- none is found where the items before a place are lower, those from it on are not, and the one there has another number
pub none-numbered : {X : Type 0} (fb fr val num : X → ℕ) (h : ℕ) (xs : List X) (at block row : ℕ) → ((x : X) → num x ≡ h * fb x + fr x) → rises_from 0 (map num xs) ≡ true
    → ((k : ℕ) (d : X) → k < at → num (get_or xs k d) < block * h + row) → ((k : ℕ) (d : X) → at ≤ k → k < length xs → block * h + row ≤ num (get_or xs k d))
    → ((d : X) → at < length xs → num (get_or xs at d) ≡ block * h + row → ⊥) → 0 ≡ held_of fb fr val xs block row
none-numbered fb fr val num h xs at block row is rise below above other =
    sym (found-none fb fr val xs block row (λ k d lt eb er.
    let x = get_or xs k d in
    let e : num x ≡ block * h + row = is x ∙ ap (λ b. h * b + fr x) eb ∙ ap (λ r. h * block + r) er ∙ turned h block row in
    elim (cases_order k at) as (λ _. ⊥) [
      | inl same ↦ other d (subst (λ i. i < length xs) same lt) (subst (λ i. num (get_or xs i d) ≡ block * h + row) same e)
      | inr (inl less) ↦ absurd (omega (arith, below k d less, e))
      | inr (inr more) ↦ absurd (omega (arith, rise-below num 0 xs rise at k d more lt, above at d (omega arith) (omega (arith, more, lt)), e))
    ]))

-- rows that rise, all of them within their blocks, stand for what the blocks hold
pub rows-agree : {X : Type 0} (l : CellLayout) (fb fr val num : X → ℕ) (xs : List X) → ((x : X) → num x ≡ l.rows * fb x + fr x)
    → rises_from 0 (map num xs) ≡ true → All (λ x. fr x < l.rows) xs → All (λ x. val x < 2 ^ l.bits) xs
    → Agrees l (held_of fb fr val xs) (λ x. num x / l.rows) (λ x. num x % l.rows) val xs
rows-agree {X} l fb fr val num xs is rise low small = record {
  within = λ b r. found-lt (stands fb fr b r) val (2 ^ l.bits) xs (pow_pos l.bits) small;
  hit = λ k d lt. found-item fb fr val num l.rows xs k d is rise lt _ _ (sym (block_of k d lt)) (sym (row_of k d lt));
  miss = λ b r none. found-none fb fr val xs b r (λ k d lt eb er. none k d lt (block_of k d lt ∙ eb) (row_of k d lt ∙ er));
  low = λ b r past. found-none fb fr val xs b r (λ k d lt eb er. absurd (omega (arith, low k d lt, er, past)));
}
  where
    block_of : (k : ℕ) (d : X) → k < length xs → num (get_or xs k d) / l.rows ≡ fb (get_or xs k d)
    block_of k d lt =
        let x = get_or xs k d in
        ap (λ n. n / l.rows) (is x ∙ turned l.rows (fb x) (fr x)) ∙ div-mul-add (fb x) l.rows (fr x) (low k d lt)

    row_of : (k : ℕ) (d : X) → k < length xs → num (get_or xs k d) % l.rows ≡ fr (get_or xs k d)
    row_of k d lt =
        let x = get_or xs k d in
        ap (λ n. n % l.rows) (is x ∙ turned l.rows (fb x) (fr x)) ∙ mod-mul-add (fb x) l.rows (fr x) (low k d lt)

-- rows of 112 bits
pub sram-within : (rows : List SramRow) → All (λ (r : SramRow). r.bits < 2 ^ 112) rows → Within 112 (sram_row rows)
sram-within rows small b r = found-lt (stands (λ (r : SramRow). r.block) (λ (r : SramRow). r.row) b r) (λ (r : SramRow). r.bits) (2 ^ 112) rows (pow_pos 112) small
