-- Bits that may be set, by the places of blocks, by the rows of units, and by cells.
use Rattle.std.proofs.Common.{◌≡◌, ℕ, ◌+◌, ◌*◌, ◌/◌, ◌%◌, ◌<◌, ◌≤◌, List, [], ◌∷◌, length, get_or, drop, false, ◌&&◌, ltb, sym, refl, ap, ◌∙◌, subst, arith, inl, inr}
use Rattle.std.specs.Prelude.{IsTrue, All}
use Rattle.std.specs.Int.{bit_at}
use Rattle.std.proofs.lemmas.Nat.{div-add-mod', mul-le, mul-lt, div-mul-add, mod-mul-add, mod_below, div_below, le-div}
use Rattle.std.proofs.lemmas.Nat.Bits.{bit_at-zero, bit_at_above}
use Rattle.std.proofs.lemmas.Bool.{cases_lt, and_parts, and_from, ltb-true, lt-ltb, both_ways, true_from_ne_false}
use Rattle.std.proofs.lemmas.List.{length-take, length-drop, get_or-take, get_or-drop}
use Rattle.rmt_bits.specs.Bits.{slice}
use Rattle.rmt_config.specs.declared.form.layout.CellLayout.{CellLayout}
use Rattle.rmt_config.specs.Cells.{Blocks, unit_row, blocks_at}
use Rattle.rmt_config.specs.CellForm.{EndsAt}
use Rattle.rmt_config.specs.StageForm.{is_listed}
use Rattle.rmt_config.specs.Layouts.{number_in, quantum_of, local_of, unit_of, row_of, position_of, index_in, entry_in, is_told, BlocksTold, IsLayout}
use Rattle.rmt_config.proofs.UnitBits.{bit-zero, slice-zero, slice-zero_bit, below-from_bits, Within, unit_bit, unit_bit_past, one_is_not_zero}
use Rattle.rmt_config.proofs.CellPlaces.{index_row, index_position, unit_back, index_below, unit_quantum, index_back, number_quantum, number_local, number_back, local_below, number_below}

-- ---- rows that stand for what blocks hold

-- what blocks hold is what their rows say, and 0 where there is none
pub record Agrees {X : Type 0} (l : CellLayout) (held : Blocks) (block : X → ℕ) (row : X → ℕ) (bits : X → ℕ) (rows : List X) : Type 0 where
  pub within : Within l.bits held
  pub hit : All (λ x. held (block x) (row x) ≡ bits x) rows
  pub miss : (b r : ℕ) → All (λ x. block x ≡ b → row x ≡ r → ⊥) rows → held b r ≡ 0
  pub low : (b r : ℕ) → l.rows ≤ r → held b r ≡ 0

-- the bits of units' rows that are set may be
abbrev pub UnitsTold : CellLayout → Blocks → List ℕ → List ℕ → Type 0
UnitsTold l held cells blocks =
    (unit row i : ℕ) → bit_at (unit_row l.bits held row (blocks_at blocks l.side unit)) i ≡ 1 → IsTrue (is_told l cells unit row (i / l.entry))

-- ---- the blocks of a unit

blocks_at-length : (blocks : List ℕ) (side unit o : ℕ) → o < length (blocks_at blocks side unit) → (o < side) × (unit * side + o < length blocks)
blocks_at-length blocks side unit o lt =
    let e : length (blocks_at blocks side unit) ≡ _ = length-take side (drop (unit * side) blocks) in
    let f = length-drop (unit * side) blocks in
    (omega (arith, e, f, lt), omega (arith, e, f, lt))

blocks_at-has : (blocks : List ℕ) (side unit o : ℕ) → o < side → unit * side + o < length blocks → o < length (blocks_at blocks side unit)
blocks_at-has blocks side unit o lo lt =
    let e = length-take side (drop (unit * side) blocks) in
    let f = length-drop (unit * side) blocks in
    omega (arith, e, f, lt, lo)

blocks_at-item : (blocks : List ℕ) (side unit o : ℕ) → o < side → get_or (blocks_at blocks side unit) o 0 ≡ get_or blocks (unit * side + o) 0
blocks_at-item blocks side unit o lo =
    get_or-take side (drop (unit * side) blocks) o 0 lo ∙ get_or-drop (unit * side) blocks o 0

-- at equal places the same may be set
told-same : (l : CellLayout) (cells : List ℕ) (unit row i unit' row' i' : ℕ) → unit' ≡ unit → row' ≡ row → i' ≡ i
    → IsTrue (is_told l cells unit' row' (i' / l.entry)) → IsTrue (is_told l cells unit row (i / l.entry))
told-same l cells unit row i unit' row' i' eu er ei h =
    ap (λ u. is_told l cells u row (i / l.entry)) (sym eu) ∙ ap (λ r. is_told l cells unit' r (i / l.entry)) (sym er)
    ∙ ap (λ n. is_told l cells unit' row' (n / l.entry)) (sym ei) ∙ h

-- ---- from the places of blocks to the rows of units

pub units_from_blocks : {X : Type 0} (l : CellLayout) (held : Blocks) (block row bits : X → ℕ) (rows : List X) (cells blocks : List ℕ) → 0 < l.bits
    → Agrees l held block row bits rows → BlocksTold l block row bits cells rows blocks → UnitsTold l held cells blocks
units_from_blocks {X} l held block row bits rows cells blocks some agrees told unit r i one =
    elim (cases_lt o (length at)) as (λ _. Goal) [
      | inl lt ↦ within lt
      | inr past ↦ absurd (one_is_not_zero _ (unit_bit_past l.bits held r at i agrees.within (behind past)) one)
    ]
  where
    at : List ℕ
    at = blocks_at blocks l.side unit

    o : ℕ
    o = i / l.bits

    t : ℕ
    t = i % l.bits

    j : ℕ
    j = unit * l.side + o

    Goal : Type 0
    Goal = IsTrue (is_told l cells unit r (i / l.entry))

    split : o * l.bits + t ≡ i
    split = div-add-mod' i l.bits

    small : t < l.bits
    small = mod_below i l.bits some

    behind : length at ≤ o → length at * l.bits ≤ i
    behind le =
        let more : length at * l.bits ≤ o * l.bits = mul-le (length at) l.bits o l.bits le (omega arith) in
        omega (arith, more, split)

    within : o < length at → Goal
    within lt = true_from_ne_false (is_told l cells unit r (i / l.entry)) (λ unset. one_is_not_zero _ (empty unset) bit)
      where
        there : (o < l.side) × (j < length blocks)
        there = blocks_at-length blocks l.side unit o lt

        bit : bit_at (held (get_or blocks j 0) r) t ≡ 1
        bit =
            ap (λ b. bit_at (held b r) t) (sym (blocks_at-item blocks l.side unit o there.0))
            ∙ sym (unit_bit l.bits held r at o t agrees.within lt small)
            ∙ ap (bit_at (unit_row l.bits held r at)) split ∙ one

        -- where this may not be set, no row stands for it
        none : is_told l cells unit r (i / l.entry) ≡ false → All (λ x. block x ≡ get_or blocks j 0 → row x ≡ r → ⊥) rows
        none unset k d ltk eb er =
            let x = get_or rows k d in
            let same : bit_at (bits x) t ≡ 1 =
            ap (λ n. bit_at n t) (sym (agrees.hit k d ltk)) ∙ ap (λ b. bit_at (held b (row x)) t) eb ∙ ap (λ r'. bit_at (held (get_or blocks j 0) r') t) er ∙ bit in
            let yes = told j there.1 k d ltk eb t small same in
            let eu : j / l.side ≡ unit = div-mul-add unit l.side o there.0 in
            let eo : j % l.side ≡ o = mod-mul-add unit l.side o there.0 in
            let ei : j % l.side * l.bits + t ≡ i = ap (λ n. n * l.bits + t) eo ∙ split in
            both_ways (is_told l cells unit r (i / l.entry)) unset
            (told-same l cells unit r i (j / l.side) (row x) (j % l.side * l.bits + t) eu er ei yes)

        empty : is_told l cells unit r (i / l.entry) ≡ false → bit_at (held (get_or blocks j 0) r) t ≡ 0
        empty unset = ap (λ n. bit_at n t) (agrees.miss (get_or blocks j 0) r (none unset)) ∙ bit_at-zero t

-- and back
pub blocks_from_units : {X : Type 0} (l : CellLayout) (held : Blocks) (block row bits : X → ℕ) (rows : List X) (cells blocks : List ℕ) → (0 < length blocks → 0 < l.side)
    → Agrees l held block row bits rows → UnitsTold l held cells blocks → BlocksTold l block row bits cells rows blocks
blocks_from_units {X} l held block row bits rows cells blocks some agrees told j lt k d ltk eb t small one =
    told (j / l.side) (row x) (j % l.side * l.bits + t) bit
  where
    x : X
    x = get_or rows k d

    some_side : 0 < l.side
    some_side = some (omega (arith, lt))

    o : ℕ
    o = j % l.side

    at : List ℕ
    at = blocks_at blocks l.side (j / l.side)

    o_lt : o < l.side
    o_lt = mod_below j l.side some_side

    e : j / l.side * l.side + o ≡ j
    e = div-add-mod' j l.side

    there : o < length at
    there = blocks_at-has blocks l.side (j / l.side) o o_lt (rw e lt)

    bit : bit_at (unit_row l.bits held (row x) at) (o * l.bits + t) ≡ 1
    bit =
        unit_bit l.bits held (row x) at o t agrees.within there small
        ∙ ap (λ b. bit_at (held b (row x)) t) (blocks_at-item blocks l.side (j / l.side) o o_lt ∙ ap (λ n. get_or blocks n 0) e ∙ sym eb)
        ∙ ap (λ n. bit_at n t) (agrees.hit k d ltk) ∙ one

-- ---- from the rows of units to cells, and back

-- no bit is set but in entries of listed cells
pub record Kept (l : CellLayout) (held : Blocks) (cells blocks : List ℕ) : Type 0 where
  pub ends : EndsAt l.bits held blocks l.side (l.per * l.entry)
  pub behind : (u i : ℕ) → u < l.quanta → l.ways * l.way ≤ i → i < l.units * (l.rows * l.per) → entry_in l held blocks u i ≡ 0
  pub others : (n : ℕ) → n < l.ways * l.quanta * l.way → is_listed n cells ≡ false → entry_in l held blocks (quantum_of l n) (local_of l n) ≡ 0

told-parts : (l : CellLayout) (cells : List ℕ) (unit row position : ℕ) → IsTrue (is_told l cells unit row position)
    → (position < l.per) × (index_in l unit row position < l.ways * l.way) × IsTrue (is_listed (number_in l (unit / l.units) (index_in l unit row position)) cells)
told-parts l cells unit row position h =
    let a = ltb position l.per in
    let b = ltb (index_in l unit row position) (l.ways * l.way) in
    let c = is_listed (number_in l (unit / l.units) (index_in l unit row position)) cells in
    let two = and_parts (a && b) c h in
    let one = and_parts a b two.0 in
    (ltb-true position l.per one.0, ltb-true (index_in l unit row position) (l.ways * l.way) one.1, two.1)

told-from : (l : CellLayout) (cells : List ℕ) (unit row position : ℕ) → position < l.per → index_in l unit row position < l.ways * l.way
    → IsTrue (is_listed (number_in l (unit / l.units) (index_in l unit row position)) cells) → IsTrue (is_told l cells unit row position)
told-from l cells unit row position lp li h =
    let a = ltb position l.per in
    let b = ltb (index_in l unit row position) (l.ways * l.way) in
    let c = is_listed (number_in l (unit / l.units) (index_in l unit row position)) cells in
    and_from (a && b) c (and_from a b (lt-ltb position l.per lp) (lt-ltb (index_in l unit row position) (l.ways * l.way) li)) h

pub some_place : (l : CellLayout) → IsLayout l → 0 < l.rows * l.per
some_place l is =
    let lt = mul-lt 0 0 l.rows l.per is.some_rows is.some_per in omega (arith, lt)

-- an entry is 0 where none of its bits may be set
entry-zero : (l : CellLayout) (held : Blocks) (cells blocks : List ℕ) → UnitsTold l held cells blocks → (quantum i : ℕ)
    → (IsTrue (is_told l cells (unit_of l quantum i) (row_of l i) (position_of l i)) → ⊥) → entry_in l held blocks quantum i ≡ 0
entry-zero l held cells blocks told quantum i unset =
    let x = unit_row l.bits held (row_of l i) (blocks_at blocks l.side (unit_of l quantum i)) in
    let s = position_of l i in
    slice-zero x (s * l.entry) l.entry
    (λ t lt. bit-zero x (s * l.entry + t) (λ one.
    unset (subst (λ p. IsTrue (is_told l cells (unit_of l quantum i) (row_of l i) p)) (div-mul-add s l.entry t lt)
    (told (unit_of l quantum i) (row_of l i) (s * l.entry + t) one))))

pub kept_from_units : (l : CellLayout) (held : Blocks) (cells blocks : List ℕ) → IsLayout l → UnitsTold l held cells blocks → Kept l held cells blocks
kept_from_units l held cells blocks is told = record {
  ends = λ unit row. below-from_bits (unit_row l.bits held row (blocks_at blocks l.side unit)) (l.per * l.entry)
      (λ i past. bit-zero (unit_row l.bits held row (blocks_at blocks l.side unit)) i (λ one.
      let parts = told-parts l cells unit row (i / l.entry) (told unit row i one) in
      let many : l.per ≤ i / l.entry = le-div l.per i l.entry is.some_entry past in
      omega (arith, parts.0, many)));
  behind = λ u i lu past lt. entry-zero l held cells blocks told u i (λ yes.
      let parts = told-parts l cells (unit_of l u i) (row_of l i) (position_of l i) yes in
      let e = index_back l u i is.some_rows is.some_per (some_place l is) lt in
      omega (arith, parts.1, e, past));
  others = λ n ln unset.
      let q = quantum_of l n in
      let i = local_of l n in
      let local : i < l.ways * l.way = local_below l n is.some_way is.some_quanta ln in
      let lt : i < l.units * (l.rows * l.per) = omega (arith, local, is.enough) in
      entry-zero l held cells blocks told q i (λ yes.
      let parts = told-parts l cells (unit_of l q i) (row_of l i) (position_of l i) yes in
      let ei = index_back l q i is.some_rows is.some_per (some_place l is) lt in
      let eu = unit_quantum l q i lt (some_place l is) in
      let en = number_back l n is.some_way in
      let same : number_in l (unit_of l q i / l.units) (index_in l (unit_of l q i) (row_of l i) (position_of l i)) ≡ n =
      ap (λ u. number_in l u (index_in l (unit_of l q i) (row_of l i) (position_of l i))) eu ∙ ap (number_in l q) ei ∙ en in
      both_ways (is_listed n cells) unset (subst (λ m. IsTrue (is_listed m cells)) same parts.2));
}

-- a row of a unit in which no block has a bit
unit_row-zero : (size : ℕ) (held : Blocks) (row : ℕ) → ((b : ℕ) → held b row ≡ 0) → (blocks : List ℕ) → unit_row size held row blocks ≡ 0
unit_row-zero size held row none [] = refl
unit_row-zero size held row none (b ∷ blocks) = rw (none b, unit_row-zero size held row none blocks) (omega arith)

blocks_at-none : (blocks : List ℕ) (side unit : ℕ) → length blocks ≤ unit * side → length (blocks_at blocks side unit) ≡ 0
blocks_at-none blocks side unit le =
    let e = length-take side (drop (unit * side) blocks) in
    let f = length-drop (unit * side) blocks in
    omega (arith, e, f, le)

pub units_from_kept : (l : CellLayout) (held : Blocks) (cells blocks : List ℕ) → IsLayout l → Within l.bits held → ((b r : ℕ) → l.rows ≤ r → held b r ≡ 0)
    → length blocks ≤ l.quanta * l.units * l.side → Kept l held cells blocks → UnitsTold l held cells blocks
units_from_kept l held cells blocks is within low short kept unit row i one =
    told-from l cells unit row s s_lt index_lt
    (true_from_ne_false (is_listed (number_in l q index) cells) (λ unset. cleared (other unset)))
  where
    at : List ℕ
    at = blocks_at blocks l.side unit

    s : ℕ
    s = i / l.entry

    q : ℕ
    q = unit / l.units

    index : ℕ
    index = index_in l unit row s

    s_lt : s < l.per
    s_lt = div_below i l.entry l.per is.some_entry i_lt
      where
        i_lt : i < l.per * l.entry
        i_lt = elim (cases_lt i (l.per * l.entry)) as (λ _. i < l.per * l.entry) [
          | inl lt ↦ lt
          | inr past ↦ absurd (one_is_not_zero _ (bit_at_above (unit_row l.bits held row at) (l.per * l.entry) i (kept.ends unit row) past) one)
        ]

    row_lt : row < l.rows
    row_lt = elim (cases_lt row l.rows) as (λ _. row < l.rows) [
      | inl lt ↦ lt
      | inr past ↦ absurd (one_is_not_zero _ (ap (λ n. bit_at n i) (unit_row-zero l.bits held row (λ b. low b row past) at) ∙ bit_at-zero i) one)
    ]

    none : l.quanta * l.units ≤ unit → length at * l.bits ≤ i
    none past =
        let more = mul-le (l.quanta * l.units) l.side unit l.side past (omega arith) in
        let e : length at ≡ 0 = blocks_at-none blocks l.side unit (omega (arith, more, short)) in
        rw e (omega arith)

    unit_lt : unit < l.quanta * l.units
    unit_lt = elim (cases_lt unit (l.quanta * l.units)) as (λ _. unit < l.quanta * l.units) [
      | inl lt ↦ lt
      | inr past ↦ absurd (one_is_not_zero _ (unit_bit_past l.bits held row at i within (none past)) one)
    ]

    q_lt : q < l.quanta
    q_lt = div_below unit l.units l.quanta is.some_units unit_lt

    below : index < l.units * (l.rows * l.per)
    below = index_below l unit row s is.some_units row_lt s_lt

    -- a bit of an entry that is 0
    cleared : entry_in l held blocks q index ≡ 0 → ⊥
    cleared e =
        let eu : unit_of l q index ≡ unit = unit_back l unit row s row_lt s_lt in
        let er : row_of l index ≡ row = index_row l unit row s row_lt s_lt in
        let ep : position_of l index ≡ s = index_position l unit row s s_lt in
        let split : s * l.entry + i % l.entry ≡ i = div-add-mod' i l.entry in
        let e' : slice (unit_row l.bits held row at) (s * l.entry) l.entry ≡ 0 =
        ap (λ p. slice (unit_row l.bits held row at) (p * l.entry) l.entry) (sym ep)
        ∙ ap (λ r. slice (unit_row l.bits held r at) (position_of l index * l.entry) l.entry) (sym er)
        ∙ ap (λ u. slice (unit_row l.bits held (row_of l index) (blocks_at blocks l.side u)) (position_of l index * l.entry) l.entry) (sym eu) ∙ e in
        let zero_bit = slice-zero_bit (unit_row l.bits held row at) (s * l.entry) l.entry (i % l.entry) e' (mod_below i l.entry is.some_entry) in
        one_is_not_zero _ (ap (bit_at (unit_row l.bits held row at)) (sym split) ∙ zero_bit) one

    index_lt : index < l.ways * l.way
    index_lt = elim (cases_lt index (l.ways * l.way)) as (λ _. index < l.ways * l.way) [
      | inl lt ↦ lt
      | inr past ↦ absurd (cleared (kept.behind q index q_lt past below))
    ]

    other : is_listed (number_in l q index) cells ≡ false → entry_in l held blocks q index ≡ 0
    other unset =
        let n = number_in l q index in
        let eq = number_quantum l q index is.some_way q_lt in
        let ei = number_local l q index is.some_way q_lt in
        ap (λ u. entry_in l held blocks u index) (sym eq) ∙ ap (entry_in l held blocks (quantum_of l n)) (sym ei)
        ∙ kept.others n (number_below l q index is.some_way q_lt index_lt) unset
