-- Which cells a commit changes, and what it leaves in each, is the same however their bytes are written.
use Rattle.std.proofs.Common.{◌≡◌, ◌≢◌, ◌⊎◌, inl, inr, ℕ, ◌+◌, ◌*◌, ◌<◌, ◌&&◌, ◌||◌, Bool, true, false, not, cond, eqb, ltb, List, [], ◌∷◌, Option, Some, None, map, option_map, unwrap_or, sym, refl, ap, ◌∙◌, subst, arith}
use Rattle.std.specs.Prelude.{AllPairs, Contains, IsSomeAnd}
use Rattle.std.specs.List.{AllZip}
use Rattle.std.proofs.lemmas.Bool.{and_parts, eqb-true, ltb-true, or_cases}
use Rattle.std.proofs.lemmas.List.Elements.{All-contains}
use Rattle.rmt_bits.specs.Bits.{number_of}
use Rattle.rmt_bits.proofs.ListLaws.{find-passes}
use Rattle.rmt_bits.proofs.MemberLaws.{Contains-first, Contains-later, Contains-split}
use Rattle.rmt_bits.proofs.PairLaws.{AllPairs-head, AllPairs-tail}
use Rattle.rmt_config.specs.declared.config.Config.{Config}
use Rattle.rmt_config.specs.declared.config.SlotUnit.{SlotUnit}
use Rattle.rmt_config.specs.declared.cell_write.CellWrite.{CellWrite}
use Rattle.rmt_config.specs.Cells.{Content, cells_in}
use Rattle.rmt_config.specs.LaneForm.{bits_of_lanes}
use Rattle.rmt_config.specs.Commits.{AreWrites, IsCell, writes_before}
use Rattle.rmt_config.specs.RunCells.{RunCells, emptied, is_changed, no_content, slot_at, with_write, written_content, written_mask}
use Rattle.rmt_config.specs.RunInputs.{Input, Writes, after_input, numbers_brought, packet_of}
use Rattle.rmt_update.proofs.FitWrites.{own-change}
use Rattle.rmt_update.proofs.FoldLaws.{change_of, content_by, fold-content, fold-number, number_by}
use Rattle.rmt_update.proofs.OncePlaced.{found-in}
use Rattle.rmt_update.proofs.WritesLaws.{place-of, said_content, said_number}

-- two inputs are alike: the same packet enters, they leave the same cells, and bring the same numbers
pub record IsAlike (c : Config) (x y : Input) : Type 0 where
  pub packet : packet_of x ≡ packet_of y
  pub after : (cells : RunCells) → after_input c cells x ≡ after_input c cells y
  pub brought : numbers_brought c x ≡ numbers_brought c y

-- ---- changed cells of one place

abbrev IsBefore : CellWrite → CellWrite → Type 0
IsBefore a b = writes_before a b ≡ true

-- the places of two changed cells
pub record SamePlace (a b : CellWrite) : Type 0 where
  pub stage : a.stage ≡ b.stage
  pub unit : a.unit ≡ b.unit
  pub cell : a.cell ≡ b.cell

back : (a b : CellWrite) → SamePlace a b → SamePlace b a
back a b h = record { stage = sym h.stage; unit = sym h.unit; cell = sym h.cell }

then_same : (a b d : CellWrite) → SamePlace a b → SamePlace b d → SamePlace a d
then_same a b d h k = record { stage = h.stage ∙ k.stage; unit = h.unit ∙ k.unit; cell = h.cell ∙ k.cell }

-- one place is before another
abbrev Precedes : CellWrite → CellWrite → Type 0
Precedes a b = (a.stage < b.stage) ⊎ ((a.stage ≡ b.stage) × ((a.unit < b.unit) ⊎ ((a.unit ≡ b.unit) × (a.cell < b.cell))))

precedes : (a b : CellWrite) → IsBefore a b → Precedes a b
precedes a b h = elim (or_cases (ltb a.stage b.stage) (eqb a.stage b.stage && (ltb a.unit b.unit || (eqb a.unit b.unit && ltb a.cell b.cell))) h) [
  | inl lt ↦ inl (ltb-true a.stage b.stage lt)
  | inr both ↦
      let parts = and_parts (eqb a.stage b.stage) (ltb a.unit b.unit || (eqb a.unit b.unit && ltb a.cell b.cell)) both in
      inr (
        eqb-true a.stage b.stage parts.0,
        elim (or_cases (ltb a.unit b.unit) (eqb a.unit b.unit && ltb a.cell b.cell) parts.1) [
          | inl lt ↦ inl (ltb-true a.unit b.unit lt)
          | inr more ↦ let two = and_parts (eqb a.unit b.unit) (ltb a.cell b.cell) more in inr (eqb-true a.unit b.unit two.0, ltb-true a.cell b.cell two.1)
        ],
      )
]

-- so two are not before each other, nor one before one of its own place
never_both : (a b : CellWrite) → Precedes a b → Precedes b a → ⊥
never_both a b (inl x) (inl y) = omega (arith, x, y)
never_both a b (inl x) (inr y) = let e = y.0 in omega (arith, x, e)
never_both a b (inr x) (inl y) = let e = x.0 in omega (arith, e, y)
never_both a b (inr x) (inr y) = units x.1 y.1
  where
    units : (a.unit < b.unit) ⊎ ((a.unit ≡ b.unit) × (a.cell < b.cell)) → (b.unit < a.unit) ⊎ ((b.unit ≡ a.unit) × (b.cell < a.cell)) → ⊥
    units (inl u) (inl v) = omega (arith, u, v)
    units (inl u) (inr v) = let e = v.0 in omega (arith, u, e)
    units (inr u) (inl v) = let e = u.0 in omega (arith, e, v)
    units (inr u) (inr v) = let m = u.1 in let n = v.1 in omega (arith, m, n)

moved_to : (a b d : CellWrite) → SamePlace b d → Precedes a b → Precedes a d
moved_to a b d h (inl x) = inl (subst (λ n. a.stage < n) h.stage x)
moved_to a b d h (inr x) = inr (x.0 ∙ h.stage, units x.1)
  where
    units : (a.unit < b.unit) ⊎ ((a.unit ≡ b.unit) × (a.cell < b.cell)) → (a.unit < d.unit) ⊎ ((a.unit ≡ d.unit) × (a.cell < d.cell))
    units (inl u) = inl (subst (λ n. a.unit < n) h.unit u)
    units (inr u) = inr (u.0 ∙ h.unit, subst (λ n. a.cell < n) h.cell u.1)

never_same : (a b : CellWrite) → Precedes a b → SamePlace a b → ⊥
never_same a b x h = let own = moved_to a b a (back a b h) x in never_both a a own own

-- each changed cell of a list has one of its place in another
abbrev AreIn : List CellWrite → List CellWrite → Type 0
AreIn ws vs = (w : CellWrite) → Contains ws w → (v : CellWrite) × Contains vs v × SamePlace w v

none_there : (w : CellWrite) → Contains [] w → ⊥
none_there w there = let lt = there.1 in omega (arith, lt)

-- two lists in order with the same places have them side by side
side_by_side : (ws vs : List CellWrite) → AllPairs IsBefore ws → AllPairs IsBefore vs → AreIn ws vs → AreIn vs ws → AllZip SamePlace ws vs
side_by_side [] [] rise_w rise_v there back = tt
side_by_side [] (v ∷ vs) rise_w rise_v there back = let x = back v (Contains-first v vs) in absurd (none_there x.0 x.1)
side_by_side (w ∷ ws) [] rise_w rise_v there back = let x = there w (Contains-first w ws) in absurd (none_there x.0 x.1)
side_by_side (w ∷ ws) (v ∷ vs) rise_w rise_v there behind =
    (first, side_by_side ws vs (AllPairs-tail IsBefore w ws rise_w) (AllPairs-tail IsBefore v vs rise_v) rest_there rest_back)
  where
    after_w : (u : CellWrite) → Contains ws u → Precedes w u
    after_w u later = precedes w u (All-contains (IsBefore w) ws u (AllPairs-head IsBefore w ws rise_w) later)

    after_v : (u : CellWrite) → Contains vs u → Precedes v u
    after_v u later = precedes v u (All-contains (IsBefore v) vs u (AllPairs-head IsBefore v vs rise_v) later)

    first : SamePlace w v
    first =
        let x = there w (Contains-first w ws) in
        let y = behind v (Contains-first v vs) in
        elim (Contains-split v vs x.0 x.1) [
          | inl same ↦ subst (SamePlace w) (sym same) x.2
          | inr later_v ↦ elim (Contains-split w ws y.0 y.1) [
            | inl same ↦ back v w (subst (SamePlace v) (sym same) y.2)
            | inr later_w ↦ absurd (never_both v w (moved_to v x.0 w (back w x.0 x.2) (after_v x.0 later_v)) (moved_to w y.0 v (back v y.0 y.2) (after_w y.0 later_w)))
          ]
        ]

    rest_there : AreIn ws vs
    rest_there u later =
        let x = there u (Contains-later w ws u later) in
        elim (Contains-split v vs x.0 x.1) [
          | inl same ↦ absurd (never_same w u (after_w u later) (then_same w v u first (back u v (subst (SamePlace u) (sym same) x.2))))
          | inr more ↦ (x.0, more, x.2)
        ]

    rest_back : AreIn vs ws
    rest_back u later =
        let x = behind u (Contains-later v vs u later) in
        elim (Contains-split w ws x.0 x.1) [
          | inl same ↦ absurd (never_same v u (after_v u later) (then_same v w u (back w v first) (back u w (subst (SamePlace u) (sym same) x.2))))
          | inr more ↦ (x.0, more, x.2)
        ]

-- ---- what is changed

module _ (c : Config) (cells next : RunCells) where
  -- a changed cell leaves what its cell holds next
  record Leaves (w : CellWrite) : Type 0 where
    cell : IsCell c w.stage w.unit w.cell
    content : said_content c w ≡ next.content w.stage w.unit w.cell
    number : said_number w ≡ next.number w.stage w.unit w.cell

  leaves : (ws : List CellWrite) → AreWrites c cells next ws → (w : CellWrite) → Contains ws w → Leaves w
  leaves ws a w there =
      let cell = All-contains (λ (x : CellWrite). IsCell c x.stage x.unit x.cell) ws w a.cells_are there in
      let own = own-change c ws w a.in_order there in
      record {
        cell = cell;
        content =
            ap (λ o. content_by c w.stage w.unit w.cell o (cells.content w.stage w.unit w.cell)) (sym own)
            ∙ sym (fold-content c w.stage w.unit w.cell cells ws a.in_order) ∙ a.content w.stage w.unit w.cell cell;
        number =
            ap (λ o. number_by c w.stage w.unit w.cell o (cells.number w.stage w.unit w.cell)) (sym own)
            ∙ sym (fold-number c w.stage w.unit w.cell cells ws a.in_order) ∙ a.number w.stage w.unit w.cell cell;
      }

  -- what one list changes any other does
  are_in : (ws vs : List CellWrite) → AreWrites c cells next ws → AreWrites c cells next vs → AreIn ws vs
  are_in ws vs a b w there = by (change_of c k place n vs) refl
    where
      k : ℕ
      k = w.stage

      place : ℕ
      place = w.unit

      n : ℕ
      n = w.cell

      cell : IsCell c k place n
      cell = All-contains (λ (x : CellWrite). IsCell c x.stage x.unit x.cell) ws w a.cells_are there

      changes : (cells.content k place n ≢ next.content k place n) ⊎ (cells.number k place n ≢ next.number k place n)
      changes =
          All-contains (λ (x : CellWrite). (cells.content x.stage x.unit x.cell ≢ next.content x.stage x.unit x.cell) ⊎ (cells.number x.stage x.unit x.cell ≢ next.number x.stage x.unit x.cell))
          ws w a.change there

      by : (o : Option CellWrite) → change_of c k place n vs ≡ o → (v : CellWrite) × Contains vs v × SamePlace w v
      by None e = elim changes [
        | inl ne ↦ absurd (ne (ap (λ o. content_by c k place n o (cells.content k place n)) (sym e) ∙ sym (fold-content c k place n cells vs b.in_order) ∙ b.content k place n cell))
        | inr ne ↦ absurd (ne (ap (λ o. number_by c k place n o (cells.number k place n)) (sym e) ∙ sym (fold-number c k place n cells vs b.in_order) ∙ b.number k place n cell))
      ]
      by (Some v) e =
          let at = place-of v k place n (find-passes (λ (x : CellWrite). is_changed x k place n) vs v e) in
          (v, found-in (λ (x : CellWrite). is_changed x k place n) vs v e, record { stage = sym at.0; unit = sym at.1; cell = sym at.2 })

  -- ---- alike inputs

  module _ (w v : CellWrite) (same : SamePlace w v) (a : Leaves w) (b : Leaves v) where
    contents : said_content c w ≡ said_content c v
    contents = a.content ∙ (λ i. next.content (same.stage i) (same.unit i) (same.cell i)) ∙ sym b.content

    numbers : said_number w ≡ said_number v
    numbers = a.number ∙ (λ i. next.number (same.stage i) (same.unit i) (same.cell i)) ∙ sym b.number

    slots : slot_at c w.stage w.unit ≡ slot_at c v.stage v.unit
    slots = λ i. slot_at c (same.stage i) (same.unit i)

    both_changed : (k place n : ℕ) → is_changed w k place n ≡ is_changed v k place n
    both_changed k place n = λ i. (eqb (same.stage i) k && eqb (same.unit i) place) && eqb (same.cell i) n

    content_after : (k place n : ℕ) (x : Content)
        → cond (is_changed w k place n) (unwrap_or (option_map (written_content w) (slot_at c k place)) no_content) x
        ≡ cond (is_changed v k place n) (unwrap_or (option_map (written_content v) (slot_at c k place)) no_content) x
    content_after k place n x = by (is_changed w k place n) refl ∙ ap (λ t. cond t (unwrap_or (option_map (written_content v) (slot_at c k place)) no_content) x) (both_changed k place n)
      where
        by : (t : Bool) → is_changed w k place n ≡ t
            → cond t (unwrap_or (option_map (written_content w) (slot_at c k place)) no_content) x ≡ cond t (unwrap_or (option_map (written_content v) (slot_at c k place)) no_content) x
        by false e = refl
        by true e =
            let at = place-of w k place n e in
            let mine : slot_at c w.stage w.unit ≡ slot_at c k place = λ i. slot_at c (at.0 i) (at.1 i) in
            ap (λ o. unwrap_or (option_map (written_content w) o) no_content) (sym mine) ∙ contents
            ∙ ap (λ o. unwrap_or (option_map (written_content v) o) no_content) (sym slots ∙ mine)

    number_after : (k place n : ℕ) (x : ℕ) → cond (is_changed w k place n) (said_number w) x ≡ cond (is_changed v k place n) (said_number v) x
    number_after k place n x = ap (λ t. cond t (said_number w) x) (both_changed k place n) ∙ ap (λ m. cond (is_changed v k place n) m x) numbers

    writes_after : (old : RunCells) → with_write c old w ≡ with_write c old v
    writes_after old = λ i. record old {
      content = λ k place n. content_after k place n (old.content k place n) i;
      number = λ k place n. number_after k place n (old.number k place n) i;
    }

    -- a cell is emptied by both or by neither
    head_is : (x : CellWrite) (slot : SlotUnit) → cond (eqb x.visible 0) 0 (1 + 2 * x.visible + 8 * x.code) ≡ (written_content x slot).head
    head_is x slot = of (eqb x.visible 0)
      where
        full : Content
        full = record {
          head = 1 + 2 * x.visible + 8 * x.code;
          key = number_of x.key;
          mask = written_mask (bits_of_lanes slot.keys) slot.memory x.mask;
          held = number_of x.held;
        }

        of : (t : Bool) → cond t 0 (1 + 2 * x.visible + 8 * x.code) ≡ (cond t (emptied slot) full).head
        of true = refl
        of false = refl

    empty_alike : (slot : SlotUnit) → (written_content w slot).head ≡ (written_content v slot).head → eqb w.visible 0 ≡ eqb v.visible 0
    empty_alike slot e = by (eqb w.visible 0) (eqb v.visible 0) (head_is w slot ∙ e ∙ sym (head_is v slot))
      where
        by : (s t : Bool) → cond s 0 (1 + 2 * w.visible + 8 * w.code) ≡ cond t 0 (1 + 2 * v.visible + 8 * v.code) → s ≡ t
        by true true f = refl
        by false false f = refl
        by true false f = absurd (omega (arith, f))
        by false true f = absurd (omega (arith, f))

    abbrev is_counted : Option SlotUnit → Bool
    is_counted o = unwrap_or (option_map (λ (slot : SlotUnit). slot.counted) o) false

    abbrev told : Bool → Bool → ℕ → List ℕ
    told empty counted n = cond (not empty && counted) (n ∷ []) []

    brought_alike : numbers_brought c (Writes w) ≡ numbers_brought c (Writes v)
    brought_alike = by (slot_at c w.stage w.unit) refl a.cell
      where
        of : (t counted : Bool) → eqb w.visible 0 ≡ t → eqb v.visible 0 ≡ t → told t counted w.number ≡ told t counted v.number
        of true counted e f = refl
        of false counted e f = ap (told false counted) (ap (λ t. cond t 0 w.number) (sym e) ∙ numbers ∙ ap (λ t. cond t 0 v.number) f)

        by : (o : Option SlotUnit) → slot_at c w.stage w.unit ≡ o → IsSomeAnd o (λ slot. w.cell < cells_in slot.memory) → numbers_brought c (Writes w) ≡ numbers_brought c (Writes v)
        by None e lt = absurd lt
        by (Some slot) e lt =
            let said : written_content w slot ≡ written_content v slot =
            ap (λ o. unwrap_or (option_map (written_content w) o) no_content) (sym e) ∙ contents ∙ ap (λ o. unwrap_or (option_map (written_content v) o) no_content) (sym slots ∙ e) in
            let empty = empty_alike slot (ap (λ (x : Content). x.head) said) in
            ap (λ o. told (eqb w.visible 0) (is_counted o) w.number) slots
            ∙ of (eqb w.visible 0) (is_counted (slot_at c v.stage v.unit)) refl (sym empty)
            ∙ ap (λ t. told t (is_counted (slot_at c v.stage v.unit)) v.number) empty

    write_alike : IsAlike c (Writes w) (Writes v)
    write_alike = record { packet = refl; after = writes_after; brought = brought_alike }

  writes_alike : (ws vs : List CellWrite) → ((w : CellWrite) → Contains ws w → Leaves w) → ((v : CellWrite) → Contains vs v → Leaves v) → AllZip SamePlace ws vs
      → AllZip (IsAlike c) (map Writes ws) (map Writes vs)
  writes_alike [] [] left_w left_v same = tt
  writes_alike [] (v ∷ vs) left_w left_v same = absurd same
  writes_alike (w ∷ ws) [] left_w left_v same = absurd same
  writes_alike (w ∷ ws) (v ∷ vs) left_w left_v same = (
    write_alike w v same.0 (left_w w (Contains-first w ws)) (left_v v (Contains-first v vs)),
    writes_alike ws vs (λ x there. left_w x (Contains-later w ws x there)) (λ x there. left_v x (Contains-later v vs x there)) same.1,
  )

  -- two lists of changed cells that make the same of cells are alike, input for input
  pub writes_once : (ws vs : List CellWrite) → AreWrites c cells next ws → AreWrites c cells next vs → AllZip (IsAlike c) (map Writes ws) (map Writes vs)
  writes_once ws vs a b = writes_alike ws vs (leaves ws a) (leaves vs b) (side_by_side ws vs a.in_order b.in_order (are_in ws vs a b) (are_in vs ws b a))
