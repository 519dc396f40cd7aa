-- No two cells in which a run begins have entries of one number.
use Rattle.std.proofs.Common.{◌≡◌, ℕ, zero, suc, ◌+◌, ◌<◌, ◌||◌, List, [], ◌∷◌, ◌++◌, map, Bool, true, false, not, cond, eqb, Option, Some, None, option_map, unwrap_or, inl, inr, refl, sym, ap, ◌∙◌, subst, arith}
use Rattle.std.specs.Prelude.{All, Contains, IsSomeAnd, find, option_and_then, slice_get}
use Rattle.std.specs.List.{AllByRecursion, IsDistinct, flat_map, list_any}
use Rattle.std.proofs.lemmas.Bool.{cases_Bool, eq-eqb, eqb-true, false≢true}
use Rattle.std.proofs.lemmas.List.Elements.{All-head, All-tail, Contains-append_right}
use Rattle.std.proofs.lemmas.Map.Keys.{IsDistinct-head, IsDistinct-tail, IsDistinct-cons}
use Rattle.std.proofs.lemmas.Option.{none-some, same_Some}
use Rattle.rmt_bits.proofs.AllLaws.{All-slice_get}
use Rattle.rmt_bits.proofs.MemberLaws.{Contains-first, Contains-flat_map, Contains-item, Contains-later, Contains-map, Contains-split}
use Rattle.rmt_config.specs.declared.config.CellNumber.{CellNumber}
use Rattle.rmt_config.specs.declared.config.Config.{Config}
use Rattle.rmt_config.specs.declared.config.SlotUnit.{SlotUnit}
use Rattle.rmt_config.specs.declared.config.Stage.{Stage}
use Rattle.rmt_config.specs.declared.config.Unit.{Unit}
use Rattle.rmt_config.specs.declared.config.Unit.TheVariants.{Gate, Slot}
use Rattle.rmt_config.specs.Cells.{Content, cells_in, content_of, is_occupied, number_of_cell}
use Rattle.rmt_config.specs.CellForm.{Coded, SlotHolds, StageHolds, cells_of, coded_from, entries_are_numbered, entry_numbers, numbers_of_stage, numbers_of_unit}
use Rattle.rmt_config.specs.Form.{visible_with}
use Rattle.rmt_config.specs.MemoryRules.{MemoryIsFormed}
use Rattle.rmt_config.specs.RunCells.{as_slot, no_content, own_cells, own_content, slot_at}
use Rattle.rmt_config.proofs.NumberLaws.{distinct_from, distinct_none}
use Rattle.rmt_update.specs.BookStands.{HaveOwnNumbers, IsUsed}
use Rattle.rmt_update.proofs.PartHoldLaws.{clear-head}

-- ---- numbers of which none stands twice

distinct-left : (xs ys : List ℕ) → IsDistinct eqb (xs ++ ys) → IsDistinct eqb xs
distinct-left [] ys d = distinct_none
distinct-left (x ∷ xs) ys d = IsDistinct-cons eqb x xs (front xs (IsDistinct-head eqb x (xs ++ ys) d)) (distinct-left xs ys (IsDistinct-tail eqb x (xs ++ ys) d))
  where
    front : (zs : List ℕ) → AllByRecursion (λ y. eqb x y ≡ false) (zs ++ ys) → AllByRecursion (λ y. eqb x y ≡ false) zs
    front [] h = tt
    front (z ∷ zs) h = (h.0, front zs h.1)

distinct-right : (xs ys : List ℕ) → IsDistinct eqb (xs ++ ys) → IsDistinct eqb ys
distinct-right [] ys d = d
distinct-right (x ∷ xs) ys d = distinct-right xs ys (IsDistinct-tail eqb x (xs ++ ys) d)

contained : (P : ℕ → Type 0) (xs : List ℕ) (m : ℕ) → AllByRecursion P xs → Contains xs m → P m
contained P [] m h there = absurd (let lt = there.1 in omega (arith, lt))
contained P (x ∷ xs) m h there = elim (Contains-split x xs m there) [
  | inl e ↦ subst P e h.0
  | inr later ↦ contained P xs m h.1 later
]

distinct-once : (xs ys : List ℕ) (m : ℕ) → IsDistinct eqb (xs ++ ys) → Contains xs m → Contains ys m → ⊥
distinct-once [] ys m d front back = absurd (let lt = front.1 in omega (arith, lt))
distinct-once (x ∷ xs) ys m d front back = elim (Contains-split x xs m front) [
  | inl e ↦ false≢true (sym (contained (λ y. eqb x y ≡ false) (xs ++ ys) m (IsDistinct-head eqb x (xs ++ ys) d) (Contains-append_right xs ys m back)) ∙ eq-eqb x m e)
  | inr later ↦ distinct-once xs ys m (IsDistinct-tail eqb x (xs ++ ys) d) later back
]

-- a number that stands in two parts of a list stands in one
one-part : {X : Type 0} (f : X → List ℕ) (xs : List X) (i j : ℕ) (x y : X) (m : ℕ) → IsDistinct eqb (flat_map f xs) → slice_get xs i ≡ Some x → slice_get xs j ≡ Some y
    → Contains (f x) m → Contains (f y) m → i ≡ j
one-part f [] i j x y m d at_x at_y in_x in_y = absurd (none-some x at_x)
one-part f (z ∷ zs) zero zero x y m d at_x at_y in_x in_y = refl
one-part f (z ∷ zs) zero (suc j) x y m d at_x at_y in_x in_y =
    absurd (distinct-once (f z) (flat_map f zs) m d (subst (λ w. Contains (f w) m) (sym (same_Some z x at_x)) in_x) (Contains-flat_map f zs y m (Contains-item zs j y at_y) in_y))
one-part f (z ∷ zs) (suc i) zero x y m d at_x at_y in_x in_y =
    absurd (distinct-once (f z) (flat_map f zs) m d (subst (λ w. Contains (f w) m) (sym (same_Some z y at_y)) in_y) (Contains-flat_map f zs x m (Contains-item zs i x at_x) in_x))
one-part f (z ∷ zs) (suc i) (suc j) x y m d at_x at_y in_x in_y = ap suc (one-part f zs i j x y m (distinct-right (f z) (flat_map f zs) d) at_x at_y in_x in_y)

part-distinct : {X : Type 0} (f : X → List ℕ) (xs : List X) (i : ℕ) (x : X) → IsDistinct eqb (flat_map f xs) → slice_get xs i ≡ Some x → IsDistinct eqb (f x)
part-distinct f [] i x d at = absurd (none-some x at)
part-distinct f (z ∷ zs) zero x d at = subst (λ w. IsDistinct eqb (f w)) (same_Some z x at) (distinct-left (f z) (flat_map f zs) d)
part-distinct f (z ∷ zs) (suc i) x d at = part-distinct f zs i x (distinct-right (f z) (flat_map f zs) d) at

-- two items of one number are one
one-item : (xs : List CellNumber) (a b : CellNumber) → IsDistinct eqb (map (λ (n : CellNumber). n.number) xs) → Contains xs a → Contains xs b → a.number ≡ b.number → a ≡ b
one-item [] a b d in_a in_b same = absurd (let lt = in_a.1 in omega (arith, lt))
one-item (x ∷ xs) a b d in_a in_b same =
    elim (Contains-split x xs a in_a) [
      | inl ea ↦ elim (Contains-split x xs b in_b) [
        | inl eb ↦ sym ea ∙ eb
        | inr later ↦ absurd (apart b later (ap f ea ∙ same))
      ]
      | inr later ↦ elim (Contains-split x xs b in_b) [
        | inl eb ↦ absurd (apart a later (ap f eb ∙ sym same))
        | inr more ↦ one-item xs a b (IsDistinct-tail eqb x.number (map f xs) d) later more same
      ]
    ]
  where
    f : CellNumber → ℕ
    f n = n.number

    apart : (y : CellNumber) → Contains xs y → f x ≡ f y → ⊥
    apart y there e =
        false≢true (sym (contained (λ m. eqb x.number m ≡ false) (map f xs) y.number (IsDistinct-head eqb x.number (map f xs) d) (Contains-map f xs y there)) ∙ eq-eqb x.number y.number e)

-- ---- the slots of cells

pub record Standing (c : Config) (k place : ℕ) (s : SlotUnit) : Type 0 where
  pub stage : Stage
  pub in_stages : slice_get c.stages k ≡ Some stage
  pub in_units : slice_get stage.units place ≡ Some (Slot s)

pub standing : (c : Config) (k place : ℕ) (s : SlotUnit) → slot_at c k place ≡ Some s → Standing c k place s
standing c k place s at = by_stage (slice_get c.stages k) refl at
  where
    by_unit : (stage : Stage) (o : Option Unit) → slice_get c.stages k ≡ Some stage → slice_get stage.units place ≡ o → option_and_then as_slot o ≡ Some s → Standing c k place s
    by_unit stage None here unit h = absurd (none-some s h)
    by_unit stage (Some (Gate g)) here unit h = absurd (none-some s h)
    by_unit stage (Some (Slot x)) here unit h = record { stage = stage; in_stages = here; in_units = unit ∙ ap (λ (y : SlotUnit). Some (Slot y)) (same_Some x s h) }

    by_stage : (o : Option Stage) → slice_get c.stages k ≡ o → option_and_then (λ (stage : Stage). option_and_then as_slot (slice_get stage.units place)) o ≡ Some s → Standing c k place s
    by_stage None here h = absurd (none-some s h)
    by_stage (Some stage) here h = by_unit stage (slice_get stage.units place) here refl h

slot-held : (visible : ℕ) (stage : Stage) (units : List Unit) (first i : ℕ) (s : SlotUnit) → slice_get units i ≡ Some (Slot s)
    → All (λ (x : Coded). SlotHolds visible stage x.first x.slot) (coded_from first units) → (n : ℕ) × SlotHolds visible stage n s
slot-held visible stage [] first i s at all = absurd (none-some (Slot s) at)
slot-held visible stage (Gate g ∷ units) first zero s at all = absurd (none-some s (ap (λ (o : Option Unit). option_and_then as_slot o) at))
slot-held visible stage (Gate g ∷ units) first (suc i) s at all = slot-held visible stage units first i s at all
slot-held visible stage (Slot x ∷ units) first zero s at all =
    let same : x ≡ s = same_Some x s (ap (λ (o : Option Unit). option_and_then as_slot o) at) in
    let here = All-head (λ (x : Coded). SlotHolds visible stage x.first x.slot) (record { first = first; slot = x }) (coded_from (first + x.actions + 1) units) all in
    (first, subst (λ (y : SlotUnit). SlotHolds visible stage first y) same here)
slot-held visible stage (Slot x ∷ units) first (suc i) s at all =
    slot-held visible stage units (first + x.actions + 1) i s at
    (All-tail (λ (x : Coded). SlotHolds visible stage x.first x.slot) (record { first = first; slot = x }) (coded_from (first + x.actions + 1) units) all)

-- the item that tells a listed cell's number
listed-number : (n : ℕ) (ns : List CellNumber) → list_any (λ m. eqb m n) (map (λ (x : CellNumber). x.cell) ns) ≡ true
    → (x : CellNumber) × Contains ns x × (x.cell ≡ n) × (number_of_cell ns n ≡ x.number)
listed-number n [] h = absurd (false≢true h)
listed-number n (x ∷ xs) h = by (eqb x.cell n) refl h (listed-number n xs)
  where
    by : (b : Bool) → eqb x.cell n ≡ b → (b || list_any (λ m. eqb m n) (map (λ (x : CellNumber). x.cell) xs)) ≡ true
        → (list_any (λ m. eqb m n) (map (λ (x : CellNumber). x.cell) xs) ≡ true → (y : CellNumber) × Contains xs y × (y.cell ≡ n) × (number_of_cell xs n ≡ y.number))
        → (y : CellNumber) × Contains (x ∷ xs) y × (y.cell ≡ n) × (number_of_cell (x ∷ xs) n ≡ y.number)
    by true is h rest =
        let own = ap (λ b. unwrap_or (option_map (λ (y : CellNumber). y.number) (cond b (Some x) (find (λ (y : CellNumber). eqb y.cell n) xs))) 0) is in
        (x, Contains-first x xs, eqb-true x.cell n is, own)
    by false is h rest =
        let r = rest h in
        let own = ap (λ b. unwrap_or (option_map (λ (y : CellNumber). y.number) (cond b (Some x) (find (λ (y : CellNumber). eqb y.cell n) xs))) 0) is in
        (r.0, Contains-later x xs r.0 r.1, r.2, own ∙ r.3)

-- ---- used cells

pub record Used (c : Config) (k place n : ℕ) : Type 0 where
  pub slot : SlotUnit
  pub stands : Standing c k place slot
  pub item : CellNumber
  pub listed : Contains slot.numbers item
  pub cell : item.cell ≡ n
  pub number : (own_cells c).number k place n ≡ item.number

own-at : (c : Config) (k place n : ℕ) (s : SlotUnit) (st : Standing c k place s) → own_content c k place n ≡ content_of st.stage s n
own-at c k place n s st =
    ap (λ (o : Option Stage). unwrap_or (option_and_then (λ (x : Stage). option_map (λ (y : SlotUnit). content_of x y n) (option_and_then as_slot (slice_get x.units place))) o) no_content) st.in_stages
    ∙ ap (λ (o : Option Unit). unwrap_or (option_map (λ (y : SlotUnit). content_of st.stage y n) (option_and_then as_slot o)) no_content) st.in_units

pub used : (c : Config) (k place n : ℕ) → MemoryIsFormed c → IsUsed c (own_cells c) k place n → Used c k place n
used c k place n memory h = by (slot_at c k place) refl h.0
  where
    by : (o : Option SlotUnit) → slot_at c k place ≡ o → IsSomeAnd o (λ slot. n < cells_in slot.memory) → Used c k place n
    by None at lt = absurd lt
    by (Some s) at lt =
        let st = standing c k place s at in
        let all = All-slice_get (StageHolds (visible_with c.names)) c.stages k st.stage memory.memory st.in_stages in
        let holds = (slot-held (visible_with c.names) st.stage st.stage.units 0 place s st.in_units all).1 in
        let any = list_any (λ m. eqb m n) (cells_of s) in
        let is : any ≡ true = elim (cases_Bool any) [
          | inl t ↦ t
          | inr f ↦
              let clear = holds.others n lt (ap not f) in
              let empty : is_occupied (own_content c k place n).head ≡ false =
              ap (λ (x : Content). is_occupied x.head) (own-at c k place n s st) ∙ ap is_occupied (clear-head s.memory n (content_of st.stage s n) lt clear) in
              absurd (false≢true (sym empty ∙ h.1))
        ] in
        let r = listed-number n s.numbers is in
        record {
          slot = s;
          stands = st;
          item = r.0;
          listed = r.1;
          cell = r.2;
          number = ap (λ (o : Option SlotUnit). unwrap_or (option_map (λ (slot : SlotUnit). number_of_cell slot.numbers n) o) 0) at ∙ r.3;
        }

in-stage : (c : Config) (k place n m : ℕ) → (u : Used c k place n) → u.item.number ≡ m → Contains (numbers_of_stage u.stands.stage) m
in-stage c k place n m u is =
    Contains-flat_map numbers_of_unit u.stands.stage.units (Slot u.slot) m (Contains-item u.stands.stage.units place (Slot u.slot) u.stands.in_units)
    (subst (Contains (map (λ (x : CellNumber). x.number) u.slot.numbers)) is (Contains-map (λ (x : CellNumber). x.number) u.slot.numbers u.item u.listed))

own-unit : (c : Config) (k place n m : ℕ) → (u : Used c k place n) → u.item.number ≡ m → Contains (numbers_of_unit (Slot u.slot)) m
own-unit c k place n m u is = subst (Contains (map (λ (x : CellNumber). x.number) u.slot.numbers)) is (Contains-map (λ (x : CellNumber). x.number) u.slot.numbers u.item u.listed)

pub own-numbers : (c : Config) → MemoryIsFormed c → entries_are_numbered c ≡ true → HaveOwnNumbers c (own_cells c)
own-numbers c memory numbered k place n k2 place2 n2 one two same =
    let u = used c k place n memory one in
    let v = used c k2 place2 n2 memory two in
    let m = u.item.number in
    let is : v.item.number ≡ m = sym v.number ∙ sym same ∙ u.number in
    let all : IsDistinct eqb (entry_numbers c) = (distinct_from [] (entry_numbers c) numbered).1 in
    let stages : k ≡ k2 = one-part numbers_of_stage c.stages k k2 u.stands.stage v.stands.stage m all u.stands.in_stages v.stands.in_stages (in-stage c k place n m u refl) (in-stage c k2 place2 n2 m v is) in
    let stage : u.stands.stage ≡ v.stands.stage = same_Some u.stands.stage v.stands.stage (sym u.stands.in_stages ∙ ap (slice_get c.stages) stages ∙ v.stands.in_stages) in
    let own : IsDistinct eqb (numbers_of_stage u.stands.stage) = part-distinct numbers_of_stage c.stages k u.stands.stage all u.stands.in_stages in
    let at2 : slice_get u.stands.stage.units place2 ≡ Some (Slot v.slot) = ap (λ (s : Stage). slice_get s.units place2) stage ∙ v.stands.in_units in
    let places : place ≡ place2 =
    one-part numbers_of_unit u.stands.stage.units place place2 (Slot u.slot) (Slot v.slot) m own u.stands.in_units at2 (own-unit c k place n m u refl) (own-unit c k2 place2 n2 m v is) in
    let units : Some (Slot u.slot) ≡ Some (Slot v.slot) = sym u.stands.in_units ∙ ap (slice_get u.stands.stage.units) places ∙ at2 in
    let slots : u.slot ≡ v.slot = same_Some u.slot v.slot (ap (λ (o : Option Unit). option_and_then as_slot o) units) in
    let numbers : IsDistinct eqb (map (λ (x : CellNumber). x.number) u.slot.numbers) = part-distinct numbers_of_unit u.stands.stage.units place (Slot u.slot) own u.stands.in_units in
    let items : u.item ≡ v.item = one-item u.slot.numbers u.item v.item numbers u.listed (subst (λ (s : SlotUnit). Contains s.numbers v.item) (sym slots) v.listed) (sym is) in
    (stages, places, sym u.cell ∙ ap (λ (x : CellNumber). x.cell) items ∙ v.cell)
