-- Changed cells in order make of cells what each of them says, and leave all others.
use Rattle.std.proofs.Common.{◌≡◌, ◌⊎◌, ℕ, ◌&&◌, ◌||◌, List, [], ◌∷◌, Bool, true, false, cond, eqb, ltb, get_or, inl, inr, option_map, unwrap_or, refl, sym, ap, ◌∙◌, arith}
use Rattle.std.specs.Prelude.{All, AllPairs, fold, ◌==◌, if◌then◌else◌}
use Rattle.std.specs.List.{list_any}
use Rattle.std.proofs.lemmas.Bool.{and_parts, eqb-true, false_from_ne_true, false≢true, ltb-true, or_cases, or_parts}
use Rattle.std.proofs.lemmas.List.Elements.{All-head, All-tail, All-cons, All-nil}
use Rattle.rmt_bits.proofs.PairLaws.{AllPairs-head, AllPairs-tail}
use Rattle.rmt_config.specs.declared.config.Config.{Config}
use Rattle.rmt_config.specs.declared.cell_write.CellWrite.{CellWrite}
use Rattle.rmt_config.specs.Cells.{Content}
use Rattle.rmt_config.specs.RunCells.{RunCells, is_changed, no_content, slot_at, with_write, written_content}
use Rattle.rmt_config.specs.Commits.{AreWrites, IsCell, writes_before}

-- what a changed cell says of its cell
abbrev pub said_content : Config → CellWrite → Content
said_content c w = unwrap_or (option_map (written_content w) (slot_at c w.stage w.unit)) no_content

abbrev pub said_number : CellWrite → ℕ
said_number w = if w.visible == 0 then 0 else w.number

-- the place of a changed cell
pub place-of : (w : CellWrite) (k place n : ℕ) → is_changed w k place n ≡ true → (w.stage ≡ k) × (w.unit ≡ place) × (w.cell ≡ n)
place-of w k place n e =
    let parts = and_parts (eqb w.stage k && eqb w.unit place) (eqb w.cell n) e in
    let two = and_parts (eqb w.stage k) (eqb w.unit place) parts.0 in
    (eqb-true w.stage k two.0, eqb-true w.unit place two.1, eqb-true w.cell n parts.1)

-- of changed cells in order no two are the same cell
pub apart : (a b : CellWrite) (k place n : ℕ) → writes_before a b ≡ true → is_changed a k place n ≡ true → is_changed b k place n ≡ false
apart a b k place n before here = false_from_ne_true (is_changed b k place n) (λ there.
    let p = place-of a k place n here in
    let q = place-of b k place n there in
    first (p.0 ∙ sym q.0) (p.1 ∙ sym q.1) (p.2 ∙ sym q.2) (or_cases (ltb a.stage b.stage) (eqb a.stage b.stage && (ltb a.unit b.unit || (eqb a.unit b.unit && ltb a.cell b.cell))) before))
  where
    last : a.cell ≡ b.cell → ltb a.cell b.cell ≡ true → ⊥
    last e lt = let l = ltb-true a.cell b.cell lt in absurd (omega (arith, l, e))

    second : a.unit ≡ b.unit → a.cell ≡ b.cell → (ltb a.unit b.unit ≡ true) ⊎ ((eqb a.unit b.unit && ltb a.cell b.cell) ≡ true) → ⊥
    second eu ec (inl lt) = let l = ltb-true a.unit b.unit lt in absurd (omega (arith, l, eu))
    second eu ec (inr more) = last ec (and_parts (eqb a.unit b.unit) (ltb a.cell b.cell) more).1

    first : a.stage ≡ b.stage → a.unit ≡ b.unit → a.cell ≡ b.cell → (ltb a.stage b.stage ≡ true) ⊎ ((eqb a.stage b.stage && (ltb a.unit b.unit || (eqb a.unit b.unit && ltb a.cell b.cell))) ≡ true) → ⊥
    first es eu ec (inl lt) = let l = ltb-true a.stage b.stage lt in absurd (omega (arith, l, es))
    first es eu ec (inr more) =
        second eu ec (or_cases (ltb a.unit b.unit) (eqb a.unit b.unit && ltb a.cell b.cell) (and_parts (eqb a.stage b.stage) (ltb a.unit b.unit || (eqb a.unit b.unit && ltb a.cell b.cell)) more).1)

module _ (c : Config) (k place n : ℕ) where
  -- no changed cell is this one
  abbrev pub IsLeft : List CellWrite → Type 0
  IsLeft writes = All (λ (w : CellWrite). is_changed w k place n ≡ false) writes

  left-content : (writes : List CellWrite) (cells : RunCells) → IsLeft writes → (fold (with_write c) cells writes).content k place n ≡ cells.content k place n
  left-content [] cells left = refl
  left-content (w ∷ ws) cells left =
      left-content ws (with_write c cells w) (All-tail (λ (v : CellWrite). is_changed v k place n ≡ false) w ws left)
      ∙ ap (λ b. cond b (unwrap_or (option_map (written_content w) (slot_at c k place)) no_content) (cells.content k place n)) (All-head (λ (v : CellWrite). is_changed v k place n ≡ false) w ws left)

  left-number : (writes : List CellWrite) (cells : RunCells) → IsLeft writes → (fold (with_write c) cells writes).number k place n ≡ cells.number k place n
  left-number [] cells left = refl
  left-number (w ∷ ws) cells left =
      left-number ws (with_write c cells w) (All-tail (λ (v : CellWrite). is_changed v k place n ≡ false) w ws left)
      ∙ ap (λ b. cond b (said_number w) (cells.number k place n)) (All-head (λ (v : CellWrite). is_changed v k place n ≡ false) w ws left)

  none-left : (writes : List CellWrite) → list_any (λ w. is_changed w k place n) writes ≡ false → IsLeft writes
  none-left [] e = All-nil (λ (w : CellWrite). is_changed w k place n ≡ false)
  none-left (w ∷ ws) e =
      let parts = or_parts (is_changed w k place n) (list_any (λ v. is_changed v k place n) ws) e in
      All-cons (λ (v : CellWrite). is_changed v k place n ≡ false) w ws parts.0 (none-left ws parts.1)

  behind-left : (w : CellWrite) (ws : List CellWrite) → is_changed w k place n ≡ true → All (λ v. writes_before w v ≡ true) ws → IsLeft ws
  behind-left w ws here later i d lt = apart w (get_or ws i d) k place n (later i d lt) here

  -- what all changed cells say of this one
  abbrev Says : Content → ℕ → CellWrite → Type 0
  Says x m w = is_changed w k place n ≡ true → (said_content c w ≡ x) × (said_number w ≡ m)

  told-content : (writes : List CellWrite) (cells : RunCells) (x : Content) (m : ℕ) → AllPairs (λ a b. writes_before a b ≡ true) writes → list_any (λ w. is_changed w k place n) writes ≡ true → All (Says x m) writes
      → ((fold (with_write c) cells writes).content k place n ≡ x) × ((fold (with_write c) cells writes).number k place n ≡ m)
  told-content [] cells x m order some all = absurd (false≢true some)
  told-content (w ∷ ws) cells x m order some all =
      by (is_changed w k place n) refl
      (λ more. told-content ws (with_write c cells w) x m (AllPairs-tail (λ a b. writes_before a b ≡ true) w ws order) more (All-tail (Says x m) w ws all))
    where
      by : (b : Bool) → is_changed w k place n ≡ b
          → (list_any (λ v. is_changed v k place n) ws ≡ true → ((fold (with_write c) cells (w ∷ ws)).content k place n ≡ x) × ((fold (with_write c) cells (w ∷ ws)).number k place n ≡ m))
          → ((fold (with_write c) cells (w ∷ ws)).content k place n ≡ x) × ((fold (with_write c) cells (w ∷ ws)).number k place n ≡ m)
      by true here rest =
          let left = behind-left w ws here (AllPairs-head (λ a b. writes_before a b ≡ true) w ws order) in
          let says = All-head (Says x m) w ws all here in
          let p = place-of w k place n here in
          let slot : unwrap_or (option_map (written_content w) (slot_at c k place)) no_content ≡ said_content c w =
          ap (λ i. unwrap_or (option_map (written_content w) (slot_at c i place)) no_content) (sym p.0) ∙ ap (λ i. unwrap_or (option_map (written_content w) (slot_at c w.stage i)) no_content) (sym p.1) in (
            left-content ws (with_write c cells w) left ∙ ap (λ b. cond b (unwrap_or (option_map (written_content w) (slot_at c k place)) no_content) (cells.content k place n)) here ∙ slot ∙ says.0,
            left-number ws (with_write c cells w) left ∙ ap (λ b. cond b (said_number w) (cells.number k place n)) here ∙ says.1,
          )
      by false not_here rest = rest (sym (ap (λ b. b || list_any (λ v. is_changed v k place n) ws) not_here) ∙ some)

-- what changed cells say of their own places, they say of a place
says-at : (c : Config) (next : RunCells) (k place n : ℕ) (w : CellWrite)
    → (said_content c w ≡ next.content w.stage w.unit w.cell) × (said_number w ≡ next.number w.stage w.unit w.cell) → is_changed w k place n ≡ true
    → (said_content c w ≡ next.content k place n) × (said_number w ≡ next.number k place n)
says-at c next k place n w says here =
    let p = place-of w k place n here in (
      says.0 ∙ ap (λ i. next.content i w.unit w.cell) p.0 ∙ ap (λ i. next.content k i w.cell) p.1 ∙ ap (next.content k place) p.2,
      says.1 ∙ ap (λ i. next.number i w.unit w.cell) p.0 ∙ ap (λ i. next.number k i w.cell) p.1 ∙ ap (next.number k place) p.2,
    )

-- Changed cells in order, each of a cell that changes, and each saying what its cell becomes, make of cells what they become, where
-- all other cells stay as they are.
pub writes-are : (c : Config) (cells next : RunCells) (writes : List CellWrite) → AllPairs (λ a b. writes_before a b ≡ true) writes → All (λ (w : CellWrite). IsCell c w.stage w.unit w.cell) writes
    → All (λ (w : CellWrite). (cells.content w.stage w.unit w.cell ≡ next.content w.stage w.unit w.cell → ⊥) ⊎ (cells.number w.stage w.unit w.cell ≡ next.number w.stage w.unit w.cell → ⊥)) writes
    → All (λ (w : CellWrite). (said_content c w ≡ next.content w.stage w.unit w.cell) × (said_number w ≡ next.number w.stage w.unit w.cell)) writes
    → ((k place n : ℕ) → IsCell c k place n → list_any (λ w. is_changed w k place n) writes ≡ false → (cells.content k place n ≡ next.content k place n) × (cells.number k place n ≡ next.number k place n))
    → AreWrites c cells next writes
writes-are c cells next writes order are change says others = record {
  in_order = order;
  cells_are = are;
  change = change;
  content = λ k place n cell. (at k place n cell (list_any (λ w. is_changed w k place n) writes) refl).0;
  number = λ k place n cell. (at k place n cell (list_any (λ w. is_changed w k place n) writes) refl).1;
}
  where
    at : (k place n : ℕ) → IsCell c k place n → (b : Bool) → list_any (λ w. is_changed w k place n) writes ≡ b
        → ((fold (with_write c) cells writes).content k place n ≡ next.content k place n) × ((fold (with_write c) cells writes).number k place n ≡ next.number k place n)
    at k place n cell true some = told-content c k place n writes cells (next.content k place n) (next.number k place n) order some (λ i d lt. says-at c next k place n (get_or writes i d) (says i d lt))
    at k place n cell false none =
        let left = none-left c k place n writes none in
        let same = others k place n cell none in
        (left-content c k place n writes cells left ∙ same.0, left-number c k place n writes cells left ∙ same.1)
