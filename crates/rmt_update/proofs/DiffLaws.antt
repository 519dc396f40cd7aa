-- Changed cells that turn what is kept of each cell into what is kept next.
use Rattle.std.proofs.Common.{◌≡◌, ◌≢◌, ◌⊎◌, ℕ, Bool, true, false, ◌&&◌, cond, eqb, List, [], ◌∷◌, Option, Some, None, option_map, unwrap_or, refl, sym, ap, ◌∙◌, inl, inr, arith}
use Rattle.std.specs.Prelude.{All, AllPairs, slice_index_or}
use Rattle.std.proofs.lemmas.Bool.{eq-eqb, ne_eqb}
use Rattle.std.proofs.lemmas.List.Elements.{All-cons}
use Rattle.rmt_config.specs.declared.cell_write.CellWrite.{CellWrite}
use Rattle.rmt_config.specs.declared.config.Config.{Config}
use Rattle.rmt_config.specs.declared.config.SlotUnit.{SlotUnit}
use Rattle.rmt_config.specs.Commits.{AreWrites, IsCell, writes_before}
use Rattle.rmt_config.specs.Rooms.{PartAt}
use Rattle.rmt_config.specs.RunCells.{RunCells, is_changed, no_content, slot_at, written_content}
use Rattle.rmt_book.specs.declared.kept.Kept.{Kept}
use Rattle.rmt_update.specs.BookStands.{IsKeptOf}
use Rattle.rmt_book.specs.Coming.{empty_write, kept_write}
use Rattle.rmt_update.proofs.FoldLaws.{change_of, content_by, fold-content, fold-number, number_by}
use Rattle.rmt_update.proofs.KeptContent.{content-is, empty-is, kept_content, kept_number, number-is, written-is}

-- a changed cell of a part is to hold what is kept next
abbrev pub IsWriteOf : PartAt → ℕ → Option Kept → CellWrite → Type 0
IsWriteOf p n None w = w ≡ empty_write p.stage p.place n
IsWriteOf p n (Some k) w = w ≡ kept_write p.stage p.place k.visible k

-- what is kept of a cell changes as its content or number does
abbrev pub Differ : PartAt → Option Kept → Option Kept → Type 0
Differ p o o2 = (kept_content p o ≢ kept_content p o2) ⊎ (kept_number o ≢ kept_number o2)

-- a cell is changed just where what is kept of it changes, and then to what is kept next
abbrev pub TurnsBy : PartAt → ℕ → Option Kept → Option Kept → Option CellWrite → Type 0
TurnsBy p n o o2 None = (kept_content p o ≡ kept_content p o2) × (kept_number o ≡ kept_number o2)
TurnsBy p n o o2 (Some w) = IsWriteOf p n o2 w × Differ p o o2

-- a cell of a part between the cells of a run, before and after, and changed cells
pub record CellTurns (c : Config) (cells next : RunCells) (ws : List CellWrite) (k place n : ℕ) : Type 0 where
  pub part : PartAt
  pub slot : slot_at c k place ≡ Some part.slot
  pub seed : ℕ
  pub seed2 : ℕ
  pub old : Option Kept
  pub new : Option Kept
  pub kept : IsKeptOf seed part (cells.content k place n) (record { cell = n; number = cells.number k place n }) old
  pub kept2 : IsKeptOf seed2 part (next.content k place n) (record { cell = n; number = next.number k place n }) new
  pub turns : TurnsBy part n old new (change_of c k place n ws)

module _ (c : Config) (cells next : RunCells) (ws : List CellWrite) (order : AllPairs (λ a b. writes_before a b ≡ true) ws) where
  turned-content : (k place n : ℕ) (t : CellTurns c cells next ws k place n) → content_by c k place n (change_of c k place n ws) (cells.content k place n) ≡ next.content k place n
  turned-content k place n t =
      by (change_of c k place n ws) t.turns ∙ sym (content-is t.seed2 t.part (next.content k place n) (record { cell = n; number = next.number k place n }) t.new t.kept2)
    where
      written : (w : CellWrite) (o : Option Kept) → IsKeptOf t.seed2 t.part (next.content k place n) (record { cell = n; number = next.number k place n }) o → IsWriteOf t.part n o w
          → written_content w t.part.slot ≡ kept_content t.part o
      written w None kept is = ap (λ (v : CellWrite). written_content v t.part.slot) is ∙ empty-is t.part t.part.stage t.part.place n
      written w (Some x) kept is = ap (λ (v : CellWrite). written_content v t.part.slot) is ∙ written-is t.part t.part.stage t.part.place x kept.3

      by : (o : Option CellWrite) → TurnsBy t.part n t.old t.new o → content_by c k place n o (cells.content k place n) ≡ kept_content t.part t.new
      by None h = content-is t.seed t.part (cells.content k place n) (record { cell = n; number = cells.number k place n }) t.old t.kept ∙ h.0
      by (Some w) h = ap (λ (s : Option SlotUnit). unwrap_or (option_map (written_content w) s) no_content) t.slot ∙ written w t.new t.kept2 h.0

  turned-number : (k place n : ℕ) (t : CellTurns c cells next ws k place n) → number_by c k place n (change_of c k place n ws) (cells.number k place n) ≡ next.number k place n
  turned-number k place n t =
      by (change_of c k place n ws) t.turns ∙ sym (number-is t.seed2 t.part (next.content k place n) (record { cell = n; number = next.number k place n }) t.new t.kept2)
    where
      written : (w : CellWrite) (o : Option Kept) → IsKeptOf t.seed2 t.part (next.content k place n) (record { cell = n; number = next.number k place n }) o → IsWriteOf t.part n o w
          → cond (eqb w.visible 0) 0 w.number ≡ kept_number o
      written w None kept is = ap (λ (v : CellWrite). cond (eqb v.visible 0) 0 v.number) is
      written w (Some x) kept is = ap (λ (v : CellWrite). cond (eqb v.visible 0) 0 v.number) is ∙ ap (λ b. cond b 0 x.number) (ne_eqb x.visible 0 kept.3)

      by : (o : Option CellWrite) → TurnsBy t.part n t.old t.new o → number_by c k place n o (cells.number k place n) ≡ kept_number t.new
      by None h = number-is t.seed t.part (cells.content k place n) (record { cell = n; number = cells.number k place n }) t.old t.kept ∙ h.1
      by (Some w) h = written w t.new t.kept2 h.0

  -- each changed cell is found at its own place
  found-own : (vs : List CellWrite) → All (λ (w : CellWrite). change_of c w.stage w.unit w.cell vs ≡ None → ⊥) vs
  found-own [] = λ k d lt. absurd (omega (arith, lt))
  found-own (w ∷ vs) =
      All-cons (λ (y : CellWrite). change_of c y.stage y.unit y.cell (w ∷ vs) ≡ None → ⊥) w vs (own w) (λ k d lt. past (slice_index_or vs k d) (found-own vs k d lt))
    where
      own : (y : CellWrite) → cond (is_changed y y.stage y.unit y.cell) (Some y) (change_of c y.stage y.unit y.cell vs) ≡ None → ⊥
      own y e =
          let same : is_changed y y.stage y.unit y.cell ≡ true =
          ap (λ b. (b && eqb y.unit y.unit) && eqb y.cell y.cell) (eq-eqb y.stage y.stage refl) ∙ ap (λ b. b && eqb y.cell y.cell) (eq-eqb y.unit y.unit refl) ∙ eq-eqb y.cell y.cell refl in
          some (sym (ap (λ b. cond b (Some y) (change_of c y.stage y.unit y.cell vs)) same) ∙ e)
        where
          some : Some y ≡ None → ⊥
          some e = cc

      past : (y : CellWrite) → (change_of c y.stage y.unit y.cell vs ≡ None → ⊥) → change_of c y.stage y.unit y.cell (w ∷ vs) ≡ None → ⊥
      past y h e = by (is_changed w y.stage y.unit y.cell) e
        where
          by : (b : Bool) → cond b (Some w) (change_of c y.stage y.unit y.cell vs) ≡ None → ⊥
          by true e = cc
          by false e = h e

  changes : (k place n : ℕ) (t : CellTurns c cells next ws k place n) → (change_of c k place n ws ≡ None → ⊥)
      → (cells.content k place n ≢ next.content k place n) ⊎ (cells.number k place n ≢ next.number k place n)
  changes k place n t some = by (change_of c k place n ws) refl t.turns
    where
      is : cells.content k place n ≡ kept_content t.part t.old
      is = content-is t.seed t.part (cells.content k place n) (record { cell = n; number = cells.number k place n }) t.old t.kept

      is2 : next.content k place n ≡ kept_content t.part t.new
      is2 = content-is t.seed2 t.part (next.content k place n) (record { cell = n; number = next.number k place n }) t.new t.kept2

      num : cells.number k place n ≡ kept_number t.old
      num = number-is t.seed t.part (cells.content k place n) (record { cell = n; number = cells.number k place n }) t.old t.kept

      num2 : next.number k place n ≡ kept_number t.new
      num2 = number-is t.seed2 t.part (next.content k place n) (record { cell = n; number = next.number k place n }) t.new t.kept2

      by : (o : Option CellWrite) → change_of c k place n ws ≡ o → TurnsBy t.part n t.old t.new o → (cells.content k place n ≢ next.content k place n) ⊎ (cells.number k place n ≢ next.number k place n)
      by None e h = absurd (some e)
      by (Some w) e h =
          elim h.1 [
            | inl differ ↦ inl (λ same. differ (sym is ∙ same ∙ is2))
            | inr differ ↦ inr (λ same. differ (sym num ∙ same ∙ num2))
          ]

  -- changed cells by which each cell turns so are those by which cells become others
  pub are-writes : All (λ (w : CellWrite). IsCell c w.stage w.unit w.cell) ws → ((k place n : ℕ) → IsCell c k place n → CellTurns c cells next ws k place n) → AreWrites c cells next ws
  are-writes all turns = record {
    in_order = order;
    cells_are = all;
    change = λ i d lt.
        let w = slice_index_or ws i d in
        changes w.stage w.unit w.cell (turns w.stage w.unit w.cell (all i d lt)) (found-own ws i d lt);
    content = λ k place n cell. fold-content c k place n cells ws order ∙ turned-content k place n (turns k place n cell);
    number = λ k place n cell. fold-number c k place n cells ws order ∙ turned-number k place n (turns k place n cell);
  }
