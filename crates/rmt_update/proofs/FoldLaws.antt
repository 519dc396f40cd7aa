-- What cells hold behind a list of changed ones, each of which is changed once.
use Rattle.std.proofs.Common.{◌≡◌, ℕ, Bool, true, false, cond, eqb, List, [], ◌∷◌, Option, Some, None, option_map, unwrap_or, refl, ap, ◌∙◌}
use Rattle.std.specs.Prelude.{All, AllPairs, find, fold}
use Rattle.std.proofs.lemmas.List.Elements.{All-head, All-tail}
use Rattle.rmt_config.specs.declared.cell_write.CellWrite.{CellWrite}
use Rattle.rmt_config.specs.declared.config.Config.{Config}
use Rattle.rmt_config.specs.Cells.{Content}
use Rattle.rmt_config.specs.Commits.{writes_before}
use Rattle.rmt_config.specs.RunCells.{RunCells, is_changed, no_content, slot_at, with_write, written_content}
use Rattle.rmt_bits.proofs.PairLaws.{AllPairs-head, AllPairs-tail}
use Rattle.rmt_update.proofs.WritesLaws.{apart}

module _ (c : Config) (k place n : ℕ) where
  -- the change of a cell
  abbrev pub change_of : List CellWrite → Option CellWrite
  change_of ws = find (λ (w : CellWrite). is_changed w k place n) ws

  -- what is of the cell by its change, if it was this before
  abbrev by-change : {X : Type 0} → (CellWrite → X) → Option CellWrite → X → X
  by-change new None x = x
  by-change new (Some w) x = new w

  -- what the cell holds, and its number
  abbrev new_content : CellWrite → Content
  new_content w = unwrap_or (option_map (written_content w) (slot_at c k place)) no_content

  abbrev new_number : CellWrite → ℕ
  new_number w = cond (eqb w.visible 0) 0 w.number

  abbrev pub content_by : Option CellWrite → Content → Content
  content_by = by-change new_content

  abbrev pub number_by : Option CellWrite → ℕ → ℕ
  number_by = by-change new_number

  none-behind : (w : CellWrite) (ws : List CellWrite) → All (λ y. writes_before w y ≡ true) ws → is_changed w k place n ≡ true → change_of ws ≡ None
  none-behind w [] all own = refl
  none-behind w (y ∷ ws) all own =
      ap (λ b. cond b (Some y) (change_of ws)) (apart w y k place n (All-head (λ y. writes_before w y ≡ true) y ws all) own)
      ∙ none-behind w ws (All-tail (λ y. writes_before w y ≡ true) y ws all) own

  fold-by : {X : Type 0} (of : RunCells → X) (new : CellWrite → X) → ((cells : RunCells) (w : CellWrite) → of (with_write c cells w) ≡ cond (is_changed w k place n) (new w) (of cells)) → (cells : RunCells) (ws : List CellWrite)
      → AllPairs (λ a b. writes_before a b ≡ true) ws → of (fold (with_write c) cells ws) ≡ by-change new (change_of ws) (of cells)
  fold-by of new one cells [] order = refl
  fold-by of new one cells (w ∷ ws) order =
      fold-by of new one (with_write c cells w) ws (AllPairs-tail (λ a b. writes_before a b ≡ true) w ws order) ∙ ap (by-change new (change_of ws)) (one cells w) ∙ by (is_changed w k place n) refl
    where
      by : (b : Bool) → is_changed w k place n ≡ b → by-change new (change_of ws) (cond b (new w) (of cells)) ≡ by-change new (cond b (Some w) (change_of ws)) (of cells)
      by true own = ap (λ o. by-change new o (new w)) (none-behind w ws (AllPairs-head (λ a b. writes_before a b ≡ true) w ws order) own)
      by false other = refl

  pub fold-content : (cells : RunCells) (ws : List CellWrite) → AllPairs (λ a b. writes_before a b ≡ true) ws
      → (fold (with_write c) cells ws).content k place n ≡ content_by (change_of ws) (cells.content k place n)
  fold-content = fold-by (λ (r : RunCells). r.content k place n) new_content (λ cells w. refl)

  pub fold-number : (cells : RunCells) (ws : List CellWrite) → AllPairs (λ a b. writes_before a b ≡ true) ws
      → (fold (with_write c) cells ws).number k place n ≡ number_by (change_of ws) (cells.number k place n)
  fold-number = fold-by (λ (r : RunCells). r.number k place n) new_number (λ cells w. refl)
