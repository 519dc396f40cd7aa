-- A cell that no placed entry takes, once a commit has settled.
use Rattle.std.proofs.Common.{◌≡◌, ℕ, ◌+◌, ◌==◌, Bool, true, false, cond, List, Option, Some, None, refl, sym, ap, ◌∙◌}
use Rattle.std.specs.Prelude.{option_map, unwrap_or}
use Rattle.std.proofs.lemmas.Bool.{eq-eqb, false≢true}
use Rattle.rmt_ast.specs.declared.entry.Entry.{Entry}
use Rattle.rmt_ast.specs.declared.names.Names.{Names}
use Rattle.rmt_refine.specs.Types.{Config, SlotUnit}
use Rattle.rmt_config.specs.Cells.{Content, is_occupied, visible_bits}
use Rattle.rmt_config.specs.Commits.{filled_content, leaving_content, settled_content, settled_number, without_bit}
use Rattle.rmt_config.specs.RunCells.{RunCells, emptied, has_bit, no_content, slot_at}
use Rattle.rmt_refine.proofs.VisibleBitLaws.{bit_kept}

module _ (c : Config) (names : Names) (cells : RunCells) (lists : List (List Entry)) (k place n : ℕ) where
  abbrev content : Content
  content = cells.content k place n

  -- it is occupied where it was, keeps a visible bit without the next version's, and keeps its number
  pub record IsLeft : Type 0 where
    pub was : is_occupied content.head ≡ true
    pub bit : has_bit cells.version content.head ≡ true
    pub number : settled_number cells None k place n ≡ cells.number k place n

  pub left : (slot : SlotUnit) → slot_at c k place ≡ Some slot → is_occupied (settled_content c names cells lists None k place n).head ≡ true → IsLeft
  left slot at h = by (is_occupied content.head) refl h
    where
      leaves : (b : Bool) → (visible_bits (without_bit (cells.version + 1) content.head) == 0) ≡ b → is_occupied content.head ≡ true
          → is_occupied (cond b (emptied slot) (record content { head = without_bit (cells.version + 1) content.head })).head ≡ true → IsLeft
      leaves true e was g = absurd (false≢true g)
      leaves false e was g = record {
        was = was;
        bit = bit_kept cells.version content.head (λ none. false≢true (sym e ∙ eq-eqb (visible_bits (without_bit (cells.version + 1) content.head)) 0 none));
        number = ap (λ b. cond b 0 (cells.number k place n)) e;
      }

      by : (b : Bool) → is_occupied content.head ≡ b
          → is_occupied (cond b (unwrap_or (option_map (λ s. leaving_content (cells.version + 1) s content) (slot_at c k place)) content) content).head ≡ true → IsLeft
      by false e g = absurd (false≢true (sym e ∙ g))
      by true e g =
          leaves (visible_bits (without_bit (cells.version + 1) content.head) == 0) refl e
          (ap (λ (o : Option SlotUnit). is_occupied (unwrap_or (option_map (λ s. leaving_content (cells.version + 1) s content) o) content).head) (sym at) ∙ g)

-- and where all cells are filled anew, it is empty
pub not_filled : (c : Config) (names : Names) (k place : ℕ) → is_occupied (filled_content c names None k place).head ≡ true → ⊥
not_filled c names k place h = by (slot_at c k place) h
  where
    by : (o : Option SlotUnit) → is_occupied (unwrap_or (option_map emptied o) no_content).head ≡ true → ⊥
    by None g = false≢true g
    by (Some slot) g = false≢true g
