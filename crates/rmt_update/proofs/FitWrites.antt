-- What changed cells put, where the cells that they make hold nothing, or what changed cells can put there.
use Rattle.std.proofs.Common.{◌≡◌, ◌<◌, ◌&&◌, true, false, cond, eqb, List, [], ◌∷◌, Option, Some, option_map, unwrap_or, inl, inr, refl, sym, ap, ◌∙◌, subst, arith}
use Rattle.std.specs.Prelude.{AllPairs, Contains, IsSomeAnd}
use Rattle.std.proofs.lemmas.Bool.{and_from, cases_Bool, eq-eqb, false≢true}
use Rattle.std.proofs.lemmas.List.Elements.{All-contains}
use Rattle.rmt_bits.proofs.MemberLaws.{Contains-split}
use Rattle.rmt_bits.proofs.PairLaws.{AllPairs-head, AllPairs-tail}
use Rattle.rmt_config.specs.declared.cell_write.CellWrite.{CellWrite}
use Rattle.rmt_config.specs.declared.config.Config.{Config}
use Rattle.rmt_config.specs.declared.config.SlotUnit.{SlotUnit}
use Rattle.rmt_config.specs.Cells.{cells_in}
use Rattle.rmt_config.specs.Commits.{AreWrites, IsCell, writes_before}
use Rattle.rmt_config.specs.RunCells.{RunCells, is_changed, no_content, slot_at, written_content}
use Rattle.rmt_update.specs.Fitting.{AreFit, IsFitting}
use Rattle.rmt_update.proofs.FoldLaws.{change_of, content_by, fold-content, fold-number, number_by}
use Rattle.rmt_update.proofs.WritesLaws.{apart, said_number}

own-place : (w : CellWrite) → is_changed w w.stage w.unit w.cell ≡ true
own-place w =
    and_from (eqb w.stage w.stage && eqb w.unit w.unit) (eqb w.cell w.cell) (and_from (eqb w.stage w.stage) (eqb w.unit w.unit) (eq-eqb w.stage w.stage refl) (eq-eqb w.unit w.unit refl))
    (eq-eqb w.cell w.cell refl)

-- a changed cell of a list in order is the one of its place
pub own-change : (c : Config) (ws : List CellWrite) (w : CellWrite) → AllPairs (λ a b. writes_before a b ≡ true) ws → Contains ws w → change_of c w.stage w.unit w.cell ws ≡ Some w
own-change c [] w order there = absurd (let lt = there.1 in omega (arith, lt))
own-change c (x ∷ ws) w order there = elim (Contains-split x ws w there) [
  | inl same ↦
      ap (λ b. cond b (Some x) (change_of c w.stage w.unit w.cell ws)) (subst (λ (u : CellWrite). is_changed x u.stage u.unit u.cell ≡ true) same (own-place x)) ∙ ap Some same
  | inr later ↦
      let before = All-contains (λ y. writes_before x y ≡ true) ws w (AllPairs-head (λ a b. writes_before a b ≡ true) x ws order) later in
      let other : is_changed x w.stage w.unit w.cell ≡ false = elim (cases_Bool (is_changed x w.stage w.unit w.cell)) [
        | inl t ↦ absurd (false≢true (sym (apart x w w.stage w.unit w.cell before t) ∙ own-place w))
        | inr f ↦ f
      ] in
      ap (λ b. cond b (Some x) (change_of c w.stage w.unit w.cell ws)) other ∙ own-change c ws w (AllPairs-tail (λ a b. writes_before a b ≡ true) x ws order) later
]

-- a changed cell is one of its slot, and puts what it can
pub written_fits : (c : Config) (cells next : RunCells) (writes : List CellWrite) → AreFit c next → AreWrites c cells next writes → (w : CellWrite) → Contains writes w
    → (slot : SlotUnit) → slot_at c w.stage w.unit ≡ Some slot → (w.cell < cells_in slot.memory) × IsFitting slot (written_content w slot) (said_number w)
written_fits c cells next writes fit are w there slot at =
    let cell = All-contains (λ (x : CellWrite). IsCell c x.stage x.unit x.cell) writes w are.cells_are there in
    let lt : w.cell < cells_in slot.memory = subst (λ (o : Option SlotUnit). IsSomeAnd o (λ (s : SlotUnit). w.cell < cells_in s.memory)) at cell in
    let own = own-change c writes w are.in_order there in
    let content : written_content w slot ≡ next.content w.stage w.unit w.cell =
    sym (ap (λ (o : Option SlotUnit). unwrap_or (option_map (written_content w) o) no_content) at)
    ∙ ap (λ o. content_by c w.stage w.unit w.cell o (cells.content w.stage w.unit w.cell)) (sym own)
    ∙ sym (fold-content c w.stage w.unit w.cell cells writes are.in_order) ∙ are.content w.stage w.unit w.cell cell in
    let number : said_number w ≡ next.number w.stage w.unit w.cell =
    ap (λ o. number_by c w.stage w.unit w.cell o (cells.number w.stage w.unit w.cell)) (sym own)
    ∙ sym (fold-number c w.stage w.unit w.cell cells writes are.in_order) ∙ are.number w.stage w.unit w.cell cell in
    (lt, subst (λ x. IsFitting slot x (said_number w)) (sym content) (subst (IsFitting slot (next.content w.stage w.unit w.cell)) (sym number) (fit w.stage w.unit w.cell slot at lt)))
