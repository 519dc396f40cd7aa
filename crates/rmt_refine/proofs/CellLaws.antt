-- The cells of a table, where each entry has one spot of its own.
use Rattle.std.proofs.Common.{◌≡◌, ℕ, List, Some, true, sym, ◌∙◌, subst}
use Rattle.std.specs.Prelude.{All, Contains, slice_get}
use Rattle.rmt_refine.specs.Types.{Program, Table, Config, Stage}
use Rattle.rmt_ast.specs.declared.entry.Entry.{Entry}
use Rattle.rmt_ast.specs.RowOrder.{goes_first}
use Rattle.rmt_config.specs.Instructions.{first_code}
use Rattle.rmt_config.specs.Cells.{is_seen}
use Rattle.rmt_refine.specs.declared.map.CellOf.{CellOf}
use Rattle.rmt_refine.specs.View.{View}
use Rattle.rmt_config.specs.Rooms.{tests_as_one}
use Rattle.rmt_refine.specs.Cells.{HoldsEntry, IsBefore, IsCandidate, IsSpotOf, IsTold, Spot, TableCellsCarried}
use Rattle.std.proofs.lemmas.List.Elements.{All-contains}

-- each entry has the spot that a function tells, and the map tells of that one alone
pub record HaveSpots (p : Program) (c : Config) (v : View) (cells : List CellOf) (n : ℕ) (t : Table) (widths : List ℕ) (es : List Entry) (spot : Entry → Spot) : Type 0 where
  pub only : (at : Spot) → IsSpotOf c n at → is_seen (v.content at.stage at.place at.cell).head ≡ true → (e : Entry) × Contains es e × IsTold cells e at
  pub spots : All (λ (e : Entry). IsSpotOf c n (spot e)) es
  pub told : All (λ (e : Entry). IsTold cells e (spot e)) es
  pub one : (e : Entry) (at : Spot) → Contains es e → IsSpotOf c n at → IsTold cells e at → at ≡ spot e
  pub holds : All (λ (e : Entry). (stage : Stage) → slice_get c.stages (spot e).stage ≡ Some stage
      → HoldsEntry p t widths (first_code stage (spot e).place) e (v.number (spot e).stage (spot e).place (spot e).cell) (v.content (spot e).stage (spot e).place (spot e).cell)) es
  pub candidate : All (λ (e : Entry). IsCandidate c v (tests_as_one (λ u. u.value) widths e.tests) (spot e)) es
  pub order : All (λ (e : Entry). All (λ (f : Entry). goes_first t.kind e f ≡ true → IsBefore (spot e) (spot f)) es) es

pub carried_from : (p : Program) (c : Config) (v : View) (cells : List CellOf) (n : ℕ) (t : Table) (widths : List ℕ) (es : List Entry) (spot : Entry → Spot)
    → HaveSpots p c v cells n t widths es spot → TableCellsCarried p c v cells n t widths es
carried_from p c v cells n t widths es spot have = record {
  only = have.only;
  each = λ k d lt. (spot _, have.spots k d lt, have.told k d lt);
  one = λ e a b there spot_a spot_b told_a told_b. have.one e a there spot_a told_a ∙ sym (have.one e b there spot_b told_b);
  holds = λ e at stage there is told at_stage.
      let same = have.one e at there is told in
      let P : Spot → Type 0 = λ s. slice_get c.stages s.stage ≡ Some stage
      → HoldsEntry p t widths (first_code stage s.place) e (v.number s.stage s.place s.cell) (v.content s.stage s.place s.cell) in
      subst P (sym same) (All-contains (λ (x : Entry). (st : Stage) → slice_get c.stages (spot x).stage ≡ Some st
      → HoldsEntry p t widths (first_code st (spot x).place) x (v.number (spot x).stage (spot x).place (spot x).cell) (v.content (spot x).stage (spot x).place (spot x).cell)) es e have.holds there stage) at_stage;
  candidate = λ e at there is told.
      subst (IsCandidate c v (tests_as_one (λ u. u.value) widths e.tests)) (sym (have.one e at there is told))
      (All-contains (λ (x : Entry). IsCandidate c v (tests_as_one (λ u. u.value) widths x.tests) (spot x)) es e have.candidate there);
  order = λ e f a b there_e there_f spot_a spot_b told_a told_b before.
      let each = All-contains (λ (x : Entry). All (λ (y : Entry). goes_first t.kind x y ≡ true → IsBefore (spot x) (spot y)) es) es e have.order there_e in
      let h = All-contains (λ (y : Entry). goes_first t.kind e y ≡ true → IsBefore (spot e) (spot y)) es f each there_f before in
      subst (λ s. IsBefore s b) (sym (have.one e a there_e spot_a told_a)) (subst (IsBefore (spot e)) (sym (have.one f b there_f spot_b told_b)) h);
}
