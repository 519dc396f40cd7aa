-- The cells of all tables, table by table, and what a map tells of them.
use Rattle.std.proofs.Common.{◌≡◌, ◌↔◌, ℕ, ◌≤◌, Bool, IsTrue, List, Some, None, length, sym, subst, ◌∙◌, arith}
use Rattle.std.specs.Prelude.{AllPairs, slice_get}
use Rattle.std.specs.BTreeMap.{BTreeMap}
use Rattle.std.proofs.lemmas.Option.{none-some, same_Some, slice_get_within}
use Rattle.rmt_ast.specs.declared.entry.Entry.{Entry}
use Rattle.rmt_ast.specs.EntryLists.{AreEntries}
use Rattle.rmt_config.specs.Commits.{all_entries}
use Rattle.rmt_config.specs.Form.{Formed}
use Rattle.rmt_refine.specs.declared.map.Map.{Map}
use Rattle.rmt_refine.specs.Types.{Config, Node, Program, Table}
use Rattle.rmt_refine.specs.Cells.{CellsCarried}
use Rattle.rmt_refine.specs.Units.{UnitsCarried, applied, table_at}
use Rattle.rmt_refine.specs.View.{own_view}
use Rattle.rmt_pack.proofs.PartLaws.{then_some}
use Rattle.rmt_verify.specs.Types.{CellOf}
use Rattle.rmt_verify.specs.CellsHeld.{CellsHeld, TableHeld, TablesHeld}
use Rattle.rmt_verify.specs.Told.{AreTold, TellApart}
use Rattle.rmt_verify.proofs.CellsHeldLaws.{cells_held}

-- ---- all tables

module _ (p : Program) (lists : List (List Entry)) (m : Map) (c : Config) (entries : AreEntries p lists) (formed : Formed c)
    (units : UnitsCarried p m.places m.placement.parts m.starts c) (cells : List CellOf) (same : cells ≡ m.cells) where
  pub all_held : (told : BTreeMap ℕ CellOf) (hold : Bool) → AreTold cells told → length cells ≡ length (all_entries lists)
      → ((xs : List CellOf) → AreTold xs told → IsTrue hold ↔ ((n : ℕ) → TablesHeld p c xs lists n)) → IsTrue hold ↔ CellsCarried p c (own_view c) m.cells lists
  all_held told hold are long each =
      let law = cells_held p lists m c entries formed units in
      let of = each cells are in (
        λ yes.
            law.0 (subst (λ (xs : List CellOf). CellsHeld p c xs lists) same (record { once = are.once; all = long; tables = of.0 yes })),
        λ carried. of.1 (subst (λ (xs : List CellOf). CellsHeld p c xs lists) (sym same) (law.1 carried)).tables,
      )

  module _ (carried : CellsCarried p c (own_view c) m.cells lists) where
    held : CellsHeld p c cells lists
    held = subst (λ (xs : List CellOf). CellsHeld p c xs lists) (sym same) ((cells_held p lists m c entries formed units).1 carried)

    pub as_many : length cells ≡ length (all_entries lists)
    as_many = held.all

    pub told_apart : AllPairs TellApart cells
    told_apart = held.once

-- ---- a table

module _ (p : Program) (c : Config) (cells : List CellOf) (lists : List (List Entry)) (n : ℕ) where
  pub one_table : (t : Table) (es : List Entry) (b : Bool) → table_at p n ≡ Some t → slice_get lists n ≡ Some es → IsTrue b ↔ TableHeld p c cells n t es → IsTrue b ↔ TablesHeld p c cells lists n
  one_table t es b at list told = (
    λ yes u us at_u list_u.
        subst (λ (x : Table). TableHeld p c cells n x us) (same_Some t u (sym at ∙ at_u))
        (subst (λ (xs : List Entry). TableHeld p c cells n t xs) (same_Some es us (sym list ∙ list_u)) (told.0 yes)),
    λ all. told.1 (all t es at list),
  )

  pub no_table : table_at p n ≡ None → TablesHeld p c cells lists n
  no_table none t es at list = absurd (none-some t (sym none ∙ at))

  pub no_list : slice_get lists n ≡ None → TablesHeld p c cells lists n
  no_list none t es at list = absurd (none-some es (sym none ∙ list))

  pub past_nodes : length p.nodes ≤ n → TablesHeld p c cells lists n
  past_nodes le t es at list =
      let node = then_some (λ (x : Node). applied p x.what) (slice_get p.nodes n) t at in
      let lt = slice_get_within p.nodes n node.0 node.1 in
      absurd (omega (arith, lt, le))
