-- The cells of a table's parts, from what is looked at part by part.
use Rattle.std.proofs.Common.{◌≡◌, ◌↔◌, ℕ, Bool, IsTrue, List, length, map, All, Contains, sym, subst}
use Rattle.std.specs.Prelude.{AllPairs}
use Rattle.std.proofs.lemmas.List.Elements.{All-map, All-weaker}
use Rattle.rmt_bits.proofs.AllLaws.{All-flat_map}
use Rattle.rmt_ast.specs.declared.entry.Entry.{Entry}
use Rattle.rmt_config.specs.PartsTold.{listed_numbers}
use Rattle.rmt_config.specs.Rooms.{PartAt, parts_of}
use Rattle.rmt_refine.specs.Types.{CellNumber, Config, Program, Table}
use Rattle.rmt_verify.specs.Types.{CellOf}
use Rattle.rmt_verify.specs.CellsHeld.{CellHeld, KeepsOrder, TableHeld}

module _ (p : Program) (c : Config) (cells : List CellOf) (n : ℕ) (t : Table) (es : List Entry) (parts : List PartAt) (numbers : List ℕ) (parts_are : parts ≡ parts_of c n)
    (numbers_are : numbers ≡ listed_numbers parts) where
  abbrev pub AllHeld : List PartAt → Type 0
  AllHeld ps = All (λ (part : PartAt). All (CellHeld p c cells t es part) part.slot.numbers) ps

  pub each_held : TableHeld p c cells n t es → AllHeld parts
  each_held held = subst AllHeld (sym parts_are) held.each

  -- each listed number is that of an entry
  pub numbers_there : AllHeld parts → All (λ u. (e : Entry) × Contains es e × (e.number ≡ u)) numbers
  numbers_there each =
      subst (All HasEntry) (sym numbers_are)
      (All-flat_map HasEntry (λ (part : PartAt). map (λ (x : CellNumber). x.number) part.slot.numbers) parts
      (All-weaker (λ (part : PartAt). All (CellHeld p c cells t es part) part.slot.numbers) (λ (part : PartAt). All HasEntry (map (λ (x : CellNumber). x.number) part.slot.numbers))
      (λ part all. All-map HasEntry (λ (x : CellNumber). x.number) part.slot.numbers
      (All-weaker (CellHeld p c cells t es part) (λ (x : CellNumber). HasEntry x.number) (λ x h. (h.entry, h.there, sym h.held.holds.number_is)) part.slot.numbers all)) parts each))
    where
      HasEntry : ℕ → Type 0
      HasEntry u = (e : Entry) × Contains es e × (e.number ≡ u)

  listed_are : numbers ≡ listed_numbers (parts_of c n)
  listed_are = subst (λ (ps : List PartAt). numbers ≡ listed_numbers ps) parts_are numbers_are

  pub all_listed : TableHeld p c cells n t es → length numbers ≡ length es
  all_listed held = subst (λ (ns : List ℕ). length ns ≡ length es) (sym listed_are) held.all

  pub table_told : (b : Bool) → AllHeld parts → length numbers ≡ length es → IsTrue b ↔ AllPairs (KeepsOrder t.kind es) numbers → IsTrue b ↔ TableHeld p c cells n t es
  table_told b each all order = (
    λ yes.
        record {
          each = subst AllHeld parts_are each;
          all = subst (λ (ns : List ℕ). length ns ≡ length es) listed_are all;
          order = subst (AllPairs (KeepsOrder t.kind es)) listed_are (order.0 yes);
        },
    λ held. order.1 (subst (AllPairs (KeepsOrder t.kind es)) (sym listed_are) held.order),
  )
