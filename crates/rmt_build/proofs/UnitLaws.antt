-- A unit that is made for a node is that of the node.
use Rattle.std.proofs.Common.{◌≡◌, ℕ, ◌<◌, ◌≤◌, List, Some, None, refl, sym, ap, ◌∙◌, arith}
use Rattle.std.specs.Prelude.{IfSome, Option, slice_get, option_and_then}
use Rattle.std.proofs.lemmas.Option.{none-some}
use Rattle.rmt_bits.specs.declared.lane.Lane.{Lane}
use Rattle.rmt_build.specs.Types.{Program, Table, Kind, Node, Guard, What, SlotUnit}
use Rattle.rmt_ast.specs.WellFormed.{IsGuard}
use Rattle.rmt_ast.specs.declared.program.What.TheVariants as what
use Rattle.rmt_config.specs.declared.config.Unit.TheVariants as unit
use Rattle.rmt_pack.specs.declared.placement.Part.{Part}
use Rattle.rmt_ast.specs.declared.program.Kind.TheVariants.{Keyless, Exact, Prefix, Ternary}
use Rattle.rmt_filling.specs.declared.memory.PartNeed.{PartNeed}
use Rattle.rmt_filling.specs.declared.memory.Taken.{Taken}
use Rattle.rmt_filling.specs.Memories.{memory_for}
use Rattle.rmt_refine.specs.Units.{HasKind, TableCarried, UnitCarried, DoesAs, applied, guard_in, guard_of, table_at}
use Rattle.rmt_pack.proofs.PartLaws.{and_from, then_some}

-- the node that applies a table
pub record Applies (p : Program) (n : ℕ) (t : Table) : Type 0 where
  pub node : Node
  pub number : ℕ
  pub at : slice_get p.nodes n ≡ Some node
  pub does : node.what ≡ what.Apply number
  pub table : slice_get p.tables number ≡ Some t

pub node_applies : (p : Program) (n : ℕ) (t : Table) → table_at p n ≡ Some t → Applies p n t
node_applies p n t is =
    let found = then_some (λ (node : Node). applied p node.what) (slice_get p.nodes n) t is in
    by_what found.0 found.1 found.0.what refl found.2
  where
    by_what : (node : Node) → slice_get p.nodes n ≡ Some node → (w : What) → node.what ≡ w → applied p w ≡ Some t → Applies p n t
    by_what node at (what.Apply i) does table = record { node = node; number = i; at = at; does = does; table = table }
    by_what node at (what.Gate field test) does table = absurd (none-some t table)

module _ (p : Program) (places : List (List Lane)) (parts : List Part) (k n : ℕ) where
  pub slot_carried : (t : Table) (s : SlotUnit) (node : Node) → table_at p n ≡ Some t → slice_get p.nodes n ≡ Some node → s.node ≡ n → s.guard ≡ guard_of node.guard
      → TableCarried places parts n k t s → UnitCarried p places parts k n (unit.Slot s)
  slot_carried t s node is at number guard carried = record {
    number = number;
    guard = and_from (slice_get p.nodes n) (λ (x : Node). guard_in (unit.Slot s) ≡ guard_of x.guard) node at guard;
    does = and_from (slice_get p.nodes n) (λ (x : Node). DoesAs p places parts k n x.what (unit.Slot s)) node at
        (by_what node.what (sym (ap (option_and_then (λ (x : Node). applied p x.what)) at) ∙ is));
  }
    where
      by_what : (w : What) → applied p w ≡ Some t → DoesAs p places parts k n w (unit.Slot s)
      by_what (what.Apply i) table = and_from (slice_get p.tables i) (λ (x : Table). TableCarried places parts n k x s) t table carried
      by_what (what.Gate field test) table = absurd (none-some t table)

-- the parent of a node has a number of 8 bits
pub guard_small : (n : ℕ) (g : Option Guard) → IsGuard n g → n ≤ 256 → IfSome g (λ (x : Guard). x.parent < 256)
guard_small n None is few = tt
guard_small n (Some g) is few = let below = is.0 in omega (arith, below, few)

-- the memory of a part is of the kind of its table
pub kind_of_memory : (kind : Kind) (n : PartNeed) (taken : Taken) → HasKind kind n.quanta (memory_for kind n taken)
kind_of_memory Keyless n taken = tt
kind_of_memory Exact n taken = refl
kind_of_memory Prefix n taken = refl
kind_of_memory Ternary n taken = refl
