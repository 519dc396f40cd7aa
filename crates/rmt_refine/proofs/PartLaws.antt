-- The slots in which the parts of a node stand.
use Rattle.std.proofs.Common.{◌≡◌, ℕ, ◌<◌, true, List, Option, Some, None, length, refl, sym, ap, ◌∙◌, subst, arith}
use Rattle.std.specs.Prelude.{⊤, All, Contains, IsSomeAnd, MatchOption, nat_lt, option_and_then, slice_get}
use Rattle.std.specs.List.{AllZip, range_with_len}
use Rattle.std.proofs.lemmas.Bool.{ltb-true}
use Rattle.std.proofs.lemmas.List.Elements.{All-nil, filter_passes}
use Rattle.std.proofs.lemmas.Option.{slice_get_within}
use Rattle.std.proofs.lemmas.Slice.Zip.{AllZip-right}
use Rattle.rmt_bits.proofs.AllLaws.{All-slice_get}
use Rattle.rmt_bits.specs.declared.lane.Lane.{Lane}
use Rattle.rmt_refine.specs.Types.{Program, Table, Kind, Node, What, Config, Stage, Unit, SlotUnit, Memory}
use Rattle.rmt_ast.specs.declared.program.What.TheVariants as what
use Rattle.rmt_ast.specs.declared.program.Kind.TheVariants as kind
use Rattle.rmt_config.specs.declared.config.Unit.TheVariants.{Gate, Slot}
use Rattle.rmt_config.specs.declared.config.Memory.TheVariants.{Without, Exact, Ternary}
use Rattle.rmt_config.specs.Cells.{candidates, cells_in}
use Rattle.rmt_pack.specs.declared.placement.Part.{Part}
use Rattle.rmt_pack.specs.Placements.{quanta_in}
use Rattle.rmt_refine.specs.View.{View, as_slot, found_in_slot, look_in, slot_at, slot_of}
use Rattle.rmt_refine.specs.Units.{DoesAs, HasKind, TableCarried, UnitCarried, UnitsCarried, applied, nodes_in, table_at}
use Rattle.rmt_refine.specs.Cells.{IsSpotOf, Spot}
use Rattle.rmt_config.proofs.CellLaws.{exact-candidates, ternary-candidates}
use Rattle.rmt_pack.proofs.PartLaws.{IsPart, and_at, and_from, slot_is_unit, then_some}

-- ---- values that are there

pub some_and : {X : Type 0} (o : Option X) (P : X → Type 0) → IsSomeAnd o P → (x : X) × (o ≡ Some x) × P x
some_and None P h = absurd h
some_and (Some x) P h = (x, refl, h)

-- ---- a part of a node

pub slot_of_part : (c : Config) (n k place : ℕ) (stage : Stage) (slot : SlotUnit) → IsPart c n k place stage slot → slot_at c k place ≡ Some slot
slot_of_part c n k place stage slot part = ap (option_and_then (λ (x : Stage). slot_of x place)) part.stage_is ∙ part.slot_is

pub part_of_spot : (c : Config) (n : ℕ) (at : Spot) → IsSpotOf c n at
    → (stage : Stage) × (slot : SlotUnit) × IsPart c n at.stage at.place stage slot × (at.cell < cells_in slot.memory)
part_of_spot c n at h =
    let r = some_and (slice_get c.stages at.stage) (λ (stage : Stage). IsSomeAnd (slot_of stage at.place) (λ (slot : SlotUnit). (slot.node ≡ n) × (at.cell < cells_in slot.memory))) h in
    let q = some_and (slot_of r.0 at.place) (λ (slot : SlotUnit). (slot.node ≡ n) × (at.cell < cells_in slot.memory)) r.2 in
    (r.0, q.0, record { stage_is = r.1; slot_is = q.1; node_is = q.2.0 }, q.2.1)

pub spot_of_part : (c : Config) (n k place cell : ℕ) (stage : Stage) (slot : SlotUnit) → IsPart c n k place stage slot → cell < cells_in slot.memory
    → IsSpotOf c n (record { stage = k; place = place; cell = cell })
spot_of_part c n k place cell stage slot part lt =
    and_from (slice_get c.stages k) (λ (x : Stage). IsSomeAnd (slot_of x place) (λ (y : SlotUnit). (y.node ≡ n) × (cell < cells_in y.memory))) stage part.stage_is
    (and_from (slot_of stage place) (λ (y : SlotUnit). (y.node ≡ n) × (cell < cells_in y.memory)) slot part.slot_is (part.node_is, lt))

-- the look-up of a part is made in its slot
pub look_of_part : (c : Config) (v : View) (n k place key : ℕ) (stage : Stage) (slot : SlotUnit) → IsPart c n k place stage slot
    → look_in c v k place key ≡ found_in_slot v k place key slot
look_of_part c v n k place key stage slot part = ap (option_and_then (found_in_slot v k place key)) (slot_of_part c n k place stage slot part)

-- ---- its memory

kind_done : (p : Program) (places : List (List Lane)) (parts : List Part) (k m : ℕ) (w : What) (t : Table) (slot : SlotUnit)
    → applied p w ≡ Some t → DoesAs p places parts k m w (Slot slot) → HasKind t.kind (quanta_in parts m k) slot.memory
kind_done p places parts k m (what.Apply i) t slot e does =
    let carried = and_at (slice_get p.tables i) (λ (table : Table). TableCarried places parts m k table slot) t e does in carried.memory
kind_done p places parts k m (what.Gate field test) t slot e does = absurd does

-- the unit at the place of a part is that of its node
pub unit_of_part : (p : Program) (places : List (List Lane)) (parts : List Part) (starts : List ℕ) (c : Config) (n k place : ℕ) (stage : Stage) (slot : SlotUnit)
    → UnitsCarried p places parts starts c → IsPart c n k place stage slot → (slice_get (nodes_in p parts k) place ≡ Some n) × UnitCarried p places parts k n (Slot slot)
unit_of_part p places parts starts c n k place stage slot carried part =
    let nodes = nodes_in p parts k in
    let zip = and_at (slice_get c.stages k) (λ (s : Stage). AllZip (UnitCarried p places parts k) nodes s.units) stage part.stage_is
    (carried.units k (slice_get_within c.stages k stage part.stage_is)) in
    let u = then_some as_slot (slice_get stage.units place) slot part.slot_is in
    let unit_is : slice_get stage.units place ≡ Some (Slot slot) = u.1 ∙ ap Some (slot_is_unit u.0 slot u.2) in
    let there = subst (λ (o : Option Unit). MatchOption o ⊤ (λ x. IsSomeAnd (slice_get nodes place) (λ m. UnitCarried p places parts k m x))) unit_is
    (AllZip-right (UnitCarried p places parts k) nodes stage.units zip place) in
    let m = some_and (slice_get nodes place) (λ m. UnitCarried p places parts k m (Slot slot)) there in
    let same : m.0 ≡ n = sym m.2.number ∙ part.node_is in
    (m.1 ∙ ap Some same, subst (λ x. UnitCarried p places parts k x (Slot slot)) same m.2)

-- a node that stands in a stage has quanta there
pub quanta_of_node : (p : Program) (parts : List Part) (k place n : ℕ) → slice_get (nodes_in p parts k) place ≡ Some n → 0 < quanta_in parts n k
quanta_of_node p parts k place n at =
    ltb-true 0 (quanta_in parts n k)
    (All-slice_get (λ x. nat_lt 0 (quanta_in parts x k) ≡ true) (nodes_in p parts k) place n
    (filter_passes (λ x. nat_lt 0 (quanta_in parts x k)) (range_with_len 0 (length p.nodes))) at)

-- the memory of a part of a table is of its kind, with some quanta
pub kind_of_part : (p : Program) (places : List (List Lane)) (parts : List Part) (starts : List ℕ) (c : Config) (n : ℕ) (t : Table) (k place : ℕ) (stage : Stage) (slot : SlotUnit)
    → UnitsCarried p places parts starts c → table_at p n ≡ Some t → IsPart c n k place stage slot → (q : ℕ) × (0 < q) × HasKind t.kind q slot.memory
kind_of_part p places parts starts c n t k place stage slot carried at part =
    let unit = unit_of_part p places parts starts c n k place stage slot carried part in
    let node = then_some (λ (x : Node). applied p x.what) (slice_get p.nodes n) t at in
    let does = and_at (slice_get p.nodes n) (λ (x : Node). DoesAs p places parts k n x.what (Slot slot)) node.0 node.1 unit.1.does in
    (quanta_in parts n k, quanta_of_node p parts k place n unit.0, kind_done p places parts k n node.0.what t slot node.2 does)

-- ---- its candidates

some_quanta : (kd : Kind) (q k per d w : ℕ) (ks rs cs : List ℕ) → HasKind kd q (Exact k per d w ks rs cs) → 0 < q → 0 < d
some_quanta kind.Keyless q k per d w ks rs cs h lt = absurd h
some_quanta kind.Exact q k per d w ks rs cs h lt = omega (arith, h, lt)
some_quanta kind.Prefix q k per d w ks rs cs h lt = absurd h
some_quanta kind.Ternary q k per d w ks rs cs h lt = absurd h

-- they are cells of the memory
pub candidates_within : (kd : Kind) (q : ℕ) (m : Memory) → HasKind kd q m → 0 < q → (seed bits key : ℕ) → All (λ j. j < cells_in m) (candidates seed bits m key)
candidates_within kd q Without h lt seed bits key = All-nil (λ j. j < 0)
candidates_within kd q (Exact k per d first ks rs cs) h lt seed bits key = exact-candidates k per d first ks rs cs (some_quanta kd q k per d first ks rs cs h lt) seed bits key
candidates_within kd q (Ternary d ks rs cs) h lt seed bits key = ternary-candidates d ks rs cs seed bits key

-- the cells in which an entry may stand are those in which a key may stand that it matches; only an exact memory looks at the key
pub same_candidates : (kd : Kind) (q : ℕ) (m : Memory) → HasKind kd q m → (seed bits key other cell : ℕ) → (kd ≡ kind.Exact → other ≡ key)
    → Contains (candidates seed bits m other) cell → Contains (candidates seed bits m key) cell
same_candidates kd q Without h seed bits key other cell same there = there
same_candidates kind.Keyless q (Exact k per d first ks rs cs) h seed bits key other cell same there = absurd h
same_candidates kind.Exact q (Exact k per d first ks rs cs) h seed bits key other cell same there =
    subst (λ x. Contains (candidates seed bits (Exact k per d first ks rs cs) x) cell) (same refl) there
same_candidates kind.Prefix q (Exact k per d first ks rs cs) h seed bits key other cell same there = absurd h
same_candidates kind.Ternary q (Exact k per d first ks rs cs) h seed bits key other cell same there = absurd h
same_candidates kd q (Ternary d ks rs cs) h seed bits key other cell same there = there
