-- The units of a stage, whose entries are written one unit after another.
use Rattle.std.proofs.Common.{◌≡◌, ℕ, ◌+◌, ◌<◌, List, Some, length, get_or, take, sym, ap, subst, ◌∙◌, arith, inl, inr}
use Rattle.std.specs.Prelude.{AllPairs, Contains, slice_get, sum_by}
use Rattle.std.proofs.lemmas.Bool.{cases_eq}
use Rattle.std.proofs.lemmas.List.Sums.{sum_by_more}
use Rattle.std.proofs.lemmas.Option.{get_or_from_slice_get, same_Some, slice_get_within}
use Rattle.rmt_build.specs.Types.{Program, Table, Node, Unit, GateUnit, SlotUnit}
use Rattle.rmt_ast.specs.declared.entry.Entry.{Entry}
use Rattle.rmt_config.specs.declared.config.Unit.TheVariants.{Gate, Slot}
use Rattle.rmt_config.specs.Instructions.{unit_instructions}
use Rattle.rmt_config.specs.StageForm.{memory_sram_blocks, memory_tcam_blocks}
use Rattle.rmt_pack.specs.Placements.{data_bits, key_bits}
use Rattle.rmt_refine.specs.Units.{applied, table_at}
use Rattle.rmt_filling.specs.declared.plan.Plan.{Plan}
use Rattle.rmt_filling.specs.Holding.{Held}
use Rattle.rmt_build.specs.Plans.{stands_of_part}
use Rattle.rmt_build.specs.Written.{SlotWritten, UnitsApart, UnitsWritten}
use Rattle.rmt_build.proofs.KeptLaws.{part-same}
use Rattle.rmt_build.proofs.UnitLaws.{node_applies}

-- an item of a list at its place
pub below : {X : Type 0} (xs : List X) (i : ℕ) (x : X) → slice_get xs i ≡ Some x → (i < length xs) × ((d : X) → get_or xs i d ≡ x)
below xs i x at = (slice_get_within xs i x at, λ d. get_or_from_slice_get xs i x d at)

module _ (p : Program) (lists : List (List Entry)) (plan : Plan) (k : ℕ) (units : List Unit) where
  -- a gate has no memory
  pub units-gate : (h : Held) (i : ℕ) (g : GateUnit) → slice_get units i ≡ Some (Gate g) → UnitsWritten p lists plan k units i h → UnitsWritten p lists plan k units (i + 1) h
  units-gate h i g at so = record {
    slots = λ place slot lt own. elim (cases_eq place i) as (λ _. SlotWritten p lists plan k (sum_by unit_instructions (take place units)) h slot) [
      | inl e ↦ absurd (other (same_Some (Gate g) (Slot slot) (sym at ∙ ap (slice_get units) (sym e) ∙ own)))
      | inr ne ↦ so.slots place slot (omega (arith, lt, ne)) own
    ];
    sram = λ b r out. so.sram b r (λ place u lt own. out place u (omega (arith, lt)) own);
    values = λ b r out. so.values b r (λ place u lt own. out place u (omega (arith, lt)) own);
    masks = λ b r out. so.masks b r (λ place u lt own. out place u (omega (arith, lt)) own);
  }
    where
      other : {g : GateUnit} {s : SlotUnit} → Gate g ≡ Slot s → ⊥
      other e = cc

  -- a unit before a slot has no block of it
  two_apart : (i : ℕ) (s : SlotUnit) → AllPairs UnitsApart units → slice_get units i ≡ Some (Slot s) → (place : ℕ) (u : Unit) → place < i → slice_get units place ≡ Some u → UnitsApart u (Slot s)
  two_apart i s apart at place u less own =
      let mine = below units i (Slot s) at in
      let its = below units place u own in
      subst (UnitsApart u) (mine.1 u) (subst (λ v. UnitsApart v (get_or units i u)) (its.1 u) (apart place i u less mine.0))

  -- one more slot
  pub units-slot : (old new : Held) (i : ℕ) (s : SlotUnit) → AllPairs UnitsApart units → slice_get units i ≡ Some (Slot s)
      → SlotWritten p lists plan k (sum_by unit_instructions (take i units)) new s
      → ((b r : ℕ) → (Contains (memory_sram_blocks s.memory) b → ⊥) → new.sram b r ≡ old.sram b r)
      → ((b r : ℕ) → (Contains (memory_tcam_blocks s.memory) b → ⊥) → new.values b r ≡ old.values b r)
      → ((b r : ℕ) → (Contains (memory_tcam_blocks s.memory) b → ⊥) → new.masks b r ≡ old.masks b r)
      → UnitsWritten p lists plan k units i old → UnitsWritten p lists plan k units (i + 1) new
  units-slot old new i s apart at written sram values masks so = record {
    slots = λ place slot lt own. elim (cases_eq place i) as (λ _. SlotWritten p lists plan k (sum_by unit_instructions (take place units)) new slot) [
      | inl e ↦
          let same : Slot s ≡ Slot slot = same_Some (Slot s) (Slot slot) (sym at ∙ ap (slice_get units) (sym e) ∙ own) in
          let one : s ≡ slot = cc in
          subst (λ j. SlotWritten p lists plan k (sum_by unit_instructions (take j units)) new slot) (sym e)
          (subst (SlotWritten p lists plan k (sum_by unit_instructions (take i units)) new) one written)
      | inr ne ↦
          let less : place < i = omega (arith, lt, ne) in
          let was = so.slots place slot less own in
          let two = two_apart i s apart at place (Slot slot) less own in
          record {
            table = was.table;
            entries = was.entries;
            is_table = was.is_table;
            is_entries = was.is_entries;
            part = part-same old new p was.table was.entries (stands_of_part p plan was.table slot.node k) (sum_by unit_instructions (take place units)) (key_bits p was.table) (data_bits p was.table) slot.memory
                (record { sram = λ b r has. sram b r (two.sram b has); values = λ b r has. values b r (two.tcam b has); masks = λ b r has. masks b r (two.tcam b has) }) was.part;
          }
    ];
    sram = λ b r out. sram b r (out i (Slot s) (omega arith) at) ∙ so.sram b r (λ place u lt own. out place u (omega (arith, lt)) own);
    values = λ b r out. values b r (out i (Slot s) (omega arith) at) ∙ so.values b r (λ place u lt own. out place u (omega (arith, lt)) own);
    masks = λ b r out. masks b r (out i (Slot s) (omega arith) at) ∙ so.masks b r (λ place u lt own. out place u (omega (arith, lt)) own);
  }

  -- the blocks of the next slot are 0
  pub units-zero : (h : Held) (i : ℕ) (s : SlotUnit) → AllPairs UnitsApart units → slice_get units i ≡ Some (Slot s) → UnitsWritten p lists plan k units i h
      → ((b r : ℕ) → Contains (memory_sram_blocks s.memory) b → h.sram b r ≡ 0)
      × ((b r : ℕ) → Contains (memory_tcam_blocks s.memory) b → h.values b r ≡ 0)
      × ((b r : ℕ) → Contains (memory_tcam_blocks s.memory) b → h.masks b r ≡ 0)
  units-zero h i s apart at so = (
    λ b r has. so.sram b r (λ place u less own other. (two_apart i s apart at place u less own).sram b other has),
    λ b r has. so.values b r (λ place u less own other. (two_apart i s apart at place u less own).tcam b other has),
    λ b r has. so.masks b r (λ place u less own other. (two_apart i s apart at place u less own).tcam b other has),
  )

-- one unit more
pub instructions-more : (units : List Unit) (i : ℕ) (u : Unit) → slice_get units i ≡ Some u → sum_by unit_instructions (take (i + 1) units) ≡ sum_by unit_instructions (take i units) + unit_instructions u
instructions-more units i u at =
    let there = below units i u at in
    sum_by_more unit_instructions units i u there.0 ∙ ap (λ n. sum_by unit_instructions (take i units) + n) (ap unit_instructions (there.1 u))

-- the table of a node, where the node stands in a list of them
pub applied-here : (p : Program) (nodes : List Node) (n : ℕ) (d : Node) (t : Table) → nodes ≡ p.nodes → table_at p n ≡ Some t → applied p (get_or nodes n d).what ≡ Some t
applied-here p nodes n d t same is =
    let a = node_applies p n t is in
    ap (λ (xs : List Node). applied p (get_or xs n d).what) same ∙ ap (λ (x : Node). applied p x.what) (get_or_from_slice_get p.nodes n a.node d a.at) ∙ ap (applied p) a.does ∙ a.table
