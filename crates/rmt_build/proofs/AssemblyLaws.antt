-- The instructions of units, one unit after another, stand where the configuration looks for them.
use Rattle.std.proofs.Common.{◌≡◌, ℕ, zero, suc, ◌+◌, List, [], ◌∷◌, ◌++◌, Some, length, refl, sym, ap, subst, ◌∙◌, append_assoc, length-append, arith}
use Rattle.std.specs.Prelude.{Option, option_map, slice_get, sum_by, take, unwrap_or}
use Rattle.std.proofs.lemmas.List.{append-nil}
use Rattle.std.proofs.lemmas.List.Sums.{sum_by-cons}
use Rattle.std.proofs.lemmas.Option.{none-some, same_Some, slice_get_within}
use Rattle.std.proofs.lemmas.Slice.Zip.{AllZip-long}
use Rattle.rmt_bits.specs.declared.lane.Lane.{Lane}
use Rattle.rmt_bits.proofs.ListLaws.{slice_get-front, slice_get-end}
use Rattle.rmt_build.specs.Types.{Program, Table, Node, Config, Stage, Unit, SlotUnit, Vliw, Operation}
use Rattle.rmt_config.specs.declared.config.Unit.TheVariants.{Gate, Slot}
use Rattle.rmt_config.specs.Instructions.{first_code, unit_instructions}
use Rattle.rmt_ast.specs.WellFormed.{IsProgram}
use Rattle.rmt_phv.specs.Places.{KeepsApart}
use Rattle.rmt_refine.specs.Code.{CodeCarried}
use Rattle.rmt_refine.specs.Units.{applied, table_at}
use Rattle.rmt_refine.specs.View.{as_slot}
use Rattle.rmt_pack.proofs.PartLaws.{and_at, then_some, slot_is_unit}
use Rattle.rmt_refine.proofs.PartLaws.{some_and}
use Rattle.rmt_refine.proofs.TheLaw.{its_table}
use Rattle.rmt_vliw.specs.Coded.{IsCodeOf, IsDefaultCodeOf}
use Rattle.rmt_build.specs.Promises.{HasCodeOfRule}
use Rattle.rmt_filling.specs.TableCode.{DoActions, DoTable}
use Rattle.rmt_build.specs.UnitCode.{DoUnit, DoUnits}
use Rattle.rmt_refine.proofs.TableCodeLaws.{table_does}

-- an instruction of a list, by its number
abbrev ops_at : List Vliw → ℕ → List Operation
ops_at code i = unwrap_or (option_map (λ (v : Vliw). v.ops) (slice_get code i)) []

-- from a number on stand the instructions of a table
record DoFrom (p : Program) (places : List (List Lane)) (t : Table) (code : List Vliw) (first : ℕ) : Type 0 where
  actions : (i action : ℕ) → slice_get t.actions i ≡ Some action → IsCodeOf p places action (ops_at code (first + i))
  default : IsDefaultCodeOf p places t.default t.args (ops_at code (first + length t.actions))

module _ (p : Program) (places : List (List Lane)) where
  -- one of those for the actions
  listed_at : (actions : List ℕ) (listed : List Vliw) → DoActions p places actions listed → (i action : ℕ) → slice_get actions i ≡ Some action
      → (v : Vliw) × (slice_get listed i ≡ Some v) × IsCodeOf p places action v.ops
  listed_at [] [] all i action at = absurd (none-some action at)
  listed_at [] (v ∷ listed) all i action at = absurd all
  listed_at (a ∷ actions) [] all i action at = absurd all
  listed_at (a ∷ actions) (v ∷ listed) all zero action at = (v, refl, subst (λ b. IsCodeOf p places b v.ops) (same_Some a action at) all.0)
  listed_at (a ∷ actions) (v ∷ listed) all (suc i) action at = listed_at actions listed all.1 i action at

  long : (actions : List ℕ) (listed : List Vliw) → DoActions p places actions listed → length listed ≡ length actions
  long actions listed all = AllZip-long (λ a (v : Vliw). IsCodeOf p places a v.ops) actions listed all

  -- those of a table that stand in front
  table_front : (t : Table) (own rest : List Vliw) → DoTable p places t own → DoFrom p places t (own ++ rest) 0
  table_front t own rest does =
      let listed = does.listed in
      let count = long t.actions listed does.actions in
      let all : length own ≡ length listed + 1 = ap length does.in_order ∙ length-append listed (does.last ∷ []) in
      record {
        actions = λ i action at.
            (let found = listed_at t.actions listed does.actions i action at in
            let v = found.0 in
            let below = slice_get_within listed i v found.1 in
            let there : slice_get (own ++ rest) i ≡ Some v =
            slice_get-front own rest i (omega (arith, all, below)) ∙ (ap (λ xs. slice_get xs i) does.in_order ∙ (slice_get-front listed (does.last ∷ []) i below ∙ found.1)) in
            let none : 0 + i ≡ i = omega arith in
            let ops : ops_at (own ++ rest) (0 + i) ≡ v.ops = ap (ops_at (own ++ rest)) none ∙ ap (λ (o : Option Vliw). unwrap_or (option_map (λ (x : Vliw). x.ops) o) []) there in
            subst (IsCodeOf p places action) (sym ops) found.2);
        default =
            let place : length t.actions ≡ length listed + 0 = omega (arith, count) in
            let there : slice_get (own ++ rest) (length t.actions) ≡ Some does.last =
            slice_get-front own rest (length t.actions) (omega (arith, all, count))
            ∙ (ap (λ xs. slice_get xs (length t.actions)) does.in_order ∙ (ap (slice_get (listed ++ does.last ∷ [])) place ∙ slice_get-end listed (does.last ∷ []) 0)) in
            let none : 0 + length t.actions ≡ length t.actions = omega arith in
            let ops : ops_at (own ++ rest) (0 + length t.actions) ≡ does.last.ops = ap (ops_at (own ++ rest)) none ∙ ap (λ (o : Option Vliw). unwrap_or (option_map (λ (x : Vliw). x.ops) o) []) there in
            subst (IsDefaultCodeOf p places t.default t.args) (sym ops) does.default;
      }

  -- behind others
  behind : (t : Table) (own rest : List Vliw) (first many : ℕ) → length own ≡ many → DoFrom p places t rest first → DoFrom p places t (own ++ rest) (many + first)
  behind t own rest first many size does = record {
    actions = λ i action at. subst (IsCodeOf p places action) (moved i) (does.actions i action at);
    default = subst (IsDefaultCodeOf p places t.default t.args) (moved (length t.actions)) does.default;
  }
    where
      moved : (i : ℕ) → ops_at rest (first + i) ≡ ops_at (own ++ rest) (many + first + i)
      moved i =
          let place : length own + (first + i) ≡ many + first + i = omega (arith, size) in
          ap (λ (o : Option Vliw). unwrap_or (option_map (λ (x : Vliw). x.ops) o) []) (sym (slice_get-end own rest (first + i)) ∙ ap (slice_get (own ++ rest)) place)

  -- a unit has as many as the configuration counts
  count_of : (u : Unit) (own : List Vliw) → DoUnit p places u own → length own ≡ unit_instructions u
  count_of (Gate g) own none = ap length none
  count_of (Slot s) own does =
      let found = some_and (table_at p s.node) (λ (t : Table). (s.actions ≡ length t.actions) × DoTable p places t own) does in
      let table = found.2.1 in
      let all : length own ≡ length table.listed + 1 = ap length table.in_order ∙ length-append table.listed (table.last ∷ []) in
      omega (arith, all, long found.0.actions table.listed table.actions, found.2.0)

  units_found : (units : List Unit) (code : List Vliw) → DoUnits p places units code → (place : ℕ) (s : SlotUnit) (t : Table) → slice_get units place ≡ Some (Slot s) → table_at p s.node ≡ Some t
      → DoFrom p places t code (sum_by unit_instructions (take place units))
  units_found [] code does place s t at is = absurd (none-some (Slot s) at)
  units_found (u ∷ units) code (own, rest, both, here, later) zero s t at is =
      let own_does : DoUnit p places (Slot s) own = subst (λ v. DoUnit p places v own) (same_Some u (Slot s) at) here in
      let table = and_at (table_at p s.node) (λ (x : Table). (s.actions ≡ length x.actions) × DoTable p places x own) t is own_does in
      subst (λ xs. DoFrom p places t xs 0) (sym both) (table_front t own rest table.1)
  units_found (u ∷ units) code (own, rest, both, here, later) (suc place) s t at is =
      let first = sum_by unit_instructions (take place units) in
      let sums : unit_instructions u + first ≡ sum_by unit_instructions (take (suc place) (u ∷ units)) = sym (sum_by-cons unit_instructions u (take place units)) in
      subst (λ xs. DoFrom p places t xs (sum_by unit_instructions (take (suc place) (u ∷ units)))) (sym both)
      (subst (DoFrom p places t (own ++ rest)) sums
      (behind t own rest first (unit_instructions u) (count_of u own here) (units_found units rest later place s t at is)))

  -- so each slot of a stage has the instructions of its table
  pub code_coded : (stage : Stage) → DoUnits p places stage.units stage.code → HasCodeOfRule p places stage
  code_coded stage does place slot t at is =
      let found = then_some as_slot (slice_get stage.units place) slot at in
      let there : slice_get stage.units place ≡ Some (Slot slot) = found.1 ∙ ap Some (slot_is_unit found.0 slot found.2) in
      let own = units_found stage.units stage.code does place slot t there is in
      record { actions = own.actions; default = own.default }

  -- and the code of the stages does what the actions say
  pub code_carried : IsProgram p → KeepsApart p places → (c : Config) → ((k : ℕ) (stage : Stage) → slice_get c.stages k ≡ Some stage → DoUnits p places stage.units stage.code) → CodeCarried p places c
  code_carried program keeps c each n k place t stage slot is at_stage at_slot node =
      let found = then_some (λ (x : Node). applied p x.what) (slice_get p.nodes n) t is in
      table_does p places program keeps t (first_code stage place) stage (its_table p found.0.what t found.2 program.tables)
      (code_coded stage (each k stage at_stage) place slot t at_slot (ap (table_at p) node ∙ is))

-- ---- one unit after another

pub units_push : (p : Program) (places : List (List Lane)) (units : List Unit) (code own : List Vliw) (u : Unit) → DoUnits p places units code → DoUnit p places u own → DoUnits p places (units ++ u ∷ []) (code ++ own)
units_push p places [] code own u none does =
    (own, [], ap (λ xs. xs ++ own) none ∙ sym (append-nil own), does, refl)
units_push p places (v ∷ units) code own u (first, rest, both, here, later) does =
    (first, rest ++ own, ap (λ xs. xs ++ own) both ∙ append_assoc first rest own, here, units_push p places units rest own u later does)
