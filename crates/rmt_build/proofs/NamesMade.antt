-- The names of a program with its entries keep the rules of form on names in a configuration that is built by a plan.
use Rattle.std.proofs.Common.{◌≡◌, ℕ, ◌+◌, ◌*◌, ◌<◌, ◌≤◌, Bool, true, false, not, ◌&&◌, ◌==◌, List, [], ◌∷◌, Some, length, map, get_or, refl, sym, ap, ◌∙◌, subst, inl, inr, arith}
use Rattle.std.specs.Prelude.{All, Contains, nat_le, nat_lt, option_and_then, slice_get, sum, sum_by}
use Rattle.std.specs.List.{enumerate_from, flat_map, list_all, list_any, range_with_len}
use Rattle.std.proofs.lemmas.Bool.{eq-eqb, false≢true, le-leb, lt-ltb, or_left, or_right}
use Rattle.std.proofs.lemmas.List.{get_or_default, length-map, map-append}
use Rattle.std.proofs.lemmas.List.Elements.{All-contains, All-map, All-nil, All-weaker, Contains-get_or}
use Rattle.std.proofs.lemmas.List.Sums.{list_all-from_AllPass, sum_by-append, sum_by-cons}
use Rattle.std.proofs.lemmas.Option.{none-some, same_Some, slice_get-get_or}
use Rattle.rmt_bits.proofs.AllLaws.{All-flat_map, All-parts, All-slice_get, All-unmap}
use Rattle.rmt_bits.proofs.ListLaws.{first_from, next_from}
use Rattle.rmt_bits.proofs.TestLaws.{all_three}
use Rattle.rmt_build.specs.Types.{Program, Table, Kind, Config, Stage, Unit, SlotUnit, CellNumber, Memory}
use Rattle.rmt_ast.specs.declared.program.Kind.TheVariants as kind
use Rattle.rmt_ast.specs.declared.entry.Entry.{Entry}
use Rattle.rmt_ast.specs.declared.names.ActionName.{ActionName}
use Rattle.rmt_ast.specs.declared.names.TableName.{TableName}
use Rattle.rmt_ast.specs.Answers.{entry_numbers}
use Rattle.rmt_ast.specs.EntryLists.{AreEntries, params_of}
use Rattle.rmt_ast.specs.NameRules.{CanBeNamed, names_are_formed}
use Rattle.rmt_ast.specs.Naming.{action_named, has_key, names_of, table_named}
use Rattle.rmt_ast.specs.State.{width_of}
use Rattle.rmt_ast.specs.WellFormed.{IsProgram, bits_of}
use Rattle.rmt_ast.proofs.NamingLaws.{names_of-formed}
use Rattle.rmt_config.specs.declared.config.Unit.TheVariants as unit
use Rattle.rmt_config.specs.declared.config.Memory.TheVariants as memory
use Rattle.rmt_config.specs.CellForm.{entry_numbers as config_numbers, numbers_of_stage, numbers_of_unit}
use Rattle.rmt_config.specs.LaneForm.{bits_of_lanes}
use Rattle.rmt_config.specs.Life.{has_memory}
use Rattle.rmt_config.specs.NamesForm.{has_actions, has_key_bits, has_parts, has_rows, is_filled_so, is_made_so, is_named, is_of_kind, names_fit, names_have_counts, numbers_leave_room, quanta_of as memory_quanta, tables_are_those}
use Rattle.rmt_config.specs.Rooms.{PartAt, parts_among, parts_of}
use Rattle.rmt_config.specs.TableForm.{Placed, placed_units}
use Rattle.rmt_config.proofs.NamePartLaws.{named-placed}
use Rattle.rmt_pack.specs.declared.format.Format.{Format}
use Rattle.rmt_pack.specs.declared.placement.Part.{Part}
use Rattle.rmt_pack.specs.Formats.{divided_up, memory_format}
use Rattle.rmt_pack.specs.Placements.{data_bits, quanta_in, quanta_of, table_need}
use Rattle.rmt_pack.proofs.FormatLaws.{divided_up-covers}
use Rattle.rmt_ptcam.proofs.PlainLaws.{lanes_bits}
use Rattle.rmt_refine.specs.Units.{HasKind, TableCarried, UnitsCarried, table_at}
use Rattle.rmt_refine.specs.View.{as_slot}
use Rattle.rmt_pack.proofs.PartLaws.{IsPart}
use Rattle.rmt_refine.proofs.PartLaws.{unit_of_part}
use Rattle.rmt_filling.specs.declared.plan.Plan.{Plan}
use Rattle.rmt_build.specs.BuiltStage.{IsBuiltStage}
use Rattle.rmt_filling.specs.Formats.{format_at}
use Rattle.rmt_build.specs.Stages.{AreStagesOf, IsPlanFor}
use Rattle.rmt_build.proofs.CellsLaws.{all_quanta}
use Rattle.rmt_filling.proofs.EntryLaws.{data-fits}
use Rattle.rmt_build.proofs.FormStage.{kinds}
use Rattle.rmt_build.proofs.NamesListedParts.{IsPartOf, each_is_part, parts_in_stage}
use Rattle.rmt_build.proofs.NamesTold.{all_places, all_told, has_number, named_there}
use Rattle.rmt_build.proofs.PlanLaws.{format_is, node_there}
use Rattle.rmt_build.proofs.SpotLaws.{HasTable, listed_stands, slot_built, table_of_part}

-- ---- memories of a kind

kind_made : (kd : Kind) (q : ℕ) (m : Memory) → has_key kd ≡ true → HasKind kd q m → (is_of_kind kd m ≡ true) × (memory_quanta m ≡ q)
kind_made kind.Keyless q m key h = absurd (false≢true key)
kind_made kind.Exact q memory.Without key h = absurd h
kind_made kind.Exact q (memory.Exact k p d w ks rs cs) key h = (refl, h)
kind_made kind.Exact q (memory.Ternary d ks rs cs) key h = absurd h
kind_made kind.Prefix q memory.Without key h = absurd h
kind_made kind.Prefix q (memory.Exact k p d w ks rs cs) key h = absurd h
kind_made kind.Prefix q (memory.Ternary d ks rs cs) key h = (refl, h)
kind_made kind.Ternary q memory.Without key h = absurd h
kind_made kind.Ternary q (memory.Exact k p d w ks rs cs) key h = absurd h
kind_made kind.Ternary q (memory.Ternary d ks rs cs) key h = (refl, h)

keyless_none : (kd : Kind) (q : ℕ) (m : Memory) → has_key kd ≡ false → HasKind kd q m → has_memory m ≡ false
keyless_none kind.Keyless q memory.Without key h = refl
keyless_none kind.Keyless q (memory.Exact k p d w ks rs cs) key h = absurd h
keyless_none kind.Keyless q (memory.Ternary d ks rs cs) key h = absurd h
keyless_none kind.Exact q m key h = absurd (false≢true (sym key))
keyless_none kind.Prefix q m key h = absurd (false≢true (sym key))
keyless_none kind.Ternary q m key h = absurd (false≢true (sym key))

-- ---- tests

all_six : (a b d e f g : Bool) → a ≡ true → b ≡ true → d ≡ true → e ≡ true → f ≡ true → g ≡ true → (a && b && d && e && f && g) ≡ true
all_six a b d e f g ea eb ed ee ef eg = rw (ea, eb, ed, ee, ef, eg) refl

-- ---- a configuration of a plan

module _ (p : Program) (lists : List (List Entry)) (plan : Plan) (c : Config) (program : IsProgram p) (entries : AreEntries p lists) (is : IsPlanFor p lists plan)
    (are : AreStagesOf p lists plan c.stages) (units : UnitsCarried p plan.places plan.placement.parts plan.starts c) where
  abbrev parts : List Part
  parts = plan.placement.parts

  built : (k : ℕ) (stage : Stage) → slice_get c.stages k ≡ Some stage → IsBuiltStage p lists plan k stage
  built = are.each

  -- ---- the parts of one table

  module _ (n : ℕ) (t : Table) (at : table_at p n ≡ Some t) where
    within : n < length p.nodes
    within = node_there p program n t at

    -- a rule on slots, of each part
    each_slot : (rule : SlotUnit → Bool) → ((k place : ℕ) (stage : Stage) (slot : SlotUnit) → IsPart c n k place stage slot → rule slot ≡ true) → list_all (λ (x : PartAt). rule x.slot) (parts_of c n) ≡ true
    each_slot rule each =
        list_all-from_AllPass (λ (x : PartAt). rule x.slot) (parts_of c n)
        (All-weaker (IsPartOf c n) (λ (x : PartAt). rule x.slot ≡ true) (λ x h. each x.stage x.place h.in_stage x.slot h.is) (parts_of c n)
        (each_is_part p lists plan c entries units is.is_plan.stands built n t at))

    module _ (k place : ℕ) (stage : Stage) (slot : SlotUnit) (part : IsPart c n k place stage slot) where
      part_carried : TableCarried plan.places parts n k t slot
      part_carried =
          let unit_is = unit_of_part p plan.places parts plan.starts c n k place stage slot units part in
          elim (kinds p plan.places parts k n (unit.Slot slot) unit_is.1) [
            | inl x ↦
                let table : x.table ≡ t = same_Some x.table t (sym x.at ∙ at) in
                let own : x.slot ≡ slot = same_Some x.slot slot (sym (ap as_slot x.is)) in
                subst (λ (y : Table). TableCarried plan.places parts n k y slot) table (subst (TableCarried plan.places parts n k x.table) own x.carried)
            | inr g ↦ absurd (none-some slot (sym (ap as_slot g.is)))
          ]

      part_held : slot.held ≡ data_bits p t
      part_held =
          let has = table_of_part p lists plan c entries units is.is_plan.stands built n k place stage slot part in
          (slot_built p lists plan c entries units is.is_plan.stands built n k place stage slot part t has.entries has.own at has.entries_are has.own_is).held

      part_keys : bits_of_lanes slot.keys ≡ bits_of p t.key
      part_keys = ap bits_of_lanes part_carried.keys ∙ lanes_bits p plan.places t.key is.is_plan.places

      -- its actions, and their parameters in its data
      part_actions : ((length (map (action_named p) t.actions) == slot.actions) && list_all (λ (a : ActionName). nat_le (sum a.params) slot.held) (map (action_named p) t.actions)) ≡ true
      part_actions =
          let many : (length (map (action_named p) t.actions) == slot.actions) ≡ true = eq-eqb (length (map (action_named p) t.actions)) slot.actions (length-map t.actions (action_named p) ∙ sym part_carried.actions) in
          let fit : list_all (λ (a : ActionName). nat_le (sum a.params) slot.held) (map (action_named p) t.actions) ≡ true =
          list_all-from_AllPass (λ (a : ActionName). nat_le (sum a.params) slot.held) (map (action_named p) t.actions)
          (All-map (λ (a : ActionName). nat_le (sum a.params) slot.held ≡ true) (action_named p) t.actions (λ i d lt. le-leb (sum (params_of p (get_or t.actions i d))) slot.held (params_fit i d lt))) in
          ap (λ b. b && list_all (λ (a : ActionName). nat_le (sum a.params) slot.held) (map (action_named p) t.actions)) many ∙ fit
        where
          params_fit : (i d : ℕ) → i < length t.actions → sum (params_of p (get_or t.actions i d)) ≤ slot.held
          params_fit i d lt =
              omega (arith, data-fits p t i lt, ap (λ a. sum (params_of p a)) (get_or_default t.actions i d 0 lt), part_held)

    module _ (key : has_key t.kind ≡ true) where
      abbrev quanta_at : PartAt → ℕ
      quanta_at x = memory_quanta x.slot.memory

      stage_quanta : (k : ℕ) (stage : Stage) → slice_get c.stages k ≡ Some stage → sum (map quanta_at (parts_among n k 0 0 stage.units)) ≡ quanta_in parts n k
      stage_quanta k stage there = elim (parts_in_stage p lists plan c entries units is.is_plan.stands built n t at k stage there) [
        | inl one ↦
            let x = one.part in
            let part : IsPart c n k x.place one.is.in_stage x.slot = subst (λ j. IsPart c n j x.place one.is.in_stage x.slot) one.stage_is one.is.is in
            let alone : sum (map quanta_at (x ∷ [])) ≡ quanta_at x = omega arith in
            ap (λ xs. sum (map quanta_at xs)) one.alone ∙ alone
            ∙ (kind_made t.kind (quanta_in parts n k) x.slot.memory key (part_carried k x.place one.is.in_stage x.slot part).memory).1
        | inr absent ↦ ap (λ xs. sum (map quanta_at xs)) absent.none ∙ sym absent.quanta
      ]

      stages_quanta : (k : ℕ) (stages : List Stage) → ((i : ℕ) → slice_get stages i ≡ slice_get c.stages (k + i))
          → sum (map quanta_at (flat_map (λ (x : ℕ × Stage). parts_among n x.0 0 0 x.1.units) (enumerate_from k stages))) ≡ sum_by (quanta_in parts n) (range_with_len k (length stages))
      stages_quanta k [] h = refl
      stages_quanta k (stage ∷ stages) h =
          let here = parts_among n k 0 0 stage.units in
          let rest = flat_map (λ (x : ℕ × Stage). parts_among n x.0 0 0 x.1.units) (enumerate_from (k + 1) stages) in
          ap sum (map-append quanta_at here rest) ∙ sum_by-append (λ m. m) (map quanta_at here) (map quanta_at rest)
          ∙ ap (λ a. a + sum (map quanta_at rest)) (stage_quanta k stage (first_from stages c.stages stage k h))
          ∙ ap (λ a. quanta_in parts n k + a) (stages_quanta (k + 1) stages (next_from stages c.stages stage k h))
          ∙ sym (sum_by-cons (quanta_in parts n) k (range_with_len (k + 1) (length stages)))

      -- the parts have the quanta of the node
      parts_quanta : quanta_of parts n ≤ sum (map quanta_at (parts_of c n))
      parts_quanta =
          subst (λ m. quanta_of parts n ≤ m) (sym (stages_quanta 0 c.stages (all_places c.stages)))
          (all_quanta parts n (length c.stages)
          (All-weaker (λ (x : Part). (x.node < length p.nodes) × (x.stage < length c.stages) × (0 < x.quanta)) (λ (x : Part). x.stage < length c.stages) (λ x h. h.1) parts units.no_other))

      some_there : (xs : List PartAt) → 0 < sum (map quanta_at xs) → 1 ≤ length xs
      some_there [] some = absurd (omega (arith, some))
      some_there (x ∷ xs) some = omega arith

      parts_there : (es : List Entry) → has_parts c (table_named p n es t) ≡ true
      parts_there es =
          let most = parts_quanta in
          let some = units.each_node n within in
          let one : nat_le 1 (length (parts_of c n)) ≡ true = le-leb 1 (length (parts_of c n)) (some_there (parts_of c n) (omega (arith, most, some))) in
          ap (λ b. b && list_all (λ (x : PartAt). is_of_kind t.kind x.slot.memory) (parts_of c n)) one
          ∙ each_slot (λ (s : SlotUnit). is_of_kind t.kind s.memory) (λ k place stage slot part. (kind_made t.kind (quanta_in parts n k) slot.memory key (part_carried k place stage slot part).memory).0)

      -- a row for each entry
      rows_enough : (quanta : ℕ) → (memory_format t.kind (table_need p t)).quanta ≡ quanta → t.size ≤ quanta * 2048 → nat_le t.size (2048 * sum (map quanta_at (parts_of c n))) ≡ true
      rows_enough quanta format enough =
          let own : (format_at p n).quanta ≡ quanta = ap (λ (f : Format). f.quanta) (format_is p program n t at) ∙ format in
          le-leb t.size (2048 * sum (map quanta_at (parts_of c n))) (omega (arith, parts_quanta, is.exact n within, own, enough))

      rows_there : (es : List Entry) (kd : Kind) → t.kind ≡ kd → has_rows c kd (table_named p n es t) ≡ true
      rows_there es kind.Keyless same = refl
      rows_there es kind.Exact same = refl
      rows_there es kind.Prefix same = rows_enough (divided_up t.size 2048) (ap (λ kd. (memory_format kd (table_need p t)).quanta) same) (divided_up-covers t.size 2048 (omega arith))
      rows_there es kind.Ternary same = rows_enough (divided_up t.size 2048) (ap (λ kd. (memory_format kd (table_need p t)).quanta) same) (divided_up-covers t.size 2048 (omega arith))

      made_so : (es : List Entry) → is_made_so c (table_named p n es t) ≡ true
      made_so es =
          all_three (has_key_bits c (table_named p n es t)) (has_actions c (table_named p n es t)) (has_rows c t.kind (table_named p n es t))
          (each_slot (λ (s : SlotUnit). sum (map (width_of p) t.key) == bits_of_lanes s.keys)
          (λ k place stage slot part. eq-eqb (bits_of p t.key) (bits_of_lanes slot.keys) (sym (part_keys k place stage slot part))))
          (each_slot (λ (s : SlotUnit). (length (map (action_named p) t.actions) == s.actions) && list_all (λ (a : ActionName). nat_le (sum a.params) s.held) (map (action_named p) t.actions)) part_actions)
          (rows_there es t.kind refl)

  -- ---- the units with names

  unit_named : (k place : ℕ) (stage : Stage) (u : Unit) → slice_get c.stages k ≡ Some stage → slice_get stage.units place ≡ Some u → is_named (names_of p lists) u ≡ true
  unit_named k place stage (unit.Gate g) at unit_is = refl
  unit_named k place stage (unit.Slot s) at unit_is = by (has_key has.table.kind) refl
    where
      part : IsPart c s.node k place stage s
      part = record { stage_is = at; slot_is = ap (option_and_then as_slot) unit_is; node_is = refl }

      has : HasTable p lists plan s.node
      has = table_of_part p lists plan c entries units is.is_plan.stands built s.node k place stage s part

      by : (b : Bool) → has_key has.table.kind ≡ b → is_named (names_of p lists) (unit.Slot s) ≡ true
      by true key = or_right (not (has_memory s.memory)) (list_any (has_number s.node) (names_of p lists).tables) (named_there p lists s.node has.table has.table_is key)
      by false key =
          or_left (not (has_memory s.memory)) (list_any (has_number s.node) (names_of p lists).tables)
          (ap not (keyless_none has.table.kind (quanta_in parts s.node k) s.memory key (part_carried s.node has.table has.table_is k place stage s part).memory))

  units_named : list_all (λ (x : Placed). is_named (names_of p lists) x.unit) (placed_units c) ≡ true
  units_named =
      sym (named-placed (names_of p lists) 0 c.stages)
      ∙ list_all-from_AllPass (λ (stage : Stage). list_all (is_named (names_of p lists)) stage.units) c.stages (λ k d lt.
      (let stage = get_or c.stages k d in
      let at = slice_get-get_or c.stages k d lt in
      list_all-from_AllPass (is_named (names_of p lists)) stage.units (λ i e inside. unit_named k i stage (get_or stage.units i e) at (slice_get-get_or stage.units i e inside))))

  tables_there : tables_are_those c (names_of p lists) ≡ true
  tables_there =
      ap (λ b. b && list_all (λ (x : Placed). is_named (names_of p lists) x.unit) (placed_units c))
      (list_all-from_AllPass (has_parts c) (names_of p lists).tables (all_told p lists entries (λ x. has_parts c x ≡ true) (λ n es t at own key. parts_there n t at key es)))
      ∙ units_named

  -- ---- the numbers of entries

  module _ (can : CanBeNamed p lists) where
    abbrev HasRoom : ℕ → Type 0
    HasRoom m = nat_lt m 4293918720 ≡ true

    unit_numbers : (k place : ℕ) (stage : Stage) (u : Unit) → slice_get c.stages k ≡ Some stage → slice_get stage.units place ≡ Some u → All HasRoom (numbers_of_unit u)
    unit_numbers k place stage (unit.Gate g) at unit_is = All-nil HasRoom
    unit_numbers k place stage (unit.Slot s) at unit_is = All-map HasRoom (λ (x : CellNumber). x.number) s.numbers (λ i d lt. number_small (get_or s.numbers i d) (Contains-get_or s.numbers i d lt))
      where
        part : IsPart c s.node k place stage s
        part = record { stage_is = at; slot_is = ap (option_and_then as_slot) unit_is; node_is = refl }

        has : HasTable p lists plan s.node
        has = table_of_part p lists plan c entries units is.is_plan.stands built s.node k place stage s part

        number_small : (x : CellNumber) → Contains s.numbers x → HasRoom x.number
        number_small x there =
            let its = listed_stands p lists plan c entries units is.is_plan.stands built s.node k place stage s part has.table has.entries has.own has.table_is has.entries_are has.own_is x there in
            let own = All-slice_get (λ es. All (λ m. m < 4293918720) (entry_numbers es)) lists s.node has.entries (All-parts (λ m. m < 4293918720) entry_numbers lists can.numbers) has.entries_are in
            let less = All-contains (λ (e : Entry). e.number < 4293918720) has.entries its.0 (All-unmap (λ m. m < 4293918720) (λ (e : Entry). e.number) has.entries own) its.1 in
            lt-ltb x.number 4293918720 (subst (λ m. m < 4293918720) its.2 less)

    numbers_small : numbers_leave_room c ≡ true
    numbers_small =
        list_all-from_AllPass (λ m. nat_lt m 4293918720) (config_numbers c)
        (All-flat_map HasRoom numbers_of_stage c.stages (λ k d lt.
        (let stage = get_or c.stages k d in
        let at = slice_get-get_or c.stages k d lt in
        All-flat_map HasRoom numbers_of_unit stage.units (λ i e inside. unit_numbers k i stage (get_or stage.units i e) at (slice_get-get_or stage.units i e inside)))))

    -- with counts that can be told, and parts filled as they are named
    pub names_made : names_have_counts (names_of p lists) ≡ true → All (λ (x : TableName). is_filled_so c x ≡ true) (names_of p lists).tables → names_fit c (names_of p lists) ≡ true
    names_made counts filled =
        let names = names_of p lists in
        all_six (names_are_formed names) (names_have_counts names) (numbers_leave_room c) (tables_are_those c names) (list_all (is_made_so c) names.tables) (list_all (is_filled_so c) names.tables)
        (names_of-formed p lists program can) counts numbers_small tables_there
        (list_all-from_AllPass (is_made_so c) names.tables (all_told p lists entries (λ x. is_made_so c x ≡ true) (λ n es t at own key. made_so n t at key es)))
        (list_all-from_AllPass (is_filled_so c) names.tables filled)
