-- A listed cell of a part, against the entry of its number.
use Rattle.std.proofs.Common.{◌≡◌, ◌↔◌, ℕ, ◌+◌, ◌-◌, ◌*◌, ◌^◌, ◌<◌, ◌≤◌, Bool, true, IsTrue, List, [], Option, Some, get_or, map, All, Contains, refl, sym, ap, subst, ◌∙◌, arith}
use Rattle.std.specs.Prelude.{option_and_then, option_map, slice_get, slice_index, sum, unwrap_or}
use Rattle.std.specs.List.{AllZip}
use Rattle.std.proofs.lemmas.Bool.{and_parts, leb-true}
use Rattle.std.proofs.lemmas.List.Elements.{All-contains, All-weaker}
use Rattle.std.proofs.lemmas.Option.{get_or_from_slice_get, slice_get-get_or}
use Rattle.rmt_bits.proofs.AllLaws.{All-from_test, All-slice_get}
use Rattle.rmt_bits.proofs.BitLaws.{slice-lt}
use Rattle.rmt_bits.proofs.ListLaws.{slice_get-item}
use Rattle.rmt_bits.proofs.MemberLaws.{Contains-map}
use Rattle.rmt_ast.specs.declared.entry.Entry.{Entry}
use Rattle.rmt_ast.specs.declared.program.Kind.TheVariants as kind
use Rattle.rmt_ast.specs.EntryLists.{HasRank, IsEntry, params_of, terms_of}
use Rattle.rmt_ast.specs.State.{width_of}
use Rattle.rmt_ast.specs.WellFormed.{Fits, IsAction, IsTest, IsWidth}
use Rattle.rmt_config.specs.declared.config.Memory.TheVariants.{Exact, Ternary}
use Rattle.rmt_config.specs.CellForm.{cells_of, head_is_formed}
use Rattle.rmt_config.specs.Cells.{Content, candidates, cell_of, cells_in, code_of, content_of, exact_content, is_seen, sram_row, ternary_content}
use Rattle.rmt_config.specs.Form.{visible_with}
use Rattle.rmt_config.specs.LaneForm.{bits_of_lanes}
use Rattle.rmt_config.specs.MemoryRules.{ExactFits, SramRows, TernaryFits}
use Rattle.rmt_config.specs.PartStands.{PartStands}
use Rattle.rmt_config.specs.Rooms.{PartAt, tests_as_one}
use Rattle.rmt_config.specs.UnitForm.{memory_is_formed, slot_head_is_formed}
use Rattle.rmt_config.proofs.SlotLaws.{exact-fits, ternary-fits}
use Rattle.rmt_refine.specs.Listed.{ListsItsCells}
use Rattle.rmt_refine.specs.Types.{Action, CellNumber, Config, Kind, Memory, Program, SramRow, Stage, Table, Test}
use Rattle.rmt_refine.specs.Units.{HasKind}
use Rattle.rmt_refine.specs.View.{as_slot, own_content}
use Rattle.rmt_refine.proofs.CellNumberLaws.{cells_listed}
use Rattle.rmt_refine.proofs.EntryLaws.{ActionIs, action_is}
use Rattle.rmt_pack.proofs.FindLaws.{Contains-range}
use Rattle.rmt_refine.proofs.ViewLaws.{content_is}
use Rattle.rmt_pack.proofs.BesideLaws.{whole_mask}
use Rattle.rmt_vliw.proofs.FormedLaws.{params_few}
use Rattle.rmt_verify.specs.CellsHeld.{CellHeld, HeldThere, told_at}
use Rattle.rmt_verify.specs.TableKnown.{TableKnown}
use Rattle.rmt_verify.specs.Types.{CellOf}
use Rattle.rmt_verify.specs.Wanted.{IsWanted, Matches}
use Rattle.rmt_verify.proofs.OrderLaws.{one_numbered}

-- ---- a part

module _ (c : Config) (part : PartAt) (stands : PartStands c part) where
  pub part_listed : ListsItsCells stands.stage part.slot
  part_listed = cells_listed (visible_with c.names) stands.stage part.first part.slot stands.holds

  pub own_content_is : (n : ℕ) → own_content c part.stage part.place n ≡ content_of stands.stage part.slot n
  own_content_is n = content_is c part.stage part.place stands.stage part.slot stands.in_stages (ap (option_and_then as_slot) stands.in_units) n

  abbrev IsFormed : ℕ → Type 0
  IsFormed n = head_is_formed (visible_with c.names) part.first part.slot.actions (content_of stands.stage part.slot n).head ≡ true

  all_formed : All IsFormed (cells_of part.slot)
  all_formed =
      let heads = (and_parts _ _ stands.holds.numbers).1 in
      All-from_test IsFormed (λ n. head_is_formed (visible_with c.names) part.first part.slot.actions (content_of stands.stage part.slot n).head) (λ n e. e) (cells_of part.slot) heads

  -- a listed cell runs an instruction of the slot, so the slot's first one has a low number
  pub first_low : (x : CellNumber) → Contains part.slot.numbers x → part.first < 32
  first_low x there =
      let head = (content_of stands.stage part.slot x.cell).head in
      let formed = All-contains IsFormed (cells_of part.slot) x.cell all_formed (Contains-map (λ (n : CellNumber). n.cell) part.slot.numbers x there) in
      below part.first (code_of head) (leb-true part.first (code_of head) (and_parts _ _ (and_parts _ _ formed).0).1) (slice-lt head 3 5)
    where
      below : (a b : ℕ) → a ≤ b → b < 32 → a < 32
      below a b le lt = omega (arith, le, lt)

  pub stage_is : (x : Stage) → x ≡ get_or c.stages part.stage x → x ≡ stands.stage
  stage_is x is = is ∙ get_or_from_slice_get c.stages part.stage stands.stage x stands.in_stages

  pub rows_stand : SramRows stands.stage.srows
  rows_stand = record { rise = stands.rows.srise; low = stands.rows.slow; small = stands.rows.sbits }

  pub exact_fit : (k per d w : ℕ) (ks rs cs : List ℕ) → part.slot.memory ≡ Exact k per d w ks rs cs → ExactFits part.slot k per d ks rs
  exact_fit k per d w ks rs cs e =
      let parts = and_parts (slot_head_is_formed part.slot) (memory_is_formed part.slot part.slot.memory) stands.slot in
      exact-fits part.slot k per d w ks rs cs parts.0 (sym (ap (memory_is_formed part.slot) e) ∙ parts.1)

  pub ternary_fit : (d : ℕ) (ks rs cs : List ℕ) → part.slot.memory ≡ Ternary d ks rs cs → TernaryFits part.slot d ks rs
  ternary_fit d ks rs cs e =
      let parts = and_parts (slot_head_is_formed part.slot) (memory_is_formed part.slot part.slot.memory) stands.slot in
      ternary-fits part.slot d ks rs cs parts.0 (sym (ap (memory_is_formed part.slot) e) ∙ parts.1)

  pub cell_below : (x : CellNumber) (m : Memory) → Contains part.slot.numbers x → part.slot.memory ≡ m → x.cell < cells_in m
  cell_below x m there e = subst (λ (y : Memory). x.cell < cells_in y) e (part_listed.within x there)

pub exact_kind : (kd : Kind) (q k per d w : ℕ) (ks rs cs : List ℕ) → HasKind kd q (Exact k per d w ks rs cs) → kd ≡ kind.Exact
exact_kind kind.Keyless q k per d w ks rs cs h = absurd h
exact_kind kind.Exact q k per d w ks rs cs h = refl
exact_kind kind.Prefix q k per d w ks rs cs h = absurd h
exact_kind kind.Ternary q k per d w ks rs cs h = absurd h

-- ---- an entry

module _ (p : Program) (c : Config) (n : ℕ) (t : Table) (widths : List ℕ) (es : List Entry) (known : TableKnown p c n t widths es) (e : Entry) (there : Contains es e) where
  is_entry : IsEntry n (terms_of p t) e
  is_entry = All-contains (IsEntry n (terms_of p t)) es e known.entries.each there

  pub its_action : ActionIs p t e
  its_action = action_is p t e n is_entry

  pub action_low : e.action < 14
  action_low = let lt = its_action.within in let le = known.table.few_actions in omega (arith, lt, le)

  abbrev pub own_params : List ℕ
  own_params = params_of p (slice_index t.actions e.action)

  pub params_are : (action : ℕ) (a : Action) → action ≡ slice_index t.actions e.action → slice_get p.actions action ≡ Some a → a.params ≡ own_params
  params_are action a is at = ap (λ (o : Option Action). unwrap_or (option_map (λ (y : Action). y.params) o) []) (sym at) ∙ ap (params_of p) is

  pub params_read : (actions : List ℕ) (all : List Action) (d : Action) → actions ≡ t.actions → all ≡ p.actions → (get_or all (get_or actions e.action 0) d).params ≡ own_params
  params_read actions all d actions_are all_are =
      let i = slice_index t.actions e.action in
      let at = slice_get-get_or p.actions i d (known.table.actions e.action 0 its_action.within) in
      ap (λ (xs : List ℕ). (get_or all (get_or xs e.action 0) d).params) actions_are ∙ ap (λ (xs : List Action). (get_or xs i d).params) all_are ∙ params_are i (get_or p.actions i d) refl at

  pub wanted : (params : List ℕ) → params ≡ own_params → IsWanted widths params e
  wanted params is =
      let within = its_action.within in
      let item = slice_get-item p.actions (slice_index t.actions e.action) (known.table.actions e.action 0 within) in
      let good = All-slice_get (IsAction p) p.actions (slice_index t.actions e.action) item.0 known.actions item.1 in
      let same : params ≡ item.0.params = is ∙ ap (λ (o : Option Action). unwrap_or (option_map (λ (y : Action). y.params) o) []) item.1 in
      let all = params_few item.0.params good.params in
      let few = good.few_params in
      record {
        tests = subst (λ (ws : List ℕ). AllZip IsTest ws e.tests) (sym known.widths_are) is_entry.tests;
        narrow = known.narrow;
        few = known.few;
        args = subst (λ (ps : List ℕ). AllZip Fits ps e.args) (sym is) its_action.fits;
        short = subst (All (λ w. w ≤ 128)) (sym same) (All-weaker IsWidth (λ w. w ≤ 128) (λ w h. h.1) item.0.params good.params);
        all = subst (λ (ps : List ℕ). sum ps ≤ 2048) (sym same) (omega (arith, all, few));
      }

  -- the mask of an entry of an exact table has all bits
  pub whole : t.kind ≡ kind.Exact → tests_as_one (λ (y : Test). y.mask) widths e.tests ≡ 2 ^ sum widths - 1
  whole is =
      let ws = map (width_of p) t.key in
      let rank : HasRank kind.Exact ws e = subst (λ k. HasRank k ws e) is is_entry.rank in
      subst (λ (vs : List ℕ). tests_as_one (λ (y : Test). y.mask) vs e.tests ≡ 2 ^ sum vs - 1) (sym known.widths_are) (whole_mask ws e.tests rank.0)

  -- ---- in a cell

  module _ (part : PartAt) (stands : PartStands c part) (x : CellNumber) (listed : Contains part.slot.numbers x) (number : e.number ≡ x.number) where
    abbrev own : Content
    own = own_content c part.stage part.place x.cell

    -- what is looked at is right
    abbrev pub Told : Bool → List ℕ → List ℕ → ℕ → Content → Memory → Type 0
    Told holds ws params code y m =
        IsTrue holds ↔ (Matches ws params code e y × Contains (candidates c.seed (bits_of_lanes part.slot.keys) m (tests_as_one (λ (u : Test). u.value) ws e.tests)) x.cell)

    own_told : (holds : Bool) → Told holds (map (width_of p) t.key) own_params (part.first + e.action) own part.slot.memory → IsTrue holds ↔ HeldThere p c t part x e
    own_told holds told = (
      λ yes.
          (let both = told.0 yes in
          record {
            holds = record {
              seen = ap (λ (y : Content). is_seen y.head) (own_content_is c part stands x.cell) ∙ (part_listed c part stands).seen x listed;
              code = both.0.code_is;
              key = both.0.key;
              mask = both.0.mask;
              held = both.0.held;
              number_is = sym number;
            };
            candidate = both.1;
          }),
      λ h. told.1 (record { code_is = h.holds.code; key = h.holds.key; mask = h.holds.mask; held = h.holds.held }, h.candidate),
    )

    there_is : (holds : Bool) (params : List ℕ) (code : ℕ) (y : Content) (m : Memory) → params ≡ own_params → code ≡ part.first + e.action → own ≡ y → part.slot.memory ≡ m
        → Told holds widths params code y m → IsTrue holds ↔ HeldThere p c t part x e
    there_is holds params code y m params_is code_is content memory told =
        own_told holds
        (subst (λ (k : Memory). Told holds (map (width_of p) t.key) own_params (part.first + e.action) own k) (sym memory)
        (subst (λ (z : Content). Told holds (map (width_of p) t.key) own_params (part.first + e.action) z m) (sym content)
        (subst (λ (d : ℕ). Told holds (map (width_of p) t.key) own_params d y m) code_is
        (subst (λ (ps : List ℕ). Told holds (map (width_of p) t.key) ps code y m) params_is
        (subst (λ (ws : List ℕ). Told holds ws params code y m) known.widths_are told)))))

    -- where the entry stands in the cell, the cell holds the entry of its number
    cell_told : (holds : Bool) → IsTrue holds ↔ HeldThere p c t part x e → (cells : List CellOf) → Contains cells (told_at part x) → IsTrue holds ↔ CellHeld p c cells t es part x
    cell_told holds h cells told = (
      λ yes. record { entry = e; there = there; told = told; held = h.0 yes },
      λ own_held.
          h.1 (subst (HeldThere p c t part x) (one_numbered es known.entries.rising own_held.entry e own_held.there there (sym own_held.held.holds.number_is ∙ sym number)) own_held.held),
    )

    -- what was read of the part's stage, and of the entry's action
    module _ (stage : Stage) (actions : List ℕ) (all : List Action) (d : Action) (stage_read : stage ≡ get_or c.stages part.stage stage) (actions_are : actions ≡ t.actions) (all_are : all ≡ p.actions) where
      abbrev params : List ℕ
      params = (get_or all (get_or actions e.action 0) d).params

      found : (holds : Bool) (y : Content) (m : Memory) → content_of stands.stage (record part.slot { memory = m }) x.cell ≡ y → part.slot.memory ≡ m → Told holds widths params (part.first + e.action) y m
          → (cells : List CellOf) → Contains cells (told_at part x) → IsTrue holds ↔ CellHeld p c cells t es part x
      found holds y m content memory told =
          cell_told holds
          (there_is holds params (part.first + e.action) y m (params_read actions all d actions_are all_are) refl
          (own_content_is c part stands x.cell ∙ ap (λ (k : Memory). content_of stands.stage (record part.slot { memory = k }) x.cell) memory ∙ content) memory told)

      pub exact_there : (k per q w : ℕ) (ks rs cs : List ℕ) (rows : List SramRow) (keys records : List ℕ) (holds : Bool) → part.slot.memory ≡ Exact k per q w ks rs cs
          → rows ≡ stage.srows → keys ≡ ks → records ≡ rs
          → Told holds widths params (part.first + e.action) (exact_content (sram_row rows) part.slot k per keys records (cell_of (1024 * q) per x.cell)) (Exact k per q w keys records cs)
          → (cells : List CellOf) → Contains cells (told_at part x) → IsTrue holds ↔ CellHeld p c cells t es part x
      exact_there k per q w ks rs cs rows keys records holds memory rows_are keys_are records_are told =
          found holds (exact_content (sram_row stands.stage.srows) part.slot k per ks rs (cell_of (1024 * q) per x.cell)) (Exact k per q w ks rs cs) refl memory
          (subst (λ (zs : List SramRow). P zs ks rs) (rows_are ∙ ap (λ (s : Stage). s.srows) (stage_is c part stands stage stage_read))
          (subst (λ (ys : List ℕ). P rows ys rs) keys_are (subst (λ (ys : List ℕ). P rows keys ys) records_are told)))
        where
          P : List SramRow → List ℕ → List ℕ → Type 0
          P zs xs ys = Told holds widths params (part.first + e.action) (exact_content (sram_row zs) part.slot k per xs ys (cell_of (1024 * q) per x.cell)) (Exact k per q w xs ys cs)

      pub ternary_there : (q : ℕ) (ks rs cs : List ℕ) (keys records : List ℕ) → part.slot.memory ≡ Ternary q ks rs cs → keys ≡ ks → records ≡ rs
          → (holds : Bool) → IsTrue holds ↔ Matches widths params (part.first + e.action) e (ternary_content stage part.slot keys records x.cell)
          → (cells : List CellOf) → Contains cells (told_at part x) → IsTrue holds ↔ CellHeld p c cells t es part x
      ternary_there q ks rs cs keys records memory keys_are records_are holds told =
          found holds (ternary_content stands.stage part.slot ks rs x.cell) (Ternary q ks rs cs) refl memory
          (λ yes. (own_match.0 yes, Contains-range (2048 * q) x.cell (cell_below c part stands x (Ternary q ks rs cs) listed memory)), λ both. own_match.1 both.0)
        where
          own_match : IsTrue holds ↔ Matches widths params (part.first + e.action) e (ternary_content stands.stage part.slot ks rs x.cell)
          own_match =
              subst (λ (s : Stage). IsTrue holds ↔ Matches widths params (part.first + e.action) e (ternary_content s part.slot ks rs x.cell)) (stage_is c part stands stage stage_read)
              (subst (λ (ys : List ℕ). IsTrue holds ↔ Matches widths params (part.first + e.action) e (ternary_content stage part.slot ys rs x.cell)) keys_are
              (subst (λ (ys : List ℕ). IsTrue holds ↔ Matches widths params (part.first + e.action) e (ternary_content stage part.slot keys ys x.cell)) records_are told))
