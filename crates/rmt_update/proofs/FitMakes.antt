-- What a commit makes of cells that hold nothing, or what changed cells can put there, holds that too.
use Rattle.std.proofs.Common.{◌≡◌, ◌≢◌, ◌⊎◌, ℕ, zero, suc, ◌+◌, ◌-◌, ◌/◌, ◌%◌, ◌^◌, ◌<◌, ◌≤◌, ◌==◌, ◌&&◌, Bool, true, false, cond, eqb, List, [], length, map, sum, Option, Some, None, option_map, unwrap_or, inl, inr, refl, sym, ap, ◌∙◌, subst, arith}
use Rattle.std.specs.Prelude.{All, Contains, IsSomeAnd, find, slice_get, slice_index_or, nat_le}
use Rattle.std.specs.List.{list_all, sum_by}
use Rattle.std.proofs.Math.Pow.{pow_mono}
use Rattle.std.proofs.lemmas.Bool.{and_parts, eqb-false, eqb-true, eq-eqb, false≢true, leb-true}
use Rattle.std.proofs.lemmas.List.Elements.{All-contains, All-contains_itself}
use Rattle.std.proofs.lemmas.List.Sums.{sum_by-take-le}
use Rattle.std.proofs.lemmas.Option.{none-some, same_Some, slice_get_within}
use Rattle.rmt_bits.proofs.AllLaws.{All-find, All-from_test, All-slice_get}
use Rattle.rmt_bits.proofs.ListLaws.{find-passes}
use Rattle.rmt_bits.proofs.MemberLaws.{Contains-map, Contains-unmap, flat_from, from_flat_map}
use Rattle.rmt_ast.specs.declared.entry.Entry.{Entry}
use Rattle.rmt_ast.specs.declared.names.ActionName.{ActionName}
use Rattle.rmt_ast.specs.declared.names.Names.{Names}
use Rattle.rmt_ast.specs.declared.names.TableName.{TableName}
use Rattle.rmt_ast.specs.declared.program.Kind.{Kind}
use Rattle.rmt_ast.specs.declared.program.Kind.TheVariants as kind
use Rattle.rmt_ast.specs.Changes.{list_of}
use Rattle.rmt_ast.specs.EntryLists.{AreEntriesAt, IsEntry, Terms}
use Rattle.rmt_ast.specs.NameRules.{AreEntriesOf, terms_named, terms_of_name}
use Rattle.rmt_config.specs.Instructions.{first_code, unit_instructions}
use Rattle.rmt_config.proofs.InstructionLaws.{first_code_next}
use Rattle.rmt_config.specs.declared.config.Config.{Config}
use Rattle.rmt_config.specs.declared.config.Memory.{Memory}
use Rattle.rmt_config.specs.declared.config.SlotUnit.{SlotUnit}
use Rattle.rmt_config.specs.declared.config.Memory.TheVariants.{Without, Exact, Ternary}
use Rattle.rmt_config.specs.declared.config.Unit.TheVariants.{Slot}
use Rattle.rmt_config.specs.Cells.{Content, candidates, cells_in, is_occupied, visible_bits}
use Rattle.rmt_config.specs.Commits.{AreFilled, IsFilled, Makes, Placed, all_entries, coming_content, filled, filled_content, leaving_content, moves, placed_at, settled_content, settled_number, stays, staying_content, with_bit, without_bit}
use Rattle.rmt_config.specs.Form.{Formed}
use Rattle.rmt_config.specs.LaneForm.{bits_of_lanes}
use Rattle.rmt_config.specs.Limits.{IsWithinLimits}
use Rattle.rmt_config.specs.PartStands.{PartStands}
use Rattle.rmt_config.specs.NamesForm.{has_actions, is_made_so, is_of_kind}
use Rattle.rmt_config.specs.Rooms.{PartAt, Room, args_as_one, content_in, entry_content, is_at, key_number, parts_of, rooms_for, tests_as_one}
use Rattle.rmt_config.specs.RunCells.{RunCells, as_slot, emptied, has_bit, no_content, slot_at, with_version}
use Rattle.rmt_config.proofs.LimitLaws.{limits_kept}
use Rattle.rmt_config.proofs.SpelledParts.{parts-stand}
use Rattle.rmt_config.proofs.SpelledWays.{parts-follow}
use Rattle.rmt_pack.proofs.BesideLaws.{args-lt}
use Rattle.rmt_pack.proofs.PartLaws.{slot_is_unit, then_some, code_at}
use Rattle.rmt_pack.proofs.PlacedLaws.{Comes, HasItsRoom, Stays, each_has_its_room}
use Rattle.rmt_pack.proofs.RoomLaws.{PartIs, stages_there, at_is}
use Rattle.rmt_config.proofs.LayoutLaws.{memory_formed}
use Rattle.rmt_pack.proofs.RoomOrderLaws.{room_there}
use Rattle.rmt_config.specs.Rooms.{mask_or_value}
use Rattle.rmt_update.specs.Fitting.{AreFit, HasEntry, IsFitting, MaskFits}
use Rattle.rmt_update.proofs.BookLaws.{TableFacts, names-fit, table-facts}
use Rattle.rmt_update.proofs.ComingLaws.{mask-whole, own-args, own-params, some-action}
use Rattle.rmt_update.proofs.PartHoldLaws.{part-slot}
use Rattle.rmt_update.proofs.SpelledLaws.{tests-lt}
use Rattle.rmt_update.proofs.TableRules.{entries-at}
use Rattle.rmt_update.proofs.TurnedLaws.{by-bit}
use Rattle.rmt_book.proofs.ToldEntryLaws.{PartFacts, all-facts}

-- ---- heads with a visible bit more or less: s is a version's parity

record HasHead (head : ℕ) : Type 0 where
  occupied : head % 2 ≡ 1
  seen : head / 2 % 4 ≢ 0
  small : head < 256

more-bits : (s head : ℕ) → s < 2 → head % 2 ≡ 1 → head < 256 → HasHead (cond (eqb (head / 2 ^ (1 + s) % 2) 1) head (head + 2 ^ (1 + s)))
more-bits zero head lt used small =
    by-bit (head / 2 % 2) head (head + 2) HasHead (λ two. record { occupied = used; seen = λ none. omega (arith, two, none); small = small })
    (λ two. record { occupied = omega (arith, used); seen = λ none. omega (arith, two, none); small = omega (arith, small, two) })
more-bits (suc zero) head lt used small =
    by-bit (head / 4 % 2) head (head + 4) HasHead (λ four. record { occupied = used; seen = λ none. omega (arith, four, none); small = small })
    (λ four. record { occupied = omega (arith, used); seen = λ none. omega (arith, four, none); small = omega (arith, small, four) })
more-bits (suc (suc s)) head lt used small = absurd (omega (arith, lt))

less-bits : (s head : ℕ) → s < 2 → head % 2 ≡ 1 → head < 256 → visible_bits (cond (eqb (head / 2 ^ (1 + s) % 2) 1) (head - 2 ^ (1 + s)) head) ≢ 0
    → HasHead (cond (eqb (head / 2 ^ (1 + s) % 2) 1) (head - 2 ^ (1 + s)) head)
less-bits zero head lt used small =
    by-bit (head / 2 % 2) (head - 2) head (λ n. visible_bits n ≢ 0 → HasHead n) (λ two some. record { occupied = omega (arith, used, two); seen = some; small = omega (arith, small) }) (λ two some. record { occupied = used; seen = some; small = small })
less-bits (suc zero) head lt used small =
    by-bit (head / 4 % 2) (head - 4) head (λ n. visible_bits n ≢ 0 → HasHead n) (λ four some. record { occupied = omega (arith, used, four); seen = some; small = omega (arith, small) }) (λ four some. record { occupied = used; seen = some; small = small })
less-bits (suc (suc s)) head lt used small = absurd (omega (arith, lt))

-- a cell with an entry, with such a head
new-head : (slot : SlotUnit) (x : Content) (head : ℕ) → HasEntry slot x → HasHead head → HasEntry slot (record x { head = head })
new-head slot x head h new =
    let occupied = new.occupied in
    let seen = new.seen in
    let small = new.small in
    record {
      visible = head / 2 % 4;
      code = head / 8;
      head = omega (arith, occupied);
      seen = omega (arith, seen);
      visible_small = omega arith;
      code_small = omega (arith, small);
      key = h.key;
      mask = h.mask;
      held = h.held;
    }

entry-head : (slot : SlotUnit) (x : Content) → HasEntry slot x → (x.head % 2 ≡ 1) × (x.head < 256)
entry-head slot x h =
    let head = h.head in
    let visible = h.visible_small in
    let code = h.code_small in
    (omega (arith, head), omega (arith, head, visible, code))

-- ---- the content of an entry

mask-fits : (k : Kind) (m : Memory) (bits mask : ℕ) → is_of_kind k m ≡ true → (k ≡ kind.Exact → mask ≡ 2 ^ bits - 1) → mask < 2 ^ bits → MaskFits bits m mask
mask-fits kind.Keyless m bits mask is whole low = absurd (false≢true is)
mask-fits kind.Exact Without bits mask is whole low = absurd (false≢true is)
mask-fits kind.Exact (Exact k p d w ks rs cs) bits mask is whole low = whole refl
mask-fits kind.Exact (Ternary d ks rs cs) bits mask is whole low = absurd (false≢true is)
mask-fits kind.Prefix Without bits mask is whole low = absurd (false≢true is)
mask-fits kind.Prefix (Exact k p d w ks rs cs) bits mask is whole low = absurd (false≢true is)
mask-fits kind.Prefix (Ternary d ks rs cs) bits mask is whole low = low
mask-fits kind.Ternary Without bits mask is whole low = absurd (false≢true is)
mask-fits kind.Ternary (Exact k p d w ks rs cs) bits mask is whole low = absurd (false≢true is)
mask-fits kind.Ternary (Ternary d ks rs cs) bits mask is whole low = low

-- a room's part is one of the node's
room-part : (c : Config) (seed node key : ℕ) (room : Room) → Contains (rooms_for c seed node key) room → Contains (parts_of c node) room.part
room-part c seed node key room there =
    let r = from_flat_map (λ (p : PartAt). map (λ n. record { part = p; cell = n }) (candidates seed (bits_of_lanes p.slot.keys) p.slot.memory key)) (parts_of c node) room there in
    let q = Contains-unmap (λ n. record { part = r.0; cell = n }) (candidates seed (bits_of_lanes r.0.slot.keys) r.0.slot.memory key) room r.2 in
    subst (Contains (parts_of c node)) (ap (λ (x : Room). x.part) q.2) r.1

module _ (c : Config) (names : Names) (formed : Formed c) (limits : IsWithinLimits c) (named : c.names ≡ Some names) where
  -- the table of a node
  record IsTable (node : ℕ) (t : Terms) : Type 0 where
    name : TableName
    terms : terms_of_name name ≡ t
    node_is : name.node ≡ node
    parts : All (PartFacts c name) (parts_of c node)
    data_fits : All (λ (p : PartAt). All (λ (a : ActionName). sum a.params ≤ p.slot.held) name.actions) (parts_of c node)
    listed : All (λ (p : PartAt). length name.actions ≡ p.slot.actions) (parts_of c node)

  table-of : (node : ℕ) (t : Terms) → terms_named names node ≡ Some t → IsTable node t
  table-of node t h = by (find (λ (x : TableName). x.node == node) names.tables) refl h
    where
      by : (o : Option TableName) → find (λ (x : TableName). x.node == node) names.tables ≡ o → option_map terms_of_name o ≡ Some t → IsTable node t
      by None e h = absurd (none-some t h)
      by (Some x) e h =
          let facts = All-find (TableFacts c) (λ (x : TableName). x.node == node) names.tables x (table-facts c names formed named) e in
          let same : x.node ≡ node = eqb-true x.node node (find-passes (λ (x : TableName). x.node == node) names.tables x e) in
          let all_made = (and_parts _ _ (and_parts _ _ (names-fit c names formed named)).0).1 in
          let made = All-find (λ (x : TableName). is_made_so c x ≡ true) (λ (x : TableName). x.node == node) names.tables x
          (All-from_test (λ (x : TableName). is_made_so c x ≡ true) (is_made_so c) (λ x e. e) names.tables all_made) e in
          let actions : has_actions c x ≡ true = (and_parts _ _ (and_parts _ _ made).0).1 in
          let memory = memory_formed c formed in
          record {
            name = x;
            terms = same_Some (terms_of_name x) t h;
            node_is = same;
            parts = subst (λ n. All (PartFacts c x) (parts_of c n)) same
                (all-facts c x (parts_of c x.node) (parts-stand c x.node formed.items memory) (parts-follow c x.node memory) (and_parts _ _ facts.parts).1 facts.bits);
            data_fits = subst (λ n. All (λ (p : PartAt). All (λ (a : ActionName). sum a.params ≤ p.slot.held) x.actions) (parts_of c n)) same
                (All-from_test (λ (p : PartAt). All (λ (a : ActionName). sum a.params ≤ p.slot.held) x.actions)
                (λ (p : PartAt). (length x.actions == p.slot.actions) && list_all (λ (a : ActionName). nat_le (sum a.params) p.slot.held) x.actions)
                (λ p e. All-from_test (λ (a : ActionName). sum a.params ≤ p.slot.held) (λ (a : ActionName). nat_le (sum a.params) p.slot.held) (λ a le. leb-true (sum a.params) p.slot.held le) x.actions
                (and_parts _ _ e).1) (parts_of c x.node) actions);
            listed = subst (λ n. All (λ (p : PartAt). length x.actions ≡ p.slot.actions) (parts_of c n)) same
                (All-from_test (λ (p : PartAt). length x.actions ≡ p.slot.actions)
                (λ (p : PartAt). (length x.actions == p.slot.actions) && list_all (λ (a : ActionName). nat_le (sum a.params) p.slot.held) x.actions)
                (λ p e. eqb-true (length x.actions) p.slot.actions (and_parts _ _ e).0) (parts_of c x.node) actions);
          }

  -- a stage has few instructions
  few-codes : (node : ℕ) (p : PartAt) → Contains (parts_of c node) p → p.first + p.slot.actions < 32
  few-codes node p there =
      let r = All-contains (PartIs c node) (parts_of c node) p (stages_there c node 0 c.stages (λ i. ap (slice_get c.stages) (omega arith))) there in
      let first_is = r.first in
      let u = then_some as_slot (slice_get r.stage.units p.place) p.slot r.part.slot_is in
      let unit_is : slice_get r.stage.units p.place ≡ Some (Slot p.slot) = u.1 ∙ ap Some (slot_is_unit u.0 p.slot u.2) in
      let next = first_code_next r.stage p.place (Slot p.slot) unit_is in
      let below = sum_by-take-le unit_instructions r.stage.units (p.place + 1) in
      let limit = code_at c.stages p.stage r.stage (limits_kept c limits).code r.part.stage_is in
      few p.first (first_code r.stage p.place) (first_code r.stage (p.place + 1)) (sum_by unit_instructions r.stage.units) p.slot.actions first_is next below limit
    where
      few : (first code behind whole actions : ℕ) → first ≡ code → behind ≡ code + (actions + 1) → behind ≤ whole → whole ≤ 32 → first + actions < 32
      few first code behind whole actions a b d e = omega (arith, a, b, d, e)

  entry-fits : (node : ℕ) (t : Terms) (p : PartAt) (e : Entry) (visible : ℕ) → terms_named names node ≡ Some t → Contains (parts_of c node) p → IsEntry node t e → 1 ≤ visible → visible < 4
      → HasEntry p.slot (entry_content t p visible e)
  entry-fits node t p e visible terms there entry some few =
      let table = table-of node t terms in
      let x = table.name in
      subst (λ (u : Terms). HasEntry p.slot (entry_content u p visible e)) table.terms
      (by table (subst (λ n. IsEntry n (terms_of_name x) e) (sym table.node_is) (subst (λ (u : Terms). IsEntry node u e) (sym table.terms) entry)))
    where
      by : (table : IsTable node t) → IsEntry table.name.node (terms_of_name table.name) e → HasEntry p.slot (entry_content (terms_of_name table.name) p visible e)
      by table is = action (slice_get x.actions e.action) refl
        where
          x : TableName
          x = table.name

          action : (o : Option ActionName) → slice_get table.name.actions e.action ≡ o → HasEntry p.slot (entry_content (terms_of_name table.name) p visible e)
          action None none = absurd (some-action table.name e is none)
          action (Some a) at =
              let x = table.name in
              let facts = All-contains (PartFacts c x) (parts_of c node) p table.parts there in
              let actions = All-contains (λ (p : PartAt). length x.actions ≡ p.slot.actions) (parts_of c node) p table.listed there in
              let room = All-slice_get (λ (a : ActionName). sum a.params ≤ p.slot.held) x.actions e.action a
              (All-contains (λ (p : PartAt). All (λ (a : ActionName). sum a.params ≤ p.slot.held) x.actions) (parts_of c node) p table.data_fits there) at in
              let lt = slice_get_within x.actions e.action a at in
              let low = few-codes node p there in
              let bits = facts.bits in
              let arguments : args_of x a < 2 ^ sum a.params = subst (λ ws. args_as_one ws e.args < 2 ^ sum a.params) (sym (own-params x e a at)) (args-lt a.params e.args (own-args x e a is at)) in
              let more : 2 ^ sum a.params ≤ 2 ^ p.slot.held = pow_mono room in
              record {
                visible = visible;
                code = p.first + e.action;
                head = refl;
                seen = some;
                visible_small = few;
                code_small = omega (arith, low, lt, actions);
                key = subst (λ b. key_number (terms_of_name x) e < 2 ^ b) bits (tests-lt false x.keys e.tests is.tests);
                mask = subst (λ b. MaskFits b p.slot.memory (tests_as_one (mask_or_value true) x.keys e.tests)) bits
                    (mask-fits x.kind p.slot.memory (sum x.keys) (tests_as_one (mask_or_value true) x.keys e.tests) facts.kind (λ exact. sym (mask-whole x e is exact)) (tests-lt true x.keys e.tests is.tests));
                held = omega (arith, arguments, more);
              }
            where
              args_of : TableName → ActionName → ℕ
              args_of x a = args_as_one (slice_index_or (terms_of_name x).params e.action []) e.args

  -- ---- entries in rooms

  -- an entry of well-formed lists is one of its table
  entry-of : (after : List (List Entry)) (e : Entry) (t : Terms) → AreEntriesOf names after → Contains (all_entries after) e → terms_named names e.table ≡ Some t → IsEntry e.table t e
  entry-of after e t are there terms =
      let r = flat_from (λ es. es) after e there in
      let lt = slice_get_within after r.0 r.1 r.2 in
      let own : list_of after r.0 ≡ r.1 = ap (λ (o : Option (List Entry)). unwrap_or o []) r.2 in
      by r.0 r.1 r.3 (terms_named names r.0) refl (subst (λ es. AreEntriesAt r.0 es (terms_named names r.0)) own (entries-at names after r.0 are lt))
    where
      by : (node : ℕ) (es : List Entry) → Contains es e → (o : Option Terms) → terms_named names node ≡ o → AreEntriesAt node es o → IsEntry e.table t e
      by node es there None known none = absurd (let lt = (subst (λ xs. Contains xs e) none there).1 in omega (arith, lt))
      by node es there (Some u) known all =
          let is = All-contains (IsEntry node u) es e all.each there in
          let same : u ≡ t = same_Some u t (sym known ∙ ap (terms_named names) (sym is.table) ∙ terms) in
          subst (λ n. IsEntry n t e) (sym is.table) (subst (λ (v : Terms). IsEntry node v e) same is)

  -- the slot of a part
  its-slot : (node k place : ℕ) (p : PartAt) (slot : SlotUnit) → Contains (parts_of c node) p → p.stage ≡ k → p.place ≡ place → slot_at c k place ≡ Some slot → p.slot ≡ slot
  its-slot node k place p slot there stage_is place_is at =
      let st = All-contains (PartStands c) (parts_of c node) p (parts-stand c node formed.items (memory_formed c formed)) there in
      same_Some p.slot slot (sym (part-slot c p st) ∙ ap (λ i. slot_at c i p.place) stage_is ∙ ap (slot_at c k) place_is ∙ at)

  -- what a room is given of its entry
  room-fits : (after : List (List Entry)) (k place n seed : ℕ) (q : Placed) (t : Terms) (slot : SlotUnit) (visible : ℕ) → AreEntriesOf names after → Contains (all_entries after) q.entry
      → terms_named names q.entry.table ≡ Some t → Contains (rooms_for c seed q.entry.table (key_number t q.entry)) q.room → is_at k place n q.room ≡ true → slot_at c k place ≡ Some slot
      → 1 ≤ visible → visible < 4 → HasEntry slot (entry_content t q.room.part visible q.entry)
  room-fits after k place n seed q t slot visible are there terms room here at some few =
      let place_is = at_is k place n q.room here in
      let part = room-part c seed q.entry.table (key_number t q.entry) q.room room in
      subst (λ (s : SlotUnit). HasEntry s (entry_content t q.room.part visible q.entry)) (its-slot q.entry.table k place q.room.part slot part place_is.0 place_is.1 at)
      (entry-fits q.entry.table t q.room.part q.entry visible terms part (entry-of after q.entry t are there terms) some few)

  -- ---- a commit that moves no cell

  module _ (cells : RunCells) (before after : List (List Entry)) (placed : List Placed) (are : AreEntriesOf names after) (fit : AreFit c cells)
      (all : All (HasItsRoom c names cells before (all_entries after)) placed) (k place n : ℕ) (slot : SlotUnit) (at : slot_at c k place ≡ Some slot) (lt : n < cells_in slot.memory) where
    abbrev now : Content
    now = cells.content k place n

    abbrev version : ℕ
    version = cells.version + 1

    low : version % 2 < 2
    low = omega arith

    occupied-has : is_occupied now.head ≡ true → HasEntry slot now
    occupied-has occupied = elim (fit k place n slot at lt) [
      | inl none ↦ absurd (false≢true (sym (ap (λ (x : Content). is_occupied x.head) none.0) ∙ occupied))
      | inr h ↦ h
    ]

    -- an entry that stays
    stays-fit : is_occupied now.head ≡ true → HasEntry slot (staying_content version now)
    stays-fit occupied =
        let h = occupied-has occupied in
        let head = entry-head slot now h in
        new-head slot now (with_bit version now.head) h (more-bits (version % 2) now.head low head.0 head.1)

    -- one that comes
    comes-fit : (q : Placed) → HasItsRoom c names cells before (all_entries after) q → is_at k place n q.room ≡ true → HasEntry slot (coming_content names version q)
    comes-fit q put here =
        subst (HasEntry slot) (sym (ap (λ (o : Option Terms). unwrap_or (option_map (λ t. entry_content t q.room.part (2 ^ (version % 2)) q.entry) o) (emptied q.room.part.slot)) put.named))
        (room-fits after k place n cells.seed q put.terms slot (2 ^ (version % 2)) are put.entry put.named put.room here at (one (version % 2) low).0 (one (version % 2) low).1)
      where
        one : (s : ℕ) → s < 2 → (1 ≤ 2 ^ s) × (2 ^ s < 4)
        one zero lt = (omega arith, omega arith)
        one (suc zero) lt = (omega arith, omega arith)
        one (suc (suc s)) lt = absurd (omega (arith, lt))

    placed-fit : (q : Placed) → HasItsRoom c names cells before (all_entries after) q → is_at k place n q.room ≡ true → HasEntry slot (settled_content c names cells before (Some q) k place n)
    placed-fit q put here = by put.kept
      where
        same : content_in cells q.room ≡ cells.content k place n
        same = let t = at_is k place n q.room here in λ i. cells.content (t.0 i) (t.1 i) (t.2 i)

        by : Stays c names cells before q ⊎ Comes c names cells before q → HasEntry slot (settled_content c names cells before (Some q) k place n)
        by (inl kept) =
            let occupied = (and_parts (is_occupied (content_in cells q.room).head) (has_bit cells.version (content_in cells q.room).head) kept.seen).0 in
            subst (λ b. HasEntry slot (cond b (staying_content version now) (coming_content names version q))) (sym kept.stood)
            (stays-fit (sym (ap (λ (x : Content). is_occupied x.head) same) ∙ occupied))
        by (inr comes) = subst (λ b. HasEntry slot (cond b (staying_content version now) (coming_content names version q))) (sym comes.new) (comes-fit q put here)

    -- a cell of no entry
    left-fit : IsFitting slot (settled_content c names cells before None k place n) (settled_number cells None k place n)
    left-fit = elim (fit k place n slot at lt) [
      | inl none ↦ inl (empty none.0 none.1)
      | inr h ↦ goes h (eqb (visible_bits (without_bit version now.head)) 0) refl
    ]
      where
        empty : now ≡ emptied slot → cells.number k place n ≡ 0 → (settled_content c names cells before None k place n ≡ emptied slot) × (settled_number cells None k place n ≡ 0)
        empty is none = (
          ap (λ b. cond b (unwrap_or (option_map (λ s. leaving_content version s now) (slot_at c k place)) now) now) (ap (λ (x : Content). is_occupied x.head) is) ∙ is,
          number (eqb (visible_bits (without_bit version now.head)) 0),
        )
          where
            number : (b : Bool) → cond b 0 (cells.number k place n) ≡ 0
            number true = refl
            number false = none

        goes : HasEntry slot now → (b : Bool) → eqb (visible_bits (without_bit version now.head)) 0 ≡ b
            → IsFitting slot (settled_content c names cells before None k place n) (settled_number cells None k place n)
        goes h b e =
            let head = entry-head slot now h in
            let occupied : is_occupied now.head ≡ true = eq-eqb (now.head % 2) 1 head.0 in
            let content : settled_content c names cells before None k place n ≡ cond b (emptied slot) (record now { head = without_bit version now.head }) =
            ap (λ o. cond o (unwrap_or (option_map (λ s. leaving_content version s now) (slot_at c k place)) now) now) occupied
            ∙ ap (λ (o : Option SlotUnit). unwrap_or (option_map (λ s. leaving_content version s now) o) now) at
            ∙ ap (λ x. cond x (emptied slot) (record now { head = without_bit version now.head })) e in
            let number : settled_number cells None k place n ≡ cond b 0 (cells.number k place n) = ap (λ x. cond x 0 (cells.number k place n)) e in
            by b e content number
          where
            by : (b : Bool) → eqb (visible_bits (without_bit version now.head)) 0 ≡ b
                → settled_content c names cells before None k place n ≡ cond b (emptied slot) (record now { head = without_bit version now.head })
                → settled_number cells None k place n ≡ cond b 0 (cells.number k place n)
                → IsFitting slot (settled_content c names cells before None k place n) (settled_number cells None k place n)
            by true e content number = inl (content, number)
            by false e content number =
                let head = entry-head slot now h in
                inr (subst (HasEntry slot) (sym content)
                (new-head slot now (without_bit version now.head) h (less-bits (version % 2) now.head low head.0 head.1 (eqb-false (visible_bits (without_bit version now.head)) 0 e))))

    settled-fit : IsFitting slot (settled_content c names cells before (placed_at placed k place n) k place n) (settled_number cells (placed_at placed k place n) k place n)
    settled-fit = by (placed_at placed k place n) refl
      where
        by : (o : Option Placed) → placed_at placed k place n ≡ o → IsFitting slot (settled_content c names cells before o k place n) (settled_number cells o k place n)
        by None e = left-fit
        by (Some q) e =
            inr (placed-fit q (All-find (HasItsRoom c names cells before (all_entries after)) (λ (p : Placed). is_at k place n p.room) placed q all e)
            (find-passes (λ (p : Placed). is_at k place n p.room) placed q e))

  -- ---- a commit that fills cells anew

  module _ (cells : RunCells) (after : List (List Entry)) (seed : ℕ) (placed : List Placed) (are : AreEntriesOf names after) (filled_so : AreFilled c names seed after placed)
      (k place n : ℕ) (slot : SlotUnit) (at : slot_at c k place ≡ Some slot) where
    room-there : (q : Placed) (o : Option Terms) → terms_named names q.entry.table ≡ o → IsSomeAnd o (λ t. IsFilled c seed t t.kind (list_of after q.entry.table) q.entry q.room)
        → Contains (all_entries after) q.entry → is_at k place n q.room ≡ true → HasEntry slot (filled_content c names (Some q) k place)
    room-there q None known h there here = absurd h
    room-there q (Some t) known h there here =
        subst (HasEntry slot) (sym (ap (λ (o : Option Terms). unwrap_or (option_map (λ t. entry_content t q.room.part 3 q.entry) o) (emptied q.room.part.slot)) known))
        (room-fits after k place n seed q t slot 3 are there known (room_there c seed t t.kind (list_of after q.entry.table) q.entry q.room h) here at (omega arith) (omega arith))

    filled-fit : IsFitting slot ((filled c names cells placed).content k place n) ((filled c names cells placed).number k place n)
    filled-fit = by (placed_at placed k place n) refl
      where
        by : (o : Option Placed) → placed_at placed k place n ≡ o
            → IsFitting slot (filled_content c names o k place) (unwrap_or (option_map (λ (p : Placed). p.entry.number) o) 0)
        by None e = inl (ap (λ (o : Option SlotUnit). unwrap_or (option_map emptied o) no_content) at, refl)
        by (Some q) e =
            let in_placed = All-find (Contains placed) (λ (p : Placed). is_at k place n p.room) placed q (All-contains_itself placed) e in
            inr (room-there q (terms_named names q.entry.table) refl
            (All-contains (λ (p : Placed). IsSomeAnd (terms_named names p.entry.table) (λ t. IsFilled c seed t t.kind (list_of after p.entry.table) p.entry p.room)) placed q filled_so.rooms in_placed)
            (subst (λ es. Contains es q.entry) filled_so.each (Contains-map (λ (p : Placed). p.entry) placed q in_placed))
            (find-passes (λ (p : Placed). is_at k place n p.room) placed q e))

pub makes_fit : (c : Config) (names : Names) (cells : RunCells) (before after : List (List Entry)) (moved : Bool) (seed : ℕ) (next : RunCells)
    → Formed c → IsWithinLimits c → c.names ≡ Some names → AreEntriesOf names after → AreFit c cells → Makes c names cells before after moved seed next → AreFit c next
makes_fit c names cells before after moved seed next formed limits named are fit (stays placed e) =
    λ k place n slot at lt. settled-fit c names formed limits named cells before after placed are fit (each_has_its_room c names cells before after placed e) k place n slot at lt
makes_fit c names cells before after moved seed next formed limits named are fit (moves new placed e first filled_so) =
    λ k place n slot at lt. filled-fit c names formed limits named cells after new placed are filled_so k place n slot at

-- the next version and seed change no cell
pub version_fit : (c : Config) (cells : RunCells) (seed : ℕ) → AreFit c cells → AreFit c (with_version cells seed)
version_fit c cells seed fit = fit
