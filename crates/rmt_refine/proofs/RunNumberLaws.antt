-- The numbers that a run of packets and commits counts are those of the entries that stood in counted tables.
use Rattle.std.proofs.Common.{◌≡◌, ◌⊎◌, ℕ, zero, suc, ◌+◌, ◌-◌, ◌*◌, ◌%◌, ◌<◌, ◌≤◌, ◌==◌, ◌&&◌, Bool, true, false, not, cond, List, [], ◌∷◌, ◌++◌, append_assoc, fold, map, replicate, Option, Some, None, All, Contains, refl, sym, ap, subst, ◌∙◌, inl, inr, arith}
use Rattle.std.specs.Prelude.{AllPairs, option_map, slice_get, unwrap_or}
use Rattle.std.specs.List.{flat_map, list_any}
use Rattle.std.proofs.lemmas.Bool.{and_from, and_parts, eq-eqb, false≢true, false_from_ne_true, not-true}
use Rattle.std.proofs.lemmas.List.Elements.{All-contains, All-contains_itself, All-weaker, Contains-append_cases, Contains-append_left, Contains-append_right}
use Rattle.std.proofs.lemmas.Option.{same_Some}
use Rattle.rmt_bits.proofs.MemberLaws.{Contains-first, Contains-flat_map, Contains-map, Contains-split, Contains-unmap, from_flat_map, list_any-Contains, any_item}
use Rattle.rmt_bits.proofs.PairLaws.{AllPairs-head, AllPairs-tail}
use Rattle.rmt_ast.specs.declared.entry.Entry.{Entry}
use Rattle.rmt_ast.specs.declared.names.Names.{Names}
use Rattle.rmt_ast.specs.Answers.{counted_numbers, entry_numbers}
use Rattle.rmt_ast.specs.Changes.{Change, Installed, committed}
use Rattle.rmt_ast.specs.EntryLists.{AreEntries}
use Rattle.rmt_ast.specs.Events.{Event, lists_from}
use Rattle.rmt_ast.specs.WellFormed.{IsProgram}
use Rattle.rmt_refine.specs.Types.{Config, Node, Program, SlotUnit, Table}
use Rattle.rmt_config.specs.declared.cell_write.CellWrite.{CellWrite}
use Rattle.rmt_config.specs.Cells.{Content, cells_in, is_occupied, is_seen}
use Rattle.rmt_config.specs.Commits.{AreWrites, IsCell, Makes, Placed, RunState, RunsFrom, all_entries, arrives, behind_commit, behind_packet, commits, ends, filled_content, moves, placed_at, settled_content, settled_number, stays, waits, writes_before}
use Rattle.rmt_config.specs.Limits.{IsWithinLimits}
use Rattle.rmt_config.specs.RunCells.{RunCells, emptied, has_bit, is_changed, no_content, sees, slot_at, with_write, written_content, written_mask}
use Rattle.rmt_config.specs.RunInputs.{Idle, Input, Turns, Writes, numbers_brought}
use Rattle.rmt_refine.specs.declared.map.Map.{Map}
use Rattle.rmt_refine.specs.Cells.{IsSpotOf, IsTold, Spot}
use Rattle.rmt_refine.specs.Carries.{Carries}
use Rattle.rmt_refine.specs.Commits.{AreNamesOf, seen_by}
use Rattle.rmt_refine.specs.Fit.{AreFit, AreFitChanges}
use Rattle.rmt_refine.specs.Outcomes.{entries_at}
use Rattle.rmt_refine.specs.Units.{applied, table_at}
use Rattle.rmt_refine.proofs.CellNumberLaws.{counted_table, part_table}
use Rattle.rmt_refine.proofs.EntryLaws.{entry_listed, listed_in}
use Rattle.rmt_refine.proofs.FilledLaws.{its}
use Rattle.rmt_bits.specs.Bits.{number_of}
use Rattle.rmt_config.specs.LaneForm.{bits_of_lanes}
use Rattle.rmt_refine.specs.View.{View}
use Rattle.rmt_refine.proofs.FitLaws.{FollowOn, commit_follows, keep_entries, stand_first}
use Rattle.rmt_refine.proofs.LeftLaws.{left, not_filled}
use Rattle.rmt_refine.proofs.KeptLaws.{placed_stand}
use Rattle.rmt_refine.proofs.MetLaws.{IsGood, commit_good, packet_good}
use Rattle.rmt_refine.proofs.NumberLaws.{counted_is, from_counted, in_counted, one_list}
use Rattle.rmt_refine.proofs.OneStateLaws.{changing}
use Rattle.rmt_pack.proofs.PartLaws.{and_from as some_from, part_of_slot, then_some}
use Rattle.rmt_refine.proofs.PartLaws.{part_of_spot, slot_of_part, some_and}
use Rattle.rmt_refine.proofs.StandLaws.{StandsIn, placed_spot, spot, seen_from, shown, shown_seen}
use Rattle.rmt_refine.proofs.StartLaws.{SeenEntry, seen_entry}
use Rattle.rmt_refine.proofs.UnseenLaws.{all_others, not_again, where_is}

-- ---- entries of counted tables

-- a number of an entry of a counted table
pub record CountedEntry (p : Program) (lists : List (List Entry)) (n : ℕ) : Type 0 where
  pub entry : Entry
  pub there : Contains (all_entries lists) entry
  pub number_is : entry.number ≡ n
  pub table : Table
  pub table_is : table_at p entry.table ≡ Some table
  pub counted : table.counted ≡ true

module _ (p : Program) where
  pub counted_entry : (lists : List (List Entry)) (n : ℕ) → AreEntries p lists → Contains (counted_numbers p p.nodes lists) n → CountedEntry p lists n
  counted_entry lists n entries there =
      let r = from_counted p p.nodes lists n there in
      let e = Contains-unmap (λ (x : Entry). x.number) r.es n r.there in
      let in_all = listed_in lists r.n r.es e.0 r.list_is e.1 in
      let l = entry_listed p lists e.0 entries in_all in
      let own : Contains (entry_numbers l.list) n = subst (Contains (entry_numbers l.list)) e.2 (Contains-map (λ (x : Entry). x.number) l.list e.0 l.there) in
      let place : r.n ≡ e.0.table = one_list lists r.n e.0.table r.es l.list n entries.numbers_once r.list_is l.list_is r.there own in
      let t = counted_table p r.node.what r.counted in
      let at : table_at p r.n ≡ Some t.0 = ap (λ o. then_apply o) r.node_is ∙ t.1 in
      record { entry = e.0; there = in_all; number_is = e.2; table = t.0; table_is = ap (table_at p) (sym place) ∙ at; counted = t.2 }
    where
      then_apply : Option Node → Option Table
      then_apply None = None
      then_apply (Some node) = applied p node.what

  pub counted_there : (lists : List (List Entry)) (e : Entry) (t : Table) → AreEntries p lists → Contains (all_entries lists) e → table_at p e.table ≡ Some t → t.counted ≡ true
      → Contains (counted_numbers p p.nodes lists) e.number
  counted_there lists e t entries there at counted =
      let l = entry_listed p lists e entries there in
      let node = then_some (λ (x : Node). applied p x.what) (slice_get p.nodes e.table) t at in
      in_counted p p.nodes lists e.table node.0 l.list e.number node.1 l.list_is (counted_is p node.0.what t node.2 ∙ counted) (Contains-map (λ (x : Entry). x.number) l.list e l.there)

-- ---- what changes write

-- what stands in a cell after changes of which one is of the cell
module _ (c : Config) (k place n : ℕ) (slot : SlotUnit) (at : slot_at c k place ≡ Some slot) where
  abbrev pub changed_here : CellWrite → Bool
  changed_here w = is_changed w k place n

  pub record IsWritten (w : CellWrite) (content : Content) (number : ℕ) : Type 0 where
    pub content_is : content ≡ written_content w slot
    pub number_is : number ≡ cond (w.visible == 0) 0 w.number

  made : (cells : RunCells) (w : CellWrite) → changed_here w ≡ true → IsWritten w ((with_write c cells w).content k place n) ((with_write c cells w).number k place n)
  made cells w e = record {
    content_is = ap (λ b. cond b (unwrap_or (option_map (written_content w) (slot_at c k place)) no_content) (cells.content k place n)) e ∙ ap (λ o. unwrap_or (option_map (written_content w) o) no_content) at;
    number_is = ap (λ b. cond b (cond (w.visible == 0) 0 w.number) (cells.number k place n)) e;
  }

  abbrev pub written_after : (cells : RunCells) → List CellWrite → CellWrite → Type 0
  written_after cells ws w = IsWritten w ((fold (with_write c) cells ws).content k place n) ((fold (with_write c) cells ws).number k place n)

  pub written : (cells : RunCells) (ws : List CellWrite) (w : CellWrite) → AllPairs (λ a b. writes_before a b ≡ true) ws → Contains ws w → changed_here w ≡ true → written_after cells ws w
  written cells [] w order there e = absurd (let lt = there.1 in omega (arith, lt))
  written cells (x ∷ ws) w order there e = elim (Contains-split x ws w there) [
    | inl same ↦
        let own : changed_here x ≡ true = ap changed_here same ∙ e in
        let later = All-weaker (λ y. writes_before x y ≡ true) (λ y. changed_here y ≡ false) (λ y. not_again c k place n x y own) ws (AllPairs-head (λ a b. writes_before a b ≡ true) x ws order) in
        let kept = all_others c k place n (with_write c cells x) ws later in
        let first = made cells x own in
        subst (written_after cells (x ∷ ws)) same
        (record { content_is = ap (λ (y : Content × ℕ). y.0) kept ∙ first.content_is; number_is = ap (λ (y : Content × ℕ). y.1) kept ∙ first.number_is })
    | inr later ↦ written (with_write c cells x) ws w (AllPairs-tail (λ a b. writes_before a b ≡ true) x ws order) later e
  ]

  pub none_changed : (ws : List CellWrite) → list_any changed_here ws ≡ false → All (λ w. changed_here w ≡ false) ws
  none_changed ws e =
      All-weaker (Contains ws) (λ w. changed_here w ≡ false)
      (λ w there. false_from_ne_true (changed_here w) (λ h. false≢true (sym e ∙ list_any-Contains changed_here ws w there h)))
      ws (All-contains_itself ws)

-- a change that empties no cell has a visible bit
seen_write : (w : CellWrite) (slot : SlotUnit) → is_occupied (written_content w slot).head ≡ true → (w.visible == 0) ≡ false
seen_write w slot h = by (w.visible == 0) refl h
  where
    full : Content
    full = record { head = 1 + 2 * w.visible + 8 * w.code; key = number_of w.key; mask = written_mask (bits_of_lanes slot.keys) slot.memory w.mask; held = number_of w.held }

    by : (b : Bool) → (w.visible == 0) ≡ b → is_occupied (cond b (emptied slot) full).head ≡ true → (w.visible == 0) ≡ false
    by false e g = e
    by true e g = absurd (false≢true g)

full_write : (w : CellWrite) (slot : SlotUnit) → (w.visible == 0) ≡ false → is_occupied (written_content w slot).head ≡ true
full_write w slot e =
    ap (λ b. is_occupied (cond b (emptied slot) (record { head = 1 + 2 * w.visible + 8 * w.code; key = number_of w.key; mask = written_mask (bits_of_lanes slot.keys) slot.memory w.mask; held = number_of w.held })).head) e
    ∙ eq-eqb ((1 + 2 * w.visible + 8 * w.code) % 2) 1 (omega arith)

-- the numbers that changes bring
brought_by : (c : Config) (w : CellWrite) (slot : SlotUnit) → slot_at c w.stage w.unit ≡ Some slot → numbers_brought c (Writes w) ≡ cond (not (w.visible == 0) && slot.counted) (w.number ∷ []) []
brought_by c w slot at = ap (λ o. cond (not (w.visible == 0) && unwrap_or (option_map (λ (s : SlotUnit). s.counted) o) false) (w.number ∷ []) []) at

commit_brought : (c : Config) (n : ℕ) (ws : List CellWrite) (seed : ℕ) (inputs : List Input)
    → flat_map (numbers_brought c) (changing n ws ++ Turns seed ∷ inputs) ≡ flat_map (numbers_brought c) (map Writes ws) ++ flat_map (numbers_brought c) inputs
commit_brought c zero [] seed inputs = refl
commit_brought c zero (w ∷ ws) seed inputs =
    ap (λ ns. numbers_brought c (Writes w) ++ ns) (commit_brought c zero ws seed inputs)
    ∙ sym (append_assoc (numbers_brought c (Writes w)) (flat_map (numbers_brought c) (map Writes ws)) (flat_map (numbers_brought c) inputs))
commit_brought c (suc n) ws seed inputs = commit_brought c n ws seed inputs

idle_brought : (c : Config) (n : ℕ) → flat_map (numbers_brought c) (replicate n Idle) ≡ []
idle_brought c zero = refl
idle_brought c (suc n) = idle_brought c n

-- ---- one commit

module _ (p : Program) (m : Map) (c : Config) (names : Names) (program : IsProgram p) (limits : IsWithinLimits c) (named : c.names ≡ Some names) (naming : AreNamesOf p names)
    (first : List (List Entry)) (carries : Carries p first m c) where
  module _ (r : RunState) (changes : List Change) (good : IsGood p c r) (fit : AreFitChanges p r.entries changes) where
    abbrev after : Installed
    after = committed r.entries changes

    follows : FollowOn p r.entries after
    follows = commit_follows p program r.entries changes good.entries good.below fit

    abbrev StoodCounted : ℕ → Type 0
    StoodCounted n = Contains (counted_numbers p p.nodes r.entries.lists) n ⊎ Contains (counted_numbers p p.nodes after.lists) n

    -- a cell of a counted slot whose entry is seen in a view has the number of an entry of a counted table
    seen_counted : (lists : List (List Entry)) (k place n : ℕ) (slot : SlotUnit) → slot_at c k place ≡ Some slot → slot.counted ≡ true → AreEntries p lists → (number : ℕ)
        → SeenEntry lists slot.node number → Contains (counted_numbers p p.nodes lists) number
    seen_counted lists k place n slot at counted entries number e =
        let part = part_of_slot c slot.node k place slot at refl in
        let t = part_table p m c slot.node k place part.0 slot carries.units part.1 in
        let in_all = listed_in lists slot.node (entries_at lists slot.node) e.entry e.list_is e.there in
        let l = entry_listed p lists e.entry entries in_all in
        subst (Contains (counted_numbers p p.nodes lists)) (sym e.number_is)
        (in_counted p p.nodes lists slot.node t.node (entries_at lists slot.node) e.entry.number t.node_is e.list_is
        (counted_is p t.node.what t.table t.applied_is ∙ sym t.carried.counted ∙ counted) (Contains-map (λ (x : Entry). x.number) (entries_at lists slot.node) e.entry e.there))

    -- an entry that stands in a counted slot is one of a counted table
    room_counted : (v : View) (q : Placed) (k place n : ℕ) (slot : SlotUnit) → slot_at c k place ≡ Some slot → slot.counted ≡ true → ◌≡◌ {A = Spot} (spot q) (record { stage = k; place = place; cell = n }) → StandsIn p c v after.lists q
        → Contains (counted_numbers p p.nodes after.lists) q.entry.number
    room_counted v q k place n slot at counted here s =
        let part = s.room.part.part in
        let own : slot_at c k place ≡ Some q.room.part.slot = ap (λ (x : Spot). slot_at c x.stage x.place) (sym here) ∙ slot_of_part c q.entry.table q.room.part.stage q.room.part.place s.room.part.stage q.room.part.slot part in
        let same : slot ≡ q.room.part.slot = same_Some slot q.room.part.slot (sym at ∙ own) in
        let t = part_table p m c q.entry.table q.room.part.stage q.room.part.place s.room.part.stage q.room.part.slot carries.units part in
        counted_there p after.lists q.entry t.table follows.entries s.entry t.table_is (sym t.carried.counted ∙ ap (λ (x : SlotUnit). x.counted) (sym same) ∙ counted)

    -- what stands in a cell of a counted slot after the commit is counted before it or after it
    module _ (k place n : ℕ) (slot : SlotUnit) (at : slot_at c k place ≡ Some slot) (counted : slot.counted ≡ true) (lt : n < cells_in slot.memory) where
      abbrev content : Content
      content = r.cells.content k place n

      -- a cell that keeps a visible bit without the next version's was seen
      was_seen : is_occupied content.head ≡ true → has_bit r.cells.version content.head ≡ true → Contains (counted_numbers p p.nodes r.entries.lists) (r.cells.number k place n)
      was_seen occupied bit =
          let seen : sees true r.cells.version content.head ≡ true = and_from (is_occupied content.head) (has_bit r.cells.version content.head) occupied bit in
          let part = part_of_slot c slot.node k place slot at refl in
          let shown_there : is_seen (shown r.cells.version content).head ≡ true = ap (λ (x : Content). is_seen x.head) (shown_seen r.cells.version content seen) ∙ occupied in
          seen_counted r.entries.lists k place n slot at counted good.entries (r.cells.number k place n)
          (seen_entry p m c (seen_by r.cells.version r.cells) good.told r.entries.lists slot.node k place n part.0 slot carries.units good.entries good.cells part.1 lt shown_there)

      settled_counted : (placed : List Placed) → ((q : Placed) → Contains placed q → (v : View) × StandsIn p c v after.lists q) → (o : Option Placed) → placed_at placed k place n ≡ o
          → is_occupied (settled_content c names r.cells r.entries.lists o k place n).head ≡ true → StoodCounted (settled_number r.cells o k place n)
      settled_counted placed stand (Some q) e h =
          let f = placed_spot placed (record { stage = k; place = place; cell = n }) q e in
          let s = stand q f.0 in
          inr (room_counted s.0 q k place n slot at counted f.1 s.1)
      settled_counted placed stand None e h =
          let own = left c names r.cells r.entries.lists k place n slot at h in
          subst StoodCounted (sym own.number) (inl (was_seen own.was own.bit))

      filled_counted : (placed : List Placed) → ((q : Placed) → Contains placed q → (v : View) × StandsIn p c v after.lists q) → (o : Option Placed) → placed_at placed k place n ≡ o
          → is_occupied (filled_content c names o k place).head ≡ true → StoodCounted (unwrap_or (option_map (λ (q : Placed). q.entry.number) o) 0)
      filled_counted placed stand (Some q) e h =
          let f = placed_spot placed (record { stage = k; place = place; cell = n }) q e in
          let s = stand q f.0 in
          inr (room_counted s.0 q k place n slot at counted f.1 s.1)
      filled_counted placed stand None e h = absurd (not_filled c names k place h)

      made_counted : (moved : Bool) (seed : ℕ) (next : RunCells) → Makes c names r.cells r.entries.lists after.lists moved seed next → is_occupied (next.content k place n).head ≡ true → StoodCounted (next.number k place n)
      made_counted moved seed next (stays placed made) h =
          let keep = keep_entries p program r.entries changes good.entries good.below fit in
          settled_counted placed
          (λ q there. (_, placed_stand p m c names r.cells r.entries.lists after.lists good.told placed limits naming carries.units good.entries follows.entries keep good.cells made q there))
          (placed_at placed k place n) refl h
      made_counted moved seed next (moves s placed none first_seed are) h =
          filled_counted placed (λ q there. (_, its p m c names r.cells after.lists s placed limits naming carries.units follows.entries are q there)) (placed_at placed k place n) refl h

    -- ---- the changes of a commit

    module _ (moved : Bool) (seed : ℕ) (next : RunCells) (ws : List CellWrite) (makes : Makes c names r.cells r.entries.lists after.lists moved seed next) (are : AreWrites c r.cells next ws) where
      -- each number that they bring is counted before the commit or after it
      write_counted : (w : CellWrite) → Contains ws w → (n : ℕ) → Contains (numbers_brought c (Writes w)) n → StoodCounted n
      write_counted w there n brought =
          let cell = All-contains (λ (x : CellWrite). IsCell c x.stage x.unit x.cell) ws w are.cells_are there in
          let slot = some_and (slot_at c w.stage w.unit) (λ s. w.cell < cells_in s.memory) cell in
          by slot.0 slot.1 slot.2 cell (not (w.visible == 0) && slot.0.counted) refl (subst (λ ns. Contains ns n) (brought_by c w slot.0 slot.1) brought)
        where
          here : is_changed w w.stage w.unit w.cell ≡ true
          here = and_from ((w.stage == w.stage) && (w.unit == w.unit)) (w.cell == w.cell) (and_from (w.stage == w.stage) (w.unit == w.unit) (eq-eqb w.stage w.stage refl) (eq-eqb w.unit w.unit refl)) (eq-eqb w.cell w.cell refl)

          by : (slot : SlotUnit) → slot_at c w.stage w.unit ≡ Some slot → w.cell < cells_in slot.memory → IsCell c w.stage w.unit w.cell → (b : Bool) → (not (w.visible == 0) && slot.counted) ≡ b → Contains (cond b (w.number ∷ []) []) n → StoodCounted n
          by slot at lt cell false e h = absurd (let none = h.1 in omega (arith, none))
          by slot at lt cell true e h =
              let parts = and_parts (not (w.visible == 0)) slot.counted e in
              let full = not-true (w.visible == 0) parts.0 in
              let made = written c w.stage w.unit w.cell slot at r.cells ws w are.in_order there here in
              let content : next.content w.stage w.unit w.cell ≡ written_content w slot = sym (are.content w.stage w.unit w.cell cell) ∙ made.content_is in
              let number : next.number w.stage w.unit w.cell ≡ w.number = sym (are.number w.stage w.unit w.cell cell) ∙ made.number_is ∙ ap (λ b. cond b 0 w.number) full in
              let occupied : is_occupied (next.content w.stage w.unit w.cell).head ≡ true = ap (λ (x : Content). is_occupied x.head) content ∙ full_write w slot full in
              let same : w.number ≡ n = elim (Contains-split w.number [] n h) [
                | inl is ↦ is
                | inr later ↦ absurd (let none = later.1 in omega (arith, none))
              ] in
              subst StoodCounted (number ∙ same) (made_counted w.stage w.unit w.cell slot at parts.1 lt moved seed next makes occupied)

      writes_counted : (n : ℕ) → Contains (flat_map (numbers_brought c) (map Writes ws)) n → StoodCounted n
      writes_counted n there =
          let x = from_flat_map (numbers_brought c) (map Writes ws) n there in
          let w = Contains-unmap Writes ws x.0 x.1 in
          write_counted w.0 w.1 n (subst (λ i. Contains (numbers_brought c i) n) (sym w.2) x.2)

      -- each number that is new is brought
      new_brought : (n : ℕ) → Contains (counted_numbers p p.nodes after.lists) n → Contains (counted_numbers p p.nodes r.entries.lists) n ⊎ Contains (flat_map (numbers_brought c) (map Writes ws)) n
      new_brought n there =
          let e = counted_entry p after.lists n follows.entries there in
          elim (All-contains (λ (x : Entry). Contains (all_entries r.entries.lists) x ⊎ (r.entries.next ≤ x.number)) (all_entries after.lists) e.entry follows.each e.there) [
            | inl stood ↦ inl (subst (Contains (counted_numbers p p.nodes r.entries.lists)) e.number_is (counted_there p r.entries.lists e.entry e.table good.entries stood e.table_is e.counted))
            | inr new ↦ inr (subst (Contains (flat_map (numbers_brought c) (map Writes ws))) e.number_is (entry_brought e.entry e.table e.there e.table_is e.counted new))
          ]
        where
          later : IsGood p c (behind_commit r changes moved seed ws next)
          later = commit_good p m c names program limits named naming first carries r changes good fit moved seed next ws makes

          at_cell : (e : Entry) (k place n : ℕ) (slot : SlotUnit) → slot_at c k place ≡ Some slot → slot.counted ≡ true → IsCell c k place n → r.entries.next ≤ e.number → next.number k place n ≡ e.number
              → is_occupied (next.content k place n).head ≡ true → (b : Bool) → list_any (λ w. is_changed w k place n) ws ≡ b → Contains (flat_map (numbers_brought c) (map Writes ws)) e.number
          at_cell e k place n slot at counted cell new number occupied false none =
              let kept = all_others c k place n r.cells ws (none_changed c k place n slot at ws none) in
              let content : next.content k place n ≡ r.cells.content k place n = sym (are.content k place n cell) ∙ ap (λ (x : Content × ℕ). x.0) kept in
              let numbers : next.number k place n ≡ r.cells.number k place n = sym (are.number k place n cell) ∙ ap (λ (x : Content × ℕ). x.1) kept in
              let lt = good.used k place n cell (sym (ap (λ (x : Content). is_occupied x.head) content) ∙ occupied) in
              absurd (omega (arith, lt, new, number, numbers))
          at_cell e k place n slot at counted cell new number occupied true some =
              let w = any_item (λ x. is_changed x k place n) ws some in
              let made = written c k place n slot at r.cells ws w.0 are.in_order w.1 w.2 in
              let content : next.content k place n ≡ written_content w.0 slot = sym (are.content k place n cell) ∙ made.content_is in
              let full = seen_write w.0 slot (sym (ap (λ (x : Content). is_occupied x.head) content) ∙ occupied) in
              let is : w.0.number ≡ e.number = sym (ap (λ b. cond b 0 w.0.number) full) ∙ sym made.number_is ∙ are.number k place n cell ∙ number in
              let spot = where_is c k place n w.0 w.2 in
              let own : slot_at c w.0.stage w.0.unit ≡ Some slot = (λ i. slot_at c (spot.0 i) (spot.1 i)) ∙ at in
              let brings : numbers_brought c (Writes w.0) ≡ w.0.number ∷ [] =
              brought_by c w.0 slot own ∙ ap (λ b. cond (not b && slot.counted) (w.0.number ∷ []) []) full ∙ ap (λ b. cond b (w.0.number ∷ []) []) counted in
              Contains-flat_map (numbers_brought c) (map Writes ws) (Writes w.0) e.number (Contains-map Writes ws w.0 w.1)
              (subst (λ ns. Contains ns e.number) (sym brings) (subst (Contains (w.0.number ∷ [])) is (Contains-first w.0.number [])))

          entry_brought : (e : Entry) (t : Table) → Contains (all_entries after.lists) e → table_at p e.table ≡ Some t → t.counted ≡ true → r.entries.next ≤ e.number → Contains (flat_map (numbers_brought c) (map Writes ws)) e.number
          entry_brought e t in_all table counted new =
              let l = entry_listed p after.lists e follows.entries in_all in
              let own = later.cells.tables e.table l.table l.list l.table_is l.list_is in
              let at = All-contains (λ (x : Entry). (s : Spot) × IsSpotOf c e.table s × IsTold later.told x s) l.list e own.each l.there in
              let part = part_of_spot c e.table at.0 at.1 in
              let holds = own.holds e at.0 part.0 l.there at.1 at.2 part.2.stage_is in
              let v = r.cells.version + 1 in
              let x = next.content at.0.stage at.0.place at.0.cell in
              let slot_is = slot_of_part c e.table at.0.stage at.0.place part.0 part.1 part.2 in
              let pt = part_table p m c e.table at.0.stage at.0.place part.0 part.1 carries.units part.2 in
              let same : pt.table ≡ t = same_Some pt.table t (sym pt.table_is ∙ table) in
              let slot_counted : part.1.counted ≡ true = pt.carried.counted ∙ ap (λ (y : Table). y.counted) same ∙ counted in
              let cell : IsCell c at.0.stage at.0.place at.0.cell = some_from (slot_at c at.0.stage at.0.place) (λ s. at.0.cell < cells_in s.memory) part.1 slot_is part.3 in
              let seen = seen_from (behind_commit r changes moved seed ws next).cells.version x holds.seen in
              at_cell e at.0.stage at.0.place at.0.cell part.1 slot_is slot_counted cell new holds.number_is (and_parts (is_occupied x.head) (has_bit (behind_commit r changes moved seed ws next).cells.version x.head) seen).0
              (list_any (λ w. is_changed w at.0.stage at.0.place at.0.cell) ws) refl

  -- ---- all events

  abbrev ever : RunState → List Event → List ℕ
  ever r events = flat_map (counted_numbers p p.nodes) (lists_from r.entries events)

  now_ever : (r : RunState) (events : List Event) (n : ℕ) → Contains (counted_numbers p p.nodes r.entries.lists) n → Contains (ever r events) n
  now_ever r events n there = Contains-flat_map (counted_numbers p p.nodes) (lists_from r.entries events) r.entries.lists n (stand_first r.entries events) there

  -- what is brought is counted
  pub brought_ever : (r : RunState) (events : List Event) (inputs : List Input) → RunsFrom c names r events inputs → IsGood p c r → AreFit p r.entries events
      → (n : ℕ) → Contains (flat_map (numbers_brought c) inputs) n → Contains (ever r events) n
  brought_ever r events inputs (ends s) good fit n there = absurd (let none = (subst (λ ns. Contains ns n) (idle_brought c (s.all_gone - s.cycle)) there).1 in omega (arith, none))
  brought_ever r events inputs (arrives s packet es is h) good fit n there = brought_ever (behind_packet c s) es is h (packet_good p m c names program limits named naming first carries s good) fit.1 n there
  brought_ever r events inputs (commits s changes es is moved seed next ws makes are h) good fit n there =
      let next_state = behind_commit s changes moved seed ws next in
      let counted = counted_numbers p p.nodes s.entries.lists in
      let rest = flat_map (counted_numbers p p.nodes) (lists_from (committed s.entries changes) es) in
      elim (Contains-append_cases (flat_map (numbers_brought c) (map Writes ws)) (flat_map (numbers_brought c) is) n (subst (λ ns. Contains ns n) (commit_brought c (waits s moved) ws seed is) there)) [
        | inl here ↦ elim (writes_counted s changes good fit.0 moved seed next ws makes are n here) [
          | inl before ↦ Contains-append_left counted rest n before
          | inr after ↦ Contains-append_right counted rest n (now_ever next_state es n after)
        ]
        | inr later ↦ Contains-append_right counted rest n (brought_ever next_state es is h (commit_good p m c names program limits named naming first carries s changes good fit.0 moved seed next ws makes) fit.1 n later)
      ]

  -- what is counted was there or is brought
  pub ever_brought : (r : RunState) (events : List Event) (inputs : List Input) → RunsFrom c names r events inputs → IsGood p c r → AreFit p r.entries events
      → (n : ℕ) → Contains (ever r events) n → Contains (counted_numbers p p.nodes r.entries.lists) n ⊎ Contains (flat_map (numbers_brought c) inputs) n
  ever_brought r events inputs (ends s) good fit n there = elim (Contains-append_cases (counted_numbers p p.nodes s.entries.lists) [] n there) [
    | inl here ↦ inl here
    | inr later ↦ absurd (let none = later.1 in omega (arith, none))
  ]
  ever_brought r events inputs (arrives s packet es is h) good fit n there = ever_brought (behind_packet c s) es is h (packet_good p m c names program limits named naming first carries s good) fit.1 n there
  ever_brought r events inputs (commits s changes es is moved seed next ws makes are h) good fit n there =
      let next_state = behind_commit s changes moved seed ws next in
      let brought = flat_map (numbers_brought c) (map Writes ws) in
      let rest = flat_map (numbers_brought c) is in
      let whole = commit_brought c (waits s moved) ws seed is in
      elim (Contains-append_cases (counted_numbers p p.nodes s.entries.lists) (ever next_state es) n there) [
        | inl here ↦ inl here
        | inr later ↦ elim (ever_brought next_state es is h (commit_good p m c names program limits named naming first carries s changes good fit.0 moved seed next ws makes) fit.1 n later) [
          | inl after ↦ elim (new_brought s changes good fit.0 moved seed next ws makes are n after) [
            | inl before ↦ inl before
            | inr new ↦ inr (subst (λ ns. Contains ns n) (sym whole) (Contains-append_left brought rest n new))
          ]
          | inr last ↦ inr (subst (λ ns. Contains ns n) (sym whole) (Contains-append_right brought rest n last))
        ]
      ]
