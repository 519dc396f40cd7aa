-- A commit that moves no cell changes at most the cells of the entries that it and the commit before it added or removed.
use Rattle.std.proofs.Common.{◌≡◌, ◌≢◌, ◌⊎◌, ℕ, ◌+◌, ◌*◌, ◌<◌, ◌≤◌, ◌==◌, Bool, true, false, not, cond, List, [], ◌∷◌, ◌++◌, length, map, Option, Some, None, All, Contains, refl, sym, ap, subst, ◌∙◌, inl, inr, arith}
use Rattle.std.specs.Prelude.{AllPairs, IfSome, option_map, unwrap_or, ⊤}
use Rattle.std.proofs.lemmas.Bool.{and_from, and_parts, both_ways, eq-eqb, eqb-true, false≢true, false_from_ne_true}
use Rattle.std.proofs.lemmas.List.{length-append, length-map}
use Rattle.std.proofs.lemmas.List.Elements.{All-contains, All-contains_itself, All-head, All-map, All-tail, All-weaker, Contains-append_left, Contains-append_right}
use Rattle.std.proofs.lemmas.Option.{none-some}
use Rattle.rmt_bits.proofs.AllLaws.{All-slice_get}
use Rattle.rmt_bits.proofs.ListLaws.{find-none}
use Rattle.rmt_bits.proofs.MemberLaws.{Contains-filter, Contains-first, Contains-later, Contains-map, Contains-split, Contains-unmap, list_any-Contains, any_item}
use Rattle.rmt_bits.proofs.PairLaws.{AllPairs-head, AllPairs-map, AllPairs-tail}
use Rattle.rmt_ast.specs.declared.entry.Entry.{Entry}
use Rattle.rmt_ast.specs.declared.names.Names.{Names}
use Rattle.rmt_ast.specs.Changes.{Change, Installed, committed}
use Rattle.rmt_ast.specs.EntryLists.{AreEntries, IsEntry, Terms, terms_of}
use Rattle.rmt_ast.specs.WellFormed.{IsProgram}
use Rattle.rmt_ast.specs.Answers.{entry_numbers}
use Rattle.rmt_refine.specs.Types.{CellNumber, Config, Program, SlotUnit, Stage}
use Rattle.rmt_config.specs.declared.cell_write.CellWrite.{CellWrite}
use Rattle.rmt_config.specs.CellForm.{Coded, SlotHolds, StageHolds}
use Rattle.rmt_config.specs.Cells.{Content, cells_in, content_of, is_occupied, is_seen, number_of_cell, visible_bits}
use Rattle.rmt_config.specs.Commits.{AreFilled, AreWrites, IsCell, Makes, Placed, RunState, all_entries, behind_commit, come, coming_content, filled, filled_content, is_numbered_in, leaving_content, moves, placed_after, placed_at, settled, settled_content, settled_number, stays, staying_content, without_bit, writes_before}
use Rattle.rmt_config.specs.Form.{visible_with}
use Rattle.rmt_config.specs.Limits.{IsWithinLimits}
use Rattle.rmt_config.specs.Rooms.{content_in, entry_content}
use Rattle.rmt_config.specs.RunCells.{RunCells, emptied, has_bit, own_cells, sees, slot_at}
use Rattle.rmt_config.proofs.RunCellLaws.{both_show}
use Rattle.rmt_config.proofs.CommitLaws.{writes_apart}
use Rattle.rmt_refine.specs.declared.map.Map.{Map}
use Rattle.rmt_refine.specs.View.{own_content}
use Rattle.rmt_refine.specs.Cells.{IsSpotOf, IsTold, Spot}
use Rattle.rmt_refine.specs.Carries.{Carries}
use Rattle.rmt_refine.specs.Commits.{AreNamesOf, KeepEntries, seen_by}
use Rattle.rmt_refine.specs.Fit.{AreFitChanges}
use Rattle.rmt_refine.specs.Named.{NamesCarried}
use Rattle.rmt_refine.specs.Outcomes.{entries_at}
use Rattle.rmt_refine.specs.ShortCommits.{CommitsAreShort, IsReached, arrived, begins, touched, turned}
use Rattle.rmt_refine.proofs.CellNumberLaws.{cells_listed, coded_slot, part_table}
use Rattle.rmt_pack.proofs.EntryLaws.{is_numbered}
use Rattle.rmt_refine.proofs.EntryLaws.{listed_in, one_entry}
use Rattle.rmt_refine.proofs.FilledLaws.{fills, full_occupied, differ as filled_differ}
use Rattle.rmt_refine.proofs.FitLaws.{FollowOn, commit_follows, keep_entries}
use Rattle.rmt_refine.proofs.KeptLaws.{at_its_cell, each_is_placed, its_cell, placed_differ, placed_kept, placed_occupied, placed_stand}
use Rattle.rmt_refine.proofs.MetLaws.{IsGood, commit_good, packet_good, start_good}
use Rattle.rmt_refine.proofs.NamedLaws.{names_tell}
use Rattle.rmt_refine.proofs.OutcomeLaws.{list_at}
use Rattle.rmt_pack.proofs.PartLaws.{IsPart, part_of_slot}
use Rattle.rmt_refine.proofs.PartLaws.{some_and, spot_of_part}
use Rattle.rmt_pack.proofs.PlacedLaws.{Comes, Stays}
use Rattle.rmt_refine.proofs.RoomOrderLaws.{pairs_with}
use Rattle.rmt_refine.proofs.StandLaws.{placed_spot, same_placed, shown, shown_seen, spot}
use Rattle.rmt_refine.proofs.StartLaws.{cell_visible, seen_entry}
use Rattle.rmt_refine.proofs.TheLaw.{table_entries}
use Rattle.rmt_refine.proofs.ViewLaws.{content_is, number_is}
use Rattle.rmt_refine.proofs.VisibleBitLaws.{both_set, clear-alike, none_set}
use Rattle.rmt_refine.proofs.LeftLaws.{IsLeft, left, not_filled}

-- ---- few numbers

-- a list without one of its items
abbrev without_one : ℕ → List ℕ → List ℕ
without_one x [] = []
without_one x (y ∷ ys) = cond (y == x) ys (y ∷ without_one x ys)

one_fewer : (x : ℕ) (ys : List ℕ) → Contains ys x → length ys ≡ length (without_one x ys) + 1
one_fewer x [] there = absurd (let lt = there.1 in omega (arith, lt))
one_fewer x (y ∷ ys) there = by (y == x) refl (one_fewer x ys)
  where
    by : (b : Bool) → (y == x) ≡ b → (Contains ys x → length ys ≡ length (without_one x ys) + 1) → length (y ∷ ys) ≡ length (cond b ys (y ∷ without_one x ys)) + 1
    by true e rest = omega arith
    by false e rest = elim (Contains-split y ys x there) [
      | inl same ↦ absurd (both_ways (y == x) e (eq-eqb y x same))
      | inr later ↦ let long = rest later in omega (arith, long)
    ]

still_there : (x z : ℕ) (ys : List ℕ) → x ≢ z → Contains ys z → Contains (without_one x ys) z
still_there x z [] other there = there
still_there x z (y ∷ ys) other there = by (y == x) refl (still_there x z ys other)
  where
    by : (b : Bool) → (y == x) ≡ b → (Contains ys z → Contains (without_one x ys) z) → Contains (cond b ys (y ∷ without_one x ys)) z
    by true e rest = elim (Contains-split y ys z there) [
      | inl same ↦ absurd (other (sym (eqb-true y x e) ∙ same))
      | inr later ↦ later
    ]
    by false e rest = elim (Contains-split y ys z there) [
      | inl same ↦ subst (Contains (y ∷ without_one x ys)) same (Contains-first y (without_one x ys))
      | inr later ↦ Contains-later y (without_one x ys) z (rest later)
    ]

-- numbers of which none stands twice are at most as many as those that they are among
pub at_most : (xs ys : List ℕ) → AllPairs ◌≢◌ xs → All (Contains ys) xs → length xs ≤ length ys
at_most [] ys apart all = omega arith
at_most (x ∷ xs) ys apart all =
    let rest = at_most xs (without_one x ys) (AllPairs-tail ◌≢◌ x xs apart)
    (All-weaker (Contains xs) (Contains (without_one x ys))
    (λ z there. still_there x z ys (All-contains (λ w. x ≢ w) xs z (AllPairs-head ◌≢◌ x xs apart) there) (All-contains (Contains ys) xs z (All-tail (Contains ys) x xs all) there))
    xs (All-contains_itself xs)) in
    omega (arith, one_fewer x ys (All-head (Contains ys) x xs all), rest)

-- ---- cells between commits

abbrev content_at : RunCells → Spot → Content
content_at cells s = cells.content s.stage s.place s.cell

abbrev number_at : RunCells → Spot → ℕ
number_at cells s = cells.number s.stage s.place s.cell

abbrev IsCellAt : Config → Spot → Type 0
IsCellAt c s = IsCell c s.stage s.place s.cell

-- An occupied cell has both visible bits, or is that of an entry that the last commit touched; no two have one number, and an empty cell has none.
record IsTidy (c : Config) (recent : List Entry) (cells : RunCells) : Type 0 where
  full : (s : Spot) → IsCellAt c s → is_occupied (content_at cells s).head ≡ true → (visible_bits (content_at cells s).head ≡ 3) ⊎ Contains (entry_numbers recent) (number_at cells s)
  apart : (a b : Spot) → IsCellAt c a → IsCellAt c b → is_occupied (content_at cells a).head ≡ true → is_occupied (content_at cells b).head ≡ true → number_at cells a ≡ number_at cells b → a ≡ b
  empty : (s : Spot) → IsCellAt c s → is_occupied (content_at cells s).head ≡ false → number_at cells s ≡ 0

full_bits : (i : ℕ) → visible_bits (1 + 2 * 3 + 8 * i) ≡ 3
full_bits i = omega arith

module _ (p : Program) (m : Map) (c : Config) (names : Names) (program : IsProgram p) (limits : IsWithinLimits c) (named : c.names ≡ Some names) (naming : AreNamesOf p names)
    (first : List (List Entry)) (carries : Carries p first m c) where
  -- ---- a commit

  module _ (recent : List Entry) (r : RunState) (changes : List Change) (good : IsGood p c r) (fit : AreFitChanges p r.entries changes) (tidy : IsTidy c recent r.cells) where
    abbrev after : Installed
    after = committed r.entries changes

    abbrev before_all : List Entry
    before_all = all_entries r.entries.lists

    abbrev after_all : List Entry
    after_all = all_entries after.lists

    abbrev touching : List Entry
    touching = touched r.entries.lists after.lists

    follows : FollowOn p r.entries after
    follows = commit_follows p program r.entries changes good.entries good.below fit

    keep : KeepEntries r.entries.lists after.lists
    keep = keep_entries p program r.entries changes good.entries good.below fit

    -- ---- where no cell moves

    module _ (placed : List Placed) (made : placed_after c names r.cells r.entries.lists after.lists ≡ Some placed) where
      abbrev v : ℕ
      v = r.cells.version

      abbrev next : RunCells
      next = settled c names r.cells r.entries.lists placed

      abbrev at : Spot → Option Placed
      at s = placed_at placed s.stage s.place s.cell

      kept : (q : Placed) → Contains placed q → Stays c names r.cells r.entries.lists q ⊎ Comes c names r.cells r.entries.lists q
      kept = placed_kept p m c names r.cells r.entries.lists after.lists good.told placed limits naming carries.units good.entries follows.entries keep good.cells made

      cell_of : (q : Placed) → Contains placed q → IsCellAt c (spot q)
      cell_of = its_cell p m c names r.cells r.entries.lists after.lists good.told placed limits naming carries.units good.entries follows.entries keep good.cells made

      at_own : (q : Placed) → Contains placed q → at (spot q) ≡ Some q
      at_own = at_its_cell p m c names r.cells r.entries.lists after.lists good.told placed limits naming carries.units good.entries follows.entries keep good.cells made

      differ : AllPairs (λ (a b : Placed). a.entry.number ≢ b.entry.number) placed
      differ = placed_differ p m c names r.cells r.entries.lists after.lists good.told placed limits naming carries.units good.entries follows.entries keep good.cells made

      occupied : (q : Placed) → Contains placed q → is_occupied (content_at next (spot q)).head ≡ true
      occupied = placed_occupied p m c names r.cells r.entries.lists after.lists good.told placed limits naming carries.units good.entries follows.entries keep good.cells made

      in_after : (q : Placed) → Contains placed q → Contains after_all q.entry
      in_after q there = (placed_stand p m c names r.cells r.entries.lists after.lists good.told placed limits naming carries.units good.entries follows.entries keep good.cells made q there).entry

      -- an entry that comes has a number that no cell has
      new_number : (q : Placed) → Contains placed q → Comes c names r.cells r.entries.lists q → r.entries.next ≤ q.entry.number
      new_number q there co = elim (All-contains (λ (x : Entry). Contains before_all x ⊎ (r.entries.next ≤ x.number)) after_all q.entry follows.each (in_after q there)) [
        | inl stood ↦ absurd (false≢true (sym co.new ∙ is_numbered before_all q.entry stood))
        | inr new ↦ new
      ]

      was_there : (q : Placed) → Stays c names r.cells r.entries.lists q → is_occupied (content_at r.cells (spot q)).head ≡ true
      was_there q st = (and_parts (is_occupied (content_in r.cells q.room).head) (has_bit v (content_in r.cells q.room).head) st.seen).0

      abbrev number_of : Option Placed → Spot → ℕ
      number_of (Some q) s = q.entry.number
      number_of None s = number_at r.cells s

      -- a cell is a placed entry's, or was occupied
      abbrev IsTaken : Option Placed → Spot → Type 0
      IsTaken (Some q) s = ⊤
      IsTaken None s = is_occupied (content_at r.cells s).head ≡ true

      of_both : (a b : Spot) (q : Placed) → IsCellAt c b → at a ≡ Some q → is_occupied (content_at r.cells b).head ≡ true → q.entry.number ≡ number_at r.cells b → a ≡ b
      of_both a b q cell_b e there same =
          let f = placed_spot placed a q e in
          elim (kept q f.0) [
            | inl st ↦ sym f.1 ∙ tidy.apart (spot q) b (cell_of q f.0) cell_b (was_there q st) there (st.number ∙ same)
            | inr co ↦
                absurd (omega (arith, new_number q f.0 co, good.used b.stage b.place b.cell cell_b there, same))
          ]

      one_spot : (a b : Spot) → IsCellAt c a → IsCellAt c b → (oa ob : Option Placed) → at a ≡ oa → at b ≡ ob → IsTaken oa a → IsTaken ob b → number_of oa a ≡ number_of ob b → a ≡ b
      one_spot a b ca cb (Some q) (Some u) ea eb ta tb same =
          let fa = placed_spot placed a q ea in
          let fb = placed_spot placed b u eb in
          sym fa.1 ∙ ap spot (same_placed placed differ q u fa.0 fb.0 same) ∙ fb.1
      one_spot a b ca cb (Some q) None ea eb ta tb same = of_both a b q cb ea tb same
      one_spot a b ca cb None (Some u) ea eb ta tb same = sym (of_both b a u ca eb ta (sym same))
      one_spot a b ca cb None None ea eb ta tb same = tidy.apart a b ca cb ta tb same

      -- ---- the entries that it touches

      came : (q : Placed) → Contains placed q → Comes c names r.cells r.entries.lists q → Contains (entry_numbers touching) q.entry.number
      came q there co =
          let own = Contains-filter (λ e. not (is_numbered_in before_all e)) after_all q.entry (in_after q there) (ap not co.new) in
          Contains-map (λ (e : Entry). e.number) touching q.entry (Contains-append_left (come r.entries.lists after.lists) (come after.lists r.entries.lists) q.entry own)

      -- an entry whose cell is no placed entry's goes
      went : (s : Spot) → IsCellAt c s → at s ≡ None → is_occupied (content_at r.cells s).head ≡ true → has_bit v (content_at r.cells s).head ≡ true → Contains (entry_numbers touching) (number_at r.cells s)
      went s cell none there bit =
          let slot = some_and (slot_at c s.stage s.place) (λ x. s.cell < cells_in x.memory) cell in
          let part = part_of_slot c slot.0.node s.stage s.place slot.0 slot.1 refl in
          let x = content_at r.cells s in
          let sees_it : sees true v x.head ≡ true = and_from (is_occupied x.head) (has_bit v x.head) there bit in
          let shown_there : is_seen (shown v x).head ≡ true = ap (λ (y : Content). is_seen y.head) (shown_seen v x sees_it) ∙ there in
          let e = seen_entry p m c (seen_by v r.cells) good.told r.entries.lists slot.0.node s.stage s.place s.cell part.0 slot.0 carries.units good.entries good.cells part.1 slot.2 shown_there in
          let in_before = listed_in r.entries.lists slot.0.node (entries_at r.entries.lists slot.0.node) e.entry e.list_is e.there in
          subst (Contains (entry_numbers touching)) (sym e.number_is) (by e.entry in_before e.number_is (is_numbered_in after_all e.entry) refl)
        where
          goes_on : (e f : Entry) → Contains before_all e → number_at r.cells s ≡ e.number → Contains after_all f → f.number ≡ e.number → ⊥
          goes_on e f in_before number in_f same =
              let stood = list_any-Contains (λ (o : Entry). o.number == f.number) before_all e in_before (eq-eqb e.number f.number (sym same)) in
              let f_before = All-contains (λ x. is_numbered_in before_all x ≡ true → Contains before_all x) after_all f keep in_f stood in
              let one = one_entry p r.entries.lists f e good.entries f_before in_before same in
              let q = each_is_placed p m c names r.cells r.entries.lists after.lists good.told placed limits naming carries.units good.entries follows.entries keep good.cells made f in_f in
              elim (kept q.0 q.1) [
                | inl st ↦
                    let is = tidy.apart (spot q.0) s (cell_of q.0 q.1) cell (was_there q.0 st) there (st.number ∙ ap (λ (x : Entry). x.number) (q.2 ∙ one) ∙ sym number) in
                    none-some q.0 (sym none ∙ ap at (sym is) ∙ at_own q.0 q.1)
                | inr co ↦ false≢true (sym co.new ∙ ap (is_numbered_in before_all) q.2 ∙ stood)
              ]

          by : (e : Entry) → Contains before_all e → number_at r.cells s ≡ e.number → (b : Bool) → is_numbered_in after_all e ≡ b → Contains (entry_numbers touching) e.number
          by e in_before number false new =
              Contains-map (λ (x : Entry). x.number) touching e
              (Contains-append_right (come r.entries.lists after.lists) (come after.lists r.entries.lists) e (Contains-filter (λ x. not (is_numbered_in after_all x)) before_all e in_before (ap not new)))
          by e in_before number true still =
              let f = any_item (λ (o : Entry). o.number == e.number) after_all still in
              absurd (goes_on e f.0 in_before number f.1 (eqb-true f.0.number e.number f.2))

      -- ---- the cells afterwards

      -- a cell that loses its entry
      loses : (s : Spot) → IsCellAt c s → is_occupied (settled_content c names r.cells r.entries.lists None s.stage s.place s.cell).head ≡ true → IsLeft c names r.cells r.entries.lists s.stage s.place s.cell
      loses s cell h =
          let slot = some_and (slot_at c s.stage s.place) (λ x. s.cell < cells_in x.memory) cell in
          left c names r.cells r.entries.lists s.stage s.place s.cell slot.0 slot.1 h

      record IsTakenNow (o : Option Placed) (s : Spot) : Type 0 where
        taken : IsTaken o s
        number : settled_number r.cells o s.stage s.place s.cell ≡ number_of o s

      taken_now : (s : Spot) → IsCellAt c s → (o : Option Placed) → is_occupied (settled_content c names r.cells r.entries.lists o s.stage s.place s.cell).head ≡ true → IsTakenNow o s
      taken_now s cell (Some q) h = record { taken = tt; number = refl }
      taken_now s cell None h = let l = loses s cell h in record { taken = l.was; number = l.number }

      -- a cell of an entry that stays has both bits, where it had the current one
      stay_full : (s : Spot) (q : Placed) → at s ≡ Some q → Stays c names r.cells r.entries.lists q → visible_bits (settled_content c names r.cells r.entries.lists (Some q) s.stage s.place s.cell).head ≡ 3
      stay_full s q e st =
          let f = placed_spot placed s q e in
          let bit : has_bit v (content_at r.cells s).head ≡ true =
          subst (λ (x : Spot). has_bit v (content_at r.cells x).head ≡ true) f.1 (and_parts (is_occupied (content_in r.cells q.room).head) (has_bit v (content_in r.cells q.room).head) st.seen).1 in
          ap (λ b. visible_bits (cond b (staying_content (v + 1) (content_at r.cells s)) (coming_content names (v + 1) q)).head) st.stood ∙ both_set v (content_at r.cells s).head bit

      settled_tidy : IsTidy c touching next
      settled_tidy = record {
        full = λ s cell h. full_by s cell (at s) refl h;
        apart = λ a b ca cb ha hb same.
            let ta = taken_now a ca (at a) ha in
            let tb = taken_now b cb (at b) hb in
            one_spot a b ca cb (at a) (at b) refl refl ta.taken tb.taken (sym ta.number ∙ same ∙ tb.number);
        empty = λ s cell h. empty_by s cell (at s) refl h;
      }
        where
          full_by : (s : Spot) → IsCellAt c s → (o : Option Placed) → at s ≡ o → is_occupied (settled_content c names r.cells r.entries.lists o s.stage s.place s.cell).head ≡ true
              → (visible_bits (settled_content c names r.cells r.entries.lists o s.stage s.place s.cell).head ≡ 3) ⊎ Contains (entry_numbers touching) (settled_number r.cells o s.stage s.place s.cell)
          full_by s cell (Some q) e h =
              let f = placed_spot placed s q e in
              elim (kept q f.0) [
                | inl st ↦ inl (stay_full s q e st)
                | inr co ↦ inr (came q f.0 co)
              ]
          full_by s cell None e h = let l = loses s cell h in inr (subst (Contains (entry_numbers touching)) (sym l.number) (went s cell e l.was l.bit))

          empty_none : (s : Spot) → IsCellAt c s → (b : Bool) → is_occupied (content_at r.cells s).head ≡ b
              → is_occupied (settled_content c names r.cells r.entries.lists None s.stage s.place s.cell).head ≡ false → settled_number r.cells None s.stage s.place s.cell ≡ 0
          empty_none s cell false e h = either (visible_bits (without_bit (v + 1) (content_at r.cells s).head) == 0) (tidy.empty s cell e)
            where
              either : (b : Bool) → number_at r.cells s ≡ 0 → cond b 0 (number_at r.cells s) ≡ 0
              either true none = refl
              either false none = none
          empty_none s cell true e h =
              let slot = some_and (slot_at c s.stage s.place) (λ x. s.cell < cells_in x.memory) cell in
              by slot.0 (visible_bits (without_bit (v + 1) (content_at r.cells s).head) == 0) refl
              (sym (ap (λ (o : Option SlotUnit). is_occupied (unwrap_or (option_map (λ y. leaving_content (v + 1) y (content_at r.cells s)) o) (content_at r.cells s)).head) slot.1)
              ∙ sym (ap (λ b. is_occupied (cond b (unwrap_or (option_map (λ y. leaving_content (v + 1) y (content_at r.cells s)) (slot_at c s.stage s.place)) (content_at r.cells s)) (content_at r.cells s)).head) e) ∙ h)
            where
              by : (slot : SlotUnit) (b : Bool) → (visible_bits (without_bit (v + 1) (content_at r.cells s).head) == 0) ≡ b
                  → is_occupied (leaving_content (v + 1) slot (content_at r.cells s)).head ≡ false → settled_number r.cells None s.stage s.place s.cell ≡ 0
              by slot true is g = ap (λ b. cond b 0 (number_at r.cells s)) is
              by slot false is g =
                  absurd (both_ways (is_occupied (without_bit (v + 1) (content_at r.cells s).head))
                  (sym (ap (λ b. is_occupied (cond b (emptied slot) (record (content_at r.cells s) { head = without_bit (v + 1) (content_at r.cells s).head })).head) is) ∙ g)
                  (sym (clear-alike v (content_at r.cells s).head).occupied ∙ e))

          empty_by : (s : Spot) → IsCellAt c s → (o : Option Placed) → at s ≡ o → is_occupied (settled_content c names r.cells r.entries.lists (at s) s.stage s.place s.cell).head ≡ false
              → settled_number r.cells (at s) s.stage s.place s.cell ≡ 0
          empty_by s cell (Some q) e h =
              let f = placed_spot placed s q e in
              absurd (false≢true (sym h ∙ subst (λ (x : Spot). is_occupied (content_at next x).head ≡ true) f.1 (occupied q f.0)))
          empty_by s cell None e h =
              subst (λ o. settled_number r.cells o s.stage s.place s.cell ≡ 0) (sym e)
              (empty_none s cell (is_occupied (content_at r.cells s).head) refl (subst (λ o. is_occupied (settled_content c names r.cells r.entries.lists o s.stage s.place s.cell).head ≡ false) e h))

      -- ---- the changes

      abbrev at_write : CellWrite → Spot
      at_write w = record { stage = w.stage; place = w.unit; cell = w.cell }

      -- what is told of a changed cell
      record IsTouched (s : Spot) : Type 0 where
        cell : IsCellAt c s
        taken : IsTaken (at s) s
        among : Contains (entry_numbers touching ++ entry_numbers recent) (number_of (at s) s)

      abbrev Changes : Option Placed → Spot → Type 0
      Changes o s = (content_at r.cells s ≢ settled_content c names r.cells r.entries.lists o s.stage s.place s.cell) ⊎ (number_at r.cells s ≢ settled_number r.cells o s.stage s.place s.cell)

      touched_now : (n : ℕ) → Contains (entry_numbers touching) n → Contains (entry_numbers touching ++ entry_numbers recent) n
      touched_now n there = Contains-append_left (entry_numbers touching) (entry_numbers recent) n there

      touched_before : (n : ℕ) → Contains (entry_numbers recent) n → Contains (entry_numbers touching ++ entry_numbers recent) n
      touched_before n there = Contains-append_right (entry_numbers touching) (entry_numbers recent) n there

      no_change : (o : Option Placed) (s : Spot) → content_at r.cells s ≡ settled_content c names r.cells r.entries.lists o s.stage s.place s.cell → number_at r.cells s ≡ settled_number r.cells o s.stage s.place s.cell → Changes o s → ⊥
      no_change o s content number (inl h) = h content
      no_change o s content number (inr h) = h number

      is_touched : (s : Spot) → IsCellAt c s → (o : Option Placed) → at s ≡ o → Changes o s → IsTaken o s × Contains (entry_numbers touching ++ entry_numbers recent) (number_of o s)
      is_touched s cell (Some q) e change = (tt, by (placed_spot placed s q e))
        where
          stayed : (f : Contains placed q × (spot q ≡ s)) → Stays c names r.cells r.entries.lists q → Contains (entry_numbers touching ++ entry_numbers recent) q.entry.number
          stayed f st =
              let number : number_at r.cells s ≡ q.entry.number = ap (number_at r.cells) (sym f.1) ∙ st.number in
              let there : is_occupied (content_at r.cells s).head ≡ true = subst (λ (x : Spot). is_occupied (content_at r.cells x).head ≡ true) f.1 (was_there q st) in
              elim (tidy.full s cell there) [
                | inl both ↦
                    let x = content_at r.cells s in
                    let same : staying_content (v + 1) x ≡ x = ap (λ h. record x { head = h }) (none_set (v + 1) x.head both) in
                    absurd (no_change (Some q) s (sym same ∙ sym (ap (λ b. cond b (staying_content (v + 1) x) (coming_content names (v + 1) q)) st.stood)) number change)
                | inr old ↦ touched_before q.entry.number (subst (Contains (entry_numbers recent)) number old)
              ]

          by : Contains placed q × (spot q ≡ s) → Contains (entry_numbers touching ++ entry_numbers recent) q.entry.number
          by f = elim (kept q f.0) [
            | inl st ↦ stayed f st
            | inr co ↦ touched_now q.entry.number (came q f.0 co)
          ]
      is_touched s cell None e change = by (is_occupied (content_at r.cells s).head) refl
        where
          by : (b : Bool) → is_occupied (content_at r.cells s).head ≡ b → (is_occupied (content_at r.cells s).head ≡ true) × Contains (entry_numbers touching ++ entry_numbers recent) (number_at r.cells s)
          by true there = (
            there,
            elim (tidy.full s cell there) [
              | inl both ↦ touched_now (number_at r.cells s) (went s cell e there (both_show v (content_at r.cells s).head both))
              | inr old ↦ touched_before (number_at r.cells s) old
            ],
          )
          by false none =
              let x = content_at r.cells s in
              let number = tidy.empty s cell none in
              absurd (no_change None s
              (sym (ap (λ b. cond b (unwrap_or (option_map (λ y. leaving_content (v + 1) y x) (slot_at c s.stage s.place)) x) x) none))
              (number ∙ sym (either (visible_bits (without_bit (v + 1) x.head) == 0) number)) change)
            where
              either : (b : Bool) → number_at r.cells s ≡ 0 → cond b 0 (number_at r.cells s) ≡ 0
              either true none = refl
              either false none = none

      writes_few : (ws : List CellWrite) → AreWrites c r.cells next ws → length ws ≤ length touching + length recent
      writes_few ws are =
          let most = at_most (map number_written ws) (entry_numbers touching ++ entry_numbers recent) (AllPairs-map ◌≢◌ number_written ws apart) (All-map (Contains (entry_numbers touching ++ entry_numbers recent)) number_written ws (λ i d lt. (each i d lt).among)) in
          let three = length-map touching (λ (e : Entry). e.number) in
          let four = length-map recent (λ (e : Entry). e.number) in
          omega (arith, most, length-map ws number_written, length-append (entry_numbers touching) (entry_numbers recent), three, four)
        where
          number_written : CellWrite → ℕ
          number_written w = number_of (at (at_write w)) (at_write w)

          each : All (λ (w : CellWrite). IsTouched (at_write w)) ws
          each i d lt =
              let cell = are.cells_are i d lt in
              let r2 = is_touched _ cell (at _) refl (are.change i d lt) in
              record { cell = cell; taken = r2.0; among = r2.1 }

          apart : AllPairs (λ (a b : CellWrite). number_written a ≢ number_written b) ws
          apart =
              pairs_with (λ (w : CellWrite). IsTouched (at_write w)) (λ a b. writes_before a b ≡ true) (λ (a b : CellWrite). number_written a ≢ number_written b)
              (λ a b ta tb before same. two_writes a b before (one_spot (at_write a) (at_write b) ta.cell tb.cell (at (at_write a)) (at (at_write b)) refl refl ta.taken tb.taken same)) ws each are.in_order
            where
              two_writes : (a b : CellWrite) → writes_before a b ≡ true → at_write a ≡ at_write b → ⊥
              two_writes a b before same = writes_apart a b before (ap (λ (s : Spot). s.stage) same) (ap (λ (s : Spot). s.place) same) (ap (λ (s : Spot). s.cell) same)

    -- ---- where cells move

    module _ (seed : ℕ) (placed : List Placed) (are : AreFilled c names seed after.lists placed) where
      abbrev moved_cells : RunCells
      moved_cells = filled c names r.cells placed

      filled_head : (q : Placed) → Contains placed q → (k place : ℕ) → (filled_content c names (Some q) k place).head ≡ 1 + 2 * 3 + 8 * (q.room.part.first + q.entry.action)
      filled_head q there k place =
          let f = fills p m c names r.cells after.lists seed placed limits naming carries.units follows.entries are q there in
          ap (λ (o : Option Terms). (unwrap_or (option_map (λ t. entry_content t q.room.part 3 q.entry) o) (emptied q.room.part.slot)).head) f.named

      filled_tidy : IsTidy c touching moved_cells
      filled_tidy = record {
        full = λ s cell h. full_by s (placed_at placed s.stage s.place s.cell) refl h;
        apart = λ a b ca cb ha hb same. apart_by a b (placed_at placed a.stage a.place a.cell) (placed_at placed b.stage b.place b.cell) refl refl ha hb same;
        empty = λ s cell h. empty_by s (placed_at placed s.stage s.place s.cell) refl h;
      }
        where
          full_by : (s : Spot) (o : Option Placed) → placed_at placed s.stage s.place s.cell ≡ o → is_occupied (filled_content c names o s.stage s.place).head ≡ true
              → (visible_bits (filled_content c names o s.stage s.place).head ≡ 3) ⊎ Contains (entry_numbers touching) (unwrap_or (option_map (λ (q : Placed). q.entry.number) o) 0)
          full_by s (Some q) e h = let f = placed_spot placed s q e in inl (ap visible_bits (filled_head q f.0 s.stage s.place) ∙ full_bits (q.room.part.first + q.entry.action))
          full_by s None e h = absurd (not_filled c names s.stage s.place h)

          apart_by : (a b : Spot) (oa ob : Option Placed) → placed_at placed a.stage a.place a.cell ≡ oa → placed_at placed b.stage b.place b.cell ≡ ob
              → is_occupied (filled_content c names oa a.stage a.place).head ≡ true → is_occupied (filled_content c names ob b.stage b.place).head ≡ true
              → unwrap_or (option_map (λ (q : Placed). q.entry.number) oa) 0 ≡ unwrap_or (option_map (λ (q : Placed). q.entry.number) ob) 0 → a ≡ b
          apart_by a b None ob ea eb ha hb same = absurd (not_filled c names a.stage a.place ha)
          apart_by a b (Some q) None ea eb ha hb same = absurd (not_filled c names b.stage b.place hb)
          apart_by a b (Some q) (Some u) ea eb ha hb same =
              let fa = placed_spot placed a q ea in
              let fb = placed_spot placed b u eb in
              let one = same_placed placed (filled_differ p m c names r.cells after.lists seed placed limits naming carries.units follows.entries are) q u fa.0 fb.0 same in
              sym fa.1 ∙ ap spot one ∙ fb.1

          empty_by : (s : Spot) (o : Option Placed) → placed_at placed s.stage s.place s.cell ≡ o → is_occupied (filled_content c names o s.stage s.place).head ≡ false
              → unwrap_or (option_map (λ (q : Placed). q.entry.number) o) 0 ≡ 0
          empty_by s None e h = refl
          empty_by s (Some q) e h =
              let f = placed_spot placed s q e in
              absurd (both_ways (is_occupied (filled_content c names (Some q) s.stage s.place).head) h (ap is_occupied (filled_head q f.0 s.stage s.place) ∙ full_occupied (q.room.part.first + q.entry.action)))

    made_tidy : (moved : Bool) (seed : ℕ) (next : RunCells) → Makes c names r.cells r.entries.lists after.lists moved seed next → IsTidy c touching next
    made_tidy moved seed cells (stays placed made) = settled_tidy placed made
    made_tidy moved seed cells (moves s placed none first_seed are) = filled_tidy s placed are

    made_few : (seed : ℕ) (next : RunCells) (ws : List CellWrite) → Makes c names r.cells r.entries.lists after.lists false seed next → AreWrites c r.cells next ws → length ws ≤ length touching + length recent
    made_few seed cells ws (stays placed made) are = writes_few placed made ws are

  -- ---- the start

  unlisted : (listed : List CellNumber) (n : ℕ) → (Contains (map (λ (x : CellNumber). x.cell) listed) n → ⊥) → number_of_cell listed n ≡ 0
  unlisted listed n none =
      ap (λ o. unwrap_or (option_map (λ (x : CellNumber). x.number) o) 0)
      (find-none (λ (x : CellNumber). x.cell == n) listed
      (All-weaker (Contains listed) (λ (x : CellNumber). (x.cell == n) ≡ false)
      (λ x there. false_from_ne_true (x.cell == n) (λ same. none (subst (Contains (map (λ (y : CellNumber). y.cell) listed)) (eqb-true x.cell n same) (Contains-map (λ (y : CellNumber). y.cell) listed x there))))
      listed (All-contains_itself listed)))

  module _ (entries : AreEntries p first) (memory : All (StageHolds 3) c.stages) where
    -- what is known of a cell of the configuration
    record Own (s : Spot) : Type 0 where
      stage : Stage
      slot : SlotUnit
      part : IsPart c slot.node s.stage s.place stage slot
      lt : s.cell < cells_in slot.memory
      first_code : ℕ
      holds : SlotHolds 3 stage first_code slot

    own_cell : (s : Spot) → IsCellAt c s → Own s
    own_cell s cell =
        let slot = some_and (slot_at c s.stage s.place) (λ x. s.cell < cells_in x.memory) cell in
        let part = part_of_slot c slot.0.node s.stage s.place slot.0 slot.1 refl in
        let coded = coded_slot (λ (x : Coded). SlotHolds 3 part.0 x.first x.slot) part.0.units 0 s.place slot.0 part.1.slot_is (All-slice_get (StageHolds 3) c.stages s.stage part.0 memory part.1.stage_is) in
        record { stage = part.0; slot = slot.0; part = part.1; lt = slot.2; first_code = coded.0; holds = coded.1 }

    content_own : (s : Spot) (o : Own s) → own_content c s.stage s.place s.cell ≡ content_of o.stage o.slot s.cell
    content_own s o = content_is c s.stage s.place o.stage o.slot o.part.stage_is o.part.slot_is s.cell

    one_own : (a b : Spot) → Own a → Own b → is_occupied (own_content c a.stage a.place a.cell).head ≡ true → is_occupied (own_content c b.stage b.place b.cell).head ≡ true
        → number_at (own_cells c) a ≡ number_at (own_cells c) b → a ≡ b
    one_own a b oa ob ha hb same =
        let ta = part_table p m c oa.slot.node a.stage a.place oa.stage oa.slot carries.units oa.part in
        let tb = part_table p m c ob.slot.node b.stage b.place ob.stage ob.slot carries.units ob.part in
        let la = list_at p first oa.slot.node ta.node entries ta.node_is in
        let lb = list_at p first ob.slot.node tb.node entries tb.node_is in
        let ca = carries.cells.tables oa.slot.node ta.table (entries_at first oa.slot.node) ta.table_is la.0 in
        let cb = carries.cells.tables ob.slot.node tb.table (entries_at first ob.slot.node) tb.table_is lb.0 in
        let is_a = spot_of_part c oa.slot.node a.stage a.place a.cell oa.stage oa.slot oa.part oa.lt in
        let is_b = spot_of_part c ob.slot.node b.stage b.place b.cell ob.stage ob.slot ob.part ob.lt in
        let ea = ca.only a is_a ha in
        let eb = cb.only b is_b hb in
        let nb = (cb.holds eb.0 b ob.stage eb.1 is_b eb.2 ob.part.stage_is).number_is in
        let one = one_entry p first ea.0 eb.0 entries (listed_in first oa.slot.node (entries_at first oa.slot.node) ea.0 la.0 ea.1) (listed_in first ob.slot.node (entries_at first ob.slot.node) eb.0 lb.0 eb.1)
        (sym ((ca.holds ea.0 a oa.stage ea.1 is_a ea.2 oa.part.stage_is).number_is) ∙ same ∙ nb) in
        let table_a = (All-contains (IsEntry oa.slot.node (terms_of p ta.table)) (entries_at first oa.slot.node) ea.0 (table_entries p first oa.slot.node ta.table (entries_at first oa.slot.node) entries ta.table_is la.0).each ea.1).table in
        let table_b = (All-contains (IsEntry ob.slot.node (terms_of p tb.table)) (entries_at first ob.slot.node) eb.0 (table_entries p first ob.slot.node tb.table (entries_at first ob.slot.node) entries tb.table_is lb.0).each eb.1).table in
        let node : ob.slot.node ≡ oa.slot.node = sym table_b ∙ ap (λ (e : Entry). e.table) (sym one) ∙ table_a in
        ca.one ea.0 a b ea.1 is_a (subst (λ n. IsSpotOf c n b) node is_b) ea.2 (subst (λ e. IsTold m.cells e b) (sym one) eb.2)

    start_tidy : IsTidy c [] (own_cells c)
    start_tidy = record {
      full = λ s cell h.
          let o = own_cell s cell in
          let content = content_own s o in
          inl (ap (λ (x : Content). visible_bits x.head) content
          ∙ cell_visible 3 o.stage o.first_code o.slot o.holds s.cell o.lt (sym (ap (λ (x : Content). is_occupied x.head) content) ∙ h));
      apart = λ a b ca cb ha hb same. one_own a b (own_cell a ca) (own_cell b cb) ha hb same;
      empty = λ s cell h.
          let o = own_cell s cell in
          let content = content_own s o in
          let listed = cells_listed 3 o.stage o.first_code o.slot o.holds in
          number_is c s.stage s.place o.stage o.slot o.part.stage_is o.part.slot_is s.cell
          ∙ unlisted o.slot.numbers s.cell (λ there.
          let x = Contains-unmap (λ (y : CellNumber). y.cell) o.slot.numbers s.cell there in
          both_ways (is_occupied (own_content c s.stage s.place s.cell).head) h
          (ap (λ (y : Content). is_occupied y.head) content ∙ ap (λ n. is_occupied (content_of o.stage o.slot n).head) (sym x.2) ∙ listed.seen x.0 x.1));
    }

    -- ---- each state of a run

    record IsInOrder (recent : List Entry) (r : RunState) : Type 0 where
      good : IsGood p c r
      tidy : IsTidy c recent r.cells

    reached : (recent : List Entry) (r : RunState) → IsReached p c names first recent r → IsInOrder recent r
    reached recent r begins = record { good = start_good p m c names program limits named naming first carries entries memory; tidy = start_tidy }
    reached recent r (arrived old s h) =
        let was = reached old s h in
        record { good = packet_good p m c names program limits named naming first carries s was.good; tidy = record { full = was.tidy.full; apart = was.tidy.apart; empty = was.tidy.empty } }
    reached recent r (turned old s changes moved seed next ws h fit makes are) =
        let was = reached old s h in
        let tidy = made_tidy old s changes was.good fit was.tidy moved seed next makes in
        record {
          good = commit_good p m c names program limits named naming first carries s changes was.good fit moved seed next ws makes;
          tidy = record { full = tidy.full; apart = tidy.apart; empty = tidy.empty };
        }

    short : (recent : List Entry) (r : RunState) (changes : List Change) (seed : ℕ) (next : RunCells) (ws : List CellWrite) → IsReached p c names first recent r → AreFitChanges p r.entries changes
        → Makes c names r.cells r.entries.lists (committed r.entries changes).lists false seed next → AreWrites c r.cells next ws → r.older_gone ≤ r.cycle
        → (behind_commit r changes false seed ws next).cycle ≤ r.cycle + 1 + length (touched r.entries.lists (committed r.entries changes).lists) + length recent
    short recent r changes seed next ws h fit makes are gone =
        let now = reached recent r h in
        omega (arith, made_few recent r changes now.good fit now.tidy seed next ws makes are, gone)

pub commits_short : CommitsAreShort
commits_short p lists m c names recent r changes seed next ws program entries carries formed limits named h fit makes are gone =
    let own : NamesCarried p lists c names = subst (λ (o : Option Names). IfSome o (NamesCarried p lists c)) named carries.names in
    let memory : All (StageHolds 3) c.stages = subst (λ (o : Option Names). All (StageHolds (visible_with o)) c.stages) named formed.whole.memory in
    short p m c names program limits named (subst (AreNamesOf p) (sym own.names_are) (names_tell p lists program)) lists carries entries memory recent r changes seed next ws h fit makes are gone
