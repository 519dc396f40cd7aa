-- Entries in rooms: where each entry has a room of its own in which a view shows it, and the view shows nothing else, the cells hold the entries.
use Rattle.std.proofs.Common.{◌≡◌, ◌≢◌, ℕ, ◌+◌, ◌*◌, ◌<◌, ◌≤◌, Bool, true, false, cond, List, [], map, length, Some, Contains, refl, sym, ap, subst, ◌∙◌, inl, inr, arith, Option, None}
use Rattle.std.specs.Prelude.{AllPairs, IsSomeAnd, slice_get, slice_index, slice_index_or, sum_by}
use Rattle.std.proofs.lemmas.Bool.{false≢true}
use Rattle.std.proofs.lemmas.List.Elements.{All-contains, All-contains_itself, All-map, All-weaker}
use Rattle.std.proofs.lemmas.List.Sums.{sum_by-take-le}
use Rattle.std.proofs.lemmas.Option.{get_or_from_slice_get, same_Some}
use Rattle.std.proofs.lemmas.Bool.Decides.{nat_tests}
use Rattle.rmt_bits.proofs.AllLaws.{All-find}
use Rattle.rmt_bits.proofs.ListLaws.{find-passes}
use Rattle.rmt_bits.proofs.MemberLaws.{Contains-map, Contains-unmap}
use Rattle.rmt_bits.proofs.PairLaws.{AllPairs-map, AllPairs-weaker}
use Rattle.rmt_ast.specs.declared.entry.Entry.{Entry}
use Rattle.rmt_ast.specs.EntryLists.{AreEntries, IsEntry, params_of, terms_of}
use Rattle.rmt_ast.specs.RowOrder.{goes_first}
use Rattle.rmt_ast.specs.State.{width_of}
use Rattle.rmt_refine.specs.Types.{Config, Node, Program, SlotUnit, Stage, Table, What}
use Rattle.rmt_config.specs.Instructions.{first_code, unit_instructions}
use Rattle.rmt_config.proofs.InstructionLaws.{first_code_next}
use Rattle.rmt_config.specs.LaneForm.{bits_of_lanes}
use Rattle.rmt_config.specs.Cells.{Content, candidates, cells_in, code_of, is_seen}
use Rattle.rmt_config.specs.Limits.{IsWithinLimits}
use Rattle.rmt_config.specs.RunCells.{no_content, sees, slot_at}
use Rattle.rmt_config.specs.Rooms.{Room, args_as_one, entry_content, is_at, is_before, is_same, key_number, tests_as_one}
use Rattle.rmt_config.specs.Commits.{IsCell, Placed, all_entries, placed_at}
use Rattle.rmt_refine.specs.declared.map.CellOf.{CellOf}
use Rattle.rmt_refine.specs.declared.map.Map.{Map}
use Rattle.rmt_refine.specs.View.{View, as_slot, slot_of}
use Rattle.rmt_refine.specs.Units.{DoesAs, TableCarried, UnitsCarried, applied, nodes_in, table_at}
use Rattle.rmt_refine.specs.Cells.{CellsCarried, HoldsEntry, IsBefore, IsCandidate, IsSpotOf, IsTold, Spot, TableCellsCarried}
use Rattle.rmt_pack.proofs.PartLaws.{and_at, and_from as some_from, slot_is_unit, then_some, code_at}
use Rattle.rmt_refine.proofs.PartLaws.{candidates_within, kind_of_part, part_of_spot, slot_of_part, spot_of_part, unit_of_part}
use Rattle.rmt_refine.proofs.EntryLaws.{IsListed, action_is, listed_in, one_entry, two_items}
use Rattle.rmt_bits.specs.declared.lane.Lane.{Lane}
use Rattle.rmt_config.specs.declared.config.Unit.TheVariants.{Slot}
use Rattle.rmt_config.specs.Effects.{HasArguments}
use Rattle.rmt_config.proofs.LimitLaws.{limits_kept}
use Rattle.rmt_pack.specs.declared.placement.Part.{Part}
use Rattle.rmt_refine.proofs.NodeLaws.{one_place}
use Rattle.rmt_refine.proofs.TheLaw.{table_entries}
use Rattle.rmt_pack.proofs.RankLaws.{goes_never}
use Rattle.rmt_pack.proofs.RoomLaws.{RoomIs, at_is}
use Rattle.rmt_pack.proofs.ContentLaws.{has_arguments}
use Rattle.rmt_bits.proofs.FindLaws.{find-some}
use Rattle.rmt_ast.specs.declared.program.What.TheVariants as what

-- ---- general

abbrev pub spot : Placed → Spot
spot q = record { stage = q.room.part.stage; place = q.room.part.place; cell = q.room.cell }

pub before_from : (a b : Placed) → IsBefore (spot a) (spot b) → is_before a.room b.room ≡ true
before_from a b is = grind (arith, nat_tests, is)

pub before_to : (a b : Placed) → is_before a.room b.room ≡ true → IsBefore (spot a) (spot b)
before_to a b h = grind (arith, nat_tests, h)

pub at_from : (k place n : ℕ) (r : Room) → r.part.stage ≡ k → r.part.place ≡ place → r.cell ≡ n → is_at k place n r ≡ true
at_from k place n r a b d = grind (arith, nat_tests, a, b, d)

actions_done : (p : Program) (places : List (List Lane)) (parts : List Part) (k n : ℕ) (w : What) (t : Table) (slot : SlotUnit)
    → applied p w ≡ Some t → DoesAs p places parts k n w (Slot slot) → slot.actions ≡ length t.actions
actions_done p places parts k n (what.Apply i) t slot e does =
    let is = and_at (slice_get p.tables i) (λ (table : Table). TableCarried places parts n k table slot) t e does in is.actions
actions_done p places parts k n (what.Gate field test) t slot e does = absurd does

-- a spot is one node's
pub one_node : (c : Config) (a b : ℕ) (at : Spot) → IsSpotOf c a at → IsSpotOf c b at → a ≡ b
one_node c a b at in_a in_b =
    let pa = part_of_spot c a at in_a in
    let pb = part_of_spot c b at in_b in
    let same : pa.1 ≡ pb.1 = same_Some pa.1 pb.1 (sym (slot_of_part c a at.stage at.place pa.0 pa.1 pa.2) ∙ slot_of_part c b at.stage at.place pb.0 pb.1 pb.2) in
    sym pa.2.node_is ∙ ap (λ (s : SlotUnit). s.node) same ∙ pb.2.node_is

-- what is seen of a cell
abbrev pub shown : ℕ → Content → Content
shown v x = cond (sees true v x.head) x no_content

pub shown_seen : (v : ℕ) (x : Content) → sees true v x.head ≡ true → shown v x ≡ x
shown_seen v x e = ap (λ b. cond b x no_content) e

pub shown_unseen : (v : ℕ) (x : Content) → sees true v x.head ≡ false → is_seen (shown v x).head ≡ true → ⊥
shown_unseen v x e h = false≢true (ap (λ b. is_seen (cond b x no_content).head) (sym e) ∙ h)

pub seen_from : (v : ℕ) (x : Content) → is_seen (shown v x).head ≡ true → sees true v x.head ≡ true
seen_from v x h = by (sees true v x.head) refl
  where
    by : (b : Bool) → sees true v x.head ≡ b → sees true v x.head ≡ true
    by true e = e
    by false e = absurd (shown_unseen v x e h)

-- where a cell without a placed entry isn't seen, one that is seen has one
pub seen_placed : (v : ℕ) (placed : List Placed) (k place n : ℕ) (content : Option Placed → Content) → sees true v (content None).head ≡ false
    → is_seen (shown v (content (placed_at placed k place n))).head ≡ true → (q : Placed) × (placed_at placed k place n ≡ Some q)
seen_placed v placed k place n content none seen = by (placed_at placed k place n) refl seen
  where
    by : (o : Option Placed) → placed_at placed k place n ≡ o → is_seen (shown v (content o)).head ≡ true → (q : Placed) × (placed_at placed k place n ≡ Some q)
    by None e h = absurd (shown_unseen v (content None) none h)
    by (Some q) e h = (q, e)

-- the placed entry at a cell has its room there
pub placed_spot : (placed : List Placed) (at : Spot) (q : Placed) → placed_at placed at.stage at.place at.cell ≡ Some q → Contains placed q × (spot q ≡ at)
placed_spot placed at q e =
    let test : Placed → Bool = λ (x : Placed). is_at at.stage at.place at.cell x.room in
    let here = at_is at.stage at.place at.cell q.room (find-passes test placed q e) in
    (All-find (Contains placed) test placed q (All-contains_itself placed) e, λ i. record { stage = here.0 i; place = here.1 i; cell = here.2 i })

-- placed entries of one number are one
pub same_placed : (placed : List Placed) → AllPairs (λ (a b : Placed). a.entry.number ≢ b.entry.number) placed → (a b : Placed) → Contains placed a → Contains placed b → a.entry.number ≡ b.entry.number
    → a ≡ b
same_placed placed differ a b in_a in_b same = elim (two_items (λ (x y : Placed). x.entry.number ≢ y.entry.number) placed a b differ in_a in_b) [
  | inl apart ↦ absurd (apart same)
  | inr (inl apart) ↦ absurd (apart (sym same))
  | inr (inr is) ↦ is
]

-- a spot of a node is a cell
pub cell_of_spot : (c : Config) (n : ℕ) (at : Spot) → IsSpotOf c n at → IsCell c at.stage at.place at.cell
cell_of_spot c n at is =
    let part = part_of_spot c n at is in
    some_from (slot_at c at.stage at.place) (λ slot. at.cell < cells_in slot.memory) part.1 (slot_of_part c n at.stage at.place part.0 part.1 part.2) part.3

-- what a map tells of it
abbrev pub told_of : Placed → CellOf
told_of q = record { entry = q.entry.number; stage = q.room.part.stage; cell = q.room.cell }

module _ (p : Program) (c : Config) (v : View) (lists : List (List Entry)) where
  abbrev pub widths : Table → List ℕ
  widths t = map (width_of p) t.key

  abbrev pub its_key : Table → Entry → ℕ
  its_key t e = key_number (terms_of p t) e

  -- an entry stands in a room in which its key may stand
  pub record StandsIn (q : Placed) : Type 0 where
    pub entry : Contains (all_entries lists) q.entry
    pub listed : IsListed p lists q.entry
    pub room : RoomIs c q.entry.table v.seed (key_number (terms_of p listed.table) q.entry) q.room

  -- two entries of a table stand in their order
  abbrev pub InOrder : Placed → Placed → Type 0
  InOrder a b = (t : Table) → table_at p a.entry.table ≡ Some t → a.entry.table ≡ b.entry.table → goes_first t.kind a.entry b.entry ≡ true → is_before a.room b.room ≡ true

  pub record Apart (a b : Placed) : Type 0 where
    pub rooms : is_same a.room b.room ≡ false
    pub forth : InOrder a b
    pub back : InOrder b a

  -- a cell holds the entry of a room
  abbrev pub HoldsIts : (q : Placed) → StandsIn q → ℕ → Content → Type 0
  HoldsIts q s number x = HoldsEntry p s.listed.table (widths s.listed.table) (first_code s.room.part.stage q.room.part.place) q.entry number x

module _ (p : Program) (m : Map) (c : Config) (v : View) (lists : List (List Entry)) (units : UnitsCarried p m.places m.placement.parts m.starts c) (entries : AreEntries p lists) where
  abbrev Stands : Placed → Type 0
  Stands = StandsIn p c v lists

  pub is_spot : (q : Placed) → Stands q → IsSpotOf c q.entry.table (spot q)
  is_spot q s =
      let slot = q.room.part.slot in
      let r = s.room.part in
      let t = s.listed.table in
      let kd = kind_of_part p m.places m.placement.parts m.starts c q.entry.table t q.room.part.stage q.room.part.place r.stage slot units s.listed.table_is r.part in
      let within = candidates_within t.kind kd.0 slot.memory kd.2 kd.1 v.seed (bits_of_lanes slot.keys) (its_key p c v lists t q.entry) in
      spot_of_part c q.entry.table q.room.part.stage q.room.part.place q.room.cell r.stage slot r.part
      (All-contains (λ j. j < cells_in slot.memory) (candidates v.seed (bits_of_lanes slot.keys) slot.memory (its_key p c v lists t q.entry)) q.room.cell within s.room.candidate)

  pub is_candidate : (q : Placed) (s : Stands q) → IsCandidate c v (tests_as_one (λ u. u.value) (widths p c v lists s.listed.table) q.entry.tests) (spot q)
  is_candidate q s =
      let slot = q.room.part.slot in
      let r = s.room.part in
      let key = tests_as_one (λ u. u.value) (widths p c v lists s.listed.table) q.entry.tests in
      let there : Contains (candidates v.seed (bits_of_lanes slot.keys) slot.memory key) q.room.cell = s.room.candidate in
      some_from (slice_get c.stages q.room.part.stage)
      (λ (stage : Stage). IsSomeAnd (slot_of stage q.room.part.place) (λ (x : SlotUnit). Contains (candidates v.seed (bits_of_lanes x.keys) x.memory key) q.room.cell)) r.stage r.part.stage_is
      (some_from (slot_of r.stage q.room.part.place) (λ (x : SlotUnit). Contains (candidates v.seed (bits_of_lanes x.keys) x.memory key) q.room.cell) slot r.part.slot_is there)

  pub few_codes : IsWithinLimits c → (q : Placed) → Stands q → q.room.part.first + q.entry.action < 32
  few_codes limits q s =
      let slot = q.room.part.slot in
      let k = q.room.part.stage in
      let place = q.room.part.place in
      let n = q.entry.table in
      let t = s.listed.table in
      let r = s.room.part in
      let first_is = r.first in
      let u = then_some as_slot (slice_get r.stage.units place) slot r.part.slot_is in
      let unit_is : slice_get r.stage.units place ≡ Some (Slot slot) = u.1 ∙ ap Some (slot_is_unit u.0 slot u.2) in
      let next = first_code_next r.stage place (Slot slot) unit_is in
      let below = sum_by-take-le unit_instructions r.stage.units (place + 1) in
      let limit = code_at c.stages k r.stage (limits_kept c limits).code r.part.stage_is in
      let unit = unit_of_part p m.places m.placement.parts m.starts c n k place r.stage slot units r.part in
      let node = then_some (λ (x : Node). applied p x.what) (slice_get p.nodes n) t s.listed.table_is in
      let does = and_at (slice_get p.nodes n) (λ (x : Node). DoesAs p m.places m.placement.parts k n x.what (Slot slot)) node.0 node.1 unit.1.does in
      let actions = actions_done p m.places m.placement.parts k n node.0.what t slot node.2 does in
      let within = (action_is p t q.entry n s.listed.is_entry).within in
      few q.room.part.first (first_code r.stage place) (first_code r.stage (place + 1)) (sum_by unit_instructions r.stage.units) slot.actions (length t.actions) q.entry.action first_is next below limit actions within
    where
      few : (first code behind whole actions listed action : ℕ) → first ≡ code → behind ≡ code + (actions + 1) → behind ≤ whole → whole ≤ 32 → actions ≡ listed → action < listed → first + action < 32
      few first code behind whole actions listed action a b d e f g = omega (arith, a, b, d, e, f, g)

  -- what a cell is given of an entry is that entry
  pub entry_holds : (q : Placed) (s : Stands q) (visible : ℕ) → is_seen (1 + 2 * visible + 8 * (q.room.part.first + q.entry.action)) ≡ true
      → code_of (1 + 2 * visible + 8 * (q.room.part.first + q.entry.action)) ≡ q.room.part.first + q.entry.action
      → HoldsIts p c v lists q s q.entry.number (entry_content (terms_of p s.listed.table) q.room.part visible q.entry)
  entry_holds q s visible seen code =
      let t = s.listed.table in
      let e = q.entry in
      let act = action_is p t e e.table s.listed.is_entry in
      let params : slice_index_or (terms_of p t).params e.action [] ≡ params_of p (slice_index t.actions e.action) =
      get_or_from_slice_get (terms_of p t).params e.action (params_of p (slice_index t.actions e.action)) [] act.params in
      record {
        seen = seen;
        code = code ∙ ap (λ n. n + e.action) s.room.part.first;
        key = refl;
        mask = refl;
        held = subst (λ ws. HasArguments (params_of p (slice_index t.actions e.action)) e.args (args_as_one ws e.args)) (sym params) (has_arguments (params_of p (slice_index t.actions e.action)) e.args act.fits);
        number_is = refl;
      }

  -- ---- placed entries, each in a room of its own

  module _ (placed : List Placed) (apart : AllPairs (Apart p c v lists) placed) where
    same_room : (a b : Placed) → Contains placed a → Contains placed b → is_same a.room b.room ≡ true → a ≡ b
    same_room a b in_a in_b same = elim (two_items (Apart p c v lists) placed a b apart in_a in_b) [
      | inl apart ↦ absurd (false≢true (sym apart.rooms ∙ same))
      | inr (inl apart) ↦
          let at = at_is a.room.part.stage a.room.part.place a.room.cell b.room same in
          absurd (false≢true (sym apart.rooms ∙ at_from b.room.part.stage b.room.part.place b.room.cell a.room (sym at.0) (sym at.1) (sym at.2)))
      | inr (inr is) ↦ is
    ]

    pub placed_there : (q : Placed) → Contains placed q → placed_at placed q.room.part.stage q.room.part.place q.room.cell ≡ Some q
    placed_there q there =
        let test : Placed → Bool = λ (x : Placed). is_same q.room x.room in
        let found = find-some test placed q there (at_from q.room.part.stage q.room.part.place q.room.cell q.room refl refl refl) in
        let is = same_room q found.0 there (All-find (Contains placed) test placed found.0 (All-contains_itself placed) found.1) (find-passes test placed found.0 found.1) in
        found.1 ∙ ap Some (sym is)

    module _ (its : (q : Placed) → Contains placed q → Stands q) (differ : AllPairs (λ (a b : Placed). a.entry.number ≢ b.entry.number) placed)
        (each : (e : Entry) → Contains (all_entries lists) e → (q : Placed) × Contains placed q × (q.entry ≡ e))
        (holds : (q : Placed) (there : Contains placed q) → HoldsIts p c v lists q (its q there) (v.number q.room.part.stage q.room.part.place q.room.cell) (v.content q.room.part.stage q.room.part.place q.room.cell))
        (only : (k place n : ℕ) (slot : SlotUnit) → slot_at c k place ≡ Some slot → is_seen (v.content k place n).head ≡ true → (q : Placed) × (placed_at placed k place n ≡ Some q)) where
      -- a cell that is seen is a placed entry's
      record IsPlacedAt (n : ℕ) (at : Spot) : Type 0 where
        placed_one : Placed
        there : Contains placed placed_one
        table : placed_one.entry.table ≡ n
        spot_is : spot placed_one ≡ at

      only_placed : (n : ℕ) (at : Spot) → IsSpotOf c n at → is_seen (v.content at.stage at.place at.cell).head ≡ true → IsPlacedAt n at
      only_placed n at is seen =
          let part = part_of_spot c n at is in
          let r = only at.stage at.place at.cell part.1 (slot_of_part c n at.stage at.place part.0 part.1 part.2) seen in
          let q = r.0 in
          let f = placed_spot placed at q r.1 in
          let there = f.0 in
          let same = f.1 in
          record {
            placed_one = q;
            there = there;
            table = one_node c q.entry.table n at (subst (IsSpotOf c q.entry.table) same (is_spot q (its q there))) is;
            spot_is = same;
          }

      -- ---- what the map tells

      abbrev pub now : List CellOf
      now = map told_of placed

      -- an entry with its placed one, at a spot
      record IsPlacedOf (n : ℕ) (e : Entry) (at : Spot) : Type 0 where
        placed_one : Placed
        there : Contains placed placed_one
        entry : placed_one.entry ≡ e
        table : placed_one.entry.table ≡ n
        spot_is : spot placed_one ≡ at

      from_told : (n : ℕ) (e : Entry) (at : Spot) → Contains (all_entries lists) e → e.table ≡ n → IsSpotOf c n at → IsTold now e at → IsPlacedOf n e at
      from_told n e at in_after table is is_told =
          let u = Contains-unmap told_of placed (record { entry = e.number; stage = at.stage; cell = at.cell }) is_told in
          let q = u.0 in
          let s = its q u.1 in
          let entry = one_entry p lists q.entry e entries s.entry in_after (ap (λ (x : CellOf). x.entry) u.2) in
          let own : q.entry.table ≡ n = ap (λ (x : Entry). x.table) entry ∙ table in
          let stage : q.room.part.stage ≡ at.stage = ap (λ (x : CellOf). x.stage) u.2 in
          let cell : q.room.cell ≡ at.cell = ap (λ (x : CellOf). x.cell) u.2 in
          let part = part_of_spot c n at is in
          let ours = (unit_of_part p m.places m.placement.parts m.starts c q.entry.table q.room.part.stage q.room.part.place s.room.part.stage q.room.part.slot units s.room.part.part).0 in
          let theirs = (unit_of_part p m.places m.placement.parts m.starts c n at.stage at.place part.0 part.1 units part.2).0 in
          let moved : slice_get (nodes_in p m.placement.parts at.stage) q.room.part.place ≡ Some n =
          ap (λ k. slice_get (nodes_in p m.placement.parts k) q.room.part.place) (sym stage) ∙ ours ∙ ap Some own in
          let place : q.room.part.place ≡ at.place = one_place p m.placement.parts at.stage n q.room.part.place at.place moved theirs in
          record {
            placed_one = q;
            there = u.1;
            entry = entry;
            table = own;
            spot_is = λ i. record { stage = stage i; place = place i; cell = cell i };
          }

      now_told : (q : Placed) → Contains placed q → IsTold now q.entry (spot q)
      now_told q there = Contains-map told_of placed q there

      -- ---- the cells of a table

      module _ (n : ℕ) (t : Table) (es : List Entry) (table_is : table_at p n ≡ Some t) (list_is : slice_get lists n ≡ Some es) where
        in_after : (e : Entry) → Contains es e → Contains (all_entries lists) e
        in_after e there = listed_in lists n es e list_is there

        table_of : (e : Entry) → Contains es e → e.table ≡ n
        table_of e there =
            let is = All-contains (IsEntry n (terms_of p t)) es e (table_entries p lists n t es entries table_is list_is).each there in
            is.table

        its_table : (q : Placed) (s : Stands q) → q.entry.table ≡ n → s.listed.table ≡ t
        its_table q s same = same_Some s.listed.table t (sym s.listed.table_is ∙ ap (table_at p) same ∙ table_is)

        in_list : (q : Placed) (s : Stands q) → q.entry.table ≡ n → Contains es q.entry
        in_list q s same = subst (λ xs. Contains xs q.entry) (same_Some s.listed.list es (sym s.listed.list_is ∙ ap (slice_get lists) same ∙ list_is)) s.listed.there

        abbrev At : Entry → Spot → Type 0
        At e at = IsPlacedOf n e at

        at_told : (e : Entry) (at : Spot) → Contains es e → IsSpotOf c n at → IsTold now e at → At e at
        at_told e at there is is_told = from_told n e at (in_after e there) (table_of e there) is is_told

        table_only : (at : Spot) → IsSpotOf c n at → is_seen (v.content at.stage at.place at.cell).head ≡ true → (e : Entry) × Contains es e × IsTold now e at
        table_only at is seen =
            let r = only_placed n at is seen in
            let q = r.placed_one in
            (q.entry, in_list q (its q r.there) r.table, subst (IsTold now q.entry) r.spot_is (now_told q r.there))

        has_spot : (e : Entry) → Contains es e → (at : Spot) × IsSpotOf c n at × IsTold now e at
        has_spot e there =
            let r = each e (in_after e there) in
            let q = r.0 in
            let own : q.entry.table ≡ n = ap (λ (x : Entry). x.table) r.2 ∙ table_of e there in
            (spot q, subst (λ k. IsSpotOf c k (spot q)) own (is_spot q (its q r.1)), subst (λ x. IsTold now x (spot q)) r.2 (now_told q r.1))

        table_holds : (e : Entry) (at : Spot) (stage : Stage) → At e at → slice_get c.stages at.stage ≡ Some stage
            → HoldsEntry p t (widths p c v lists t) (first_code stage at.place) e (v.number at.stage at.place at.cell) (v.content at.stage at.place at.cell)
        table_holds e at stage r stage_is =
            let q = r.placed_one in
            let s = its q r.there in
            let stages : s.room.part.stage ≡ stage =
            same_Some s.room.part.stage stage (sym s.room.part.part.stage_is ∙ ap (λ (x : Spot). slice_get c.stages x.stage) r.spot_is ∙ stage_is) in
            subst (λ (x : Table × Stage × Entry × Spot).
            HoldsEntry p x.0 (widths p c v lists x.0) (first_code x.1 x.3.place) x.2 (v.number x.3.stage x.3.place x.3.cell) (v.content x.3.stage x.3.place x.3.cell))
            (λ i. ((its_table q s r.table) i, stages i, r.entry i, r.spot_is i)) (holds q r.there)

        table_candidate : (e : Entry) (at : Spot) → At e at → IsCandidate c v (tests_as_one (λ u. u.value) (widths p c v lists t) e.tests) at
        table_candidate e at r =
            let q = r.placed_one in
            let s = its q r.there in
            subst (λ (x : Table × Entry × Spot). IsCandidate c v (tests_as_one (λ u. u.value) (widths p c v lists x.0) x.1.tests) x.2)
            (λ i. ((its_table q s r.table) i, r.entry i, r.spot_is i)) (is_candidate q s)

        table_order : (e f : Entry) (a b : Spot) → At e a → At f b → goes_first t.kind e f ≡ true → IsBefore a b
        table_order e f a b ra rb h =
            let qa = ra.placed_one in
            let qb = rb.placed_one in
            let goes : goes_first t.kind qa.entry qb.entry ≡ true = (λ i. goes_first t.kind (ra.entry i) (rb.entry i)) ∙ h in
            let same : qa.entry.table ≡ qb.entry.table = ra.table ∙ sym rb.table in
            let in_order : InOrder p c v lists qa qb → IsBefore a b =
            λ order. subst (λ (x : Spot × Spot). IsBefore x.0 x.1) (λ i. (ra.spot_is i, rb.spot_is i)) (before_to qa qb (order t (ap (table_at p) ra.table ∙ table_is) same goes)) in
            elim (two_items (Apart p c v lists) placed qa qb apart ra.there rb.there) [
              | inl apart ↦ in_order apart.forth
              | inr (inl apart) ↦ in_order apart.back
              | inr (inr is) ↦ absurd (goes_never t.kind qa.entry (ap (λ (q : Placed). goes_first t.kind qa.entry q.entry) is ∙ goes))
            ]

        table_one : (e : Entry) (a b : Spot) → At e a → At e b → a ≡ b
        table_one e a b ra rb =
            sym ra.spot_is
            ∙ ap spot (same_placed placed differ ra.placed_one rb.placed_one ra.there rb.there (ap (λ (x : Entry). x.number) (ra.entry ∙ sym rb.entry)))
            ∙ rb.spot_is

        table_carried : TableCellsCarried p c v now n t (widths p c v lists t) es
        table_carried = record {
          only = table_only;
          each = All-weaker (Contains es) (λ e. (at : Spot) × IsSpotOf c n at × IsTold now e at) has_spot es (All-contains_itself es);
          one = λ e a b there is_a is_b told_a told_b. table_one e a b (at_told e a there is_a told_a) (at_told e b there is_b told_b);
          holds = λ e at stage there is is_told stage_is. table_holds e at stage (at_told e at there is is_told) stage_is;
          candidate = λ e at there is is_told. table_candidate e at (at_told e at there is is_told);
          order = λ e f a b there_e there_f is_a is_b told_a told_b h. table_order e f a b (at_told e a there_e is_a told_a) (at_told f b there_f is_b told_b) h;
        }

      -- ---- all cells

      abbrev IsOfEntry : CellOf → Type 0
      IsOfEntry x = (n : ℕ) × (e : Entry) × (place : ℕ) × IsSomeAnd (slice_get lists n) (λ es. Contains es e)
          × (e.number ≡ x.entry) × IsSpotOf c n (record { stage = x.stage; place = place; cell = x.cell })

      of_entry : (q : Placed) → Contains placed q → IsOfEntry (told_of q)
      of_entry q there =
          let s = its q there in
          (q.entry.table, q.entry, q.room.part.place, some_from (slice_get lists q.entry.table) (λ es. Contains es q.entry) s.listed.list s.listed.list_is s.listed.there, refl, is_spot q s)

      pub all_carried : CellsCarried p c v now lists
      all_carried = record {
        tables = table_carried;
        once = AllPairs-map ◌≢◌ told_of placed
            (AllPairs-weaker (λ (a b : Placed). a.entry.number ≢ b.entry.number) (λ a b. told_of a ≢ told_of b) (λ a b apart same. apart (ap (λ (x : CellOf). x.entry) same)) placed differ);
        no_other = All-map IsOfEntry told_of placed (All-weaker (Contains placed) (λ q. IsOfEntry (told_of q)) of_entry placed (All-contains_itself placed));
      }
