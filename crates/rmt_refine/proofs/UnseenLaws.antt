-- While a commit that moves no cell changes cells, a packet of the current version finds in them what it found before.
use Rattle.std.proofs.Common.{◌≡◌, ◌⊎◌, ℕ, zero, suc, ◌+◌, ◌*◌, ◌^◌, ◌%◌, ◌==◌, Bool, true, false, ◌&&◌, cond, List, [], ◌∷◌, fold, take, Option, Some, None, All, refl, sym, ap, subst, ◌∙◌, inl, inr}
use Rattle.std.specs.Prelude.{AllPairs, bit_and, find, is_some, option_and_then, option_map, unwrap_or}
use Rattle.std.proofs.lemmas.Bool.{and_left, and_parts, and_right, eqb-true, false≢true, false_from_ne_true}
use Rattle.std.proofs.lemmas.List.Elements.{All-head, All-tail, All-take, All-weaker}
use Rattle.rmt_bits.proofs.AllLaws.{All-find}
use Rattle.rmt_bits.proofs.FunctionLaws.{funext}
use Rattle.rmt_bits.proofs.ListLaws.{find-passes}
use Rattle.rmt_bits.proofs.PairLaws.{AllPairs-head, AllPairs-tail}
use Rattle.rmt_ast.specs.declared.entry.Entry.{Entry}
use Rattle.rmt_ast.specs.declared.names.Names.{Names}
use Rattle.rmt_ast.specs.EntryLists.{Terms}
use Rattle.rmt_ast.specs.NameRules.{terms_named}
use Rattle.rmt_refine.specs.Types.{Config, SlotUnit}
use Rattle.rmt_config.specs.LaneForm.{bits_of_lanes}
use Rattle.rmt_config.specs.Cells.{Content, candidates, code_of, is_occupied, visible_bits}
use Rattle.rmt_config.specs.declared.cell_write.CellWrite.{CellWrite}
use Rattle.rmt_config.specs.RunCells.{RunCells, emptied, found_at, found_in_slot, has_bit, is_changed, is_hit, look_in, no_content, sees, slot_at, with_write, written_content}
use Rattle.rmt_config.specs.Rooms.{content_in, entry_content, is_at, number_in}
use Rattle.rmt_config.specs.Commits.{all_entries, AreWrites, IsCell, Placed, coming_content, leaving_content, placed_after, placed_at, settled, settled_content, settled_number, stays, staying_content, with_bit, without_bit, writes_before}
use Rattle.rmt_config.proofs.CommitLaws.{writes_apart}
use Rattle.rmt_refine.specs.Commits.{ChangesAreUnseen}
use Rattle.rmt_refine.proofs.VisibleBitLaws.{AreSeenAlike, clear-alike, set-alike, unseen_coming, unseen_without}
use Rattle.rmt_pack.proofs.PlacedLaws.{Comes, HasItsRoom, Stays, each_has_its_room}

-- ---- cells that a packet sees alike

-- a packet of a version sees two cells alike, which have these numbers
record Alike (v : ℕ) (a b : Content) (m n : ℕ) : Type 0 where
  seen : sees true v a.head ≡ sees true v b.head
  same : sees true v a.head ≡ true → (code_of a.head ≡ code_of b.head) × (a.key ≡ b.key) × (a.mask ≡ b.mask) × (a.held ≡ b.held) × (m ≡ n)

alike_unseen : (v : ℕ) (a b : Content) (m n : ℕ) → sees true v a.head ≡ false → sees true v b.head ≡ false → Alike v a b m n
alike_unseen v a b m n na nb = record { seen = na ∙ sym nb; same = λ met. absurd (false≢true (sym na ∙ met)) }

-- of heads that are seen alike both are seen, or none
seen_both : (v a b : ℕ) → AreSeenAlike v a b → sees true v a ≡ sees true v b
seen_both v a b h = ap (λ o. o && has_bit v a) h.occupied ∙ ap (λ s. is_occupied b && s) h.seen

-- a cell of which the head alone changes, into one that is seen alike
alike_head : (v : ℕ) (a : Content) (head m n : ℕ) → AreSeenAlike v a.head head → (sees true v a.head ≡ true → m ≡ n) → Alike v a (record a { head = head }) m n
alike_head v a head m n h number = record { seen = seen_both v a.head head h; same = λ met. (h.code, refl, refl, refl, number met) }

alike_hit : (v key : ℕ) (a b : Content) (m n : ℕ) → Alike v a b m n → is_hit true v key a ≡ is_hit true v key b
alike_hit v key a b m n h = by (sees true v a.head) refl
  where
    by : (s : Bool) → sees true v a.head ≡ s → is_hit true v key a ≡ is_hit true v key b
    by false e = and_left (sees true v a.head) (bit_and key a.mask == a.key) e ∙ sym (and_left (sees true v b.head) (bit_and key b.mask == b.key) (sym h.seen ∙ e))
    by true e =
        let same = h.same e in
        ap (λ s. s && (bit_and key a.mask == a.key)) h.seen ∙ ap (λ k. sees true v b.head && (bit_and key a.mask == k)) same.1
        ∙ ap (λ mask. sees true v b.head && (bit_and key mask == b.key)) same.2

module _ (v : ℕ) (cells others : RunCells) (k place : ℕ) (seeds : cells.seed ≡ others.seed)
    (each : (n : ℕ) → Alike v (cells.content k place n) (others.content k place n) (cells.number k place n) (others.number k place n)) where
  abbrev hit_by : RunCells → ℕ → ℕ → Bool
  hit_by x key n = is_hit true v key (x.content k place n)

  found_alike : (key : ℕ) (slot : SlotUnit) → found_in_slot true v others k place key slot ≡ found_in_slot true v cells k place key slot
  found_alike key slot =
      let tests = funext (hit_by others key) (hit_by cells key)
      (λ n. sym (alike_hit v key (cells.content k place n) (others.content k place n) (cells.number k place n) (others.number k place n) (each n))) in
      ap (λ test. option_map (found_at others k place) (find test (candidates others.seed (bits_of_lanes slot.keys) slot.memory key))) tests
      ∙ ap (λ seed. option_map (found_at others k place) (find (hit_by cells key) (candidates seed (bits_of_lanes slot.keys) slot.memory key))) (sym seeds)
      ∙ by (find (hit_by cells key) (candidates cells.seed (bits_of_lanes slot.keys) slot.memory key)) refl
    where
      by : (o : Option ℕ) → find (hit_by cells key) (candidates cells.seed (bits_of_lanes slot.keys) slot.memory key) ≡ o → option_map (found_at others k place) o ≡ option_map (found_at cells k place) o
      by None e = refl
      by (Some n) e =
          let passes = find-passes (hit_by cells key) (candidates cells.seed (bits_of_lanes slot.keys) slot.memory key) n e in
          let seen = (and_parts (sees true v (cells.content k place n).head) (bit_and key (cells.content k place n).mask == (cells.content k place n).key) passes).0 in
          let same = (each n).same seen in
          ap Some (sym (λ i. record { code = same.0 i; held = same.3 i; number = same.4 i }))

  look_alike : (c : Config) (names : Names) (key : ℕ) → c.names ≡ Some names → look_in c v others k place key ≡ look_in c v cells k place key
  look_alike c names key e =
      ap (λ (o : Option Names). option_and_then (found_in_slot (is_some o) v others k place key) (slot_at c k place)) e
      ∙ in_slot (slot_at c k place)
      ∙ sym (ap (λ (o : Option Names). option_and_then (found_in_slot (is_some o) v cells k place key) (slot_at c k place)) e)
    where
      in_slot : (o : Option SlotUnit) → option_and_then (found_in_slot true v others k place key) o ≡ option_and_then (found_in_slot true v cells k place key) o
      in_slot None = refl
      in_slot (Some slot) = found_alike key slot

-- ---- what a commit leaves of a cell

module _ (c : Config) (names : Names) (cells : RunCells) (before after : List (List Entry)) (placed : List Placed) (made : placed_after c names cells before after ≡ Some placed) (k place n : ℕ) where
  abbrev now : Content
  now = cells.content k place n

  abbrev Becomes : Content → ℕ → Type 0
  Becomes x number = Alike cells.version now x (cells.number k place n) number

  -- the room of a placed entry that is this cell
  there : (p : Placed) → is_at k place n p.room ≡ true → (p.room.part.stage ≡ k) × (p.room.part.place ≡ place) × (p.room.cell ≡ n)
  there p at =
      let parts = and_parts ((p.room.part.stage == k) && (p.room.part.place == place)) (p.room.cell == n) at in
      let two = and_parts (p.room.part.stage == k) (p.room.part.place == place) parts.0 in
      (eqb-true p.room.part.stage k two.0, eqb-true p.room.part.place place two.1, eqb-true p.room.cell n parts.1)

  content_there : (p : Placed) → is_at k place n p.room ≡ true → content_in cells p.room ≡ now
  content_there p at = let t = there p at in λ i. cells.content (t.0 i) (t.1 i) (t.2 i)

  number_there : (p : Placed) → is_at k place n p.room ≡ true → number_in cells p.room ≡ cells.number k place n
  number_there p at = let t = there p at in λ i. cells.number (t.0 i) (t.1 i) (t.2 i)

  -- an entry that comes isn't seen
  coming_unseen : (p : Placed) → sees true cells.version (coming_content names (cells.version + 1) p).head ≡ false
  coming_unseen p = by (terms_named names p.entry.table)
    where
      by : (o : Option Terms) → sees true cells.version (unwrap_or (option_map (λ t. entry_content t p.room.part (2 ^ ((cells.version + 1) % 2)) p.entry) o) (emptied p.room.part.slot)).head ≡ false
      by None = refl
      by (Some t) =
          let head = 1 + 2 * 2 ^ ((cells.version + 1) % 2) + 8 * (p.room.part.first + p.entry.action) in
          and_right (is_occupied head) (has_bit cells.version head) (unseen_coming cells.version (p.room.part.first + p.entry.action))

  placed_alike : (p : Placed) → is_at k place n p.room ≡ true → HasItsRoom c names cells before (all_entries after) p
      → Becomes (settled_content c names cells before (Some p) k place n) (settled_number cells (Some p) k place n)
  placed_alike p at has = by has.kept
    where
      by : Stays c names cells before p ⊎ Comes c names cells before p → Becomes (settled_content c names cells before (Some p) k place n) (settled_number cells (Some p) k place n)
      by (inl x) =
          subst (λ b. Becomes (cond b (staying_content (cells.version + 1) now) (coming_content names (cells.version + 1) p)) p.entry.number) (sym x.stood)
          (alike_head cells.version now (with_bit (cells.version + 1) now.head) (cells.number k place n) p.entry.number (set-alike cells.version now.head) (λ met. sym (number_there p at) ∙ x.number))
      by (inr x) =
          let unseen = and_right (is_occupied now.head) (has_bit cells.version now.head) (ap (λ (y : Content). has_bit cells.version y.head) (sym (content_there p at)) ∙ x.unseen) in
          subst (λ b. Becomes (cond b (staying_content (cells.version + 1) now) (coming_content names (cells.version + 1) p)) p.entry.number) (sym x.new)
          (alike_unseen cells.version now (coming_content names (cells.version + 1) p) (cells.number k place n) p.entry.number unseen (coming_unseen p))

  abbrev cleared : ℕ
  cleared = without_bit (cells.version + 1) now.head

  abbrev left_number : Bool → ℕ
  left_number b = cond b 0 (cells.number k place n)

  -- a cell that is seen keeps a visible bit
  is_left : sees true cells.version now.head ≡ true → (visible_bits cleared == 0) ≡ false
  is_left met = false_from_ne_true (visible_bits cleared == 0) (λ none.
      let unseen = unseen_without cells.version cleared (eqb-true (visible_bits cleared) 0 none) in
      let seen = (and_parts (is_occupied now.head) (has_bit cells.version now.head) met).1 in
      false≢true (sym unseen ∙ sym (clear-alike cells.version now.head).seen ∙ seen))

  left_alike : Becomes (record now { head = cleared }) (left_number (visible_bits cleared == 0))
  left_alike =
      alike_head cells.version now cleared (cells.number k place n) (left_number (visible_bits cleared == 0)) (clear-alike cells.version now.head)
      (λ met. sym (ap left_number (is_left met)))

  leaving_alike : (slot : SlotUnit) → Becomes (leaving_content (cells.version + 1) slot now) (left_number (visible_bits cleared == 0))
  leaving_alike slot = by (visible_bits cleared == 0) refl
    where
      by : (b : Bool) → (visible_bits cleared == 0) ≡ b → Becomes (cond b (emptied slot) (record now { head = cleared })) (left_number (visible_bits cleared == 0))
      by false e = left_alike
      by true e =
          let unseen = false_from_ne_true (sees true cells.version now.head) (λ met. false≢true (sym (is_left met) ∙ e)) in
          alike_unseen cells.version now (emptied slot) (cells.number k place n) (left_number (visible_bits cleared == 0)) unseen refl

  kept_alike : Becomes now (left_number (visible_bits cleared == 0))
  kept_alike = record { seen = refl; same = λ met. (refl, refl, refl, refl, sym (ap left_number (is_left met))) }

  none_alike : Becomes (settled_content c names cells before None k place n) (settled_number cells None k place n)
  none_alike = by (is_occupied now.head)
    where
      in_slot : (o : Option SlotUnit) → Becomes (unwrap_or (option_map (λ slot. leaving_content (cells.version + 1) slot now) o) now) (left_number (visible_bits cleared == 0))
      in_slot None = kept_alike
      in_slot (Some slot) = leaving_alike slot

      by : (b : Bool) → Becomes (cond b (unwrap_or (option_map (λ slot. leaving_content (cells.version + 1) slot now) (slot_at c k place)) now) now) (left_number (visible_bits cleared == 0))
      by true = in_slot (slot_at c k place)
      by false = kept_alike

  settled_alike : Becomes ((settled c names cells before placed).content k place n) ((settled c names cells before placed).number k place n)
  settled_alike = by (placed_at placed k place n) refl
    where
      by : (o : Option Placed) → placed_at placed k place n ≡ o → Becomes (settled_content c names cells before o k place n) (settled_number cells o k place n)
      by None e = none_alike
      by (Some p) e =
          placed_alike p (find-passes (λ (q : Placed). is_at k place n q.room) placed p e)
          (All-find (HasItsRoom c names cells before (all_entries after)) (λ (q : Placed). is_at k place n q.room) placed p (each_has_its_room c names cells before after placed made) e)

-- ---- some of the changes

module _ (c : Config) (k place n : ℕ) where
  abbrev pub at : RunCells → Content × ℕ
  at cells = (cells.content k place n, cells.number k place n)

  abbrev pub changed_by : CellWrite → Bool
  changed_by w = is_changed w k place n

  pub one_other : (cells : RunCells) (w : CellWrite) → changed_by w ≡ false → at (with_write c cells w) ≡ at cells
  one_other cells w e =
      ap (λ b. (cond b (unwrap_or (option_map (written_content w) (slot_at c k place)) no_content) (cells.content k place n), cond b (cond (w.visible == 0) 0 w.number) (cells.number k place n))) e

  pub all_others : (cells : RunCells) (ws : List CellWrite) → All (λ w. changed_by w ≡ false) ws → at (fold (with_write c) cells ws) ≡ at cells
  all_others cells [] h = refl
  all_others cells (w ∷ ws) h =
      all_others (with_write c cells w) ws (All-tail (λ x. changed_by x ≡ false) w ws h) ∙ one_other cells w (All-head (λ x. changed_by x ≡ false) w ws h)

  pub where_is : (w : CellWrite) → changed_by w ≡ true → (w.stage ≡ k) × (w.unit ≡ place) × (w.cell ≡ n)
  where_is w e =
      let parts = and_parts ((w.stage == k) && (w.unit == place)) (w.cell == n) e in
      let two = and_parts (w.stage == k) (w.unit == place) parts.0 in
      (eqb-true w.stage k two.0, eqb-true w.unit place two.1, eqb-true w.cell n parts.1)

  -- a cell changes once
  pub not_again : (w x : CellWrite) → changed_by w ≡ true → writes_before w x ≡ true → changed_by x ≡ false
  not_again w x e o = false_from_ne_true (changed_by x) (λ f.
      let a = where_is w e in
      let b = where_is x f in
      writes_apart w x o (a.0 ∙ sym b.0) (a.1 ∙ sym b.1) (a.2 ∙ sym b.2))

  pub is_cell : (w : CellWrite) → changed_by w ≡ true → IsCell c w.stage w.unit w.cell → IsCell c k place n
  is_cell w e h = let at_w = where_is w e in subst (λ m. IsCell c k place m) at_w.2 (subst (λ m. IsCell c k m w.cell) at_w.1 (subst (λ m. IsCell c m w.unit w.cell) at_w.0 h))

  -- after some changes a cell is as it was, or as it is after all of them
  either : (cells : RunCells) (ws : List CellWrite) (count : ℕ) → AllPairs (λ a b. writes_before a b ≡ true) ws → All (λ (w : CellWrite). IsCell c w.stage w.unit w.cell) ws
      → (at (fold (with_write c) cells (take count ws)) ≡ at cells) ⊎ ((at (fold (with_write c) cells (take count ws)) ≡ at (fold (with_write c) cells ws)) × IsCell c k place n)
  either cells ws zero order are = inl refl
  either cells [] (suc count) order are = inl refl
  either cells (w ∷ ws) (suc count) order are =
      by (changed_by w) refl
      (either (with_write c cells w) ws count (AllPairs-tail (λ a b. writes_before a b ≡ true) w ws order) (All-tail (λ (x : CellWrite). IsCell c x.stage x.unit x.cell) w ws are))
    where
      behind : RunCells
      behind = with_write c cells w

      by : (b : Bool) → changed_by w ≡ b
          → (at (fold (with_write c) behind (take count ws)) ≡ at behind) ⊎ ((at (fold (with_write c) behind (take count ws)) ≡ at (fold (with_write c) behind ws)) × IsCell c k place n)
          → (at (fold (with_write c) cells (take (suc count) (w ∷ ws))) ≡ at cells) ⊎ ((at (fold (with_write c) cells (take (suc count) (w ∷ ws))) ≡ at (fold (with_write c) cells (w ∷ ws))) × IsCell c k place n)
      by true e rest =
          let later = All-weaker (λ x. writes_before w x ≡ true) (λ x. changed_by x ≡ false) (λ x. not_again w x e) ws (AllPairs-head (λ a b. writes_before a b ≡ true) w ws order) in
          inr (
            all_others (with_write c cells w) (take count ws) (All-take (λ x. changed_by x ≡ false) count ws later) ∙ sym (all_others (with_write c cells w) ws later),
            is_cell w e (All-head (λ (x : CellWrite). IsCell c x.stage x.unit x.cell) w ws are),
          )
      by false e rest = elim rest [
        | inl same ↦ inl (same ∙ one_other cells w e)
        | inr made ↦ inr made
      ]

pub seed_stays : (c : Config) (cells : RunCells) (ws : List CellWrite) → (fold (with_write c) cells ws).seed ≡ cells.seed
seed_stays c cells [] = refl
seed_stays c cells (w ∷ ws) = seed_stays c (with_write c cells w) ws

some_alike : (c : Config) (names : Names) (cells : RunCells) (before after : List (List Entry)) (placed : List Placed) (writes : List CellWrite) (count k place n : ℕ)
    → placed_after c names cells before after ≡ Some placed → AreWrites c cells (settled c names cells before placed) writes
    → Alike cells.version (cells.content k place n) ((fold (with_write c) cells (take count writes)).content k place n) (cells.number k place n) ((fold (with_write c) cells (take count writes)).number k place n)
some_alike c names cells before after placed writes count k place n made w = elim (either c k place n cells writes count w.in_order w.cells_are) [
  | inl same ↦ become (at c k place n cells) (sym same) (record { seen = refl; same = λ met. (refl, refl, refl, refl, refl) })
  | inr done ↦
      let content = ap (λ (x : Content × ℕ). x.0) done.0 ∙ w.content k place n done.1 in
      let number = ap (λ (x : Content × ℕ). x.1) done.0 ∙ w.number k place n done.1 in
      become ((settled c names cells before placed).content k place n, (settled c names cells before placed).number k place n) (λ i. (sym content i, sym number i)) (settled_alike c names cells before after placed made k place n)
]
  where
    become : (x : Content × ℕ) → x ≡ at c k place n (fold (with_write c) cells (take count writes)) → Alike cells.version (cells.content k place n) x.0 (cells.number k place n) x.1
        → Alike cells.version (cells.content k place n) ((fold (with_write c) cells (take count writes)).content k place n) (cells.number k place n) ((fold (with_write c) cells (take count writes)).number k place n)
    become x e h = subst (λ (y : Content × ℕ). Alike cells.version (cells.content k place n) y.0 (cells.number k place n) y.1) e h

pub changes_unseen : ChangesAreUnseen
changes_unseen c names cells before after next seed writes count k place key named (stays placed made) w =
    look_alike cells.version cells (fold (with_write c) cells (take count writes)) k place (sym (seed_stays c cells (take count writes)))
    (λ n. some_alike c names cells before after placed writes count k place n made w) c names key named
