-- Each entry of a run has a cell that the current version sees, and a commit keeps it so.
use Rattle.std.proofs.Common.{◌≡◌, ◌⊎◌, inl, inr, ℕ, ◌+◌, ◌*◌, ◌/◌, ◌%◌, ◌^◌, ◌==◌, ◌&&◌, Bool, true, cond, List, [], ◌∷◌, ◌++◌, filter_map, Option, Some, None, option_map, unwrap_or, sym, refl, ap, ◌∙◌, subst, arith}
use Rattle.std.specs.Prelude.{All, Contains, IsSomeAnd, find, option_and_then}
use Rattle.std.specs.List.{cons_option}
use Rattle.std.proofs.lemmas.Bool.{and_from, and_parts, cases_eq, eq-eqb, eqb-true, false≢true}
use Rattle.std.proofs.lemmas.List.Elements.{All-cons, All-contains, All-nil, Contains-append_cases}
use Rattle.std.proofs.lemmas.Option.{none-some, same_Some}
use Rattle.rmt_bits.proofs.FindLaws.{find-some}
use Rattle.rmt_bits.proofs.ListLaws.{find-passes}
use Rattle.rmt_bits.proofs.MemberLaws.{Contains-split, Contains-unmap, list_any-Contains}
use Rattle.rmt_ast.specs.declared.entry.Entry.{Entry}
use Rattle.rmt_ast.specs.declared.names.Names.{Names}
use Rattle.rmt_ast.specs.Changes.{list_of}
use Rattle.rmt_ast.specs.EntryLists.{Terms}
use Rattle.rmt_ast.specs.NameRules.{terms_named}
use Rattle.rmt_config.specs.declared.config.Config.{Config}
use Rattle.rmt_config.specs.Cells.{Content, is_occupied}
use Rattle.rmt_config.specs.Commits.{AreFilled, IsFilled, Placed, all_entries, coming_content, filled, filled_content, is_numbered_in, placed_after, placed_now, rooms_of, settled, settled_content, settled_number, stay, staying_content}
use Rattle.rmt_config.specs.Rooms.{Room, content_in, entry_content, is_at, is_same, number_in}
use Rattle.rmt_config.specs.RunCells.{RunCells, emptied, sees, with_version}
use Rattle.rmt_refine.specs.Commits.{KeepEntries}
use Rattle.rmt_refine.proofs.FilledLaws.{full_seen}
use Rattle.rmt_pack.proofs.RoomOrderLaws.{room_there}
use Rattle.rmt_refine.proofs.PartLaws.{some_and}
use Rattle.rmt_pack.proofs.PlacedLaws.{Comes, HasItsRoom, Stays, Takes, all_placed, each_has_its_room, each_placed}
use Rattle.rmt_refine.proofs.VisibleBitLaws.{seen_next, bit}
use Rattle.rmt_update.proofs.OncePlaced.{at-own, at-place, both-at, found-in, placed-found}

-- ---- heads that a version sees

-- a version has one of two parities
at_parity : (P : ℕ → Type 0) (v : ℕ) → P 0 → P 1 → P (v % 2)
at_parity P v zero_is one_is = elim (cases_eq (v % 2) 0) [
  | inl e ↦ subst P (sym e) zero_is
  | inr ne ↦ let one : 1 ≡ v % 2 = omega (arith, ne) in subst P one one_is
]

-- that of an entry that comes
seen_new : (v i : ℕ) → sees true v (1 + 2 * 2 ^ (v % 2) + 8 * i) ≡ true
seen_new v i =
    at_parity (λ m. (is_occupied (1 + 2 * 2 ^ m + 8 * i) && bit m (1 + 2 * 2 ^ m + 8 * i)) ≡ true) v
    (and_from (is_occupied (1 + 2 * 1 + 8 * i)) (bit 0 (1 + 2 * 1 + 8 * i)) (eq-eqb ((1 + 2 * 1 + 8 * i) % 2) 1 (omega arith)) (eq-eqb ((1 + 2 * 1 + 8 * i) / 2 % 2) 1 (omega arith)))
    (and_from (is_occupied (1 + 2 * 2 + 8 * i)) (bit 1 (1 + 2 * 2 + 8 * i)) (eq-eqb ((1 + 2 * 2 + 8 * i) % 2) 1 (omega arith)) (eq-eqb ((1 + 2 * 2 + 8 * i) / 4 % 2) 1 (omega arith)))

-- ---- entries with cells

-- an entry has a cell that the current version sees, among the rooms of its key
pub record HasCell (c : Config) (names : Names) (cells : RunCells) (e : Entry) : Type 0 where
  pub terms : Terms
  pub named : terms_named names e.table ≡ Some terms
  pub room : Room
  pub there : Contains (rooms_of c terms cells e) room
  pub seen : sees true cells.version (content_in cells room).head ≡ true
  pub number : number_in cells room ≡ e.number

abbrev pub EachHasCell : Config → Names → RunCells → List (List Entry) → Type 0
EachHasCell c names cells lists = (e : Entry) → Contains (all_entries lists) e → HasCell c names cells e

module _ (c : Config) (names : Names) (cells : RunCells) where
  abbrev is_its : Entry → Room → Bool
  is_its e room = sees true cells.version (content_in cells room).head && (number_in cells room == e.number)

  -- so it is placed now
  now_placed : (e : Entry) → HasCell c names cells e → (q : Placed) × (placed_now c names cells e ≡ Some q)
  now_placed e h =
      let own = and_from (sees true cells.version (content_in cells h.room).head) (number_in cells h.room == e.number) h.seen (eq-eqb (number_in cells h.room) e.number h.number) in
      let found = find-some (is_its e) (rooms_of c h.terms cells e) h.room h.there own in (
        record { entry = e; room = found.0 },
        ap (λ (o : Option Terms). option_map (λ room. record { entry = e; room = room }) (option_and_then (λ (t : Terms). find (is_its e) (rooms_of c t cells e)) o)) h.named
            ∙ ap (option_map (λ room. record { entry = e; room = room })) found.1,
      )

  -- what is placed now has its number
  now_number : (e : Entry) (q : Placed) → placed_now c names cells e ≡ Some q → number_in cells q.room ≡ q.entry.number
  now_number e q h = by (terms_named names e.table) h
    where
      in_rooms : (t : Terms) (o : Option Room) → find (is_its e) (rooms_of c t cells e) ≡ o → option_map (λ room. record { entry = e; room = room }) o ≡ Some q → number_in cells q.room ≡ q.entry.number
      in_rooms t None f k = absurd (none-some q k)
      in_rooms t (Some room) f k =
          let parts = and_parts (sees true cells.version (content_in cells room).head) (number_in cells room == e.number) (find-passes (is_its e) (rooms_of c t cells e) room f) in
          subst (λ (x : Placed). number_in cells x.room ≡ x.entry.number) (same_Some (record { entry = e; room = room }) q k) (eqb-true (number_in cells room) e.number parts.1)

      by : (o : Option Terms) → option_map (λ room. record { entry = e; room = room }) (option_and_then (λ (t : Terms). find (is_its e) (rooms_of c t cells e)) o) ≡ Some q → number_in cells q.room ≡ q.entry.number
      by None k = absurd (none-some q k)
      by (Some t) k = in_rooms t (find (is_its e) (rooms_of c t cells e)) refl k

  now_numbers : (es : List Entry) → All (λ (q : Placed). number_in cells q.room ≡ q.entry.number) (filter_map (placed_now c names cells) es)
  now_numbers [] = All-nil (λ (q : Placed). number_in cells q.room ≡ q.entry.number)
  now_numbers (e ∷ es) = by (placed_now c names cells e) refl (now_numbers es)
    where
      rest : List Placed
      rest = filter_map (placed_now c names cells) es

      by : (o : Option Placed) → placed_now c names cells e ≡ o → All (λ (q : Placed). number_in cells q.room ≡ q.entry.number) rest → All (λ (q : Placed). number_in cells q.room ≡ q.entry.number) (cons_option o rest)
      by None k behind = behind
      by (Some q) k behind = All-cons (λ (x : Placed). number_in cells x.room ≡ x.entry.number) q rest (now_number e q k) behind

  -- ---- a commit that moves no cell

  -- entries in one cell have one number
  abbrev AgreeOnCells : List Placed → Type 0
  AgreeOnCells ps = (a b : Placed) → Contains ps a → Contains ps b → is_same a.room b.room ≡ true → a.entry.number ≡ b.entry.number

  same_number : (a b : Room) → is_same a b ≡ true → number_in cells a ≡ number_in cells b
  same_number a b h = let at = at-place a.part.stage a.part.place a.cell b h in λ i. cells.number (sym at.stage i) (sym at.place i) (sym at.cell i)

  same_back : (a b : Room) → is_same a b ≡ true → is_same b a ≡ true
  same_back a b h = both-at a.part.stage a.part.place a.cell b a h (at-own a.part a.cell)

  module _ (before after : List (List Entry)) (placed : List Placed) (made : placed_after c names cells before after ≡ Some placed) where
    stay_agree : AgreeOnCells (filter_map (placed_now c names cells) (stay before after))
    stay_agree a b in_a in_b h =
        let all = now_numbers (stay before after) in
        let staying = filter_map (placed_now c names cells) (stay before after) in
        let P : Placed → Type 0 = λ q. number_in cells q.room ≡ q.entry.number in
        sym (All-contains P staying a all in_a) ∙ same_number a.room b.room h ∙ All-contains P staying b all in_b

    last_is : (p x : Placed) → Contains (p ∷ []) x → p ≡ x
    last_is p x there = elim (Contains-split p [] x there) [
      | inl e ↦ e
      | inr more ↦ let lt = more.1 in absurd (omega (arith, lt))
    ]

    come_agree : (ps : List Placed) (p : Placed) → AgreeOnCells ps → Takes c names cells before (all_entries after) ps p → AgreeOnCells (ps ++ p ∷ [])
    come_agree ps p good takes a b in_a in_b h = elim (Contains-append_cases ps (p ∷ []) a in_a) [
      | inl x ↦ elim (Contains-append_cases ps (p ∷ []) b in_b) [
        | inl y ↦ good a b x y h
        | inr y ↦ absurd (never a x (subst (λ (q : Placed). is_same a.room q.room ≡ true) (sym (last_is p b y)) h))
      ]
      | inr x ↦ elim (Contains-append_cases ps (p ∷ []) b in_b) [
        | inl y ↦ absurd (never b y (same_back p.room b.room (subst (λ (q : Placed). is_same q.room b.room ≡ true) (sym (last_is p a x)) h)))
        | inr y ↦ ap (λ (q : Placed). q.entry.number) (sym (last_is p a x) ∙ last_is p b y)
      ]
    ]
      where
        never : (q : Placed) → Contains ps q → is_same q.room p.room ≡ true → ⊥
        never q there e = false≢true (sym takes.free ∙ list_any-Contains (λ (x : Placed). is_same x.room p.room) ps q there e)

    placed_agree : AgreeOnCells placed
    placed_agree = all_placed c names cells before after placed AgreeOnCells come_agree stay_agree made

    abbrev next : RunCells
    next = with_version (settled c names cells before placed) cells.seed

    abbrev version : ℕ
    version = cells.version + 1

    abbrev Its : Placed → Type 0
    Its q = HasItsRoom c names cells before (all_entries after) q

    -- what is left in the cell of a placed entry is seen by the next version
    content_seen : (q : Placed) → Its q → (k place n : ℕ) → is_at k place n q.room ≡ true → sees true version (settled_content c names cells before (Some q) k place n).head ≡ true
    content_seen q h k place n here = by h.kept
      where
        old : content_in cells q.room ≡ cells.content k place n
        old = let at = at-place k place n q.room here in λ i. cells.content (at.stage i) (at.place i) (at.cell i)

        by : Stays c names cells before q ⊎ Comes c names cells before q → sees true version (settled_content c names cells before (Some q) k place n).head ≡ true
        by (inl s) =
            subst (λ b. sees true version (cond b (staying_content version (cells.content k place n)) (coming_content names version q)).head ≡ true) (sym s.stood)
            (seen_next cells.version (cells.content k place n).head (subst (λ (x : Content). sees true cells.version x.head ≡ true) old s.seen))
        by (inr s) =
            subst (λ b. sees true version (cond b (staying_content version (cells.content k place n)) (coming_content names version q)).head ≡ true) (sym s.new)
            (subst (λ (o : Option Terms). sees true version (unwrap_or (option_map (λ t. entry_content t q.room.part (2 ^ (version % 2)) q.entry) o) (emptied q.room.part.slot)).head ≡ true) (sym h.named)
            (seen_new version (q.room.part.first + q.entry.action)))

    placed_has : (q : Placed) → Contains placed q → HasCell c names next q.entry
    placed_has q there =
        let all = each_has_its_room c names cells before after placed made in
        let h = All-contains Its placed q all there in
        let k = q.room.part.stage in
        let place = q.room.part.place in
        let n = q.room.cell in
        let found = find-some (λ (p : Placed). is_at k place n p.room) placed q there (at-own q.room.part q.room.cell) in
        let here = find-passes (λ (p : Placed). is_at k place n p.room) placed found.0 found.1 in
        let in_placed = found-in (λ (p : Placed). is_at k place n p.room) placed found.0 found.1 in
        let seen = content_seen found.0 (All-contains Its placed found.0 all in_placed) k place n here in
        record {
          terms = h.terms;
          named = h.named;
          room = q.room;
          there = h.room;
          seen = subst (λ o. sees true version (settled_content c names cells before o k place n).head ≡ true) (sym found.1) seen;
          number = ap (λ o. settled_number cells o k place n) found.1 ∙ sym (placed_agree q found.0 there in_placed here);
        }

    pub settled_keeps : EachHasCell c names cells before → KeepEntries before after → EachHasCell c names next after
    settled_keeps held keep e there =
        let q = each_placed c names cells before after placed made e there
        (λ stood. now_placed e (held e (All-contains (λ x. is_numbered_in (all_entries before) x ≡ true → Contains (all_entries before) x) (all_entries after) e keep there stood))) in
        subst (HasCell c names next) q.2 (placed_has q.0 q.1)

  -- ---- one that moves cells

  module _ (seed : ℕ) (after : List (List Entry)) (placed : List Placed) (are : AreFilled c names seed after placed) where
    abbrev moved : RunCells
    moved = with_version (filled c names cells placed) seed

    filled_has : (q : Placed) → Contains placed q → HasCell c names moved q.entry
    filled_has q there =
        let k = q.room.part.stage in
        let place = q.room.part.place in
        let n = q.room.cell in
        let some = some_and (terms_named names q.entry.table) (λ t. IsFilled c seed t t.kind (list_of after q.entry.table) q.entry q.room)
        (All-contains (λ (p : Placed). IsSomeAnd (terms_named names p.entry.table) (λ t. IsFilled c seed t t.kind (list_of after p.entry.table) p.entry p.room)) placed q are.rooms there) in
        let t = some.0 in
        let found = placed-found placed q k place n are.apart there (at-own q.room.part q.room.cell) in
        record {
          terms = t;
          named = some.1;
          room = q.room;
          there = room_there c seed t t.kind (list_of after q.entry.table) q.entry q.room some.2;
          seen =
              subst (λ o. sees true (cells.version + 1) (filled_content c names o k place).head ≡ true) (sym found)
              (subst (λ (o : Option Terms). sees true (cells.version + 1) (unwrap_or (option_map (λ u. entry_content u q.room.part 3 q.entry) o) (emptied q.room.part.slot)).head ≡ true) (sym some.1)
              (full_seen (cells.version + 1) (q.room.part.first + q.entry.action)));
          number = ap (λ (o : Option Placed). unwrap_or (option_map (λ (p : Placed). p.entry.number) o) 0) found;
        }

    pub filled_keeps : EachHasCell c names moved after
    filled_keeps e there =
        let q = Contains-unmap (λ (p : Placed). p.entry) placed e (subst (λ es. Contains es e) (sym are.each) there) in
        subst (HasCell c names moved) q.2 (filled_has q.0 q.1)
