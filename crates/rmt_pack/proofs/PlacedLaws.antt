-- The rooms that entries have in a commit that moves no cell: those that stay keep theirs, and those that come take free ones in order.
use Rattle.std.proofs.Common.{◌≡◌, ◌⊎◌, ◌==◌, Bool, true, false, not, ◌&&◌, List, [], ◌∷◌, ◌++◌, fold, filter_map, map, Option, Some, None, All, Contains, refl, sym, ap, subst, ◌∙◌, inl, inr, arith}
use Rattle.std.specs.Prelude.{find, option_and_then, option_map}
use Rattle.std.specs.List.{cons_option, list_any}
use Rattle.std.proofs.lemmas.Bool.{and_parts, eqb-true, not-true}
use Rattle.std.proofs.lemmas.List.{append-nil, append_assoc, map-append}
use Rattle.std.proofs.lemmas.List.Elements.{All-append, All-cons, All-contains_itself, All-filter, All-head, All-nil, All-tail, All-weaker, Contains-append_left, Contains-push, filter_passes}
use Rattle.std.proofs.lemmas.Option.{none-some, same_Some}
use Rattle.rmt_bits.proofs.ListLaws.{find-passes}
use Rattle.rmt_bits.proofs.AllLaws.{All-find}
use Rattle.rmt_bits.proofs.MemberLaws.{Contains-filter, Contains-split, Contains-filter_map}
use Rattle.rmt_ast.specs.declared.entry.Entry.{Entry}
use Rattle.rmt_ast.specs.declared.names.Names.{Names}
use Rattle.rmt_ast.specs.EntryLists.{Terms}
use Rattle.rmt_ast.specs.NameRules.{terms_named}
use Rattle.rmt_config.specs.declared.config.Config.{Config}
use Rattle.rmt_config.specs.RunCells.{RunCells, has_bit, sees}
use Rattle.rmt_config.specs.Rooms.{Room, content_in, is_same, number_in}
use Rattle.rmt_config.specs.Commits.{Placed, all_entries, come, is_free, is_numbered_in, keeps_order, placed_after, placed_now, rooms_of, stay, with_coming}

-- an entry in a room
abbrev placed_in : Entry → Room → Placed
placed_in e room = record { entry = e; room = room }

module _ (c : Config) (names : Names) (cells : RunCells) (before : List (List Entry)) where
  -- an entry that stood before the commit
  abbrev pub stood : Entry → Bool
  stood e = is_numbered_in (all_entries before) e

  -- an entry that stays: its room is seen by a packet of the current version, and has its number
  pub record Stays (p : Placed) : Type 0 where
    pub stood : stood p.entry ≡ true
    pub seen : sees true cells.version (content_in cells p.room).head ≡ true
    pub number : number_in cells p.room ≡ p.entry.number

  -- an entry that comes: a packet of the current version sees nothing in its room
  pub record Comes (p : Placed) : Type 0 where
    pub new : stood p.entry ≡ false
    pub unseen : has_bit cells.version (content_in cells p.room).head ≡ false

  -- an entry of some, with a room in which its key may stand
  pub record HasItsRoom (es : List Entry) (p : Placed) : Type 0 where
    pub terms : Terms
    pub named : terms_named names p.entry.table ≡ Some terms
    pub room : Contains (rooms_of c terms cells p.entry) p.room
    pub entry : Contains es p.entry
    pub kept : Stays p ⊎ Comes p

  module _ (es : List Entry) where
    abbrev Fine : Placed → Type 0
    Fine = HasItsRoom es

    -- ---- entries that stay

    abbrev is_its : Entry → Room → Bool
    is_its e room = sees true cells.version (content_in cells room).head && (number_in cells room == e.number)

    stays_there : (e : Entry) (p : Placed) → Contains es e → stood e ≡ true → placed_now c names cells e ≡ Some p → Fine p
    stays_there e p there s h = by (terms_named names e.table) refl h
      where
        in_rooms : (t : Terms) (o : Option Room) → terms_named names e.table ≡ Some t → find (is_its e) (rooms_of c t cells e) ≡ o → option_map (placed_in e) o ≡ Some p → Fine p
        in_rooms t None n f k = absurd (none-some p k)
        in_rooms t (Some room) n f k =
            let parts = and_parts (sees true cells.version (content_in cells room).head) (number_in cells room == e.number) (find-passes (is_its e) (rooms_of c t cells e) room f) in
            subst Fine (same_Some (placed_in e room) p k)
            (record {
              terms = t;
              named = n;
              room = All-find (Contains (rooms_of c t cells e)) (is_its e) (rooms_of c t cells e) room (All-contains_itself (rooms_of c t cells e)) f;
              entry = there;
              kept = inl (record { stood = s; seen = parts.0; number = eqb-true (number_in cells room) e.number parts.1 });
            })

        by : (o : Option Terms) → terms_named names e.table ≡ o → option_map (placed_in e) (option_and_then (λ (t : Terms). find (is_its e) (rooms_of c t cells e)) o) ≡ Some p → Fine p
        by None n k = absurd (none-some p k)
        by (Some t) n k = in_rooms t (find (is_its e) (rooms_of c t cells e)) n refl k

    all_stay : (xs : List Entry) → All (Contains es) xs → All (λ e. stood e ≡ true) xs → All Fine (filter_map (placed_now c names cells) xs)
    all_stay [] there h = All-nil Fine
    all_stay (e ∷ xs) there h = by (placed_now c names cells e) refl (all_stay xs (All-tail (Contains es) e xs there) (All-tail (λ x. stood x ≡ true) e xs h))
      where
        rest : List Placed
        rest = filter_map (placed_now c names cells) xs

        by : (o : Option Placed) → placed_now c names cells e ≡ o → All Fine rest → All Fine (cons_option o rest)
        by None k behind = behind
        by (Some p) k behind = All-cons Fine p rest (stays_there e p (All-head (Contains es) e xs there) (All-head (λ x. stood x ≡ true) e xs h) k) behind

    -- ---- entries that come

    abbrev fits_in : List Placed → Terms → Entry → Room → Bool
    fits_in ps t e room = is_free cells ps room && keeps_order t.kind ps e room

    -- an entry in the room that it takes, behind entries that have theirs
    pub record Takes (ps : List Placed) (p : Placed) : Type 0 where
      pub fine : HasItsRoom es p
      pub comes : Comes p
      pub free : list_any (λ (q : Placed). is_same q.room p.room) ps ≡ false
      pub order : keeps_order fine.terms.kind ps p.entry p.room ≡ true

    takes_room : (ps qs : List Placed) (e : Entry) → Contains es e → stood e ≡ false → with_coming c names cells (Some ps) e ≡ Some qs
        → (p : Placed) × (p.entry ≡ e) × (ps ++ p ∷ [] ≡ qs) × Takes ps p
    takes_room ps qs e there s h = by (terms_named names e.table) refl h
      where
        Took : Type 0
        Took = (p : Placed) × (p.entry ≡ e) × (ps ++ p ∷ [] ≡ qs) × Takes ps p

        in_rooms : (t : Terms) (o : Option Room) → terms_named names e.table ≡ Some t → find (fits_in ps t e) (rooms_of c t cells e) ≡ o → option_map (λ room. ps ++ placed_in e room ∷ []) o ≡ Some qs → Took
        in_rooms t None n f k = absurd (none-some qs k)
        in_rooms t (Some room) n f k =
            let parts = and_parts (is_free cells ps room) (keeps_order t.kind ps e room) (find-passes (fits_in ps t e) (rooms_of c t cells e) room f) in
            let free = and_parts (not (has_bit cells.version (content_in cells room).head)) (not (list_any (λ (q : Placed). is_same q.room room) ps)) parts.0 in
            let comes : Comes (placed_in e room) = record { new = s; unseen = not-true (has_bit cells.version (content_in cells room).head) free.0 } in
            let fine : HasItsRoom es (placed_in e room) = record {
              terms = t;
              named = n;
              room = All-find (Contains (rooms_of c t cells e)) (fits_in ps t e) (rooms_of c t cells e) room (All-contains_itself (rooms_of c t cells e)) f;
              entry = there;
              kept = inr comes;
            } in (
              placed_in e room,
              refl,
              same_Some (ps ++ placed_in e room ∷ []) qs k,
              record { fine = fine; comes = comes; free = not-true (list_any (λ (q : Placed). is_same q.room room) ps) free.1; order = parts.1 },
            )

        by : (o : Option Terms) → terms_named names e.table ≡ o → option_map (λ room. ps ++ placed_in e room ∷ []) (option_and_then (λ (t : Terms). find (fits_in ps t e) (rooms_of c t cells e)) o) ≡ Some qs → Took
        by None n k = absurd (none-some qs k)
        by (Some t) n k = in_rooms t (find (fits_in ps t e) (rooms_of c t cells e)) n refl k

    -- what holds of lists of placed entries, as entries come
    module _ (Good : List Placed → Type 0) (grows : (ps : List Placed) (p : Placed) → Good ps → Takes ps p → Good (ps ++ p ∷ [])) where
      all_come : (xs : List Entry) (o : Option (List Placed)) (qs : List Placed) → All (Contains es) xs → All (λ e. stood e ≡ false) xs
          → fold (with_coming c names cells) o xs ≡ Some qs → ((ps : List Placed) → o ≡ Some ps → Good ps) → Good qs
      all_come [] o qs there h k first = first qs k
      all_come (e ∷ xs) o qs there h k first =
          all_come xs (with_coming c names cells o e) qs (All-tail (Contains es) e xs there) (All-tail (λ x. stood x ≡ false) e xs h) k (λ ps. step o ps first)
        where
          step : (x : Option (List Placed)) (ps : List Placed) → ((ys : List Placed) → x ≡ Some ys → Good ys) → with_coming c names cells x e ≡ Some ps → Good ps
          step None ps f j = absurd (none-some ps j)
          step (Some ys) ps f j =
              let took = takes_room ys ps e (All-head (Contains es) e xs there) (All-head (λ x. stood x ≡ false) e xs h) j in
              subst Good took.2 (grows ys took.0 (f ys refl) took.3)

    -- an entry that comes gets a room
    abbrev HasRoomIn : Entry → List Placed → Type 0
    HasRoomIn e ps = (q : Placed) × Contains ps q × (q.entry ≡ e)

    come_placed : (xs : List Entry) (o : Option (List Placed)) (qs : List Placed) → All (Contains es) xs → All (λ e. stood e ≡ false) xs
        → fold (with_coming c names cells) o xs ≡ Some qs → (e : Entry) → Contains xs e → HasRoomIn e qs
    come_placed [] o qs there h k e at = absurd (let lt = at.1 in omega (arith, lt))
    come_placed (x ∷ xs) o qs there h k e at = elim (Contains-split x xs e at) [
      | inl same ↦
          all_come (HasRoomIn e) (λ ps p good takes. (good.0, Contains-append_left ps (p ∷ []) good.0 good.1, good.2)) xs (with_coming c names cells o x) qs
          (All-tail (Contains es) x xs there) (All-tail (λ y. stood y ≡ false) x xs h) k (λ ps. first o ps same)
      | inr later ↦ come_placed xs (with_coming c names cells o x) qs (All-tail (Contains es) x xs there) (All-tail (λ y. stood y ≡ false) x xs h) k e later
    ]
      where
        first : (y : Option (List Placed)) (ps : List Placed) → x ≡ e → with_coming c names cells y x ≡ Some ps → HasRoomIn e ps
        first None ps same j = absurd (none-some ps j)
        first (Some ys) ps same j =
            let took = takes_room ys ps x (All-head (Contains es) x xs there) (All-head (λ y. stood y ≡ false) x xs h) j in
            (took.0, subst (λ zs. Contains zs took.0) took.2 (Contains-push ys took.0), took.1 ∙ same)

    -- the entries that have rooms, in order
    entries_from : (xs : List Entry) (o : Option (List Placed)) (qs : List Placed) (zs : List Entry) → All (Contains es) xs → All (λ e. stood e ≡ false) xs
        → fold (with_coming c names cells) o xs ≡ Some qs → ((ps : List Placed) → o ≡ Some ps → map (λ (q : Placed). q.entry) ps ++ xs ≡ zs) → map (λ (q : Placed). q.entry) qs ≡ zs
    entries_from [] o qs zs there h k are = sym (append-nil (map (λ (q : Placed). q.entry) qs)) ∙ are qs k
    entries_from (x ∷ xs) o qs zs there h k are =
        entries_from xs (with_coming c names cells o x) qs zs (All-tail (Contains es) x xs there) (All-tail (λ y. stood y ≡ false) x xs h) k (λ ps. next o ps are)
      where
        next : (y : Option (List Placed)) (ps : List Placed) → ((rs : List Placed) → y ≡ Some rs → map (λ (q : Placed). q.entry) rs ++ x ∷ xs ≡ zs) → with_coming c names cells y x ≡ Some ps
            → map (λ (q : Placed). q.entry) ps ++ xs ≡ zs
        next None ps f j = absurd (none-some ps j)
        next (Some ys) ps f j =
            let took = takes_room ys ps x (All-head (Contains es) x xs there) (All-head (λ y. stood y ≡ false) x xs h) j in
            ap (λ (rs : List Placed). map (λ (q : Placed). q.entry) rs ++ xs) (sym took.2)
            ∙ ap (λ rs. rs ++ xs) (map-append (λ (q : Placed). q.entry) ys (took.0 ∷ []))
            ∙ append_assoc (map (λ (q : Placed). q.entry) ys) (took.0.entry ∷ []) xs
            ∙ ap (λ z. map (λ (q : Placed). q.entry) ys ++ z ∷ xs) took.1
            ∙ f ys refl

  -- the entries that have rooms: those that stay, as far as they have one, and those that come
  pub placed_entries : (after : List (List Entry)) (placed : List Placed) → placed_after c names cells before after ≡ Some placed
      → map (λ (q : Placed). q.entry) placed ≡ map (λ (q : Placed). q.entry) (filter_map (placed_now c names cells) (stay before after)) ++ come before after
  placed_entries after placed h =
      let now = filter_map (placed_now c names cells) (stay before after) in
      entries_from (all_entries after) (come before after) (Some now) placed (map (λ (q : Placed). q.entry) now ++ come before after)
      (All-filter (λ x. not (stood x)) (Contains (all_entries after)) (all_entries after) (All-contains_itself (all_entries after)))
      (All-weaker (λ x. not (stood x) ≡ true) (λ x. stood x ≡ false) (λ x. not-true (stood x)) (come before after) (filter_passes (λ x. not (stood x)) (all_entries after)))
      h (λ ps k. ap (λ (rs : List Placed). map (λ (q : Placed). q.entry) rs ++ come before after) (sym (same_Some now ps k)))

  -- what holds of those that stay, and goes on holding as one comes, holds of all
  pub all_placed : (after : List (List Entry)) (placed : List Placed) (Good : List Placed → Type 0)
      → ((ps : List Placed) (p : Placed) → Good ps → Takes (all_entries after) ps p → Good (ps ++ p ∷ []))
      → Good (filter_map (placed_now c names cells) (stay before after)) → placed_after c names cells before after ≡ Some placed → Good placed
  all_placed after placed Good grows first h =
      let all = All-contains_itself (all_entries after) in
      all_come (all_entries after) Good grows (come before after) (Some (filter_map (placed_now c names cells) (stay before after))) placed
      (All-filter (λ e. not (stood e)) (Contains (all_entries after)) (all_entries after) all)
      (All-weaker (λ e. not (stood e) ≡ true) (λ e. stood e ≡ false) (λ e. not-true (stood e)) (come before after) (filter_passes (λ e. not (stood e)) (all_entries after)))
      h (λ ps k. subst Good (same_Some (filter_map (placed_now c names cells) (stay before after)) ps k) first)

  pub stay_fine : (after : List (List Entry)) → All (HasItsRoom (all_entries after)) (filter_map (placed_now c names cells) (stay before after))
  stay_fine after =
      all_stay (all_entries after) (stay before after) (All-filter stood (Contains (all_entries after)) (all_entries after) (All-contains_itself (all_entries after)))
      (filter_passes stood (all_entries after))

  pub each_has_its_room : (after : List (List Entry)) (placed : List Placed) → placed_after c names cells before after ≡ Some placed → All (HasItsRoom (all_entries after)) placed
  each_has_its_room after placed h =
      all_placed after placed (All (HasItsRoom (all_entries after)))
      (λ ps p good takes. All-append (HasItsRoom (all_entries after)) ps (p ∷ []) good (All-cons (HasItsRoom (all_entries after)) p [] takes.fine (All-nil (HasItsRoom (all_entries after)))))
      (stay_fine after) h

  -- what is placed now is the entry
  pub placed_entry : (e : Entry) (p : Placed) → placed_now c names cells e ≡ Some p → p.entry ≡ e
  placed_entry e p h =
      by (option_and_then (λ (t : Terms). find (λ room. sees true cells.version (content_in cells room).head && (number_in cells room == e.number)) (rooms_of c t cells e)) (terms_named names e.table)) h
    where
      by : (o : Option Room) → option_map (placed_in e) o ≡ Some p → p.entry ≡ e
      by None k = absurd (none-some p k)
      by (Some room) k = ap (λ (q : Placed). q.entry) (sym (same_Some (placed_in e room) p k))

  -- each entry has a room, if each that stays has one
  pub each_placed : (after : List (List Entry)) (placed : List Placed) → placed_after c names cells before after ≡ Some placed → (e : Entry) → Contains (all_entries after) e
      → (stood e ≡ true → (q : Placed) × (placed_now c names cells e ≡ Some q)) → (q : Placed) × Contains placed q × (q.entry ≡ e)
  each_placed after placed h e there has = by (stood e) refl
    where
      Found : List Placed → Type 0
      Found ps = (q : Placed) × Contains ps q × (q.entry ≡ e)

      by : (b : Bool) → stood e ≡ b → Found placed
      by true s =
          let q = has s in
          all_placed after placed Found (λ ps p good takes. (good.0, Contains-append_left ps (p ∷ []) good.0 good.1, good.2))
          (q.0, Contains-filter_map (placed_now c names cells) (stay before after) e q.0 (Contains-filter stood (all_entries after) e there s) q.1, placed_entry e q.0 q.1) h
      by false s =
          come_placed (all_entries after) (come before after) (Some (filter_map (placed_now c names cells) (stay before after))) placed
          (All-filter (λ x. not (stood x)) (Contains (all_entries after)) (all_entries after) (All-contains_itself (all_entries after)))
          (All-weaker (λ x. not (stood x) ≡ true) (λ x. stood x ≡ false) (λ x. not-true (stood x)) (come before after) (filter_passes (λ x. not (stood x)) (all_entries after)))
          h e (Contains-filter (λ x. not (stood x)) (all_entries after) e there (ap not s))
