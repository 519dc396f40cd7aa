-- Whether entries have rooms, each one of some, and no two the same one, is decided by going through all of them.
use Rattle.std.proofs.Common.{◌≡◌, ◌⊎◌, ◌&&◌, Bool, true, false, not, List, [], ◌∷◌, map, Option, Some, None, inl, inr, refl, sym, ap, ◌∙◌, subst, arith}
use Rattle.std.specs.Prelude.{All, AllPairs, Contains, find}
use Rattle.std.specs.List.{flat_map, list_all}
use Rattle.std.proofs.lemmas.Bool.{and_from, and_parts, not-true, not_from_false}
use Rattle.std.proofs.lemmas.List.Elements.{All-cons, All-contains_itself, All-head, All-nil, All-tail, All-weaker}
use Rattle.std.proofs.lemmas.List.Kept.{AllPairs-cons}
use Rattle.std.proofs.lemmas.List.Sums.{list_all-from_AllPass}
use Rattle.std.proofs.lemmas.Option.{none-some}
use Rattle.rmt_bits.proofs.AllLaws.{All-find, All-from_test}
use Rattle.rmt_bits.proofs.FindLaws.{find-some}
use Rattle.rmt_bits.proofs.ListLaws.{find-passes}
use Rattle.rmt_bits.proofs.MemberLaws.{Contains-first, Contains-flat_map, Contains-map, Contains-split, Contains-unmap, from_flat_map}
use Rattle.rmt_bits.proofs.PairLaws.{AllPairs-head, AllPairs-none, AllPairs-tail}
use Rattle.rmt_ast.specs.declared.entry.Entry.{Entry}
use Rattle.rmt_config.specs.Commits.{Placed}
use Rattle.rmt_config.specs.Rooms.{Room, is_same}

abbrev entry_of : Placed → Entry
entry_of p = p.entry

-- two entries with rooms that aren't the same
abbrev Apart : Placed → Placed → Type 0
Apart p q = is_same p.room q.room ≡ false

-- an entry has one of its rooms
abbrev pub HasOneOf : (Entry → List Room) → Placed → Type 0
HasOneOf rooms p = Contains (rooms p.entry) p.room

-- ---- all choices

abbrev with_room : Entry → Room → List Placed → List Placed
with_room e room ps = record { entry = e; room = room } ∷ ps

abbrev choices : (Entry → List Room) → List Entry → List (List Placed)
choices rooms [] = [] ∷ []
choices rooms (e ∷ es) = flat_map (λ room. map (with_room e room) (choices rooms es)) (rooms e)

chosen : (rooms : Entry → List Room) (ps : List Placed) → All (HasOneOf rooms) ps → Contains (choices rooms (map entry_of ps)) ps
chosen rooms [] h = Contains-first [] []
chosen rooms (p ∷ ps) h =
    Contains-flat_map (λ room. map (with_room p.entry room) (choices rooms (map entry_of ps))) (rooms p.entry) p.room (p ∷ ps) (All-head (HasOneOf rooms) p ps h)
    (Contains-map (with_room p.entry p.room) (choices rooms (map entry_of ps)) ps (chosen rooms ps (All-tail (HasOneOf rooms) p ps h)))

choice : (rooms : Entry → List Room) (es : List Entry) (ps : List Placed) → Contains (choices rooms es) ps → (map entry_of ps ≡ es) × All (HasOneOf rooms) ps
choice rooms [] ps there = elim (Contains-split [] [] ps there) [
  | inl e ↦ subst (λ qs. (map entry_of qs ≡ []) × All (HasOneOf rooms) qs) e (refl, All-nil (HasOneOf rooms))
  | inr later ↦ absurd (let lt = later.1 in omega (arith, lt))
]
choice rooms (e ∷ es) ps there =
    let r = from_flat_map (λ room. map (with_room e room) (choices rooms es)) (rooms e) ps there in
    let q = Contains-unmap (with_room e r.0) (choices rooms es) ps r.2 in
    let rest = choice rooms es q.0 q.1 in
    subst (λ xs. (map entry_of xs ≡ e ∷ es) × All (HasOneOf rooms) xs) q.2
    (ap (λ xs. e ∷ xs) rest.0, All-cons (HasOneOf rooms) (record { entry = e; room = r.0 }) q.0 r.1 rest.1)

-- ---- those in which no room stands twice

abbrev is_apart : Placed → Placed → Bool
is_apart p q = not (is_same p.room q.room)

abbrev are_apart : List Placed → Bool
are_apart [] = true
are_apart (p ∷ ps) = list_all (is_apart p) ps && are_apart ps

apart-shown : (ps : List Placed) → are_apart ps ≡ true → AllPairs Apart ps
apart-shown [] h = AllPairs-none Apart
apart-shown (p ∷ ps) h =
    let parts = and_parts (list_all (is_apart p) ps) (are_apart ps) h in
    AllPairs-cons Apart p ps (All-from_test (Apart p) (is_apart p) (λ q e. not-true (is_same p.room q.room) e) ps parts.0) (apart-shown ps parts.1)

apart-told : (ps : List Placed) → AllPairs Apart ps → are_apart ps ≡ true
apart-told [] h = refl
apart-told (p ∷ ps) h =
    and_from (list_all (is_apart p) ps) (are_apart ps)
    (list_all-from_AllPass (is_apart p) ps (All-weaker (Apart p) (λ q. is_apart p q ≡ true) (λ q e. not_from_false (is_same p.room q.room) e) ps (AllPairs-head Apart p ps h)))
    (apart-told ps (AllPairs-tail Apart p ps h))

-- ---- the decision

-- entries with rooms, each one of its own, and no room twice
pub record HaveRooms (rooms : Entry → List Room) (es : List Entry) (ps : List Placed) : Type 0 where
  pub each : map (λ (p : Placed). p.entry) ps ≡ es
  pub apart : AllPairs (λ (p q : Placed). is_same p.room q.room ≡ false) ps
  pub own : All (HasOneOf rooms) ps

pub rooms_decided : (rooms : Entry → List Room) (es : List Entry) → ((ps : List Placed) × HaveRooms rooms es ps) ⊎ ((ps : List Placed) → HaveRooms rooms es ps → ⊥)
rooms_decided rooms es = by (find are_apart (choices rooms es)) refl
  where
    by : (o : Option (List Placed)) → find are_apart (choices rooms es) ≡ o → ((ps : List Placed) × HaveRooms rooms es ps) ⊎ ((ps : List Placed) → HaveRooms rooms es ps → ⊥)
    by (Some ps) e =
        let there = All-find (Contains (choices rooms es)) are_apart (choices rooms es) ps (All-contains_itself (choices rooms es)) e in
        let own = choice rooms es ps there in
        inl (ps, record { each = own.0; apart = apart-shown ps (find-passes are_apart (choices rooms es) ps e); own = own.1 })
    by None e = inr (λ ps h.
        let there = subst (λ xs. Contains (choices rooms xs) ps) h.each (chosen rooms ps h.own) in
        let found = find-some are_apart (choices rooms es) ps there (apart-told ps h.apart) in
        none-some found.0 (sym e ∙ found.1))
