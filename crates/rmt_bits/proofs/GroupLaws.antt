-- Rows that are put into groups, one after another.
use Rattle.std.proofs.Common.{◌≡◌, ◌≢◌, ℕ, ◌<◌, ◌≤◌, ◌++◌, Bool, true, false, cond, List, [], ◌∷◌, length, get_or, Option, Some, None, ⊎_elim, refl, sym, ap, subst, ◌∙◌, arith}
use Rattle.std.specs.Prelude.{All, AllPairs, IsSomeAnd, slice_get, slice_set, unwrap_or}
use Rattle.std.proofs.lemmas.Bool.{cases_eq, cases_lt}
use Rattle.std.proofs.lemmas.List.{get_or-map, length-map, map_push, length_push}
use Rattle.std.proofs.lemmas.List.Elements.{All-push, All-set}
use Rattle.std.proofs.lemmas.List.Quantifiers.{all_pairs_push}
use Rattle.std.proofs.lemmas.Option.{none-some, slice_get_within, slice_get-get_or, get_or_from_slice_get}
use Rattle.std.proofs.Math.Seq.{map-set_same}
use Rattle.rmt_bits.proofs.ListLaws.{slice_get-front, slice_get-more, slice_get-pushed, slice_get-set_same, slice_get-set_other, IsSomeAnd-more}
use Rattle.rmt_bits.specs.declared.groups.Group.{Group}
use Rattle.rmt_bits.specs.declared.groups.Grouping.{Grouping}
use Rattle.rmt_bits.specs.Grouping.{Compared, place_in, PutAt, firsts, HasPlaces, Finds, IsFound, AreGrouped, AreIndexed, Chosen}
use Rattle.rmt_bits.specs.Places.{are_same, place_of, HasPut}
use Rattle.rmt_bits.proofs.PlaceLaws.{same_lists_of, are_same-own}

-- place i is that of a row of the masks that wants these bits, and no earlier than the first
abbrev IsPlace : List Compared → ℕ → List ℕ → List ℕ → ℕ → Type 0
IsPlace es first masks vs i = (first ≤ i) × IsSomeAnd (slice_get es i) (λ (x : Compared). (x.masks ≡ masks) × (x.values ≡ vs))

-- a group has its places among more entries too
places_more : (es : List Compared) (e : Compared) (g : Group) → HasPlaces es g → HasPlaces (es ++ e ∷ []) g
places_more es e g h vs i found = ((h vs i found).0, IsSomeAnd-more (λ (x : Compared). (x.masks ≡ g.masks.items) × (x.values ≡ vs)) es e i (h vs i found).1)

module _ (es : List Compared) (groups : List Group) (old : AreGrouped es groups) where
  -- a new group
  module _ (g : Group) (first : g.first ≡ length es) (empty : (vs : List ℕ) → place_in g vs ≡ None) where
    found_more : (j : ℕ) (e : Compared) → IsFound groups j e → IsFound (groups ++ g ∷ []) j e
    found_more j e h = (h.0, h.1, slice_get-more groups g h.0 h.1 h.2, h.3)

    pub grouped_new : AreGrouped es (groups ++ g ∷ [])
    grouped_new =
        let pushed : firsts (groups ++ g ∷ []) ≡ firsts groups ++ g.first ∷ [] = map_push (λ (x : Group). x.first) groups g in
        let within : g.first ≤ length es = omega arith in
        record {
          sound = All-push (HasPlaces es) groups g old.sound (λ vs i found. absurd (none-some i (sym (empty vs) ∙ found)));
          rising = subst (AllPairs (λ m n. m ≤ n)) (sym pushed) (all_pairs_push (λ m n. m ≤ n) (firsts groups) g.first old.rising (λ k d lt. let low = old.early k d lt in omega arith));
          early = subst (All (λ n. n ≤ length es)) (sym pushed) (All-push (λ n. n ≤ length es) (firsts groups) g.first old.early within);
          complete = λ j e at. found_more j e (old.complete j e at);
        }

  -- one more row in one of the groups
  module _ (e : Compared) (k : ℕ) (g h : Group) (at : slice_get groups k ≡ Some g) (masks : g.masks.items ≡ e.masks) (put : PutAt e.values (length es) g h) where
    inside : k < length groups
    inside = slice_get_within groups k g at

    sound_g : HasPlaces es g
    sound_g = subst (HasPlaces es) (get_or_from_slice_get groups k g g at) (old.sound k g inside)

    first_within : g.first ≤ length es
    first_within =
        let same : get_or (firsts groups) k 0 ≡ g.first = get_or-map (λ (x : Group). x.first) groups k g 0 inside ∙ ap (λ (x : Group). x.first) (get_or_from_slice_get groups k g g at) in
        let size : length (firsts groups) ≡ length groups = length-map groups (λ (x : Group). x.first) in
        let lt : k < length groups = inside in
        let low = old.early k 0 (omega arith) in
        omega arith

    kept : firsts (slice_set groups k h) ≡ firsts groups
    kept = map-set_same (λ (x : Group). x.first) groups k h g (put.first ∙ ap (λ (x : Group). x.first) (sym (get_or_from_slice_get groups k g g at)))

    -- the place of the row, or of an earlier one
    own_place : ℕ
    own_place = unwrap_or (place_in g e.values) (length es)

    own_found : place_in h e.values ≡ Some own_place
    unfolding own_place
    own_found =
        put.places e.values
        ∙ ap (λ b. cond b (Some (unwrap_or (place_in g e.values) (length es))) (place_in g e.values)) (are_same-own e.values)

    own_sound : (o : Option ℕ) → place_in g e.values ≡ o → (g.first ≤ unwrap_or o (length es)) × IsSomeAnd (slice_get (es ++ e ∷ []) (unwrap_or o (length es))) (λ (x : Compared). (x.masks ≡ g.masks.items) × (x.values ≡ e.values))
    own_sound None is =
        (first_within, subst (λ o. IsSomeAnd o (λ (x : Compared). (x.masks ≡ g.masks.items) × (x.values ≡ e.values))) (sym (slice_get-pushed es e)) (sym masks, refl))
    own_sound (Some x) is = places_more es e g sound_g e.values x is

    own_early : (o : Option ℕ) → place_in g e.values ≡ o → unwrap_or o (length es) ≤ length es
    own_early None is = omega arith
    own_early (Some x) is = by (slice_get es x) refl (sound_g e.values x is).1
      where
        by : (o : Option Compared) → slice_get es x ≡ o → IsSomeAnd o (λ (y : Compared). (y.masks ≡ g.masks.items) × (y.values ≡ e.values)) → x ≤ length es
        by None at h = absurd h
        by (Some y) at h = let lt = slice_get_within es x y at in omega arith

    turned : (ws : List ℕ) (j : ℕ) → IsPlace (es ++ e ∷ []) g.first g.masks.items ws j → IsPlace (es ++ e ∷ []) h.first h.masks.items ws j
    turned ws j t =
        subst (λ n. IsPlace (es ++ e ∷ []) n h.masks.items ws j) (sym put.first) (subst (λ ms. IsPlace (es ++ e ∷ []) g.first ms ws j) (sym put.masks) t)

    sound_h : HasPlaces (es ++ e ∷ []) h
    sound_h vs i found = by (are_same vs e.values) refl (sym (put.places vs) ∙ found)
      where
        by : (b : Bool) → are_same vs e.values ≡ b → cond b (Some (unwrap_or (place_in g e.values) (length es))) (place_in g vs) ≡ Some i → IsPlace (es ++ e ∷ []) h.first h.masks.items vs i
        by true same is =
            let j : unwrap_or (place_in g e.values) (length es) ≡ i = ap (λ o. unwrap_or o i) is in
            subst (λ ws. IsPlace (es ++ e ∷ []) h.first h.masks.items ws i) (sym (same_lists_of vs e.values same))
            (turned e.values i (subst (IsPlace (es ++ e ∷ []) g.first g.masks.items e.values) j (own_sound (place_in g e.values) refl)))
        by false same is = turned vs i (places_more es e g sound_g vs i is)

    -- what the group found it finds
    finds_h : (j : ℕ) (x : Compared) → Finds g j x → Finds h j x
    finds_h j x f = record {
      same = put.masks ∙ f.same;
      place = f.place;
      found = put.places x.values ∙ by (are_same x.values e.values) refl;
      early = f.early;
    }
      where
        by : (b : Bool) → are_same x.values e.values ≡ b → cond b (Some (unwrap_or (place_in g e.values) (length es))) (place_in g x.values) ≡ Some f.place
        by true same = ap (λ o. Some (unwrap_or o (length es))) (ap (place_in g) (sym (same_lists_of x.values e.values same)) ∙ f.found)
        by false same = f.found

    found_set : (j : ℕ) (x : Compared) → IsFound groups j x → IsFound (slice_set groups k h) j x
    found_set j x f =
        ⊎_elim (λ (same : f.0 ≡ k).
        let own : f.1 ≡ g = ap (λ o. unwrap_or o g) (sym f.2 ∙ ap (slice_get groups) same ∙ at) in
        (k, h, slice_get-set_same groups k g h at, finds_h j x (subst (λ (y : Group). Finds y j x) own f.3)))
        (λ (apart : f.0 ≢ k). (f.0, f.1, slice_get-set_other groups k f.0 h apart ∙ f.2, f.3))
        (cases_eq f.0 k)

    own_finds : Finds h (length es) e
    unfolding own_place
    own_finds = record { same = put.masks ∙ masks; place = own_place; found = own_found; early = own_early (place_in g e.values) refl }

    complete_more : (j : ℕ) (x : Compared) → slice_get (es ++ e ∷ []) j ≡ Some x → IsFound (slice_set groups k h) j x
    complete_more j x there =
        ⊎_elim (λ (low : j < length es). found_set j x (old.complete j x (sym (slice_get-front es (e ∷ []) j low) ∙ there)))
        (λ (high : length es ≤ j).
        let last : j ≡ length es = (let lt = slice_get_within (es ++ e ∷ []) j x there in let size = length_push es e in omega arith) in
        let same : e ≡ x = ap (λ o. unwrap_or o e) (sym (slice_get-pushed es e) ∙ ap (slice_get (es ++ e ∷ [])) (sym last) ∙ there) in
        (k, h, slice_get-set_same groups k g h at, subst (λ n. Finds h n x) (sym last) (subst (λ (y : Compared). Finds h (length es) y) same own_finds)))
        (cases_lt j (length es))

    pub grouped_put : AreGrouped (es ++ e ∷ []) (slice_set groups k h)
    grouped_put =
        let size = length_push es e in
        record {
          sound = All-set (HasPlaces (es ++ e ∷ [])) groups k h sound_h (λ m d lt. places_more es e (get_or groups m d) (old.sound m d lt));
          rising = subst (AllPairs (λ m n. m ≤ n)) (sym kept) old.rising;
          early = subst (All (λ n. n ≤ length (es ++ e ∷ []))) (sym kept) (λ m d lt. let low = old.early m d lt in omega arith);
          complete = complete_more;
        }

-- a new group, with its number in the index
pub begin_indexed : (masks : List ℕ) (at : ℕ) (old new : Grouping) (g : Group) (number : ℕ) → g.masks.items ≡ masks → g.first ≡ at → ((vs : List ℕ) → place_in g vs ≡ None) → number ≡ length old.groups.items
    → new.groups.items ≡ old.groups.items ++ g ∷ [] → HasPut masks number old.index new.index → Chosen masks at old new number
begin_indexed masks at old new g number is first empty counted groups put es size ix =
    (record { grouped = subst (AreGrouped es) (sym groups) (grouped_new es old.groups.items ix.grouped g (first ∙ sym size) empty); index = index_new }, at_number masks refl)
  where
    there : slice_get new.groups.items number ≡ Some g
    there = ap (λ (gs : List Group). slice_get gs number) groups ∙ ap (slice_get (old.groups.items ++ g ∷ [])) counted ∙ slice_get-pushed old.groups.items g

    at_number : (ms : List ℕ) → ms ≡ masks → IsSomeAnd (slice_get new.groups.items number) (λ (x : Group). x.masks.items ≡ ms)
    at_number ms same = subst (λ o. IsSomeAnd o (λ (x : Group). x.masks.items ≡ ms)) (sym there) (is ∙ sym same)

    index_new : (ms : List ℕ) (k : ℕ) → place_of new.index ms ≡ Some k → IsSomeAnd (slice_get new.groups.items k) (λ (x : Group). x.masks.items ≡ ms)
    index_new ms k found = by (are_same ms masks) refl (sym (put ms) ∙ found)
      where
        by : (b : Bool) → are_same ms masks ≡ b → cond b (Some number) (place_of old.index ms) ≡ Some k → IsSomeAnd (slice_get new.groups.items k) (λ (x : Group). x.masks.items ≡ ms)
        by true same h =
            let k_is : number ≡ k = ap (λ o. unwrap_or o k) h in
            subst (λ n. IsSomeAnd (slice_get new.groups.items n) (λ (x : Group). x.masks.items ≡ ms)) k_is (at_number ms (same_lists_of ms masks same))
        by false same h =
            subst (λ (gs : List Group). IsSomeAnd (slice_get gs k) (λ (x : Group). x.masks.items ≡ ms)) (sym groups)
            (IsSomeAnd-more (λ (x : Group). x.masks.items ≡ ms) old.groups.items g k (ix.index ms k h))

-- a row that is put into the group of its masks
pub put_indexed : (es : List Compared) (e : Compared) (at k : ℕ) (old new : Grouping) (d h : Group) → length es ≡ at → AreIndexed es old × IsSomeAnd (slice_get old.groups.items k) (λ (x : Group). x.masks.items ≡ e.masks)
    → k < length old.groups.items → PutAt e.values at (get_or old.groups.items k d) h → new.groups.items ≡ slice_set old.groups.items k h → new.index ≡ old.index → AreIndexed (es ++ e ∷ []) new
put_indexed es e at k old new d h size ix inside put groups index =
    let g = get_or old.groups.items k d in
    let there : slice_get old.groups.items k ≡ Some g = slice_get-get_or old.groups.items k d inside in
    let own : g.masks.items ≡ e.masks = subst (λ o. IsSomeAnd o (λ (x : Group). x.masks.items ≡ e.masks)) there ix.1 in
    let here : PutAt e.values (length es) g h = subst (λ n. PutAt e.values n g h) (sym size) put in
    record {
      grouped = subst (AreGrouped (es ++ e ∷ [])) (sym groups) (grouped_put es old.groups.items ix.0.grouped e k g h there own here);
      index = λ ms m found.
          subst (λ (gs : List Group). IsSomeAnd (slice_get gs m) (λ (x : Group). x.masks.items ≡ ms)) (sym groups)
          (set_kept ms m g there here (ix.0.index ms m (ap (λ i. place_of i ms) (sym index) ∙ found)));
    }
  where
    set_kept : (ms : List ℕ) (m : ℕ) (g : Group) → slice_get old.groups.items k ≡ Some g → PutAt e.values (length es) g h → IsSomeAnd (slice_get old.groups.items m) (λ (x : Group). x.masks.items ≡ ms)
        → IsSomeAnd (slice_get (slice_set old.groups.items k h) m) (λ (x : Group). x.masks.items ≡ ms)
    set_kept ms m g there here was =
        ⊎_elim (λ (same : m ≡ k).
        let own : g.masks.items ≡ ms = subst (λ o. IsSomeAnd o (λ (x : Group). x.masks.items ≡ ms)) (ap (slice_get old.groups.items) same ∙ there) was in
        subst (λ o. IsSomeAnd o (λ (x : Group). x.masks.items ≡ ms)) (sym (ap (slice_get (slice_set old.groups.items k h)) same ∙ slice_get-set_same old.groups.items k g h there)) (here.masks ∙ own))
        (λ (apart : m ≢ k). subst (λ o. IsSomeAnd o (λ (x : Group). x.masks.items ≡ ms)) (sym (slice_get-set_other old.groups.items k m h apart)) was)
        (cases_eq m k)

-- where the group that was chosen stands, it is within the groups
pub chosen_within : (groups : List Group) (k : ℕ) (masks : List ℕ) → IsSomeAnd (slice_get groups k) (λ (x : Group). x.masks.items ≡ masks) → k < length groups
chosen_within groups k masks h = by (slice_get groups k) refl h
  where
    by : (o : Option Group) → slice_get groups k ≡ o → IsSomeAnd o (λ (x : Group). x.masks.items ≡ masks) → k < length groups
    by None is h = absurd h
    by (Some g) is h = slice_get_within groups k g is

-- at first there is no group
pub none_indexed : (g : Grouping) → g.groups.items ≡ [] → ((ms : List ℕ) → place_of g.index ms ≡ None) → AreIndexed [] g
none_indexed g none empty = record {
  grouped = subst (AreGrouped []) (sym none) (record { sound = λ k d lt. absurd (omega arith); rising = λ i j d lt inside. absurd (omega arith); early = λ k d lt. absurd (omega arith); complete = λ j e at. absurd (none-some e at) });
  index = λ ms k found. absurd (none-some k (sym (empty ms) ∙ found));
}
