-- From a loading of all keys to what is promised of it, and from a closed search to keys that have too few cells.
use Rattle.std.proofs.Common.{◌≡◌, ◌≢◌, ℕ, zero, suc, ◌+◌, ◌-◌, ◌<◌, ◌≤◌, Bool, true, false, List, [], ◌∷◌, length, map, cond, eqb, ◌||◌, get_or, replicate, Contains, refl, ap, sym, ◌∙◌, subst, ⊎_elim, arith}
use Rattle.std.specs.Prelude.{AllPairs, nat_eq}
use Rattle.std.specs.List.{AllZip, flat_map, list_any}
use Rattle.std.specs.Set.{distinct_count, is_member, unique_keys}
use Rattle.std.proofs.lemmas.List.{get_or_default, get_or-map, get_or-replicate, get_or_past, length-map, length-replicate}
use Rattle.std.proofs.lemmas.List.Elements.{All-contains, Contains-append_cases, Contains-get_or}
use Rattle.std.proofs.lemmas.Bool.{both_ways, cases_lt, eqb-true, false≢true, or_cases, or_right}
use Rattle.std.proofs.lemmas.Bool.Decides.{Decides-eqb, same_from_decides}
use Rattle.std.proofs.lemmas.Cmp.{nat_eq_equiv}
use Rattle.std.proofs.lemmas.Map.Made.{IsDistinct-from_AllPairs, is_member-Decides, length-from_keys, length-le_from_is_member}
use Rattle.std.proofs.lemmas.Map.Steps.{length-le_from_distinct_below}
use Rattle.rmt_bits.proofs.MemberLaws.{Contains-first, Contains-later}
use Rattle.rmt_bits.proofs.WordLaws.{get_or-zeros}
use Rattle.rmt_cuckoo.specs.declared.layout.Ways.{Ways}
use Rattle.rmt_cuckoo.specs.declared.search.Step.{Step}
use Rattle.rmt_cuckoo.specs.declared.choices.Choices.{Choices}
use Rattle.rmt_cuckoo.specs.declared.loading.Loading.{Loading}
use Rattle.rmt_cuckoo.specs.Loading.{IsLoading, IsOverfull, candidates, shared}
use Rattle.rmt_cuckoo.specs.Choices.{AreChoices, choices_at}
use Rattle.rmt_cuckoo.specs.Search.{IsLoaded, IsTree, IsMarked, IsSeen, IsSearching, no_step, cell_at, from_at, key_at}
use Rattle.rmt_cuckoo.proofs.RowLaws.{choices_are, joined}
use Rattle.rmt_cuckoo.proofs.SearchLaws.{key_known}

-- ---- lists

zip_all : {A B : Type 0} (R : A → B → Type 0) (xs : List A) (ys : List B) (d : A) (e : B) → length xs ≡ length ys
    → ((i : ℕ) → i < length xs → R (get_or xs i d) (get_or ys i e)) → AllZip R xs ys
zip_all R [] [] d e same each = tt
zip_all R [] (y ∷ ys) d e same each = absurd (omega (arith, same))
zip_all R (x ∷ xs) [] d e same each = absurd (omega (arith, same))
zip_all R (x ∷ xs) (y ∷ ys) d e same each =
    (each 0 (omega arith), zip_all R xs ys d e (omega (arith, same)) (λ i lt. each (suc i) (omega arith)))

zip_at : {A B : Type 0} (R : A → B → Type 0) (xs : List A) (ys : List B) (d : A) (e : B) → AllZip R xs ys → (i : ℕ) → i < length xs
    → (i < length ys) × R (get_or xs i d) (get_or ys i e)
zip_at R [] [] d e h i lt = absurd (omega arith)
zip_at R [] (y ∷ ys) d e h i lt = absurd h
zip_at R (x ∷ xs) [] d e h i lt = absurd h
zip_at R (x ∷ xs) (y ∷ ys) d e h zero lt = (omega arith, h.0)
zip_at R (x ∷ xs) (y ∷ ys) d e h (suc i) lt = let rest = zip_at R xs ys d e h.1 i (omega arith) in (omega (arith, rest.0), rest.1)

-- which of the joined lists an item is of
of_one : {X : Type 0} (f : X → List ℕ) (xs : List X) (d : X) (q : ℕ) → Contains (flat_map f xs) q → (i : ℕ) × (i < length xs) × Contains (f (get_or xs i d)) q
of_one f [] d q h = absurd (omega (arith, h.1))
of_one f (x ∷ xs) d q h =
    ⊎_elim (λ (here : Contains (f x) q). (0, omega arith, here))
    (λ (later : Contains (flat_map f xs) q). let rest = of_one f xs d q later in (suc rest.0, omega (arith, rest.1), rest.2))
    (Contains-append_cases (f x) (flat_map f xs) q h)

-- numbers that are apart, each of which another list contains, are no more than that list has
apart_within : (xs ys : List ℕ) → AllPairs (λ a b. a ≢ b) xs → ((q : ℕ) → Contains xs q → is_member nat_eq ys q ≡ true) → length xs ≤ length ys
apart_within xs ys apart inside =
    length-le_from_is_member nat_eq_equiv xs ys (IsDistinct-from_AllPairs Decides-eqb xs apart)
    (λ q member. inside q ((is_member-Decides Decides-eqb xs q).0 member))

-- numbers that are apart are as many as there are different ones among those of another list that are the same
apart_count : (xs ys : List ℕ) → AllPairs (λ a b. a ≢ b) xs → ((q : ℕ) → Contains xs q → Contains ys q) → ((q : ℕ) → Contains ys q → Contains xs q)
    → length xs ≡ distinct_count nat_eq ys
apart_count xs ys apart inside back =
    length-from_keys nat_eq_equiv xs ys (IsDistinct-from_AllPairs Decides-eqb xs apart)
    (λ q.
    let in_xs = is_member-Decides Decides-eqb xs q in
    let in_ys = is_member-Decides Decides-eqb ys q in
    same_from_decides (is_member nat_eq xs q) (is_member nat_eq ys q) in_xs
    ((λ member. back q (in_ys.0 member)), (λ there. in_ys.1 (inside q there))))

-- a number of a list is among the different ones of it
kept : (b : Bool) (x q : ℕ) (xs : List ℕ) → is_member nat_eq xs x ≡ b → (is_member nat_eq xs q ≡ true → is_member nat_eq (unique_keys nat_eq xs) q ≡ true)
    → (nat_eq q x || is_member nat_eq xs q) ≡ true → is_member nat_eq (cond b (unique_keys nat_eq xs) (x ∷ unique_keys nat_eq xs)) q ≡ true
kept true x q xs there rest h =
    ⊎_elim (λ (same : nat_eq q x ≡ true). rest (ap (is_member nat_eq xs) ((Decides-eqb q x).0 same) ∙ there)) rest (or_cases (nat_eq q x) (is_member nat_eq xs q) h)
kept false x q xs there rest h =
    ⊎_elim (λ (same : nat_eq q x ≡ true). ap (λ (b : Bool). b || is_member nat_eq (unique_keys nat_eq xs) q) same)
    (λ (later : is_member nat_eq xs q ≡ true). or_right (nat_eq q x) (is_member nat_eq (unique_keys nat_eq xs) q) (rest later))
    (or_cases (nat_eq q x) (is_member nat_eq xs q) h)

member_unique : (xs : List ℕ) (q : ℕ) → is_member nat_eq xs q ≡ true → is_member nat_eq (unique_keys nat_eq xs) q ≡ true
member_unique [] q h = h
member_unique (x ∷ xs) q h = kept (is_member nat_eq xs x) x q xs refl (member_unique xs q) h

-- ---- nothing is loaded at first

pub none_loaded : (choices : ℕ → List ℕ) (cells : ℕ) (l : Loading) → l.holders.items ≡ replicate cells 0 → l.cells.items ≡ [] → IsLoaded choices 0 l
none_loaded choices cells l holders none =
    let zeros : (c : ℕ) → get_or l.holders.items c 0 ≡ 0 =
    λ c. ap (λ (hs : List ℕ). get_or hs c 0) holders ∙ get_or-zeros cells c 0 in
    record {
      count = ap length none;
      stands = λ k lt. absurd (omega arith);
      held = λ k lt. absurd (omega arith);
      known = λ c some. absurd (omega (arith, zeros c));
      cell = λ c some. absurd (omega (arith, zeros c));
    }

pub none_seen : (cells : ℕ) (seen : List Bool) → seen ≡ replicate cells false → IsMarked [] seen
none_seen cells seen all = record {
  marked = λ i lt. absurd (omega arith);
  stepped = λ c is.
      ⊎_elim
      (λ (lt : c < cells). absurd (false≢true (sym (get_or-replicate cells c false false lt) ∙ sym (ap (λ (bs : List Bool). get_or bs c false) all) ∙ is)))
      (λ (past : cells ≤ c).
      absurd (false≢true (sym (get_or_past seen c false (subst (λ (bs : List Bool). length bs ≤ c) (sym all) (omega (arith, length-replicate cells false)))) ∙ is)))
      (cases_lt c cells);
}

-- ---- all are loaded

pub all_loaded : (layout : List Ways) (seed : ℕ) (keys : List (List ℕ)) (c : Choices) (l : Loading) → AreChoices layout seed keys c
    → IsLoaded (choices_at c) (length keys) l → IsLoading layout seed keys l.cells.items
all_loaded layout seed keys c l are loaded = record {
  stand = zip_all (λ key cell. Contains (candidates layout seed key) cell) keys l.cells.items [] 0 (sym loaded.count)
      (λ i lt. subst (λ (cs : List ℕ). Contains cs (get_or l.cells.items i 0)) (choices_are layout seed keys c are i lt) (loaded.stands i lt));
  apart = λ i j d before lt same.
      let a = loaded.held i (omega (arith, loaded.count)) in
      let b = loaded.held j (omega (arith, loaded.count)) in
      let both : get_or l.cells.items i 0 ≡ get_or l.cells.items j 0 =
      get_or_default l.cells.items i 0 d (omega arith) ∙ same ∙ get_or_default l.cells.items j d 0 lt in
      let equal : i + 1 ≡ j + 1 = sym a ∙ ap (λ (x : ℕ). get_or l.holders.items x 0) both ∙ b in
      absurd (omega (arith, equal));
}

-- ---- a closed search

-- the keys of a search's places
abbrev pub members_of : ℕ → List Step → List ℕ → List ℕ
members_of n steps holders = n ∷ map (λ (s : Step). get_or holders s.cell 0 - 1) steps

members_are : (n : ℕ) (steps : List Step) (holders : List ℕ) (p : ℕ) → p < length (members_of n steps holders)
    → get_or (members_of n steps holders) p 0 ≡ key_at n steps holders p
members_are n steps holders zero lt = refl
members_are n steps holders (suc i) lt =
    get_or-map (λ (s : Step). get_or holders s.cell 0 - 1) steps i no_step 0 (omega (arith, length-map steps (λ (s : Step). get_or holders s.cell 0 - 1)))

-- keys at two places differ
keys_apart : (choices : ℕ → List ℕ) (n : ℕ) (l : Loading) (steps : List Step) → IsLoaded choices n l → IsTree choices n steps l.holders.items (length steps)
    → (p q : ℕ) → p < q → q < length steps + 1 → key_at n steps l.holders.items p ≡ key_at n steps l.holders.items q → ⊥
keys_apart choices n l steps loaded tree p zero before lt same = absurd (omega arith)
keys_apart choices n l steps loaded tree zero (suc j) before lt same =
    let taken : 0 < get_or l.holders.items (cell_at steps j) 0 = tree.taken j (omega arith) in
    let known : get_or l.holders.items (cell_at steps j) 0 ≤ n = loaded.known (cell_at steps j) taken in
    absurd (omega (arith, taken, known, same))
keys_apart choices n l steps loaded tree (suc i) (suc j) before lt same =
    let hs = l.holders.items in
    let a : 0 < get_or hs (cell_at steps i) 0 = tree.taken i (omega arith) in
    let b : 0 < get_or hs (cell_at steps j) 0 = tree.taken j (omega arith) in
    tree.apart i j (omega arith) (omega arith)
    (sym (loaded.cell (cell_at steps i) a) ∙ ap (λ (k : ℕ). get_or l.cells.items k 0) same ∙ loaded.cell (cell_at steps j) b)

-- the cells of the steps, as numbers
abbrev cells_of_steps : List Step → List ℕ
cells_of_steps steps = map (λ (s : Step). s.cell) steps

cells_are : (steps : List Step) (i : ℕ) → i < length steps → get_or (cells_of_steps steps) i 0 ≡ cell_at steps i
cells_are steps i lt = get_or-map (λ (s : Step). s.cell) steps i no_step 0 lt

cells_apart : (choices : ℕ → List ℕ) (n : ℕ) (steps : List Step) (holders : List ℕ) → IsTree choices n steps holders (length steps)
    → AllPairs (λ a b. a ≢ b) (cells_of_steps steps)
cells_apart choices n steps holders tree =
    let long = length-map steps (λ (s : Step). s.cell) in
    λ i j d before lt same.
    tree.apart i j before (omega (arith, long))
    (sym (cells_are steps i (omega (arith, long))) ∙ get_or_default (cells_of_steps steps) i 0 d (omega arith) ∙ same
    ∙ get_or_default (cells_of_steps steps) j d 0 lt ∙ cells_are steps j (omega (arith, long)))

-- all cells of the keys that were looked at are taken by these keys: they are fewer than the keys
pub overfull : (layout : List Ways) (seed : ℕ) (keys : List (List ℕ)) (c : Choices) (n : ℕ) (l : Loading) (steps : List Step) (seen : List Bool)
    → AreChoices layout seed keys c → n < length keys → IsLoaded (choices_at c) n l
    → IsSearching (choices_at c) n l.holders.items steps seen (length steps + 1)
    → IsOverfull layout seed keys (members_of n steps l.holders.items) (length steps)
overfull layout seed keys c n l steps seen are lt loaded s =
    let hs = l.holders.items in
    let members = members_of n steps hs in
    let many : length members ≡ length steps + 1 = let long = length-map steps (λ (x : Step). get_or hs x.cell 0 - 1) in omega (arith, long) in
    let known : (p : ℕ) → key_at n steps hs p < length keys = λ p. let k = key_known (choices_at c) n l loaded steps p in omega (arith, k) in
    let of_member : (p : ℕ) → p < length members → candidates layout seed (get_or keys (get_or members p 0) []) ≡ choices_at c (key_at n steps hs p) =
    λ p below.
    ap (λ (k : ℕ). candidates layout seed (get_or keys k [])) (members_are n steps hs p below) ∙ sym (choices_are layout seed keys c are (key_at n steps hs p) (known p)) in
    let long = length-map steps (λ (x : Step). x.cell) in
    record {
      are_keys = λ p d below.
          subst (λ (k : ℕ). k < length keys) (sym (members_are n steps hs p below) ∙ get_or_default members p 0 d below) (known p);
      apart = λ p q d before below same.
          keys_apart (choices_at c) n l steps loaded s.tree p q before (omega (arith, many))
          (sym (members_are n steps hs p (omega arith)) ∙ get_or_default members p 0 d (omega arith) ∙ same ∙ get_or_default members q d 0 below
          ∙ members_are n steps hs q below);
      counted =
          sym long
          ∙ apart_count (cells_of_steps steps) (shared layout seed keys members) (cells_apart (choices_at c) n steps hs s.tree)
          (λ q there.
          let i = there.0 in
          let lt_i : i < length steps = omega (arith, long, there.1) in
          let is : cell_at steps i ≡ q = sym (cells_are steps i lt_i) ∙ get_or_default (cells_of_steps steps) i 0 q there.1 ∙ there.2 in
          let from_le : from_at steps i ≤ i = s.tree.earlier i lt_i in
          let below : from_at steps i < length members = omega (arith, many) in
          joined (λ m. candidates layout seed (get_or keys m [])) members 0 (from_at steps i) q below
          (subst (λ (cs : List ℕ). Contains cs q) (sym (of_member (from_at steps i) below)) (subst (Contains (choices_at c (key_at n steps hs (from_at steps i)))) is (s.tree.chosen i lt_i))))
          (λ q there.
          let one = of_one (λ m. candidates layout seed (get_or keys m [])) members 0 q there in
          let choice : Contains (choices_at c (key_at n steps hs one.0)) q = subst (λ (cs : List ℕ). Contains cs q) (of_member one.0 one.1) one.2 in
          let step = s.marks.stepped q (All-contains (IsSeen seen) (choices_at c (key_at n steps hs one.0)) q (s.closed one.0 (omega (arith, many, one.1))) choice) in
          subst (Contains (cells_of_steps steps)) (cells_are steps step.0 step.1 ∙ step.2) (Contains-get_or (cells_of_steps steps) step.0 0 (omega (arith, long, step.1))));
      too_few = omega (arith, many);
    }

-- ---- both cannot be

pub not_both : (layout : List Ways) (seed : ℕ) (keys : List (List ℕ)) (cells members : List ℕ) (count : ℕ)
    → IsLoading layout seed keys cells → IsOverfull layout seed keys members count → ⊥
not_both layout seed keys cells members count loading over =
    let R : List ℕ → ℕ → Type 0 = λ key cell. Contains (candidates layout seed key) cell in
    let own : List ℕ = map (λ m. get_or cells m 0) members in
    let long = length-map members (λ m. get_or cells m 0) in
    let below : (p : ℕ) → p < length members → get_or members p 0 < length keys = λ p lt. over.are_keys p 0 lt in
    let own_is : (p : ℕ) → p < length members → get_or own p 0 ≡ get_or cells (get_or members p 0) 0 =
    λ p lt. get_or-map (λ m. get_or cells m 0) members p 0 0 lt in
    let at : (m : ℕ) → m < length keys → (m < length cells) × Contains (candidates layout seed (get_or keys m [])) (get_or cells m 0) =
    λ m lt. zip_at R keys cells [] 0 loading.stand m lt in
    let own_apart : AllPairs (λ a b. a ≢ b) own =
    λ p q d before lt same.
    let p_lt : p < length members = omega (arith, long) in
    let q_lt : q < length members = omega (arith, long) in
    let both : get_or cells (get_or members p 0) 0 ≡ get_or cells (get_or members q 0) 0 =
    sym (own_is p p_lt) ∙ get_or_default own p 0 d (omega arith) ∙ same ∙ get_or_default own q d 0 lt ∙ own_is q q_lt in
    ⊎_elim (λ (less : get_or members p 0 < get_or members q 0). loading.apart (get_or members p 0) (get_or members q 0) 0 less (at (get_or members q 0) (below q q_lt)).0 both)
    (λ (rest : get_or members q 0 ≤ get_or members p 0).
    ⊎_elim
    (λ (more : get_or members q 0 < get_or members p 0).
    loading.apart (get_or members q 0) (get_or members p 0) 0 more (at (get_or members p 0) (below p p_lt)).0 (sym both))
    (λ (equal : get_or members p 0 ≤ get_or members q 0). let same_member : get_or members p 0 ≡ get_or members q 0 = omega arith in over.apart p q 0 before q_lt same_member)
    (cases_lt (get_or members q 0) (get_or members p 0)))
    (cases_lt (get_or members p 0) (get_or members q 0)) in
    let inside : (q : ℕ) → Contains own q → is_member nat_eq (unique_keys nat_eq (shared layout seed keys members)) q ≡ true =
    λ q there.
    let p_lt : there.0 < length members = omega (arith, long, there.1) in
    let is : get_or cells (get_or members there.0 0) 0 ≡ q = sym (own_is there.0 p_lt) ∙ get_or_default own there.0 0 q there.1 ∙ there.2 in
    let in_all : Contains (shared layout seed keys members) q =
    joined (λ m. candidates layout seed (get_or keys m [])) members 0 there.0 q p_lt
    (subst (Contains (candidates layout seed (get_or keys (get_or members there.0 0) []))) is (at (get_or members there.0 0) (below there.0 p_lt)).1) in
    member_unique (shared layout seed keys members) q ((is_member-Decides Decides-eqb (shared layout seed keys members) q).1 in_all) in
    let fewer = apart_within own (unique_keys nat_eq (shared layout seed keys members)) own_apart inside in
    omega (arith, fewer, long, over.counted, over.too_few)

-- the keys that have too few cells are no more than all
pub members_few : (layout : List Ways) (seed : ℕ) (keys : List (List ℕ)) (members : List ℕ) (cells : ℕ) → IsOverfull layout seed keys members cells → length members ≤ length keys
members_few layout seed keys members cells full =
    length-le_from_distinct_below members (length keys) (IsDistinct-from_AllPairs Decides-eqb members full.apart)
    (λ q there. All-contains (λ m. m < length keys) members q full.are_keys (found members q there))
  where
    found : (ms : List ℕ) (q : ℕ) → list_any (eqb q) ms ≡ true → Contains ms q
    found [] q e = absurd (both_ways false refl e)
    found (m ∷ ms) q e = by (eqb q m) refl e (found ms q)
      where
        by : (b : Bool) → eqb q m ≡ b → (b || list_any (eqb q) ms) ≡ true → (list_any (eqb q) ms ≡ true → Contains ms q) → Contains (m ∷ ms) q
        by true is h rest = subst (Contains (m ∷ ms)) (sym (eqb-true q m is)) (Contains-first m ms)
        by false is h rest = Contains-later m ms q (rest h)
