-- Moving a key to a free cell, and loading one key more.
use Rattle.std.proofs.Common.{◌≡◌, ℕ, zero, suc, ◌+◌, ◌-◌, ◌<◌, ◌≤◌, List, [], ◌∷◌, ◌++◌, length, get_or, set, Contains, refl, ap, sym, ◌∙◌, subst, ⊎_elim, ◌⊎◌, inl, inr, arith}
use Rattle.std.proofs.lemmas.List.{get_or-set_same, get_or-set_other, length-set, length_push, get_or_append_left, get_or_push}
use Rattle.std.proofs.lemmas.Bool.{cases_eq}
use Rattle.rmt_cuckoo.specs.declared.search.Step.{Step}
use Rattle.rmt_cuckoo.specs.declared.loading.Loading.{Loading}
use Rattle.rmt_cuckoo.specs.Search.{AreTaken, cell_at, from_at, key_at, IsLoaded, IsTree}
use Rattle.rmt_cuckoo.proofs.SearchLaws.{taken_within, split_place}

-- the holders after the key of cell c has moved to cell f
abbrev pub after : List ℕ → ℕ → ℕ → List ℕ
after holders c f = set (set holders f (get_or holders c 0)) c 0

pub after_left : (holders : List ℕ) (c f : ℕ) → c < length holders → get_or (after holders c f) c 0 ≡ 0
after_left holders c f lt =
    let inside : c < length (set holders f (get_or holders c 0)) = subst (λ (n : ℕ). c < n) (sym (length-set holders f (get_or holders c 0))) lt in
    get_or-set_same (set holders f (get_or holders c 0)) c 0 0 inside

pub after_reached : (holders : List ℕ) (c f : ℕ) → f < length holders → (f ≡ c → ⊥) → get_or (after holders c f) f 0 ≡ get_or holders c 0
after_reached holders c f lt other =
    get_or-set_other (set holders f (get_or holders c 0)) c f 0 0 other ∙ get_or-set_same holders f (get_or holders c 0) 0 lt

pub after_else : (holders : List ℕ) (c f x : ℕ) → (x ≡ c → ⊥) → (x ≡ f → ⊥) → get_or (after holders c f) x 0 ≡ get_or holders x 0
after_else holders c f x not_c not_f =
    get_or-set_other (set holders f (get_or holders c 0)) c x 0 0 not_c ∙ get_or-set_other holders f x (get_or holders c 0) 0 not_f

-- a taken cell is no free one
apart : (holders : List ℕ) (x f : ℕ) → 0 < get_or holders x 0 → get_or holders f 0 ≡ 0 → x ≡ f → ⊥
apart holders x f taken free same =
    let none : get_or holders x 0 ≡ 0 = ap (λ (y : ℕ). get_or holders y 0) same ∙ free in omega (arith, taken, none)

-- a cell with a holder after the move is the one moved to, or had its holder before
holder_after : (holders : List ℕ) (c f x : ℕ) → c < length holders → f < length holders → (f ≡ c → ⊥) → 0 < get_or (after holders c f) x 0
    → ((x ≡ f) × (get_or (after holders c f) x 0 ≡ get_or holders c 0)) ⊎ ((x ≡ c → ⊥) × (get_or (after holders c f) x 0 ≡ get_or holders x 0))
holder_after holders c f x c_lt f_lt apart some =
    ⊎_elim
    (λ (same : x ≡ c).
    let none : get_or (after holders c f) x 0 ≡ 0 = ap (λ (y : ℕ). get_or (after holders c f) y 0) same ∙ after_left holders c f c_lt in
    absurd (omega (arith, some, none)))
    (λ (not_c : x ≡ c → ⊥).
    ⊎_elim
    (λ (same : x ≡ f). inl (same, ap (λ (y : ℕ). get_or (after holders c f) y 0) same ∙ after_reached holders c f f_lt apart))
    (λ (not_f : x ≡ f → ⊥). inr (not_c, after_else holders c f x not_c not_f))
    (cases_eq x f))
    (cases_eq x c)

-- a move keeps a loading
pub moved : (choices : ℕ → List ℕ) (n : ℕ) (l m : Loading) (c f : ℕ) → IsLoaded choices n l → 0 < get_or l.holders.items c 0
    → f < length l.holders.items → get_or l.holders.items f 0 ≡ 0 → Contains (choices (get_or l.holders.items c 0 - 1)) f
    → m.holders.items ≡ after l.holders.items c f → m.cells.items ≡ set l.cells.items (get_or l.holders.items c 0 - 1) f → IsLoaded choices n m
moved choices n l m c f old taken inside free chosen holders cells =
    let hs = l.holders.items in
    let cs = l.cells.items in
    let h = get_or hs c 0 in
    let key = h - 1 in
    let known : h ≤ n = old.known c taken in
    let key_lt : key < length cs = omega (arith, old.count, known, taken) in
    let c_lt : c < length hs = taken_within hs c taken in
    let f_not_c : f ≡ c → ⊥ = λ same. apart hs c f taken free (sym same) in
    let at_holder : (x : ℕ) → get_or m.holders.items x 0 ≡ get_or (after hs c f) x 0 = λ x. ap (λ (ys : List ℕ). get_or ys x 0) holders in
    let at_cell : (k : ℕ) → get_or m.cells.items k 0 ≡ get_or (set cs key f) k 0 = λ k. ap (λ (ys : List ℕ). get_or ys k 0) cells in
    record {
      count = ap length cells ∙ length-set cs key f ∙ old.count;
      stands = λ k lt.
          ⊎_elim
          (λ (same : k ≡ key).
          subst (Contains (choices k)) (sym (at_cell k ∙ ap (λ (j : ℕ). get_or (set cs key f) j 0) same ∙ get_or-set_same cs key f 0 key_lt))
          (subst (λ (j : ℕ). Contains (choices j) f) (sym same) chosen))
          (λ (other : k ≡ key → ⊥). subst (Contains (choices k)) (sym (at_cell k ∙ get_or-set_other cs key k f 0 other)) (old.stands k lt))
          (cases_eq k key);
      held = λ k lt.
          ⊎_elim
          (λ (same : k ≡ key).
          let is_f : get_or m.cells.items k 0 ≡ f = at_cell k ∙ ap (λ (j : ℕ). get_or (set cs key f) j 0) same ∙ get_or-set_same cs key f 0 key_lt in
          let has_h : get_or m.holders.items f 0 ≡ h = at_holder f ∙ after_reached hs c f inside f_not_c in
          let next : h ≡ k + 1 = omega (arith, same, taken) in
          ap (λ (x : ℕ). get_or m.holders.items x 0) is_f ∙ has_h ∙ next)
          (λ (other : k ≡ key → ⊥).
          let d = get_or cs k 0 in
          let is_d : get_or m.cells.items k 0 ≡ d = at_cell k ∙ get_or-set_other cs key k f 0 other in
          let has : get_or hs d 0 ≡ k + 1 = old.held k lt in
          let some : 0 < get_or hs d 0 = omega (arith, has) in
          let not_c : d ≡ c → ⊥ =
          λ same. other (let both : h ≡ k + 1 = sym (ap (λ (x : ℕ). get_or hs x 0) same) ∙ has in omega (arith, both)) in
          ap (λ (x : ℕ). get_or m.holders.items x 0) is_d ∙ at_holder d ∙ after_else hs c f d not_c (apart hs d f some free) ∙ has)
          (cases_eq k key);
      known = λ x some.
          ⊎_elim
          (λ here. subst (λ (v : ℕ). v ≤ n) (sym (at_holder x ∙ here.1)) known)
          (λ there.
          let same = at_holder x ∙ there.1 in
          subst (λ (v : ℕ). v ≤ n) (sym same) (old.known x (subst (λ (v : ℕ). 0 < v) same some)))
          (holder_after hs c f x c_lt inside f_not_c (subst (λ (v : ℕ). 0 < v) (at_holder x) some));
      cell = λ x some.
          ⊎_elim
          (λ here. ap (λ (v : ℕ). get_or m.cells.items (v - 1) 0) (at_holder x ∙ here.1) ∙ at_cell key ∙ get_or-set_same cs key f 0 key_lt ∙ sym here.0)
          (λ there.
          let same = at_holder x ∙ there.1 in
          let v = get_or hs x 0 in
          let cell_x : get_or cs (v - 1) 0 ≡ x = old.cell x (subst (λ (y : ℕ). 0 < y) same some) in
          let cell_c : get_or cs key 0 ≡ c = old.cell c taken in
          let other : v - 1 ≡ key → ⊥ = λ both. there.0 (sym cell_x ∙ ap (λ (j : ℕ). get_or cs j 0) both ∙ cell_c) in
          ap (λ (y : ℕ). get_or m.cells.items (y - 1) 0) same ∙ at_cell (v - 1) ∙ get_or-set_other cs key (v - 1) f 0 other ∙ cell_x)
          (holder_after hs c f x c_lt inside f_not_c (subst (λ (v : ℕ). 0 < v) (at_holder x) some));
    }

-- the keys at earlier places stay
key_stays : (n : ℕ) (steps : List Step) (holders : List ℕ) (c f m : ℕ)
    → ((i : ℕ) → i < m → get_or (after holders c f) (cell_at steps i) 0 ≡ get_or holders (cell_at steps i) 0)
    → (p : ℕ) → p ≤ m → key_at n steps (after holders c f) p ≡ key_at n steps holders p
key_stays n steps holders c f m stay zero le = refl
key_stays n steps holders c f m stay (suc i) le = ap (λ (h : ℕ). h - 1) (stay i (omega arith))

-- what is left of the way after a move from the cell of step i
cells_stay : (choices : ℕ → List ℕ) (n : ℕ) (steps : List Step) (holders : List ℕ) (place i f : ℕ) → IsTree choices n steps holders place
    → i < place → get_or holders f 0 ≡ 0 → (j : ℕ) → j < i → get_or (after holders (cell_at steps i) f) (cell_at steps j) 0 ≡ get_or holders (cell_at steps j) 0
cells_stay choices n steps holders place i f t lt free j before =
    after_else holders (cell_at steps i) f (cell_at steps j) (t.apart j i before lt) (apart holders (cell_at steps j) f (t.taken j (omega arith)) free)

pub tree_left : (choices : ℕ → List ℕ) (n : ℕ) (steps : List Step) (holders : List ℕ) (place i f : ℕ) → IsTree choices n steps holders place
    → i < place → get_or holders f 0 ≡ 0
    → IsTree choices n steps (after holders (cell_at steps i) f) (from_at steps i)
    × Contains (choices (key_at n steps (after holders (cell_at steps i) f) (from_at steps i))) (cell_at steps i)
tree_left choices n steps holders place i f t lt free =
    let c = cell_at steps i in
    let m = from_at steps i in
    let le : m ≤ i = t.earlier i lt in
    let stay : (j : ℕ) → j < m → get_or (after holders c f) (cell_at steps j) 0 ≡ get_or holders (cell_at steps j) 0 =
    λ j before. cells_stay choices n steps holders place i f t lt free j (omega arith) in
    let keys = key_stays n steps holders c f m stay in (
      record {
        there = omega (arith, t.there);
        taken = λ j before. subst (λ (h : ℕ). 0 < h) (sym (stay j before)) (t.taken j (omega arith));
        earlier = λ j before. t.earlier j (omega arith);
        chosen = λ j before.
            let from_le : from_at steps j ≤ j = t.earlier j (omega arith) in
            subst (λ (k : ℕ). Contains (choices k) (cell_at steps j)) (sym (keys (from_at steps j) (omega arith))) (t.chosen j (omega arith));
        apart = λ j k before after_j. t.apart j k before (omega arith);
      },
      subst (λ (k : ℕ). Contains (choices k) c) (sym (keys m (omega arith))) (t.chosen i lt),
    )

-- one key more, in a free cell of its own
pub added : (choices : ℕ → List ℕ) (n : ℕ) (l m : Loading) (f : ℕ) → IsLoaded choices n l → f < length l.holders.items
    → get_or l.holders.items f 0 ≡ 0 → Contains (choices n) f
    → m.holders.items ≡ set l.holders.items f (n + 1) → m.cells.items ≡ l.cells.items ++ f ∷ [] → IsLoaded choices (n + 1) m
added choices n l m f old inside free chosen holders cells =
    let hs = l.holders.items in
    let cs = l.cells.items in
    let at_holder : (x : ℕ) → get_or m.holders.items x 0 ≡ get_or (set hs f (n + 1)) x 0 = λ x. ap (λ (ys : List ℕ). get_or ys x 0) holders in
    let at_cell : (k : ℕ) → get_or m.cells.items k 0 ≡ get_or (cs ++ f ∷ []) k 0 = λ k. ap (λ (ys : List ℕ). get_or ys k 0) cells in
    let at_f : get_or m.holders.items f 0 ≡ n + 1 = at_holder f ∙ get_or-set_same hs f (n + 1) 0 inside in
    let at_n : get_or m.cells.items n 0 ≡ f = at_cell n ∙ get_or_push cs f 0 n old.count in
    let old_cell : (k : ℕ) → k < n → get_or m.cells.items k 0 ≡ get_or cs k 0 =
    λ k lt. at_cell k ∙ get_or_append_left cs (f ∷ []) 0 k (omega (arith, old.count)) in
    let old_holder : (x : ℕ) → (x ≡ f → ⊥) → get_or m.holders.items x 0 ≡ get_or hs x 0 = λ x other. at_holder x ∙ get_or-set_other hs f x (n + 1) 0 other in
    record {
      count = ap length cells ∙ length_push cs f ∙ ap (λ (k : ℕ). k + 1) old.count;
      stands = λ k lt.
          ⊎_elim (λ (before : k < n). subst (Contains (choices k)) (sym (old_cell k before)) (old.stands k before))
          (λ (last : k ≡ n).
          subst (λ (j : ℕ). Contains (choices j) (get_or m.cells.items j 0)) (sym last) (subst (Contains (choices n)) (sym at_n) chosen))
          (split_place k n lt);
      held = λ k lt.
          ⊎_elim
          (λ (before : k < n).
          let d = get_or cs k 0 in
          let has : get_or hs d 0 ≡ k + 1 = old.held k before in
          let some : 0 < get_or hs d 0 = omega (arith, has) in
          ap (λ (x : ℕ). get_or m.holders.items x 0) (old_cell k before) ∙ old_holder d (apart hs d f some free) ∙ has)
          (λ (last : k ≡ n).
          ap (λ (j : ℕ). get_or m.holders.items (get_or m.cells.items j 0) 0) last ∙ ap (λ (x : ℕ). get_or m.holders.items x 0) at_n ∙ at_f
          ∙ ap (λ (j : ℕ). j + 1) (sym last))
          (split_place k n lt);
      known = λ x some.
          ⊎_elim
          (λ (same : x ≡ f).
          let has : get_or m.holders.items x 0 ≡ n + 1 = ap (λ (y : ℕ). get_or m.holders.items y 0) same ∙ at_f in omega (arith, has))
          (λ (other : x ≡ f → ⊥).
          let same = old_holder x other in
          let le : get_or hs x 0 ≤ n = old.known x (subst (λ (v : ℕ). 0 < v) same some) in omega (arith, same, le))
          (cases_eq x f);
      cell = λ x some.
          ⊎_elim
          (λ (same : x ≡ f).
          let has : get_or m.holders.items x 0 - 1 ≡ n =
          let all : get_or m.holders.items x 0 ≡ n + 1 = ap (λ (y : ℕ). get_or m.holders.items y 0) same ∙ at_f in omega (arith, all) in
          ap (λ (j : ℕ). get_or m.cells.items j 0) has ∙ at_n ∙ sym same)
          (λ (other : x ≡ f → ⊥).
          let same = old_holder x other in
          let v = get_or hs x 0 in
          let there : 0 < v = subst (λ (y : ℕ). 0 < y) same some in
          let le : v ≤ n = old.known x there in
          ap (λ (y : ℕ). get_or m.cells.items (y - 1) 0) same ∙ old_cell (v - 1) (omega (arith, there, le)) ∙ old.cell x there)
          (cases_eq x f);
    }

-- ---- the taken cells from the first one on

-- one taken cell more
pub taken_more : (holders : List ℕ) (many : ℕ) → AreTaken holders many → 0 < get_or holders many 0 → AreTaken holders (many + 1)
taken_more holders many before next c lt =
    ⊎_elim (λ (old : c < many). before c old) (λ (last : c ≡ many). subst (λ (x : ℕ). 0 < get_or holders x 0) (sym last) next) (split_place c many lt)

-- so many cells are taken from the first one on, but perhaps a hole among them
abbrev pub AreTakenBut : List ℕ → ℕ → ℕ → Type 0
AreTakenBut holders hole many = (c : ℕ) → c < many → (c ≡ hole → ⊥) → 0 < get_or holders c 0

-- a move to the hole makes another one
pub hole_moves : (holders : List ℕ) (c f many : ℕ) → 0 < get_or holders c 0 → f < length holders → get_or holders f 0 ≡ 0
    → AreTakenBut holders f many → AreTakenBut (after holders c f) c many
hole_moves holders c f many taken inside free before x lt not_c =
    ⊎_elim
    (λ (same : x ≡ f).
    let is : get_or (after holders c f) x 0 ≡ get_or holders c 0 =
    ap (λ (y : ℕ). get_or (after holders c f) y 0) same ∙ after_reached holders c f inside (λ (e : f ≡ c). apart holders c f taken free (sym e)) in
    omega (arith, is, taken))
    (λ (other : x ≡ f → ⊥). subst (λ (v : ℕ). 0 < v) (sym (after_else holders c f x not_c other)) (before x lt other))
    (cases_eq x f)

-- a key in the hole leaves none
pub hole_filled : (holders : List ℕ) (f n many : ℕ) → f < length holders → AreTakenBut holders f many → AreTaken (set holders f (n + 1)) many
hole_filled holders f n many inside before x lt =
    ⊎_elim
    (λ (same : x ≡ f).
    let is : get_or (set holders f (n + 1)) x 0 ≡ n + 1 =
    ap (λ (y : ℕ). get_or (set holders f (n + 1)) y 0) same ∙ get_or-set_same holders f (n + 1) 0 inside in
    omega (arith, is))
    (λ (other : x ≡ f → ⊥). subst (λ (v : ℕ). 0 < v) (sym (get_or-set_other holders f x (n + 1) 0 other)) (before x lt other))
    (cases_eq x f)
