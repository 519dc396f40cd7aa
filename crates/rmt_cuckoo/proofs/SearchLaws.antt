-- How a search grows, and what it has come to.
use Rattle.std.proofs.Common.{◌≡◌, ◌≢◌, ℕ, zero, suc, ◌+◌, ◌-◌, ◌<◌, ◌≤◌, List, [], ◌∷◌, ◌++◌, Bool, true, false, length, map, eqb, get_or, set, All, Contains, refl, ap, sym, ◌∙◌, subst, ◌⊎◌, ⊎_elim, inl, inr, arith}
use Rattle.std.proofs.lemmas.List.{get_or_past, get_or-set_same, get_or-set_other, length-set, length_push, length-map, get_or_append_left, get_or_push, get_or-map, get_or_default}
use Rattle.std.proofs.lemmas.List.Elements.{All-contains, All-weaker}
use Rattle.std.proofs.lemmas.Bool.{cases_lt, cases_eq}
use Rattle.std.proofs.lemmas.Bool.Decides.{Decides-eqb}
use Rattle.std.proofs.lemmas.Map.Made.{IsDistinct-from_AllPairs, is_member-Decides}
use Rattle.std.proofs.lemmas.Map.Steps.{length-le_from_distinct_below}
use Rattle.std.specs.Prelude.{AllPairs}
use Rattle.std.specs.List.{IsDistinct, list_any}
use Rattle.rmt_cuckoo.specs.declared.search.Step.{Step}
use Rattle.rmt_cuckoo.specs.declared.loading.Loading.{Loading}
use Rattle.rmt_cuckoo.specs.Search.{no_step, cell_at, from_at, key_at, IsSeen, IsMarked, IsLoaded, IsTree, Grows, IsSearching}

-- a cell that is taken is one of the table
pub taken_within : (holders : List ℕ) (c : ℕ) → 0 < get_or holders c 0 → c < length holders
taken_within holders c taken =
    ⊎_elim (λ lt. lt) (λ past. let none = get_or_past holders c 0 past in absurd (omega (arith, none, taken))) (cases_lt c (length holders))

-- one more mark
seen_more : (seen : List Bool) (cell c : ℕ) → cell < length seen → IsSeen seen c → IsSeen (set seen cell true) c
seen_more seen cell c lt is =
    ⊎_elim (λ same. subst (IsSeen (set seen cell true)) (sym same) (get_or-set_same seen cell true false lt))
    (λ other. get_or-set_other seen cell c true false other ∙ is) (cases_eq c cell)

-- a step at the end
last_step : (steps : List Step) (s : Step) → get_or (steps ++ s ∷ []) (length steps) no_step ≡ s
last_step steps s = get_or_push steps s no_step (length steps) refl

old_step : (steps : List Step) (s : Step) (i : ℕ) → i < length steps → get_or (steps ++ s ∷ []) i no_step ≡ get_or steps i no_step
old_step steps s i lt = get_or_append_left steps (s ∷ []) no_step i lt

-- a place of a longer list is one of the list, or the last
pub split_place : (i n : ℕ) → i < n + 1 → (i < n) ⊎ (i ≡ n)
split_place i n lt = ⊎_elim (λ below. inl below) (λ past. let same : i ≡ n = omega arith in inr same) (cases_lt i n)

marked_more : (steps : List Step) (seen : List Bool) (s : Step) → s.cell < length seen → IsMarked steps seen → IsMarked (steps ++ s ∷ []) (set seen s.cell true)
marked_more steps seen s lt m = record {
  marked = λ i below.
      ⊎_elim
      (λ (old : i < length steps).
      subst (IsSeen (set seen s.cell true)) (sym (ap (λ (x : Step). x.cell) (old_step steps s i old))) (seen_more seen s.cell (cell_at steps i) lt (m.marked i old)))
      (λ (last : i ≡ length steps).
      subst (IsSeen (set seen s.cell true)) (sym (ap (λ (x : Step). x.cell) (ap (λ (j : ℕ). get_or (steps ++ s ∷ []) j no_step) last ∙ last_step steps s)))
      (get_or-set_same seen s.cell true false lt))
      (split_place i (length steps) (let len = length_push steps s in omega (arith, len, below)));
  stepped = λ c is.
      ⊎_elim
      (λ (same : c ≡ s.cell).
      (length steps, let len = length_push steps s in omega (arith, len), ap (λ (x : Step). x.cell) (last_step steps s) ∙ sym same))
      (λ (other : c ≡ s.cell → ⊥).
      let old = m.stepped c (sym (get_or-set_other seen s.cell c true false other) ∙ is) in
      (old.0, let len = length_push steps s in omega (arith, len, old.1), ap (λ (x : Step). x.cell) (old_step steps s old.0 old.1) ∙ old.2))
      (cases_eq c s.cell);
}

-- one step more, to a cell of the row that was not seen
pub grows_more : (place : ℕ) (row : List ℕ) (steps : List Step) (seen : List Bool) (more : List Step) (marks : List Bool) (s : Step)
    → s.from ≡ place → s.cell < length marks → Contains row s.cell → (IsSeen marks s.cell → ⊥)
    → Grows place row steps seen more marks → Grows place row steps seen (more ++ s ∷ []) (set marks s.cell true)
grows_more place row steps seen more marks s from lt chosen unseen g =
    let len : length (more ++ s ∷ []) ≡ length more + 1 = length_push more s in
    record {
      size = length-set marks s.cell true ∙ g.size;
      longer = omega (arith, len, g.longer);
      kept = λ i below. old_step more s i (omega (arith, g.longer, below)) ∙ g.kept i below;
      from = λ i le below.
          ⊎_elim
          (λ (old : i < length more). ap (λ (x : Step). x.from) (old_step more s i old) ∙ g.from i le old)
          (λ (last : i ≡ length more). ap (λ (x : Step). x.from) (ap (λ (j : ℕ). get_or (more ++ s ∷ []) j no_step) last ∙ last_step more s) ∙ from)
          (split_place i (length more) (omega (arith, len, below)));
      chosen = λ i le below.
          ⊎_elim
          (λ (old : i < length more). subst (Contains row) (sym (ap (λ (x : Step). x.cell) (old_step more s i old))) (g.chosen i le old))
          (λ (last : i ≡ length more).
          subst (Contains row) (sym (ap (λ (x : Step). x.cell) (ap (λ (j : ℕ). get_or (more ++ s ∷ []) j no_step) last ∙ last_step more s))) chosen)
          (split_place i (length more) (omega (arith, len, below)));
      fresh = λ i j before le below same.
          ⊎_elim
          (λ (old : j < length more).
          g.fresh i j before le old
          (sym (ap (λ (x : Step). x.cell) (old_step more s i (omega arith))) ∙ same ∙ ap (λ (x : Step). x.cell) (old_step more s j old)))
          (λ (last : j ≡ length more).
          unseen
          (subst (IsSeen marks)
          (sym (ap (λ (x : Step). x.cell) (old_step more s i (omega arith))) ∙ same
          ∙ ap (λ (x : Step). x.cell) (ap (λ (k : ℕ). get_or (more ++ s ∷ []) k no_step) last ∙ last_step more s))
          (g.marked.marked i (omega arith))))
          (split_place j (length more) (omega (arith, len, below)));
      marked = marked_more more marks s lt g.marked;
      still = λ c is. seen_more marks s.cell c lt (g.still c is);
    }

-- a cell of the row that has just been seen, with the ones before it
pub all_seen_more : (row : List ℕ) (marks : List Bool) (i cell : ℕ) → cell ≡ get_or row i 0 → cell < length marks
    → ((k : ℕ) → k < i → IsSeen marks (get_or row k 0)) → (k : ℕ) → k < i + 1 → IsSeen (set marks cell true) (get_or row k 0)
all_seen_more row marks i cell is lt before k below =
    ⊎_elim (λ (old : k < i). seen_more marks cell (get_or row k 0) lt (before k old))
    (λ (last : k ≡ i).
    subst (IsSeen (set marks cell true)) (is ∙ ap (λ (j : ℕ). get_or row j 0) (sym last)) (get_or-set_same marks cell true false lt))
    (split_place k i below)

-- the same where the cell was seen before
pub all_seen_still : (row : List ℕ) (marks : List Bool) (i cell : ℕ) → cell ≡ get_or row i 0 → IsSeen marks cell
    → ((k : ℕ) → k < i → IsSeen marks (get_or row k 0)) → (k : ℕ) → k < i + 1 → IsSeen marks (get_or row k 0)
all_seen_still row marks i cell is seen before k below =
    ⊎_elim (λ (old : k < i). before k old)
    (λ (last : k ≡ i). subst (IsSeen marks) (is ∙ ap (λ (j : ℕ). get_or row j 0) (sym last)) seen)
    (split_place k i below)

-- the key at a place is one of those that stand, or the one that needs a cell
pub key_known : (choices : ℕ → List ℕ) (n : ℕ) (l : Loading) → IsLoaded choices n l → (steps : List Step) (p : ℕ)
    → key_at n steps l.holders.items p < n + 1
key_known choices n l loaded steps zero = omega arith
key_known choices n l loaded steps (suc i) =
    let h = get_or l.holders.items (cell_at steps i) 0 in
    ⊎_elim (λ (some : 0 < h). let known : h ≤ n = loaded.known (cell_at steps i) some in omega (arith, known)) (λ (none : h ≤ 0). omega (arith, none))
    (cases_lt 0 h)

key_kept : (n : ℕ) (steps more : List Step) (holders : List ℕ)
    → ((i : ℕ) → i < length steps → get_or more i no_step ≡ get_or steps i no_step)
    → (p : ℕ) → p ≤ length steps → key_at n more holders p ≡ key_at n steps holders p
key_kept n steps more holders kept zero le = refl
key_kept n steps more holders kept (suc i) le = ap (λ (s : Step). get_or holders s.cell 0 - 1) (kept i (omega arith))

-- a search that has looked at one place more, whose key has no free cell
pub search_more : (choices : ℕ → List ℕ) (n : ℕ) (holders : List ℕ) (steps : List Step) (seen : List Bool) (place : ℕ) (row : List ℕ)
    (more : List Step) (marks : List Bool) → IsSearching choices n holders steps seen place → place ≤ length steps
    → row ≡ choices (key_at n steps holders place) → All (λ c. 0 < get_or holders c 0) row → Grows place row steps seen more marks
    → All (IsSeen marks) row → IsSearching choices n holders more marks (place + 1)
search_more choices n holders steps seen place row more marks s known is taken g all =
    let cell_kept : (i : ℕ) → i < length steps → cell_at more i ≡ cell_at steps i = λ i lt. ap (λ (x : Step). x.cell) (g.kept i lt) in
    let from_kept : (i : ℕ) → i < length steps → from_at more i ≡ from_at steps i = λ i lt. ap (λ (x : Step). x.from) (g.kept i lt) in
    record {
      size = g.size ∙ s.size;
      tree = record {
        there = omega arith;
        taken = λ i lt.
            ⊎_elim (λ (old : i < length steps). subst (λ (c : ℕ). 0 < get_or holders c 0) (sym (cell_kept i old)) (s.tree.taken i old))
            (λ (new : length steps ≤ i). All-contains (λ c. 0 < get_or holders c 0) row (cell_at more i) taken (g.chosen i new lt))
            (cases_lt i (length steps));
        earlier = λ i lt.
            ⊎_elim (λ (old : i < length steps). subst (λ (f : ℕ). f ≤ i) (sym (from_kept i old)) (s.tree.earlier i old))
            (λ (new : length steps ≤ i). let from : from_at more i ≡ place = g.from i new lt in omega (arith, from))
            (cases_lt i (length steps));
        chosen = λ i lt.
            ⊎_elim
            (λ (old : i < length steps).
            let earlier : from_at steps i ≤ i = s.tree.earlier i old in
            let key : key_at n more holders (from_at more i) ≡ key_at n steps holders (from_at steps i) =
            ap (key_at n more holders) (from_kept i old) ∙ key_kept n steps more holders g.kept (from_at steps i) (omega arith) in
            subst (λ (k : ℕ). Contains (choices k) (cell_at more i)) (sym key)
            (subst (Contains (choices (key_at n steps holders (from_at steps i)))) (sym (cell_kept i old)) (s.tree.chosen i old)))
            (λ (new : length steps ≤ i).
            let key : key_at n more holders (from_at more i) ≡ key_at n steps holders place =
            ap (key_at n more holders) (g.from i new lt) ∙ key_kept n steps more holders g.kept place known in
            subst (λ (k : ℕ). Contains (choices k) (cell_at more i)) (sym key) (subst (λ (cs : List ℕ). Contains cs (cell_at more i)) is (g.chosen i new lt)))
            (cases_lt i (length steps));
        apart = λ i j before lt same.
            ⊎_elim
            (λ (old : j < length steps). s.tree.apart i j before old (sym (cell_kept i (omega arith)) ∙ same ∙ cell_kept j old))
            (λ (new : length steps ≤ j). g.fresh i j before new lt same) (cases_lt j (length steps));
      };
      marks = g.marked;
      closed = λ p lt.
          ⊎_elim
          (λ (old : p < place).
          subst (λ (k : ℕ). All (IsSeen marks) (choices k)) (sym (key_kept n steps more holders g.kept p (omega arith)))
          (All-weaker (IsSeen seen) (IsSeen marks) g.still (choices (key_at n steps holders p)) (s.closed p old)))
          (λ (last : p ≡ place).
          subst (λ (q : ℕ). All (IsSeen marks) (choices (key_at n more holders q))) (sym last)
          (subst (λ (k : ℕ). All (IsSeen marks) (choices k)) (sym (key_kept n steps more holders g.kept place known))
          (subst (All (IsSeen marks)) is all)))
          (split_place p place lt);
    }

-- a search comes to no more cells than there are
pub few_steps : (choices : ℕ → List ℕ) (n : ℕ) (holders : List ℕ) (steps : List Step) → IsTree choices n steps holders (length steps) → length steps ≤ length holders
few_steps choices n holders steps tree =
    let cells = map (λ (s : Step). s.cell) steps in
    let at : (i : ℕ) → i < length steps → get_or cells i 0 ≡ cell_at steps i = λ i lt. get_or-map (λ (s : Step). s.cell) steps i no_step 0 lt in
    let long : length cells ≡ length steps = length-map steps (λ (s : Step). s.cell) in
    let apart : AllPairs (λ a b. a ≢ b) cells =
    λ i j d before lt same.
    tree.apart i j before (omega (arith, long))
    (sym (at i (omega (arith, long))) ∙ get_or_default cells i 0 d (omega arith) ∙ same ∙ get_or_default cells j d 0 lt ∙ at j (omega (arith, long))) in
    let distinct : IsDistinct eqb cells = IsDistinct-from_AllPairs Decides-eqb cells apart in
    let below : (q : ℕ) → list_any (eqb q) cells ≡ true → q < length holders =
    λ q member.
    let there = (is_member-Decides Decides-eqb cells q).0 member in
    subst (λ (c : ℕ). c < length holders) (sym (at there.0 (omega (arith, long, there.1))) ∙ get_or_default cells there.0 0 q there.1 ∙ there.2)
    (taken_within holders (cell_at steps there.0) (tree.taken there.0 (omega (arith, long, there.1)))) in
    omega (arith, long, length-le_from_distinct_below cells (length holders) distinct below)
