use Rattle.std.proofs.Common.{◌≡◌, ℕ, ◌+◌, ◌-◌, ◌<◌, ◌≤◌, Contains, Bool, true, false, List, All, length, vec_len, get_or, subst, sym, ap, ◌∙◌, refl, arith}
use Rattle.std.proofs.lemmas.List.{length-replicate}
use Rattle.std.proofs.lemmas.Bool.{false≢true}
use Rattle.rmt_cuckoo.specs.declared.layout.Ways.{Ways}
use Rattle.rmt_cuckoo.specs.declared.search.Search.{Search}
use Rattle.rmt_cuckoo.specs.declared.choices.Choices.{Choices}
use Rattle.rmt_cuckoo.specs.declared.loading.Loading.{Loading}
use Rattle.rmt_cuckoo.specs.Loading.{IsLoading, IsOverfull, cells_of}
use Rattle.rmt_cuckoo.specs.Choices.{AreChoices, AreWithin, choices_at}
use Rattle.rmt_cuckoo.specs.Search.{IsLoaded, Searched, cell_at}
use Rattle.rmt_cuckoo.proofs.RowLaws.{choices_within, fewer_keys}
use Rattle.rmt_cuckoo.proofs.LoadLaws.{none_loaded, none_seen, all_loaded, members_of, overfull, not_both}
use Rattle.rmt_cuckoo.proofs.loader.load.Goals as goal

within : (layout : List Ways) (seed : ℕ) (keys : List (List ℕ)) (c : Choices) (few cells : ℕ) → All (λ (p : Ways). 1 ≤ p.rows) layout
    → AreChoices layout seed keys c → few ≤ length keys → cells ≡ cells_of layout → AreWithin few cells c
within layout seed keys c few cells rows are le is =
    subst (λ (n : ℕ). AreWithin few n c) (sym is) (fewer_keys few (length keys) (cells_of layout) c le (choices_within layout seed keys c rows are))

pub place-requires-clause-within : goal.place-requires-clause-within
place-requires-clause-within c =
    within c.args.layout.now c.args.seed c.args.keys.now c.in_ok-choices.choices (vec_len c.loop.loading.cells + 1) (vec_len c.loop.loading.holders)
    c.requires.rows c.in_ok-choices.ensures (omega (arith, c.loop.invariant.loaded.count, c.loop-test.true, c.len-end.ensures)) (c.loop.invariant.holders ∙ c.in_ok-choices.ensures.cells)

pub place-requires-clause-few : goal.place-requires-clause-few
place-requires-clause-few c = omega (arith, c.loop.invariant.holders, c.in_ok-choices.ensures.cells, c.requires.few_cells)

pub place-requires-clause-loaded : goal.place-requires-clause-loaded
place-requires-clause-loaded c =
    let count : vec_len c.loop.loading.cells ≡ c.loop.counter = omega (arith, c.loop.invariant.loaded.count) in
    subst (λ (n : ℕ). IsLoaded (choices_at c.in_ok-choices.choices) n c.loop.loading) (sym count) c.loop.invariant.loaded

pub count_taken-requires-clause-few : goal.count_taken-requires-clause-few
count_taken-requires-clause-few c = omega (arith, c.in_ok-place.ensures.holders, c.loop.invariant.holders, c.in_ok-choices.ensures.cells, c.requires.few_cells)

pub loop-init : goal.loop-init
loop-init c = record {
  loaded = none_loaded (choices_at c.in_ok-choices.choices) c.in_ok-choices.choices.cells c.in_ok-loading.loading c.in_ok-loading.ensures.holders c.in_ok-loading.ensures.cells;
  holders =
      let size : length c.in_ok-loading.loading.holders.items ≡ c.in_ok-choices.choices.cells =
      ap length c.in_ok-loading.ensures.holders ∙ length-replicate c.in_ok-choices.choices.cells 0 in
      omega (arith, size);
  seen =
      let size : length c.in_ok-search.search.seen.items ≡ c.in_ok-choices.choices.cells =
      ap length c.in_ok-search.ensures.seen ∙ length-replicate c.in_ok-choices.choices.cells false in
      omega (arith, size);
  steps = c.in_ok-search.ensures.steps;
  marks = none_seen c.in_ok-choices.choices.cells c.in_ok-search.search.seen.items c.in_ok-search.ensures.seen;
  taken = λ x lt. absurd (omega (arith, lt, c.in_ok-loading.ensures.taken));
}

searched_true : (choices : ℕ → List ℕ) (n : ℕ) (l : Loading) (s : Search) (found : Bool) → found ≡ true → Searched choices n l s found → IsLoaded choices (n + 1) l
searched_true choices n l s found is h = subst (Searched choices n l s) is h

-- a loading with the same holders and cells
loaded_same : (choices : ℕ → List ℕ) (n : ℕ) (l m : Loading) → m.holders.items ≡ l.holders.items → m.cells.items ≡ l.cells.items
    → IsLoaded choices n l → IsLoaded choices n m
loaded_same choices n l m holders cells old = record {
  count = ap length cells ∙ old.count;
  stands = λ k lt. subst (λ (cs : List ℕ). Contains (choices k) (get_or cs k 0)) (sym cells) (old.stands k lt);
  held = λ k lt.
      subst (λ (hs : List ℕ). get_or hs (get_or m.cells.items k 0) 0 ≡ k + 1) (sym holders)
      (subst (λ (cs : List ℕ). get_or l.holders.items (get_or cs k 0) 0 ≡ k + 1) (sym cells) (old.held k lt));
  known = λ x some.
      subst (λ (hs : List ℕ). get_or hs x 0 ≤ n) (sym holders) (old.known x (subst (λ (hs : List ℕ). 0 < get_or hs x 0) holders some));
  cell = λ x some.
      subst (λ (hs : List ℕ). get_or m.cells.items (get_or hs x 0 - 1) 0 ≡ x) (sym holders)
      (subst (λ (cs : List ℕ). get_or cs (get_or l.holders.items x 0 - 1) 0 ≡ x) (sym cells)
      (old.cell x (subst (λ (hs : List ℕ). 0 < get_or hs x 0) holders some)));
}

pub loop-preserved : goal.loop-preserved
loop-preserved c =
    let count : vec_len c.loop.loading.cells ≡ c.loop.counter = omega (arith, c.loop.invariant.loaded.count) in
    record {
      loaded = loaded_same (choices_at c.in_ok-choices.choices) (c.loop.counter + 1) c.place.new.loading c.count_taken.new.self
          c.count_taken.ensures.holders c.count_taken.ensures.cells
          (subst (λ (n : ℕ). IsLoaded (choices_at c.in_ok-choices.choices) (n + 1) c.place.new.loading) count
          (searched_true (choices_at c.in_ok-choices.choices) (vec_len c.loop.loading.cells) c.place.new.loading c.place.new.self c.in_ok-place.field-0 c.if-not-branch.false c.in_ok-place.ensures.searched));
      holders =
          let same : vec_len c.count_taken.new.self.holders ≡ vec_len c.place.new.loading.holders =
          let len = ap length c.count_taken.ensures.holders in omega (arith, len) in
          same ∙ c.in_ok-place.ensures.holders ∙ c.loop.invariant.holders;
      seen = c.clear.ensures.size ∙ c.in_ok-place.ensures.seen ∙ c.loop.invariant.seen;
      steps = c.clear.ensures.steps;
      marks = c.clear.ensures.marks;
      taken = c.count_taken.ensures.taken;
    }

-- a search that ended without a free cell
failed : (layout : List Ways) (seed : ℕ) (keys : List (List ℕ)) (c : Choices) (n : ℕ) (l : Loading) (s : Search) (found : Bool) (members : List ℕ) (count : ℕ)
    → AreChoices layout seed keys c → n < length keys → found ≡ false → Searched (choices_at c) n l s found
    → members ≡ members_of (vec_len l.cells) s.steps.items l.holders.items → count ≡ length s.steps.items → IsOverfull layout seed keys members count
failed layout seed keys c n l s found members count are lt is searched named counted =
    let both = subst (Searched (choices_at c) n l s) is searched in
    let same : vec_len l.cells ≡ n = omega (arith, both.0.count) in
    subst (λ (k : ℕ). IsOverfull layout seed keys members k) (sym counted)
    (subst (λ (ms : List ℕ). IsOverfull layout seed keys ms (length s.steps.items)) (sym (named ∙ ap (λ (k : ℕ). members_of k s.steps.items l.holders.items) same))
    (overfull layout seed keys c n l s.steps.items s.seen.items are lt both.0 both.1))

-- the counts of what a failed search has come to
taken : (layout : List Ways) (seed : ℕ) (keys : List (List ℕ)) (c : Choices) (n : ℕ) (l : Loading) (s : Search) (found : Bool) → found ≡ false
    → Searched (choices_at c) n l s found → (i : ℕ) → i < length s.steps.items → 0 < get_or l.holders.items (cell_at s.steps.items i) 0
taken layout seed keys c n l s found is searched i lt = (subst (Searched (choices_at c) n l s) is searched).1.tree.taken i lt

-- a loading exists exactly where there is no fault
exact_ok : (layout : List Ways) (seed : ℕ) (keys : List (List ℕ)) (cells : List ℕ) → IsLoading layout seed keys cells
    → (true ≡ true → (xs : List ℕ) × IsLoading layout seed keys xs) × (((xs : List ℕ) × IsLoading layout seed keys xs) → true ≡ true)
exact_ok layout seed keys cells loading = ((λ _. (cells, loading)), (λ _. refl))

exact_err : (layout : List Ways) (seed : ℕ) (keys : List (List ℕ)) (members : List ℕ) (count : ℕ) → IsOverfull layout seed keys members count
    → (false ≡ true → (xs : List ℕ) × IsLoading layout seed keys xs) × (((xs : List ℕ) × IsLoading layout seed keys xs) → false ≡ true)
exact_err layout seed keys members count over =
    ((λ e. absurd (false≢true e)), (λ some. absurd (not_both layout seed keys some.0 members count some.1 over)))

pub returns-then-not-branch-clause-fault : goal.returns-then-not-branch-clause-fault
returns-then-not-branch-clause-fault c =
    let steps = c.as_slice.ensures.value in
    failed c.args.layout.now c.args.seed c.args.keys.now c.in_ok-choices.choices (vec_len c.loop.loading.cells) c.place.new.loading c.place.new.self c.in_ok-place.field-0
    c.from_vec.result c.len.result c.in_ok-choices.ensures (omega (arith, c.loop.invariant.loaded.count, c.len-end.ensures)) c.if-not-branch.true c.in_ok-place.ensures.searched
    (c.from_vec.ensures ∙ c.in_ok-members.ensures ∙ ap (λ ss. members_of (vec_len c.place.new.loading.cells) ss c.place.new.loading.holders.items) steps)
    (omega arith)

pub returns-then-not-branch-clause-exact : goal.returns-then-not-branch-clause-exact
returns-then-not-branch-clause-exact c = λ _.
    exact_err c.args.layout.now c.args.seed c.args.keys.now c.from_vec.result c.len.result (returns-then-not-branch-clause-fault c)

loaded_all : (layout : List Ways) (seed : ℕ) (keys : List (List ℕ)) (c : Choices) (l : Loading) (n : ℕ) (cells : List ℕ) → AreChoices layout seed keys c
    → n ≡ length keys → IsLoaded (choices_at c) n l → cells ≡ l.cells.items → IsLoading layout seed keys cells
loaded_all layout seed keys c l n cells are is loaded same =
    subst (IsLoading layout seed keys) (sym same) (all_loaded layout seed keys c l are (subst (λ (k : ℕ). IsLoaded (choices_at c) k l) is loaded))

pub returns-clause-loaded : goal.returns-clause-loaded
returns-clause-loaded c =
    loaded_all c.args.layout.now c.args.seed c.args.keys.now c.in_ok-choices.choices c.loop.loading c.loop.counter c.from_vec-2.result c.in_ok-choices.ensures
    (omega (arith, c.len-end.ensures)) c.loop.invariant.loaded c.from_vec-2.ensures

pub returns-clause-exact : goal.returns-clause-exact
returns-clause-exact c = λ _. exact_ok c.args.layout.now c.args.seed c.args.keys.now c.from_vec-2.result (returns-clause-loaded c)
