use Rattle.std.proofs.Common.{◌≡◌, ℕ, zero, suc, ◌+◌, ◌-◌, ◌<◌, ◌≤◌, List, Contains, OnOk, Result, Ok, Err, length, vec_len, get_or, set, subst, sym, ap, ◌∙◌, arith}
use Rattle.std.proofs.lemmas.List.{length-set}
use Rattle.std.proofs.lemmas.Result.{on_ok_weaker}
use Rattle.rmt_cuckoo.specs.declared.search.Step.{Step}
use Rattle.rmt_cuckoo.specs.declared.loading.Loading.{Loading}
use Rattle.rmt_cuckoo.specs.Search.{AreTaken, IsTree, IsReady, cell_at, from_at, key_at}
use Rattle.rmt_cuckoo.proofs.SearchLaws.{taken_within}
use Rattle.rmt_cuckoo.proofs.MoveLaws.{AreTakenBut, after, after_left, moved, tree_left, added, hole_moves, hole_filled}
use Rattle.rmt_cuckoo.proofs.search.settle.Goals as goal

-- the key at a place behind the first stands in the cell of the step before
key_behind : (n : ℕ) (steps : List Step) (hs : List ℕ) (place : ℕ) → 0 < place
    → get_or hs (cell_at steps (place - 1)) 0 - 1 ≡ key_at n steps hs place
key_behind n steps hs zero pos = absurd (omega arith)
key_behind n steps hs (suc i) pos =
    let before : suc i - 1 ≡ i = omega arith in ap (λ (j : ℕ). get_or hs (cell_at steps j) 0 - 1) before

-- a step back on the way
step_back : (choices : ℕ → List ℕ) (n : ℕ) (l m : Loading) (steps : List Step) (hole place : ℕ) → 0 < place → IsReady choices n l steps hole place
    → m.holders.items ≡ after l.holders.items (cell_at steps (place - 1)) hole
    → m.cells.items ≡ set l.cells.items (get_or l.holders.items (cell_at steps (place - 1)) 0 - 1) hole
    → IsReady choices n m steps (cell_at steps (place - 1)) (from_at steps (place - 1))
step_back choices n l m steps hole place pos ready holders cells =
    let hs = l.holders.items in
    let i = place - 1 in
    let cell = cell_at steps i in
    let lt : i < place = omega arith in
    let taken : 0 < get_or hs cell 0 = ready.tree.taken i lt in
    let size : length m.holders.items ≡ length hs =
    ap length holders ∙ length-set (set hs hole (get_or hs cell 0)) cell 0 ∙ length-set hs hole (get_or hs cell 0) in
    let left = tree_left choices n steps hs place i hole ready.tree lt ready.free in
    record {
      loaded = moved choices n l m cell hole ready.loaded taken ready.inside ready.free
          (subst (λ (k : ℕ). Contains (choices k) hole) (sym (key_behind n steps hs place pos)) ready.chosen) holders cells;
      tree = subst (λ (ys : List ℕ). IsTree choices n steps ys (from_at steps i)) (sym holders) left.0;
      inside = omega (arith, taken_within hs cell taken, size);
      free = ap (λ (ys : List ℕ). get_or ys cell 0) holders ∙ after_left hs cell hole (taken_within hs cell taken);
      chosen = subst (λ (ys : List ℕ). Contains (choices (key_at n steps ys (from_at steps i))) cell) (sym holders) left.1;
    }

-- the step before the place, and what is known of it
behind : (choices : ℕ → List ℕ) (n : ℕ) (l : Loading) (steps : List Step) (hole place : ℕ) → 0 < place → IsReady choices n l steps hole place
    → (place - 1 < length steps) × (cell_at steps (place - 1) < length l.holders.items) × (0 < get_or l.holders.items (cell_at steps (place - 1)) 0)
    × (get_or l.holders.items (cell_at steps (place - 1)) 0 ≤ n) × (from_at steps (place - 1) < place)
behind choices n l steps hole place pos r =
    let i = place - 1 in
    let lt : i < place = omega arith in
    let taken : 0 < get_or l.holders.items (cell_at steps i) 0 = r.tree.taken i lt in
    let earlier : from_at steps i ≤ i = r.tree.earlier i lt in
    (omega (arith, r.tree.there), taken_within l.holders.items (cell_at steps i) taken, taken, r.loaded.known (cell_at steps i) taken, omega (arith, earlier))

pub bounds-steps-place : goal.bounds-steps-place
bounds-steps-place c =
    let some = c.requires.ready in
    (behind some.0 (vec_len c.args.loading.now.cells) c.loop-place.loading c.args.steps.now c.loop-place.hole c.loop-place.place (omega arith) (c.loop-place.invariant.ready some.0 some.1)).0

pub offset_bounds-steps-place : goal.offset_bounds-steps-place
offset_bounds-steps-place c =
    let some = c.requires.ready in
    let b = behind some.0 (vec_len c.args.loading.now.cells) c.loop-place.loading c.args.steps.now c.loop-place.hole c.loop-place.place (omega arith) (c.loop-place.invariant.ready some.0 some.1) in
    omega (arith, b.0)

pub shift-requires-clause-from : goal.shift-requires-clause-from
shift-requires-clause-from c =
    let some = c.requires.ready in
    let b = behind some.0 (vec_len c.args.loading.now.cells) c.loop-place.loading c.args.steps.now c.loop-place.hole c.loop-place.place (omega arith) (c.loop-place.invariant.ready some.0 some.1) in
    omega (arith, b.1)

pub shift-requires-clause-to : goal.shift-requires-clause-to
shift-requires-clause-to c =
    let some = c.requires.ready in omega (arith, (c.loop-place.invariant.ready some.0 some.1).inside)

pub shift-requires-clause-taken : goal.shift-requires-clause-taken
shift-requires-clause-taken c =
    let some = c.requires.ready in
    (behind some.0 (vec_len c.args.loading.now.cells) c.loop-place.loading c.args.steps.now c.loop-place.hole c.loop-place.place (omega arith) (c.loop-place.invariant.ready some.0 some.1)).2

pub shift-requires-clause-known : goal.shift-requires-clause-known
shift-requires-clause-known c =
    let some = c.requires.ready in
    let r = c.loop-place.invariant.ready some.0 some.1 in
    let b = behind some.0 (vec_len c.args.loading.now.cells) c.loop-place.loading c.args.steps.now c.loop-place.hole c.loop-place.place (omega arith) r in
    omega (arith, b.3, r.loaded.count)

pub loop-place-smaller : goal.loop-place-smaller
loop-place-smaller c =
    let some = c.requires.ready in
    (behind some.0 (vec_len c.args.loading.now.cells) c.loop-place.loading c.args.steps.now c.loop-place.hole c.loop-place.place (omega arith) (c.loop-place.invariant.ready some.0 some.1)).4

pub add-requires-clause-exists : goal.add-requires-clause-exists
add-requires-clause-exists c =
    let some = c.requires.ready in omega (arith, (c.loop-place.invariant.ready some.0 some.1).inside)

pub add-requires-clause-few : goal.add-requires-clause-few
add-requires-clause-few c =
    let some = c.requires.ready in omega (arith, (c.loop-place.invariant.ready some.0 some.1).loaded.count, c.requires.few)

pub loop-place-preserved : goal.loop-place-preserved
loop-place-preserved c =
    let l = c.loop-place in
    let hs = l.loading.holders.items in
    let cell = cell_at c.args.steps.now (l.place - 1) in
    record {
      ready = λ choices ready.
          step_back choices (vec_len c.args.loading.now.cells) l.loading c.shift.new.self c.args.steps.now l.hole l.place (omega arith)
          (l.invariant.ready choices ready) c.shift.ensures.holders c.shift.ensures.cells;
      size = ap length c.shift.ensures.holders ∙ length-set (set hs l.hole (get_or hs cell 0)) cell 0 ∙ length-set hs l.hole (get_or hs cell 0)
          ∙ l.invariant.size;
      many = c.shift.ensures.taken ∙ l.invariant.many;
      taken =
          let some = c.requires.ready in
          let r = l.invariant.ready some.0 some.1 in
          let b = behind some.0 (vec_len c.args.loading.now.cells) l.loading c.args.steps.now l.hole l.place (omega arith) r in
          subst (λ (m : ℕ). AreTakenBut c.shift.new.self.holders.items cell m) (sym c.shift.ensures.taken)
          (subst (λ (xs : List ℕ). AreTakenBut xs cell l.loading.taken) (sym c.shift.ensures.holders)
          (hole_moves hs cell l.hole l.loading.taken b.2 r.inside r.free l.invariant.taken));
    }

both_ok : {T E A B C : Type 0} (r : Result T E) → OnOk r A → OnOk r B → (A → B → C) → OnOk r C
both_ok (Ok x) a b f = f a b
both_ok (Err e) a b f = tt

pub returns-clause-loaded : goal.returns-clause-loaded
returns-clause-loaded c =
    let l = c.loop-place in
    let n = vec_len c.args.loading.now.cells in
    let first : l.place ≡ 0 = omega arith in
    both_ok c.add.result c.add.ensures.holders c.add.ensures.cells
    (λ holders cells choices initial.
    let ready = l.invariant.ready choices initial in
    let chosen : Contains (choices n) l.hole =
    subst (λ (p : ℕ). Contains (choices (key_at n c.args.steps.now l.loading.holders.items p)) l.hole) first ready.chosen in
    let count : vec_len l.loading.cells ≡ n = omega (arith, ready.loaded.count) in
    added choices n l.loading c.add.new.self l.hole ready.loaded ready.inside ready.free chosen
    (holders ∙ ap (λ (k : ℕ). set l.loading.holders.items l.hole (k + 1)) count) cells)

pub returns-clause-size : goal.returns-clause-size
returns-clause-size c =
    let l = c.loop-place in
    on_ok_weaker c.add.result
    (λ holders.
    let size : length c.add.new.self.holders.items ≡ length l.loading.holders.items =
    ap length holders ∙ length-set l.loading.holders.items l.hole (vec_len l.loading.cells + 1) in
    omega (arith, size, l.invariant.size))
    c.add.ensures.holders

pub returns-clause-taken : goal.returns-clause-taken
returns-clause-taken c =
    let l = c.loop-place in
    let some = c.requires.ready in
    both_ok c.add.result c.add.ensures.holders c.add.ensures.taken
    (λ holders many.
    subst (λ (m : ℕ). AreTaken c.add.new.self.holders.items m) (sym many)
    (subst (λ (xs : List ℕ). AreTaken xs l.loading.taken) (sym holders)
    (hole_filled l.loading.holders.items l.hole (vec_len l.loading.cells) l.loading.taken (l.invariant.ready some.0 some.1).inside l.invariant.taken)))
