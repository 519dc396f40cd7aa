-- The run of a program, node by node.
use Rattle.std.proofs.Common.{◌≡◌, ℕ, zero, suc, ◌+◌, ◌/◌, ◌%◌, ◌^◌, ◌==◌, ◌<◌, ◌≤◌, Bool, true, false, cond, List, [], ◌∷◌, ◌++◌, Option, Some, None, length, take, drop, refl, sym, ap, ◌∙◌, subst, arith}
use Rattle.std.specs.Prelude.{option_map, replicate, slice_get, slice_index, slice_set, unwrap_or}
use Rattle.std.proofs.Math.ListN.{length-set}
use Rattle.std.proofs.lemmas.List.{get_or-replicate, get_or-set_other, get_or-set_same, length-replicate}
use Rattle.std.proofs.lemmas.Option.{none-some, same_Some, slice_get_within}
use Rattle.rmt_refine.specs.Types.{Program, Table, Node, Guard, What}
use Rattle.rmt_ast.specs.declared.program.What.TheVariants.{Apply, Gate}
use Rattle.rmt_ast.specs.declared.entry.Entry.{Entry}
use Rattle.rmt_ast.specs.Control.{Run, applied_table, done_by, run, run_from, runs}
use Rattle.rmt_ast.specs.Lookup.{hit_of}
use Rattle.rmt_ast.specs.State.{passes}
use Rattle.rmt_ast.specs.WellFormed.{IsGuard, IsProgram}
use Rattle.rmt_refine.specs.Outcomes.{entries_at, hit_outcome, node_outcome, run_before}
use Rattle.rmt_bits.proofs.ListLaws.{take-slice_get}

-- ---- what a node leaves of the outcomes

-- an outcome of node n alone
record SetsOwn (n : ℕ) (old new : List ℕ) (own : ℕ) : Type 0 where
  long : length new ≡ length old
  others : (j : ℕ) → (j ≡ n → ⊥) → slice_index new j ≡ slice_index old j
  own_is : n < length old → slice_index old n ≡ 0 → slice_index new n ≡ own

sets_one : (n x : ℕ) (old : List ℕ) → SetsOwn n old (slice_set old n x) x
sets_one n x old = record {
  long = length-set old n x;
  others = λ j ne. get_or-set_other old n j x 0 ne;
  own_is = λ lt none. get_or-set_same old n x 0 lt;
}

applied_sets : (p : Program) (n : ℕ) (t : Table) (o : Option Entry) (r : Run) → SetsOwn n r.outcomes (applied_table p n t o r).outcomes (hit_outcome o)
applied_sets p n t None r = sets_one n 1 r.outcomes
applied_sets p n t (Some e) r = sets_one n (2 + e.action) r.outcomes

table_sets : (p : Program) (n : ℕ) (es : List Entry) (r : Run) (o : Option Table)
    → SetsOwn n r.outcomes (unwrap_or (option_map (λ (t : Table). applied_table p n t (hit_of t.kind t.key es r.state) r) o) r).outcomes
    (unwrap_or (option_map (λ (t : Table). hit_outcome (hit_of t.kind t.key es r.state)) o) 0)
table_sets p n es r None = record { long = refl; others = λ j ne. refl; own_is = λ lt none. none }
table_sets p n es r (Some t) = applied_sets p n t (hit_of t.kind t.key es r.state) r

done_sets : (p : Program) (n : ℕ) (es : List Entry) (w : What) (r : Run) → SetsOwn n r.outcomes (done_by p es n w r).outcomes (node_outcome p es r.state w)
done_sets p n es (Apply i) r = table_sets p n es r (slice_get p.tables i)
done_sets p n es (Gate field test) r = sets_one n (cond (passes test (slice_index r.state field)) 2 1) r.outcomes

-- the run through one node
abbrev pub through_node : Program → List (List Entry) → ℕ → Node → Run → Run
through_node p lists n node r = cond (runs node.guard r.outcomes) (done_by p (entries_at lists n) n node.what r) r

either_sets : (n : ℕ) (b : Bool) (r q : Run) (own : ℕ) → SetsOwn n r.outcomes q.outcomes own → SetsOwn n r.outcomes (cond b q r).outcomes (cond b own 0)
either_sets n true r q own h = h
either_sets n false r q own h = record { long = refl; others = λ j ne. refl; own_is = λ lt none. none }

node_sets : (p : Program) (lists : List (List Entry)) (n : ℕ) (node : Node) (r : Run)
    → SetsOwn n r.outcomes (through_node p lists n node r).outcomes (cond (runs node.guard r.outcomes) (node_outcome p (entries_at lists n) r.state node.what) 0)
node_sets p lists n node r =
    either_sets n (runs node.guard r.outcomes) r (done_by p (entries_at lists n) n node.what r) (node_outcome p (entries_at lists n) r.state node.what)
    (done_sets p n (entries_at lists n) node.what r)

-- ---- what nodes leave of others' outcomes

run_long : (p : Program) (lists : List (List Entry)) (n : ℕ) (nodes : List Node) (r : Run) → length (run_from p lists n nodes r).outcomes ≡ length r.outcomes
run_long p lists n [] r = refl
run_long p lists n (node ∷ nodes) r = run_long p lists (n + 1) nodes (through_node p lists n node r) ∙ (node_sets p lists n node r).long

run_earlier : (p : Program) (lists : List (List Entry)) (n : ℕ) (nodes : List Node) (r : Run) (j : ℕ) → j < n → slice_index (run_from p lists n nodes r).outcomes j ≡ slice_index r.outcomes j
run_earlier p lists n [] r j lt = refl
run_earlier p lists n (node ∷ nodes) r j lt =
    run_earlier p lists (n + 1) nodes (through_node p lists n node r) j (omega (arith, lt)) ∙ (node_sets p lists n node r).others j (λ e. omega (arith, e, lt))

run_later : (p : Program) (lists : List (List Entry)) (n : ℕ) (nodes : List Node) (r : Run) (j : ℕ) → n + length nodes ≤ j → slice_index (run_from p lists n nodes r).outcomes j ≡ slice_index r.outcomes j
run_later p lists n [] r j le = refl
run_later p lists n (node ∷ nodes) r j le =
    run_later p lists (n + 1) nodes (through_node p lists n node r) j (omega (arith, le)) ∙ (node_sets p lists n node r).others j (λ e. omega (arith, e, le))

-- ---- the run at a node

run_append : (p : Program) (lists : List (List Entry)) (n : ℕ) (xs ys : List Node) (r : Run) → run_from p lists n (xs ++ ys) r ≡ run_from p lists (n + length xs) ys (run_from p lists n xs r)
run_append p lists n [] ys r = let e : n ≡ n + 0 = omega arith in ap (λ m. run_from p lists m ys r) e
run_append p lists n (x ∷ xs) ys r =
    let e : n + 1 + length xs ≡ n + length (x ∷ xs) = omega arith in
    let next = through_node p lists n x r in
    run_append p lists (n + 1) xs ys next ∙ ap (λ m. run_from p lists m ys (run_from p lists (n + 1) xs next)) e

parts_at : {X : Type 0} (xs : List X) (n : ℕ) (x : X) → slice_get xs n ≡ Some x → (xs ≡ take n xs ++ x ∷ drop (n + 1) xs) × (length (take n xs) ≡ n)
parts_at [] n x e = absurd (none-some x e)
parts_at (y ∷ ys) zero x e = (ap (λ z. z ∷ ys) (same_Some y x e), refl)
parts_at (y ∷ ys) (suc n) x e =
    let r = parts_at ys n x e in
    let next : suc (n + 1) ≡ suc n + 1 = omega arith in
    let long : suc (length (take n ys)) ≡ suc n = ap suc r.1 in
    (ap (λ zs. y ∷ zs) r.0 ∙ ap (λ m. y ∷ take n ys ++ x ∷ drop m (y ∷ ys)) next, long)

-- a run goes up to a node, through it, and on
pub run_at : (p : Program) (lists : List (List Entry)) (s : List ℕ) (n : ℕ) (node : Node) → slice_get p.nodes n ≡ Some node
    → run p lists s ≡ run_from p lists (n + 1) (drop (n + 1) p.nodes) (through_node p lists n node (run_before p lists s n))
run_at p lists s n node at =
    let r = parts_at p.nodes n node at in
    let first : Run = record { state = s; outcomes = replicate (length p.nodes) 0; hits = [] } in
    let e : 0 + length (take n p.nodes) ≡ n = let long = r.1 in omega (arith, long) in
    ap (λ nodes. run_from p lists 0 nodes first) r.0
    ∙ run_append p lists 0 (take n p.nodes) (node ∷ drop (n + 1) p.nodes) first
    ∙ ap (λ m. run_from p lists m (node ∷ drop (n + 1) p.nodes) (run_before p lists s n)) e

same_runs : (g : Option Guard) (a b : List ℕ) → ((x : Guard) → g ≡ Some x → slice_index a x.parent ≡ slice_index b x.parent) → runs g a ≡ runs g b
same_runs None a b same = refl
same_runs (Some x) a b same = ap (λ o. x.mask / 2 ^ o % 2 == 1) (same x refl)

pub is_earlier : (n : ℕ) (g : Option Guard) (x : Guard) → IsGuard n g → g ≡ Some x → x.parent < n
is_earlier n None x is e = absurd (none-some x e)
is_earlier n (Some y) x is e = subst (λ z. z.parent < n) (same_Some y x e) is.0

-- the guard of a node passes the outcomes before it where it passes those of the whole run
pub guard_at : (p : Program) (lists : List (List Entry)) (s : List ℕ) (n : ℕ) (node : Node) → IsProgram p → slice_get p.nodes n ≡ Some node
    → runs node.guard (run_before p lists s n).outcomes ≡ runs node.guard (run p lists s).outcomes
guard_at p lists s n node program at =
    let before = run_before p lists s n in
    same_runs node.guard before.outcomes (run p lists s).outcomes (λ x is.
    let lt = is_earlier n node.guard x (program.nodes n node at).guard is in
    sym ((node_sets p lists n node before).others x.parent (λ e. omega (arith, e, lt)))
    ∙ sym (run_earlier p lists (n + 1) (drop (n + 1) p.nodes) (through_node p lists n node before) x.parent (omega (arith, lt)))
    ∙ sym (ap (λ (r : Run). slice_index r.outcomes x.parent) (run_at p lists s n node at)))

-- the run up to the next node goes through this one
pub run_next : (p : Program) (lists : List (List Entry)) (s : List ℕ) (n : ℕ) (node : Node) → slice_get p.nodes n ≡ Some node
    → run_before p lists s (n + 1) ≡ through_node p lists n node (run_before p lists s n)
run_next p lists s n node at =
    let first : Run = record { state = s; outcomes = replicate (length p.nodes) 0; hits = [] } in
    let e : 0 + length (take n p.nodes) ≡ n = omega (arith, (parts_at p.nodes n node at).1) in
    ap (λ nodes. run_from p lists 0 nodes first) (take-slice_get p.nodes n node at)
    ∙ run_append p lists 0 (take n p.nodes) (node ∷ []) first
    ∙ ap (λ m. run_from p lists m (node ∷ []) (run_before p lists s n)) e

-- The outcome of a node: where its guard passes the run's outcomes, that which it gives in the state before it.
pub outcome_at : (p : Program) (lists : List (List Entry)) (s : List ℕ) (n : ℕ) (node : Node) → IsProgram p → slice_get p.nodes n ≡ Some node
    → slice_index (run p lists s).outcomes n
    ≡ cond (runs node.guard (run p lists s).outcomes) (node_outcome p (entries_at lists n) (run_before p lists s n).state node.what) 0
outcome_at p lists s n node program at =
    let before = run_before p lists s n in
    let long = (parts_at p.nodes n node at).1 in
    let within = slice_get_within p.nodes n node at in
    let first : Run = record { state = s; outcomes = replicate (length p.nodes) 0; hits = [] } in
    let room : n < length before.outcomes =
    let e = run_long p lists 0 (take n p.nodes) first ∙ length-replicate (length p.nodes) 0 in omega (arith, e, within) in
    let none : slice_index before.outcomes n ≡ 0 =
    run_later p lists 0 (take n p.nodes) first n (omega (arith, long)) ∙ get_or-replicate (length p.nodes) n 0 0 within in
    ap (λ (r : Run). slice_index r.outcomes n) (run_at p lists s n node at)
    ∙ run_earlier p lists (n + 1) (drop (n + 1) p.nodes) (through_node p lists n node before) n (omega arith)
    ∙ (node_sets p lists n node before).own_is room none
    ∙ ap (λ b. cond b (node_outcome p (entries_at lists n) before.state node.what) 0) (guard_at p lists s n node program at)
