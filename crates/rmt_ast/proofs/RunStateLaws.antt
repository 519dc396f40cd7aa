-- The walk and the control of a well-formed program leave a state.
use Rattle.std.proofs.Common.{◌≡◌, ℕ, zero, suc, ◌+◌, ◌-◌, ◌*◌, ◌^◌, ◌<◌, ◌≤◌, List, [], ◌∷◌, length, Option, Some, None, refl, sym, ap, subst, ◌∙◌, arith}
use Rattle.std.specs.Prelude.{⊤, All, IsSome, IsSomeAnd, map, slice_get, slice_index, nat_lt, unwrap_or, option_map}
use Rattle.std.specs.List.{AllZip}
use Rattle.std.proofs.lemmas.List.Elements.{All-head, All-tail}
use Rattle.std.proofs.lemmas.Bool.{ltb-false, false≢true, cond_both}
use Rattle.std.proofs.lemmas.Option.{none-some, slice_get-map}
use Rattle.std.proofs.lemmas.List.{length-map}
use Rattle.rmt_bits.proofs.AllLaws.{All-slice_get, All-find}
use Rattle.rmt_bits.proofs.ListLaws.{slice_get-below, slice_get-alike}
use Rattle.rmt_ast.specs.Types.{Program, Header, Tail, Target, Action, Table, Kind, Node, What}
use Rattle.rmt_ast.specs.declared.program.Kind.TheVariants.{Keyless, Exact, Prefix, Ternary}
use Rattle.rmt_ast.specs.declared.program.Target.TheVariants as target
use Rattle.rmt_ast.specs.declared.program.What.TheVariants.{Apply, Gate}
use Rattle.rmt_ast.specs.declared.entry.Entry.{Entry}
use Rattle.rmt_ast.specs.State.{IsState, width_of}
use Rattle.rmt_ast.specs.Walk.{Walk, Short, Reject, Accept, Reached, begin, walk_from, walk, step, past_tail, behind, behind_tail, follow, with_header, target_of}
use Rattle.rmt_ast.specs.Actions.{acted}
use Rattle.rmt_ast.specs.Lookup.{hit_of, hits}
use Rattle.rmt_ast.specs.Control.{act_of, applied_table, done_by, run_from, run, runs, Run}
use Rattle.rmt_ast.specs.WellFormed.{IsProgram, IsHeader, IsAction, IsTable, Takes, Fits, AllNumbered}
use Rattle.rmt_ast.specs.EntryLists.{Terms, IsEntry, AreEntriesAt, AreEntries, terms_of, terms_at, params_of}
use Rattle.rmt_ast.proofs.StateLaws.{set_keeps, set_fields_keeps, acted_keeps, start_is_state}

-- a walk that accepts leaves a state, and the payload begins within the frame
abbrev pub LeavesState : Program → List ℕ → Walk → Type 0
LeavesState p frame Short = ⊤
LeavesState p frame Reject = ⊤
LeavesState p frame (Accept r) = IsState p r.state × (r.at ≤ length frame)

with_header_keeps : (p : Program) (h : Header) (frame : List ℕ) (at : ℕ) (s : List ℕ) → width_of p h.valid ≡ 1 → IsState p s → IsState p (with_header p h frame at s)
with_header_keeps p h frame at s one state =
    let fits : 1 < 2 ^ width_of p h.valid = subst (λ w. 1 < 2 ^ w) (sym one) (omega arith) in
    set_keeps p _ h.valid 1 (set_fields_keeps p h.fields _ s state) fits

follow_leaves : (p : Program) (frame : List ℕ) (next : ℕ → Walk) (t : Target) (r : Reached) → ((n : ℕ) → LeavesState p frame (next n)) → IsState p r.state → r.at ≤ length frame → LeavesState p frame (follow next t r)
follow_leaves p frame next target.Accept r goes state within = (state, within)
follow_leaves p frame next target.Reject r goes state within = tt
follow_leaves p frame next (target.Node n) r goes state within = goes n

past_tail_leaves : (p : Program) (frame : List ℕ) (goes : Reached → Walk) → ((r : Reached) → IsState p r.state → r.at ≤ length frame → LeavesState p frame (goes r))
    → (n : ℕ) (o : Option Tail) (r : Reached) → IsState p r.state → r.at ≤ length frame → LeavesState p frame (past_tail goes frame n o r)
past_tail_leaves p frame goes leaves n None r state within = leaves r state within
past_tail_leaves p frame goes leaves n (Some t) r state within =
    let told = slice_index r.state t.field * t.unit in
    cond_both (nat_lt told t.base) Reject _ (LeavesState p frame) (λ negative. tt)
    (λ enough.
    cond_both (nat_lt (length frame) (r.at + (told - t.base))) Short _ (LeavesState p frame) (λ short. tt)
    (λ whole.
    let inside : r.at + (told - t.base) ≤ length frame = ltb-false (length frame) (r.at + (told - t.base)) whole in
    leaves (behind_tail frame n (told - t.base) r) state inside))

step_leaves : (p : Program) (frame : List ℕ) (next : ℕ → Reached → Walk) → ((m : ℕ) (r : Reached) → IsState p r.state → r.at ≤ length frame → LeavesState p frame (next m r)) → (n : ℕ) (o : Option Header) → ((h : Header) → o ≡ Some h → width_of p h.valid ≡ 1) → (r : Reached) → IsState p r.state → LeavesState p frame (step next p frame n o r)
step_leaves p frame next goes n None valid r state = tt
step_leaves p frame next goes n (Some h) valid r state =
    let left : IsState p (with_header p h frame r.at r.state) = with_header_keeps p h frame r.at r.state (valid h refl) state in
    cond_both (nat_lt (length frame) (r.at + h.bytes)) Short _ (LeavesState p frame)
    (λ short. tt)
    (λ whole.
    let inside : r.at + h.bytes ≤ length frame = ltb-false (length frame) (r.at + h.bytes) whole in
    past_tail_leaves p frame (λ b. follow (λ m. next m b) (target_of h b.state) b)
    (λ b here within. follow_leaves p frame (λ m. next m b) (target_of h b.state) b (λ m. goes m b here within) here within)
    n h.tail (behind p h frame r) left inside)

walk_from_leaves : (p : Program) (frame : List ℕ) → AllNumbered (IsHeader p) p.headers → (most n : ℕ) (r : Reached) → IsState p r.state → LeavesState p frame (walk_from most p frame n r)
walk_from_leaves p frame good zero n r state = tt
walk_from_leaves p frame good (suc most) n r state =
    step_leaves p frame (walk_from most p frame) (λ m b here within. walk_from_leaves p frame good most m b here) n (slice_get p.headers n) (λ h e. (good n h e).valid) r state

pub walk_leaves : (p : Program) (port : ℕ) (frame : List ℕ) → IsProgram p → port < 512 → LeavesState p frame (walk p port frame)
walk_leaves p port frame good below = walk_from_leaves p frame good.headers (length p.headers) 0 (begin p port) (start_is_state p port good.fields below)

act_by : (p : Program) (o : Option Action) (args s : List ℕ) → ((a : Action) → o ≡ Some a → IsAction p a) → IsSomeAnd o (λ (a : Action). AllZip Fits a.params args) → IsState p s → IsState p (unwrap_or (option_map (λ (a : Action). acted p a.assigns args s) o) s)
act_by p None args s good h state = state
act_by p (Some a) args s good h state = acted_keeps p a.params args h a.assigns (good a refl).assigns s state

-- an action of the program with arguments that it takes leaves a state
pub act_of_keeps : (p : Program) (action : ℕ) (args s : List ℕ) → All (IsAction p) p.actions → Takes p action args → IsState p s → IsState p (act_of p action args s)
act_of_keeps p action args s good takes state = act_by p (slice_get p.actions action) args s (λ a e. All-slice_get (IsAction p) p.actions action a good e) takes state

hit_item : (P : Entry → Type 0) (kind : Kind) (key : List ℕ) (es : List Entry) (s : List ℕ) (e : Entry) → All P es → hit_of kind key es s ≡ Some e → P e
hit_item P Keyless key es s e h same = absurd (none-some e same)
hit_item P Exact key es s e h same = All-find P (hits Exact key es s) es e h same
hit_item P Prefix key es s e h same = All-find P (hits Prefix key es s) es e h same
hit_item P Ternary key es s e h same = All-find P (hits Ternary key es s) es e h same

-- the action at a place of a list takes the arguments that its parameters take
takes_at : (p : Program) (ns : List ℕ) (i : ℕ) (args : List ℕ) → All (λ a. a < length p.actions) ns
    → IsSomeAnd (slice_get (map (params_of p) ns) i) (λ params. AllZip Fits params args) → Takes p (slice_index ns i) args
takes_at p [] i args known h = absurd h
takes_at p (a ∷ ns) zero args known h = takes_params (slice_get p.actions a) (slice_get-below p.actions a (All-head (λ b. b < length p.actions) a ns known)) h
  where
    takes_params : (o : Option Action) → IsSome o → AllZip Fits (unwrap_or (option_map (λ (x : Action). x.params) o) []) args → IsSomeAnd o (λ (x : Action). AllZip Fits x.params args)
    takes_params None some fits = absurd (false≢true some)
    takes_params (Some x) some fits = fits
takes_at p (a ∷ ns) (suc i) args known h = takes_at p ns i args (All-tail (λ b. b < length p.actions) a ns known) h

applied_table_keeps : (p : Program) (n : ℕ) (t : Table) (o : Option Entry) (r : Run) → All (IsAction p) p.actions → IsTable p t → ((e : Entry) → o ≡ Some e → IsEntry n (terms_of p t) e) → IsState p r.state → IsState p (applied_table p n t o r).state
applied_table_keeps p n t None r actions good entry state = act_of_keeps p t.default t.args r.state actions good.default state
applied_table_keeps p n t (Some e) r actions good entry state =
    act_of_keeps p (slice_index t.actions e.action) e.args r.state actions (takes_at p t.actions e.action e.args good.actions (entry e refl).action) state

table_keeps : (p : Program) (n : ℕ) (es : List Entry) (o : Option Table) (r : Run) → All (IsAction p) p.actions → ((t : Table) → o ≡ Some t → IsTable p t) → AreEntriesAt n es (option_map (terms_of p) o) → IsState p r.state → IsState p (unwrap_or (option_map (λ (t : Table). applied_table p n t (hit_of t.kind t.key es r.state) r) o) r).state
table_keeps p n es None r actions good entries state = state
table_keeps p n es (Some t) r actions good entries state =
    applied_table_keeps p n t (hit_of t.kind t.key es r.state) r actions (good t refl)
    (λ e same. hit_item (IsEntry n (terms_of p t)) t.kind t.key es r.state e entries.each same) state

done_by_keeps : (p : Program) (n : ℕ) (es : List Entry) (what : What) (r : Run) → IsProgram p → AreEntriesAt n es (terms_at p what) → IsState p r.state → IsState p (done_by p es n what r).state
done_by_keeps p n es (Apply t) r good entries state =
    table_keeps p n es (slice_get p.tables t) r good.actions (λ u e. All-slice_get (IsTable p) p.tables t u good.tables e) entries state
done_by_keeps p n es (Gate f test) r good entries state = state

pub run_from_keeps : (p : Program) (lists : List (List Entry)) → IsProgram p → (n : ℕ) (nodes : List Node) (r : Run) → ((k : ℕ) (node : Node) → slice_get nodes k ≡ Some node → AreEntriesAt (n + k) (unwrap_or (slice_get lists (n + k)) []) (terms_at p node.what)) → IsState p r.state → IsState p (run_from p lists n nodes r).state
run_from_keeps p lists good n [] r entries state = state
run_from_keeps p lists good n (node ∷ nodes) r entries state =
    let here : AreEntriesAt n (unwrap_or (slice_get lists n) []) (terms_at p node.what) =
    subst (λ m. AreEntriesAt m (unwrap_or (slice_get lists m) []) (terms_at p node.what)) (omega arith) (entries 0 node refl) in
    run_from_keeps p lists good (n + 1) nodes _
    (λ k other e. subst (λ m. AreEntriesAt m (unwrap_or (slice_get lists m) []) (terms_at p other.what)) (omega arith) (entries (suc k) other e))
    (cond_both (runs node.guard r.outcomes) _ r (λ (q : Run). IsState p q.state)
    (λ it_runs. done_by_keeps p n (unwrap_or (slice_get lists n) []) node.what r good here state) (λ it_rests. state))

-- the control leaves a state
pub run_keeps : (p : Program) (lists : List (List Entry)) (s : List ℕ) → IsProgram p → AreEntries p lists → IsState p s → IsState p (run p lists s).state
run_keeps p lists s good entries state =
    let terms : List (Option Terms) = map (λ (x : Node). terms_at p x.what) p.nodes in
    let alike : length lists ≡ length p.nodes = entries.for_each_node ∙ length-map p.nodes (λ (x : Node). terms_at p x.what) in
    run_from_keeps p lists good 0 p.nodes _
    (λ k node e.
    let there : (es : List Entry) × (slice_get lists k ≡ Some es) = slice_get-alike p.nodes lists k node alike e in
    let known : slice_get terms k ≡ Some (terms_at p node.what) =
    slice_get-map (λ (x : Node). terms_at p x.what) p.nodes k ∙ ap (option_map (λ (x : Node). terms_at p x.what)) e in
    let at_k : AreEntriesAt k there.0 (terms_at p node.what) = subst (λ o. IsSomeAnd o (AreEntriesAt k there.0)) known (entries.each k there.0 there.1) in
    let listed : AreEntriesAt k (unwrap_or (slice_get lists k) []) (terms_at p node.what) =
    subst (λ o. AreEntriesAt k (unwrap_or o []) (terms_at p node.what)) (sym there.1) at_k in
    subst (λ m. AreEntriesAt m (unwrap_or (slice_get lists m) []) (terms_at p node.what)) (omega arith) listed)
    state
