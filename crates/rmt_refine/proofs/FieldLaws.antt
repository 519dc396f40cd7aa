-- Which fields nodes change, and on which ones what they leave depends.
use Rattle.std.proofs.Common.{◌≡◌, ℕ, zero, suc, ◌+◌, ◌<◌, ◌≤◌, Bool, true, false, cond, List, [], ◌∷◌, Option, Some, None, length, map, refl, sym, ap, ◌∙◌, subst, ◌⊎◌, inl, inr, arith}
use Rattle.std.specs.Prelude.{Contains, option_map, slice_get, slice_index, slice_set, unwrap_or}
use Rattle.std.specs.List.{AllZip, flat_map}
use Rattle.std.proofs.Math.ListN.{length-set}
use Rattle.std.proofs.lemmas.Bool.{cases_eq, cases_lt}
use Rattle.std.proofs.lemmas.List.Elements.{Contains-append_left, Contains-append_right, Contains-get_or, All-contains}
use Rattle.std.proofs.lemmas.List.{get_or-set_other, get_or-set_same, length-map}
use Rattle.std.proofs.lemmas.Option.{same_Some, slice_get_within}
use Rattle.rmt_bits.proofs.ListLaws.{slice_get-item}
use Rattle.rmt_refine.specs.Types.{Program, Action, Assign, Expr, Leaf, Table, Node, What}
use Rattle.rmt_ast.specs.declared.program.Expr.TheVariants.{One, Two}
use Rattle.rmt_ast.specs.declared.program.Leaf.TheVariants as leaf
use Rattle.rmt_ast.specs.declared.program.What.TheVariants.{Apply, Gate}
use Rattle.rmt_ast.specs.declared.entry.Entry.{Entry}
use Rattle.rmt_ast.specs.Actions.{acted, applied as computed, assigned, operand, value_of}
use Rattle.rmt_ast.specs.Control.{Run, act_of, applied_table, done_by, run, runs}
use Rattle.rmt_ast.specs.EntryLists.{AreEntries, AreEntriesAt, AreTableEntries, IsEntry, params_of, terms_at, terms_of}
use Rattle.rmt_ast.specs.Lookup.{hit_of}
use Rattle.rmt_ast.specs.State.{width_of}
use Rattle.rmt_ast.specs.WellFormed.{Fits, IsProgram}
use Rattle.rmt_phv.specs.Places.{written_by}
use Rattle.rmt_deps.specs.Edges.{expr_fields, leaf_fields, of_action, of_node, of_table, of_what, read_by, writes_of}
use Rattle.rmt_refine.specs.Outcomes.{entries_at, run_before}
use Rattle.rmt_refine.proofs.LookUpLaws.{hit_some}
use Rattle.rmt_refine.proofs.OutcomeLaws.{list_at}
use Rattle.rmt_refine.proofs.PartLaws.{some_and}
use Rattle.rmt_refine.proofs.RunLaws.{guard_at, run_next, through_node}
use Rattle.rmt_bits.proofs.MemberLaws.{Contains-first, Contains-later, Contains-split, Contains-flat_map}

-- ---- what an action leaves alone

acted_other : (p : Program) (args : List ℕ) (f : ℕ) (assigns : List Assign) (s : List ℕ) → (Contains (map (λ (a : Assign). a.dest) assigns) f → ⊥)
    → slice_index (acted p assigns args s) f ≡ slice_index s f
acted_other p args f [] s none = refl
acted_other p args f (a ∷ assigns) s none =
    acted_other p args f assigns (assigned p args s a) (λ there. none (Contains-later a.dest (map (λ (x : Assign). x.dest) assigns) f there))
    ∙ get_or-set_other s a.dest f _ 0
    (λ e. none (subst (Contains (a.dest ∷ map (λ (x : Assign). x.dest) assigns)) (sym e) (Contains-first a.dest (map (λ (x : Assign). x.dest) assigns))))

act_by : (p : Program) (args s : List ℕ) (f : ℕ) (o : Option Action) → (Contains (unwrap_or (option_map written_by o) []) f → ⊥)
    → slice_index (unwrap_or (option_map (λ (a : Action). acted p a.assigns args s) o) s) f ≡ slice_index s f
act_by p args s f None none = refl
act_by p args s f (Some a) none = acted_other p args f a.assigns s none

-- an action changes no field that it doesn't assign
pub act_other : (p : Program) (action : ℕ) (args s : List ℕ) (f : ℕ) → (Contains (of_action p written_by action) f → ⊥) → slice_index (act_of p action args s) f ≡ slice_index s f
act_other p action args s f none = act_by p args s f (slice_get p.actions action) none

-- ---- on what an action's values depend

operand_same : (s t args : List ℕ) (x : Leaf) → ((f : ℕ) → Contains (leaf_fields x) f → slice_index s f ≡ slice_index t f) → operand s args x ≡ operand t args x
operand_same s t args (leaf.Field f) same = same f (Contains-first f [])
operand_same s t args (leaf.Param i) same = refl
operand_same s t args (leaf.Number n) same = refl

value_same : (width : ℕ) (e : Expr) (s t args : List ℕ) → ((f : ℕ) → Contains (expr_fields e) f → slice_index s f ≡ slice_index t f) → value_of width e s args ≡ value_of width e t args
value_same width (One x) s t args same = operand_same s t args x same
value_same width (Two op x y) s t args same =
    ap (λ a. computed op width a (operand s args y)) (operand_same s t args x (λ f there. same f (Contains-append_left (leaf_fields x) (leaf_fields y) f there)))
    ∙ ap (computed op width (operand t args x)) (operand_same s t args y (λ f there. same f (Contains-append_right (leaf_fields x) (leaf_fields y) f there)))

-- two states of the same length agree on some fields
pub record Agree (known : ℕ → Type 0) (s t : List ℕ) : Type 0 where
  pub long : length s ≡ length t
  pub same : (f : ℕ) → known f → slice_index s f ≡ slice_index t f

past_end : (xs : List ℕ) (i x : ℕ) → length xs ≤ i → slice_index (slice_set xs i x) i ≡ 0
past_end [] i x le = refl
past_end (y ∷ ys) zero x le = absurd (omega (arith, le))
past_end (y ∷ ys) (suc i) x le = past_end ys i x (omega (arith, le))

set_same : (s t : List ℕ) (i x y : ℕ) → length s ≡ length t → x ≡ y → slice_index (slice_set s i x) i ≡ slice_index (slice_set t i y) i
set_same s t i x y long e = elim (cases_lt i (length s)) [
  | inl lt ↦ get_or-set_same s i x 0 lt ∙ e ∙ sym (get_or-set_same t i y 0 (omega (arith, lt, long)))
  | inr le ↦ past_end s i x le ∙ sym (past_end t i y (omega (arith, le, long)))
]

set_agree : (known : ℕ → Type 0) (s t : List ℕ) (i x y : ℕ) → Agree known s t → x ≡ y → Agree (λ f. known f ⊎ (i ≡ f)) (slice_set s i x) (slice_set t i y)
set_agree known s t i x y agree e = record {
  long = length-set s i x ∙ agree.long ∙ sym (length-set t i y);
  same = λ f which.
      elim (cases_eq f i) [
        | inl q ↦ subst (λ g. slice_index (slice_set s i x) g ≡ slice_index (slice_set t i y) g) (sym q) (set_same s t i x y agree.long e)
        | inr ne ↦ others f which ne
      ];
}
  where
    others : (f : ℕ) → known f ⊎ (i ≡ f) → (f ≡ i → ⊥) → slice_index (slice_set s i x) f ≡ slice_index (slice_set t i y) f
    others f (inl is) ne = get_or-set_other s i f x 0 ne ∙ agree.same f is ∙ sym (get_or-set_other t i f y 0 ne)
    others f (inr q) ne = absurd (ne (sym q))

acted_agree : (p : Program) (args : List ℕ) (assigns : List Assign) (known : ℕ → Type 0) (s t : List ℕ) → Agree known s t
    → ((f : ℕ) → Contains (flat_map (λ (x : Assign). expr_fields x.expr) assigns) f → known f)
    → Agree (λ f. known f ⊎ Contains (map (λ (a : Assign). a.dest) assigns) f) (acted p assigns args s) (acted p assigns args t)
acted_agree p args [] known s t agree reads = record {
  long = agree.long;
  same = λ f which. elim which [
    | inl is ↦ agree.same f is
    | inr there ↦ absurd (let lt = there.1 in omega (arith, lt))
  ];
}
acted_agree p args (a ∷ assigns) known s t agree reads =
    let rest_fields = flat_map (λ (x : Assign). expr_fields x.expr) assigns in
    let value = value_same (width_of p a.dest) a.expr s t args (λ f there. agree.same f (reads f (Contains-append_left (expr_fields a.expr) rest_fields f there))) in
    let next = set_agree known s t a.dest _ _ agree value in
    let rest = acted_agree p args assigns (λ f. known f ⊎ (a.dest ≡ f)) (assigned p args s a) (assigned p args t a) next
    (λ f there. inl (reads f (Contains-append_right (expr_fields a.expr) rest_fields f there))) in
    record {
      long = rest.long;
      same = λ f which. elim which [
        | inl is ↦ rest.same f (inl (inl is))
        | inr there ↦ elim (Contains-split a.dest (map (λ (x : Assign). x.dest) assigns) f there) [
          | inl e ↦ rest.same f (inl (inr e))
          | inr later ↦ rest.same f (inr later)
        ]
      ];
    }

-- what an action leaves in the fields that it assigns depends on those that it reads
pub act_agree : (p : Program) (action : ℕ) (args : List ℕ) (s t : List ℕ) → Agree (Contains (of_action p read_by action)) s t → (f : ℕ) → Contains (of_action p written_by action) f
    → slice_index (act_of p action args s) f ≡ slice_index (act_of p action args t) f
act_agree p action args s t agree f there = by_action (slice_get p.actions action) agree there
  where
    by_action : (o : Option Action) → Agree (Contains (unwrap_or (option_map read_by o) [])) s t → Contains (unwrap_or (option_map written_by o) []) f
        → slice_index (unwrap_or (option_map (λ (a : Action). acted p a.assigns args s) o) s) f
        ≡ slice_index (unwrap_or (option_map (λ (a : Action). acted p a.assigns args t) o) t) f
    by_action None same is = absurd (let lt = is.1 in omega (arith, lt))
    by_action (Some a) same is =
        (acted_agree p args a.assigns (Contains (read_by a)) s t same (λ g reads. reads)).same f (inr is)

-- ---- what a node leaves alone

-- the action that a table runs, and its arguments: those of the entry that is hit, or the default's
abbrev pub action_run : Table → Option Entry → ℕ
action_run t None = t.default
action_run t (Some e) = slice_index t.actions e.action

abbrev pub args_run : Table → Option Entry → List ℕ
args_run t None = t.args
args_run t (Some e) = e.args

pub applied_state : (p : Program) (n : ℕ) (t : Table) (o : Option Entry) (r : Run) → (applied_table p n t o r).state ≡ act_of p (action_run t o) (args_run t o) r.state
applied_state p n t None r = refl
applied_state p n t (Some e) r = refl

-- the action is the default or one of the list
listed : (p : Program) (n : ℕ) (t : Table) (es : List Entry) (s : List ℕ) (o : Option Entry) → AreTableEntries n es (terms_of p t) → hit_of t.kind t.key es s ≡ o
    → Contains (t.default ∷ t.actions) (action_run t o)
listed p n t es s None are hit = Contains-first t.default t.actions
listed p n t es s (Some e) are hit =
    let there = hit_some t.kind t.key s es e hit in
    let is : IsEntry n (terms_of p t) e = All-contains (IsEntry n (terms_of p t)) es e are.each there.0.there in
    let params = some_and (slice_get (map (params_of p) t.actions) e.action) (λ ps. AllZip Fits ps e.args) is.action in
    let within = slice_get_within (map (params_of p) t.actions) e.action params.0 params.1 in
    let long = length-map t.actions (params_of p) in
    Contains-later t.default t.actions (slice_index t.actions e.action) (Contains-get_or t.actions e.action 0 (omega (arith, within, long)))

-- a table's node touches what the action that it runs touches
pub fields_listed : (p : Program) (fields : Action → List ℕ) (n i : ℕ) (node : Node) (t : Table) (es : List Entry) (s : List ℕ) (f : ℕ) → slice_get p.nodes n ≡ Some node → node.what ≡ Apply i
    → slice_get p.tables i ≡ Some t → AreTableEntries n es (terms_of p t) → Contains (of_action p fields (action_run t (hit_of t.kind t.key es s))) f
    → Contains (of_node p (of_table p fields) (λ field. []) n) f
fields_listed p fields n i node t es s f at is table are there =
    let g : ℕ → List ℕ = λ field. [] in
    let e : of_node p (of_table p fields) g n ≡ of_table p fields t =
    ap (λ o. unwrap_or (option_map (λ (x : Node). of_what p (of_table p fields) g x.what) o) []) at
    ∙ ap (of_what p (of_table p fields) g) is ∙ ap (λ o. unwrap_or (option_map (of_table p fields) o) []) table in
    subst (λ xs. Contains xs f) (sym e)
    (Contains-flat_map (of_action p fields) (t.default ∷ t.actions) (action_run t (hit_of t.kind t.key es s)) f (listed p n t es s (hit_of t.kind t.key es s) are refl) there)

done_other : (p : Program) (n : ℕ) (node : Node) (w : What) (es : List Entry) (r : Run) (f : ℕ) → slice_get p.nodes n ≡ Some node → node.what ≡ w → AreEntriesAt n es (terms_at p w)
    → (Contains (writes_of p n) f → ⊥) → slice_index (done_by p es n w r).state f ≡ slice_index r.state f
done_other p n node (Gate field test) es r f at is are none = refl
done_other p n node (Apply i) es r f at is are none = by_table (slice_get p.tables i) refl are
  where
    by_table : (o : Option Table) → slice_get p.tables i ≡ o → AreEntriesAt n es (option_map (terms_of p) o)
        → slice_index (unwrap_or (option_map (λ (t : Table). applied_table p n t (hit_of t.kind t.key es r.state) r) o) r).state f ≡ slice_index r.state f
    by_table None e entries = refl
    by_table (Some t) e entries =
        let o = hit_of t.kind t.key es r.state in
        ap (λ s. slice_index s f) (applied_state p n t o r)
        ∙ act_other p (action_run t o) (args_run t o) r.state f (λ there. none (fields_listed p written_by n i node t es r.state f at is e entries there))

either_other : (b : Bool) (q r : Run) (f : ℕ) → (b ≡ true → slice_index q.state f ≡ slice_index r.state f) → slice_index (cond b q r).state f ≡ slice_index r.state f
either_other true q r f h = h refl
either_other false q r f h = refl

-- a node runs in the whole run
abbrev pub Goes : Program → List (List Entry) → List ℕ → ℕ → Type 0
Goes p lists s n = (node : Node) → slice_get p.nodes n ≡ Some node → runs node.guard (run p lists s).outcomes ≡ true

-- a field keeps its value over nodes that don't write it or don't run
pub kept_over : (p : Program) (lists : List (List Entry)) (s : List ℕ) (f : ℕ) → IsProgram p → AreEntries p lists → (d n : ℕ) → n + d ≤ length p.nodes
    → ((j : ℕ) → n ≤ j → j < n + d → Goes p lists s j → Contains (writes_of p j) f → ⊥)
    → slice_index (run_before p lists s (n + d)).state f ≡ slice_index (run_before p lists s n).state f
kept_over p lists s f program entries zero n le none = let e : n + 0 ≡ n = omega arith in ap (λ m. slice_index (run_before p lists s m).state f) e
kept_over p lists s f program entries (suc d) n le none =
    let m = n + d in
    let node = slice_get-item p.nodes m (omega (arith, le)) in
    let at = node.1 in
    let before = run_before p lists s m in
    let e : n + suc d ≡ m + 1 = omega arith in
    let step : slice_index (through_node p lists m node.0 before).state f ≡ slice_index before.state f =
    either_other (runs node.0.guard before.outcomes) (done_by p (entries_at lists m) m node.0.what before) before f
    (λ goes.
    done_other p m node.0 node.0.what (entries_at lists m) before f at refl (list_at p lists m node.0 entries at).1
    (none m (omega arith) (omega arith)
    (λ x at_x. subst (λ (y : Node). runs y.guard (run p lists s).outcomes ≡ true) (same_Some node.0 x (sym at ∙ at_x)) (sym (guard_at p lists s m node.0 program at) ∙ goes)))) in
    ap (λ i. slice_index (run_before p lists s i).state f) e
    ∙ ap (λ (r : Run). slice_index r.state f) (run_next p lists s m node.0 at)
    ∙ step
    ∙ kept_over p lists s f program entries d n (omega (arith, le)) (λ j low high. none j low (omega (arith, high)))
