-- What holds of the tables of a well-formed program.
use Rattle.std.proofs.Common.{◌≡◌, ℕ, ◌+◌, ◌≤◌, List, [], ◌∷◌, ◌++◌, Option, Some, None, IfSome, length, map, slice_get, option_map, unwrap_or, get_or, refl, sym, ap, subst, ◌∙◌, append_assoc, length-append, add-zero, arith}
use Rattle.std.specs.Prelude.{All}
use Rattle.std.specs.List.{cons_option}
use Rattle.std.proofs.lemmas.List.{length-map}
use Rattle.std.proofs.lemmas.List.Elements.{All-cons, All-map, All-nil, All-weaker}
use Rattle.std.proofs.lemmas.Option.{slice_get_within, slice_get-map}
use Rattle.rmt_bits.proofs.AllLaws.{All-slice_get}
use Rattle.rmt_bits.proofs.ListLaws.{slice_get-end}
use Rattle.rmt_ast.specs.declared.program.Program.{Program}
use Rattle.rmt_ast.specs.declared.program.Action.{Action}
use Rattle.rmt_ast.specs.declared.program.Table.{Table}
use Rattle.rmt_ast.specs.declared.program.Node.{Node}
use Rattle.rmt_ast.specs.declared.program.What.{What}
use Rattle.rmt_ast.specs.declared.program.What.TheVariants.{Apply, Gate}
use Rattle.rmt_ast.specs.EntryLists.{Terms, params_of, terms_at, terms_of}
use Rattle.rmt_ast.specs.State.{width_of}
use Rattle.rmt_ast.specs.WellFormed.{IsProgram, IsTable, IsAction, IsWidth}
use Rattle.rmt_ast.proofs.WellFormedLemmas.{narrow_field}
use Rattle.rmt_ast.specs.Naming.{name_of_action}
use Rattle.rmt_entries.specs.Reads.{node_terms}
use Rattle.rmt_entries.specs.LinesSoFar.{IsAppliedBy, IsBelow, IsReadable}
use Rattle.rmt_entries.specs.Tables.{AppliedTable, applied_table, applied_tables, table_at, table_of, tables_from}
use Rattle.rmt_entries.proofs.LawKeys.{HasParams}
use Rattle.rmt_entries.specs.Taken.{AreNarrow}

narrow_params : (p : Program) → IsProgram p → (a : ℕ) → AreNarrow (params_of p a)
narrow_params p h a = by (slice_get p.actions a) refl
  where
    by : (o : Option Action) → slice_get p.actions a ≡ o → AreNarrow (unwrap_or (option_map (λ (x : Action). x.params) o) [])
    by None e = All-nil _
    by (Some x) e = All-weaker IsWidth (λ w. w ≤ 128) (λ w i. i.1) x.params (All-slice_get (IsAction p) p.actions a x h.actions e).params

readable : (p : Program) → IsProgram p → (n : ℕ) (t : Table) → IsTable p t → IsReadable (applied_table p n t)
readable p h n t is = record {
  widths = All-map (λ w. w ≤ 128) (width_of p) t.key (λ k d lt. narrow_field p h (get_or t.key k d));
  params = All-map AreNarrow (params_of p) t.actions (λ k d lt. narrow_params p h (get_or t.actions k d));
  few_actions = rw (length-map t.actions (name_of_action p)) (omega (arith, is.few_actions));
}

-- the table of a program that a node applies
found : (p : Program) → IsProgram p → (what : What) → IfSome (table_of p what) (IsTable p)
found p h (Apply t) = at (slice_get p.tables t) refl
  where
    at : (o : Option Table) → slice_get p.tables t ≡ o → IfSome o (IsTable p)
    at None e = tt
    at (Some x) e = All-slice_get (IsTable p) p.tables t x h.tables e
found p h (Gate f test) = tt

All-cons_option : {X : Type 0} (P : X → Type 0) (o : Option X) (xs : List X) → IfSome o P → All P xs → All P (cons_option o xs)
All-cons_option P None xs h rest = rest
All-cons_option P (Some x) xs h rest = All-cons P x xs h rest

-- what holds of each table that a node applies
all_readable : (p : Program) → IsProgram p → (n : ℕ) (nodes : List Node) → All IsReadable (tables_from p n nodes)
all_readable p h n [] = All-nil IsReadable
all_readable p h n (x ∷ xs) =
    All-cons_option IsReadable (table_at p n x.what) (tables_from p (n + 1) xs) (by (table_of p x.what) (found p h x.what)) (all_readable p h (n + 1) xs)
  where
    by : (o : Option Table) → IfSome o (IsTable p) → IfSome (option_map (applied_table p n) o) IsReadable
    by None is = tt
    by (Some t) is = readable p h n t is

pub are_readable : (p : Program) → IsProgram p → All IsReadable (applied_tables p)
are_readable p h = all_readable p h 0 p.nodes

-- each table has parameters for each of its actions
all_params : (p : Program) (n : ℕ) (nodes : List Node) → All HasParams (tables_from p n nodes)
all_params p n [] = All-nil HasParams
all_params p n (x ∷ xs) = All-cons_option HasParams (table_at p n x.what) (tables_from p (n + 1) xs) (by (table_of p x.what)) (all_params p (n + 1) xs)
  where
    by : (o : Option Table) → IfSome (option_map (applied_table p n) o) HasParams
    by None = tt
    by (Some t) = length-map t.actions (params_of p) ∙ sym (length-map t.actions (name_of_action p))

pub have_params : (p : Program) → All HasParams (applied_tables p)
have_params p = all_params p 0 p.nodes

abbrev terms_of_node : Program → Node → Option Terms
terms_of_node p node = terms_at p node.what

-- each table is applied by its node
all_applied : (p : Program) (done nodes : List Node) → All (IsAppliedBy (map (terms_of_node p) (done ++ nodes))) (tables_from p (length done) nodes)
all_applied p done [] = All-nil _
all_applied p done (x ∷ xs) =
    let terms : List (Option Terms) = map (terms_of_node p) (done ++ x ∷ xs) in
    let more : length (done ++ x ∷ []) ≡ length done + 1 = length-append done (x ∷ []) in
    let rest : All (IsAppliedBy (map (terms_of_node p) ((done ++ x ∷ []) ++ xs))) (tables_from p (length (done ++ x ∷ [])) xs) = all_applied p (done ++ x ∷ []) xs in
    let rest_here : All (IsAppliedBy terms) (tables_from p (length done + 1) xs) =
    subst (λ (n : ℕ). All (IsAppliedBy terms) (tables_from p n xs)) more
    (subst (λ (ns : List Node). All (IsAppliedBy (map (terms_of_node p) ns)) (tables_from p (length (done ++ x ∷ [])) xs)) (append_assoc done (x ∷ []) xs) rest) in
    let here : slice_get terms (length done) ≡ Some (terms_at p x.what) =
    slice_get-map (terms_of_node p) (done ++ x ∷ xs) (length done)
    ∙ ap (option_map (terms_of_node p)) (ap (slice_get (done ++ x ∷ xs)) (sym (add-zero (length done))) ∙ slice_get-end done (x ∷ xs) 0) in
    All-cons_option (IsAppliedBy terms) (table_at p (length done) x.what) (tables_from p (length done + 1) xs) (by terms x.what here) rest_here
  where
    one : (terms : List (Option Terms)) (o : Option Table) → slice_get terms (length done) ≡ Some (option_map (terms_of p) o) → IfSome (option_map (applied_table p (length done)) o) (IsAppliedBy terms)
    one terms None e = tt
    one terms (Some t) e = e

    by : (terms : List (Option Terms)) (what : What) → slice_get terms (length done) ≡ Some (terms_at p what) → IfSome (table_at p (length done) what) (IsAppliedBy terms)
    by terms (Apply t) e = one terms (slice_get p.tables t) e
    by terms (Gate f test) e = tt

pub are_applied : (p : Program) → All (IsAppliedBy (node_terms p)) (applied_tables p)
are_applied p = all_applied p [] p.nodes

-- a table that a node applies is applied by one of the nodes
pub are_below : (terms : List (Option Terms)) (ts : List AppliedTable) → All (IsAppliedBy terms) ts → All (IsBelow (length terms)) ts
are_below terms ts h = All-weaker (IsAppliedBy terms) (IsBelow (length terms)) (λ t applied. slice_get_within terms t.node (Some t.terms) applied) ts h
