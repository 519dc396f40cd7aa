-- The hits of a program's run, node by node.
use Rattle.std.proofs.Common.{◌≡◌, ℕ, zero, suc, ◌+◌, ◌≤◌, Bool, true, false, ◌==◌, cond, List, [], ◌∷◌, ◌++◌, Option, Some, None, length, refl, sym, ap, ◌∙◌, arith}
use Rattle.std.specs.Prelude.{filter, option_and_then, option_map, replicate, slice_get, sum_by, unwrap_or}
use Rattle.std.specs.List.{list_any}
use Rattle.std.proofs.Math.Seq.{take-length}
use Rattle.std.proofs.lemmas.List.{append-nil}
use Rattle.std.proofs.lemmas.List.Elements.{filter-append}
use Rattle.std.proofs.lemmas.List.Sums.{sum_by-append}
use Rattle.rmt_bits.proofs.ListLaws.{slice_get-item}
use Rattle.rmt_refine.specs.Types.{Program, Table, Node, What}
use Rattle.rmt_ast.specs.declared.program.What.TheVariants.{Apply, Gate}
use Rattle.rmt_ast.specs.declared.entry.Entry.{Entry}
use Rattle.rmt_ast.specs.Answers.{counted_numbers}
use Rattle.rmt_ast.specs.Control.{Run, applied_table, done_by, run, run_from, runs}
use Rattle.rmt_ast.specs.EntryLists.{AreEntries}
use Rattle.rmt_ast.specs.Lookup.{hit_of}
use Rattle.rmt_ast.specs.WellFormed.{IsProgram}
use Rattle.rmt_refine.specs.CountedHits.{counted_hits}
use Rattle.rmt_refine.specs.Outcomes.{entries_at, run_before}
use Rattle.rmt_refine.specs.Units.{applied, table_at}
use Rattle.rmt_refine.proofs.LookUpLaws.{hit_some}
use Rattle.rmt_refine.proofs.NumberLaws.{number_counted}
use Rattle.rmt_refine.proofs.RunLaws.{guard_at, run_next}
use Rattle.rmt_refine.proofs.RunningLaws.{counted_hit, goes_at, own_numbers, table_counts}

-- ---- what one node hits

abbrev hit_number : Option Entry → List ℕ
hit_number None = []
hit_number (Some e) = e.number ∷ []

abbrev table_hits : List Entry → List ℕ → Option Table → List ℕ
table_hits es s o = unwrap_or (option_map (λ (t : Table). hit_number (hit_of t.kind t.key es s)) o) []

applied_hits : (p : Program) (n : ℕ) (t : Table) (o : Option Entry) (r : Run) → (applied_table p n t o r).hits ≡ r.hits ++ hit_number o
applied_hits p n t None r = sym (append-nil r.hits)
applied_hits p n t (Some e) r = refl

done_hits : (p : Program) (n : ℕ) (es : List Entry) (w : What) (r : Run) → (done_by p es n w r).hits ≡ r.hits ++ table_hits es r.state (applied p w)
done_hits p n es (Gate field test) r = sym (append-nil r.hits)
done_hits p n es (Apply i) r = by_table (slice_get p.tables i)
  where
    by_table : (o : Option Table) → (unwrap_or (option_map (λ (t : Table). applied_table p n t (hit_of t.kind t.key es r.state) r) o) r).hits ≡ r.hits ++ table_hits es r.state o
    by_table None = sym (append-nil r.hits)
    by_table (Some t) = applied_hits p n t (hit_of t.kind t.key es r.state) r

either_hits : (b : Bool) (q r : Run) (ns : List ℕ) → q.hits ≡ r.hits ++ ns → (cond b q r).hits ≡ r.hits ++ cond b ns []
either_hits true q r ns h = h
either_hits false q r ns h = sym (append-nil r.hits)

-- ---- sums over what nodes count

-- over what the nodes before number m count
abbrev pub own_sum : (ℕ → List ℕ) → (ℕ → ℕ) → ℕ → ℕ
own_sum own w zero = 0
own_sum own w (suc m) = own_sum own w m + sum_by w (own m)

module _ (p : Program) (lists : List (List Entry)) (s : List ℕ) (program : IsProgram p) (entries : AreEntries p lists) where
  abbrev is_number : ℕ → Bool
  is_number n = list_any (λ m. m == n) (counted_numbers p p.nodes lists)

  abbrev state_at : ℕ → List ℕ
  state_at n = (run_before p lists s n).state

  -- what each node counts in this run
  abbrev pub run_numbers : ℕ → List ℕ
  run_numbers = own_numbers p (entries_at lists) state_at (run p lists s).outcomes

  kept_hit : (n : ℕ) (node : Node) (t : Table) (o : Option Entry) → slice_get p.nodes n ≡ Some node → applied p node.what ≡ Some t → hit_of t.kind t.key (entries_at lists n) (state_at n) ≡ o
      → filter is_number (hit_number o) ≡ counted_hit t o
  kept_hit n node t None at table hit = refl
  kept_hit n node t (Some e) at table hit =
      let there = hit_some t.kind t.key (state_at n) (entries_at lists n) e hit in
      ap (λ b. cond b (e.number ∷ []) []) (number_counted p lists n node t e entries at table there.0.there)

  kept_hits : (n : ℕ) (node : Node) (o : Option Table) → slice_get p.nodes n ≡ Some node → applied p node.what ≡ o
      → filter is_number (table_hits (entries_at lists n) (state_at n) o) ≡ table_counts (entries_at lists n) (state_at n) o
  kept_hits n node None at table = refl
  kept_hits n node (Some t) at table = kept_hit n node t (hit_of t.kind t.key (entries_at lists n) (state_at n)) at table refl

  either_kept : (b : Bool) (ns ms : List ℕ) → filter is_number ns ≡ ms → filter is_number (cond b ns []) ≡ cond b ms []
  either_kept true ns ms h = h
  either_kept false ns ms h = refl

  hits_next : (n : ℕ) (node : Node) → slice_get p.nodes n ≡ Some node
      → (run_before p lists s (n + 1)).hits ≡ (run_before p lists s n).hits ++ cond (runs node.guard (run p lists s).outcomes) (table_hits (entries_at lists n) (state_at n) (applied p node.what)) []
  hits_next n node at =
      let r = run_before p lists s n in
      ap (λ (q : Run). q.hits) (run_next p lists s n node at)
      ∙ either_hits (runs node.guard r.outcomes) (done_by p (entries_at lists n) n node.what r) r (table_hits (entries_at lists n) r.state (applied p node.what))
      (done_hits p n (entries_at lists n) node.what r)
      ∙ ap (λ b. r.hits ++ cond b (table_hits (entries_at lists n) r.state (applied p node.what)) []) (guard_at p lists s n node program at)

  numbers_at : (n : ℕ) (node : Node) → slice_get p.nodes n ≡ Some node
      → run_numbers n ≡ cond (runs node.guard (run p lists s).outcomes) (table_counts (entries_at lists n) (state_at n) (applied p node.what)) []
  numbers_at n node at =
      ap (λ b. cond b (table_counts (entries_at lists n) (state_at n) (table_at p n)) []) (goes_at p (run p lists s).outcomes n node at)
      ∙ ap (λ o. cond (runs node.guard (run p lists s).outcomes) (table_counts (entries_at lists n) (state_at n) o) []) (ap (option_and_then (λ (x : Node). applied p x.what)) at)

  kept_next : (n : ℕ) (node : Node) → slice_get p.nodes n ≡ Some node
      → filter is_number (run_before p lists s (n + 1)).hits ≡ filter is_number (run_before p lists s n).hits ++ run_numbers n
  kept_next n node at =
      let here = table_hits (entries_at lists n) (state_at n) (applied p node.what) in
      let goes = runs node.guard (run p lists s).outcomes in
      ap (filter is_number) (hits_next n node at)
      ∙ filter-append is_number (run_before p lists s n).hits (cond goes here [])
      ∙ ap (λ ns. filter is_number (run_before p lists s n).hits ++ ns)
      (either_kept goes here (table_counts (entries_at lists n) (state_at n) (applied p node.what)) (kept_hits n node (applied p node.what) at refl) ∙ sym (numbers_at n node at))

  sum_before : (w : ℕ → ℕ) (m : ℕ) → m ≤ length p.nodes → sum_by w (filter is_number (run_before p lists s m).hits) ≡ own_sum run_numbers w m
  sum_before w zero le = refl
  sum_before w (suc m) le =
      let node = slice_get-item p.nodes m (omega (arith, le)) in
      let e : suc m ≡ m + 1 = omega arith in
      ap (λ j. sum_by w (filter is_number (run_before p lists s j).hits)) e
      ∙ ap (sum_by w) (kept_next m node.0 node.1)
      ∙ sum_by-append w (filter is_number (run_before p lists s m).hits) (run_numbers m)
      ∙ ap (λ x. x + sum_by w (run_numbers m)) (sum_before w m (omega (arith, le)))

  -- The hits in counted tables are what the nodes count.
  pub hits_sum : (w : ℕ → ℕ) → sum_by w (counted_hits p lists (run p lists s).hits) ≡ own_sum run_numbers w (length p.nodes)
  hits_sum w =
      let first : Run = record { state = s; outcomes = replicate (length p.nodes) 0; hits = [] } in
      ap (λ nodes. sum_by w (filter is_number (run_from p lists 0 nodes first).hits)) (sym (take-length p.nodes)) ∙ sum_before w (length p.nodes) (omega arith)
