-- A control run over tables that are ready to be looked up is one over their lists of entries.
use Rattle.std.proofs.Common.{◌≡◌, ℕ, suc, ◌+◌, ◌-◌, ◌^◌, ◌≤◌, cond, List, [], ◌∷◌, length, get_or, Option, Some, None, refl, sym, ap, subst, ◌∙◌, arith}
use Rattle.std.specs.Prelude.{All, IsSomeAnd, map, slice_get, find, unwrap_or, option_map, replicate}
use Rattle.std.specs.List.{AllZip}
use Rattle.std.proofs.lemmas.List.{nil_from_length, length-map}
use Rattle.std.proofs.lemmas.List.Sorted.{All-permutation, length_permutation}
use Rattle.std.proofs.lemmas.Option.{slice_get-map}
use Rattle.rmt_bits.proofs.AllLaws.{All-slice_get}
use Rattle.rmt_bits.proofs.ListLaws.{slice_get-alike}
use Rattle.rmt_ast.specs.declared.program.Program.{Program}
use Rattle.rmt_ast.specs.declared.program.Test.{Test}
use Rattle.rmt_ast.specs.declared.program.Table.{Table}
use Rattle.rmt_ast.specs.declared.program.Kind.{Kind}
use Rattle.rmt_ast.specs.declared.program.Node.{Node}
use Rattle.rmt_ast.specs.declared.program.What.{What}
use Rattle.rmt_ast.specs.declared.program.Kind.TheVariants.{Keyless, Exact, Prefix, Ternary}
use Rattle.rmt_ast.specs.declared.program.What.TheVariants.{Apply, Gate}
use Rattle.rmt_ast.specs.declared.entry.Entry.{Entry}
use Rattle.rmt_ast.specs.State.{width_of}
use Rattle.rmt_ast.specs.Lookup.{matches, hit_of}
use Rattle.rmt_ast.specs.Control as control
use Rattle.rmt_ast.specs.WellFormed.{IsProgram, IsTable, HasKey}
use Rattle.rmt_ast.specs.EntryLists.{Terms, HasRank, IsPrefix, AreTableEntries, AreEntriesAt, AreEntries, terms_of, terms_at}
use Rattle.rmt_plain.specs.declared.lookup.Lookup.{Lookup}
use Rattle.rmt_plain.specs.Ranking.{IsRanked}
use Rattle.rmt_plain.specs.Runnable.{IsRunnable}
use Rattle.rmt_plain.specs.Running.{IsReady, entry_for, first_of, done_with, passed_with, run_with, kind_of, Serves, AreLookups}
use Rattle.rmt_plain.proofs.BestLaws.{entry-best}
use Rattle.rmt_plain.proofs.KeyLaws.{FitsKey, fits_key}
use Rattle.rmt_plain.proofs.FieldLaws.{width_of-le}
use Rattle.rmt_plain.proofs.RankingLaws.{IsSmall, find-ranked}

-- the rank of a prefix of one field is at most its width
small_prefix : (p : Program) (t : Table) (ts : List Test) (rank : ℕ) → IsRunnable p → length t.key ≡ 1 → AllZip (IsPrefix rank) (map (width_of p) t.key) ts → rank ≤ 2 ^ 32 - 1
small_prefix p t ts rank good one h = by t.key ts one h
  where
    by : (fs : List ℕ) (us : List Test) → length fs ≡ 1 → AllZip (IsPrefix rank) (map (width_of p) fs) us → rank ≤ 2 ^ 32 - 1
    by [] us one h = absurd (omega arith)
    by (f ∷ fs) [] one h = absurd h
    by (f ∷ fs) (u ∷ us) one h = let within : rank ≤ width_of p f = h.0.0 in let narrow = width_of-le p f good in omega arith

small_rank : (p : Program) (t : Table) (kind : Kind) (e : Entry) → IsRunnable p → HasKey p kind t → HasRank kind (map (width_of p) t.key) e → IsSmall kind e
small_rank p t Keyless e good keyed h = tt
small_rank p t Exact e good keyed h = tt
small_rank p t Prefix e good keyed h = small_prefix p t e.tests e.rank good keyed.1 h
small_rank p t Ternary e good keyed h = tt

find-nil : (key s : List ℕ) (rs : List Entry) → length rs ≡ 0 → find (matches key s) rs ≡ None
find-nil key s rs h = ap (find (matches key s)) (nil_from_length rs h)

hit_of-nil : (kind : Kind) (key s : List ℕ) → hit_of kind key [] s ≡ None
hit_of-nil Keyless key s = refl
hit_of-nil Exact key s = refl
hit_of-nil Prefix key s = refl
hit_of-nil Ternary key s = refl

-- what is looked up in a table that is ready is what the table hits
module _ (p : Program) (n : ℕ) (es : List Entry) (t : Table) (good : IsRunnable p) (table : IsTable p t) (entries : AreTableEntries n es (terms_of p t)) (s : List ℕ) where
  small_all : All (IsSmall t.kind) es
  small_all k d lt = small_rank p t t.kind _ good table.key (entries.each k d lt).rank

  ranked_hit : (kind : Kind) (l : Lookup) → t.kind ≡ kind → IsRanked kind es l.entries.items → find (matches t.key s) l.entries.items ≡ hit_of kind t.key es s
  ranked_hit Keyless l is ranked =
      let keyless = subst (λ k. HasKey p k t) is table.key in
      let few = entries.within_size in
      let none = keyless.size in
      let same = length_permutation es l.entries.items ranked.same in
      find-nil t.key s l.entries.items (omega arith)
  ranked_hit Exact l is ranked = find-ranked Exact es l.entries.items entries.rising ranked (λ e. cc) (λ k d lt. tt) t.key s
  ranked_hit Prefix l is ranked = find-ranked Prefix es l.entries.items entries.rising ranked (λ e. cc) (subst (λ k. All (IsSmall k) es) is small_all) t.key s
  ranked_hit Ternary l is ranked = find-ranked Ternary es l.entries.items entries.rising ranked (λ e. cc) (λ k d lt. tt) t.key s

  fit_all : All (λ (e : Entry). FitsKey t.key e.tests) es
  fit_all k d lt = fits_key (map (width_of p) t.key) t.key (get_or es k d).tests (length-map t.key (width_of p)) (entries.each k d lt).tests

  looked_up : (l : Lookup) → IsReady t.kind es l → entry_for t.key s l ≡ find (matches t.key s) l.entries.items
  looked_up l ready = entry-best l.marks.items t.key s l.entries.items l.groups.items (All-permutation (λ (e : Entry). FitsKey t.key e.tests) es l.entries.items ready.ranked.same fit_all) ready.grouped ready.marks.wanted

  pub served_hit : (o : Option Lookup) → Serves t.kind es o → first_of t.key s o ≡ hit_of t.kind t.key es s
  served_hit None none = sym (ap (λ xs. hit_of t.kind t.key xs s) none ∙ hit_of-nil t.kind t.key s)
  served_hit (Some l) ready = looked_up l ready ∙ ranked_hit t.kind l refl ready.ranked

table_same : (p : Program) (n : ℕ) (es : List Entry) (l : Option Lookup) (o : Option Table) (r : control.Run) → IsRunnable p → ((t : Table) → o ≡ Some t → IsTable p t) → AreEntriesAt n es (option_map (terms_of p) o)
    → Serves (unwrap_or (option_map (λ (t : Table). t.kind) o) Keyless) es l
    → unwrap_or (option_map (λ (t : Table). control.applied_table p n t (first_of t.key r.state l) r) o) r ≡ unwrap_or (option_map (λ (t : Table). control.applied_table p n t (hit_of t.kind t.key es r.state) r) o) r
table_same p n es l None r good tables entries serves = refl
table_same p n es l (Some t) r good tables entries serves =
    ap (λ h. control.applied_table p n t h r) (served_hit p n es t good (tables t refl) entries r.state l serves)

done_same : (p : Program) (n : ℕ) (es : List Entry) (l : Option Lookup) (what : What) (r : control.Run) → IsRunnable p → IsProgram p → AreEntriesAt n es (terms_at p what) → Serves (kind_of p what) es l
    → done_with p l n what r ≡ control.done_by p es n what r
done_same p n es l (Apply t) r good program entries serves =
    table_same p n es l (slice_get p.tables t) r good (λ u e. All-slice_get (IsTable p) p.tables t u program.tables e) entries serves
done_same p n es l (Gate f test) r good program entries serves = refl

passed_same : (p : Program) (n : ℕ) (es : List Entry) (l : Option Lookup) (node : Node) (r : control.Run) → done_with p l n node.what r ≡ control.done_by p es n node.what r
    → ◌≡◌ {A = control.Run} (passed_with p l n node r) (cond (control.runs node.guard r.outcomes) (control.done_by p es n node.what r) r)
passed_same p n es l node r same = ap (λ (q : control.Run). cond (control.runs node.guard r.outcomes) q r) same

run_from_same : (p : Program) (lists : List (List Entry)) (lookups : List Lookup) → IsRunnable p → IsProgram p → (n : ℕ) (nodes : List Node) (r : control.Run)
    → ((k : ℕ) (node : Node) → slice_get nodes k ≡ Some node → AreEntriesAt (n + k) (unwrap_or (slice_get lists (n + k)) []) (terms_at p node.what))
    → ((k : ℕ) (node : Node) → slice_get nodes k ≡ Some node → Serves (kind_of p node.what) (unwrap_or (slice_get lists (n + k)) []) (slice_get lookups (n + k)))
    → run_with p lookups n nodes r ≡ control.run_from p lists n nodes r
run_from_same p lists lookups good program n [] r entries serves = refl
run_from_same p lists lookups good program n (node ∷ nodes) r entries serves =
    let es : List Entry = unwrap_or (slice_get lists n) [] in
    let here : AreEntriesAt n es (terms_at p node.what) =
    subst (λ m. AreEntriesAt m (unwrap_or (slice_get lists m) []) (terms_at p node.what)) (omega arith) (entries 0 node refl) in
    let ready : Serves (kind_of p node.what) es (slice_get lookups n) =
    subst (λ m. Serves (kind_of p node.what) (unwrap_or (slice_get lists m) []) (slice_get lookups m)) (omega arith) (serves 0 node refl) in
    run_from_same p lists lookups good program (n + 1) nodes _
    (λ k other e. subst (λ m. AreEntriesAt m (unwrap_or (slice_get lists m) []) (terms_at p other.what)) (omega arith) (entries (suc k) other e))
    (λ k other e. subst (λ m. Serves (kind_of p other.what) (unwrap_or (slice_get lists m) []) (slice_get lookups m)) (omega arith) (serves (suc k) other e))
    ∙ ap (control.run_from p lists (n + 1) nodes) (passed_same p n es (slice_get lookups n) node r (done_same p n es (slice_get lookups n) node.what r good program here ready))

-- the entries of a node are those of its table
entries_at : (p : Program) (lists : List (List Entry)) → AreEntries p lists → (n : ℕ) (node : Node) → slice_get p.nodes n ≡ Some node → AreEntriesAt n (unwrap_or (slice_get lists n) []) (terms_at p node.what)
entries_at p lists entries n node e =
    let terms : List (Option Terms) = map (λ (x : Node). terms_at p x.what) p.nodes in
    let alike : length lists ≡ length p.nodes = entries.for_each_node ∙ length-map p.nodes (λ (x : Node). terms_at p x.what) in
    let there : (es : List Entry) × (slice_get lists n ≡ Some es) = slice_get-alike p.nodes lists n node alike e in
    let known : slice_get terms n ≡ Some (terms_at p node.what) =
    slice_get-map (λ (x : Node). terms_at p x.what) p.nodes n ∙ ap (option_map (λ (x : Node). terms_at p x.what)) e in
    let at_n : AreEntriesAt n there.0 (terms_at p node.what) = subst (λ o. IsSomeAnd o (AreEntriesAt n there.0)) known (entries.each n there.0 there.1) in
    subst (λ o. AreEntriesAt n (unwrap_or o []) (terms_at p node.what)) (sym there.1) at_n

-- all nodes over a state
pub run-lookups : (p : Program) (lists : List (List Entry)) (lookups : List Lookup) (s : List ℕ) → IsRunnable p → IsProgram p → AreEntries p lists → AreLookups p lists lookups
    → run_with p lookups 0 p.nodes (record { state = s; outcomes = replicate (length p.nodes) 0; hits = [] }) ≡ control.run p lists s
run-lookups p lists lookups s good program entries ready =
    run_from_same p lists lookups good program 0 p.nodes _
    (λ k node e. subst (λ m. AreEntriesAt m (unwrap_or (slice_get lists m) []) (terms_at p node.what)) (omega arith) (entries_at p lists entries k node e))
    (λ k node e. subst (λ m. Serves (kind_of p node.what) (unwrap_or (slice_get lists m) []) (slice_get lookups m)) (omega arith) (ready k node e))
