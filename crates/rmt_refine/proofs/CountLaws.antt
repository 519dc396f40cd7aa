-- What a packet's life counts: each hit of its program's run in a counted table, once.
use Rattle.std.proofs.Common.{◌≡◌, ℕ, zero, suc, ◌+◌, ◌<◌, ◌≤◌, Bool, true, false, ◌==◌, cond, List, [], ◌∷◌, Some, length, drop, reverse, refl, sym, ap, ◌∙◌, subst, arith}
use Rattle.std.specs.Prelude.{nat_lt, count_by, slice_get, slice_index, sum_by}
use Rattle.std.proofs.lemmas.Bool.{le-ltb, lt-ltb}
use Rattle.std.proofs.lemmas.List.Sorted.{IsPermutation-reverse, sum_by-IsPermutation}
use Rattle.std.proofs.lemmas.List.Sums.{sum_by-append, sum_by-cons}
use Rattle.rmt_bits.proofs.ListLaws.{slice_get-item}
use Rattle.rmt_bits.specs.declared.lane.Lane.{Lane}
use Rattle.rmt_refine.specs.Types.{Program, Node, Config, Stage}
use Rattle.rmt_ast.specs.declared.entry.Entry.{Entry}
use Rattle.rmt_ast.specs.Control.{run, runs}
use Rattle.rmt_ast.specs.EntryLists.{AreEntries}
use Rattle.rmt_ast.specs.State.{IsState}
use Rattle.rmt_ast.specs.WellFormed.{IsProgram}
use Rattle.rmt_config.specs.Life.{Counted, Life, acts_of, through, through_from}
use Rattle.rmt_pack.specs.declared.placement.Part.{Part}
use Rattle.rmt_refine.specs.declared.map.Map.{Map}
use Rattle.rmt_refine.specs.View.{View, look_in}
use Rattle.rmt_refine.specs.Carries.{CarriesIn}
use Rattle.rmt_refine.specs.CountedHits.{counted_hits}
use Rattle.rmt_refine.specs.Outcomes.{entries_at, run_before}
use Rattle.rmt_refine.specs.Units.{table_at}
use Rattle.rmt_refine.proofs.CarriedLaws.{carried_run, set_in as carried_set_in}
use Rattle.rmt_refine.proofs.HitLaws.{hits_sum, own_sum}
use Rattle.rmt_refine.proofs.NodeLaws.{part_there}
use Rattle.rmt_refine.proofs.RunningLaws.{count_of, counted_before, counts_in, goes_at, own_numbers, stage_counts, table_counts}
use Rattle.rmt_refine.proofs.StageLaws.{AllRead, AreSet, IsRun, drop_head, none_set, stage_law, stands_where_set}
use Rattle.std.proofs.lemmas.List.Elements.{All-contains}
use Rattle.rmt_bits.proofs.TestLaws.{below_next}

-- ---- sums of counts

-- the weight of a count's number
abbrev weight : (ℕ → ℕ) → Counted → ℕ
weight w x = w x.number

counts_sum : (w : ℕ → ℕ) (stage : Stage) (ns : List ℕ) → sum_by (weight w) (counts_in stage ns) ≡ sum_by w ns
counts_sum w stage [] = refl
counts_sum w stage (n ∷ ns) =
    sum_by-cons (weight w) (count_of (stage.start + 8) n) (counts_in stage ns)
    ∙ ap (λ x. w n + x) (counts_sum w stage ns) ∙ sym (sum_by-cons w n ns)

cond_sum : (w : ℕ → ℕ) (b : Bool) (ns : List ℕ) → sum_by w (cond b ns []) ≡ cond b (sum_by w ns) 0
cond_sum w true ns = refl
cond_sum w false ns = refl

zero_either : (b : Bool) → cond b 0 0 ≡ zero
zero_either true = refl
zero_either false = refl

module _ (p : Program) (places : List (List Lane)) (parts : List Part) (starts : List ℕ) (c : Config) (v : View) (entries : ℕ → List Entry) (state : ℕ → List ℕ) (outcomes : List ℕ) (set_in : ℕ → ℕ) where
  abbrev own : ℕ → List ℕ
  own = own_numbers p entries state outcomes

  abbrev before : ℕ → Stage → ℕ → List Counted
  before = counted_before p places parts starts c v entries state outcomes set_in

  abbrev TheRun : Type 0
  TheRun = IsRun p places parts starts c v entries state outcomes set_in

  -- the sum over the nodes before number m whose outcome is set in stage k
  abbrev stage_sum : (ℕ → ℕ) → ℕ → ℕ → ℕ
  stage_sum w k zero = 0
  stage_sum w k (suc m) = stage_sum w k m + cond (set_in m == k) (sum_by w (own m)) 0

  -- and before it
  abbrev early_sum : (ℕ → ℕ) → ℕ → ℕ → ℕ
  early_sum w k zero = 0
  early_sum w k (suc m) = early_sum w k m + cond (nat_lt (set_in m) k) (sum_by w (own m)) 0

  stage_sum_is : (w : ℕ → ℕ) (k : ℕ) (stage : Stage) (m : ℕ) → sum_by (weight w) (before k stage m) ≡ stage_sum w k m
  stage_sum_is w k stage zero = refl
  stage_sum_is w k stage (suc m) =
      let ns = cond (set_in m == k) (own m) [] in
      let here : sum_by (weight w) (counts_in stage ns) ≡ cond (set_in m == k) (sum_by w (own m)) 0 = counts_sum w stage ns ∙ cond_sum w (set_in m == k) (own m) in
      omega (arith, sum_by-append (weight w) (counts_in stage ns) (before k stage m), here, stage_sum_is w k stage m)

  early_next : (w : ℕ → ℕ) (k m : ℕ) → early_sum w (k + 1) m ≡ early_sum w k m + stage_sum w k m
  early_next w k zero = refl
  early_next w k (suc m) =
      omega (arith, early_next w k m, below_next (set_in m) k (sum_by w (own m)))

  early_none : (w : ℕ → ℕ) (m : ℕ) → early_sum w 0 m ≡ 0
  early_none w zero = refl
  early_none w (suc m) =
      let here : cond (nat_lt (set_in m) 0) (sum_by w (own m)) 0 ≡ 0 = ap (λ b. cond b (sum_by w (own m)) 0) (le-ltb (set_in m) 0 (omega arith)) in
      omega (arith, early_none w m, here)

  -- ---- all stages

  stages_count : (w : ℕ → ℕ) (k : ℕ) (stages : List Stage) (life : Life) → TheRun → drop k c.stages ≡ stages → AllRead p places parts starts c v entries state outcomes set_in k stages life
      → AreSet p places parts starts c v entries state outcomes set_in k 0 life.outcomes → sum_by (weight w) life.counted ≡ early_sum w k (length p.nodes)
      → sum_by (weight w) (through_from (look_in c v) k stages life).counted ≡ early_sum w (k + length stages) (length p.nodes)
  stages_count w k [] life run there reads set sum =
      let e : k ≡ k + 0 = omega arith in
      sum ∙ ap (λ j. early_sum w j (length p.nodes)) e
  stages_count w k (stage ∷ stages) life run there reads set sum =
      let here = drop_head c.stages k stage stages there in
      let next = through (look_in c v) k stage life in
      let words = life.word stage.start in
      let acts = acts_of (look_in c v) k stage words life.outcomes in
      let e : k + 1 + length stages ≡ k + length (stage ∷ stages) = omega arith in
      let both = sum_by-append (weight w) life.counted (reverse acts.counted) in
      let turned = sum_by-IsPermutation (weight w) acts.counted (reverse acts.counted) (IsPermutation-reverse acts.counted) in
      let counted : sum_by (weight w) acts.counted ≡ stage_sum w k (length p.nodes) =
      ap (sum_by (weight w)) (stage_counts p places parts starts c v entries state outcomes set_in k stage words life.outcomes run here.0 reads.0 set)
      ∙ stage_sum_is w k stage (length p.nodes) in
      let more = early_next w k (length p.nodes) in
      let after : sum_by (weight w) next.counted ≡ early_sum w (k + 1) (length p.nodes) = omega (arith, both, turned, counted, more, sum) in
      stages_count w (k + 1) stages next run here.1 reads.1
      (stage_law p places parts starts c v entries state outcomes set_in k stage words life.outcomes run here.0 reads.0 set) after
      ∙ ap (λ j. early_sum w j (length p.nodes)) e

  -- a node that runs has its outcome set in some stage
  set_within : (n : ℕ) (node : Node) → TheRun → slice_get p.nodes n ≡ Some node → n < length p.nodes → runs node.guard outcomes ≡ true → set_in n < length c.stages
  set_within n node run at within goes =
      let stands = stands_where_set p places parts starts c v entries state outcomes set_in n (set_in n) node.what run.units within (run.sets n node at goes) in
      let y = part_there parts n (set_in n) stands in
      let part = All-contains (λ (x : Part). (x.node < length p.nodes) × (x.stage < length c.stages) × (0 < x.quanta)) parts y.0 run.units.no_other y.1 in
      subst (λ j. j < length c.stages) y.3 part.1

  late_none : (w : ℕ → ℕ) (n : ℕ) (node : Node) → TheRun → slice_get p.nodes n ≡ Some node → n < length p.nodes → (b : Bool) → runs node.guard outcomes ≡ b
      → cond (nat_lt (set_in n) (length c.stages)) (sum_by w (own n)) 0 ≡ sum_by w (own n)
  late_none w n node run at within true goes =
      ap (λ b. cond b (sum_by w (own n)) 0) (lt-ltb (set_in n) (length c.stages) (set_within n node run at within goes))
  late_none w n node run at within false off =
      let none : sum_by w (own n) ≡ 0 = ap (λ b. sum_by w (cond b (table_counts (entries n) (state n) (table_at p n)) [])) (goes_at p outcomes n node at ∙ off) in
      ap (λ x. cond (nat_lt (set_in n) (length c.stages)) x 0) none ∙ zero_either (nat_lt (set_in n) (length c.stages)) ∙ sym none

  early_all : (w : ℕ → ℕ) (m : ℕ) → TheRun → m ≤ length p.nodes → early_sum w (length c.stages) m ≡ own_sum own w m
  early_all w zero run le = refl
  early_all w (suc m) run le =
      let node = slice_get-item p.nodes m (omega (arith, le)) in
      let here = late_none w m node.0 run node.1 (omega (arith, le)) (runs node.0.guard outcomes) refl in
      omega (arith, early_all w m run (omega (arith, le)), here)

  life_counts : (w : ℕ → ℕ) (life : Life) → TheRun → AllRead p places parts starts c v entries state outcomes set_in 0 c.stages life
      → AreSet p places parts starts c v entries state outcomes set_in 0 0 life.outcomes → life.counted ≡ []
      → sum_by (weight w) (through_from (look_in c v) 0 c.stages life).counted ≡ own_sum own w (length p.nodes)
  life_counts w life run reads set none =
      let e : 0 + length c.stages ≡ length c.stages = omega arith in
      stages_count w 0 c.stages life run refl reads set (ap (sum_by (weight w)) none ∙ sym (early_none w (length p.nodes)))
      ∙ ap (λ j. early_sum w j (length p.nodes)) e ∙ early_all w (length p.nodes) run (omega arith)

-- ---- where a configuration carries a program

module _ (p : Program) (lists : List (List Entry)) (m : Map) (c : Config) (v : View) (s : List ℕ) (program : IsProgram p) (entries : AreEntries p lists) (state : IsState p s)
    (carries : CarriesIn p lists m c v) where
  abbrev set_at : ℕ → ℕ
  set_at = carried_set_in p lists m c v s program entries state carries

  -- Each hit in a counted table is counted, as often as it is made.
  pub counted_law : (life : Life) → length p.nodes ≤ length life.outcomes → ((n : ℕ) → n < length p.nodes → slice_index life.outcomes n ≡ 0) → life.counted ≡ []
      → AllRead p m.places m.placement.parts m.starts c v (entries_at lists) (λ n. (run_before p lists s n).state) (run p lists s).outcomes set_at 0 c.stages life
      → (number : ℕ) → count_by (λ (x : Counted). x.number == number) (through_from (look_in c v) 0 c.stages life).counted
      ≡ count_by (λ n. n == number) (counted_hits p lists (run p lists s).hits)
  counted_law life room none uncounted reads number =
      let w : ℕ → ℕ = λ n. cond (n == number) 1 0 in
      life_counts p m.places m.placement.parts m.starts c v (entries_at lists) (λ n. (run_before p lists s n).state) (run p lists s).outcomes set_at w life
      (carried_run p lists m c v s program entries state carries) reads
      (none_set p m.places m.placement.parts m.starts c v (entries_at lists) (λ n. (run_before p lists s n).state) (run p lists s).outcomes set_at life.outcomes room none) uncounted
      ∙ sym (hits_sum p lists s program entries w)
