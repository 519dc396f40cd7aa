-- The words at all ages, by induction over the stages, together with the outcomes: what a stage reads is told by the cuts before it.
use Rattle.std.proofs.Common.{◌≡◌, ℕ, zero, suc, ◌+◌, ◌<◌, ◌≤◌, true, List, [], ◌∷◌, Option, Some, None, length, map, take, drop, refl, sym, ap, ◌∙◌, subst, arith}
use Rattle.std.specs.Prelude.{Contains, IfSome, option_map, replicate, slice_get, slice_index, unwrap_or}
use Rattle.std.proofs.Math.Seq.{take-length}
use Rattle.std.proofs.lemmas.Option.{get_or_from_slice_get, same_Some, slice_get-map, slice_get_within}
use Rattle.rmt_refine.specs.Types.{Program, Table, Node, What, Config, Stage}
use Rattle.rmt_ast.specs.declared.program.What.TheVariants.{Apply, Gate}
use Rattle.rmt_ast.specs.declared.entry.Entry.{Entry}
use Rattle.rmt_ast.specs.Control.{run, run_from, runs}
use Rattle.rmt_ast.specs.EntryLists.{AreEntries}
use Rattle.rmt_ast.specs.Places.{lanes_of}
use Rattle.rmt_ast.specs.State.{IsState, joined}
use Rattle.rmt_ast.specs.WellFormed.{IsProgram, IsWhat}
use Rattle.rmt_deps.specs.Edges.{keys_of, of_what}
use Rattle.rmt_config.specs.ChipRun.{latency_of}
use Rattle.rmt_config.specs.Life.{Ages, Life, acts_of, key_of, through, through_from}
use Rattle.rmt_pack.specs.declared.placement.Part.{Part}
use Rattle.rmt_refine.specs.declared.map.Map.{Map}
use Rattle.rmt_refine.specs.View.{View, look_in}
use Rattle.rmt_refine.specs.Carries.{CarriesIn}
use Rattle.rmt_config.specs.Effects.{held_by, Hold}
use Rattle.rmt_refine.specs.Outcomes.{entries_at, run_before}
use Rattle.rmt_phv.specs.Places.{high_first}
use Rattle.rmt_refine.proofs.CarriedLaws.{carried_run, set_in}
use Rattle.rmt_refine.proofs.FieldLaws.{Goes, kept_over}
use Rattle.rmt_refine.proofs.NodeLaws.{part_there}
use Rattle.rmt_refine.proofs.ReadLaws.{key_reads, test_reads}
use Rattle.rmt_refine.proofs.RunningLaws.{running_law}
use Rattle.rmt_refine.proofs.SeenLaws.{HoldAtCuts, IsCut, key_cut, stage_of, stands, start, writer_within}
use Rattle.rmt_refine.proofs.StageLaws.{AllRead, AreSet, ReadsAs, StageReads, drop_head, none_set, stage_law}
use Rattle.rmt_refine.proofs.WrittenLaws.{Ran, behind, holds_behind}
use Rattle.rmt_bits.proofs.MemberLaws.{Contains-first}
use Rattle.std.proofs.lemmas.List.Elements.{All-contains}

-- ---- the age at which a packet leaves

-- starts rise
abbrev Rise : List ℕ → Type 0
Rise starts = (j k : ℕ) → j < k → k < length starts → slice_index starts j < slice_index starts k

-- what each stage writes is seen when the packet leaves
seen_last : (stages : List Stage) (k : ℕ) → Rise (map (λ (x : Stage). x.start) stages) → k < length stages → slice_index (map (λ (x : Stage). x.start) stages) k + 12 ≤ latency_of stages
seen_last [] k rise lt = absurd (omega (arith, lt))
seen_last (x ∷ []) zero rise lt = omega arith
seen_last (x ∷ []) (suc k) rise lt = absurd (omega (arith, lt))
seen_last (x ∷ y ∷ stages) zero rise lt =
    let next = seen_last (y ∷ stages) zero (λ i j less within. rise (suc i) (suc j) (omega (arith, less)) (omega (arith, within))) (omega arith) in
    omega (arith, next, rise 0 1 (omega arith) (omega arith))
seen_last (x ∷ y ∷ stages) (suc k) rise lt =
    seen_last (y ∷ stages) k (λ i j less within. rise (suc i) (suc j) (omega (arith, less)) (omega (arith, within))) (omega (arith, lt))

module _ (p : Program) (lists : List (List Entry)) (m : Map) (c : Config) (v : View) (s : List ℕ) (program : IsProgram p) (entries : AreEntries p lists) (state : IsState p s)
    (carries : CarriesIn p lists m c v) where
  abbrev at_node : ℕ → List ℕ
  at_node n = (run_before p lists s n).state

  abbrev start_at : ℕ → ℕ
  start_at = start p lists m c v s program entries state carries

  abbrev HoldBefore : ℕ → Ages → Type 0
  HoldBefore = HoldAtCuts p lists m c v s program entries state carries

  abbrev SetBefore : ℕ → List ℕ → Type 0
  SetBefore k = AreSet p m.places m.placement.parts m.starts c v (entries_at lists) at_node (run p lists s).outcomes (set_in p lists m c v s program entries state carries) k 0

  abbrev pub AreRead : ℕ → List Stage → Life → Type 0
  AreRead = AllRead p m.places m.placement.parts m.starts c v (entries_at lists) at_node (run p lists s).outcomes (set_in p lists m c v s program entries state carries)

  abbrev ReadIn : ℕ → (ℕ → ℕ) → Type 0
  ReadIn = StageReads p m.places m.placement.parts m.starts c v (entries_at lists) at_node (run p lists s).outcomes (set_in p lists m c v s program entries state carries)

  abbrev Reads : (ℕ → ℕ) → ℕ → What → Type 0
  Reads = ReadsAs p m.places m.placement.parts m.starts c v (entries_at lists) at_node (run p lists s).outcomes (set_in p lists m c v s program entries state carries)

  -- ---- what a stage reads

  keys_at : (n : ℕ) (node : Node) → slice_get p.nodes n ≡ Some node → keys_of p n ≡ of_what p (λ (t : Table). t.key) (λ field. field ∷ []) node.what
  keys_at n node at = ap (λ o. unwrap_or (option_map (λ (x : Node). of_what p (λ (t : Table). t.key) (λ field. field ∷ []) x.what) o) []) at

  table_read : (words : ℕ → ℕ) (n : ℕ) (o : Option Table) → ((f : ℕ) → Contains (unwrap_or (option_map (λ (t : Table). t.key) o) []) f → held_by words (lanes_of m.places f) ≡ slice_index (at_node n) f)
      → IfSome o (λ (t : Table). key_of words (high_first m.places t.key) ≡ joined p t.key (at_node n))
  table_read words n None holds = tt
  table_read words n (Some t) holds = key_reads p m.places words (at_node n) t.key carries.places.apart.cut holds

  -- a node reads what it reads in the run from words that hold its key or the field that it tests
  what_read : (words : ℕ → ℕ) (n : ℕ) (w : What) → IsWhat p w
      → ((f : ℕ) → Contains (of_what p (λ (t : Table). t.key) (λ field. field ∷ []) w) f → held_by words (lanes_of m.places f) ≡ slice_index (at_node n) f) → Reads words n w
  what_read words n (Apply i) is holds = table_read words n (slice_get p.tables i) holds
  what_read words n (Gate field test) is holds = test_reads p m.places words (at_node n) field test carries.places.apart.cut is.1 (holds field (Contains-first field []))

  read_in : (k : ℕ) (word : Ages) → HoldBefore k word → ReadIn k (word (start_at k))
  read_in k word holds n node at some goes le =
      let within = slice_get_within p.nodes n node at in
      let goes_all : Goes p lists s n = λ x at_x. subst (λ (y : Node). runs y.guard (run p lists s).outcomes ≡ true) (same_Some node x (sym at ∙ at_x)) goes in
      what_read (word (start_at k)) n node.what (program.nodes n node at).what (λ f there.
      holds (start_at k) f n (omega (arith, within))
      (key_cut p lists m c v s program entries state carries k n f within goes_all some le (subst (λ fs. Contains fs f) (sym (keys_at n node at)) there)))

  -- ---- stage by stage

  -- the start of a stage is that of the map
  start_is : (k : ℕ) (stage : Stage) → slice_get c.stages k ≡ Some stage → start_at k ≡ stage.start
  start_is k stage at =
      ap (λ xs. slice_index xs k) (sym carries.units.starts_are)
      ∙ get_or_from_slice_get (map (λ (x : Stage). x.start) c.stages) k stage.start 0 (slice_get-map (λ (x : Stage). x.start) c.stages k ∙ ap (option_map (λ (x : Stage). x.start)) at)

  -- From any stage on: what is read is right, and the words hold the fields at the cuts behind the last one.
  through_stages : (k : ℕ) (stages : List Stage) (life : Life) → drop k c.stages ≡ stages → HoldBefore k life.word → SetBefore k life.outcomes
      → AreRead k stages life × HoldBefore (k + length stages) (through_from (look_in c v) k stages life).word
  through_stages k [] life there holds set = let e : k ≡ k + 0 = omega arith in (tt, subst (λ j. HoldBefore j life.word) e holds)
  through_stages k (stage ∷ stages) life there holds set =
      let here = drop_head c.stages k stage stages there in
      let begin = start_is k stage here.0 in
      let ages = carried_run p lists m c v s program entries state carries in
      let reads : ReadIn k (life.word stage.start) = subst (λ a. ReadIn k (life.word a)) begin (read_in k life.word holds) in
      let running = (acts_of (look_in c v) k stage (life.word stage.start) life.outcomes).running in
      let ran : Ran p lists m c v s program entries state carries k (length p.nodes) running =
      running_law p m.places m.placement.parts m.starts c v (entries_at lists) at_node (run p lists s).outcomes (set_in p lists m c v s program entries state carries)
      k stage (life.word stage.start) life.outcomes ages here.0 reads set in
      let next = through (look_in c v) k stage life in
      let next_set : SetBefore (k + 1) next.outcomes =
      stage_law p m.places m.placement.parts m.starts c v (entries_at lists) at_node (run p lists s).outcomes (set_in p lists m c v s program entries state carries)
      k stage (life.word stage.start) life.outcomes ages here.0 reads set in
      let next_holds : HoldBefore (k + 1) next.word =
      subst (λ a. HoldBefore (k + 1) (behind p lists m c v s program entries state carries a running life.word)) begin
      (holds_behind p lists m c v s program entries state carries k life.word running holds ran) in
      let rest = through_stages (k + 1) stages next here.1 next_holds next_set in
      let e : k + 1 + length stages ≡ k + length (stage ∷ stages) = omega arith in
      ((reads, rest.0), subst (λ j. HoldBefore j (through_from (look_in c v) (k + 1) stages next).word) e rest.1)

  -- ---- the whole life

  -- a life before the first stage: its words hold the start state at every age, and no node has an outcome
  pub record IsStart (life : Life) : Type 0 where
    pub room : length p.nodes ≤ length life.outcomes
    pub none : (n : ℕ) → n < length p.nodes → slice_index life.outcomes n ≡ 0
    pub holds : (age : ℕ) → Hold m.places (life.word age) s

  first_state : at_node 0 ≡ s
  first_state = none_taken p.nodes
    where
      none_taken : (nodes : List Node) → (run_from p lists 0 (take 0 nodes) (record { state = s; outcomes = replicate (length p.nodes) 0; hits = [] })).state ≡ s
      none_taken [] = refl
      none_taken (x ∷ xs) = refl

  hold_first : (life : Life) → IsStart life → HoldBefore 0 life.word
  hold_first life first t f n within cut =
      let e : 0 + n ≡ n = omega arith in
      first.holds t f ∙ ap (λ x. slice_index x f) (sym first_state)
      ∙ sym (kept_over p lists s f program entries n 0 (omega (arith, within)) (λ j low high goes writes.
      let seen = cut.earlier j (record { goes = goes; writes = writes }) (omega (arith, high)) in
      omega (arith, seen.before)))
      ∙ ap (λ q. slice_index (at_node q) f) e

  all_through : (life : Life) → IsStart life → AreRead 0 c.stages life × HoldBefore (0 + length c.stages) (through_from (look_in c v) 0 c.stages life).word
  all_through life first =
      through_stages 0 c.stages life refl (hold_first life first)
      (none_set p m.places m.placement.parts m.starts c v (entries_at lists) at_node (run p lists s).outcomes (set_in p lists m c v s program entries state carries) life.outcomes first.room first.none)

  -- In each stage the nodes read what they read in the run.
  pub all_read : (life : Life) → IsStart life → AreRead 0 c.stages life
  all_read life first = (all_through life first).0

  rising : Rise (map (λ (x : Stage). x.start) c.stages)
  rising = subst Rise (sym carries.units.starts_are) carries.edges.distances.rise

  -- when the packet leaves all writes are seen
  last_cut : (f : ℕ) → IsCut p lists m c v s program entries state carries (0 + length c.stages) (latency_of c.stages) f (length p.nodes)
  last_cut f = record {
    earlier = λ j w lt.
        let y = part_there m.placement.parts j (stage_of p lists m c v s program entries state carries j) (stands p lists m c v s program entries state carries j lt w.goes) in
        let own = All-contains (λ (x : Part). (x.node < length p.nodes) × (x.stage < length c.stages) × (0 < x.quanta)) m.placement.parts y.0 carries.units.no_other y.1 in
        let in_stages : stage_of p lists m c v s program entries state carries j < length c.stages = subst (λ k. k < length c.stages) y.3 own.1 in
        let time = seen_last c.stages (stage_of p lists m c v s program entries state carries j) rising in_stages in
        record {
          before = omega (arith, in_stages);
          in_time = subst (λ xs. slice_index xs (stage_of p lists m c v s program entries state carries j) + 12 ≤ latency_of c.stages) carries.units.starts_are time;
        };
    later = λ j w ge seen. let lt = writer_within p j f w.writes in omega (arith, ge, lt);
  }

  last_state : at_node (length p.nodes) ≡ (run p lists s).state
  last_state = ap (λ nodes. (run_from p lists 0 nodes (record { state = s; outcomes = replicate (length p.nodes) 0; hits = [] })).state) (take-length p.nodes)

  -- When the packet leaves its words hold the last state of the run.
  pub words_law : (life : Life) → IsStart life → Hold m.places ((through_from (look_in c v) 0 c.stages life).word (latency_of c.stages)) (run p lists s).state
  words_law life first f =
      (all_through life first).1 (latency_of c.stages) f (length p.nodes) (omega arith) (last_cut f) ∙ ap (λ x. slice_index x f) last_state
