-- Which writes are seen at an age. What lanes hold at an age is told by a cut: of the nodes that run and write the field, those before it are seen.
use Rattle.std.proofs.Common.{◌≡◌, ℕ, ◌+◌, ◌<◌, ◌≤◌, List, [], Option, Some, None, length, refl, sym, ap, subst, inl, inr, arith}
use Rattle.std.specs.Prelude.{Contains, option_and_then, option_map, slice_get, slice_index, unwrap_or}
use Rattle.std.proofs.lemmas.Bool.{cases_lt}
use Rattle.std.proofs.lemmas.Option.{slice_get_within}
use Rattle.rmt_bits.proofs.ListLaws.{slice_get-item}
use Rattle.rmt_refine.specs.Types.{Program, Table, Node, What, Config}
use Rattle.rmt_ast.specs.declared.program.What.TheVariants.{Apply, Gate}
use Rattle.rmt_ast.specs.declared.entry.Entry.{Entry}
use Rattle.rmt_ast.specs.Control.{run}
use Rattle.rmt_ast.specs.EntryLists.{AreEntries}
use Rattle.rmt_ast.specs.Places.{lanes_of}
use Rattle.rmt_ast.specs.State.{IsState}
use Rattle.rmt_ast.specs.WellFormed.{IsProgram}
use Rattle.rmt_phv.specs.Places.{written_by}
use Rattle.rmt_deps.specs.Edges.{keys_of, of_table, of_what, reads_of, writes_of}
use Rattle.rmt_config.specs.Life.{Ages}
use Rattle.rmt_pack.specs.Placements.{quanta_in}
use Rattle.rmt_refine.specs.declared.map.Map.{Map}
use Rattle.rmt_refine.specs.View.{View}
use Rattle.rmt_refine.specs.Carries.{CarriesIn}
use Rattle.rmt_config.specs.Effects.{held_by}
use Rattle.rmt_refine.specs.Outcomes.{entries_at, run_before}
use Rattle.rmt_refine.specs.Units.{applied, table_at}
use Rattle.rmt_refine.proofs.CarriedLaws.{carried_run, set_in}
use Rattle.rmt_refine.proofs.FieldLaws.{Goes}
use Rattle.rmt_refine.proofs.OrderLaws.{action_order, match_order, reverse_order}
use Rattle.rmt_pack.proofs.PartLaws.{then_some}
use Rattle.rmt_refine.proofs.StageLaws.{stands_where_set}

-- ---- a node that writes

table_written : (p : Program) (f : ℕ) (o : Option Table) → Contains (unwrap_or (option_map (of_table p written_by) o) []) f → (t : Table) × (o ≡ Some t)
table_written p f None there = absurd (let lt = there.1 in omega (arith, lt))
table_written p f (Some t) there = (t, refl)

what_written : (p : Program) (f : ℕ) (w : What) → Contains (of_what p (of_table p written_by) (λ field. []) w) f → (t : Table) × (applied p w ≡ Some t)
what_written p f (Apply i) there = table_written p f (slice_get p.tables i) there
what_written p f (Gate field test) there = absurd (let lt = there.1 in omega (arith, lt))

node_written : (p : Program) (f : ℕ) (o : Option Node) → Contains (unwrap_or (option_map (λ (x : Node). of_what p (of_table p written_by) (λ field. []) x.what) o) []) f
    → (t : Table) × (option_and_then (λ (x : Node). applied p x.what) o ≡ Some t)
node_written p f None there = absurd (let lt = there.1 in omega (arith, lt))
node_written p f (Some x) there = what_written p f x.what there

-- it applies a table
pub table_of_writer : (p : Program) (n f : ℕ) → Contains (writes_of p n) f → (t : Table) × (table_at p n ≡ Some t)
table_of_writer p n f there = node_written p f (slice_get p.nodes n) there

pub table_within : (p : Program) (n : ℕ) (t : Table) → table_at p n ≡ Some t → n < length p.nodes
table_within p n t e =
    let node = then_some (λ (x : Node). applied p x.what) (slice_get p.nodes n) t e in
    slice_get_within p.nodes n node.0 node.1

-- and is a node of the program
pub writer_within : (p : Program) (n f : ℕ) → Contains (writes_of p n) f → n < length p.nodes
writer_within p n f there = let t = table_of_writer p n f there in table_within p n t.0 t.1

module _ (p : Program) (lists : List (List Entry)) (m : Map) (c : Config) (v : View) (s : List ℕ) (program : IsProgram p) (entries : AreEntries p lists) (state : IsState p s)
    (carries : CarriesIn p lists m c v) where
  -- the state before a node
  abbrev pub state_at : ℕ → List ℕ
  state_at n = (run_before p lists s n).state

  -- the stage in which the outcome of a node is set: there it writes
  abbrev pub stage_of : ℕ → ℕ
  stage_of = set_in p lists m c v s program entries state carries

  abbrev pub start : ℕ → ℕ
  start k = slice_index m.starts k

  -- a node that runs stands in the stage in which its outcome is set
  pub stands : (n : ℕ) → n < length p.nodes → Goes p lists s n → 0 < quanta_in m.placement.parts n (stage_of n)
  stands n within goes =
      let node = slice_get-item p.nodes n within in
      stands_where_set p m.places m.placement.parts m.starts c v (entries_at lists) state_at (run p lists s).outcomes stage_of n (stage_of n) node.0.what carries.units within
      ((carried_run p lists m c v s program entries state carries).sets n node.0 node.1 (goes node.0 node.1))

  -- ---- what is seen

  -- at age t, in the stages before number k, a node's writes are seen
  pub record IsSeen (k t n : ℕ) : Type 0 where
    pub before : stage_of n < k
    pub in_time : start (stage_of n) + 12 ≤ t

  -- a node that runs and writes field f
  pub record IsWriter (f n : ℕ) : Type 0 where
    pub goes : Goes p lists s n
    pub writes : Contains (writes_of p n) f

  -- at age t, of the nodes that run and write field f, those before node n are seen, and no other one
  pub record IsCut (k t f n : ℕ) : Type 0 where
    pub earlier : (j : ℕ) → IsWriter f j → j < n → IsSeen k t j
    pub later : (j : ℕ) → IsWriter f j → n ≤ j → IsSeen k t j → ⊥

  -- What the words hold before stage k: at a cut of a field, its value before that node.
  abbrev pub HoldAtCuts : ℕ → Ages → Type 0
  HoldAtCuts k word = (t f n : ℕ) → n ≤ length p.nodes → IsCut k t f n → held_by (word t) (lanes_of m.places f) ≡ slice_index (state_at n) f

  writer_stands : (f n : ℕ) → IsWriter f n → 0 < quanta_in m.placement.parts n (stage_of n)
  writer_stands f n w = stands n (writer_within p n f w.writes) w.goes

  -- of two writers of a field the later one stands in a later stage
  pub writers_order : (f a b : ℕ) → IsWriter f a → IsWriter f b → a < b → (stage_of a < stage_of b) × (start (stage_of a) + 3 ≤ start (stage_of b))
  writers_order f a b wa wb lt =
      action_order p lists m c v s program entries state carries a b (stage_of a) (stage_of b) f lt (writer_within p b f wb.writes) wa.goes wb.goes (writer_stands f a wa) (writer_stands f b wb)
      wa.writes (inr wb.writes)

  same_stage : (a b : ℕ) → a ≤ b → b ≤ a → stage_of a ≡ stage_of b
  same_stage a b ab ba = let e : a ≡ b = omega (arith, ab, ba) in ap stage_of e

  -- ---- what a node reads and writes

  -- a key or a tested field is read at the start, where the node stands and has no outcome yet
  pub key_cut : (k n f : ℕ) → n < length p.nodes → Goes p lists s n → 0 < quanta_in m.placement.parts n k → k ≤ stage_of n → Contains (keys_of p n) f → IsCut k (start k) f n
  key_cut k n f within goes some le key = record {
    earlier = λ j w lt.
        let o = match_order p lists m c v s program entries state carries j n (stage_of j) k f lt within w.goes goes (writer_stands f j w) some w.writes key in
        record { before = o.0; in_time = o.1 };
    later = λ j w ge seen.
        elim (cases_lt n j) [
          | inl lt ↦
              let o = reverse_order p lists m c v s program entries state carries n j k (stage_of j) f lt (writer_within p j f w.writes) goes w.goes some (writer_stands f j w) w.writes (inl key) in
              omega (arith, o, seen.before)
          | inr back ↦ let e = same_stage n j ge back in omega (arith, e, seen.before, le)
        ];
  }

  -- an operand is read 9 cycles behind the start
  pub operand_cut : (n f : ℕ) → n < length p.nodes → Goes p lists s n → Contains (reads_of p n) f → IsCut (stage_of n) (start (stage_of n) + 9) f n
  operand_cut n f within goes reads = record {
    earlier = λ j w lt.
        let o = action_order p lists m c v s program entries state carries j n (stage_of j) (stage_of n) f lt within w.goes goes (writer_stands f j w) (stands n within goes) w.writes (inl reads) in
        record { before = o.0; in_time = omega (arith, o.1) };
    later = λ j w ge seen.
        elim (cases_lt n j) [
          | inl lt ↦
              let o = reverse_order p lists m c v s program entries state carries n j (stage_of n) (stage_of j) f lt (writer_within p j f w.writes) goes w.goes (stands n within goes)
              (writer_stands f j w) w.writes (inr reads) in
              omega (arith, o, seen.before)
          | inr back ↦ let e = same_stage n j ge back in omega (arith, e, seen.before)
        ];
  }

  -- a field that a node writes has its value before the node from then on, until the node has written
  pub own_cut : (n f t : ℕ) → IsWriter f n → start (stage_of n) + 9 ≤ t → IsCut (stage_of n) t f n
  own_cut n f t own le = record {
    earlier = λ j w lt.
        let o = writers_order f j n w own lt in
        record { before = o.0; in_time = omega (arith, o.1, le) };
    later = λ j w ge seen.
        elim (cases_lt n j) [
          | inl lt ↦ let o = writers_order f n j own w lt in let behind = o.0 in omega (arith, behind, seen.before)
          | inr back ↦ let e = same_stage n j ge back in omega (arith, e, seen.before)
        ];
  }

  -- ---- from stage to stage

  -- the cut before a stage that no writer is set in, or whose writes aren't seen yet
  pub cut_before : (k t f n : ℕ) → ((j : ℕ) → IsWriter f j → stage_of j ≡ k → start k + 12 ≤ t → ⊥) → IsCut (k + 1) t f n → IsCut k t f n
  cut_before k t f n none cut = record {
    earlier = λ j w lt.
        let seen = cut.earlier j w lt in
        let before = seen.before in
        let time = seen.in_time in
        elim (cases_lt (stage_of j) k) [
          | inl less ↦ record { before = less; in_time = time }
          | inr le ↦ let e : stage_of j ≡ k = omega (arith, before, le) in absurd (none j w e (subst (λ i. start i + 12 ≤ t) e time))
        ];
    later = λ j w ge seen.
        let before = seen.before in
        cut.later j w ge (record { before = omega (arith, before); in_time = seen.in_time });
  }

  -- a writer that is set in the stage and seen stands before the cut
  pub own_before : (k t f n i : ℕ) → IsWriter f i → stage_of i ≡ k → start k + 12 ≤ t → IsCut (k + 1) t f n → i < n
  own_before k t f n i w e le cut =
      let seen : IsSeen (k + 1) t i = record { before = omega (arith, e); in_time = subst (λ j. start j + 12 ≤ t) (sym e) le } in
      elim (cases_lt i n) [
        | inl lt ↦ lt
        | inr ge ↦ absurd (cut.later i w ge seen)
      ]

  -- and no writer stands between it and the cut
  pub none_between : (k t f n i : ℕ) → IsWriter f i → stage_of i ≡ k → IsCut (k + 1) t f n → (j : ℕ) → IsWriter f j → i < j → j < n → ⊥
  none_between k t f n i own e cut j w lt less =
      omega (arith, (writers_order f i j own w lt).0, ((cut.earlier j w less).before), e)
