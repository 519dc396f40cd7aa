-- What a stage writes: behind it the lanes of a field hold, at each cut, the value that the field has there in the run, if they did before it.
use Rattle.std.proofs.Common.{◌≡◌, ℕ, zero, suc, ◌+◌, ◌-◌, ◌<◌, ◌≤◌, cond, List, [], ◌∷◌, Option, Some, None, length, refl, sym, ap, ◌∙◌, subst, ◌⊎◌, inl, inr, arith}
use Rattle.std.specs.Prelude.{All, Contains, nat_le, option_map, slice_index, unwrap_or}
use Rattle.std.proofs.lemmas.Bool.{cases_eq, cases_lt, le-leb, lt-leb}
use Rattle.std.proofs.lemmas.List.Elements.{All-contains}
use Rattle.std.specs.Option.{option_or}
use Rattle.rmt_bits.proofs.AllLaws.{All-flat_map}
use Rattle.rmt_bits.specs.Bits.{slice}
use Rattle.rmt_bits.specs.declared.lane.Lane.{Lane}
use Rattle.rmt_refine.specs.Types.{Program, Table, Config, Operation}
use Rattle.rmt_ast.specs.declared.entry.Entry.{Entry}
use Rattle.rmt_ast.specs.Control.{act_of, run}
use Rattle.rmt_ast.specs.EntryLists.{AreEntries}
use Rattle.rmt_ast.specs.Places.{lanes_of}
use Rattle.rmt_ast.specs.State.{IsState}
use Rattle.rmt_ast.specs.WellFormed.{IsProgram}
use Rattle.rmt_phv.specs.Places.{written_by, AreApart}
use Rattle.rmt_deps.specs.Edges.{of_action, read_by, reads_of, words_of_fields, writes_of}
use Rattle.rmt_config.specs.Life.{Ages, Running, Words, op_on, word_after, written}
use Rattle.rmt_refine.specs.declared.map.Map.{Map}
use Rattle.rmt_refine.specs.View.{View}
use Rattle.rmt_refine.specs.Carries.{CarriesIn}
use Rattle.rmt_refine.specs.Code.{assigned_lanes}
use Rattle.rmt_config.specs.Effects.{held_by, words_after}
use Rattle.rmt_refine.specs.Outcomes.{entries_at, run_before}
use Rattle.rmt_refine.proofs.CarriedLaws.{set_in}
use Rattle.rmt_refine.proofs.DoneLaws.{Acts, Runs, does_for, hit_at, lane_touched, read_listed, state_after, touches, written_listed}
use Rattle.rmt_refine.proofs.FieldLaws.{Agree, act_agree, act_other, action_run, args_run, kept_over}
use Rattle.rmt_refine.proofs.LaneLaws.{fields_apart, lane_stays, lanes_same}
use Rattle.rmt_config.proofs.HeldLaws.{SameIn, held_same}
use Rattle.rmt_refine.proofs.OrderLaws.{word_order}
use Rattle.rmt_refine.proofs.OutcomeLaws.{state_before}
use Rattle.rmt_refine.proofs.RankLaws.{compare}
use Rattle.rmt_refine.proofs.ReadLaws.{state_of_words, words_hold, words_state}
use Rattle.rmt_refine.proofs.RunningLaws.{Adds, RanBefore}
use Rattle.rmt_refine.proofs.SeenLaws.{HoldAtCuts, IsCut, IsWriter, cut_before, none_between, operand_cut, own_before, own_cut, stage_of, stands, start, table_of_writer, table_within, writer_within}
use Rattle.rmt_bits.proofs.MemberLaws.{Contains-first, Contains-later, Contains-split}
use Rattle.rmt_bits.proofs.OptionLaws.{option_or-none}
use Rattle.rmt_pack.proofs.FindLaws.{all_at}

-- ---- lists and options

-- whether a number is in a list
contains_or : (xs : List ℕ) (x : ℕ) → Contains xs x ⊎ (Contains xs x → ⊥)
contains_or [] x = inr (λ there. let lt = there.1 in omega (arith, lt))
contains_or (y ∷ ys) x = elim (cases_eq y x) [
  | inl e ↦ inl (subst (λ z. Contains (z ∷ ys) x) (sym e) (Contains-first x ys))
  | inr ne ↦ elim (contains_or ys x) [
    | inl later ↦ inl (Contains-later y ys x later)
    | inr none ↦ inr (λ there. elim (Contains-split y ys x there) [ inl e ↦ ne e | inr later ↦ none later ])
  ]
]

module _ (p : Program) (lists : List (List Entry)) (m : Map) (c : Config) (v : View) (s : List ℕ) (program : IsProgram p) (entries : AreEntries p lists) (state : IsState p s)
    (carries : CarriesIn p lists m c v) where
  abbrev at_node : ℕ → List ℕ
  at_node n = (run_before p lists s n).state

  abbrev ActsAt : ℕ → ℕ → Table → Type 0
  ActsAt = Acts p lists m c v s program entries state carries

  abbrev RunsAt : ℕ → ℕ → Running → Type 0
  RunsAt = Runs p lists m c v s program entries state carries

  abbrev stage_at : ℕ → ℕ
  stage_at = stage_of p lists m c v s program entries state carries

  abbrev start_at : ℕ → ℕ
  start_at = start p lists m c v s program entries state carries

  abbrev Writes : ℕ → ℕ → Type 0
  Writes = IsWriter p lists m c v s program entries state carries

  abbrev Cut : ℕ → ℕ → ℕ → ℕ → Type 0
  Cut = IsCut p lists m c v s program entries state carries

  abbrev HoldBefore : ℕ → Ages → Type 0
  HoldBefore = HoldAtCuts p lists m c v s program entries state carries

  -- the instructions of the nodes before number n that run in stage k, and what one more node adds
  abbrev pub Ran : ℕ → ℕ → List Running → Type 0
  Ran = RanBefore p m.places m.placement.parts m.starts c v (entries_at lists) at_node (run p lists s).outcomes (set_in p lists m c v s program entries state carries)

  abbrev AddsAt : ℕ → ℕ → List Running → List Running → Type 0
  AddsAt = Adds p m.places m.placement.parts m.starts c v (entries_at lists) at_node (run p lists s).outcomes (set_in p lists m c v s program entries state carries)

  abbrev Touches : ℕ → ℕ → Type 0
  Touches n w = Contains (words_of_fields m.places (writes_of p n)) w

  touched_by : (k n w : ℕ) (r : Running) (op : Operation) → RunsAt k n r → op_on w r.ops ≡ Some op → Touches n w
  touched_by k n w r op runs on =
      touches p lists m c v s program entries state carries n runs.table r (does_for p lists m c v s program entries state carries k n r runs) runs.acts.table_is w op on

  no_op : (o : Option Operation) → ((op : Operation) → o ≡ Some op → ⊥) → (old : Words) (held : ℕ) → option_map (written old held) o ≡ None
  no_op None none old held = refl
  no_op (Some op) none old held = absurd (none op refl)

  untouched : (k n w : ℕ) (r : Running) (old : Words) → RunsAt k n r → (Touches n w → ⊥) → option_map (written old r.held) (op_on w r.ops) ≡ None
  untouched k n w r old runs none = no_op (op_on w r.ops) (λ op on. none (touched_by k n w r op runs on)) old r.held

  -- ---- what a stage writes in a word

  -- nothing, where no node that acts touches it
  quiet : (k b : ℕ) (new : List Running) (w : ℕ) (old : Words) → Ran k b new → ((j : ℕ) (t : Table) → j < b → ActsAt k j t → Touches j w → ⊥) → word_after new old w ≡ None
  quiet k zero new w old ran none = ap (λ (rs : List Running). word_after rs old w) ran
  quiet k (suc b) new w old ran none =
      let rest : word_after ran.0 old w ≡ None = quiet k b ran.0 w old ran.1 (λ j t lt. none j t (omega (arith, lt))) in
      elim ran.2 [
        | inl same ↦ ap (λ (rs : List Running). word_after rs old w) same.0 ∙ rest
        | inr more ↦
            ap (λ (rs : List Running). word_after rs old w) more.1
            ∙ ap (λ o. option_or o (word_after ran.0 old w)) (untouched k b w more.0 old more.2 (none b more.2.table (omega arith) more.2.acts)) ∙ rest
      ]

  -- the nodes that act and touch a word are node i alone
  abbrev Only : ℕ → ℕ → ℕ → Type 0
  Only k i w = (j : ℕ) (t : Table) → ActsAt k j t → Touches j w → j ≡ i

  -- what node i's instruction writes, where it alone touches the word
  record Alone (k i : ℕ) (new : List Running) : Type 0 where
    r : Running
    runs : RunsAt k i r
    word : (w : ℕ) (old : Words) → Only k i w → word_after new old w ≡ option_map (written old r.held) (op_on w r.ops)

  alone_later : (k i b : ℕ) (old_rs new : List Running) → (b ≡ i → ⊥) → Alone k i old_rs → AddsAt k b old_rs new → Alone k i new
  alone_later k i b old_rs new ne a (inl same) = record {
    r = a.r;
    runs = a.runs;
    word = λ w old only. ap (λ (rs : List Running). word_after rs old w) same.0 ∙ a.word w old only;
  }
  alone_later k i b old_rs new ne a (inr more) = record {
    r = a.r;
    runs = a.runs;
    word = λ w old only.
        ap (λ (rs : List Running). word_after rs old w) more.1
        ∙ ap (λ o. option_or o (word_after old_rs old w)) (untouched k b w more.0 old more.2 (λ there. ne (only b more.2.table more.2.acts there)))
        ∙ a.word w old only;
  }

  alone_now : (k i : ℕ) (t : Table) (old_rs new : List Running) → ActsAt k i t → Ran k i old_rs → AddsAt k i old_rs new → Alone k i new
  alone_now k i t old_rs new acts ran (inl same) = absurd (same.1 t acts)
  alone_now k i t old_rs new acts ran (inr more) = record {
    r = more.0;
    runs = more.2;
    word = λ w old only.
        let own = option_map (written old more.0.held) (op_on w more.0.ops) in
        ap (λ (rs : List Running). word_after rs old w) more.1
        ∙ ap (option_or own) (quiet k i old_rs w old ran (λ j u lt does there. let e = only j u does there in omega (arith, e, lt))) ∙ option_or-none own;
  }

  -- a node that acts has an instruction that runs, and where it alone touches a word, that is what is written there
  alone : (k i b : ℕ) (t : Table) (new : List Running) → ActsAt k i t → i < b → Ran k b new → Alone k i new
  alone k i zero t new acts lt ran = absurd (omega (arith, lt))
  alone k i (suc b) t new acts lt ran = elim (cases_eq b i) [
    | inl e ↦
        let P : ℕ → Type 0 = λ j. Ran k j ran.0 in
        let Q : ℕ → Type 0 = λ j. AddsAt k j ran.0 new in
        alone_now k i t ran.0 new acts (subst P e ran.1) (subst Q e ran.2)
    | inr ne ↦ alone_later k i b ran.0 new ne (alone k i b t ran.0 acts (omega (arith, lt, ne)) ran.1) ran.2
  ]

  -- some node's instruction has the last operation on a word
  record Last (k : ℕ) (new : List Running) (old : Words) (w : ℕ) : Type 0 where
    i : ℕ
    r : Running
    runs : RunsAt k i r
    op : Operation
    on : op_on w r.ops ≡ Some op
    word : word_after new old w ≡ Some (written old r.held op)

  last_more : (k b w : ℕ) (old : Words) (rs : List Running) (r : Running) (o : Option Operation) → op_on w r.ops ≡ o → RunsAt k b r → (word_after rs old w ≡ None) ⊎ Last k rs old w
      → (word_after (r ∷ rs) old w ≡ None) ⊎ Last k (r ∷ rs) old w
  last_more k b w old rs r (Some op) on runs rest =
      inr (record { i = b; r = r; runs = runs; op = op; on = on; word = ap (λ o. option_or (option_map (written old r.held) o) (word_after rs old w)) on })
  last_more k b w old rs r None on runs (inl none) = inl (ap (λ o. option_or (option_map (written old r.held) o) (word_after rs old w)) on ∙ none)
  last_more k b w old rs r None on runs (inr last) =
      inr (record {
        i = last.i;
        r = last.r;
        runs = last.runs;
        op = last.op;
        on = last.on;
        word = ap (λ o. option_or (option_map (written old r.held) o) (word_after rs old w)) on ∙ last.word;
      })

  -- either nothing is written in a word, or what one instruction writes there
  last_one : (k b w : ℕ) (old : Words) (new : List Running) → Ran k b new → (word_after new old w ≡ None) ⊎ Last k new old w
  last_one k zero w old new ran = inl (ap (λ (rs : List Running). word_after rs old w) ran)
  last_one k (suc b) w old new ran =
      let P : List Running → Type 0 = λ rs. (word_after rs old w ≡ None) ⊎ Last k rs old w in
      elim ran.2 [
        | inl same ↦ subst P (sym same.0) (last_one k b w old ran.0 ran.1)
        | inr more ↦ subst P (sym more.1) (last_more k b w old ran.0 more.0 (op_on w more.0.ops) refl more.2 (last_one k b w old ran.0 ran.1))
      ]

  -- ---- which node writes a field in a stage

  -- node i acts in a stage and writes a field
  record ActingWriter (k f : ℕ) : Type 0 where
    i : ℕ
    table : Table
    acts : ActsAt k i table
    writes : Contains (writes_of p i) f

  -- no node before number b does so
  abbrev NoWriter : ℕ → ℕ → ℕ → Type 0
  NoWriter k f b = (j : ℕ) (t : Table) → j < b → ActsAt k j t → Contains (writes_of p j) f → ⊥

  none_more : (k f b : ℕ) → NoWriter k f b → ((t : Table) → ActsAt k b t → Contains (writes_of p b) f → ⊥) → NoWriter k f (suc b)
  none_more k f b none here j t lt acts there = elim (cases_lt j b) [
    | inl less ↦ none j t less acts there
    | inr le ↦
        let e : j ≡ b = omega (arith, lt, le) in
        let P : ℕ → Type 0 = λ i. ActsAt k i t in
        here t (subst P e acts) (subst (λ i. Contains (writes_of p i) f) e there)
  ]

  -- whether some node does is told by the instructions that run
  writer_in : (k f b : ℕ) (new : List Running) → Ran k b new → ActingWriter k f ⊎ NoWriter k f b
  writer_in k f zero new ran = inr (λ j t lt. absurd (omega (arith, lt)))
  writer_in k f (suc b) new ran = elim (writer_in k f b ran.0 ran.1) [
    | inl found ↦ inl found
    | inr none ↦ elim ran.2 [
      | inl same ↦ inr (none_more k f b none (λ t acts there. same.1 t acts))
      | inr more ↦ elim (contains_or (writes_of p b) f) [
        | inl there ↦ inl (record { i = b; table = more.2.table; acts = more.2.acts; writes = there })
        | inr absent ↦ inr (none_more k f b none (λ t acts there. absent there))
      ]
    ]
  ]

  -- of the nodes that act in a stage one alone touches a word
  one_toucher : (k i w : ℕ) (t : Table) → ActsAt k i t → Touches i w → Only k i w
  one_toucher k i w t acts there j u acts_j there_j =
      let within_i = table_within p i t acts.table_is in
      let within_j = table_within p j u acts_j.table_is in
      let here_i : stage_at i ≡ k = acts.set_here in
      let here_j : stage_at j ≡ k = acts_j.set_here in
      let stands_i = stands p lists m c v s program entries state carries i within_i acts.goes in
      let stands_j = stands p lists m c v s program entries state carries j within_j acts_j.goes in
      elim (compare j i) [
        | inl lt ↦
            let o = word_order p lists m c v s program entries state carries j i (stage_at j) (stage_at i) w lt within_i acts_j.goes acts.goes stands_j stands_i there_j there in
            absurd (omega (arith, o.0, here_i, here_j))
        | inr (inl gt) ↦
            let o = word_order p lists m c v s program entries state carries i j (stage_at i) (stage_at j) w gt within_j acts.goes acts_j.goes stands_i stands_j there there_j in
            absurd (omega (arith, o.0, here_i, here_j))
        | inr (inr e) ↦ e
      ]

  -- ---- a field that a node writes in the stage

  -- the words seen behind a stage: what it writes, from the words that it reads, over those that stand
  abbrev pub over : List Running → Words → Words → Words
  over running read words w = unwrap_or (word_after running read w) (words w)

  -- an action leaves the same in a field of two states that agree there and on what it reads
  same_left : (action : ℕ) (args x y : List ℕ) (f : ℕ) → Agree (Contains (of_action p read_by action)) x y → slice_index x f ≡ slice_index y f
      → slice_index (act_of p action args x) f ≡ slice_index (act_of p action args y) f
  same_left action args x y f agree e = elim (contains_or (of_action p written_by action) f) [
    | inl there ↦ act_agree p action args x y agree f there
    | inr none ↦ act_other p action args x f none ∙ e ∙ sym (act_other p action args y f none)
  ]

  -- what node i's instruction leaves in a field, from words that hold that field and those that the node reads
  left_in : (k i f : ℕ) (r : Running) (words : Words) → RunsAt k i r → held_by words (lanes_of m.places f) ≡ slice_index (at_node i) f
      → ((g : ℕ) → Contains (reads_of p i) g → held_by words (lanes_of m.places g) ≡ slice_index (at_node i) g)
      → held_by (words_after r.ops r.held words) (lanes_of m.places f) ≡ slice_index (at_node (i + 1)) f
  left_in k i f r words runs own reads =
      let t = runs.table in
      let hit = hit_at p lists m c v s program entries state carries i t in
      let x = state_of_words p m.places words in
      let is = words_state p m.places words carries.places.apart.cut in
      let hold = words_hold p m.places words carries.places.apart.cut in
      let agree : Agree (Contains (of_action p read_by (action_run t hit))) x (at_node i) = record {
        long = is.one_each ∙ sym (state_before p lists s i program entries state).one_each;
        same = λ g there. sym (hold g) ∙ reads g (read_listed p lists m c v s program entries state carries i t g runs.acts.table_is there);
      } in
      (does_for p lists m c v s program entries state carries k i r runs).acts x words is hold f
      ∙ same_left (action_run t hit) (args_run t hit) x (at_node i) f agree (sym (hold f) ∙ own)
      ∙ ap (λ y. slice_index y f) (sym (state_after p lists m c v s program entries state carries k i t runs.acts))

  either_lane : (o : Option ℕ) (x y low len : ℕ) → slice x low len ≡ slice y low len → slice (unwrap_or o x) low len ≡ slice (unwrap_or o y) low len
  either_lane None x y low len e = e
  either_lane (Some z) x y low len e = refl

  -- a field keeps what node i leaves in it up to a later node, where no node between writes it
  kept_from : (i n f : ℕ) → i < n → n ≤ length p.nodes → ((j : ℕ) → i < j → j < n → Writes f j → ⊥) → slice_index (at_node (i + 1)) f ≡ slice_index (at_node n) f
  kept_from i n f lt within none =
      let e : i + 1 + (n - (i + 1)) ≡ n = omega (arith, lt) in
      sym (kept_over p lists s f program entries (n - (i + 1)) (i + 1) (omega (arith, e, within))
      (λ j low high goes writes. none j (omega (arith, low)) (omega (arith, high, e)) (record { goes = goes; writes = writes })))
      ∙ ap (λ q. slice_index (at_node q) f) e

  -- Before the stage both the words that are read and those that stand hold the field as it is before node i, which then writes it alone.
  written_in : (k t f n : ℕ) (word : Ages) (running : List Running) → HoldBefore k word → Ran k (length p.nodes) running → start_at k + 12 ≤ t → n ≤ length p.nodes → Cut (k + 1) t f n
      → ActingWriter k f → held_by (over running (word (start_at k + 9)) (word t)) (lanes_of m.places f) ≡ slice_index (at_node n) f
  written_in k t f n word running holds ran late within cut w =
      let i = w.i in
      let ls = lanes_of m.places f in
      let old = word (start_at k + 9) in
      let own : Writes f i = record { goes = w.acts.goes; writes = w.writes } in
      let here : stage_at i ≡ k = w.acts.set_here in
      let lt : i < length p.nodes = writer_within p i f w.writes in
      let one = alone k i (length p.nodes) w.table running w.acts lt ran in
      let own_at : (u : ℕ) → start_at k + 9 ≤ u → Cut k u f i =
      subst (λ q. (u : ℕ) → start_at q + 9 ≤ u → Cut q u f i) here (λ u le. own_cut p lists m c v s program entries state carries i f u own le) in
      let read_at : (g : ℕ) → Contains (reads_of p i) g → Cut k (start_at k + 9) g i =
      λ g reads. subst (λ q. Cut q (start_at q + 9) g i) here (operand_cut p lists m c v s program entries state carries i g lt own.goes reads) in
      let held_old = holds (start_at k + 9) f i (omega (arith, lt)) (own_at (start_at k + 9) (omega arith)) in
      let same = lanes_same (word t) old ls ((holds t f i (omega (arith, lt)) (own_at t (omega (arith, late)))) ∙ sym held_old) in
      held_same (over running old (word t)) (words_after one.r.ops one.r.held old) ls
      (all_at (SameIn (over running old (word t)) (words_after one.r.ops one.r.held old)) ls (λ l in_l.
      let only = one_toucher k i l.word w.table w.acts (lane_touched m.places (writes_of p i) f l w.writes in_l) in
      ap (λ o. slice (unwrap_or o (word t l.word)) l.low l.len) (one.word l.word old only)
      ∙ either_lane (option_map (written old one.r.held) (op_on l.word one.r.ops)) (word t l.word) (old l.word) l.low l.len (All-contains (SameIn (word t) old) ls l same in_l)))
      ∙ left_in k i f one.r old one.runs held_old (λ g reads. holds (start_at k + 9) g i (omega (arith, lt)) (read_at g reads))
      ∙ kept_from i n f (own_before p lists m c v s program entries state carries k t f n i own here late cut) within
      (λ j low high wj. none_between p lists m c v s program entries state carries k t f n i own here cut j wj low high)

  -- ---- a field that no node writes in the stage

  -- where an instruction runs on a word with bits of a field, the writers of the field that are seen at all are seen when it reads
  cut_read : (k t f n i : ℕ) (table : Table) (l : Lane) → start_at k + 12 ≤ t → Cut k t f n → ActsAt k i table → Touches i l.word → Contains (lanes_of m.places f) l → Cut k (start_at k + 9) f n
  cut_read k t f n i table l late cut acts there in_l =
      let here : stage_at i ≡ k = acts.set_here in
      let within_i = table_within p i table acts.table_is in
      let stands_i = stands p lists m c v s program entries state carries i within_i acts.goes in
      record {
        earlier = λ j w lt.
            let before = (cut.earlier j w lt).before in
            let within_j = writer_within p j f w.writes in
            let stands_j = stands p lists m c v s program entries state carries j within_j w.goes in
            let there_j = lane_touched m.places (writes_of p j) f l w.writes in_l in
            elim (compare j i) [
              | inl less ↦
                  let o = word_order p lists m c v s program entries state carries j i (stage_at j) (stage_at i) l.word less within_i w.goes acts.goes stands_j stands_i there_j there in
                  let far = subst (λ q. start_at (stage_at j) + 3 ≤ start_at q) here o.1 in
                  record { before = before; in_time = omega (arith, far) }
              | inr (inl gt) ↦
                  let o = word_order p lists m c v s program entries state carries i j (stage_at i) (stage_at j) l.word gt within_j acts.goes w.goes stands_i stands_j there there_j in
                  absurd (omega (arith, o.0, here, before))
              | inr (inr e) ↦ let same : stage_at j ≡ stage_at i = ap stage_at e in absurd (omega (arith, same, here, before))
            ];
        later = λ j w ge seen.
            cut.later j w ge (record { before = seen.before; in_time = omega (arith, seen.in_time, late) });
      }

  -- the lanes that an instruction changes stand apart from those of a field that its node doesn't write
  apart_from : (k f i : ℕ) (r : Running) (l : Lane) (runs : RunsAt k i r) → NoWriter k f (length p.nodes) → Contains (lanes_of m.places f) l
      → All (AreApart l) (assigned_lanes p m.places (action_run runs.table (hit_at p lists m c v s program entries state carries i runs.table)))
  apart_from k f i r l runs none in_l =
      let t = runs.table in
      let fields = of_action p written_by (action_run t (hit_at p lists m c v s program entries state carries i t)) in
      All-flat_map (AreApart l) (lanes_of m.places) fields
      (all_at (λ g. All (AreApart l) (lanes_of m.places g)) fields (λ g in_g.
      let listed = written_listed p lists m c v s program entries state carries i t g runs.acts.table_is in_g in
      let ne : f ≡ g → ⊥ = λ e. none i t (table_within p i t runs.acts.table_is) runs.acts (subst (Contains (writes_of p i)) (sym e) listed) in
      all_at (AreApart l) (lanes_of m.places g) (λ x in_x. fields_apart m.places f g l x carries.places.apart.no_overlap ne in_l in_x)))

  -- so an instruction on a word with a lane of the field writes that lane as it stands
  lane_other : (k t f n : ℕ) (l : Lane) (word : Ages) (running : List Running) → HoldBefore k word → start_at k + 12 ≤ t → n ≤ length p.nodes → Cut k t f n
      → NoWriter k f (length p.nodes) → Contains (lanes_of m.places f) l
      → (word_after running (word (start_at k + 9)) l.word ≡ None) ⊎ Last k running (word (start_at k + 9)) l.word
      → SameIn (over running (word (start_at k + 9)) (word t)) (word t) l
  lane_other k t f n l word running holds late within cut none in_l (inl no_op) = ap (λ o. slice (unwrap_or o (word t l.word)) l.low l.len) no_op
  lane_other k t f n l word running holds late within cut none in_l (inr last) =
      let ls = lanes_of m.places f in
      let old = word (start_at k + 9) in
      let r = last.r in
      let there = touched_by k last.i l.word r last.op last.runs last.on in
      let held_old = holds (start_at k + 9) f n within (cut_read k t f n last.i last.runs.table l late cut last.runs.acts there in_l) in
      let does = does_for p lists m c v s program entries state carries k last.i r last.runs in
      let hit = hit_at p lists m c v s program entries state carries last.i last.runs.table in
      ap (λ o. slice (unwrap_or o (word t l.word)) l.low l.len) last.word
      ∙ sym (ap (λ o. slice (unwrap_or (option_map (written old r.held) o) (old l.word)) l.low l.len) last.on)
      ∙ lane_stays l (assigned_lanes p m.places (action_run last.runs.table hit)) r.ops r.held old (apart_from k f last.i r l last.runs none in_l) does.others
      ∙ All-contains (SameIn old (word t)) ls l (lanes_same old (word t) ls (held_old ∙ sym (holds t f n within cut))) in_l

  -- A field that no node writes in the stage stays as it stands.
  other_in : (k t f n : ℕ) (word : Ages) (running : List Running) → HoldBefore k word → Ran k (length p.nodes) running → start_at k + 12 ≤ t → n ≤ length p.nodes → Cut (k + 1) t f n
      → NoWriter k f (length p.nodes) → held_by (over running (word (start_at k + 9)) (word t)) (lanes_of m.places f) ≡ slice_index (at_node n) f
  other_in k t f n word running holds ran late within cut none =
      let ls = lanes_of m.places f in
      let old = word (start_at k + 9) in
      let no_other : (j : ℕ) → Writes f j → stage_at j ≡ k → start_at k + 12 ≤ t → ⊥ =
      λ j w e le.
      let table = table_of_writer p j f w.writes in
      none j table.0 (writer_within p j f w.writes) (record { table_is = table.1; set_here = e; goes = w.goes }) w.writes in
      let cut_now = cut_before p lists m c v s program entries state carries k t f n no_other cut in
      held_same (over running old (word t)) (word t) ls
      (all_at (SameIn (over running old (word t)) (word t)) ls
      (λ l in_l. lane_other k t f n l word running holds late within cut_now none in_l (last_one k (length p.nodes) l.word old running ran)))
      ∙ holds t f n within cut_now

  -- ---- behind the stage

  -- the words at each age behind a stage with that start
  abbrev pub behind : ℕ → List Running → Ages → Ages
  behind begin running word age w = cond (nat_le (begin + 12) age) (over running (word (begin + 9)) (word age) w) (word age w)

  -- So the words hold the fields behind the stage too.
  pub holds_behind : (k : ℕ) (word : Ages) (running : List Running) → HoldBefore k word → Ran k (length p.nodes) running → HoldBefore (k + 1) (behind (start_at k) running word)
  holds_behind k word running holds ran t f n within cut = elim (cases_lt t (start_at k + 12)) [
    | inl early ↦
        ap (λ b. held_by (λ w. cond b (over running (word (start_at k + 9)) (word t) w) (word t w)) (lanes_of m.places f)) (lt-leb (start_at k + 12) t early)
        ∙ holds t f n within (cut_before p lists m c v s program entries state carries k t f n (λ j w e late. omega (arith, early, late)) cut)
    | inr late ↦
        ap (λ b. held_by (λ w. cond b (over running (word (start_at k + 9)) (word t) w) (word t w)) (lanes_of m.places f)) (le-leb (start_at k + 12) t late)
        ∙ elim (writer_in k f (length p.nodes) running ran) [
          | inl w ↦ written_in k t f n word running holds ran late within cut w
          | inr none ↦ other_in k t f n word running holds ran late within cut none
        ]
  ]
