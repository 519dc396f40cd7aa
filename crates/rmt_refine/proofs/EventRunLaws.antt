-- Where a configuration carries a program with its entries, and has their names, each run of packets and commits answers and counts as the program does.
use Rattle.std.proofs.Common.{◌≡◌, ℕ, ◌+◌, ◌==◌, true, List, [], ◌∷◌, ◌++◌, map, Option, Some, All, Contains, refl, sym, ap, subst, ◌∙◌, inl, inr, arith}
use Rattle.std.specs.Prelude.{IfSome}
use Rattle.std.specs.List.{AllZip, flat_map, list_any}
use Rattle.std.specs.List.Sorted.{IsStrictlyIncreasing}
use Rattle.std.proofs.lemmas.Bool.{eq-eqb}
use Rattle.std.proofs.lemmas.List.Elements.{All-cons, All-contains, All-nil, All-contains_itself, All-head, All-tail, All-weaker, Contains-append_cases, Contains-append_left, Contains-append_right}
use Rattle.rmt_bits.specs.Counts.{Hit, count_for, counts, in_order}
use Rattle.rmt_bits.specs.Packet.{Packet}
use Rattle.rmt_bits.proofs.MemberLaws.{Contains-flat_map, Contains-later, from_flat_map, list_any-Contains}
use Rattle.rmt_ast.specs.declared.entry.Entry.{Entry}
use Rattle.rmt_ast.specs.declared.names.Names.{Names}
use Rattle.rmt_ast.specs.Answers.{answer_of, counted_numbers, hits_of}
use Rattle.rmt_ast.specs.Changes.{at_first}
use Rattle.rmt_ast.specs.EntryLists.{AreEntries}
use Rattle.rmt_ast.specs.Events.{Event, Met, lists_from, met_from, Arrives, Commits}
use Rattle.rmt_ast.specs.Changes.{Installed, committed}
use Rattle.rmt_ast.specs.WellFormed.{IsProgram}
use Rattle.rmt_refine.specs.Types.{Config, Program, Stage}
use Rattle.rmt_config.specs.CellForm.{StageHolds}
use Rattle.rmt_config.specs.ChipRun.{counted_numbers as chip_numbers}
use Rattle.rmt_config.specs.Commits.{RunState, RunsTo, all_entries}
use Rattle.rmt_config.specs.Form.{Formed, visible_with}
use Rattle.rmt_config.specs.Limits.{IsWithinLimits}
use Rattle.rmt_config.specs.RunCells.{own_cells}
use Rattle.rmt_config.specs.RunInputs.{Input, numbers_brought}
use Rattle.rmt_config.proofs.CountLaws.{EndBefore-rising, hit_from}
use Rattle.rmt_refine.specs.declared.map.Map.{Map}
use Rattle.rmt_refine.specs.Carries.{Carries}
use Rattle.rmt_refine.specs.Commits.{AreNamesOf}
use Rattle.rmt_refine.specs.EventRuns.{AnswersEvents, EventsAreAnswered}
use Rattle.rmt_refine.specs.Fit.{AreFit}
use Rattle.rmt_refine.specs.Named.{NamesCarried}
use Rattle.rmt_refine.specs.RunsAs.{told_by_answer, told_by_outcome}
use Rattle.rmt_refine.proofs.CellNumberLaws.{all_have, all_told}
use Rattle.rmt_refine.proofs.FitLaws.{entries_ever, first_below, one_ever, stand_first}
use Rattle.rmt_refine.proofs.HitNumberLaws.{IsNumber, hits_are_numbers}
use Rattle.rmt_refine.proofs.InputLaws.{hits_are, hits_at, outcome_at, outcomes_are, packets_at}
use Rattle.rmt_refine.proofs.ListLaws.{SameFor, map_same, outcome_same, same_append, same_count}
use Rattle.rmt_refine.proofs.MetLaws.{IsAnswered, IsGood, all_met, runs_leave, start_good}
use Rattle.rmt_refine.proofs.NamedLaws.{names_tell}
use Rattle.rmt_refine.proofs.RisingLaws.{order_member, same_order}
use Rattle.rmt_refine.proofs.RunNumberLaws.{brought_ever, counted_entry, counted_there, ever_brought}

-- ---- what packets meet

-- the entries that packets meet are among those of the run
met_stood : (s : Installed) (events : List Event) → All (λ (met : Met). Contains (lists_from s events) met.lists) (met_from s events)
met_stood s [] = All-nil (λ (met : Met). Contains (lists_from s []) met.lists)
met_stood s ((Arrives packet) ∷ events) =
    All-cons (λ (met : Met). Contains (lists_from s events) met.lists) (record { lists = s.lists; packet = packet }) (met_from s events) (stand_first s events) (met_stood s events)
met_stood s ((Commits changes) ∷ events) =
    All-weaker (λ (met : Met). Contains (lists_from (committed s changes) events) met.lists) (λ (met : Met). Contains (s.lists ∷ lists_from (committed s changes) events) met.lists)
    (λ met there. Contains-later s.lists (lists_from (committed s changes) events) met.lists there) (met_from (committed s changes) events) (met_stood (committed s changes) events)

module _ (p : Program) (c : Config) (whole : List Input) where
  -- ---- answers

  told_all : (xs : List (ℕ × Packet)) (ms : List Met) → AllZip (IsAnswered p c whole) xs ms
      → map told_by_outcome (map (outcome_at c whole) xs) ≡ map told_by_answer (map (λ (met : Met). answer_of p met.lists met.packet) ms)
  told_all [] [] all = refl
  told_all [] (y ∷ ms) all = absurd all
  told_all (x ∷ xs) [] all = absurd all
  told_all (x ∷ xs) (met ∷ ms) all =
      let first = all.0 in
      let same : told_by_outcome (outcome_at c whole x) ≡ told_by_answer (answer_of p met.lists met.packet) =
      (λ i. (first.answers.verdict i, first.answers.bytes i)) ∙ ap (λ (y : Packet). told_by_answer (answer_of p met.lists y)) first.packet in
      ap (λ y. y ∷ map told_by_outcome (map (outcome_at c whole) xs)) same ∙ ap (λ ys. told_by_answer (answer_of p met.lists met.packet) ∷ ys) (told_all xs ms all.1)

  -- ---- hits

  -- a number that a packet hit is counted
  abbrev IsCountedIfHit : ℕ → Met → Type 0
  IsCountedIfHit n met = Contains (answer_of p met.lists met.packet).hits n → list_any (λ m. m == n) (counted_numbers p p.nodes met.lists) ≡ true

  -- the hits that the chip counts of a packet
  abbrev chip_hits : ℕ × Packet → List Hit
  chip_hits x = map (hit_from x.1) (outcome_at c whole x).counted

  abbrev plain_hits : Met → List Hit
  plain_hits met = hits_of p met.lists met.packet

  one_same : (n : ℕ) (x : ℕ × Packet) (met : Met) → IsAnswered p c whole x met → IsCountedIfHit n met → SameFor n (chip_hits x) (plain_hits met)
  one_same n x met answered counted =
      subst (λ (y : Packet). SameFor n (chip_hits x) (plain_hits (record { lists = met.lists; packet = y }))) answered.packet
      (outcome_same p met.lists n x.1 (outcome_at c whole x) answered.answers
      (λ there. counted (subst (λ (y : Packet). Contains (answer_of p met.lists y).hits n) answered.packet there)))

  all_same : (n : ℕ) (xs : List (ℕ × Packet)) (ms : List Met) → AllZip (IsAnswered p c whole) xs ms → All (IsCountedIfHit n) ms → SameFor n (flat_map chip_hits xs) (flat_map plain_hits ms)
  all_same n [] [] all counted = record { packets = refl; bytes = refl }
  all_same n [] (y ∷ ms) all counted = absurd all
  all_same n (x ∷ xs) [] all counted = absurd all
  all_same n (x ∷ xs) (met ∷ ms) all counted =
      same_append n (chip_hits x) (plain_hits met) (flat_map chip_hits xs) (flat_map plain_hits ms) (one_same n x met all.0 (All-head (IsCountedIfHit n) met ms counted))
      (all_same n xs ms all.1 (All-tail (IsCountedIfHit n) met ms counted))

module _ (p : Program) (lists : List (List Entry)) (m : Map) (c : Config) (names : Names) (events : List Event) (whole : List Input)
    (program : IsProgram p) (entries : AreEntries p lists) (carries : Carries p lists m c) (formed : Formed c) (limits : IsWithinLimits c) (named : c.names ≡ Some names) (naming : AreNamesOf p names)
    (fit : AreFit p (at_first lists) events) (runs : RunsTo c names lists events whole) where
  abbrev begin : RunState
  begin = record { cells = own_cells c; entries = at_first lists; cycle = 0; older_gone = 0; all_gone = 0 }

  abbrev met : List Met
  met = met_from (at_first lists) events

  abbrev ever : List ℕ
  ever = flat_map (counted_numbers p p.nodes) (lists_from (at_first lists) events)

  memory : All (StageHolds 3) c.stages
  memory = subst (λ (o : Option Names). All (StageHolds (visible_with o)) c.stages) named formed.whole.memory

  good : IsGood p c begin
  good = start_good p m c names program limits named naming lists carries entries memory

  answered : AllZip (IsAnswered p c whole) (packets_at 0 whole) met
  answered = all_met p m c names program limits named naming lists entries formed events fit whole runs carries

  -- a number that is counted at some time is counted of each packet that hits its entry
  hit_counted : (n : ℕ) → Contains ever n → (x : Met) → Contains met x → IsCountedIfHit p c whole n x
  hit_counted n there x in_met hit =
      let below = first_below lists in
      let ls = from_flat_map (counted_numbers p p.nodes) (lists_from (at_first lists) events) n there in
      let e = counted_entry p ls.0 n (entries_ever p program (at_first lists) events entries below fit ls.0 ls.1) ls.2 in
      let stood = All-contains (λ (y : Met). Contains (lists_from (at_first lists) events) y.lists) met x (met_stood (at_first lists) events) in_met in
      let f = All-contains (IsNumber p x.lists) (answer_of p x.lists x.packet).hits n (hits_are_numbers p x.lists x.packet) hit in
      let same = one_ever p program (at_first lists) events entries below fit ls.0 x.lists ls.1 stood e.entry f.0 e.there f.1 (e.number_is ∙ sym f.2) in
      let own = subst (λ (y : Entry). Contains (all_entries x.lists) y) (sym same) f.1 in
      let counted = counted_there p x.lists e.entry e.table (entries_ever p program (at_first lists) events entries below fit x.lists stood) own e.table_is e.counted in
      list_any-Contains (λ k. k == n) (counted_numbers p p.nodes x.lists) n (subst (Contains (counted_numbers p p.nodes x.lists)) e.number_is counted) (eq-eqb n n refl)

  -- both count the same numbers
  same_numbers : in_order (chip_numbers c ++ flat_map (numbers_brought c) whole) ≡ in_order ever
  same_numbers =
      same_order (chip_numbers c ++ flat_map (numbers_brought c) whole) ever
      (λ n there. elim (Contains-append_cases (chip_numbers c) (flat_map (numbers_brought c) whole) n there) [
        | inl own ↦ Contains-flat_map (counted_numbers p p.nodes) (lists_from (at_first lists) events) lists n (stand_first (at_first lists) events) (all_told p lists m c entries carries n own)
        | inr brought ↦ brought_ever p m c names program limits named naming lists carries begin events whole runs good fit n brought
      ])
      (λ n there. elim (ever_brought p m c names program limits named naming lists carries begin events whole runs good fit n there) [
        | inl own ↦ Contains-append_left (chip_numbers c) (flat_map (numbers_brought c) whole) n (all_have p lists m c entries carries n own)
        | inr brought ↦ Contains-append_right (chip_numbers c) (flat_map (numbers_brought c) whole) n brought
      ])

  pub run_answers : AnswersEvents p lists c events whole
  run_answers =
      let leave = runs_leave c names begin events whole runs (omega arith) in
      let rising : IsStrictlyIncreasing (map (λ (s : Stage). s.start) c.stages) =
      subst IsStrictlyIncreasing (sym carries.units.starts_are) (λ k lt. carries.edges.distances.rise k (k + 1) (omega arith) lt) in
      let all_end = EndBefore-rising c.stages rising in
      let ours = flat_map (hits_at c whole all_end) (packets_at 0 whole) in
      let theirs = flat_map (λ (x : Met). hits_of p x.lists x.packet) met in
      record {
        answers = ap (map told_by_outcome) (outcomes_are c whole leave) ∙ told_all p c whole (packets_at 0 whole) met answered;
        counters = ap (λ hits. counts (chip_numbers c ++ flat_map (numbers_brought c) whole) hits) (hits_are c whole all_end 0 whole leave)
            ∙ ap (map (count_for ours)) same_numbers
            ∙ map_same (count_for ours) (count_for theirs) (in_order ever)
            (λ n there. same_count n ours theirs
            (all_same p c whole n (packets_at 0 whole) met answered
            (All-weaker (Contains met) (IsCountedIfHit p c whole n) (λ x in_met. hit_counted n (order_member ever n there) x in_met) met (All-contains_itself met))));
      }

pub events_answered : EventsAreAnswered
events_answered p lists m c names events inputs program entries carries formed limits named fit runs =
    let own : NamesCarried p lists c names = subst (λ (o : Option Names). IfSome o (NamesCarried p lists c)) named carries.names in
    run_answers p lists m c names events inputs program entries carries formed limits named (subst (AreNamesOf p) (sym own.names_are) (names_tell p lists program)) fit runs
