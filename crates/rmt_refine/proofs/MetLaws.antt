-- Each packet of a run of packets and commits becomes what the program answers with the entries that just the commits before it leave.
use Rattle.std.proofs.Common.{◌≡◌, ℕ, ◌+◌, ◌-◌, ◌<◌, ◌≤◌, Bool, true, List, [], ◌∷◌, ◌++◌, append_assoc, fold, length, take, Option, Some, None, All, Contains, refl, sym, ap, subst, ◌∙◌, arith}
use Rattle.std.specs.Prelude.{option_map, slice_get, unwrap_or}
use Rattle.std.specs.List.{AllZip}
use Rattle.std.proofs.Math.Seq.{take-append_seam}
use Rattle.std.proofs.lemmas.List.{length-append, length-replicate}
use Rattle.std.proofs.lemmas.List.Elements.{All-contains}
use Rattle.std.proofs.lemmas.List.Sums.{fold-append}
use Rattle.rmt_bits.proofs.ListLaws.{slice_get-end}
use Rattle.rmt_bits.proofs.MemberLaws.{Contains-map}
use Rattle.rmt_bits.specs.Packet.{IsPacket, Packet}
use Rattle.rmt_ast.specs.declared.entry.Entry.{Entry}
use Rattle.rmt_ast.specs.declared.names.Names.{Names}
use Rattle.rmt_ast.specs.Answers.{answer_of}
use Rattle.rmt_ast.specs.Changes.{Change, Installed, at_first, committed}
use Rattle.rmt_ast.specs.EntryLists.{AreEntries}
use Rattle.rmt_ast.specs.Events.{Event, Met, met_from}
use Rattle.rmt_ast.specs.WellFormed.{IsProgram}
use Rattle.rmt_refine.specs.Types.{Config, Program, SlotUnit}
use Rattle.rmt_config.specs.declared.cell_write.CellWrite.{CellWrite}
use Rattle.rmt_config.specs.Cells.{cells_in, is_occupied}
use Rattle.rmt_config.specs.CellForm.{StageHolds}
use Rattle.rmt_config.specs.ChipRun.{latency_of, outcome_of}
use Rattle.rmt_config.specs.Commits.{AreFilled, IsCell, Makes, Placed, RunState, RunsFrom, RunsTo, all_entries, arrives, behind_commit, behind_packet, commits, ends, filled_content, moves, placed_after, placed_at, settled_content, settled_number, stays, waits}
use Rattle.rmt_config.specs.Form.{Formed, visible_with}
use Rattle.rmt_config.specs.Limits.{IsWithinLimits}
use Rattle.rmt_config.specs.RunCells.{RunCells, own_cells, slot_at, with_version, with_write}
use Rattle.rmt_config.specs.RunCells as run
use Rattle.rmt_config.specs.RunInputs.{Enters, Idle, Input, Turns, after_input, cells_at, look_from}
use Rattle.rmt_refine.specs.declared.map.CellOf.{CellOf}
use Rattle.rmt_refine.specs.declared.map.Map.{Map}
use Rattle.rmt_refine.specs.View.{View, look_in}
use Rattle.rmt_refine.specs.Carries.{Carries, CarriesIn}
use Rattle.rmt_refine.specs.Cells.{CellsCarried}
use Rattle.rmt_refine.specs.Commits.{AreNamesOf, seen_by}
use Rattle.rmt_refine.specs.Fit.{AreFit, AreFitChanges}
use Rattle.rmt_refine.specs.Refined.{AnswersAs}
use Rattle.rmt_refine.proofs.FilledLaws.{filled_carried}
use Rattle.rmt_refine.proofs.FitLaws.{FollowOn, commit_follows, first_below, keep_entries}
use Rattle.rmt_refine.proofs.InputLaws.{AllLeave, commit_leave, commit_packets, idle_leave, idle_packets, outcome_at, packets_at}
use Rattle.rmt_refine.proofs.LeftLaws.{left, not_filled}
use Rattle.rmt_refine.proofs.KeptLaws.{entries_kept}
use Rattle.rmt_refine.proofs.OneStateLaws.{after_changing, changing, length_changing, one_state, same_turned, version_made}
use Rattle.rmt_refine.proofs.PartLaws.{some_and}
use Rattle.rmt_pack.proofs.PlacedLaws.{each_has_its_room}
use Rattle.rmt_refine.proofs.RefinedLaws.{one_packet}
use Rattle.rmt_refine.proofs.SameCellLaws.{SameCells, look_same, same_itself}
use Rattle.rmt_refine.proofs.StandLaws.{placed_spot}
use Rattle.rmt_refine.proofs.StartLaws.{look_shown, own_used, start_carried}

-- ---- lists of inputs

replaced : {X : Type 0} (xs ys zs whole : List X) → whole ≡ xs ++ (ys ++ zs) → whole ≡ (xs ++ ys) ++ zs
replaced xs ys zs whole e = e ∙ sym (append_assoc xs ys zs)

-- as many inputs are left as the packets take that are in flight
left_over : (c : Config) (names : Names) (r : RunState) (events : List Event) (inputs : List Input) → RunsFrom c names r events inputs → r.all_gone ≤ r.cycle + latency_of c.stages → r.all_gone ≤ r.cycle + length inputs
left_over c names r events inputs (ends s) last = let long = length-replicate (s.all_gone - s.cycle) Idle in omega (arith, long)
left_over c names r events inputs (arrives s packet es is h) last =
    let le = left_over c names (behind_packet c s) es is h (omega arith) in omega (arith, le, last)
left_over c names r events inputs (commits s changes es is moved seed next ws makes are h) last =
    let long = length-append (changing (waits s moved) ws) (Turns seed ∷ is) in
    let front = length_changing (waits s moved) ws in
    omega (arith, left_over c names (behind_commit s changes moved seed ws next) es is h (omega (arith, last)), long, front)

pub runs_leave : (c : Config) (names : Names) (r : RunState) (events : List Event) (inputs : List Input) → RunsFrom c names r events inputs → r.all_gone ≤ r.cycle + latency_of c.stages → AllLeave (latency_of c.stages) inputs
runs_leave c names r events inputs (ends s) last = idle_leave (latency_of c.stages) (s.all_gone - s.cycle)
runs_leave c names r events inputs (arrives s packet es is h) last = (
  λ x e. let le = left_over c names (behind_packet c s) es is h (omega arith) in omega (arith, le),
  runs_leave c names (behind_packet c s) es is h (omega arith),
)
runs_leave c names r events inputs (commits s changes es is moved seed next ws makes are h) last =
    commit_leave (latency_of c.stages) (waits s moved) ws seed is (runs_leave c names (behind_commit s changes moved seed ws next) es is h (omega (arith, last)))

-- ---- what holds between the events of a run

-- Packets of the current version see just the entries, which are well formed; all numbers so far are below the next one.
pub record IsGood (p : Program) (c : Config) (r : RunState) : Type 0 where
  pub told : List CellOf
  pub cells : CellsCarried p c (seen_by r.cells.version r.cells) told r.entries.lists
  pub entries : AreEntries p r.entries.lists
  pub below : All (λ (e : Entry). e.number < r.entries.next) (all_entries r.entries.lists)
  pub used : (k place n : ℕ) → IsCell c k place n → is_occupied (r.cells.content k place n).head ≡ true → r.cells.number k place n < r.entries.next

-- a packet of a run answers as the program does with the entries that it meets
pub record IsAnswered (p : Program) (c : Config) (whole : List Input) (x : ℕ × Packet) (met : Met) : Type 0 where
  pub packet : x.1 ≡ met.packet
  pub answers : AnswersAs p met.lists (outcome_at c whole x) (answer_of p met.lists x.1)
  pub entries : AreEntries p met.lists

module _ (p : Program) (m : Map) (c : Config) (names : Names) (program : IsProgram p) (limits : IsWithinLimits c) (named : c.names ≡ Some names) (naming : AreNamesOf p names) where
  module _ (first : List (List Entry)) (carries : Carries p first m c) where
    -- ---- a commit

    module _ (r : RunState) (changes : List Change) (good : IsGood p c r) (fit : AreFitChanges p r.entries changes) where
      abbrev after : Installed
      after = committed r.entries changes

      follows : FollowOn p r.entries after
      follows = commit_follows p program r.entries changes good.entries good.below fit

      placed_below : (placed : List Placed) (q : Placed) → All (λ (x : Placed). Contains (all_entries after.lists) x.entry) placed → Contains placed q → q.entry.number < after.next
      placed_below placed q all there =
          All-contains (λ (e : Entry). e.number < after.next) (all_entries after.lists) q.entry follows.below
          (All-contains (λ (x : Placed). Contains (all_entries after.lists) x.entry) placed q all there)

      module _ (placed : List Placed) (made : placed_after c names r.cells r.entries.lists after.lists ≡ Some placed) (k place n : ℕ) (slot : SlotUnit) (at : slot_at c k place ≡ Some slot) (cell : IsCell c k place n) where
        all_in : All (λ (x : Placed). Contains (all_entries after.lists) x.entry) placed
        all_in = λ i d lt. (each_has_its_room c names r.cells r.entries.lists after.lists placed made i d lt).entry

        settled_used : (o : Option Placed) → placed_at placed k place n ≡ o → is_occupied (settled_content c names r.cells r.entries.lists o k place n).head ≡ true → settled_number r.cells o k place n < after.next
        settled_used (Some q) e h = placed_below placed q all_in (placed_spot placed (record { stage = k; place = place; cell = n }) q e).0
        settled_used None e h =
            let own = left c names r.cells r.entries.lists k place n slot at h in
            omega (arith, good.used k place n cell own.was, follows.next, own.number)

      filled_used : (seed : ℕ) (placed : List Placed) → AreFilled c names seed after.lists placed → (k place n : ℕ) (o : Option Placed) → placed_at placed k place n ≡ o
          → is_occupied (filled_content c names o k place).head ≡ true → unwrap_or (option_map (λ (q : Placed). q.entry.number) o) 0 < after.next
      filled_used seed placed are k place n (Some q) e h =
          All-contains (λ (x : Entry). x.number < after.next) (all_entries after.lists) q.entry follows.below
          (subst (λ es. Contains es q.entry) are.each (Contains-map (λ (x : Placed). x.entry) placed q (placed_spot placed (record { stage = k; place = place; cell = n }) q e).0))
      filled_used seed placed are k place n None e h = absurd (not_filled c names k place h)

      pub commit_good : (moved : Bool) (seed : ℕ) (next : RunCells) (ws : List CellWrite) → Makes c names r.cells r.entries.lists after.lists moved seed next → IsGood p c (behind_commit r changes moved seed ws next)
      commit_good moved seed next ws (stays placed made) =
          let keep = keep_entries p program r.entries changes good.entries good.below fit in
          let kept = entries_kept p m c names r.cells r.entries.lists after.lists next seed good.told limits naming carries.units good.entries follows.entries keep good.cells (stays placed made) in
          record {
            told = kept.0;
            cells = kept.1;
            entries = follows.entries;
            below = follows.below;
            used = λ k place n cell h.
                let slot = some_and (slot_at c k place) (λ s. n < cells_in s.memory) cell in
                settled_used placed made k place n slot.0 slot.1 cell (placed_at placed k place n) refl h;
          }
      commit_good moved seed next ws (moves s placed none first_seed are) =
          let kept = filled_carried p m c names r.cells after.lists seed placed limits naming carries.units follows.entries are in
          record {
            told = kept.0;
            cells = kept.1;
            entries = follows.entries;
            below = follows.below;
            used = λ k place n cell h. filled_used seed placed are k place n (placed_at placed k place n) refl h;
          }

    -- ---- a packet

    pub packet_good : (r : RunState) → IsGood p c r → IsGood p c (behind_packet c r)
    packet_good r good = record { told = good.told; cells = good.cells; entries = good.entries; below = good.below; used = good.used }

    carries_now : (told : List CellOf) (lists : List (List Entry)) (v : View) → CellsCarried p c v told lists → CarriesIn p lists (record m { cells = told }) c v
    carries_now told lists v cells = record { places = carries.places; parser = carries.parser; units = carries.units; cells = cells; code = carries.code; edges = carries.edges }

    module _ (formed : Formed c) (events : List Event) (whole : List Input) (runs : RunsTo c names first events whole) where
      abbrev cells_after : List Input → RunCells
      cells_after done = fold (after_input c) (own_cells c) done

      look_is : (r : RunState) (done inputs : List Input) (packet : Packet) → whole ≡ done ++ Enters packet ∷ inputs → r.cycle ≡ length done → SameCells c (cells_after done) r.cells
          → (k place key : ℕ) → look_from c whole r.cycle k place key ≡ look_in c (seen_by r.cells.version r.cells) k place key
      look_is r done inputs packet split cycle same k place key =
          let cells_are : cells_at c whole r.cycle ≡ cells_after done =
          (λ i. fold (after_input c) (own_cells c) (take (cycle i) (split i))) ∙ ap (fold (after_input c) (own_cells c)) (take-append_seam done (Enters packet ∷ inputs)) in
          let behind : r.cycle ≡ length done + 0 = omega (arith, cycle) in
          let there : slice_get whole r.cycle ≡ Some (Enters packet) = (λ i. slice_get (split i) (behind i)) ∙ slice_get-end done (Enters packet ∷ inputs) 0 in
          one_state c names first events whole r.cycle packet k place key formed named runs there
          ∙ ap (λ (x : RunCells). run.look_in c x.version x k place key) cells_are
          ∙ look_same c formed (cells_after done) r.cells same (cells_after done).version k place key
          ∙ ap (λ v. run.look_in c v r.cells k place key) same.version
          ∙ look_shown r.cells.version r.cells k place key c names named

      answered : (r : RunState) (done inputs : List Input) (packet : Packet) → IsPacket packet → whole ≡ done ++ Enters packet ∷ inputs → r.cycle ≡ length done → SameCells c (cells_after done) r.cells → IsGood p c r
          → IsAnswered p c whole (r.cycle, packet) (record { lists = r.entries.lists; packet = packet })
      answered r done inputs packet is split cycle same good =
          let v = seen_by r.cells.version r.cells in
          let looks : look_in c v ≡ look_from c whole r.cycle = λ i k place key. sym (look_is r done inputs packet split cycle same k place key) i in
          record {
            packet = refl;
            answers = subst (λ look. AnswersAs p r.entries.lists (outcome_of look c packet) (answer_of p r.entries.lists packet)) looks
                (one_packet p r.entries.lists (record m { cells = good.told }) c v program good.entries (carries_now good.told r.entries.lists v good.cells) packet is.has_bytes is.port_exists);
            entries = good.entries;
          }

      -- ---- all of them

      met_all : (r : RunState) (es : List Event) (inputs : List Input) → RunsFrom c names r es inputs → (done : List Input) → whole ≡ done ++ inputs → r.cycle ≡ length done → SameCells c (cells_after done) r.cells
          → IsGood p c r → AreFit p r.entries es → AllZip (IsAnswered p c whole) (packets_at r.cycle inputs) (met_from r.entries es)
      met_all r es inputs (ends s) done split cycle same good fit = subst (λ xs. AllZip (IsAnswered p c whole) xs []) (sym (idle_packets s.cycle (s.all_gone - s.cycle))) tt
      met_all r es inputs (arrives s packet more is h) done split cycle same good fit = (
        answered s done is packet fit.0 split cycle same good,
        met_all (behind_packet c s) more is h (done ++ Enters packet ∷ []) (replaced done (Enters packet ∷ []) is whole split)
            (let long = length-append done (Enters packet ∷ []) in omega (arith, long, cycle))
            (subst (λ (x : RunCells). SameCells c x s.cells) (sym (fold-append (after_input c) (own_cells c) done (Enters packet ∷ []))) same) (packet_good s good) fit.1,
      )
      met_all r es inputs (commits s changes more is moved seed next ws makes are h) done split cycle same good fit =
          let xs = changing (waits s moved) ws in
          let mid = xs ++ Turns seed ∷ [] in
          let cycles : s.cycle + (waits s moved + length ws + 1) ≡ s.cycle + waits s moved + length ws + 1 = omega arith in
          let reached : cells_after (done ++ mid) ≡ with_version (fold (with_write c) (cells_after done) ws) seed =
          fold-append (after_input c) (own_cells c) done mid ∙ fold-append (after_input c) (cells_after done) xs (Turns seed ∷ [])
          ∙ ap (λ (x : RunCells). with_version x seed) (after_changing c (cells_after done) (waits s moved) ws) in
          let turned = same_turned c names formed named s (cells_after done) next ws seed (version_made c names formed named s.entries.lists (committed s.entries changes).lists s.cells next moved seed makes) same are in
          subst (λ ys. AllZip (IsAnswered p c whole) ys (met_from (committed s.entries changes) more)) (sym (commit_packets s.cycle (waits s moved) ws seed is ∙ ap (λ k. packets_at k is) cycles))
          (met_all (behind_commit s changes moved seed ws next) more is h (done ++ mid)
          (replaced done mid is whole (split ∙ ap (λ ys. done ++ ys) (sym (append_assoc xs (Turns seed ∷ []) is))))
          (omega (arith, length-append done mid, length-append xs (Turns seed ∷ []), length_changing (waits s moved) ws, cycle))
          (subst (λ (x : RunCells). SameCells c x (with_version next seed)) (sym reached) turned)
          (commit_good s changes good fit.0 moved seed next ws makes) fit.1)

    -- ---- the start

    pub start_good : AreEntries p first → All (StageHolds 3) c.stages → IsGood p c (record { cells = own_cells c; entries = at_first first; cycle = 0; older_gone = 0; all_gone = 0 })
    start_good entries memory = record {
      told = m.cells;
      cells = start_carried p first m.cells c carries.cells memory;
      entries = entries;
      below = first_below first;
      used = λ k place n cell h.
          let slot = some_and (slot_at c k place) (λ s. n < cells_in s.memory) cell in
          own_used p m c first carries.units entries m.cells carries.cells (at_first first).next (first_below first) k place n slot.0 slot.1 slot.2 h;
    }

  pub all_met : (first : List (List Entry)) → AreEntries p first → (formed : Formed c) → (events : List Event) → AreFit p (at_first first) events → (whole : List Input)
      → (runs : RunsTo c names first events whole) → (carries : Carries p first m c) → AllZip (IsAnswered p c whole) (packets_at 0 whole) (met_from (at_first first) events)
  all_met first entries formed events fit whole runs carries =
      let memory : All (StageHolds 3) c.stages = subst (λ (o : Option Names). All (StageHolds (visible_with o)) c.stages) named formed.whole.memory in
      met_all first carries formed events whole runs (record { cells = own_cells c; entries = at_first first; cycle = 0; older_gone = 0; all_gone = 0 }) events whole runs [] refl refl (same_itself c (own_cells c))
      (start_good first carries entries memory) fit
