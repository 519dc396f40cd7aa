-- Each state that a run of packets and commits passes is a reached one, and has the cells of its cycle.
use Rattle.std.proofs.Common.{◌≡◌, ℕ, ◌+◌, Bool, List, [], ◌∷◌, ◌++◌, append_assoc, fold, length, take, Some, All, refl, sym, ap, subst, ◌∙◌, arith}
use Rattle.std.proofs.Math.Seq.{take-append_seam}
use Rattle.std.proofs.lemmas.List.{length-append}
use Rattle.std.proofs.lemmas.List.Elements.{All-cons, All-nil}
use Rattle.std.proofs.lemmas.List.Sums.{fold-append}
use Rattle.rmt_bits.specs.Packet.{Packet}
use Rattle.rmt_ast.specs.declared.entry.Entry.{Entry}
use Rattle.rmt_ast.specs.declared.names.Names.{Names}
use Rattle.rmt_ast.specs.Changes.{Change, committed}
use Rattle.rmt_ast.specs.Events.{Event}
use Rattle.rmt_refine.specs.Types.{Config, Program}
use Rattle.rmt_config.specs.declared.cell_write.CellWrite.{CellWrite}
use Rattle.rmt_config.specs.Commits.{AreWrites, Makes, RunState, RunsFrom, arrives, behind_commit, behind_packet, commits, ends, waits}
use Rattle.rmt_config.specs.Form.{Formed}
use Rattle.rmt_config.specs.RunCells.{RunCells, look_in, own_cells, with_version, with_write}
use Rattle.rmt_config.specs.RunInputs.{Enters, Input, Turns, after_input, cells_at}
use Rattle.rmt_refine.specs.Fit.{AreFit}
use Rattle.rmt_refine.specs.RunStates.{IsOfItsCycle, RunsPassReachedStates, first_state, states_from}
use Rattle.rmt_refine.specs.ShortCommits.{IsReached, arrived, begins, touched, turned}
use Rattle.rmt_refine.proofs.OneStateLaws.{after_changing, changing, length_changing, same_turned, version_made}
use Rattle.rmt_refine.proofs.SameCellLaws.{SameCells, look_same, same_itself}

module _ (p : Program) (lists : List (List Entry)) (c : Config) (names : Names) (formed : Formed c) (named : c.names ≡ Some names) (whole : List Input) where
  abbrev cells_after : List Input → RunCells
  cells_after done = fold (after_input c) (own_cells c) done

  -- what holds of each state
  abbrev IsPassed : RunState → Type 0
  IsPassed r = ((recent : List Entry) × IsReached p c names lists recent r) × IsOfItsCycle c whole r

  -- where a run stands behind some inputs
  record StandsBehind (done inputs : List Input) (r : RunState) : Type 0 where
    split : whole ≡ done ++ inputs
    cycle : r.cycle ≡ length done
    same : SameCells c (cells_after done) r.cells

  of_its_cycle : (done inputs : List Input) (r : RunState) → StandsBehind done inputs r → IsOfItsCycle c whole r
  of_its_cycle done inputs r stands =
      let cells_are : cells_at c whole r.cycle ≡ cells_after done =
      (λ i. fold (after_input c) (own_cells c) (take (stands.cycle i) (stands.split i))) ∙ ap (fold (after_input c) (own_cells c)) (take-append_seam done inputs) in
      record {
        version = ap (λ (x : RunCells). x.version) cells_are ∙ stands.same.version;
        looks = λ version k place key. subst (λ (x : RunCells). look_in c version x k place key ≡ look_in c version r.cells k place key) (sym cells_are)
            (look_same c formed (cells_after done) r.cells stands.same version k place key);
      }

  passed : (recent : List Entry) (done inputs : List Input) (r : RunState) → IsReached p c names lists recent r → StandsBehind done inputs r → IsPassed r
  passed recent done inputs r reached stands = ((recent, reached), of_its_cycle done inputs r stands)

  -- behind a packet
  behind_one : (done inputs : List Input) (packet : Packet) (r : RunState) → StandsBehind done (Enters packet ∷ inputs) r → StandsBehind (done ++ Enters packet ∷ []) inputs (behind_packet c r)
  behind_one done inputs packet r stands =
      record {
        split = stands.split ∙ sym (append_assoc done (Enters packet ∷ []) inputs);
        cycle = omega (arith, length-append done (Enters packet ∷ []), stands.cycle);
        same = subst (λ (x : RunCells). SameCells c x r.cells) (sym (fold-append (after_input c) (own_cells c) done (Enters packet ∷ []))) stands.same;
      }

  -- behind a commit
  behind_changes : (done inputs : List Input) (r : RunState) (changes : List Change) (moved : Bool) (seed : ℕ) (next : RunCells) (ws : List CellWrite)
      → Makes c names r.cells r.entries.lists (committed r.entries changes).lists moved seed next → AreWrites c r.cells next ws
      → StandsBehind done (changing (waits r moved) ws ++ Turns seed ∷ inputs) r → StandsBehind (done ++ (changing (waits r moved) ws ++ Turns seed ∷ [])) inputs (behind_commit r changes moved seed ws next)
  behind_changes done inputs r changes moved seed next ws makes are stands =
      let xs = changing (waits r moved) ws in
      let own = length-append xs (Turns seed ∷ []) in
      let reached : cells_after (done ++ (xs ++ Turns seed ∷ [])) ≡ with_version (fold (with_write c) (cells_after done) ws) seed =
      fold-append (after_input c) (own_cells c) done (xs ++ Turns seed ∷ []) ∙ fold-append (after_input c) (cells_after done) xs (Turns seed ∷ [])
      ∙ ap (λ (x : RunCells). with_version x seed) (after_changing c (cells_after done) (waits r moved) ws) in
      let turned = same_turned c names formed named r (cells_after done) next ws seed (version_made c names formed named r.entries.lists (committed r.entries changes).lists r.cells next moved seed makes) stands.same are in
      record {
        split = stands.split ∙ ap (λ ys. done ++ ys) (sym (append_assoc xs (Turns seed ∷ []) inputs)) ∙ sym (append_assoc done (xs ++ Turns seed ∷ []) inputs);
        cycle = omega (arith, length-append done (xs ++ Turns seed ∷ []), own, length_changing (waits r moved) ws, stands.cycle);
        same = subst (λ (x : RunCells). SameCells c x (with_version next seed)) (sym reached) turned;
      }

  all_passed : (recent : List Entry) (r : RunState) (events : List Event) (inputs : List Input) → (runs : RunsFrom c names r events inputs) → (done : List Input) → IsReached p c names lists recent r → StandsBehind done inputs r
      → AreFit p r.entries events → All IsPassed (states_from c names r events inputs runs)
  all_passed recent r events inputs (ends s) done reached stands fit = All-cons IsPassed s [] (passed recent done inputs s reached stands) (All-nil IsPassed)
  all_passed recent r events inputs (arrives s packet more rest runs) done reached stands fit =
      All-cons IsPassed s (states_from c names (behind_packet c s) more rest runs) (passed recent done (Enters packet ∷ rest) s reached stands)
      (all_passed recent (behind_packet c s) more rest runs (done ++ Enters packet ∷ []) (arrived recent s reached) (behind_one done rest packet s stands) fit.1)
  all_passed recent r events inputs (commits s changes more rest moved seed next ws makes are runs) done reached stands fit =
      let after = behind_commit s changes moved seed ws next in
      let xs = changing (waits s moved) ws in
      All-cons IsPassed s (states_from c names after more rest runs) (passed recent done (xs ++ Turns seed ∷ rest) s reached stands)
      (all_passed (touched s.entries.lists (committed s.entries changes).lists) after more rest runs (done ++ (xs ++ Turns seed ∷ []))
      (turned recent s changes moved seed next ws reached fit.0 makes are) (behind_changes done rest s changes moved seed next ws makes are stands) fit.1)

pub states_reached : RunsPassReachedStates
states_reached p lists c names events inputs formed named fit runs =
    all_passed p lists c names formed named inputs [] (first_state c lists) events inputs runs [] begins
    (record { split = refl; cycle = refl; same = same_itself c (own_cells c) }) fit
