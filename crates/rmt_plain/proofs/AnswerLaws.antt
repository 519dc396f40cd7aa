-- The answer to a frame that is accepted.
use Rattle.std.proofs.Common.{◌≡◌, ◌<◌, List, drop, sym, ap, subst, ◌∙◌}
use Rattle.rmt_bits.specs.Packet.{Packet}
use Rattle.rmt_bits.specs.declared.answer.Answer.{Answer}
use Rattle.rmt_ast.specs.declared.program.Program.{Program}
use Rattle.rmt_ast.specs.declared.entry.Entry.{Entry}
use Rattle.rmt_ast.specs.State.{IsState}
use Rattle.rmt_ast.specs.Walk as walk
use Rattle.rmt_ast.specs.Control as control
use Rattle.rmt_ast.specs.WellFormed.{IsProgram}
use Rattle.rmt_ast.specs.EntryLists.{AreEntries}
use Rattle.rmt_ast.specs.Answers.{answer_of, answered, finished}
use Rattle.rmt_ast.proofs.RunStateLaws.{LeavesState, walk_leaves, run_keeps}
use Rattle.rmt_plain.specs.declared.lookup.Lookup.{Lookup}
use Rattle.rmt_plain.specs.Runnable.{IsRunnable}
use Rattle.rmt_plain.specs.Running.{at_start, run_with, AreLookups}
use Rattle.rmt_plain.proofs.RunLaws.{run-lookups}

pub accepted_answers : (p : Program) (lists : List (List Entry)) (lookups : List Lookup) (packet : Packet) (r : walk.Reached) (a : Answer)
    → IsRunnable p → IsProgram p → AreEntries p lists → AreLookups p lists lookups → packet.port < 512 → walk.walk p packet.port packet.frame ≡ walk.Accept r
    → (IsState p (run_with p lookups 0 p.nodes (at_start p r.state)).state → a ≡ finished p r.tails (drop r.at packet.frame) (run_with p lookups 0 p.nodes (at_start p r.state)))
    → a ≡ answer_of p lists packet
accepted_answers p lists lookups packet r a good program entries ready below walked finishes =
    let same = run-lookups p lists lookups r.state good program entries ready in
    let left : LeavesState p packet.frame (walk.Accept r) = subst (LeavesState p packet.frame) walked (walk_leaves p packet.port packet.frame program below) in
    let kept : IsState p (run_with p lookups 0 p.nodes (at_start p r.state)).state = subst (λ (q : control.Run). IsState p q.state) (sym same) (run_keeps p lists r.state program entries left.0) in
    finishes kept ∙ ap (finished p r.tails (drop r.at packet.frame)) same ∙ sym (ap (answered p lists packet.frame) walked)
