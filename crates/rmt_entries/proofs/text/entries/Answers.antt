use Rattle.std.proofs.Common.{◌≡◌, ◌∙◌, sym, ap, subst, length, List, ℕ, All, Ok, arith}
use Rattle.std.proofs.lemmas.List.{length-map}
use Rattle.std.proofs.lemmas.Result.{IfOk-from_err}
use Rattle.rmt_ast.specs.EntryLists.{AreEntries}
use Rattle.rmt_ast.specs.declared.program.Node.{Node}
use Rattle.rmt_ast.specs.EntryLists.{terms_at}
use Rattle.rmt_entries.specs.Entries.{entries_of}
use Rattle.rmt_entries.specs.Reads.{Reads, node_terms}
use Rattle.rmt_entries.specs.LinesSoFar.{IsBelow, IsReadable}
use Rattle.rmt_entries.specs.Tables.{AppliedTable, applied_tables}
use Rattle.rmt_entries.proofs.LawLists.{entries_law}
use Rattle.rmt_entries.proofs.ProgramLaws.{are_applied, are_below, are_readable}
use Rattle.rmt_entries.proofs.TextLaws.{gives_fault, gives_handed, lists_of_nodes, reads_first, reads_passed, reads_added, reads_bad, reads_end}
use Rattle.rmt_entries.proofs.text.entries.Goals as goal
use Rattle.rmt_entries.proofs.text.entries.Goals.{then-not-is_passed_over+in_ok-take_line, else-not-is_passed_over}
use Rattle.rmt_bits.proofs.ListLaws.{has_bytes, has_none}

pub loop-rest-init : goal.loop-rest-init
loop-rest-init c =
    let p = c.args.program.now in
    let nodes : length (node_terms p) ≡ c.len.result = length-map p.nodes (λ (node : Node). terms_at p node.what) ∙ sym c.len.ensures in
    record { reads = reads_first p c.args.text.now c.in_ok-gathered.gathered (c.in_ok-gathered.ensures (node_terms p) nodes); room = omega arith }

pub take_line-requires-clause-readable : goal.take_line-requires-clause-readable
take_line-requires-clause-readable c = subst (λ (ts : List AppliedTable). All IsReadable ts) (sym c.in_ok-tables.ensures) (are_readable c.args.program.now c.requires.program)

pub take_line-requires-clause-within : goal.take_line-requires-clause-within
take_line-requires-clause-within c =
    let p = c.args.program.now in
    let lists = lists_of_nodes p c.args.text.now c.loop-rest.rest.now c.loop-rest.number c.loop-rest.gathered c.loop-rest.invariant.reads in
    let below = subst (λ (ts : List AppliedTable). All (IsBelow (length (node_terms p))) ts) (sym c.in_ok-tables.ensures) (are_below (node_terms p) (applied_tables p) (are_applied p)) in
    subst (λ (n : ℕ). All (IsBelow n) c.in_ok-tables.tables) lists below

pub returns-in_err-take_line : goal.returns-in_err-take_line
returns-in_err-take_line c =
    let p = c.args.program.now in
    let l = c.loop-rest in
    record {
      exact =
          gives_handed c.from_residual-in_err-take_line.result c.in_err-take_line.field-0.0 (entries_of p c.args.text.now) c.from_residual-in_err-take_line.ensures.1
          (gives_fault c.in_err-take_line.field-0.0 l.number (entries_of p c.args.text.now) _ c.in_err-take_line.ensures.fault
          (λ code h.
          reads_bad p c.args.text.now l.rest.now l.number l.gathered l.invariant.reads c.cut.result.0.now c.cut.result.1.now c.cut.ensures.front c.cut.ensures.back c.in_ok-tables.tables c.in_ok-tables.ensures
          code (sym c.is_passed_over.ensures ∙ c.if-not-is_passed_over.true) h));
      well_formed = IfOk-from_err c.from_residual-in_err-take_line.result (λ lists. AreEntries p lists) c.from_residual-in_err-take_line.ensures.0;
    }

pub loop-rest-preserved : goal.loop-rest-preserved
loop-rest-preserved c = record {
  reads = elim c.if-not-is_passed_over.branch [
    | then-not-is_passed_over+in_ok-take_line w ↦
        rw w.gathered-is
        (reads_added c.args.program.now c.args.text.now c.loop-rest.rest.now c.loop-rest.number c.loop-rest.gathered c.loop-rest.invariant.reads c.cut.result.0.now c.cut.result.1.now c.cut.ensures.front c.cut.ensures.back
        c.in_ok-tables.tables c.in_ok-tables.ensures w.take_line.new.gathered (sym c.is_passed_over.ensures ∙ w.if-not-is_passed_over.true) w.in_ok-take_line.ensures.addition)
    | else-not-is_passed_over w ↦
        rw w.gathered-is
        (reads_passed c.args.program.now c.args.text.now c.loop-rest.rest.now c.loop-rest.number c.loop-rest.gathered c.loop-rest.invariant.reads c.cut.result.0.now c.cut.result.1.now c.cut.ensures.front c.cut.ensures.back
        (sym c.is_passed_over.ensures ∙ w.if-not-is_passed_over.false))
  ];
  room = omega (arith, c.loop-rest.invariant.room, c.cut.ensures.shorter (has_bytes c.loop-rest.rest.now (sym c.is_empty.ensures ∙ c.loop-rest-test.true)));
}

pub returns : goal.returns
returns c =
    let p = c.args.program.now in
    let l = c.loop-rest in
    let none = has_none l.rest.now (sym c.is_empty.ensures ∙ c.loop-rest-test.false) in
    let read = subst (λ (rest : List ℕ). Reads p c.args.text.now rest l.number l.gathered) none l.invariant.reads in
    let exact = reads_end p c.args.text.now l.number l.gathered read ∙ ap Ok (sym c.from_vec.ensures) in
    record { exact = exact; well_formed = entries_law p c.args.text.now c.from_vec.result c.requires.program exact }
