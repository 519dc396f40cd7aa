use Rattle.std.proofs.Common.{◌≡◌, List, ap, map, subst, sym, ◌∙◌}
use Rattle.std.proofs.lemmas.Result.{IfOk-weaker}
use Rattle.rmt_ast.specs.WellFormed.{AreTests}
use Rattle.rmt_ptcam.specs.Types.{ParserEntry, Test}
use Rattle.rmt_ptcam.specs.Plain.{entry_of_case, entry_to, looked_up}
use Rattle.rmt_ptcam.proofs.PlainLaws.{near}
use Rattle.rmt_ptcam.proofs.plain.entries.case_entry.Goals as goal

pub compared_in-requires : goal.compared_in-requires
compared_in-requires c =
    let is = c.requires.header in
    record {
      program = c.requires.program;
      short = is.is_not_long;
      whole = is.whole_bytes;
      own = is.selects_own;
      tests = subst (AreTests c.args.program.now c.args.header.now.select) (sym c.as_slice.ensures) c.requires.case.tests;
      state = c.requires.state;
    }

pub entry_for-requires : goal.entry_for-requires
entry_for-requires c = record {
  short = c.requires.short;
  near = near c.args.program.now c.args.number c.args.case.now.target c.requires.program.counts.headers c.requires.case.target;
}

pub returns : goal.returns
returns c =
    let p = c.args.program.now in
    let places = c.args.places.now in
    let n = c.args.number in
    let h = c.args.header.now in
    let case = c.args.case.now in
    let given = c.in_ok-compared.compared in
    let value = c.in_ok-compared.ensures.value ∙ ap (λ (ts : List Test). looked_up p h (map (λ (t : Test). t.value) ts)) c.as_slice.ensures in
    let mask = c.in_ok-compared.ensures.mask ∙ ap (λ (ts : List Test). looked_up p h (map (λ (t : Test). t.mask) ts)) c.as_slice.ensures in
    IfOk-weaker c.entry_for.result (λ (e : ParserEntry). e ≡ entry_to places n h given.value given.mask case.target) (λ (e : ParserEntry). e ≡ entry_of_case p places n h case)
    (λ e is. is ∙ ap (λ v. entry_to places n h v given.mask case.target) value ∙ ap (λ m. entry_to places n h (looked_up p h (map (λ (t : Test). t.value) case.tests)) m case.target) mask) c.entry_for.ensures
