-- The texts are made, understood and built, and the counts of a run are told; or the call ends at one of these steps.
use Rattle.std.proofs.Common.{Vec, List, ℕ, Err, arith, length, refl, sym, ap, ◌∙◌, subst}
use Rattle.std.specs.Global.{Global}
use Rattle.rmt_sample.proofs.TextLaws.{entries_short, program_short}
use Rattle.rmt_core.specs.declared.placer.Placer.TheVariants.{ByRule}
use Rattle.rmt_drive.specs.declared.status.Status.TheVariants.{NoFit}
use Rattle.rmt_core.specs.Making.{TellsWhy}
use Rattle.rmt_core.specs.Sampling.{GivesSample, sample_line}
use Rattle.rmt_drive.proofs.EndLaws.{no_memory}
use Rattle.rmt_core.proofs.SampleLaws.{line_of_plain, no_fault, of_sample, refusal_answered, sample_answered, told_no_reading, told_possible}
use Rattle.rmt_core.proofs.TextLaws.{printed_tells}
use Rattle.rmt_core.proofs.sampling.sample.Goals as goal

pub understand-requires-clause-text : goal.understand-requires-clause-text
understand-requires-clause-text g c = omega (arith, ap length (c.as_slice.ensures ∙ c.in-Ok.ensures.program), program_short c.args.number c.requires.most)

pub understand-requires-clause-entries : goal.understand-requires-clause-entries
understand-requires-clause-entries g c = omega (arith, ap length (c.as_slice-2.ensures ∙ c.in-Ok.ensures.entries), entries_short c.args.number c.requires.most)

pub fit-requires-clause-said : goal.fit-requires-clause-said
fit-requires-clause-said g c = record {
  text = c.as_slice.result.now;
  entry_text = c.as_slice-2.result.now;
  means = c.in-Ok-understand.ensures.means;
  says = c.in-Ok-understand.ensures.says;
  is_short = omega (arith, ap length (c.as_slice.ensures ∙ c.in-Ok.ensures.program), program_short c.args.number c.requires.most);
  has_short_entries = omega (arith, ap length (c.as_slice-2.ensures ∙ c.in-Ok.ensures.entries), entries_short c.args.number c.requires.most);
}

pub unreachable-requires : goal.unreachable-requires
unreachable-requires g c =
    let e = no_fault c.one_meaning.ensures.alone c.args.number c.requires.some c.requires.most c.as_slice.result.now c.as_slice-2.result.now c.understand.result c.in-Err-BadProgram.field-0
    (c.as_slice.ensures ∙ c.in-Ok.ensures.program) (c.as_slice-2.ensures ∙ c.in-Ok.ensures.entries) c.in-Err-BadProgram.is c.understand.ensures.bad_program c.understand.ensures.bad_entries in
    let is = c.in-Err-BadProgram.field-0-is in
    cc

pub unreachable-requires-in-Err-BadEntries : goal.unreachable-requires-in-Err-BadEntries
unreachable-requires-in-Err-BadEntries g c =
    let e = no_fault c.one_meaning.ensures.alone c.args.number c.requires.some c.requires.most c.as_slice.result.now c.as_slice-2.result.now c.understand.result c.in-Err-BadEntries.field-0
    (c.as_slice.ensures ∙ c.in-Ok.ensures.program) (c.as_slice-2.ensures ∙ c.in-Ok.ensures.entries) c.in-Err-BadEntries.is c.understand.ensures.bad_program c.understand.ensures.bad_entries in
    let is = c.in-Err-BadEntries.field-0-is in
    cc

pub returns-in_default-clause-answered : goal.returns-in_default-clause-answered
returns-in_default-clause-answered g c = λ shelf. no_memory _ _ (GivesSample shelf.files c.args.number) (λ _. refl) (λ _. refl)

pub returns-in-Err-NoMemory-clause-answered : goal.returns-in-Err-NoMemory-clause-answered
returns-in-Err-NoMemory-clause-answered g c = λ shelf. no_memory _ _ (GivesSample shelf.files c.args.number) (λ _. refl) (λ _. refl)

pub returns-in-Err-NoMemory-fit-clause-answered : goal.returns-in-Err-NoMemory-fit-clause-answered
returns-in-Err-NoMemory-fit-clause-answered g c = λ shelf. no_memory _ _ (GivesSample shelf.files c.args.number) (λ _. refl) (λ _. refl)

pub returns-clause-answered : goal.returns-clause-answered
returns-clause-answered g c = λ shelf.
    let p = c.in-Ok-understand.meant.program in
    let lists = c.in-Ok-understand.meant.entries in
    let line_why = c.fit.ensures.refused c.in-Err-NoFit.line (c.in-Err-NoFit.is ∙ ap Err c.in-Err-NoFit.field-0-is) in
    let why = subst (λ (line : List ℕ). TellsWhy ByRule p lists line) (ap (λ (line : Vec ℕ Global). line.items) (sym c.in-Err-NoFit.line-is) ∙ sym c.as_slice-in-Err-NoFit.ensures.value) line_why in
    let e = c.end_with.ensures in
    refusal_answered shelf _ _ c.args.number p lists
    (of_sample c.args.number p lists c.as_slice.result.now c.as_slice-2.result.now (c.as_slice.ensures ∙ c.in-Ok.ensures.program) (c.as_slice-2.ensures ∙ c.in-Ok.ensures.entries) c.in-Ok-understand.ensures.means c.in-Ok-understand.ensures.says)
    c.end_with.result c.as_slice-in-Err-NoFit.result.now why (printed_tells {wanted = NoFit} (λ m. cc) e.status e.printed e.front e.failed e.some)

pub returns-in-Ok-fit-clause-answered : goal.returns-in-Ok-fit-clause-answered
returns-in-Ok-fit-clause-answered g c = λ shelf.
    let n = c.args.number in
    let p = c.in-Ok-understand.meant.program in
    let lists = c.in-Ok-understand.meant.entries in
    let built = c.in-Ok-fit.built in
    let is = c.in-Ok-fit.ensures.built in
    sample_answered shelf _ _ n p lists
    (of_sample n p lists c.as_slice.result.now c.as_slice-2.result.now (c.as_slice.ensures ∙ c.in-Ok.ensures.program) (c.as_slice-2.ensures ∙ c.in-Ok.ensures.entries) c.in-Ok-understand.ensures.means c.in-Ok-understand.ensures.says)
    c.tell_built.result built is (c.tell_built.ensures.line (sample_line n p lists built.config) (line_of_plain n p lists built is))

pub returns-in-Ok-fit-clause-possible : goal.returns-in-Ok-fit-clause-possible
returns-in-Ok-fit-clause-possible g c = told_possible c.args.number (c.tell_built.ensures.line _ refl)

pub returns-in-Ok-fit-clause-no_reading : goal.returns-in-Ok-fit-clause-no_reading
returns-in-Ok-fit-clause-no_reading g c = told_no_reading (c.tell_built.ensures.line _ refl)

pub returns-in-Ok-fit-clause-quiet : goal.returns-in-Ok-fit-clause-quiet
returns-in-Ok-fit-clause-quiet g c = (c.tell_built.ensures.line _ refl).quiet

pub returns-in-Ok-fit-clause-write_fault : goal.returns-in-Ok-fit-clause-write_fault
returns-in-Ok-fit-clause-write_fault g c = (c.tell_built.ensures.line _ refl).failed
