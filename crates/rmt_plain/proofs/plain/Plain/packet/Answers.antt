use Rattle.std.proofs.Common.{◌≡◌, ◌∷◌, [], List, map, ap, sym, subst, ◌∙◌}
use Rattle.std.specs.Prelude.{Contains}
use Rattle.std.proofs.lemmas.List.Elements.{All-append, All-cons, All-nil}
use Rattle.rmt_bits.specs.declared.answer.Answer.{Answer}
use Rattle.rmt_bits.specs.Packet.{Packet}
use Rattle.rmt_ast.specs.declared.program.Program.{Program}
use Rattle.rmt_ast.specs.WellFormed.{IsProgram}
use Rattle.rmt_ast.specs.EntryLists.{AreEntries}
use Rattle.rmt_ast.specs.Answers.{answer_of}
use Rattle.rmt_ast.specs.Events.{Met}
use Rattle.rmt_plain.specs.declared.lookup.Lookup.{Lookup}
use Rattle.rmt_plain.specs.Running.{AreLookups}
use Rattle.rmt_plain.specs.Stands.{meets}
use Rattle.rmt_plain.proofs.StandsLaws.{counts_more, stands_push}
use Rattle.rmt_plain.proofs.plain.Plain.packet.Goals as goal

pub returns-clause-met : goal.returns-clause-met
returns-clause-met c = λ p so_far lists met stands.
    let self = c.args.self.now in
    let packet : Packet = record { port = c.args.port; frame = c.args.frame.now } in
    let is = sym stands.program_is in
    let ready : AreLookups self.program lists c.deref.result.now =
    subst (λ (ls : List Lookup). AreLookups self.program lists ls) (sym c.deref.ensures.value) (subst (λ (q : Program). AreLookups q lists self.lookups.items) is stands.lookups_find) in
    let answers : c.in_ok-answer.answer ≡ answer_of p lists packet =
    c.in_ok-answer.ensures lists (subst IsProgram is stands.well_formed) (subst (λ (q : Program). AreEntries q lists) is stands.entries) ready c.requires.port
    ∙ ap (λ (q : Program). answer_of q lists packet) stands.program_is in
    let Stood : Met → Type 0 = λ m. Contains so_far m.lists in (
      record {
        program_is = stands.program_is;
        well_formed = stands.well_formed;
        entries = stands.entries;
        stand_now = stands.stand_now;
        stood = All-append Stood met (meets lists packet ∷ []) stands.stood (All-cons Stood (meets lists packet) [] stands.stand_now (All-nil Stood));
        lookups_find = stands.lookups_find;
        counters_are = counts_more p so_far lists met packet c.as_slice.result.now self.counters.counts c.count.new.counters.counts stands.counters_are (c.as_slice.ensures ∙ ap (λ (a : Answer). a.hits) answers) c.count.ensures;
      },
      answers,
    )

pub returns-clause-ok : goal.returns-clause-ok
returns-clause-ok c = λ p lists packets stands.
    let packet : Packet = record { port = c.args.port; frame = c.args.frame.now } in
    let r = returns-clause-met c p (lists ∷ []) lists (map (meets lists) packets) stands in
    (stands_push p lists packets packet r.0, r.1)
