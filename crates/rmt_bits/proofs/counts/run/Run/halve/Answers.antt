use Rattle.std.proofs.Common.{◌≡◌, ◌++◌, ◌-◌, List, length, take, drop, ap, ◌∙◌, take-append-drop}
use Rattle.std.proofs.lemmas.List.{take_rest}
use Rattle.rmt_bits.specs.declared.answer.Count.{Count}
use Rattle.rmt_bits.proofs.counts.run.Run.halve.Goals as goal

pub returns-clause-all : goal.returns-clause-all
returns-clause-all c =
    let cs = c.self.inside.counts.items in
    let seen = c.deref.result.now in
    let lower : c.truncate-2.new.self.items ≡ take 128 cs = c.truncate-2.ensures.items in
    let upper : c.fill_from.new.counts.items ≡ drop 128 cs =
    c.fill_from.ensures.items
    ∙ ap (λ (xs : List Count). xs ++ take (length seen - 128) (drop 128 seen)) c.truncate.ensures.items
    ∙ take_rest seen 128
    ∙ ap (λ (xs : List Count). drop 128 xs) c.deref.ensures.value in
    ap (λ (xs : List Count). xs ++ c.fill_from.new.counts.items) lower ∙ ap (λ (xs : List Count). take 128 cs ++ xs) upper ∙ take-append-drop 128 cs ∙ c.self.view_is
