use Rattle.std.proofs.Common.{ℕ, ◌<◌, ◌^◌, ◌∙◌, [], ◌∷◌, ◌++◌, ap, get_or, subst, sym}
use Rattle.std.specs.Prelude.{All}
use Rattle.std.proofs.lemmas.List.Elements.{All-append, All-cons, All-nil}
use Rattle.rmt_ast.specs.declared.entry.Entry.{Entry}
use Rattle.rmt_filling.specs.Types.{CellNumber}
use Rattle.rmt_filling.proofs.NumberLaws.{number_step}
use Rattle.rmt_filling.proofs.numbers.numbers_of.Goals as goal

pub loop-stand-preserved : goal.loop-stand-preserved
loop-stand-preserved c =
    let cell = (get_or c.args.stands.now c.loop-stand.stand-index (record { cell = 0; entry = 0 })).cell in
    let at : ℕ → CellNumber = λ n. record { cell = cell; number = n } in
    let Small : CellNumber → Type 0 = λ x. x.number < 2 ^ 32 in
    record {
      numbers =
          number_step c.args.entries.now c.args.stands.now c.loop-stand.stand-index _ c.index-entries-stand.result c.loop-stand.numbers c.push.new.self c.loop-stand-test.true
          (c.requires c.loop-stand.stand-index _ c.loop-stand-test.true) c.index-entries-stand.is c.loop-stand.invariant.numbers
          (c.in_ok-push.ensures.ok ∙ ap (λ n. c.loop-stand.numbers ++ at n ∷ []) (c.number_of.ensures.number ∙ ap (λ (e : Entry). e.number) c.index-entries-stand.is));
      small =
          subst (All Small) (sym c.in_ok-push.ensures.ok)
          (All-append Small c.loop-stand.numbers (at c.number_of.result ∷ []) c.loop-stand.invariant.small (All-cons Small (at c.number_of.result) [] c.number_of.ensures.fits (All-nil Small)));
    }
