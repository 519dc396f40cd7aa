use Rattle.std.proofs.Common.{◌∙◌, ℕ, ◌<◌, ◌^◌, List, All, [], ◌∷◌, ◌++◌, get_or, map, ap, sym, subst, take}
use Rattle.std.proofs.lemmas.List.{map-append, take_more}
use Rattle.std.proofs.lemmas.List.Elements.{All-append, All-cons, All-nil}
use Rattle.rmt_ast.specs.declared.entry.Entry.{Entry}
use Rattle.rmt_filling.specs.Sorting.{rank_in}
use Rattle.rmt_filling.proofs.stands.ranks_of.Goals as goal

pub loop-entry-preserved : goal.loop-entry-preserved
loop-entry-preserved c = record {
  ranks =
      let f = rank_in c.args.kind in
      let es = c.args.entries.now in
      let i = c.loop-entry.entry-index in
      let item = c.entry-item.result in
      c.in_ok-push.ensures.items ∙ ap (λ (rs : List ℕ). rs ++ c.rank_of.result ∷ []) c.loop-entry.invariant.ranks
      ∙ ap (λ r. (map f (take i es)) ++ r ∷ []) (c.rank_of.ensures.rank ∙ ap f c.entry-item.is)
      ∙ sym (ap (map f) (take_more es i item c.loop-entry-test.true) ∙ map-append f (take i es) (get_or es i item ∷ []));
  fits =
      let P : Entry → Type 0 = λ e. e.rank < 2 ^ 32 in
      let es = c.args.entries.now in
      let i = c.loop-entry.entry-index in
      let item = c.entry-item.result in
      subst (All P) (sym (take_more es i item c.loop-entry-test.true))
      (All-append P (take i es) (get_or es i item ∷ []) c.loop-entry.invariant.fits
      (All-cons P (get_or es i item) [] (subst P c.entry-item.is c.rank_of.ensures.fits) (All-nil P)));
}
