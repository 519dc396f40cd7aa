use Rattle.std.proofs.Common.{◌≡◌, ◌<◌, ◌++◌, ◌∷◌, [], ℕ, List, length, get_or, take, map, sym, ap, subst, ◌∙◌, arith}
use Rattle.std.proofs.lemmas.List.{take_more, take_all, length-take-le, length-map, map_push}
use Rattle.rmt_bits.specs.Grouping.{Compared, AreGrouped, AreIndexed}
use Rattle.rmt_ast.specs.declared.program.Test.{Test}
use Rattle.rmt_plain.specs.Grouping.{masks_of, values_of, row_of}
use Rattle.rmt_plain.proofs.grouping.groups_of.Goals as goal

abbrev compared : List ℕ → List ℕ → Compared
compared ms vs = record { masks = ms; values = vs }

pub loop-at-preserved : goal.loop-at-preserved
loop-at-preserved c =
    let es = c.args.entries.now in
    let i = c.loop-at.at in
    let inside : i < length es = omega arith in
    let e = get_or es i c.index-entries-at.result in
    let size : length (map row_of (take i es)) ≡ i = length-map (take i es) row_of ∙ length-take-le i es (omega arith) in
    let masks = c.in_ok-masks.ensures ∙ ap (λ (ts : List Test). masks_of ts) c.as_slice-tests.ensures in
    let values = c.in_ok-values.ensures ∙ ap (λ (ts : List Test). values_of ts) c.as_slice-tests.ensures in
    let here : compared c.in_ok-masks.masks.items c.in_ok-values.values.items ≡ row_of e =
    ap (λ (ms : List ℕ). compared ms c.in_ok-values.values.items) masks ∙ ap (λ (vs : List ℕ). compared (masks_of e.tests) vs) values in
    let grown = c.in_ok-add.ensures (map row_of (take i es)) size c.loop-at.invariant in
    subst (λ (rs : List Compared). AreIndexed rs c.add.new.grouping)
    (ap (λ (r : Compared). map row_of (take i es) ++ r ∷ []) here
    ∙ sym (map_push row_of (take i es) e)
    ∙ sym (ap (map row_of) (take_more es i c.index-entries-at.result inside))) grown

pub returns : goal.returns
returns c =
    subst (λ (rs : List Compared). AreGrouped rs c.loop-at.grouping.groups.items) (ap (map row_of) (take_all c.loop-at.at c.args.entries.now (omega arith))) c.loop-at.invariant.grouped
