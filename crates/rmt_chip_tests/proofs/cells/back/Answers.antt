use Rattle.std.proofs.Common.{◌≡◌, ℕ, suc, ◌+◌, ◌<◌, List, length, ◌++◌, map, take, drop, ap, sym, subst, ◌∙◌, arith}
use Rattle.std.proofs.lemmas.List.{map-append}
use Rattle.rmt_chip_tests.specs.declared.cells.Kept.{Kept as KeptOf}
use Rattle.rmt_cells.specs.Stands.{Held, Stands}
use Rattle.rmt_chip_tests.proofs.KeptCells.{split}
use Rattle.rmt_chip_tests.proofs.cells.back.Goals as goal

abbrev held_of : KeptOf → Held
held_of k = record { chain = k.chain; bytes = k.bytes.items }

pub give_back-requires : goal.give_back-requires
give_back-requires c =
    let (count, stands) = c.requires.stands in
    let kept = c.args.kept.now.items in
    let place = c.args.place in
    let x = c.remove.result in
    let inside : place < length kept = omega arith in
    record {
      held = (
        count,
        map held_of (take place kept),
        map held_of (drop (place + 1) kept),
        x.bytes.items,
        subst (λ (held : List Held). Stands count held c.args.cells.now) (split held_of kept place x inside c.remove.ensures.value) stands,
      );
    }

pub returns : goal.returns
returns c =
    λ count stands.
    let kept = c.args.kept.now.items in
    let place = c.args.place in
    let x = c.remove.result in
    let inside : place < length kept = omega arith in
    let next : suc place ≡ place + 1 = omega arith in
    let back = c.give_back.ensures.stands count (map held_of (take place kept)) (map held_of (drop (place + 1) kept)) x.bytes.items
    (subst (λ (held : List Held). Stands count held c.args.cells.now) (split held_of kept place x inside c.remove.ensures.value) stands) in
    subst (λ (held : List Held). Stands count held c.give_back.new.self)
    (sym (ap (map held_of) (c.remove.ensures.items ∙ ap (λ (n : ℕ). take place kept ++ drop n kept) next) ∙ map-append held_of (take place kept) (drop (place + 1) kept))) back
