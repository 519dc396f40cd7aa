use Rattle.std.proofs.Common.{◌≡◌, ℕ, ◌+◌, ◌-◌, ◌/◌, ◌%◌, ◌<◌, min, [], length, take, drop, get_or, ap, sym, subst, ◌∙◌, arith}
use Rattle.std.proofs.lemmas.List.{take_all}
use Rattle.rmt_cells.specs.Links.{after}
use Rattle.rmt_cells.specs.Pieces.{cells_for, piece}
use Rattle.rmt_cells.proofs.Walks.{after_more}
use Rattle.rmt_cells.proofs.Spelling.{read_step}
use Rattle.rmt_cells.proofs.pieces.read.Goals as goal

pub loop-done-preserved : goal.loop-done-preserved
loop-done-preserved c =
    let l = c.loop-done in
    let links = c.args.links.now in
    let blocks = c.args.blocks.now in
    let first = c.args.first in
    let at = c.args.at in
    let more : l.done < length l.into = c.loop-done-test.true in
    let n = c.min-count.result in
    let number : ℕ = (at + l.done) / 64 in
    let place : ℕ = (at + l.done) % 64 in
    let least : n ≡ min (64 - place) (length l.into - l.done) = c.min-count.ensures in
    let size : length c.put_at.new.into ≡ length l.into = c.put_at.auto.into in
    let cell : l.cell ≡ after links first number = l.invariant.cell more in
    record {
      within = omega (arith, least, size);
      cell = λ goes_on.
          let next : (at + (l.done + n)) / 64 ≡ number + 1 = omega (arith, least, size, goes_on) in
          ap (λ (x : ℕ). get_or links x 0) cell ∙ sym (after_more links first number) ∙ ap (after links first) (sym next);
      so_far = λ bytes spell enough.
          let inside : number < cells_for (length bytes) = omega (arith, enough, size, more) in
          let spelt = subst (λ (x : ℕ). take (length (piece bytes number)) (get_or blocks x []) ≡ piece bytes number) (sym cell) (spell number inside) in
          read_step bytes l.into c.put_at.new.into (get_or blocks l.cell []) at l.done place n number
          (l.invariant.so_far bytes spell (omega (arith, enough, size)))
          (omega arith) (omega (arith, least)) (omega (arith, least, size, enough, more)) spelt c.put_at.ensures;
    }

pub returns : goal.returns
returns c =
    let l = c.loop-done in
    λ bytes spell enough.
    let size : length l.into ≡ length c.args.into.now = l.auto.into in
    let all : l.done ≡ length c.args.into.now = omega (arith, size, l.invariant.within, c.loop-done-test.false) in
    sym (take_all l.done l.into (omega (arith, size, all))) ∙ l.invariant.so_far bytes spell (omega (arith, size, enough))
    ∙ ap (λ (k : ℕ). take k (drop c.args.at bytes)) all
