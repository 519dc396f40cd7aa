use Rattle.std.proofs.Common.{◌≡◌, ℕ, ◌+◌, ◌-◌, ◌<◌, List, length, set, refl, ap, sym, ◌∙◌, subst, arith}
use Rattle.rmt_cells.specs.Links.{after}
use Rattle.rmt_cells.specs.Pieces.{cells_for}
use Rattle.rmt_cells.specs.Stands.{Held}
use Rattle.rmt_cells.proofs.Walks.{inside}
use Rattle.rmt_cells.proofs.StandsLaws.{chain_run, contains_middle, given_back}
use Rattle.rmt_cells.proofs.cells.Cells.give_back.Goals as goal

pub overflow_sub-count : goal.overflow_sub-count
overflow_sub-count c =
    let (count, front, back, bytes, stands) = c.requires.held in
    let h : Held = record { chain = c.args.chain; bytes = bytes } in
    let holds = stands.holds h (contains_middle front back h) in
    let len = holds.len in
    let some = holds.some in
    omega (arith, len, some, c.cell_count-count.ensures)

pub after-last-requires : goal.after-last-requires
after-last-requires c =
    let (count, front, back, bytes, stands) = c.requires.held in
    let s = c.args.self.now in
    let first = c.args.chain.first in
    let h : Held = record { chain = c.args.chain; bytes = bytes } in
    let there = contains_middle front back h in
    let len = (stands.holds h there).len in
    λ i lt.
    let below = inside s.links.items first (cells_for (length bytes)) i (omega (arith, lt, len, c.cell_count-count.ensures)) count (chain_run count _ s stands h there) in
    subst (λ (links : List ℕ). after links first i < length links) (sym c.as_slice.ensures.value) (omega (arith, below, stands.links))

pub index_mut-requires : goal.index_mut-requires
index_mut-requires c =
    let (count, front, back, bytes, stands) = c.requires.held in
    let s = c.args.self.now in
    let first = c.args.chain.first in
    let h : Held = record { chain = c.args.chain; bytes = bytes } in
    let there = contains_middle front back h in
    let holds = stands.holds h there in
    let len = holds.len in
    let some = holds.some in
    let n : c.cell_count-count.result ≡ cells_for (length bytes) = c.cell_count-count.ensures ∙ ap cells_for len in
    let below = inside s.links.items first (cells_for (length bytes)) (cells_for (length bytes) - 1) (omega (arith, some)) count (chain_run count _ s stands h there) in
    let is : c.after-last.result ≡ after s.links.items first (cells_for (length bytes) - 1) =
    c.after-last.ensures ∙ ap (λ (links : List ℕ). after links first (c.cell_count-count.result - 1)) c.as_slice.ensures.value
    ∙ ap (λ (k : ℕ). after s.links.items first (k - 1)) n in
    omega (arith, is, below, stands.links)

pub returns : goal.returns
returns c = record {
  stands = λ count front back bytes stands.
      let s = c.args.self.now in
      let first = c.args.chain.first in
      let h : Held = record { chain = c.args.chain; bytes = bytes } in
      let len = (stands.holds h (contains_middle front back h)).len in
      let n : c.cell_count-count.result ≡ cells_for (length bytes) = c.cell_count-count.ensures ∙ ap cells_for len in
      let is : c.after-last.result ≡ after s.links.items first (cells_for (length bytes) - 1) =
      c.after-last.ensures ∙ ap (λ (links : List ℕ). after links first (c.cell_count-count.result - 1)) c.as_slice.ensures.value
      ∙ ap (λ (k : ℕ). after s.links.items first (k - 1)) n in
      given_back count front back h s _ stands (ap (λ (cell : ℕ). set s.links.items cell s.first) is) refl (ap (λ (k : ℕ). s.free + k) n) refl;
}
