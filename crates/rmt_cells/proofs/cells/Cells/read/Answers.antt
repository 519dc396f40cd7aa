use Rattle.std.proofs.Common.{ℕ, ◌<◌, List, length, subst, sym, arith}
use Rattle.rmt_cells.specs.Links.{after}
use Rattle.rmt_cells.specs.Pieces.{Spell, cells_for}
use Rattle.rmt_cells.specs.Stands.{Held}
use Rattle.rmt_cells.proofs.Walks.{inside}
use Rattle.rmt_cells.proofs.StandsLaws.{chain_run}
use Rattle.rmt_cells.proofs.cells.Cells.read.Goals as goal

pub read-requires-clause-links : goal.read-requires-clause-links
read-requires-clause-links c =
    let (count, held, bytes, stands, there, enough) = c.requires.held in
    let s = c.args.self.now in
    let h : Held = record { chain = c.args.chain.now; bytes = bytes } in
    λ i lt.
    let below = inside s.links.items c.args.chain.now.first (cells_for (length bytes)) i (omega (arith, lt, enough)) count (chain_run count held s stands h there) in
    subst (λ (links : List ℕ). after links c.args.chain.now.first i < length links) (sym c.as_slice.ensures.value)
    (omega (arith, below, stands.links))

pub returns : goal.returns
returns c = record {
  bytes = λ count held bytes stands there enough.
      let s = c.args.self.now in
      let first = c.args.chain.now.first in
      let h : Held = record { chain = c.args.chain.now; bytes = bytes } in
      let spelt : Spell s.blocks.items s.links.items first bytes = (stands.holds h there).bytes in
      c.read.ensures bytes
      (subst (λ (blocks : List (List ℕ)). Spell blocks c.as_slice.result.now first bytes) (sym c.as_slice-blocks.ensures.value)
      (subst (λ (links : List ℕ). Spell s.blocks.items links first bytes) (sym c.as_slice.ensures.value) spelt))
      enough;
}
