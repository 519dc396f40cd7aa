use Rattle.std.proofs.Common.{◌≡◌, ℕ, ◌-◌, List, [], length, get_or, refl, ap, sym, ◌∙◌, subst, arith}
use Rattle.rmt_cells.specs.Links.{after, walk, times}
use Rattle.rmt_cells.specs.Pieces.{IsRun, Spell, cells_for}
use Rattle.rmt_cells.proofs.StandsLaws.{free_run, put_stands}
use Rattle.rmt_cells.proofs.cells.Cells.put.Goals as goal

pub write-self-requires-clause-run : goal.write-self-requires-clause-run
write-self-requires-clause-run c =
    let (count, held, stands) = c.requires.stands in
    let s = c.args.self.now in
    let k = cells_for (length c.args.bytes.now) in
    subst (λ (links : List ℕ). IsRun (length s.blocks.items) links s.first k) (sym c.as_slice.ensures.value)
    (subst (λ (n : ℕ). IsRun n s.links.items s.first k) (sym stands.blocks)
    (free_run count held s stands k (omega (arith, c.cell_count-count.ensures, c.if-count-self.false))))

pub returns-clause-stands : goal.returns-clause-stands
returns-clause-stands c =
    λ count held stands.
    let s = c.args.self.now in
    let bytes = c.args.bytes.now in
    let k = cells_for (length bytes) in
    let links = c.as_slice.ensures.value in
    let w = c.write-self in
    put_stands count held s _ bytes stands c.requires.some (omega (arith, c.cell_count-count.ensures, c.if-count-self.false)) refl
    (w.ensures.behind ∙ ap (λ (ls : List ℕ). after ls s.first k) links)
    (ap (λ (n : ℕ). s.free - n) c.cell_count-count.ensures)
    w.ensures.size
    (subst (λ (ls : List ℕ). Spell w.new.blocks.items ls s.first bytes) links w.ensures.written)
    (subst (λ (ls : List ℕ). (cell : ℕ) → times cell (walk ls s.first k) ≡ 0 → get_or w.new.blocks.items cell [] ≡ get_or s.blocks.items cell []) links w.ensures.others)
