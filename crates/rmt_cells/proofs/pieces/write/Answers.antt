use Rattle.std.proofs.Common.{◌≡◌, ℕ, ◌-◌, ◌*◌, ◌<◌, List, length, take, drop, refl, sym, subst, ◌∙◌, arith}
use Rattle.std.proofs.lemmas.List.{length-set}
use Rattle.rmt_cells.specs.Links.{after}
use Rattle.rmt_cells.specs.Pieces.{IsRun, cells_for, piece}
use Rattle.rmt_cells.proofs.Walks.{after_more, inside}
use Rattle.rmt_cells.proofs.Spelling.{others_more, piece_cut, written_more}
use Rattle.rmt_cells.proofs.pieces.write.Goals as goal

pub index_mut-requires : goal.index_mut-requires
index_mut-requires c =
    let l = c.loop-number in
    let lt = inside c.args.links.now c.args.first (cells_for (length c.args.bytes.now)) l.number (omega arith) (length c.args.blocks.now.items) c.requires.run in
    omega (arith, lt, l.invariant.cell, l.invariant.size)

pub bounds-links-cell : goal.bounds-links-cell
bounds-links-cell c =
    let l = c.loop-number in
    let lt = inside c.args.links.now c.args.first (cells_for (length c.args.bytes.now)) l.number (omega arith) (length c.args.blocks.now.items) c.requires.run in
    omega (arith, lt, l.invariant.cell, c.requires.links)

pub loop-number-preserved : goal.loop-number-preserved
loop-number-preserved c =
    let l = c.loop-number in
    let links = c.args.links.now in
    let bytes = c.args.bytes.now in
    let k = cells_for (length bytes) in
    let block = c.fill.new.block in
    let run : IsRun (length l.blocks.items) links c.args.first k =
    subst (λ (n : ℕ). IsRun n links c.args.first k) (sym l.invariant.size) c.requires.run in
    let cut : take (c.min-to.result - l.number * 64) (drop (l.number * 64) bytes) ≡ piece bytes l.number =
    piece_cut bytes (l.number * 64) c.min-to.result l.number refl c.min-to.ensures in
    let here : take (length (piece bytes l.number)) block ≡ piece bytes l.number =
    subst (λ (part : List ℕ). take (length part) block ≡ part) cut c.fill.ensures in
    let lt : l.number < k = omega arith in
    rw l.invariant.cell (record {
      cell = sym (after_more links c.args.first l.number);
      size = length-set l.blocks.items (after links c.args.first l.number) block ∙ l.invariant.size;
      written = written_more l.blocks.items links c.args.first k l.number bytes block run lt l.invariant.written here;
      others = others_more l.blocks.items links c.args.first k l.number bytes block run lt c.args.blocks.now.items l.invariant.others;
    })
