use Rattle.std.proofs.Common.{◌≡◌, ◌+◌, ◌<◌, ◌^◌, List, true, get_or, length, map, take, refl, sym, ap, ◌∙◌, subst, arith}
use Rattle.std.specs.List.{AllZip}
use Rattle.std.proofs.lemmas.Bool.{and_parts}
use Rattle.std.proofs.lemmas.List.{take_all}
use Rattle.rmt_bits.specs.Bits.{number_of}
use Rattle.rmt_ast.specs.declared.program.Kind.{Kind}
use Rattle.rmt_config.specs.declared.config.CellNumber.{CellNumber}
use Rattle.rmt_config.specs.Cells.{cells_in}
use Rattle.rmt_config.specs.LaneForm.{bits_of_lanes}
use Rattle.rmt_config.specs.NamesForm.{held_by, is_of_kind, rank_in}
use Rattle.rmt_config.specs.Order.{rises_from}
use Rattle.rmt_config.proofs.PrefixRowLaws.{cells-within}
use Rattle.rmt_book.specs.Listed.{IsRanked}
use Rattle.rmt_config.specs.PartsTold.{part_at}
use Rattle.rmt_book.proofs.ListedLaws.{one-more}
use Rattle.rmt_book.proofs.RankLaws.{mask-fits, rank-is}
use Rattle.rmt_book.proofs.ShapeLaws.{kind-has}
use Rattle.rmt_book.proofs.table.part_cells.Goals as goal

abbrev first : CellNumber
first = record { cell = 0; number = 0 }

pub cell_of-requires-clause-cell : goal.cell_of-requires-clause-cell
cell_of-requires-clause-cell c =
    let part = part_at c.args.part.now in
    let i = c.loop-number.number-index in
    let there = ap (λ (ns : List CellNumber). length ns) c.as_slice-number-items.ensures in
    let below = cells-within c.args.config.now part c.requires.stands i first (omega (arith, there)) in
    subst (λ (ns : List CellNumber). (get_or ns i first).cell < cells_in part.slot.memory) (sym c.as_slice-number-items.ensures) below

pub rank_of-requires-clause-mask : goal.rank_of-requires-clause-mask
rank_of-requires-clause-mask c = λ is.
    let t = c.args.table.now in
    let part = part_at c.args.part.now in
    let n : CellNumber = get_or c.as_slice-number-items.result.now c.loop-number.number-index first in
    subst (λ b. number_of c.in_ok-kept.kept.mask.items < 2 ^ b) (sym c.requires.bits)
    (mask-fits c.args.config.now part c.requires.stands n.cell c.in_ok-kept.kept.mask.items part.slot.memory refl
    (subst (λ (k : Kind). is_of_kind k part.slot.memory ≡ true) is c.requires.kind) c.in_ok-kept.ensures.kept.mask)

pub loop-number-preserved : goal.loop-number-preserved
loop-number-preserved c =
    let t = c.args.table.now in
    let config = c.args.config.now in
    let part = part_at c.args.part.now in
    let numbers = c.as_slice-number-items.result.now in
    let same : numbers ≡ part.slot.numbers = c.as_slice-number-items.ensures in
    let i = c.loop-number.number-index in
    let n : CellNumber = get_or numbers i first in
    let h = c.in_ok-kept.ensures.kept in
    let zip : AllZip (IsRanked config t part) (take i numbers) c.loop-number.cells.entries =
    subst (λ (ns : List CellNumber). AllZip (IsRanked config t part) (take i ns) c.loop-number.cells.entries) (sym same) c.loop-number.invariant in
    let rise : rises_from 0 (map (λ (x : CellNumber). x.cell) numbers) ≡ true =
    subst (λ (ns : List CellNumber). rises_from 0 (map (λ (x : CellNumber). x.cell) ns) ≡ true) (sym same) (and_parts _ _ (and_parts _ _ c.requires.stands.holds.numbers).0).0 in
    subst (λ (ns : List CellNumber). AllZip (IsRanked config t part) (take (i + 1) ns) c.insert.new.self.entries) same
    (one-more (IsRanked config t part) (λ m e r. r.at) numbers i first c.loop-number.cells.entries c.insert.new.self.entries _ rise c.loop-number-test.true zip c.in_ok-insert.ensures.entries
    (record {
      at = refl;
      kept = record { cell = h.cell; number = h.number; visible = h.visible; code = h.code; key = h.key; mask = h.mask; held = h.held };
      bytes = c.in_ok-kept.ensures.bytes;
      rank =
          c.rank_of.ensures ∙ ap (λ m. rank_in t.kind t (number_of c.in_ok-kept.kept.mask.items) m) h.number
          ∙ rank-is t.kind t part.slot.memory (bits_of_lanes part.slot.keys) c.in_ok-kept.kept.mask.items (held_by config part n).mask n.number c.requires.kind h.mask;
    }))

pub returns : goal.returns
returns c =
    let t = c.args.table.now in
    let config = c.args.config.now in
    let part = part_at c.args.part.now in
    let numbers = c.as_slice-number-items.result.now in
    let same : numbers ≡ part.slot.numbers = c.as_slice-number-items.ensures in
    let there = ap (λ (ns : List CellNumber). length ns) same in
    let i = c.loop-number.number-index in
    record {
      stage = refl;
      place = refl;
      first = refl;
      shape = c.shape_of.ensures;
      cells = subst (λ (ns : List CellNumber). AllZip (IsRanked config t part) ns c.loop-number.cells.entries)
          (take_all i part.slot.numbers (let past = c.loop-number-test.false in omega (arith, past, there))) c.loop-number.invariant;
    }

pub shape_of-requires-clause-formed : goal.shape_of-requires-clause-formed
shape_of-requires-clause-formed c = c.requires.stands.slot

pub shape_of-requires-clause-memory : goal.shape_of-requires-clause-memory
shape_of-requires-clause-memory c = kind-has c.args.table.now.kind c.args.part.now.slot.now.memory c.requires.kind
