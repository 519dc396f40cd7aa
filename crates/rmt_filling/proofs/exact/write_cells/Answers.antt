use Rattle.std.proofs.Common.{◌≡◌, ◌≢◌, ℕ, ◌+◌, ◌*◌, ◌^◌, ◌<◌, ◌≤◌, List, get_or, take, map, refl, ap, sym, subst, ◌∙◌, Some, arith}
use Rattle.std.specs.Prelude.{All, slice_get, slice_index, sum}
use Rattle.std.specs.List.{AllZip}
use Rattle.std.proofs.lemmas.List.{take_more}
use Rattle.std.proofs.lemmas.List.Elements.{All-take}
use Rattle.rmt_filling.specs.Types.{Test}
use Rattle.rmt_ast.specs.EntryLists.{params_of}
use Rattle.rmt_ast.specs.State.{width_of}
use Rattle.rmt_ast.specs.WellFormed.{Fits, IsTest}
use Rattle.rmt_pack.specs.Placements.{data_bits}
use Rattle.rmt_pack.specs.Rows.{blocks_of}
use Rattle.rmt_pack.specs.Shape.{cells_in}
use Rattle.rmt_pack.proofs.NeedLaws.{data_bits-few}
use Rattle.rmt_config.specs.Rooms.{args_as_one, tests_as_one}
use Rattle.rmt_filling.specs.declared.stands.Stand.{Stand}
use Rattle.rmt_filling.specs.Holding.{ExactSo, PutsCell, data_for, head_for, value_for}
use Rattle.rmt_filling.proofs.EntryLaws.{above-lt, before-one, data-small, entry-there, tests_value-lt, widths-small}
use Rattle.rmt_filling.proofs.ExactLaws.{cell-elsewhere, exact-start, exact-step}
use Rattle.rmt_filling.proofs.exact.write_cells.Goals as goal

pub write_exact-requires : goal.write_exact-requires
write_exact-requires c =
    let p = c.args.part.now.program.now in
    let t = c.args.part.now.table.now in
    let none : Stand = record { cell = 0; entry = 0 } in
    let x = get_or c.args.part.now.stands.now c.loop-stand.stand-index none in
    let e = c.placed_entry-placed.result.entry.now in
    let own = entry-there p t c.args.part.now.entries.now c.args.part.now.first c.requires.part x.entry e c.placed_entry-placed.ensures.entry in
    let params = c.placed_entry-placed.ensures.params in
    record {
      shape = c.requires.shape;
      exact = c.requires.exact;
      cell = c.requires.stands.cells c.loop-stand.stand-index none c.loop-stand-test.true;
      code = subst (λ k. k < 32) (sym c.placed_entry-placed.ensures.code) own.code;
      key = c.requires.key ∙ ap sum (sym c.requires.widths);
      held = subst (λ k. sum c.placed_entry-placed.result.params.now ≤ k) (sym c.requires.held) (subst (λ (ps : List ℕ). sum ps ≤ data_bits p t) (sym params) own.within);
      widths = subst (All (λ w. w ≤ 128)) (sym c.requires.widths) (widths-small p c.requires.part.program t.key);
      params = c.placed_entry-placed.ensures.widths;
      tests = subst (λ (ws : List ℕ). AllZip IsTest ws e.tests) (sym c.requires.widths) own.is_entry.tests;
      args = subst (λ (ps : List ℕ). AllZip Fits ps e.args) (sym params) own.args;
    }

pub loop-stand-init : goal.loop-stand-init
loop-stand-init c = record {
  holds = exact-start c.args.part.now.program.now c.args.part.now.table.now c.args.part.now.entries.now c.args.part.now.first (blocks_of c.args.sram.now) c.args.shape.now c.requires.shape c.requires.zeros;
  others = λ b r out. refl;
}

pub loop-stand-preserved : goal.loop-stand-preserved
loop-stand-preserved c =
    let part = c.args.part.now in
    let p = part.program.now in
    let t = part.table.now in
    let s = c.args.shape.now in
    let stands = part.stands.now in
    let i = c.loop-stand.stand-index in
    let lt = c.loop-stand-test.true in
    let none : Stand = record { cell = 0; entry = 0 } in
    let x = get_or stands i none in
    let e = c.placed_entry-placed.result.entry.now in
    let at : slice_get part.entries.now x.entry ≡ Some e = c.placed_entry-placed.ensures.entry in
    let own = entry-there p t part.entries.now part.first c.requires.part x.entry e at in
    let old = blocks_of c.loop-stand.sram in
    let new = blocks_of c.write_exact.new.sram in
    let code = part.first + e.action in
    let held : s.held < 2 ^ 16 = let le = data_bits-few p c.requires.part.program t in let same = c.requires.held in omega (arith, le, same) in
    let value : value_for p t e < 2 ^ s.key = subst (λ k. value_for p t e < 2 ^ k) (sym c.requires.key) (tests_value-lt (map (width_of p) t.key) e.tests own.is_entry.tests) in
    let data_lt : data_for p t e < 2 ^ s.held =
    data-small (params_of p (slice_index t.actions e.action)) e.args s.held own.args
    (subst (λ k. sum (params_of p (slice_index t.actions e.action)) ≤ k) (sym c.requires.held) own.within) in
    let puts : PutsCell old new s x.cell (head_for code + 256 * value_for p t e) (data_for p t e) =
    subst (λ (ps : List ℕ). PutsCell old new s x.cell (head_for code + 256 * value_for p t e) (args_as_one ps e.args)) c.placed_entry-placed.ensures.params
    (subst (λ (ws : List ℕ). PutsCell old new s x.cell (head_for code + 256 * tests_as_one (λ (u : Test). u.value) ws e.tests) (args_as_one c.placed_entry-placed.result.params.now e.args)) c.requires.widths
    (subst (λ k. PutsCell old new s x.cell (head_for k + 256 * tests_as_one (λ (u : Test). u.value) c.args.widths.now e.tests) (args_as_one c.placed_entry-placed.result.params.now e.args)) c.placed_entry-placed.ensures.code
    c.in_ok-write_exact.ensures)) in
    record {
      holds = subst (ExactSo p t part.entries.now part.first new s) (sym (take_more stands i none lt))
          (exact-step p t part.entries.now part.first old new s (take i stands) x e c.requires.shape c.requires.exact held (c.requires.stands.cells i none lt)
          (All-take (λ (y : Stand). y.cell < cells_in s) i stands c.requires.stands.cells)
          (before-one (λ (a b : Stand). a.cell ≢ b.cell) stands i none c.requires.stands.apart lt) at
          (above-lt code (value_for p t e) s.key own.code value) data_lt puts c.loop-stand.invariant.holds);
      others = λ b r out. cell-elsewhere old new s x.cell (head_for code + 256 * value_for p t e) (data_for p t e) puts b r out ∙ c.loop-stand.invariant.others b r out;
    }
