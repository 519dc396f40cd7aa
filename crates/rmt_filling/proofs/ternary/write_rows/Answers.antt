use Rattle.std.proofs.Common.{◌≡◌, ◌≢◌, ℕ, ◌+◌, ◌*◌, ◌/◌, ◌%◌, ◌^◌, ◌<◌, ◌≤◌, List, length, get_or, take, map, refl, ap, sym, subst, ◌∙◌, Some, arith}
use Rattle.std.specs.Prelude.{All, slice_get, slice_index, sum}
use Rattle.std.specs.List.{AllZip}
use Rattle.std.proofs.lemmas.List.{take_more}
use Rattle.std.proofs.lemmas.List.Elements.{All-take}
use Rattle.std.proofs.lemmas.Nat.{div_below, mul-le}
use Rattle.rmt_filling.specs.Types.{Test}
use Rattle.rmt_ast.specs.EntryLists.{params_of}
use Rattle.rmt_ast.specs.State.{width_of}
use Rattle.rmt_ast.specs.WellFormed.{Fits, IsTest}
use Rattle.rmt_config.specs.Cells.{blocks_at}
use Rattle.rmt_config.specs.BlockCounts.{divided_up}
use Rattle.rmt_pack.specs.Cells.{PutsRecord}
use Rattle.rmt_pack.specs.Placements.{data_bits, key_bits}
use Rattle.rmt_pack.specs.Rows.{blocks_of}
use Rattle.rmt_pack.specs.Shape.{cells_in}
use Rattle.rmt_pack.proofs.NeedLaws.{data_bits-few}
use Rattle.rmt_pack.proofs.ShapeLaws.{ternary-cells}
use Rattle.rmt_config.specs.Rooms.{args_as_one, tests_as_one}
use Rattle.rmt_filling.specs.declared.stands.Stand.{Stand}
use Rattle.rmt_filling.specs.Holding.{Held, PutsRow, TernarySo, data_for, head_for, mask_for, value_for}
use Rattle.rmt_filling.specs.Listing.{masks_of, values_of}
use Rattle.rmt_filling.proofs.EntryLaws.{above-lt, before-one, data-small, entry-there, tests_mask-lt, widths-small}
use Rattle.rmt_filling.proofs.ExactLaws.{record-elsewhere, unit-listed}
use Rattle.rmt_filling.proofs.TernaryLaws.{ternary-start, ternary-step}
use Rattle.rmt_filling.proofs.ternary.write_rows.Goals as goal

abbrev no_stand : Stand
no_stand = record { cell = 0; entry = 0 }

-- the blocks of a row are there
room : (cell quanta each long : ℕ) → cell < 2048 * quanta → long ≡ quanta * each → cell / 2048 * each + each ≤ long
room cell quanta each long lt is =
    let below : cell / 2048 < quanta = div_below cell 2048 quanta (omega arith) (omega (arith, lt)) in
    let next : (cell / 2048 + 1) * each ≡ cell / 2048 * each + each = omega arith in
    omega (arith, mul-le (cell / 2048 + 1) each quanta each (omega (arith, below)) (omega arith), next, is)

pub write_tests-requires : goal.write_tests-requires
write_tests-requires c =
    let p = c.args.part.now.program.now in
    let t = c.args.part.now.table.now in
    let i = c.loop-stand.stand-index in
    let x = get_or c.args.part.now.stands.now i no_stand in
    let e = c.placed_entry-placed.result.entry.now in
    let own = entry-there p t c.args.part.now.entries.now c.args.part.now.first c.requires.part x.entry e c.placed_entry-placed.ensures.entry in
    let blocks = c.requires.blocks in
    let bits : key_bits p t ≡ sum c.args.widths.now = ap sum (sym c.requires.widths) in
    let below : x.cell < 2048 * c.args.shape.now.quanta = subst (λ k. x.cell < k) (ternary-cells c.args.shape.now (λ one. let two = c.requires.ternary in omega (arith, one, two))) (c.requires.stands.cells i no_stand c.loop-stand-test.true) in
    record {
      blocks = blocks.few;
      apart = blocks.apart;
      widths = subst (All (λ w. w ≤ 128)) (sym c.requires.widths) (widths-small p c.requires.part.program t.key);
      narrow = let most = c.requires.shape.most_key in let key = c.requires.key in omega (arith, most, key, bits);
      tests = subst (λ (ws : List ℕ). AllZip IsTest ws e.tests) (sym c.requires.widths) own.is_entry.tests;
      room = subst (λ k. x.cell / 2048 * divided_up k 40 + divided_up k 40 ≤ length c.args.blocks.now) bits (room x.cell c.args.shape.now.quanta (divided_up (key_bits p t) 40) (length c.args.blocks.now) below blocks.long);
    }

pub write_head-requires : goal.write_head-requires
write_head-requires c =
    let p = c.args.part.now.program.now in
    let t = c.args.part.now.table.now in
    let x = get_or c.args.part.now.stands.now c.loop-stand.stand-index no_stand in
    let e = c.placed_entry-placed.result.entry.now in
    let own = entry-there p t c.args.part.now.entries.now c.args.part.now.first c.requires.part x.entry e c.placed_entry-placed.ensures.entry in
    let params = c.placed_entry-placed.ensures.params in
    let fits : sum c.placed_entry-placed.result.params.now ≤ data_bits p t = subst (λ (ps : List ℕ). sum ps ≤ data_bits p t) (sym params) own.within in
    record {
      shape = c.requires.shape;
      cell = c.requires.stands.cells c.loop-stand.stand-index no_stand c.loop-stand-test.true;
      code = subst (λ k. k < 32) (sym c.placed_entry-placed.ensures.code) own.code;
      held = let held = c.requires.held in omega (arith, fits, held);
      params = c.placed_entry-placed.ensures.widths;
      args = subst (λ (ps : List ℕ). AllZip Fits ps e.args) (sym params) own.args;
    }

pub loop-stand-init : goal.loop-stand-init
loop-stand-init c = record {
  holds = ternary-start c.args.part.now.program.now c.args.part.now.table.now c.args.part.now.entries.now c.args.part.now.first
      (record { sram = blocks_of c.args.sram.now; values = values_of c.args.tcam.now; masks = masks_of c.args.tcam.now }) c.args.shape.now c.args.blocks.now c.requires.shape
      c.requires.zeros c.requires.zero_values c.requires.zero_masks;
  others = λ b r out. refl;
  other_values = λ b r out. refl;
  other_masks = λ b r out. refl;
}

pub loop-stand-preserved : goal.loop-stand-preserved
loop-stand-preserved c =
    let p = c.args.part.now.program.now in
    let t = c.args.part.now.table.now in
    let es = c.args.part.now.entries.now in
    let i = c.loop-stand.stand-index in
    let lt = c.loop-stand-test.true in
    let x = get_or c.args.part.now.stands.now i no_stand in
    let e = c.placed_entry-placed.result.entry.now in
    let at : slice_get es x.entry ≡ Some e = c.placed_entry-placed.ensures.entry in
    let own = entry-there p t es c.args.part.now.first c.requires.part x.entry e at in
    let s = c.args.shape.now in
    let stands = c.args.part.now.stands.now in
    let blocks = c.args.blocks.now in
    let old : Held = record { sram = blocks_of c.loop-stand.sram; values = values_of c.loop-stand.tcam; masks = masks_of c.loop-stand.tcam } in
    let new : Held = record { sram = blocks_of c.write_head.new.sram; values = values_of c.write_tests.new.tcam; masks = masks_of c.write_tests.new.tcam } in
    let code = c.args.part.now.first + e.action in
    let held : s.held < 2 ^ 16 = let le = data_bits-few p c.requires.part.program t in let same = c.requires.held in omega (arith, le, same) in
    let mask : mask_for p t e < 2 ^ s.key = subst (λ k. mask_for p t e < 2 ^ k) (sym c.requires.key) (tests_mask-lt (map (width_of p) t.key) e.tests own.is_entry.tests) in
    let whole : head_for code + 256 * data_for p t e < 2 ^ s.held =
    subst (λ k. head_for code + 256 * data_for p t e < 2 ^ k) (sym c.requires.held)
    (above-lt code (data_for p t e) (data_bits p t) own.code (data-small (params_of p (slice_index t.actions e.action)) e.args (data_bits p t) own.args own.within)) in
    let puts : PutsRecord old.sram new.sram s x.cell (head_for code + 256 * data_for p t e) =
    subst (λ (ps : List ℕ). PutsRecord old.sram new.sram s x.cell (head_for code + 256 * args_as_one ps e.args)) c.placed_entry-placed.ensures.params
    (subst (λ k. PutsRecord old.sram new.sram s x.cell (head_for k + 256 * args_as_one c.placed_entry-placed.result.params.now e.args)) c.placed_entry-placed.ensures.code c.in_ok-write_head.ensures) in
    let key : map (width_of p) t.key ≡ c.args.widths.now = sym c.requires.widths in
    let bits : sum c.args.widths.now ≡ s.key = ap sum c.requires.widths ∙ sym c.requires.key in
    let values : PutsRow old.values new.values (x.cell % 2048) (blocks_at blocks (divided_up s.key 40) (x.cell / 2048)) (value_for p t e) =
    subst (λ k. PutsRow old.values new.values (x.cell % 2048) (blocks_at blocks (divided_up k 40) (x.cell / 2048)) (value_for p t e)) bits
    (subst (λ (ws : List ℕ). PutsRow old.values new.values (x.cell % 2048) (blocks_at blocks (divided_up (sum c.args.widths.now) 40) (x.cell / 2048)) (tests_as_one (λ (u : Test). u.value) ws e.tests)) c.requires.widths c.in_ok-write_tests.ensures.values) in
    let masks : PutsRow old.masks new.masks (x.cell % 2048) (blocks_at blocks (divided_up s.key 40) (x.cell / 2048)) (mask_for p t e) =
    subst (λ k. PutsRow old.masks new.masks (x.cell % 2048) (blocks_at blocks (divided_up k 40) (x.cell / 2048)) (mask_for p t e)) bits
    (subst (λ (ws : List ℕ). PutsRow old.masks new.masks (x.cell % 2048) (blocks_at blocks (divided_up (sum c.args.widths.now) 40) (x.cell / 2048)) (tests_as_one (λ (u : Test). u.mask) ws e.tests)) c.requires.widths c.in_ok-write_tests.ensures.masks) in
    let each = divided_up s.key 40 in
    record {
      holds = subst (TernarySo p t es c.args.part.now.first new s blocks) (sym (take_more stands i no_stand lt))
          (ternary-step p t es c.args.part.now.first old new s blocks (take i stands) x e c.requires.shape held c.requires.blocks.apart (c.requires.stands.cells i no_stand lt)
          (All-take (λ (y : Stand). y.cell < cells_in s) i stands c.requires.stands.cells)
          (before-one (λ (a b : Stand). a.cell ≢ b.cell) stands i no_stand c.requires.stands.apart lt) at whole mask puts values masks c.loop-stand.invariant.holds);
      others = λ b r out. record-elsewhere old.sram new.sram s x.cell (head_for code + 256 * data_for p t e) puts b r out ∙ c.loop-stand.invariant.others b r out;
      other_values = λ b r out. values.elsewhere b r (λ same has. out (unit-listed blocks each (x.cell / 2048 * each) b has)) ∙ c.loop-stand.invariant.other_values b r out;
      other_masks = λ b r out. masks.elsewhere b r (λ same has. out (unit-listed blocks each (x.cell / 2048 * each) b has)) ∙ c.loop-stand.invariant.other_masks b r out;
    }
