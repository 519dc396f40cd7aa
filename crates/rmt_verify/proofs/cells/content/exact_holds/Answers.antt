use Rattle.std.proofs.Common.{◌≡◌, ◌==◌, ℕ, ◌+◌, ◌-◌, ◌*◌, ◌/◌, ◌%◌, ◌^◌, ◌<◌, ◌≤◌, false, All, Contains, List, length, sum, sym, subst, ap, ◌∙◌, arith}
use Rattle.std.specs.List.{AllZip}
use Rattle.rmt_bits.specs.Bits.{bytes_of, number_of}
use Rattle.rmt_bits.specs.declared.lane.Lane.{Lane}
use Rattle.rmt_ast.specs.declared.program.Test.{Test}
use Rattle.rmt_ast.specs.WellFormed.{Fits, IsTest}
use Rattle.rmt_config.specs.declared.form.layout.CellLayout.{CellLayout}
use Rattle.rmt_config.specs.Cells.{candidates, cell_of, data_at, entry_at, exact_content, sram_row}
use Rattle.rmt_config.specs.LaneForm.{bits_of_lanes}
use Rattle.rmt_config.specs.Rooms.{tests_as_one}
use Rattle.rmt_config.specs.BlockCounts.{divided_up}
use Rattle.rmt_config.specs.declared.config.Memory.TheVariants.{Exact}
use Rattle.rmt_config.specs.Rooms.{mask_or_value}
use Rattle.rmt_verify.proofs.ContentLaws.{args_along, code_told, exact_all, exact_head, exact_key, exact_key-lt, key_cell, key_few, key_room, key_small, stands_told, told_along, way_low}
use Rattle.rmt_verify.proofs.cells.content.exact_holds.Goals as goal
use Rattle.rmt_config.proofs.LayoutLaws.{bytes_hold}

pub key_bits-bits-requires : goal.key_bits-bits-requires
key_bits-bits-requires c = subst (λ (ls : List Lane). bits_of_lanes ls ≤ 640) (sym c.as_slice.ensures) c.requires.fits.most_bits

pub exact_keys-layout-requires : goal.exact_keys-layout-requires
exact_keys-layout-requires c = subst (λ n. n ≤ 640) (sym (c.key_bits-bits.ensures ∙ ap bits_of_lanes c.as_slice.ensures)) c.requires.fits.most_bits

pub head_of-requires-clause-head : goal.head_of-requires-clause-head
head_of-requires-clause-head c = subst (λ (l : CellLayout). 8 ≤ l.entry) (sym c.exact_keys-layout.ensures) (omega arith)

pub entry_bytes-requires-clause-bits : goal.entry_bytes-requires-clause-bits
entry_bytes-requires-clause-bits c = subst (λ (l : CellLayout). 8 + c.key_bits-bits.result ≤ l.entry) (sym c.exact_keys-layout.ensures) (omega arith)

pub exact_data-requires : goal.exact_data-requires
exact_data-requires c =
    let fits = c.requires.fits in
    record { rows = c.requires.rows; per = fits.some_p; quanta = fits.some_d; few = fits.most_d; records = fits.records; cell = c.requires.cell }

pub stands_at-stands-requires : goal.stands_at-stands-requires
stands_at-stands-requires c = record { per = c.requires.fits.some_p; quanta = c.requires.fits.some_d; ways = c.requires.ways; cell = c.requires.cell }

pub are_arguments-has_data-requires : goal.are_arguments-has_data-requires
are_arguments-has_data-requires c =
    let wanted = c.requires.wanted in
    let read = ap (λ (bs : List ℕ). length bs) c.deref-3.ensures.value in
    let params = ap sum c.as_slice-4.ensures in
    let all = wanted.all in
    let long = c.in_ok-data.ensures.long in
    record {
      args = subst (λ (ps : List ℕ). AllZip Fits ps c.as_slice-5.result.now) (sym c.as_slice-4.ensures) (subst (λ (xs : List ℕ). AllZip Fits c.args.wanted.now.params.now xs) (sym c.as_slice-5.ensures) wanted.args);
      narrow = subst (All (λ w. w ≤ 128)) (sym c.as_slice-4.ensures) wanted.short;
      few = subst (λ (bs : List ℕ). length bs < 2 ^ 16) (sym c.deref-3.ensures.value) c.in_ok-data.ensures.few;
      room = omega (arith, read, params, all, long);
    }

pub are_tests-has_key-requires-clause-tests : goal.are_tests-has_key-requires-clause-tests
are_tests-has_key-requires-clause-tests c =
    subst (λ (ws : List ℕ). AllZip IsTest ws c.as_slice-3.result.now) (sym c.as_slice-2.ensures) (subst (λ (ts : List Test). AllZip IsTest c.args.wanted.now.widths.now ts) (sym c.as_slice-3.ensures) c.requires.wanted.tests)

pub are_tests-has_key-requires-clause-narrow : goal.are_tests-has_key-requires-clause-narrow
are_tests-has_key-requires-clause-narrow c = subst (All (λ w. w ≤ 128)) (sym c.as_slice-2.ensures) c.requires.wanted.narrow

pub head_of-requires-clause-cell : goal.head_of-requires-clause-cell
head_of-requires-clause-cell c =
    let m = c.args.memory.now in
    key_cell c.args.slot.now m.width m.per m.quanta m.keys.now m.records.now c.args.rows.now c.exact_keys-layout.result c.key_bits-bits.result c.args.wanted.now.cell c.requires.fits c.requires.rows c.exact_keys-layout.ensures
    (c.key_bits-bits.ensures ∙ ap bits_of_lanes c.as_slice.ensures) c.requires.cell

pub entry_bytes-requires-clause-cell : goal.entry_bytes-requires-clause-cell
entry_bytes-requires-clause-cell c =
    let m = c.args.memory.now in
    key_cell c.args.slot.now m.width m.per m.quanta m.keys.now m.records.now c.args.rows.now c.exact_keys-layout.result c.key_bits-bits.result c.args.wanted.now.cell c.requires.fits c.requires.rows c.exact_keys-layout.ensures
    (c.key_bits-bits.ensures ∙ ap bits_of_lanes c.as_slice.ensures) c.requires.cell

-- what stands above the head is what is read as the key
abbrev above : goal.After-as_slice-3 → ℕ
above c = entry_at (sram_row c.args.rows.now) c.args.memory.now.keys.now c.args.memory.now.width (bits_of_lanes c.args.slot.now.keys) (cell_of (1024 * c.args.memory.now.quanta) c.args.memory.now.per c.args.wanted.now.cell) / 256

key_read : (c : goal.After-as_slice-3) → c.deref.result.now ≡ bytes_of (divided_up (bits_of_lanes c.args.slot.now.keys) 8) (above c)
key_read c =
    let memory = c.args.memory.now in
    c.deref.ensures.value
    ∙ exact_key (sram_row c.args.rows.now) memory.keys.now memory.width memory.per memory.quanta (bits_of_lanes c.args.slot.now.keys) c.args.wanted.now.cell c.requires.fits.some_p c.requires.fits.some_d c.exact_keys-layout.result
    c.key_bits-bits.result c.in_ok-key.key.items c.exact_keys-layout.ensures (c.key_bits-bits.ensures ∙ ap bits_of_lanes c.as_slice.ensures) c.in_ok-key.ensures

as_wide : (c : goal.After-as_slice-3) → bits_of_lanes c.args.slot.now.keys ≡ sum c.as_slice-2.result.now
as_wide c = c.requires.bits ∙ ap sum (sym c.as_slice-2.ensures)

pub are_tests-has_key-requires-clause-few : goal.are_tests-has_key-requires-clause-few
are_tests-has_key-requires-clause-few c = key_few (bits_of_lanes c.args.slot.now.keys) (above c) c.deref.result.now c.requires.fits.most_bits (key_read c)

pub are_tests-has_key-requires-clause-room : goal.are_tests-has_key-requires-clause-room
are_tests-has_key-requires-clause-room c = key_room (bits_of_lanes c.args.slot.now.keys) (above c) (sum c.as_slice-2.result.now) c.deref.result.now (as_wide c) (key_read c)

pub are_tests-has_key-requires-clause-small : goal.are_tests-has_key-requires-clause-small
are_tests-has_key-requires-clause-small c =
    let memory = c.args.memory.now in
    let bits = bits_of_lanes c.args.slot.now.keys in
    key_small bits (above c) (sum c.as_slice-2.result.now) c.deref.result.now (as_wide c) (key_read c)
    (exact_key-lt (sram_row c.args.rows.now) memory.keys.now memory.width memory.per memory.quanta bits c.args.wanted.now.cell c.requires.fits.some_p c.requires.fits.some_d)

pub returns : goal.returns
returns c = λ cs.
    let memory = c.args.memory.now in
    let slot = c.args.slot.now in
    let e = c.args.wanted.now.entry.now in
    let cell : ℕ = c.args.wanted.now.cell in
    let bits : ℕ = bits_of_lanes slot.keys in
    let sram = sram_row c.args.rows.now in
    let ks = memory.keys.now in
    let rs = memory.records.now in
    let at = cell_of (1024 * memory.quanta) memory.per cell in
    let stands : ℕ = entry_at sram ks memory.width bits at in
    let held : ℕ = data_at sram rs memory.per slot.held at in
    let ws : List ℕ = c.args.wanted.now.widths.now in
    let ps : List ℕ = c.args.wanted.now.params.now in
    let some_p = c.requires.fits.some_p in
    let some_d = c.requires.fits.some_d in
    let same : c.key_bits-bits.result ≡ bits = c.key_bits-bits.ensures ∙ ap bits_of_lanes c.as_slice.ensures in
    let head_is : c.in_ok-head.head ≡ stands % 256 = exact_head sram ks memory.width memory.per memory.quanta bits cell some_p some_d c.exact_keys-layout.result c.key_bits-bits.result c.in_ok-head.head c.exact_keys-layout.ensures same c.in_ok-head.ensures in
    let key_is : c.in_ok-key.key.items ≡ bytes_of (divided_up bits 8) (stands / 256) = exact_key sram ks memory.width memory.per memory.quanta bits cell some_p some_d c.exact_keys-layout.result c.key_bits-bits.result c.in_ok-key.key.items c.exact_keys-layout.ensures same c.in_ok-key.ensures in
    let key_lt = exact_key-lt sram ks memory.width memory.per memory.quanta bits cell some_p some_d in
    let number : number_of c.deref.result.now ≡ stands / 256 = ap number_of (c.deref.ensures.value ∙ key_is) ∙ bytes_hold bits (stands / 256) key_lt in
    let tests : tests_as_one (mask_or_value false) c.as_slice-2.result.now c.as_slice-3.result.now ≡ tests_as_one (λ t. t.value) ws e.tests =
    ap (λ (z : List ℕ). tests_as_one (mask_or_value false) z c.as_slice-3.result.now) c.as_slice-2.ensures ∙ ap (λ (z : List Test). tests_as_one (mask_or_value false) ws z) c.as_slice-3.ensures in
    let read : number_of c.deref-3.result.now ≡ held = ap number_of c.deref-3.ensures.value ∙ c.in_ok-data.ensures.number in
    exact_all ws ps c.args.wanted.now.code e (exact_content sram slot memory.width memory.per ks rs at)
    (λ key. Contains (candidates c.args.seed bits (Exact memory.width memory.per memory.quanta memory.first_way ks rs cs) key) cell)
    (c.in_ok-head.head / 8 == c.args.wanted.now.code) c.are_tests-has_key.result c.stands_at-stands.result c.are_arguments-has_data.result
    (code_told c.in_ok-head.head stands c.args.wanted.now.code head_is)
    (told_along c.are_tests-has_key.result (number_of c.deref.result.now) (stands / 256) (tests_as_one (mask_or_value false) c.as_slice-2.result.now c.as_slice-3.result.now) (tests_as_one (λ t. t.value) ws e.tests) c.are_tests-has_key.ensures number tests)
    (ap (λ n. 2 ^ n - 1) c.requires.bits ∙ sym c.requires.whole)
    (stands_told memory.width memory.per memory.quanta memory.first_way ks rs cs c.args.seed bits (stands / 256) cell c.deref-2.result.now c.stands_at-stands.result some_p some_d
    (way_low memory.per memory.quanta cell some_p some_d c.requires.cell) (c.deref-2.ensures.value ∙ key_is) c.stands_at-stands.ensures)
    (args_along c.are_arguments-has_data.result c.as_slice-4.result.now ps c.as_slice-5.result.now e.args (number_of c.deref-3.result.now) held c.are_arguments-has_data.ensures c.as_slice-4.ensures c.as_slice-5.ensures read)
