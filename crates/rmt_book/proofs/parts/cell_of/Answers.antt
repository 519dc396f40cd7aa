use Rattle.std.proofs.Common.{◌≡◌, ℕ, ◌*◌, ◌/◌, ◌^◌, ◌<◌, List, [], Result, Ok, Err, get_or, length, true, sym, refl, ap, ◌∙◌, subst}
use Rattle.std.specs.Prelude.{IfOk}
use Rattle.std.proofs.lemmas.Bool.{and_parts}
use Rattle.std.proofs.lemmas.Option.{get_or_from_slice_get}
use Rattle.std.proofs.lemmas.Result.{IfOk-weaker}
use Rattle.rmt_config.specs.declared.config.Memory.{Memory}
use Rattle.rmt_config.specs.declared.config.Memory.TheVariants.{Exact, Ternary}
use Rattle.rmt_config.specs.declared.config.SramRow.{SramRow}
use Rattle.rmt_config.specs.declared.config.Stage.{Stage}
use Rattle.rmt_config.specs.Cells.{Content, cell_of, cells_in, content_of, exact_content, sram_row, ternary_content, blocks_at}
use Rattle.rmt_config.specs.LaneForm.{bits_of_lanes}
use Rattle.rmt_config.specs.MemoryRules.{ExactFits, FormedRows, SramRows, TernaryFits}
use Rattle.rmt_config.specs.PrefixRow.{PrefixRows}
use Rattle.rmt_config.specs.RunCells.{own_content}
use Rattle.rmt_config.specs.BlockCounts.{divided_up}
use Rattle.rmt_config.specs.UnitForm.{memory_is_formed, slot_head_is_formed}
use Rattle.rmt_config.proofs.PrefixRowLaws.{mask-read, mask-small, prefix-rows}
use Rattle.rmt_config.proofs.SlotLaws.{exact-fits, ternary-fits}
use Rattle.rmt_config.proofs.SpelledParts.{held-is}
use Rattle.rmt_book.specs.Kept.{HasBytes, IsKept, mask_bytes}
use Rattle.rmt_book.specs.declared.kept.Kept.{Kept}
use Rattle.rmt_config.specs.PartsTold.{part_at}
use Rattle.rmt_book.proofs.parts.cell_of.Goals as goal
use Rattle.rmt_book.proofs.parts.cell_of.Goals.{After-index-stages-part}

-- the stage that is read is that of the part
stage_is : (c : After-index-stages-part) → c.index-stages-part.result ≡ c.requires.stands.stage
stage_is c =
    let st = c.requires.stands in
    let stage = c.index-stages-part.result in
    c.index-stages-part.is ∙ ap (λ (ss : List Stage). get_or ss c.args.part.now.at stage) c.as_slice-stages.ensures ∙ get_or_from_slice_get c.args.config.now.stages c.args.part.now.at st.stage stage st.in_stages

-- what a cell holds that is like that of a memory's kind
kept_of : (c : After-index-stages-part) (m : Memory) (k : Kept) → c.args.part.now.slot.now.memory ≡ m
    → IsKept (bits_of_lanes c.args.part.now.slot.now.keys) m (content_of c.requires.stands.stage (record c.args.part.now.slot.now { memory = m }) c.args.number.cell) c.args.number k
    → IsKept (bits_of_lanes c.args.part.now.slot.now.keys) c.args.part.now.slot.now.memory (own_content c.args.config.now c.args.part.now.at c.args.part.now.place c.args.number.cell) c.args.number k
kept_of c m k is h =
    let st = c.requires.stands in
    let slot = c.args.part.now.slot.now in
    let n = c.args.number.cell in
    let bits = bits_of_lanes slot.keys in
    subst (λ (x : Content). IsKept bits slot.memory x c.args.number k) (sym (held-is c.args.config.now (part_at c.args.part.now) st n))
    (subst (λ (m : Memory). IsKept bits m (content_of st.stage (record slot { memory = m }) n) c.args.number k) (sym is) h)

-- the rows of SRAM of the stage that is read
srows_of : (c : After-index-stages-part) (rows : List SramRow) → rows ≡ c.index-stages-part.result.srows → SramRows rows
srows_of c rows is =
    let r = c.requires.stands.rows in
    subst SramRows (sym (is ∙ ap (λ (s : Stage). s.srows) (stage_is c))) (record { rise = r.srise; low = r.slow; small = r.sbits })

-- the cell is one of a memory that is the part's
cell_within : (c : After-index-stages-part) (m : Memory) → c.args.part.now.slot.now.memory ≡ m → c.args.number.cell < cells_in m
cell_within c m is = subst (λ (x : Memory). c.args.number.cell < cells_in x) is c.requires.cell

pub exact_cell-requires-clause-rows : goal.exact_cell-requires-clause-rows
exact_cell-requires-clause-rows c = srows_of (goal.at.exact_cell-requires-clause-rows c).After-index-stages-part c.as_slice.result.now c.as_slice.ensures

pub exact_cell-requires-clause-cell : goal.exact_cell-requires-clause-cell
exact_cell-requires-clause-cell c =
    let a = c.in-Exact in
    cell_within (goal.at.exact_cell-requires-clause-cell c).After-index-stages-part (Exact a.width a.per a.quanta a.first_way a.keys a.records a.counters) a.is

pub exact_cell-requires-clause-fits : goal.exact_cell-requires-clause-fits
exact_cell-requires-clause-fits c =
    let a = c.in-Exact in
    let slot = c.args.part.now.slot.now in
    let formed = and_parts (slot_head_is_formed slot) (memory_is_formed slot slot.memory) c.requires.stands.slot in
    let fits = exact-fits slot a.width a.per a.quanta a.first_way a.keys a.records a.counters formed.0 (subst (λ (m : Memory). memory_is_formed slot m ≡ true) a.is formed.1) in
    subst (λ rs. ExactFits slot a.width a.per a.quanta c.as_slice-in-Exact.result.now rs) (sym c.as_slice-in-Exact-2.ensures)
    (subst (λ ks. ExactFits slot a.width a.per a.quanta ks a.records) (sym c.as_slice-in-Exact.ensures) fits)

pub ternary_cell-requires-clause-cell : goal.ternary_cell-requires-clause-cell
ternary_cell-requires-clause-cell c =
    let a = c.in-Ternary in
    cell_within (goal.at.ternary_cell-requires-clause-cell c).After-index-stages-part (Ternary a.quanta a.keys a.records a.counters) a.is

pub ternary_cell-requires-clause-rows : goal.ternary_cell-requires-clause-rows
ternary_cell-requires-clause-rows c =
    subst FormedRows (sym (stage_is (goal.at.ternary_cell-requires-clause-rows c).After-index-stages-part)) c.requires.stands.rows

pub ternary_cell-requires-clause-values : goal.ternary_cell-requires-clause-values
ternary_cell-requires-clause-values c =
    subst (λ (s : Stage). PrefixRows s.trows) (sym (stage_is (goal.at.ternary_cell-requires-clause-values c).After-index-stages-part))
    (prefix-rows c.args.config.now (part_at c.args.part.now) c.requires.stands c.requires.memory)

pub ternary_cell-requires-clause-fits : goal.ternary_cell-requires-clause-fits
ternary_cell-requires-clause-fits c =
    let a = c.in-Ternary in
    let slot = c.args.part.now.slot.now in
    let formed = and_parts (slot_head_is_formed slot) (memory_is_formed slot slot.memory) c.requires.stands.slot in
    let fits = ternary-fits slot a.quanta a.keys a.records a.counters formed.0 (subst (λ (m : Memory). memory_is_formed slot m ≡ true) a.is formed.1) in
    subst (λ rs. TernaryFits slot a.quanta c.as_slice-in-Ternary.result.now rs) (sym c.as_slice-in-Ternary-2.ensures)
    (subst (λ ks. TernaryFits slot a.quanta ks a.records) (sym c.as_slice-in-Ternary.ensures) fits)

pub ternary_cell-requires-clause-ends : goal.ternary_cell-requires-clause-ends
ternary_cell-requires-clause-ends c =
    let a = c.in-Ternary in
    let st = c.requires.stands in
    let bits = bits_of_lanes c.args.part.now.slot.now.keys in
    let stage = stage_is (goal.at.ternary_cell-requires-clause-ends c).After-index-stages-part in
    let read = mask-read c.args.config.now (part_at c.args.part.now) st a.quanta a.keys a.records a.counters a.is c.args.number.cell (divided_up bits 40) c.index-stages-part.result.trows
    (blocks_at c.as_slice-in-Ternary.result.now (divided_up bits 40) (c.args.number.cell / 2048)) c.as_slice-in-Ternary.result.now (ap (λ (s : Stage). s.trows) stage) refl c.as_slice-in-Ternary.ensures refl in
    subst (λ x. x < 2 ^ bits) (sym read) (mask-small c.args.config.now (part_at c.args.part.now) st a.quanta a.keys a.records a.counters a.is c.args.number.cell)

pub returns-in-Exact-clause-kept : goal.returns-in-Exact-clause-kept
returns-in-Exact-clause-kept c =
    let a = c.in-Exact in
    let at = (goal.at.returns-in-Exact-clause-kept c).After-index-stages-part in
    let slot = c.args.part.now.slot.now in
    let number = c.args.number in
    let bits = bits_of_lanes slot.keys in
    let rows : c.as_slice.result.now ≡ c.requires.stands.stage.srows = c.as_slice.ensures ∙ ap (λ (s : Stage). s.srows) (stage_is at) in
    let cell = cell_of (1024 * a.quanta) a.per number.cell in
    IfOk-weaker c.exact_cell.result _ _
    (λ kept h.
    let one = subst (λ (ks : List ℕ). IsKept bits (Exact a.width a.per a.quanta a.first_way ks c.as_slice-in-Exact-2.result.now a.counters) (exact_content (sram_row c.as_slice.result.now) slot a.width a.per ks c.as_slice-in-Exact-2.result.now cell) number kept)
    c.as_slice-in-Exact.ensures (h a.first_way a.counters) in
    let two = subst (λ (rs : List ℕ). IsKept bits (Exact a.width a.per a.quanta a.first_way a.keys rs a.counters) (exact_content (sram_row c.as_slice.result.now) slot a.width a.per a.keys rs cell) number kept)
    c.as_slice-in-Exact-2.ensures one in
    kept_of at (Exact a.width a.per a.quanta a.first_way a.keys a.records a.counters) kept a.is
    (subst (λ (rs : List SramRow). IsKept bits (Exact a.width a.per a.quanta a.first_way a.keys a.records a.counters) (exact_content (sram_row rs) slot a.width a.per a.keys a.records cell) number kept) rows two))
    c.exact_cell.ensures.kept

pub returns-in-Ternary-clause-kept : goal.returns-in-Ternary-clause-kept
returns-in-Ternary-clause-kept c =
    let b = c.in-Ternary in
    let at = (goal.at.returns-in-Ternary-clause-kept c).After-index-stages-part in
    let slot = c.args.part.now.slot.now in
    let n = c.args.number.cell in
    IfOk-weaker c.ternary_cell.result _ _
    (λ kept h.
    let keeps : Stage → List ℕ → List ℕ → Type 0 = λ s ks rs. IsKept (bits_of_lanes slot.keys) (Ternary b.quanta ks rs b.counters) (ternary_content s slot ks rs n) c.args.number kept in
    kept_of at (Ternary b.quanta b.keys b.records b.counters) kept b.is
    (subst (λ (s : Stage). keeps s b.keys b.records) (stage_is at)
    (subst (keeps c.index-stages-part.result b.keys) c.as_slice-in-Ternary-2.ensures
    (subst (λ (ks : List ℕ). keeps c.index-stages-part.result ks c.as_slice-in-Ternary-2.result.now) c.as_slice-in-Ternary.ensures (h b.counters)))))
    c.ternary_cell.ensures.kept

-- three facts of what a call gives make another
of-three : {E : Type 0} (r : Result Kept E) (A B C D : Kept → Type 0) → ((k : Kept) → A k → B k → C k → D k) → IfOk r A → IfOk r B → IfOk r C → IfOk r D
of-three (Ok k) A B C D f a b c = f k a b c
of-three (Err e) A B C D f a b c = tt

pub returns-in-Exact-clause-bytes : goal.returns-in-Exact-clause-bytes
returns-in-Exact-clause-bytes c =
    let slot = c.args.part.now.slot.now in
    of-three c.exact_cell.result (λ kept. length kept.key.items ≡ divided_up (bits_of_lanes slot.keys) 8) (λ kept. kept.mask.items ≡ []) (λ kept. length kept.held.items ≡ divided_up slot.held 8) (HasBytes slot)
    (λ kept key mask held. record { key = key; mask = ap (λ (bs : List ℕ). length bs) mask ∙ ap (mask_bytes (bits_of_lanes slot.keys)) (sym c.in-Exact.is); held = held })
    c.exact_cell.ensures.key_size c.exact_cell.ensures.no_mask c.exact_cell.ensures.held_size

pub returns-in-Ternary-clause-bytes : goal.returns-in-Ternary-clause-bytes
returns-in-Ternary-clause-bytes c =
    let slot = c.args.part.now.slot.now in
    of-three c.ternary_cell.result (λ kept. length kept.key.items ≡ divided_up (bits_of_lanes slot.keys) 8) (λ kept. length kept.mask.items ≡ divided_up (bits_of_lanes slot.keys) 8)
    (λ kept. length kept.held.items ≡ divided_up slot.held 8) (HasBytes slot)
    (λ kept key mask held. record { key = key; mask = mask ∙ ap (mask_bytes (bits_of_lanes slot.keys)) (sym c.in-Ternary.is); held = held })
    c.ternary_cell.ensures.key_size c.ternary_cell.ensures.mask_size c.ternary_cell.ensures.held_size
