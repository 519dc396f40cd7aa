use Rattle.std.proofs.Common.{◌≡◌, ℕ, List, ◌++◌, ◌+◌, ◌-◌, ◌*◌, ◌/◌, ◌<◌, length, get_or, sym, ap, ◌∙◌, arith}
use Rattle.std.proofs.lemmas.List.{take_all}
use Rattle.rmt_bits.specs.Bits.{slice, bytes_of}
use Rattle.rmt_config.specs.BlockCounts.{divided_up}
use Rattle.rmt_config.specs.Cells.{sram_row}
use Rattle.rmt_memory.specs.Types.{CellNumber}
use Rattle.rmt_memory.specs.Laying.{entry_of, nowhere, runs_of}
use Rattle.rmt_memory.proofs.RunLaws.{length-runs, runs-next}
use Rattle.rmt_memory.proofs.listed.runs_of.Goals as goal

pub invariant_of-result : goal.invariant_of-result
invariant_of-result c =
    let numbers = c.args.numbers.now in
    let size = divided_up c.args.len 8 in
    let value = λ (n : ℕ). slice (entry_of c.args.layout.now (sram_row c.args.rows.now) c.args.blocks.now n) c.args.from c.args.len in
    let e : length c.loop-number.bytes.items ≡ length numbers * size =
    ap (λ (bs : List ℕ). length bs) c.loop-number.invariant
    ∙ ap (λ (cs : List CellNumber). length (runs_of size value cs)) (take_all c.loop-number.number-index numbers (omega arith))
    ∙ length-runs size value numbers in
    let seven : c.args.len + 8 - 1 ≡ c.args.len + 7 = omega arith in
    let same : size ≡ (c.args.len + 7) / 8 = ap (λ m. m / 8) seven in
    let turned : length numbers * size ≡ length numbers * ((c.args.len + 7) / 8) = ap (λ m. length numbers * m) same in
    record { whole = omega (arith, c.loop-number.bytes.ok.0, e, turned) }

pub overflow_add-size : goal.overflow_add-size
overflow_add-size c =
    let bits = c.requires.bits in
    let most = c.requires.layout.is.most_entry in
    omega (arith, bits, most)

pub push_entry-requires-clause-cell : goal.push_entry-requires-clause-cell
push_entry-requires-clause-cell c = c.requires.cells c.loop-number.number-index nowhere (omega arith)

pub loop-number-preserved : goal.loop-number-preserved
loop-number-preserved c =
    let numbers = c.args.numbers.now in
    let i = c.loop-number.number-index in
    let lt : i < length numbers = omega arith in
    let size = divided_up c.args.len 8 in
    let value = λ (n : ℕ). slice (entry_of c.args.layout.now (sram_row c.args.rows.now) c.args.blocks.now n) c.args.from c.args.len in
    c.in_ok-push_entry.ensures ∙ ap (λ (bs : List ℕ). bs ++ bytes_of size (value (get_or numbers i nowhere).cell)) c.loop-number.invariant ∙ sym (runs-next size value numbers i nowhere lt)

pub returns-clause-size : goal.returns-clause-size
returns-clause-size c = ap (λ m. m / 8) (let same : c.args.len + 7 ≡ c.args.len + 8 - 1 = omega arith in same)

pub returns-clause-bytes : goal.returns-clause-bytes
returns-clause-bytes c =
    let value = λ (n : ℕ). slice (entry_of c.args.layout.now (sram_row c.args.rows.now) c.args.blocks.now n) c.args.from c.args.len in
    c.loop-number.invariant ∙ ap (λ (cs : List CellNumber). runs_of (divided_up c.args.len 8) value cs) (take_all c.loop-number.number-index c.args.numbers.now (omega arith))
