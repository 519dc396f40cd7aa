use Rattle.std.proofs.Common.{◌≡◌, ◌+◌, ◌*◌, ◌/◌, ◌%◌, ◌<◌, ◌≤◌, length, sym, ap, ◌∙◌, subst, arith}
use Rattle.rmt_config.specs.BlockCounts.{divided_up, record_width, record_units}
use Rattle.rmt_config.proofs.CellLayouts.{up-most}
use Rattle.rmt_pack.specs.Cells.{thousands_in}
use Rattle.rmt_pack.proofs.RecordLaws.{records-length, record-there, record-room, unit-below, unit-small}
use Rattle.rmt_pack.proofs.record.spot_of.Goals as goal

pub overflow_mul-result : goal.overflow_mul-result
overflow_mul-result c =
    let s = c.args.shape.now in
    let per = c.records_a_row-per.result in
    let units = c.divided_up-units.result in
    let at = c.quantum_of-at.result in
    let many : units ≡ divided_up (thousands_in s) per = c.divided_up-units.ensures ∙ ap (λ t. divided_up t per) c.thousands_of.ensures.value in
    let unit : at.index / (1024 * per) < units =
    subst (λ n. at.index / (1024 * per) < n) (sym many) (unit-below at.index (thousands_in s) per c.records_a_row-per.ensures.least c.quantum_of-at.ensures.indices) in
    let few : units ≤ c.thousands_of.result = subst (λ n. n ≤ c.thousands_of.result) (sym c.divided_up-units.ensures) (up-most c.thousands_of.result per c.records_a_row-per.ensures.least) in
    record { fits = unit-small at.quantum (at.index / (1024 * per)) units c.record_width.result s.quanta c.thousands_of.result c.quantum_of-at.ensures.quanta c.requires.shape.most_quanta unit few c.thousands_of.ensures.few c.record_width.ensures.few }

pub returns-clause-there : goal.returns-clause-there
returns-clause-there c =
    let s = c.args.shape.now in
    let per = c.records_a_row-per.result in
    let units = c.divided_up-units.result in
    let at = c.quantum_of-at.result in
    let many : units ≡ divided_up (thousands_in s) per = c.divided_up-units.ensures ∙ ap (λ t. divided_up t per) c.thousands_of.ensures.value in
    let all : units ≡ record_units (thousands_in s) s.held = many ∙ ap (divided_up (thousands_in s)) c.records_a_row-per.ensures.value in
    let unit : at.index / (1024 * per) < units =
    subst (λ n. at.index / (1024 * per) < n) (sym many) (unit-below at.index (thousands_in s) per c.records_a_row-per.ensures.least c.quantum_of-at.ensures.indices) in
    let len : length s.records ≡ s.quanta * (units * c.record_width.result) =
    records-length s c.requires.shape ∙ ap (λ n. s.quanta * (n * record_width s.held)) (sym all) ∙ ap (λ w. s.quanta * (units * w)) (sym c.record_width.ensures.value) in
    subst (λ w. (at.quantum * units + at.index / (1024 * per)) * c.record_width.result + w ≤ length s.records) c.record_width.ensures.value
    (record-there at.quantum (at.index / (1024 * per)) units c.record_width.result s.quanta (length s.records) c.quantum_of-at.ensures.quanta unit len)

pub returns-clause-room : goal.returns-clause-room
returns-clause-room c =
    let s = c.args.shape.now in
    let i = c.quantum_of-at.result.index in
    subst (λ q. i % q * s.held + s.held ≤ 112 * record_width s.held) (sym c.records_a_row-per.ensures.value) (record-room i s.held c.requires.some (omega arith))
