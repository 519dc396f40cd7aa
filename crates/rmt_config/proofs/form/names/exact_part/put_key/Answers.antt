use Rattle.std.proofs.Common.{◌≡◌, ◌++◌, subst, arith}
use Rattle.std.specs.Prelude.{OnOk}
use Rattle.rmt_bits.specs.Bits.{bytes_of}
use Rattle.rmt_config.specs.BlockCounts.{divided_up}
use Rattle.rmt_config.proofs.SpelledCandidates.{entry-key}
use Rattle.rmt_config.proofs.form.names.exact_part.put_key.Goals as goal

pub push_bits-requires-clause-within : goal.push_bits-requires-clause-within
push_bits-requires-clause-within c = omega (arith, c.requires.fits, c.unit_at-unit.ensures.size)

pub push_bits-requires-clause-few : goal.push_bits-requires-clause-few
push_bits-requires-clause-few c = omega (arith, c.requires.fits)

pub returns : goal.returns
returns c =
    let p = c.args.cells.now in
    let place = c.args.place in
    subst (λ n. OnOk c.push_bits.result (c.push_bits.new.into.items ≡ c.args.keys.now.items ++ bytes_of (divided_up p.bits 8) n))
    (entry-key p.rows.now _ p.blocks.now _ p.width p.bits place.way place.row place.position _ c.unit_at-unit.ensures.rows c.unit_at-unit.ensures.blocks c.unit_at-unit.ensures.row) c.push_bits.ensures
