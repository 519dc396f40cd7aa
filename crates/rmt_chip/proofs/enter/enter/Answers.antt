use Rattle.std.proofs.Common.{length}
use Rattle.rmt_config.specs.Parser.{parse}
use Rattle.rmt_chip.proofs.TailLaws.{parse_within, parsed_within}
use Rattle.rmt_chip.proofs.enter.enter.Goals as goal

pub invariant_of-place : goal.invariant_of-place
invariant_of-place c =
    let parser = c.args.config.now.parser in
    let bytes = c.args.bytes.now in
    let p = parsed_within (length bytes) (parse parser bytes) c.parse_chip-parsed.result c.parse_chip-parsed.new.into c.parse_chip-parsed.new.tails c.requires.short (parse_within parser c.requires.fits.parser bytes) c.parse_chip-parsed.ensures in
    record { tails_before = p.0; within = p.1 }
