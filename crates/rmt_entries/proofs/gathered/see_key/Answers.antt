use Rattle.std.proofs.Common.{◌∙◌, sym}
use Rattle.rmt_entries.proofs.GatherLaws.{key_again, knows_more}
use Rattle.rmt_entries.proofs.gathered.see_key.Goals as goal

pub returns-clause-again : goal.returns-clause-again
returns-clause-again c terms es h once =
    key_again terms es c.args.keys.now c.put_identity.new.key c.args.entry.now c.args.kind c.in_ok-is_new.is_new h c.in_ok-put_identity.ensures once (sym c.has_keys_once.ensures ∙ c.if-not-has_keys_once.false) c.in_ok-is_new.ensures.added

pub returns-clause-seen : goal.returns-clause-seen
returns-clause-seen c terms es h once = knows_more terms es c.args.keys.now c.insert.new.self c.put_identity.new.key c.args.entry.now h c.in_ok-put_identity.ensures c.in_ok-is_new.ensures.updates
