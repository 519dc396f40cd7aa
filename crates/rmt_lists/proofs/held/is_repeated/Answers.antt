use Rattle.std.proofs.Common.{◌≡◌, ◌∙◌, true, sym}
use Rattle.rmt_entries.specs.Entries.{has_keys_once}
use Rattle.rmt_lists.proofs.KeyLaws.{keyed_some}
use Rattle.rmt_lists.proofs.held.is_repeated.Goals as goal

pub returns-then-has_keys_once : goal.returns-then-has_keys_once
returns-then-has_keys_once c es k h own =
    let once : has_keys_once c.args.kind ≡ true = sym c.has_keys_once.ensures ∙ c.if-has_keys_once.true in
    rw once (c.is_some.ensures ∙ keyed_some k es c.first.result (c.first.ensures es k h own))
