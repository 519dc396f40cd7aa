use Rattle.std.proofs.Common.{◌≡◌, ◌-◌, drop}
use Rattle.rmt_check.specs.Rules.{broken, least_of}
use Rattle.rmt_check.proofs.answer.check_rules.Given as goal

abbrev pub invariant-loop-code : goal.invariant-loop-code
invariant-loop-code g l = least_of (broken (g.N.Lookup.text l.names)) ≡ least_of (drop (l.code - 5) (broken (g.N.Lookup.text l.names)))
