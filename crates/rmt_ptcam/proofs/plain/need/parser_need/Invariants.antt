use Rattle.std.proofs.Common.{◌≡◌, drop}
use Rattle.rmt_ptcam.specs.Needs.{first_fault}
use Rattle.rmt_ptcam.proofs.plain.need.parser_need.Given as goal

-- no header so far is refused
abbrev pub invariant-loop-number : goal.invariant-loop-number
invariant-loop-number l = first_fault l.program 0 l.program.headers ≡ first_fault l.program l.number (drop l.number l.program.headers)
