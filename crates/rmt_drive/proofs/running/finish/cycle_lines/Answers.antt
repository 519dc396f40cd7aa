-- Two lines in one text.
use Rattle.std.proofs.Common.{◌≡◌, ℕ, List, string_bytes, subst}
use Rattle.std.specs.Prelude.{IfOk}
use Rattle.rmt_drive.proofs.DrainLaws.{cycle_text}
use Rattle.rmt_drive.proofs.running.finish.cycle_lines.Goals as goal

pub returns : goal.returns
returns c = subst (λ (x : List ℕ). IfOk c.format.result (λ text. string_bytes text ≡ x)) (cycle_text c.args.cycles c.args.flight) c.format.ensures.ok
