use Rattle.std.proofs.Common.{◌≡◌, ◌++◌, drop}
use Rattle.std.specs.List.{flat_map, zip}
use Rattle.rmt_ast.specs.declared.program.Header.{Header}
use Rattle.rmt_ast.specs.State.{IsState}
use Rattle.rmt_ast.specs.Answers.{header_bytes}
use Rattle.rmt_plain.specs.declared.reached.Span.{Span}
use Rattle.rmt_plain.specs.Walking.{bytes_in}
use Rattle.rmt_plain.proofs.sent.push_headers.Given as goal

abbrev pub invariant-loop-i : goal.invariant-loop-i
invariant-loop-i l =
    IsState l.program l.state → l.out.items ++ flat_map (λ (x : Header × Span). header_bytes l.program l.state x.0 (bytes_in l.frame x.1)) (zip (drop l.i l.program.headers) (drop l.i l.tails))
    ≡ l.initial.out.items ++ flat_map (λ (x : Header × Span). header_bytes l.program l.state x.0 (bytes_in l.frame x.1)) (zip l.program.headers l.tails)
