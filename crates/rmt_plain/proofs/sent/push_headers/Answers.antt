use Rattle.std.proofs.Common.{List, length, sym, ap, ◌∙◌, arith}
use Rattle.rmt_ast.specs.declared.program.Header.{Header}
use Rattle.rmt_ast.specs.Answers.{header_bytes}
use Rattle.rmt_plain.specs.declared.reached.Span.{Span}
use Rattle.rmt_plain.specs.Walking.{bytes_in}
use Rattle.rmt_plain.proofs.SentLaws.{flat_map-zip-ended}
use Rattle.rmt_plain.proofs.sent.push_headers.Goals as goal

pub returns : goal.returns
returns c = λ state.
    let p = c.args.program.now in
    let end = c.min-i-end.ensures in
    let headers = c.as_slice-headers.ensures in
    sym (flat_map-zip-ended (λ (x : Header × Span). header_bytes p c.args.state.now x.0 (bytes_in c.args.frame.now x.1)) c.loop-i.out.items p.headers c.args.tails.now c.loop-i.i
    (let same = ap (λ (hs : List Header). length hs) headers in omega arith))
    ∙ c.loop-i.invariant state
