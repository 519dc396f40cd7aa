use Rattle.std.proofs.Common.{◌≡◌, ◌++◌, ◌-◌, ℕ, List, length, take, drop, append_assoc, ap, ◌∙◌}
use Rattle.std.specs.List.{flat_map, zip}
use Rattle.std.proofs.lemmas.List.{drop_min, take_rest}
use Rattle.rmt_ast.specs.declared.program.Header.{Header}
use Rattle.rmt_ast.specs.Answers.{header_bytes}
use Rattle.rmt_plain.specs.declared.reached.Span.{Span}
use Rattle.rmt_plain.specs.Walking.{bytes_in}
use Rattle.rmt_plain.proofs.SentLaws.{flat_map-zip-map}
use Rattle.rmt_plain.proofs.sent.push_sent.Goals as goal

pub returns : goal.returns
returns c = λ state.
    let p = c.args.program.now in
    let s = c.args.state.now in
    let frame = c.args.frame.now in
    let out = c.args.out.now.items in
    let tails = c.args.tails.now in
    let m = c.min.result in
    let headers = flat_map (λ (x : Header × Span). header_bytes p s x.0 (bytes_in frame x.1)) (zip p.headers tails) in
    let payload : take (length frame - m) (drop m frame) ≡ drop c.args.at frame =
    take_rest frame m ∙ ap (λ (n : ℕ). drop n frame) c.min.ensures ∙ drop_min c.args.at frame in
    c.in_ok-extend_from_slice.ensures.items
    ∙ ap (λ (xs : List ℕ). c.push_headers.new.out.items ++ xs) payload
    ∙ ap (λ (xs : List ℕ). xs ++ drop c.args.at frame) (c.in_ok-push_headers.ensures state)
    ∙ append_assoc out headers (drop c.args.at frame)
    ∙ ap (λ (xs : List ℕ). out ++ (xs ++ drop c.args.at frame)) (flat_map-zip-map (λ (h : Header) (tail : List ℕ). header_bytes p s h tail) (bytes_in frame) p.headers tails)
