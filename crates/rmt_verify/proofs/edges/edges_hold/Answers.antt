use Rattle.std.proofs.Common.{◌≡◌, ◌++◌, ◌&&◌, ◌↔◌, List, Option, IsTrue, length, ap, subst, ◌∙◌}
use Rattle.std.specs.List.{list_all}
use Rattle.rmt_ast.specs.declared.deps.Deps.{Deps}
use Rattle.rmt_refine.specs.Carries.{EdgesKept}
use Rattle.rmt_verify.specs.EdgeSpans.{is_kept}
use Rattle.rmt_verify.specs.declared.edges.spans.Span.{Span}
use Rattle.rmt_verify.proofs.EdgeLaws.{answered}
use Rattle.rmt_verify.proofs.edges.edges_hold.Goals as goal

pub returns-clause-exact : goal.returns-clause-exact
returns-clause-exact c =
    let starts = c.args.starts.now in
    let parts = c.args.parts.now in
    let spans = c.in_ok-spans.spans.items in
    let deps : Deps = c.in_ok-deps.deps in
    let all = list_all (is_kept spans starts) in
    let field : c.all_kept-field.result ≡ all deps.field =
    c.all_kept-field.ensures ∙ ap (λ (s : List (Option Span)). list_all (is_kept s starts) c.as_slice-2.result.now) c.as_slice.ensures.value ∙ ap all c.as_slice-2.ensures in
    let word : c.all_kept-word.result ≡ all deps.word =
    c.all_kept-word.ensures ∙ ap (λ (s : List (Option Span)). list_all (is_kept s starts) c.as_slice-4.result.now) c.as_slice-3.ensures.value ∙ ap all c.as_slice-4.ensures in
    subst (λ (d : Deps). IsTrue (c.all_kept-field.result && c.all_kept-word.result) ↔ EdgesKept (d.field ++ d.word) parts starts) c.in_ok-deps.ensures.edges
    (answered (length c.args.program.now.nodes) parts starts c.requires.parts spans c.in_ok-spans.ensures (c.rise.ensures.0 cc) deps.field deps.word (c.all_kept-field.result && c.all_kept-word.result)
    (ap (λ b. b && c.all_kept-word.result) field ∙ ap (λ b. all deps.field && b) word))
