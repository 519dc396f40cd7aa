use Rattle.std.proofs.Common.{◌≡◌, ℕ, Vec, Global, ◌≤◌, false, Some, ap, sym, subst, ◌∙◌}
use Rattle.serde_json.specs.Data.{depth}
use Rattle.serde_json.specs.Read.{read, max_depth}
use Rattle.serde_json.specs.View.{view}
use Rattle.serde_json.specs.Written.{compact_text, has_float}
use Rattle.rmt_report.specs.Report.{report_of}
use Rattle.rmt_report.proofs.ReportLaws.{no_float, nests_little}
use Rattle.rmt_report.proofs.text.report_text.Goals as goal

pub returns-clause-bytes : goal.returns-clause-bytes
returns-clause-bytes c =
    let is : view c.in_ok-object.object ≡ report_of c.args.config.now = c.in_ok-object.ensures in
    let none : has_float (view c.in_ok-object.object) ≡ false = ap has_float is ∙ no_float c.args.config.now in
    c.from_vec.ensures ∙ ap (λ (v : Vec ℕ Global). v.items) c.into_bytes.ensures.value ∙ c.in_ok-text.ensures.text none ∙ ap compact_text is

pub returns-clause-reads_back : goal.returns-clause-reads_back
returns-clause-reads_back c =
    let is : view c.in_ok-object.object ≡ report_of c.args.config.now = c.in_ok-object.ensures in
    let shallow : depth (view c.in_ok-object.object) ≤ max_depth = subst (λ d. depth d ≤ max_depth) (sym is) (nests_little c.args.config.now) in
    ap read (c.from_vec.ensures ∙ ap (λ (v : Vec ℕ Global). v.items) c.into_bytes.ensures.value) ∙ c.in_ok-text.ensures.reads_back shallow ∙ ap Some is
