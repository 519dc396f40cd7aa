use Rattle.std.proofs.Common.{ap, ◌∙◌, arith, rules}
use Rattle.std.proofs.lemmas.Result.{err_from_is_err_and}
use Rattle.rmt_runs.proofs.ReaderLaws.{few_given}
use Rattle.rmt_runs.proofs.reader.PacketReader.find.Goals as goal

pub returns-then-self-clause-few : goal.returns-then-self-clause-few
returns-then-self-clause-few g c =
    let few = few_given c.self.inside.given c.self.inside.is_finished c.self.inside.lines c.self.invariant.1 in
    omega (arith, few, ap (λ r. r.given) c.self.view_is, c.self.invariant.0)

pub returns-in_err-fill-clause-next : goal.returns-in_err-fill-clause-next
returns-in_err-fill-clause-next g c =
    let p = err_from_is_err_and c.from_residual.result c.from_residual.ensures.1 in
    let i = c.loop-is_ready.invariant in
    rw (p.1, p.2) (record {
      line = tt;
      end = tt;
      too_long = λ long told limit text gave h. c.in_err-fill.ensures.too_long long (i.only_read.tells ∙ told) limit text gave (i.reads c.loop-is_ready-test.true told limit text gave h);
      ready = tt;
    })

pub returns-in_err-fill-clause-few : goal.returns-in_err-fill-clause-few
returns-in_err-fill-clause-few g c =
    let few = few_given c.self.inside.given c.self.inside.is_finished c.self.inside.lines c.self.invariant.1 in
    omega (arith, few, ap (λ r. r.given) c.self.view_is, c.self.invariant.0)

pub returns-then-not-branch-clause-next : goal.returns-then-not-branch-clause-next
returns-then-not-branch-clause-next g c =
    let i = c.loop-is_ready.invariant in
    record {
      line = search rules;
      end = λ none told limit text gave h.
          let same = i.only_read.tells ∙ told in
          c.finish.ensures.end none limit text (g.F.Shelf.state c.fill.new.shelf).rest gave (c.in_ok-fill.ensures.ended c.if-not-branch.true same)
          (c.in_ok-fill.ensures.reads same limit text gave (i.reads c.loop-is_ready-test.true told limit text gave h));
      too_long = search rules;
      ready = search rules;
    }

pub returns-then-not-branch-clause-few : goal.returns-then-not-branch-clause-few
returns-then-not-branch-clause-few g c =
    let few = few_given c.self.inside.given c.self.inside.is_finished c.self.inside.lines c.self.invariant.1 in
    omega (arith, few, ap (λ r. r.given) c.self.view_is, c.self.invariant.0)

pub returns-clause-few : goal.returns-clause-few
returns-clause-few g c =
    let few = few_given c.self.inside.given c.self.inside.is_finished c.self.inside.lines c.self.invariant.1 in
    omega (arith, few, ap (λ r. r.given) c.self.view_is, c.self.invariant.0)
