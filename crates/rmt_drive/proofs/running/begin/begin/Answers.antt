-- What is made is as of a run that changed no entry.
use Rattle.std.proofs.Common.{◌≡◌, false, Option, None, Some, refl, sym, subst, ◌∙◌}
use Rattle.std.specs.Prelude.{is_some}
use Rattle.std.proofs.lemmas.Bool.{false≢true}
use Rattle.rmt_config.specs.Form.{Formed}
use Rattle.rmt_config.specs.declared.config.Config.{Config}
use Rattle.rmt_drive.specs.CommitsOf.{AreCommitsOf}
use Rattle.rmt_drive.specs.Running.{Follows}
use Rattle.rmt_drive.specs.declared.running.commits.Commits.{Commits}
use Rattle.rmt_drive.proofs.BegunLaws.{begun}
use Rattle.rmt_drive.proofs.running.begin.begin.Goals as goal

none_of : (commits : Option Commits) → is_some commits ≡ false → commits ≡ None
none_of None e = refl
none_of (Some made) e = absurd (false≢true (sym e))

pub commits_of-requires : goal.commits_of-requires
commits_of-requires c =
    let r = c.requires.follows in
    let f = r.6 in
    subst Formed (sym (c.config.ensures r.1 f.made f.goes.stands)) f.come.formed

pub returns-clause-goes : goal.returns-clause-goes
returns-clause-goes c = λ w k said run before now f.
    let chip = c.args.chip.now in
    let none : c.args.commits.now ≡ None = none_of c.args.commits.now (sym c.is_some.ensures ∙ c.if-is_some.false) in
    let config : c.config.result.now ≡ k = c.config.ensures k f.made f.goes.stands in
    begun w k said run chip c.in_ok-made.made before now (subst (λ (o : Option Commits). Follows w k said run chip o before now) none f)
    (subst (λ (x : Config). AreCommitsOf x c.in_ok-made.made) config c.in_ok-made.ensures.commits)
