use Rattle.std.proofs.Common.{◌≡◌, ◌++◌, ◌∷◌, [], List, Option, None, ap, ◌∙◌, arith}
use Rattle.std.specs.Prelude.{replicate}
use Rattle.std.proofs.lemmas.List.{replicate_more}
use Rattle.rmt_cells.specs.declared.cells.Chain.{Chain}
use Rattle.rmt_chip.proofs.frames.no_chains.Goals as goal

pub loop-at-preserved : goal.loop-at-preserved
loop-at-preserved c = c.in_ok-push.ensures.items ∙ ap (λ (cs : List (Option Chain)). cs ++ None ∷ []) c.loop-at.invariant ∙ replicate_more {X = Option Chain} c.loop-at._at None

pub returns : goal.returns
returns c = c.loop-at.invariant ∙ ap (λ n. replicate {A = Option Chain} n None) (let end : c.loop-at._at ≡ c.args.count = omega arith in end)
