use Rattle.std.proofs.Common.{ℕ, List, ◌++◌, take, subst, arith, ◌≡◌, get_or, ◌<◌}
use Rattle.std.proofs.lemmas.List.{take_all}
use Rattle.rmt_config.specs.LimitSteps.{Marks}
use Rattle.rmt_place.proofs.LoadLaws.{word_marked}
use Rattle.rmt_place.proofs.load.with_words.Goals as goal

pub loop-word-preserved : goal.loop-word-preserved
loop-word-preserved c = λ ns m.
    let small : get_or c.args.words.now c.loop-word.word-index 0 < 256 = omega arith in
    word_marked ns c.args.words.now c.loop-word.word-index 0 c.loop-word.all c.loop-word-test.true small (c.loop-word.invariant ns m)

pub returns : goal.returns
returns c = λ ns m.
    let all : take c.loop-word.word-index c.args.words.now ≡ c.args.words.now = take_all _ _ (omega arith) in
    subst (λ (l : List ℕ). Marks (ns ++ l) c.loop-word.all) all (c.loop-word.invariant ns m)
