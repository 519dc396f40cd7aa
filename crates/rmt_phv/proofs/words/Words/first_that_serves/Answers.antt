use Rattle.std.proofs.Common.{◌≡◌, ℕ, ◌<◌, ◌-◌, ◌+◌, Some, Bool, true, false, ap, cond, find, sym, ◌∙◌}
use Rattle.std.specs.List.{range_with_len}
use Rattle.rmt_phv.specs.Packing.{serves}
use Rattle.rmt_phv.proofs.WordLaws.{find_step, find_none}
use Rattle.rmt_phv.proofs.words.Words.first_that_serves.Goals as goal

-- a word that is looked at, and the words behind it
looked : (test : ℕ → Bool) (w : ℕ) (passes : Bool) → w < 224 → test w ≡ passes
    → cond passes (Some w) (find test (range_with_len (w + 1) (224 - (w + 1)))) ≡ find test (range_with_len w (224 - w))
looked test w passes lt is = sym (find_step test w 224 lt ∙ ap (λ (b : Bool). cond b (Some w) (find test (range_with_len (w + 1) (224 - (w + 1))))) is)

pub loop-word-preserved : goal.loop-word-preserved
loop-word-preserved c = λ p f taken packs.
    looked (serves p f taken c.args.len) c.loop-word.word false c.loop-word-test.true (sym (c.if-serves.ensures.serves p f taken packs))
    ∙ c.loop-word.invariant p f taken packs

pub returns-then-serves-clause-first : goal.returns-then-serves-clause-first
returns-then-serves-clause-first c = λ p f taken packs.
    looked (serves p f taken c.args.len) c.loop-word.word true c.loop-word-test.true (sym (c.if-serves.ensures.serves p f taken packs))
    ∙ c.loop-word.invariant p f taken packs

pub returns-clause-first : goal.returns-clause-first
returns-clause-first c = λ p f taken packs.
    let test = serves p f taken c.args.len in
    sym (find_none test c.loop-word.word 224 c.loop-word-test.false) ∙ c.loop-word.invariant p f taken packs
