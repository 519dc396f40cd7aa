use Rattle.std.proofs.Common.{◌∙◌, arith}
use Rattle.rmt_pack.proofs.TcamLaws.{words-full, words-more}
use Rattle.rmt_pack.proofs.tcam.Bits.into_words.Goals as goal
use Rattle.rmt_pack.proofs.tcam.Bits.into_words.Goals.{then-filled-gt0+in_ok-push, else-filled-gt0}

pub returns : goal.returns
returns c = λ n bits holds.
    elim c.if-filled-gt0.branch [
      | then-filled-gt0+in_ok-push w ↦
          words-more c.args.self c.if-filled-gt0.words w.if-filled-gt0.true (w.words-is ∙ w.in_ok-push.ensures.ok) n bits holds
      | else-filled-gt0 w ↦ words-full c.args.self c.if-filled-gt0.words (omega (arith, w.if-filled-gt0.false)) w.words-is n bits holds
    ]
