use Rattle.std.proofs.Common.{◌<◌, ◌≢◌, ◌∙◌, sym, length, arith, get_or-set_other, get_or-set_same, below_more}
use Rattle.std.proofs.lemmas.List.{length-set}
use Rattle.rmt_bits.specs.Bits.{number_of}
use Rattle.rmt_memory.proofs.WordLaws.{key-words, words-from_each}
use Rattle.rmt_memory.proofs.ternary.key_words.Goals as goal

pub returns : goal.returns
returns c =
    words-from_each 16 (number_of c.args.key.now) c.loop-at.words c.loop-at.invariant.size (λ k lt. c.loop-at.invariant.each k (omega arith))
    ∙ sym (key-words (number_of c.args.key.now))

pub loop-at-preserved : goal.loop-at-preserved
loop-at-preserved c =
    let at = c.loop-at.at in
    record {
      size = length-set c.loop-at.words at c.word_at.result ∙ c.loop-at.invariant.size;
      each = below_more _ _
          (λ k h. let ne : k ≢ at = omega arith in rw get_or-set_other (c.loop-at.invariant.each k h))
          (let lt : at < length c.loop-at.words = omega arith in rw get_or-set_same c.word_at.ensures);
    }
