use Rattle.std.proofs.Common.{◌≡◌, ◌+◌, ◌-◌, ◌≤◌, ℕ, List, take, cond, Some, None, sym, ap, ◌∙◌, subst, arith}
use Rattle.rmt_bits.specs.Bits.{number_of}
use Rattle.rmt_bits.specs.Grouping.{Compared}
use Rattle.rmt_memory.specs.KeyWords.{words_of, words_of_key}
use Rattle.rmt_memory.specs.Slicing.{RowFits, RowSet}
use Rattle.rmt_memory.specs.Sights.{seen_by}
use Rattle.rmt_memory.proofs.SliceLaws.{words-fit, compared-same}
use Rattle.rmt_memory.proofs.WordLaws.{key-words, words-low}
use Rattle.rmt_memory.proofs.ternary.put_row.Goals as goal

low : (words n : ℕ) (ws : List ℕ) → words ≤ 16 → ws ≡ words_of_key n → take words ws ≡ words_of words n
low words n ws few is =
    let e : 16 ≡ words + (16 - words) = omega (arith, few) in
    ap (take words) (is ∙ key-words n) ∙ ap (λ m. take words (words_of m n)) e ∙ words-low words (16 - words) n

pub put-requires-clause-fits : goal.put-requires-clause-fits
put-requires-clause-fits c =
    let s = c.args.sliced.now in
    let m = low s.words (number_of c.args.mask.now) c.key_words-masks.result s.few c.key_words-masks.ensures in
    let v = low s.words (number_of c.args.key.now) c.key_words-values.result s.few c.key_words-values.ensures in
    subst (RowFits s.words) (sym (compared-same _ _ _ _ m v)) (words-fit s.words (number_of c.args.mask.now) (number_of c.args.key.now))

pub returns : goal.returns
returns c =
    let s = c.args.sliced.now in
    let m = low s.words (number_of c.args.mask.now) c.key_words-masks.result s.few c.key_words-masks.ensures in
    let v = low s.words (number_of c.args.key.now) c.key_words-values.result s.few c.key_words-values.ensures in
    subst (λ (e : Compared). RowSet c.args.row (λ sight. cond (seen_by sight c.args.head) (Some e) None) s c.put.new.self) (compared-same _ _ _ _ m v) c.put.ensures
