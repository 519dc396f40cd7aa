use Rattle.std.proofs.Common.{get_or, sum, unwrap_or, ap, ◌∙◌}
use Rattle.rmt_bits.specs.Bits.{number_of, slice}
use Rattle.rmt_bits.proofs.BitLaws.{slice-whole}
use Rattle.rmt_config.specs.NamesForm.{prefix_length}
use Rattle.rmt_book.proofs.RankLaws.{sum-one}
use Rattle.rmt_book.proofs.ranks.prefix_rank.Goals as goal

pub returns : goal.returns
returns c =
    let ws = c.args.widths.now in
    let mask = number_of c.args.mask.now in
    c.from.ensures ∙ c.unwrap_or.ensures ∙ ap (λ o. unwrap_or o 0) c.length_of.ensures
    ∙ ap (λ m. unwrap_or (prefix_length (get_or ws 0 0) m) 0) c.bits_from.ensures
    ∙ ap (λ b. unwrap_or (prefix_length b (slice mask 0 b)) 0) (sum-one ws 0 c.requires.one)
    ∙ ap (λ m. unwrap_or (prefix_length (sum ws) m) 0) (slice-whole mask (sum ws) c.requires.mask)
