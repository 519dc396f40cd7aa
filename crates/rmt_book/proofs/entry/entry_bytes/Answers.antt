use Rattle.std.proofs.Common.{◌≡◌, ◌++◌, ◌∙◌, List, ℕ, ap}
use Rattle.rmt_bits.specs.Bits.{bytes_of, slice}
use Rattle.rmt_bits.proofs.BitLaws.{slice-lt, slice-whole}
use Rattle.rmt_config.specs.BlockCounts.{divided_up}
use Rattle.rmt_book.specs.Entries.{entry_at}
use Rattle.rmt_book.proofs.entry.entry_bytes.Goals as goal

pub returns : goal.returns
returns c =
    let len = c.args.at.now.layout.now.entry in
    let value = entry_at c.args.at.now in
    let whole : slice value 0 len ≡ value = slice-whole value len (slice-lt _ _ len) in
    c.in_ok-push_entry.ensures ∙ ap (λ (bs : List ℕ). bs ++ bytes_of (divided_up len 8) (slice value 0 len)) c.in_ok-bytes.ensures.items ∙ ap (bytes_of (divided_up len 8)) whole
