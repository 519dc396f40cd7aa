use Rattle.std.proofs.Common.{List, ℕ, sym, ap, ◌∙◌}
use Rattle.rmt_bits.proofs.ByteLaws.{bytes_of-number_of}
use Rattle.rmt_config.specs.Parser.{lookup_value}
use Rattle.rmt_ptcam.proofs.plain.cases.lookup_in.Goals as goal

pub returns : goal.returns
returns c =
    c.lookup.ensures ∙ ap (λ (b : List ℕ). lookup_value b 0 c.args.state.now) (sym (bytes_of-number_of c.args.bytes.now (λ i. (c.type_inv.bytes i).fits)))
