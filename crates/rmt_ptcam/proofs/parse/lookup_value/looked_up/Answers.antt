use Rattle.std.proofs.Common.{ℕ, ◌+◌, get_or, sym, ◌∙◌, arith}
use Rattle.std.proofs.lemmas.List.{get_or_past}
use Rattle.rmt_ptcam.proofs.ParseLaws.{map_at_some, map_at_none}
use Rattle.rmt_ptcam.proofs.parse.lookup_value.looked_up.Goals as goal

pub returns-else-byte-frame : goal.returns-else-byte-frame
returns-else-byte-frame c =
    let f = λ (offset : ℕ). get_or c.args.frame.now (c.args.cursor + offset) 0 in
    sym (map_at_some f c.args.state.now.lookups c.args.at c.in-Some.offset.now c.in-Some.ensures.item ∙ get_or_past c.args.frame.now (c.args.cursor + c.in-Some.offset.now) 0 (omega arith))

pub returns-in-None : goal.returns-in-None
returns-in-None c = sym (map_at_none (λ (offset : ℕ). get_or c.args.frame.now (c.args.cursor + offset) 0) c.args.state.now.lookups c.args.at c.in-None.ensures.item)
