use Rattle.std.proofs.Common.{rules, ◌≡◌, ◌++◌, map, ap, sym, ◌∙◌}
use Rattle.rmt_ptcam.specs.Types.{ParserEntry}
use Rattle.rmt_ptcam.specs.Joining.{moved}
use Rattle.rmt_ptcam.specs.Words.{entry_of_both}
use Rattle.rmt_ptcam.proofs.TestLaws.{joined_is}
use Rattle.rmt_ptcam.proofs.joining.entry_rows.joined_entry.Goals as goal

pub returns : goal.returns
returns c =
    let here = c.args.here.now in
    let there = c.args.there.now in
    let e : ParserEntry = c.args.first.now in
    let f : ParserEntry = c.args.second.now in
    let all : ParserEntry = entry_of_both here there e f in
    let extracts : c.push_moved.new.extracts ≡ e.extracts ++ map (moved e.advance) f.extracts = search rules in
    ap (λ v. record all { value = v; mask = c.both-2.result; extracts = c.push_moved.new.extracts }) c.both.ensures
    ∙ ap (λ m. record all { mask = m; extracts = c.push_moved.new.extracts }) c.both-2.ensures
    ∙ ap (λ xs. record all { extracts = xs }) extracts ∙ sym (joined_is here there e f)
