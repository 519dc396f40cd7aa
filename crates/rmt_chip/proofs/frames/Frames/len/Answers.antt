use Rattle.std.proofs.Common.{◌≤◌, ◌<◌, ◌≡◌, ℕ, List, [], length, get_or, sym, ap, ◌∙◌, subst}
use Rattle.std.proofs.lemmas.List.{get_or-map}
use Rattle.rmt_chip.specs.Frames.{frames_in}
use Rattle.rmt_chip.proofs.frames.Frames.len.Goals as goal

pub returns-clause-short : goal.returns-clause-short
returns-clause-short c =
    let self = c.args.self.now in
    let fs = frames_in self.cells self.chains.items in
    let inside : c.args.at < length fs = c.requires in
    let size : c.index.result.now ≡ length (get_or fs c.args.at []) =
    c.index.ensures ∙ ap (λ (ns : List ℕ). get_or ns c.args.at c.index.result.now) self.sized ∙ get_or-map length fs c.args.at [] c.index.result.now inside in
    subst (λ (n : ℕ). n ≤ 9216) (sym size) (self.stand.short c.args.at [] inside)
