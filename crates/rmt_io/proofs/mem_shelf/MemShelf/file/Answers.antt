use Rattle.std.proofs.Common.{option_map, sym, ap, ◌∙◌}
use Rattle.std.specs.FinMap as map
use Rattle.rmt_io.proofs.ByName.{get-text, borrowed_items}
use Rattle.rmt_io.proofs.mem_shelf.MemShelf.file.Goals as goal

pub returns : goal.returns
returns c =
    borrowed_items c.get.result ∙ ap (option_map (λ v. v.items)) c.get.ensures.value ∙ sym (get-text c.self.inside.files c.as_str.result.now)
    ∙ ap (λ s. map.get s.files c.as_str.result.now) c.self.view_is
    ∙ ap (map.get c.args.self.now.files) c.as_str.ensures.value
