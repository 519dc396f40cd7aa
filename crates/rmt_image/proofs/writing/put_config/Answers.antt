use Rattle.std.proofs.Common.{◌++◌, ap, ◌∙◌, List, subst, ◌≡◌}
use Rattle.std.specs.Prelude.{OnOk}
use Rattle.rmt_config.specs.Spelling.{spelled_ports, spelled_list8, spelled_header, spelled_parser, spelled_stage}
use Rattle.rmt_items.proofs.Appending.{appended_four}
use Rattle.rmt_image.proofs.writing.put_config.Goals as goal

pub returns : goal.returns
returns c =
    let config = c.args.config.now in
    appended_four c.put_list8-2.result c.args.out.now.items
    (spelled_ports config)
    (spelled_list8 spelled_header config.headers) (spelled_parser config.parser) (spelled_list8 spelled_stage config.stages)
    c.put_ports.new.out.items c.put_list8.new.out.items c.put_parser.new.out.items c.put_list8-2.new.out.items
    c.in_ok-put_ports.ensures
    (c.in_ok-put_list8.ensures.put ∙ ap (λ (hs : List _). c.put_ports.new.out.items ++ spelled_list8 spelled_header hs) c.as_slice.ensures)
    c.in_ok-put_parser.ensures.put
    (subst (λ (ss : List _). OnOk c.put_list8-2.result (c.put_list8-2.new.out.items ≡ c.put_parser.new.out.items ++ spelled_list8 spelled_stage ss)) c.as_slice-2.ensures c.put_list8-2.ensures.put)
