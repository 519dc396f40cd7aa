use Rattle.std.proofs.Common.{◌≡◌, ◌∙◌, List, unwrap_or, ap, ap₂}
use Rattle.rmt_syntax.specs.declared.terminal.Terminal.TheVariants as terminal
use Rattle.rmt_check.specs.Parts.{Tree, Source}
use Rattle.rmt_check.specs.Reading.{action_at, control_among, each, first, header_at, meta_at, nowhere, place_at, table_at}
use Rattle.rmt_check.proofs.reading.read.Goals as goal

abbrev source_by : List Tree → Source
source_by ts = record {
  headers = each header_at ts;
  metas = each meta_at ts;
  actions = each action_at ts;
  tables = each table_at ts;
  control = control_among ts;
  end = unwrap_or (first (place_at terminal.End) ts) nowhere;
}

pub returns : goal.returns
returns c =
    let ts = c.parts-parts.result.now in
    let said = c.in_ok-headers.ensures in
    let end = c.unwrap_or.ensures ∙ ap₂ unwrap_or c.first_place.ensures c.nowhere.ensures in
    let all : _ ≡ source_by ts =
    λ i. record { headers = (said i).0.0; metas = (said i).0.1; actions = (said i).1.0.0; tables = (said i).1.0.1; control = (said i).1.1; end = end i } in
    record { source = all ∙ ap source_by c.parts-parts.ensures }
