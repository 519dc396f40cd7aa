-- An image is spelled with few bytes, but for the numbers of entries and the names.
use Rattle.std.proofs.Common.{ℕ, ◌+◌, ◌*◌, ◌≤◌, List, ◌++◌, length, length-append, arith}
use Rattle.std.specs.Prelude.{All, codes}
use Rattle.std.specs.List.{flat_map, sum_by}
use Rattle.std.proofs.lemmas.List.Elements.{All-from_recursion, All-weaker}
use Rattle.std.proofs.lemmas.List.Sums.{AllPass-from_list_all}
use Rattle.rmt_image.specs.Types.{Config, Stage}
use Rattle.rmt_config.specs.Instructions.{unit_instructions}
use Rattle.rmt_config.specs.CellForm.{entry_numbers, numbers_of_stage}
use Rattle.rmt_config.specs.Form.{Formed}
use Rattle.rmt_config.specs.Resources.{unit_sram}
use Rattle.rmt_config.specs.Spelling.{CountsFit, CountsFitHeader, spelled_config, spelled_header, spelled_list8, spelled_parser, spelled_ports, spelled_stage, two_bytes}
use Rattle.rmt_config.specs.ImageSpelling.{spelled_names, spelled_tails, version_of}
use Rattle.rmt_config.specs.StageForm.{rows_are_formed, stage_is_formed, tcam_blocks}
use Rattle.rmt_config.proofs.CountsLemmas.{counts_fit, stages_of_items}
use Rattle.rmt_config.proofs.LimitLaws.{KeepsLimits, limits_kept}
use Rattle.rmt_image.specs.Size.{ImageIsShort}
use Rattle.rmt_items.proofs.size.Lists.{flat_map_by, flat_map_short}
use Rattle.rmt_items.proofs.size.Front.{header_short, parser_short}
use Rattle.rmt_items.proofs.size.Stages.{StageFits, stage_short}
use Rattle.rmt_items.proofs.size.Tails.{all_tails_short}

stages_fit : (c : Config) → Formed c → CountsFit c → KeepsLimits c → All StageFits c.stages
stages_fit c formed counts limits k d lt =
    record {
      formed = AllPass-from_list_all stage_is_formed c.stages (stages_of_items c formed.items) k d lt;
      rows = AllPass-from_list_all rows_are_formed c.stages formed.whole.rows k d lt;
      counts = counts.each_stage k d lt;
      sram = All-from_recursion (λ (s : Stage). length (flat_map unit_sram s.units) ≤ 106) c.stages limits.sram k d lt;
      tcam = All-from_recursion (λ (s : Stage). length (flat_map tcam_blocks s.units) ≤ 16) c.stages limits.tcam k d lt;
      code = All-from_recursion (λ (s : Stage). sum_by unit_instructions s.units ≤ 32) c.stages limits.code k d lt;
    }

config_short : (c : Config) → CountsFit c → KeepsLimits c → All StageFits c.stages → length (spelled_config c) ≤ 103100000 + 8 * length (entry_numbers c)
config_short c counts limits fit =
    let headers = flat_map_short spelled_header 770 255 c.headers (omega (arith, counts.headers))
    (All-weaker CountsFitHeader (λ h. length (spelled_header h) ≤ 770) header_short c.headers counts.each_header) in
    let parser = parser_short c.parser counts.parser limits.states limits.entries in
    let stages = flat_map_by spelled_stage numbers_of_stage 3200000 c.stages
    (All-weaker StageFits (λ s. length (spelled_stage s) ≤ 3200000 + 8 * length (numbers_of_stage s)) stage_short c.stages fit) in
    let first = length-append (spelled_ports c ++ spelled_list8 spelled_header c.headers) (spelled_parser c.parser) in
    let second = length-append (spelled_ports c ++ spelled_list8 spelled_header c.headers ++ spelled_parser c.parser) (spelled_list8 spelled_stage c.stages) in
    omega (arith, headers, parser, stages, first, second, limits.stages)

-- the four letters and the version, the configuration, its names and its tails
pub bytes_few : ImageIsShort
bytes_few c formed within =
    let counts = counts_fit c formed.items in
    let limits = limits_kept c within in
    let config = config_short c counts limits (stages_fit c formed counts limits) in
    let front : List ℕ = codes "RMTI" ++ two_bytes (version_of c) in
    let first = length-append front (spelled_config c) in
    let second = length-append (front ++ spelled_config c) (spelled_names c.names) in
    let third = length-append (front ++ spelled_config c ++ spelled_names c.names) (spelled_tails c.parser.tails) in
    omega (arith, config, first, second, third, all_tails_short c formed)
