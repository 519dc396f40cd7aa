-- The words for a formed configuration, its tables and what its memory holds, passed on by one name.
pub use Rattle.rmt_ast.specs.NameRules.{table_is_formed}
pub use Rattle.rmt_config.specs.BlockCounts.{divided_up, record_units, record_width}
pub use Rattle.rmt_config.specs.Cells.{blocks_at, cell_of, cells_in, data_at, exact_content, sram_row, tcam_row, ternary_content, unit_row}
pub use Rattle.rmt_config.specs.Form.{items_are_formed}
pub use Rattle.rmt_config.specs.KeysSeen.{WaysLow}
pub use Rattle.rmt_config.specs.LaneForm.{bits_of_lanes}
pub use Rattle.rmt_config.specs.MemoryRules.{ExactFits, FormedRows, MemoryIsFormed, SramRows, TernaryFits}
pub use Rattle.rmt_config.specs.NamesForm.{has_key_bits, has_parts, is_of_kind, rank_told}
pub use Rattle.rmt_config.specs.PartStands.{PartStands}
pub use Rattle.rmt_config.specs.PartsTold.{part_at}
pub use Rattle.rmt_config.specs.PrefixRow.{PrefixRows}
pub use Rattle.rmt_config.specs.RunCells.{own_content}
pub use Rattle.rmt_config.specs.declared.config.TcamRow.{TcamRow}
