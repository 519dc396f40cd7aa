-- A table whose parts are gone over, in a configuration that keeps the rules of items and of memory.
use Rattle.std.specs.Prelude.{◌≡◌, IsTrue}
use Rattle.rmt_config.specs.Form.{items_are_formed}
use Rattle.rmt_config.specs.MemoryRules.{MemoryIsFormed}
use Rattle.rmt_config.specs.NamesForm.{has_parts, is_made_so}
use Rattle.rmt_config.specs.PartsTold.{listed_numbers, parts_at}
use Rattle.rmt_config.specs.Rooms.{parts_of}
use Rattle.rmt_config.specs.declared.form.names.part_list.TableParts.{TableParts}

-- it has parts and is named as they are made, and these are its parts and their numbers
pub record TableStands (t : TableParts) : Type 0 where
  pub items : IsTrue (items_are_formed t.config.now)
  pub memory : MemoryIsFormed t.config.now
  pub has : IsTrue (has_parts t.config.now t.table.now)
  pub made : IsTrue (is_made_so t.config.now t.table.now)
  pub parts : parts_at t.parts.now ≡ parts_of t.config.now t.table.now.node
  pub numbers : t.numbers.now ≡ listed_numbers (parts_of t.config.now t.table.now.node)
