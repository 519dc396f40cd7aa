-- Items that are stored in cells.
use Rattle.std.specs.Prelude.{ℕ, List, None, slice_index_or}
use Rattle.rmt_queues.specs.declared.stored.Stored.{Stored}

-- no item is stored
abbrev pub no_item : Stored
no_item = record { chain = None; len = 0; copies = 0 }

-- what is stored at an index
abbrev pub stored_at : List Stored → ℕ → Stored
stored_at stored index = slice_index_or stored index no_item
