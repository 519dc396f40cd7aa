-- What is kept of a cell after a commit that moves none, where no entry comes to it.
use Rattle.std.specs.Prelude.{ℕ, Bool, if◌then◌else◌, Option, Some, None}
use Rattle.rmt_book.specs.declared.kept.Kept.{Kept}
use Rattle.rmt_book.specs.Seen.{is_seen}

-- the visible bit of odd versions, or of even ones
abbrev pub bit_of : Bool → ℕ
bit_of odd = if odd then 2 else 1

-- an entry that stays has both visible bits, one that goes that of the present version alone, and one that went before is no longer kept
abbrev pub next_kept : Bool → Bool → Option Kept → Option Kept
next_kept odd gone None = None
next_kept odd gone (Some k) = if is_seen odd k then Some (record k { visible = if gone then bit_of odd else 3 }) else None
