-- What a line of a packet text is that is not passed over: a packet, a change of an entry, or a commit of the changes.
use Rattle.std.specs.Prelude.{ℕ, Bool, false, List, [], ◌∷◌, ◌==◌, ◌&&◌, if◌then◌else◌, codes}
use Rattle.std.specs.Str.{bytes_eq}
use Rattle.rmt_packets.specs.declared.line_kind.LineKind.{LineKind}
use Rattle.rmt_packets.specs.declared.line_kind.LineKind.TheVariants.{Addition, Removal, Commit, Packet}

-- a line begins with a byte and a space
abbrev pub begins_with : ℕ → List ℕ → Bool
begins_with sign (x ∷ y ∷ rest) = (x == sign) && (y == 32)
begins_with sign line = false

-- an addition begins with + and a space, a removal with - and a space, a commit is `commit` and nothing else, and any other line is
-- a packet's
abbrev pub kind_of : List ℕ → LineKind
kind_of line =
    if begins_with 43 line then Addition
    else (if begins_with 45 line then Removal
    else (if bytes_eq line (codes "commit") then Commit else Packet))
