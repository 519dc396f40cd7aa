-- The lines of a packet text that may be read, and how far some were.
use Rattle.std.specs.Prelude.{◌≡◌, [], ◌∷◌, codes, refl}
use Rattle.std.proofs.Common.{arith}
use Rattle.rmt_packets.specs.Pieces.{front_size}
use Rattle.rmt_runs.specs.Pieces.{PassesLimit}
use Rattle.rmt_runs.specs.TextLines.{ReadPast, ReadWhole, WereRead, fronts_of, lines_within}

-- a text that ends at its limit has all its lines, the last one without a line feed too
pub all_within : lines_within 8 (codes "# none\n0") ≡ (2, codes "0") ∷ []
all_within = refl

-- a text that goes on has those that end within the limit: not the one that the limit cuts
pub one_is_cut : lines_within 9 (codes "0 ff\n1 00\n") ≡ (1, codes "0 ff") ∷ []
one_is_cut = refl

-- a line feed that is the limit's last byte ends its line
pub one_ends_there : lines_within 5 (codes "0 ff\n1 00\n") ≡ (1, codes "0 ff") ∷ []
one_ends_there = refl

pub none_within : lines_within 0 (codes "0 ff\n") ≡ []
none_within = refl

pub short_lines_are_whole : fronts_of ((3, codes "0 ff") ∷ []) ≡ (3, codes "0 ff") ∷ []
unfolding front_size
short_lines_are_whole = refl

-- the first line was read, and another one stands behind it
pub one_was_read : WereRead 10 (codes "0 ff\n1 00\n") ((1, codes "0 ff") ∷ [])
unfolding front_size
one_was_read = record { gave = (1, codes "0 ff") ∷ []; more = (2, codes "1 00") ∷ []; fronts = refl; first = refl }

pub both_were_read : ReadWhole 10 (codes "0 ff\n1 00\n") ((1, codes "0 ff") ∷ (2, codes "1 00") ∷ [])
unfolding front_size
both_were_read = record { fronts = refl; whole = omega (arith) }

pub read_to_the_limit : ReadPast 9 (codes "0 ff\n1 00\n") ((1, codes "0 ff") ∷ [])
unfolding front_size
read_to_the_limit = record { fronts = refl; long = omega (arith) }

pub the_limit_is_passed : PassesLimit 9 (codes "0 ff\n1 00\n") ((1, codes "0 ff") ∷ [])
the_limit_is_passed = record { long = omega (arith); within = refl }
