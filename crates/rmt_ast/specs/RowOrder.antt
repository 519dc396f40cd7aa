-- Which entries of a table stand before others in its rows.
use Rattle.std.specs.Prelude.{Bool, false, ◌&&◌, ◌||◌, ◌==◌, nat_lt}
use Rattle.rmt_ast.specs.Types.{Kind}
use Rattle.rmt_ast.specs.declared.program.Kind.TheVariants.{Keyless, Exact, Prefix, Ternary}
use Rattle.rmt_ast.specs.declared.entry.Entry.{Entry}
use Rattle.rmt_ast.specs.Naming.{rank_of, stands_first}

-- the first entry goes first: the longer prefix, or the less priority number, and then the less entry number; an exact table has no order
abbrev pub goes_first : Kind → Entry → Entry → Bool
goes_first Keyless a b = false
goes_first Exact a b = false
goes_first Prefix a b = nat_lt b.rank a.rank || (a.rank == b.rank && nat_lt a.number b.number)
goes_first Ternary a b = stands_first (rank_of a) (rank_of b)
