-- How many states of a parser a frame meets, and how many headers its walk takes.
use Rattle.std.specs.Prelude.{◌≡◌, ℕ, zero, suc, List, All, ◌<◌, slice_get}
use Rattle.rmt_ptcam.specs.Types.{Program, ParserConfig}
use Rattle.rmt_ast.specs.Walk.{Walk}
use Rattle.rmt_ast.specs.Walk as walks
use Rattle.rmt_config.specs.Parser.{Parse, Reached, Short, Reject, begin, entry_of, taken, value_at}

-- the parse from a state on, cut off after so many states: another answer stands for the rest
abbrev pub parse_within : Parse → ℕ → ParserConfig → List ℕ → ℕ → Reached → Parse
parse_within rest zero parser frame state r = rest
parse_within rest (suc states) parser frame state r =
    taken (parse_within rest states parser frame) parser frame (entry_of parser state (value_at frame r.at (slice_get parser.states state))) r

-- the walk from a header on, cut off after so many headers
abbrev pub walk_within : Walk → ℕ → Program → List ℕ → ℕ → walks.Reached → Walk
walk_within rest zero p frame n r = rest
walk_within rest (suc headers) p frame n r = walks.step (walk_within rest headers p frame) p frame n (slice_get p.headers n) r

-- a frame's parse ends within so many states: its end doesn't hang on what stands for the rest
abbrev pub ParsesWithin : ParserConfig → List ℕ → ℕ → Type 0
ParsesWithin parser frame states = parse_within Short states parser frame 0 begin ≡ parse_within Reject states parser frame 0 begin

-- its walk ends within so many headers
abbrev pub WalksWithin : Program → ℕ → List ℕ → ℕ → Type 0
WalksWithin p port frame headers = walk_within walks.Short headers p frame 0 (walks.begin p port) ≡ walk_within walks.Reject headers p frame 0 (walks.begin p port)

-- on no frame the parser meets more states than the walk takes headers
abbrev pub MeetsNoMore : ParserConfig → Program → Type 0
MeetsNoMore parser p = (port : ℕ) (frame : List ℕ) → All (λ b. b < 256) frame → (count : ℕ) → WalksWithin p port frame count → ParsesWithin parser frame count
