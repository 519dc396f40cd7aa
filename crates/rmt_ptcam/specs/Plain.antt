-- The plain parser of a program: one state for each header.
use Rattle.std.specs.Prelude.{◌<◌, ⊤, ℕ, ◌+◌, ◌*◌, ◌-◌, List, [], ◌∷◌, ◌++◌, Option, Some, None, map, fold, Result}
use Rattle.std.specs.List.{range_with_len, zip}
use Rattle.rmt_bits.specs.Bits.{deposit, bytes_of}
use Rattle.rmt_bits.specs.declared.lane.Lane.{Lane}
use Rattle.rmt_ptcam.specs.Types.{Program, Header, Tail, Case, Test, Target, ParserConfig, ParserState, ParserEntry, Next, Extract, TailOf}
use Rattle.rmt_ast.specs.declared.program.Target.TheVariants as target
use Rattle.rmt_ast.specs.State.{width_of}
use Rattle.rmt_config.specs.declared.config.Next.TheVariants as next
use Rattle.rmt_config.specs.declared.config.Extract.TheVariants.{Bits, One}
use Rattle.rmt_config.specs.Parser.{lookup_value}
use Rattle.rmt_ast.specs.Places.{lanes_of}
use Rattle.rmt_ptcam.specs.declared.fault.ParserFault.{ParserFault}
use Rattle.rmt_ptcam.specs.Needs.{place_in, lookups_of, entry_count, refusal, unless}
use Rattle.rmt_phv.specs.Places.{high_first}

-- extracts of bits that stand one behind another, from a bit on
abbrev pub bits_from : ℕ → List Lane → List Extract
bits_from from [] = []
bits_from from (lane ∷ lanes) = Bits from lane ∷ bits_from (from + lane.len) lanes

-- the extracts of a header: valid is set, and then each field gets its bits
abbrev pub extracts_of : List (List Lane) → Header → List Extract
extracts_of places h = map One (lanes_of places h.valid) ++ bits_from 0 (high_first places h.fields)

-- a number of so many bytes with the value of a field at the field's place
abbrev pub with_field : Program → Header → ℕ → ℕ × ℕ → ℕ
with_field p h n x = deposit n (8 * h.bytes - (place_in p h.fields x.0 + width_of p x.0)) (width_of p x.0) x.1

-- the bytes of a header in which these fields have these values, and all other bits are 0
abbrev pub header_with : Program → Header → List ℕ → List ℕ → List ℕ
header_with p h fields values = bytes_of h.bytes (fold (with_field p h) 0 (zip fields values))

-- the state of a header
abbrev pub state_of : Program → Header → ParserState
state_of p h = record { lookups = lookups_of p h }

-- the lookup bytes of such a header
abbrev pub looked_up : Program → Header → List ℕ → ℕ
looked_up p h values = lookup_value (header_with p h h.select values) 0 (state_of p h)

-- the state of a header is that of its number
abbrev pub next_of : Target → Next
next_of target.Accept = next.Accept
next_of target.Reject = next.Reject
next_of (target.Node m) = next.State m

-- a header that has a state
abbrev pub IsNear : Target → Type 0
IsNear target.Accept = ⊤
IsNear target.Reject = ⊤
IsNear (target.Node m) = m < 64

-- an entry of header n
abbrev pub entry_to : List (List Lane) → ℕ → Header → ℕ → ℕ → Target → ParserEntry
entry_to places n h value mask to = record {
  state = n;
  value = value;
  mask = mask;
  need = h.bytes;
  advance = h.bytes;
  next = next_of to;
  extracts = extracts_of places h;
}

-- the entry of a case
abbrev pub entry_of_case : Program → List (List Lane) → ℕ → Header → Case → ParserEntry
entry_of_case p places n h c =
    entry_to places n h (looked_up p h (map (λ (t : Test). t.value) c.tests)) (looked_up p h (map (λ (t : Test). t.mask) c.tests)) c.target

-- the entries of header n: its cases in order, and then the other packets
abbrev pub entries_of : Program → List (List Lane) → ℕ → Header → List ParserEntry
entries_of p places n h = map (entry_of_case p places n h) h.cases ++ entry_to places n h 0 0 h.other ∷ []

-- the entries of some headers, the first of which has number n
abbrev pub entries_from : Program → List (List Lane) → ℕ → List Header → List ParserEntry
entries_from p places n [] = []
entries_from p places n (h ∷ hs) = entries_of p places n h ++ entries_from p places (n + 1) hs

-- the tail of an entry of header n
abbrev pub tail_at : Program → ℕ → Header → Tail → ℕ → TailOf
tail_at p n h t entry =
    record { entry = entry; header = n; from = place_in p h.fields t.field; len = width_of p t.field; unit = t.unit; base = t.base }

-- a tail for each entry of header n, where the header has one; its entries begin with that number
abbrev pub tails_for : Program → ℕ → Header → ℕ → Option Tail → List TailOf
tails_for p n h entry None = []
tails_for p n h entry (Some t) = map (tail_at p n h t) (range_with_len entry (entry_count h))

-- the tails of some headers, the first of which has number n
abbrev pub tails_from : Program → ℕ → ℕ → List Header → List TailOf
tails_from p n entry [] = []
tails_from p n entry (h ∷ hs) = tails_for p n h entry h.tail ++ tails_from p (n + 1) (entry + entry_count h) hs

-- the plain parser
abbrev pub plain : Program → List (List Lane) → ParserConfig
plain p places =
    record { states = map (state_of p) p.headers; entries = entries_from p places 0 p.headers; tails = tails_from p 0 0 p.headers }

-- the plain parser, or why there is none
abbrev pub planned : Program → List (List Lane) → Result ParserConfig ParserFault
planned p places = unless (refusal p) (plain p places)
