-- What the parser of a program needs, and which programs are refused.
use Rattle.std.specs.Prelude.{ℕ, ◌+◌, ◌*◌, List, [], ◌∷◌, Bool, ◌&&◌, ◌==◌, nat_lt, if◌then◌else◌, min, Option, Some, None, length, sum_by, Result, Ok, Err}
use Rattle.std.specs.Option.{option_or}
use Rattle.std.specs.List.{filter, list_any, range_with_len}
use Rattle.rmt_ptcam.specs.Types.{Program, Header}
use Rattle.rmt_ast.specs.State.{width_of}
use Rattle.rmt_phv.specs.Packing.{pieces}
use Rattle.rmt_ptcam.specs.declared.fault.ParserFault.{ParserFault}
use Rattle.rmt_ptcam.specs.declared.fault.ParserFault.TheVariants.{LookupWide, StepWide, ParserFull}

-- the first bit of a field among the bits of fields that stand one behind another
abbrev pub place_in : Program → List ℕ → ℕ → ℕ
place_in p [] f = 0
place_in p (g ∷ gs) f = if g == f then 0 else width_of p g + place_in p gs f

-- a field has bits in a byte of its header
abbrev pub touches : Program → Header → ℕ → ℕ → Bool
touches p h byte f =
    nat_lt (place_in p h.fields f) (8 * byte + 8) && nat_lt (8 * byte) (place_in p h.fields f + width_of p f)

-- some field that the header selects by has bits in the byte
abbrev pub is_looked_up : Program → Header → ℕ → Bool
is_looked_up p h byte = list_any (touches p h byte) h.select

-- the bytes of the fields that a header selects by
abbrev pub lookups_of : Program → Header → List ℕ
lookups_of p h = filter (is_looked_up p h) (range_with_len 0 h.bytes)

-- one extract for valid, and one for each piece of each field
abbrev pub extract_count : Program → Header → ℕ
extract_count p h = 1 + sum_by (λ f. length (pieces (width_of p f))) h.fields

-- one entry for each case, and one for the other packets
abbrev pub entry_count : Header → ℕ
entry_count h = length h.cases + 1

-- the entries of some headers
abbrev pub entries_in : List Header → ℕ
entries_in hs = sum_by entry_count hs

-- why header n is refused: it looks at more than 4 bytes, or has more than 64 extracts
abbrev pub header_fault : Program → ℕ → Header → Option ParserFault
header_fault p n h =
    if nat_lt 4 (length (lookups_of p h)) then Some (LookupWide n (length (lookups_of p h)))
    else (if nat_lt 64 (extract_count p h) then Some (StepWide n (extract_count p h)) else None)

-- the same of the first of some headers that is refused, the first of which has number n
abbrev pub first_fault : Program → ℕ → List Header → Option ParserFault
first_fault p n [] = None
first_fault p n (h ∷ hs) = option_or (header_fault p n h) (first_fault p (n + 1) hs)

-- more than 256 entries, of which up to 2^32 - 1 are told
abbrev pub full_fault : Program → Option ParserFault
full_fault p = if nat_lt 256 (entries_in p.headers) then Some (ParserFull (min (entries_in p.headers) 4294967295)) else None

-- why a program is refused
abbrev pub refusal : Program → Option ParserFault
refusal p = option_or (first_fault p 0 p.headers) (full_fault p)

-- what is given unless there is a refusal
abbrev pub unless : {X : Type 0} → Option ParserFault → X → Result X ParserFault
unless None x = Ok x
unless (Some fault) x = Err fault
