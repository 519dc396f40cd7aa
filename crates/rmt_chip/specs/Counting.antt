-- Hits, by the numbers of entries.
use Rattle.std.specs.Prelude.{ℕ, List, map, reverse, All, Contains}
use Rattle.rmt_bits.specs.Counts.{Hit}
use Rattle.rmt_config.specs.Life.{Counted}

-- the hits of a packet of so many bytes in one stage, of which the last one stands first, in their order
abbrev pub hits_made : ℕ → List Counted → List Hit
hits_made bytes made = map (λ (c : Counted). record { number = c.number; bytes = bytes }) (reverse made)

-- hits of these numbers alone
abbrev pub AreAmong : List ℕ → List Hit → Type 0
AreAmong numbers hits = All (λ (h : Hit). Contains numbers h.number) hits
