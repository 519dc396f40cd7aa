-- What lanes hold together, and what operations compute.
use Rattle.std.proofs.Common.{◌≡◌, ℕ, ◌+◌, ◌*◌, ◌^◌, List, [], ◌∷◌, map, refl, ap, ◌∙◌, ◌-◌, ◌<◌, arith}
use Rattle.std.specs.Prelude.{All}
use Rattle.std.proofs.lemmas.List.Elements.{All-head, All-tail}
use Rattle.std.proofs.lemmas.List.Sums.{sum_by-cons}
use Rattle.rmt_bits.specs.declared.lane.Lane.{Lane}
use Rattle.rmt_config.specs.Effects.{held_by}
use Rattle.rmt_config.specs.LaneForm.{bits_of_lanes}
use Rattle.rmt_config.specs.Life.{Words, lane_of, computed}
use Rattle.std.proofs.lemmas.Nat.{pow_pos, mod_below, and_le_l, or_lt, xor_lt}
use Rattle.rmt_config.specs.Types.{OpKind}
use Rattle.rmt_config.specs.declared.config.OpKind.TheVariants as kind

pub bits_of_lanes-cons : (l : Lane) (ls : List Lane) → bits_of_lanes (l ∷ ls) ≡ l.len + bits_of_lanes ls
bits_of_lanes-cons l ls = sum_by-cons (λ (n : ℕ). n) l.len (map (λ (x : Lane). x.len) ls)

-- the same in each lane of two vectors of words
abbrev pub SameIn : Words → Words → Lane → Type 0
SameIn one two l = lane_of one l ≡ lane_of two l

-- lanes that read the same hold the same
pub held_same : (one two : Words) (ls : List Lane) → All (SameIn one two) ls → held_by one ls ≡ held_by two ls
held_same one two [] h = refl
held_same one two (l ∷ ls) h =
    ap (λ n. n + 2 ^ l.len * held_by one ls) (All-head (SameIn one two) l ls h)
    ∙ ap (λ n. lane_of two l + 2 ^ l.len * n) (held_same one two ls (All-tail (SameIn one two) l ls h))

-- what an operation computes fits its bits
pub computed-lt : (k : OpKind) (len a b : ℕ) → a < 2 ^ len → b < 2 ^ len → computed k len a b < 2 ^ len
computed-lt kind.Copy len a b ha hb = ha
computed-lt kind.Add len a b ha hb = mod_below (a + b) (2 ^ len) (pow_pos len)
computed-lt kind.Sub len a b ha hb = mod_below (a + 2 ^ len - b) (2 ^ len) (pow_pos len)
computed-lt kind.And len a b ha hb = omega (arith, and_le_l a b)
computed-lt kind.Or len a b ha hb = or_lt len a b ha hb
computed-lt kind.Xor len a b ha hb = xor_lt len a b ha hb
