use Rattle.std.proofs.Common.{◌≡◌, ◌+◌, ◌/◌, ◌%◌, ◌<◌, ◌∙◌, ◌∷◌, ◌++◌, [], ℕ, List, length, length-append, option_to_list, sym, ap, arith}
use Rattle.rmt_bits.specs.Bits.{number_of}
use Rattle.rmt_bits.proofs.ByteLaws.{length-bytes_of}
use Rattle.rmt_bits.proofs.BitLaws.{slice-lt}
use Rattle.rmt_config.specs.BlockCounts.{divided_up}
use Rattle.rmt_book.specs.Entries.{entry_at}
use Rattle.rmt_book.proofs.KeptLaws.{headed}
use Rattle.rmt_book.proofs.entry.headed_entry.Goals as goal
use Rattle.rmt_book.proofs.entry.headed_entry.Goals.{In-Some}

-- the head is the last byte
split : (c : In-Some) → c.in_ok-rest.rest.items ≡ c.pop.new.self.items ++ c.in-Some.head ∷ []
split c = c.pop.ensures.items ∙ ap (λ o. c.pop.new.self.items ++ option_to_list o) c.in-Some.is

known : (c : In-Some) → c.in-Some.head < 256 → (c.in-Some.head ≡ entry_at c.args.at.now % 256) × (number_of c.pop.new.self.items ≡ entry_at c.args.at.now / 256)
known c low =
    let len = c.args.at.now.layout.now.entry in
    headed c.in_ok-rest.rest.items c.pop.new.self.items c.in-Some.head len (entry_at c.args.at.now) (slice-lt _ _ len) low c.in_ok-rest.ensures (split c)

long : (c : In-Some) → length c.pop.new.self.items + 1 ≡ divided_up c.args.at.now.layout.now.entry 8
long c =
    let all = ap (λ (bs : List ℕ). length bs) (sym c.in_ok-rest.ensures ∙ split c) in
    let front = length-append c.pop.new.self.items (c.in-Some.head ∷ []) in
    let size = length-bytes_of (divided_up c.args.at.now.layout.now.entry 8) (entry_at c.args.at.now) in
    omega (arith, all, front, size)

pub invariant_of-result : goal.invariant_of-result
invariant_of-result c = record { rest_short = let h = long (goal.at.invariant_of-result c).In-Some in omega (arith, h, c.requires.few) }

pub returns-clause-head : goal.returns-clause-head
returns-clause-head c = (known (goal.at.returns-clause-head c).In-Some (omega arith)).0

pub returns-clause-rest : goal.returns-clause-rest
returns-clause-rest c = (known (goal.at.returns-clause-rest c).In-Some (omega arith)).1

pub returns-clause-size : goal.returns-clause-size
returns-clause-size c = let h = long (goal.at.returns-clause-size c).In-Some in omega (arith, h, c.requires.head)
