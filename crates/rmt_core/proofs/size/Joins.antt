-- The joins of a program's parser fit the places that a map has for them.
use Rattle.std.proofs.Common.{◌≡◌, cond, ℕ, zero, suc, ◌^◌, ◌<◌, ◌≤◌, Bool, true, false, nat_lt, List, [], length, Option, Some, None, refl, arith}
use Rattle.std.specs.Prelude.{All, ◌==◌, slice_get}
use Rattle.std.proofs.lemmas.Bool.{ltb-true}
use Rattle.std.proofs.lemmas.List.Elements.{All-nil, All-push}
use Rattle.rmt_bits.proofs.ListLaws.{filter-short}
use Rattle.rmt_bits.specs.declared.lane.Lane.{Lane}
use Rattle.rmt_ast.specs.WellFormed.{IsProgram}
use Rattle.rmt_core.specs.Types.{Program, ParserConfig, ParserEntry, Next}
use Rattle.rmt_config.specs.declared.config.Next.TheVariants as next
use Rattle.rmt_ptcam.specs.declared.joins.Join.{Join}
use Rattle.rmt_ptcam.specs.Clustering.{Clustering, behind_join, is_wanted, next_entry, one_entry, one_header, some_entries, some_headers, unjoined}
use Rattle.rmt_ptcam.specs.Joining.{can_join, entries_in, entry_named, join_at, join_named, join_of, join_to, joined, number_of_entry}
use Rattle.rmt_ptcam.specs.Joins.{joins}
use Rattle.rmt_ptcam.specs.Plain.{plain}
use Rattle.rmt_ptcam.proofs.JoinFacts.{may_join}
use Rattle.rmt_verify.specs.Spelling.{JoinFits}

-- ---- one join

-- where an entry is joined there is room for more
room_for : (parser : ParserConfig) (at : ℕ) (o : Option ParserEntry) (q : ParserConfig) → join_at parser at o ≡ Some q → length parser.entries ≤ 16385
room_for parser at None q e = absurd cc
room_for parser at (Some x) q e = to x.next e
  where
    to : (n : Next) → join_to parser at x n ≡ Some q → length parser.entries ≤ 16385
    to next.Accept e = absurd cc
    to next.Reject e = absurd cc
    to (next.State s) e = by (can_join parser at x s) refl e
      where
        by : (b : Bool) → can_join parser at x s ≡ b → cond b (Some (joined parser at x s)) None ≡ Some q → length parser.entries ≤ 16385
        by true can e = let may = may_join parser at x s can in omega (arith, may.room)
        by false can e = absurd cc

entry_fits : (parser : ParserConfig) (j : Join) (q : ParserConfig) → join_named parser j ≡ Some q → j.entry < 2 ^ 16
entry_fits parser j q e = by (nat_lt j.entry (length (entries_in j.state parser.entries))) refl e
  where
    by : (b : Bool) → nat_lt j.entry (length (entries_in j.state parser.entries)) ≡ b → cond b (join_of parser j.state j.entry) None ≡ Some q → j.entry < 2 ^ 16
    by true less e =
        let at = number_of_entry parser.entries j.state j.entry in
        let there = ltb-true j.entry (length (entries_in j.state parser.entries)) less in
        let few = filter-short (λ (x : ParserEntry). x.state == j.state) parser.entries in
        let room = room_for parser at (slice_get parser.entries at) q e in
        omega (arith, there, few, room)
    by false less e = absurd cc

-- ---- all joins

abbrev Fit : Clustering → Type 0
Fit c = All JoinFits c.joins

next_fits : (p : Program) (n : ℕ) (c : Clustering) → n < 2 ^ 8 → Fit c → Fit (next_entry p n c)
next_fits p n c low fit = by (entry_named c.parser own)
  where
    own : Join
    own = record { state = n; entry = c.behind }

    named : (to : Next) (o : Option ParserConfig) → ((q : ParserConfig) → o ≡ Some q → c.behind < 2 ^ 16) → Fit (behind_join c own to o)
    named to None small = fit
    named to (Some q) small = All-push JoinFits c.joins own fit (record { state = low; entry = small q refl })

    wanted : (to : Next) (b : Bool) → Fit (behind_join c own to (cond b (join_named c.parser own) None))
    wanted to true = named to (join_named c.parser own) (λ q e. entry_fits c.parser own q e)
    wanted to false = named to None (λ q e. absurd cc)

    by : (o : Option ParserEntry) → Fit (one_entry p c own o)
    by None = fit
    by (Some e) = wanted e.next (is_wanted p c.parser e.next)

some_fit : (p : Program) (n count : ℕ) (c : Clustering) → n < 2 ^ 8 → Fit c → Fit (some_entries p n count c)
some_fit p n zero c low fit = fit
some_fit p n (suc count) c low fit = some_fit p n count (next_entry p n c) low (next_fits p n c low fit)

headers_fit : (p : Program) (n : ℕ) (c : Clustering) → n ≤ 2 ^ 8 → Fit c → Fit (some_headers p n c)
headers_fit p zero c low fit = fit
headers_fit p (suc n) c low fit =
    headers_fit p n (one_header p n c) (omega (arith, low))
    (some_fit p n (length (entries_in n c.parser.entries)) (record c { behind = 0 }) (omega (arith, low)) fit)

pub joins_fit : (p : Program) (places : List (List Lane)) → IsProgram p → All JoinFits (joins p places)
joins_fit p places program =
    headers_fit p (length p.headers) (unjoined (plain p places)) (omega (arith, program.counts.headers)) (All-nil JoinFits)
