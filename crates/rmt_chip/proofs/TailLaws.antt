-- The tails of a frame that the parser accepts, and the payload behind them, are no more than the frame.
use Rattle.std.proofs.Common.{◌≡◌, ℕ, zero, suc, ◌+◌, ◌-◌, ◌<◌, ◌≤◌, Bool, cond, List, [], ◌∷◌, length, set, Option, Some, None, refl, sym, subst, ⊎_elim, arith}
use Rattle.std.specs.Prelude.{slice_get, replicate, drop, take}
use Rattle.std.proofs.lemmas.Bool.{cases_lt, lt-ltb, le-ltb}
use Rattle.std.proofs.lemmas.List.Sums.{sum_by-cons}
use Rattle.rmt_bits.proofs.AllLaws.{All-slice_get}
use Rattle.rmt_chip.specs.Types.{ParserConfig, ParserEntry, Next, TailOf}
use Rattle.rmt_config.specs.declared.config.Next.TheVariants as next
use Rattle.rmt_config.specs.declared.tails.TailAt.{TailAt}
use Rattle.rmt_config.specs.Parser.{Parse, Reached, Short, Reject, Accept, parse, parse_from, taken, step, past_tail, past_length, behind, behind_tail, follow, tail_of, entry_of, value_at, begin, no_tail}
use Rattle.rmt_ptcam.specs.declared.parse.Parsed.{Parsed}
use Rattle.rmt_ptcam.specs.Fitting.{IsEntry, IsParser}
use Rattle.rmt_ptcam.specs.Parsing.{ParsesTo}
use Rattle.rmt_chip.specs.Tails.{tails_len, used_by}

-- how far a parser may have come in so many bytes
pub record IsBehind (n : ℕ) (r : Reached) : Type 0 where
  pub tails : tails_len r.tails ≤ r.at
  pub within : r.at ≤ n

abbrev pub EndsWithin : ℕ → Parse → Type 0
EndsWithin n Short = Unit {0}
EndsWithin n Reject = Unit {0}
EndsWithin n (Accept r) = IsBehind n r

sum_set : (tails : List TailAt) (h : ℕ) (x : TailAt) → tails_len (set tails h x) ≤ tails_len tails + x.len
sum_set [] h x = omega arith
sum_set (t ∷ ts) zero x =
    let a = sum_by-cons (λ (u : TailAt). u.len) x ts in
    let b = sum_by-cons (λ (u : TailAt). u.len) t ts in
    omega (arith, a, b)
sum_set (t ∷ ts) (suc h) x =
    let a = sum_by-cons (λ (u : TailAt). u.len) t (set ts h x) in
    let b = sum_by-cons (λ (u : TailAt). u.len) t ts in
    let rest = sum_set ts h x in
    omega (arith, a, b, rest)

-- parsing on from a state keeps within the frame
abbrev Goes : ℕ → (Reached → Parse) → Type 0
Goes n goes = (r : Reached) → IsBehind n r → EndsWithin n (goes r)

follow_within : (n : ℕ) (goes : ℕ → Reached → Parse) → ((s : ℕ) → Goes n (goes s)) → (e : Next) → Goes n (follow goes e)
follow_within n goes on next.Accept r good = good
follow_within n goes on next.Reject r good = tt
follow_within n goes on (next.State s) r good = on s r good

length_within : (n left header : ℕ) (goes : Reached → Parse) → Goes n goes → (len : Option ℕ) (r : Reached) → IsBehind n r → r.at + left ≤ n → EndsWithin n (past_length goes left header len r)
length_within n left header goes on None r good room = tt
length_within n left header goes on (Some len) r good room =
    ⊎_elim
    (λ (short : left < len). subst (λ (b : Bool). EndsWithin n (cond b Short (goes (behind_tail header len r)))) (sym (lt-ltb left len short)) tt)
    (λ (long : len ≤ left).
    let sum = sum_set r.tails header (record { place = r.at; len = len }) in
    let was = good.tails in
    subst (λ (b : Bool). EndsWithin n (cond b Short (goes (behind_tail header len r)))) (sym (le-ltb left len long))
    (on (behind_tail header len r) (record { tails = omega (arith, sum, was); within = omega (arith, room, long) })))
    (cases_lt left len)

tail_within : (n left : ℕ) (goes : Reached → Parse) → Goes n goes → (window : List ℕ) (tail : Option TailOf) (r : Reached) → IsBehind n r → r.at + left ≤ n → EndsWithin n (past_tail goes window left tail r)
tail_within n left goes on window None r good room = on r good
tail_within n left goes on window (Some t) r good room = length_within n left t.header goes on _ r good room

step_within : (frame : List ℕ) (goes : ℕ → Reached → Parse) → ((s : ℕ) → Goes (length frame) (goes s)) → (tail : Option TailOf) (entry : Option ParserEntry) → ((e : ParserEntry) → entry ≡ Some e → e.advance ≤ e.need)
    → Goes (length frame) (step goes frame tail entry)
step_within frame goes on tail None fits r good = tt
step_within frame goes on tail (Some e) fits r good =
    let n = length frame in
    let window = take e.need (drop r.at frame) in
    let far : e.advance ≤ e.need = fits e refl in
    ⊎_elim
    (λ (short : n < r.at + e.need). subst (λ (b : Bool). EndsWithin n (cond b Short (past_tail (follow goes e.next) window (n - (r.at + e.need)) tail (behind window e r)))) (sym (lt-ltb n (r.at + e.need) short)) tt)
    (λ (long : r.at + e.need ≤ n).
    let was = good.tails in
    subst (λ (b : Bool). EndsWithin n (cond b Short (past_tail (follow goes e.next) window (n - (r.at + e.need)) tail (behind window e r)))) (sym (le-ltb n (r.at + e.need) long))
    (tail_within n (n - (r.at + e.need)) (follow goes e.next) (follow_within n goes on e.next) window tail (behind window e r)
    (record { tails = omega (arith, was); within = omega (arith, long, far) }) (omega (arith, long, far))))
    (cases_lt n (r.at + e.need))

entry_advance : (parser : ParserConfig) → IsParser parser → (i : ℕ) (e : ParserEntry) → slice_get parser.entries i ≡ Some e → e.advance ≤ e.need
entry_advance parser fits i e is = (All-slice_get IsEntry parser.entries i e fits.entries is).advance

taken_within : (parser : ParserConfig) → IsParser parser → (frame : List ℕ) (goes : ℕ → Reached → Parse) → ((s : ℕ) → Goes (length frame) (goes s)) → (i : Option ℕ) → Goes (length frame) (taken goes parser frame i)
taken_within parser fits frame goes on None r good = tt
taken_within parser fits frame goes on (Some i) r good =
    step_within frame goes on (tail_of parser i) (slice_get parser.entries i) (λ e is. entry_advance parser fits i e is) r good

from_within : (parser : ParserConfig) → IsParser parser → (frame : List ℕ) (states : ℕ) (s : ℕ) → Goes (length frame) (parse_from states parser frame s)
from_within parser fits frame zero s r good = tt
from_within parser fits frame (suc states) s r good =
    taken_within parser fits frame (parse_from states parser frame) (from_within parser fits frame states) (entry_of parser s (value_at frame r.at (slice_get parser.states s))) r good

none_len : (n : ℕ) → tails_len (replicate n no_tail) ≤ 0
none_len zero = omega arith
none_len (suc n) = let a = sum_by-cons (λ (u : TailAt). u.len) no_tail (replicate n no_tail) in let rest = none_len n in omega (arith, a, rest)

pub parse_within : (parser : ParserConfig) → IsParser parser → (frame : List ℕ) → EndsWithin (length frame) (parse parser frame)
parse_within parser fits frame = from_within parser fits frame (length parser.states) 0 begin (record { tails = none_len 64; within = omega arith })

-- what the code's parse leaves
pub parsed_within : (n : ℕ) (p : Parse) (answer : Parsed) (vector : List ℕ) (tails : List TailAt) → n ≤ 9216 → EndsWithin n p → ParsesTo p answer vector tails → (tails_len tails ≤ used_by answer) × (used_by answer ≤ 9216)
parsed_within n Short answer vector tails few ends to =
    let none = none_len 64 in
    (subst (λ (ts : List TailAt). tails_len ts ≤ used_by answer) (sym to.1.1) (omega (arith, none)), subst (λ (a : Parsed). used_by a ≤ 9216) (sym to.0) (omega arith))
parsed_within n Reject answer vector tails few ends to =
    let none = none_len 64 in
    (subst (λ (ts : List TailAt). tails_len ts ≤ used_by answer) (sym to.1.1) (omega (arith, none)), subst (λ (a : Parsed). used_by a ≤ 9216) (sym to.0) (omega arith))
parsed_within n (Accept r) answer vector tails few ends to =
    let least = ends.tails in
    let most = ends.within in (
      subst (λ (ts : List TailAt). tails_len ts ≤ used_by answer) (sym to.2) (subst (λ (a : Parsed). tails_len r.tails ≤ used_by a) (sym to.0) least),
      subst (λ (a : Parsed). used_by a ≤ 9216) (sym to.0) (omega (arith, most, few)),
    )
