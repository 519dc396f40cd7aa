-- What every walk and every parse keeps: the port, and a place for the tail of each header.
use Rattle.std.proofs.Common.{◌≡◌, ℕ, zero, suc, ◌+◌, ◌-◌, ◌*◌, ◌≤◌, List, [], ◌∷◌, length, take, drop, replicate, Option, Some, None, refl, sym, ◌∙◌, subst, arith}
use Rattle.std.specs.Prelude.{⊤, All, nat_lt, slice_get, slice_index, slice_set, sum, map}
use Rattle.std.specs.List.{range_with_len}
use Rattle.std.proofs.lemmas.Bool.{cond_both}
use Rattle.std.proofs.lemmas.List.{length-set, length-replicate, get_or-set_same, get_or-set_other}
use Rattle.std.proofs.lemmas.List.Elements.{All-head, All-tail}
use Rattle.std.proofs.lemmas.List.FromFn.{get_or-range_with_len, length-range_with_len}
use Rattle.rmt_bits.specs.Bits.{slice, number_of, bits_of_bytes}
use Rattle.rmt_bits.proofs.AllLaws.{All-parts, All-slice_get}
use Rattle.rmt_refine.specs.Types.{Program, Header, Tail, Target, ParserConfig, ParserEntry, Next, TailOf}
use Rattle.rmt_ast.specs.declared.program.Target.TheVariants as target
use Rattle.rmt_ast.specs.State.{set_fields, width_of}
use Rattle.rmt_ast.specs.Walk.{Walk, target_of, walk, walk_from}
use Rattle.rmt_ast.specs.Walk as walks
use Rattle.rmt_ast.specs.WellFormed.{HasFields, IsProgram, header_fields}
use Rattle.rmt_config.specs.declared.config.Next.TheVariants as next
use Rattle.rmt_config.specs.Parser.{Parse, Reached, Short, Reject, Accept, begin, behind, behind_tail, entry_of, follow, no_tail, parse, parse_from, past_length, past_tail, step, tail_length, tail_of, taken, value_at}

-- ---- fields of headers

-- no field of a header is a port or the mark of dropping
pub header_fields_low : (p : Program) (n : ℕ) (h : Header) → HasFields p → slice_get p.headers n ≡ Some h → (3 ≤ h.valid) × All (λ f. 3 ≤ f) h.fields
header_fields_low p n h fields at =
    let count = length (header_fields p) in
    let in_range : All (λ f. 3 ≤ f) (range_with_len 3 count) =
    λ k d lt. (let long = length-range_with_len 3 count in let e = get_or-range_with_len 3 count k d (omega (arith, lt, long)) in omega (arith, e)) in
    let parts = All-parts (λ f. 3 ≤ f) (λ (x : Header). x.valid ∷ x.fields) p.headers (subst (All (λ f. 3 ≤ f)) (sym fields.in_order) in_range) in
    let own = All-slice_get (λ (x : Header). All (λ f. 3 ≤ f) (x.valid ∷ x.fields)) p.headers n h parts at in
    (All-head (λ f. 3 ≤ f) h.valid h.fields own, All-tail (λ f. 3 ≤ f) h.valid h.fields own)

kept_low : (p : Program) (fs : List ℕ) (x : ℕ) (s : List ℕ) → All (λ f. 3 ≤ f) fs → slice_index (set_fields p fs x s) 0 ≡ slice_index s 0
kept_low p [] x s low = refl
kept_low p (f ∷ fs) x s low =
    let first = All-head (λ g. 3 ≤ g) f fs low in
    let part = slice x (sum (map (width_of p) fs)) (width_of p f) in
    kept_low p fs x (slice_set s f part) (All-tail (λ g. 3 ≤ g) f fs low) ∙ get_or-set_other s f 0 part 0 (λ e. omega (arith, e, first))

-- ---- walks

-- where a walk ends that accepts
abbrev pub WalkLeaves : (walks.Reached → Type 0) → Walk → Type 0
WalkLeaves P walks.Short = ⊤
WalkLeaves P walks.Reject = ⊤
WalkLeaves P (walks.Accept r) = P r

-- what each header and each tail keeps
module _ (p : Program) (frame : List ℕ) (P : walks.Reached → Type 0)
    (header : (n : ℕ) (h : Header) (r : walks.Reached) → slice_get p.headers n ≡ Some h → P r → P (walks.behind p h frame r))
    (tail : (n len : ℕ) (r : walks.Reached) → P r → P (walks.behind_tail frame n len r)) where
  walk_follow : (goes : ℕ → Walk) (t : Target) (r : walks.Reached) → ((m : ℕ) → WalkLeaves P (goes m)) → P r → WalkLeaves P (walks.follow goes t r)
  walk_follow goes target.Accept r leaves here = here
  walk_follow goes target.Reject r leaves here = tt
  walk_follow goes (target.Node m) r leaves here = leaves m

  walk_past : (goes : walks.Reached → Walk) → ((r : walks.Reached) → P r → WalkLeaves P (goes r)) → (n : ℕ) (o : Option Tail) (r : walks.Reached) → P r
      → WalkLeaves P (walks.past_tail goes frame n o r)
  walk_past goes leaves n None r here = leaves r here
  walk_past goes leaves n (Some t) r here =
      let told = slice_index r.state t.field * t.unit in
      cond_both (nat_lt told t.base) walks.Reject _ (WalkLeaves P) (λ negative. tt)
      (λ enough.
      cond_both (nat_lt (length frame) (r.at + (told - t.base))) walks.Short _ (WalkLeaves P) (λ short. tt)
      (λ whole. leaves (walks.behind_tail frame n (told - t.base) r) (tail n (told - t.base) r here)))

  walk_step : (goes : ℕ → walks.Reached → Walk) → ((m : ℕ) (r : walks.Reached) → P r → WalkLeaves P (goes m r)) → (n : ℕ) (o : Option Header) → slice_get p.headers n ≡ o
      → (r : walks.Reached) → P r → WalkLeaves P (walks.step goes p frame n o r)
  walk_step goes leaves n None at r here = tt
  walk_step goes leaves n (Some h) at r here =
      cond_both (nat_lt (length frame) (r.at + h.bytes)) walks.Short _ (WalkLeaves P) (λ short. tt)
      (λ whole.
      walk_past (λ b. walks.follow (λ m. goes m b) (target_of h b.state) b) (λ b there. walk_follow (λ m. goes m b) (target_of h b.state) b (λ m. leaves m b there) there)
      n h.tail (walks.behind p h frame r) (header n h r at here))

  pub walk_leaves_from : (most n : ℕ) (r : walks.Reached) → P r → WalkLeaves P (walk_from most p frame n r)
  walk_leaves_from zero n r here = tt
  walk_leaves_from (suc most) n r here = walk_step (walk_from most p frame) (walk_leaves_from most) n (slice_get p.headers n) refl r here

-- in_port has the port, and each header has a tail
pub record KeepsPort (p : Program) (port : ℕ) (r : walks.Reached) : Type 0 where
  pub port_is : slice_index r.state 0 ≡ port
  pub tails : length r.tails ≡ length p.headers

pub walk_keeps_port : (p : Program) (port : ℕ) (frame : List ℕ) → IsProgram p → WalkLeaves (KeepsPort p port) (walk p port frame)
walk_keeps_port p port frame program =
    let zeros : List ℕ = replicate (length p.fields) 0 in
    let long : length zeros ≡ length p.fields = length-replicate {A = ℕ} (length p.fields) 0 in
    walk_leaves_from p frame (KeepsPort p port)
    (λ n h r at here.
    let low = header_fields_low p n h program.fields at in
    let s = set_fields p h.fields (number_of (take h.bytes (drop r.at frame))) r.state in
    record {
      port_is = get_or-set_other s h.valid 0 1 0 (λ e. omega (arith, e, low.0)) ∙ kept_low p h.fields (number_of (take h.bytes (drop r.at frame))) r.state low.1 ∙ here.port_is;
      tails = here.tails;
    })
    (λ n len r here. record { port_is = here.port_is; tails = length-set r.tails n (take len (drop r.at frame)) ∙ here.tails })
    (length p.headers) 0 (walks.begin p port)
    (record {
      port_is = get_or-set_same zeros 0 port 0 (omega (arith, program.fields.all_there, long));
      tails = length-replicate (length p.headers) [];
    })

-- ---- parses

-- where a parse ends that accepts, there are 64 tails
abbrev pub KeepsTails : Parse → Type 0
KeepsTails Short = ⊤
KeepsTails Reject = ⊤
KeepsTails (Accept r) = length r.tails ≡ 64

abbrev GoesKeeping : (Reached → Parse) → Type 0
GoesKeeping goes = (r : Reached) → length r.tails ≡ 64 → KeepsTails (goes r)

follow_keeps : (goes : ℕ → Reached → Parse) → ((state : ℕ) → GoesKeeping (goes state)) → (n : Next) → GoesKeeping (follow goes n)
follow_keeps goes keeps next.Accept r here = here
follow_keeps goes keeps next.Reject r here = tt
follow_keeps goes keeps (next.State s) r here = keeps s r here

length_keeps : (left header : ℕ) (goes : Reached → Parse) → GoesKeeping goes → (o : Option ℕ) → GoesKeeping (past_length goes left header o)
length_keeps left header goes keeps None r here = tt
length_keeps left header goes keeps (Some len) r here =
    cond_both (nat_lt left len) Short _ KeepsTails (λ short. tt)
    (λ whole. keeps (behind_tail header len r) (length-set r.tails header (record { place = r.at; len = len }) ∙ here))

tail_keeps : (left : ℕ) (window : List ℕ) (goes : Reached → Parse) → GoesKeeping goes → (o : Option TailOf) → GoesKeeping (past_tail goes window left o)
tail_keeps left window goes keeps None r here = keeps r here
tail_keeps left window goes keeps (Some t) r here = length_keeps left t.header goes keeps (tail_length (bits_of_bytes window t.from t.len) t.unit t.base) r here

step_keeps : (frame : List ℕ) (goes : ℕ → Reached → Parse) → ((state : ℕ) → GoesKeeping (goes state)) → (t : Option TailOf) (o : Option ParserEntry) → GoesKeeping (step goes frame t o)
step_keeps frame goes keeps t None r here = tt
step_keeps frame goes keeps t (Some e) r here =
    let window = take e.need (drop r.at frame) in
    cond_both (nat_lt (length frame) (r.at + e.need)) Short _ KeepsTails (λ short. tt)
    (λ whole. tail_keeps (length frame - (r.at + e.need)) window (follow goes e.next) (follow_keeps goes keeps e.next) t (behind window e r) here)

taken_keeps : (parser : ParserConfig) (frame : List ℕ) (goes : ℕ → Reached → Parse) → ((state : ℕ) → GoesKeeping (goes state)) → (o : Option ℕ) → GoesKeeping (taken goes parser frame o)
taken_keeps parser frame goes keeps None r here = tt
taken_keeps parser frame goes keeps (Some n) r here = step_keeps frame goes keeps (tail_of parser n) (slice_get parser.entries n) r here

from_keeps : (states : ℕ) (parser : ParserConfig) (frame : List ℕ) (state : ℕ) → GoesKeeping (parse_from states parser frame state)
from_keeps zero parser frame state r here = tt
from_keeps (suc states) parser frame state r here =
    taken_keeps parser frame (parse_from states parser frame) (from_keeps states parser frame) (entry_of parser state (value_at frame r.at (slice_get parser.states state))) r here

pub parse_keeps_tails : (parser : ParserConfig) (frame : List ℕ) → KeepsTails (parse parser frame)
parse_keeps_tails parser frame = from_keeps (length parser.states) parser frame 0 begin (length-replicate 64 no_tail)
