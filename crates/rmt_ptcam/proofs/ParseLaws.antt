-- The steps of the chip's parse.
use Rattle.std.proofs.Common.{◌≡◌, ℕ, zero, suc, ◌+◌, ◌-◌, ◌<◌, ◌≤◌, Bool, cond, List, [], ◌∷◌, eqb, length, map, take, drop, fold, Option, Some, None, refl, sym, ap, subst, ◌∙◌, arith}
use Rattle.std.specs.Prelude.{All, IfSome, slice_get, slice_index, slice_index_or}
use Rattle.std.proofs.lemmas.Option.{get_or_from_slice_get, slice_get_within, slice_get_read}
use Rattle.std.proofs.lemmas.List.Quantifiers.{position-Some}
use Rattle.std.proofs.lemmas.List.{get_or-map, get_or_past}
use Rattle.rmt_ptcam.specs.Types.{ParserConfig, ParserEntry, TailOf}
use Rattle.std.proofs.lemmas.Bool.{eqb-true, le-ltb}
use Rattle.rmt_bits.proofs.AllLaws.{All-find}
use Rattle.rmt_config.specs.Parser.{Parse, Reached, Short, Reject, parse, parse_from, taken, step, follow, past_tail, extracted, entry_of, tail_of, value_at}
use Rattle.rmt_config.specs.declared.tails.TailAt.{TailAt}
use Rattle.rmt_ptcam.specs.declared.parse.step.Step.{Step}
use Rattle.rmt_ptcam.specs.Parsing.{standing, StepGives}
use Rattle.rmt_ptcam.specs.Fitting.{IsTailOf}
use Rattle.rmt_bits.proofs.ListLaws.{find-passes}

pub map_at_some : (f : ℕ → ℕ) (xs : List ℕ) (i x : ℕ) → slice_get xs i ≡ Some x → slice_index (map f xs) i ≡ f x
map_at_some f xs i x h = get_or-map f xs i x 0 (slice_get_within xs i x h) ∙ ap f (get_or_from_slice_get xs i x x h)

pub map_at_none : (f : ℕ → ℕ) (xs : List ℕ) (i : ℕ) → slice_get xs i ≡ None → slice_index (map f xs) i ≡ 0
map_at_none f xs i h = get_or_past (map f xs) i 0 (past xs i h)
  where
    past : (ys : List ℕ) (j : ℕ) → slice_get ys j ≡ None → length (map f ys) ≤ j
    past [] j e = omega arith
    past (y ∷ ys) zero e = absurd (cc)
    past (y ∷ ys) (suc j) e = let rest = past ys j e in omega arith

-- the entry that is taken is there
pub entry_there : (parser : ParserConfig) (state value n : ℕ) (e : ParserEntry) → entry_of parser state value ≡ Some n → e ≡ slice_index_or parser.entries n e → slice_get parser.entries n ≡ Some e
entry_there parser state value n e taken read =
    slice_get_read parser.entries (length parser.entries) n e refl (position-Some _ parser.entries n e taken).0 read

-- one state of the definition, with so many to come
pub run_more : (parser : ParserConfig) (frame : List ℕ) (state k : ℕ) (r : Reached) → k < length parser.states
    → parse parser frame ≡ parse_from (length parser.states - k) parser frame state r
    → parse parser frame ≡ taken (parse_from (length parser.states - (k + 1)) parser frame) parser frame (entry_of parser state (value_at frame r.at (slice_get parser.states state))) r
run_more parser frame state k r h was =
    let next : length parser.states - k ≡ suc (length parser.states - (k + 1)) = omega arith in
    was ∙ ap (λ n. parse_from n parser frame state r) next

-- so what a step gives is what the whole parse gives
pub run_gives : (parser : ParserConfig) (frame : List ℕ) (state k : ℕ) (r : Reached) (result : Step) (vector : List ℕ) (tails : List TailAt) → k < length parser.states
    → parse parser frame ≡ parse_from (length parser.states - k) parser frame state r
    → ((goes : ℕ → Reached → Parse) → StepGives goes (taken goes parser frame (entry_of parser state (value_at frame r.at (slice_get parser.states state))) r) result vector tails)
    → StepGives (parse_from (length parser.states - (k + 1)) parser frame) (parse parser frame) result vector tails
run_gives parser frame state k r result vector tails h was gives =
    let goes : ℕ → Reached → Parse = parse_from (length parser.states - (k + 1)) parser frame in
    subst (λ (p : Parse). StepGives goes p result vector tails) (sym (run_more parser frame state k r h was)) (gives goes)

pub run_end : (parser : ParserConfig) (frame : List ℕ) (state k : ℕ) (r : Reached) → length parser.states ≤ k
    → parse parser frame ≡ parse_from (length parser.states - k) parser frame state r → parse parser frame ≡ Reject
run_end parser frame state k r h was =
    let none : length parser.states - k ≡ 0 = omega arith in
    was ∙ ap (λ n. parse_from n parser frame state r) none

-- the tail of an entry is one of the parser's, and of that entry
pub tail_fits : (parser : ParserConfig) (n : ℕ) (t : TailOf) → All (IsTailOf parser) parser.tails → tail_of parser n ≡ Some t → IsTailOf parser t × (t.entry ≡ n)
tail_fits parser n t fit found =
    (All-find (IsTailOf parser) (λ (x : TailOf). eqb x.entry n) parser.tails t fit found, eqb-true t.entry n (find-passes (λ (x : TailOf). eqb x.entry n) parser.tails t found))

-- what such a tail asks, where there is one
pub tail_asks : (P : TailOf → Type 0) (parser : ParserConfig) (n : ℕ) (o : Option TailOf) → All (IsTailOf parser) parser.tails → o ≡ tail_of parser n
    → ((t : TailOf) → IsTailOf parser t → t.entry ≡ n → P t) → IfSome o P
tail_asks P parser n None fit is gives = tt
tail_asks P parser n (Some t) fit is gives = let h = tail_fits parser n t fit (sym is) in gives t h.0 h.1

-- a step that meets a tail, by what the code does one after another
pub step_with_tail : (goes : ℕ → Reached → Parse) (frame : List ℕ) (e : ParserEntry) (t : TailOf) (tail : Option TailOf) (vector new : List ℕ) (tails left_tails : List TailAt) (cursor at width : ℕ) (result : Step)
    → cursor + e.need ≤ length frame → tail ≡ Some t → width ≡ e.need → at ≡ cursor + e.advance → new ≡ fold (extracted (take width (drop cursor frame))) vector e.extracts
    → StepGives goes (past_tail (follow goes e.next) (take width (drop cursor frame)) (length frame - (cursor + e.need)) (Some t) (standing new tails at)) result new left_tails
    → StepGives goes (step goes frame tail (Some e) (standing vector tails cursor)) result new left_tails
step_with_tail goes frame e t tail vector new tails left_tails cursor at width result inside is_tail is_width is_at is_new given =
    let window : ℕ → List ℕ = λ w. take w (drop cursor frame) in
    let left : ℕ = length frame - (cursor + e.need) in
    let one = subst (λ a. StepGives goes (past_tail (follow goes e.next) (window width) left (Some t) (standing new tails a)) result new left_tails) is_at given in
    let two = subst (λ v. StepGives goes (past_tail (follow goes e.next) (window width) left (Some t) (standing v tails (cursor + e.advance))) result new left_tails) is_new one in
    let three = subst (λ w. StepGives goes (past_tail (follow goes e.next) (window w) left (Some t) (standing (fold (extracted (window w)) vector e.extracts) tails (cursor + e.advance))) result new left_tails) is_width two in
    let four = subst (λ (b : Bool). StepGives goes (cond b Short (past_tail (follow goes e.next) (window e.need) left (Some t) (standing (fold (extracted (window e.need)) vector e.extracts) tails (cursor + e.advance)))) result new left_tails)
    (sym (le-ltb (length frame) (cursor + e.need) inside)) three in
    subst (λ (o : Option TailOf). StepGives goes (step goes frame o (Some e) (standing vector tails cursor)) result new left_tails) (sym is_tail) four
