-- What a reader of lines stands for after each of its steps.
use Rattle.std.proofs.Common.{◌≡◌, ℕ, ◌+◌, ◌-◌, ◌<◌, ◌≤◌, ◌==◌, ◌&&◌, ◌||◌, Bool, true, false, cond, eqb, List, [], ◌∷◌, ◌++◌, length, min, take, drop, get_or, slice_range, refl, sym, ap, ◌∙◌, inl, inr, arith, length-append, length-drop, append_assoc, append-nil}
use Rattle.std.specs.List.{list_all, position_or_len}
use Rattle.std.proofs.lemmas.Bool.{cases_Bool, cases_lt, true≢false}
use Rattle.std.proofs.Math.Seq.{take-append-add}
use Rattle.std.proofs.lemmas.List.{get_or-take, length-take, take-append-drop, take-append-le, take-take, take_all, take_more}
use Rattle.std.proofs.lemmas.Slice.{between_is}
use Rattle.std.proofs.lemmas.List.Folds.{list_all-append}
use Rattle.rmt_bits.specs.Lines.{is_passed_over, numbered_lines}
use Rattle.rmt_bits.proofs.LineLaws.{is_feed}
use Rattle.rmt_packets.specs.LineSteps.{fed, grown, passes_over}
use Rattle.rmt_packets.specs.Pieces.{EndsLine, IsLast, LineState, Stands, ended_lines, feeds, front_of, front_size, open_line}
use Rattle.rmt_packets.proofs.Steps.{feed_at}
use Rattle.rmt_packets.proofs.Cuts.{NoFeed, free_to, ended_fed, ended_grows, feeds_fed, feeds_grow, open_fed, open_grows, whole_lines}

-- the front of a front that goes on is the front of the whole
front-front : (n : ℕ) (xs ys : List ℕ) → take n (take n xs ++ ys) ≡ take n (xs ++ ys)
front-front n xs ys =
    elim (cases_lt n (length xs)) [
      | inl lt ↦
          let l = length-take n xs in
          take-append-le n (take n xs) ys (omega (arith, l)) ∙ take-take n n xs (omega arith) ∙ sym (take-append-le n xs ys (omega arith))
      | inr ge ↦ ap (λ zs. take n (zs ++ ys)) (take_all n xs ge)
    ]

pub front_size_is : front_size ≡ 18444
unfolding front_size
front_size_is = refl

front_nothing : front_of [] ≡ []
front_nothing = take_all front_size [] (omega arith)

pub stands_grown : (text part : List ℕ) (s : LineState) → Stands text s → s.is_ended ≡ false → NoFeed part → Stands (text ++ part) (grown s part)
stands_grown text part s h going free =
    let o = open_grows text part free in
    let n : s.number ≡ feeds text + 1 = rw going at h.number in
    record {
      taken = omega (arith, h.taken, length-append text part);
      number = rw going (n ∙ ap (λ k. k + 1) (sym (feeds_grow text part free)));
      front = λ _. ap (λ f. front_of (f ++ part)) (h.front going) ∙ front-front front_size (open_line text) part ∙ ap front_of (sym o);
      blank = λ _. ap (λ b. b && list_all (λ b. b == 32) part) (h.blank going) ∙ sym (list_all-append (λ b. b == 32) (open_line text) part) ∙ ap (list_all (λ b. b == 32)) (sym o);
      behind = λ t. absurd (true≢false (sym t ∙ going));
    }

-- a reader passes a line over where the line is one that is passed over
pub passes : (text : List ℕ) (s : LineState) → Stands text s → s.is_ended ≡ false → passes_over s ≡ is_passed_over (open_line text)
passes text s h going =
    ap (λ b. b || eqb (get_or s.front 0 0) 35) (h.blank going)
    ∙ ap (λ f. list_all (λ b. b == 32) (open_line text) || eqb (get_or f 0 0) 35) (h.front going)
    ∙ ap (λ b. list_all (λ b. b == 32) (open_line text) || eqb b 35) (get_or-take front_size (open_line text) 0 0 (omega (arith, front_size_is)))

pub stands_fed : (text : List ℕ) (s : LineState) → Stands text s → s.is_ended ≡ false → Stands (text ++ 10 ∷ []) (fed s)
stands_fed text s h going =
    let o = open_fed text in
    let n : s.number ≡ feeds text + 1 = rw going at h.number in
    let f = feeds_fed text in
    let l = length-append text (10 ∷ []) in
    elim (cases_Bool (passes_over s)) [
      | inl e ↦
          rw e (record {
            taken = omega (arith, h.taken, l);
            number = rw going (omega (arith, n, f));
            front = λ _. rw o (sym front_nothing);
            blank = λ _. rw o refl;
            behind = λ t. absurd (true≢false (sym t ∙ going));
          })
      | inr e ↦
          rw e (record {
            taken = omega (arith, h.taken, l);
            number = omega (arith, n, f);
            front = λ t. absurd (true≢false t);
            blank = λ t. absurd (true≢false t);
            behind = λ _. o;
          })
    ]

-- a line feed behind a line that is passed over ends no packet line
pub ends_none : (text : List ℕ) (s : LineState) → Stands text s → s.is_ended ≡ false → passes_over s ≡ true → ended_lines (text ++ 10 ∷ []) ≡ ended_lines text
ends_none text s h going passed =
    let p : is_passed_over (open_line text) ≡ true = sym (passes text s h going) ∙ passed in
    ended_fed text ∙ ap (λ b. ended_lines text ++ cond b [] ((feeds text + 1, open_line text) ∷ [])) p ∙ append-nil (ended_lines text)

-- behind another line it ends that line
pub ends_line : (text bytes : List ℕ) (s : LineState) → Stands (text ++ bytes) s → s.is_ended ≡ false → passes_over s ≡ false → ended_lines (text ++ bytes) ≡ ended_lines text
    → EndsLine text (bytes ++ 10 ∷ []) (fed s)
ends_line text bytes s h going packet same =
    let t = text ++ bytes in
    let n : s.number ≡ feeds t + 1 = rw going at h.number in
    let p : is_passed_over (open_line t) ≡ false = sym (passes t s h going) ∙ packet in
    let fewer : length (bytes ++ 10 ∷ []) - 1 ≡ length bytes = omega (arith, length-append bytes (10 ∷ [])) in
    let front : take (length (bytes ++ 10 ∷ []) - 1) (bytes ++ 10 ∷ []) ≡ bytes =
    ap (λ k. take k (bytes ++ 10 ∷ [])) fewer ∙ take-append-le (length bytes) bytes (10 ∷ []) (omega arith) ∙ take_all (length bytes) bytes (omega arith) in
    rw packet (record {
      line = open_line t;
      ended =
          ap ended_lines (sym (append_assoc text bytes (10 ∷ []))) ∙ ended_fed t ∙ ap (λ b. ended_lines t ++ cond b [] ((feeds t + 1, open_line t) ∷ [])) p
          ∙ ap (λ ls. ls ++ (feeds t + 1, open_line t) ∷ []) same ∙ ap (λ k. ended_lines text ++ (k, open_line t) ∷ []) (sym n);
      before = ap (λ b. ended_lines (text ++ b)) front ∙ same;
      front = h.front going;
    })

-- at the end of the text the open line is the last one, where it isn't passed over
pub is_last : (text : List ℕ) (s : LineState) → Stands text s → s.is_ended ≡ false → passes_over s ≡ false → IsLast text s
is_last text s h going packet =
    let n : s.number ≡ feeds text + 1 = rw going at h.number in
    let p : is_passed_over (open_line text) ≡ false = sym (passes text s h going) ∙ packet in
    record {
      line = open_line text;
      last = whole_lines text ∙ ap (λ b. ended_lines text ++ cond b [] ((feeds text + 1, open_line text) ∷ [])) p ∙ ap (λ k. ended_lines text ++ (k, open_line text) ∷ []) (sym n);
      front = h.front going;
    }

-- where it is passed over, or ended, there is no such line
pub none_last : (text : List ℕ) (s : LineState) → Stands text s → (s.is_ended ≡ false → passes_over s ≡ true) → numbered_lines 1 text ≡ ended_lines text
none_last text s h passed =
    let p : is_passed_over (open_line text) ≡ true =
    elim (cases_Bool s.is_ended) [ inl e ↦ ap is_passed_over (h.behind e) | inr e ↦ sym (passes text s h e) ∙ passed e ] in
    whole_lines text ∙ ap (λ b. ended_lines text ++ cond b [] ((feeds text + 1, open_line text) ∷ [])) p ∙ append-nil (ended_lines text)

pub is_last_ready : (text : List ℕ) (s : LineState) (b : Bool) → Stands text s → s.is_ended ≡ false → passes_over s ≡ false → IsLast text (record s { is_ready = b })
is_last_ready text s b h going packet =
    let l = is_last text s h going packet in
    record { line = l.line; last = l.last; front = l.front }

-- as much of a part as there is room for behind a front
pub front_grows : (room part : List ℕ) (count more : ℕ) → length room ≡ 18444 → count ≤ 18444 → more ≡ min (length part) (18444 - count) → take count room ++ take more part ≡ front_of (take count room ++ part)
front_grows room part count more whole few e =
    let f : length (take count room) ≡ count = omega (arith, length-take count room) in
    let l = length-append (take count room) part in
    elim (cases_lt (18444 - count) (length part)) [
      | inl lt ↦
          let m : front_size ≡ length (take count room) + more = omega (arith, front_size_is) in
          sym (ap (λ k. take k (take count room ++ part)) m ∙ take-append-add (take count room) part more)
      | inr ge ↦
          ap (λ p. take count room ++ p) (take_all more part (omega arith)) ∙ sym (take_all front_size (take count room ++ part) (omega (arith, front_size_is)))
    ]

take_to : (xs : List ℕ) (from to : ℕ) → from ≤ to → take from xs ++ slice_range xs from to ≡ take to xs
take_to xs from to le =
    ap (λ ys. ys ++ slice_range xs from to) (sym (take-take from to xs le)) ∙ ap (λ ys. take from (take to xs) ++ ys) (between_is xs from to) ∙ take-append-drop from (take to xs)

taken_to : (text piece : List ℕ) (from to : ℕ) → from ≤ to → (text ++ take from piece) ++ slice_range piece from to ≡ text ++ take to piece
taken_to text piece from to le = append_assoc text (take from piece) (slice_range piece from to) ∙ ap (λ ys. text ++ ys) (take_to piece from to le)

-- a reader that took a piece up to its next line feed, or to its end
pub stands_to : (text piece : List ℕ) (from to : ℕ) (s : LineState) → to ≡ from + position_or_len is_feed (drop from piece) → Stands (text ++ take from piece) s → s.is_ended ≡ false
    → Stands (text ++ take to piece) (grown s (slice_range piece from to))
stands_to text piece from to s e h going =
    let t = taken_to text piece from to (omega arith) in
    rw (← t) (stands_grown (text ++ take from piece) (slice_range piece from to) s h going (free_to piece from to e))

pub ended_to : (text piece : List ℕ) (from to : ℕ) → to ≡ from + position_or_len is_feed (drop from piece) → ended_lines (text ++ take from piece) ≡ ended_lines text → ended_lines (text ++ take to piece) ≡ ended_lines text
ended_to text piece from to e same =
    ap ended_lines (sym (taken_to text piece from to (omega arith))) ∙ ended_grows (text ++ take from piece) (slice_range piece from to) (free_to piece from to e) ∙ same

feed_behind : (piece : List ℕ) (to : ℕ) → to < length piece → get_or piece to 0 ≡ 10 → take (to + 1) piece ≡ take to piece ++ 10 ∷ []
feed_behind piece to lt e = take_more piece to 0 lt ∙ ap (λ b. take to piece ++ b ∷ []) e

taken_behind : (text piece : List ℕ) (to : ℕ) → to < length piece → get_or piece to 0 ≡ 10 → (text ++ take to piece) ++ 10 ∷ [] ≡ text ++ take (to + 1) piece
taken_behind text piece to lt e = append_assoc text (take to piece) (10 ∷ []) ∙ ap (λ ys. text ++ ys) (sym (feed_behind piece to lt e))

-- and then the line feed
pub stands_behind : (text piece : List ℕ) (to : ℕ) (s : LineState) → to < length piece → get_or piece to 0 ≡ 10 → Stands (text ++ take to piece) s → s.is_ended ≡ false → Stands (text ++ take (to + 1) piece) (fed s)
stands_behind text piece to s lt e h going =
    let t = taken_behind text piece to lt e in
    rw (← t) (stands_fed (text ++ take to piece) s h going)

pub ends_behind : (text piece : List ℕ) (to : ℕ) (s : LineState) → to < length piece → get_or piece to 0 ≡ 10 → Stands (text ++ take to piece) s → s.is_ended ≡ false → passes_over s ≡ false
    → ended_lines (text ++ take to piece) ≡ ended_lines text → EndsLine text (take (to + 1) piece) (fed s)
ends_behind text piece to s lt e h going packet same =
    let t = feed_behind piece to lt e in
    rw t (ends_line text (take to piece) s h going packet same)

pub none_behind : (text piece : List ℕ) (to : ℕ) (s : LineState) → to < length piece → get_or piece to 0 ≡ 10 → Stands (text ++ take to piece) s → s.is_ended ≡ false → passes_over s ≡ true
    → ended_lines (text ++ take to piece) ≡ ended_lines text → ended_lines (text ++ take (to + 1) piece) ≡ ended_lines text
none_behind text piece to s lt e h going over same =
    ap ended_lines (sym (taken_behind text piece to lt e)) ∙ ends_none (text ++ take to piece) s h going over ∙ same

-- a piece that was taken whole
pub none_whole : (text piece : List ℕ) (from : ℕ) → length piece ≤ from → ended_lines (text ++ take from piece) ≡ ended_lines text → ended_lines (text ++ piece) ≡ ended_lines text
none_whole text piece from le same = ap (λ p. ended_lines (text ++ p)) (sym (take_all from piece le)) ∙ same

-- a reader at `from` of a piece that grows up to `to` and then takes the line feed there
pub record Steps (piece : List ℕ) (from to : ℕ) (before between after : LineState) : Type 0 where
  pub going_on : before.is_ended ≡ false
  pub place : to ≡ from + position_or_len is_feed (drop from piece)
  pub inside : to < length piece
  pub grows : between ≡ grown before (slice_range piece from to)
  pub takes_feed : after ≡ fed between

between_stands : (text piece : List ℕ) (from to : ℕ) (before between after : LineState) → Steps piece from to before between after → Stands (text ++ take from piece) before
    → Stands (text ++ take to piece) between
between_stands text piece from to before between after s h =
    let g = s.grows in
    rw g (stands_to text piece from to before s.place h s.going_on)

between_going : (piece : List ℕ) (from to : ℕ) (before between after : LineState) → Steps piece from to before between after → between.is_ended ≡ false
between_going piece from to before between after s = ap (λ (t : LineState). t.is_ended) s.grows ∙ s.going_on

pub after_stands : (text piece : List ℕ) (from to : ℕ) (before between after : LineState) → Steps piece from to before between after → Stands (text ++ take from piece) before
    → Stands (text ++ take (to + 1) piece) after
after_stands text piece from to before between after s h =
    let f = s.takes_feed in
    rw f (stands_behind text piece to between s.inside (feed_at piece from to s.place s.inside) (between_stands text piece from to before between after s h) (between_going piece from to before between after s))

pub after_ends : (text piece : List ℕ) (from to : ℕ) (before between after : LineState) → Steps piece from to before between after → Stands (text ++ take from piece) before
    → passes_over between ≡ false → ended_lines (text ++ take from piece) ≡ ended_lines text → EndsLine text (take (to + 1) piece) after
after_ends text piece from to before between after s h packet same =
    let f = s.takes_feed in
    rw f (ends_behind text piece to between s.inside (feed_at piece from to s.place s.inside) (between_stands text piece from to before between after s h) (between_going piece from to before between after s) packet
    (ended_to text piece from to s.place same))

pub after_none : (text piece : List ℕ) (from to : ℕ) (before between after : LineState) → Steps piece from to before between after → Stands (text ++ take from piece) before
    → passes_over between ≡ true → ended_lines (text ++ take from piece) ≡ ended_lines text → ended_lines (text ++ take (to + 1) piece) ≡ ended_lines text
after_none text piece from to before between after s h over same =
    none_behind text piece to between s.inside (feed_at piece from to s.place s.inside) (between_stands text piece from to before between after s h) (between_going piece from to before between after s) over
    (ended_to text piece from to s.place same)

-- what stays where the line feed ended no packet line
pub after_open : (piece : List ℕ) (from to : ℕ) (before between after : LineState) → Steps piece from to before between after → passes_over between ≡ true
    → (after.is_ended ≡ false) × (after.is_ready ≡ before.is_ready) × (after.taken ≡ before.taken + (to - from) + 1)
after_open piece from to before between after s over =
    let f : fed between ≡ record between { front = []; is_blank = true; number = between.number + 1; taken = between.taken + 1 } = rw over refl in
    let e = s.takes_feed ∙ f in
    let l : length (slice_range piece from to) ≡ to - from = omega (arith, length-take (to - from) (drop from piece), length-drop from piece, s.inside, s.place) in (
      ap (λ (t : LineState). t.is_ended) e ∙ between_going piece from to before between after s,
      ap (λ (t : LineState). t.is_ready) e ∙ ap (λ (t : LineState). t.is_ready) s.grows,
      ap (λ (t : LineState). t.taken) e ∙ ap (λ (t : LineState). t.taken + 1) s.grows ∙ ap (λ k. before.taken + k + 1) l,
    )

-- a reader whose fields are those of one that grew
pub grown_is : (s : LineState) (part front : List ℕ) (blank : Bool) → front ≡ front_of (s.front ++ part) → blank ≡ (s.is_blank && list_all (λ b. b == 32) part)
    → record s { front = front; is_blank = blank; taken = s.taken + length part } ≡ grown s part
grown_is s part front blank f b = rw (f, b) refl
