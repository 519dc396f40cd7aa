-- What a reader of the lines of a text in pieces stands for, step by step.
use Rattle.std.proofs.Common.{◌≡◌, ℕ, ◌+◌, ◌-◌, ◌<◌, ◌≤◌, Bool, true, false, not, cond, List, [], ◌∷◌, ◌++◌, length, take, IsTrue, refl, sym, ap, ◌∙◌, inl, inr, arith, length-append, append_assoc, append-nil}
use Rattle.std.specs.List.{enumerate_from, filter, onto_first}
use Rattle.std.proofs.Math.Seq.{take-append-add, take-append_seam}
use Rattle.std.proofs.lemmas.Bool.{cases_Bool, cases_lt, eqb-true, le-ltb, lt-ltb, true≢false}
use Rattle.std.proofs.lemmas.List.{length-take, map-append, nil_from_length}
use Rattle.std.proofs.lemmas.List.Elements.{All-cons, All-nil}
use Rattle.std.proofs.lemmas.List.Splits.{slice_split-cons_no, slice_split-cons_yes}
use Rattle.rmt_bits.specs.Lines.{is_passed_over, lines, numbered_lines}
use Rattle.rmt_bits.proofs.LineLaws.{is_feed}
use Rattle.rmt_packets.specs.Pieces.{EndsLine, IsLast, LineState, Stands, ended_lines, feeds, front_of, open_line}
use Rattle.rmt_packets.proofs.Cuts.{ended_fed, ended_grows, lines_go_on, whole_lines}
use Rattle.rmt_runs.specs.Pieces.{PassesLimit}
use Rattle.rmt_runs.specs.TextLines.{WereRead, fronts_of, lines_within}
use Rattle.rmt_runs.specs.ReadsOn.{AtLine, HasLines, ReaderState, ReadsLines, Took, lines_taken}

-- lines that are numbered and not passed over
abbrev kept : ℕ → List (List ℕ) → List (ℕ × List ℕ)
kept n ls = filter (λ l. not (is_passed_over l.1)) (enumerate_from n ls)

kept_more : (n : ℕ) (l : List ℕ) (ls : List (List ℕ)) → (length (kept (n + 1) ls) ≤ length (kept n (l ∷ ls))) × (length (kept n (l ∷ ls)) ≤ length (kept (n + 1) ls) + 1)
kept_more n l ls = elim (cases_Bool (is_passed_over l)) [ inl e ↦ rw e (omega arith, omega arith) | inr e ↦ rw e (omega arith, omega arith) ]

kept_onto : (x n : ℕ) (ls : List (List ℕ)) → length (kept n (onto_first x ls)) ≤ length (kept n ls) + 1
kept_onto x n [] = omega (arith, (kept_more n (x ∷ []) []).1)
kept_onto x n (l ∷ ls) = omega (arith, (kept_more n (x ∷ l) ls).1, (kept_more n l ls).0)

-- a text has no more packet lines than bytes
few_lines : (n : ℕ) (text : List ℕ) → length (numbered_lines n text) ≤ length text
few_lines n [] = omega arith
few_lines n (x ∷ xs) =
    elim (cases_Bool (is_feed x)) [
      | inl e ↦ let s = slice_split-cons_yes is_feed x xs e in omega (arith, ap (λ ls. length (kept n ls)) s, few_lines (n + 1) xs)
      | inr e ↦ let s = slice_split-cons_no is_feed x xs e in omega (arith, ap (λ ls. length (kept n ls)) s, kept_onto x n (lines xs), few_lines n xs)
    ]

pub few_taken : (is_finished : Bool) (text : List ℕ) → length (lines_taken is_finished text) ≤ length text
few_taken true text = few_lines 1 text
few_taken false text =
    let last : List (ℕ × List ℕ) = cond (is_passed_over (open_line text)) [] ((feeds text + 1, open_line text) ∷ []) in
    omega (arith, few_lines 1 text, ap length (whole_lines text), length-append (ended_lines text) last)

ended_one : (text : List ℕ) (b : ℕ) → (more : List (ℕ × List ℕ)) × (ended_lines (text ++ b ∷ []) ≡ ended_lines text ++ more)
ended_one text b =
    elim (cases_Bool (is_feed b)) [
      | inl e ↦ (_, ap (λ x. ended_lines (text ++ x ∷ [])) (eqb-true b 10 e) ∙ ended_fed text)
      | inr e ↦ ([], ended_grows text (b ∷ []) (All-cons (λ x. is_feed x ≡ false) b [] e (All-nil (λ x. is_feed x ≡ false))) ∙ sym (append-nil (ended_lines text)))
    ]

-- a text that goes on keeps the packet lines that are ended
pub ended_more : (text more : List ℕ) → (lines : List (ℕ × List ℕ)) × (ended_lines (text ++ more) ≡ ended_lines text ++ lines)
ended_more text [] = ([], ap ended_lines (append-nil text) ∙ sym (append-nil (ended_lines text)))
ended_more text (b ∷ more) =
    let one = ended_one text b in
    let rest = ended_more (text ++ b ∷ []) more in (
      one.0 ++ rest.0,
      ap ended_lines (sym (append_assoc text (b ∷ []) more)) ∙ rest.1 ∙ ap (λ ls. ls ++ rest.0) one.1 ∙ append_assoc (ended_lines text) one.0 rest.0,
    )

-- a reader took no more than it may
took_within : (limit : ℕ) (text : List ℕ) (reader : ReaderState) (rest taken : List ℕ) → Took limit text reader rest taken → IsTrue reader.is_finished → length text ≤ limit
took_within limit text reader rest taken t end = omega (arith, ap length (t.finished end), t.within)

-- the packet lines of the whole text are those of what was taken, and more
whole_lines_more : (limit : ℕ) (text : List ℕ) (reader : ReaderState) (rest taken : List ℕ) → Took limit text reader rest taken
    → (more : List (ℕ × List ℕ)) × (numbered_lines 1 text ≡ lines_taken reader.is_finished taken ++ more)
whole_lines_more limit text reader rest taken t =
    elim (cases_Bool reader.is_finished) [
      | inl e ↦ let s : taken ≡ text = t.finished e in rw (e, s) ([], sym (append-nil (numbered_lines 1 text)))
      | inr e ↦ rw e (_, ap (numbered_lines 1) t.whole ∙ lines_go_on taken (reader.waiting ++ rest))
    ]

take_behind : (limit : ℕ) (taken more : List ℕ) → length taken ≤ limit → take limit (taken ++ more) ≡ taken ++ take (limit - length taken) more
take_behind limit taken more le =
    let e : limit ≡ length taken + (limit - length taken) = omega arith in
    ap (λ n. take n (taken ++ more)) e ∙ take-append-add taken more (limit - length taken)

-- of a text that is not too long all lines may be read
pub within_short : (limit : ℕ) (text : List ℕ) → length text ≤ limit → lines_within limit text ≡ numbered_lines 1 text
within_short limit text le = let e = le-ltb limit (length text) le in rw e refl

-- and of one that is, those that end within the limit
pub within_long : (limit : ℕ) (text : List ℕ) → limit < length text → lines_within limit text ≡ ended_lines (take limit text)
within_long limit text lt = let e = lt-ltb limit (length text) lt in rw e refl

-- those that were taken come first among those that may be read
within_more : (limit : ℕ) (text : List ℕ) (reader : ReaderState) (rest taken : List ℕ) → Took limit text reader rest taken
    → (more : List (ℕ × List ℕ)) × (lines_within limit text ≡ lines_taken reader.is_finished taken ++ more)
within_more limit text reader rest taken t =
    elim (cases_lt limit (length text)) [
      | inr ge ↦ let w = whole_lines_more limit text reader rest taken t in (w.0, within_short limit text ge ∙ w.1)
      | inl lt ↦
          elim (cases_Bool reader.is_finished) [
            | inl e ↦ let le = took_within limit text reader rest taken t e in absurd (omega arith)
            | inr e ↦
                let more = take (limit - length taken) (reader.waiting ++ rest) in
                let m = ended_more taken more in
                rw e (
                  m.0,
                  within_long limit text lt ∙ ap (λ xs. ended_lines (take limit xs)) t.whole
                      ∙ ap ended_lines (take_behind limit taken (reader.waiting ++ rest) (omega (arith, t.within))) ∙ m.1,
                )
          ]
    ]

-- the fronts of lines with one more
pub fronts_more : (gave lines : List (ℕ × List ℕ)) (n : ℕ) (line front : List ℕ) → fronts_of gave ≡ lines → front ≡ front_of line → fronts_of (gave ++ (n, line) ∷ []) ≡ lines ++ (n, front) ∷ []
fronts_more gave lines n line front same is =
    map-append (λ (l : ℕ × List ℕ). (l.0, front_of l.1)) gave ((n, line) ∷ []) ∙ ap (λ (ls : List (ℕ × List ℕ)). ls ++ (n, front_of line) ∷ []) same ∙ ap (λ (t : List ℕ). lines ++ (n, t) ∷ []) (sym is)

-- the lines that a reader gave were read
pub gave_read : (limit : ℕ) (text rest : List ℕ) (gave lines : List (ℕ × List ℕ)) (reader : ReaderState) → ReadsLines limit text gave reader rest → fronts_of gave ≡ lines → WereRead limit text lines
gave_read limit text rest gave lines reader h fronts =
    let w = within_more limit text reader rest h.taken h.took in
    record { gave = gave; more = w.0; fronts = fronts; first = w.1 ∙ ap (λ ls. ls ++ w.0) h.lines }

-- a reader whose line reader took more of the text has no fewer lines
pub has_more : (count : ℕ) (is_finished : Bool) (old new : LineState) (bytes : List ℕ) → is_finished ≡ false → HasLines count is_finished old → ((t : List ℕ) → Stands t old → Stands (t ++ bytes) new)
    → HasLines count is_finished new
has_more count is_finished old new bytes e h stands =
    let m = ended_more h.text bytes in
    let enough : count ≤ length (ended_lines h.text) = rw e at h.enough in
    rw e (record { text = h.text ++ bytes; stands = stands h.text h.stands; enough = omega (arith, enough, ap length m.1, length-append (ended_lines h.text) m.0) })

-- and one more where the bytes end a line
pub has_next : (count : ℕ) (is_finished : Bool) (old new : LineState) (bytes : List ℕ) → is_finished ≡ false → HasLines count is_finished old → ((t : List ℕ) → Stands t old → Stands (t ++ bytes) new)
    → ((t : List ℕ) → Stands t old → EndsLine t bytes new) → HasLines (count + 1) is_finished new
has_next count is_finished old new bytes e h stands ends =
    let l = ends h.text h.stands in
    let enough : count ≤ length (ended_lines h.text) = rw e at h.enough in
    rw e (record { text = h.text ++ bytes; stands = stands h.text h.stands; enough = omega (arith, enough, ap length l.ended, length-append (ended_lines h.text) ((new.number, l.line) ∷ [])) })

-- at the end of the text it has no fewer either
pub has_ended : (count : ℕ) (is_finished : Bool) (old new : LineState) → is_finished ≡ false → HasLines count is_finished old → ((t : List ℕ) → Stands t old → Stands t new) → HasLines count true new
has_ended count is_finished old new e h stands =
    let enough : count ≤ length (ended_lines h.text) = rw e at h.enough in
    let last : List (ℕ × List ℕ) = cond (is_passed_over (open_line h.text)) [] ((feeds h.text + 1, open_line h.text) ∷ []) in
    record { text = h.text; stands = stands h.text h.stands; enough = omega (arith, enough, ap length (whole_lines h.text), length-append (ended_lines h.text) last) }

pub has_last : (count : ℕ) (is_finished : Bool) (old new : LineState) → is_finished ≡ false → HasLines count is_finished old → ((t : List ℕ) → Stands t old → Stands t new) → ((t : List ℕ) → Stands t old → IsLast t new)
    → HasLines (count + 1) true new
has_last count is_finished old new e h stands last =
    let l = last h.text h.stands in
    let enough : count ≤ length (ended_lines h.text) = rw e at h.enough in
    record { text = h.text; stands = stands h.text h.stands; enough = omega (arith, enough, ap length l.last, length-append (ended_lines h.text) ((new.number, l.line) ∷ [])) }

-- a reader has no more lines than the bytes that it took
pub few_given : (count : ℕ) (is_finished : Bool) (lines : LineState) → HasLines count is_finished lines → count ≤ lines.taken
few_given count is_finished lines h = omega (arith, h.enough, h.stands.taken, few_taken is_finished h.text)

pub nothing_behind : (xs ys : List ℕ) → xs ≡ take (length xs) xs ++ ys → ys ≡ []
nothing_behind xs ys e = nil_from_length ys (omega (arith, ap length e, length-append (take (length xs) xs) ys, length-take (length xs) xs))

-- a reader that took some of the bytes that wait
took_more : (limit : ℕ) (text rest taken bytes : List ℕ) (old new : ReaderState) → Took limit text old rest taken → new.is_finished ≡ false → new.left ≡ old.left → old.waiting ≡ bytes ++ new.waiting
    → Stands (taken ++ bytes) new.lines → Took limit text new rest (taken ++ bytes)
took_more limit text rest taken bytes old new t going left split stands =
    record {
      stands = stands;
      whole = t.whole ∙ ap (λ xs. taken ++ (xs ++ rest)) split ∙ ap (λ xs. taken ++ xs) (append_assoc bytes new.waiting rest) ∙ sym (append_assoc taken bytes (new.waiting ++ rest));
      within = omega (arith, t.within, left, ap length split, length-append bytes new.waiting, length-append taken bytes);
      finished = λ e. absurd (true≢false (sym e ∙ going));
    }

-- the bytes end a line
pub line_taken : (limit : ℕ) (text rest : List ℕ) (gave : List (ℕ × List ℕ)) (bytes : List ℕ) (old new : ReaderState) → ReadsLines limit text gave old rest → old.is_finished ≡ false → new.is_finished ≡ false
    → new.left ≡ old.left → old.waiting ≡ bytes ++ new.waiting → ((t : List ℕ) → Stands t old.lines → Stands (t ++ bytes) new.lines) → ((t : List ℕ) → Stands t old.lines → EndsLine t bytes new.lines)
    → AtLine limit text gave new rest
line_taken limit text rest gave bytes old new h was going left split stands ends =
    let s = stands h.taken h.took.stands in
    let l = ends h.taken h.took.stands in
    record {
      taken = h.taken ++ bytes;
      took = took_more limit text rest h.taken bytes old new h.took going left split s;
      line = l.line;
      lines = rw going (l.ended ∙ ap (λ ls. ls ++ (new.lines.number, l.line) ∷ []) (rw was at h.lines));
      front = l.front;
    }

-- the bytes end none
pub none_taken : (limit : ℕ) (text rest : List ℕ) (gave : List (ℕ × List ℕ)) (bytes : List ℕ) (old new : ReaderState) → ReadsLines limit text gave old rest → old.is_finished ≡ false → new.is_finished ≡ false
    → new.left ≡ old.left → old.waiting ≡ bytes ++ new.waiting → ((t : List ℕ) → Stands t old.lines → Stands (t ++ bytes) new.lines)
    → ((t : List ℕ) → Stands t old.lines → ended_lines (t ++ bytes) ≡ ended_lines t) → ReadsLines limit text gave new rest
none_taken limit text rest gave bytes old new h was going left split stands same =
    let s = stands h.taken h.took.stands in
    let p : ended_lines h.taken ≡ gave = rw was at h.lines in
    record {
      taken = h.taken ++ bytes;
      took = took_more limit text rest h.taken bytes old new h.took going left split s;
      lines = rw going (same h.taken h.took.stands ∙ p);
    }

-- a reader without bytes that wait got some
pub filled : (limit : ℕ) (text before rest : List ℕ) (gave : List (ℕ × List ℕ)) (old new : ReaderState) → ReadsLines limit text gave old before → old.waiting ≡ [] → before ≡ new.waiting ++ rest
    → length new.waiting + new.left ≡ old.left → new.lines ≡ old.lines → new.is_finished ≡ old.is_finished → ReadsLines limit text gave new rest
filled limit text before rest gave old new h empty more left lines same =
    let t = h.took in
    let w : text ≡ h.taken ++ before = t.whole ∙ ap (λ xs. h.taken ++ (xs ++ before)) empty in
    record {
      taken = h.taken;
      took =
          record {
            stands = rw lines t.stands;
            whole = w ∙ ap (λ xs. h.taken ++ xs) more;
            within = omega (arith, t.within, left, ap length empty);
            finished = λ e. t.finished (sym same ∙ e);
          };
      lines = rw same h.lines;
    }

-- at the limit the text goes on
pub gone_too_far : (limit : ℕ) (text rest : List ℕ) (gave : List (ℕ × List ℕ)) (reader : ReaderState) → ReadsLines limit text gave reader rest → reader.is_finished ≡ false → reader.waiting ≡ [] → reader.left ≡ 0
    → 0 < length rest → PassesLimit limit text gave
gone_too_far limit text rest gave reader h going empty none some =
    let t = h.took in
    let w : text ≡ h.taken ++ rest = t.whole ∙ ap (λ xs. h.taken ++ (xs ++ rest)) empty in
    let all : limit ≡ length h.taken = omega (arith, t.within, ap length empty) in
    let long : limit < length text = omega (arith, ap length w, length-append h.taken rest) in
    let p : ended_lines h.taken ≡ gave = rw going at h.lines in
    record {
      long = long;
      within = ap (λ xs. ended_lines (take limit xs)) w ∙ ap (λ n. ended_lines (take n (h.taken ++ rest))) all ∙ ap ended_lines (take-append_seam h.taken rest) ∙ p;
    }

-- a reader that saw the end of the text
took_all : (limit : ℕ) (text rest taken : List ℕ) (old new : ReaderState) → Took limit text old rest taken → old.waiting ≡ [] → rest ≡ [] → new.waiting ≡ old.waiting → new.left ≡ old.left
    → Stands taken new.lines → Took limit text new rest taken
took_all limit text rest taken old new t empty end waiting left stands =
    record {
      stands = stands;
      whole = t.whole ∙ ap (λ xs. taken ++ (xs ++ rest)) (sym waiting);
      within = omega (arith, t.within, left, ap length waiting);
      finished = λ _. sym (t.whole ∙ ap (λ xs. taken ++ (xs ++ rest)) empty ∙ ap (λ xs. taken ++ xs) end ∙ append-nil taken);
    }

pub last_taken : (limit : ℕ) (text rest : List ℕ) (gave : List (ℕ × List ℕ)) (old new : ReaderState) → ReadsLines limit text gave old rest → old.is_finished ≡ false → old.waiting ≡ [] → rest ≡ []
    → new.is_finished ≡ true → new.waiting ≡ old.waiting → new.left ≡ old.left → ((t : List ℕ) → Stands t old.lines → Stands t new.lines) → ((t : List ℕ) → Stands t old.lines → IsLast t new.lines)
    → AtLine limit text gave new rest
last_taken limit text rest gave old new h going empty end over waiting left stands last =
    let l = last h.taken h.took.stands in
    record {
      taken = h.taken;
      took = took_all limit text rest h.taken old new h.took empty end waiting left (stands h.taken h.took.stands);
      line = l.line;
      lines = rw over (l.last ∙ ap (λ ls. ls ++ (new.lines.number, l.line) ∷ []) (rw going at h.lines));
      front = l.front;
    }

-- a reader that gave the last line
pub read_whole : (limit : ℕ) (text rest : List ℕ) (gave : List (ℕ × List ℕ)) (reader : ReaderState) → ReadsLines limit text gave reader rest → reader.is_finished ≡ true
    → (length text ≤ limit) × (numbered_lines 1 text ≡ gave)
read_whole limit text rest gave reader h over =
    let all : h.taken ≡ text = h.took.finished over in
    let p : numbered_lines 1 h.taken ≡ gave = rw over at h.lines in
    (took_within limit text reader rest h.taken h.took over, ap (numbered_lines 1) (sym all) ∙ p)

-- a text without a last line that no line feed ends
pub no_last : (limit : ℕ) (text rest : List ℕ) (gave : List (ℕ × List ℕ)) (old : ReaderState) → ReadsLines limit text gave old rest → old.is_finished ≡ false → old.waiting ≡ [] → rest ≡ []
    → ((t : List ℕ) → Stands t old.lines → numbered_lines 1 t ≡ ended_lines t) → (length text ≤ limit) × (numbered_lines 1 text ≡ gave)
no_last limit text rest gave old h going empty end none =
    let t = h.took in
    let w : text ≡ h.taken = t.whole ∙ ap (λ xs. h.taken ++ (xs ++ rest)) empty ∙ ap (λ xs. h.taken ++ xs) end ∙ append-nil h.taken in
    let p : ended_lines h.taken ≡ gave = rw going at h.lines in
    (omega (arith, t.within, ap length w), ap (numbered_lines 1) w ∙ none h.taken t.stands ∙ p)

-- the line at hand is among those that a reader gave, whatever it counts
pub line_given : (limit : ℕ) (text rest : List ℕ) (gave : List (ℕ × List ℕ)) (old new : ReaderState) → (at : AtLine limit text gave old rest)
    → new.lines ≡ old.lines → new.waiting ≡ old.waiting → new.left ≡ old.left → new.is_finished ≡ old.is_finished → ReadsLines limit text (gave ++ (old.lines.number, at.line) ∷ []) new rest
line_given limit text rest gave old new at lines waiting left same =
    let t = at.took in
    record {
      taken = at.taken;
      took =
          record {
            stands = rw lines t.stands;
            whole = rw waiting t.whole;
            within = omega (arith, t.within, left, ap length waiting);
            finished = λ e. t.finished (sym same ∙ e);
          };
      lines = ap (λ b. lines_taken b at.taken) same ∙ at.lines;
    }

-- with the line at hand
pub at_read : (limit : ℕ) (text rest : List ℕ) (gave lines : List (ℕ × List ℕ)) (reader : ReaderState) → AtLine limit text gave reader rest → fronts_of gave ≡ lines → (front : List ℕ) → front ≡ reader.lines.front
    → WereRead limit text (lines ++ (reader.lines.number, front) ∷ [])
at_read limit text rest gave lines reader at same front is =
    let n = reader.lines.number in
    gave_read limit text rest (gave ++ (n, at.line) ∷ []) (lines ++ (n, front) ∷ []) reader (line_given limit text rest gave reader reader at refl refl refl refl) (fronts_more gave lines n at.line front same (is ∙ at.front))
