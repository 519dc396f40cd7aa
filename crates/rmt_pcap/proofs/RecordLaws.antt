-- Laws of what the records of a file say.
use Rattle.std.proofs.Common.{◌≡◌, ℕ, zero, suc, ◌+◌, ◌<◌, ◌≤◌, Bool, true, false, cond, leb, List, [], ◌∷◌, ◌++◌, length, drop, refl, sym, ap, ◌∙◌, arith, Some, None}
use Rattle.std.specs.Prelude.{All}
use Rattle.std.proofs.lemmas.Bool.{and_parts, leb-true, cond-true, cond-false}
use Rattle.std.proofs.lemmas.List.Elements.{All-nil, All-cons}
use Rattle.std.proofs.lemmas.List.{append_assoc, append-nil, drop-drop, length-drop, length-take-le}
use Rattle.rmt_pcap.specs.declared.capture.Record.{Record}
use Rattle.rmt_pcap.specs.Captures.{IsOfFile, Said, before, captured_len, is_kept, is_whole, record_at, said_from}
use Rattle.rmt_pcap.specs.Steps.{whole_len}

-- the bytes of a record that was told are passed over
pub said_passed : (big : Bool) (at left : ℕ) (bytes : List ℕ) → said_from big at left bytes ≡ said_from big (at + left) 0 (drop left bytes)
said_passed big at zero bytes = ap (λ k. said_from big k 0 bytes) (let e : at ≡ at + 0 = omega arith in e)
said_passed big at (suc left) [] = refl
said_passed big at (suc left) (b ∷ bytes) =
    said_passed big (at + 1) left bytes ∙ ap (λ k. said_from big k 0 (drop left bytes)) (let e : at + 1 + left ≡ at + suc left = omega arith in e)

-- what bytes say, by the record that stands first
abbrev pub first_said : Bool → ℕ → List ℕ → Said
first_said big at bytes =
    cond (is_whole big bytes)
    (before at bytes (captured_len big bytes) (said_from big (at + (16 + captured_len big bytes)) 0 (drop (16 + captured_len big bytes) bytes)))
    (record { records = []; skipped = 1 })

pub said_first : (big : Bool) (at : ℕ) (bytes : List ℕ) → 0 < length bytes → said_from big at 0 bytes ≡ first_said big at bytes
said_first big at [] some = absurd (omega arith)
said_first big at (b ∷ bytes) some =
    let n = captured_len big (b ∷ bytes) in
    let further : at + 1 + (15 + n) ≡ at + (16 + n) = omega arith in
    let more : suc (15 + n) ≡ 16 + n = omega arith in
    let rest : said_from big (at + 1) (15 + n) bytes ≡ said_from big (at + (16 + n)) 0 (drop (16 + n) (b ∷ bytes)) =
    said_passed big (at + 1) (15 + n) bytes
    ∙ ap (λ k. said_from big k 0 (drop (15 + n) bytes)) further
    ∙ ap (λ k. said_from big (at + (16 + n)) 0 (drop k (b ∷ bytes))) more in
    ap (λ (s : Said). cond (is_whole big (b ∷ bytes)) (before at (b ∷ bytes) n s) (record { records = []; skipped = 1 })) rest

-- ---- a reading, record by record

-- what was told, and what the rest says
abbrev pub behind : List Record → ℕ → Said → Said
behind records skipped rest = record { records = records ++ rest.records; skipped = skipped + rest.skipped }

-- a whole record that stands first
pub record WholeFirst (big : Bool) (bytes : List ℕ) (len : ℕ) : Type 0 where
  pub whole : is_whole big bytes ≡ true
  pub len_is : captured_len big bytes ≡ len

some_len : (w : Bool) (m n : ℕ) → cond w (Some m) None ≡ Some n → (w ≡ true) × (m ≡ n)
some_len true m n e = (refl, cc)
some_len false m n e = cc

pub whole_first : (big : Bool) (bytes : List ℕ) (len : ℕ) → whole_len big bytes ≡ Some len → WholeFirst big bytes len
whole_first big bytes len e =
    let h = some_len (is_whole big bytes) (captured_len big bytes) len e in
    record { whole = h.0; len_is = h.1 }

no_len : (w : Bool) (m : ℕ) → cond w (Some m) None ≡ None → w ≡ false
no_len true m e = cc
no_len false m e = refl

-- a whole record lies in the bytes
pub whole_size : (big : Bool) (bytes : List ℕ) → is_whole big bytes ≡ true → 16 + captured_len big bytes ≤ length bytes
whole_size big bytes e = leb-true (16 + captured_len big bytes) (length bytes) (and_parts (leb 16 (length bytes)) (leb (16 + captured_len big bytes) (length bytes)) e).1

-- what bytes say that begin with a whole record
pub said_whole : (big : Bool) (at len : ℕ) (bytes : List ℕ) → WholeFirst big bytes len
    → said_from big at 0 bytes ≡ before at bytes len (said_from big (at + (16 + len)) 0 (drop (16 + len) bytes))
said_whole big at len bytes h =
    let size = whole_size big bytes h.whole in
    said_first big at bytes (omega arith)
    ∙ cond-true (is_whole big bytes) _ _ h.whole
    ∙ ap (λ k. before at bytes k (said_from big (at + (16 + k)) 0 (drop (16 + k) bytes))) h.len_is

-- a record was read, at the place `at` of a file
pub read_more : (big : Bool) (at len skipped : ℕ) (file : List ℕ) (records : List Record) (all : Said) → whole_len big (drop at file) ≡ Some len
    → behind records skipped (said_from big at 0 (drop at file)) ≡ all
    → behind records skipped (before at (drop at file) len (said_from big (at + (16 + len)) 0 (drop (at + (16 + len)) file))) ≡ all
read_more big at len skipped file records all first was =
    ap (λ (ys : List ℕ). behind records skipped (before at (drop at file) len (said_from big (at + (16 + len)) 0 ys))) (sym (drop-drop (16 + len) at file))
    ∙ sym (ap (λ (s : Said). behind records skipped s) (said_whole big at len (drop at file) (whole_first big (drop at file) len first)))
    ∙ was

-- a record that is kept goes behind those from before
pub kept_more : (at len skipped : ℕ) (bytes : List ℕ) (records : List Record) (rest all : Said) → is_kept len ≡ true
    → behind records skipped (before at bytes len rest) ≡ all → behind (records ++ record_at at bytes len ∷ []) skipped rest ≡ all
kept_more at len skipped bytes records rest all kept was =
    ap (λ (rs : List Record). record { records = rs; skipped = skipped + rest.skipped }) (append_assoc records (record_at at bytes len ∷ []) rest.records)
    ∙ sym (ap (λ (s : Said). behind records skipped s) (cond-true (is_kept len) (record { records = record_at at bytes len ∷ rest.records; skipped = rest.skipped }) (record { records = rest.records; skipped = rest.skipped + 1 }) kept))
    ∙ was

-- one that is not is counted
pub skipped_more : (at len skipped : ℕ) (bytes : List ℕ) (records : List Record) (rest all : Said) → is_kept len ≡ false
    → behind records skipped (before at bytes len rest) ≡ all → behind records (skipped + 1) rest ≡ all
skipped_more at len skipped bytes records rest all lost was =
    ap (λ k. record { records = records ++ rest.records; skipped = k }) (let e : skipped + 1 + rest.skipped ≡ skipped + (rest.skipped + 1) = omega arith in e)
    ∙ sym (ap (λ (s : Said). behind records skipped s) (cond-false (is_kept len) (record { records = record_at at bytes len ∷ rest.records; skipped = rest.skipped }) (record { records = rest.records; skipped = rest.skipped + 1 }) lost))
    ∙ was

-- a step of a reading that keeps a record, and one that skips it
pub kept_step : (big : Bool) (at len skipped skipped' : ℕ) (file : List ℕ) (records records' : List Record) (all : Said) → whole_len big (drop at file) ≡ Some len → is_kept len ≡ true
    → records' ≡ records ++ record_at at (drop at file) len ∷ [] → skipped' ≡ skipped → behind records skipped (said_from big at 0 (drop at file)) ≡ all
    → behind records' skipped' (said_from big (at + (16 + len)) 0 (drop (at + (16 + len)) file)) ≡ all
kept_step big at len skipped skipped' file records records' all first kept grown same was =
    let rest = said_from big (at + (16 + len)) 0 (drop (at + (16 + len)) file) in
    ap (λ (rs : List Record). behind rs skipped' rest) grown
    ∙ ap (λ k. behind (records ++ record_at at (drop at file) len ∷ []) k rest) same
    ∙ kept_more at len skipped (drop at file) records rest all kept (read_more big at len skipped file records all first was)

pub skipped_step : (big : Bool) (at len skipped skipped' : ℕ) (file : List ℕ) (records records' : List Record) (all : Said) → whole_len big (drop at file) ≡ Some len → is_kept len ≡ false
    → records' ≡ records → skipped' ≡ skipped + 1 → behind records skipped (said_from big at 0 (drop at file)) ≡ all
    → behind records' skipped' (said_from big (at + (16 + len)) 0 (drop (at + (16 + len)) file)) ≡ all
skipped_step big at len skipped skipped' file records records' all first lost same grown was =
    let rest = said_from big (at + (16 + len)) 0 (drop (at + (16 + len)) file) in
    ap (λ (rs : List Record). behind rs skipped' rest) same
    ∙ ap (λ k. behind records k rest) grown
    ∙ skipped_more at len skipped (drop at file) records rest all lost (read_more big at len skipped file records all first was)

-- a whole record ends in the file
pub step_size : (big : Bool) (at len : ℕ) (file : List ℕ) → at < length file → whole_len big (drop at file) ≡ Some len → at + (16 + len) ≤ length file
step_size big at len file inside first =
    let w = whole_first big (drop at file) len first in
    let size = whole_size big (drop at file) w.whole in
    omega (arith, size, w.len_is, length-drop at file)

-- bytes at the end that are no whole record
pub read_cut : (big : Bool) (at skipped : ℕ) (bytes : List ℕ) (records : List Record) (all : Said) → 0 < length bytes → whole_len big bytes ≡ None
    → behind records skipped (said_from big at 0 bytes) ≡ all → record { records = records; skipped = skipped + 1 } ≡ all
read_cut big at skipped bytes records all some cut was =
    ap (λ (rs : List Record). record { records = rs; skipped = skipped + 1 }) (sym (append-nil records))
    ∙ sym (ap (λ (s : Said). behind records skipped s) (said_first big at bytes some ∙ cond-false (is_whole big bytes) _ _ (no_len (is_whole big bytes) (captured_len big bytes) cut)))
    ∙ was

-- the end
pub read_all : (big : Bool) (at skipped : ℕ) (bytes : List ℕ) (records : List Record) (all : Said) → bytes ≡ []
    → behind records skipped (said_from big at 0 bytes) ≡ all → record { records = records; skipped = skipped } ≡ all
read_all big at skipped bytes records all none was =
    ap (λ (rs : List Record). record { records = rs; skipped = skipped }) (sym (append-nil records))
    ∙ ap (λ k. record { records = records ++ []; skipped = k }) (let e : skipped ≡ skipped + 0 = omega arith in e)
    ∙ sym (ap (λ (ys : List ℕ). behind records skipped (said_from big at 0 ys)) none)
    ∙ was

-- ---- the records lie in the file

kept_size : (len : ℕ) → is_kept len ≡ true → (1 ≤ len) × (len ≤ 9216)
kept_size len e =
    let h = and_parts (leb 1 len) (leb len 9216) e in
    (leb-true 1 len h.0, leb-true len 9216 h.1)

kept_of_file : (file bytes : List ℕ) (at len : ℕ) (rest : Said) → at + (16 + len) ≤ length file → 16 ≤ length bytes → All (IsOfFile file) rest.records → (k : Bool) → is_kept len ≡ k
    → All (IsOfFile file) (cond {A = Said} k (record { records = record_at at bytes len ∷ rest.records; skipped = rest.skipped }) (record { records = rest.records; skipped = rest.skipped + 1 })).records
kept_of_file file bytes at len rest within room all true e =
    let h = kept_size len e in
    All-cons (IsOfFile file) (record_at at bytes len) rest.records (record { time = length-take-le 8 bytes (omega arith); some = h.0; few = h.1; within = omega arith }) all
kept_of_file file bytes at len rest within room all false e = all

whole_of_file : (big : Bool) (file bytes : List ℕ) (at : ℕ) (rest : Said) → at + length bytes ≡ length file → All (IsOfFile file) rest.records → (w : Bool) → is_whole big bytes ≡ w
    → All (IsOfFile file) (cond {A = Said} w (before at bytes (captured_len big bytes) rest) (record { records = []; skipped = 1 })).records
whole_of_file big file bytes at rest size all true e =
    let h = whole_size big bytes e in
    kept_of_file file bytes at (captured_len big bytes) rest (omega arith) (omega arith) all (is_kept (captured_len big bytes)) refl
whole_of_file big file bytes at rest size all false e = All-nil (IsOfFile file)

pub all_of_file : (big : Bool) (file : List ℕ) (at left : ℕ) (bytes : List ℕ) → at + length bytes ≡ length file → All (IsOfFile file) (said_from big at left bytes).records
all_of_file big file at left [] size = All-nil (IsOfFile file)
all_of_file big file at (suc left) (b ∷ bytes) size = all_of_file big file (at + 1) left bytes (omega arith)
all_of_file big file at zero (b ∷ bytes) size =
    whole_of_file big file (b ∷ bytes) at (said_from big (at + 1) (15 + captured_len big (b ∷ bytes)) bytes) size
    (all_of_file big file (at + 1) (15 + captured_len big (b ∷ bytes)) bytes (omega arith)) (is_whole big (b ∷ bytes)) refl
