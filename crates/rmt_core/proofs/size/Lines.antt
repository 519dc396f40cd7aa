-- A text says few entries: each line that says one has at least three bytes, and seven where the table is ternary.
use Rattle.std.proofs.Common.{◌≡◌, ℕ, ◌+◌, ◌*◌, ◌<◌, ◌≤◌, ◌==◌, Bool, true, false, not, cond, List, [], ◌∷◌, ◌++◌, Option, Some, None, Result, Ok, Err, length, refl, sym, ap, subst, ◌∙◌, length-append, arith}
use Rattle.std.specs.Prelude.{All, if◌then◌else◌}
use Rattle.std.specs.List.{enumerate_from, slice_split, sum_by}
use Rattle.std.proofs.lemmas.List.Elements.{All-nil, All-push, All-weaker}
use Rattle.std.proofs.lemmas.List.Filters.{sum_by-filter_both}
use Rattle.std.proofs.lemmas.Option.{same_Some}
use Rattle.std.proofs.lemmas.List.Sums.{sum_by-cons, sum_by_push}
use Rattle.std.specs.Str.{bytes_eq}
use Rattle.rmt_bits.proofs.AllLaws.{All-find}
use Rattle.rmt_core.specs.Types.{Program}
use Rattle.rmt_ast.specs.declared.entry.Entry.{Entry}
use Rattle.rmt_ast.specs.declared.program.Kind.{Kind}
use Rattle.rmt_ast.specs.declared.program.Kind.TheVariants.{Ternary}
use Rattle.rmt_ast.specs.WellFormed.{IsProgram}
use Rattle.rmt_entries.specs.declared.keys.Key.{Key}
use Rattle.rmt_entries.specs.Entries.{Read, behind_key, entry_of, line_then, of_table, read_line, read_words, reading, with_key}
use Rattle.rmt_entries.specs.Keys.{key_of, onto, pattern_test, ranked, read_each, ternary_words}
use Rattle.rmt_entries.specs.Numbers.{number_of_width}
use Rattle.rmt_bits.specs.Lines.{is_passed_over, numbered_lines}
use Rattle.rmt_entries.specs.Lines.{is_printable, words}
use Rattle.rmt_entries.specs.Tables.{AppliedTable, applied_tables, table_named}
use Rattle.rmt_entries.proofs.LawKeys.{both_law, with_key_law}
use Rattle.rmt_entries.proofs.LawLines.{admitted_law, read_line_law}
use Rattle.rmt_core.proofs.size.Lists.{kept_size, parts_size, size}
use Rattle.rmt_core.proofs.size.Tables.{HasShape, are_shaped, is_ranked}
use Rattle.rmt_bits.proofs.OptionLaws.{same_Ok}

-- ---- one line

word_size : (word : List ℕ) → not (length word == 0) ≡ true → 2 ≤ size word
word_size [] e = absurd cc
word_size (b ∷ bs) e = omega arith

-- words and the spaces between them
words_long : (line : List ℕ) → 2 * length (words line) ≤ length line + 1
words_long line =
    let kept = kept_size (λ word. not (length word == 0)) size 2 word_size (slice_split (λ b. b == 32) line) in
    let all = parts_size (λ b. b == 32) line in
    omega (arith, kept, all)

two_words : (tables : List AppliedTable) (n : ℕ) (xs : List (List ℕ)) (r : Read) → read_words tables n xs ≡ Ok r → 2 ≤ length xs
two_words tables n [] r h = absurd cc
two_words tables n (x ∷ []) r h = absurd cc
two_words tables n (x ∷ y ∷ xs) r h = omega arith

line_long : (tables : List AppliedTable) (n : ℕ) (line : List ℕ) (r : Read) → read_line tables n line ≡ Ok r → 3 ≤ length line
line_long tables n line r h = by (is_printable line) h
  where
    by : (b : Bool) → (if b then read_words tables n (words line) else Err 1) ≡ Ok r → 3 ≤ length line
    by true i = omega (arith, words_long line, two_words tables n (words line) r i)
    by false i = absurd cc

-- ---- one line of a ternary table

-- a word for each item that is read, and those behind
read_long : {X : Type 0} (read : ℕ → List ℕ → Option X) (ws : List ℕ) (xs : List (List ℕ)) (r : List X × List (List ℕ)) → read_each read ws xs ≡ Some r → length xs ≡ length ws + length r.1
read_long read [] xs r e = let same = ap (λ (o : List _ × List (List ℕ)). length o.1) (same_Some ([], xs) r e) in omega (arith, same)
read_long read (w ∷ ws) [] r e = absurd cc
read_long read (w ∷ ws) (x ∷ xs) r e =
    let two = both_law onto (read w x) (read_each read ws xs) r e in
    let rest = read_long read ws xs two.y two.second in
    let same = ap (λ (o : List _ × List (List ℕ)). length o.1) two.is in
    omega (arith, rest, same)

-- a priority, a pattern for each field, and the words behind
ternary_long : (ws : List ℕ) (xs : List (List ℕ)) (k : Key × List (List ℕ)) → ternary_words ws xs ≡ Some k → length xs ≡ 1 + length ws + length k.1
ternary_long ws [] k e = absurd cc
ternary_long ws (x ∷ xs) k e =
    let two = both_law ranked (number_of_width 32 x) (read_each pattern_test ws xs) k e in
    let rest = read_long pattern_test ws xs two.y two.second in
    let same = ap (λ (o : Key × List (List ℕ)). length o.1) two.is in
    omega (arith, rest, same)

-- the name of an action stands behind the key
action_there : (t : AppliedTable) (n : ℕ) (key : Key) (xs : List (List ℕ)) (r : Read) → behind_key t n key xs ≡ Ok r → 1 ≤ length xs
action_there t n key [] r h = absurd cc
action_there t n key (x ∷ xs) r h = omega arith

words_behind : (t : AppliedTable) (n : ℕ) (xs : List (List ℕ)) (r : Read) → t.terms.kind ≡ Ternary → 1 ≤ length t.terms.widths → with_key t n (key_of t.terms.kind t.terms.widths xs) ≡ Ok r → 3 ≤ length xs
words_behind t n xs r ternary wide h =
    by (ternary_words t.terms.widths xs) refl (sym (ap (λ (k : Kind). with_key t n (key_of k t.terms.widths xs)) ternary) ∙ h)
  where
    by : (o : Option (Key × List (List ℕ))) → ternary_words t.terms.widths xs ≡ o → with_key t n o ≡ Ok r → 3 ≤ length xs
    by None s i = absurd cc
    by (Some k) s i = omega (arith, ternary_long t.terms.widths xs k s, action_there t n k.0 k.1 r i, wide)

module _ (p : Program) (tables : List AppliedTable) (n : ℕ) (r : Read) (shaped : All (HasShape p) tables) (ranks : is_ranked p r.table.node ≡ true) where
  table_words : (name : List ℕ) (xs : List (List ℕ)) (o : Option AppliedTable) → table_named tables name ≡ o → of_table n xs o ≡ Ok r → 3 ≤ length xs
  table_words name xs None s h = absurd cc
  table_words name xs (Some t) s h =
      let here : HasShape p t = All-find (HasShape p) (λ (x : AppliedTable). bytes_eq name x.name) tables t shaped s in
      let same : r.table ≡ t = (with_key_law t n xs r here.params h).table in
      let shape = here.ranked (ap (λ (x : AppliedTable). is_ranked p x.node) (sym same) ∙ ranks) in
      words_behind t n xs r shape.0 shape.1 h

  four_words : (xs : List (List ℕ)) → read_words tables n xs ≡ Ok r → 4 ≤ length xs
  four_words [] h = absurd cc
  four_words (name ∷ []) h = absurd cc
  four_words (name ∷ x ∷ xs) h = omega (arith, table_words name (x ∷ xs) (table_named tables name) refl h)

  line_longer : (line : List ℕ) → read_line tables n line ≡ Ok r → 7 ≤ length line
  line_longer line h = by (is_printable line) h
    where
      by : (b : Bool) → (if b then read_words tables n (words line) else Err 1) ≡ Ok r → 7 ≤ length line
      by true i = omega (arith, words_long line, four_words (words line) i)
      by false i = absurd cc

-- what is known of a line behind some entries, and of the entry that it says
record Said (p : Program) (es : List Entry) (line : List ℕ) (e : Entry) : Type 0 where
  number : e.number ≡ length es
  long : 3 ≤ length line
  longer : is_ranked p e.table ≡ true → 7 ≤ length line

said : (p : Program) (tables : List AppliedTable) (es : List Entry) (line : List ℕ) (e : Entry) → All (HasShape p) tables → entry_of tables es line ≡ Ok e → Said p es line e
said p tables es line e shaped h =
    let a = admitted_law es (read_line tables (length es) line) e h in
    let by = read_line_law (HasShape p) tables (length es) a.read (λ t shape. shape.params) shaped line a.was in
    let node : a.read.table.node ≡ e.table = sym by.read.entry.table ∙ ap (λ (x : Entry). x.table) a.is in
    record {
      number = sym (ap (λ (x : Entry). x.number) a.is) ∙ by.read.number;
      long = line_long tables (length es) line a.read a.was;
      longer = λ ranks. line_longer p tables (length es) a.read shaped (ap (is_ranked p) node ∙ ranks) line a.was;
    }

-- ---- all lines

abbrev line_size : ℕ × List ℕ → ℕ
line_size l = size l.1

-- one for an entry of a ternary table
abbrev pub rank_weight : Program → Entry → ℕ
rank_weight p e = cond (is_ranked p e.table) 1 0

-- entries that are numbered from 0, and whose lines had so many bytes and line feeds: those of ternary tables eight each
pub record AreFew (p : Program) (es : List Entry) (bytes : ℕ) : Type 0 where
  pub few : 4 * length es + 4 * sum_by (rank_weight p) es ≤ bytes
  pub numbers : All (λ (e : Entry). e.number < length es) es

-- a line has four bytes for its entry, and four more where that has a rank
line_weighs : (b : Bool) (line : List ℕ) → 3 ≤ length line → (b ≡ true → 7 ≤ length line) → 4 + 4 * cond b 1 0 ≤ size line
line_weighs true line long longer = omega (arith, longer refl)
line_weighs false line long longer = omega (arith, long)

one_more : (p : Program) (es : List Entry) (e : Entry) (bytes : ℕ) (line : List ℕ) → AreFew p es bytes → Said p es line e → AreFew p (es ++ e ∷ []) (bytes + size line)
one_more p es e bytes line h s =
    let all = length-append es (e ∷ []) in
    let longer : length es + 1 ≡ length (es ++ e ∷ []) = omega (arith, all) in
    let weight = sum_by_push (rank_weight p) es e in
    let own = line_weighs (is_ranked p e.table) line s.long s.longer in
    record {
      few = omega (arith, h.few, own, weight, longer);
      numbers =
          subst (λ n. All (λ (x : Entry). x.number < n) (es ++ e ∷ [])) longer
          (All-push (λ (x : Entry). x.number < length es + 1) es e
          (All-weaker (λ (x : Entry). x.number < length es) (λ (x : Entry). x.number < length es + 1) (λ x lt. omega (arith, lt)) es h.numbers)
          (omega (arith, s.number)));
    }

all_lines : (p : Program) (tables : List AppliedTable) (es out : List Entry) (bytes : ℕ) (ls : List (ℕ × List ℕ)) → All (HasShape p) tables → AreFew p es bytes → reading tables es ls ≡ Ok out
    → AreFew p out (bytes + sum_by line_size ls)
all_lines p tables es out bytes [] shaped h e =
    let none : bytes + sum_by line_size [] ≡ bytes = omega arith in
    subst (AreFew p out) (sym none) (subst (λ xs. AreFew p xs bytes) (same_Ok es out e) h)
all_lines p tables es out bytes (l ∷ ls) shaped h e =
    by (entry_of tables es l.1) refl (λ x. all_lines p tables (es ++ x ∷ []) out (bytes + line_size l) ls shaped) e
  where
    by : (o : Result Entry ℕ) → entry_of tables es l.1 ≡ o
        → ((x : Entry) → AreFew p (es ++ x ∷ []) (bytes + line_size l) → reading tables (es ++ x ∷ []) ls ≡ Ok out → AreFew p out (bytes + line_size l + sum_by line_size ls))
        → line_then l.0 o (λ x. reading tables (es ++ x ∷ []) ls) ≡ Ok out → AreFew p out (bytes + sum_by line_size (l ∷ ls))
    by (Err code) s rest i = absurd cc
    by (Ok x) s rest i =
        let total = sum_by-cons line_size l ls in
        let same : bytes + line_size l + sum_by line_size ls ≡ bytes + sum_by line_size (l ∷ ls) = omega (arith, total) in
        subst (AreFew p out) same (rest x (one_more p es x bytes l.1 h (said p tables es l.1 x shaped s)) i)

numbered_size : (n : ℕ) (lines : List (List ℕ)) → sum_by line_size (enumerate_from n lines) ≡ sum_by size lines
numbered_size n [] = refl
numbered_size n (line ∷ lines) =
    let one = sum_by-cons line_size (n, line) (enumerate_from (n + 1) lines) in
    let two = sum_by-cons size line lines in
    omega (arith, one, two, numbered_size (n + 1) lines)

lines_size : (text : List ℕ) → sum_by line_size (numbered_lines 1 text) ≤ length text + 1
lines_size text =
    let lines = enumerate_from 1 (slice_split (λ b. b == 10) text) in
    let kept = sum_by-filter_both (λ (l : ℕ × List ℕ). not (is_passed_over l.1)) (λ (l : ℕ × List ℕ). not (not (is_passed_over l.1))) (λ l. refl) line_size lines in
    omega (arith, kept, numbered_size 1 (slice_split (λ b. b == 10) text), parts_size (λ b. b == 10) text)

none_few : (p : Program) → AreFew p [] 0
none_few p = record { few = omega arith; numbers = All-nil (λ (e : Entry). e.number < 0) }

-- the entries that a text says
pub few_entries : (p : Program) (text : List ℕ) (es : List Entry) → IsProgram p → reading (applied_tables p) [] (numbered_lines 1 text) ≡ Ok es → AreFew p es (length text + 1)
few_entries p text es program e =
    let h = all_lines p (applied_tables p) [] es 0 (numbered_lines 1 text) (are_shaped p program) (none_few p) e in
    record { few = omega (arith, h.few, lines_size text); numbers = h.numbers }
