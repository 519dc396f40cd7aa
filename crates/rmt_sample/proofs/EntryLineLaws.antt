-- What the lines of a sample's entries say.
use Rattle.std.proofs.Common.{◌≡◌, ◌∙◌, refl, ap, arith, ℕ, suc, ◌%◌, ◌^◌, ◌<◌, Bool, true, false, leb, List, [], ◌∷◌, ◌++◌, length, get_or, Some, None, Ok, Err}
use Rattle.std.specs.Prelude.{◌==◌, ◌&&◌, not, nat_le, slice_index, codes, option_map}
use Rattle.std.specs.Fmt.{decimal}
use Rattle.std.specs.List.{All, filter, list_all, slice_split}
use Rattle.std.proofs.lemmas.Bool.{and_from, and_parts, and_right, cond-false, cond-true, le-leb, lt-ltb, ne_eqb}
use Rattle.std.proofs.lemmas.List.Sums.{list_all-from_AllPass}
use Rattle.std.proofs.lemmas.List.Folds.{list_all-append}
use Rattle.std.proofs.lemmas.List.Splits.{slice_split_at, slice_split_none}
use Rattle.rmt_ast.specs.EntryLists.{Terms}
use Rattle.rmt_ast.specs.declared.entry.Entry.{Entry}
use Rattle.rmt_ast.specs.declared.program.Kind.TheVariants.{Exact}
use Rattle.rmt_entries.specs.Entries.{Read, of_table, read_line, read_words, with_arguments, with_key, whole_line}
use Rattle.rmt_entries.specs.declared.keys.Key.{Key}
use Rattle.rmt_entries.specs.Keys.{both, onto, ranked, whole}
use Rattle.rmt_entries.specs.Lines.{is_printable, words}
use Rattle.rmt_entries.specs.Numbers.{below, number, number_of_width}
use Rattle.rmt_entries.specs.Tables.{AppliedTable, table_named}
use Rattle.rmt_sample.specs.Texts.{host, station}
use Rattle.rmt_sample.specs.SampleProgram.{entry}
use Rattle.rmt_bits.specs.Digits.{is_digit}
use Rattle.rmt_bits.proofs.DigitLaws.{IsDigit-at, IsDigit-from, Says, Says-decimal}

-- a table that node `node` applies, of n entries with an exact key of one field
abbrev pub table : (node : ℕ) (name : List ℕ) (width n : ℕ) → AppliedTable
table node name width n =
    let terms : Terms = record { kind = Exact; widths = width ∷ []; params = (9 ∷ []) ∷ []; size = n } in
    record { node = node; name = name; terms = terms; actions = codes "forward" ∷ [] }

abbrev pub hosts_table : ℕ → AppliedTable
hosts_table n = table 1 (codes "hosts") 32 n

abbrev pub stations_table : ℕ → AppliedTable
stations_table n = table 2 (codes "macs") 48 n

abbrev pub tables : ℕ → List AppliedTable
tables n = hosts_table n ∷ stations_table n ∷ []

-- a table with an entry that a line says of it
abbrev pub said : AppliedTable → Entry → Read
said t e = record { table = t; entry = e }

-- ---- numbers

-- digits do not begin with 0x
no_hex : (ds : List ℕ) → list_all is_digit ds ≡ true → (slice_index ds 0 == 48 && slice_index ds 1 == 120) ≡ false
no_hex [] all = refl
no_hex (d ∷ []) all = and_right (d == 48) (0 == 120) refl
no_hex (d ∷ e ∷ ds) all =
    let both = and_parts (is_digit d) (list_all is_digit (e ∷ ds)) all in
    let is = IsDigit-from e (and_parts (is_digit e) (list_all is_digit ds) both.1).0 in
    and_right (d == 48) (e == 120) (ne_eqb e 120 (λ h. omega (arith, is.high)))

some : (n : ℕ) (ds : List ℕ) → Says n ds → not (length ds == 0) ≡ true
some n ds s = ap (λ l. not (length l == 0)) s.is ∙ ap not (ne_eqb (length (s.first ∷ s.rest)) 0 (λ e. omega arith))

number_is : (n width : ℕ) (ds : List ℕ) → Says n ds → n < 2 ^ width → number_of_width width ds ≡ Some n
number_is n width ds s lt =
    ap (below (2 ^ width))
    (cond-false (slice_index ds 0 == 48 && slice_index ds 1 == 120) _ _ (no_hex ds s.digits)
    ∙ cond-true (not (length ds == 0) && list_all is_digit ds) _ _ (and_from (not (length ds == 0)) (list_all is_digit ds) (some n ds s) s.digits) ∙ ap Some s.number)
    ∙ cond-true (leb (suc n) (2 ^ width)) (Some n) None (lt-ltb n (2 ^ width) lt)

-- ---- words

abbrev is_space : ℕ → Bool
is_space b = b == 32

no_space : (ds : List ℕ) → list_all is_digit ds ≡ true → All (λ b. is_space b ≡ false) ds
no_space ds all k d lt = let is = IsDigit-at ds all k d lt in ne_eqb (get_or ds k d) 32 (λ e. omega (arith, is.low))

abbrev is_shown : ℕ → Bool
is_shown b = nat_le 32 b && nat_le b 126

shown : (ds : List ℕ) → list_all is_digit ds ≡ true → list_all is_shown ds ≡ true
shown ds all =
    list_all-from_AllPass is_shown ds (λ k d lt.
    let b = get_or ds k d in
    let is = IsDigit-at ds all k d lt in
    and_from (leb 32 b) (leb b 126) (le-leb 32 b (omega (arith, is.low))) (le-leb b 126 (omega (arith, is.high))))

-- a line without its end
abbrev pub bare : List ℕ → ℕ → ℕ → List ℕ
bare name address port = name ++ (codes " " ++ (decimal address ++ (codes " forward " ++ decimal port)))

-- a name of a table: one word
pub record IsWord (name : List ℕ) : Type 0 where
  pub some : not (length name == 0) ≡ true
  pub alone : (rest : List ℕ) → slice_split is_space (name ++ 32 ∷ rest) ≡ name ∷ slice_split is_space rest
  pub shown : list_all is_shown name ≡ true

words_behind : (address port : ℕ) → address < 2 ^ 64 → port < 2 ^ 64 → slice_split is_space (decimal address ++ (codes " forward " ++ decimal port)) ≡ decimal address ∷ codes "forward" ∷ decimal port ∷ []
words_behind address port small low =
    slice_split_at is_space (decimal address) 32 (codes "forward " ++ decimal port) (no_space (decimal address) (Says-decimal address small).digits) refl
    ∙ ap (λ (ws : List (List ℕ)). decimal address ∷ codes "forward" ∷ ws) (slice_split_none is_space (decimal port) (no_space (decimal port) (Says-decimal port low).digits))

words_are : (name : List ℕ) (address port : ℕ) → IsWord name → address < 2 ^ 64 → port < 2 ^ 64 → words (bare name address port) ≡ name ∷ decimal address ∷ codes "forward" ∷ decimal port ∷ []
words_are name address port w small low =
    ap (filter (λ word. not (length word == 0))) (w.alone (decimal address ++ (codes " forward " ++ decimal port)) ∙ ap (λ ws. name ∷ ws) (words_behind address port small low))
    ∙ rw (w.some, some address (decimal address) (Says-decimal address small), some port (decimal port) (Says-decimal port low)) refl

pub is_printable-bare : (name : List ℕ) (address port : ℕ) → IsWord name → address < 2 ^ 64 → port < 2 ^ 64 → is_printable (bare name address port) ≡ true
is_printable-bare name address port w small low =
    let last = decimal port in
    let second = codes " forward " ++ last in
    let first = decimal address ++ second in
    list_all-append is_shown name (codes " " ++ first)
    ∙ and_from (list_all is_shown name) (list_all is_shown first) w.shown
    (list_all-append is_shown (decimal address) second
    ∙ and_from (list_all is_shown (decimal address)) (list_all is_shown last) (shown (decimal address) (Says-decimal address small).digits) (shown last (Says-decimal port low).digits))

-- a line says its entry
said_by : (ts : List AppliedTable) (node : ℕ) (name : List ℕ) (width n number address port : ℕ) → table_named ts name ≡ Some (table node name width n) → IsWord name
    → address < 2 ^ width → address < 2 ^ 64 → port < 512 → read_line ts number (bare name address port) ≡ Ok (said (table node name width n) (entry node width number address port))
said_by ts node name width n number address port named w fits small low =
    let t = table node name width n in
    let xs = codes "forward" ∷ decimal port ∷ [] in
    let key : Key = record { tests = whole width address ∷ []; rank = 0 } in
    cond-true (is_printable (bare name address port)) _ (Err 1) (is_printable-bare name address port w small (omega arith))
    ∙ ap (read_words ts number) (words_are name address port w small (omega arith)) ∙ ap (of_table number (decimal address ∷ xs)) named
    ∙ ap (λ o. with_key t number (option_map (ranked 0) (both onto (option_map (whole width) o) (Some ([], xs))))) (number_is address width (decimal address) (Says-decimal address small) fits)
    ∙ ap (λ o. with_arguments t number key 0 (whole_line (both onto o (Some ([], []))))) (number_is port 9 (decimal port) (Says-decimal port (omega arith)) (omega arith))

pub macs : IsWord (codes "macs")
macs = record { some = refl; alone = λ rest. refl; shown = refl }

pub hosts : IsWord (codes "hosts")
hosts = record { some = refl; alone = λ rest. refl; shown = refl }

pub station_said : (n number i : ℕ) → read_line (tables n) number (bare (codes "macs") (station i) (i % 512)) ≡ Ok (said (stations_table n) (entry 2 48 number (station i) (i % 512)))
station_said n number i =
    said_by (tables n) 2 (codes "macs") 48 n number (station i) (i % 512) refl macs (omega arith) (omega arith) (omega arith)

pub host_said : (n number i : ℕ) → read_line (tables n) number (bare (codes "hosts") (host i) (i % 512)) ≡ Ok (said (hosts_table n) (entry 1 32 number (host i) (i % 512)))
host_said n number i =
    said_by (tables n) 1 (codes "hosts") 32 n number (host i) (i % 512) refl hosts (omega arith) (omega arith) (omega arith)
