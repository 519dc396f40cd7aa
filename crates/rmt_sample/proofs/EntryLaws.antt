-- The entries that a sample's text says: no line of it is bad.
use Rattle.std.proofs.Common.{◌≡◌, ◌≢◌, ◌∙◌, refl, sym, ap, arith, ℕ, zero, suc, ◌+◌, ◌%◌, ◌<◌, ◌≤◌, ◌||◌, true, false, cond, eqb, leb, List, [], ◌∷◌, ◌++◌, length, get_or, map, Result, Ok, Err, append-nil, append_assoc, length-append}
use Rattle.std.specs.Prelude.{◌&&◌, codes}
use Rattle.std.specs.List.{flat_map, range_with_len}
use Rattle.std.specs.Str.{bytes_eq}
use Rattle.std.proofs.lemmas.Bool.{and_parts, cond-false, false_from_ne_true, leb-true, lt-leb, ne_eqb, or_from}
use Rattle.std.proofs.lemmas.List.Elements.{filter-append}
use Rattle.std.proofs.lemmas.List.Folds.{list_any-append}
use Rattle.std.proofs.lemmas.List.FromFn.{length-map-range_with_len, map-range_with_len_more}
use Rattle.std.proofs.lemmas.List.Sums.{AllPass-from_list_all, count_by-le-length, length-filter}
use Rattle.std.proofs.lemmas.Slice.Eq.{bytes_eq-Decides}
use Rattle.rmt_ast.specs.declared.entry.Entry.{Entry}
use Rattle.rmt_entries.specs.declared.fault.EntryFault.{EntryFault}
use Rattle.rmt_entries.specs.Entries.{admitted, by_node, entries_at, entry_of, identity, is_repeated, line_then, reading}
use Rattle.rmt_bits.specs.Lines.{is_passed_over, numbered_lines}
use Rattle.rmt_entries.specs.Lines.{is_printable}
use Rattle.rmt_entries.specs.Tables.{AppliedTable}
use Rattle.rmt_packets.specs.Pieces.{feeds}
use Rattle.rmt_packets.proofs.Cuts.{NoFeed}
use Rattle.rmt_sample.specs.Texts.{entries_text, entry_line, host, host_line, station, station_line}
use Rattle.rmt_sample.specs.SampleProgram.{entry, host_entry, hosts, sample_entries, station_entry, stations}
use Rattle.rmt_sample.proofs.AddressLaws.{same_host, same_station}
use Rattle.rmt_sample.proofs.TextLaws.{line_behind}
use Rattle.rmt_sample.proofs.EntryLineLaws.{bare, host_said, hosts as hosts_word, hosts_table, is_printable-bare, macs, said, station_said, stations_table, table, tables}

-- all entries, in the order of their lines
abbrev pub entries : ℕ → List Entry
entries n = stations n ++ hosts n n

-- ---- no entry repeats another

differ : (xs ys : List ℕ) → xs ≢ ys → bytes_eq xs ys ≡ false
differ xs ys not = false_from_ne_true (bytes_eq xs ys) (λ e. not ((bytes_eq-Decides xs ys).0 e))

-- entries of one table with other addresses
apart : (e : Entry) (make : ℕ → Entry) (i : ℕ) → ((j : ℕ) → j < i → identity e ≢ identity (make j)) → (a m : ℕ) → a + m ≤ i → is_repeated (map make (range_with_len a m)) e ≡ false
apart e make i differs a zero le = refl
apart e make i differs a (suc m) le =
    ap (λ b. b || is_repeated (map make (range_with_len (a + 1) m)) e) (differ (identity e) (identity (make a)) (differs a (omega arith))) ∙ apart e make i differs (a + 1) m (omega arith)

-- no entry of a node is among those of another
elsewhere : (make : ℕ → Entry) (node : ℕ) → ((j : ℕ) → eqb node (make j).table ≡ false) → (a m : ℕ) → entries_at (map make (range_with_len a m)) node ≡ []
elsewhere make node at a zero = refl
elsewhere make node at a (suc m) = ap (λ b. cond b (make a ∷ entries_at (map make (range_with_len (a + 1) m)) node) (entries_at (map make (range_with_len (a + 1) m)) node)) (at a) ∙ elsewhere make node at (a + 1) m

fewer : (es : List Entry) (node : ℕ) → length (entries_at es node) ≤ length es
fewer es node = omega (arith, length-filter (λ (e : Entry). eqb node e.table) es, count_by-le-length (λ (e : Entry). eqb node e.table) es)

-- ---- a line adds its entry

-- an entry with a new key, of a table that is not full
admits : (es : List Entry) (node : ℕ) (name : List ℕ) (width n : ℕ) (e : Entry) → is_repeated es e ≡ false → length (entries_at es e.table) < n → admitted es (Ok (said (table node name width n) e)) ≡ Ok e
admits es node name width n e new room = cond-false (is_repeated es e) (Err 6) _ new ∙ cond-false (leb n (length (entries_at es e.table))) (Err 7) (Ok e) (lt-leb n (length (entries_at es e.table)) room)

-- no line feed is printed
unbroken : (line : List ℕ) → is_printable line ≡ true → NoFeed line
unbroken line shown k d lt =
    let b = get_or line k d in
    let low = leb-true 32 b (and_parts (leb 32 b) (leb b 126) (AllPass-from_list_all (λ x. leb 32 x && leb x 126) line shown k d lt)).0 in
    ne_eqb b 10 (λ e. omega (arith, low))

line_is : (name : List ℕ) (address i : ℕ) → entry_line name address i ≡ bare name address (i % 512) ++ 10 ∷ []
line_is name address i = sym (simp append_assoc)

taken : (ts : List AppliedTable) (es : List Entry) (k : ℕ) (line : List ℕ) (e : Entry) (rest : List ℕ) → is_printable line ≡ true → is_passed_over line ≡ false → entry_of ts es line ≡ Ok e
    → reading ts es (numbered_lines k ((line ++ 10 ∷ []) ++ rest)) ≡ reading ts (es ++ e ∷ []) (numbered_lines (k + (feeds line + 1)) rest)
taken ts es k line e rest shown read is =
    ap (reading ts es) (line_behind k line rest (unbroken line shown) read)
    ∙ ap (λ r. line_then k r (λ x. reading ts (es ++ x ∷ []) (numbered_lines (k + (feeds line + 1)) rest))) is

-- ---- the stations

not_station : (i : ℕ) → i ≤ 100000 → (j : ℕ) → j < i → identity (station_entry i) ≢ identity (station_entry j)
not_station i few j lt e =
    let lists : 2 ∷ 0 ∷ station i ∷ [] ≡ 2 ∷ 0 ∷ station j ∷ [] = e in
    let is : station i ≡ station j = cc in
    absurd (omega (arith, same_station i j (omega arith) (omega arith) is))

stations_more : (i : ℕ) → stations i ++ station_entry i ∷ [] ≡ stations (i + 1)
stations_more i = sym (map-range_with_len_more station_entry 0 i i (omega arith))

station_taken : (n i : ℕ) → i < n → n ≤ 100000 → entry_of (tables n) (stations i) (bare (codes "macs") (station i) (i % 512)) ≡ Ok (station_entry i)
station_taken n i lt few =
    let es = stations i in
    let count = length-map-range_with_len station_entry 0 i in
    ap (admitted es) (station_said n (length es) i ∙ ap (λ m. Ok (said (stations_table n) (entry 2 48 m (station i) (i % 512)))) count)
    ∙ admits es 2 (codes "macs") 48 n (station_entry i) (apart (station_entry i) station_entry i (not_station i (omega arith)) 0 i (omega arith)) (omega (arith, fewer es 2, count))

-- ---- the hosts

not_host : (n i : ℕ) → i ≤ 100000 → (j : ℕ) → j < i → identity (host_entry n i) ≢ identity (host_entry n j)
not_host n i few j lt e =
    let lists : 1 ∷ 0 ∷ host i ∷ [] ≡ 1 ∷ 0 ∷ host j ∷ [] = e in
    let is : host i ≡ host j = cc in
    absurd (omega (arith, same_host i j (omega arith) (omega arith) is))

no_station : (n i j : ℕ) → identity (host_entry n i) ≢ identity (station_entry j)
no_station n i j e =
    let lists : 1 ∷ 0 ∷ host i ∷ [] ≡ 2 ∷ 0 ∷ station j ∷ [] = e in
    let is : ◌≡◌ {A = ℕ} 1 2 = cc in
    absurd (omega (arith, is))

-- with those of the stations
abbrev both : ℕ → ℕ → List Entry
both n i = stations n ++ hosts n i

both_more : (n i : ℕ) → both n i ++ host_entry n i ∷ [] ≡ both n (i + 1)
both_more n i = append_assoc (stations n) (hosts n i) (host_entry n i ∷ []) ∙ ap (λ es. stations n ++ es) (sym (map-range_with_len_more (host_entry n) 0 i i (omega arith)))

host_taken : (n i : ℕ) → i < n → n ≤ 100000 → entry_of (tables n) (both n i) (bare (codes "hosts") (host i) (i % 512)) ≡ Ok (host_entry n i)
host_taken n i lt few =
    let es = both n i in
    let e = host_entry n i in
    let later = length-map-range_with_len (host_entry n) 0 i in
    let count : length es ≡ n + i = omega (arith, length-append (stations n) (hosts n i), length-map-range_with_len station_entry 0 n, later) in
    let new : is_repeated es e ≡ false =
    list_any-append (λ o. bytes_eq (identity e) (identity o)) (stations n) (hosts n i)
    ∙ or_from (is_repeated (stations n) e) (is_repeated (hosts n i) e) (apart e station_entry n (λ j _. no_station n i j) 0 n (omega arith)) (apart e (host_entry n) i (not_host n i (omega arith)) 0 i (omega arith)) in
    let others : entries_at es 1 ≡ entries_at (hosts n i) 1 =
    filter-append (λ (o : Entry). eqb 1 o.table) (stations n) (hosts n i) ∙ ap (λ l. l ++ entries_at (hosts n i) 1) (elsewhere station_entry 1 (λ _. refl) 0 n) in
    ap (admitted es) (host_said n (length es) i ∙ ap (λ m. Ok (said (hosts_table n) (entry 1 32 m (host i) (i % 512)))) count)
    ∙ admits es 1 (codes "hosts") 32 n e new (omega (arith, ap length others, fewer (hosts n i) 1, later))

-- ---- all lines

-- the lines of numbers below n, each of which adds one entry
through : (ts : List AppliedTable) (line : ℕ → List ℕ) (es : ℕ → List Entry) (n : ℕ) (r : Result (List Entry) EntryFault)
    → ((i k : ℕ) (rest : List ℕ) → i < n → (l : ℕ) × (reading ts (es i) (numbered_lines k (line i ++ rest)) ≡ reading ts (es (i + 1)) (numbered_lines l rest)))
    → (rest : List ℕ) → ((k : ℕ) → reading ts (es n) (numbered_lines k rest) ≡ r)
    → (a m k : ℕ) → a + m ≡ n → reading ts (es a) (numbered_lines k (flat_map line (range_with_len a m) ++ rest)) ≡ r
through ts line es n r step rest last a zero k is =
    let all : a ≡ n = omega (arith, is) in
    ap (λ x. reading ts (es x) (numbered_lines k rest)) all ∙ last k
through ts line es n r step rest last a (suc m) k is =
    let later = flat_map line (range_with_len (a + 1) m) in
    let next = step a k (later ++ rest) (omega (arith, is)) in
    ap (λ text. reading ts (es a) (numbered_lines k text)) (append_assoc (line a) later rest) ∙ next.1 ∙ through ts line es n r step rest last (a + 1) m next.0 (omega (arith, is))

step_of : (n : ℕ) (name : List ℕ) (address i k : ℕ) (rest : List ℕ) (es more : List Entry) (e : Entry) → is_printable (bare name address (i % 512)) ≡ true → is_passed_over (bare name address (i % 512)) ≡ false
    → entry_of (tables n) es (bare name address (i % 512)) ≡ Ok e → es ++ e ∷ [] ≡ more
    → (l : ℕ) × (reading (tables n) es (numbered_lines k (entry_line name address i ++ rest)) ≡ reading (tables n) more (numbered_lines l rest))
step_of n name address i k rest es more e shown read is grown =
    let line = bare name address (i % 512) in
    let l = k + (feeds line + 1) in
    let go = ap (λ t. reading (tables n) es (numbered_lines k (t ++ rest))) (line_is name address i) ∙ taken (tables n) es k line e rest shown read is
    ∙ ap (λ x. reading (tables n) x (numbered_lines l rest)) grown in
    (l, go)

hosts_read : (n : ℕ) → n ≤ 100000 → (k : ℕ) → reading (tables n) (stations n) (numbered_lines k (flat_map host_line (range_with_len 0 n))) ≡ Ok (entries n)
hosts_read n few k =
    let all = flat_map host_line (range_with_len 0 n) in
    let step = λ (i k : ℕ) (rest : List ℕ) (lt : i < n). step_of n (codes "hosts") (host i) i k rest (both n i) (both n (i + 1)) (host_entry n i)
    (is_printable-bare (codes "hosts") (host i) (i % 512) hosts_word (omega arith) (omega arith)) refl (host_taken n i lt few) (both_more n i) in
    ap (λ es. reading (tables n) es (numbered_lines k all)) (sym (append-nil (stations n))) ∙ ap (λ text. reading (tables n) (both n 0) (numbered_lines k text)) (sym (append-nil all))
    ∙ through (tables n) host_line (both n) n (Ok (entries n)) step [] (λ _. refl) 0 n k (omega arith)

pub entries_read : (n : ℕ) → n ≤ 100000 → reading (tables n) [] (numbered_lines 1 (entries_text n)) ≡ Ok (entries n)
entries_read n few =
    let step = λ (i k : ℕ) (rest : List ℕ) (lt : i < n). step_of n (codes "macs") (station i) i k rest (stations i) (stations (i + 1)) (station_entry i)
    (is_printable-bare (codes "macs") (station i) (i % 512) macs (omega arith) (omega arith)) refl (station_taken n i lt few) (stations_more i) in
    through (tables n) station_line stations n (Ok (entries n)) step (flat_map host_line (range_with_len 0 n)) (hosts_read n few) 0 n 1 (omega arith)

-- ---- by the nodes that apply the tables

-- all entries of a node
here : (make : ℕ → Entry) (node : ℕ) → ((j : ℕ) → eqb node (make j).table ≡ true) → (a m : ℕ) → entries_at (map make (range_with_len a m)) node ≡ map make (range_with_len a m)
here make node at a zero = refl
here make node at a (suc m) =
    let later = map make (range_with_len (a + 1) m) in
    ap (λ b. cond b (make a ∷ entries_at later node) (entries_at later node)) (at a) ∙ ap (λ es. make a ∷ es) (here make node at (a + 1) m)

split : (n node : ℕ) → entries_at (entries n) node ≡ entries_at (stations n) node ++ entries_at (hosts n n) node
split n node = filter-append (λ (o : Entry). eqb node o.table) (stations n) (hosts n n)

pub lists_are : (n : ℕ) → by_node 3 (entries n) ≡ sample_entries n
lists_are n =
    let first : entries_at (entries n) 0 ≡ [] =
    split n 0 ∙ ap (λ es. es ++ entries_at (hosts n n) 0) (elsewhere station_entry 0 (λ _. refl) 0 n) ∙ elsewhere (host_entry n) 0 (λ _. refl) 0 n in
    let second : entries_at (entries n) 1 ≡ hosts n n =
    split n 1 ∙ ap (λ es. es ++ entries_at (hosts n n) 1) (elsewhere station_entry 1 (λ _. refl) 0 n) ∙ here (host_entry n) 1 (λ _. refl) 0 n in
    let third : entries_at (entries n) 2 ≡ stations n =
    split n 2 ∙ ap (λ es. entries_at (stations n) 2 ++ es) (elsewhere (host_entry n) 2 (λ _. refl) 0 n) ∙ append-nil (entries_at (stations n) 2) ∙ here station_entry 2 (λ _. refl) 0 n in
    cc
