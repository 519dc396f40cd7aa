-- The texts of a sample are short, and no line of its packets is bad.
use Rattle.std.proofs.Common.{◌≡◌, ℕ, zero, suc, ◌+◌, ◌*◌, ◌/◌, ◌%◌, ◌^◌, ◌<◌, ◌≤◌, Bool, true, false, cond, eqb, List, [], ◌∷◌, ◌++◌, length, get_or, None, refl, sym, ap, ◌∙◌, arith, append_assoc, length-append}
use Rattle.std.specs.Prelude.{codes, replicate, slice_index}
use Rattle.std.specs.Fmt.{decimal}
use Rattle.std.specs.Int.{bytes_high_first, byte_at}
use Rattle.std.specs.List.{flat_map, range_with_len}
use Rattle.std.proofs.lemmas.Bool.{ne_eqb}
use Rattle.std.proofs.lemmas.Fmt.{length-decimal-le}
use Rattle.std.proofs.lemmas.List.Elements.{All-append, All-cons, All-nil}
use Rattle.std.proofs.lemmas.Option.{none-some}
use Rattle.hex.specs.Hex.{IsBytes, encode_lower, encode_with, hex_digit_value, lower_digits}
use Rattle.hex.proofs.HexLemmas.{IsDigits-lower_digits}
use Rattle.rmt_bits.specs.Packet.{Packet}
use Rattle.rmt_bits.proofs.LineLaws.{is_feed}
use Rattle.rmt_bits.proofs.DigitLaws.{IsDigit-at, Says-decimal, Says-first}
use Rattle.rmt_bits.specs.Lines.{is_passed_over, numbered_lines}
use Rattle.rmt_packets.specs.PacketText.{before, packet_text, packets_of, reading_of}
use Rattle.rmt_packets.specs.Pieces.{feeds}
use Rattle.rmt_packets.proofs.Cuts.{NoFeed, numbered_append, numbered_line}
use Rattle.rmt_packets.proofs.RoundTrip.{packet_of-packet_text}
use Rattle.rmt_sample.specs.Texts.{before_size, behind_sizes, between_sizes, entries_text, entry_line, ethernet, frame, host, host_line, internet, packet_line, packets_text, program_text, station, station_line}

-- ---- lengths

entry_length : (table : List ℕ) (address i digits : ℕ) → length (decimal address) ≤ digits → length (entry_line table address i) ≤ length table + digits + 14
entry_length table address i digits le =
    let port = length-decimal-le 3 (i % 512) (omega arith) (omega arith) (omega arith) in
    let last = codes "\n" in
    let tail = codes " forward " ++ (decimal (i % 512) ++ last) in
    omega (arith, le, port, length-append table (codes " " ++ (decimal address ++ tail)), length-append (decimal address) tail, length-append (decimal (i % 512)) last)

station_length : (i : ℕ) → length (station_line i) ≤ 31
station_length i = omega (arith, entry_length (codes "macs") (station i) i 13 (length-decimal-le 13 (station i) (omega arith) (omega arith) (omega arith)))

host_length : (i : ℕ) → length (host_line i) ≤ 31
host_length i = omega (arith, entry_length (codes "hosts") (host i) i 10 (length-decimal-le 10 (host i) (omega arith) (omega arith) (omega arith)))

lines_length : (line : ℕ → List ℕ) → ((i : ℕ) → length (line i) ≤ 31) → (a n : ℕ) → length (flat_map line (range_with_len a n)) ≤ 31 * n
lines_length line le a zero = omega arith
lines_length line le a (suc n) = omega (arith, le a, lines_length line le (a + 1) n, length-append (line a) (flat_map line (range_with_len (a + 1) n)))

pub entries_short : (n : ℕ) → n ≤ 100000 → length (entries_text n) ≤ 6200000
entries_short n le =
    omega (
      arith,
      lines_length station_line station_length 0 n,
      lines_length host_line host_length 0 n,
      length-append (flat_map station_line (range_with_len 0 n)) (flat_map host_line (range_with_len 0 n)),
    )

pub program_short : (n : ℕ) → n ≤ 100000 → length (program_text n) ≤ 1000
program_short n le =
    let size = length-decimal-le 6 n (omega arith) (omega arith) (omega arith) in
    let second = decimal n ++ behind_sizes in
    let first = decimal n ++ (between_sizes ++ second) in
    let before : length before_size ≡ 309 = refl in
    let between : length between_sizes ≡ 84 = refl in
    let behind : length behind_sizes ≡ 94 = refl in
    omega (arith, size, before, between, behind, length-append before_size first, length-append (decimal n) (between_sizes ++ second), length-append between_sizes second, length-append (decimal n) behind_sizes)

-- ---- bytes

bytes_cons : (x : ℕ) (xs : List ℕ) → x < 256 → IsBytes xs → IsBytes (x ∷ xs)
bytes_cons x xs lt b zero = lt
bytes_cons x xs lt b (suc i) = b i

bytes_append : (xs ys : List ℕ) → IsBytes xs → IsBytes ys → IsBytes (xs ++ ys)
bytes_append [] ys a b = b
bytes_append (x ∷ xs) ys a b = bytes_cons x (xs ++ ys) (a 0) (bytes_append xs ys (λ i. a (suc i)) b)

byte_fits : (k n : ℕ) → byte_at k n < 256
byte_fits zero n = omega arith
byte_fits (suc k) n = omega arith

bytes_high : (k n : ℕ) → IsBytes (bytes_high_first k n)
bytes_high zero n = λ i. omega arith
bytes_high (suc k) n = bytes_cons (byte_at k n) (bytes_high_first k n) (byte_fits k n) (bytes_high k n)

bytes_zero : (n : ℕ) → IsBytes (replicate n 0)
bytes_zero zero = λ i. omega arith
bytes_zero (suc n) = bytes_cons 0 (replicate n 0) (omega arith) (bytes_zero n)

record IsFrame (xs : List ℕ) : Type 0 where
  some : 1 ≤ length xs
  few : length xs ≤ 9216
  bytes : IsBytes xs

ethernet_bytes : (to kind : ℕ) → IsBytes (ethernet to kind)
ethernet_bytes to kind = bytes_append (bytes_high_first 6 to) (replicate 6 0 ++ bytes_high_first 2 kind) (bytes_high 6 to) (bytes_append (replicate 6 0) (bytes_high_first 2 kind) (bytes_zero 6) (bytes_high 2 kind))

internet_bytes : (to : ℕ) → IsBytes (internet to)
internet_bytes to =
    let last = bytes_append (replicate 6 0) (bytes_high_first 4 to) (bytes_zero 6) (bytes_high 4 to) in
    bytes_append (replicate 8 0) (64 ∷ 17 ∷ replicate 6 0 ++ bytes_high_first 4 to) (bytes_zero 8) (bytes_cons 64 (17 ∷ replicate 6 0 ++ bytes_high_first 4 to) (omega arith) (bytes_cons 17 (replicate 6 0 ++ bytes_high_first 4 to) (omega arith) last))

is_frame : (j : ℕ) → IsFrame (frame j)
is_frame j = by (eqb (j % 2) 0)
  where
    by : (b : Bool) → IsFrame (cond b (ethernet (station j) 2054) (ethernet (station 0) 2048 ++ internet (host j)))
    by true = record { some = omega arith; few = omega arith; bytes = ethernet_bytes (station j) 2054 }
    by false = record {
      some = omega arith;
      few = omega arith;
      bytes = bytes_append (ethernet (station 0) 2048) (internet (host j)) (ethernet_bytes (station 0) 2048) (internet_bytes (host j));
    }

-- ---- lines

decimal_free : (n : ℕ) → n < 2 ^ 64 → NoFeed (decimal n)
decimal_free n lt k d less =
    let is = IsDigit-at (decimal n) (Says-decimal n lt).digits k d less in
    ne_eqb (get_or (decimal n) k d) 10 (λ e. omega (arith, is.low))

hex_digit_free : (d : ℕ) → d < 16 → is_feed (slice_index lower_digits d) ≡ false
hex_digit_free d lt = ne_eqb (slice_index lower_digits d) 10 (λ e. none-some d (sym (ap hex_digit_value e) ∙ IsDigits-lower_digits d lt))

hex_free : (xs : List ℕ) → IsBytes xs → NoFeed (encode_lower xs)
unfolding encode_with
hex_free [] b = All-nil (λ x. is_feed x ≡ false)
hex_free (x ∷ xs) b =
    All-cons (λ b. is_feed b ≡ false) (slice_index lower_digits (x / 16)) (slice_index lower_digits (x % 16) ∷ encode_with lower_digits xs) (hex_digit_free (x / 16) (omega (arith, b 0)))
    (All-cons (λ b. is_feed b ≡ false) (slice_index lower_digits (x % 16)) (encode_with lower_digits xs) (hex_digit_free (x % 16) (omega arith)) (hex_free xs (λ i. b (suc i))))

not_passed : (n : ℕ) (more : List ℕ) → n < 2 ^ 64 → is_passed_over (decimal n ++ more) ≡ false
not_passed n more lt =
    let s = Says-decimal n lt in
    let low = (Says-first n (decimal n) s).low in
    ap (λ l. is_passed_over (l ++ more)) s.is ∙ rw (ne_eqb s.first 32 (λ e. omega (arith, low)), ne_eqb s.first 35 (λ e. omega (arith, low))) refl

-- one line, and then the others
pub line_behind : (k : ℕ) (line rest : List ℕ) → NoFeed line → is_passed_over line ≡ false → numbered_lines k ((line ++ 10 ∷ []) ++ rest) ≡ (k, line) ∷ numbered_lines (k + (feeds line + 1)) rest
line_behind k line rest free passed =
    ap (numbered_lines k) (append_assoc line (10 ∷ []) rest) ∙ numbered_append k line rest
    ∙ ap (λ l. l ++ numbered_lines (k + (feeds line + 1)) rest) (numbered_line k line free ∙ ap (λ b. cond b [] ((k, line) ∷ [])) passed)

abbrev packet_at : ℕ → Packet
packet_at j = record { port = j % 512; frame = frame j }

no_bad_line : (a n k : ℕ) → (reading_of (numbered_lines k (flat_map packet_line (range_with_len a n)))).bad ≡ None
no_bad_line a zero k = ap (λ l. (reading_of l).bad) (numbered_line k [] (All-nil (λ b. is_feed b ≡ false)))
no_bad_line a (suc n) k =
    let f = is_frame a in
    let rest = flat_map packet_line (range_with_len (a + 1) n) in
    let text = packet_text (packet_at a) in
    let hex = encode_lower (frame a) in
    let free = All-append (λ b. is_feed b ≡ false) (decimal (a % 512)) (32 ∷ hex) (decimal_free (a % 512) (omega arith)) (All-cons (λ b. is_feed b ≡ false) 32 hex refl (hex_free (frame a) f.bytes)) in
    let passed = not_passed (a % 512) (32 ∷ hex) (omega arith) in
    let line : packet_line a ≡ text ++ 10 ∷ [] = sym (append_assoc (decimal (a % 512)) (32 ∷ hex) (10 ∷ [])) in
    let says = packet_of-packet_text (packet_at a) (omega arith) f.some f.few f.bytes in
    let later = k + (feeds text + 1) in
    ap (λ l. (reading_of (numbered_lines k (l ++ rest))).bad) line ∙ ap (λ l. (reading_of l).bad) (line_behind k text rest free passed)
    ∙ ap (λ r. (before k r (reading_of (numbered_lines later rest))).bad) says ∙ no_bad_line (a + 1) n later

pub packets_good : (n : ℕ) → (packets_of (packets_text n)).bad ≡ None
packets_good n = no_bad_line 0 (2 * n) 1
