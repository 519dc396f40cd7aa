-- A packet line and its front say the same.
use Rattle.std.proofs.Common.{◌≡◌, ℕ, ◌+◌, ◌<◌, ◌≤◌, ◌&&◌, true, false, cond, eqb, leb, List, length, take, drop, get_or, length-drop, sym, ap, ◌∙◌, inl, inr, arith}
use Rattle.std.specs.List.{prefix_len}
use Rattle.std.proofs.lemmas.Bool.{and_parts, cases_Bool, cases_lt, eq-eqb, eqb-true, leb-true, true≢false}
use Rattle.std.proofs.lemmas.List.{get_or-take, length-take-le, take-append-drop, take-take, take_all}
use Rattle.std.proofs.lemmas.List.Folds.{length-prefix_len, prefix_len-append}
use Rattle.std.proofs.lemmas.List.Sums.{prefix_len-le-length}
use Rattle.rmt_bits.specs.Digits.{is_digit, number_of_digits}
use Rattle.rmt_packets.specs.PacketText.{begins_with_port, frame_digits, packet_of, port_digits}
use Rattle.rmt_packets.specs.Pieces.{front_of, front_size}
use Rattle.rmt_packets.proofs.Packet.{form_fault, length_fault, port_fault}
use Rattle.rmt_packets.proofs.StandsLaws.{front_size_is}

-- a port has at most ten digits
few_digits : (line : List ℕ) → begins_with_port line ≡ true → length (port_digits line) ≤ 10
few_digits line b =
    let n = length (port_digits line) in
    let both = and_parts (leb 1 n && leb n 10) (eqb (get_or line n 0) 32) b in
    leb-true n 10 (and_parts (leb 1 n) (leb n 10) both.0).1

too_many : (line : List ℕ) → 10 < length (port_digits line) → begins_with_port line ≡ false
too_many line many = elim (cases_Bool (begins_with_port line)) [ inl e ↦ absurd (omega (arith, few_digits line e)) | inr e ↦ e ]

-- a front with the same digits before its frame, both with too many bytes behind them
same_digits : (n : ℕ) (line : List ℕ) → 18443 < n → n < length line → prefix_len is_digit line ≡ prefix_len is_digit (take n line) → prefix_len is_digit (take n line) < n
    → packet_of (take n line) ≡ packet_of line
same_digits n line large longer digits inside =
    let front = take n line in
    let whole : length front ≡ n = length-take-le n line (omega arith) in
    let few : length (port_digits line) ≡ prefix_len is_digit line = length-prefix_len is_digit line in
    let same : port_digits front ≡ port_digits line =
    take-take (prefix_len is_digit front) n line (omega arith) ∙ ap (λ k. take k line) (sym digits) in
    let count = length (port_digits line) in
    let b : begins_with_port front ≡ begins_with_port line =
    ap (λ k. leb 1 k && leb k 10 && eqb (get_or front k 0) 32) (ap length same)
    ∙ ap (λ x. leb 1 count && leb count 10 && eqb x 32) (get_or-take n line count 0 (omega arith)) in
    let port : number_of_digits 10 (port_digits front) ≡ number_of_digits 10 (port_digits line) = ap (number_of_digits 10) same in
    elim (cases_Bool (begins_with_port line)) [
      | inr other ↦ form_fault front (b ∙ other) ∙ sym (form_fault line other)
      | inl is ↦
          let ten = few_digits line is in
          let here : 18432 < length (frame_digits front) = omega (arith, length-drop (length (port_digits front) + 1) front, ap length same) in
          let there : 18432 < length (frame_digits line) = omega (arith, length-drop (count + 1) line) in
          elim (cases_lt 511 (number_of_digits 10 (port_digits line))) [
            | inl above ↦ port_fault front (b ∙ is) (omega arith) ∙ sym (port_fault line is above)
            | inr within ↦ length_fault front (b ∙ is) (omega arith) here ∙ sym (length_fault line is within there)
          ]
    ]

cut : (n : ℕ) (line : List ℕ) → 18443 < n → n < length line → packet_of (take n line) ≡ packet_of line
cut n line large longer =
    let front = take n line in
    let whole : length front ≡ n = length-take-le n line (omega arith) in
    let digits : prefix_len is_digit line ≡ cond (eqb (prefix_len is_digit front) (length front)) (length front + prefix_len is_digit (drop n line)) (prefix_len is_digit front) =
    ap (prefix_len is_digit) (sym (take-append-drop n line)) ∙ prefix_len-append is_digit front (drop n line) in
    elim (cases_Bool (eqb (prefix_len is_digit front) (length front))) [
      | inl e ↦
          let all : prefix_len is_digit front ≡ length front = eqb-true (prefix_len is_digit front) (length front) e in
          let more : prefix_len is_digit line ≡ length front + prefix_len is_digit (drop n line) = rw e at digits in
          form_fault front (too_many front (omega (arith, length-prefix_len is_digit front))) ∙ sym (form_fault line (too_many line (omega (arith, length-prefix_len is_digit line))))
      | inr e ↦
          let same : prefix_len is_digit line ≡ prefix_len is_digit front = rw e at digits in
          let le = prefix_len-le-length is_digit front in
          let inside : prefix_len is_digit front < n =
          elim (cases_lt (prefix_len is_digit front) n) [
            | inl lt ↦ lt
            | inr ge ↦ absurd (true≢false (sym (eq-eqb (prefix_len is_digit front) (length front) (omega arith)) ∙ e))
          ] in
          same_digits n line large longer same inside
    ]

pub packet_of_front : (line : List ℕ) → packet_of (front_of line) ≡ packet_of line
packet_of_front line =
    elim (cases_lt front_size (length line)) [
      | inl lt ↦ cut front_size line (omega (arith, front_size_is)) lt
      | inr ge ↦ ap packet_of (take_all front_size line ge)
    ]
