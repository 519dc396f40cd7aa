-- How many records a capture has.
use Rattle.std.proofs.Common.{◌≡◌, ℕ, zero, suc, ◌+◌, ◌≤◌, List, [], ◌∷◌, Bool, cond, true, false, length, drop, Option, Some, None, Result, Ok, Err, ap, arith}
use Rattle.std.specs.Prelude.{nat_lt}
use Rattle.std.proofs.lemmas.List.{length-drop}
use Rattle.rmt_pcap.specs.declared.capture.Capture.{Capture}
use Rattle.rmt_pcap.specs.Captures.{Said, before, capture_in, capture_of, capture_with, captured_len, is_kept, is_version, is_whole, order_of, record_at, said_from}

before_few : (at : ℕ) (bytes : List ℕ) (len : ℕ) (rest : Said) → length (before at bytes len rest).records ≤ length rest.records + 1
before_few at bytes len rest = tested (is_kept len)
  where
    tested : (b : Bool) → length (cond b (let s : Said = record { records = record_at at bytes len ∷ rest.records; skipped = rest.skipped } in s) (record { records = rest.records; skipped = rest.skipped + 1 })).records
        ≤ length rest.records + 1
    tested true = omega arith
    tested false = omega arith

whole_few : (w : Bool) (at : ℕ) (bytes : List ℕ) (len : ℕ) (others : Said) → length others.records + 1 ≤ length bytes
    → length (cond w (before at bytes len others) (record { records = []; skipped = 1 })).records ≤ length bytes
whole_few true at bytes len others few = let one = before_few at bytes len others in omega (arith, few, one)
whole_few false at bytes len others few = omega (arith, few)

-- each record takes a byte and more
said_few : (big : Bool) (at left : ℕ) (bytes : List ℕ) → length (said_from big at left bytes).records ≤ length bytes
said_few big at left [] = omega arith
said_few big at (suc left) (b ∷ bytes) = let rest = said_few big (at + 1) left bytes in omega (arith, rest)
said_few big at zero (b ∷ bytes) =
    let len = captured_len big (b ∷ bytes) in
    let rest = said_few big (at + 1) (15 + len) bytes in
    whole_few (is_whole big (b ∷ bytes)) at (b ∷ bytes) len (said_from big (at + 1) (15 + len) bytes) (omega (arith, rest))

pub few_records : (file : List ℕ) (capture : Capture) → capture_of file ≡ Ok capture → length capture.records ≤ length file
few_records file capture e = in_order (order_of file) e
  where
    in_order : (o : Option Bool) → capture_in file o ≡ Ok capture → length capture.records ≤ length file
    in_order None h = absurd (cc)
    in_order (Some big) h = head (nat_lt (length file) 24) h
      where
        all : Said
        all = said_from big 24 0 (drop 24 file)

        ok : Bool → Result Capture ℕ
        ok big = Ok (capture_with big file all)

        fault : ℕ → Result Capture ℕ
        fault code = Err code

        records_in : Result Capture ℕ → ℕ
        records_in (Ok c) = length c.records
        records_in (Err code) = 0

        version : (b : Bool) → cond b (ok big) (fault 12) ≡ Ok capture → length capture.records ≤ length file
        version true h =
            let same : length all.records ≡ length capture.records = ap records_in h in
            let few = said_few big 24 0 (drop 24 file) in
            let left = length-drop 24 file in
            omega (arith, same, few, left)
        version false h = absurd (cc)

        head : (b : Bool) → cond b (fault 13) (cond (is_version big file) (ok big) (fault 12)) ≡ Ok capture → length capture.records ≤ length file
        head true h = absurd (cc)
        head false h = version (is_version big file) h
