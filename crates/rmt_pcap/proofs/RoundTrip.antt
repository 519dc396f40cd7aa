-- What is written reads back.
use Rattle.std.proofs.Common.{◌≡◌, ℕ, ◌+◌, ◌-◌, ◌^◌, ◌<◌, ◌≤◌, Bool, true, false, ltb, leb, List, [], ◌∷◌, ◌++◌, length, take, drop, map, refl, sym, ap, ◌∙◌, arith, Some, Ok}
use Rattle.std.specs.Prelude.{All}
use Rattle.std.specs.List.{flat_map}
use Rattle.std.proofs.lemmas.Bool.{and_from, le-leb, le-ltb, cond-true, cond-false}
use Rattle.std.proofs.lemmas.List.Elements.{All-head, All-tail}
use Rattle.std.proofs.lemmas.List.{append_assoc, drop-drop, length-drop, length-take-le, length-append, length-reverse, reverse-reverse, take_at, drop_at}
use Rattle.rmt_bits.specs.Bits.{number_of, bytes_of}
use Rattle.rmt_bits.proofs.ByteLaws.{number_of-bytes_of}
use Rattle.rmt_pcap.specs.declared.capture.Record.{Record}
use Rattle.rmt_pcap.specs.Captures.{IsHead, Said, capture_of, capture_in, capture_with, captured_len, in_order, is_kept, is_version, order_of, record_at, said_from}
use Rattle.rmt_pcap.specs.Written.{four_bytes, record_text}
use Rattle.rmt_pcap.specs.RoundTrip.{IsReadable, ReadBack, frame_of}
use Rattle.rmt_pcap.proofs.HeadLaws.{order_by_head, version_by_head}
use Rattle.rmt_pcap.proofs.RecordLaws.{WholeFirst, said_whole}

-- ---- bytes in either order

-- turned twice they are as they were
turned_twice : (big : Bool) (bytes : List ℕ) → in_order big (in_order big bytes) ≡ bytes
turned_twice true bytes = refl
turned_twice false bytes = reverse-reverse bytes

-- and turned once they are as many
size_in_order : (big : Bool) (bytes : List ℕ) → length (in_order big bytes) ≡ length bytes
size_in_order true bytes = refl
size_in_order false bytes = length-reverse bytes

-- ---- the parts of a record

-- bytes that begin with a record of these parts
pub record Parts (time len frame rest text : List ℕ) : Type 0 where
  pub size : length text ≡ 16 + length frame + length rest
  pub time_first : take 8 text ≡ time
  pub len_next : take 4 (drop 8 text) ≡ len
  pub frame_next : drop 16 text ≡ frame ++ rest
  pub rest_last : drop (16 + length frame) text ≡ rest

parts : (time len frame rest : List ℕ) → length time ≡ 8 → length len ≡ 4 → Parts time len frame rest (time ++ (len ++ (len ++ frame)) ++ rest)
parts time len frame rest eight four =
    let text = time ++ (len ++ (len ++ frame)) ++ rest in
    let flat : text ≡ time ++ (len ++ (len ++ (frame ++ rest))) = simp append_assoc in
    let one : drop 8 text ≡ len ++ (len ++ (frame ++ rest)) = ap (drop 8) flat ∙ drop_at time (len ++ (len ++ (frame ++ rest))) 8 eight in
    let two : drop 12 text ≡ len ++ (frame ++ rest) = sym (drop-drop 4 8 text) ∙ ap (drop 4) one ∙ drop_at len (len ++ (frame ++ rest)) 4 four in
    let three : drop 16 text ≡ frame ++ rest = sym (drop-drop 4 12 text) ∙ ap (drop 4) two ∙ drop_at len (frame ++ rest) 4 four in
    let la = length-append frame rest in
    let lb = length-append len (frame ++ rest) in
    let lc = length-append len (len ++ (frame ++ rest)) in
    let ld = length-append time (len ++ (len ++ (frame ++ rest))) in
    record {
      size = ap length flat ∙ (let e : length (time ++ (len ++ (len ++ (frame ++ rest)))) ≡ 16 + length frame + length rest = omega (arith, la, lb, lc, ld) in e);
      time_first = ap (take 8) flat ∙ take_at time (len ++ (len ++ (frame ++ rest))) 8 eight;
      len_next = ap (take 4) one ∙ take_at len (len ++ (frame ++ rest)) 4 four;
      frame_next = three;
      rest_last = sym (drop-drop (length frame) 16 text) ∙ ap (drop (length frame)) three ∙ drop_at frame rest (length frame) refl;
    }

-- the record of an item, and bytes behind it
item_parts : (big : Bool) (item rest : List ℕ) → 8 ≤ length item → Parts (take 8 item) (four_bytes big (length item - 8)) (drop 8 item) rest (record_text big item ++ rest)
item_parts big item rest long =
    parts (take 8 item) (four_bytes big (length item - 8)) (drop 8 item) rest (length-take-le 8 item long) (size_in_order big (bytes_of 4 (length item - 8)))

-- a record is whole where its length is that of its frame
whole_by_parts : (big : Bool) (n : ℕ) (time frame rest text : List ℕ) → Parts time (four_bytes big n) frame rest text → length frame ≡ n → n < 2 ^ 32 → WholeFirst big text n
whole_by_parts big n time frame rest text p len small =
    let told : captured_len big text ≡ n =
    ap (λ (ys : List ℕ). number_of (in_order big ys)) p.len_next ∙ ap number_of (turned_twice big (bytes_of 4 n)) ∙ number_of-bytes_of 4 n small in
    let size = p.size in
    record {
      whole = and_from (leb 16 (length text)) (leb (16 + captured_len big text) (length text)) (le-leb 16 (length text) (omega arith)) (le-leb (16 + captured_len big text) (length text) (omega arith));
      len_is = told;
    }

-- ---- the records of items

-- the records of items whose file stands from a place on
records_of : ℕ → List (List ℕ) → List Record
records_of at [] = []
records_of at (item ∷ items) = record { time = take 8 item; from = at + 16; len = length item - 8 } ∷ records_of (at + (16 + (length item - 8))) items

kept : (n : ℕ) → 1 ≤ n → n ≤ 9216 → is_kept n ≡ true
kept n some few = and_from (leb 1 n) (leb n 9216) (le-leb 1 n some) (le-leb n 9216 few)

said_items : (big : Bool) (at : ℕ) (items : List (List ℕ)) → All IsReadable items
    → said_from big at 0 (flat_map (record_text big) items) ≡ record { records = records_of at items; skipped = 0 }
unfolding records_of
said_items big at [] h = refl
said_items big at (item ∷ items) h =
    let readable = All-head IsReadable item items h in
    let long : 9 ≤ length item = readable.0 in
    let few : length item ≤ 9224 = readable.1 in
    let n = length item - 8 in
    let rest = flat_map (record_text big) items in
    let text = record_text big item ++ rest in
    let p = item_parts big item rest (omega arith) in
    let frame_len : length (drop 8 item) ≡ n = length-drop 8 item in
    let w = whole_by_parts big n (take 8 item) (drop 8 item) rest text p frame_len (omega arith) in
    let behind : drop (16 + n) text ≡ rest = ap (λ k. drop (16 + k) text) (sym frame_len) ∙ p.rest_last in
    said_whole big at n text w
    ∙ cond-true (is_kept n) _ _ (kept n (omega arith) (omega arith))
    ∙ ap (λ (ys : List ℕ). let s = said_from big (at + (16 + n)) 0 ys in record { records = record_at at text n ∷ s.records; skipped = s.skipped }) behind
    ∙ ap (λ (s : Said). record { records = record_at at text n ∷ s.records; skipped = s.skipped }) (said_items big (at + (16 + n)) items (All-tail IsReadable item items h))
    ∙ ap (λ (t : List ℕ). record { records = record { time = t; from = at + 16; len = n } ∷ records_of (at + (16 + n)) items; skipped = 0 }) p.time_first

times_of : (at : ℕ) (items : List (List ℕ)) → map (λ (r : Record). r.time) (records_of at items) ≡ map (take 8) items
unfolding records_of
times_of at [] = refl
times_of at (item ∷ items) = ap (λ (ts : List (List ℕ)). take 8 item ∷ ts) (times_of (at + (16 + (length item - 8))) items)

frames_of : (big : Bool) (front : List ℕ) (items : List (List ℕ)) → All IsReadable items
    → map (frame_of (front ++ flat_map (record_text big) items)) (records_of (length front) items) ≡ map (drop 8) items
unfolding records_of
frames_of big front [] h = refl
frames_of big front (item ∷ items) h =
    let long : 9 ≤ length item = (All-head IsReadable item items h).0 in
    let n = length item - 8 in
    let at = length front in
    let rest = flat_map (record_text big) items in
    let text = record_text big item ++ rest in
    let file = front ++ text in
    let p = item_parts big item rest (omega arith) in
    let frame_len : length (drop 8 item) ≡ n = length-drop 8 item in
    let from : drop (at + 16) file ≡ drop 8 item ++ rest = sym (drop-drop 16 at file) ∙ ap (drop 16) (drop_at front text at refl) ∙ p.frame_next in
    let count : at + 16 + n - (at + 16) ≡ n = omega arith in
    let here : take (at + 16 + n - (at + 16)) (drop (at + 16) file) ≡ drop 8 item =
    ap (λ k. take k (drop (at + 16) file)) count ∙ ap (take n) from ∙ take_at (drop 8 item) rest n frame_len in
    let size : length (front ++ record_text big item) ≡ at + (16 + n) =
    length-append front (record_text big item) ∙ (let one = (item_parts big item [] (omega arith)).size in let e : at + length (record_text big item) ≡ at + (16 + n) = omega (arith, one, length-append (record_text big item) []) in e) in
    let same : front ++ record_text big item ++ rest ≡ file = append_assoc front (record_text big item) rest in
    let others : map (frame_of file) (records_of (at + (16 + n)) items) ≡ map (drop 8) items =
    sym (ap (λ (ys : List ℕ). map (frame_of ys) (records_of (at + (16 + n)) items)) same)
    ∙ sym (ap (λ k. map (frame_of (front ++ record_text big item ++ rest)) (records_of k items)) size)
    ∙ frames_of big (front ++ record_text big item) items (All-tail IsReadable item items h) in
    ap (λ (f : List ℕ). f ∷ map (frame_of file) (records_of (at + (16 + n)) items)) here ∙ ap (λ (fs : List (List ℕ)). drop 8 item ∷ fs) others

-- ---- the file

-- a file with a head is read
read_head : (big : Bool) (head back : List ℕ) → IsHead big head → capture_of (head ++ back) ≡ Ok (record { head = head; big = big; records = (said_from big 24 0 back).records; skipped = (said_from big 24 0 back).skipped })
read_head big head back h =
    let file = head ++ back in
    let size = h.size in
    let l = length-append head back in
    let order : order_of file ≡ Some big = order_by_head head back size ∙ h.magic in
    let long : ltb (length file) 24 ≡ false = le-ltb (length file) 24 (omega arith) in
    let version : is_version big file ≡ true = version_by_head big head back size ∙ h.version in
    ap (capture_in file) order
    ∙ cond-false (ltb (length file) 24) _ _ long
    ∙ cond-true (is_version big file) _ _ version
    ∙ ap (λ (ys : List ℕ). Ok (capture_with big file (said_from big 24 0 ys))) (drop_at head back 24 size)
    ∙ ap (λ (ys : List ℕ). Ok (record { head = ys; big = big; records = (said_from big 24 0 back).records; skipped = (said_from big 24 0 back).skipped })) (take_at head back 24 size)

pub read_back : ReadBack
read_back head big items h each =
    let back = flat_map (record_text big) items in
    let said = said_items big 24 items each in
    let size = h.size in (
      record { head = head; big = big; records = records_of 24 items; skipped = 0 },
      record {
        reads = read_head big head back h ∙ ap (λ (s : Said). Ok (record { head = head; big = big; records = s.records; skipped = s.skipped })) said;
        same_head = refl;
        same_order = refl;
        times = times_of 24 items;
        frames = sym (ap (λ k. map (frame_of (head ++ back)) (records_of k items)) size) ∙ frames_of big head items each;
        skipped = refl;
      },
    )
