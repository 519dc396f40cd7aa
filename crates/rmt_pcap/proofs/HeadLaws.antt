-- Laws of the head of a file.
use Rattle.std.proofs.Common.{◌≡◌, ℕ, ◌≤◌, Bool, true, false, cond, eqb, ltb, ◌&&◌, List, ◌++◌, length, take, drop, sym, ap, ◌∙◌, arith, Some, None}
use Rattle.std.proofs.lemmas.Bool.{le-ltb, cond-false}
use Rattle.std.proofs.lemmas.List.{length-append, length-take-le, take-append-drop}
use Rattle.rmt_pcap.specs.Captures.{IsHead, field, is_magic, is_version, order_of}
use Rattle.rmt_pcap.proofs.FieldLaws.{field_front}

-- the order of a file is that of its head
pub order_by_head : (head back : List ℕ) → length head ≡ 24 → order_of (head ++ back) ≡ order_of head
order_by_head head back size =
    let l = length-append head back in
    let one : ltb (length (head ++ back)) 4 ≡ false = le-ltb (length (head ++ back)) 4 (omega arith) in
    let two : ltb (length head) 4 ≡ false = le-ltb (length head) 4 (omega arith) in
    let orders : ℕ → ℕ → _ = λ (m n : ℕ). cond (is_magic m) (Some true) (cond (is_magic n) (Some false) None) in
    cond-false (ltb (length (head ++ back)) 4) _ _ one
    ∙ ap (λ m. orders m (field false 0 4 (head ++ back))) (field_front true 0 4 head back (omega arith))
    ∙ ap (λ n. orders (field true 0 4 head) n) (field_front false 0 4 head back (omega arith))
    ∙ sym (cond-false (ltb (length head) 4) _ _ two)

-- and so is its version
pub version_by_head : (big : Bool) (head back : List ℕ) → length head ≡ 24 → is_version big (head ++ back) ≡ is_version big head
version_by_head big head back size =
    ap (λ m. eqb m 2 && eqb (field big 6 2 (head ++ back)) 4) (field_front big 4 2 head back (omega arith))
    ∙ ap (λ n. eqb (field big 4 2 head) 2 && eqb n 4) (field_front big 6 2 head back (omega arith))

-- the first 24 bytes of a file that is read are a head
pub head_of_file : (big : Bool) (file : List ℕ) → 24 ≤ length file → order_of file ≡ Some big → is_version big file ≡ true → IsHead big (take 24 file)
head_of_file big file long order version =
    let size : length (take 24 file) ≡ 24 = length-take-le 24 file long in
    let same : take 24 file ++ drop 24 file ≡ file = take-append-drop 24 file in
    record {
      size = size;
      magic = sym (order_by_head (take 24 file) (drop 24 file) size) ∙ ap order_of same ∙ order;
      version = sym (version_by_head big (take 24 file) (drop 24 file) size) ∙ ap (is_version big) same ∙ version;
    }
