-- The readers of an image's items and their spellings: those of choices and of numbers.
use Rattle.std.proofs.Common.{◌≡◌, ℕ, suc, ◌+◌, ◌*◌, ◌^◌, ◌<◌, ◌≤◌, Bool, true, false, cond, leb, eqb, List, [], ◌∷◌, ◌++◌, length, map, Ok, refl, sym, ap, ◌∙◌, arith, inl, inr, ◌⊎◌}
use Rattle.std.specs.Prelude.{All}
use Rattle.std.specs.List.{flat_map, list_all}
use Rattle.std.proofs.lemmas.Bool.{eqb-true, eq-eqb, ne_eqb, and_parts}
use Rattle.std.proofs.lemmas.List.Sums.{AllPass-from_list_all}
use Rattle.rmt_bits.specs.Bits.{bytes_of}
use Rattle.rmt_bits.proofs.ByteLaws.{AreBytes, AreBytes-rest}
use Rattle.rmt_config.specs.Order.{rises_from}
use Rattle.rmt_config.specs.Spelling.{two_bytes, four_bytes}
use Rattle.rmt_items.specs.declared.fault.ReadFault.TheVariants.{Short, Form}
use Rattle.rmt_items.specs.Readers.{Reader, made, kept, where_, when, no_other, chosen, list_at, byte_at, number_at, fours_at}
use Rattle.rmt_items.specs.ReadingNames.{bytes_at}
use Rattle.rmt_bits.proofs.CodecLaws as bits
use Rattle.rmt_bits.proofs.CodecLaws.{bind_ok, test_ok, Took, took, codec_all}
pub use Rattle.rmt_bits.proofs.CodecLaws.{Codec, codec_as, codec_for, codec_behind, codec_made, codec_made_known, codec_give, AllAlong, codec_items, codec_listed, codec_each}

-- an item that passes a test
pub codec_kept : {A : Type 0} (test : A → Bool) {read : Reader A} {spell : A → List ℕ} {P R : A → Type 0} → Codec read spell P R
    → Codec (kept test read) spell (λ x. P x × (test x ≡ true)) (λ x. R x × (test x ≡ true))
codec_kept test c = bits.codec_kept Form test c

-- an item where a test of what stands before it is passed
pub codec_where : {A : Type 0} (test : Bool) {read : Reader A} {spell : A → List ℕ} {P R : A → Type 0} → Codec read spell P R → Codec (where_ test read) spell (λ x. (test ≡ true) × P x) (λ x. (test ≡ true) × R x)
codec_where {A} test {read} {spell} {P} {R} c = record {
  takes = λ bytes x rest fits e.
      let g = test_ok test Form (read bytes) (x, rest) e in
      let t = c.takes bytes x rest fits g.1 in
      record { parts = t.parts; rest_fits = t.rest_fits; fact = (g.0, t.fact) };
  again = λ x rest p. rw p.0 (c.again x rest p.1);
}

-- ---- choices

-- choices of bytes from `least` on: what is read behind one is spelled so with the byte before it
pub record Choices {A : Type 0} (choices : ℕ → Reader A) (spell : A → List ℕ) (P : A → Type 0) (least : ℕ) : Type 0 where
  pub takes : (k : ℕ) (bytes : List ℕ) (x : A) (rest : List ℕ) → AreBytes bytes → choices k bytes ≡ Ok (x, rest) → Took (k ∷ bytes) (spell x) rest (Unit {0})
  pub again : (x : A) (rest : List ℕ) → P x → (k : ℕ) × (text : List ℕ) × (least ≤ k) × (spell x ≡ k ∷ text) × (choices k (text ++ rest) ≡ Ok (x, rest))

pub choices_none : {A : Type 0} (spell : A → List ℕ) (least : ℕ) → Choices no_other spell (λ _. ⊥) least
choices_none spell least = record { takes = λ k bytes x rest fits e. absurd cc; again = λ x rest p. absurd p }

-- what stands behind the byte k, made into what is chosen, or one of the others, which are above k
pub choices_when : {A B : Type 0} (k : ℕ) (f : A → B) {read : Reader A} {s : A → List ℕ} {P R : A → Type 0} {others : ℕ → Reader B} {spell : B → List ℕ} {Q : B → Type 0}
    → Codec read s P R → Choices others spell Q (suc k) → ((a : A) → k ∷ s a ≡ spell (f a)) → (K : B → Type 0) → ((b : B) → K b → ((a : A) × (f a ≡ b) × P a) ⊎ Q b)
    → Choices (when k (made f read) others) spell K k
choices_when {A} {B} k f {read} {s} {P} {R} {others} {spell} {Q} c others_codec same K which = record {
  takes = λ n bytes x rest fits e. taken n bytes x rest fits (eqb n k) refl e;
  again = λ x rest p. elim (which x p) [
    | inl one ↦ this x rest one
    | inr other ↦ that x rest other
  ];
}
  where
    taken : (n : ℕ) (bytes : List ℕ) (x : B) (rest : List ℕ) → AreBytes bytes → (b : Bool) → eqb n k ≡ b → cond b (made f read bytes) (others n bytes) ≡ Ok (x, rest) → Took (n ∷ bytes) (spell x) rest (Unit {0})
    taken n bytes x rest fits true is e =
        let a = bind_ok (read bytes) (λ (y : A × List ℕ). Ok (f y.0, y.1)) (x, rest) e in
        let t = c.takes bytes a.0.0 a.0.1 fits a.1 in
        took spell (λ _. Unit {0}) (n ∷ bytes) (f a.0.0) a.0.1 x rest a.2
        (record {
          parts = ap (λ (m : ℕ). m ∷ bytes) (eqb-true n k is) ∙ ap (λ (text : List ℕ). k ∷ text) t.parts ∙ ap (λ (text : List ℕ). text ++ a.0.1) (same a.0.0);
          rest_fits = t.rest_fits;
          fact = tt;
        })
    taken n bytes x rest fits false is e = others_codec.takes n bytes x rest fits e

    this : (x : B) (rest : List ℕ) → (a : A) × (f a ≡ x) × P a → (n : ℕ) × (text : List ℕ) × (k ≤ n) × (spell x ≡ n ∷ text) × (when k (made f read) others n (text ++ rest) ≡ Ok (x, rest))
    this x rest one =
        let read_again = c.again one.0 rest one.2 in (
          k,
          s one.0,
          omega arith,
          ap spell (sym one.1) ∙ sym (same one.0),
          ap (λ (b : Bool). cond b (made f read (s one.0 ++ rest)) (others k (s one.0 ++ rest))) (eq-eqb k k refl) ∙ rw read_again (ap (λ (y : B). Ok (y, rest)) one.1),
        )

    that : (x : B) (rest : List ℕ) → Q x → (n : ℕ) × (text : List ℕ) × (k ≤ n) × (spell x ≡ n ∷ text) × (when k (made f read) others n (text ++ rest) ≡ Ok (x, rest))
    that x rest other =
        let o = others_codec.again x rest other in
        let apart : eqb o.0 k ≡ false = ne_eqb o.0 k (λ e. absurd (omega (arith, e, o.2))) in
        (o.0, o.1, omega (arith, o.2), o.3, ap (λ (b : Bool). cond b (made f read (o.1 ++ rest)) (others o.0 (o.1 ++ rest))) apart ∙ o.4)

pub codec_chosen : {A : Type 0} {choices : ℕ → Reader A} {spell : A → List ℕ} {P : A → Type 0} {least : ℕ} → Choices choices spell P least → Codec (chosen choices) spell P (λ _. Unit {0})
codec_chosen {A} {choices} {spell} {P} c = record { takes = taken; again = again }
  where
    taken : (bytes : List ℕ) (x : A) (rest : List ℕ) → AreBytes bytes → chosen choices bytes ≡ Ok (x, rest) → Took bytes (spell x) rest (Unit {0})
    taken [] x rest fits e = absurd cc
    taken (k ∷ bytes) x rest fits e = c.takes k bytes x rest (AreBytes-rest k bytes fits) e

    again : (x : A) (rest : List ℕ) → P x → chosen choices (spell x ++ rest) ≡ Ok (x, rest)
    again x rest p = let o = c.again x rest p in ap (λ (text : List ℕ). chosen choices (text ++ rest)) o.3 ∙ o.4

-- ---- numbers

pub byte_codec : Codec byte_at (λ n. n ∷ []) (λ _. Unit {0}) (λ n. n < 2 ^ 8)
unfolding byte_at
byte_codec = bits.codec_byte Short

-- that many bytes, as they stand
pub bytes_codec : (n : ℕ) → Codec (bytes_at n) (λ bs. bs) (λ bs. (length bs ≡ n) × Unit {0}) (λ bs. (length bs ≡ n) × AreBytes bs)
unfolding bytes_at
bytes_codec n = bits.codec_bytes Short n

pub codec_number : (n : ℕ) → Codec (number_at n) (bytes_of n) (λ x. x < 2 ^ (8 * n)) (λ x. x < 2 ^ (8 * n))
unfolding number_at
codec_number n = bits.codec_number Short n

pub two_codec : Codec (number_at 2) two_bytes (λ n. n < 2 ^ 16) (λ n. n < 2 ^ 16)
two_codec = codec_number 2

pub four_codec : Codec (number_at 4) four_bytes (λ n. n < 2 ^ 32) (λ n. n < 2 ^ 32)
four_codec = codec_number 4

-- two numbers of four bytes
pub fours_codec : Codec fours_at (λ x. four_bytes x.0 ++ four_bytes x.1) (λ x. (x.0 < 2 ^ 32) × (x.1 < 2 ^ 32)) (λ x. (x.0 < 2 ^ 32) × (x.1 < 2 ^ 32))
unfolding fours_at
fours_codec = codec_behind four_codec (λ _. four_codec)

-- ---- lists

-- items of which each passes a test
pub codec_list : {A : Type 0} (test : A → Bool) {read : Reader A} {spell : A → List ℕ} {R : A → Type 0} → Codec read spell (λ x. test x ≡ true) R → (n : ℕ)
    → Codec (list_at read n) (flat_map spell) (λ xs. (length xs ≡ n) × (list_all test xs ≡ true)) (λ xs. (length xs ≡ n) × All R xs)
codec_list {A} test {read} {spell} {R} c n =
    codec_as (codec_all c n) (flat_map spell) (λ xs. (length xs ≡ n) × (list_all test xs ≡ true)) (λ xs. (length xs ≡ n) × All R xs)
    (λ _. refl) (λ xs p. (p.0, AllPass-from_list_all test xs p.1)) (λ xs r. r)

-- numbers that stand by themselves
pub alone : (ns : List ℕ) → flat_map (λ n. n ∷ []) ns ≡ ns
alone [] = refl
alone (n ∷ ns) = ap (λ (ms : List ℕ). n ∷ ms) (alone ns)

-- items that rise by a number of theirs
pub rising_along : {A : Type 0} (test : A → Bool) (number : A → ℕ) (least : ℕ) (xs : List A) → list_all test xs ≡ true → rises_from least (map number xs) ≡ true
    → AllAlong (λ least x. (test x ≡ true) × (leb least (number x) ≡ true)) (λ x. number x + 1) least xs
rising_along test number least [] each order = tt
rising_along test number least (x ∷ xs) each order =
    let p = and_parts (test x) (list_all test xs) each in
    let q = and_parts (leb least (number x)) (rises_from (number x + 1) (map number xs)) order in
    ((p.0, q.0), rising_along test number (number x + 1) xs p.1 q.1)
