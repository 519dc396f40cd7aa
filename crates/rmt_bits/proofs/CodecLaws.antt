-- A reader and a spelling that undo each other, and how such pairs are joined: what is read is spelled so, and what is spelled so is read.
use Rattle.std.proofs.Common.{◌≡◌, ℕ, zero, suc, ◌*◌, ◌^◌, ◌<◌, ◌≤◌, Bool, true, false, cond, ltb, List, [], ◌∷◌, ◌++◌, length, take, drop, Result, Ok, Err, refl, sym, ap, subst, ◌∙◌, append_assoc, arith}
use Rattle.std.specs.Prelude.{All}
use Rattle.std.specs.List.{flat_map, AllZip}
use Rattle.std.proofs.lemmas.Bool.{ltb-false, le-ltb}
use Rattle.std.proofs.lemmas.List.{take_at, drop_at, take-append-drop, length-append, length-take}
use Rattle.std.proofs.lemmas.List.Elements.{All-nil, All-cons, All-head, All-tail}
use Rattle.rmt_bits.specs.Bits.{number_of, bytes_of}
use Rattle.rmt_bits.specs.Readers.{◌>>=◌, Reader, give, behind, made, kept, items_at, list_at, each, listed, byte_at, bytes_at, number_at}
use Rattle.rmt_bits.proofs.ByteLaws.{AreBytes, AreBytes-drop, AreBytes-rest, AreBytes-take, bytes_of-number_of, length-bytes_of, number_of-bytes_of, number_of-lt}
use Rattle.rmt_bits.proofs.ListLaws.{text_behind}

-- the value of a step that did not fail
pub bind_ok : {F A B : Type 0} (r : Result A F) (f : A → Result B F) (y : B) → (r >>= f) ≡ Ok y → (x : A) × (r ≡ Ok x) × (f x ≡ Ok y)
bind_ok (Ok x) f y e = (x, refl, e)
bind_ok (Err d) f y e = absurd cc

-- a test that was passed, and one that was not
pub test_ok : {F A : Type 0} (b : Bool) (d : F) (r : Result A F) (y : A) → cond b r (Err d) ≡ Ok y → (b ≡ true) × (r ≡ Ok y)
test_ok true d r y e = (refl, e)
test_ok false d r y e = absurd cc

guard_ok : {F A : Type 0} (b : Bool) (d : F) (r : Result A F) (y : A) → cond b (Err d) r ≡ Ok y → (b ≡ false) × (r ≡ Ok y)
guard_ok true d r y e = absurd cc
guard_ok false d r y e = (refl, e)

abbrev done : {F A : Type 0} → A → Result A F
done x = Ok x

pub ok_is : {F A : Type 0} (x y : A) → done {F = F} x ≡ done y → x ≡ y
ok_is x y e = cc

-- what a reader took from the front, and what is then known
pub record Took (bytes text rest : List ℕ) (known : Type 0) : Type 0 where
  pub parts : bytes ≡ text ++ rest
  pub rest_fits : AreBytes rest
  pub fact : known

pub record Codec {F A : Type 0} (read : Reader F A) (spell : A → List ℕ) (P R : A → Type 0) : Type 0 where
  pub takes : (bytes : List ℕ) (x : A) (rest : List ℕ) → AreBytes bytes → read bytes ≡ Ok (x, rest) → Took bytes (spell x) rest (R x)
  pub again : (x : A) (rest : List ℕ) → P x → read (spell x ++ rest) ≡ Ok (x, rest)

-- what was taken, as the item and the rest that were read
pub took : {F A : Type 0} (spell : A → List ℕ) (R : A → Type 0) (bytes : List ℕ) (y : A) (left : List ℕ) (x : A) (rest : List ℕ) → give {F = F} y left ≡ Ok (x, rest)
    → Took bytes (spell y) left (R y) → Took bytes (spell x) rest (R x)
took {F} {A} spell R bytes y left x rest e t =
    let front : A × List ℕ = (y, left) in
    subst (λ (z : A × List ℕ). Took bytes (spell z.0) z.1 (R z.0)) (ok_is {F = F} front (x, rest) e) t

-- the same with another text that is the same, for other values, and with other facts known
pub codec_as : {F A : Type 0} {read : Reader F A} {s : A → List ℕ} {P R : A → Type 0} → Codec read s P R → (t : A → List ℕ) (Q K : A → Type 0)
    → ((x : A) → s x ≡ t x) → ((x : A) → Q x → P x) → ((x : A) → R x → K x) → Codec read t Q K
codec_as {F} {A} {read} c t Q K same back known = record {
  takes = λ bytes x rest fits e.
      let k = c.takes bytes x rest fits e in
      record { parts = k.parts ∙ ap (λ (text : List ℕ). text ++ rest) (same x); rest_fits = k.rest_fits; fact = known x k.fact };
  again = λ x rest q. ap (λ (text : List ℕ). read (text ++ rest)) (sym (same x)) ∙ c.again x rest (back x q);
}

-- for fewer values, and with nothing known
pub codec_for : {F A : Type 0} {read : Reader F A} {spell : A → List ℕ} {P R : A → Type 0} → Codec read spell P R → (Q : A → Type 0) → ((x : A) → Q x → P x) → Codec read spell Q (λ _. Unit {0})
codec_for {F} {A} {read} {spell} c Q weaker = codec_as c spell Q (λ _. Unit {0}) (λ _. refl) weaker (λ _ _. tt)

-- an item that passes a test
pub codec_kept : {F A : Type 0} (fault : F) (test : A → Bool) {read : Reader F A} {spell : A → List ℕ} {P R : A → Type 0} → Codec read spell P R
    → Codec (kept fault test read) spell (λ x. P x × (test x ≡ true)) (λ x. R x × (test x ≡ true))
codec_kept {F} {A} fault test {read} {spell} {P} {R} c = record {
  takes = λ bytes x rest fits e.
      let a = bind_ok (read bytes) (λ (y : A × List ℕ). cond (test y.0) (Ok y) (Err fault)) (x, rest) e in
      let g = test_ok (test a.0.0) fault (Ok a.0) (x, rest) a.2 in
      let t = c.takes bytes a.0.0 a.0.1 fits a.1 in
      took spell (λ y. R y × (test y ≡ true)) bytes a.0.0 a.0.1 x rest g.1 (record { parts = t.parts; rest_fits = t.rest_fits; fact = (t.fact, g.0) });
  again = λ x rest p. rw (c.again x rest p.0, p.1) refl;
}

pub codec_behind : {F A B : Type 0} {first : Reader F A} {second : A → Reader F B} {s1 : A → List ℕ} {s2 : A → B → List ℕ} {Pa Ra : A → Type 0} {Pb Rb : A → B → Type 0}
    → Codec first s1 Pa Ra → ((a : A) → Codec (second a) (s2 a) (Pb a) (Rb a))
    → Codec (behind first second) (λ x. s1 x.0 ++ s2 x.0 x.1) (λ x. Pa x.0 × Pb x.0 x.1) (λ x. Ra x.0 × Rb x.0 x.1)
codec_behind {F} {A} {B} {first} {second} {s1} {s2} {Pa} {Ra} {Pb} {Rb} c d = record {
  takes = λ bytes x rest fits e.
      let a = bind_ok (first bytes) (λ (y : A × List ℕ). second y.0 y.1 >>= λ z. Ok ((y.0, z.0), z.1)) (x, rest) e in
      let b = bind_ok (second a.0.0 a.0.1) (λ (z : B × List ℕ). Ok ((a.0.0, z.0), z.1)) (x, rest) a.2 in
      let t1 = c.takes bytes a.0.0 a.0.1 fits a.1 in
      let t2 = (d a.0.0).takes a.0.1 b.0.0 b.0.1 t1.rest_fits b.1 in
      took (λ (y : A × B). s1 y.0 ++ s2 y.0 y.1) (λ y. Ra y.0 × Rb y.0 y.1) bytes (a.0.0, b.0.0) b.0.1 x rest b.2
      (record {
        parts = text_behind bytes (s1 a.0.0) (s2 a.0.0 b.0.0) a.0.1 b.0.1 t1.parts t2.parts;
        rest_fits = t2.rest_fits;
        fact = (t1.fact, t2.fact);
      });
  again = λ x rest p.
      ap (behind first second) (append_assoc (s1 x.0) (s2 x.0 x.1) rest)
      ∙ rw (c.again x.0 (s2 x.0 x.1 ++ rest) p.0, (d x.0).again x.1 rest p.1) refl;
}

-- what is made of an item
pub codec_made_known : {F A B : Type 0} (f : A → B) {read : Reader F A} {s : A → List ℕ} {P R : A → Type 0} → Codec read s P R → (spell : B → List ℕ) (Q K : B → Type 0)
    → ((a : A) → R a → (s a ≡ spell (f a)) × K (f a)) → ((b : B) → Q b → (a : A) × (f a ≡ b) × (s a ≡ spell b) × P a) → Codec (made f read) spell Q K
codec_made_known {F} {A} {B} f {read} {s} {P} {R} c spell Q K same back = record {
  takes = λ bytes x rest fits e.
      let a = bind_ok (read bytes) (λ (y : A × List ℕ). Ok (f y.0, y.1)) (x, rest) e in
      let t = c.takes bytes a.0.0 a.0.1 fits a.1 in
      let known = same a.0.0 t.fact in
      took spell K bytes (f a.0.0) a.0.1 x rest a.2 (record { parts = t.parts ∙ ap (λ (text : List ℕ). text ++ a.0.1) known.0; rest_fits = t.rest_fits; fact = known.1 });
  again = λ x rest q.
      let a = back x q in
      ap (λ (text : List ℕ). made f read (text ++ rest)) (sym a.2) ∙ rw (c.again a.0 rest a.3) (ap (λ (y : B). Ok (y, rest)) a.1);
}

pub codec_made : {F A B : Type 0} (f : A → B) {read : Reader F A} {s : A → List ℕ} {P R : A → Type 0} → Codec read s P R → (spell : B → List ℕ) (Q : B → Type 0)
    → ((a : A) → R a → s a ≡ spell (f a)) → ((b : B) → Q b → (a : A) × (f a ≡ b) × (s a ≡ spell b) × P a) → Codec (made f read) spell Q (λ _. Unit {0})
codec_made f c spell Q same back = codec_made_known f c spell Q (λ _. Unit {0}) (λ a r. (same a r, tt)) back

-- an item that takes no byte
pub codec_give : {F A : Type 0} (y : A) (spell : A → List ℕ) → spell y ≡ [] → Codec (give {F = F} y) spell (λ x. x ≡ y) (λ x. x ≡ y)
codec_give {F} {A} y spell nothing = record {
  takes = λ bytes x rest fits e. took spell (λ z. z ≡ y) bytes y bytes x rest e (record { parts = ap (λ (t : List ℕ). t ++ bytes) (sym nothing); rest_fits = fits; fact = refl });
  again = λ x rest p. rw p (ap (λ (t : List ℕ). give y (t ++ rest)) nothing);
}

-- ---- lists

-- each item keeps its fact under the least number that the one before it leaves
abbrev pub AllAlong : {A : Type 0} → (ℕ → A → Type 0) → (A → ℕ) → ℕ → List A → Type 0
AllAlong P after least [] = Unit {0}
AllAlong P after least (x ∷ xs) = P least x × AllAlong P after (after x) xs

items_take : {F A : Type 0} {read : ℕ → Reader F A} {spell : A → List ℕ} {P R : ℕ → A → Type 0} (after : A → ℕ) → ((least : ℕ) → Codec (read least) spell (P least) (R least))
    → (n least : ℕ) (bytes : List ℕ) (xs : List A) (rest : List ℕ) → AreBytes bytes → items_at read after least n bytes ≡ Ok (xs, rest)
    → Took bytes (flat_map spell xs) rest ((length xs ≡ n) × AllAlong R after least xs)
unfolding items_at
items_take {F} {A} {read} {spell} {P} {R} after c zero least bytes xs rest fits e =
    took (flat_map spell) (λ (ys : List A). (length ys ≡ 0) × AllAlong R after least ys) bytes [] bytes xs rest e (record { parts = refl; rest_fits = fits; fact = (refl, tt) })
items_take {F} {A} {read} {spell} {P} {R} after c (suc n) least bytes xs rest fits e =
    let a = bind_ok (read least bytes) (λ (y : A × List ℕ). items_at read after (after y.0) n y.1 >>= λ ys. Ok (y.0 ∷ ys.0, ys.1)) (xs, rest) e in
    let b = bind_ok (items_at read after (after a.0.0) n a.0.1) (λ (ys : List A × List ℕ). Ok (a.0.0 ∷ ys.0, ys.1)) (xs, rest) a.2 in
    let t1 = (c least).takes bytes a.0.0 a.0.1 fits a.1 in
    let t2 = items_take after c n (after a.0.0) a.0.1 b.0.0 b.0.1 t1.rest_fits b.1 in
    took (flat_map spell) (λ (ys : List A). (length ys ≡ suc n) × AllAlong R after least ys) bytes (a.0.0 ∷ b.0.0) b.0.1 xs rest b.2
    (record {
      parts = text_behind bytes (spell a.0.0) (flat_map spell b.0.0) a.0.1 b.0.1 t1.parts t2.parts;
      rest_fits = t2.rest_fits;
      fact = (ap suc t2.fact.0, (t1.fact, t2.fact.1));
    })

items_again : {F A : Type 0} {read : ℕ → Reader F A} {spell : A → List ℕ} {P R : ℕ → A → Type 0} (after : A → ℕ) → ((least : ℕ) → Codec (read least) spell (P least) (R least))
    → (xs : List A) (least : ℕ) (rest : List ℕ) → AllAlong P after least xs → items_at read after least (length xs) (flat_map spell xs ++ rest) ≡ Ok (xs, rest)
unfolding items_at
items_again after c [] least rest p = refl
items_again {F} {A} {read} {spell} after c (x ∷ xs) least rest p =
    ap (items_at read after least (suc (length xs))) (append_assoc (spell x) (flat_map spell xs) rest)
    ∙ rw ((c least).again x (flat_map spell xs ++ rest) p.0, items_again after c xs (after x) rest p.1) refl

-- as many items as was said before
pub codec_items : {F A : Type 0} {read : ℕ → Reader F A} {spell : A → List ℕ} {P R : ℕ → A → Type 0} (after : A → ℕ) (least : ℕ) → ((least : ℕ) → Codec (read least) spell (P least) (R least)) → (n : ℕ)
    → Codec (items_at read after least n) (flat_map spell) (λ xs. (length xs ≡ n) × AllAlong P after least xs) (λ xs. (length xs ≡ n) × AllAlong R after least xs)
codec_items {F} {A} {read} {spell} after least c n = record {
  takes = λ bytes xs rest fits e. items_take after c n least bytes xs rest fits e;
  again = λ xs rest p. ap (λ (m : ℕ). items_at read after least m (flat_map spell xs ++ rest)) (sym p.0) ∙ items_again after c xs least rest p.1;
}

-- a fact of each item, whatever the one before it leaves
all_along : {A : Type 0} (P : A → Type 0) (after : A → ℕ) (least : ℕ) (xs : List A) → All P xs → AllAlong (λ _. P) after least xs
all_along P after least [] all = tt
all_along P after least (x ∷ xs) all = (All-head P x xs all, all_along P after (after x) xs (All-tail P x xs all))

along_all : {A : Type 0} (P : A → Type 0) (after : A → ℕ) (least : ℕ) (xs : List A) → AllAlong (λ _. P) after least xs → All P xs
along_all P after least [] along = All-nil P
along_all P after least (x ∷ xs) along = All-cons P x xs along.0 (along_all P after (after x) xs along.1)

-- n items, of which none depends on another
pub codec_all : {F A : Type 0} {read : Reader F A} {spell : A → List ℕ} {P R : A → Type 0} → Codec read spell P R → (n : ℕ)
    → Codec (list_at read n) (flat_map spell) (λ xs. (length xs ≡ n) × All P xs) (λ xs. (length xs ≡ n) × All R xs)
codec_all {F} {A} {read} {spell} {P} {R} c n =
    codec_as (codec_items (λ (_ : A). 0) 0 (λ _. c) n) (flat_map spell) (λ xs. (length xs ≡ n) × All P xs) (λ xs. (length xs ≡ n) × All R xs)
    (λ _. refl) (λ xs p. (p.0, all_along P (λ _. 0) 0 xs p.1)) (λ xs r. (r.0, along_all R (λ _. 0) 0 xs r.1))

-- a count, and a list of that many items
pub codec_listed : {F A : Type 0} {count : Reader F ℕ} {number : ℕ → List ℕ} {N M : ℕ → Type 0} {items : ℕ → Reader F (List A)} {text : List A → List ℕ} {Q S : List A → Type 0}
    → Codec count number N M → ((n : ℕ) → Codec (items n) text (λ xs. (length xs ≡ n) × Q xs) (λ xs. (length xs ≡ n) × S xs))
    → Codec (listed count items) (λ xs. number (length xs) ++ text xs) (λ xs. N (length xs) × Q xs) (λ xs. M (length xs) × S xs)
codec_listed {F} {A} {count} {number} {N} {M} {items} {text} {Q} {S} n c = record {
  takes = λ bytes xs rest fits e.
      let a = bind_ok (count bytes) (λ (k : ℕ × List ℕ). items k.0 k.1) (xs, rest) e in
      let t1 = n.takes bytes a.0.0 a.0.1 fits a.1 in
      let t2 = (c a.0.0).takes a.0.1 xs rest t1.rest_fits a.2 in
      record {
        parts = text_behind bytes (number (length xs)) (text xs) a.0.1 rest (t1.parts ∙ ap (λ (k : ℕ). number k ++ a.0.1) (sym t2.fact.0)) t2.parts;
        rest_fits = t2.rest_fits;
        fact = (subst M (sym t2.fact.0) t1.fact, t2.fact.1);
      };
  again = λ xs rest p.
      ap (listed count items) (append_assoc (number (length xs)) (text xs) rest)
      ∙ rw (n.again (length xs) (text xs ++ rest) p.0) ((c (length xs)).again xs rest (refl, p.1));
}

-- an item for each of a list
each_takes : {F B A : Type 0} {read : B → Reader F A} {spell : A → List ℕ} {P R : B → A → Type 0} → ((b : B) → Codec (read b) spell (P b) (R b))
    → (places : List B) (bytes : List ℕ) (xs : List A) (rest : List ℕ) → AreBytes bytes → each read places bytes ≡ Ok (xs, rest) → Took bytes (flat_map spell xs) rest (Unit {0})
unfolding each
each_takes {F} {B} {A} {read} {spell} c [] bytes xs rest fits e =
    took (flat_map spell) (λ (_ : List A). Unit {0}) bytes [] bytes xs rest e (record { parts = refl; rest_fits = fits; fact = tt })
each_takes {F} {B} {A} {read} {spell} c (place ∷ places) bytes xs rest fits e =
    let a = bind_ok (read place bytes) (λ (y : A × List ℕ). each read places y.1 >>= λ ys. Ok (y.0 ∷ ys.0, ys.1)) (xs, rest) e in
    let b = bind_ok (each read places a.0.1) (λ (ys : List A × List ℕ). Ok (a.0.0 ∷ ys.0, ys.1)) (xs, rest) a.2 in
    let t1 = (c place).takes bytes a.0.0 a.0.1 fits a.1 in
    let t2 = each_takes c places a.0.1 b.0.0 b.0.1 t1.rest_fits b.1 in
    took (flat_map spell) (λ (_ : List A). Unit {0}) bytes (a.0.0 ∷ b.0.0) b.0.1 xs rest b.2
    (record { parts = text_behind bytes (spell a.0.0) (flat_map spell b.0.0) a.0.1 b.0.1 t1.parts t2.parts; rest_fits = t2.rest_fits; fact = tt })

each_again : {F B A : Type 0} {read : B → Reader F A} {spell : A → List ℕ} {P R : B → A → Type 0} → ((b : B) → Codec (read b) spell (P b) (R b))
    → (places : List B) (xs : List A) (rest : List ℕ) → AllZip P places xs → each read places (flat_map spell xs ++ rest) ≡ Ok (xs, rest)
unfolding each
each_again c [] [] rest p = refl
each_again c [] (x ∷ xs) rest p = absurd p
each_again c (place ∷ places) [] rest p = absurd p
each_again {F} {B} {A} {read} {spell} c (place ∷ places) (x ∷ xs) rest p =
    ap (each read (place ∷ places)) (append_assoc (spell x) (flat_map spell xs) rest)
    ∙ rw ((c place).again x (flat_map spell xs ++ rest) p.0, each_again c places xs rest p.1) refl

pub codec_each : {F B A : Type 0} {read : B → Reader F A} {spell : A → List ℕ} {P R : B → A → Type 0} → ((b : B) → Codec (read b) spell (P b) (R b))
    → (places : List B) → Codec (each read places) (flat_map spell) (AllZip P places) (λ _. Unit {0})
codec_each c places = record { takes = each_takes c places; again = each_again c places }

-- ---- bytes and numbers

byte_takes : {F : Type 0} (short : F) (bytes : List ℕ) (x : ℕ) (rest : List ℕ) → AreBytes bytes → byte_at short bytes ≡ Ok (x, rest) → Took bytes (x ∷ []) rest (x < 2 ^ 8)
byte_takes short [] x rest fits e = absurd cc
byte_takes short (b ∷ bs) x rest fits e = took (λ n. n ∷ []) (λ n. n < 2 ^ 8) (b ∷ bs) b bs x rest e (record { parts = refl; rest_fits = AreBytes-rest b bs fits; fact = fits 0 })

pub codec_byte : {F : Type 0} (short : F) → Codec (byte_at short) (λ n. n ∷ []) (λ _. Unit {0}) (λ n. n < 2 ^ 8)
codec_byte short = record { takes = byte_takes short; again = λ x rest p. refl }

-- that many bytes, as they stand
pub codec_bytes : {F : Type 0} (short : F) (n : ℕ) → Codec (bytes_at short n) (λ bs. bs) (λ bs. (length bs ≡ n) × Unit {0}) (λ bs. (length bs ≡ n) × AreBytes bs)
codec_bytes short n = record {
  takes = λ bytes x rest fits e.
      let g = guard_ok (ltb (length bytes) n) short (Ok (take n bytes, drop n bytes)) (x, rest) e in
      let long : n ≤ length bytes = ltb-false _ _ g.0 in
      took (λ bs. bs) (λ bs. (length bs ≡ n) × AreBytes bs) bytes (take n bytes) (drop n bytes) x rest g.1
      (record { parts = sym (take-append-drop n bytes); rest_fits = AreBytes-drop n bytes fits; fact = (omega (arith, length-take n bytes, long), AreBytes-take n bytes fits) });
  again = λ x rest p.
      let long : ltb (length (x ++ rest)) n ≡ false = le-ltb _ _ (omega (arith, length-append x rest, p.0)) in
      rw (long, take_at x rest n p.0, drop_at x rest n p.0) refl;
}

-- a number of n bytes
pub codec_number : {F : Type 0} (short : F) (n : ℕ) → Codec (number_at short n) (bytes_of n) (λ x. x < 2 ^ (8 * n)) (λ x. x < 2 ^ (8 * n))
codec_number short n =
    codec_made_known number_of (codec_bytes short n) (bytes_of n) (λ x. x < 2 ^ (8 * n)) (λ x. x < 2 ^ (8 * n))
    (λ bs r. (sym (bytes_of-number_of bs r.1) ∙ ap (λ (k : ℕ). bytes_of k (number_of bs)) r.0, subst (λ (k : ℕ). number_of bs < 2 ^ (8 * k)) r.0 (number_of-lt bs r.1)))
    (λ x lt. (bytes_of n x, number_of-bytes_of n x lt, refl, (length-bytes_of n x, tt)))
