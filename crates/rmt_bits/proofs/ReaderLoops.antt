-- Reading items one after the other, as a loop does.
use Rattle.std.proofs.Common.{◌≡◌, ℕ, suc, ◌-◌, ◌+◌, ◌≤◌, ◌<◌, List, [], ◌∷◌, ◌++◌, Option, Some, None, Result, Ok, Err, refl, sym, ap, ◌∙◌, append_assoc, arith, length, get_or, drop, add-one}
use Rattle.std.proofs.lemmas.List.{append-nil}
use Rattle.std.proofs.Math.ListN.{drop_of_length-le}
use Rattle.std.proofs.Math.Seq.{drop-cons}
use Rattle.rmt_bits.specs.Readers.{◌>>=◌, Fails, Reader, items_at, each}

-- what was read before, and what is still read
abbrev pub with_front : {F A : Type 0} → List A → Result (List A × List ℕ) F → Result (List A × List ℕ) F
with_front front read = read >>= λ x. Ok (front ++ x.0, x.1)

regroup : {F A : Type 0} (front : List A) (n : A) (read : Result (List A × List ℕ) F) → with_front front (read >>= λ x. Ok (n ∷ x.0, x.1)) ≡ with_front (front ++ n ∷ []) read
regroup {F} {A} front n (Ok x) = ap (λ (ns : List A). Ok (ns, x.1)) (simp append_assoc)
regroup front n (Err f) = refl

pub goes_on : {F A : Type 0} (read : ℕ → Reader F A) (after : A → ℕ) (front : List A) (count i : ℕ) (least : ℕ) (bytes : List ℕ) (n : A) (rest : List ℕ) (total : Result (List A × List ℕ) F) → i < count → read least bytes ≡ Ok (n, rest)
    → with_front front (items_at read after least (count - i) bytes) ≡ total → with_front (front ++ n ∷ []) (items_at read after (after n) (count - (i + 1)) rest) ≡ total
unfolding items_at
goes_on read after front count i least bytes n rest total lt h so_far =
    let k : count - i ≡ suc (count - (i + 1)) = omega arith in
    let one : with_front front (items_at read after least (count - i) bytes) ≡ with_front (front ++ n ∷ []) (items_at read after (after n) (count - (i + 1)) rest) = rw (k, h) (regroup front n (items_at read after (after n) (count - (i + 1)) rest)) in
    sym one ∙ so_far

pub ends : {F A : Type 0} (read : ℕ → Reader F A) (after : A → ℕ) (fault : Option F) (front : List A) (count i : ℕ) (least : ℕ) (bytes : List ℕ) (total : Result (List A × List ℕ) F) → i < count → Fails fault (read least bytes)
    → with_front front (items_at read after least (count - i) bytes) ≡ total → Fails fault total
unfolding items_at
ends read after None front count i least bytes total lt h so_far = tt
ends read after (Some f) front count i least bytes total lt h so_far =
    let k : count - i ≡ suc (count - (i + 1)) = omega arith in
    let one : with_front front (items_at read after least (count - i) bytes) ≡ Err f = rw (k, h) refl in
    sym so_far ∙ one

pub is_done : {F A : Type 0} (read : ℕ → Reader F A) (after : A → ℕ) (front : List A) (count i : ℕ) (least : ℕ) (bytes : List ℕ) (total : Result (List A × List ℕ) F) → count ≤ i → with_front front (items_at read after least (count - i) bytes) ≡ total → total ≡ Ok (front, bytes)
unfolding items_at
is_done {F} {A} read after front count i least bytes total le so_far =
    let k : count - i ≡ 0 = omega arith in
    let one : with_front front (items_at read after least (count - i) bytes) ≡ Ok (front, bytes) = rw k (ap (λ (ns : List A). Ok (ns, bytes)) (append-nil front)) in
    sym so_far ∙ one

pub each_goes_on : {F P A : Type 0} (read : P → Reader F A) (front : List A) (places : List P) (i : ℕ) (d : P) (bytes : List ℕ) (n : A) (rest : List ℕ) (total : Result (List A × List ℕ) F) → i < length places → read (get_or places i d) bytes ≡ Ok (n, rest)
    → with_front front (each read (drop i places) bytes) ≡ total → with_front (front ++ n ∷ []) (each read (drop (i + 1) places) rest) ≡ total
unfolding each
each_goes_on {F} {P} read front places i d bytes n rest total lt h so_far =
    let k : drop i places ≡ get_or places i d ∷ drop (i + 1) places = drop-cons places i d lt ∙ ap (λ (j : ℕ). get_or places i d ∷ drop j places) (sym (add-one i)) in
    let one : with_front front (each read (drop i places) bytes) ≡ with_front (front ++ n ∷ []) (each read (drop (i + 1) places) rest) = rw (k, h) (regroup front n (each read (drop (i + 1) places) rest)) in
    sym one ∙ so_far

pub each_ends : {F P A : Type 0} (read : P → Reader F A) (fault : Option F) (front : List A) (places : List P) (i : ℕ) (d : P) (bytes : List ℕ) (total : Result (List A × List ℕ) F) → i < length places → Fails fault (read (get_or places i d) bytes)
    → with_front front (each read (drop i places) bytes) ≡ total → Fails fault total
unfolding each
each_ends read None front places i d bytes total lt h so_far = tt
each_ends {F} {P} read (Some f) front places i d bytes total lt h so_far =
    let one : with_front front (each read (drop i places) bytes) ≡ Err f = rw (drop-cons places i d lt, h) refl in
    sym so_far ∙ one

pub each_is_done : {F P A : Type 0} (read : P → Reader F A) (front : List A) (places : List P) (i : ℕ) (bytes : List ℕ) (total : Result (List A × List ℕ) F) → length places ≤ i → with_front front (each read (drop i places) bytes) ≡ total → total ≡ Ok (front, bytes)
unfolding each
each_is_done {F} {P} {A} read front places i bytes total le so_far =
    let one : with_front front (each read (drop i places) bytes) ≡ Ok (front, bytes) = rw (drop_of_length-le places le) (ap (λ (ns : List A). Ok (ns, bytes)) (append-nil front)) in
    sym so_far ∙ one
