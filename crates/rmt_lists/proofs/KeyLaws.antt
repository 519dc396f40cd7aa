-- Keys as numbers.
use Rattle.std.proofs.Common.{◌≡◌, ◌≢◌, ℕ, ◌+◌, ◌==◌, ◌||◌, Bool, true, false, cond, List, [], ◌∷◌, ◌++◌, Option, Some, None, Vec, length, map, slice_get, drop, is_some, refl, sym, ap, ◌∙◌, arith}
use Rattle.std.specs.Prelude.{filter, if◌then◌else◌}
use Rattle.std.specs.Global.{Global}
use Rattle.std.specs.Str.{bytes_eq}
use Rattle.std.proofs.lemmas.Bool.{and_parts, eq-eqb, eqb-true, false≢true}
use Rattle.std.proofs.lemmas.List.{map-append}
use Rattle.std.proofs.lemmas.List.Elements.{filter-append}
use Rattle.std.proofs.lemmas.Slice.Eq.{bytes_eq-Decides}
use Rattle.rmt_ast.specs.declared.program.Test.{Test}
use Rattle.rmt_ast.specs.declared.entry.Entry.{Entry}
use Rattle.rmt_ast.specs.Changes.{EntryKey, are_same, is_keyed_by, without, key_of_entry, is_held}
use Rattle.rmt_lists.specs.Holding.{Knows, keyed_numbers, spelled, spelled_tests}
use Rattle.rmt_lists.specs.KeyNumbers.{KeyNumbers, numbers_at}

head_same : (a b : ℕ) (xs ys : List ℕ) → (a ∷ xs) ≡ (b ∷ ys) → a ≡ b
head_same a b xs ys e = ap first e
  where
    first : List ℕ → ℕ
    first [] = a
    first (z ∷ zs) = z

tail_same : (a b : ℕ) (xs ys : List ℕ) → (a ∷ xs) ≡ (b ∷ ys) → xs ≡ ys
tail_same a b xs ys e = ap (drop 1) e

-- no two lists of tests are alike
same_tests : (a b : List Test) → spelled_tests a ≡ spelled_tests b → a ≡ b
same_tests [] [] e = refl
same_tests [] (y ∷ ys) e = cc
same_tests (x ∷ xs) [] e = cc
same_tests (x ∷ xs) (y ∷ ys) e =
    let value = head_same x.value y.value (x.mask ∷ spelled_tests xs) (y.mask ∷ spelled_tests ys) e in
    let rest = tail_same x.value y.value (x.mask ∷ spelled_tests xs) (y.mask ∷ spelled_tests ys) e in
    let mask = head_same x.mask y.mask (spelled_tests xs) (spelled_tests ys) rest in
    let more = same_tests xs ys (tail_same x.mask y.mask (spelled_tests xs) (spelled_tests ys) rest) in
    let first : x ≡ y = ap (λ (v : ℕ). record { value = v; mask = x.mask }) value ∙ ap (λ (m : ℕ). record { value = y.value; mask = m }) mask in
    ap (λ (t : Test). t ∷ xs) first ∙ ap (λ (ts : List Test). y ∷ ts) more

-- tests that test the same are one list
same_are : (a b : List Test) → map (λ (t : Test). t.value) a ≡ map (λ (t : Test). t.value) b → map (λ (t : Test). t.mask) a ≡ map (λ (t : Test). t.mask) b → a ≡ b
same_are [] [] e f = refl
same_are [] (y ∷ ys) e f = cc
same_are (x ∷ xs) [] e f = cc
same_are (x ∷ xs) (y ∷ ys) e f =
    let value = head_same x.value y.value (map (λ (t : Test). t.value) xs) (map (λ (t : Test). t.value) ys) e in
    let mask = head_same x.mask y.mask (map (λ (t : Test). t.mask) xs) (map (λ (t : Test). t.mask) ys) f in
    let more = same_are xs ys (tail_same x.value y.value (map (λ (t : Test). t.value) xs) (map (λ (t : Test). t.value) ys) e) (tail_same x.mask y.mask (map (λ (t : Test). t.mask) xs) (map (λ (t : Test). t.mask) ys) f) in
    let first : x ≡ y = ap (λ (v : ℕ). record { value = v; mask = x.mask }) value ∙ ap (λ (m : ℕ). record { value = y.value; mask = m }) mask in
    ap (λ (t : Test). t ∷ xs) first ∙ ap (λ (ts : List Test). y ∷ ts) more

-- an entry has the key of which it is keyed
pub keyed_is : (key : EntryKey) (e : Entry) → is_keyed_by key e ≡ true → key ≡ key_of_entry e
keyed_is key e h =
    let parts = and_parts (are_same key.tests e.tests) (key.rank == e.rank) h in
    let tests = and_parts (bytes_eq (map (λ (t : Test). t.value) key.tests) (map (λ (t : Test). t.value) e.tests)) (bytes_eq (map (λ (t : Test). t.mask) key.tests) (map (λ (t : Test). t.mask) e.tests)) parts.0 in
    let same = same_are key.tests e.tests ((bytes_eq-Decides _ _).0 tests.0) ((bytes_eq-Decides _ _).0 tests.1) in
    ap (λ (ts : List Test). record { tests = ts; rank = key.rank }) same ∙ ap (λ (n : ℕ). record { tests = e.tests; rank = n }) (eqb-true key.rank e.rank parts.1)

pub own_key : (e : Entry) → is_keyed_by (key_of_entry e) e ≡ true
own_key e =
    rw ((bytes_eq-Decides (map (λ (t : Test). t.value) e.tests) (map (λ (t : Test). t.value) e.tests)).1 refl, (bytes_eq-Decides (map (λ (t : Test). t.mask) e.tests) (map (λ (t : Test). t.mask) e.tests)).1 refl, eq-eqb e.rank e.rank refl) refl

pub keyed_if : (key : EntryKey) (e : Entry) → key ≡ key_of_entry e → is_keyed_by key e ≡ true
keyed_if key e same = rw same (own_key e)

-- no two keys are alike
pub spelled_once : (a b : EntryKey) → spelled a ≡ spelled b → a ≡ b
spelled_once a b e =
    let rank = head_same a.rank b.rank (spelled_tests a.tests) (spelled_tests b.tests) e in
    let tests = same_tests a.tests b.tests (tail_same a.rank b.rank (spelled_tests a.tests) (spelled_tests b.tests) e) in
    ap (λ (n : ℕ). record { tests = a.tests; rank = n }) rank ∙ ap (λ (ts : List Test). record { tests = ts; rank = b.rank }) tests

-- the numbers at a key behind one entry more
keyed_push : (key : EntryKey) (es : List Entry) (e : Entry) → keyed_numbers key (es ++ e ∷ []) ≡ keyed_numbers key es ++ cond (is_keyed_by key e) (e.number ∷ []) []
keyed_push key es e =
    ap (map (λ (x : Entry). x.number)) (filter-append (is_keyed_by key) es (e ∷ []))
    ∙ map-append (λ (x : Entry). x.number) (filter (is_keyed_by key) es) (cond (is_keyed_by key e) (e ∷ []) [])
    ∙ ap (λ (ns : List ℕ). keyed_numbers key es ++ ns) (by (is_keyed_by key e))
  where
    by : (b : Bool) → map (λ (x : Entry). x.number) (cond b (e ∷ []) []) ≡ cond b (e.number ∷ []) []
    by true = refl
    by false = refl

alike : (key own : EntryKey) (e : Entry) (k q : List ℕ) → k ≡ spelled (key_of_entry e) → q ≡ spelled key → bytes_eq k q ≡ is_keyed_by key e
alike key own e k q ke qe = by (bytes_eq k q) (is_keyed_by key e) refl refl
  where
    by : (x y : Bool) → bytes_eq k q ≡ x → is_keyed_by key e ≡ y → x ≡ y
    by true true s t = refl
    by false false s t = refl
    by true false s t =
        let same : key ≡ key_of_entry e = spelled_once key (key_of_entry e) (sym qe ∙ sym ((bytes_eq-Decides k q).0 s) ∙ ke) in
        absurd (false≢true (sym t ∙ keyed_if key e same))
    by false true s t =
        let same : key ≡ key_of_entry e = keyed_is key e t in
        absurd (false≢true (sym s ∙ (bytes_eq-Decides k q).1 (ke ∙ ap spelled (sym same) ∙ sym qe)))

-- a number more
pub knows_push : (old new : KeyNumbers) (es : List Entry) (e : Entry) (key : Vec ℕ Global) (number : ℕ) → Knows old es → key.items ≡ spelled (key_of_entry e) → e.number ≡ number
    → ((q : Vec ℕ Global) → numbers_at new q ≡ numbers_at old q ++ (if bytes_eq key.items q.items then number ∷ [] else [])) → Knows new (es ++ e ∷ [])
knows_push old new es e key number h own n put q k qe =
    put q ∙ rw (h q k qe, alike k k e key.items q.items own qe, ← n) (sym (keyed_push k es e))

-- an entry's key is held where the numbers at it begin with one
pub first_keyed : (key : EntryKey) (es : List Entry) → slice_get (keyed_numbers key es) 0 ≡ None → is_held key es ≡ false
first_keyed key [] e = refl
first_keyed key (x ∷ xs) e = by (is_keyed_by key x) refl (first_keyed key xs) e
  where
    by : (b : Bool) → is_keyed_by key x ≡ b → (slice_get (keyed_numbers key xs) 0 ≡ None → is_held key xs ≡ false) → slice_get (map (λ (y : Entry). y.number) (cond b (x ∷ filter (is_keyed_by key) xs) (filter (is_keyed_by key) xs))) 0 ≡ None → is_held key (x ∷ xs) ≡ false
    by true s rest f = cc
    by false s rest f = rw s (rest f)

pub some_keyed : (key : EntryKey) (es : List Entry) (n : ℕ) → slice_get (keyed_numbers key es) 0 ≡ Some n → is_held key es ≡ true
some_keyed key [] n e = cc
some_keyed key (x ∷ xs) n e = by (is_keyed_by key x) refl (some_keyed key xs n) e
  where
    by : (b : Bool) → is_keyed_by key x ≡ b → (slice_get (keyed_numbers key xs) 0 ≡ Some n → is_held key xs ≡ true) → slice_get (map (λ (y : Entry). y.number) (cond b (x ∷ filter (is_keyed_by key) xs) (filter (is_keyed_by key) xs))) 0 ≡ Some n → is_held key (x ∷ xs) ≡ true
    by true s rest f = rw s refl
    by false s rest f = rw s (rest f)

-- the numbers at a key behind a removal
keyed_without : (key : EntryKey) (es : List Entry) → keyed_numbers key (without key es) ≡ drop 1 (keyed_numbers key es)
keyed_without key [] = refl
keyed_without key (x ∷ xs) = by (is_keyed_by key x) refl (keyed_without key xs)
  where
    by : (b : Bool) → is_keyed_by key x ≡ b → keyed_numbers key (without key xs) ≡ drop 1 (keyed_numbers key xs) → keyed_numbers key (cond b xs (x ∷ without key xs)) ≡ drop 1 (map (λ (y : Entry). y.number) (cond b (x ∷ filter (is_keyed_by key) xs) (filter (is_keyed_by key) xs)))
    by true s rest = refl
    by false s rest = rw s rest

keyed_others : (key other : EntryKey) (es : List Entry) → key ≢ other → keyed_numbers other (without key es) ≡ keyed_numbers other es
keyed_others key other [] apart = refl
keyed_others key other (x ∷ xs) apart = by (is_keyed_by key x) refl (is_keyed_by other x) refl (keyed_others key other xs apart)
  where
    by : (b : Bool) → is_keyed_by key x ≡ b → (c : Bool) → is_keyed_by other x ≡ c → keyed_numbers other (without key xs) ≡ keyed_numbers other xs
        → keyed_numbers other (cond b xs (x ∷ without key xs)) ≡ map (λ (y : Entry). y.number) (cond c (x ∷ filter (is_keyed_by other) xs) (filter (is_keyed_by other) xs))
    by true s true t rest = absurd (apart (keyed_is key x s ∙ sym (keyed_is other x t)))
    by true s false t rest = refl
    by false s true t rest = rw t (ap (λ (ns : List ℕ). x.number ∷ ns) rest)
    by false s false t rest = rw t rest

-- a number less
pub knows_pop : (old new : KeyNumbers) (es : List Entry) (key : EntryKey) (k : Vec ℕ Global) → Knows old es → k.items ≡ spelled key
    → ((q : Vec ℕ Global) → numbers_at new q ≡ (if bytes_eq k.items q.items then drop 1 (numbers_at old q) else numbers_at old q)) → Knows new (without key es)
knows_pop old new es key k h own taken q other qe = taken q ∙ by (bytes_eq k.items q.items) refl
  where
    by : (b : Bool) → bytes_eq k.items q.items ≡ b → cond b (drop 1 (numbers_at old q)) (numbers_at old q) ≡ keyed_numbers other (without key es)
    by true s =
        let same : key ≡ other = spelled_once key other (sym own ∙ (bytes_eq-Decides k.items q.items).0 s ∙ qe) in
        rw (h q other qe, ← same) (sym (keyed_without key es))
    by false s =
        let apart : key ≢ other = λ same. false≢true (sym s ∙ (bytes_eq-Decides k.items q.items).1 (own ∙ ap spelled same ∙ sym qe)) in
        h q other qe ∙ sym (keyed_others key other es apart)

-- one entry less, where the key is held
pub length-without : (key : EntryKey) (es : List Entry) → is_held key es ≡ true → length (without key es) + 1 ≡ length es
length-without key [] h = cc
length-without key (x ∷ xs) h = by (is_keyed_by key x) refl (length-without key xs) h
  where
    by : (b : Bool) → is_keyed_by key x ≡ b → (is_held key xs ≡ true → length (without key xs) + 1 ≡ length xs) → (b || is_held key xs) ≡ true → length (cond b xs (x ∷ without key xs)) + 1 ≡ length (x ∷ xs)
    by true s rest t = omega arith
    by false s rest t = let one = rest t in omega (arith, one)

pub keyed_some : (key : EntryKey) (es : List Entry) (o : Option ℕ) → o ≡ slice_get (keyed_numbers key es) 0 → is_some o ≡ is_held key es
keyed_some key es None e = sym (first_keyed key es (sym e))
keyed_some key es (Some n) e = sym (some_keyed key es n (sym e))
