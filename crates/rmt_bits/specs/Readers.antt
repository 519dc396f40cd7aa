-- Ways to read items from the front of bytes: an item and the bytes behind it, or the first fault that is met.
use Rattle.std.specs.Prelude.{◌≡◌, ℕ, zero, suc, List, [], ◌∷◌, length, take, drop, Bool, nat_lt, if◌then◌else◌, Option, Some, None, Result, Ok, Err}
use Rattle.rmt_bits.specs.Bits.{number_of}

infixl 10 ◌>>=◌
abbrev pub ◌>>=◌ : {F A B : Type 0} → Result A F → (A → Result B F) → Result B F
(Ok x) >>= f = f x
(Err e) >>= f = Err e

-- a fault of the bytes is the one that reading gives; of any other nothing is said
abbrev pub Fails : {F Y : Type 0} → Option F → Result Y F → Type 0
Fails None read = Unit {0}
Fails (Some fault) read = read ≡ Err fault

-- what a function returned, seen by view, is what reading gives, unless its error is no fault of the bytes
abbrev pub Gives : {E F X Y : Type 0} → (E → Option F) → (X → Y) → Result X E → Result Y F → Type 0
Gives fault_of view (Ok x) read = read ≡ Ok (view x)
Gives fault_of view (Err e) read = Fails (fault_of e) read

-- ---- items

abbrev pub Reader : Type 0 → Type 0 → Type 0
Reader F A = List ℕ → Result (A × List ℕ) F

-- an item that takes no byte
abbrev pub give : {F A : Type 0} → A → Reader F A
give x bytes = Ok (x, bytes)

-- one item, and another that may depend on it behind it
abbrev pub behind : {F A B : Type 0} → Reader F A → (A → Reader F B) → Reader F (A × B)
behind first second bytes = do
  x ← first bytes
  y ← second x.0 x.1
  Ok ((x.0, y.0), y.1)

infixr 35 ◌⊗◌
abbrev pub ◌⊗◌ : {F A B : Type 0} → Reader F A → Reader F B → Reader F (A × B)
first ⊗ second = behind first (λ _. second)

abbrev pub made : {F A B : Type 0} → (A → B) → Reader F A → Reader F B
made f read bytes = do
  x ← read bytes
  Ok (f x.0, x.1)

-- an item that passes a test; else this fault
abbrev pub kept : {F A : Type 0} → F → (A → Bool) → Reader F A → Reader F A
kept fault test read bytes = do
  x ← read bytes
  if test x.0 then Ok x else Err fault

-- ---- lists

-- n items, each read under the least number that the one before it leaves
unfoldable pub items_at : {F A : Type 0} → (ℕ → Reader F A) → (A → ℕ) → ℕ → ℕ → Reader F (List A)
items_at read after least zero bytes = Ok ([], bytes)
items_at read after least (suc n) bytes = do
  x ← read least bytes
  xs ← items_at read after (after x.0) n x.1
  Ok (x.0 ∷ xs.0, xs.1)

-- n items, of which none depends on another
abbrev pub list_at : {F A : Type 0} → Reader F A → ℕ → Reader F (List A)
list_at read n = items_at (λ _. read) (λ _. 0) 0 n

-- a count, and a list of that many items
abbrev pub listed : {F A : Type 0} → Reader F ℕ → (ℕ → Reader F (List A)) → Reader F (List A)
listed count items bytes = do
  n ← count bytes
  items n.0 n.1

-- an item for each of a list
unfoldable pub each : {F P A : Type 0} → (P → Reader F A) → List P → Reader F (List A)
each read [] bytes = Ok ([], bytes)
each read (place ∷ places) bytes = do
  x ← read place bytes
  xs ← each read places x.1
  Ok (x.0 ∷ xs.0, xs.1)

-- ---- bytes and numbers, and the fault where the bytes end before

abbrev pub byte_at : {F : Type 0} → F → Reader F ℕ
byte_at short [] = Err short
byte_at short (byte ∷ rest) = Ok (byte, rest)

-- n bytes, as they stand
abbrev pub bytes_at : {F : Type 0} → F → ℕ → Reader F (List ℕ)
bytes_at short n bytes = if nat_lt (length bytes) n then Err short else Ok (take n bytes, drop n bytes)

-- a number of n bytes, the highest first
abbrev pub number_at : {F : Type 0} → F → ℕ → Reader F ℕ
number_at short n = made number_of (bytes_at short n)
