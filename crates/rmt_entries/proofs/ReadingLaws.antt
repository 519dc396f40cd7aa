-- Reading a word for each width, one after another.
use Rattle.std.proofs.Common.{◌≡◌, ℕ, ◌+◌, ◌<◌, List, [], ◌∷◌, ◌++◌, Option, Some, None, length, get_or, drop, refl, sym, ap, append_assoc, add-one, drop-cons}
use Rattle.rmt_entries.specs.Keys.{both, onto, read_each}

-- what was read stands before what is read then
abbrev pub behind : {X : Type 0} → List X → Option (List X × List (List ℕ)) → Option (List X × List (List ℕ))
behind done None = None
behind done (Some r) = Some (done ++ r.0, r.1)

pub behind_none : {X : Type 0} (o : Option (List X × List (List ℕ))) → o ≡ behind [] o
behind_none None = refl
behind_none (Some r) = refl

-- one word more
module _ {X : Type 0} (read : ℕ → List ℕ → Option X) (done : List X) (widths : List ℕ) (i : ℕ) (lt : i < length widths) where
  next : (words : List (List ℕ)) → read_each read (drop i widths) words ≡ read_each read (get_or widths i 0 ∷ drop (i + 1) widths) words
  next words = rw (add-one, drop-cons widths i 0) refl

  pub read_more : (word : List ℕ) (words old : List (List ℕ)) (x : X) → old ≡ word ∷ words → read (get_or widths i 0) word ≡ Some x
      → behind done (read_each read (drop i widths) old) ≡ behind (done ++ x ∷ []) (read_each read (drop (i + 1) widths) words)
  read_more word words old x e r = rw (next old, e, r) (by (read_each read (drop (i + 1) widths) words))
    where
      by : (o : Option (List X × List (List ℕ))) → behind done (both onto (Some x) o) ≡ behind (done ++ x ∷ []) o
      by None = refl
      by (Some r) = ap (λ xs. Some (xs, r.1)) (sym (append_assoc done (x ∷ []) r.0))

  pub read_no_word : (old : List (List ℕ)) → old ≡ [] → behind done (read_each read (drop i widths) old) ≡ None
  read_no_word old e = rw (next old, e) refl

  pub read_wrong : (word : List ℕ) (words old : List (List ℕ)) → old ≡ word ∷ words → read (get_or widths i 0) word ≡ None → behind done (read_each read (drop i widths) old) ≡ None
  read_wrong word words old e r = rw (next old, e, r) (by (read_each read (drop (i + 1) widths) words))
    where
      by : (o : Option (List X × List (List ℕ))) → behind done (both {X = X} onto None o) ≡ None
      by o = refl
