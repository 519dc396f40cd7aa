-- What is kept of the keys of exact parts, one after another.
use Rattle.std.proofs.Common.{◌≡◌, ℕ, zero, suc, ◌+◌, ◌*◌, ◌<◌, List, [], ◌∷◌, ◌++◌, length, get_or, take, drop, map, Bool, true, false, ◌&&◌, append_assoc, refl, sym, ap, ◌∙◌, subst, arith}
use Rattle.std.specs.List.{list_all}
use Rattle.std.proofs.lemmas.Bool.{false≢true}
use Rattle.std.proofs.lemmas.List.{append-nil, length-append}
use Rattle.std.proofs.Math.Seq.{drop-append-add, take-append_seam}
use Rattle.rmt_bits.specs.Bits.{bytes_of}
use Rattle.rmt_bits.proofs.ByteLaws.{length-bytes_of}
use Rattle.rmt_config.specs.Types.{CellNumber, Config}
use Rattle.rmt_config.specs.Cells.{blocks_at}
use Rattle.rmt_config.specs.KeyPrints.{KeysAdded, PartKeys, kept_of, kept_of_keys, print_of}
use Rattle.rmt_config.specs.KeysSeen.{key_held, keys_listed, stands_in}
use Rattle.rmt_config.specs.NamesForm.{stands_in_candidates}
use Rattle.rmt_config.specs.PartsTold.{part_at, parts_at}
use Rattle.rmt_config.specs.declared.form.names.part_list.Part.{Part}
use Rattle.rmt_config.proofs.RiseLaws.{one_off}

-- ---- what is kept of keys

pub kept-append : (whole : Bool) (size : ℕ) (xs ys : List ℕ) → kept_of_keys whole size (xs ++ ys) ≡ kept_of_keys whole size xs ++ kept_of_keys whole size ys
kept-append whole size [] ys = refl
kept-append whole size (x ∷ xs) ys =
    let here = kept_of whole (bytes_of size x) in
    ap (λ (ks : List ℕ). here ++ ks) (kept-append whole size xs ys) ∙ sym (append_assoc here (kept_of_keys whole size xs) (kept_of_keys whole size ys))

-- the prints of keys
pub kept-prints : (size : ℕ) (ks : List ℕ) → kept_of_keys false size ks ≡ map (print_of size) ks
kept-prints size [] = refl
kept-prints size (k ∷ ks) = ap (λ ps. print_of size k ∷ ps) (kept-prints size ks)

-- the bytes of keys
pub kept-length : (size : ℕ) (ks : List ℕ) → length (kept_of_keys true size ks) ≡ length ks * size
kept-length size [] = omega arith
kept-length size (k ∷ ks) = simp (length-append, length-bytes_of) (let rest = kept-length size ks in omega (arith, rest))

-- the key at a place
pub key-at : (size : ℕ) (ks : List ℕ) (i : ℕ) → i < length ks → blocks_at (kept_of_keys true size ks) size i ≡ bytes_of size (get_or ks i 0)
key-at size [] i lt = absurd (omega (arith, lt))
key-at size (k ∷ ks) zero lt =
    let none : 0 * size ≡ 0 = omega arith in
    ap (λ n. take size (drop n (bytes_of size k ++ kept_of_keys true size ks))) none
    ∙ ap (λ n. take n (bytes_of size k ++ kept_of_keys true size ks)) (sym (length-bytes_of size k)) ∙ take-append_seam (bytes_of size k) (kept_of_keys true size ks)
key-at size (k ∷ ks) (suc i) lt =
    let at : suc i * size ≡ length (bytes_of size k) + i * size = (let e = length-bytes_of size k in omega (arith, e)) in
    ap (λ n. take size (drop n (bytes_of size k ++ kept_of_keys true size ks))) at
    ∙ ap (take size) (drop-append-add (bytes_of size k) (kept_of_keys true size ks) (i * size)) ∙ key-at size ks i (omega (arith, lt))

-- ---- the cells of a part

module _ (whole : Bool) (size : ℕ) (stands : CellNumber → Bool) (key : CellNumber → ℕ) where
  pub keys-none : (ns : List CellNumber) (old : List ℕ) → ns ≡ [] → KeysAdded whole size stands key ns old old true
  keys-none ns old none = subst (λ rest. KeysAdded whole size stands key rest old old true) (sym none) (record { answer = refl; added = λ e. sym (append-nil old) })

  -- one cell more, before the rest
  pub keys-at : (ns : List CellNumber) (i : ℕ) (d : CellNumber) (old mid new : List ℕ) (stand : Bool) → i < length ns → stands (get_or ns i d) ≡ true
      → mid ≡ old ++ kept_of whole (bytes_of size (key (get_or ns i d))) → KeysAdded whole size stands key (drop (i + 1) ns) mid new stand → KeysAdded whole size stands key (drop i ns) old new stand
  keys-at ns i d old mid new stand lt e is h =
      let n = get_or ns i d in
      let rest = kept_of_keys whole size (map key (drop (i + 1) ns)) in
      subst (λ xs. KeysAdded whole size stands key xs old new stand) (sym (one_off ns i d lt))
      (record {
        answer = h.answer ∙ sym (ap (λ b. b && list_all stands (drop (i + 1) ns)) e);
        added = λ f. h.added f ∙ ap (λ (xs : List ℕ). xs ++ rest) is ∙ append_assoc old (kept_of whole (bytes_of size (key n))) rest;
      })

  -- a cell that doesn't stand so
  pub keys-stop : (ns : List CellNumber) (i : ℕ) (d : CellNumber) (old new : List ℕ) → i < length ns → stands (get_or ns i d) ≡ false → KeysAdded whole size stands key (drop i ns) old new false
  keys-stop ns i d old new lt e =
      subst (λ xs. KeysAdded whole size stands key xs old new false) (sym (one_off ns i d lt))
      (record { answer = sym (ap (λ b. b && list_all stands (drop (i + 1) ns)) e); added = λ f. absurd (false≢true f) })

-- ---- the parts of a table

module _ (whole : Bool) (c : Config) (size : ℕ) (parts : List Part) where
  pub parts-none : (i : ℕ) (old : List ℕ) → drop i parts ≡ [] → PartKeys whole c size (parts_at (drop i parts)) old old true
  parts-none i old none = subst (λ (rest : List Part). PartKeys whole c size (parts_at rest) old old true) (sym none) (record { answer = refl; added = λ e. sym (append-nil old) })

  module _ (i : ℕ) (x : Part) (lt : i < length parts) (is : x ≡ get_or parts i x) where
    at : (old new : List ℕ) (stand : Bool) → PartKeys whole c size (part_at x ∷ parts_at (drop (i + 1) parts)) old new stand → PartKeys whole c size (parts_at (drop i parts)) old new stand
    at old new stand h =
        subst (λ (xs : List Part). PartKeys whole c size (parts_at xs) old new stand) (sym (one_off parts i x lt ∙ ap (λ y. y ∷ drop (i + 1) parts) (sym is))) h

    -- one part more, before the rest
    pub parts-more : (old mid new : List ℕ) (stand : Bool) → KeysAdded whole size (stands_in c (part_at x)) (key_held c (part_at x)) x.slot.now.numbers old mid true
        → PartKeys whole c size (parts_at (drop (i + 1) parts)) mid new stand → PartKeys whole c size (parts_at (drop i parts)) old new stand
    parts-more old mid new stand here h =
        let ps = parts_at (drop (i + 1) parts) in
        let own = map (key_held c (part_at x)) x.slot.now.numbers in
        let rest = kept_of_keys whole size (keys_listed c ps) in
        at old new stand (record {
          answer = h.answer ∙ ap (λ b. b && list_all (stands_in_candidates c) ps) here.answer;
          added = λ f. h.added f ∙ ap (λ (xs : List ℕ). xs ++ rest) (here.added refl) ∙ append_assoc old (kept_of_keys whole size own) rest
              ∙ ap (λ (xs : List ℕ). old ++ xs) (sym (kept-append whole size own (keys_listed c ps)));
        })

    -- a part with a cell that is no candidate
    pub parts-stop : (old new : List ℕ) → KeysAdded whole size (stands_in c (part_at x)) (key_held c (part_at x)) x.slot.now.numbers old new false
        → PartKeys whole c size (parts_at (drop i parts)) old new false
    parts-stop old new here =
        at old new false (record { answer = ap (λ b. b && list_all (stands_in_candidates c) (parts_at (drop (i + 1) parts))) here.answer; added = λ f. absurd (false≢true f) })
