-- Keys that are seen one after another.
use Rattle.std.proofs.Common.{◌≡◌, ℕ, ◌+◌, ◌<◌, List, [], ◌∷◌, length, get_or, drop, Bool, true, false, not, ◌&&◌, ◌||◌, cond, Vec, refl, sym, ap, ◌∙◌}
use Rattle.std.specs.List.{list_any}
use Rattle.std.specs.Str.{bytes_eq}
use Rattle.std.specs.Global.{Global}
use Rattle.std.specs.BTreeSet.{BTreeSet, Updates, contains}
use Rattle.std.proofs.lemmas.Map.Text.{is_eq-slice_cmp}
use Rattle.rmt_bits.specs.Bits.{bytes_of}
use Rattle.rmt_bits.specs.Members.{by_numbers}
use Rattle.rmt_config.specs.KeysSeen.{Knows, news, was_seen}
use Rattle.rmt_config.proofs.RiseLaws.{one_off}

-- a key more
pub knows-more : (size k : ℕ) (before : List ℕ) (old new : BTreeSet (Vec ℕ Global)) (key : Vec ℕ Global) → Knows size before old → key.items ≡ bytes_of size k
    → Updates by_numbers old new key true → Knows size (k ∷ before) new
knows-more size k before old new key h own up q =
    up.0 q
    ∙ ap (λ (b : Bool). cond b true (contains by_numbers old q)) (is_eq-slice_cmp key.items q.items ∙ ap (λ ks. bytes_eq ks q.items) own)
    ∙ ap (cond (bytes_eq (bytes_of size k) q.items) true) (h q)
    ∙ either (bytes_eq (bytes_of size k) q.items) (list_any (λ m. bytes_eq (bytes_of size m) q.items) before)
  where
    either : (a b : Bool) → cond a true b ≡ (a || b)
    either true b = refl
    either false b = refl

-- whether a key was there
pub key-new : (size k : ℕ) (before : List ℕ) (old : BTreeSet (Vec ℕ Global)) (key : Vec ℕ Global) (added : Bool) → Knows size before old → key.items ≡ bytes_of size k
    → added ≡ not (contains by_numbers old key) → added ≡ not (was_seen size k before)
key-new size k before old key added h own is = is ∙ ap not (h key ∙ ap (λ ks. list_any (λ m. bytes_eq (bytes_of size m) ks) before) own)

-- keys so far: those that were seen then, and what is left to be found out
pub record Reached (size : ℕ) (ks rest : List ℕ) (set : BTreeSet (Vec ℕ Global)) : Type 0 where
  pub seen : List ℕ
  pub known : Knows size seen set
  pub answer : news size [] ks ≡ news size seen rest

module _ (size : ℕ) (ks : List ℕ) (i : ℕ) (set : BTreeSet (Vec ℕ Global)) (key : Vec ℕ Global) (lt : i < length ks) (own : key.items ≡ bytes_of size (get_or ks i 0))
    (r : Reached size ks (drop i ks) set) where
  -- the key at a place, before the rest
  here : news size [] ks ≡ (not (was_seen size (get_or ks i 0) r.seen) && news size (get_or ks i 0 ∷ r.seen) (drop (i + 1) ks))
  here = r.answer ∙ ap (news size r.seen) (one_off ks i 0 lt)

  pub reached-no : false ≡ not (contains by_numbers set key) → false ≡ news size [] ks
  reached-no is = sym (here ∙ ap (λ b. b && news size (get_or ks i 0 ∷ r.seen) (drop (i + 1) ks)) (sym (key-new size (get_or ks i 0) r.seen set key false r.known own is)))

  pub reached-more : (new : BTreeSet (Vec ℕ Global)) → true ≡ not (contains by_numbers set key) → Updates by_numbers set new key true → Reached size ks (drop (i + 1) ks) new
  reached-more new is up = record {
    seen = get_or ks i 0 ∷ r.seen;
    known = knows-more size (get_or ks i 0) r.seen set new key r.known own up;
    answer = here ∙ ap (λ b. b && news size (get_or ks i 0 ∷ r.seen) (drop (i + 1) ks)) (sym (key-new size (get_or ks i 0) r.seen set key true r.known own is));
  }
