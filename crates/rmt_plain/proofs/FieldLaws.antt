-- Fields one after another.
use Rattle.std.proofs.Common.{◌≡◌, ℕ, ◌+◌, ◌*◌, ◌/◌, ◌%◌, ◌^◌, ◌<◌, ◌≤◌, nat_lt, true, false, List, length, drop, ◌⊎◌, inl, inr, ⊎_elim, Option, Some, None, refl, ap, ◌∙◌, arith}
use Rattle.std.specs.Prelude.{slice_get, slice_index, option_map, unwrap_or}
use Rattle.std.proofs.lemmas.List.{at_drop_more, get_or_past}
use Rattle.std.proofs.lemmas.Bool.{ltb-true, ltb-false}
use Rattle.std.proofs.lemmas.Nat.{pow_pos}
use Rattle.std.proofs.Math.Nat.{div-one, mod-eq_of_lt}
use Rattle.rmt_bits.proofs.AllLaws.{All-slice_get}
use Rattle.rmt_ast.specs.declared.program.Program.{Program}
use Rattle.rmt_ast.specs.declared.program.Field.{Field}
use Rattle.rmt_ast.specs.State.{IsState, width_of, joined}
use Rattle.rmt_ast.specs.WellFormed.{bits_of}
use Rattle.rmt_plain.specs.Runnable.{IsRunnable}

-- the first of the fields from one on is highest
pub joined-drop : (p : Program) (fields s : List ℕ) (i : ℕ) → i < length fields
    → joined p (drop i fields) s ≡ slice_index s (slice_index fields i) * 2 ^ bits_of p (drop (i + 1) fields) + joined p (drop (i + 1) fields) s
joined-drop p fields s i h = at_drop_more (λ (fs : List ℕ). joined p fs s) fields i 0 h

-- each number of a state fits its field, and there is 0 behind the last
pub fits_field : (p : Program) (s : List ℕ) (f : ℕ) → IsState p s → slice_index s f < 2 ^ width_of p f
fits_field p s f state =
    ⊎_elim (λ (inside : f < length p.fields). state.fits f inside)
    (λ (past : length p.fields ≤ f).
    let same = state.one_each in
    let none : slice_index s f ≡ 0 = get_or_past s f 0 (omega arith) in
    let positive = pow_pos (width_of p f) in
    omega arith)
    (below_or_past f (length p.fields))
  where
    below_or_past : (a b : ℕ) → (a < b) ⊎ (b ≤ a)
    below_or_past a b = elim (nat_lt a b) as (λ t. nat_lt a b ≡ t → (a < b) ⊎ (b ≤ a)) [ true ↦ λ e. inl (ltb-true a b e) | false ↦ λ e. inr (ltb-false a b e) ] refl

-- so it is its own lowest bits
pub value_held : (p : Program) (s : List ℕ) (f : ℕ) → IsState p s → slice_index s f / 2 ^ 0 % 2 ^ width_of p f ≡ slice_index s f
value_held p s f state = ap (λ (n : ℕ). n % 2 ^ width_of p f) (div-one (slice_index s f)) ∙ mod-eq_of_lt (fits_field p s f state)

-- no field has more than 128 bits
pub width_of-le : (p : Program) (f : ℕ) → IsRunnable p → width_of p f ≤ 128
width_of-le p f good = by (slice_get p.fields f) refl
  where
    by : (o : Option Field) → slice_get p.fields f ≡ o → unwrap_or (option_map (λ (x : Field). x.width) o) 0 ≤ 128
    by None e = omega arith
    by (Some x) e = All-slice_get (λ (x : Field). x.width ≤ 128) p.fields f x good.narrow e
