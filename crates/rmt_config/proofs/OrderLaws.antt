-- How numbers compare.
use Rattle.std.proofs.Common.{◌≡◌, ℕ, eqb, sym, ap, ◌∙◌, inl, inr, arith}
use Rattle.std.specs.Cmp.{nat_cmp_is}
use Rattle.std.specs.Ordering.{is_eq, nat_cmp}
use Rattle.std.specs.declared.cmp.Ordering.TheVariants.{Less, Equal, Greater}
use Rattle.std.proofs.lemmas.Bool.{cases_lt, eq-eqb, ne_eqb}

-- numbers that compare as equal
pub same_number : (k q : ℕ) → is_eq (nat_cmp k q) ≡ eqb k q
same_number k q = elim (cases_lt k q) as (λ _. is_eq (nat_cmp k q) ≡ eqb k q) [
  | inl lt ↦ ap is_eq (sym (nat_cmp_is k q Less lt)) ∙ sym (ne_eqb k q (λ e. absurd (omega (arith, lt, e))))
  | inr le ↦ elim (cases_lt q k) as (λ _. is_eq (nat_cmp k q) ≡ eqb k q) [
    | inl gt ↦ ap is_eq (sym (nat_cmp_is k q Greater gt)) ∙ sym (ne_eqb k q (λ e. absurd (omega (arith, gt, e))))
    | inr ge ↦ let e : k ≡ q = omega (arith, le, ge) in ap is_eq (sym (nat_cmp_is k q Equal e)) ∙ sym (eq-eqb k q e)
  ]
]
