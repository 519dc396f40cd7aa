-- Which rows of a prefix table go first goes on from row to row.
use Rattle.std.proofs.Common.{◌≡◌, ◌⊎◌, inl, inr, ℕ, ◌<◌, true, ◌&&◌, ltb, eqb, ◌∙◌, arith}
use Rattle.std.proofs.lemmas.Bool.{and_parts, and_from, or_cases, or_left, or_right, ltb-true, eqb-true, lt-ltb, eq-eqb}
use Rattle.rmt_config.specs.declared.form.names.prefix_rows.Row.{Row}
use Rattle.rmt_config.specs.PrefixRows.{length_in, row_goes_first}
use Rattle.rmt_config.proofs.SpelledOrder.{GoesOn}

module _ (bits : ℕ) where
  cases : (a b : Row) → row_goes_first bits a b ≡ true
      → (length_in bits b < length_in bits a) ⊎ ((length_in bits a ≡ length_in bits b) × (a.number < b.number))
  cases a b h =
      elim (or_cases (ltb (length_in bits b) (length_in bits a)) (eqb (length_in bits a) (length_in bits b) && ltb a.number b.number) h) [
        | inl lt ↦ inl (ltb-true (length_in bits b) (length_in bits a) lt)
        | inr same ↦
            let parts = and_parts (eqb (length_in bits a) (length_in bits b)) (ltb a.number b.number) same in
            inr (eqb-true (length_in bits a) (length_in bits b) parts.0, ltb-true a.number b.number parts.1)
      ]

  longer : (a b : Row) → length_in bits b < length_in bits a → row_goes_first bits a b ≡ true
  longer a b lt =
      or_left (ltb (length_in bits b) (length_in bits a)) (eqb (length_in bits a) (length_in bits b) && ltb a.number b.number)
      (lt-ltb (length_in bits b) (length_in bits a) lt)

  same : (a b : Row) → length_in bits a ≡ length_in bits b → a.number < b.number → row_goes_first bits a b ≡ true
  same a b e lt =
      or_right (ltb (length_in bits b) (length_in bits a)) (eqb (length_in bits a) (length_in bits b) && ltb a.number b.number)
      (and_from (eqb (length_in bits a) (length_in bits b)) (ltb a.number b.number) (eq-eqb (length_in bits a) (length_in bits b) e) (lt-ltb a.number b.number lt))

  pub first-on : GoesOn (row_goes_first bits)
  first-on a b c h g = by (cases a b h) (cases b c g)
    where
      by : (length_in bits b < length_in bits a) ⊎ ((length_in bits a ≡ length_in bits b) × (a.number < b.number))
          → (length_in bits c < length_in bits b) ⊎ ((length_in bits b ≡ length_in bits c) × (b.number < c.number)) → row_goes_first bits a c ≡ true
      by (inl x) (inl y) = longer a c (omega (arith, x, y))
      by (inl x) (inr y) = longer a c (omega (arith, x, y.0))
      by (inr x) (inl y) = longer a c (omega (arith, x.0, y))
      by (inr x) (inr y) = same a c (x.0 ∙ y.0) (omega (arith, x.1, y.1))
