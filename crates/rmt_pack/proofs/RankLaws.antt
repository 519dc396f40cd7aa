-- Which of two entries goes first, by rank.
use Rattle.std.proofs.Common.{◌≡◌, ℕ, ◌<◌, true, false, ◌&&◌, ◌==◌, refl, ◌∙◌, ◌⊎◌, inl, inr, arith}
use Rattle.std.specs.Prelude.{nat_lt}
use Rattle.std.proofs.lemmas.Bool.{and_parts, both_ways, eqb-true, eq-eqb, lt-ltb, ltb-true, or_cases, or_left, or_right, and_from}
use Rattle.rmt_ast.specs.declared.program.Kind.{Kind}
use Rattle.rmt_ast.specs.declared.program.Kind.TheVariants.{Keyless, Exact, Prefix, Ternary}
use Rattle.rmt_ast.specs.declared.entry.Entry.{Entry}
use Rattle.rmt_ast.specs.Lookup.{precedes}
use Rattle.rmt_ast.specs.RowOrder.{goes_first}

never_lt : (n : ℕ) → nat_lt n n ≡ true → ⊥
never_lt n h = let lt = ltb-true n n h in omega (arith, lt)

lt_chain : (a b c : ℕ) → nat_lt a b ≡ true → nat_lt b c ≡ true → nat_lt a c ≡ true
lt_chain a b c h g = let ab = ltb-true a b h in let bc = ltb-true b c g in lt-ltb a c (omega (arith, ab, bc))

-- a lower priority number, or the same and an earlier line
abbrev IsEarlier : Entry → Entry → Type 0
IsEarlier a b = (a.rank < b.rank) ⊎ ((a.rank ≡ b.rank) × (a.number < b.number))

earlier : (a b : Entry) → precedes Ternary a b ≡ true → IsEarlier a b
earlier a b h =
    elim (or_cases (nat_lt a.rank b.rank) ((a.rank == b.rank) && nat_lt a.number b.number) h) [
      | inl lt ↦ inl (ltb-true a.rank b.rank lt)
      | inr both ↦
          let r = and_parts (a.rank == b.rank) (nat_lt a.number b.number) both in
          inr (eqb-true a.rank b.rank r.0, ltb-true a.number b.number r.1)
    ]

pub from_earlier : (a b : Entry) → IsEarlier a b → precedes Ternary a b ≡ true
from_earlier a b (inl lt) = or_left (nat_lt a.rank b.rank) ((a.rank == b.rank) && nat_lt a.number b.number) (lt-ltb a.rank b.rank lt)
from_earlier a b (inr both) =
    or_right (nat_lt a.rank b.rank) ((a.rank == b.rank) && nat_lt a.number b.number)
    (and_from (a.rank == b.rank) (nat_lt a.number b.number) (eq-eqb a.rank b.rank both.0) (lt-ltb a.number b.number both.1))

pub precedes_never : (kind : Kind) (e : Entry) → precedes kind e e ≡ true → ⊥
precedes_never Keyless e h = both_ways false refl h
precedes_never Exact e h = both_ways false refl h
precedes_never Prefix e h = never_lt e.rank h
precedes_never Ternary e h =
    elim (earlier e e h) [
      | inl lt ↦ omega (arith, lt)
      | inr both ↦ let lt = both.1 in omega (arith, lt)
    ]

pub goes_never : (kind : Kind) (e : Entry) → goes_first kind e e ≡ true → ⊥
goes_never Keyless e h = both_ways false refl h
goes_never Exact e h = both_ways false refl h
goes_never Prefix e h =
    elim (or_cases (nat_lt e.rank e.rank) ((e.rank == e.rank) && nat_lt e.number e.number) h) [
      | inl lt ↦ never_lt e.rank lt
      | inr both ↦ never_lt e.number (and_parts (e.rank == e.rank) (nat_lt e.number e.number) both).1
    ]
goes_never Ternary e h = precedes_never Ternary e h

earlier_chain : (a b c : Entry) → IsEarlier a b → IsEarlier b c → IsEarlier a c
earlier_chain a b c (inl x) (inl y) = inl (omega (arith, x, y))
earlier_chain a b c (inl x) (inr y) = let e = y.0 in inl (omega (arith, x, e))
earlier_chain a b c (inr x) (inl y) = let e = x.0 in inl (omega (arith, y, e))
earlier_chain a b c (inr x) (inr y) = let l = x.1 in let m = y.1 in inr (x.0 ∙ y.0, omega (arith, l, m))

pub precedes_chain : (kind : Kind) (a b c : Entry) → precedes kind a b ≡ true → precedes kind b c ≡ true → precedes kind a c ≡ true
precedes_chain Keyless a b c h g = h
precedes_chain Exact a b c h g = h
precedes_chain Prefix a b c h g = lt_chain c.rank b.rank a.rank g h
precedes_chain Ternary a b c h g = from_earlier a c (earlier_chain a b c (earlier a b h) (earlier b c g))

-- the kinds whose cells are rows, in each of which any key may stand
abbrev pub IsRowKind : Kind → Type 0
IsRowKind k = (k ≡ Prefix) ⊎ (k ≡ Ternary)
