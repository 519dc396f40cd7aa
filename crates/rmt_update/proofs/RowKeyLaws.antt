-- The order of rows is that of pairs.
use Rattle.std.proofs.Common.{◌≡◌, ℕ, ◌-◌, ◌<◌, Bool, true, false, ◌&&◌, ◌||◌, cond, eqb, refl, sym, ap, ◌∙◌, arith}
use Rattle.std.specs.Prelude.{nat_lt}
use Rattle.std.specs.Ordering.{ordering_then}
use Rattle.std.specs.declared.cmp.Ordering.TheVariants.{Less, Equal, Greater}
use Rattle.std.proofs.lemmas.Bool.{eq-eqb, eqb-true}
use Rattle.std.proofs.lemmas.Bool.Decides.{nat_tests}
use Rattle.rmt_bits.proofs.OptionLaws.{same_Bool}
use Rattle.rmt_ast.specs.RankPairs.{pair_cmp}
use Rattle.rmt_ast.specs.RowOrder.{goes_first}
use Rattle.rmt_ast.specs.declared.entry.Entry.{Entry}
use Rattle.rmt_ast.specs.declared.program.Kind.TheVariants as kind
use Rattle.rmt_book.specs.RowOrder.{entry_key}

pub pair-less : (a b : ℕ × ℕ) → (nat_lt a.0 b.0 || (eqb a.0 b.0 && nat_lt a.1 b.1)) ≡ true → pair_cmp a b ≡ Less
pair-less a b h = by (nat_lt a.0 b.0) (eqb a.0 b.0) (nat_lt a.1 b.1) (eqb a.1 b.1) h
  where
    by : (x y z w : Bool) → (x || (y && z)) ≡ true → ordering_then (cond x Less (cond y Equal Greater)) (cond z Less (cond w Equal Greater)) ≡ Less
    by true y z w h = refl
    by false true true w h = refl
    by false true false w h = cc
    by false false z w h = cc

pub less-pair : (a b : ℕ × ℕ) → pair_cmp a b ≡ Less → (nat_lt a.0 b.0 || (eqb a.0 b.0 && nat_lt a.1 b.1)) ≡ true
less-pair a b h = by (nat_lt a.0 b.0) (eqb a.0 b.0) (nat_lt a.1 b.1) (eqb a.1 b.1) h
  where
    by : (x y z w : Bool) → ordering_then (cond x Less (cond y Equal Greater)) (cond z Less (cond w Equal Greater)) ≡ Less → (x || (y && z)) ≡ true
    by true y z w h = refl
    by false true true w h = refl
    by false true false true h = cc
    by false true false false h = cc
    by false false z w h = cc

turned : (a b : ℕ) → a < 4294967296 → b < 4294967296 → nat_lt (4294967295 - a) (4294967295 - b) ≡ nat_lt b a
turned a b la lb =
    same_Bool (nat_lt (4294967295 - a) (4294967295 - b)) (nat_lt b a)
    (λ e. let l : 4294967295 - a < 4294967295 - b = grind (arith, nat_tests, e) in let m : b < a = omega (arith, l, la, lb) in grind (arith, nat_tests, m))
    (λ e. let l : b < a = grind (arith, nat_tests, e) in let m : 4294967295 - a < 4294967295 - b = omega (arith, l, la, lb) in grind (arith, nat_tests, m))

same : (a b : ℕ) → a < 4294967296 → b < 4294967296 → eqb (4294967295 - a) (4294967295 - b) ≡ eqb a b
same a b la lb =
    same_Bool (eqb (4294967295 - a) (4294967295 - b)) (eqb a b)
    (λ e. let l = eqb-true (4294967295 - a) (4294967295 - b) e in eq-eqb a b (omega (arith, l, la, lb)))
    (λ e. eq-eqb (4294967295 - a) (4294967295 - b) (ap (λ n. 4294967295 - n) (eqb-true a b e)))

prefix-is : (a b : Entry) → a.rank < 4294967296 → b.rank < 4294967296
    → (nat_lt (4294967295 - a.rank) (4294967295 - b.rank) || (eqb (4294967295 - a.rank) (4294967295 - b.rank) && nat_lt a.number b.number)) ≡ goes_first kind.Prefix a b
prefix-is a b la lb =
    ap (λ x. x || (eqb (4294967295 - a.rank) (4294967295 - b.rank) && nat_lt a.number b.number)) (turned a.rank b.rank la lb)
    ∙ ap (λ x. nat_lt b.rank a.rank || (x && nat_lt a.number b.number)) (same a.rank b.rank la lb)

-- a prefix goes before another where its key is less
pub prefix-goes : (a b : Entry) → a.rank < 4294967296 → b.rank < 4294967296 → goes_first kind.Prefix a b ≡ true → pair_cmp (entry_key kind.Prefix a) (entry_key kind.Prefix b) ≡ Less
prefix-goes a b la lb h = pair-less (entry_key kind.Prefix a) (entry_key kind.Prefix b) (prefix-is a b la lb ∙ h)

pub prefix-goes-by : (a b : Entry) → a.rank < 4294967296 → b.rank < 4294967296 → pair_cmp (entry_key kind.Prefix a) (entry_key kind.Prefix b) ≡ Less → goes_first kind.Prefix a b ≡ true
prefix-goes-by a b la lb h = sym (prefix-is a b la lb) ∙ less-pair (entry_key kind.Prefix a) (entry_key kind.Prefix b) h
