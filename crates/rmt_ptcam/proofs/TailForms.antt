-- Tails of entries that keep the rules of form, part by part.
use Rattle.std.proofs.Common.{◌≡◌, ◌&&◌, nat_lt, Bool, true, ℕ, ◌+◌, ◌*◌, ◌<◌, ◌≤◌, List, [], ◌∷◌, get_or, length, map, Option, Some, None, sym, subst, refl, zero, suc, arith}
use Rattle.std.specs.Prelude.{IfSome, nat_le, slice_get, ◌==◌}
use Rattle.std.specs.List.Sorted.{IsNonDecreasingBy}
use Rattle.std.proofs.lemmas.Bool.{and_parts, and_from, ltb-true, leb-true, lt-ltb, le-leb, eqb-true, eq-eqb}
use Rattle.rmt_ptcam.specs.Types.{ParserConfig, ParserEntry, TailOf}
use Rattle.rmt_config.specs.Order.{rises_from}
use Rattle.rmt_config.specs.TailForm.{has_greatest_length, has_length_field, is_tail_of}
use Rattle.rmt_ptcam.specs.Fitting.{IsTailOf}

-- a tail of an entry
pub record IsRowTail (e : ParserEntry) (t : TailOf) : Type 0 where
  pub header : t.header < 64
  pub some_bits : 1 ≤ t.len
  pub few_bits : t.len ≤ 8
  pub within : t.from + t.len ≤ 8 * e.need
  pub some_unit : 1 ≤ t.unit
  pub small_unit : t.unit < 256
  pub small_base : t.base < 256
  pub greatest : has_greatest_length t ≡ true
  pub moves : e.advance ≡ e.need

pub tail_parts : (e : ParserEntry) (t : TailOf) → is_tail_of t (Some e) ≡ true → IsRowTail e t
tail_parts e t is =
    let front : Bool = nat_lt t.header 64 && has_length_field e t in
    let a = and_parts (front && nat_le 1 t.unit && nat_lt t.unit 256 && nat_lt t.base 256 && has_greatest_length t) (e.advance == e.need) is in
    let b = and_parts (front && nat_le 1 t.unit && nat_lt t.unit 256 && nat_lt t.base 256) (has_greatest_length t) a.0 in
    let c = and_parts (front && nat_le 1 t.unit && nat_lt t.unit 256) (nat_lt t.base 256) b.0 in
    let d = and_parts (front && nat_le 1 t.unit) (nat_lt t.unit 256) c.0 in
    let f = and_parts front (nat_le 1 t.unit) d.0 in
    let g = and_parts (nat_lt t.header 64) (has_length_field e t) f.0 in
    let h = and_parts (nat_le 1 t.len && nat_le t.len 8) (nat_le (t.from + t.len) (8 * e.need)) g.1 in
    let i = and_parts (nat_le 1 t.len) (nat_le t.len 8) h.0 in
    record {
      header = ltb-true t.header 64 g.0;
      some_bits = leb-true 1 t.len i.0;
      few_bits = leb-true t.len 8 i.1;
      within = leb-true (t.from + t.len) (8 * e.need) h.1;
      some_unit = leb-true 1 t.unit f.1;
      small_unit = ltb-true t.unit 256 d.1;
      small_base = ltb-true t.base 256 c.1;
      greatest = b.1;
      moves = eqb-true e.advance e.need a.1;
    }

pub tail_from : (e : ParserEntry) (t : TailOf) → IsRowTail e t → is_tail_of t (Some e) ≡ true
tail_from e t is =
    let field : has_length_field e t ≡ true =
    and_from _ _ (and_from _ _ (le-leb 1 t.len is.some_bits) (le-leb t.len 8 is.few_bits)) (le-leb (t.from + t.len) (8 * e.need) is.within) in
    and_from _ _ (and_from _ _ (and_from _ _ (and_from _ _ (and_from _ _ (and_from _ _ (lt-ltb t.header 64 is.header) field) (le-leb 1 t.unit is.some_unit))
    (lt-ltb t.unit 256 is.small_unit)) (lt-ltb t.base 256 is.small_base)) is.greatest) (eq-eqb e.advance e.need is.moves)

-- another entry may have it too, from another bit, where that is within what it needs
pub other_tail : (e f : ParserEntry) (t : TailOf) (entry from : ℕ) → from + t.len ≤ 8 * f.need → f.advance ≡ f.need → IsRowTail e t → IsRowTail f (record t { entry = entry; from = from })
other_tail e f t entry from within moves is =
    record { header = is.header; some_bits = is.some_bits; few_bits = is.few_bits; within = within; some_unit = is.some_unit; small_unit = is.small_unit; small_base = is.small_base; greatest = is.greatest; moves = moves }

-- so it is one that the chip can run
pub tail_runs : (parser : ParserConfig) (t : TailOf) → is_tail_of t (slice_get parser.entries t.entry) ≡ true → IsTailOf parser t
tail_runs parser t is = by (slice_get parser.entries t.entry) refl
  where
    by : (o : Option ParserEntry) → slice_get parser.entries t.entry ≡ o → IsTailOf parser t
    by None there = (let no : is_tail_of t None ≡ true = subst (λ (o : Option ParserEntry). is_tail_of t o ≡ true) there is in absurd cc)
    by (Some e) there =
        let parts : IsRowTail e t = tail_parts e t (subst (λ (o : Option ParserEntry). is_tail_of t o ≡ true) there is) in
        record {
          header = parts.header;
          few_bits = parts.few_bits;
          within = subst (λ (o : Option ParserEntry). IfSome o (λ (x : ParserEntry). t.from + t.len ≤ 8 * x.need)) (sym there) parts.within;
        }

-- ---- rising numbers

pub rises_before : (less more : ℕ) (ns : List ℕ) → less ≤ more → rises_from more ns ≡ true → rises_from less ns ≡ true
rises_before less more [] le is = refl
rises_before less more (n ∷ ns) le is =
    let parts = and_parts (nat_le more n) (rises_from (n + 1) ns) is in
    let first : more ≤ n = leb-true more n parts.0 in
    and_from (nat_le less n) (rises_from (n + 1) ns) (le-leb less n (omega (arith, le, first))) parts.1

module _ {X : Type 0} (f : X → ℕ) where
  pub rises_least : (least : ℕ) (xs : List X) → rises_from least (map f xs) ≡ true → (i : ℕ) (d : X) → i < length xs → least ≤ f (get_or xs i d)
  rises_least least [] is i d lt = absurd (omega (arith, lt))
  rises_least least (x ∷ xs) is zero d lt = leb-true least (f x) (and_parts (nat_le least (f x)) (rises_from (f x + 1) (map f xs)) is).0
  rises_least least (x ∷ xs) is (suc i) d lt =
      let parts = and_parts (nat_le least (f x)) (rises_from (f x + 1) (map f xs)) is in
      let first : least ≤ f x = leb-true least (f x) parts.0 in
      let rest : f x + 1 ≤ f (get_or xs i d) = rises_least (f x + 1) xs parts.1 i d (omega (arith, lt)) in
      omega (arith, first, rest)

  -- what rises never falls
  pub rises_sorted : (least : ℕ) (xs : List X) → rises_from least (map f xs) ≡ true → IsNonDecreasingBy f xs
  rises_sorted least [] is i j d le lt = absurd (omega (arith, lt))
  rises_sorted least (x ∷ xs) is zero zero d le lt = omega arith
  rises_sorted least (x ∷ xs) is zero (suc j) d le lt =
      let rest : f x + 1 ≤ f (get_or xs j d) = rises_least (f x + 1) xs (and_parts (nat_le least (f x)) (rises_from (f x + 1) (map f xs)) is).1 j d (omega (arith, lt)) in
      omega (arith, rest)
  rises_sorted least (x ∷ xs) is (suc i) zero d le lt = absurd (omega (arith, le))
  rises_sorted least (x ∷ xs) is (suc i) (suc j) d le lt =
      rises_sorted (f x + 1) xs (and_parts (nat_le least (f x)) (rises_from (f x + 1) (map f xs)) is).1 i j d (omega (arith, le)) (omega (arith, lt))
