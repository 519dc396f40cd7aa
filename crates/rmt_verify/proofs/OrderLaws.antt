-- Entries by their numbers, and in the order of their rows.
use Rattle.std.proofs.Common.{◌≡◌, ℕ, ◌+◌, ◌-◌, ◌<◌, ◌≤◌, ◌&&◌, ◌||◌, ◌==◌, ◌++◌, ◌∷◌, [], Bool, true, false, List, length, length-append, get_or, take, drop, take-append-drop, All, Contains, refl, sym, ap, ◌∙◌, subst, inl, inr, arith}
use Rattle.std.specs.Prelude.{AllPairs, nat_lt}
use Rattle.std.proofs.lemmas.Bool.{both_ways, cases_lt, cases_order, eq-eqb, eqb-true, false≢true, lt-ltb, le-ltb}
use Rattle.std.proofs.lemmas.List.{append-nil, get_or_default, take_more}
use Rattle.std.proofs.lemmas.List.Concat.{flat_map-append}
use Rattle.rmt_ast.specs.declared.entry.Entry.{Entry}
use Rattle.rmt_ast.specs.declared.program.Kind.{Kind}
use Rattle.rmt_ast.specs.declared.program.Kind.TheVariants as kind
use Rattle.rmt_ast.specs.RowOrder.{goes_first}
use Rattle.rmt_config.specs.Commits.{all_entries}
use Rattle.rmt_verify.specs.CellsHeld.{KeepsOrder}

-- ---- by number

abbrev pub Rise : List Entry → Type 0
Rise es = AllPairs (λ (a b : Entry). a.number < b.number) es

-- two entries of one number are one
pub one_numbered : (es : List Entry) → Rise es → (e f : Entry) → Contains es e → Contains es f → e.number ≡ f.number → e ≡ f
one_numbered es rise e f in_e in_f same = elim (cases_order in_e.0 in_f.0) [
  | inl is ↦ sym in_e.2 ∙ get_or_default es in_e.0 e f in_e.1 ∙ ap (λ i. get_or es i f) is ∙ in_f.2
  | inr more ↦ elim more [
    | inl low ↦ absurd (below in_e in_f low same)
    | inr high ↦ absurd (below in_f in_e high (sym same))
  ]
]
  where
    below : {x y : Entry} (in_x : Contains es x) (in_y : Contains es y) → in_x.0 < in_y.0 → x.number ≡ y.number → ⊥
    below {x} {y} in_x in_y lt is =
        let up = rise in_x.0 in_y.0 x lt in_y.1 in
        let a : (get_or es in_x.0 x).number ≡ x.number = ap (λ (z : Entry). z.number) in_x.2 in
        let b : (get_or es in_y.0 x).number ≡ y.number = ap (λ (z : Entry). z.number) (get_or_default es in_y.0 x y in_y.1 ∙ in_y.2) in
        omega (arith, up, a, b, is)

-- ---- in the order of rows

neither : (x y z : Bool) → (x || (y && z)) ≡ false → (x ≡ false) × (y ≡ true → z ≡ false)
neither true y z e = absurd (false≢true (sym e))
neither false true z e = (refl, λ yes. e)
neither false false z e = (refl, λ yes. absurd (false≢true yes))

nor : (x y z : Bool) → x ≡ false → (y ≡ true → z ≡ false) → (x || (y && z)) ≡ false
nor true y z e f = absurd (false≢true (sym e))
nor false true z e f = f refl
nor false false z e f = refl

not_below : (a b : ℕ) → nat_lt a b ≡ false → b ≤ a
not_below a b e = elim (cases_lt a b) [
  | inl lt ↦ absurd (both_ways (nat_lt a b) e (lt-ltb a b lt))
  | inr le ↦ le
]

-- a number that is not below a second, nor this one below a third
not_below_both : (a b x : ℕ) → nat_lt a b ≡ false → nat_lt b x ≡ false → (nat_lt a x ≡ false) × (a ≡ x → b ≡ a)
not_below_both a b x p q =
    let ab = not_below a b p in
    let bx = not_below b x q in
    (le-ltb a x (omega (arith, ab, bx)), λ same. omega (arith, ab, bx, same))

-- the same of entries that one test of their ranks compares, and then their numbers
never_behind : (ab bx ax : Bool) (a b x : Entry) → (ab ≡ false → bx ≡ false → (ax ≡ false) × (x.rank ≡ a.rank → b.rank ≡ a.rank)) → (ab || (b.rank == a.rank && nat_lt b.number a.number)) ≡ false
    → (bx || (x.rank == b.rank && nat_lt x.number b.number)) ≡ false → (ax || (x.rank == a.rank && nat_lt x.number a.number)) ≡ false
never_behind ab bx ax a b x ranks p q =
    let one = neither ab (b.rank == a.rank) (nat_lt b.number a.number) p in
    let two = neither bx (x.rank == b.rank) (nat_lt x.number b.number) q in
    let on = ranks one.0 two.0 in
    nor ax (x.rank == a.rank) (nat_lt x.number a.number) on.0
    (λ same.
    (let xa = eqb-true x.rank a.rank same in
    let ba = on.1 xa in
    (not_below_both x.number b.number a.number (two.1 (eq-eqb x.rank b.rank (xa ∙ sym ba))) (one.1 (eq-eqb b.rank a.rank ba))).0))

-- where an entry does not go before another, nor a third before this one, the third does not go before the first
pub never_turns : (k : Kind) (a b x : Entry) → goes_first k b a ≡ false → goes_first k x b ≡ false → goes_first k x a ≡ false
never_turns kind.Keyless a b x p q = refl
never_turns kind.Exact a b x p q = refl
never_turns kind.Prefix a b x p q =
    never_behind (nat_lt a.rank b.rank) (nat_lt b.rank x.rank) (nat_lt a.rank x.rank) a b x
    (λ ab bx. let both = not_below_both a.rank b.rank x.rank ab bx in (both.0, λ same. both.1 (sym same))) p q
never_turns kind.Ternary a b x p q =
    never_behind (nat_lt b.rank a.rank) (nat_lt x.rank b.rank) (nat_lt x.rank a.rank) a b x
    (λ ab bx. let both = not_below_both x.rank b.rank a.rank bx ab in (both.0, λ same. both.1 same ∙ same)) p q

-- so numbers keep the order over one between, which an entry has
pub order_on : (k : Kind) (es : List Entry) (a b x : ℕ) → ((e : Entry) × Contains es e × (e.number ≡ b)) → KeepsOrder k es a b → KeepsOrder k es b x → KeepsOrder k es a x
order_on k es a b x (between, there, is) first next e f in_e in_f at_e at_f = never_turns k e between f (first e between in_e there at_e is) (next between f there in_f is at_f)

-- one number more that keeps the order with the last
pub order_more : (k : Kind) (es : List Entry) (ns : List ℕ) (at : ℕ) → 1 ≤ at → at < length ns → All (λ n. (e : Entry) × Contains es e × (e.number ≡ n)) ns
    → ((i j : ℕ) → i < j → j < at → KeepsOrder k es (get_or ns i 0) (get_or ns j 0)) → KeepsOrder k es (get_or ns (at - 1) 0) (get_or ns at 0)
    → (i j : ℕ) → i < j → j < at + 1 → KeepsOrder k es (get_or ns i 0) (get_or ns j 0)
order_more k es ns at some lt there so_far last i j low below = elim (cases_lt j at) [
  | inl before ↦ so_far i j low before
  | inr here ↦
      let j_is : j ≡ at = omega (arith, here, below) in
      subst (λ m. KeepsOrder k es (get_or ns i 0) (get_or ns m 0)) (sym j_is) (elim (cases_lt i (at - 1)) as (λ _. KeepsOrder k es (get_or ns i 0) (get_or ns at 0)) [
        | inl more ↦ order_on k es (get_or ns i 0) (get_or ns (at - 1) 0) (get_or ns at 0) (there (at - 1) 0 (omega (arith, lt, some))) (so_far i (at - 1) more (omega (arith, some))) last
        | inr le ↦ (let i_is : at - 1 ≡ i = omega (arith, le, low, j_is, some) in subst (λ m. KeepsOrder k es (get_or ns m 0) (get_or ns at 0)) i_is last)
      ])
]

pub order_all : (k : Kind) (es : List Entry) (ns : List ℕ) (at : ℕ) → length ns ≤ at → ((i j : ℕ) → i < j → j < at → KeepsOrder k es (get_or ns i 0) (get_or ns j 0)) → AllPairs (KeepsOrder k es) ns
order_all k es ns at le so_far i j d lt within =
    subst (λ a. KeepsOrder k es a (get_or ns j d)) (get_or_default ns i 0 d (omega (arith, lt, within)))
    (subst (KeepsOrder k es (get_or ns i 0)) (get_or_default ns j 0 d within) (so_far i j lt (omega (arith, within, le))))

-- ---- how many

pub entries_more : (lists : List (List Entry)) (i : ℕ) (d : List Entry) → i < length lists → length (all_entries (take (i + 1) lists)) ≡ length (all_entries (take i lists)) + length (get_or lists i d)
entries_more lists i d lt =
    ap (λ (ls : List (List Entry)). length (all_entries ls)) (take_more lists i d lt)
    ∙ ap (λ (es : List Entry). length es) (flat_map-append (λ (es : List Entry). es) (take i lists) (get_or lists i d ∷ []))
    ∙ length-append (all_entries (take i lists)) (get_or lists i d ++ [])
    ∙ ap (λ (es : List Entry). length (all_entries (take i lists)) + length es) (append-nil (get_or lists i d))

pub entries_most : (lists : List (List Entry)) (i : ℕ) → length (all_entries (take i lists)) ≤ length (all_entries lists)
entries_most lists i =
    let cut : all_entries lists ≡ all_entries (take i lists) ++ all_entries (drop i lists) =
    ap all_entries (sym (take-append-drop i lists)) ∙ flat_map-append (λ (es : List Entry). es) (take i lists) (drop i lists) in
    let long : length (all_entries lists) ≡ length (all_entries (take i lists)) + length (all_entries (drop i lists)) =
    ap (λ (es : List Entry). length es) cut ∙ length-append (all_entries (take i lists)) (all_entries (drop i lists)) in
    omega (arith, long)
