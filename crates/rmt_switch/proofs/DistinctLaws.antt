-- Lists of ports, and that no port stands twice in them.
use Rattle.std.proofs.Common.{◌≡◌, ℕ, ◌<◌, ◌&&◌, Bool, cond, Option, Some, None, true, false, not, List, [], ◌∷◌, length, get_or, ap, sym, refl, eqb, ◌∙◌, subst, arith}
use Rattle.std.specs.Prelude.{nat_eq, nat_lt, nat_le, replicate, unwrap_or}
use Rattle.std.specs.List.{All, IsDistinct, list_any}
use Rattle.std.proofs.lemmas.Bool.{and_parts, eq-eqb, leb-true, ne_eqb, not-true, true≢false}
use Rattle.std.proofs.lemmas.List.{length-replicate}
use Rattle.std.proofs.lemmas.List.Elements.{All-cons, All-nil, All-replicate, All-tail, recursion_from_All}
use Rattle.std.proofs.lemmas.List.Folds.{list_any_at}
use Rattle.std.proofs.lemmas.Map.Keys.{IsDistinct-cons}
use Rattle.rmt_switch.specs.GroupText.{AreGroups, Group, IsPortList, all_ports, are_distinct, are_ports, before, decimal, group_of, numbers_of, port_of, words}
use Rattle.rmt_bits.proofs.DigitLaws.{below_limit}

pub distinct_none : IsDistinct nat_eq []
unfolding IsDistinct
distinct_none = tt

pub distinct_one : (n : ℕ) → IsDistinct nat_eq (n ∷ [])
distinct_one n = IsDistinct-cons nat_eq n [] (recursion_from_All (λ m. nat_eq n m ≡ false) [] (All-nil (λ m. nat_eq n m ≡ false))) distinct_none

pub no_ports : IsPortList []
no_ports = record { few = omega arith; within = All-nil (λ port. port < 512); once = distinct_none }

-- 512 lists without ports
pub empty_groups : AreGroups (replicate 512 [])
empty_groups = let none : List ℕ = [] in record { all = length-replicate 512 none; each = All-replicate IsPortList 512 [] no_ports }

-- what is tested of a line's ports
pub distinct_tested : (ns : List ℕ) → are_distinct ns ≡ true → IsDistinct nat_eq ns
distinct_tested [] h = distinct_none
distinct_tested (n ∷ ns) h =
    let parts = and_parts (not (list_any (λ m. eqb m n) ns)) (are_distinct ns) h in
    let apart : All (λ m. nat_eq n m ≡ false) ns = λ k d lt.
    ne_eqb n (get_or ns k d) (λ e. true≢false (sym (list_any_at (λ m. eqb m n) ns k d lt (eq-eqb (get_or ns k d) n (sym e))) ∙ not-true (list_any (λ m. eqb m n) ns) parts.0)) in
    IsDistinct-cons nat_eq n ns (recursion_from_All (λ m. nat_eq n m ≡ false) ns apart) (distinct_tested ns parts.1)

pub ports_tested : (ports : List ℕ) → are_ports ports ≡ true → All (λ port. port < 512) ports → IsPortList ports
ports_tested ports h within =
    let parts = and_parts (nat_lt 0 (length ports) && nat_le (length ports) 8) (are_distinct ports) h in
    let sizes = and_parts (nat_lt 0 (length ports)) (nat_le (length ports) 8) parts.0 in
    record { few = leb-true (length ports) 8 sizes.1; within = within; once = distinct_tested ports parts.1 }

-- ---- the numbers of a line are below 512

abbrev pub IsBelow : ℕ → Type 0
IsBelow n = n < 512

numbers_joined : (first : Option ℕ) (rest : Option (List ℕ)) → ((n : ℕ) → first ≡ Some n → IsBelow n) → ((ns : List ℕ) → rest ≡ Some ns → All IsBelow ns)
    → (ns : List ℕ) → before first rest ≡ Some ns → All IsBelow ns
numbers_joined None rest f r ns e = absurd (cc)
numbers_joined (Some n) None f r ns e = absurd (cc)
numbers_joined (Some n) (Some more) f r ns e =
    let same : n ∷ more ≡ ns = ap (λ (o : Option (List ℕ)). unwrap_or o []) e in
    subst (λ (xs : List ℕ). All IsBelow xs) same (All-cons IsBelow n more (f n refl) (r more refl))

words_below : (ws : List (List ℕ)) (ns : List ℕ) → all_ports ws ≡ Some ns → All IsBelow ns
words_below [] ns e = let same : [] ≡ ns = ap (λ (o : Option (List ℕ)). unwrap_or o []) e in subst (λ (xs : List ℕ). All IsBelow xs) same (All-nil IsBelow)
words_below (w ∷ ws) ns e = numbers_joined (port_of w) (all_ports ws) (λ n. below_limit 512 (decimal w) n) (λ more. words_below ws more) ns e

-- the group of a line has a number and ports below 512
pub record Fits (g : Group) : Type 0 where
  pub number : g.number < 512
  pub ports : IsPortList g.ports

group_fits : (numbers : Option (List ℕ)) → ((ns : List ℕ) → numbers ≡ Some ns → All IsBelow ns) → (g : Group) → group_of numbers ≡ Some g → Fits g
group_fits None all g e = absurd (cc)
group_fits (Some []) all g e = absurd (cc)
group_fits (Some (n ∷ ports)) all g e = tested (nat_le 256 n && are_ports ports) refl e
  where
    here : Group
    here = record { number = n; ports = ports }

    tested : (b : Bool) → (nat_le 256 n && are_ports ports) ≡ b → cond b (Some here) None ≡ Some g → Fits g
    tested true t h =
        let same : here ≡ g = ap (λ (o : Option Group). unwrap_or o here) h in
        let below_all = all (n ∷ ports) refl in
        let parts = and_parts (nat_le 256 n) (are_ports ports) t in
        subst Fits same (record { number = below_all 0 0 (omega arith); ports = ports_tested ports parts.1 (All-tail IsBelow n ports below_all) })
    tested false t h = absurd (cc)

pub line_fits : (line : List ℕ) (g : Group) → group_of (numbers_of line) ≡ Some g → Fits g
line_fits line g e = group_fits (numbers_of line) (words_below (words line)) g e
