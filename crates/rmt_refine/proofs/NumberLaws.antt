-- The numbers of entries in counted tables.
use Rattle.std.proofs.Common.{◌≡◌, ℕ, zero, suc, ◌+◌, Bool, true, false, ◌==◌, cond, List, [], ◌∷◌, ◌++◌, Some, length, refl, sym, ap, ◌∙◌, subst, inl, inr, arith}
use Rattle.std.specs.Prelude.{Contains, option_map, slice_get, unwrap_or}
use Rattle.std.specs.List.{flat_map, list_any}
use Rattle.std.proofs.Math.ListN.{get_or-append}
use Rattle.std.proofs.lemmas.Bool.{both_ways, eq-eqb, false_from_ne_true}
use Rattle.std.proofs.lemmas.List.{get_or-append-add, length-append}
use Rattle.std.proofs.lemmas.List.Elements.{Contains-append_cases, Contains-append_left, Contains-append_right}
use Rattle.std.proofs.lemmas.Option.{none-some, same_Some}
use Rattle.rmt_refine.specs.Types.{Program, Table, Node, What}
use Rattle.rmt_ast.specs.declared.program.What.TheVariants.{Apply, Gate}
use Rattle.rmt_ast.specs.declared.entry.Entry.{Entry}
use Rattle.rmt_ast.specs.Answers.{counted_numbers, entry_numbers, is_counted}
use Rattle.rmt_ast.specs.EntryLists.{AreEntries}
use Rattle.rmt_ast.specs.WellFormed.{AreDistinct}
use Rattle.rmt_refine.specs.Units.{applied}
use Rattle.rmt_refine.specs.Outcomes.{entries_at}
use Rattle.rmt_refine.proofs.OutcomeLaws.{list_at}
use Rattle.rmt_bits.proofs.MemberLaws.{Contains-map, Contains-item, Contains-flat_map, list_any-Contains, Contains-from_any}

-- ---- which numbers are counted

pub in_counted : (p : Program) (nodes : List Node) (lists : List (List Entry)) (n : ℕ) (node : Node) (es : List Entry) (x : ℕ) → slice_get nodes n ≡ Some node → slice_get lists n ≡ Some es
    → is_counted p node.what ≡ true → Contains (entry_numbers es) x → Contains (counted_numbers p nodes lists) x
in_counted p [] lists n node es x at list counted there = absurd (none-some node at)
in_counted p (q ∷ nodes) [] n node es x at list counted there = absurd (none-some es list)
in_counted p (q ∷ nodes) (fs ∷ lists) zero node es x at list counted there =
    Contains-append_left (cond (is_counted p q.what) (entry_numbers fs) []) (counted_numbers p nodes lists) x
    (subst (λ b. Contains (cond b (entry_numbers fs) []) x) (sym (ap (λ (m : Node). is_counted p m.what) (same_Some q node at) ∙ counted))
    (subst (λ gs. Contains (entry_numbers gs) x) (sym (same_Some fs es list)) there))
in_counted p (q ∷ nodes) (fs ∷ lists) (suc n) node es x at list counted there =
    Contains-append_right (cond (is_counted p q.what) (entry_numbers fs) []) (counted_numbers p nodes lists) x (in_counted p nodes lists n node es x at list counted there)

-- a number that is that of an entry of a counted table's node
pub record IsCounted (p : Program) (nodes : List Node) (lists : List (List Entry)) (x : ℕ) : Type 0 where
  pub n : ℕ
  pub node : Node
  pub es : List Entry
  pub node_is : slice_get nodes n ≡ Some node
  pub list_is : slice_get lists n ≡ Some es
  pub counted : is_counted p node.what ≡ true
  pub there : Contains (entry_numbers es) x

pub from_counted : (p : Program) (nodes : List Node) (lists : List (List Entry)) (x : ℕ) → Contains (counted_numbers p nodes lists) x → IsCounted p nodes lists x
from_counted p [] lists x there = absurd (let lt = there.1 in omega (arith, lt))
from_counted p (q ∷ nodes) [] x there = absurd (let lt = there.1 in omega (arith, lt))
from_counted p (q ∷ nodes) (fs ∷ lists) x there =
    elim (Contains-append_cases (cond (is_counted p q.what) (entry_numbers fs) []) (counted_numbers p nodes lists) x there) [
      | inl here ↦ first (is_counted p q.what) refl here
      | inr later ↦
          let r = from_counted p nodes lists x later in
          record { n = suc r.n; node = r.node; es = r.es; node_is = r.node_is; list_is = r.list_is; counted = r.counted; there = r.there }
    ]
  where
    first : (b : Bool) → is_counted p q.what ≡ b → Contains (cond b (entry_numbers fs) []) x → IsCounted p (q ∷ nodes) (fs ∷ lists) x
    first true is here = record { n = 0; node = q; es = fs; node_is = refl; list_is = refl; counted = is; there = here }
    first false is here = absurd (let lt = here.1 in omega (arith, lt))

-- ---- each number stands in one list

never_both : (xs ys : List ℕ) (x : ℕ) → AreDistinct (xs ++ ys) → Contains xs x → Contains ys x → ⊥
never_both xs ys x distinct a b =
    distinct a.0 (length xs + b.0) x (omega (arith, a.1)) (omega (arith, b.1, length-append xs ys))
    (get_or-append xs ys x a.0 a.1 ∙ a.2 ∙ sym (get_or-append-add xs ys b.0 x ∙ b.2))

distinct_rest : (xs ys : List ℕ) → AreDistinct (xs ++ ys) → AreDistinct ys
distinct_rest xs ys distinct i j d lt inside e =
    distinct (length xs + i) (length xs + j) d (omega (arith, lt)) (omega (arith, inside, length-append xs ys))
    (get_or-append-add xs ys i d ∙ e ∙ sym (get_or-append-add xs ys j d))

in_rest : (lists : List (List Entry)) (j : ℕ) (b : List Entry) (x : ℕ) → slice_get lists j ≡ Some b → Contains (entry_numbers b) x → Contains (flat_map entry_numbers lists) x
in_rest lists j b x at there = Contains-flat_map entry_numbers lists b x (Contains-item lists j b at) there

pub one_list : (lists : List (List Entry)) (i j : ℕ) (a b : List Entry) (x : ℕ) → AreDistinct (flat_map entry_numbers lists) → slice_get lists i ≡ Some a → slice_get lists j ≡ Some b
    → Contains (entry_numbers a) x → Contains (entry_numbers b) x → i ≡ j
one_list [] i j a b x distinct at bt in_a in_b = absurd (none-some a at)
one_list (es ∷ lists) zero zero a b x distinct at bt in_a in_b = refl
one_list (es ∷ lists) zero (suc j) a b x distinct at bt in_a in_b =
    absurd (never_both (entry_numbers es) (flat_map entry_numbers lists) x distinct (subst (λ gs. Contains (entry_numbers gs) x) (sym (same_Some es a at)) in_a)
    (in_rest lists j b x bt in_b))
one_list (es ∷ lists) (suc i) zero a b x distinct at bt in_a in_b =
    absurd (never_both (entry_numbers es) (flat_map entry_numbers lists) x distinct (subst (λ gs. Contains (entry_numbers gs) x) (sym (same_Some es b bt)) in_b)
    (in_rest lists i a x at in_a))
one_list (es ∷ lists) (suc i) (suc j) a b x distinct at bt in_a in_b =
    ap suc (one_list lists i j a b x (distinct_rest (entry_numbers es) (flat_map entry_numbers lists) distinct) at bt in_a in_b)

-- ---- the numbers of a table

pub counted_is : (p : Program) (w : What) (t : Table) → applied p w ≡ Some t → is_counted p w ≡ t.counted
counted_is p (Apply i) t e = ap (λ o. unwrap_or (option_map (λ (x : Table). x.counted) o) false) e
counted_is p (Gate field test) t e = absurd (none-some t e)

-- an entry's number is counted exactly where its table is
pub number_counted : (p : Program) (lists : List (List Entry)) (n : ℕ) (node : Node) (t : Table) (e : Entry) → AreEntries p lists → slice_get p.nodes n ≡ Some node → applied p node.what ≡ Some t
    → Contains (entries_at lists n) e → list_any (λ m. m == e.number) (counted_numbers p p.nodes lists) ≡ t.counted
number_counted p lists n node t e entries at table there = by t.counted refl
  where
    list : slice_get lists n ≡ Some (entries_at lists n)
    list = (list_at p lists n node entries at).0

    own : Contains (entry_numbers (entries_at lists n)) e.number
    own = Contains-map (λ (x : Entry). x.number) (entries_at lists n) e there

    by : (b : Bool) → t.counted ≡ b → list_any (λ m. m == e.number) (counted_numbers p p.nodes lists) ≡ t.counted
    by true is =
        list_any-Contains (λ m. m == e.number) (counted_numbers p p.nodes lists) e.number
        (in_counted p p.nodes lists n node (entries_at lists n) e.number at list (counted_is p node.what t table ∙ is) own)
        (eq-eqb e.number e.number refl) ∙ sym is
    by false is =
        false_from_ne_true (list_any (λ m. m == e.number) (counted_numbers p p.nodes lists)) (λ any.
        let r = from_counted p p.nodes lists e.number (Contains-from_any (counted_numbers p p.nodes lists) e.number any) in
        let same = one_list lists n r.n (entries_at lists n) r.es e.number entries.numbers_once list r.list_is own r.there in
        let same_node : node ≡ r.node = same_Some node r.node (sym at ∙ ap (slice_get p.nodes) same ∙ r.node_is) in
        both_ways (is_counted p node.what) (counted_is p node.what t table ∙ is) (ap (λ (m : Node). is_counted p m.what) same_node ∙ r.counted))
        ∙ sym is
