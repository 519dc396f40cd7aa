-- The nodes of a text that breaks no rule, of which exactly one applies each table.
use Rattle.std.proofs.Common.{◌≡◌, ◌≢◌, ℕ, ◌+◌, ◌-◌, ◌/◌, ◌^◌, ◌%◌, min, List, [], ◌∷◌, Some, Option, option_map, map, take, bit_and, slice_get, refl, sym, ap, subst, ◌∙◌, arith, Bool, true, false, cond, ◌||◌, ◌==◌, filter_map, count_by, All, ap₂, zero-add}
use Rattle.std.specs.List.{flat_map, cons_option}
use Rattle.std.specs.Option.{option_map_or}
use Rattle.std.proofs.lemmas.List.{length-map}
use Rattle.std.proofs.lemmas.Option.{slice_get-map}
use Rattle.std.proofs.lemmas.Nat.Bits.{bit_at_lowest, bit_at_and, bit_at-pow_other}
use Rattle.rmt_ast.specs.WellFormed.{AllNumbered, AreDistinct, IsGuard, IsTest, IsWhat, IsNode, AreAppliedOnce, applies}
use Rattle.rmt_check.specs.Parts.{Node, Ident, ValueText, TableText, ArmText, Under, WhatText, NodeText, Source}
use Rattle.rmt_check.specs.declared.source.WhatText.TheVariants.{Apply, If}
use Rattle.rmt_ast.specs.NameList.{is_known}
use Rattle.rmt_check.specs.Names.{nodes_of, table_names, listed_by, named, width_of, applied, applied_tables}
use Rattle.rmt_check.specs.Rules.{unknown, unknown_in_node, too_wide_node, arm_names}
use Rattle.rmt_check.specs.Meaning.{index_of, outcomes_of, all_outcomes, mask_in, guard_of, what_of, node_of, table_of, test_of, program_of}
use Rattle.rmt_check.specs.Naming.{IsUnder}
use Rattle.rmt_bits.proofs.AllLaws.{All-slice_get}
use Rattle.rmt_bits.proofs.ListLaws.{append-nil_left, slice_get-item}
use Rattle.rmt_bits.proofs.PairLaws.{AllPairs-head, AllPairs-tail}
use Rattle.rmt_check.proofs.Bounds.{distinct_tables}
use Rattle.rmt_check.proofs.Finding.{stands_within}
use Rattle.rmt_check.proofs.programs.RuleLaws.{one_known, field_known, KeepsRules, unknown_at_node, gate_widths, no_when_not, not_applied}
use Rattle.rmt_check.proofs.programs.NameLaws.{field_within, field_width, test_law, names_of, distinct, same_index, known_here, number_here}
use Rattle.std.specs.Str.{bytes_eq}
use Rattle.std.proofs.lemmas.Bool.{false≢true, false_from_ne_true}
use Rattle.std.proofs.lemmas.Bool.Decides.{same_from_decides, Decides-eqb, Decides-like}
use Rattle.std.proofs.lemmas.List.Elements.{All-head, All-tail}
use Rattle.std.proofs.lemmas.List.Sums.{sum_by-cons}
use Rattle.std.proofs.lemmas.Slice.Eq.{bytes_eq-Decides}
use Rattle.rmt_check.specs.declared.source.ArmText.TheVariants as arm

-- The nodes of a text that breaks no rule.

pub numbered_map : {X Y : Type 0} (P : ℕ → Y → Type 0) (f : X → Y) (xs : List X) → AllNumbered (λ n x. P n (f x)) xs → AllNumbered P (map f xs)
numbered_map P f xs h n y e = grind (arith, slice_get-map, h n, e)

even_and : (a b : ℕ) → a % 2 ≡ 0 → bit_and a b % 2 ≡ 0
even_and a b e = sym (bit_at_lowest (bit_and a b)) ∙ bit_at_and a b 0 ∙ ap (λ (x : ℕ). min x (b / 2 ^ 0 % 2)) (bit_at_lowest a ∙ e) ∙ omega arith

even_outcomes : (actions : List (List ℕ)) (a : ArmText) → outcomes_of actions a % 2 ≡ 0
even_outcomes actions arm.Hit = refl
even_outcomes actions arm.Miss = refl
even_outcomes actions (arm.Action a) =
    let k = 2 + index_of actions a.name in sym (bit_at_lowest (2 ^ k)) ∙ bit_at-pow_other k 0 (λ e. absurd (omega arith))

even_or_0 : {X : Type 0} (f : X → ℕ) (o : Option X) → ((x : X) → f x % 2 ≡ 0) → option_map_or f o 0 % 2 ≡ 0
even_or_0 f o even = grind arith

module _ (s : Source) where
  even_mask : (w : WhatText) (i : ℕ) → mask_in s w i % 2 ≡ 0
  even_mask (Apply table arms) i =
      let actions = map (λ (a : Ident). a.name) (listed_by s table.name) in
      even_and (option_map_or (outcomes_of actions) (slice_get arms i) 0) (65535 - all_outcomes actions (take i arms)) (even_or_0 (outcomes_of actions) (slice_get arms i) (even_outcomes actions))
  even_mask (If field mask value) i = grind arith

  guard_law : (n : ℕ) (under : Option Under) → IsUnder n under → IsGuard n (option_map (guard_of s) under)
  guard_law n under h = grind (arith, even_or_0, even_mask)

  what_law : (w : WhatText) → unknown_in_node s w ≡ [] → too_wide_node s w ≡ [] → IsWhat (program_of s) (what_of s w)
  what_law (Apply table arms) known fits =
      let k = one_known (table_names s) table (append-nil_left (unknown (table_names s) (table ∷ [])) (unknown (map (λ (i : Ident). i.name) (listed_by s table.name)) (flat_map arm_names arms)) known) in
      let l = stands_within (λ (t : TableText). t.ident.name) table.name s.tables k in
      let m = length-map s.tables (table_of s) in omega arith
  what_law (If field mask value) known fits =
      let k = field_known s field known in
      let v : ValueText = record { value = value; mask = mask } in
      (field_within s (named s field) k, subst (λ w. IsTest w (test_of (width_of s (named s field)) v)) (sym (field_width s (named s field) k)) (test_law (width_of s (named s field)) v fits))

  pub nodes_law : KeepsRules s → AllNumbered (λ n (x : NodeText). IsUnder n x.under) (nodes_of s) → AllNumbered (IsNode (program_of s)) (map (node_of s) (nodes_of s))
  nodes_law h under = numbered_map (IsNode (program_of s)) (node_of s) (nodes_of s) (λ n x e. record {
    guard = guard_law n x.under (under n x e);
    what = what_law x.what (All-slice_get (λ (y : NodeText). unknown_at_node s y ≡ []) (nodes_of s) n x h.nodes_known e) (All-slice_get (λ (y : NodeText). gate_widths s y ≡ []) (nodes_of s) n x h.gates_fit e);
  })

-- Each table of a text that breaks no rule is applied by exactly one node.

-- a name of a list whose names do not repeat is there once
not_there : (ns : List (List ℕ)) (q : List ℕ) → All (λ n. q ≢ n) ns → count_by (bytes_eq q) ns ≡ 0
not_there [] q h = refl
not_there (n ∷ ns) q h =
    let other = false_from_ne_true (bytes_eq q n) (λ same. All-head (λ m. q ≢ m) n ns h ((bytes_eq-Decides q n).0 same)) in
    sum_by-cons (λ x. cond (bytes_eq q x) 1 0) n ns ∙ ap (λ (b : Bool). cond b 1 0 + count_by (bytes_eq q) ns) other ∙ ap (λ (k : ℕ). 0 + k) (not_there ns q (All-tail (λ m. q ≢ m) n ns h))

there_once : (ns : List (List ℕ)) (q : List ℕ) → AreDistinct ns → is_known ns q ≡ true → count_by (bytes_eq q) ns ≡ 1
there_once [] q h known = absurd (false≢true known)
there_once (n ∷ ns) q h known = sum_by-cons (λ x. cond (bytes_eq q x) 1 0) n ns ∙ by (bytes_eq q n) refl known (there_once ns q (AllPairs-tail (λ x y. x ≢ y) n ns h))
  where
    by : (b : Bool) → bytes_eq q n ≡ b → (b || is_known ns q) ≡ true → (is_known ns q ≡ true → count_by (bytes_eq q) ns ≡ 1) → cond b 1 0 + count_by (bytes_eq q) ns ≡ 1
    by true same k rest = ap (λ (m : ℕ). 1 + m) (not_there ns q (subst (λ x. All (λ m. x ≢ m) ns) (sym ((bytes_eq-Decides q n).0 same)) (AllPairs-head (λ x y. x ≢ y) n ns h)))
    by false same k rest = ap (λ (m : ℕ). 0 + m) (rest k)

module _ (s : Source) (h : KeepsRules s) (t : ℕ) (table : TableText) (at : slice_get s.tables t ≡ Some table) where
  name_at : slice_get (table_names s) t ≡ Some table.ident.name
  name_at = slice_get-map (λ (x : TableText). x.ident.name) s.tables t ∙ ap (option_map (λ (x : TableText). x.ident.name)) at

  is_there : is_known (table_names s) table.ident.name ≡ true
  is_there = known_here (table_names s) t table.ident.name name_at

  number : index_of (table_names s) table.ident.name ≡ t
  number = number_here (table_names s) t table.ident.name name_at (distinct_tables s h)

  -- a node applies the table where it names it
  agrees : (i : Ident) → is_known (table_names s) i.name ≡ true → (t == index_of (table_names s) i.name) ≡ bytes_eq table.ident.name i.name
  agrees i there =
      same_from_decides (t == index_of (table_names s) i.name) (bytes_eq table.ident.name i.name)
      (Decides-like (t == index_of (table_names s) i.name) (λ e. same_index (table_names s) table.ident.name i.name is_there there (number ∙ e)) (λ same. sym number ∙ ap (index_of (table_names s)) same)
      (Decides-eqb t (index_of (table_names s) i.name)))
      (bytes_eq-Decides table.ident.name i.name)

  counts : (ns : List NodeText) → All (λ (n : NodeText). unknown_at_node s n ≡ []) ns
      → count_by (λ (node : Node). applies t node.what) (map (node_of s) ns) ≡ count_by (bytes_eq table.ident.name) (names_of (filter_map (λ (n : NodeText). applied n.what) ns))
  counts [] known = refl
  counts (n ∷ ns) known =
      sum_by-cons (λ (node : Node). cond (applies t node.what) 1 0) (node_of s n) (map (node_of s) ns)
      ∙ by n.what (All-head (λ (m : NodeText). unknown_at_node s m ≡ []) n ns known) (counts ns (All-tail (λ (m : NodeText). unknown_at_node s m ≡ []) n ns known))
    where
      by : (w : WhatText) → unknown_in_node s w ≡ []
          → count_by (λ (node : Node). applies t node.what) (map (node_of s) ns) ≡ count_by (bytes_eq table.ident.name) (names_of (filter_map (λ (n : NodeText). applied n.what) ns))
          → cond (applies t (what_of s w)) 1 0 + count_by (λ (node : Node). applies t node.what) (map (node_of s) ns)
          ≡ count_by (bytes_eq table.ident.name) (names_of (cons_option (applied w) (filter_map (λ (n : NodeText). applied n.what) ns)))
      by (Apply i arms) k rest =
          let known_name = one_known (table_names s) i (append-nil_left (unknown (table_names s) (i ∷ [])) (unknown (map (λ (x : Ident). x.name) (listed_by s i.name)) (flat_map arm_names arms)) k) in
          ap₂ (λ (b : Bool) m. cond b 1 0 + m) (agrees i known_name) rest
          ∙ sym (sum_by-cons (λ x. cond (bytes_eq table.ident.name x) 1 0) i.name (names_of (filter_map (λ (n : NodeText). applied n.what) ns)))
      by (If field mask value) k rest = zero-add _ ∙ rest

  pub applied_here : count_by (λ (node : Node). applies t node.what) (map (node_of s) (nodes_of s)) ≡ 1
  applied_here =
      counts (nodes_of s) h.nodes_known
      ∙ there_once (names_of (applied_tables s)) table.ident.name (distinct (applied_tables s) h.applied_once)
      (no_when_not (is_known (names_of (applied_tables s)) table.ident.name) table.ident.place (All-slice_get (λ (x : TableText). not_applied s x ≡ []) s.tables t table h.all_applied at))

pub applied_law : (s : Source) → KeepsRules s → AreAppliedOnce (program_of s)
applied_law s h t lt = let found = slice_get-item s.tables t (omega (arith, lt, length-map s.tables (table_of s))) in applied_here s h t found.0 found.1
