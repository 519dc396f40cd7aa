-- Lists that are made of others, and what a text without a fault keeps, part by part.
use Rattle.std.proofs.Common.{◌≡◌, ℕ, List, [], ◌∷◌, Bool, true, false, not, None, All, refl, rules, arith, ◌+◌, ◌++◌, length, fold, subst}
use Rattle.std.specs.List.{AllByRecursion, flat_map, enumerate_from}
use Rattle.std.proofs.lemmas.Bool.{not-false}
use Rattle.rmt_check.specs.Parts.{Position, Ident, FieldText, Source}
use Rattle.rmt_ast.specs.NameList.{is_known}
use Rattle.rmt_check.specs.Names.{is_field, named, metadata, nodes_of, applied_tables}
use Rattle.rmt_check.specs.Rules.{when, earliest, least_of, unknown, unknown_owner, unknown_field, repeated, declared_names, further_metas, params_twice, unknown_own, unknown_in_table, no_widths, bad_default, no_header, many_headers, many_actions, many_metadata, many_nodes, broken, fault_of}
pub use Rattle.rmt_check.specs.Rules.{headers_of, actions_of, tables_of, fields_twice, listed_twice, unknown_targets, unknown_in_action, unknown_at_node, field_widths, param_widths, bad_size, early_targets, operand_widths, case_widths, gate_widths, wide_signs, written_ports, repeated_select, bad_key_of, long_key, many_listed, bad_cases, many_params, many_assigns, bad_size_of, not_applied, bad_tails}
use Rattle.rmt_bits.proofs.ListLaws.{append-nil_left, append-nil_right, flat_map-nil}
use Rattle.std.proofs.lemmas.List.Elements.{All-tail}

-- what holds of each item holds of one among them
pub All-mid : {X : Type 0} (P : X → Type 0) (before : List X) (x : X) (after : List X) → All P (before ++ x ∷ after) → P x
All-mid P [] x after h = h 0 x (omega arith)
All-mid P (b ∷ before) x after h = All-mid P before x after (All-tail P b (before ++ x ∷ after) h)

-- a list that is joined of lists, one for each item and its number
pub none_numbered : {X A : Type 0} (f : ℕ × X → List A) (n : ℕ) (before : List X) (x : X) (after : List X) → flat_map f (enumerate_from n (before ++ x ∷ after)) ≡ [] → f (n + length before, x) ≡ []
none_numbered f n [] x after e = subst (λ k. f (k, x) ≡ []) (omega arith) (append-nil_left (f (n, x)) (flat_map f (enumerate_from (n + 1) after)) e)
none_numbered f n (b ∷ before) x after e =
    subst (λ k. f (k, x) ≡ []) (omega arith) (none_numbered f (n + 1) before x after (append-nil_right (f (n, b)) (flat_map f (enumerate_from (n + 1) (before ++ x ∷ after))) e))

-- the parts of a list that is empty, joined to the left
pub none_in : {X : Type 0} (a : List X) (ls : List (List X)) → fold (λ (b c : List X). b ++ c) a ls ≡ [] → (a ≡ []) × AllByRecursion (λ (l : List X). l ≡ []) ls
none_in a [] e = (e, tt)
none_in a (b ∷ ls) e = let r = none_in (a ++ b) ls e in (append-nil_left a b r.0, (append-nil_right a b r.0, r.1))

-- A text without a fault breaks no rule, and what that says of its names.

pub no_places : (ps : List Position) → earliest ps ≡ None → ps ≡ []
no_places [] e = refl
no_places (p ∷ ps) e = grind arith

pub none_broken : (rules : List (ℕ × List Position)) → least_of rules ≡ None → AllByRecursion (λ (r : ℕ × List Position). r.1 ≡ []) rules
none_broken [] e = tt
none_broken ((code, ps) ∷ rules) e = grind (arith, no_places, none_broken rules)

-- where nothing is broken the test has failed
pub no_when : (b : Bool) (p : Position) → when b p ≡ [] → b ≡ false
no_when b p e = grind arith

pub no_when_not : (b : Bool) (p : Position) → when (not b) p ≡ [] → b ≡ true
no_when_not b p e = not-false b (no_when (not b) p e)

-- names that are known
pub all_known : (names : List (List ℕ)) (xs : List Ident) → unknown names xs ≡ [] → All (λ (x : Ident). is_known names x.name ≡ true) xs
all_known names xs e k d lt = no_when_not _ _ (flat_map-nil (λ (x : Ident). when (not (is_known names x.name)) x.place) xs e k d lt)

pub one_known : (names : List (List ℕ)) (x : Ident) → unknown names (x ∷ []) ≡ [] → is_known names x.name ≡ true
one_known names x e = no_when_not (is_known names x.name) x.place (append-nil_left (when (not (is_known names x.name)) x.place) [] e)

pub field_known : (s : Source) (f : FieldText) → unknown_field s f ≡ [] → is_field s (named s f) ≡ true
field_known s f e = no_when_not (is_field s (named s f)) f.ident.place (append-nil_right (unknown_owner s f.owner) (when (not (is_field s (named s f))) f.ident.place) e)

-- What a text that breaks no rule keeps, part by part.

-- f finds nothing at each item
abbrev pub FindsNone : {X : Type 0} → (X → List Position) → List X → Type 0
FindsNone f xs = All (λ x. f x ≡ []) xs

pub record KeepsRules (s : Source) : Type 0 where
  pub headers_once : repeated (headers_of s) ≡ []
  pub fields_once : FindsNone fields_twice s.headers
  pub metadata_once : repeated (declared_names (metadata s)) ≡ []
  pub actions_once : repeated (actions_of s) ≡ []
  pub tables_once : repeated (tables_of s) ≡ []
  pub listed_once : FindsNone listed_twice s.tables
  pub own_known : FindsNone (unknown_own s) s.headers
  pub targets_known : FindsNone (unknown_targets s) s.headers
  pub assigns_known : FindsNone (unknown_in_action s) s.actions
  pub tables_known : FindsNone (unknown_in_table s) s.tables
  pub nodes_known : FindsNone (unknown_at_node s) (nodes_of s)
  pub fields_wide : FindsNone field_widths s.headers
  pub metadata_wide : no_widths (metadata s) ≡ []
  pub params_wide : FindsNone param_widths s.actions
  pub header_size : FindsNone bad_size s.headers
  pub targets_later : flat_map (early_targets s) (enumerate_from 0 s.headers) ≡ []
  pub operands_fit : FindsNone (operand_widths s) s.actions
  pub cases_fit : FindsNone (case_widths s) s.headers
  pub gates_fit : FindsNone (gate_widths s) (nodes_of s)
  pub signs_fit : FindsNone (wide_signs s) s.actions
  pub port_kept : FindsNone (written_ports s) s.actions
  pub applied_once : repeated (applied_tables s) ≡ []
  pub select_once : FindsNone repeated_select s.headers
  pub key_form : FindsNone (bad_key_of s) s.tables
  pub key_short : FindsNone (long_key s) s.tables
  pub listed_few : FindsNone many_listed s.tables
  pub case_length : FindsNone bad_cases s.headers
  pub default_fits : FindsNone (bad_default s) s.tables
  pub a_header : no_header s ≡ []
  pub headers_few : many_headers s ≡ []
  pub actions_few : many_actions s ≡ []
  pub params_few : FindsNone many_params s.actions
  pub assigns_few : FindsNone many_assigns s.actions
  pub metadata_few : many_metadata s ≡ []
  pub nodes_few : many_nodes s ≡ []
  pub table_size : FindsNone bad_size_of s.tables
  pub all_applied : FindsNone (not_applied s) s.tables
  pub tails_fit : FindsNone (bad_tails s) s.headers

keeps : (s : Source) → AllByRecursion (λ (r : ℕ × List Position). r.1 ≡ []) (broken s) → KeepsRules s
keeps s (five, (six, (seven, (eight, (nine, (ten, (eleven, (twelve, (thirteen, (fourteen, (fifteen, (sixteen, (seventeen, (eighteen, (nineteen, (twenty, (last, all))))))))))))))))) =
    let once = none_in (repeated (headers_of s)) (flat_map fields_twice s.headers ∷ further_metas s ∷ repeated (declared_names (metadata s))
    ∷ repeated (actions_of s) ∷ flat_map params_twice s.actions ∷ repeated (tables_of s) ∷ flat_map listed_twice s.tables ∷ []) five in
    let known = none_in (flat_map (unknown_own s) s.headers) (flat_map (unknown_targets s) s.headers ∷ flat_map (unknown_in_action s) s.actions
    ∷ flat_map (unknown_in_table s) s.tables ∷ flat_map (unknown_at_node s) (nodes_of s) ∷ []) six in
    let wide = none_in (flat_map field_widths s.headers) (no_widths (metadata s) ∷ flat_map param_widths s.actions ∷ []) seven in
    let fit = none_in (flat_map (operand_widths s) s.actions) (flat_map (case_widths s) s.headers ∷ flat_map (gate_widths s) (nodes_of s) ∷ []) ten in
    let keys = none_in (flat_map repeated_select s.headers) (flat_map (bad_key_of s) s.tables ∷ []) fourteen in
    let arguments = none_in (flat_map bad_cases s.headers) (flat_map (bad_default s) s.tables ∷ []) seventeen in
    let counts = none_in (no_header s) (many_headers s ∷ many_actions s ∷ flat_map many_params s.actions ∷ flat_map many_assigns s.actions
    ∷ many_metadata s ∷ many_nodes s ∷ flat_map bad_size_of s.tables ∷ []) eighteen in
    search (rules, flat_map-nil)

pub keeps_rules : (s : Source) → fault_of s ≡ None → KeepsRules s
keeps_rules s e = keeps s (none_broken (broken s) e)
