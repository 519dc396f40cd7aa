-- The actions and the tables of a text that breaks no rule.
use Rattle.std.proofs.Common.{◌≡◌, ℕ, ◌<◌, ◌≤◌, List, [], ◌∷◌, true, not, ◌==◌, nat_lt, None, Some, Option, option_map, unwrap_or, map, zip, sum, length, slice_get, get_or, IsSomeAnd, All, refl, sym, ap, ap₂, subst, ◌∙◌, arith, ◌^◌, append_assoc}
use Rattle.std.specs.List.{flat_map, AllZip}
use Rattle.std.proofs.lemmas.Bool.{ltb-false, eqb-true, both_ways, ltb-true}
use Rattle.std.proofs.lemmas.List.{length-map}
use Rattle.std.proofs.lemmas.List.Elements.{All-head, All-tail, All-map}
use Rattle.std.proofs.lemmas.Option.{slice_get-map, same_Some}
use Rattle.rmt_check.specs.Parts.{Kind, Action, Ident, Number, Declared, FieldText, ActionText, KeyText, TableText, Source, LeafText, Sign, AssignText}
use Rattle.rmt_ast.specs.declared.program.Kind.TheVariants.{Keyless}
use Rattle.rmt_ast.specs.WellFormed.{AreDistinct, Fits, Takes, IsKeyed, HasKey, IsTable, IsWidth, IsLeaf, IsOp, IsExpr, IsAssign, IsAction}
use Rattle.rmt_ast.specs.NameList.{is_known}
use Rattle.rmt_check.specs.Names.{is_field, named, same_field, action_names, width_of, params_of, listed, key_fields, in_port, Named, named_fields, param_names, param_width, operands}
use Rattle.rmt_check.specs.Rules.{when, too_wide, unknown, unknown_field, further_prefix, bad_key, key_bits, bad_default, bad_table_size, repeated_fields, wide_sign, differs, unknown_leaf, unknown_assign}
use Rattle.rmt_check.specs.Meaning.{field_number, action_number, action_of, table_with, table_of, program_of, index_of, leaf_of, expr_of, assign_of}
use Rattle.rmt_check.specs.Naming.{IsKeyText, HasKeyText}
use Rattle.rmt_bits.proofs.ListLaws.{flat_map-nil, append-nil_left, append-nil_right}
use Rattle.rmt_check.proofs.programs.RuleLaws.{none_in, no_when, no_when_not, one_known, all_known, field_known, KeepsRules}
use Rattle.rmt_check.proofs.Bounds.{few, size_in_range, few_declared, widths_in_range}
use Rattle.rmt_check.proofs.Finding.{stands_for, stands_within}
use Rattle.rmt_check.proofs.programs.NameLaws.{differ_by, distinct_numbers, number_fits, field_within, field_width, distinct_fields}
use Rattle.rmt_check.proofs.FieldCodes.{field_same, field_at}
use Rattle.rmt_ast.specs.State as state
use Rattle.std.proofs.lemmas.Bool.Decides.{nat_tests}
use Rattle.rmt_check.specs.declared.source.LeafText.TheVariants as leaf

abbrev widths_of : ActionText → List ℕ
widths_of a = map (λ (d : Declared). d.width.value) a.params

module _ (s : Source) (a : ActionText) where
  leaf_law : (width : ℕ) (l : LeafText) → unknown_leaf s a l ≡ [] → differs s a width l ≡ [] → IsLeaf (program_of s) (widths_of a) width (leaf_of s a l)
  leaf_law width (leaf.Field f) known same =
      let k = field_known s f known in
      (field_within s (named s f) k, field_width s (named s f) k ∙ eqb-true (width_of s (named s f)) width (no_when_not _ _ same))
  leaf_law width (leaf.Param p) known same =
      let r = stands_for (λ (d : Declared). d.ident.name) p.name a.params (one_known (param_names a) p known) in
      let e : param_width a p.name ≡ width = eqb-true (param_width a p.name) width (no_when_not _ _ same) in
      let f : r.item.width.value ≡ param_width a p.name = ap (λ (o : Option Declared). unwrap_or (option_map (λ (d : Declared). d.width.value) o) 0) (sym r.found) in
      slice_get-map (λ (d : Declared). d.width.value) a.params (index_of (param_names a) p.name)
      ∙ ap (option_map (λ (d : Declared). d.width.value)) r.at ∙ ap Some (f ∙ e)
  leaf_law width (leaf.Number n) known same = ltb-true n.value (2 ^ width) (no_when_not _ _ same)

  op_law : (width : ℕ) (r : Sign × LeafText) → wide_sign width (Some r) ≡ [] → IsOp width r.0.op
  op_law width r e = grind (arith, nat_tests, e)

  expr_law : (width : ℕ) (left : LeafText) (right : Option (Sign × LeafText)) → flat_map (unknown_leaf s a) (operands (record { left = left; right = right })) ≡ []
      → flat_map (differs s a width) (operands (record { left = left; right = right })) ≡ [] → wide_sign width right ≡ [] → IsExpr (program_of s) (widths_of a) width (expr_of s a left right)
  expr_law width left None k d w = leaf_law width left (append-nil_left (unknown_leaf s a left) [] k) (append-nil_left (differs s a width left) [] d)
  expr_law width left (Some r) k d w =
      let known = none_in (unknown_leaf s a left) (unknown_leaf s a r.1 ∷ [] ∷ []) (append_assoc _ _ [] ∙ k) in
      let same = none_in (differs s a width left) (differs s a width r.1 ∷ [] ∷ []) (append_assoc _ _ [] ∙ d) in
      (op_law width r w, leaf_law width left known.0 same.0, leaf_law width r.1 known.1.0 same.1.0)

  assign_law : (x : AssignText) → unknown_assign s a x ≡ [] → flat_map (differs s a (width_of s (named s x.dest))) (operands x.expr) ≡ []
      → wide_sign (width_of s (named s x.dest)) x.expr.right ≡ [] → when (same_field (named s x.dest) in_port) x.dest.place ≡ []
      → IsAssign (program_of s) (widths_of a) (assign_of s a x)
  assign_law x known same sign other =
      let k = field_known s x.dest (append-nil_left (unknown_field s x.dest) (flat_map (unknown_leaf s a) (operands x.expr)) known) in
      record {
        is_field = field_within s (named s x.dest) k;
        is_not_in_port = λ zero_is. both_ways (same_field (named s x.dest) in_port) (no_when _ _ other)
            (ap (λ (y : Named). same_field y in_port) (same_Some (named s x.dest) in_port (sym (field_at s (named s x.dest) k) ∙ ap (slice_get (named_fields s)) zero_is)));
        expr = subst (λ w. IsExpr (program_of s) (widths_of a) w (expr_of s a x.expr.left x.expr.right)) (sym (field_width s (named s x.dest) k))
            (expr_law (width_of s (named s x.dest)) x.expr.left x.expr.right (append-nil_right (unknown_field s x.dest) (flat_map (unknown_leaf s a) (operands x.expr)) known) same sign);
      }

pub actions_law : (s : Source) → KeepsRules s → All (IsAction (program_of s)) (map (action_of s) s.actions)
actions_law s h = All-map (IsAction (program_of s)) (action_of s) s.actions (λ k d lt.
    let a = get_or s.actions k d in
    record {
      params = All-map IsWidth (λ (x : Declared). x.width.value) a.params (widths_in_range a.params (h.params_wide k d lt));
      few_params = omega (arith, few_declared 16 a.params (h.params_few k d lt), length-map a.params (λ (x : Declared). x.width.value));
      assigns = All-map (IsAssign (program_of s) (widths_of a)) (assign_of s a) a.assigns
          (λ i e within. assign_law s a (get_or a.assigns i e)
          (flat_map-nil (unknown_assign s a) a.assigns (h.assigns_known k d lt) i e within)
          (flat_map-nil (λ (x : AssignText). flat_map (differs s a (width_of s (named s x.dest))) (operands x.expr)) a.assigns (h.operands_fit k d lt) i e within)
          (flat_map-nil (λ (x : AssignText). wide_sign (width_of s (named s x.dest)) x.expr.right) a.assigns (h.signs_fit k d lt) i e within)
          (flat_map-nil (λ (x : AssignText). when (same_field (named s x.dest) in_port) x.dest.place) a.assigns (h.port_kept k d lt) i e within));
      few_assigns = omega (arith, few 64 (λ (x : AssignText). x.dest.place) a.assigns (h.assigns_few k d lt), length-map a.assigns (assign_of s a));
    })

-- The tables.

-- arguments that are as many as the parameters and fit them
args_fit : (ds : List Declared) (ns : List Number) → length ds ≡ length ns → flat_map (λ (x : Declared × Number). too_wide x.0.width.value x.1) (zip ds ns) ≡ []
    → AllZip Fits (map (λ (d : Declared). d.width.value) ds) (map (λ (n : Number). n.value) ns)
args_fit [] [] same e = tt
args_fit [] (n ∷ ns) same e = absurd (omega arith)
args_fit (d ∷ ds) [] same e = absurd (omega arith)
args_fit (d ∷ ds) (n ∷ ns) same e =
    let parts = none_in (too_wide d.width.value n) (flat_map (λ (x : Declared × Number). too_wide x.0.width.value x.1) (zip ds ns) ∷ []) e in
    (number_fits d.width.value n parts.0, args_fit ds ns (omega arith) parts.1.0)

module _ (s : Source) where
  takes : (t : TableText) → is_known (action_names s) t.default.name ≡ true → bad_default s t ≡ [] → Takes (program_of s) (action_number s t.default) (map (λ (n : Number). n.value) t.args)
  takes t known e =
      let r = stands_for (λ (a : ActionText). a.ident.name) t.default.name s.actions known in
      let parts = none_in (when (not (length (params_of s t.default.name) == length t.args)) t.default.place)
      (flat_map (λ (x : Declared × Number). too_wide x.0.width.value x.1) (zip (params_of s t.default.name) t.args) ∷ []) e in
      let params : params_of s t.default.name ≡ r.item.params = ap (λ (o : Option ActionText). unwrap_or (option_map (λ (a : ActionText). a.params) o) []) r.found in
      let same = eqb-true (length (params_of s t.default.name)) (length t.args) (no_when_not (length (params_of s t.default.name) == length t.args) t.default.place parts.0) in
      let at : slice_get (map (action_of s) s.actions) (action_number s t.default) ≡ Some (action_of s r.item) =
      slice_get-map (action_of s) s.actions (action_number s t.default) ∙ ap (option_map (action_of s)) r.at in
      subst (λ (o : Option Action). IsSomeAnd o (λ (a : Action). AllZip Fits a.params (map (λ (n : Number). n.value) t.args))) (sym at)
      (args_fit r.item.params t.args (ap length (sym params) ∙ same) (subst (λ (ds : List Declared). flat_map (λ (x : Declared × Number). too_wide x.0.width.value x.1) (zip ds t.args) ≡ []) params parts.1.0))

  key_widths : (fs : List FieldText) → All (λ (f : FieldText). is_field s (named s f) ≡ true) fs
      → map (state.width_of (program_of s)) (map (λ (f : FieldText). field_number s (named s f)) fs) ≡ map (λ (f : FieldText). width_of s (named s f)) fs
  key_widths [] known = refl
  key_widths (f ∷ fs) known =
      let rest = key_widths fs (All-tail (λ (f : FieldText). is_field s (named s f) ≡ true) f fs known) in
      let one = field_width s (named s f) (All-head (λ (f : FieldText). is_field s (named s f) ≡ true) f fs known) in
      ap₂ (λ (x : ℕ) xs. x ∷ xs) one rest

  is_keyed : (t : TableText) (k : KeyText) → IsKeyText k → All (λ (f : FieldText). is_field s (named s f) ≡ true) k.fields → repeated_fields s k.fields ≡ []
      → sum (map (λ (f : FieldText). width_of s (named s f)) k.fields) ≤ 640 → bad_table_size (Some k) ≡ [] → IsKeyed (program_of s) (table_with s t (Some k))
  is_keyed t k text known once short size =
      let numbers = length-map k.fields (λ (f : FieldText). field_number s (named s f)) in
      let actions = length-map k.actions (action_number s) in
      let sizes = size_in_range k size in
      record {
        has_key = let some = text.fields in omega arith;
        key_fields = All-map (λ f. f < length (program_of s).fields) (λ (f : FieldText). field_number s (named s f)) k.fields (λ i d lt. field_within s (named s (get_or k.fields i d)) (known i d lt));
        key_once = distinct_fields s (named s) k.fields known
            (λ i j d lt within same. both_ways _ (differ_by (λ (f g : FieldText). same_field (named s f) (named s g)) (λ f. f.place) k.fields once i j d lt within) (field_same _ _ (sym same)));
        key_bits = subst (λ (l : List ℕ). sum l ≤ 640) (sym (key_widths k.fields known)) short;
        has_actions = let some = text.actions in omega arith;
        has_size = sizes.0;
        size = sizes.1;
      }

  has_key : (t : TableText) (key : Option KeyText) → HasKeyText key → flat_map (unknown_field s) (unwrap_or (option_map (λ (k : KeyText). k.fields) key) []) ≡ [] → bad_key s key ≡ []
      → sum (map (λ (f : FieldText). width_of s (named s f)) (unwrap_or (option_map (λ (k : KeyText). k.fields) key) [])) ≤ 640 → bad_table_size key ≡ []
      → HasKey (program_of s) (table_with s t key).kind (table_with s t key)
  has_key t None text known form short size = record { key = refl; actions = refl; size = refl; counted = refl }
  has_key t (Some k) text known form short size =
      let parts = none_in (further_prefix k.kind k.fields) (repeated_fields s k.fields ∷ []) form in
      by k.kind parts.0 (λ e. text.kind e) (is_keyed t k text (λ i d lt. field_known s (get_or k.fields i d) (flat_map-nil (unknown_field s) k.fields known i d lt)) parts.1.0 short size)
    where
      by : (kind : Kind) → further_prefix kind k.fields ≡ [] → (kind ≡ Keyless → ⊥) → IsKeyed (program_of s) (table_with s t (Some k)) → HasKey (program_of s) kind (table_with s t (Some k))
      by kind one other is =
          let some = text.fields in
          grind (arith, few 1 (λ (f : FieldText). f.place) k.fields, length-map k.fields (λ (f : FieldText). field_number s (named s f)))

  -- the actions that a table lists, and its default
  pub lists : (t : TableText) (key : Option KeyText) → (table_with s t key).actions ≡ map (action_number s) (unwrap_or (option_map (λ (k : KeyText). k.actions) key) [])
  lists t key = grind arith

  falls_to : (t : TableText) (key : Option KeyText) → Takes (program_of s) (action_number s t.default) (map (λ (n : Number). n.value) t.args) → Takes (program_of s) (table_with s t key).default (table_with s t key).args
  falls_to t key takes = grind arith

  pub tables_law : KeepsRules s → All (λ (t : TableText). HasKeyText t.key) s.tables → All (IsTable (program_of s)) (map (table_of s) s.tables)
  tables_law h text = All-map (IsTable (program_of s)) (table_of s) s.tables (λ k d lt.
      let t = get_or s.tables k d in
      let known = none_in (flat_map (unknown_field s) (key_fields t)) (unknown (action_names s) (listed t) ∷ unknown (action_names s) (t.default ∷ []) ∷ []) (h.tables_known k d lt) in
      let acts = all_known (action_names s) (listed t) known.1.0 in
      let short = ltb-false 640 (key_bits s t) (no_when (nat_lt 640 (key_bits s t)) t.ident.place (h.key_short k d lt)) in
      let same = lists t t.key in
      record {
        key = has_key t t.key (text k d lt) known.0 (h.key_form k d lt) short (h.table_size k d lt);
        actions = subst (All (λ a. a < length (program_of s).actions)) (sym same)
            (All-map (λ a. a < length (program_of s).actions) (action_number s) (listed t) (λ i e within. omega (arith, stands_within (λ (a : ActionText). a.ident.name) (get_or (listed t) i e).name s.actions (acts i e within), length-map s.actions (action_of s))));
        actions_once = subst (λ (l : List ℕ). AreDistinct l) (sym same) (distinct_numbers (action_names s) (listed t) acts (h.listed_once k d lt));
        few_actions = omega (arith, ap length same, length-map (listed t) (action_number s), few 14 (λ (i : Ident). i.place) (listed t) (h.listed_few k d lt));
        default = falls_to t t.key (takes t (one_known (action_names s) t.default known.1.1.0) (h.default_fits k d lt));
      })
