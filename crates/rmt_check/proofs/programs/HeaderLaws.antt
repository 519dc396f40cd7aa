-- The headers of a text that breaks no rule.
use Rattle.std.proofs.Common.{◌≡◌, ◌≢◌, ℕ, zero, suc, ◌+◌, ◌<◌, ◌≤◌, ◌⊎◌, inl, inr, List, [], ◌∷◌, ◌++◌, true, Some, Option, option_map, unwrap_or, codes, length, slice_get, All, Contains, refl, sym, ap, ◌∙◌, ⊎_elim, arith, ◌-◌, ◌*◌, ◌/◌, ◌^◌, false, not, None, option_to_list, map, zip, sum, get_or, ap₂, subst, zero-add}
use Rattle.std.specs.Prelude.{⊤}
use Rattle.std.specs.List.{range_with_len, flat_map, enumerate_from}
use Rattle.std.specs.Option.{IfSome}
use Rattle.std.proofs.lemmas.Bool.Decides.{nat_tests}
use Rattle.std.proofs.lemmas.Bool.{leb-false}
use Rattle.std.proofs.lemmas.List.Concat.{flat_map-append}
use Rattle.std.proofs.lemmas.List.Elements.{All-nil, All-cons, All-head, All-tail, All-append, All-from_recursion, All-map}
use Rattle.std.proofs.lemmas.List.FromFn.{length-range_with_len, get_or-range_with_len}
use Rattle.std.proofs.lemmas.Option.{slice_get-map, slice_get_within, same_Some}
use Rattle.rmt_ast.specs.NameList.{number_of, is_known}
use Rattle.rmt_ast.specs.State as state
use Rattle.rmt_ast.specs.WellFormed.{AllNumbered, AreDistinct, IsTest, AreTests, IsTarget, IsTail, IsCase, IsHeader}
use Rattle.rmt_bits.proofs.AllLaws.{All-slice_get}
use Rattle.rmt_bits.proofs.ListLaws.{slice_get-end, append-nil_left, append-nil_right, flat_map-nil, map-nil}
use Rattle.rmt_bits.proofs.PairLaws.{AllPairs-map}
use Rattle.rmt_check.specs.Parts.{Ident, Declared, ValueText, TargetText, CaseText, TailText, HeaderText, Source}
use Rattle.rmt_check.specs.declared.source.TargetText.TheVariants as target
use Rattle.rmt_check.specs.Names.{header_names, metadata, of_metadata, of_header, Named, Known, owned, common_fields, declared_fields, header_fields, is_field, header_owner, selected, width_of}
use Rattle.rmt_check.specs.Naming.{IsHeaderText}
use Rattle.rmt_check.specs.StoredFields.{code_of}
use Rattle.rmt_check.specs.Meaning.{field_number, index_of, test_of, target_of, tail_of, case_of, header_from, headers_from, program_of}
use Rattle.rmt_check.specs.Rules.{when, repeated, unknown, target_names, targets, unknown_own, unknown_select, unknown_tail, is_size, is_tail_range, bad_tail, bits_of, is_at_most, too_wide_value, too_wide_case, bad_case}
use Rattle.rmt_check.proofs.Finding.{number_at, stands_within}
use Rattle.rmt_check.proofs.FieldCodes.{known_at}
use Rattle.rmt_check.proofs.FieldLists.{front, back, start_of, length-front, length-declared, all_header, all_headers}
use Rattle.rmt_check.proofs.programs.BlockLaws.{split, length-headers_from, own_at, width_at, each_header}
use Rattle.rmt_check.proofs.programs.NameLaws.{test_law, field_width, distinct_fields, distinct_by, names_differ, known_here, number_here}
use Rattle.rmt_check.proofs.programs.RuleLaws.{none_in, All-mid, none_numbered, KeepsRules, no_when, no_when_not, one_known, unknown_targets, bad_size, bad_tails, early_targets, case_widths, repeated_select, bad_cases}

-- A field of a header's own is one of its fields.

-- what stands neither in front nor behind stands between
module _ {X : Type 0} (P : X → Type 0) (x : X) (other : P x → ⊥) where
  not_behind : (mid post : List X) (n : ℕ) → slice_get (mid ++ post) n ≡ Some x → All P post → slice_get mid n ≡ Some x
  not_behind [] post n e all = absurd (other (All-slice_get P post n x all e))
  not_behind (m ∷ mid) post zero e all = e
  not_behind (m ∷ mid) post (suc n) e all = not_behind mid post n e all

  between : (pre mid post : List X) (n : ℕ) → slice_get (pre ++ (mid ++ post)) n ≡ Some x → All P pre → All P post → (i : ℕ) × (n ≡ length pre + i) × (slice_get mid i ≡ Some x)
  between [] mid post n e before behind = (n, omega arith, not_behind mid post n e behind)
  between (p ∷ pre) mid post zero e before behind = absurd (other (subst P (same_Some p x e) (All-head P p pre before)))
  between (p ∷ pre) mid post (suc n) e before behind =
      let r = between pre mid post n e (All-tail P p pre before) behind in let l = r.1 in (r.0, omega arith, r.2)

module _ (s : Source) (keeps : KeepsRules s) (before : List HeaderText) (h : HeaderText) (after : List HeaderText) (e : s.headers ≡ before ++ h ∷ after) where
  owner_here : header_owner s h.ident.name ≡ of_header (length before)
  owner_here =
      let here : length before ≡ length before + 0 = omega arith in
      let there : slice_get s.headers (length before) ≡ Some h = ap (λ (hs : List HeaderText). slice_get hs (length before)) e ∙ ap (slice_get (before ++ h ∷ after)) here ∙ slice_get-end before (h ∷ after) 0 in
      let at : slice_get (header_names s) (length before) ≡ Some h.ident.name =
      slice_get-map (λ (x : HeaderText). x.ident.name) s.headers (length before) ∙ ap (option_map (λ (x : HeaderText). x.ident.name)) there in
      let once = AllPairs-map (λ x y. x ≢ y) (λ (x : HeaderText). x.ident.name) s.headers (distinct_by (λ (x : HeaderText). x.ident) s.headers keeps.headers_once) in
      ap (λ (o : Option ℕ). of_header (unwrap_or o (length s.headers))) (number_at (header_names s) h.ident.name (known_here (header_names s) (length before) h.ident.name at))
      ∙ ap of_header (number_here (header_names s) (length before) h.ident.name at once)

  -- a field that is none of the header's
  abbrev IsOther : Known → Type 0
  IsOther f = f.named.owner ≢ of_header (length before)

  others : (n : ℕ) (hs : List HeaderText) → (length before < n) ⊎ (n + length hs ≤ length before) → All IsOther (flat_map header_fields (enumerate_from n hs))
  others n hs apart =
      all_headers IsOther (λ x. ⊤) n hs (λ k d lt. tt)
      (λ k x from to _. let other : of_header k ≢ of_header (length before) = λ same. let number = ap code_of same in ⊎_elim (λ lt. absurd (omega arith)) (λ le. absurd (omega arith)) apart in
      all_header IsOther k x other (λ j d lt. other))

  -- a field that the header names as its own is one of its fields, where it is not its valid
  pub own_field : (i : Ident) → is_field s (selected s h i) ≡ true → i.name ≢ codes "valid" → Contains (range_with_len (start_of before + 1) (length h.fields)) (field_number s (selected s h i))
  own_field i known not_valid =
      let before_it : All IsOther (front before) = All-append IsOther common_fields (flat_map header_fields (enumerate_from 0 before)) (All-from_recursion IsOther common_fields (λ same. cc, (λ same. cc, (λ same. cc, tt)))) (others 0 before (inr (omega arith))) in
      let metas = All-map IsOther (λ (d : Declared). owned of_metadata (codes "meta") d.ident.name d.width.value) (metadata s) (λ k d lt same. cc) in
      let behind_it : All IsOther (back s (length before + 1) after) = All-append IsOther (flat_map header_fields (enumerate_from (length before + 1) after)) (declared_fields of_metadata (codes "meta") (metadata s)) (others (length before + 1) after (inl (omega arith))) metas in
      let field = known_at s (selected s h i) known in
      let at = ap (λ (fs : List Known). slice_get fs (field_number s (selected s h i))) (sym (split s before h after e)) ∙ field.1 in
      let own : field.0.named.owner ≡ of_header (length before) = ap (λ (x : Named). x.owner) field.2 ∙ owner_here in
      let place = between IsOther field.0 (λ other. other own) (front before) (header_fields (length before, h)) (back s (length before + 1) after) (field_number s (selected s h i)) at before_it behind_it in
      by place.0 place.1 place.2 (ap (λ (x : Named). x.name) field.2)
    where
      by : {f : Known} (k : ℕ) → field_number s (selected s h i) ≡ length (front before) + k → slice_get (header_fields (length before, h)) k ≡ Some f → f.named.name ≡ i.name
          → Contains (range_with_len (start_of before + 1) (length h.fields)) (field_number s (selected s h i))
      by {f} zero is at name = absurd (not_valid (sym name ∙ ap (λ (x : Known). x.named.name) (sym (same_Some _ f at))))
      by {f} (suc k) is at name =
          let l = slice_get_within (header_fields (length before, h)) (suc k) f at in
          let m = length-declared (of_header (length before)) h.ident.name h.fields in
          let within : k < length h.fields = omega arith in
          let long = length-range_with_len (start_of before + 1) (length h.fields) in
          let first = length-front before in
          let place : start_of before + 1 + k ≡ field_number s (selected s h i) = omega arith in
          (k, omega arith, get_or-range_with_len (start_of before + 1) (length h.fields) k (field_number s (selected s h i)) within ∙ place)

-- numbers in a row, and what stands at them
row : {X Y : Type 0} (g : ℕ → Y) (f : X → Y) (xs : List X) (n : ℕ) → ((i : ℕ) (x : X) → slice_get xs i ≡ Some x → g (n + i) ≡ f x) → map g (range_with_len n (length xs)) ≡ map f xs
row g f [] n h = refl
row g f (x ∷ xs) n h =
    let zero_more : n ≡ n + 0 = omega arith in
    ap₂ (λ y ys. y ∷ ys) (ap g zero_more ∙ h 0 x refl)
    (row g f xs (n + 1) (λ i y e. let one_more : n + 1 + i ≡ n + suc i = omega arith in ap g one_more ∙ h (suc i) y e))

-- whole bytes
whole : (b : ℕ) → is_size b ≡ true → (b ≡ 8 * (b / 8)) × (1 ≤ b / 8) × (b / 8 ≤ 64)
whole b e = grind (arith, nat_tests)

-- the lengths of a tail
abbrev InRange : ℕ → ℕ → ℕ → Type 0
InRange width unit base = (width ≤ 8) × (1 ≤ unit) × (unit ≤ 255) × (base ≤ 255) × (base ≤ (2 ^ width - 1) * unit) × ((2 ^ width - 1) * unit ≤ base + 64)

in_range : (width unit base : ℕ) → is_tail_range width unit base ≡ true → InRange width unit base
in_range width unit base e = grind (arith, nat_tests)

-- a case with as many values as there are names
same_count : (h : HeaderText) (c : CaseText) → 1 ≤ length c.values → bad_case h c ≡ [] → length h.select ≡ length c.values
same_count h c some e = grind (arith, nat_tests)

module _ (s : Source) (h : HeaderText) (known : All (λ (i : Ident). is_field s (selected s h i) ≡ true) h.select) where
  tests_of : (is : List Ident) (vs : List ValueText) → All (λ (i : Ident). is_field s (selected s h i) ≡ true) is → length is ≡ length vs
      → flat_map (λ (x : Ident × ValueText). too_wide_value (width_of s (selected s h x.0)) x.1) (zip is vs) ≡ []
      → AreTests (program_of s) (map (λ (i : Ident). field_number s (selected s h i)) is) (map (λ (x : Ident × ValueText). test_of (width_of s (selected s h x.0)) x.1) (zip is vs))
  tests_of [] [] k same e = tt
  tests_of [] (v ∷ vs) k same e = absurd (omega arith)
  tests_of (i ∷ is) [] k same e = absurd (omega arith)
  tests_of (i ∷ is) (v ∷ vs) k same e =
      let parts = none_in (too_wide_value (width_of s (selected s h i)) v) (flat_map (λ (x : Ident × ValueText). too_wide_value (width_of s (selected s h x.0)) x.1) (zip is vs) ∷ []) e in (
        subst (λ w. IsTest w (test_of (width_of s (selected s h i)) v)) (sym (field_width s (selected s h i) (All-head (λ (j : Ident). is_field s (selected s h j) ≡ true) i is k)))
            (test_law (width_of s (selected s h i)) v parts.0),
        tests_of is vs (All-tail (λ (j : Ident). is_field s (selected s h j) ≡ true) i is k) (omega arith) parts.1.0,
      )

  once : repeated h.select ≡ [] → AreDistinct (map (λ (i : Ident). field_number s (selected s h i)) h.select)
  once e = distinct_fields s (selected s h) h.select known
      (λ i j d lt within same. names_differ h.select e i j d lt within (ap (λ (x : Named). x.name) same))

-- a target that is known and later
target_law : (s : Source) (n : ℕ) (t : TargetText) → unknown (header_names s) (target_names t) ≡ []
    → flat_map (λ (i : Ident). when (is_at_most (number_of (header_names s) i.name) n) i.place) (target_names t) ≡ [] → IsTarget (program_of s) n (target_of s t)
target_law s n target.Accept known later = tt
target_law s n target.Reject known later = tt
target_law s n (target.Header i) known later =
    let k = one_known (header_names s) i known in
    let at = number_at (header_names s) i.name k in
    let not_early : is_at_most (number_of (header_names s) i.name) n ≡ false = no_when (is_at_most (number_of (header_names s) i.name) n) i.place (append-nil_left (when (is_at_most (number_of (header_names s) i.name) n) i.place) [] later) in
    let l = stands_within (λ (x : HeaderText). x.ident.name) i.name s.headers k in
    let m = length-headers_from s 3 s.headers in
    (leb-false (index_of (header_names s) i.name) n (sym (ap (λ (o : Option ℕ). is_at_most o n) at) ∙ not_early), omega arith)

-- what is found nowhere among the targets of some cases
none_in_cases : {X : Type 0} (f : Ident → List X) (cs : List CaseText) → flat_map f (flat_map (λ (c : CaseText). target_names c.target) cs) ≡ [] → All (λ (c : CaseText). flat_map f (target_names c.target) ≡ []) cs
none_in_cases f [] e = All-nil (λ (c : CaseText). flat_map f (target_names c.target) ≡ [])
none_in_cases f (c ∷ cs) e =
    let parts = none_in (flat_map f (target_names c.target)) (flat_map f (flat_map (λ (c : CaseText). target_names c.target) cs) ∷ []) (sym (flat_map-append f (target_names c.target) (flat_map (λ (c : CaseText). target_names c.target) cs)) ∙ e) in
    All-cons (λ (c : CaseText). flat_map f (target_names c.target) ≡ []) c cs parts.0 (none_in_cases f cs parts.1.0)

none_in_targets : {X : Type 0} (f : Ident → List X) (h : HeaderText) → flat_map f (targets h) ≡ [] → All (λ (c : CaseText). flat_map f (target_names c.target) ≡ []) h.cases × (flat_map f (target_names h.other) ≡ [])
none_in_targets f h e =
    let parts = none_in (flat_map f (flat_map (λ (c : CaseText). target_names c.target) h.cases)) (flat_map f (target_names h.other) ∷ []) (sym (flat_map-append f (flat_map (λ (c : CaseText). target_names c.target) h.cases) (target_names h.other)) ∙ e) in
    (none_in_cases f h.cases parts.0, parts.1.0)

module _ (s : Source) (keeps : KeepsRules s) (text : All IsHeaderText s.headers) (before : List HeaderText) (h : HeaderText) (after : List HeaderText) (e : s.headers ≡ before ++ h ∷ after) where
  here : (P : HeaderText → Type 0) → All P s.headers → P h
  here P all = All-mid P before h after (subst (All P) e all)

  selects_known : All (λ (i : Ident). is_field s (selected s h i) ≡ true) h.select
  selects_known k d lt =
      no_when_not (is_field s (selected s h (get_or h.select k d))) (get_or h.select k d).place
      (flat_map-nil (λ (i : Ident). when (not (is_field s (selected s h i))) i.place) h.select (append-nil_left (unknown_select s h) (unknown_tail s h) (here (λ (x : HeaderText). unknown_own s x ≡ []) keeps.own_known)) k d lt)

  -- the widths of the header's fields by their numbers
  widths : map (state.width_of (program_of s)) (range_with_len (start_of before + 1) (length h.fields)) ≡ map (λ (d : Declared). d.width.value) h.fields
  widths = row (state.width_of (program_of s)) (λ (d : Declared). d.width.value) h.fields (start_of before + 1)
      (λ i d at. width_at s before h after e (suc i) (start_of before + 1 + i) _ (omega arith) (own_at s before h after e i d at))

  -- the tail, if there is one
  tail_law : IfSome (option_map (tail_of s h) h.tail) (IsTail (program_of s) (range_with_len (start_of before + 1) (length h.fields)))
  tail_law =
      by h.tail (append-nil_right (unknown_select s h) (unknown_tail s h) (here (λ (x : HeaderText). unknown_own s x ≡ []) keeps.own_known)) (here (λ (x : HeaderText). bad_tails s x ≡ []) keeps.tails_fit)
      (here IsHeaderText text).tail
    where
      by : (o : Option TailText) → flat_map (λ (t : TailText). when (not (is_field s (selected s h t.field))) t.field.place) (option_to_list o) ≡ [] → flat_map (bad_tail s h) (option_to_list o) ≡ []
          → IfSome o (λ (t : TailText). t.field.name ≢ codes "valid") → IfSome (option_map (tail_of s h) o) (IsTail (program_of s) (range_with_len (start_of before + 1) (length h.fields)))
      by None known fits plain = tt
      by (Some t) known fits plain =
          let field = selected s h t.field in
          let there = no_when_not (is_field s field) t.field.place (append-nil_left (when (not (is_field s field)) t.field.place) [] known) in
          let range = subst (λ w. InRange w t.unit.value t.base.value) (sym (field_width s field there))
          (in_range (width_of s field) t.unit.value t.base.value (no_when_not _ t.place (append-nil_left (bad_tail s h t) [] fits))) in
          record {
            own = own_field s keeps before h after e t.field there plain;
            narrow = range.0;
            has_unit = range.1;
            unit = range.2;
            base = range.3;
            reaches = range.4;
            is_not_long = range.5;
          }

  plain_law : map (λ (i : Ident). field_number s (selected s h i)) h.select ≡ [] → map (case_of s h) h.cases ≡ []
  plain_law none = by h.cases (here IsHeaderText text).cases (flat_map-nil (bad_case h) h.cases (here (λ (x : HeaderText). bad_cases x ≡ []) keeps.case_length))
    where
      by : (cs : List CaseText) → All (λ (c : CaseText). 1 ≤ length c.values) cs → All (λ (c : CaseText). bad_case h c ≡ []) cs → map (case_of s h) cs ≡ []
      by [] some good = refl
      by (c ∷ cs) some good =
          let l = All-head (λ (c : CaseText). 1 ≤ length c.values) c cs some in
          let m = same_count h c l (All-head (λ (c : CaseText). bad_case h c ≡ []) c cs good) in
          let n : length h.select ≡ 0 = ap length (map-nil (λ (i : Ident). field_number s (selected s h i)) h.select none) in
          absurd (omega arith)

  pub header_law : IsHeader (program_of s) (length before) (header_from s (start_of before) h)
  header_law =
      let size = whole (bits_of h) (no_when_not (is_size (bits_of h)) h.ident.place (here (λ (x : HeaderText). bad_size x ≡ []) keeps.header_size)) in
      let known = none_in_targets (λ (i : Ident). when (not (is_known (header_names s) i.name)) i.place) h (here (λ (x : HeaderText). unknown_targets s x ≡ []) keeps.targets_known) in
      let later = none_in_targets (λ (i : Ident). when (is_at_most (number_of (header_names s) i.name) (length before)) i.place) h
      (subst (λ (n : ℕ). early_targets s (n, h) ≡ []) (zero-add (length before)) (none_numbered (early_targets s) 0 before h after (subst (λ (hs : List HeaderText). flat_map (early_targets s) (enumerate_from 0 hs) ≡ []) e keeps.targets_later))) in
      let plain = here IsHeaderText text in
      let good = flat_map-nil (bad_case h) h.cases (here (λ (x : HeaderText). bad_cases x ≡ []) keeps.case_length) in
      let fit = flat_map-nil (too_wide_case s h) h.cases (here (λ (x : HeaderText). case_widths s x ≡ []) keeps.cases_fit) in
      record {
        valid = width_at s before h after e 0 (start_of before) _ (omega arith) refl;
        whole_bytes = ap sum widths ∙ size.0;
        is_not_empty = size.1;
        is_not_long = size.2;
        tail = tail_law;
        selects_own = All-map (Contains (range_with_len (start_of before + 1) (length h.fields))) (λ (i : Ident). field_number s (selected s h i)) h.select
            (λ k d lt. own_field s keeps before h after e (get_or h.select k d) (selects_known k d lt) (plain.select k d lt));
        selects_once = once s h selects_known (here (λ (x : HeaderText). repeated_select x ≡ []) keeps.select_once);
        plain = plain_law;
        cases = All-map (IsCase (program_of s) (length before) (map (λ (i : Ident). field_number s (selected s h i)) h.select)) (case_of s h) h.cases
            (λ k d lt. record {
              tests = tests_of s h selects_known h.select (get_or h.cases k d).values selects_known (same_count h (get_or h.cases k d) (plain.cases k d lt) (good k d lt)) (fit k d lt);
              target = target_law s (length before) (get_or h.cases k d).target (known.0 k d lt) (later.0 k d lt);
            });
        other = target_law s (length before) h.other known.1 later.1;
      }

pub headers_law : (s : Source) → KeepsRules s → All IsHeaderText s.headers → AllNumbered (IsHeader (program_of s)) (headers_from s 3 s.headers)
headers_law s keeps text = each_header s (IsHeader (program_of s)) (λ before h after e. header_law s keeps text before h after e)
