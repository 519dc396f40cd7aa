-- The names of a well-formed program keep the rules that speak of names alone, where each of its own names is one that an image may have.
use Rattle.std.proofs.Common.{◌≡◌, ◌≢◌, ℕ, zero, suc, ◌+◌, ◌<◌, ◌≤◌, Bool, true, false, not, cond, ◌&&◌, ◌==◌, List, [], ◌∷◌, length, map, Option, Some, None, refl, sym, ap, subst, ◌∙◌, tests, arith}
use Rattle.std.specs.Prelude.{All, count_by, nat_le, nat_lt, option_and_then, option_map, slice_get, unwrap_or}
use Rattle.std.specs.List.{cons_option, list_all}
use Rattle.std.specs.Str.{bytes_eq}
use Rattle.std.proofs.lemmas.Bool.{eq-eqb, false≢true, false_from_ne_true, lt-ltb}
use Rattle.std.proofs.lemmas.List.{length-map}
use Rattle.std.proofs.lemmas.List.Elements.{All-cons, All-head, All-nil, All-tail, All-weaker}
use Rattle.std.proofs.lemmas.List.Sums.{list_all-from_AllPass, sum_by-cons}
use Rattle.std.proofs.lemmas.Option.{none-some, same_Some, slice_get-map, slice_get_within}
use Rattle.std.proofs.lemmas.Slice.Eq.{bytes_eq-Decides}
use Rattle.rmt_bits.proofs.AllLaws.{All-slice_get}
use Rattle.rmt_bits.proofs.PairLaws.{AllPairs-head, AllPairs-tail}
use Rattle.rmt_ast.specs.Types.{Program, Field, Action, Table, Kind, Node, What}
use Rattle.rmt_ast.specs.declared.program.Kind.TheVariants.{Keyless, Exact, Prefix, Ternary}
use Rattle.rmt_ast.specs.declared.program.What.TheVariants.{Apply, Gate}
use Rattle.rmt_ast.specs.declared.entry.Entry.{Entry}
use Rattle.rmt_ast.specs.declared.names.TableName.{TableName}
use Rattle.rmt_ast.specs.declared.names.ActionName.{ActionName}
use Rattle.rmt_ast.specs.NameList.{is_known}
use Rattle.rmt_ast.specs.NameForm.{is_name}
use Rattle.rmt_ast.specs.NameRules.{CanBeNamed, action_names_differ, are_widths, differ, has_fields, has_names, has_params, has_size, may_have_ranks, names_are_formed, nodes_rise, rise, table_is_formed, table_names_differ}
use Rattle.rmt_ast.specs.Naming.{action_named, has_key, if_keyed, named_at, named_from, names_of, ranks_of, table_named}
use Rattle.rmt_ast.specs.State.{width_of}
use Rattle.rmt_ast.specs.WellFormed.{AreDistinct, HasKey, IsAction, IsKeyed, IsProgram, IsTable, IsWidth, applies}

-- ---- tests

both : (a b : Bool) → a ≡ true → b ≡ true → (a && b) ≡ true
both a b ha hb = cc

all_pass : {X : Type 0} (test : X → Bool) (xs : List X) → All (λ x. test x ≡ true) xs → list_all test xs ≡ true
all_pass test xs h = list_all-from_AllPass test xs h

is_width : (w : ℕ) → IsWidth w → (nat_le 1 w && nat_le w 128) ≡ true
is_width w h = let low = h.0 in let high = h.1 in both (nat_le 1 w) (nat_le w 128) (grind (arith, tests, low)) (grind (arith, tests, high))

widths_pass : (ws : List ℕ) → All IsWidth ws → are_widths ws ≡ true
widths_pass ws h = all_pass (λ w. nat_le 1 w && nat_le w 128) ws (All-weaker IsWidth (λ w. (nat_le 1 w && nat_le w 128) ≡ true) is_width ws h)

-- a name that differs from others isn't among them
unknown : (name : List ℕ) (names : List (List ℕ)) → All (λ o. name ≢ o) names → is_known names name ≡ false
unknown name [] h = refl
unknown name (o ∷ os) h =
    let here : bytes_eq name o ≡ false = false_from_ne_true (bytes_eq name o) (λ e. All-head (λ x. name ≢ x) o os h ((bytes_eq-Decides name o).0 e)) in
    rw here (unknown name os (All-tail (λ x. name ≢ x) o os h))

-- items of different places have different names, where names are distinct
names_apart : {X : Type 0} (name : X → List ℕ) (xs : List X) (a b : ℕ) (x y : X) → AreDistinct (map name xs) → slice_get xs a ≡ Some x → slice_get xs b ≡ Some y → a ≢ b → name x ≢ name y
names_apart name [] a b x y h at_x at_y ne e = absurd (let in_range = slice_get_within [] a x at_x in omega (arith, in_range))
names_apart name (z ∷ xs) zero zero x y h at_x at_y ne e = absurd (ne refl)
names_apart name (z ∷ xs) zero (suc b) x y h at_x at_y ne e =
    let same : name z ≡ name x = ap (λ o. name (unwrap_or o z)) at_x in
    let there : slice_get (map name xs) b ≡ Some (name y) = slice_get-map name xs b ∙ ap (option_map name) at_y in
    All-slice_get (λ o. name z ≢ o) (map name xs) b (name y) (AllPairs-head (λ p q. p ≢ q) (name z) (map name xs) h) there (same ∙ e)
names_apart name (z ∷ xs) (suc a) zero x y h at_x at_y ne e =
    let same : name z ≡ name y = ap (λ o. name (unwrap_or o z)) at_y in
    let there : slice_get (map name xs) a ≡ Some (name x) = slice_get-map name xs a ∙ ap (option_map name) at_x in
    All-slice_get (λ o. name z ≢ o) (map name xs) a (name x) (AllPairs-head (λ p q. p ≢ q) (name z) (map name xs) h) there (same ∙ sym e)
names_apart name (z ∷ xs) (suc a) (suc b) x y h at_x at_y ne e =
    names_apart name xs a b x y (AllPairs-tail (λ p q. p ≢ q) (name z) (map name xs) h) at_x at_y (λ s. ne (ap suc s)) e

module _ (p : Program) (lists : List (List Entry)) (program : IsProgram p) (can : CanBeNamed p lists) where
  -- ---- a table

  -- an action of a list
  action_there : (a : ℕ) → a < length p.actions → (x : Action) × (slice_get p.actions a ≡ Some x)
  action_there a lt = by p.actions a lt
    where
      by : (xs : List Action) (i : ℕ) → i < length xs → (x : Action) × (slice_get xs i ≡ Some x)
      by [] i lt = absurd (omega (arith, lt))
      by (x ∷ xs) zero lt = (x, refl)
      by (x ∷ xs) (suc i) lt = by xs i (omega (arith, lt))

  named_is : (a : ℕ) (x : Action) → slice_get p.actions a ≡ Some x → action_named p a ≡ record { name = x.name; params = x.params }
  named_is a x at = λ i. record { name = unwrap_or (option_map (λ (y : Action). y.name) (at i)) []; params = unwrap_or (option_map (λ (y : Action). y.params) (at i)) [] }

  action_is_named : (a : ℕ) → a < length p.actions → is_name (action_named p a).name ≡ true
  action_is_named a lt =
      let there = action_there a lt in
      ap (λ (n : ActionName). is_name n.name) (named_is a there.0 there.1) ∙ All-slice_get (λ (x : Action). is_name x.name ≡ true) p.actions a there.0 can.actions there.1

  action_has_params : (a : ℕ) → a < length p.actions → has_params (action_named p a) ≡ true
  action_has_params a lt =
      let there = action_there a lt in
      let formed : IsAction p there.0 = All-slice_get (IsAction p) p.actions a there.0 program.actions there.1 in
      let few = formed.few_params in
      ap has_params (named_is a there.0 there.1) ∙ both (are_widths there.0.params) (nat_le (length there.0.params) 16) (widths_pass there.0.params formed.params) (grind (arith, tests, few))

  actions_pass : (test : ActionName → Bool) → ((a : ℕ) → a < length p.actions → test (action_named p a) ≡ true) → (list : List ℕ) → All (λ a. a < length p.actions) list
      → list_all test (map (action_named p) list) ≡ true
  actions_pass test each [] h = refl
  actions_pass test each (a ∷ list) h =
      both (test (action_named p a)) (list_all test (map (action_named p) list)) (each a (All-head (λ b. b < length p.actions) a list h)) (actions_pass test each list (All-tail (λ b. b < length p.actions) a list h))

  -- the name of an action differs from those of others
  apart_from : (a : ℕ) → a < length p.actions → (list : List ℕ) → All (λ b. b < length p.actions) list → All (λ b. a ≢ b) list
      → All (λ o. (action_named p a).name ≢ o) (map (λ (n : ActionName). n.name) (map (action_named p) list))
  apart_from a lt [] range apart = All-nil (λ o. (action_named p a).name ≢ o)
  apart_from a lt (b ∷ list) range apart =
      let x = action_there a lt in
      let y = action_there b (All-head (λ c. c < length p.actions) b list range) in
      let differ = names_apart (λ (z : Action). z.name) p.actions a b x.0 y.0 program.names.actions_once x.1 y.1 (All-head (λ c. a ≢ c) b list apart) in
      let name_a : (action_named p a).name ≡ x.0.name = ap (λ (n : ActionName). n.name) (named_is a x.0 x.1) in
      let name_b : (action_named p b).name ≡ y.0.name = ap (λ (n : ActionName). n.name) (named_is b y.0 y.1) in
      All-cons (λ o. (action_named p a).name ≢ o) (action_named p b).name (map (λ (n : ActionName). n.name) (map (action_named p) list))
      (λ e. differ (sym name_a ∙ e ∙ name_b))
      (apart_from a lt list (All-tail (λ c. c < length p.actions) b list range) (All-tail (λ c. a ≢ c) b list apart))

  actions_differ : (list : List ℕ) → All (λ b. b < length p.actions) list → AreDistinct list → differ (map (λ (n : ActionName). n.name) (map (action_named p) list)) ≡ true
  actions_differ [] range distinct = refl
  actions_differ (a ∷ list) range distinct =
      let names = map (λ (n : ActionName). n.name) (map (action_named p) list) in
      let in_range = All-head (λ c. c < length p.actions) a list range in
      let later = All-tail (λ c. c < length p.actions) a list range in
      both (not (is_known names (action_named p a).name)) (differ names)
      (ap not (unknown (action_named p a).name names (apart_from a in_range list later (AllPairs-head (λ b c. b ≢ c) a list distinct))))
      (actions_differ list later (AllPairs-tail (λ b c. b ≢ c) a list distinct))

  -- a field of a key
  field_is_width : (f : ℕ) → f < length p.fields → (nat_le 1 (width_of p f) && nat_le (width_of p f) 128) ≡ true
  field_is_width f lt = by p.fields f lt program.fields.widths
    where
      by : (xs : List Field) (i : ℕ) → i < length xs → All (λ (x : Field). IsWidth x.width) xs
          → (nat_le 1 (unwrap_or (option_map (λ (x : Field). x.width) (slice_get xs i)) 0) && nat_le (unwrap_or (option_map (λ (x : Field). x.width) (slice_get xs i)) 0) 128) ≡ true
      by [] i lt h = absurd (omega (arith, lt))
      by (x ∷ xs) zero lt h = is_width x.width (All-head (λ (y : Field). IsWidth y.width) x xs h)
      by (x ∷ xs) (suc i) lt h = by xs i (omega (arith, lt)) (All-tail (λ (y : Field). IsWidth y.width) x xs h)

  fields_are_widths : (fs : List ℕ) → All (λ f. f < length p.fields) fs → are_widths (map (width_of p) fs) ≡ true
  fields_are_widths [] h = refl
  fields_are_widths (f ∷ fs) h =
      both (nat_le 1 (width_of p f) && nat_le (width_of p f) 128) (are_widths (map (width_of p) fs))
      (field_is_width f (All-head (λ g. g < length p.fields) f fs h)) (fields_are_widths fs (All-tail (λ g. g < length p.fields) f fs h))

  keyed : (kind : Kind) (t : Table) → HasKey p kind t → has_key kind ≡ true → IsKeyed p t
  keyed Keyless t h e = absurd (false≢true e)
  keyed Exact t h e = h
  keyed Prefix t h e = h.0
  keyed Ternary t h e = h

  has_one : (kind : Kind) (t : Table) (ws : List ℕ) → HasKey p kind t → length ws ≡ length t.key → has_fields kind ws ≡ true
  has_one Keyless t ws h e = refl
  has_one Exact t ws h e = refl
  has_one Prefix t ws h e = ap (λ n. n == 1) (e ∙ h.1)
  has_one Ternary t ws h e = refl

  ranks_fit : (kind : Kind) (es : List Entry) → may_have_ranks kind (ranks_of kind es) ≡ true
  ranks_fit Keyless es = refl
  ranks_fit Exact es = refl
  ranks_fit Prefix es = refl
  ranks_fit Ternary es = refl

  all_eight : (a b c d e f g h : Bool) → a ≡ true → b ≡ true → c ≡ true → d ≡ true → e ≡ true → f ≡ true → g ≡ true → h ≡ true
      → (a && b && c && d && e && f && g && h) ≡ true
  all_eight a b c d e f g h ea eb ec ed ee ef eg eh = rw (ea, eb, ec, ed, ee, ef, eg, eh) refl

  table_formed : (n : ℕ) (es : List Entry) (t : Table) → IsTable p t → is_name t.name ≡ true → has_key t.kind ≡ true → table_is_formed (table_named p n es t) ≡ true
  table_formed n es t formed named key =
      let k = keyed t.kind t formed.key key in
      let least = k.has_size in
      let most = k.size in
      let x = table_named p n es t in
      all_eight (has_key t.kind) (has_names x) (action_names_differ x) (are_widths x.keys) (has_fields t.kind x.keys) (list_all has_params x.actions) (has_size x) (may_have_ranks t.kind x.ranks)
      key (both (is_name t.name) (list_all (λ (a : ActionName). is_name a.name) x.actions) named (actions_pass (λ (a : ActionName). is_name a.name) action_is_named t.actions formed.actions))
      (actions_differ t.actions formed.actions formed.actions_once) (fields_are_widths t.key k.key_fields) (has_one t.kind t x.keys formed.key (length-map t.key (width_of p)))
      (actions_pass has_params action_has_params t.actions formed.actions) (both (nat_le 1 t.size) (nat_le t.size 1048576) (grind (arith, tests, least)) (grind (arith, tests, most)))
      (ranks_fit t.kind es)

  -- ---- all tables

  -- what node n is named by
  record NamedBy (n : ℕ) (w : What) (es : List Entry) (x : TableName) : Type 0 where
    number : ℕ
    table : Table
    applied : w ≡ Apply number
    at : slice_get p.tables number ≡ Some table
    key : has_key table.kind ≡ true
    is : x ≡ table_named p n es table

  named_by : (n : ℕ) (es : List Entry) (w : What) (x : TableName) → named_at p n es w ≡ Some x → NamedBy n w es x
  named_by n es (Gate f test) x e = absurd (none-some x e)
  named_by n es (Apply u) x e = in_table (slice_get p.tables u) refl e
    where
      in_table : (o : Option Table) → slice_get p.tables u ≡ o → option_and_then (if_keyed p n es) o ≡ Some x → NamedBy n (Apply u) es x
      in_table None at h = absurd (none-some x h)
      in_table (Some t) at h = if_key (has_key t.kind) refl h
        where
          if_key : (b : Bool) → has_key t.kind ≡ b → cond b (Some (table_named p n es t)) None ≡ Some x → NamedBy n (Apply u) es x
          if_key true key h = record { number = u; table = t; applied = refl; at = at; key = key; is = sym (same_Some _ _ h) }
          if_key false key h = absurd (none-some x h)

  abbrev entries_at : ℕ → List Entry
  entries_at n = unwrap_or (slice_get lists n) []

  node_is : (n : ℕ) (w : What) (x : TableName) → NamedBy n w (entries_at n) x → x.node ≡ n
  node_is n w x by = ap (λ (y : TableName). y.node) by.is

  above : (m n : ℕ) → m < n → (nodes : List Node) → list_all (λ k. nat_lt m k) (map (λ (x : TableName). x.node) (named_from p lists n nodes)) ≡ true
  above m n lt [] = refl
  above m n lt (node ∷ nodes) = step (named_at p n (entries_at n) node.what) refl (above m (n + 1) (omega (arith, lt)) nodes)
    where
      step : (o : Option TableName) → named_at p n (entries_at n) node.what ≡ o → list_all (λ k. nat_lt m k) (map (λ (x : TableName). x.node) (named_from p lists (n + 1) nodes)) ≡ true
          → list_all (λ k. nat_lt m k) (map (λ (x : TableName). x.node) (cons_option o (named_from p lists (n + 1) nodes))) ≡ true
      step None e h = h
      step (Some x) e h =
          let at : x.node ≡ n = node_is n node.what x (named_by n (entries_at n) node.what x e) in
          both (nat_lt m x.node) _ (ap (nat_lt m) at ∙ lt-ltb m n lt) h

  rises : (n : ℕ) (nodes : List Node) → rise (map (λ (x : TableName). x.node) (named_from p lists n nodes)) ≡ true
  rises n [] = refl
  rises n (node ∷ nodes) = step (named_at p n (entries_at n) node.what) refl (rises (n + 1) nodes)
    where
      step : (o : Option TableName) → named_at p n (entries_at n) node.what ≡ o → rise (map (λ (x : TableName). x.node) (named_from p lists (n + 1) nodes)) ≡ true
          → rise (map (λ (x : TableName). x.node) (cons_option o (named_from p lists (n + 1) nodes))) ≡ true
      step None e h = h
      step (Some x) e h =
          let at : x.node ≡ n = node_is n node.what x (named_by n (entries_at n) node.what x e) in
          both (list_all (λ k. nat_lt x.node k) (map (λ (y : TableName). y.node) (named_from p lists (n + 1) nodes))) _
          (ap (λ m. list_all (λ k. nat_lt m k) (map (λ (y : TableName). y.node) (named_from p lists (n + 1) nodes))) at ∙ above n (n + 1) (omega arith) nodes) h

  formed_from : (n : ℕ) (nodes : List Node) → list_all table_is_formed (named_from p lists n nodes) ≡ true
  formed_from n [] = refl
  formed_from n (node ∷ nodes) = step (named_at p n (entries_at n) node.what) refl (formed_from (n + 1) nodes)
    where
      step : (o : Option TableName) → named_at p n (entries_at n) node.what ≡ o → list_all table_is_formed (named_from p lists (n + 1) nodes) ≡ true
          → list_all table_is_formed (cons_option o (named_from p lists (n + 1) nodes)) ≡ true
      step None e h = h
      step (Some x) e h =
          let by = named_by n (entries_at n) node.what x e in
          let formed = All-slice_get (IsTable p) p.tables by.number by.table program.tables by.at in
          let named = All-slice_get (λ (t : Table). is_name t.name ≡ true) p.tables by.number by.table can.tables by.at in
          both (table_is_formed x) _ (ap table_is_formed by.is ∙ table_formed n (entries_at n) by.table formed named by.key) h

  -- ---- names of tables differ, since each is applied once

  applied_here : (u : ℕ) (node : Node) (nodes : List Node) → node.what ≡ Apply u → count_by (λ (x : Node). applies u x.what) (node ∷ nodes) ≡ 1 + count_by (λ (x : Node). applies u x.what) nodes
  applied_here u node nodes e =
      let yes : applies u node.what ≡ true = ap (applies u) e ∙ eq-eqb u u refl in
      sum_by-cons (λ (x : Node). cond (applies u x.what) 1 0) node nodes ∙ ap (λ b. cond b 1 0 + count_by (λ (x : Node). applies u x.what) nodes) yes

  counted_less : (u : ℕ) (node : Node) (nodes : List Node) → count_by (λ (x : Node). applies u x.what) nodes ≤ count_by (λ (x : Node). applies u x.what) (node ∷ nodes)
  counted_less u node nodes =
      let P : ℕ → Type 0 = λ n. count_by (λ (x : Node). applies u x.what) nodes ≤ n in
      subst P (sym (sum_by-cons (λ (x : Node). cond (applies u x.what) 1 0) node nodes)) (by (applies u node.what))
    where
      by : (b : Bool) → count_by (λ (x : Node). applies u x.what) nodes ≤ cond b 1 0 + count_by (λ (x : Node). applies u x.what) nodes
      by true = omega arith
      by false = omega arith

  -- no later node has the name of a table that none of them applies
  named_later : (u : ℕ) (t : Table) → slice_get p.tables u ≡ Some t → (n : ℕ) (nodes : List Node) → count_by (λ (x : Node). applies u x.what) nodes ≡ 0
      → All (λ o. t.name ≢ o) (map (λ (x : TableName). x.name) (named_from p lists n nodes))
  named_later u t at n [] none = All-nil (λ o. t.name ≢ o)
  named_later u t at n (node ∷ nodes) none =
      let fewer = counted_less u node nodes in
      step (named_at p n (entries_at n) node.what) refl (named_later u t at (n + 1) nodes (omega (arith, fewer, none)))
    where
      step : (o : Option TableName) → named_at p n (entries_at n) node.what ≡ o → All (λ o. t.name ≢ o) (map (λ (x : TableName). x.name) (named_from p lists (n + 1) nodes))
          → All (λ o. t.name ≢ o) (map (λ (x : TableName). x.name) (cons_option o (named_from p lists (n + 1) nodes)))
      step None e h = h
      step (Some x) e h =
          let by = named_by n (entries_at n) node.what x e in
          let other : u ≢ by.number = λ same. let here = applied_here u node nodes (by.applied ∙ ap Apply (sym same)) in omega (arith, here, none) in
          let apart = names_apart (λ (y : Table). y.name) p.tables u by.number t by.table program.names.tables_once at by.at other in
          All-cons (λ o. t.name ≢ o) x.name (map (λ (y : TableName). y.name) (named_from p lists (n + 1) nodes)) (λ same. apart (same ∙ ap (λ (y : TableName). y.name) by.is)) h

  tables_differ : (n : ℕ) (nodes : List Node) → ((u : ℕ) → u < length p.tables → count_by (λ (x : Node). applies u x.what) nodes ≤ 1)
      → differ (map (λ (x : TableName). x.name) (named_from p lists n nodes)) ≡ true
  tables_differ n [] once = refl
  tables_differ n (node ∷ nodes) once =
      step (named_at p n (entries_at n) node.what) refl (tables_differ (n + 1) nodes (λ u lt. let fewer = counted_less u node nodes in let most = once u lt in omega (arith, fewer, most)))
    where
      step : (o : Option TableName) → named_at p n (entries_at n) node.what ≡ o → differ (map (λ (x : TableName). x.name) (named_from p lists (n + 1) nodes)) ≡ true
          → differ (map (λ (x : TableName). x.name) (cons_option o (named_from p lists (n + 1) nodes))) ≡ true
      step None e h = h
      step (Some x) e h =
          let by = named_by n (entries_at n) node.what x e in
          let most = once by.number (slice_get_within p.tables by.number by.table by.at) in
          let here = applied_here by.number node nodes by.applied in
          let none : count_by (λ (y : Node). applies by.number y.what) nodes ≡ 0 = omega (arith, most, here) in
          let names = map (λ (y : TableName). y.name) (named_from p lists (n + 1) nodes) in
          let named : x.name ≡ by.table.name = ap (λ (y : TableName). y.name) by.is in
          both (not (is_known names x.name)) (differ names)
          (ap (λ name. not (is_known names name)) named ∙ ap not (unknown by.table.name names (named_later by.number by.table by.at (n + 1) nodes none))) h

  pub names_of-formed : names_are_formed (names_of p lists) ≡ true
  names_of-formed =
      both (nodes_rise (names_of p lists) && table_names_differ (names_of p lists)) (list_all table_is_formed (names_of p lists).tables)
      (both (nodes_rise (names_of p lists)) (table_names_differ (names_of p lists)) (rises 0 p.nodes)
      (tables_differ 0 p.nodes (λ u lt. let one = program.applied u lt in omega (arith, one))))
      (formed_from 0 p.nodes)
