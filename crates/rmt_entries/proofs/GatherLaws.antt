-- Entries that are gathered one after another.
use Rattle.std.proofs.Common.{◌≡◌, ◌≢◌, ℕ, ◌+◌, ◌<◌, ◌==◌, ◌&&◌, ◌||◌, Bool, true, false, not, cond, List, [], ◌∷◌, ◌++◌, Option, Vec, Result, Ok, Err, nat_le, if◌then◌else◌, ◌≤◌, length, get_or, slice_set, refl, sym, ap, ◌∙◌, zero-add, inl, inr, arith}
use Rattle.std.specs.List.{range_with_len}
use Rattle.std.specs.Str.{bytes_eq}
use Rattle.std.specs.Global.{Global}
use Rattle.std.proofs.lemmas.Bool.{cases_Bool, eqb-true, eq-eqb, false≢true}
use Rattle.std.proofs.lemmas.Bool.Decides.{nat_tests}
use Rattle.std.proofs.lemmas.List.{ext_get_or, get_or-set_same, get_or-set_other, length-set, map_push, append-nil}
use Rattle.std.proofs.lemmas.List.Folds.{list_any-append}
use Rattle.std.proofs.lemmas.List.Elements.{filter-append}
use Rattle.std.proofs.lemmas.List.FromFn.{get_or-map-range_with_len, length-map-range_with_len}
use Rattle.rmt_bits.proofs.ListLaws.{range_more}
use Rattle.rmt_ast.specs.declared.entry.Entry.{Entry}
use Rattle.rmt_ast.specs.declared.program.Kind.{Kind}
use Rattle.rmt_ast.specs.EntryLists.{Terms}
use Rattle.rmt_entries.specs.Entries.{by_node, entries_at, has_keys_once, identity, is_repeated}
use Rattle.rmt_entries.specs.LinesSoFar.{IsAppliedBy, Knows, is_once}
use Rattle.rmt_entries.specs.KeySets.{KeySet, has}
use Rattle.rmt_entries.specs.Tables.{AppliedTable}
use Rattle.rmt_bits.proofs.FunctionLaws.{bytes_eq-sym}

not-not : (b : Bool) → not (not b) ≡ b
not-not true = refl
not-not false = refl

-- one node more
pub by_node_more : (n : ℕ) (es : List Entry) → by_node (n + 1) es ≡ by_node n es ++ entries_at es n ∷ []
by_node_more n es = rw (range_more 0 n, map_push (entries_at es) (range_with_len 0 n) (0 + n), zero-add n) refl

pub by_node_at : (n m : ℕ) (es d : List Entry) → m < n → get_or (by_node n es) m d ≡ entries_at es m
by_node_at n m es d lt = get_or-map-range_with_len (entries_at es) 0 n m m d lt (zero-add m)

pub length-by_node : (n : ℕ) (es : List Entry) → length (by_node n es) ≡ n
length-by_node n es = length-map-range_with_len (entries_at es) 0 n

-- one entry more
pub entries_at_own : (es : List Entry) (e : Entry) → entries_at (es ++ e ∷ []) e.table ≡ entries_at es e.table ++ e ∷ []
entries_at_own es e =
    filter-append (λ (x : Entry). e.table == x.table) es (e ∷ [])
    ∙ ap (λ (b : Bool). entries_at es e.table ++ cond b (e ∷ []) []) (eq-eqb e.table e.table refl)

pub entries_at_other : (es : List Entry) (e : Entry) (m : ℕ) → m ≢ e.table → entries_at (es ++ e ∷ []) m ≡ entries_at es m
entries_at_other es e m h =
    filter-append (λ (x : Entry). m == x.table) es (e ∷ [])
    ∙ ap (λ (b : Bool). entries_at es m ++ cond b (e ∷ []) []) (apart (m == e.table) refl) ∙ append-nil (entries_at es m)
  where
    apart : (b : Bool) → (m == e.table) ≡ b → b ≡ false
    apart true t = absurd (h (eqb-true m e.table t))
    apart false t = refl

pub by_node_push : (n : ℕ) (es : List Entry) (e : Entry) (own : List Entry) → e.table < n → own ≡ entries_at es e.table ++ e ∷ []
    → slice_set (by_node n es) e.table own ≡ by_node n (es ++ e ∷ [])
by_node_push n es e own lt h =
    let old = by_node n es in
    let new = by_node n (es ++ e ∷ []) in
    ext_get_or [] (slice_set old e.table own) new (length-set old e.table own ∙ length-by_node n es ∙ sym (length-by_node n (es ++ e ∷ [])))
    (λ m below.
    let inside : m < n = rw (length-set old e.table own, length-by_node n es) at below in
    elim (cases_Bool (m == e.table)) [
      | inl t ↦
          let same : m ≡ e.table = eqb-true m e.table t in
          let within : e.table < length old = rw (length-by_node n es) lt in
          rw same (get_or-set_same old e.table own [] within ∙ h ∙ sym (entries_at_own es e) ∙ sym (by_node_at n e.table (es ++ e ∷ []) [] lt))
      | inr f ↦
          let apart : m ≢ e.table = λ same. false≢true (sym f ∙ eq-eqb m e.table same) in
          get_or-set_other old e.table m own [] apart ∙ by_node_at n m es [] inside ∙ sym (entries_at_other es e m apart) ∙ sym (by_node_at n m (es ++ e ∷ []) [] inside)
    ])

-- the entries that are repeated beside one more
is_repeated_push : (es : List Entry) (e x : Entry) → is_repeated (es ++ e ∷ []) x ≡ cond (bytes_eq (identity e) (identity x)) true (is_repeated es x)
is_repeated_push es e x =
    list_any-append (λ (o : Entry). bytes_eq (identity x) (identity o)) es (e ∷ [])
    ∙ by (is_repeated es x) (bytes_eq (identity x) (identity e)) (bytes_eq (identity e) (identity x)) (bytes_eq-sym (identity x) (identity e))
  where
    by : (a b c : Bool) → b ≡ c → (a || (b || false)) ≡ cond c true a
    by true true c h = rw (← h) refl
    by true false c h = rw (← h) refl
    by false true c h = rw (← h) refl
    by false false c h = rw (← h) refl

-- a key more
pub knows_more : (terms : List (Option Terms)) (es : List Entry) (keys new : KeySet) (key : Vec ℕ Global) (e : Entry) → Knows terms es keys → key.items ≡ identity e
    → ((q : Vec ℕ Global) → has new q ≡ cond (bytes_eq key.items q.items) true (has keys q)) → Knows terms (es ++ e ∷ []) new
knows_more terms es keys new key e h own up q x qi once =
    up q
    ∙ ap (λ (b : Bool). cond b true (has keys q)) (ap (λ k. bytes_eq k q.items) own ∙ ap (bytes_eq (identity e)) qi)
    ∙ ap (cond (bytes_eq (identity e) (identity x)) true) (h q x qi once) ∙ sym (is_repeated_push es e x)

-- whether a key was there
pub key_again : (terms : List (Option Terms)) (es : List Entry) (keys : KeySet) (key : Vec ℕ Global) (e : Entry) (kind : Kind) (is_new : Bool) → Knows terms es keys → key.items ≡ identity e
    → is_once terms e.table ≡ has_keys_once kind → has_keys_once kind ≡ true → is_new ≡ not (has keys key) → not is_new ≡ (has_keys_once kind && is_repeated es e)
key_again terms es keys key e kind is_new h own once t added =
    let there : has keys key ≡ is_repeated es e = h key e own (once ∙ t) in
    rw (added, there, t) (not-not (is_repeated es e))

-- what an entry is beside those of earlier lines
abbrev pub beside : Bool → Bool → ℕ → List Entry → Entry → Result Entry ℕ
beside once again size own e = if once && again then Err 6 else (if nat_le size (length own) then Err 7 else Ok e)

pub beside_repeated : (once again : Bool) (size : ℕ) (own : List Entry) (e : Entry) → (once && again) ≡ true → beside once again size own e ≡ Err 6
beside_repeated once again size own e h = rw h refl

pub beside_full : (once again : Bool) (size : ℕ) (own : List Entry) (e : Entry) → (once && again) ≡ false → size ≤ length own → beside once again size own e ≡ Err 7
beside_full once again size own e h full = let t : nat_le size (length own) ≡ true = grind (arith, nat_tests) in rw (h, t) refl

pub beside_fits : (once again : Bool) (size : ℕ) (own : List Entry) (e : Entry) → (once && again) ≡ false → length own < size → beside once again size own e ≡ Ok e
beside_fits once again size own e h room = let f : nat_le size (length own) ≡ false = grind (arith, nat_tests) in rw (h, f) refl

-- a table that a node applies is known to have distinct keys by its own kind
pub once_own : (terms : List (Option Terms)) (t : AppliedTable) (n : ℕ) → n ≡ t.node → IsAppliedBy terms t → is_once terms n ≡ has_keys_once t.terms.kind
once_own terms t n e h = rw (e, h) refl

-- the list of a node that is gathered
pub list_at : (terms : List (Option Terms)) (es : List Entry) (lists : List (List Entry)) (n : ℕ) (own : List Entry) → lists ≡ by_node (length terms) es → n < length lists → own ≡ get_or lists n own
    → own ≡ entries_at es n
list_at terms es lists n own h lt at =
    let within : n < length terms = rw (h, length-by_node (length terms) es) at lt in
    at ∙ ap (λ (ls : List (List Entry)). get_or ls n own) h ∙ by_node_at (length terms) n es own within

-- the lists with one entry more
pub lists_push : (terms : List (Option Terms)) (es : List Entry) (lists : List (List Entry)) (e : Entry) (own next : List Entry) → lists ≡ by_node (length terms) es → e.table < length lists
    → own ≡ get_or lists e.table own → next ≡ own ++ e ∷ [] → slice_set lists e.table next ≡ by_node (length terms) (es ++ e ∷ [])
lists_push terms es lists e own next h lt at more =
    let within : e.table < length terms = rw (h, length-by_node (length terms) es) at lt in
    ap (λ (ls : List (List Entry)). slice_set ls e.table next) h
    ∙ by_node_push (length terms) es e next within (more ∙ ap (λ (xs : List Entry). xs ++ e ∷ []) (list_at terms es lists e.table own h lt at))
