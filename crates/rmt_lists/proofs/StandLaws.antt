-- Lists of a run behind a change.
use Rattle.std.proofs.Common.{◌≡◌, ◌≢◌, ℕ, zero, suc, ◌<◌, ◌≤◌, ◌==◌, ◌&&◌, true, false, List, [], ◌∷◌, Option, Some, None, Result, Ok, Err, length, slice_get, slice_set, option_map, get_or, refl, sym, ap, subst, ◌∙◌, inl, inr, arith}
use Rattle.std.specs.Prelude.{All, IsErr, IsSomeAnd, find, nat_le}
use Rattle.std.proofs.lemmas.Bool.{cases_Bool, eq-eqb, eqb-true, false≢true}
use Rattle.std.proofs.lemmas.Bool.Decides.{nat_tests}
use Rattle.std.proofs.lemmas.List.{length-set}
use Rattle.std.proofs.lemmas.Option.{same_Some, none-some, slice_get-get_or}
use Rattle.rmt_bits.proofs.AllLaws.{All-find}
use Rattle.rmt_ast.specs.declared.program.Kind.{Kind}
use Rattle.rmt_ast.specs.declared.entry.Entry.{Entry}
use Rattle.rmt_ast.specs.declared.names.Names.{Names}
use Rattle.rmt_ast.specs.declared.names.TableName.{TableName}
use Rattle.rmt_ast.specs.EntryLists.{IsEntry, Terms}
use Rattle.rmt_ast.specs.NameRules.{terms_of_name}
use Rattle.rmt_ast.specs.Changes.{EntryKey, list_of, key_of_entry, is_held}
use Rattle.rmt_entries.specs.declared.named.EntryName.{EntryName}
use Rattle.rmt_entries.specs.Entries.{has_keys_once}
use Rattle.rmt_entries.specs.NamedLines.{IsNamedEntry}
use Rattle.rmt_lists.specs.declared.held.Held.{Held}
use Rattle.rmt_lists.specs.Holding.{Holds, keyed_numbers}
use Rattle.rmt_lists.specs.Running.{Running, added_to, key_of_name, kind_and_size, refusal_of, removed_from, with_entry, with_one, without_one}
use Rattle.rmt_lists.specs.declared.lists.Lists.{Lists}
use Rattle.rmt_lists.specs.Stands.{AreHeld, Stands, StandsFor}
use Rattle.rmt_lists.proofs.FilterLaws.{list_of-past}
use Rattle.rmt_lists.proofs.KeyLaws.{first_keyed, some_keyed}
use Rattle.rmt_bits.proofs.ListLaws.{slice_get-set_other, find-passes}

-- ---- what is held

set_get-same : {X : Type 0} (xs : List X) (i : ℕ) (v x : X) → slice_get (slice_set xs i v) i ≡ Some x → v ≡ x
set_get-same [] i v x e = absurd (none-some x e)
set_get-same (y ∷ ys) zero v x e = same_Some v x e
set_get-same (y ∷ ys) (suc i) v x e = set_get-same ys i v x e

pub held_set : (tables : List Held) (lists lists2 : List (List Entry)) (node : ℕ) (h : Held) → AreHeld tables lists → length lists2 ≡ length lists → Holds h (list_of lists2 node)
    → ((m : ℕ) → m ≢ node → list_of lists2 m ≡ list_of lists m) → AreHeld (slice_set tables node h) lists2
held_set tables lists lists2 node h all len own others = record {
  count = length-set tables node h ∙ all.count ∙ sym len;
  each = λ m x at.
      elim (cases_Bool (m == node)) [
        | inl t ↦
            let same : m ≡ node = eqb-true m node t in
            let here : slice_get (slice_set tables node h) node ≡ Some x = ap (slice_get (slice_set tables node h)) (sym same) ∙ at in
            subst (λ (k : ℕ). Holds x (list_of lists2 k)) (sym same) (subst (λ (y : Held). Holds y (list_of lists2 node)) (set_get-same tables node h x here) own)
        | inr f ↦
            let apart : m ≢ node = λ same. false≢true (sym f ∙ eq-eqb m node same) in
            subst (Holds x) (sym (others m apart)) (all.each m x (sym (slice_get-set_other tables node m h apart) ∙ at))
      ];
}

pub held_at : (tables : List Held) (lists : List (List Entry)) (node : ℕ) (h : Held) → AreHeld tables lists → node < length tables → h ≡ get_or tables node h → Holds h (list_of lists node)
held_at tables lists node h all lt at = all.each node h (slice_get-get_or tables node h lt ∙ ap Some (sym at))

-- ---- refusals

pub refused_6 : (kind : Kind) (size most taken : ℕ) (k : EntryKey) (es : List Entry) → (has_keys_once kind && is_held k es) ≡ true → Some 6 ≡ refusal_of kind size most taken k es
refused_6 kind size most taken k es h = rw h refl

pub refused_7 : (kind : Kind) (size most taken : ℕ) (k : EntryKey) (es : List Entry) → (has_keys_once kind && is_held k es) ≡ false → size ≤ length es → Some 7 ≡ refusal_of kind size most taken k es
refused_7 kind size most taken k es h full = let t : nat_le size (length es) ≡ true = grind (arith, nat_tests) in rw (h, t) refl

pub refused_9 : (kind : Kind) (size most taken : ℕ) (k : EntryKey) (es : List Entry) → (has_keys_once kind && is_held k es) ≡ false → length es < size → most ≤ taken → Some 9 ≡ refusal_of kind size most taken k es
refused_9 kind size most taken k es h room many =
    let f : nat_le size (length es) ≡ false = grind (arith, nat_tests) in let t : nat_le most taken ≡ true = grind (arith, nat_tests) in rw (h, f, t) refl

pub refused_not : (kind : Kind) (size most taken : ℕ) (k : EntryKey) (es : List Entry) → (has_keys_once kind && is_held k es) ≡ false → length es < size → taken < most → None ≡ refusal_of kind size most taken k es
refused_not kind size most taken k es h room few =
    let f : nat_le size (length es) ≡ false = grind (arith, nat_tests) in let g : nat_le most taken ≡ false = grind (arith, nat_tests) in rw (h, f, g) refl

pub added_refused : (r : Running) (e : Entry) (o : Option Terms) (terms : Kind × ℕ) (code : ℕ) → Some terms ≡ option_map kind_and_size o
    → Some code ≡ refusal_of terms.0 terms.1 r.most r.taken (key_of_entry e) (list_of r.now.lists e.table) → added_to r e o ≡ Err code
added_refused r e None terms code known h = cc
added_refused r e (Some t) terms code known h =
    let same : terms ≡ (t.kind, t.size) = same_Some terms (t.kind, t.size) known in
    let refusal : refusal_of t.kind t.size r.most r.taken (key_of_entry e) (list_of r.now.lists e.table) ≡ Some code =
    sym (h ∙ ap (λ (x : Kind × ℕ). refusal_of x.0 x.1 r.most r.taken (key_of_entry e) (list_of r.now.lists e.table)) same) in
    rw refusal refl

pub added_allowed : (r : Running) (e : Entry) (o : Option Terms) (terms : Kind × ℕ) → Some terms ≡ option_map kind_and_size o
    → None ≡ refusal_of terms.0 terms.1 r.most r.taken (key_of_entry e) (list_of r.now.lists e.table) → added_to r e o ≡ Ok (with_one r e)
added_allowed r e None terms known h = cc
added_allowed r e (Some t) terms known h =
    let same : terms ≡ (t.kind, t.size) = same_Some terms (t.kind, t.size) known in
    let refusal : refusal_of t.kind t.size r.most r.taken (key_of_entry e) (list_of r.now.lists e.table) ≡ None =
    sym (h ∙ ap (λ (x : Kind × ℕ). refusal_of x.0 x.1 r.most r.taken (key_of_entry e) (list_of r.now.lists e.table)) same) in
    rw refusal refl

pub named_within : (names : Names) (e : Entry) (n : ℕ) → IsNamedEntry names e → All (λ (t : TableName). t.node < n) names.tables → e.table < n
named_within names e n named all = by (find (λ (t : TableName). t.node == e.table) names.tables) refl named
  where
    by : (o : Option TableName) → find (λ (t : TableName). t.node == e.table) names.tables ≡ o → IsSomeAnd (option_map terms_of_name o) (λ t. IsEntry e.table t e) → e.table < n
    by None s h = absurd h
    by (Some t) s h =
        let node : t.node ≡ e.table = eqb-true t.node e.table (find-passes (λ (x : TableName). x.node == e.table) names.tables t s) in
        subst (λ (k : ℕ). k < n) node (All-find (λ (x : TableName). x.node < n) (λ (x : TableName). x.node == e.table) names.tables t all s)

-- ---- removals

pub not_removed : (r : Running) (k : EntryName) → slice_get (keyed_numbers (key_of_name k) (list_of r.now.lists k.table)) 0 ≡ None → removed_from r k ≡ Err 8
not_removed r k none = rw (first_keyed (key_of_name k) (list_of r.now.lists k.table) none) refl

pub is_removed : (r : Running) (k : EntryName) (n : ℕ) → slice_get (keyed_numbers (key_of_name k) (list_of r.now.lists k.table)) 0 ≡ Some n → removed_from r k ≡ Ok (without_one r k.table (key_of_name k))
is_removed r k n some = rw (some_keyed (key_of_name k) (list_of r.now.lists k.table) n some) refl

pub removed_stands : (r : Running) (k : EntryName) (n : ℕ) (l : Lists) → slice_get (keyed_numbers (key_of_name k) (list_of r.now.lists k.table)) 0 ≡ Some n → Stands (without_one r k.table (key_of_name k)) l
    → StandsFor (removed_from r k) l
removed_stands r k n l some s = subst (λ (o : Result Running ℕ). StandsFor o l) (sym (is_removed r k n some)) s

pub no_table : (r : Running) (k : EntryName) → length r.now.lists ≤ k.table → removed_from r k ≡ Err 8
no_table r k past = rw (list_of-past r.now.lists k.table past) refl

-- ---- lines that say nothing

pub no_entry : (r : Running) (o : Result Entry ℕ) → IsErr o → with_entry r o ≡ Err 5
no_entry r (Err code) h = refl
no_entry r (Ok e) h = cc
