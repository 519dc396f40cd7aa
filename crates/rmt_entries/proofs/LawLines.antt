-- What a line says fits its table, beside the entries of earlier lines.
use Rattle.std.proofs.Common.{◌≡◌, ◌≢◌, ℕ, ◌<◌, ◌≤◌, ◌&&◌, ◌==◌, Bool, true, false, List, [], ◌∷◌, ◌++◌, Option, Some, None, Result, Ok, Err, IsTrue, All, if◌then◌else◌, nat_le, length, slice_get, get_or, refl, sym, ap, subst, ◌∙◌, length-append, inl, inr, arith}
use Rattle.std.specs.Prelude.{AllPairs}
use Rattle.std.specs.Str.{bytes_eq}
use Rattle.std.proofs.lemmas.Bool.{cases_Bool, cases_lt, eq-eqb, eqb-true, leb-false, false≢true, or_parts}
use Rattle.std.proofs.lemmas.List.{get_or_append_left, get_or_push}
use Rattle.std.proofs.lemmas.List.Elements.{All-nil, All-cons, All-push}
use Rattle.std.proofs.lemmas.List.Quantifiers.{all_pairs_push}
use Rattle.std.proofs.lemmas.Option.{same_Some}
use Rattle.std.proofs.lemmas.Slice.Eq.{bytes_eq-Decides}
use Rattle.rmt_bits.proofs.AllLaws.{All-find}
use Rattle.rmt_bits.proofs.PairLaws.{AllPairs-none}
use Rattle.rmt_ast.specs.declared.entry.Entry.{Entry}
use Rattle.rmt_ast.specs.EntryLists.{IsEntry, Terms}
use Rattle.rmt_entries.specs.Entries.{Read, admitted, entries_at, entry_of, has_keys_once, identity, is_repeated, of_table, read_line, read_words}
use Rattle.rmt_entries.specs.Lines.{is_printable, words}
use Rattle.rmt_entries.specs.LinesSoFar.{IsAppliedBy, is_once}
use Rattle.rmt_entries.specs.Tables.{AppliedTable, table_named}
use Rattle.rmt_entries.proofs.GatherLaws.{entries_at_own, entries_at_other, once_own}
use Rattle.rmt_entries.proofs.LawKeys.{HasParams, ReadOf, with_key_law}
use Rattle.rmt_bits.proofs.OptionLaws.{same_Ok}

-- what holds of each table holds of that of a line
pub record ReadBy (P : AppliedTable → Type 0) (n : ℕ) (r : Read) : Type 0 where
  pub table : P r.table
  pub read : ReadOf r.table n r

module _ (P : AppliedTable → Type 0) (tables : List AppliedTable) (n : ℕ) (r : Read) (has_params : (t : AppliedTable) → P t → HasParams t) (all : All P tables) where
  of_table_law : (name : List ℕ) (xs : List (List ℕ)) (o : Option AppliedTable) → table_named tables name ≡ o → of_table n xs o ≡ Ok r → ReadBy P n r
  of_table_law name xs None s h = cc
  of_table_law name xs (Some t) s h =
      let here : P t = All-find P (λ (x : AppliedTable). bytes_eq name x.name) tables t all s in
      let read = with_key_law t n xs r (has_params t here) h in
      record { table = subst P (sym read.table) here; read = subst (λ (x : AppliedTable). ReadOf x n r) (sym read.table) read }

  words_law : (xs : List (List ℕ)) → read_words tables n xs ≡ Ok r → ReadBy P n r
  words_law [] h = cc
  words_law (name ∷ []) h = cc
  words_law (name ∷ x ∷ xs) h = of_table_law name (x ∷ xs) (table_named tables name) refl h

  pub read_line_law : (line : List ℕ) → read_line tables n line ≡ Ok r → ReadBy P n r
  read_line_law line h = by (is_printable line) h
    where
      by : (b : Bool) → (if b then read_words tables n (words line) else Err 1) ≡ Ok r → ReadBy P n r
      by true i = words_law (words line) i
      by false i = cc

-- an entry that is admitted beside others
pub record Admitted (es : List Entry) (o : Result Read ℕ) (e : Entry) : Type 0 where
  pub read : Read
  pub was : o ≡ Ok read
  pub is : read.entry ≡ e
  pub fresh : (has_keys_once read.table.terms.kind && is_repeated es read.entry) ≡ false
  pub room : length (entries_at es read.entry.table) < read.table.terms.size

abbrev picked : Bool → Bool → Entry → Result Entry ℕ
picked again full e = if again then Err 6 else (if full then Err 7 else Ok e)

pub admitted_law : (es : List Entry) (o : Result Read ℕ) (e : Entry) → admitted es o ≡ Ok e → Admitted es o e
admitted_law es (Err code) e h = cc
admitted_law es (Ok r) e h = by (has_keys_once r.table.terms.kind && is_repeated es r.entry) refl (nat_le r.table.terms.size (length (entries_at es r.entry.table))) refl h
  where
    by : (again : Bool) → (has_keys_once r.table.terms.kind && is_repeated es r.entry) ≡ again → (full : Bool) → nat_le r.table.terms.size (length (entries_at es r.entry.table)) ≡ full
        → picked again full r.entry ≡ Ok e → Admitted es (Ok r) e
    by true s full t i = cc
    by false s true t i = cc
    by false s false t i = record { read = r; was = refl; is = same_Ok r.entry e i; fresh = s; room = leb-false r.table.terms.size (length (entries_at es r.entry.table)) t }

-- an entry of the table that its node applies
pub record IsOwn (terms : List (Option Terms)) (e : Entry) : Type 0 where
  pub own : Terms
  pub at : slice_get terms e.table ≡ Some (Some own)
  pub entry : IsEntry e.table own e

-- what holds of the entries of some lines
pub record AreRead (terms : List (Option Terms)) (es : List Entry) : Type 0 where
  pub each : All (IsOwn terms) es
  pub numbers : (k : ℕ) (d : Entry) → k < length es → (get_or es k d).number ≡ k
  pub once : AllPairs (λ (a b : Entry). IsTrue (is_once terms b.table) → identity b ≢ identity a) es
  pub sizes : (n : ℕ) (t : Terms) → slice_get terms n ≡ Some (Some t) → length (entries_at es n) ≤ t.size

pub none_read : (terms : List (Option Terms)) → AreRead terms []
none_read terms = record {
  each = All-nil (IsOwn terms);
  numbers = λ k d lt. absurd (omega arith);
  once = AllPairs-none (λ (a b : Entry). IsTrue (is_once terms b.table) → identity b ≢ identity a);
  sizes = λ n t e. omega arith;
}

-- an entry that repeats none differs from each
not_repeated : (es : List Entry) (e : Entry) → is_repeated es e ≡ false → All (λ (o : Entry). identity e ≢ identity o) es
not_repeated [] e h = All-nil (λ (o : Entry). identity e ≢ identity o)
not_repeated (o ∷ os) e h =
    let parts = or_parts (bytes_eq (identity e) (identity o)) (is_repeated os e) h in
    All-cons (λ (x : Entry). identity e ≢ identity x) o os (λ same. false≢true (sym parts.0 ∙ (bytes_eq-Decides (identity e) (identity o)).1 same)) (not_repeated os e parts.1)

-- a table that a node applies, with parameters for each of its actions
abbrev pub Fit : List (Option Terms) → AppliedTable → Type 0
Fit terms t = IsAppliedBy terms t × HasParams t

-- one line more
pub read_push : (terms : List (Option Terms)) (tables : List AppliedTable) (es : List Entry) (line : List ℕ) (e : Entry) → All (Fit terms) tables → AreRead terms es → entry_of tables es line ≡ Ok e → AreRead terms (es ++ e ∷ [])
read_push terms tables es line e fit h said =
    let a = admitted_law es (read_line tables (length es) line) e said in
    let by = read_line_law (Fit terms) tables (length es) a.read (λ t f. f.1) fit line a.was in
    subst (λ (x : Entry). AreRead terms (es ++ x ∷ [])) a.is (push a.read by.table.0 by.read a.fresh a.room)
  where
    push : (r : Read) → IsAppliedBy terms r.table → ReadOf r.table (length es) r → (has_keys_once r.table.terms.kind && is_repeated es r.entry) ≡ false → length (entries_at es r.entry.table) < r.table.terms.size
        → AreRead terms (es ++ r.entry ∷ [])
    push r applied read fresh room =
        let e = r.entry in
        let node : e.table ≡ r.table.node = read.entry.table in
        let at : slice_get terms e.table ≡ Some (Some r.table.terms) = ap (slice_get terms) node ∙ applied in
        record {
          each = All-push (IsOwn terms) es e h.each (record { own = r.table.terms; at = at; entry = subst (λ (n : ℕ). IsEntry n r.table.terms e) (sym node) read.entry });
          numbers = λ k d lt.
              elim (cases_lt k (length es)) [
                | inl below ↦ ap (λ (x : Entry). x.number) (get_or_append_left es (e ∷ []) d k below) ∙ h.numbers k d below
                | inr past ↦
                    let last : length es ≡ k = omega (arith, length-append es (e ∷ [])) in
                    ap (λ (x : Entry). x.number) (get_or_push es e d k last) ∙ read.number ∙ last
              ];
          once = all_pairs_push (λ (a b : Entry). IsTrue (is_once terms b.table) → identity b ≢ identity a) es e h.once (λ k d lt is.
              let once : has_keys_once r.table.terms.kind ≡ true = sym (once_own terms r.table e.table node applied) ∙ is in
              let new : is_repeated es e ≡ false = rw once at fresh in
              not_repeated es e new k d lt);
          sizes = λ n t s.
              elim (cases_Bool (n == e.table)) [
                | inl same ↦
                    let here : n ≡ e.table = eqb-true n e.table same in
                    let own : t ≡ r.table.terms = same_Some t r.table.terms (same_Some (Some t) (Some r.table.terms) (sym s ∙ ap (slice_get terms) here ∙ at)) in
                    rw (here, own, entries_at_own es e) (omega (arith, room, length-append (entries_at es e.table) (e ∷ [])))
                | inr other ↦
                    let apart : n ≢ e.table = λ here. false≢true (sym other ∙ eq-eqb n e.table here) in
                    rw (entries_at_other es e n apart) (h.sizes n t s)
              ];
        }
