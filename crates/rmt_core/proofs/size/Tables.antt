-- Which nodes apply a ternary table, whose entries have ranks in an image and at least one key field in a text.
use Rattle.std.proofs.Common.{◌≡◌, ℕ, ◌≤◌, Bool, true, false, Option, Some, None, length, slice_get, option_map, unwrap_or, get_or, refl, subst, sym, ap, ◌∙◌, arith}
use Rattle.std.specs.Prelude.{All}
use Rattle.std.proofs.lemmas.Bool.{false≢true}
use Rattle.std.proofs.lemmas.List.{length-map}
use Rattle.std.proofs.lemmas.Option.{same_Some, slice_get-map}
use Rattle.rmt_bits.proofs.AllLaws.{All-slice_get}
use Rattle.rmt_core.specs.Types.{Program, Table, Node, What}
use Rattle.rmt_ast.specs.declared.program.Kind.{Kind}
use Rattle.rmt_ast.specs.declared.program.Kind.TheVariants.{Keyless, Exact, Prefix, Ternary}
use Rattle.rmt_ast.specs.declared.program.What.TheVariants.{Apply, Gate}
use Rattle.rmt_ast.specs.EntryLists.{Terms, terms_at, terms_of}
use Rattle.rmt_ast.specs.State.{width_of}
use Rattle.rmt_ast.specs.WellFormed.{HasKey, IsProgram, IsTable}
use Rattle.rmt_entries.specs.Reads.{node_terms}
use Rattle.rmt_entries.specs.Tables.{AppliedTable, applied_tables}
use Rattle.rmt_entries.proofs.LawKeys.{HasParams}
use Rattle.rmt_entries.proofs.ProgramLaws.{are_applied, have_params}

-- the entries of a table of this kind have ranks in an image
abbrev pub has_ranks : Kind → Bool
has_ranks Keyless = false
has_ranks Exact = false
has_ranks Prefix = false
has_ranks Ternary = true

abbrev pub terms_have_ranks : Option Terms → Bool
terms_have_ranks None = false
terms_have_ranks (Some t) = has_ranks t.kind

-- the entries of the table that a node applies have ranks
abbrev pub is_ranked : Program → ℕ → Bool
is_ranked p n = unwrap_or (option_map terms_have_ranks (slice_get (node_terms p) n)) false

pub ranked_at : (p : Program) (n : ℕ) (node : Node) → slice_get p.nodes n ≡ Some node → is_ranked p n ≡ terms_have_ranks (terms_at p node.what)
ranked_at p n node at =
    ap (λ o. unwrap_or (option_map terms_have_ranks o) false) (slice_get-map (λ (x : Node). terms_at p x.what) p.nodes n ∙ ap (option_map (λ (x : Node). terms_at p x.what)) at)

ternary_kind : (k : Kind) → has_ranks k ≡ true → k ≡ Ternary
ternary_kind Keyless e = absurd (false≢true e)
ternary_kind Exact e = absurd (false≢true e)
ternary_kind Prefix e = absurd (false≢true e)
ternary_kind Ternary e = cc

-- a ternary table has a key field
some_width : (p : Program) → IsProgram p → (n : ℕ) (t : Terms) → slice_get (node_terms p) n ≡ Some (Some t) → t.kind ≡ Ternary → 1 ≤ length t.widths
some_width p h n t e kind = by (slice_get p.nodes n) (sym (slice_get-map (λ (node : Node). terms_at p node.what) p.nodes n) ∙ e)
  where
    table_by : (o : Option Table) → ((table : Table) → o ≡ Some table → IsTable p table) → option_map (terms_of p) o ≡ Some t → 1 ≤ length t.widths
    table_by None is s = absurd cc
    table_by (Some table) is s =
        let same : terms_of p table ≡ t = same_Some (terms_of p table) t s in
        let ternary : table.kind ≡ Ternary = ap (λ (u : Terms). u.kind) same ∙ kind in
        let key = subst (λ (k : Kind). HasKey p k table) ternary (is table refl).key in
        let widths : length t.widths ≡ length table.key = sym (ap (λ (u : Terms). length u.widths) same) ∙ length-map table.key (width_of p) in
        omega (arith, key.has_key, widths)

    what_by : (what : What) → terms_at p what ≡ Some t → 1 ≤ length t.widths
    what_by (Apply k) s = table_by (slice_get p.tables k) (λ table at. All-slice_get (IsTable p) p.tables k table h.tables at) s
    what_by (Gate f test) s = absurd cc

    by : (o : Option Node) → option_map (λ (node : Node). terms_at p node.what) o ≡ Some (Some t) → 1 ≤ length t.widths
    by None s = absurd cc
    by (Some x) s = what_by x.what (same_Some (terms_at p x.what) (Some t) s)

-- what is known of a table that a node applies
pub record HasShape (p : Program) (t : AppliedTable) : Type 0 where
  pub params : HasParams t
  pub ranked : is_ranked p t.node ≡ true → (t.terms.kind ≡ Ternary) × (1 ≤ length t.terms.widths)

pub are_shaped : (p : Program) → IsProgram p → All (HasShape p) (applied_tables p)
are_shaped p program k d lt =
    let t = get_or (applied_tables p) k d in
    let at : slice_get (node_terms p) t.node ≡ Some (Some t.terms) = are_applied p k d lt in
    record {
      params = have_params p k d lt;
      ranked = λ ranks.
          let kind = ternary_kind t.terms.kind (sym (ap (λ o. unwrap_or (option_map terms_have_ranks o) false) at) ∙ ranks) in
          (kind, some_width p program t.node t.terms at kind);
    }
