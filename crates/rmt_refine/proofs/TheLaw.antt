-- The law of look-ups, from well-formed programs and entries.
use Rattle.std.proofs.Common.{◌≡◌, ℕ, ◌^◌, ◌<◌, List, Some, length, map, refl, sym, ap, ◌∙◌, subst}
use Rattle.std.specs.Prelude.{All, option_map, slice_get, slice_index}
use Rattle.std.proofs.lemmas.List.Elements.{All-nil, All-weaker}
use Rattle.std.proofs.lemmas.Option.{none-some, slice_get-map}
use Rattle.rmt_bits.proofs.AllLaws.{All-slice_get}
use Rattle.rmt_bits.specs.declared.lane.Lane.{Lane}
use Rattle.rmt_refine.specs.Types.{Program, Table, Kind, Node, What, Config}
use Rattle.rmt_ast.specs.declared.program.What.TheVariants as what
use Rattle.rmt_ast.specs.declared.program.Kind.TheVariants as kind
use Rattle.rmt_ast.specs.declared.entry.Entry.{Entry}
use Rattle.rmt_ast.specs.EntryLists.{AreEntries, AreEntriesAt, terms_at, terms_of, AreTableEntries}
use Rattle.rmt_ast.specs.Lookup.{hit_of}
use Rattle.rmt_ast.specs.State.{IsState, joined, width_of}
use Rattle.rmt_ast.specs.WellFormed.{HasKey, IsProgram, IsTable}
use Rattle.rmt_pack.specs.declared.placement.Part.{Part}
use Rattle.rmt_refine.specs.declared.map.CellOf.{CellOf}
use Rattle.rmt_refine.specs.View.{View}
use Rattle.rmt_refine.specs.Units.{UnitsCarried, applied, table_at}
use Rattle.rmt_refine.specs.Cells.{TableCellsCarried}
use Rattle.rmt_refine.specs.LookUps.{FindsAs}
use Rattle.rmt_pack.proofs.PartLaws.{and_at, then_some}
use Rattle.rmt_refine.proofs.PartLaws.{kind_of_part}
use Rattle.rmt_refine.proofs.LookUpLaws.{Loaded, by_hit}

-- the table of a node is one of the program
pub its_table : (p : Program) (w : What) (t : Table) → applied p w ≡ Some t → All (IsTable p) p.tables → IsTable p t
its_table p (what.Apply i) t e all = All-slice_get (IsTable p) p.tables i t all e
its_table p (what.Gate field test) t e all = absurd (none-some t e)

pub its_terms : (p : Program) (w : What) (t : Table) → applied p w ≡ Some t → terms_at p w ≡ Some (terms_of p t)
its_terms p (what.Apply i) t e = ap (option_map (terms_of p)) e
its_terms p (what.Gate field test) t e = absurd (none-some t e)

-- the entries of the table of a node
pub table_entries : (p : Program) (lists : List (List Entry)) (n : ℕ) (t : Table) (es : List Entry) → AreEntries p lists → table_at p n ≡ Some t → slice_get lists n ≡ Some es
    → AreTableEntries n es (terms_of p t)
table_entries p lists n t es entries at list =
    let node = then_some (λ (x : Node). applied p x.what) (slice_get p.nodes n) t at in
    let terms : slice_get (map (λ (x : Node). terms_at p x.what) p.nodes) n ≡ Some (Some (terms_of p t)) =
    slice_get-map (λ (x : Node). terms_at p x.what) p.nodes n
    ∙ ap (option_map (λ (x : Node). terms_at p x.what)) node.1 ∙ ap Some (its_terms p node.0.what t node.2) in
    and_at (slice_get (map (λ (x : Node). terms_at p x.what) p.nodes) n) (AreEntriesAt n es) (Some (terms_of p t)) terms (entries.each n es list)

pub key_fields : (p : Program) (kd : Kind) (t : Table) → HasKey p kd t → All (λ f. f < length p.fields) t.key
key_fields p kind.Keyless t has = subst (All (λ f. f < length p.fields)) (sym has.key) (All-nil (λ f. f < length p.fields))
key_fields p kind.Exact t has = has.key_fields
key_fields p kind.Prefix t has = has.0.key_fields
key_fields p kind.Ternary t has = has.key_fields

pub look_up_law : (p : Program) (lists : List (List Entry)) (places : List (List Lane)) (parts : List Part) (starts : List ℕ) (c : Config) (v : View)
    (cells : List CellOf) (n : ℕ) (t : Table) (es : List Entry) (s : List ℕ)
    → IsProgram p → AreEntries p lists → IsState p s → table_at p n ≡ Some t → slice_get lists n ≡ Some es
    → UnitsCarried p places parts starts c → TableCellsCarried p c v cells n t (map (width_of p) t.key) es
    → FindsAs p c v n t (joined p t.key s) (hit_of t.kind t.key es s)
look_up_law p lists places parts starts c v cells n t es s program entries state at list units carried =
    let node = then_some (λ (x : Node). applied p x.what) (slice_get p.nodes n) t at in
    let table = its_table p node.0.what t node.2 program.tables in
    let fit = All-weaker (λ f. f < length p.fields) (λ f. slice_index s f < 2 ^ width_of p f) state.fits t.key (key_fields p t.kind t table.key) in
    let loaded : Loaded p c v cells n t es s = record {
      fit = fit;
      are = table_entries p lists n t es entries at list;
      carried = carried;
      kind_of = λ k place stage slot part. kind_of_part p places parts starts c n t k place stage slot units at part;
    } in
    by_hit p c v cells n t es s loaded (hit_of t.kind t.key es s) refl
