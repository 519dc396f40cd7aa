-- What is known of tables and of their parts, from the parts of a map that were looked at before.
use Rattle.std.proofs.Common.{◌≡◌, ℕ, ◌+◌, ◌<◌, ◌≤◌, List, [], ◌∷◌, ◌++◌, take, Option, Some, length, map, get_or, All, sym, ap, ◌∙◌, subst, arith}
use Rattle.std.specs.Prelude.{option_map, unwrap_or, slice_get, sum}
use Rattle.std.proofs.lemmas.Bool.{and_parts, ltb-true}
use Rattle.std.proofs.lemmas.List.{map-append, take_more}
use Rattle.std.proofs.lemmas.List.Elements.{All-map}
use Rattle.std.proofs.lemmas.Option.{slice_get-get_or, slice_get_within}
use Rattle.rmt_bits.specs.declared.lane.Lane.{Lane}
use Rattle.rmt_ast.specs.declared.entry.Entry.{Entry}
use Rattle.rmt_ast.specs.declared.program.Kind.TheVariants as kind
use Rattle.rmt_ast.specs.declared.program.What.TheVariants as what
use Rattle.rmt_ast.specs.EntryLists.{AreEntries}
use Rattle.rmt_ast.specs.State.{width_of}
use Rattle.rmt_ast.specs.WellFormed.{HasKey, IsProgram, bits_of}
use Rattle.rmt_ast.proofs.WellFormedLemmas.{narrow_field}
use Rattle.rmt_config.specs.declared.config.Unit.TheVariants.{Slot}
use Rattle.rmt_config.specs.Form.{Formed}
use Rattle.rmt_config.specs.LaneForm.{bits_of_lanes}
use Rattle.rmt_config.specs.PartStands.{PartStands}
use Rattle.rmt_config.specs.Rooms.{PartAt, parts_of}
use Rattle.rmt_config.specs.UnitForm.{memory_is_formed, slot_head_is_formed}
use Rattle.rmt_config.proofs.SpelledParts.{parts-stand}
use Rattle.rmt_config.proofs.SpelledWays.{PartFollows, parts-follow, ways-low}
use Rattle.rmt_pack.specs.declared.placement.Part.{Part}
use Rattle.rmt_pack.specs.Placements.{quanta_in}
use Rattle.rmt_phv.specs.Places.{KeepsApart}
use Rattle.rmt_ptcam.proofs.PlainLaws.{lanes_bits}
use Rattle.rmt_refine.specs.Types.{Config, Field, Kind, Node, Program, SlotUnit, Table, What}
use Rattle.rmt_refine.specs.Units.{DoesAs, TableCarried, UnitsCarried, applied, table_at}
use Rattle.rmt_pack.proofs.PartLaws.{and_at, then_some}
use Rattle.rmt_refine.proofs.PartLaws.{unit_of_part}
use Rattle.rmt_pack.proofs.RoomLaws.{PartIs, stages_there}
use Rattle.rmt_refine.proofs.TheLaw.{key_fields, table_entries}
use Rattle.rmt_config.proofs.LayoutLaws.{memory_formed}
use Rattle.rmt_verify.specs.TableKnown.{NodeKnown, PartKnown, TableKnown}
use Rattle.rmt_verify.proofs.StageCodeLaws.{applied_table}

-- ---- the parts of a node

module _ (p : Program) (places : List (List Lane)) (parts : List Part) (starts : List ℕ) (c : Config) (keeps : KeepsApart p places) (units : UnitsCarried p places parts starts c)
    (formed : Formed c) where
  table_part : (k m : ℕ) (w : What) (t : Table) (slot : SlotUnit) → applied p w ≡ Some t → DoesAs p places parts k m w (Slot slot) → TableCarried places parts m k t slot
  table_part k m (what.Apply i) t slot e does = and_at (slice_get p.tables i) (λ (table : Table). TableCarried places parts m k table slot) t e does
  table_part k m (what.Gate field test) t slot e does = absurd does

  below : (a b : ℕ) → a < b → b < 256 → a < 256
  below a b lt le = omega (arith, lt, le)

  part_known : (n : ℕ) (t : Table) → table_at p n ≡ Some t → (part : PartAt) → PartIs c n part → PartStands c part → PartFollows part
      → PartKnown c t (sum (map (width_of p) t.key)) part
  part_known n t at part is stands follows =
      let node = then_some (λ (x : Node). applied p x.what) (slice_get p.nodes n) t at in
      let unit = unit_of_part p places parts starts c n part.stage part.place is.stage part.slot units is.part in
      let does = and_at (slice_get p.nodes n) (λ (x : Node). DoesAs p places parts part.stage n x.what (Slot part.slot)) node.0 node.1 unit.1.does in
      let own = table_part part.stage n node.0.what t part.slot node.2 does in
      let few : length c.stages < 256 = ltb-true (length c.stages) 256 (and_parts _ _ (and_parts _ _ (and_parts _ _ formed.items).1).0).0 in
      let there = slice_get_within c.stages part.stage stands.stage stands.in_stages in
      record {
        stands = stands;
        low = below part.stage (length c.stages) there few;
        bits_are = ap bits_of_lanes own.keys ∙ lanes_bits p places t.key keeps;
        quanta = quanta_in parts n part.stage;
        kind = own.memory;
        ways = ways-low part.slot part.slot.memory follows (and_parts (slot_head_is_formed part.slot) (memory_is_formed part.slot part.slot.memory) stands.slot).1;
      }

  pub node_known : (n : ℕ) → NodeKnown p c n
  node_known n t at i d lt =
      let memory = memory_formed c formed in
      part_known n t at (get_or (parts_of c n) i d) (stages_there c n 0 c.stages (λ j. ap (slice_get c.stages) (omega arith)) i d lt) (parts-stand c n formed.items memory i d lt)
      (parts-follow c n memory i d lt)

-- ---- the table of a node

key_bits : (p : Program) (kd : Kind) (t : Table) → HasKey p kd t → bits_of p t.key ≤ 640
key_bits p kind.Keyless t has = subst (λ (fs : List ℕ). bits_of p fs ≤ 640) (sym has.key) (let e : 0 ≤ 640 = omega arith in e)
key_bits p kind.Exact t has = has.key_bits
key_bits p kind.Prefix t has = has.0.key_bits
key_bits p kind.Ternary t has = has.key_bits

-- the key of a table that a node applies is of fields of the program
pub key_there : (p : Program) (n : ℕ) (t : Table) → IsProgram p → table_at p n ≡ Some t → All (λ f. f < length p.fields) t.key
key_there p n t good at = key_fields p t.kind t (applied_table p n t good at).key

pub table_known : (p : Program) (lists : List (List Entry)) (c : Config) (n : ℕ) (t : Table) (es : List Entry) (widths : List ℕ) → IsProgram p → AreEntries p lists → Formed c
    → table_at p n ≡ Some t → slice_get lists n ≡ Some es → widths ≡ map (width_of p) t.key → TableKnown p c n t widths es
table_known p lists c n t es widths good entries formed at list is =
    let own = applied_table p n t good at in
    record {
      table = own;
      actions = good.actions;
      widths_are = is;
      narrow = subst (All (λ w. w ≤ 128)) (sym is) (All-map (λ w. w ≤ 128) (width_of p) t.key (λ i d lt. narrow_field p good (get_or t.key i d)));
      few = subst (λ (ws : List ℕ). sum ws ≤ 640) (sym is) (key_bits p t.kind t own.key);
      entries = table_entries p lists n t es entries at list;
      memory = memory_formed c formed;
    }

-- ---- masks of all bits

-- ---- the widths of a key

pub widths_more : (p : Program) (key : List ℕ) (i : ℕ) (x : Field) → i < length key → get_or key i 0 < length p.fields → x ≡ get_or p.fields (get_or key i 0) x
    → map (width_of p) (take i key) ++ x.width ∷ [] ≡ map (width_of p) (take (i + 1) key)
widths_more p key i x lt below is =
    let at : slice_get p.fields (get_or key i 0) ≡ Some x = slice_get-get_or p.fields (get_or key i 0) x below ∙ ap Some (sym is) in
    let width : width_of p (get_or key i 0) ≡ x.width = ap (λ (o : Option Field). unwrap_or (option_map (λ (y : Field). y.width) o) 0) at in
    ap (λ w. map (width_of p) (take i key) ++ w ∷ []) (sym width) ∙ sym (ap (map (width_of p)) (take_more key i 0 lt) ∙ map-append (width_of p) (take i key) (get_or key i 0 ∷ []))
