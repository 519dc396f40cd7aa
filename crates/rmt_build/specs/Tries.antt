-- What comes of putting entries into cells under one seed.
use Rattle.std.specs.Prelude.{◌≡◌, ℕ, List, Some, Option, IsSomeAnd, length}
use Rattle.rmt_build.specs.Types.{Program, Table}
use Rattle.rmt_ast.specs.declared.program.Kind.TheVariants.{Exact}
use Rattle.rmt_ast.specs.declared.entry.Entry.{Entry}
use Rattle.rmt_ast.specs.EntryLists.{AreEntries, AreTableEntries, terms_of}
use Rattle.rmt_ast.specs.WellFormed.{IsProgram}
use Rattle.rmt_cuckoo.specs.Loading.{IsOverfull}
use Rattle.rmt_pack.specs.declared.placement.Part.{Part}
use Rattle.rmt_pack.specs.declared.format.Format.{Format}
use Rattle.rmt_refine.specs.Units.{table_at}
use Rattle.rmt_filling.specs.Formats.{format_at, formats_of}
use Rattle.rmt_build.specs.Plans.{AreParts}
use Rattle.rmt_filling.specs.declared.keys.TableTried.{TableTried}
use Rattle.rmt_filling.specs.declared.keys.TableTried.TheVariants as table
use Rattle.rmt_build.specs.declared.loading.Tried.{Tried}
use Rattle.rmt_build.specs.declared.loading.Tried.TheVariants as tried
use Rattle.rmt_build.specs.Loads.{AreAllLoaded, AreLoadedBefore, IsFull, StandAt, layout_of}
use Rattle.rmt_filling.specs.Keys.{keys_of}

-- a well-formed program with these entries, whose nodes have these formats and parts
pub record IsPlacedProgram (p : Program) (lists : List (List Entry)) (formats : List Format) (parts : List Part) : Type 0 where
  pub program : IsProgram p
  pub entries : AreEntries p lists
  pub by_rule : formats ≡ formats_of p
  pub are_parts : AreParts p parts

-- node n applies a table with these entries, whose memory has this format
pub record IsNodeTable (p : Program) (n : ℕ) (t : Table) (es : List Entry) (f : Format) : Type 0 where
  pub table : table_at p n ≡ Some t
  pub entries : AreTableEntries n es (terms_of p t)
  pub by_rule : f ≡ format_at p n

-- of the entries of node n: they stand, or some of an exact table have fewer cells than they are
abbrev pub StandOrFull : Program → List Part → ℕ → ℕ → List Entry → Option Table → TableTried → Type 0
StandOrFull p parts seed n es o (table.Stand own) = StandAt p parts seed n es o own
StandOrFull p parts seed n es o (table.Overfull members cells) =
    IsSomeAnd o (λ (t : Table). (t.kind ≡ Exact) × (own : List ℕ) × IsOverfull (layout_of p parts n) seed (keys_of p t es) own cells × (members ≡ length own))

-- of all entries: they stand, or those of the first exact table that isn't loaded don't
abbrev pub AreTried : Program → List (List Entry) → List Part → ℕ → Tried → Type 0
AreTried p lists parts seed (tried.Stand stands) = AreAllLoaded p lists parts seed stands
AreTried p lists parts seed (tried.Overfull full) = IsFull p lists parts seed full.node full.members full.cells × AreLoadedBefore p lists parts seed full.node
