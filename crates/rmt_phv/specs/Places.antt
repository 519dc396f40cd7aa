-- What places keep.
use Rattle.std.specs.Prelude.{◌≡◌, ◌≢◌, ◌⊎◌, ℕ, ◌+◌, ◌<◌, ◌≤◌, List, map, All, AllPairs, Contains, reverse}
use Rattle.std.specs.List.{flat_map}
use Rattle.rmt_bits.specs.Words.{word_size}
use Rattle.rmt_bits.specs.declared.lane.Lane.{Lane}
use Rattle.rmt_ast.specs.declared.program.Program.{Program}
use Rattle.rmt_ast.specs.declared.program.Field.{Field}
use Rattle.rmt_ast.specs.declared.program.Action.{Action}
use Rattle.rmt_ast.specs.declared.program.Assign.{Assign}
use Rattle.rmt_ast.specs.Places.{lanes_of}
use Rattle.rmt_ast.specs.WellFormed.{AreDistinct}
use Rattle.rmt_phv.specs.Packing.{pieces}

-- a lane with bits lies in a word of the vector
pub record LiesInWord (l : Lane) : Type 0 where
  pub exists : l.word < 224
  pub has_bits : 1 ≤ l.len
  pub within : l.low + l.len ≤ word_size l.word

-- the lengths of each field's lanes
abbrev pub lengths_of : List (List Lane) → List (List ℕ)
lengths_of places = map (λ (ls : List Lane). map (λ (l : Lane). l.len) ls) places

-- the lanes of some fields, highest bits first
abbrev pub high_first : List (List Lane) → List ℕ → List Lane
high_first places fields = flat_map (λ f. reverse (lanes_of places f)) fields

-- two lanes have no bit in common
abbrev pub AreApart : Lane → Lane → Type 0
AreApart a b = (a.word ≢ b.word) ⊎ ((a.low + a.len ≤ b.low) ⊎ (b.low + b.len ≤ a.low))

-- no word holds a piece of either field
abbrev pub ShareNoWord : List Lane → List Lane → Type 0
ShareNoWord xs ys = All (λ (a : Lane). All (λ (b : Lane). a.word ≢ b.word) ys) xs

-- the fields that an action writes
abbrev pub written_by : Action → List ℕ
written_by a = map (λ (x : Assign). x.dest) a.assigns

-- fields that one action writes have their pieces in different words
abbrev pub WritesApart : List (List Lane) → Action → Type 0
WritesApart places a = (f g : ℕ) → Contains (written_by a) f → Contains (written_by a) g → f ≢ g → ShareNoWord (lanes_of places f) (lanes_of places g)

-- Each field is cut into its pieces, each piece lies in a word, no two pieces overlap, and no word holds two pieces of one field, or of
-- two fields that one action writes.
pub record KeepsApart (p : Program) (places : List (List Lane)) : Type 0 where
  pub cut : lengths_of places ≡ map (λ (f : Field). pieces f.width) p.fields
  pub within : All (λ (ls : List Lane). All LiesInWord ls) places
  pub no_overlap : AllPairs AreApart (flat_map (λ (ls : List Lane). ls) places)
  pub one_of_field : All (λ (ls : List Lane). AreDistinct (map (λ (l : Lane). l.word) ls)) places
  pub written_apart : All (WritesApart places) p.actions
