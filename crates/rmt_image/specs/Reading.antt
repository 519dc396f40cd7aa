-- Reading an image from its front: the configuration that is read, or the first fault that is met.
use Rattle.std.specs.Prelude.{◌≡◌, ℕ, List, [], ◌∷◌, length, drop, Bool, true, false, ◌==◌, if◌then◌else◌, find, Option, Some, None, Result, Ok, Err, codes, nat_eq}
use Rattle.std.specs.List.{starts_with}
use Rattle.rmt_bits.specs.declared.lane.Lane.{Lane}
use Rattle.rmt_ast.specs.declared.names.Names.{Names}
use Rattle.rmt_image.specs.Types.{Config, OutHeader, ParserConfig, TailOf, Stage}
use Rattle.rmt_config.specs.Form.{Formed}
use Rattle.rmt_config.specs.Limits.{limit_hit}
use Rattle.rmt_items.specs.declared.fault.ImageFault.{ImageFault}
use Rattle.rmt_items.specs.declared.fault.ImageFault.TheVariants as image
use Rattle.rmt_items.specs.declared.fault.ReadFault.{ReadFault}
use Rattle.rmt_items.specs.declared.fault.ReadFault.TheVariants.{Short, Form}
use Rattle.rmt_image.specs.declared.reading.config.Ports.{Ports}
use Rattle.rmt_items.specs.Readers.{Reader, behind, ◌⊗◌, made, items_at, listed, byte_at}
use Rattle.rmt_items.specs.ReadingNames.{names_at}
use Rattle.rmt_items.specs.ReadingTails.{tails_at}
use Rattle.rmt_items.specs.Reading.{lane_of_at, headers_at, parser_at, stage_at, next_start}

-- ---- the whole

abbrev pub ports_of_parts : ℕ × (Lane × (Lane × Lane)) → Ports
ports_of_parts x = record { seed = x.0; in_port = x.1.0; out_port = x.1.1.0; drop = x.1.1.1 }

unfoldable pub ports_at : Reader Ports
ports_at bytes = made ports_of_parts (byte_at ⊗ lane_of_at 9 ⊗ lane_of_at 9 ⊗ lane_of_at 1) bytes

abbrev pub config_of_parts : Ports × (List OutHeader × (ParserConfig × List Stage)) → Config
config_of_parts x = record {
  seed = x.0.seed;
  in_port = x.0.in_port;
  out_port = x.0.out_port;
  drop = x.0.drop;
  headers = x.1.0;
  parser = x.1.1.0;
  stages = x.1.1.1;
  names = None;
}

-- version 1, and what stands first in the others: a configuration without names and tails
unfoldable pub config_at : Reader Config
config_at bytes = made config_of_parts (ports_at ⊗ headers_at ⊗ parser_at ⊗ listed byte_at (items_at stage_at next_start 0)) bytes

-- what the rules on the whole and then the limits answer
abbrev pub WholeAnswers : Config → Result Config ImageFault → Type 0
WholeAnswers c (Ok d) = (d ≡ c) × Formed c × (limit_hit c ≡ None)
WholeAnswers c (Err image.Form) = Formed c → ⊥
WholeAnswers c (Err (image.Limit hit)) = Formed c × (limit_hit c ≡ Some hit)
WholeAnswers c (Err image.NoMemory) = ⊥
WholeAnswers c (Err image.Magic) = ⊥
WholeAnswers c (Err image.Version) = ⊥
WholeAnswers c (Err image.Short) = ⊥
WholeAnswers c (Err image.Trailing) = ⊥

-- nothing may stand behind what is read
abbrev pub EndAnswers : Config × List ℕ → Result Config ImageFault → Type 0
EndAnswers (c, []) answer = WholeAnswers c answer
EndAnswers (c, byte ∷ rest) answer = answer ≡ Err image.Trailing

abbrev pub ConfigAnswers : Result (Config × List ℕ) ReadFault → Result Config ImageFault → Type 0
ConfigAnswers (Err Short) answer = answer ≡ Err image.Short
ConfigAnswers (Err Form) answer = answer ≡ Err image.Form
ConfigAnswers (Ok x) answer = EndAnswers x answer

-- ---- the versions

abbrev pub config_with_names : Config × Names → Config
config_with_names x = record x.0 { names = Some x.1 }

-- version 2: the names behind the rest
unfoldable pub named_at : Reader Config
named_at bytes = made config_with_names (config_at ⊗ names_at) bytes

abbrev pub config_with_tails : Config × List TailOf → Config
config_with_tails x = record x.0 { parser = record x.0.parser { tails = x.1 } }

-- version 3: the tails behind the names
unfoldable pub tailed_at : Reader Config
tailed_at bytes = made config_with_tails (behind named_at (λ (c : Config). tails_at c.parser.entries (length c.headers))) bytes

-- what stands behind the version
unfoldable pub image_at : ℕ → Reader Config
image_at version bytes = if version == 1 then config_at bytes else (if version == 2 then named_at bytes else tailed_at bytes)

-- the version at the front of bytes, where it is one of those
abbrev pub version_told : List ℕ → Option ℕ
version_told bytes = find (λ version. starts_with nat_eq bytes (0 ∷ version ∷ [])) (1 ∷ 2 ∷ 3 ∷ [])

abbrev pub VersionAnswers : Option ℕ → List ℕ → Result Config ImageFault → Type 0
VersionAnswers (Some version) bytes answer = ConfigAnswers (image_at version bytes) answer
VersionAnswers None bytes answer = answer ≡ Err image.Version

abbrev pub MagicAnswers : Bool → List ℕ → Result Config ImageFault → Type 0
MagicAnswers true bytes answer = VersionAnswers (version_told bytes) (drop 2 bytes) answer
MagicAnswers false bytes answer = answer ≡ Err image.Magic

-- what an image is read as: the four letters, the version, what stands behind it, and nothing else
abbrev pub Answers : List ℕ → Result Config ImageFault → Type 0
Answers bytes answer = MagicAnswers (starts_with nat_eq bytes (codes "RMTI")) (drop 4 bytes) answer
