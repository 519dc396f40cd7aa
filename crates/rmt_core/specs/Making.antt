-- What is made of a program with its entries, whatever the files are and the name of the image.
use Rattle.std.specs.Prelude.{◌≡◌, ◌≤◌, ℕ, Bool, List, [], ◌∷◌, Option, Some, None, is_some, option_map, Ok, Vec, length}
use Rattle.std.specs.Global.{Global}
use Rattle.rmt_core.specs.Types.{Program}
use Rattle.rmt_ast.specs.declared.entry.Entry.{Entry}
use Rattle.rmt_build.specs.declared.built.Built.{Built}
use Rattle.rmt_build.specs.declared.fault.NoFit.{NoFit}
use Rattle.rmt_check.specs.Means.{Means}
use Rattle.rmt_config.specs.ImageSpelling.{spelled_image}
use Rattle.rmt_phv.specs.Packing.{packing}
use Rattle.rmt_entries.specs.Entries.{entries_of}
use Rattle.rmt_core.specs.declared.placer.Placer.{Placer}
use Rattle.rmt_core.specs.declared.placer.Placer.TheVariants.{ByRule, ByTries}
use Rattle.rmt_drive.specs.declared.status.Status.TheVariants as status
use Rattle.rmt_drive.specs.Files.{Files, Write, entries_limit, program_limit}
use Rattle.rmt_drive.specs.Given.{one_file, stored, told}
use Rattle.rmt_core.specs.Compiling.{Builds, Compiles, Finish, Makes}
use Rattle.rmt_core.specs.MapFiles.{Wanted}
use Rattle.rmt_core.specs.Placers.{placing_refusal, refusal_by}

-- two texts, each within its limit, mean this program and say these entries
pub record AreOfTexts (p : Program) (lists : List (List Entry)) : Type 0 where
  pub text : List ℕ
  pub entry_text : List ℕ
  pub means : Means text (Ok p)
  pub says : entries_of p entry_text ≡ Ok lists
  pub is_short : length text ≤ program_limit
  pub has_short_entries : length entry_text ≤ entries_limit

-- the bytes that were made, if any were
abbrev pub bytes_of : Option (Vec ℕ Global) → Option (List ℕ)
bytes_of made = option_map (λ (bytes : Vec ℕ Global). bytes.items) made

-- the image, and behind it a map that was made, where it is wanted
abbrev pub image_and : Wanted → List ℕ → Option (List ℕ) → List Write
image_and wanted image map = record { name = wanted.image; bytes = image } ∷ named_map wanted.map map
  where
    named_map : Option (List ℕ) → Option (List ℕ) → List Write
    named_map None map = []
    named_map (Some name) None = []
    named_map (Some name) (Some bytes) = one_file name bytes

-- an image is made, and a map where it is wanted, with these lines
abbrev pub MakesFiles : Placer → Program → List (List Entry) → Bool → List ℕ → Option (List ℕ) → List ℕ → Type 0
MakesFiles placer p lists has_map image map lines =
    (files : Files) (wanted : Wanted) → is_some wanted.map ≡ has_map → Compiles placer files wanted p lists (stored files (image_and wanted image map) lines)

-- a program with its entries became this, since nothing refuses it
pub record IsBuilt (placer : Placer) (p : Program) (lists : List (List Entry)) (built : Built) : Type 0 where
  pub no_refusal : refusal_by placer p ≡ None
  pub makes : Makes placer p lists (spelled_image built.config) built.map built.config built.bound

-- none is made, as this line tells
abbrev pub TellsWhy : Placer → Program → List (List Entry) → List ℕ → Type 0
TellsWhy placer p lists line =
    (files : Files) (finish : Finish) → Builds placer files finish p lists (told files status.NoFit line)

-- neither the tries nor the rule place a program's nodes, for one reason
pub record AreBothRefused (budget : ℕ) (p : Program) : Type 0 where
  pub fault : NoFit
  pub by_tries : placing_refusal (ByTries budget) p (packing p) ≡ Some fault
  pub by_rule : placing_refusal ByRule p (packing p) ≡ Some fault
