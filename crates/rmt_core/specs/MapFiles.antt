-- The files that are made of a program: the image, and the map where one is wanted.
use Rattle.std.specs.Prelude.{◌≤◌, ℕ, List, [], ◌∷◌, Option, Some, None, length}
use Rattle.rmt_core.specs.Types.{Program}
use Rattle.rmt_ptcam.specs.Joins.{joins}
use Rattle.rmt_refine.specs.declared.map.Map.{Map}
use Rattle.rmt_verify.specs.Spelling.{MapFits, spelled_map}
use Rattle.rmt_verify.specs.declared.map_file.MapFile.{MapFile}
use Rattle.rmt_drive.specs.Files.{Write, map_limit}
use Rattle.rmt_drive.specs.Given.{one_file}

-- the map of what was built, with the joins that make its parser of the plain one
abbrev pub map_file : Program → Map → MapFile
map_file p m = record { map = m; joins = joins p m.places }

-- it has a spelling, of no more bytes than a map may have
pub record HasMapFile (p : Program) (m : Map) : Type 0 where
  pub fits : MapFits (map_file p m)
  pub short : length (spelled_map (map_file p m)) ≤ map_limit

-- the names of the files that are wanted: of the image, and of a map or none
pub record Wanted : Type 0 where
  pub image : List ℕ
  pub map : Option (List ℕ)

abbrev pub image_alone : List ℕ → Wanted
image_alone image = record { image = image; map = None }

abbrev pub with_map : List ℕ → List ℕ → Wanted
with_map image map = record { image = image; map = Some map }

-- the map under its name, where it is wanted
abbrev pub map_write : Program → Map → Option (List ℕ) → List Write
map_write p m None = []
map_write p m (Some name) = one_file name (spelled_map (map_file p m))

-- the image, and behind it the map
abbrev pub made_files : Wanted → Program → List ℕ → Map → List Write
made_files wanted p image m = record { name = wanted.image; bytes = image } ∷ map_write p m wanted.map
