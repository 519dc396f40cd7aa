-- How the fields of a program are packed into the words of the header vector.
use Rattle.std.specs.Prelude.{ℕ, ◌+◌, ◌-◌, ◌/◌, ◌%◌, List, [], ◌∷◌, ◌++◌, Bool, not, ◌&&◌, ◌==◌, if◌then◌else◌, nat_le, Option, Some, None, option_map, find, map, replicate, sum_by, Result, Ok, Err}
use Rattle.std.specs.List.{list_any, range_with_len}
use Rattle.rmt_bits.specs.Words.{word_size}
use Rattle.rmt_bits.specs.declared.lane.Lane.{Lane}
use Rattle.rmt_ast.specs.declared.program.Program.{Program}
use Rattle.rmt_ast.specs.declared.program.Field.{Field}
use Rattle.rmt_ast.specs.declared.program.Action.{Action}
use Rattle.rmt_ast.specs.declared.program.Assign.{Assign}
use Rattle.rmt_phv.specs.declared.fault.PhvFull.{PhvFull}
use Rattle.rmt_phv.specs.declared.fault.PhvFull.TheVariants.{At}

-- a result with a function of what Ok holds
abbrev pub map_ok : {A B E : Type 0} → (A → B) → Result A E → Result B E
map_ok f (Ok x) = Ok (f x)
map_ok f (Err e) = Err e

-- the widths of a field's pieces: 32 bits each from its low end on, and one for the rest
abbrev pub pieces : ℕ → List ℕ
pieces width = replicate (width / 32) 32 ++ (if width % 32 == 0 then [] else (width % 32) ∷ [])

-- the size of the least words that hold a piece
abbrev pub class_of : ℕ → ℕ
class_of len = if nat_le len 8 then 8 else if nat_le len 16 then 16 else 32

-- the first word of the least class that holds a piece; words stand by rising size
abbrev pub first_word : ℕ → ℕ
first_word len = if nat_le len 8 then 0 else if nat_le len 16 then 64 else 160

-- the words that a piece tries in turn: those of the least class that holds it, then those of the greater ones
abbrev pub words_for : ℕ → List ℕ
words_for len = range_with_len (first_word len) (224 - first_word len)

-- a piece that stands: the field's number and where it lies
pub record Piece : Type 0 where
  pub field : ℕ
  pub lane : Lane

-- an action assigns a field
abbrev pub writes : Action → ℕ → Bool
writes a f = list_any (λ (x : Assign). x.dest == f) a.assigns

-- a word holds a piece of a field that passes the test
abbrev pub holds : (ℕ → Bool) → List Piece → ℕ → Bool
holds test taken word = list_any (λ (x : Piece). (x.lane.word == word) && test x.field) taken

-- the lowest free bit of a word, whose pieces stand from bit 0 on without a gap
abbrev pub free_bit : List Piece → ℕ → ℕ
free_bit taken word = sum_by (λ (x : Piece). if x.lane.word == word then x.lane.len else 0) taken

-- Word w serves a piece of field f: it has room, and holds no piece of f, nor one of a field that some action writes together with f.
abbrev pub serves : Program → ℕ → List Piece → ℕ → ℕ → Bool
serves p f taken len w =
    nat_le (free_bit taken w + len) (word_size w) && not (holds (λ g. g == f) taken w) && not (list_any (λ (a : Action). writes a f && holds (writes a) taken w) p.actions)

-- the lane of a piece: the lowest free bits of the first word that serves
abbrev pub lane_for : Program → ℕ → List Piece → ℕ → Option Lane
lane_for p f taken len = option_map (λ word. record { word = word; low = free_bit taken word; len = len }) (find (serves p f taken len) (words_for len))

-- the pieces of field f at these lanes
abbrev pub pieces_at : ℕ → List Lane → List Piece
pieces_at f lanes = map (λ (lane : Lane). record { field = f; lane = lane }) lanes

-- The lanes of some pieces of field f, one after another, beside the pieces that stand. Err has the first piece that no word serves.
abbrev pub lane_then : ℕ → Option Lane → (Lane → Result (List Lane) ℕ) → Result (List Lane) ℕ
lane_then len None rest = Err len
lane_then len (Some lane) rest = map_ok (λ lanes. lane ∷ lanes) (rest lane)

abbrev pub lanes_for : Program → ℕ → List Piece → List ℕ → Result (List Lane) ℕ
lanes_for p f taken [] = Ok []
lanes_for p f taken (len ∷ lens) = lane_then len (lane_for p f taken len) (λ lane. lanes_for p f (taken ++ pieces_at f (lane ∷ [])) lens)

-- The lanes of some fields, the first of which has the number f, beside the pieces that stand.
abbrev pub field_then : ℕ → Result (List Lane) ℕ → (List Lane → Result (List (List Lane)) PhvFull) → Result (List (List Lane)) PhvFull
field_then f (Err piece) rest = Err (At f (class_of piece))
field_then f (Ok own) rest = map_ok (λ places. own ∷ places) (rest own)

abbrev pub places_from : Program → ℕ → List Piece → List Field → Result (List (List Lane)) PhvFull
places_from p f taken [] = Ok []
places_from p f taken (x ∷ xs) = field_then f (lanes_for p f taken (pieces x.width)) (λ own. places_from p (f + 1) (taken ++ pieces_at f own) xs)

-- The places of a program's fields: fields by number, pieces low first.
abbrev pub packing : Program → Result (List (List Lane)) PhvFull
packing p = places_from p 0 [] p.fields
