-- Frames in cells, and what they are after a frame is put.
use Rattle.std.proofs.Common.{◌≡◌, ◌≢◌, ℕ, zero, suc, ◌+◌, ◌-◌, ◌*◌, ◌<◌, ◌≤◌, min, List, [], ◌∷◌, ◌++◌, length, take, drop, map, get_or, set, Option, Some, None, Contains, refl, sym, ap, ◌∙◌, subst, append_assoc, ⊎_elim, arith}
use Rattle.std.specs.Prelude.{slice_get, All, replicate}
use Rattle.std.proofs.Math.Seq.{take-add}
use Rattle.std.proofs.lemmas.Bool.{cases_eq}
use Rattle.std.proofs.lemmas.List.{take_all, length-map, length-replicate, length-set, get_or-set_same, get_or-set_other}
use Rattle.std.proofs.lemmas.List.Sums.{sum_by-append, sum_by-cons}
use Rattle.rmt_bits.proofs.MemberLaws.{Contains-later}
use Rattle.rmt_cells.specs.declared.cells.Cells.{Cells}
use Rattle.rmt_cells.specs.declared.cells.Chain.{Chain}
use Rattle.rmt_cells.specs.Links.{after}
use Rattle.rmt_cells.specs.Pieces.{piece, cells_for}
use Rattle.rmt_cells.specs.Stands.{Held, Holds, Stands, cells_held, held_if}
use Rattle.rmt_cells.proofs.Spelling.{length-piece}
use Rattle.rmt_chip.specs.Frames.{spelt, bytes_in, held_frames, AreFrames, frame_cells, frames_in}

-- ---- the bytes of a chain are told by the cells

spelt_front : (cells : Cells) (h : Held) → Holds cells h → (n : ℕ) → n ≤ cells_for (length h.bytes) → spelt cells h.chain n ≡ take (n * 64) h.bytes
spelt_front cells h holds zero le = refl
spelt_front cells h holds (suc n) le =
    let next : suc n * 64 ≡ n * 64 + 64 = omega arith in
    let cell = get_or cells.blocks.items (after cells.links.items h.chain.first n) [] in
    let size : min 64 (h.chain.len - n * 64) ≡ length (piece h.bytes n) = ap (λ (k : ℕ). min 64 (k - n * 64)) holds.len ∙ sym (length-piece h.bytes n) in
    ap (λ (front : List ℕ). front ++ take (min 64 (h.chain.len - n * 64)) cell) (spelt_front cells h holds n (omega arith))
    ∙ ap (λ (k : ℕ). take (n * 64) h.bytes ++ take k cell) size
    ∙ ap (λ (part : List ℕ). take (n * 64) h.bytes ++ part) (holds.bytes n (omega arith))
    ∙ sym (take-add (n * 64) 64 h.bytes)
    ∙ ap (λ (k : ℕ). take k h.bytes) (sym next)

pub told : (cells : Cells) (chain : Chain) (bytes : List ℕ) → Holds cells (record { chain = chain; bytes = bytes }) → bytes_in cells (Some chain) ≡ bytes
told cells chain bytes holds =
    let n = cells_for (length bytes) in
    let whole : length bytes ≤ n * 64 = omega arith in
    ap (λ (k : ℕ). spelt cells chain (cells_for k)) holds.len
    ∙ spelt_front cells (record { chain = chain; bytes = bytes }) holds n (omega arith)
    ∙ take_all (n * 64) bytes whole

all_told : (cells : Cells) (chains : List (Option Chain)) (frames : List (List ℕ)) → length frames ≡ length chains
    → ((i : ℕ) → slice_get chains i ≡ Some None → get_or frames i [] ≡ []) → ((h : Held) → Contains (held_frames chains frames) h → Holds cells h)
    → frames ≡ frames_in cells chains
all_told cells [] [] size absent holds = refl
all_told cells [] (f ∷ fs) size absent holds = absurd (omega (arith, size))
all_told cells (c ∷ cs) [] size absent holds = absurd (omega (arith, size))
all_told cells (None ∷ cs) (f ∷ fs) size absent holds =
    ap (λ (x : List ℕ). x ∷ fs) (absent 0 refl)
    ∙ ap (λ (rest : List (List ℕ)). [] ∷ rest) (all_told cells cs fs (omega (arith, size)) (λ i e. absent (suc i) e) holds)
all_told cells (Some c ∷ cs) (f ∷ fs) size absent holds =
    let here : Held = record { chain = c; bytes = f } in
    ap (λ (x : List ℕ). x ∷ fs) (sym (told cells c f (holds here (0, omega arith, refl))))
    ∙ ap (λ (rest : List (List ℕ)). bytes_in cells (Some c) ∷ rest)
    (all_told cells cs fs (omega (arith, size)) (λ i e. absent (suc i) e) (λ h there. holds h (Contains-later here (held_frames cs fs) h there)))

pub frames_told : (cells : Cells) (chains : List (Option Chain)) (frames : List (List ℕ)) → AreFrames cells chains frames → frames ≡ frames_in cells chains
frames_told cells chains frames are = all_told cells chains frames are.as_many are.absent are.stands.holds

-- ---- one frame among all

abbrev pub front_of : List (Option Chain) → List (List ℕ) → ℕ → List Held
front_of chains frames i = held_frames (take i chains) (take i frames)

abbrev pub back_of : List (Option Chain) → List (List ℕ) → ℕ → List Held
back_of chains frames i = held_frames (drop (suc i) chains) (drop (suc i) frames)

pub split_at : (chains : List (Option Chain)) (frames : List (List ℕ)) (i : ℕ) (c : Option Chain) (f : List ℕ) → i < length chains → length frames ≡ length chains
    → held_frames chains frames ≡ front_of chains frames i ++ (held_if (get_or chains i c) (get_or frames i f) ++ back_of chains frames i)
split_at [] frames i c f lt size = absurd (omega (arith, lt))
split_at (x ∷ cs) [] i c f lt size = absurd (omega (arith, size))
split_at (x ∷ cs) (y ∷ fs) zero c f lt size = refl
split_at (x ∷ cs) (y ∷ fs) (suc i) c f lt size =
    ap (λ (rest : List Held). held_if x y ++ rest) (split_at cs fs i c f (omega (arith, lt)) (omega (arith, size)))
    ∙ sym (append_assoc (held_if x y) (front_of cs fs i) (held_if (get_or cs i c) (get_or fs i f) ++ back_of cs fs i))

pub set_at : (chains : List (Option Chain)) (frames : List (List ℕ)) (i : ℕ) (c : Option Chain) (f : List ℕ) → i < length chains → length frames ≡ length chains
    → held_frames (set chains i c) (set frames i f) ≡ front_of chains frames i ++ (held_if c f ++ back_of chains frames i)
set_at [] frames i c f lt size = absurd (omega (arith, lt))
set_at (x ∷ cs) [] i c f lt size = absurd (omega (arith, size))
set_at (x ∷ cs) (y ∷ fs) zero c f lt size = refl
set_at (x ∷ cs) (y ∷ fs) (suc i) c f lt size =
    ap (λ (rest : List Held). held_if x y ++ rest) (set_at cs fs i c f (omega (arith, lt)) (omega (arith, size)))
    ∙ sym (append_assoc (held_if x y) (front_of cs fs i) (held_if c f ++ back_of cs fs i))

pub there : (chains : List (Option Chain)) (frames : List (List ℕ)) (i : ℕ) (c : Chain) → i < length chains → length frames ≡ length chains → get_or chains i None ≡ Some c
    → Contains (held_frames chains frames) (record { chain = c; bytes = get_or frames i [] })
there [] frames i c lt size is = absurd (omega (arith, lt))
there (x ∷ cs) [] i c lt size is = absurd (omega (arith, size))
there (x ∷ cs) (y ∷ fs) zero c lt size is = subst (λ (o : Option Chain). Contains (held_if o y ++ held_frames cs fs) (record { chain = c; bytes = y })) (sym is) (0, omega arith, refl)
there (None ∷ cs) (y ∷ fs) (suc i) c lt size is = there cs fs i c (omega (arith, lt)) (omega (arith, size)) is
there (Some x ∷ cs) (y ∷ fs) (suc i) c lt size is =
    Contains-later (record { chain = x; bytes = y }) (held_frames cs fs) (record { chain = c; bytes = get_or fs i [] }) (there cs fs i c (omega (arith, lt)) (omega (arith, size)) is)

-- ---- room for all

if_held : (c : Option Chain) (f : List ℕ) → length f ≤ 9216 → cells_held (held_if c f) ≤ 144
if_held None f short = omega arith
if_held (Some c) f short = let one = sum_by-cons (λ (h : Held). cells_for (length h.bytes)) (record { chain = c; bytes = f }) [] in omega (arith, one)

-- each frame takes at most 144 cells
pub few_cells : (chains : List (Option Chain)) (frames : List (List ℕ)) → length frames ≡ length chains → All (λ frame. length frame ≤ 9216) frames
    → cells_held (held_frames chains frames) ≤ 144 * length chains
few_cells [] frames size short = omega arith
few_cells (x ∷ cs) [] size short = omega arith
few_cells (x ∷ cs) (y ∷ fs) size short =
    let here = if_held x y (short 0 y (omega arith)) in
    let rest = few_cells cs fs (omega (arith, size)) (λ i d lt. short (suc i) d (omega (arith, lt))) in
    let parts = sum_by-append (λ (h : Held). cells_for (length h.bytes)) (held_if x y) (held_frames cs fs) in
    omega (arith, here, rest, parts)

-- without the frame of one packet slot there is room for another
pub room_left : (chains : List (Option Chain)) (frames : List (List ℕ)) (i : ℕ) → i < length chains → length frames ≡ length chains → All (λ frame. length frame ≤ 9216) frames
    → cells_held (front_of chains frames i ++ back_of chains frames i) + 144 ≤ frame_cells (length chains)
room_left chains frames i lt size short =
    let cells = λ (h : Held). cells_for (length h.bytes) in
    let all = few_cells chains frames size short in
    let whole = ap cells_held (split_at chains frames i None [] lt size) in
    let front = front_of chains frames i in
    let back = back_of chains frames i in
    let here = held_if (get_or chains i None) (get_or frames i []) in
    let a = sum_by-append cells front (here ++ back) in
    let b = sum_by-append cells here back in
    let d = sum_by-append cells front back in
    omega (arith, all, whole, a, b, d)

-- ---- a frame is put

pub short_set : (frames : List (List ℕ)) (i : ℕ) (f : List ℕ) → length f ≤ 9216 → All (λ frame. length frame ≤ 9216) frames → All (λ frame. length frame ≤ 9216) (set frames i f)
short_set frames i f short all k d lt =
    ⊎_elim
    (λ (same : k ≡ i).
    let size = length-set frames i f in
    subst (λ (n : ℕ). length (get_or (set frames i f) n d) ≤ 9216) (sym same)
    (subst (λ (x : List ℕ). length x ≤ 9216) (sym (get_or-set_same frames i f d (omega (arith, size, lt, same)))) short))
    (λ (apart : k ≢ i).
    let size = length-set frames i f in
    subst (λ (x : List ℕ). length x ≤ 9216) (sym (get_or-set_other frames i k f d apart)) (all k d (omega (arith, size, lt))))
    (cases_eq k i)

absent_set : (chains : List (Option Chain)) (frames : List (List ℕ)) (i : ℕ) (c : Chain) (f : List ℕ) → ((k : ℕ) → slice_get chains k ≡ Some None → get_or frames k [] ≡ [])
    → (k : ℕ) → slice_get (set chains i (Some c)) k ≡ Some None → get_or (set frames i f) k [] ≡ []
absent_set [] frames i c f absent k e = absurd cc
absent_set (x ∷ cs) [] zero c f absent k e = refl
absent_set (x ∷ cs) [] (suc i) c f absent k e = refl
absent_set (x ∷ cs) (y ∷ fs) zero c f absent zero e = absurd cc
absent_set (x ∷ cs) (y ∷ fs) zero c f absent (suc k) e = absent (suc k) e
absent_set (x ∷ cs) (y ∷ fs) (suc i) c f absent zero e = absent 0 e
absent_set (x ∷ cs) (y ∷ fs) (suc i) c f absent (suc k) e = absent_set cs fs i c f (λ j. absent (suc j)) k e

pub frame_put : (old new : Cells) (chains : List (Option Chain)) (i : ℕ) (c : Chain) (f : List ℕ) → i < length chains → length f ≤ 9216
    → AreFrames old chains (frames_in old chains)
    → Stands (frame_cells (length chains)) (front_of chains (frames_in old chains) i ++ record { chain = c; bytes = f } ∷ back_of chains (frames_in old chains) i) new
    → AreFrames new (set chains i (Some c)) (set (frames_in old chains) i f)
frame_put old new chains i c f lt short was stands = record {
  as_many = length-set (frames_in old chains) i f ∙ was.as_many ∙ sym (length-set chains i (Some c));
  absent = absent_set chains (frames_in old chains) i c f was.absent;
  stands =
      subst (λ (n : ℕ). Stands (frame_cells n) (held_frames (set chains i (Some c)) (set (frames_in old chains) i f)) new) (sym (length-set chains i (Some c)))
      (subst (λ (hs : List Held). Stands (frame_cells (length chains)) hs new) (sym (set_at chains (frames_in old chains) i (Some c) f lt was.as_many)) stands);
  short = short_set (frames_in old chains) i f short was.short;
}

-- ---- no frame

pub none_held : (n : ℕ) (frames : List (List ℕ)) → held_frames (replicate n None) frames ≡ []
none_held zero frames = refl
none_held (suc n) [] = refl
none_held (suc n) (f ∷ fs) = none_held n fs

pub no_bytes : (cells : Cells) (n : ℕ) → frames_in cells (replicate n None) ≡ replicate n []
no_bytes cells zero = refl
no_bytes cells (suc n) = ap (λ (rest : List (List ℕ)). [] ∷ rest) (no_bytes cells n)

none_at : (cells : Cells) (n i : ℕ) → get_or (frames_in cells (replicate n None)) i [] ≡ []
none_at cells zero i = refl
none_at cells (suc n) zero = refl
none_at cells (suc n) (suc i) = none_at cells n i

none_short : (cells : Cells) (n : ℕ) → All (λ frame. length frame ≤ 9216) (frames_in cells (replicate n None))
none_short cells zero i d lt = absurd (omega (arith, lt))
none_short cells (suc n) zero d lt = omega arith
none_short cells (suc n) (suc i) d lt = none_short cells n i d (omega (arith, lt))

pub no_frames : (cells : Cells) (n : ℕ) → Stands (frame_cells n) [] cells → AreFrames cells (replicate n None) (frames_in cells (replicate n None))
no_frames cells n stands = record {
  as_many = length-map (replicate n None) (bytes_in cells);
  absent = λ i e. none_at cells n i;
  stands =
      subst (λ (m : ℕ). Stands (frame_cells m) (held_frames (replicate n None) (frames_in cells (replicate n None))) cells) (sym (length-replicate {A = Option Chain} n None))
      (subst (λ (hs : List Held). Stands (frame_cells n) hs cells) (sym (none_held n (frames_in cells (replicate n None)))) stands);
  short = none_short cells n;
}

pub set_twice : {A : Type 0} (xs : List A) (i : ℕ) (x y : A) → set (set xs i x) i y ≡ set xs i y
set_twice [] zero x y = refl
set_twice [] (suc i) x y = refl
set_twice (z ∷ zs) zero x y = refl
set_twice {A} (z ∷ zs) (suc i) x y = ap (λ (rest : List A). z ∷ rest) (set_twice zs i x y)

pub no_sizes : (cells : Cells) (n : ℕ) → replicate n 0 ≡ map length (frames_in cells (replicate n None))
no_sizes cells zero = refl
no_sizes cells (suc n) = ap (λ (rest : List ℕ). 0 ∷ rest) (no_sizes cells n)
