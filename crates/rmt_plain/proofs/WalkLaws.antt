-- The walk of a frame, a step at a time.
use Rattle.std.proofs.Common.{◌≡◌, ℕ, zero, suc, ◌+◌, ◌-◌, ◌<◌, ◌≤◌, true, ◌&&◌, ◌⊎◌, min, List, [], ◌∷◌, length, map, get_or, drop, Option, refl, ap, ◌∙◌, arith}
use Rattle.std.specs.Prelude.{slice_get, slice_index, slice_set, replicate}
use Rattle.std.proofs.lemmas.List.{drop_more, length-drop, map-set}
use Rattle.rmt_ast.specs.declared.program.Program.{Program}
use Rattle.rmt_ast.specs.declared.program.Header.{Header}
use Rattle.rmt_ast.specs.declared.program.Test.{Test}
use Rattle.rmt_ast.specs.State.{passes, start}
use Rattle.rmt_ast.specs.Walk as spec
use Rattle.rmt_plain.specs.declared.reached.Span.{Span}
use Rattle.rmt_plain.specs.Walking.{bytes_in}

abbrev pub no_test : Test
no_test = record { value = 0; mask = 0 }

-- one more test and field
pub all_pass-drop : (tests : List Test) (fields s : List ℕ) (i : ℕ) (d : Test) → i < length tests → i < length fields
    → spec.all_pass (drop i tests) (drop i fields) s ≡ (passes (get_or tests i d) (slice_index s (slice_index fields i)) && spec.all_pass (drop (i + 1) tests) (drop (i + 1) fields) s)
all_pass-drop tests fields s i d lt lf =
    ap (λ (ts : List Test). spec.all_pass ts (drop i fields) s) (drop_more tests i d lt)
    ∙ ap (λ (fs : List ℕ). spec.all_pass (get_or tests i d ∷ drop (i + 1) tests) fs s) (drop_more fields i 0 lf)

-- where tests or fields are at an end, all pass
all_pass-none : (tests : List Test) (fields s : List ℕ) → (length tests ≡ 0) ⊎ (length fields ≡ 0) → spec.all_pass tests fields s ≡ true
all_pass-none [] fields s h = refl
all_pass-none (t ∷ ts) [] s h = refl
all_pass-none (t ∷ ts) (f ∷ fs) s h = absurd (omega arith)

pub all_pass-ended : (tests : List Test) (fields s : List ℕ) (i : ℕ) → min (length tests) (length fields) ≤ i → spec.all_pass (drop i tests) (drop i fields) s ≡ true
all_pass-ended tests fields s i h = all_pass-none (drop i tests) (drop i fields) s (ended (length tests) (length fields) (length-drop i tests) (length-drop i fields) h)
  where
    ended : (a b : ℕ) → length (drop i tests) ≡ a - i → length (drop i fields) ≡ b - i → min a b ≤ i → (length (drop i tests) ≡ 0) ⊎ (length (drop i fields) ≡ 0)
    ended a b ea eb h = grind arith

-- the spans of no bytes
no_bytes : (frame : List ℕ) (n : ℕ) → map (bytes_in frame) (replicate n (record { from = 0; len = 0 })) ≡ replicate n []
no_bytes frame zero = refl
no_bytes frame (suc n) = ap (λ (ts : List (List ℕ)). [] ∷ ts) (no_bytes frame n)

-- equal parts make an equal place
same_reached : {s t : List ℕ} {u v : List (List ℕ)} {a b : ℕ} → s ≡ t → u ≡ v → a ≡ b
    → ◌≡◌ {A = spec.Reached} (record { state = s; tails = u; at = a }) (record { state = t; tails = v; at = b })
same_reached {t = t} {u = u} {v = v} {a = a} es eu ea =
    ap (λ (x : List ℕ). record { state = x; tails = u; at = a }) es ∙ ap (λ (x : List (List ℕ)). record { state = t; tails = x; at = a }) eu ∙ ap (λ (x : ℕ). record { state = t; tails = v; at = x }) ea

pub begin_is : (p : Program) (port : ℕ) (frame s : List ℕ) (tails : List Span) → s ≡ start p port → tails ≡ replicate (length p.headers) (record { from = 0; len = 0 })
    → ◌≡◌ {A = spec.Reached} (record { state = s; tails = map (bytes_in frame) tails; at = 0 }) (spec.begin p port)
begin_is p port frame s tails state none = same_reached state (ap (map (bytes_in frame)) none ∙ no_bytes frame (length p.headers)) refl

pub behind_tail_is : (frame s : List ℕ) (n bytes at : ℕ) (old new : List Span) → new ≡ slice_set old n (record { from = at; len = bytes })
    → ◌≡◌ {A = spec.Reached} (record { state = s; tails = map (bytes_in frame) new; at = at + bytes })
    (spec.behind_tail frame n bytes (record { state = s; tails = map (bytes_in frame) old; at = at }))
behind_tail_is frame s n bytes at old new put = same_reached refl (ap (map (bytes_in frame)) put ∙ map-set (bytes_in frame) old n (record { from = at; len = bytes })) refl

-- one header of a walk, with so many to come
pub walk_from_more : (p : Program) (frame : List ℕ) (k n : ℕ) (r : spec.Reached) (o : Option Header) → k < length p.headers → slice_get p.headers n ≡ o
    → spec.walk_from (length p.headers - k) p frame n r ≡ spec.step (spec.walk_from (length p.headers - (k + 1)) p frame) p frame n o r
walk_from_more p frame k n r o h found =
    let next : length p.headers - k ≡ suc (length p.headers - (k + 1)) = omega arith in
    ap (λ (m : ℕ). spec.walk_from m p frame n r) next ∙ ap (λ (h : Option Header). spec.step (spec.walk_from (length p.headers - (k + 1)) p frame) p frame n h r) found
