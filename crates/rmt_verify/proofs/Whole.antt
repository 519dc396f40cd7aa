-- The whole map: what is read is spelled so, and what is spelled so is read.
use Rattle.std.proofs.Common.{◌≡◌, ℕ, List, [], ◌∷◌, ◌++◌, drop, Result, Ok, Err, refl, sym, ap, subst, ◌∙◌}
use Rattle.std.specs.Prelude.{codes, nat_eq, ◌≢◌, IfOk}
use Rattle.std.specs.List.{starts_with}
use Rattle.std.proofs.lemmas.List.{append-nil}
use Rattle.rmt_bits.proofs.ByteLaws.{AreBytes, AreBytes-drop}
use Rattle.rmt_verify.specs.Types.{MapFile}
use Rattle.rmt_verify.specs.declared.fault.MapFault.{MapFault}
use Rattle.rmt_verify.specs.declared.fault.MapFault.TheVariants.{NoMemory, Form}
use Rattle.rmt_verify.specs.Readers.{◌>>=◌, Gives}
use Rattle.rmt_verify.specs.Reading.{lists_at, all_of, map_of}
use Rattle.rmt_verify.specs.Spelling.{MapFits, spelled_lists}
use Rattle.rmt_verify.specs.Spells.{Spells}
use Rattle.rmt_bits.proofs.CodecLaws.{bind_ok, test_ok, ok_is}
use Rattle.rmt_verify.proofs.Lists.{lists_codec}
use Rattle.rmt_bits.proofs.ListLaws.{begins}

abbrev head : List ℕ
head = codes "RMTM\0\u{1}"

nothing_left : (x : MapFile × List ℕ) (m : MapFile) → all_of x ≡ Ok m → (x.0 ≡ m) × (x.1 ≡ [])
nothing_left (x, []) m e = (cc, refl)
nothing_left (x, byte ∷ rest) m e = absurd cc

map_takes : (bytes : List ℕ) (m : MapFile) → AreBytes bytes → map_of bytes ≡ Ok m → Spells bytes m
map_takes bytes m fits e =
    let p = test_ok (starts_with nat_eq bytes head) Form (lists_at (drop 6 bytes) >>= all_of) m e in
    let a = bind_ok (lists_at (drop 6 bytes)) all_of m p.1 in
    let q = nothing_left a.0 m a.2 in
    let t = lists_codec.takes (drop 6 bytes) a.0.0 a.0.1 (AreBytes-drop 6 bytes fits) a.1 in
    let body : drop 6 bytes ≡ spelled_lists m = t.parts ∙ ap (λ (rest : List ℕ). spelled_lists a.0.0 ++ rest) q.1 ∙ append-nil (spelled_lists a.0.0) ∙ ap spelled_lists q.0 in
    record { spelled = begins bytes head p.0 ∙ ap (λ (rest : List ℕ). head ++ rest) body; fits = subst MapFits q.0 t.fact }

map_again : (bytes : List ℕ) (m : MapFile) → Spells bytes m → map_of bytes ≡ Ok m
map_again bytes m s =
    let again : lists_at (spelled_lists m) ≡ Ok (m, []) = ap lists_at (sym (append-nil (spelled_lists m))) ∙ lists_codec.again m [] s.fits in
    rw (s.spelled) (rw again refl)

-- ---- the answers

pub is_found : (bytes : List ℕ) (r : Result MapFile MapFault) → AreBytes bytes → Gives (λ (m : MapFile). m) r (map_of bytes) → IfOk r (λ m. Spells bytes m)
is_found bytes (Ok m) fits given = map_takes bytes m fits given
is_found bytes (Err e) fits given = tt

abbrev answer : MapFile → Result MapFile MapFault
answer m = Ok m

pub is_only : (bytes : List ℕ) (r : Result MapFile MapFault) → Gives (λ (m : MapFile). m) r (map_of bytes) → (m : MapFile) → Spells bytes m → r ≢ Err NoMemory → r ≡ Ok m
is_only bytes (Ok n) given m s other = sym given ∙ map_again bytes m s
is_only bytes (Err NoMemory) given m s other = absurd (other refl)
is_only bytes (Err Form) given m s other = let none : Err Form ≡ answer m = sym given ∙ map_again bytes m s in absurd cc

-- bytes spell one map at most
pub spelled_once : (bytes : List ℕ) (m n : MapFile) → Spells bytes m → Spells bytes n → m ≡ n
spelled_once bytes m n s t = ok_is m n (sym (map_again bytes m s) ∙ map_again bytes n t)
