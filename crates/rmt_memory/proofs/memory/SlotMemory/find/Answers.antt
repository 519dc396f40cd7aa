use Rattle.std.proofs.Common.{◌≡◌, ℕ, suc, ◌+◌, List, ◌∷◌, ◌++◌, length, get_or, take, drop, Bool, true, false, Option, Some, None, sym, refl, ap, ◌∙◌, subst, arith}
use Rattle.std.specs.Prelude.{find, option_map}
use Rattle.std.specs.Int.{from_be_bytes, w32}
use Rattle.std.proofs.lemmas.Bool.{and_parts}
use Rattle.std.proofs.lemmas.List.{drop-drop}
use Rattle.std.proofs.lemmas.Nat.{from_be_bytes-to_be_bytes_4}
use Rattle.std.proofs.Math.Seq.{drop-append_seam, take-append_seam}
use Rattle.rmt_bits.specs.Bits.{bytes_of, number_of}
use Rattle.rmt_bits.proofs.ByteLaws.{length-bytes_of, number_of-bytes_of}
use Rattle.rmt_config.specs.LaneForm.{bits_of_lanes}
use Rattle.rmt_config.specs.BlockCounts.{divided_up}
use Rattle.rmt_config.specs.Cells.{Found, candidates, code_of}
use Rattle.rmt_config.specs.RunCells.{found_at, is_hit}
use Rattle.rmt_memory.specs.declared.looked.Looked.{Looked}
use Rattle.rmt_memory.specs.Looked.{Finds}
use Rattle.rmt_memory.specs.Laying.{number_bytes}
use Rattle.rmt_memory.specs.Searching.{run_of}
use Rattle.rmt_memory.specs.Sights.{seen_by, sight_of}
use Rattle.rmt_memory.proofs.FoundLaws.{IsPlace, place-found, place-hit, place-shown, own-head, shown-occupied, held-room}
use Rattle.rmt_memory.proofs.memory.SlotMemory.find.Goals as goal

finds-some : (counted : Bool) (o : Option Found) (f : Found) (looked : Looked) → o ≡ Some f → looked.hit ≡ true → looked.code ≡ f.code → (counted ≡ true → looked.number ≡ f.number)
    → number_of looked.held.items ≡ f.held → Finds counted o looked
finds-some counted o f looked e hit code number held = subst (λ p. Finds counted p looked) (sym e) (hit, code, number, held)

finds-none : (counted : Bool) (o : Option Found) (looked : Looked) → o ≡ None → looked.hit ≡ false → Finds counted o looked
finds-none counted o looked e hit = subst (λ p. Finds counted p looked) (sym e) hit

pub returns-in-Some-clause-found : goal.returns-in-Some-clause-found
returns-in-Some-clause-found c = λ cells k place slot held seed small.
    let m = c.args.self.now in
    let at = c.in-Some.at in
    let named = c.args.sight.named in
    let version = c.args.sight.version in
    let key = number_of c.args.key.now in
    let content = cells.content k place in
    let there = place-found c.args.sight.seed c.number_of_sight.result content (cells.number k place) slot m c.args.key.now c.number_of_sight.ensures.few (λ i. (c.type_inv.key i).fits) held c.requires.key small (Some at) c.in-Some.ensures.place in
    let seen = subst (λ v. IsPlace c.args.sight.seed v content slot key (Some at)) c.number_of_sight.ensures.value there in
    let hit = place-hit c.args.sight.seed named version content slot key (Some at) seen in
    let found = ap (option_map (found_at cells k place)) (ap (λ s. find (λ n. is_hit named version key (content n)) (candidates s (bits_of_lanes slot.keys) slot.memory key)) seed ∙ hit) in
    let passes = place-shown c.args.sight.seed (sight_of named version) content slot key at seen in
    let occupied = shown-occupied (sight_of named version) (content at).head (and_parts (seen_by (sight_of named version) (content at).head) _ passes).0 in
    let cell = held.each at seen.within in
    let entry = cell.entry occupied in
    let x = content at in
    let head : get_or (run_of m.cells at) 0 0 ≡ x.head = own-head slot m x (cells.number k place at) at cell occupied in
    let tail = number_bytes m.number_size (cells.number k place at) in
    let rest : drop (1 + m.stored) (run_of m.cells at) ≡ bytes_of m.held_size x.held ++ tail =
    ap (λ (bs : List ℕ). drop (1 + m.stored) bs) entry.bytes
    ∙ ap (λ n. drop n (x.head ∷ (bytes_of m.stored x.key ++ (bytes_of m.held_size x.held ++ tail)))) (let e : 1 + m.stored ≡ suc m.stored = omega arith in e)
    ∙ ap (λ n. drop n (bytes_of m.stored x.key ++ (bytes_of m.held_size x.held ++ tail))) (sym (length-bytes_of m.stored x.key))
    ∙ drop-append_seam (bytes_of m.stored x.key) (bytes_of m.held_size x.held ++ tail) in
    let size : m.held_size ≡ length (bytes_of m.held_size x.held) = sym (length-bytes_of m.held_size x.held) in
    let read-data : take m.held_size (drop (1 + m.stored) (run_of m.cells at)) ≡ bytes_of m.held_size x.held =
    ap (λ (bs : List ℕ). take m.held_size bs) rest ∙ ap (λ n. take n (bytes_of m.held_size x.held ++ tail)) size ∙ take-append_seam (bytes_of m.held_size x.held) tail in
    let behind : drop (1 + m.stored + m.held_size) (run_of m.cells at) ≡ tail =
    sym (drop-drop m.held_size (1 + m.stored) (run_of m.cells at)) ∙ ap (λ (bs : List ℕ). drop m.held_size bs) rest
    ∙ ap (λ n. drop n (bytes_of m.held_size x.held ++ tail)) size ∙ drop-append_seam (bytes_of m.held_size x.held) tail in
    let room : m.held_size ≡ divided_up slot.held 8 = held.fits.held in
    let own : number_of c.read.new.into.held.items ≡ x.held =
    ap (λ (bs : List ℕ). number_of bs) (c.read.ensures.held ∙ read-data) ∙ ap (λ n. number_of (bytes_of n x.held)) room
    ∙ number_of-bytes_of (divided_up slot.held 8) x.held (held-room slot.held x.held entry.held) in
    finds-some slot.counted _ (found_at cells k place at) c.read.new.into found c.read.ensures.hit (c.read.ensures.code ∙ ap code_of head)
    (λ counted.
    let four : m.number_size ≡ 4 = held.fits.numbers counted (let lt = seen.within in omega (arith, lt)) in
    c.read.ensures.number four ∙ ap (λ (bs : List ℕ). from_be_bytes w32 bs) (behind ∙ ap (λ n. number_bytes n (cells.number k place at)) four)
    ∙ from_be_bytes-to_be_bytes_4 (cells.number k place at) entry.number)
    own

pub returns-in-None-clause-found : goal.returns-in-None-clause-found
returns-in-None-clause-found c = λ cells k place slot held seed small.
    let key = number_of c.args.key.now in
    let content = cells.content k place in
    let named = c.args.sight.named in
    let version = c.args.sight.version in
    let there = place-found c.args.sight.seed c.number_of_sight.result content (cells.number k place) slot c.args.self.now c.args.key.now c.number_of_sight.ensures.few (λ i. (c.type_inv.key i).fits) held c.requires.key small None c.in-None.ensures.place in
    let seen = subst (λ v. IsPlace c.args.sight.seed v content slot key None) c.number_of_sight.ensures.value there in
    let hit = place-hit c.args.sight.seed named version content slot key None seen in
    finds-none slot.counted _ _ (ap (option_map (found_at cells k place)) (ap (λ s. find (λ n. is_hit named version key (content n)) (candidates s (bits_of_lanes slot.keys) slot.memory key)) seed ∙ hit)) refl
