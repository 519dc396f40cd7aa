-- Runs of bytes by listed cell.
use Rattle.std.proofs.Common.{◌≡◌, ℕ, zero, suc, ◌+◌, ◌*◌, ◌<◌, List, [], ◌∷◌, ◌++◌, length, get_or, take, drop, sym, refl, ap, ◌∙◌, arith}
use Rattle.std.specs.Prelude.{All}
use Rattle.std.proofs.lemmas.List.Elements.{All-head, All-tail}
use Rattle.std.proofs.lemmas.List.{length-append, append-nil, take_more}
use Rattle.std.proofs.lemmas.List.Concat.{flat_map-append}
use Rattle.std.proofs.Math.Seq.{take-append_seam, drop-append-add}
use Rattle.rmt_bits.specs.Bits.{bytes_of}
use Rattle.rmt_bits.proofs.ByteLaws.{length-bytes_of}
use Rattle.rmt_memory.specs.Types.{CellNumber}
use Rattle.rmt_memory.specs.Laying.{runs_of}

module _ (size : ℕ) (value : ℕ → ℕ) where
  pub length-runs : (numbers : List CellNumber) → length (runs_of size value numbers) ≡ length numbers * size
  length-runs [] = omega arith
  length-runs (c ∷ cs) =
      let one = length-bytes_of size (value c.cell) in
      let rest = length-runs cs in
      let next : suc (length cs) * size ≡ size + length cs * size = omega arith in
      length-append (bytes_of size (value c.cell)) (runs_of size value cs) ∙ omega (arith, one, rest, next)

  -- the run of a listed cell
  pub run-is : (numbers : List CellNumber) (at : ℕ) (d : CellNumber) → at < length numbers
      → take size (drop (at * size) (runs_of size value numbers)) ≡ bytes_of size (value (get_or numbers at d).cell)
  run-is [] at d lt = absurd (omega (arith, lt))
  run-is (c ∷ cs) zero d lt =
      let none : 0 * size ≡ 0 = omega arith in
      let front = bytes_of size (value c.cell) in
      ap (λ n. take size (drop n (front ++ runs_of size value cs))) none
      ∙ ap (λ n. take n (front ++ runs_of size value cs)) (sym (length-bytes_of size (value c.cell))) ∙ take-append_seam front (runs_of size value cs)
  run-is (c ∷ cs) (suc at) d lt =
      let front = bytes_of size (value c.cell) in
      let next : suc at * size ≡ length front + at * size = (let one = length-bytes_of size (value c.cell) in let e : suc at * size ≡ size + at * size = omega arith in omega (arith, one, e)) in
      ap (λ n. take size (drop n (front ++ runs_of size value cs))) next
      ∙ ap (take size) (drop-append-add front (runs_of size value cs) (at * size))
      ∙ run-is cs at d (omega (arith, lt))

  -- the runs of one more
  pub runs-next : (numbers : List CellNumber) (at : ℕ) (d : CellNumber) → at < length numbers
      → runs_of size value (take (at + 1) numbers) ≡ runs_of size value (take at numbers) ++ bytes_of size (value (get_or numbers at d).cell)
  runs-next numbers at d lt =
      ap (λ (cs : List CellNumber). runs_of size value cs) (take_more numbers at d lt)
      ∙ flat_map-append (λ (c : CellNumber). bytes_of size (value c.cell)) (take at numbers) (get_or numbers at d ∷ [])
      ∙ ap (λ (bs : List ℕ). runs_of size value (take at numbers) ++ bs) (append-nil (bytes_of size (value (get_or numbers at d).cell)))

-- runs of no bytes
pub runs-none : (value : ℕ → ℕ) (numbers : List CellNumber) → runs_of 0 value numbers ≡ []
runs-none value [] = refl
runs-none value (c ∷ cs) = runs-none value cs

-- of values that are the same at each listed cell
pub runs-same : (size : ℕ) (f g : ℕ → ℕ) (numbers : List CellNumber) → All (λ (c : CellNumber). f c.cell ≡ g c.cell) numbers → runs_of size f numbers ≡ runs_of size g numbers
runs-same size f g [] h = refl
runs-same size f g (c ∷ cs) h =
    ap (λ n. bytes_of size n ++ runs_of size f cs) (All-head (λ (c : CellNumber). f c.cell ≡ g c.cell) c cs h)
    ∙ ap (λ (bs : List ℕ). bytes_of size (g c.cell) ++ bs) (runs-same size f g cs (All-tail (λ (c : CellNumber). f c.cell ≡ g c.cell) c cs h))
