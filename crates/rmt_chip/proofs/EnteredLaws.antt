-- What entered in the cycles of a run, one cycle later.
use Rattle.std.proofs.Common.{◌≡◌, ℕ, ◌+◌, ◌-◌, ◌<◌, ◌≤◌, Bool, true, false, cond, ltb, List, [], ◌∷◌, ◌++◌, length, take, Option, Some, None, refl, sym, ap, ◌∙◌, subst, ⊎_elim, append_assoc, arith}
use Rattle.std.specs.Prelude.{fold, slice_get, option_map, option_and_then, unwrap_or}
use Rattle.std.proofs.lemmas.Bool.{cases_lt, lt-ltb, le-ltb}
use Rattle.std.proofs.lemmas.List.{length_push}
use Rattle.std.proofs.lemmas.Option.{slice_get-get_or}
use Rattle.std.proofs.Math.Seq.{take-append_seam}
use Rattle.rmt_bits.proofs.ListLaws.{slice_get-front, slice_get-item, slice_get-pushed}
use Rattle.rmt_bits.specs.Packet.{Packet}
use Rattle.rmt_chip.specs.Types.{Config, Stage}
use Rattle.rmt_config.specs.RunCells.{look_in, own_cells}
use Rattle.rmt_config.specs.RunInputs.{Input, after_input, cells_at, packet_of, start_of as start_in}
use Rattle.rmt_chip.specs.Held.{Entered}
use Rattle.rmt_chip.specs.Inputs.{entered_at, entered_in, entering, packets_of}
use Rattle.rmt_chip.specs.PacketsInFlight.{cells_after}
use Rattle.rmt_chip.specs.Ring.{LooksNow}
use Rattle.rmt_chip.specs.Runnable.{start_of}
use Rattle.rmt_chip.proofs.EnterLaws.{IsOf}
use Rattle.rmt_chip.proofs.LifeLaws.{start_of-get}
use mir.Val.{bool_byte}

-- a test as a number
pub byte_of : (b : Bool) → bool_byte b ≡ cond b 1 0
byte_of true = refl
byte_of false = refl

-- the age at which a stage begins is that of the run's definition
start-same : (c : Config) (k : ℕ) → k < length c.stages → start_in c k ≡ start_of c.stages k
start-same c k inside =
    let it = slice_get-item c.stages k inside in
    ap (λ (o : Option Stage). unwrap_or (option_map (λ (stage : Stage). stage.start) o) 0) (slice_get-get_or c.stages k it.0 inside)
    ∙ start_of-get c.stages k it.0 inside

module _ (c : Config) (inputs later : List Input) (input : Input) where
  abbrev all : List Input
  all = inputs ++ input ∷ []

  abbrev run : List Input
  run = all ++ later

  abbrev n : ℕ
  n = length inputs

  pub run-is : run ≡ inputs ++ input ∷ later
  run-is = append_assoc inputs (input ∷ []) later

  front-is : take n run ≡ inputs
  front-is = ap (take n) run-is ∙ take-append_seam inputs (input ∷ later)

  size : length all ≡ n + 1
  size = length_push inputs input

  pub older : (t : ℕ) → entered_at c run (length all) (t + 1) ≡ entered_at c run n t
  older t =
      let back : n + 1 - 1 - (t + 1) ≡ n - 1 - t = omega arith in
      ap (λ m. entered_at c run m (t + 1)) size
      ∙ ap (λ m. cond (ltb (t + 1) (n + 1)) (entered_in c run m) None) back
      ∙ ⊎_elim
      (λ (h : t < n).
      ap (λ (b : Bool). cond b (entered_in c run (n - 1 - t)) None) (lt-ltb (t + 1) (n + 1) (omega arith))
      ∙ sym (ap (λ (b : Bool). cond b (entered_in c run (n - 1 - t)) None) (lt-ltb t n h)))
      (λ (h : n ≤ t).
      ap (λ (b : Bool). cond b (entered_in c run (n - 1 - t)) None) (le-ltb (t + 1) (n + 1) (omega arith))
      ∙ sym (ap (λ (b : Bool). cond b (entered_in c run (n - 1 - t)) None) (le-ltb t n h)))
      (cases_lt t n)

  newest-is : entered_at c run (length all) 0 ≡ option_map (entering c run n) (packet_of input)
  newest-is =
      let back : n + 1 - 1 - 0 ≡ n = omega arith in
      ap (λ m. entered_at c run m 0) size
      ∙ ap (λ (b : Bool). cond b (entered_in c run (n + 1 - 1 - 0)) None) (lt-ltb 0 (n + 1) (omega arith))
      ∙ ap (λ m. entered_in c run m) back
      ∙ ap (λ o. option_map (entering c run n) (option_and_then packet_of o)) (slice_get-front all later n (omega (arith, size)) ∙ slice_get-pushed inputs input)

  pub newest : (packet : Option Packet) (number version : ℕ) → packet_of input ≡ packet → number ≡ packets_of inputs → version ≡ (cells_after c inputs).version
      → IsOf packet number version (entered_at c run (length all) 0)
  newest packet number version is number_is version_is =
      subst (IsOf packet number version) (sym (newest-is ∙ ap (option_map (entering c run n)) is)) (by packet)
    where
      by : (o : Option Packet) → IsOf o number version (option_map (entering c run n) o)
      by None = tt
      by (Some p) = (refl, ap packets_of front-is ∙ sym number_is, ap (λ xs. (fold (after_input c) (own_cells c) xs).version) front-is ∙ sym version_is)

  pub looks-now : LooksNow c (cells_after c inputs) (entered_at c run (length all))
  looks-now k e inside is =
      let s = start_of c.stages k in
      ⊎_elim
      (λ (h : s < n + 1).
      let there : option_map (entering c run (n + 1 - 1 - s)) (option_and_then packet_of (slice_get run (n + 1 - 1 - s))) ≡ Some e =
      sym (ap (λ (b : Bool). cond b (entered_in c run (n + 1 - 1 - s)) None) (lt-ltb s (n + 1) h)) ∙ sym (ap (λ m. entered_at c run m s) size) ∙ is in
      by (n + 1 - 1 - s) (let start = start-same c k inside in omega arith) (option_and_then packet_of (slice_get run (n + 1 - 1 - s))) there)
      (λ (h : n + 1 ≤ s).
      let none : None ≡ Some e = sym (ap (λ (b : Bool). cond b (entered_in c run (n + 1 - 1 - s)) None) (le-ltb s (n + 1) h)) ∙ sym (ap (λ m. entered_at c run m s) size) ∙ is in
      absurd cc)
      (cases_lt s (n + 1))
    where
      by : (cycle : ℕ) → cycle + start_in c k ≡ n → (o : Option Packet) → option_map (entering c run cycle) o ≡ Some e → e.look k ≡ look_in c e.version (cells_after c inputs) k
      by cycle here None there = absurd cc
      by cycle here (Some p) there =
          let same : entering c run cycle p ≡ e = cc in
          subst (λ (x : Entered). x.look k ≡ look_in c x.version (cells_after c inputs) k) same
          (ap (λ m. look_in c (cells_at c run cycle).version (cells_at c run m) k) here
          ∙ ap (λ xs. look_in c (cells_at c run cycle).version (fold (after_input c) (own_cells c) xs) k) front-is)
