-- Which actions assign a field.
use Rattle.std.proofs.Common.{◌≡◌, ℕ, ◌+◌, ◌/◌, ◌%◌, ◌≤◌, length, Bool, true, false, ◌||◌, ◌&&◌, ltb, eqb, Option, Some, option_map, replicate, refl, sym, ap, ◌∙◌, inl, inr, arith}
use Rattle.std.specs.Prelude.{slice_get, unwrap_or}
use Rattle.std.specs.Int.{bit_at}
use Rattle.std.proofs.lemmas.Bool.{eq-eqb, ne_eqb, lt-ltb, le-ltb, cases_lt, cases_order}
use Rattle.std.proofs.lemmas.Option.{slice_get_past}
use Rattle.std.proofs.lemmas.Nat.Bits.{bit_at-zero}
use Rattle.rmt_bits.proofs.WordLaws.{get_or-zeros}
use Rattle.rmt_ast.specs.declared.program.Program.{Program}
use Rattle.rmt_ast.specs.declared.program.Action.{Action}
use Rattle.rmt_phv.specs.Packing.{writes}
use Rattle.rmt_phv.specs.Sets.{has}
use Rattle.rmt_phv.specs.Writers.{assigns}

-- the empty set
pub has-zeros : (k n : ℕ) → has (replicate k 0) n ≡ false
has-zeros k n = ap (λ b. eqb (bit_at b (n % 64)) 1) (get_or-zeros k (n / 64) 0) ∙ ap (λ b. eqb b 1) (bit_at-zero (n % 64))

abbrev told : ℕ → Option Action → Bool
told f o = unwrap_or (option_map (λ (a : Action). writes a f) o) false

pub assigns_at : (p : Program) (n f : ℕ) (a : Action) → slice_get p.actions n ≡ Some a → assigns p n f ≡ writes a f
assigns_at p n f a e = ap (told f) e

pub assigns_past : (p : Program) (n f : ℕ) → length p.actions ≤ n → assigns p n f ≡ false
assigns_past p n f le = ap (told f) (slice_get_past p.actions n le)

-- after one more action
pub one_more : (p : Program) (number n f : ℕ) (a : Action) → slice_get p.actions number ≡ Some a
    → ((eqb n number && writes a f) || (ltb n number && assigns p n f)) ≡ (ltb n (number + 1) && assigns p n f)
one_more p number n f a here =
    elim (cases_order n number) [
      | inl same ↦
          let is : assigns p n f ≡ writes a f = ap (λ k. assigns p k f) same ∙ assigns_at p number f a here in
          rw (eq-eqb n number same, le-ltb n number (omega arith), lt-ltb n (number + 1) (omega arith), is) (last (writes a f))
      | inr other ↦
          elim other [
            | inl below ↦ rw (ne_eqb n number (λ e. omega arith), lt-ltb n number below, lt-ltb n (number + 1) (omega arith)) refl
            | inr above ↦ rw (ne_eqb n number (λ e. omega arith), le-ltb n number (omega arith), le-ltb n (number + 1) (omega arith)) refl
          ]
    ]
  where
    last : (b : Bool) → (b || false) ≡ b
    last true = refl
    last false = refl

-- after all
pub all_of_them : (p : Program) (n f : ℕ) → (ltb n (length p.actions) && assigns p n f) ≡ assigns p n f
all_of_them p n f =
    elim (cases_lt n (length p.actions)) [
      | inl lt ↦ rw (lt-ltb n (length p.actions) lt) refl
      | inr le ↦ rw (le-ltb n (length p.actions) le) (sym (assigns_past p n f le))
    ]
